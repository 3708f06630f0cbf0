-- The lists of codes as words of bits: one test, computed over every list and byte, says that a bit is set where the list has the code.
-- Assumes nothing.
use mathlib.Core.Path.{◌≡◌, refl, ap, ◌∙◌}
use mathlib.Core.Bool.{Bool, true, false, cond, ◌&&◌}
use mathlib.Core.List.{List, [], ◌∷◌}
use Prim.Native.Nat.{ℕ, zero, suc, ◌/◌, ◌%◌, ◌^◌, ◌≤◌, ◌<◌}
use native.Mathlib.Nat.{le_of_suc-le-suc, not-suc-le-zero}
use native.Mathlib.Omega.{arith}
use borrow.Author.Tests.{ne_eqb}
use lib.Dec.{T, eqb, ltb, ltb→lt}
use lib.ListN.{length, get_or}
use Rattle.frame.proofs.Fields.{both_left, both_right}
use Rattle.table.proofs.Below.{below, below_at}
use Rattle.table.specs.Codes.{lists, is_in, rx_bw_codes}

-- the source's words
unfoldable pub words : List (List ℕ)
words =
    -- from commands.json: words
    (0x1FE0 ∷ 0 ∷ 0 ∷ 0 ∷ [])
    ∷ (0x101010101 ∷ 0 ∷ 0 ∷ 0 ∷ [])
    ∷ (0x1E1F ∷ 0 ∷ 0 ∷ 0 ∷ [])
    ∷ (0x10003 ∷ 0 ∷ 0 ∷ 0 ∷ [])
    ∷ (0xFFFFBE0001 ∷ 0xFFFFFE0001 ∷ 0xFFFF010101 ∷ 0x800000FFDFBF0101 ∷ [])
    -- end: words
    ∷ []

abbrev pub bit_in : ℕ → ℕ → Bool
bit_in l v = eqb (get_or (get_or words l []) (v / 64) 0 / 2 ^ (v % 64) % 2) 1

same : Bool → Bool → Bool
same true b = b
same false b = cond b false true

is_same : (a b : Bool) → T (same a b) → a ≡ b
unfolding same
is_same true true t = refl
is_same true false t = absurd t
is_same false true t = absurd t
is_same false false t = refl

agrees : ℕ → ℕ → Bool
agrees l v = same (bit_in l v) (is_in v (get_or lists l []))

everywhere : T (below (λ l. below (agrees l) 256) (length lists))
unfolding below agrees same words is_in lists rx_bw_codes
everywhere = tt

pub listed-is : (l v : ℕ) → l < length lists → v < 256 → bit_in l v ≡ is_in v (get_or lists l [])
unfolding agrees
listed-is l v h k =
    is_same (bit_in l v) (is_in v (get_or lists l [])) (below_at (agrees l) 256 v (below_at (λ (i : ℕ). below (agrees i) 256) (length lists) l everywhere h) k)

-- no list has a code above 255
small : List ℕ → Bool
small [] = true
small (x ∷ xs) = ltb x 256 && small xs

smalls : T (below (λ l. small (get_or lists l [])) (length lists))
unfolding below small lists rx_bw_codes
smalls = tt

not_in : (v : ℕ) (xs : List ℕ) → T (small xs) → 256 ≤ v → is_in v xs ≡ false
unfolding small is_in
not_in v [] t h = refl
not_in v (x ∷ xs) t h =
    let l : x < 256 = ltb→lt x 256 (both_left (ltb x 256) (small xs) t) in
    let d : v ≡ x → ⊥ = (λ e. omega arith) in
    ap (λ (b : Bool). cond b true (is_in v xs)) (ne_eqb v x d) ∙ not_in v xs (both_right (ltb x 256) (small xs) t) h

pub listed-big : (l v : ℕ) → l < length lists → 256 ≤ v → is_in v (get_or lists l []) ≡ false
listed-big l v h k = not_in v (get_or lists l []) (below_at (λ (i : ℕ). small (get_or lists i [])) (length lists) l smalls h) k

none-past : {A : Type 0} (xs : List A) (d : A) (k : ℕ) → length xs ≤ k → get_or xs k d ≡ d
none-past [] d k h = refl
none-past (x ∷ xs) d zero h = absurd (not-suc-le-zero h)
none-past (x ∷ xs) d (suc k) h = none-past xs d k (le_of_suc-le-suc h)

pub listed-past : (l v : ℕ) → length lists ≤ l → is_in v (get_or lists l []) ≡ false
unfolding is_in
listed-past l v h = ap (is_in v) (none-past lists [] l h)
