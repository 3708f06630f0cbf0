-- Texts written one behind the other: `puts_then` joins two of them, and every function that writes cites it. Then the digits of a number, two
-- at a time, and what numbers after blanks come to.
-- Assumes nothing.
use mathlib.Core.Path.{◌≡◌, refl, sym, ap, ◌∙◌}
use mathlib.Core.List.{List, [], ◌∷◌, ◌++◌, append_assoc, append-nil}
use Prim.Native.Nat.{ℕ, suc, ◌+◌, ◌/◌, ◌≤◌, ◌<◌, ◌^◌}
use native.Mathlib.Omega.{arith}
use native.Mathlib.Numerals.{add-one}
use lib.ListN.{length, take, drop, get_or, length-append}
use lib.Seq.{sets, length-sets, take-suc, split_at}
use Rattle.refusal.specs.declared.Refusal.{Refusal}
use Rattle.refusal.specs.Numbers.{number_of, place_of}
use Rattle.decoder.specs.Decoding.{reading, refuses}
use Rattle.reading.specs.Decimal.{digit, decimal}
use Rattle.reading.proofs.Decimals.{decimal-one, decimal-more}
use Rattle.texts.specs.Whole.{told, laid}
use Rattle.texts.proofs.Writing.{sets-append, start-whole}
use Rattle.dump_text.specs.Text.{blanked, head_of, line_of}
use Rattle.dump_text.specs.Parts.{Puts}

-- ---- one behind the other

module _ {a b o p q : List ℕ} {at r s : ℕ} where
  pub puts_then : Puts a at o r p → Puts b r p s q → Puts (a ++ b) at o s q
  puts_then u v =
      record {
        behind = simp length-append (omega arith);
        stands =
            v.stands
            ∙ ap (λ (l : List ℕ). sets l r b) u.stands
            ∙ ap (λ (k : ℕ). sets (sets o at a) k b) u.behind
            ∙ sets-append o at a b;
      }

module _ {a o p : List ℕ} {at r : ℕ} where
  pub puts-length : Puts a at o r p → length p ≡ length o
  puts-length u = ap length u.stands ∙ length-sets o at a

  pub puts-as : (b : List ℕ) → b ≡ a → Puts a at o r p → Puts b at o r p
  puts-as b e u = rw e u

-- nothing written yet
pub puts_none : (o : List ℕ) (at : ℕ) → Puts [] at o at o
puts_none o at = record { behind = omega arith; stands = refl }

-- a whole text at the start of an output, with room for the longest
module _ (a o : List ℕ) {p : List ℕ} {r : ℕ} (room : ℕ) (fits : length a ≤ room) (h : room ≤ length o) where
  pub puts_whole : Puts a 0 o r p → (r ≡ told room a o) × ((p ≡ laid room a o) × (r ≤ length o))
  puts_whole u = start-whole a o room fits h (omega (arith, u.behind)) u.stands

-- ---- the digits of a number, two at a time

module _ (n : ℕ) where
  pub decimal-two : 10 ≤ n → n < 100 → decimal n ≡ (digit (n / 10) ∷ []) ++ (digit n ∷ [])
  decimal-two h k = decimal-more n h (omega arith) ∙ ap (λ (l : List ℕ). l ++ (digit n ∷ [])) (decimal-one (n / 10) (omega arith))

  pub decimal-hundreds : 100 ≤ n → n < 10 ^ 20 → decimal n ≡ (decimal (n / 100) ++ (digit (n / 10) ∷ [])) ++ (digit n ∷ [])
  decimal-hundreds h k =
      let e : n / 10 / 10 ≡ n / 100 = omega arith in
      decimal-more n (omega arith) k
      ∙ ap (λ (l : List ℕ). l ++ (digit n ∷ [])) (decimal-more (n / 10) (omega arith) (omega arith))
      ∙ ap (λ (m : ℕ). (decimal m ++ (digit (n / 10) ∷ [])) ++ (digit n ∷ [])) e

  pub room-one : n < 10 → length (decimal n) ≡ 1
  room-one h = ap length (decimal-one n h)

  pub room-two : 10 ≤ n → n < 100 → length (decimal n) ≡ 2
  room-two h k = ap length (decimal-two h k)

  pub room-hundreds : 100 ≤ n → n < 10 ^ 20 → length (decimal n) ≡ length (decimal (n / 100)) + 2
  room-hundreds h k =
      ap length (decimal-hundreds h k) ∙ simp length-append (omega arith)

-- ---- numbers after blanks

pub blanked-append : (a b : List ℕ) → blanked (a ++ b) ≡ blanked a ++ blanked b
unfolding blanked
blanked-append [] b = refl
blanked-append (n ∷ a) b =
    ap (λ (l : List ℕ). 32 ∷ decimal n ++ l) (blanked-append a b) ∙ simp append_assoc

pub blanked-one : (n : ℕ) → blanked (n ∷ []) ≡ (32 ∷ []) ++ decimal n
unfolding blanked
blanked-one n = simp append-nil

-- the next argument behind the first j
pub blanked-next : (args : List ℕ) (j : ℕ) → j < length args → blanked (take (j + 1) args) ≡ blanked (take j args) ++ blanked (get_or args j 0 ∷ [])
blanked-next args j h = ap blanked (ap (λ (k : ℕ). take k args) (add-one j) ∙ take-suc args j 0 h) ∙ blanked-append (take j args) (get_or args j 0 ∷ [])

-- which has its room
pub blanked-room : (args : List ℕ) (j : ℕ) → j < length args → length (blanked (take j args)) + length (blanked (get_or args j 0 ∷ [])) ≤ length (blanked args)
blanked-room args j h =
    let x : List ℕ = blanked (take j args) in
    let y : List ℕ = blanked (get_or args j 0 ∷ []) in
    let z : List ℕ = blanked (drop (suc j) args) in
    let e : blanked args ≡ x ++ (y ++ z) =
    ap blanked (split_at args j 0 h) ∙ blanked-append (take j args) (get_or args j 0 ∷ drop (suc j) args)
    ∙ ap (λ (l : List ℕ). x ++ l) (blanked-append (get_or args j 0 ∷ []) (drop (suc j) args))
    in
    omega (arith, simp length-append at (ap length e))

module _ (index a b c : ℕ) where
  pub head-parts : head_of index a b c ≡ ((decimal index ++ blanked (a ∷ [])) ++ blanked (b ∷ [])) ++ blanked (c ∷ [])
  head-parts =
      simp append_assoc
      (ap (λ (l : List ℕ). decimal index ++ l)
      (blanked-append (a ∷ []) (b ∷ c ∷ []) ∙ ap (λ (l : List ℕ). blanked (a ∷ []) ++ l) (blanked-append (b ∷ []) (c ∷ []))))

  pub head-length : length (head_of index a b c) ≡ length (decimal index) + length (blanked (a ∷ [])) + length (blanked (b ∷ [])) + length (blanked (c ∷ []))
  head-length = ap length head-parts ∙ simp length-append

-- ---- lines

pub line-kind : (index kind : ℕ) (args : List ℕ) → line_of index (reading kind args) ≡ (head_of index kind 0 0 ++ blanked args) ++ (10 ∷ [])
unfolding line_of
line-kind index kind args =
    ap (λ (l : List ℕ). l ++ (10 ∷ []))
    (ap (λ (l : List ℕ). decimal index ++ l) (blanked-append (kind ∷ 0 ∷ 0 ∷ []) args)
    ∙ sym (append_assoc (decimal index) (blanked (kind ∷ 0 ∷ 0 ∷ [])) (blanked args)))

pub kind-length : (index kind : ℕ) (args : List ℕ) → length (line_of index (reading kind args)) ≡ length (head_of index kind 0 0) + length (blanked args) + 1
kind-length index kind args = ap length (line-kind index kind args) ∙ simp length-append

module _ (index : ℕ) (why : Refusal) (n p : ℕ) (e : n ≡ number_of why) (f : p ≡ place_of why) where
  pub line-refusal : line_of index (refuses why) ≡ head_of index 0 n p ++ (10 ∷ [])
  unfolding line_of
  line-refusal = rw (e, f) refl

  pub refusal-length : length (line_of index (refuses why)) ≡ length (head_of index 0 n p) + 1
  refusal-length = ap length line-refusal ∙ simp length-append
