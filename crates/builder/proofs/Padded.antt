-- What is put into 12 zeros is the frame, with zeros behind it. Assumes nothing.
use mathlib.Core.Path.{◌≡◌, refl, sym, ap, ap₂, ◌∙◌, subst}
use mathlib.Core.List.{List, [], ◌∷◌, ◌++◌}
use Prim.Native.Nat.{ℕ, zero, suc, ◌+◌, ◌-◌, ◌≤◌}
use native.Mathlib.Nat.{le_of_suc-le-suc, not-suc-le-zero}
use native.Mathlib.Omega.{arith}
use lib.Bits.{bit_or}
use lib.Dec.{T}
use lib.ListN.{replicate}
use Rattle.frame.specs.declared.Field.{Field}
use Rattle.frame.specs.Field.{sound, Sound}
use Rattle.frame.specs.Layout.{tab, tab_from, byte_of, puts, sound_all}
use Rattle.frame.proofs.OneField.{part-high}
use Rattle.frame.proofs.Fields.{and_in, both_left, both_right, sound-is, sound-holds}
use Rattle.frame.proofs.Puts.{puts-zero}

sound_more : (m n : ℕ) (fs : List Field) → m ≤ n → T (sound_all m fs) → T (sound_all n fs)
unfolding sound_all
sound_more m n [] h t = tt
sound_more m n (f ∷ fs) h t =
    let s : Sound m f = sound-is m f (both_left (sound m f) (sound_all m fs) t) in
    let w : Sound n f = record { wide = s.wide; ends = omega (arith, s.ends); within = s.within } in
    and_in (sound n f) (sound_all n fs) (subst T (sym (sound-holds n f w)) tt) (sound_more m n fs h (both_right (sound m f) (sound_all m fs) t))

none_after : (n : ℕ) (fs : List Field) (vs : List ℕ) (i : ℕ) → T (sound_all n fs) → n ≤ i → byte_of fs vs i ≡ 0
unfolding sound_all byte_of
none_after n [] vs i t h = refl
none_after n (f ∷ fs) [] i t h = refl
none_after n (f ∷ fs) (v ∷ vs) i t h =
    let s : Sound n f = sound-is n f (both_left (sound n f) (sound_all n fs) t) in
    ap₂ bit_or (part-high f v i (omega (arith, s.ends))) (none_after n fs vs i (both_right (sound n f) (sound_all n fs) t) h)

zeros-from : (i n : ℕ) (b : ℕ → ℕ) → ((k : ℕ) → i ≤ k → b k ≡ 0) → tab_from i n b ≡ replicate n 0
unfolding tab_from
zeros-from i zero b h = refl
zeros-from i (suc n) b h = ap₂ (λ (x : ℕ) (l : List ℕ). x ∷ l) (h i (omega arith)) (zeros-from (suc i) n b (λ k l. h k (omega arith)))

padded-from : (i m n : ℕ) (b : ℕ → ℕ) → m ≤ n → ((k : ℕ) → i + m ≤ k → b k ≡ 0) → tab_from i n b ≡ tab_from i m b ++ replicate (n - m) 0
unfolding tab_from
padded-from i zero n b l h = let z : n - 0 ≡ n = omega arith in zeros-from i n b (λ k j. h k (omega arith)) ∙ ap (λ (x : ℕ). replicate x 0) (sym z)
padded-from i (suc m) zero b l h = absurd (not-suc-le-zero l)
padded-from i (suc m) (suc n) b l h =
    let z : n - m ≡ suc n - suc m = omega arith in
    ap (λ (t : List ℕ). b i ∷ t) (padded-from (suc i) m n b (le_of_suc-le-suc l) (λ k j. h k (omega arith))
    ∙ ap (λ (x : ℕ). tab_from (suc i) m b ++ replicate x 0) z)

-- what is put into 12 zeros is the frame, with zeros behind it
pub padded-frame : (n : ℕ) (fs : List Field) (vs : List ℕ) → n ≤ 12 → T (sound_all n fs) → puts (replicate 12 0) fs vs ≡ tab n (byte_of fs vs) ++ replicate
    (12 - n) 0
unfolding tab
padded-frame n fs vs h t =
    puts-zero 12 (omega arith) fs vs (sound_more n 12 fs h t) ∙ padded-from 0 n 12 (byte_of fs vs) h (λ k l. none_after n fs vs k t (omega arith))
