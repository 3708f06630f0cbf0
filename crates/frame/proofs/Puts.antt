-- Fields put one after another give the frame whose byte i is all that they put there, ORed. By induction on the list. Assumes nothing.
use mathlib.Core.Path.{◌≡◌, refl, sym, ap, ◌∙◌}
use mathlib.Core.Bool.{Bool, cond}
use mathlib.Core.List.{List, [], ◌∷◌}
use Prim.Native.Nat.{ℕ, zero, suc, ◌≤◌}
use native.Mathlib.Omega.{arith}
use lib.Bits.{bit_or, or_comm, or_zero_r}
use lib.Dec.{T}
use lib.ListN.{length, replicate}
use Rattle.frame.specs.declared.Field.{Field}
use Rattle.frame.specs.Field.{part, sound, Sound}
use Rattle.frame.specs.Layout.{bytes, tab, tab_from, byte_of, put, puts, sound_all}
use Rattle.frame.proofs.Bits.{or_assoc}
use Rattle.frame.proofs.Fields.{both_left, both_right, sound-is, sound-holds, length-tab, get_d-tab, tab-ext}

zeros-from : (k n : ℕ) → replicate n 0 ≡ tab_from k n (λ i. 0)
unfolding tab_from
zeros-from k zero = refl
zeros-from k (suc n) = ap (λ (l : List ℕ). 0 ∷ l) (zeros-from (suc k) n)

pub zeros : (n : ℕ) → replicate n 0 ≡ tab n (λ i. 0)
unfolding tab
zeros n = zeros-from 0 n

module _ (n : ℕ) (short : n ≤ 16) where
  widened : (f : Field) → Sound n f → Sound 16 f
  widened f s = record { wide = s.wide; ends = omega (arith, s.ends); within = s.within }

  put-tab : (b : ℕ → ℕ) (f : Field) (v : ℕ) → Sound n f → put (tab n b) f v ≡ tab n (λ i. bit_or (b i) (part f v i))
  unfolding put
  put-tab b f v s =
      ap (λ (t : Bool). cond t (tab (length (tab n b)) (λ i. bit_or (bytes (tab n b) i) (part f v i))) (tab n b)) (sound-holds 16 f (widened f s))
      ∙ ap (λ (m : ℕ). tab m (λ i. bit_or (bytes (tab n b) i) (part f v i))) (length-tab n b)
      ∙ tab-ext n (λ i. bit_or (bytes (tab n b) i) (part f v i)) (λ i. bit_or (b i) (part f v i))
      (λ i l. ap (λ (x : ℕ). bit_or x (part f v i)) (get_d-tab n b i l))

  same : (b : ℕ → ℕ) → tab n b ≡ tab n (λ i. bit_or (b i) 0)
  same b = tab-ext n b (λ i. bit_or (b i) 0) (λ i l. sym (or_zero_r (b i)))

  puts-tab : (b : ℕ → ℕ) (fs : List Field) (vs : List ℕ) → T (sound_all n fs) → puts (tab n b) fs vs ≡ tab n (λ i. bit_or (b i) (byte_of fs vs i))
  unfolding byte_of sound_all
  puts-tab b [] vs t = same b
  puts-tab b (f ∷ fs) [] t = same b
  puts-tab b (f ∷ fs) (v ∷ vs) t =
      ap (λ (l : List ℕ). puts l fs vs) (put-tab b f v (sound-is n f (both_left (sound n f) (sound_all n fs) t)))
      ∙ puts-tab (λ i. bit_or (b i) (part f v i)) fs vs (both_right (sound n f) (sound_all n fs) t)
      ∙ tab-ext n (λ i. bit_or (bit_or (b i) (part f v i)) (byte_of fs vs i)) (λ i. bit_or (b i) (bit_or (part f v i) (byte_of fs vs i)))
      (λ i l. or_assoc (b i) (part f v i) (byte_of fs vs i))

  -- into zeros: the frame that the values give
  pub puts-zero : (fs : List Field) (vs : List ℕ) → T (sound_all n fs) → puts (replicate n 0) fs vs ≡ tab n (byte_of fs vs)
  puts-zero fs vs t =
      ap (λ (l : List ℕ). puts l fs vs) (zeros n) ∙ puts-tab (λ i. 0) fs vs t
      ∙ tab-ext n (λ i. bit_or 0 (byte_of fs vs i)) (byte_of fs vs) (λ i l. or_comm 0 (byte_of fs vs i) ∙ or_zero_r (byte_of fs vs i))
