-- What the specifications of the front's functions come to. A refill keeps just the bytes between its two places (`span-middle`); more
-- may follow exactly if something came (`came-more`, `none_over`), and where a read failed there is what was kept (`failed-over`); standard input is
-- descriptor 0 and is called `-` (`standard-called`); where there is no input, nothing is found and nothing altered (`nowhere-left`, `nowhere-unread`), and
-- of an input that was not found nothing is read (`unfound-unread`).
-- Assumes nothing.
use mathlib.Core.Path.{◌≡◌, ap, refl, sym, ◌∙◌}
use mathlib.Core.Bool.{false, true}
use mathlib.Core.List.{List, [], ◌∷◌, ◌++◌}
use Prim.Native.Nat.{ℕ, ◌+◌, ◌-◌, ◌<◌}
use native.Mathlib.Omega.{arith}
use borrow.Author.Tests.{le-ltb, lt-ltb}
use lib.IntN.{pos}
use lib.ListN.{drop, length, length-append, set, take}
use lib.Seq.{drop-append_seam, take-append_seam}
use Rattle.std.proofs.Common.{Option, None, Some, Ok, Err}
use Rattle.std.specs.declared.io.Error.{Error}
use Rattle.arguments.specs.declared.Place.TheVariants.{StandardInput}
use Rattle.front.specs.declared.Content.{Content}
use Rattle.front.specs.declared.Fetched.{Fetched}
use Rattle.front.specs.declared.Input.{Input}
use Rattle.front.specs.Buffers.{Drawn, Fetches, Opens, Reads, called, span_of, standard_input}
use Rattle.front.proofs.Readers.{span-all, standard-some}

-- ---- a refill

pub span-middle : (a b c : List ℕ) → span_of (a ++ (b ++ c)) (length a) (length a + length b) ≡ b
span-middle a b c =
    let long : length (a ++ (b ++ c)) ≡ length a + length (b ++ c) = length-append a (b ++ c) in
    let rest : length (b ++ c) ≡ length b + length c = length-append b c in
    let n : length a + length b - length a ≡ length b = omega arith in
    span-all (a ++ (b ++ c)) (length a) (length a + length b) (omega arith) (omega arith)
    ∙ ap (λ (k : ℕ). take k (drop (length a) (a ++ (b ++ c)))) n
    ∙ ap (take (length b)) (drop-append_seam a (b ++ c))
    ∙ take-append_seam b c

module _ (ks s t : List ℕ) (f : Fetched) (h : Fetches ks s t (Ok f)) where
  pub came-more : length ks < f.have → f.more ≡ true
  came-more a = h.more ∙ lt-ltb (length ks) f.have a

  pub none_over : f.have ≡ length ks → f.more ≡ false
  none_over e = h.more ∙ le-ltb (length ks) f.have (omega arith)

pub failed-over : (ks s t : List ℕ) (e : Error) → Fetches ks s t (Err e) → (take (length ks) t ≡ ks) × (length t ≡ length s)
failed-over ks s t e h = (h.front, h.long)

-- ---- an input

module _ (s t : List ℕ) where
  pub standard-called : (r : Option Input) → 0 < length s → Opens (Some StandardInput) s t r
      → (i : Input) × (r ≡ Some i) × (i.fd ≡ pos 0) × (take i.name t ≡ 45 ∷ [])
  unfolding Opens called
  standard-called r a h =
      let named : take 1 t ≡ take 1 (set s 0 45) = ap (λ (l : List ℕ). take 1 l) h.1 in
      (standard_input 1, h.0 ∙ sym (standard-some s a), refl, named ∙ first s a)
    where
      first : (l : List ℕ) → 0 < length l → take 1 (set l 0 45) ≡ 45 ∷ []
      first [] z = absurd (omega arith)
      first (x ∷ xs) z = refl

  pub nowhere-left : (r : Option Input) → Opens None s t r → (r ≡ None) × (t ≡ s)
  unfolding Opens
  nowhere-left r h = h

pub nowhere-unread : (s t b d : List ℕ) (r : Option Content) → Reads None s t b d r → (r ≡ None) × (t ≡ s) × (d ≡ b)
unfolding Reads
nowhere-unread s t b d r h = h

pub unfound-unread : (i : Option Input) (b d : List ℕ) (r : Option Content) → Drawn i b d r → i ≡ None → (r ≡ None) × (d ≡ b)
unfound-unread i b d r h e = h.unfound e
