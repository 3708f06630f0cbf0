-- What `judge` refuses is 11 or 10 (`judge-own`), and carries no place (`judge-place`); it is 11 exactly for a buffer shorter than its header or longer
-- than 4,096 bytes (`judge-eleven`, `eleven-judge`).
-- Assumes nothing.
use mathlib.Core.Path.{refl, subst, ◌≡◌}
use mathlib.Core.Bool.{Bool, cond, false, true}
use mathlib.Core.List.{List, []}
use mathlib.Core.Logic.{inl, inr, ◌⊎◌}
use Prim.Native.Nat.{suc, zero, ℕ, ◌*◌, ◌+◌, ◌<◌, ◌≤◌}
use native.Mathlib.Omega.{arith}
use borrow.Author.Tests.{leb-false, lt-leb}
use lib.Dec.{eqb, leb}
use lib.ListN.{drop, get_or, length, take}
use Rattle.refusal.specs.declared.Refusal.{Refusal}
use Rattle.refusal.specs.declared.Refusal.TheVariants.{BufferSize, NotWellFormed}
use Rattle.refusal.specs.Numbers.{number_of, place_of}
use Rattle.contents.specs.Contents.{Contents, Layout, all_zero, before, frames_from, given, holds, judge, length_at, longest, present_from, refused, start}
use Rattle.contents.specs.Contents.{word_at}

-- what holds of the refusal of 10, and of that of 11 where the size is wrong, holds of whatever is refused
module _ (P : Refusal → Type 0) (form : P NotWellFormed) where
  abbrev pub Says : Contents → Type 0
  Says (refused x) = P x
  Says (holds fs) = Unit

  given-told : (t : Bool) (x : Refusal) (c : Contents) → (t ≡ false → P x) → Says c → Says (given t x c)
  given-told true x c h n = n
  given-told false x c h n = h refl

  given-says : (t : Bool) (x : Refusal) (c : Contents) → P x → Says c → Says (given t x c)
  given-says t x c h n = given-told t x c (λ z. h) n

  frames-say : (m c : ℕ) (b : List ℕ) (p e : ℕ) → Says (frames_from m c b p e)
  unfolding frames_from
  frames-say m zero b p e = given-says (eqb p e) NotWellFormed (holds []) form tt
  frames-say m (suc c) b p e =
      by (eqb (length_at m b p e) 0) (frames_from m c b (p + length_at m b p e) e) (frames-say m c b (p + length_at m b p e) e)
    where
      by : (t : Bool) (r : Contents) → Says r → Says (cond t (refused NotWellFormed) (before (take (length_at m b p e) (drop p b)) r))
      by true r n = form
      by false (refused x) n = n
      by false (holds fs) n = tt

  pub judge-says : (l : Layout) (b : List ℕ) → (leb (start l.slots) (length b) ≡ false → P BufferSize) → (leb (length b) longest ≡ false → P BufferSize)
      → Says (judge l b)
  unfolding judge
  judge-says l b short long =
      given-told (leb (start l.slots) (length b)) BufferSize _ short
      (given-told (leb (length b) longest) BufferSize _ long
      (given-says (eqb (get_or b 0 0) l.version) NotWellFormed _ form
      (given-says (leb (start l.slots) (word_at b 2)) NotWellFormed _ form
      (given-says (leb (word_at b 2) (length b)) NotWellFormed _ form
      (given-says (eqb (present_from l.slots b 0) (get_or b 1 0)) NotWellFormed _ form
      (given-says (all_zero (drop (word_at b 2) b)) NotWellFormed _ form
      (frames-say l.slots (get_or b 1 0) b (start l.slots) (word_at b 2))))))))

-- the sizes that no buffer may have: less than the bytes before the frames, or more than 4,096
abbrev pub WrongSize : Layout → List ℕ → Type 0
WrongSize l b = (length b < 4 + 2 * l.slots) ⊎ (4096 < length b)

module _ (l : Layout) (b : List ℕ) where
  pub eleven-judge : WrongSize l b → judge l b ≡ refused BufferSize
  unfolding judge
  eleven-judge (inl a) = rw (lt-leb _ _ a)
  eleven-judge (inr a) = by (leb (start l.slots) (length b)) _
    where
      past : longest < length b
      past = omega arith

      by : (t : Bool) (c : Contents) → given t BufferSize (given (leb (length b) longest) BufferSize c) ≡ refused BufferSize
      by true c = rw (lt-leb _ _ past)
      by false c = refl

  pub judge-eleven : judge l b ≡ refused BufferSize → WrongSize l b
  judge-eleven e = subst (Says Sized form) e (judge-says Sized form l b (λ q z. inl (leb-false _ _ q)) (λ q z. inr (past (leb-false _ _ q)))) refl
    where
      past : longest < length b → 4096 < length b
      past a = omega arith

      Sized : Refusal → Type 0
      Sized x = number_of x ≡ 11 → WrongSize l b

      form : Sized NotWellFormed
      form z = absurd (omega arith)

module _ (l : Layout) (b : List ℕ) (x : Refusal) (e : judge l b ≡ refused x) where
  pub judge-place : place_of x ≡ 0
  judge-place = subst (Says (λ y. place_of y ≡ 0) refl) e (judge-says (λ y. place_of y ≡ 0) refl l b (λ z. refl) (λ z. refl))

  pub judge-own : (10 ≤ number_of x) × (number_of x ≤ 11)
  judge-own =
      let size : (10 ≤ 11) × (11 ≤ 11) = (omega arith, omega arith) in
      let form : (10 ≤ 10) × (10 ≤ 11) = (omega arith, omega arith) in
      subst (Says (λ y. (10 ≤ number_of y) × (number_of y ≤ 11)) form) e
      (judge-says (λ y. (10 ≤ number_of y) × (number_of y ≤ 11)) form l b (λ z. size) (λ z. size))
