-- The record at a place: how many bytes it takes, whether it can still become one, and its turn.
-- Assumes nothing.
use mathlib.Core.Path.{◌≡◌, refl, sym, ap, ap₂, ◌∙◌}
use mathlib.Core.Bool.{Bool, true, false, cond}
use mathlib.Core.List.{List}
use Prim.Native.Nat.{ℕ, ◌+◌, ◌-◌, ◌≤◌, ◌<◌}
use native.Mathlib.Omega.{arith}
use lib.Dec.{ltb}
use lib.ListN.{length, take, drop, get_or, length-drop, drop_of_length-le}
use lib.Seq.{drop-drop, get_or-drop}
use borrow.Author.Tests.{eq-eqb, ne_eqb}
use Rattle.std.specs.Prelude.{None, Some}
use Rattle.day.specs.declared.Day.{Day}
use Rattle.day.specs.Days.{on_received}
use Rattle.day.specs.Steps.{Record, sent_bytes, sent_day, step_bytes, step_day}
use Rattle.playback.specs.Trace.{fits, record_at, size_at}
use Rattle.playback.specs.Parts.{hopeless}
use Rattle.playback.specs.Code.{size_in}
use Rattle.playback.proofs.Found.{Fits, fits-true, true-fits}

not-fits : (s : List ℕ) → (Fits s → ⊥) → None ≡ size_in s
unfolding size_in
not-fits s n = go (fits s) refl
  where
    go : (x : Bool) → fits s ≡ x → None ≡ cond x (Some (size_at s)) None
    go true e = absurd (n (fits-true s e))
    go false e = refl

module _ (t : List ℕ) (i : ℕ) where
  zeroth : get_or (drop i t) 0 0 ≡ get_or t i 0
  zeroth = let e : i + 0 ≡ i = omega arith in get_or-drop i t 0 0 ∙ ap (λ (j : ℕ). get_or t j 0) e

  first : get_or (drop i t) 1 0 ≡ get_or t (i + 1) 0
  first = get_or-drop i t 1 0

  -- ---- its size

  pub size-short : length t - i < 2 → None ≡ size_in (drop i t)
  size-short h = not-fits (drop i t) (λ f. omega (arith, h, f.whole, length-drop i t))

  pub size-unknown : 1 < get_or t i 0 → None ≡ size_in (drop i t)
  size-unknown h = not-fits (drop i t) (λ f. omega (arith, h, f.known, zeroth))

  pub size-cut : length t - i < get_or t (i + 1) 0 + 2 → None ≡ size_in (drop i t)
  size-cut h = not-fits (drop i t) (λ f. omega (arith, h, f.whole, first, length-drop i t))

  pub size-whole : get_or t i 0 ≤ 1 → get_or t (i + 1) 0 + 2 ≤ length t - i → Some (get_or t (i + 1) 0 + 2) ≡ size_in (drop i t)
  unfolding size_in
  size-whole k h =
      let f : fits (drop i t) ≡ true =
      true-fits (drop i t) (record { known = omega (arith, k, zeroth); whole = omega (arith, h, first, length-drop i t) })
      in
      let e : get_or t (i + 1) 0 + 2 ≡ size_at (drop i t) = omega (arith, first) in
      rw f (ap (λ (n : ℕ). Some n) e)

  -- a size is that of a record that fits
  pub size_fits : (n : ℕ) → Some n ≡ size_in (drop i t) → (fits (drop i t) ≡ true) × (n ≡ size_at (drop i t)) × (i + n ≤ length t)
  unfolding size_in
  size_fits n e = go (fits (drop i t)) refl e
    where
      go : (x : Bool) → fits (drop i t) ≡ x → Some n ≡ cond x (Some (size_at (drop i t))) None
          → (fits (drop i t) ≡ true) × (n ≡ size_at (drop i t)) × (i + n ≤ length t)
      go true f k = let l : n ≡ size_at (drop i t) = cc in (f, l, omega (arith, l, (fits-true (drop i t) f).whole, length-drop i t))
      go false f k = absurd (cc)

  pub size_none : None ≡ size_in (drop i t) → fits (drop i t) ≡ false
  unfolding size_in
  size_none e = go (fits (drop i t)) refl e
    where
      go : (x : Bool) → fits (drop i t) ≡ x → None ≡ cond x (Some (size_at (drop i t))) None → fits (drop i t) ≡ false
      go true f k = absurd (cc)
      go false f k = f

  -- ---- whether it can still become one

  pub hopeless-direction : (more : Bool) → more ≡ true → ltb 1 (get_or t i 0) ≡ hopeless more (drop i t)
  hopeless-direction more m = rw (m, zeroth) refl

  pub hopeless-end : (more : Bool) → more ≡ true → length t ≤ i → false ≡ hopeless more (drop i t)
  hopeless-end more m h = rw (m, drop_of_length-le t {i = i} h) refl

  pub hopeless-last : (more : Bool) → more ≡ false → true ≡ hopeless more (drop i t)
  hopeless-last more m = rw m refl

  -- ---- its turn

  module _ (end : ℕ) (e : end ≡ i + size_at (drop i t)) (d r : Day) (b a : List ℕ) where
    abbrev Turns : Record → Type 0
    Turns x = (r ≡ step_day x b d) × (a ≡ step_bytes x b)

    body : take (end - (i + 2)) (drop (i + 2) t) ≡ take (get_or (drop i t) 1 0) (drop 2 (drop i t))
    body = let k : end - (i + 2) ≡ get_or (drop i t) 1 0 = omega (arith, e) in ap₂ take k (sym (drop-drop 2 i t))

    pub turn-sent : get_or t i 0 ≡ 0
        → (r ≡ sent_day (take (end - (i + 2)) (drop (i + 2) t)) b d) × (a ≡ sent_bytes (take (end - (i + 2)) (drop (i + 2) t)) b)
        → Turns (record_at (drop i t))
    unfolding record_at
    turn-sent z s = rw (eq-eqb (get_or (drop i t) 0 0) 0 (zeroth ∙ z), sym body) s

    pub turn-received : (get_or t i 0 ≡ 0 → ⊥) → r ≡ on_received (take (end - (i + 2)) (drop (i + 2) t)) d → a ≡ b → Turns (record_at (drop i t))
    unfolding record_at
    turn-received z s w = rw (ne_eqb (get_or (drop i t) 0 0) 0 (λ q. z (sym zeroth ∙ q)), sym body) (s, w)
