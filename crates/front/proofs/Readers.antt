-- What is opened and what is read, for the functions' proofs: standard input (`standard-opening`), a read behind kept bytes (`read-fetches`,
-- `failed-fetches`), and which bytes a refill keeps (`span-all`, `span-none`; `moved-fetches`).
-- Assumes nothing.
use mathlib.Core.Path.{◌≡◌, ap, refl, subst, sym, ◌∙◌}
use mathlib.Core.Bool.{Bool, false, true}
use mathlib.Core.List.{List}
use mathlib.Core.Logic.{◌⊎◌, inl, inr}
use Prim.Native.Nat.{ℕ, ◌+◌, ◌-◌, ◌<◌, ◌≤◌}
use native.Mathlib.Omega.{arith}
use borrow.Rule.Slice.PartMut.{put_mid, take_put}
use borrow.Author.Tests.{le-leb, le-ltb, lt-leb, lt-ltb, ltb-false, ltb-true}
use lib.Dec.{ltb}
use lib.ListN.{drop, length, length-drop, length-set, take}
use lib.Seq.{length-paste, length-take-le, paste, set_out, take-paste}
use Rattle.std.proofs.Common.{Option, None, Some, Result, Ok, Err}
use Rattle.std.specs.declared.io.Error.{Error}
use Rattle.spans.specs.Spans.{slid}
use Rattle.spans.proofs.Spans.{slid-fits}
use Rattle.arguments.specs.declared.Place.{Place}
use Rattle.arguments.specs.declared.Place.TheVariants.{Argument, StandardInput}
use Rattle.front.specs.declared.Content.{Content}
use Rattle.front.specs.declared.Fetched.{Fetched}
use Rattle.front.specs.declared.Input.{Input}
use Rattle.front.specs.Buffers.{Drawn, Fetches, Opening, Opens, Reads, called, span_of, standard_in, standard_input}

-- ---- opening

module _ (s t : List ℕ) (r : Option Input) where
  pub standard-opening : r ≡ standard_in s → t ≡ called s → Opening s t r
  unfolding called standard_in
  standard-opening e w = go (ltb 0 (length s)) refl
    where
      l : length t ≡ length s
      l = ap length w ∙ length-set s 0 45

      go : (u : Bool) → ltb 0 (length s) ≡ u → Opening s t r
      go true h = subst (λ (x : Option Input). Opening s t x) (sym (rw h at e)) (record { named = omega (arith, ltb-true 0 (length s) h, l); long = l })
      go false h = subst (λ (x : Option Input). Opening s t x) (sym (rw h at e)) (record { named = tt; long = l })

module _ (s : List ℕ) where
  pub standard-none : length s ≡ 0 → None ≡ standard_in s
  unfolding standard_in
  standard-none h = sym (rw (le-ltb 0 (length s) (omega arith)))

  pub standard-some : 0 < length s → Some (standard_input 1) ≡ standard_in s
  unfolding standard_in
  standard-some h = sym (rw (lt-ltb 0 (length s) h))

  pub called-none : length s ≡ 0 → s ≡ called s
  unfolding called
  called-none h = sym (set_out s 0 45 (omega arith))

-- what is opened, by the place
module _ (p : Option Place) (s t : List ℕ) (r : Option Input) where
  pub opens-argument : (k : ℕ) → p ≡ Some (Argument k) → Opens p s t r
  unfolding Opens
  opens-argument k e = subst (λ (q : Option Place). Opens q s t r) (sym e) tt

  pub opens-standard : p ≡ Some StandardInput → (r ≡ standard_in s) × (t ≡ called s) → Opens p s t r
  unfolding Opens
  opens-standard e h = subst (λ (q : Option Place). Opens q s t r) (sym e) h

  pub opens-none : p ≡ None → r ≡ None → t ≡ s → Opens p s t r
  unfolding Opens
  opens-none e h u = subst (λ (q : Option Place). Opens q s t r) (sym e) (h, u)

-- ---- reading

-- bytes read into the part of a buffer behind the first `have`
abbrev behind : List ℕ → List ℕ → ℕ → List ℕ
behind s read have = put_mid have (length s - have) s read

module _ (s read : List ℕ) (have : ℕ) (room : have ≤ length s) (long : length (behind s read have) ≡ length s) where
  abbrev keeps : ℕ
  keeps = length (take have s)

  keeps-is : keeps ≡ have
  keeps-is = length-take-le have s room

  stand : take keeps (behind s read have) ≡ take have s
  stand = ap (λ (k : ℕ). take k (behind s read have)) keeps-is ∙ take_put have (length s - have) s read room

  pub failed-fetches : (e : Error) → Fetches (take have s) s (behind s read have) (Err e)
  failed-fetches e = record { front = stand; least = tt; most = tt; long = long; more = tt }

  pub read-fetches : (n : ℕ) → have + n ≤ length s → Fetches (take have s) s (behind s read have) (Ok (record { have = have + n; more = ltb 0 n }))
  read-fetches n h = record {
    front = stand;
    least = omega (arith, keeps-is);
    most = omega arith;
    long = long;
    more = go (ltb 0 n) refl;
  }
    where
      go : (u : Bool) → ltb 0 n ≡ u → u ≡ ltb keeps (have + n)
      go true e = sym (lt-ltb keeps (have + n) (omega (arith, keeps-is, ltb-true 0 n e)))
      go false e = sym (le-ltb keeps (have + n) (omega (arith, keeps-is, ltb-false 0 n e)))

-- ---- a refill

module _ (s : List ℕ) (from have : ℕ) where
  pub span-all : from ≤ have → have ≤ length s → span_of s from have ≡ take (have - from) (drop from s)
  unfolding span_of
  span-all f h = rw (le-leb from have f, le-leb have (length s) h)

  -- there are no such places
  pub span-none : (have < from) ⊎ ((from ≤ have) × (length s < have)) → take 0 s ≡ span_of s from have
  unfolding span_of
  span-none (inl f) = sym (rw (lt-leb from have f))
  span-none (inr h) = sym (rw (le-leb from have h.0, lt-leb have (length s) h.1))

  -- moved to the front, they are what was kept, and the buffer is as long as it was
  module _ (f : from ≤ have) (h : have ≤ length s) where
    abbrev count : ℕ
    count = have - from

    room : count ≤ length (drop (0 + from) s)
    room = omega (arith, length-drop (0 + from) s)

    slid-is : slid s 0 from count ≡ paste s 0 (drop (0 + from) s) count
    slid-is = slid-fits s 0 from count (omega arith)

    pub slid-long : length (slid s 0 from count) ≡ length s
    slid-long = ap length slid-is ∙ length-paste s 0 (drop (0 + from) s) count (omega arith) room

    pub slid-span : take count (slid s 0 from count) ≡ span_of s from have
    slid-span =
        let n : count ≡ 0 + count = omega arith in
        let at : 0 + from ≡ from = omega arith in
        ap (take count) slid-is
        ∙ ap (λ (k : ℕ). take k (paste s 0 (drop (0 + from) s) count)) n
        ∙ take-paste s 0 (drop (0 + from) s) count (omega arith) room
        ∙ ap (λ (k : ℕ). take count (drop k s)) at
        ∙ sym (span-all f h)

-- of what the buffer was before, a read says the same of the same bytes
pub moved-fetches : (ks us s u t : List ℕ) (r : Result Fetched Error) → us ≡ ks → length u ≡ length s → Fetches us u t r → Fetches ks s t r
moved-fetches ks us s u t r e l x = subst (λ (k : List ℕ). Fetches k s t r) e
    (record { front = x.front; least = x.least; most = x.most; long = x.long ∙ l; more = x.more })

-- ---- an input read whole

-- where none was opened
none-drawn : (b : List ℕ) → Drawn None b b None
none-drawn b = record { named = tt; most = tt; whole = refl; unfound = λ e. (refl, refl) }

module _ (s t b d : List ℕ) (r : Option Content) where
  -- what was opened at a place, and then read
  pub reads-drawn : (p : Option Place) (i : Option Input) → Opens p s t i → Drawn i b d r → Reads p s t b d r
  unfolding Opens Reads
  reads-drawn (Some (Argument k)) i h w = tt
  reads-drawn (Some StandardInput) i h w = (subst (λ (x : Option Input). Drawn x b d r) h.0 w, h.1)
  reads-drawn None i h w = let none = w.unfound h.0 in (none.0, h.1, none.1)

-- of none
pub reads-none : (s t b : List ℕ) (p : Option Place) → Opens p s t None → Reads p s t b b None
reads-none s t b p h = reads-drawn s t b b None p None h (none-drawn b)
