-- A contract permits one outcome: any two that it permits of one call are equal.
-- For each public function `f` of a crate `c` a theorem says so of the contract as written, in two lines:
--     f-once : Once contracts.f.ended c.f.Reads.Pre c.f.Reads.Learnt
--     f-once κs a h o u p q i = (same p q i, o.1)
-- Here stand the statement (`Once`, and `OnceSeen` for an answer that is a part of a lent slice) and the one step of its proofs (`same`).
-- Assumes nothing.
use mathlib.Core.Path.{◌≡◌, sym, ◌∙◌}
use Prim.Native.Nat.{ℕ}
use contract.Lifetimes.{Lfts}
use denote.Ref.{Bor}
use denote.Triple.Entry.{Args, Res}
use denote.Triple.Clauses.{Ended, Lasts, AtExit, at_exit}

module _ (T : Ended) where
  -- what a function requires of its arguments, as Rattle reads it off the clauses
  abbrev pub Asks : Type 1
  Asks = (κs : Lfts T.signature.lifetimes) → Args T.signature κs → Type 0

  -- what its callers learn of the answer and of the lent buffers at exit
  abbrev pub Says : Type 1
  Says = (κs : Lfts T.signature.lifetimes) → Args T.signature κs → Res T.signature κs → AtExit T κs → Type 0

  -- an answer, with the last value of each lent buffer that the function can write
  abbrev pub Outcome : (κs : Lfts T.signature.lifetimes) → Args T.signature κs → Type 0
  Outcome κs a = Res T.signature κs × Lasts T κs a

  -- any two outcomes that the contract permits are equal
  abbrev pub Once : Asks → Says → Type 0
  Once pre says =
      (κs : Lfts T.signature.lifetimes) (a : Args T.signature κs) →
      pre κs a →
      (o u : Outcome κs a) →
      says κs a o.0 (at_exit T κs a o.1) →
      says κs a u.0 (at_exit T κs a u.1) →
      o ≡ u

  -- the same of what `see` shows of the answer
  abbrev pub OnceSeen : {X : Type 0} → ((κs : Lfts T.signature.lifetimes) → Res T.signature κs → X) → Asks → Says → Type 0
  OnceSeen see pre says =
      (κs : Lfts T.signature.lifetimes) (a : Args T.signature κs) →
      pre κs a →
      (o u : Outcome κs a) →
      says κs a o.0 (at_exit T κs a o.1) →
      says κs a u.0 (at_exit T κs a u.1) →
      (see κs o.0 ≡ see κs u.0) × (o.1 ≡ u.1)

-- what is seen of a part of a slice: its bytes and where it lies, and not the ghost name under which the logic tracks it
abbrev pub part : {X : Type 0} → Bor X → X × (ℕ × ℕ)
part z = (z.now, z.ref_ptr)

-- two things that are equal to a third
pub same : {X : Type 0} {x y z : X} → x ≡ z → y ≡ z → x ≡ y
same p q = p ∙ sym q
