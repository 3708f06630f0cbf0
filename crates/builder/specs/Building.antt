-- What the builders by number answer: the frame of a kind for its arguments, or the refusal. Assumes nothing.
use Rattle.std.specs.Prelude.{ℕ, suc, ◌-◌, Bool, cond, List, [], ◌∷◌, ◌++◌, replicate, length, Option, Some, None, Result, Ok, Err}
use Rattle.table.specs.Table.{is_kind, row_of, numbers_of, plain_row}
use Rattle.table.specs.Narrowed.{frame_of}
use Rattle.refusal.specs.declared.Refusal.{Refusal}
use Rattle.refusal.specs.declared.Refusal.TheVariants.{ArgumentOutside, NotAKind}
use Rattle.codes.specs.Allowed.{allows, accepts}
use Rattle.builder.specs.declared.Built.{Built}

pub data Making : Type 0 where
  makes : List ℕ → Making
  refuses : Refusal → Making

-- The first of the arguments vs that fails the test of its cell, counted from n: a missing and a surplus one fail it
-- (REFERENCE, "Refusals")
unfoldable pub first_misfit : (ℕ → ℕ → Bool) → ℕ → List ℕ → List ℕ → Option ℕ
first_misfit ok n [] [] = None
first_misfit ok n [] (v ∷ vs) = Some n
first_misfit ok n (c ∷ cs) [] = Some n
first_misfit ok n (c ∷ cs) (v ∷ vs) = cond (ok c v) (first_misfit ok (suc n) cs vs) (Some n)

-- the frame f, unless an argument fails
unfoldable pub unless : Option ℕ → List ℕ → Making
unless None f = makes f
unless (Some n) f = refuses (ArgumentOutside n)

-- a builder, by the test of its arguments and the frame that they give with a row; only what is no kind is refused as such
unfoldable pub builds : (ℕ → ℕ → Bool) → (List ℕ → List ℕ → List ℕ) → ℕ → List ℕ → Making
builds ok frame k vs = cond (is_kind k) (unless (first_misfit ok 1 (numbers_of (row_of k)) vs) (frame (row_of k) vs)) (refuses NotAKind)

-- the checked builder puts what the narrowed fields allow (REFERENCE, "Checked builder")
abbrev pub checked : ℕ → List ℕ → Making
checked k vs = builds allows frame_of k vs

-- the plain builder puts any number and any code of an enum, masked to their plain fields (REFERENCE, "Plain builder")
abbrev pub plain_by : ℕ → List ℕ → Making
plain_by k vs = builds accepts plain_row k vs

-- ---- as the code hands it over: 12 bytes, those behind the frame 0

unfoldable pub built : Making → Result Built Refusal
built (makes f) = Ok (record { len = length f; bytes = f ++ replicate (12 - length f) 0 })
built (refuses x) = Err x
