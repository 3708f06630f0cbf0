-- A whole text in one output (REFERENCE, "Dump" and "Refusals").
-- Assumes nothing.
use Rattle.std.specs.Prelude.{ℕ, ◌+◌, ◌≤◌, ◌<◌, ◌≡◌, Bool, cond, Result, Ok, Err, List, ◌++◌, leb, length, take, drop}
use Rattle.refusal.specs.declared.Refusal.{Refusal}
use Rattle.refusal.specs.declared.Refusal.TheVariants.{OutputShort}

-- an output shorter than the text is refused
abbrev pub dumped : List ℕ → List ℕ → Result ℕ Refusal
dumped text out = cond (leb (length text) (length out)) (Ok (length text)) (Err OutputShort)

-- the text, and behind it the output as it was; all of it as it was where the text does not fit
abbrev pub filled : List ℕ → List ℕ → List ℕ
filled text out = cond (leb (length text) (length out)) (text ++ drop (length text) out) out

-- a part of a text at its place, all else as it was
abbrev pub laid_at : List ℕ → ℕ → List ℕ → List ℕ
laid_at part at out = take at out ++ (part ++ drop (at + length part) out)

-- the length is told of a text that fits, and of another that it does not; the text is written if asked for
pub record Lays (text : List ℕ) (write : Bool) (before : List ℕ) (r : ℕ) (after : List ℕ) : Type 0 where
  pub fits : r ≤ length before → r ≡ length text
  pub longer : length before < r → length before < length text
  pub stands : after ≡ cond write (text ++ drop (length text) before) before
