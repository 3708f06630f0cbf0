-- A refusal in words: its number and its place.
-- Assumes nothing.
use Rattle.std.specs.Prelude.{ℕ, List, ◌++◌, codes, decimal}
use Rattle.refusal.specs.declared.Refusal.{Refusal}
use Rattle.refusal.specs.Numbers.{number_of, place_of}

abbrev pub told : Refusal → List ℕ
told why = codes "refused " ++ (decimal (number_of why) ++ (codes " at " ++ decimal (place_of why)))
