-- Which inputs a program has, by its arguments (REFERENCE, "Programs"). These are counted from 1, since argument 0 is the program's own name.
-- Assumes nothing.
use Rattle.std.specs.Prelude.{ℕ, zero, suc, Bool, true, false, List, [], ◌∷◌, Option, None, Some, eqb, slice_get}
use Rattle.arguments.specs.declared.Place.{Place}
use Rattle.arguments.specs.declared.Place.TheVariants.{Argument, StandardInput}

-- a place before others, unless it is left out
abbrev pub add_unless : Bool → Place → List Place → List Place
add_unless true p ps = ps
add_unless false p ps = p ∷ ps

-- whether argument k is the mark
abbrev pub is_mark : Option ℕ → ℕ → Bool
is_mark None k = false
is_mark (Some m) k = eqb k m

-- the names among the n arguments from k on: all but the mark
unfoldable pub names_from : Option ℕ → ℕ → ℕ → List Place
names_from mark k zero = []
names_from mark k (suc n) = add_unless (is_mark mark k) (Argument k) (names_from mark (suc k) n)

-- Of so many arguments each is a name but the mark, in their order. The mark is the first `--`; there is none where no argument is `--`.
unfoldable pub names_of : ℕ → Option ℕ → List Place
names_of given mark = names_from mark 1 given

abbrev pub or_standard_input : List Place → List Place
or_standard_input [] = StandardInput ∷ []
or_standard_input (p ∷ ps) = p ∷ ps

-- The inputs are those that the names name, in their order; where there is no name, standard input alone.
unfoldable pub places_of : ℕ → Option ℕ → List Place
places_of given mark = or_standard_input (names_of given mark)

-- input i, counted from 0; none past the last
abbrev pub place_at : ℕ → Option ℕ → ℕ → Option Place
place_at given mark i = slice_get (places_of given mark) i
