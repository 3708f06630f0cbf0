-- Arguments, and what each is: every option, and names that are like one (`examples`). Calls, and which inputs each has (`calls`).
-- Assumes nothing.
use mathlib.Core.Path.{◌≡◌, refl}
use mathlib.Core.List.{List, [], ◌∷◌}
use Prim.Native.String.{String}
use Rattle.std.proofs.Common.{None, Some}
use Rattle.arguments.specs.declared.Place.{Place}
use Rattle.arguments.specs.declared.Place.TheVariants.{Argument, StandardInput}
use Rattle.arguments.specs.declared.Word.{Word}
use Rattle.arguments.specs.declared.Word.TheVariants.{Name, Mark, Help, Version, Unknown}
use Rattle.texts.specs.Words.{word}
use Rattle.arguments.specs.Places.{names_from, names_of, places_of}
use Rattle.arguments.specs.Words.{is_option, same_bytes, word_of}

record Case : Type 0 where
  arg : String
  is : Word

abbrev given : String → Word → Case
given a w = record { arg = a; is = w }

abbrev answers : List Case → List Word
answers [] = []
answers (c ∷ cs) = word_of (word c.arg) ∷ answers cs

abbrev expected : List Case → List Word
expected [] = []
expected (c ∷ cs) = c.is ∷ expected cs

abbrev cases : List Case
cases =
    given "--" Mark
    ∷ given "-h" Help
    ∷ given "--help" Help
    ∷ given "--version" Version
    -- no option is cut short, and none has more behind it
    ∷ given "-v" Unknown
    ∷ given "-help" Unknown
    ∷ given "--hel" Unknown
    ∷ given "--help=1" Unknown
    ∷ given "--Help" Unknown
    ∷ given "---" Unknown
    ∷ given "- " Unknown
    -- standard input, and files
    ∷ given "-" Name
    ∷ given "" Name
    ∷ given "h" Name
    ∷ given "banks.txt" Name
    ∷ given "./-h" Name
    ∷ given " --help" Name
    ∷ []

pub examples : answers cases ≡ expected cases
unfolding is_option same_bytes word_of
examples = refl

-- no name; `--` alone; one name, two, three; `--` before, between and behind them; a mark that is no argument
abbrev inputs : List (List Place)
inputs =
    places_of 0 None
    ∷ places_of 1 (Some 1)
    ∷ places_of 1 None
    ∷ places_of 2 None
    ∷ places_of 3 None
    ∷ places_of 3 (Some 1)
    ∷ places_of 3 (Some 2)
    ∷ places_of 3 (Some 3)
    ∷ places_of 3 (Some 4)
    ∷ []

abbrev wanted : List (List Place)
wanted =
    (StandardInput ∷ [])
    ∷ (StandardInput ∷ [])
    ∷ (Argument 1 ∷ [])
    ∷ (Argument 1 ∷ Argument 2 ∷ [])
    ∷ (Argument 1 ∷ Argument 2 ∷ Argument 3 ∷ [])
    ∷ (Argument 2 ∷ Argument 3 ∷ [])
    ∷ (Argument 1 ∷ Argument 3 ∷ [])
    ∷ (Argument 1 ∷ Argument 2 ∷ [])
    ∷ (Argument 1 ∷ Argument 2 ∷ Argument 3 ∷ [])
    ∷ []

pub calls : inputs ≡ wanted
unfolding places_of names_of names_from
calls = refl
