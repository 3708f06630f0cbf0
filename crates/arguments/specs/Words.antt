-- What an argument of a program is before `--`, behind which each is a name (REFERENCE, "Programs").
-- Assumes nothing.
use Rattle.std.specs.Prelude.{ℕ, Bool, true, false, cond, ◌&&◌, List, [], ◌∷◌, eqb, ltb, get_or, length}
use Rattle.texts.specs.Words.{word}
use Rattle.arguments.specs.declared.Word.{Word}
use Rattle.arguments.specs.declared.Word.TheVariants.{Name, Mark, Help, Version, Unknown}

-- whether two lists have the same bytes in the same order
unfoldable pub same_bytes : List ℕ → List ℕ → Bool
same_bytes [] [] = true
same_bytes [] (y ∷ ys) = false
same_bytes (x ∷ xs) [] = false
same_bytes (x ∷ xs) (y ∷ ys) = eqb x y && same_bytes xs ys

-- whether more follows a first byte 45, which is `-`: that byte alone is a name
unfoldable pub is_option : List ℕ → Bool
is_option arg = ltb 1 (length arg) && eqb (get_or arg 0 0) 45

-- What an argument is, by the first of these rules that fits.
unfoldable pub word_of : List ℕ → Word
word_of arg =
    -- the mark, behind which each argument is a name
    cond (same_bytes arg (word "--")) Mark
    -- help, by either word
    (cond (same_bytes arg (word "-h")) Help
    (cond (same_bytes arg (word "--help")) Help
    -- the version
    (cond (same_bytes arg (word "--version")) Version
    -- any other option is unknown, and what is no option is a name
    (cond (is_option arg) Unknown Name))))
