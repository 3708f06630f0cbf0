-- Words and forms written one behind the other: `spaced-then`, `filled-then` put what follows behind them, so that a line and the form that
-- writes it compute to the same bytes. `filled_next` adds a byte of a form behind the first i.
-- Assumes nothing.
use mathlib.Core.Path.{◌≡◌, refl, sym, ap, ◌∙◌}
use mathlib.Core.List.{List, [], ◌∷◌, ◌++◌, append_assoc, append-nil}
use Prim.Native.Nat.{ℕ, ◌+◌, ◌<◌}
use native.Mathlib.Numerals.{add-one}
use lib.ListN.{length, get_or, take}
use lib.Seq.{take-suc}
use Rattle.texts.specs.Words.{spaced}
use Rattle.texts.specs.Written.{piece, filled}

-- ---- words

pub spaced-then : (ws : List (List ℕ)) (end more : List ℕ) → spaced ws end ++ more ≡ spaced ws (end ++ more)
unfolding spaced
spaced-then [] end more = refl
spaced-then (w ∷ ws) end more =
    ap (λ (l : List ℕ). 32 ∷ l) (append_assoc w (spaced ws end) more ∙ ap (λ (l : List ℕ). w ++ l) (spaced-then ws end more))

-- a word behind its blank
pub spaced-one : (w : List ℕ) → spaced (w ∷ []) [] ≡ (32 ∷ []) ++ w
unfolding spaced
spaced-one w = ap (λ (l : List ℕ). 32 ∷ l) (append-nil w)

-- a name and a word make a field
pub spaced-two : (a b : List ℕ) → spaced (a ∷ b ∷ []) [] ≡ spaced (a ∷ []) [] ++ spaced (b ∷ []) []
unfolding spaced
spaced-two a b = sym (spaced-then (a ∷ []) [] (spaced (b ∷ []) []))

-- ---- forms

pub filled-then : (form numbers end more : List ℕ) → filled form numbers end ++ more ≡ filled form numbers (end ++ more)
unfolding filled
filled-then [] numbers end more = refl
filled-then (b ∷ form) numbers end more =
    append_assoc (piece b numbers) (filled form numbers end) more ∙ ap (λ (l : List ℕ). piece b numbers ++ l) (filled-then form numbers end more)

filled-append : (a b numbers end : List ℕ) → filled (a ++ b) numbers end ≡ filled a numbers (filled b numbers end)
unfolding filled
filled-append [] b numbers end = refl
filled-append (x ∷ a) b numbers end = ap (λ (l : List ℕ). piece x numbers ++ l) (filled-append a b numbers end)

pub filled_next : (form numbers : List ℕ) (i : ℕ) → i < length form
    → filled (take (i + 1) form) numbers [] ≡ filled (take i form) numbers [] ++ piece (get_or form i 0) numbers
unfolding filled
filled_next form numbers i h =
    ap (λ (l : List ℕ). filled l numbers []) (ap (λ (k : ℕ). take k form) (add-one i) ∙ take-suc form i 0 h)
    ∙ filled-append (take i form) (get_or form i 0 ∷ []) numbers []
    ∙ ap (filled (take i form) numbers) (append-nil (piece (get_or form i 0) numbers))
    ∙ sym (filled-then (take i form) numbers [] (piece (get_or form i 0) numbers))
