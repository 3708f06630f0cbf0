-- Lines as they are written: words in parts (`spaced-append`), and each line as its forms with the numbers filled in.
-- Assumes nothing.
use mathlib.Core.Path.{◌≡◌, refl, sym, ap, ap₂, ◌∙◌}
use mathlib.Core.List.{List, [], ◌∷◌, ◌++◌, append_assoc, append-nil, map}
use Prim.Native.Nat.{ℕ, ◌+◌, ◌-◌, ◌/◌, ◌%◌, ◌<◌}
use native.Mathlib.Numerals.{add-one}
use native.Mathlib.Omega.{arith}
use lib.ListN.{get_or, length, take}
use lib.Seq.{take-suc}
use Rattle.reading.specs.Decimal.{decimal}
use Rattle.texts.specs.Words.{line, spaced, word}
use Rattle.texts.specs.Written.{filled}
use Rattle.texts.proofs.Forms.{filled-then, spaced-then}
use Rattle.refusal.specs.declared.Refusal.{Refusal}
use Rattle.refusal.specs.Numbers.{number_of}
use Rattle.controller.specs.declared.State.TheVariants.{Done, Running, Stopped}
use Rattle.controller.specs.Controller.{Turn}
use Rattle.control_text.specs.Text.{closing, hex_digit, hex_of, judged_words, status_name, step_line, turn_words}

-- ---- words

pub spaced-append : (us vs : List (List ℕ)) (end : List ℕ) → spaced (us ++ vs) end ≡ spaced us [] ++ spaced vs end
unfolding spaced
spaced-append [] vs end = refl
spaced-append (w ∷ us) vs end =
    ap (λ (l : List ℕ). 32 ∷ l) (ap (λ (l : List ℕ). w ++ l) (spaced-append us vs end) ∙ sym (append_assoc w (spaced us []) (spaced vs end)))

-- ---- bytes in hex

map-append : (a b : List ℕ) → map hex_of (a ++ b) ≡ map hex_of a ++ map hex_of b
map-append [] b = refl
map-append (x ∷ a) b = ap (λ (l : List (List ℕ)). hex_of x ∷ l) (map-append a b)

-- a byte more, behind the first i
pub bytes_next : (bs : List ℕ) (i high low : ℕ) → i < length bs → high ≡ hex_digit (get_or bs i 0 / 16) → low ≡ hex_digit (get_or bs i 0 % 16)
    → spaced (map hex_of (take (i + 1) bs)) [] ≡ spaced (map hex_of (take i bs)) [] ++ ((32 ∷ []) ++ ((high ∷ []) ++ (low ∷ [])))
unfolding spaced hex_of
bytes_next bs i high low h e f =
    let b : ℕ = get_or bs i 0 in
    ap (λ (l : List ℕ). spaced (map hex_of l) []) (ap (λ (k : ℕ). take k bs) (add-one i) ∙ take-suc bs i 0 h)
    ∙ ap (λ (ws : List (List ℕ)). spaced ws []) (map-append (take i bs) (b ∷ []))
    ∙ spaced-append (map hex_of (take i bs)) (hex_of b ∷ []) []
    ∙ ap₂ (λ (x y : ℕ). spaced (map hex_of (take i bs)) [] ++ (32 ∷ x ∷ y ∷ [])) (sym e) (sym f)

-- ---- parts of a step's line

-- by the words that a part has
pub none-form : (ws : List (List ℕ)) → ws ≡ [] → spaced ws [] ≡ []
unfolding spaced
none-form ws e = ap (λ (us : List (List ℕ)). spaced us []) e

pub judged-form : (ws : List (List ℕ)) (sent : ℕ) (s : List ℕ) → ws ≡ word "judged" ∷ decimal sent ∷ status_name s ∷ []
    → spaced ws [] ≡ filled (word " judged 0 ") (sent ∷ []) [] ++ status_name s
unfolding spaced filled
judged-form ws sent s e =
    ap (λ (us : List (List ℕ)). spaced us []) e
    ∙ ap (λ (l : List ℕ). filled (word " judged 0 ") (sent ∷ []) l) (append-nil (status_name s))
    ∙ sym (filled-then (word " judged 0 ") (sent ∷ []) [] (status_name s))

pub read-form : (ws : List (List ℕ)) → ws ≡ word "read" ∷ [] → spaced ws [] ≡ word " read"
unfolding spaced
read-form ws e = ap (λ (us : List (List ℕ)). spaced us []) e

pub sent-form : (ws : List (List ℕ)) (n : ℕ) (frame : List ℕ) → ws ≡ word "sent" ∷ map hex_of (take n frame)
    → spaced ws [] ≡ word " sent" ++ spaced (map hex_of (take (n - 0) frame)) []
unfolding spaced
sent-form ws n frame e =
    let m : n ≡ n - 0 = omega arith in
    ap (λ (us : List (List ℕ)). spaced us []) e ∙ ap (λ (k : ℕ). word " sent" ++ spaced (map hex_of (take k frame)) []) m

-- ---- lines

pub step-form : (sent : ℕ) (x : Turn) (s : List ℕ)
    → step_line sent x s ≡ decimal (sent + 1) ++ (spaced (judged_words sent s) [] ++ (spaced (turn_words x) [] ++ (10 ∷ [])))
unfolding step_line line
step-form sent x s =
    ap (λ (l : List ℕ). decimal (sent + 1) ++ l)
    (spaced-append (judged_words sent s) (turn_words x) (10 ∷ [])
    ∙ ap (λ (l : List ℕ). spaced (judged_words sent s) [] ++ l) (sym (spaced-then (turn_words x) [] (10 ∷ []))))

pub waiting-form : (sent : ℕ) (s : List ℕ) → closing (Running sent) s ≡ filled (word "waiting 0\n") (sent ∷ []) []
unfolding closing line spaced filled
waiting-form sent s = refl

pub done-form : (s : List ℕ) → closing Done s ≡ word "done\n"
unfolding closing line spaced
done-form s = refl

pub stopped-form : (p : ℕ) (s : List ℕ) → closing (Stopped p) s ≡ filled (word "stopped 0 ") (p ∷ []) [] ++ (status_name s ++ (10 ∷ []))
unfolding closing line spaced filled
stopped-form p s = sym (filled-then (word "stopped 0 ") (p ∷ []) [] (status_name s ++ (10 ∷ [])))

pub refused-form : (x : Refusal) {n : ℕ} → n ≡ number_of x → line (word "refused") (decimal (number_of x) ∷ []) ≡ filled (word "refused 0\n") (n ∷ []) []
unfolding line spaced filled
refused-form x e = ap (λ (k : ℕ). filled (word "refused 0\n") (k ∷ []) []) (sym e)
