-- A list of needs, bank by bank, with a list of codes: judged, and found (REFERENCE, "Widths for banks").
-- Assumes nothing.
use Rattle.std.specs.Prelude.{ℕ, suc, Bool, cond, ◌&&◌, List, [], ◌∷◌, eqb, leb, length, Result, Ok, Err}
use Rattle.refusal.specs.declared.Refusal.{Refusal}
use Rattle.refusal.specs.declared.Refusal.TheVariants.{NoWidth, NotNarrowest, ListLength}
use Rattle.width_rule.specs.Rule.{is_right, is_served, right_for}

-- a list has 1 to 32 banks, and the other list is as long
unfoldable pub lengths_right : ℕ → ℕ → Bool
lengths_right n m = leb 1 n && (leb n 32 && eqb n m)

-- the banks behind the first k, which are right: at the first that is not, its number from 1, by 19 where no listed width serves it and else by
-- 20; and how many banks there are where all are right
unfoldable pub judged_from : ℕ → List ℕ → List ℕ → Result ℕ Refusal
judged_from k [] cs = Ok k
judged_from k (n ∷ ns) [] = Ok k
judged_from k (n ∷ ns) (c ∷ cs) =
    cond (is_served n) (cond (is_right n c) (judged_from (suc k) ns cs) (Err (NotNarrowest (suc k)))) (Err (NoWidth (suc k)))

-- The judgement of a list of codes: its length comes before every bank.
unfoldable pub judged : List ℕ → List ℕ → Result ℕ Refusal
judged needs codes = cond (lengths_right (length needs) (length codes)) (judged_from 0 needs codes) (Err ListLength)

-- the right code of each bank
unfoldable pub right_codes : List ℕ → List ℕ
right_codes [] = []
right_codes (n ∷ ns) = right_for n ∷ right_codes ns

-- What find answers for an output of m codes: what the list of the right codes is judged to be, where the output has its length.
unfoldable pub found : List ℕ → ℕ → Result ℕ Refusal
found needs m = cond (lengths_right (length needs) m) (judged_from 0 needs (right_codes needs)) (Err ListLength)

-- one of two lists, by whether an answer is no refusal
abbrev pub if_done : Result ℕ Refusal → List ℕ → List ℕ → List ℕ
if_done (Ok n) a b = a
if_done (Err x) a b = b

-- what it leaves in the output: the right codes, or on a refusal what stood there
unfoldable pub found_in : List ℕ → List ℕ → List ℕ
found_in needs out = if_done (found needs (length out)) (right_codes needs) out
