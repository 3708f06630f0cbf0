-- Worked lists: needs, proposed codes, and what the judgement answers, as refusal and place, or as 0 and the number of banks. width_rule has the single
-- needs.
-- Assumes nothing.
use mathlib.Core.Path.{◌≡◌, refl}
use mathlib.Core.List.{List, [], ◌∷◌}
use Prim.Native.Nat.{ℕ}
use lib.ListN.{replicate}
use Rattle.table.specs.Codes.{is_in, rx_bw_codes}
use Rattle.rx_bw.specs.Width.{is_named}
use Rattle.refusal.specs.Numbers.{number_of, place_of}
use Rattle.std.specs.Prelude.{Result, Ok, Err}
use Rattle.refusal.specs.declared.Refusal.{Refusal}
use Rattle.width_rule.specs.Rule.{any_suffices, is_right, is_served, none_narrower, right_for, right_in, suffices}
use Rattle.bank_widths.specs.Lists.{found, found_in, judged, judged_from, lengths_right, right_codes}

record Case : Type 0 where
  needs : List ℕ
  codes : List ℕ
  refusal : ℕ
  place : ℕ

abbrev given : List ℕ → List ℕ → ℕ → ℕ → Case
given ns cs r p = record { needs = ns; codes = cs; refusal = r; place = p }

abbrev numbers : Result ℕ Refusal → List ℕ
numbers (Ok n) = 0 ∷ n ∷ []
numbers (Err x) = number_of x ∷ place_of x ∷ []

abbrev answers : List Case → List (List ℕ)
answers [] = []
answers (c ∷ cs) = numbers (judged c.needs c.codes) ∷ answers cs

abbrev expected : List Case → List (List ℕ)
expected [] = []
expected (c ∷ cs) = (c.refusal ∷ c.place ∷ []) ∷ expected cs

abbrev cases : List Case
cases =
    given (16030 ∷ 0 ∷ []) (165 ∷ 231 ∷ []) 0 2
    -- the first bank that is not right is told, whichever the refusal
    ∷ given (0 ∷ 3473 ∷ 3076924 ∷ []) (231 ∷ 231 ∷ 0 ∷ []) 20 2
    ∷ given (0 ∷ 3076924 ∷ 3473 ∷ []) (231 ∷ 0 ∷ 231 ∷ []) 19 2
    -- lengths come before any bank
    ∷ given [] [] 21 0
    ∷ given (3076924 ∷ []) [] 21 0
    ∷ given (3473 ∷ []) (231 ∷ 231 ∷ []) 21 0
    -- the most banks that a list may have, and one more
    ∷ given (replicate 32 3076923) (replicate 32 0) 0 32
    ∷ given (replicate 33 3076923) (replicate 33 0) 21 0
    ∷ []

pub examples : answers cases ≡ expected cases
unfolding any_suffices is_in is_named is_right is_served judged judged_from lengths_right none_narrower rx_bw_codes suffices
examples = refl

-- what find answers, and what it leaves of an output of ones: as many codes as banks, or nothing
abbrev finds : ℕ → List (List ℕ)
finds n = numbers (found (replicate n 3076923) n) ∷ found_in (replicate n 3076923) (replicate n 1) ∷ []

pub found-most : (finds 32 ≡ (0 ∷ 32 ∷ []) ∷ replicate 32 0 ∷ []) × (finds 33 ≡ (21 ∷ 0 ∷ []) ∷ replicate 33 1 ∷ [])
unfolding any_suffices found found_in is_in is_named is_right is_served judged_from lengths_right none_narrower right_codes right_for right_in rx_bw_codes suffices
found-most = (refl, refl)
