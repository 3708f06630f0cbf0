use Rattle.std.proofs.Common.{◌≡◌, ℕ, ◌/◌, ◌^◌, ◌<◌, ◌≤◌, List, [], ◌∷◌, ◌++◌, ◌∙◌, append_assoc, arith}
use Rattle.reading.specs.Decimal.{digit, decimal}
use Rattle.reading.specs.Level.{text_of}
use Rattle.reading.specs.declared.Text.{Text}
use Rattle.reading.proofs.Decimals.{decimal-one, decimal-more}
use Rattle.reading.proofs.+push_decimal.Goals as goal
use Rattle.reading.proofs.+push_decimal.Goals.{then-n-lt10, else-n-lt10}

-- d is the last digit of n, stored behind l or behind the other digits of n
module _ {r : Text} {n d : ℕ} (l : List ℕ) (last : d ≡ digit n) where
  one : n < 10 → r ≡ text_of (l ++ (d ∷ [])) → r ≡ text_of (l ++ decimal n)
  one h p = cc (decimal-one n h)

  more : 10 ≤ n → n < 10 ^ 20 → r ≡ text_of ((l ++ decimal (n / 10)) ++ (d ∷ [])) → r ≡ text_of (l ++ decimal n)
  more h b p = cc (decimal-more n h b, append_assoc l (decimal (n / 10)) (digit n ∷ []))

pub returns : goal.returns
returns t c l e =
    elim c.if-n-lt10.branch [
      | then-n-lt10 w ↦ one l c.last_digit.ensures w.if-n-lt10.true (c.push.ensures l (w.front-is ∙ e))
      | else-n-lt10 w ↦ more l c.last_digit.ensures w.if-n-lt10.false (omega arith) (c.push.ensures _ (w.front-is ∙ w.push_decimal-front.ensures l e))
    ]
