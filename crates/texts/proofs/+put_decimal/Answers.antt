use Rattle.std.proofs.Common.{◌≡◌, ℕ, ◌/◌, ◌^◌, ◌<◌, ◌≤◌, [], ◌∷◌, ◌++◌, arith}
use Rattle.reading.specs.Decimal.{digit, decimal}
use Rattle.reading.proofs.Decimals.{decimal-one, decimal-more}
use Rattle.texts.proofs.Writing.{puts_then, puts-as}
use Rattle.texts.proofs.+put_decimal.Goals as goal

-- d is the last digit of n
module _ (n d : ℕ) where
  one : n < 10 → d ≡ digit n → decimal n ≡ d ∷ []
  one h e = cc (decimal-one n h)

  more : 10 ≤ n → n < 10 ^ 20 → d ≡ digit n → decimal n ≡ decimal (n / 10) ++ (d ∷ [])
  more h b e = cc (decimal-more n h b)

pub returns-then-n-lt10 : goal.returns-then-n-lt10
returns-then-n-lt10 t c = puts-as _ (one _ _ c.if-n-lt10.true c.last_digit.ensures) c.put_byte.ensures

pub returns : goal.returns
returns t c = puts-as _ (more _ _ c.if-n-lt10.false (omega arith) c.last_digit-2.ensures) (puts_then c.put_decimal-last.ensures c.put_byte-2.ensures)
