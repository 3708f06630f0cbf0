-- Whatever values a typed builder is called with, the plain builder by number makes the same frame of their codes and numbers: it never
-- refuses them, and never gives other bytes. Assumes nothing.
use Prim.Native.Nat.{ℕ}
use mathlib.Core.Path.{◌≡◌, sym, ap, ◌∙◌, subst}
use mathlib.Core.Bool.{Bool, true, cond, not}
use mathlib.Core.List.{List, [], ◌∷◌}
use borrow.Author.Tests.{not-true}
use lib.Dec.{T}
use Rattle.frame.proofs.Fields.{both_left, both_right}
use Rattle.table.specs.Number.{plain_of, is_code}
use Rattle.table.specs.Table.{is_kind, row_of, numbers_of, plain}
use Rattle.table.specs.Codes.{is_in}
use Rattle.codes.specs.Allowed.{fits, accepts}
use Rattle.builder.specs.Building.{makes, plain_by}
use Rattle.builder.proofs.Taking.{Taken, plain-takes}
use Rattle.enums.specs.Values as of
use Rattle.enums.specs.Enums.{Enum, Value, code_of}
use Rattle.enums.specs.Values.{Sort, codes_in, Args, numbers_in, sorts_of}
use Rattle.enums.proofs.Listed.{listed}
use Rattle.enums.proofs.Agree.{agrees_with, fields_agree, field_of, told, kind-agrees}

value-accepted : (c : ℕ) (e : Enum) (x : Value e) → T (agrees_with c (of.code e)) → T (accepts c (code_of e x))
value-accepted c e x t =
    let f = field_of c e t in
    let v : ℕ = code_of e x in
    subst T (sym (ap (λ (b : Bool). cond b (fits (plain_of c).w c v) true) f.mark ∙ f.taken v ∙ told (is_in v (codes_in e)) (listed e x))) tt

number-accepted : (c v : ℕ) → T (agrees_with c of.number) → T (accepts c v)
unfolding agrees_with
number-accepted c v t =
    subst T (sym (ap (λ (b : Bool). cond b (fits (plain_of c).w c v) true) (not-true (is_code c) (told (not (is_code c)) t)))) tt

-- each of the arguments is taken, and none is missing or surplus
all-taken : (cs : List ℕ) (ss : List Sort) (a : Args ss) → T (fields_agree cs ss) → Taken accepts cs (numbers_in a)
unfolding fields_agree numbers_in
all-taken [] [] of.none t = tt
all-taken (c ∷ cs) [] of.none t = absurd t
all-taken [] (of.code e ∷ ss) (of.coded x a) t = absurd t
all-taken (c ∷ cs) (of.code e ∷ ss) (of.coded x a) t = (
  value-accepted c e x (both_left (agrees_with c (of.code e)) (fields_agree cs ss) t),
  all-taken cs ss a
      (both_right (agrees_with c (of.code e)) (fields_agree cs ss) t),
)
all-taken [] (of.number ∷ ss) (of.plus v a) t = absurd t
all-taken (c ∷ cs) (of.number ∷ ss) (of.plus v a) t = (
  number-accepted c v.value (both_left (agrees_with c of.number) (fields_agree cs ss) t),
  all-taken cs ss a
      (both_right (agrees_with c of.number) (fields_agree cs ss) t),
)

-- the law, for every kind and all values that its builder can be called with
pub typed-makes : (k : ℕ) → T (is_kind k) → (a : Args (sorts_of k)) → plain_by k (numbers_in a) ≡ makes (plain k (numbers_in a))
typed-makes k t a = plain-takes k (numbers_in a) t (all-taken (numbers_of (row_of k)) (sorts_of k) a (kind-agrees k))
