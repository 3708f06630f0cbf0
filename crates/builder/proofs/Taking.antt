-- What a builder takes: where every argument passes its cell's test and none is missing or surplus it makes its frame, and else it refuses.
-- `plain-takes` says it of the plain builder, `checked-takes` of the checked one. Assumes nothing.
use mathlib.Core.Path.{◌≡◌, refl, sym, ap, ◌∙◌, subst}
use mathlib.Core.Bool.{Bool, true, false, cond}
use mathlib.Core.List.{List, [], ◌∷◌}
use Prim.Native.Nat.{ℕ, suc}
use lib.Dec.{T}
use Rattle.table.specs.Table.{is_kind, row_of, numbers_of, plain, plain_row}
use Rattle.table.specs.Narrowed.{frame_of}
use Rattle.refusal.specs.declared.Refusal.TheVariants.{ArgumentOutside, NotAKind}
use Rattle.codes.specs.Allowed.{allows, accepts}
use Rattle.std.specs.Prelude.{Option, Some, None}
use Rattle.builder.specs.Building.{makes, refuses, first_misfit, unless, builds, checked, plain_by}

-- each argument passes the test of its cell, and there are as many as cells
abbrev pub Taken : (ℕ → ℕ → Bool) → List ℕ → List ℕ → Type 0
Taken ok [] [] = Unit
Taken ok [] (v ∷ vs) = ⊥
Taken ok (c ∷ cs) [] = ⊥
Taken ok (c ∷ cs) (v ∷ vs) = T (ok c v) × Taken ok cs vs

is_true : (b : Bool) → T b → b ≡ true
is_true true t = refl
is_true false t = absurd t

module _ (ok : ℕ → ℕ → Bool) where
  pub taken_none : (n : ℕ) (cs vs : List ℕ) → Taken ok cs vs → first_misfit ok n cs vs ≡ None
  unfolding first_misfit
  taken_none n [] [] t = refl
  taken_none n [] (v ∷ vs) t = absurd t
  taken_none n (c ∷ cs) [] t = absurd t
  taken_none n (c ∷ cs) (v ∷ vs) t =
      ap (λ (b : Bool). cond b (first_misfit ok (suc n) cs vs) (Some n)) (is_true (ok c v) t.0) ∙ taken_none (suc n) cs vs t.1

  -- and else there is a first that fails
  pub untaken-at : (n : ℕ) (cs vs : List ℕ) → (Taken ok cs vs → ⊥) → (m : ℕ) × (first_misfit ok n cs vs ≡ Some m)
  unfolding first_misfit
  untaken-at n [] [] d = absurd (d tt)
  untaken-at n [] (v ∷ vs) d = (n, refl)
  untaken-at n (c ∷ cs) [] d = (n, refl)
  untaken-at n (c ∷ cs) (v ∷ vs) d = go (ok c v) refl (untaken-at (suc n) cs vs)
    where
      go : (b : Bool) → ok c v ≡ b → ((Taken ok cs vs → ⊥) → (m : ℕ) × (first_misfit ok (suc n) cs vs ≡ Some m))
          → (m : ℕ) × (cond (ok c v) (first_misfit ok (suc n) cs vs) (Some n) ≡ Some m)
      go true e ih =
          let z = ih (λ t. d (subst T (sym e) tt, t)) in
          (z.0, ap (λ (b : Bool). cond b (first_misfit ok (suc n) cs vs) (Some n)) e ∙ z.1)
      go false e ih = (n, ap (λ (b : Bool). cond b (first_misfit ok (suc n) cs vs) (Some n)) e)

  module _ (frame : List ℕ → List ℕ → List ℕ) (k : ℕ) (vs : List ℕ) (kind : T (is_kind k)) where
    of-kind : builds ok frame k vs ≡ unless (first_misfit ok 1 (numbers_of (row_of k)) vs) (frame (row_of k) vs)
    unfolding builds
    of-kind =
        ap (λ (b : Bool). cond b (unless (first_misfit ok 1 (numbers_of (row_of k)) vs) (frame (row_of k) vs)) (refuses NotAKind)) (is_true (is_kind k) kind)

    pub builds-takes : Taken ok (numbers_of (row_of k)) vs → builds ok frame k vs ≡ makes (frame (row_of k) vs)
    unfolding unless
    builds-takes t = of-kind ∙ ap (λ (m : Option ℕ). unless m (frame (row_of k) vs)) (taken_none 1 (numbers_of (row_of k)) vs t)

    pub builds-refuses : (Taken ok (numbers_of (row_of k)) vs → ⊥) → (n : ℕ) × (builds ok frame k vs ≡ refuses (ArgumentOutside n))
    unfolding unless
    builds-refuses d =
        let z = untaken-at 1 (numbers_of (row_of k)) vs d in
        (z.0, of-kind ∙ ap (λ (m : Option ℕ). unless m (frame (row_of k) vs)) z.1)

module _ (k : ℕ) (vs : List ℕ) (kind : T (is_kind k)) where
  pub plain-takes : Taken accepts (numbers_of (row_of k)) vs → plain_by k vs ≡ makes (plain k vs)
  plain-takes t = builds-takes accepts plain_row k vs kind t

  pub plain-refuses : (Taken accepts (numbers_of (row_of k)) vs → ⊥) → (n : ℕ) × (plain_by k vs ≡ refuses (ArgumentOutside n))
  plain-refuses d = builds-refuses accepts plain_row k vs kind d

  pub checked-takes : Taken allows (numbers_of (row_of k)) vs → checked k vs ≡ makes (frame_of (row_of k) vs)
  checked-takes t = builds-takes allows frame_of k vs kind t
