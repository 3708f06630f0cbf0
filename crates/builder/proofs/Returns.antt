-- What the returns of the builders ask: each branch gives the specification's answer. Assumes nothing.
use mathlib.Core.Path.{◌≡◌, sym, ap, ap₂, ◌∙◌, subst}
use mathlib.Core.Bool.{Bool}
use mathlib.Core.List.{List, [], ◌∷◌, ◌++◌}
use Prim.Native.Nat.{ℕ, ◌-◌, ◌≤◌, ◌<◌}
use native.Mathlib.Omega.{arith}
use borrow.Author.Tests.{lt-ltb, le-ltb, le-leb, lt-leb}
use lib.ListN.{length, get_or, replicate}
use Rattle.frame.specs.declared.Field.{Field}
use Rattle.frame.specs.Layout.{byte_of, puts}
use Rattle.frame.proofs.Fields.{length-tab}
use Rattle.table.specs.Table.{kinds, rows, op_of, len_of, count_of, numbers_of, row_at, row_of}
use Rattle.table.proofs.Cells.{length-numbers}
use Rattle.table.proofs.Rows.{row_laid, row-at}
use Rattle.refusal.specs.declared.Refusal.{Refusal}
use Rattle.refusal.specs.declared.Refusal.TheVariants.{ArgumentOutside, NotAKind}
use Rattle.std.specs.Prelude.{Option, Some, None, Result, Ok}
use Rattle.builder.specs.declared.Built.{Built}
use Rattle.builder.specs.Building.{refuses, first_misfit, unless, builds, built}
use Rattle.builder.specs.Ways.{Gives, row_by, made_at}
use Rattle.builder.proofs.Arguments.{as_many}
use Rattle.builder.proofs.Padded.{padded-frame}

-- ---- build

pub few : (i : ℕ) → i < kinds → (row : List ℕ) → row ≡ row_at i → count_of row ≤ 9
few i h row er = subst (λ (x : List ℕ). count_of x ≤ 9) (sym (er ∙ row-at i h)) (row_laid i h).few

module _ (field : ℕ → Field) (frame : List ℕ → List ℕ → List ℕ) (g : Gives field frame) (ok : ℕ → ℕ → Bool) (i : ℕ) (h : i < kinds)
    (row : List ℕ) (er : row ≡ row_at i) (whole : length row ≡ 13) (vs : List ℕ) (m : Option ℕ)
    (em : m ≡ first_misfit ok 1 (numbers_of row) vs) where
  is_row : row ≡ get_or rows i []
  is_row = er ∙ row-at i h

  misfit-is : m ≡ first_misfit ok 1 (numbers_of (get_or rows i [])) vs
  misfit-is = em ∙ ap (λ (x : List ℕ). first_misfit ok 1 (numbers_of x) vs) is_row

  pub built-misfit : (n : ℕ) → m ≡ Some n → refuses (ArgumentOutside n) ≡ made_at ok frame i vs
  unfolding unless
  built-misfit n e = ap (λ (x : Option ℕ). unless x (frame (get_or rows i []) vs)) (sym e ∙ misfit-is)

  module _ (none : m ≡ None) where
    pub arguments-many : length vs ≡ count_of row
    arguments-many = as_many ok 1 (numbers_of row) vs (sym em ∙ none) ∙ length-numbers row whole (few i h row er)

    pub built-frame : (o n : ℕ) (out : List ℕ) → o ≡ op_of row → n ≡ len_of row → out ≡ puts (replicate 12 0) (row_by field row) (o ∷ vs)
        → ◌≡◌ {A = Result Built Refusal} (Ok (record { len = n; bytes = out })) (built (made_at ok frame i vs))
    unfolding built unless
    built-frame o n out eo en e =
        let f : List ℕ = frame (get_or rows i []) vs in
        let long : length f ≡ len_of (get_or rows i []) = ap length (sym (g.gives i h vs))
        ∙ length-tab (len_of (get_or rows i [])) (byte_of (row_by field (get_or rows i [])) (op_of (get_or rows i []) ∷ vs)) in
        ap₂ {C = Result Built Refusal} (λ (x : ℕ) (l : List ℕ). Ok (record { len = x; bytes = l })) (en ∙ ap len_of is_row ∙ sym long)
        (e ∙ ap (λ (x : ℕ). puts (replicate 12 0) (row_by field row) (x ∷ vs)) eo ∙ ap (λ (x : List ℕ). puts (replicate 12 0) (row_by field x) (op_of x ∷ vs)) is_row
        ∙ padded-frame (len_of (get_or rows i [])) (row_by field (get_or rows i [])) (op_of (get_or rows i []) ∷ vs) (row_laid i h).most (g.inside i h)
        ∙ ap₂ (λ (x : List ℕ) (k : ℕ). x ++ replicate (12 - k) 0) (g.gives i h vs) (sym long))
        ∙ ap (λ (x : Option ℕ). built (unless x f)) (sym none ∙ misfit-is)

-- ---- by_kind

module _ (ok : ℕ → ℕ → Bool) (frame : List ℕ → List ℕ → List ℕ) (k : ℕ) (vs : List ℕ) where
  pub builds-zero : k ≡ 0 → refuses NotAKind ≡ builds ok frame k vs
  unfolding builds
  builds-zero e = sym (simp (le-ltb 0 k (omega arith)))

  pub builds-above : (k ≡ 0 → ⊥) → kinds < k → refuses NotAKind ≡ builds ok frame k vs
  unfolding builds
  builds-above n h = sym (simp (lt-ltb 0 k (omega arith), lt-leb k kinds h))

  pub builds-kind : (k ≡ 0 → ⊥) → k ≤ kinds → unless (first_misfit ok 1 (numbers_of (row_of k)) vs) (frame (row_of k) vs) ≡ builds ok frame k vs
  unfolding builds
  builds-kind n h = sym (simp (lt-ltb 0 k (omega arith), le-leb k kinds h))
