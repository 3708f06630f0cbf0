-- The fields of both builders lie in the frames, and give them: laws that the source cites, so they stand here. Assumes nothing.
use mathlib.Core.Path.{◌≡◌, refl, sym, ap, ap₂, ◌∙◌, subst}
use mathlib.Core.List.{List, [], ◌∷◌}
use Prim.Native.Nat.{ℕ}
use lib.Dec.{T}
use lib.ListN.{get_or}
use Rattle.frame.specs.declared.Field.{Field}
use Rattle.frame.specs.Layout.{tab, byte_of, sound_all}
use Rattle.table.specs.Number.{narrow_of, narrows_of, plain_of, plains_of}
use Rattle.table.specs.Table.{rows, op_of, len_of, numbers_of, op_number, plain_row}
use Rattle.table.specs.Narrowed.{frame_of}
use Rattle.table.proofs.Rows.{row_laid, ready, plain-is}
use Rattle.builder.specs.Ways.{Gives, fields_by}

by-narrow : (cs : List ℕ) → fields_by narrow_of cs ≡ narrows_of cs
unfolding fields_by narrows_of
by-narrow [] = refl
by-narrow (c ∷ cs) = ap₂ (λ (f : Field) (fs : List Field). f ∷ fs) refl (by-narrow cs)

by-plain : (cs : List ℕ) → fields_by plain_of cs ≡ plains_of cs
unfolding fields_by
by-plain [] = refl
by-plain (c ∷ cs) = ap₂ (λ (f : Field) (fs : List Field). f ∷ fs) refl (by-plain cs)

abbrev cells : ℕ → List ℕ
cells i = op_number ∷ numbers_of (get_or rows i [])

-- the bytes of the row at i by these fields
abbrev by : ℕ → List ℕ → List Field → List ℕ
by i vs fs = tab (len_of (get_or rows i [])) (byte_of fs (op_of (get_or rows i []) ∷ vs))

pub narrow-gives : Gives narrow_of frame_of
narrow-gives = record {
  inside = λ i h. subst (λ (fs : List Field). T (sound_all (len_of (get_or rows i [])) fs)) (sym (by-narrow (cells i))) (ready i h).inside;
  gives = λ i h vs. ap (by i vs) (by-narrow (cells i));
}

pub plain-gives : Gives plain_of plain_row
plain-gives = record {
  inside = λ i h. subst (λ (fs : List Field). T (sound_all (len_of (get_or rows i [])) fs)) (sym (by-plain (cells i))) (row_laid i h).inside;
  gives = λ i h vs. ap (by i vs) (by-plain (cells i)) ∙ sym (plain-is i h vs);
}
