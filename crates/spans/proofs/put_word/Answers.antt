use Rattle.std.proofs.Common.{refl, sym, ◌∙◌}
use Rattle.spans.proofs.Pastes.{part-paste, word-paste}
use Rattle.spans.proofs.Spans.{bounds-in, bounds-out, stored-fits, stored-large, stored-over}
use Rattle.spans.proofs.put_word.Goals as goal
use Rattle.spans.proofs.put_word.Goals.{else-v-lt65536-via-then-v-lt65536+else-in_bounds, else-v-lt65536-via-else-v-lt65536}

pub returns-then-in_bounds : goal.returns-then-in_bounds
returns-then-in_bounds c =
    let fits = bounds-in _ _ _ _ c.in_bounds.ensures c.if-in_bounds.true in
    let small = c.if-v-lt65536.true in
    part-paste _ _ _ _ _ (c.copy_from_slice.ensures.after ∙ c.to_be_bytes-word.ensures) refl
    ∙ word-paste _ _ _ small fits
    ∙ sym (stored-fits _ _ _ small fits)

pub returns-else-v-lt65536 : goal.returns-else-v-lt65536
returns-else-v-lt65536 c =
    elim c.else-v-lt65536.branch [
      | else-v-lt65536-via-then-v-lt65536+else-in_bounds w ↦ sym (stored-over _ _ _ w.if-v-lt65536.true (bounds-out _ _ _ _ w.in_bounds.ensures w.if-in_bounds.false))
      | else-v-lt65536-via-else-v-lt65536 w ↦ sym (stored-large _ _ _ w.if-v-lt65536.false)
    ]
