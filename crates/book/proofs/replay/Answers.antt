use lib.ListN.{get_or}
use mathlib.Core.Path.{ap, refl, sym, ◌∙◌}
use Prim.Native.Nat.{ℕ}
use native.Mathlib.Omega.{arith}
use Rattle.contents.specs.Contents.{frames_from, start}
use Rattle.contents.proofs.Judged.{Bytes}
use Rattle.book.specs.Book.{Read, layout_in, verdict}
use Rattle.book.specs.Edits.{reel_from}
use Rattle.book.proofs.Calls.{Holds, holds-reads, opened-holds, tells}
use Rattle.book.proofs.Versions.{Serves, opened_for-serves, tells-for, handed-on}
use Rattle.book.proofs.Telling.{replay-done, replay-short}
use Rattle.book.proofs.replay.Goals as goal

pub returns-in_err-ready_to_read : goal.returns-in_err-ready_to_read
returns-in_err-ready_to_read c = tells _ _ _ _ (handed-on _ _ _ Read _ _ _ c.ready_to_read.ensures c.in_err-ready_to_read.was c.from_residual.ensures.1)

pub bounds-book-1 : goal.bounds-book-1
bounds-book-1 c =
    let serving : let b = c.args.book.now in Serves Read (layout_in b) b = opened_for-serves _ _ Read (sym c.in_ok-ready_to_read.was ∙ c.ready_to_read.ensures) in
    let known : let b = c.args.book.now in Holds (layout_in b) b = opened-holds _ _ _ (sym c.in_ok-ready_to_read.was ∙ c.ready_to_read.ensures ∙ ap verdict serving.opens) in
    omega (arith, (holds-reads _ _ known).small)

pub overflow_sub-total : goal.overflow_sub-total
overflow_sub-total c =
    let serving : let b = c.args.book.now in Serves Read (layout_in b) b = opened_for-serves _ _ Read (sym c.in_ok-ready_to_read.was ∙ c.ready_to_read.ensures) in
    let known : let b = c.args.book.now in Holds (layout_in b) b = opened-holds _ _ _ (sym c.in_ok-ready_to_read.was ∙ c.ready_to_read.ensures ∙ ap verdict serving.opens) in
    omega (arith, (holds-reads _ _ known).low, c.word-e.ensures.0, c.slots_in-slots.ensures.0)

pub write_reel-requires : goal.write_reel-requires
write_reel-requires c =
    let serving : let b = c.args.book.now in Serves Read (layout_in b) b = opened_for-serves _ _ Read (sym c.in_ok-ready_to_read.was ∙ c.ready_to_read.ensures) in
    let known : let b = c.args.book.now in Holds (layout_in b) b = opened-holds _ _ _ (sym c.in_ok-ready_to_read.was ∙ c.ready_to_read.ensures ∙ ap verdict serving.opens) in
    let b = c.args.book.now in
    let r = holds-reads _ _ known in
    let m = c.slots_in-slots.ensures.0 in (
      omega (arith, r.low, m),
      omega (arith, r.high),
      omega arith,
      rw m (record {
        frames = known.frames;
        reads = ap (λ (e : ℕ). frames_from (layout_in b).slots (get_or b 1 0) b (start (layout_in b).slots) e)
            c.word-e.ensures.0 ∙ r.tiled;
      }),
    )

pub returns-then-total-out : goal.returns-then-total-out
returns-then-total-out c =
    let serving : let b = c.args.book.now in Serves Read (layout_in b) b = opened_for-serves _ _ Read (sym c.in_ok-ready_to_read.was ∙ c.ready_to_read.ensures) in
    let bytes : Bytes c.args.book.now = λ i. (c.shared_slice_known-1.given i).fits in
    let known : let b = c.args.book.now in Holds (layout_in b) b = opened-holds _ _ _ (sym c.in_ok-ready_to_read.was ∙ c.ready_to_read.ensures ∙ ap verdict serving.opens) in
    let a = c.args in
    let w = c.word-e in
    let m = c.slots_in-slots.ensures.0 in
    rw m
    (tells-for _ _ _ Read _ serving _ _ _
    (replay-done _ _ bytes known _ _ _ refl w.ensures.0 _ (omega (arith, m, c.if-total-out.true))
    (c.write_reel.ensures
    ∙ ap (λ (x : ℕ). reel_from x (get_or a.book.now 1 0) a.book.now (start x) w.result 0 a.out.now) m)))

pub returns : goal.returns
returns c =
    let serving : let b = c.args.book.now in Serves Read (layout_in b) b = opened_for-serves _ _ Read (sym c.in_ok-ready_to_read.was ∙ c.ready_to_read.ensures) in
    let bytes : Bytes c.args.book.now = λ i. (c.shared_slice_known-1.given i).fits in
    let known : let b = c.args.book.now in Holds (layout_in b) b = opened-holds _ _ _ (sym c.in_ok-ready_to_read.was ∙ c.ready_to_read.ensures ∙ ap verdict serving.opens) in
    tells-for _ _ _ Read _ serving _ _ _
    (replay-short _ _ bytes known _ _ _ refl c.word-e.ensures.0
    (omega (arith, c.slots_in-slots.ensures.0, c.if-total-out.false)))
