-- Each return says what the specification says; a frame that is not good is refused by a stray bit, or else by a field. Assumes nothing.
use mathlib.Core.Path.{◌≡◌, refl, sym, ap, ◌∙◌, subst}
use mathlib.Core.Bool.{true, false, ◌&&◌}
use mathlib.Core.List.{List}
use Prim.Native.Nat.{ℕ, ◌+◌, ◌≤◌}
use native.Mathlib.Omega.{arith}
use lib.Dec.{T}
use lib.ListN.{length}
use Rattle.frame.specs.Layout.{bytes}
use Rattle.table.specs.Table.{row_at, count_of, numbers_of}
use Rattle.table.specs.Narrowed.{Ready}
use Rattle.table.proofs.Rows.{row-ready}
use Rattle.decoder.specs.Words.{clean_frame, all_taken}
use Rattle.decoder.specs.Decoding.{stray_at, decoded}
use Rattle.decoder.proofs.Arms.{row-whole, row-starts, and_left, and_right, and_none, judged-lacking}
use Rattle.decoder.proofs.Clean.{frame-clean, clean-frame, start_below, none-lacking}
use Rattle.decoder.proofs.Returns.{judged-stray, decoded-kind}
use Rattle.decoder.proofs.judge.Goals as goal

pub returns-then-read_row : goal.returns-then-read_row
returns-then-read_row c =
    let good : Ready (row_at c.args.i) = row-ready c.args.i _ refl c.requires.0 in
    let f = c.args.frame.now in
    let i = c.args.i in
    let x = clean_frame (row_at i) f in
    let y = all_taken (numbers_of (row_at i)) (bytes f) in
    let e : (x && y) ≡ true = sym c.read_row.ensures.0 ∙ c.if-read_row.true in
    let clean = frame-clean (row_at i) f good c.requires.1 (λ j. omega (arith, c.shared_slice_known-1.given j)) (and_left x y e) in
    decoded-kind (row_at i) f (row-whole i c.requires.0) good (omega (arith, clean)) _ (length f) c.read_row.ensures.1
    (none-lacking (row_at i) (row-whole i c.requires.0) good f _ true refl (sym (and_right x y e)) c.read_row.ensures.1) (i + 1)
    c.count_at.result (omega arith) c.count_at.ensures

pub returns-then-p-frame : goal.returns-then-p-frame
unfolding decoded
returns-then-p-frame c =
    ap decoded (sym (judged-stray (row_at c.args.i) c.args.frame.now (c.args.i + 1) c.first_stray-p.result c.first_stray-p.ensures
    c.if-p-frame.true))

pub first_lacking-requires : goal.first_lacking-requires
first_lacking-requires c =
    let good : Ready (row_at c.args.i) = row-ready c.args.i _ refl c.requires.0 in
    subst (λ (r : List ℕ). count_of r ≤ 9) (sym c.row_at.ensures) good.few

pub returns : goal.returns
unfolding decoded
returns c =
    let good : Ready (row_at c.args.i) = row-ready c.args.i _ refl c.requires.0 in
    let w = c.row_at in
    let f = c.args.frame.now in
    let i = c.args.i in
    let r = row_at i in
    let clean : length f ≤ stray_at r f = omega (arith, c.first_stray-p.ensures, c.if-p-frame.false) in
    let x = clean_frame r f in
    let y = all_taken (numbers_of r) (bytes f) in
    let e : (x && y) ≡ false = sym c.read_row.ensures.0 ∙ c.if-read_row.false in
    let t : y ≡ false =
    and_none x y (clean-frame r f good c.requires.1 (λ j. omega (arith, c.shared_slice_known-1.given j)) clean) e in
    ap decoded (sym (judged-lacking r f (row-whole i c.requires.0) good clean (subst (λ (m : ℕ). T (start_below m (numbers_of r)))
    c.requires.1 (row-starts i c.requires.0))
    t _ c.read_row.ensures.1 _ w.ensures _ c.first_lacking.ensures (i + 1)))
