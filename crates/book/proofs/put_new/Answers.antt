use mathlib.Core.Path.{ap, ◌∙◌}
use Prim.Native.Nat.{ℕ}
use native.Mathlib.Omega.{arith}
use Rattle.contents.proofs.Judged.{Bytes}
use Rattle.forms.proofs.Forms.{other-low}
use Rattle.book.specs.Book.{ours}
use Rattle.book.specs.Edits.{swapped}
use Rattle.book.proofs.Calls.{Holds, holds-reads, opened-holds, permits}
use Rattle.book.proofs.Known.{held-past, held-within, low-offsets}
use Rattle.book.proofs.Putting.{New, put-app, put_full, put-swap, put-tight, twin-size}
use Rattle.book.proofs.put_new.Goals as goal

pub overflow_sub-e : goal.overflow_sub-e
overflow_sub-e c =
    let bytes : Bytes c.args.book.now = λ i. (c.slice_known-1.given i).fits in
    let known : Holds ours c.args.book.now = opened-holds ours _ 0 c.requires.0 in
    let new : New ours c.args.book.now c.args.frame.now c.args.slot c.other_form-twin.result c.offset-at.result c.word-e.result = let p = c.requires in
    let t = c.other_form-twin.ensures in
    record {
      own = p.1;
      small = p.2;
      among = omega (arith, p.2);
      absent = p.3;
      twin = t;
      twin-among = omega (arith, t, other-low _ p.2);
      stands = c.offset-at.ensures.0;
      ends = c.word-e.ensures.0;
    } in
    omega (arith, twin-size ours _ bytes known _ _ _ _ _ new c.if-at-ne0.true, c.size_of-old.ensures.0)

pub overflow_sub-book : goal.overflow_sub-book
overflow_sub-book c =
    let known : Holds ours c.args.book.now = opened-holds ours _ 0 c.requires.0 in
    let new : New ours c.args.book.now c.args.frame.now c.args.slot c.other_form-twin.result c.offset-at.result c.word-e.result = let p = c.requires in
    let t = c.other_form-twin.ensures in
    record {
      own = p.1;
      small = p.2;
      among = omega (arith, p.2);
      absent = p.3;
      twin = t;
      twin-among = omega (arith, t, other-low _ p.2);
      stands = c.offset-at.ensures.0;
      ends = c.word-e.ensures.0;
    } in
    let r = holds-reads ours _ known in
    omega (arith, r.low, r.high, new.ends)

pub swap-requires : goal.swap-requires
swap-requires c =
    let known : Holds ours c.args.book.now = opened-holds ours _ 0 c.requires.0 in
    let bytes : Bytes c.args.book.now = λ i. (c.slice_known-1.given i).fits in
    let new : New ours c.args.book.now c.args.frame.now c.args.slot c.other_form-twin.result c.offset-at.result c.word-e.result = let p = c.requires in
    let t = c.other_form-twin.ensures in
    record {
      own = p.1;
      small = p.2;
      among = omega (arith, p.2);
      absent = p.3;
      twin = t;
      twin-among = omega (arith, t, other-low _ p.2);
      stands = c.offset-at.ensures.0;
      ends = c.word-e.ensures.0;
    } in
    let h = known in
    let r = holds-reads ours _ h in
    let z = c.size_of-old.ensures in
    let past = held-past ours _ bytes h _ _ new.twin-among new.stands c.if-at-ne0.true in (
      past,
      omega (arith, past, z.1),
      omega (arith, held-within ours _ bytes h _ _ new.twin-among new.stands c.if-at-ne0.true, new.ends, z.0),
      omega (arith, r.high, new.ends),
      omega (arith, r.big),
      omega (arith, c.if-frame-book.false, twin-size ours _ bytes h _ _ _ _ _ new c.if-at-ne0.true, z.0, r.high, new.ends),
      new.among,
      low-offsets ours _ bytes h,
    )

pub returns-then-at-ne0 : goal.returns-then-at-ne0
returns-then-at-ne0 c =
    let bytes : Bytes c.args.book.now = λ i. (c.slice_known-1.given i).fits in
    let known : Holds ours c.args.book.now = opened-holds ours _ 0 c.requires.0 in
    let new : New ours c.args.book.now c.args.frame.now c.args.slot c.other_form-twin.result c.offset-at.result c.word-e.result = let p = c.requires in
    let t = c.other_form-twin.ensures in
    record {
      own = p.1;
      small = p.2;
      among = omega (arith, p.2);
      absent = p.3;
      twin = t;
      twin-among = omega (arith, t, other-low _ p.2);
      stands = c.offset-at.ensures.0;
      ends = c.word-e.ensures.0;
    } in
    let z = c.size_of-old.ensures.0 in
    let a = c.args in
    permits _ _ _ _
    (put-swap ours _ bytes known _ _ _ _ _ new c.if-at-ne0.true _
    (omega (arith, c.if-frame-book.false, z))
    (c.swap.ensures
    ∙ ap (λ (x : ℕ). swapped ours.slots a.book.now c.offset-at.result x a.frame.now a.slot c.word-e.result) z))

pub returns-then-frame-book : goal.returns-then-frame-book
returns-then-frame-book c =
    let bytes : Bytes c.args.book.now = λ i. (c.slice_known-1.given i).fits in
    let known : Holds ours c.args.book.now = opened-holds ours _ 0 c.requires.0 in
    let new : New ours c.args.book.now c.args.frame.now c.args.slot c.other_form-twin.result c.offset-at.result c.word-e.result = let p = c.requires in
    let t = c.other_form-twin.ensures in
    record {
      own = p.1;
      small = p.2;
      among = omega (arith, p.2);
      absent = p.3;
      twin = t;
      twin-among = omega (arith, t, other-low _ p.2);
      stands = c.offset-at.ensures.0;
      ends = c.word-e.ensures.0;
    } in
    permits _ _ _ _
    (put-tight ours _ bytes known _ _ _ _ _ new c.if-at-ne0.true (omega (arith, c.if-frame-book.true, c.size_of-old.ensures.0)))

pub overflow_sub-book-2 : goal.overflow_sub-book-2
overflow_sub-book-2 c =
    let known : Holds ours c.args.book.now = opened-holds ours _ 0 c.requires.0 in
    let new : New ours c.args.book.now c.args.frame.now c.args.slot c.other_form-twin.result c.offset-at.result c.word-e.result = let p = c.requires in
    let t = c.other_form-twin.ensures in
    record {
      own = p.1;
      small = p.2;
      among = omega (arith, p.2);
      absent = p.3;
      twin = t;
      twin-among = omega (arith, t, other-low _ p.2);
      stands = c.offset-at.ensures.0;
      ends = c.word-e.ensures.0;
    } in
    let r = holds-reads ours _ known in
    omega (arith, r.low, r.high, new.ends)

pub returns-then-frame-book-2 : goal.returns-then-frame-book-2
returns-then-frame-book-2 c =
    let bytes : Bytes c.args.book.now = λ i. (c.slice_known-1.given i).fits in
    let known : Holds ours c.args.book.now = opened-holds ours _ 0 c.requires.0 in
    let new : New ours c.args.book.now c.args.frame.now c.args.slot c.other_form-twin.result c.offset-at.result c.word-e.result = let p = c.requires in
    let t = c.other_form-twin.ensures in
    record {
      own = p.1;
      small = p.2;
      among = omega (arith, p.2);
      absent = p.3;
      twin = t;
      twin-among = omega (arith, t, other-low _ p.2);
      stands = c.offset-at.ensures.0;
      ends = c.word-e.ensures.0;
    } in
    permits _ _ _ _
    (put-app ours _ bytes known _ _ _ _ _ new c.if-at-ne0.false _ (omega arith) (omega (arith, c.if-frame-book-2.true))
    c.append.ensures)

pub returns : goal.returns
returns c =
    let bytes : Bytes c.args.book.now = λ i. (c.slice_known-1.given i).fits in
    let known : Holds ours c.args.book.now = opened-holds ours _ 0 c.requires.0 in
    let new : New ours c.args.book.now c.args.frame.now c.args.slot c.other_form-twin.result c.offset-at.result c.word-e.result = let p = c.requires in
    let t = c.other_form-twin.ensures in
    record {
      own = p.1;
      small = p.2;
      among = omega (arith, p.2);
      absent = p.3;
      twin = t;
      twin-among = omega (arith, t, other-low _ p.2);
      stands = c.offset-at.ensures.0;
      ends = c.word-e.ensures.0;
    } in
    permits _ _ _ _ (put_full ours _ bytes known _ _ _ _ _ new c.if-at-ne0.false (omega (arith, c.if-frame-book-2.false)))
