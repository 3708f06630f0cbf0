use mathlib.Core.List.{[]}
use mathlib.Core.Path.{ap, sym, ◌∙◌, ◌≡◌}
use Prim.Native.Nat.{ℕ, ◌+◌, ◌-◌, ◌≤◌}
use native.Mathlib.Omega.{arith}
use lib.ListN.{drop, length, take}
use Rattle.settings.specs.Settings.{size_of}
use Rattle.contents.specs.Contents.{offset_for}
use Rattle.contents.proofs.Judged.{Bytes}
use Rattle.book.specs.Book.{Read, layout_in, verdict}
use Rattle.book.proofs.Calls.{Holds, opened-holds, tells}
use Rattle.book.proofs.Versions.{Serves, opened_for-serves, tells-for, handed-on}
use Rattle.book.proofs.Telling.{ask-absent, ask-done, ask-inside, ask-none, ask-short}
use Rattle.book.proofs.ask.Goals as goal

pub returns-in_err-ready_to_read : goal.returns-in_err-ready_to_read
returns-in_err-ready_to_read c = tells _ _ _ _ (handed-on _ _ _ Read _ _ _ c.ready_to_read.ensures c.in_err-ready_to_read.was c.from_residual.ensures.1)

pub returns-then-at-eq0 : goal.returns-then-at-eq0
returns-then-at-eq0 c =
    let serving : let b = c.args.book.now in Serves Read (layout_in b) b = opened_for-serves _ _ Read (sym c.in_ok-ready_to_read.was ∙ c.ready_to_read.ensures) in
    let bytes : Bytes c.args.book.now = λ i. (c.shared_slice_known-1.given i).fits in
    let known : let b = c.args.book.now in Holds (layout_in b) b = opened-holds _ _ _ (sym c.in_ok-ready_to_read.was ∙ c.ready_to_read.ensures ∙ ap verdict serving.opens) in
    let stands : let b = c.args.book.now in c.offset_for-at.result ≡ offset_for (layout_in b).slots b c.slot_for-slot.result = let b = c.args.book.now in
    c.offset_for-at.ensures.0 ∙ ap (λ (m : ℕ). offset_for m b c.slot_for-slot.result) c.slots_in.ensures.0 in
    tells-for _ _ _ Read _ serving _ _ _ (ask-absent _ _ bytes known _ _ _ c.slot_for-slot.ensures c.if-slot-ge-SETTINGS.false _
    stands c.if-at-eq0.true)

pub slice_bounds-write-end : goal.slice_bounds-write-end
slice_bounds-write-end c =
    let bytes : Bytes c.args.book.now = λ i. (c.shared_slice_known-1.given i).fits in
    let serving : let b = c.args.book.now in Serves Read (layout_in b) b = opened_for-serves _ _ Read (sym c.in_ok-ready_to_read.was ∙ c.ready_to_read.ensures) in
    let known : let b = c.args.book.now in Holds (layout_in b) b = opened-holds _ _ _ (sym c.in_ok-ready_to_read.was ∙ c.ready_to_read.ensures ∙ ap verdict serving.opens) in
    let stands : let b = c.args.book.now in c.offset_for-at.result ≡ offset_for (layout_in b).slots b c.slot_for-slot.result = let b = c.args.book.now in
    c.offset_for-at.ensures.0 ∙ ap (λ (m : ℕ). offset_for m b c.slot_for-slot.result) c.slots_in.ensures.0 in
    let inside : c.offset_for-at.result + size_of c.slot_for-slot.result ≤ length c.args.book.now = ask-inside _ _ bytes known [] _ _ c.slot_for-slot.ensures c.if-slot-ge-SETTINGS.false _ stands c.if-at-eq0.false in
    omega (arith, inside, c.size_of-n.ensures.0)

pub returns : goal.returns
returns c =
    let serving : let b = c.args.book.now in Serves Read (layout_in b) b = opened_for-serves _ _ Read (sym c.in_ok-ready_to_read.was ∙ c.ready_to_read.ensures) in
    let bytes : Bytes c.args.book.now = λ i. (c.shared_slice_known-1.given i).fits in
    let known : let b = c.args.book.now in Holds (layout_in b) b = opened-holds _ _ _ (sym c.in_ok-ready_to_read.was ∙ c.ready_to_read.ensures ∙ ap verdict serving.opens) in
    let stands : let b = c.args.book.now in c.offset_for-at.result ≡ offset_for (layout_in b).slots b c.slot_for-slot.result = let b = c.args.book.now in
    c.offset_for-at.ensures.0 ∙ ap (λ (m : ℕ). offset_for m b c.slot_for-slot.result) c.slots_in.ensures.0 in
    let inside : c.offset_for-at.result + size_of c.slot_for-slot.result ≤ length c.args.book.now = ask-inside _ _ bytes known [] _ _ c.slot_for-slot.ensures c.if-slot-ge-SETTINGS.false _ stands c.if-at-eq0.false in
    let b = c.args.book.now in
    let at = c.offset_for-at.result in
    rw c.size_of-n.ensures.0
    (tells-for _ _ _ Read _ serving _ _ _
    (ask-done _ _ bytes known _ _ _ c.slot_for-slot.ensures c.if-slot-ge-SETTINGS.false _ stands c.if-at-eq0.false _ _ inside
    (omega (arith, c.if-n-out.false))
    (ap (λ (x : ℕ). take (at + x - at) (drop at b)) c.size_of-n.ensures.0) c.write.ensures))

pub returns-then-n-out : goal.returns-then-n-out
returns-then-n-out c =
    let serving : let b = c.args.book.now in Serves Read (layout_in b) b = opened_for-serves _ _ Read (sym c.in_ok-ready_to_read.was ∙ c.ready_to_read.ensures) in
    let bytes : Bytes c.args.book.now = λ i. (c.shared_slice_known-1.given i).fits in
    let known : let b = c.args.book.now in Holds (layout_in b) b = opened-holds _ _ _ (sym c.in_ok-ready_to_read.was ∙ c.ready_to_read.ensures ∙ ap verdict serving.opens) in
    let stands : let b = c.args.book.now in c.offset_for-at.result ≡ offset_for (layout_in b).slots b c.slot_for-slot.result = let b = c.args.book.now in
    c.offset_for-at.ensures.0 ∙ ap (λ (m : ℕ). offset_for m b c.slot_for-slot.result) c.slots_in.ensures.0 in
    let inside : c.offset_for-at.result + size_of c.slot_for-slot.result ≤ length c.args.book.now = ask-inside _ _ bytes known [] _ _ c.slot_for-slot.ensures c.if-slot-ge-SETTINGS.false _ stands c.if-at-eq0.false in
    tells-for _ _ _ Read _ serving _ _ _ (ask-short _ _ bytes known _ _ _ c.slot_for-slot.ensures c.if-slot-ge-SETTINGS.false _
    stands c.if-at-eq0.false inside (omega (arith, c.if-n-out.true, c.size_of-n.ensures.0)))

pub returns-then-slot-ge-SETTINGS : goal.returns-then-slot-ge-SETTINGS
returns-then-slot-ge-SETTINGS c =
    let serving : let b = c.args.book.now in Serves Read (layout_in b) b = opened_for-serves _ _ Read (sym c.in_ok-ready_to_read.was ∙ c.ready_to_read.ensures) in
    let bytes : Bytes c.args.book.now = λ i. (c.shared_slice_known-1.given i).fits in
    let known : let b = c.args.book.now in Holds (layout_in b) b = opened-holds _ _ _ (sym c.in_ok-ready_to_read.was ∙ c.ready_to_read.ensures ∙ ap verdict serving.opens) in
    tells-for _ _ _ Read _ serving _ _ _ (ask-none _ _ bytes known _ _ _ c.slot_for-slot.ensures c.if-slot-ge-SETTINGS.true)
