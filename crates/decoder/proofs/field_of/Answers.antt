-- The field lies in the frame and a word reaches it, so that a shift and a cut read it. Assumes nothing.
use Prim.Native.Nat.{ℕ, ◌+◌, ◌-◌, ◌*◌, ◌/◌, ◌%◌, ◌^◌, ◌≤◌, ◌<◌}
use mathlib.Core.Path.{◌≡◌, sym, ap, ◌∙◌}
use mathlib.Core.Bool.{false}
use native.Mathlib.Omega.{arith}
use Rattle.frame.specs.declared.Field.{Field}
use Rattle.frame.specs.Field.{size, read, Sound}
use Rattle.frame.specs.Layout.{bytes}
use Rattle.table.specs.Number.{narrow_of}
use Rattle.decoder.specs.Words.{first_word, last_word}
use Rattle.decoder.proofs.Words.{reached-most, reached-sound, reached-high, reached-first, read_none, read_first, read-last}
use Rattle.decoder.proofs.field_of.Goals as goal

-- what the field reads, by its number
by_number : (c : ℕ) (f : Field) (b : ℕ → ℕ) → f ≡ narrow_of c → (x : ℕ) → x ≡ read f b → x ≡ read (narrow_of c) b
by_number c f b e x h = h ∙ ap (λ (g : Field). read g b) e

pub returns-then-f-eq0 : goal.returns-then-f-eq0
returns-then-f-eq0 c =
    by_number _ _ _ c.narrow_field-f.ensures _ (read_none _ _ c.if-f-eq0.true)

pub overflow_add-end-2 : goal.overflow_add-end-2
overflow_add-end-2 c =
    let lies : Sound c.args.n c.narrow_field-f.result = reached-sound c.args.n c.args.number _ c.narrow_field-f.ensures c.requires.2 in
    let few : c.args.n ≤ 12 = reached-most c.args.n c.args.number _ c.narrow_field-f.ensures c.requires.2 in
    omega (arith, lies.ends, few)

pub overflow_sub-shift : goal.overflow_sub-shift
overflow_sub-shift c =
    let lies : Sound c.args.n c.narrow_field-f.result = reached-sound c.args.n c.args.number _ c.narrow_field-f.ensures c.requires.2 in
    omega (arith, lies.ends)

pub overflow_mul-shift : goal.overflow_mul-shift
overflow_mul-shift c =
    let few : c.args.n ≤ 12 = reached-most c.args.n c.args.number _ c.narrow_field-f.ensures c.requires.2 in
    omega (arith, few)

pub overflow_add-shift : goal.overflow_add-shift
overflow_add-shift c =
    let few : c.args.n ≤ 12 = reached-most c.args.n c.args.number _ c.narrow_field-f.ensures c.requires.2 in
    let lies : Sound c.args.n c.narrow_field-f.result = reached-sound c.args.n c.args.number _ c.narrow_field-f.ensures c.requires.2 in
    omega (arith, few, lies.within)

pub overflow_add-shift-2 : goal.overflow_add-shift-2
overflow_add-shift-2 c =
    let few : c.args.n ≤ 12 = reached-most c.args.n c.args.number _ c.narrow_field-f.ensures c.requires.2 in
    let lies : Sound c.args.n c.narrow_field-f.result = reached-sound c.args.n c.args.number _ c.narrow_field-f.ensures c.requires.2 in
    omega (arith, few, lies.within, lies.wide)

pub returns-then-shift-f-le64 : goal.returns-then-shift-f-le64
returns-then-shift-f-le64 c =
    let lies : Sound c.args.n c.narrow_field-f.result = reached-sound c.args.n c.args.number _ c.narrow_field-f.ensures c.requires.2 in
    let high : c.narrow_field-f.result.le ≡ false = reached-high c.args.n c.args.number _ c.narrow_field-f.ensures
    c.requires.2 (omega (arith, c.if-f-eq0.false)) (omega (arith, c.if-f-gt63.false)) in
    let f = c.narrow_field-f.result in
    let b = bytes c.args.frame.now in
    let shift = 8 * (c.args.n - (f.first + size f)) + f.lo in
    by_number _ _ _ c.narrow_field-f.ensures _
    (c.bits_of.ensures
    ∙ ap (λ (x : ℕ). x / 2 ^ shift % 2 ^ f.w) (c.requires.1.last-is ∙ ap (λ (m : ℕ). last_word m b) (sym c.requires.0))
    ∙ sym (read-last c.args.n f lies high b (λ j. omega (arith, c.type_inv.frame j)) c.args.n lies.ends
    (omega (arith, c.if-shift-f-le64.true))))

pub overflow_sub-end : goal.overflow_sub-end
overflow_sub-end c =
    let front = reached-first c.args.n c.args.number _ c.narrow_field-f.ensures c.requires.2 (omega (arith, c.if-f-eq0.false))
    (omega (arith, c.if-f-gt63.false)) (omega (arith, c.if-shift-f-le64.false)) in
    omega (arith, front.1)

pub overflow_add-end-3 : goal.overflow_add-end-3
overflow_add-end-3 c =
    let lies : Sound c.args.n c.narrow_field-f.result = reached-sound c.args.n c.args.number _ c.narrow_field-f.ensures c.requires.2 in
    omega (arith, lies.within)

pub bits_of-requires-2 : goal.bits_of-requires-2
bits_of-requires-2 c =
    let front = reached-first c.args.n c.args.number _ c.narrow_field-f.ensures c.requires.2 (omega (arith, c.if-f-eq0.false))
    (omega (arith, c.if-f-gt63.false)) (omega (arith, c.if-shift-f-le64.false)) in
    let lies : Sound c.args.n c.narrow_field-f.result = reached-sound c.args.n c.args.number _ c.narrow_field-f.ensures c.requires.2 in
    (omega (arith, front.1, lies.within, c.if-f-eq0.false), omega (arith, c.if-f-gt63.false))

pub returns : goal.returns
returns c =
    let lies : Sound c.args.n c.narrow_field-f.result = reached-sound c.args.n c.args.number _ c.narrow_field-f.ensures c.requires.2 in
    let high : c.narrow_field-f.result.le ≡ false = reached-high c.args.n c.args.number _ c.narrow_field-f.ensures
    c.requires.2 (omega (arith, c.if-f-eq0.false)) (omega (arith, c.if-f-gt63.false)) in
    let front = reached-first c.args.n c.args.number _ c.narrow_field-f.ensures c.requires.2 (omega (arith, c.if-f-eq0.false))
    (omega (arith, c.if-f-gt63.false)) (omega (arith, c.if-shift-f-le64.false)) in
    let f = c.narrow_field-f.result in
    let b = bytes c.args.frame.now in
    by_number _ _ _ c.narrow_field-f.ensures _
    (c.bits_of-2.ensures
    ∙ ap (λ (x : ℕ). x / 2 ^ (8 * (8 - (f.first + size f)) + f.lo) % 2 ^ f.w) (c.requires.1.first-is ∙ ap (λ (m : ℕ). first_word m b) (sym c.requires.0))
    ∙ sym (read_first c.args.n f lies high b (λ j. omega (arith, c.type_inv.frame j)) c.args.n front.1 front.0))
