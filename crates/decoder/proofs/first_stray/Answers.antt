-- The loop's invariant: the bytes before i are clean, so what is looked for stands from i on. Assumes nothing.
use mathlib.Core.Path.{refl, ap, ◌∙◌}
use mathlib.Core.List.{List}
use Prim.Native.Nat.{ℕ}
use native.Mathlib.Omega.{arith}
use lib.ListN.{length}
use Rattle.table.specs.Table.{row_at}
use Rattle.table.proofs.Rows.{row-ready}
use Rattle.decoder.specs.Words.{held_byte}
use Rattle.decoder.proofs.Stray.{stray-past}
use Rattle.decoder.proofs.Clean.{byte-stray, byte-clean}
use Rattle.decoder.proofs.first_stray.Invariants.{masks}
use Rattle.decoder.proofs.first_stray.Goals as goal

pub held_byte-requires : goal.held_byte-requires
held_byte-requires c =
    (omega arith, omega (arith, c.requires.1, (row-ready c.args.place (row_at c.args.place) refl c.requires.0).most))

pub returns-then-b-held_byte : goal.returns-then-b-held_byte
returns-then-b-held_byte c =
    let i = c.loop-i.i in
    let r = row-ready c.args.place (row_at c.args.place) refl c.requires.0 in
    let x = c.held_byte.ensures ∙ ap (λ (h : List ℕ). held_byte h (length c.args.frame.now) i) c.held_at-held.ensures in
    let z = byte-stray (row_at c.args.place) c.args.frame.now r c.requires.1 i (omega arith) _ _ c.from-b.ensures x
    c.if-b-held_byte.true in
    omega (arith, z)

pub loop-i-preserved : goal.loop-i-preserved
loop-i-preserved c =
    let i = c.loop-i.i in
    let r = row-ready c.args.place (row_at c.args.place) refl c.requires.0 in
    let x = c.held_byte.ensures ∙ ap (λ (h : List ℕ). held_byte h (length c.args.frame.now) i) c.held_at-held.ensures in
    let z = byte-clean (row_at c.args.place) c.args.frame.now r c.requires.1 i (omega arith) _ _ c.from-b.ensures x
    c.if-b-held_byte.false in
    (omega arith, omega (arith, z))

pub returns : goal.returns
returns c =
    let a = c.args in
    omega (arith, stray-past (masks a.place a.frame.now) a.frame.now c.loop-i.i (omega arith))
