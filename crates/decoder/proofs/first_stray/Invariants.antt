-- The loop's invariant: the bytes before i are clean, so what is looked for stands from i on. Assumes nothing.
use mathlib.Core.Path.{◌≡◌}
use mathlib.Core.List.{List}
use Prim.Native.Nat.{ℕ, ◌+◌, ◌≤◌}
use lib.ListN.{length, drop}
use Rattle.frame.specs.Layout.{tab, mask_of}
use Rattle.table.specs.Table.{row_at}
use Rattle.table.specs.Narrowed.{fields_of}
use Rattle.decoder.specs.Decoding.{stray, stray_at}
use Rattle.decoder.proofs.first_stray.Given as goal

abbrev pub masks : ℕ → List ℕ → List ℕ
masks place f = tab (length f) (mask_of (fields_of (row_at place)))

abbrev pub invariant-loop-i : goal.invariant-loop-i
invariant-loop-i l = (l.i ≤ length l.frame) × (stray_at (row_at l.place) l.frame ≡ l.i + stray (drop l.i (masks l.place l.frame)) (drop l.i l.frame))
