-- `frame` meets its contract: the part has room for any line of a dump, and holds this one.
-- Assumes nothing.
use mathlib.Core.Path.{sym, ap}
use mathlib.Core.List.{List, ◌∷◌, ◌++◌}
use Prim.Native.Nat.{ℕ}
use native.Mathlib.Omega.{arith}
use borrow.Author.Rules.{rules}
use lib.ListN.{replicate}
use Rattle.texts.specs.Words.{word}
use Rattle.texts.proofs.Writing.{puts_then, puts-as, puts_whole, short-whole, laid-part}
use Rattle.dump_text.specs.Parts as dump
use Rattle.dump_text.specs.Text.{line_of}
use Rattle.report.specs.Report.{frame_text}
use Rattle.report.specs.Lengths.{longest_line}
use Rattle.report.proofs.Longest.{frame-most}
use Rattle.report.proofs.frame.Goals as goal

pub returns : goal.returns
unfolding frame_text
returns c =
    let said = c.line-n.ensures in
    let line = sym (laid-part (line_of _ _) (replicate 64 0) dump.longest said.value said.out_after (omega arith)) in
    let put = puts_then c.put_text-to.ensures c.put_text.ensures in
    let whole = puts_whole longest_line (frame-most _ _) (omega arith) (puts-as _ (ap (λ (l : List ℕ). word "frame" ++ (32 ∷ l)) line) put) in
    record { value = whole.0; out_after = whole.1.0; upper_bound = whole.1.1 }
