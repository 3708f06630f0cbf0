-- A call that gives C a refusal leaves every buffer that it was lent as it was (REFERENCE, "Refusals").
-- Assumes nothing.
use mathlib.Core.Path.{◌≡◌, ap, refl}
use mathlib.Core.List.{List}
use Prim.Native.Nat.{ℕ, ◌<◌}
use native.Mathlib.Omega.{arith}
use mathlib.Core.Logic.{◌⊎◌, inl, inr}
use lib.ListN.{length}
use Rattle.std.specs.Prelude.{Result, Ok, Err}
use Rattle.refusal.specs.declared.Refusal.{Refusal}
use Rattle.refusal.specs.declared.Refusal.TheVariants.{BufferSize, TraceFault}
use Rattle.refusal.specs.Numbers.{number_of}
use Rattle.dump_text.specs.Whole.{dumped, filled}
use Rattle.dump_text.proofs.Keeps.{refused-keeps as dump-keeps}
use Rattle.book.specs.Plain.{Answer}
use Rattle.std.specs.Prelude.{Ok, Err}
use Rattle.book.specs.History.{Call, after}
use Rattle.contents.proofs.Judged.{Bytes}
use Rattle.book.proofs.Keeps.{lent_to, refused-keeps}
use Rattle.owners.specs.Owners.{OwnerTable}
use Rattle.sides.specs.Calls.{Request, side_call}
use Rattle.sides.proofs.Keeps.{side-keeps}
use Rattle.std.specs.Prelude.{Result, Ok, Err}
use Rattle.refusal.specs.declared.Refusal.{Refusal}
use Rattle.bank_widths.specs.Lists.{found, found_in}
use Rattle.bank_widths.proofs.Laws.{found-keeps}
use Rattle.playback.specs.Plays.{plays}
use Rattle.playback.proofs.Laws.{play-keeps as day-keeps}
use Rattle.hoardbutton.specs.Answers.{answer_c}
use Rattle.hoardbutton.specs.Plays.{day_c, refusal_in}
use Rattle.hoardbutton.specs.Reels.{text_c}

-- `hb_level_text`, `hb_snr_text`, `hb_dump`
pub text-keeps : (text out : List ℕ) → 0 < (text_c text out).refusal → filled text out ≡ out
text-keeps text out = by (dumped text out) refl
  where
    by : (d : Result ℕ Refusal) → dumped text out ≡ d → 0 < (answer_c d).refusal → filled text out ≡ out
    by (Ok n) e q = absurd (omega arith)
    by (Err x) e q = dump-keeps text out x e

-- `hb_book_make` and its like
pub book-keeps : (c : Call) (b : List ℕ) → Bytes b → 0 < (answer_c (after c b).answer).refusal → ((after c b).output ≡ lent_to c) × ((after c b).bytes ≡ b)
book-keeps c b B = by (after c b).answer refl
  where
    by : (a : Answer) → (after c b).answer ≡ a → 0 < (answer_c a).refusal → ((after c b).output ≡ lent_to c) × ((after c b).bytes ≡ b)
    by (Ok n) e q = absurd (omega arith)
    by (Err x) e q = refused-keeps c b B x e

-- `hb_side_put` and its like
pub shared_keeps : (t : OwnerTable) (w : ℕ) (c : Request) (o b : List ℕ) → Bytes b → 0 < (answer_c (side_call t w c o b).answer).refusal
    → ((side_call t w c o b).output ≡ o) × ((side_call t w c o b).bytes ≡ b)
shared_keeps t w c o b B = by (side_call t w c o b).answer refl
  where
    by : (a : Answer) → (side_call t w c o b).answer ≡ a → 0 < (answer_c a).refusal
        → ((side_call t w c o b).output ≡ o) × ((side_call t w c o b).bytes ≡ b)
    by (Ok n) e q = absurd (omega arith)
    by (Err x) e q = side-keeps t w c o b B x e

-- `hb_widths_find`
pub codes-keep : (ns out : List ℕ) → 0 < (answer_c (found ns (length out))).refusal → found_in ns out ≡ out
codes-keep ns out = by (found ns (length out)) refl
  where
    by : (a : Result ℕ Refusal) → found ns (length out) ≡ a → 0 < (answer_c a).refusal → found_in ns out ≡ out
    by (Ok n) e q = absurd (omega arith)
    by (Err x) e q = found-keeps ns out x e

-- `hb_play`: by its own refusal, 11, nothing is altered. By 15 the book is that of the records before the fault: the one refusal that alters.
pub play-keeps : (t b : List ℕ) → (day_c (plays t b).played).refusal ≡ 11 → (plays t b).bytes ≡ b
play-keeps t b = by (plays t b).played.answer refl
  where
    by : (a : Answer) → (plays t b).played.answer ≡ a → refusal_in a ≡ 11 → (plays t b).bytes ≡ b
    by (Ok n) e q = absurd (omega (arith, q))
    by (Err x) e q = own (day-keeps t b x e)
      where
        own : ((x ≡ BufferSize) × ((plays t b).bytes ≡ b)) ⊎ ((p : ℕ) × (x ≡ TraceFault p)) → (plays t b).bytes ≡ b
        own (inl k) = k.1
        own (inr k) = absurd (let n : number_of x ≡ 15 = ap number_of k.1 in omega (arith, n, q))
