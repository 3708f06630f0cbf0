-- What a book's list can be, whatever the calls were: one frame for each kind (`history-single`) and one form of each setting
-- (`history-forms`); so it always opens (`history-opens`), a full book's bytes hold all (`history-most`, `never-full`), and
-- the longest reel's take any replay (`replay-most`). `book-sizes` has the numbers.
-- Assumes nothing.
use mathlib.Core.Path.{ap, refl, sym, ◌∙◌, ◌≡◌}
use mathlib.Core.Bool.{Bool, cond, false, false≢true, true}
use mathlib.Core.List.{List, [], ◌∷◌}
use Prim.Native.Nat.{ℕ, ◌+◌, ◌<◌, ◌≤◌}
use native.Mathlib.Nat.{le_refl}
use native.Mathlib.Omega.{arith}
use borrow.Author.Tests.{eqb-true, eq-eqb}
use lib.Dec.{eqb}
use lib.ListN.{length}
use Rattle.decoder.specs.Decoding.{Reading, decode, reading, refuses}
use Rattle.table.specs.Table.{settings}
use Rattle.settings.specs.Settings.{slot_for, slot_in, slot_of}
use Rattle.settings.proofs.Settings.{slot-zero}
use Rattle.contents.specs.Frames.{flat, held}
use Rattle.contents.specs.Contents.{Layout, holds, longest, room_of, start}
use Rattle.contents.proofs.Shape.{Sound}
use Rattle.reel.specs.Reel.{reel_of}
use Rattle.forms.specs.Forms.{most_bytes, most_frames}
use Rattle.forms.proofs.Forms.{OneForm}
use Rattle.forms.proofs.Most.{most_bytes_lem, most-frames}
use Rattle.std.specs.Prelude.{Ok}
use Rattle.book.specs.Plain.{Turn, become, placed, put_on}
use Rattle.book.specs.Book.{Outcome, Use, full_book, longest_reel, opened, opened_for, ours}
use Rattle.book.specs.History.{BytesRun, Call, Make, Put, after, on_bytes, on_list, turn}
use Rattle.book.proofs.Kept.{Kept, empty-kept, opened-kept, turns-kept}
use Rattle.book.proofs.History.{after-image, history-ours, opened_for-image}
use Rattle.book.proofs.Laws.{setting-fits}
use Rattle.book.proofs.Telling.{reel-length}

-- ---- the numbers

-- Where a made book's frames start, the most bytes that a buffer has, the most bytes and frames of a list, and with them the full book and the longest
-- reel (REFERENCE, "Book").
pub book-sizes : (ours.version ≡ 1) × (start ours.slots ≡ 62) × (longest ≡ 4096) × (most_bytes ≡ 169) × (most_frames ≡ 26) × (full_book ≡ 231)
    × (longest_reel ≡ 195)
book-sizes = (refl, refl, refl, refl, refl, refl, refl)

-- ---- one frame for each kind

-- a frame's kind; 0 where it does not decode
abbrev pub kind_in : Reading → ℕ
kind_in (reading k vs) = k
kind_in (refuses x) = 0

-- how many frames of a list are of a kind
unfoldable pub of_kind : ℕ → List (List ℕ) → ℕ
of_kind k [] = 0
of_kind k (f ∷ fs) = cond (eqb (kind_in (decode f)) k) 1 0 + of_kind k fs

slot-kind : (f : List ℕ) → slot_of f ≡ slot_for (kind_in (decode f))
unfolding slot_of
slot-kind f = go (decode f)
  where
    go : (x : Reading) → slot_in x ≡ slot_for (kind_in x)
    go (reading k vs) = refl
    go (refuses x) = slot-zero

none-kind : (k : ℕ) (fs : List (List ℕ)) → held (slot_for k) fs ≡ false → of_kind k fs ≡ 0
unfolding held of_kind
none-kind k [] h = refl
none-kind k (f ∷ fs) h = go (none-kind k fs) (eqb (kind_in (decode f)) k) refl (eqb (slot_of f) (slot_for k)) refl h
  where
    go : (held (slot_for k) fs ≡ false → of_kind k fs ≡ 0) → (t : Bool) → eqb (kind_in (decode f)) k ≡ t → (u : Bool) → eqb (slot_of f) (slot_for k) ≡ u
        → cond u true (held (slot_for k) fs) ≡ false → cond t 1 0 + of_kind k fs ≡ 0
    go ih t e true w q = absurd (false≢true (sym q))
    go ih true e false w q =
        absurd (false≢true (sym w ∙ eq-eqb (slot_of f) (slot_for k) (slot-kind f ∙ ap slot_for (eqb-true (kind_in (decode f)) k e))))
    go ih false e false w q = omega (arith, ih q)

pub sound-single : (k : ℕ) (fs : List (List ℕ)) → Sound fs → of_kind k fs ≤ 1
unfolding of_kind
sound-single k [] S = omega arith
sound-single k (f ∷ fs) S = go (sound-single k fs S.2) (eqb (kind_in (decode f)) k) refl
  where
    go : of_kind k fs ≤ 1 → (t : Bool) → eqb (kind_in (decode f)) k ≡ t → cond t 1 0 + of_kind k fs ≤ 1
    go ih true e =
        let own : slot_of f ≡ slot_for k = slot-kind f ∙ ap slot_for (eqb-true (kind_in (decode f)) k e) in
        omega (arith, none-kind k fs (ap (λ (s : ℕ). held s fs) (sym own) ∙ S.1))
    go ih false e = omega arith

-- ---- whatever the calls were

module _ (n : ℕ) (cs : List Call) where
  kept : Kept settings n (on_list (turn n) cs []).frames
  kept = turns-kept settings (le_refl settings) n cs [] (empty-kept settings n)

  pub history-single : (k : ℕ) → of_kind k (on_list (turn n) cs []).frames ≤ 1
  history-single k = sound-single k (on_list (turn n) cs []).frames kept.sound

  -- A FRESH BOOK NEVER COMES TO HOLD BOTH FORMS of a setting
  pub history-forms : OneForm (on_list (turn n) cs []).frames
  history-forms = kept.forms

  -- nor more bytes than a full book, or more frames
  pub history-most : start ours.slots + length (flat (on_list (turn n) cs []).frames) ≤ full_book
  history-most = omega (arith, most_bytes_lem (on_list (turn n) cs []).frames kept.sound kept.forms)

  pub history-frames : length (on_list (turn n) cs []).frames ≤ most_frames
  history-frames = most-frames (on_list (turn n) cs []).frames kept.sound kept.forms

  -- so where they have room no setting is refused for it, in whichever order the kinds are put
  pub history-fits : most_bytes ≤ n → (f o : List ℕ) → slot_of f < settings
      → put_on f o n (on_list (turn n) cs []).frames ≡ become o (placed f (on_list (turn n) cs []).frames)
  history-fits r f o a = setting-fits f o n (on_list (turn n) cs []).frames a kept.sound kept.forms r

-- a book that was made and then called in any way can be read and edited
pub history-opens : (b : List ℕ) → start ours.slots ≤ length b → length b ≤ longest → (cs : List Call) (u : Use)
    → opened_for u (on_bytes after (Make ∷ cs) b).bytes ≡ holds (on_list (turn (room_of ours (length b))) (Make ∷ cs) []).frames
history-opens b low high cs u =
    ap (λ (r : BytesRun). opened_for u r.bytes) (history-ours b low high cs)
    ∙ opened_for-image (length b) low high (on_list (turn (room_of ours (length b))) (Make ∷ cs) []).frames
    (turns-kept ours.slots (omega arith) (room_of ours (length b)) (Make ∷ cs) [] (empty-kept ours.slots (room_of ours (length b)))) u

-- A BUFFER WITH ROOM FOR A FULL BOOK TAKES EVERY SETTING'S FRAME, after whatever calls
pub never-full : (b : List ℕ) → full_book ≤ length b → length b ≤ longest → (cs : List Call) (f : List ℕ) → slot_of f < settings
    → (after (Put f) (on_bytes after (Make ∷ cs) b).bytes).answer ≡ Ok 0
unfolding turn
never-full b low high cs f a =
    let kept = turns-kept ours.slots (omega arith) (room_of ours (length b)) (Make ∷ cs) [] (empty-kept ours.slots (room_of ours (length b))) in
    ap (λ (r : BytesRun). (after (Put f) r.bytes).answer) (history-ours b (omega arith) high cs)
    ∙ ap (λ (o : Outcome). o.answer) (after-image (length b) (omega arith) high (Put f) (on_list (turn (room_of ours (length b))) (Make ∷ cs) []).frames kept)
    ∙ ap (λ (t : Turn). t.answer) (history-fits (room_of ours (length b)) (Make ∷ cs) (omega arith) f [] a)

-- ---- the replay

-- NO REPLAY IS LONGER, whatever book it is of
pub replay-most : (l : Layout) (b : List ℕ) (fs : List (List ℕ)) → opened l b ≡ holds fs → length (reel_of fs) ≤ longest_reel
replay-most l b fs e =
    let k = opened-kept l b fs e in
    omega (arith, reel-length fs, most_bytes_lem fs k.sound k.forms, most-frames fs k.sound k.forms)
