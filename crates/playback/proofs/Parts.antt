-- Passes in the words of the contracts of `start`, `pass`, `end` and `play`.
--     parts-play            parts cut anywhere give the day of the whole trace
--     passes-keep           a pass that the book refuses leaves cursor and book as they were
--     passes-used           a pass uses no more than it is given
--     passes_over           the last pass, after which no more follows, ends the playback
--     passes-goes           with the longest record there is in front, a pass uses some of it or ends the playback
--     fed-last              so one part that is all of the trace is a way to play it
--     end-fault             a playback that ends is told at fault exactly where it was stopped, with that place
-- Assumes nothing.
use mathlib.Core.Path.{◌≡◌, refl, sym, ap, subst, ◌∙◌}
use mathlib.Core.Bool.{Bool, true, false, cond}
use mathlib.Core.List.{List, [], ◌++◌, append-nil}
use mathlib.Core.Logic.{◌↔◌, ◌⊎◌}
use Prim.Native.Nat.{ℕ, zero, suc, ◌-◌, ◌≤◌, ◌<◌}
use native.Mathlib.Omega.{arith}
use lib.Dec.{leb}
use lib.ListN.{length, drop, get_or}
use borrow.Author.Tests.{le-leb}
use Rattle.refusal.specs.declared.Refusal.{Refusal}
use Rattle.refusal.specs.declared.Refusal.TheVariants.{TraceFault}
use Rattle.contents.specs.Contents.{Contents, holds, refused, image, longest, room_of, start}
use Rattle.contents.proofs.Judged.{Bytes}
use Rattle.contents.proofs.Written.{image-length}
use Rattle.book.specs.Plain.{Answer}
use Rattle.std.specs.Prelude.{Ok, Err}
use Rattle.book.specs.Book.{Edit, made, opened_for, ours, room_in}
use Rattle.book.specs.History.{Make, after}
use Rattle.book.proofs.Calls.{done_refused}
use Rattle.book.proofs.Kept.{Kept, empty-kept}
use Rattle.book.proofs.Versions.{layout-image}
use Rattle.book.proofs.History.{opened_for-image}
use Rattle.day.specs.Days.{most, plus}
use Rattle.day.specs.Steps.{State, step}
use Rattle.day.proofs.Steps.{step_kept}
use Rattle.playback.specs.declared.Cursor.{Cursor}
use Rattle.playback.specs.declared.Played.{Played}
use Rattle.playback.specs.declared.Stage.{Stage}
use Rattle.playback.specs.declared.Stage.TheVariants.{Header, Records, Stopped}
use Rattle.playback.specs.Trace.{count_in, first_in, fits, record_at, size_at}
use Rattle.playback.specs.Plays.{Run, answer_of, handed, plays, run_in}
use Rattle.playback.specs.Plays as whole
use Rattle.playback.specs.Parts.{Outcome, Went, ended, halts, hopeless, is_over, on_contents, pass_from, pass_gap, pass_header, pass_records}
use Rattle.playback.specs.Parts.{passes, started, stop_of, went}
use Rattle.playback.specs.Parts as parts
use Rattle.playback.proofs.Passing.{Keeps, Near, over-rest, pass-goes, pass-over, pass-rest, pass-used, rest_from}
use Rattle.playback.proofs.Playing.{first_small}
use Rattle.playback.proofs.Laws.{play-run}

-- the bytes that a pass used
abbrev pub used_by : Answer → ℕ
used_by (Ok n) = n
used_by (Err x) = 0

-- Fed c b s x y: passes that begin where c and the book b stand, with s to come, end with x and the book y. Each takes any part of what is left,
-- and what it does not use comes again; that no more follows is said only of a part that is all that is left. They may end as soon as the
-- playback is over.
pub data Fed : Cursor → List ℕ → List ℕ → Played → List ℕ → Type 0 where
  over : {c : Cursor} {b s : List ℕ} → is_over c.stage ≡ true → Fed c b s (ended c) b
  part : {c : Cursor} {b : List ℕ} {x : Played} {y : List ℕ} (more : Bool) (p q : List ℕ) → (more ≡ false → q ≡ [])
      → Fed (passes more c p b).passed.cursor (passes more c p b).bytes (drop (used_by (passes more c p b).passed.answer) (p ++ q)) x y
      → Fed c b (p ++ q) x y

-- ---- the end

pub end-fault : (c : Cursor) (p : ℕ) → ((ended c).answer ≡ Err (TraceFault p)) ↔ (c.stage ≡ Stopped p)
end-fault c p = ((λ e. at c.stage e), λ e. ap (λ (g : Stage). answer_of (stop_of g)) e)
  where
    at : (g : Stage) → answer_of (stop_of g) ≡ Err (TraceFault p) → g ≡ Stopped p
    at Header q = absurd (done_refused 0 (TraceFault p) q)
    at (Records left skip n) q = absurd (done_refused 0 (TraceFault p) q)
    at (Stopped n) q = let z : n ≡ p = cc in ap (λ (i : ℕ). Stopped i) z

-- ---- one pass, on any bytes

module _ (more : Bool) (c : Cursor) (p b : List ℕ) where
  pub passes-keep : (x : Refusal) → (passes more c p b).passed.answer ≡ Err x
      → ((passes more c p b).passed.cursor ≡ c) × ((passes more c p b).bytes ≡ b)
  unfolding passes
  passes-keep x e = go (opened_for Edit b) e
    where
      go : (o : Contents) → (on_contents more c p b o).passed.answer ≡ Err x
          → ((on_contents more c p b o).passed.cursor ≡ c) × ((on_contents more c p b o).bytes ≡ b)
      go (refused y) q = (refl, refl)
      go (holds fs) q = absurd (done_refused (pass_from more (room_in b) c.stage p (record { frames = fs; day = c.day })).used x q)

  pub passes-used : used_by (passes more c p b).passed.answer ≤ length p
  unfolding passes
  passes-used = go (opened_for Edit b)
    where
      go : (o : Contents) → used_by (on_contents more c p b o).passed.answer ≤ length p
      go (refused y) = omega arith
      go (holds fs) = pass-used more (room_in b) c.stage p (record { frames = fs; day = c.day })

-- on a book that holds a list
module _ (c : Cursor) (p b : List ℕ) (fs : List (List ℕ)) (h : opened_for Edit b ≡ holds fs) where
  pub passes_over : is_over (passes false c p b).passed.cursor.stage ≡ true
  unfolding passes
  passes_over = rw h (pass-over (room_in b) c.stage p (record { frames = fs; day = c.day }))

  pub passes-goes : (more : Bool) → get_or p 1 0 ≤ 255 → 257 ≤ length p
      → (0 < used_by (passes more c p b).passed.answer) ⊎ (is_over (passes more c p b).passed.cursor.stage ≡ true)
  unfolding passes
  passes-goes more k l = rw h (pass-goes more (room_in b) c.stage p (record { frames = fs; day = c.day }) k l)

  pub fed-last : Fed c b p (ended (passes false c p b).passed.cursor) (passes false c p b).bytes
  fed-last =
      subst (λ (l : List ℕ). Fed c b l (ended (passes false c p b).passed.cursor) (passes false c p b).bytes) (append-nil p)
      (part false p [] (λ _. refl) (over passes_over))

-- ---- a pass leaves a list that a book can hold

module _ (m : ℕ) (low : start ours.slots ≤ m) (high : m ≤ longest) where
  abbrev room : ℕ
  room = room_of ours m

  abbrev Held : State → Type 0
  Held s = Kept ours.slots room s.frames

  records-kept : (more : Bool) (n at : ℕ) (p : List ℕ) (s : State) → Held s → Held (pass_records more room n at p s).state
  unfolding pass_records
  records-kept more zero at p s K = K
  records-kept more (suc n) at p s K =
      go (fits p) (hopeless more p) (records-kept more n (plus at (size_at p)) (drop (size_at p) p) (step room (record_at p) s) (step_kept m low high s K (record_at p)))
    where
      onward : Went
      onward = pass_records more room n (plus at (size_at p)) (drop (size_at p) p) (step room (record_at p) s)

      go : (x y : Bool) → Held onward.state
          → Held (cond x (parts.after (size_at p) onward) (cond y (halts (Stopped at) s) (halts (Records (suc n) 0 at) s))).state
      go true y k = k
      go false true k = K
      go false false k = K

  gap-kept : (more : Bool) (left skip at : ℕ) (p : List ℕ) (s : State) → Held s → Held (pass_gap more room left skip at p s).state
  unfolding pass_gap
  gap-kept more left skip at p s K = go (leb skip (length p)) more
    where
      onward : List ℕ → Went
      onward l = pass_records more room left (plus at skip) l s

      go : (x y : Bool) → Held (cond x (parts.after skip (onward (drop skip p)))
          (cond y (record { used = length p; stage = Records left (skip - length p) (plus at (length p)); state = s }) (parts.after (length p) (onward [])))).state
      go true y = records-kept more left (plus at skip) (drop skip p) s K
      go false true = K
      go false false = records-kept more left (plus at skip) [] s K

  header-kept : (more : Bool) (p : List ℕ) (s : State) → Held s → Held (pass_header more room p s).state
  unfolding pass_header
  header-kept more p s K = go (leb 4 (length p)) (leb 4 (first_in p)) more
    where
      onward : Went
      onward = pass_gap more room (count_in p) (first_in p - 4) 4 (drop 4 p) s

      go : (x y z : Bool) → Held (cond x (cond y (parts.after 4 onward) (halts (Stopped 0) s)) (cond z (halts Header s) (halts (Stopped 0) s))).state
      go true true z = gap-kept more (count_in p) (first_in p - 4) 4 (drop 4 p) s K
      go true false z = K
      go false y true = K
      go false y false = K

  pass_kept : (more : Bool) (g : Stage) (p : List ℕ) (s : State) → Held s → Held (pass_from more room g p s).state
  unfolding pass_from
  pass_kept more Header p s K = header-kept more p s K
  pass_kept more (Records left skip at) p s K = gap-kept more left skip at p s K
  pass_kept more (Stopped at) p s K = K

  -- ---- a pass on a book that stands for a list

  module _ (more : Bool) (c : Cursor) (p b : List ℕ) (fs : List (List ℕ)) where
    abbrev s : State
    s = record { frames = fs; day = c.day }

    abbrev w : Went
    w = pass_from more room c.stage p s

    passes_on : b ≡ image ours m fs → Held s → passes more c p b ≡ record { passed = went w; bytes = image ours m w.state.frames }
    unfolding passes
    passes_on e K =
        let o : opened_for Edit (image ours m fs) ≡ holds fs = opened_for-image m low high fs K Edit in
        let l : length (image ours m fs) ≡ m = image-length ours m fs (omega (arith, K.room, low)) in
        rw (e, o, l, layout-image m fs) refl

  -- what the rest of the trace gives, as it is handed over
  abbrev Ends : Run → Played → List ℕ → Type 0
  Ends r x y = (x ≡ handed r) × (y ≡ image ours m r.state.frames)

  pub fed-run : {c : Cursor} {b s : List ℕ} {x : Played} {y : List ℕ} → Fed c b s x y → (fs : List (List ℕ)) → b ≡ image ours m fs
      → Kept ours.slots room fs → Near c.stage s
      → Ends (rest_from room c.stage s (record { frames = fs; day = c.day })) x y
  fed-run {c} {b} {s} (over h) fs e K n =
      let r = over-rest room c.stage s (record { frames = fs; day = c.day }) h in
      rw r (refl, e)
  fed-run {c} {b} {x} {y} (part more p q last f) fs e K n =
      let d : State = record { frames = fs; day = c.day } in
      let v : Went = pass_from more room c.stage p d in
      let o : passes more c p b ≡ record { passed = went v; bytes = image ours m v.state.frames } = passes_on more c p b fs e K in
      let k : Keeps room (rest_from room c.stage (p ++ q) d) (p ++ q) v = pass-rest room more q last c.stage d p n in
      let near : Near (passes more c p b).passed.cursor.stage (drop (used_by (passes more c p b).passed.answer) (p ++ q)) =
      subst (λ (u : Outcome). Near u.passed.cursor.stage (drop (used_by u.passed.answer) (p ++ q))) (sym o) k.near
      in
      let z : Ends (rest_from room v.stage (drop v.used (p ++ q)) v.state) x y =
      subst (λ (u : Outcome). Ends (rest_from room u.passed.cursor.stage (drop (used_by u.passed.answer) (p ++ q))
      (record { frames = v.state.frames; day = u.passed.cursor.day })) x y) o
      (fed-run f v.state.frames (ap (λ (u : Outcome). u.bytes) o) (pass_kept more c.stage p d K) near)
      in
      rw k.comes z

-- passes over the parts of a trace, on a book that was made in the buffer, give what a whole playback gives
pub parts-play : (t b : List ℕ) → start ours.slots ≤ length b → length b ≤ longest → Bytes t → length t ≤ most → (x : Played) (y : List ℕ)
    → Fed started (after Make b).bytes t x y → (x ≡ (plays t b).played) × (y ≡ (plays t b).bytes)
unfolding made rest_from run_in
parts-play t b low high B l x y f =
    let m : (after Make b).bytes ≡ image ours (length b) [] = rw (le-leb (start ours.slots) (length b) low, le-leb (length b) longest high) refl in
    let z = fed-run (length b) low high f [] m (empty-kept ours.slots (room_of ours (length b))) (l, first_small t B) in
    let e = play-run b low high t in
    (z.0 ∙ ap (λ (o : whole.Outcome). o.played) (sym e), z.1 ∙ ap (λ (o : whole.Outcome). o.bytes) (sym e))
