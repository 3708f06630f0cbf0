-- The code of a pass, one law for each way through it: the loop over records (`Along`), the gap, the header, and the book that it begins with.
-- Assumes nothing.
use mathlib.Core.Path.{◌≡◌, refl, sym, ap, ap₂, subst, ◌∙◌}
use mathlib.Core.Bool.{Bool, true, false}
use mathlib.Core.List.{List, []}
use Prim.Native.Nat.{ℕ, suc, ◌+◌, ◌-◌, ◌≤◌, ◌<◌}
use native.Mathlib.Omega.{arith}
use lib.Dec.{leb}
use lib.ListN.{length, drop, length-drop, drop_of_length-le}
use lib.Seq.{drop-drop}
use borrow.Author.Tests.{le-leb, lt-leb}
use Rattle.refusal.specs.declared.Refusal.{Refusal}
use Rattle.contents.specs.Contents.{Contents, Layout, holds, image, longest, refused, room_of, start}
use Rattle.contents.proofs.Judged.{Bytes, judge-reads}
use Rattle.book.specs.Plain.{Answer}
use Rattle.std.specs.Prelude.{Ok, Err}
use Rattle.book.specs.Book.{Edit, layout_in, opened_for, ours, room_in, verdict}
use Rattle.book.proofs.Calls.{Holds, done_refused, opened-bytes, opened-holds, opened-judge}
use Rattle.book.proofs.Versions.{edit-serves}
use Rattle.book.proofs.Kept.{Kept, opened-kept}
use Rattle.day.specs.declared.Day.{Day}
use Rattle.day.specs.Days.{plus}
use Rattle.day.specs.Steps.{Record, State, step, step_bytes, step_day}
use Rattle.day.proofs.Steps.{step-bytes, step-day, step_kept}
use Rattle.playback.specs.declared.Stage.{Stage}
use Rattle.playback.specs.declared.Stage.TheVariants.{Header, Records, Stopped}
use Rattle.playback.specs.declared.Cursor.{Cursor}
use Rattle.playback.specs.declared.Passed.{Passed}
use Rattle.playback.specs.Trace.{count_in, first_in, fits, record_at, size_at}
use Rattle.playback.specs.Parts.{Went, after, halts, hopeless, on_contents, pass_from, pass_gap, pass_header, pass_records, passes, went}
use Rattle.playback.specs.Code.{Comes, frames_in, state_in}

-- ---- a book that stands for a state

pub record Standing (m : ℕ) (b : List ℕ) (s : State) : Type 0 where
  pub bytes : b ≡ image ours m s.frames
  pub kept : Kept ours.slots (room_of ours m) s.frames
  pub low : start ours.slots ≤ m
  pub high : m ≤ longest

pub sound-standing : (b : List ℕ) (d : Day) → Bytes b → Ok 0 ≡ verdict (opened_for Edit b) → Standing (length b) b (state_in b d)
unfolding state_in
sound-standing b d B e =
    let v = edit-serves b 0 e in
    let h : Holds ours b = opened-holds ours b 0 (e ∙ ap verdict v.opens) in
    let r = judge-reads ours b h.frames (opened-judge ours b h.frames h.opens) in
    rw (v.opens, h.opens)
    (record { bytes = opened-bytes ours b h.frames B h.opens; kept = opened-kept ours b h.frames h.opens; low = r.small; high = r.big })

step-standing : (m : ℕ) (b : List ℕ) (s : State) → Standing m b s → (q : Record) (r : Day) (x : List ℕ) → r ≡ step_day q b s.day → x ≡ step_bytes q b
    → (r ≡ (step (room_of ours m) q s).day) × Standing m x (step (room_of ours m) q s)
step-standing m b s z q r x e f = (
  e ∙ ap (λ (c : List ℕ). step_day q c s.day) z.bytes ∙ step-day m z.low z.high s z.kept q,
  record {
    bytes = f ∙ ap (step_bytes q) z.bytes ∙ step-bytes m z.low z.high s z.kept q;
    kept = step_kept m z.low z.high s z.kept q;
    low = z.low;
    high = z.high;
  },
)

-- ---- the loop over records

-- in a book whose layout is the one that is edited
pub record Along (l : Layout) (m : ℕ) (more : Bool) (t : List ℕ) (whole : Went) (d : Day) (b : List ℕ) (i at left : ℕ) : Type 0 where
  pub frames : List (List ℕ)
  pub stands : Standing m b (record { frames = frames; day = d })
  pub within : i ≤ length t
  pub own : l ≡ ours
  pub rest : whole ≡ after i (pass_records more (room_of ours m) left at (drop i t) (record { frames = frames; day = d }))

pub along-start : (more : Bool) (t : List ℕ) (d : Day) (b : List ℕ) (i at left : ℕ) → Bytes b → Ok 0 ≡ verdict (opened_for Edit b) → i ≤ length t
    → Along (layout_in b) (length b) more t (after i (pass_records more (room_in b) left at (drop i t) (state_in b d))) d b i at left
unfolding state_in
along-start more t d b i at left B e w =
    let o : layout_in b ≡ ours = (edit-serves b 0 e).layout in
    record {
      frames = frames_in (opened_for Edit b);
      stands = sound-standing b d B e;
      within = w;
      own = o;
      rest = ap (λ (l : Layout). after i (pass_records more (room_of l (length b)) left at (drop i t) (state_in b d))) o;
    }

module _ (l : Layout) (m : ℕ) (more : Bool) (t : List ℕ) (whole : Went) (d : Day) (b : List ℕ) (i at left : ℕ) (z : Along l m more t whole d b i at left) where
  abbrev s : State
  s = record { frames = z.frames; day = d }

  abbrev room : ℕ
  room = room_of ours m

  pub along-next : (fewer n : ℕ) (r : Day) (x : List ℕ) → left ≡ suc fewer → (fits (drop i t) ≡ true) × (n ≡ size_at (drop i t)) × (i + n ≤ length t)
      → (r ≡ step_day (record_at (drop i t)) b d) × (x ≡ step_bytes (record_at (drop i t)) b) → Along l m more t whole r x (i + n) (plus at n) fewer
  unfolding pass_records
  along-next fewer n r x k f e =
      let q : Record = record_at (drop i t) in
      let y = step-standing m b s z.stands q r x e.0 e.1 in
      let next : State = step room q s in
      let same : record { frames = next.frames; day = r } ≡ next = ap (λ (y : Day). record { frames = next.frames; day = y }) y.0 in
      let on : ℕ → List ℕ → State → Went = λ n u v. pass_records more room fewer (plus at n) u v in
      let a : whole ≡ after i (after (size_at (drop i t)) (on (size_at (drop i t)) (drop (size_at (drop i t)) (drop i t)) next)) =
      z.rest ∙ rw (k, f.0) refl
      in
      let g : whole ≡ after i (after n (on n (drop (i + n) t) next)) =
      a
      ∙ ap (λ (k : ℕ). after i (after k (on k (drop k (drop i t)) next))) (sym f.1)
      ∙ ap (λ (u : List ℕ). after i (after n (on n u next))) (drop-drop n i t)
      in
      let h : i + (n + (on n (drop (i + n) t) next).used) ≡ i + n + (on n (drop (i + n) t) next).used = omega arith in
      record {
        frames = next.frames;
        stands = subst (Standing m x) (sym same) y.1;
        within = f.2;
        own = z.own;
        rest =
            g
            ∙ ap (λ (u : ℕ). record { used = u; stage = (on n (drop (i + n) t) next).stage; state = (on n (drop (i + n) t) next).state }) h
            ∙ ap (λ (v : State). after (i + n) (on n (drop (i + n) t) v)) (sym same);
      }

  -- a loop that ends with this stage
  comes : (g : Stage) → pass_records more room left at (drop i t) s ≡ halts g s → (r : Passed)
      → r ≡ record { answer = Ok i; cursor = record { stage = g; day = d } } → Comes l m whole r b
  comes g e r h =
      let k : i + 0 ≡ i = omega arith in
      let w : whole ≡ record { used = i; stage = g; state = s } =
      z.rest ∙ ap (after i) e ∙ ap (λ (u : ℕ). record { used = u; stage = g; state = s }) k
      in
      record { told = h ∙ ap went (sym w); bytes = z.stands.bytes ∙ ap₂ (λ (j : Layout) (v : Went). image j m v.state.frames) (sym z.own) (sym w) }

  pub along-end : left ≡ 0 → (r : Passed) → r ≡ record { answer = Ok i; cursor = record { stage = Records 0 0 at; day = d } } → Comes l m whole r b
  unfolding pass_records
  along-end k = comes (Records 0 0 at) (rw k refl)

  -- no record fits: it never will, or may with more
  module _ (some : 0 < left) (f : fits (drop i t) ≡ false) where
    some_left : left ≡ suc (left - 1)
    some_left = omega (arith, some)

    pub along-stop : hopeless more (drop i t) ≡ true → (r : Passed)
        → r ≡ record { answer = Ok i; cursor = record { stage = Stopped at; day = d } } → Comes l m whole r b
    unfolding pass_records
    along-stop h = comes (Stopped at) (ap (λ (n : ℕ). pass_records more room n at (drop i t) s) some_left ∙ rw (f, h) refl)

    pub along-wait : hopeless more (drop i t) ≡ false → (r : Passed)
        → r ≡ record { answer = Ok i; cursor = record { stage = Records left 0 at; day = d } } → Comes l m whole r b
    unfolding pass_records
    along-wait h =
        comes (Records left 0 at)
        (ap (λ (n : ℕ). pass_records more room n at (drop i t) s) some_left ∙ rw (f, h) (ap (λ (n : ℕ). halts (Records n 0 at) s) (sym some_left)))

-- ---- the gap before the first record

module _ (more : Bool) (room left skip at : ℕ) (t : List ℕ) (from : ℕ) (within : from ≤ length t) (s : State) where
  abbrev gap : Went
  gap = after from (pass_gap more room left skip at (drop from t) s)

  pub gap-passed : (k : ℕ) → k ≡ plus at skip → skip ≤ length t - from
      → after (from + skip) (pass_records more room left k (drop (from + skip) t) s) ≡ gap
  unfolding pass_gap
  gap-passed k p h =
      let w : Went = pass_records more room left (plus at skip) (drop skip (drop from t)) s in
      let e : from + skip + w.used ≡ from + (skip + w.used) = omega arith in
      ap₂ (λ (j : ℕ) (u : List ℕ). after (from + skip) (pass_records more room left j u s)) p (sym (drop-drop skip from t))
      ∙ ap (λ (u : ℕ). record { used = u; stage = w.stage; state = w.state }) e
      ∙ rw (le-leb skip (length (drop from t)) (omega (arith, h, length-drop from t))) refl

  module _ (h : length t - from < skip) where
    short : leb skip (length (drop from t)) ≡ false
    short = lt-leb skip (length (drop from t)) (omega (arith, h, length-drop from t))

    pub gap-waits : more ≡ true → (k : ℕ) → k ≡ plus at (length t - from)
        → record { used = length t; stage = Records left (skip - (length t - from)) k; state = s } ≡ gap
    unfolding pass_gap
    gap-waits m k p =
        let e : length t ≡ from + (length t - from) = omega (arith, within) in
        ap₂ (λ (u j : ℕ). record { used = u; stage = Records left (skip - (length t - from)) j; state = s }) e p
        ∙ rw (short, m, length-drop from t) refl

    pub gap_ends : more ≡ false → (k : ℕ) → k ≡ plus at skip → after (length t) (pass_records more room left k (drop (length t) t) s) ≡ gap
    unfolding pass_gap
    gap_ends m k p =
        let w : Went = pass_records more room left (plus at skip) [] s in
        let e : length t + w.used ≡ from + (length t - from + w.used) = omega (arith, within) in
        ap₂ (λ (j : ℕ) (u : List ℕ). after (length t) (pass_records more room left j u s)) p (drop_of_length-le t {i = length t} (omega arith))
        ∙ ap (λ (u : ℕ). record { used = u; stage = w.stage; state = w.state }) e
        ∙ rw (short, m, length-drop from t) refl

-- ---- the header

module _ (more : Bool) (room : ℕ) (t : List ℕ) (s : State) where
  pub header-waits : length t < 4 → more ≡ true → halts Header s ≡ pass_header more room t s
  unfolding pass_header
  header-waits h m = rw (lt-leb 4 (length t) h, m) refl

  pub header-short : length t < 4 → more ≡ false → halts (Stopped 0) s ≡ pass_header more room t s
  unfolding pass_header
  header-short h m = rw (lt-leb 4 (length t) h, m) refl

  pub header-low : 4 ≤ length t → first_in t < 4 → halts (Stopped 0) s ≡ pass_header more room t s
  unfolding pass_header
  header-low h k = rw (le-leb 4 (length t) h, lt-leb 4 (first_in t) k) refl

  pub header-passed : 4 ≤ length t → (first count : ℕ) → first ≡ first_in t → count ≡ count_in t → 4 ≤ first
      → after 4 (pass_gap more room count (first - 4) 4 (drop 4 t) s) ≡ pass_header more room t s
  unfolding pass_header
  header-passed h first count e f k = rw (e, f, le-leb 4 (length t) h, le-leb 4 (first_in t) (omega (arith, k, e))) refl

-- ---- handing over

-- a pass that ends before any record
pub comes-still : (b : List ℕ) (d : Day) (w : Went) (g : Stage) (u : ℕ) (r : Passed) → Bytes b → Ok 0 ≡ verdict (opened_for Edit b)
    → record { used = u; stage = g; state = state_in b d } ≡ w → r ≡ record { answer = Ok u; cursor = record { stage = g; day = d } }
    → Comes (layout_in b) (length b) w r b
unfolding state_in
comes-still b d w g u r B e h k =
    record {
      told = k ∙ ap went h;
      bytes =
          (sound-standing b d B e).bytes
          ∙ ap₂ (λ (l : Layout) (v : Went). image l (length b) v.state.frames) (sym (edit-serves b 0 e).layout) h;
    }

-- the same pass by another name
pub comes-same : (l : Layout) (m : ℕ) (v w : Went) (r : Passed) (x : List ℕ) → v ≡ w → Comes l m v r x → Comes l m w r x
comes-same l m v w r x e z = subst (λ (u : Went). Comes l m u r x) e z

-- ---- a pass on whatever bytes there are

module _ (more : Bool) (c : Cursor) (p b : List ℕ) where
  abbrev Permits : Passed → List ℕ → Type 0
  Permits r x = (r ≡ (passes more c p b).passed) × (x ≡ (passes more c p b).bytes)

  -- the book refuses
  pub pass-refused : (a : Answer) (x : Refusal) → a ≡ verdict (opened_for Edit b) → a ≡ Err x → Permits (record { answer = a; cursor = c }) b
  unfolding passes
  pass-refused a x e h = go (opened_for Edit b) (sym h ∙ e)
    where
      go : (o : Contents) → Err x ≡ verdict o
          → (record { answer = a; cursor = c } ≡ (on_contents more c p b o).passed) × (b ≡ (on_contents more c p b o).bytes)
      go (refused y) z = (ap (λ (k : Answer). record { answer = k; cursor = c }) (h ∙ z), refl)
      go (holds fs) z = absurd (done_refused 0 x (sym z))

  -- it does not: the pass from its stage, as it was handed over
  pub pass-sound : Ok 0 ≡ verdict (opened_for Edit b) → (g : Stage) → c.stage ≡ g → (r : Passed) (x : List ℕ)
      → Comes (layout_in b) (length b) (pass_from more (room_in b) g p (state_in b c.day)) r x → Permits r x
  unfolding passes state_in
  pass-sound e g s r x z = go (opened_for Edit b) e (subst (λ (j : Stage). Comes (layout_in b) (length b) (pass_from more (room_in b) j p (state_in b c.day)) r x) (sym s) z)
    where
      go : (o : Contents) → Ok 0 ≡ verdict o
          → Comes (layout_in b) (length b) (pass_from more (room_in b) c.stage p (record { frames = frames_in o; day = c.day })) r x
          → (r ≡ (on_contents more c p b o).passed) × (x ≡ (on_contents more c p b o).bytes)
      go (refused y) q k = absurd (done_refused 0 y q)
      go (holds fs) q k = (k.told, k.bytes)

-- from the part's first byte on
pub after_none : (w : Went) → after 0 w ≡ w
after_none w = let e : 0 + w.used ≡ w.used = omega arith in ap (λ (u : ℕ). record { used = u; stage = w.stage; state = w.state }) e
