-- How a pass goes on: what is done and what is left to do make up what is to be done (`Going`). A line keeps that (`going-frame`, `going-cut`),
-- and where nothing is left to do the pass is done (`going_done`).
-- Assumes nothing.
use mathlib.Core.Path.{◌≡◌, refl, sym, ap, ap₂, ◌∙◌, subst}
use mathlib.Core.Bool.{Bool, true, false, cond, ◌&&◌}
use mathlib.Core.List.{List, [], ◌∷◌, ◌++◌}
use Prim.Native.Nat.{ℕ, suc, ◌+◌, ◌-◌, ◌^◌, ◌≤◌, ◌<◌}
use native.Mathlib.Omega.{arith}
use native.Mathlib.Numerals.{add-one}
use lib.Dec.{leb, ltb}
use lib.ListN.{length, get_or, take, drop, length-append, length-take, length-drop, drop_of_length-le}
use lib.Seq.{sets, sets-eq}
use borrow.Author.Tests.{leb-true, ltb-true}
use Rattle.refusal.specs.declared.Refusal.{Refusal}
use Rattle.refusal.specs.declared.Refusal.TheVariants.{ReelCut}
use Rattle.decoder.specs.Decoding.{refuses, decode}
use Rattle.reel.specs.declared.Cursor.{Cursor}
use Rattle.reel.specs.Reel.{Unreeled, unreel}
use Rattle.reel.proofs.Reels.{unreel-nil}
use Rattle.reel.proofs.Found.{Whole, Ended, Cut}
use Rattle.texts.proofs.Writing.{sets-append}
use Rattle.dump_text.specs.Text.{line_of}
use Rattle.dump_text.specs.Parts.{Lines, none, line, longest, goes_on, lines_from, lines_of, Puts, Passes}
use Rattle.dump_text.proofs.Writing.{puts-length}
use Rattle.dump_text.proofs.Longest.{line-longest, refusal-longest}

-- ---- what is left to do, by what comes next

module _ (more : Bool) (room index : ℕ) where
  pub lines-stop : (fs : List (List ℕ)) (rest : List ℕ) → goes_on room index ≡ false → lines_from more room index fs rest ≡ none index
  unfolding lines_from
  lines-stop [] [] e = refl
  lines-stop [] (b ∷ rest) e = rw e refl
  lines-stop (f ∷ fs) rest e = rw e refl

  pub lines-line : (f : List ℕ) (fs : List (List ℕ)) (rest : List ℕ) → goes_on room index ≡ true
      → lines_from more room index (f ∷ fs) rest
      ≡ line (suc (length f)) (line_of index (decode f)) (lines_from more (room - length (line_of index (decode f))) (suc index) fs rest)
  unfolding lines_from
  lines-line f fs rest e = rw e refl

  pub lines_more : (b : ℕ) (rest : List ℕ) → more ≡ true → lines_from more room index [] (b ∷ rest) ≡ none index
  unfolding lines_from
  lines_more b rest e = rw e (by (goes_on room index))
    where
      by : (t : Bool) → cond (t && false) (line (suc (length rest)) (line_of index (refuses ReelCut)) (none (suc index))) (none index) ≡ none index
      by true = refl
      by false = refl

  pub lines_cut : (b : ℕ) (rest : List ℕ) → more ≡ false → goes_on room index ≡ true
      → lines_from more room index [] (b ∷ rest) ≡ line (suc (length rest)) (line_of index (refuses ReelCut)) (none (suc index))
  unfolding lines_from
  lines_cut b rest e g = rw (e, g) refl

-- what the test for going on shows
pub record Room (room index : ℕ) : Type 0 where
  pub wide : longest ≤ room
  pub below : index < 2 ^ 64 - 1

pub goes-room : (room index : ℕ) → goes_on room index ≡ true → Room room index
goes-room room index e = by (leb longest room) (ltb index (2 ^ 64 - 1)) refl refl e
  where
    by : (x y : Bool) → leb longest room ≡ x → ltb index (2 ^ 64 - 1) ≡ y → (x && y) ≡ true → Room room index
    by true true p q e = record { wide = leb-true longest room p; below = ltb-true index (2 ^ 64 - 1) q }
    by true false p q e = absurd (let w : ◌≡◌ {A = ℕ} 0 1 = cc in omega arith)
    by false y p q e = absurd (let w : ◌≡◌ {A = ℕ} 0 1 = cc in omega arith)

-- room for a line is room for that of any frame, and for any refusal
module _ (room n written next : ℕ) (w : Room (room - written) next) (e : n ≡ room) where
  pub room-frame : (f : List ℕ) → written + length (line_of next (decode f)) ≤ n
  room-frame f = omega (arith, w.wide, line-longest next f)

  pub room-refusal : (why : Refusal) → written + length (line_of next (refuses why)) ≤ n
  room-refusal why = omega (arith, w.wide, refusal-longest next why)

pub lines_end : (more : Bool) (room index : ℕ) → lines_from more room index [] [] ≡ none index
unfolding lines_from
lines_end more room index = refl

-- ---- a pass

module _ (more : Bool) (index : ℕ) (input out₀ : List ℕ) where
  -- all that is to be done
  abbrev pub whole : Lines
  whole = lines_of more (length out₀) index (unreel input)

  -- what is left, from a place of each and an index on
  abbrev pub left : ℕ → ℕ → ℕ → Lines
  left used written next = lines_of more (length out₀ - written) next (unreel (drop used input))

  pub record Going (used written next : ℕ) (out : List ℕ) : Type 0 where
    pub inside : used ≤ length input
    pub room : written ≤ length out₀
    pub same : length out ≡ length out₀
    pub uses : whole.used ≡ used + (left used written next).used
    pub writes : length whole.text ≡ written + length (left used written next).text
    pub goes : whole.next ≡ (left used written next).next
    pub stands : sets out₀ 0 whole.text ≡ sets out written (left used written next).text

  pub going_start : Going 0 0 index out₀
  going_start =
      let e : whole ≡ left 0 0 index = ap (λ (n : ℕ). lines_of more n index (unreel input)) (omega arith) in
      record {
        inside = omega arith;
        room = omega arith;
        same = refl;
        uses = omega (arith, ap (λ (l : Lines). l.used) e);
        writes = omega (arith, ap (λ (l : Lines). length l.text) e);
        goes = ap (λ (l : Lines). l.next) e;
        stands = ap (λ (l : Lines). sets out₀ 0 l.text) e;
      }

  -- one line more: n bytes used, the text put behind what stands there
  going-line : (used written next n end : ℕ) (out text : List ℕ) (to : ℕ) (out₁ : List ℕ) → used + n ≡ end → Going used written next out
      → left used written next ≡ line n text (left end to (next + 1)) → end ≤ length input → to ≤ length out₀
      → Puts text written out to out₁ → Going end to (next + 1) out₁
  going-line used written next n end out text to out₁ q g e h k p =
      let l : Lines = left end to (next + 1) in
      record {
        inside = h;
        room = k;
        same = puts-length p ∙ g.same;
        uses = omega (arith, g.uses, ap (λ (x : Lines). x.used) e);
        writes = omega (arith, g.writes, ap (λ (x : Lines). length x.text) e, length-append text l.text, p.behind);
        goes = g.goes ∙ ap (λ (x : Lines). x.next) e;
        stands =
            g.stands
            ∙ ap (λ (x : Lines). sets out written x.text) e
            ∙ sym (sets-append out written text l.text)
            ∙ ap₂ (λ (o : List ℕ) (m : ℕ). sets o m l.text) (sym p.stands) (sym p.behind);
      }

  module _ (used written next : ℕ) (out : List ℕ) (g : Going used written next out) where
    -- what the loop's test finds, of the output as it was lent
    pub going-test : (t x : Bool) → t ≡ goes_on (length out - written) next → t ≡ x → goes_on (length out₀ - written) next ≡ x
    going-test t x e h = ap (λ (n : ℕ). goes_on (n - written) next) (sym g.same) ∙ sym e ∙ h

    pub frame-fits : goes_on (length out₀ - written) next ≡ true → (f : List ℕ) → written + length (line_of next (decode f)) ≤ length out
    frame-fits t = room-frame (length out₀) (length out) written next (goes-room _ _ t) g.same

    pub refusal-fits : goes_on (length out₀ - written) next ≡ true → (why : Refusal) → written + length (line_of next (refuses why)) ≤ length out
    refusal-fits t = room-refusal (length out₀) (length out) written next (goes-room _ _ t) g.same

  module _ (used written next : ℕ) (out : List ℕ) (to : ℕ) (out₁ : List ℕ) (g : Going used written next out) where
    pub going-frame : (start end : ℕ) (after : Cursor) → goes_on (length out₀ - written) next ≡ true → Whole input used start end after
        → Puts (line_of next (decode (take (end - start) (drop start input)))) written out to out₁ → Going after.at to (next + 1) out₁
    going-frame start end after t w p =
        let f : List ℕ = take (end - start) (drop start input) in
        let text : List ℕ = line_of next (decode f) in
        let k : to ≤ length out₀ = omega (arith, p.behind, frame-fits used written next out g t f, g.same) in
        let long : length f ≡ end - start = simp (length-take, length-drop) (omega (arith, w.inside)) in
        let n : used + suc (length f) ≡ end = omega (arith, w.behind, w.forward) in
        let u : Unreeled = unreel (drop end input) in
        let room : length out₀ - written - length text ≡ length out₀ - to = omega (arith, p.behind) in
        let e : left used written next ≡ line (suc (length f)) text (left end to (next + 1)) =
        ap (lines_of more (length out₀ - written) next) w.made
        ∙ lines-line more (length out₀ - written) next f u.frames u.rest t
        ∙ ap₂ (λ (m i : ℕ). line (suc (length f)) text (lines_from more m i u.frames u.rest)) room (sym (add-one next))
        in
        subst (λ (at : ℕ). Going at to (next + 1) out₁) (sym w.onward)
        (going-line used written next (suc (length f)) end out text to out₁ n g e w.inside k p)

    pub going-cut : (why : Refusal) → goes_on (length out₀ - written) next ≡ true → more ≡ false → Cut input used why
        → Puts (line_of next (refuses why)) written out to out₁ → Going (length input) to (next + 1) out₁
    going-cut why t m w p =
        let rest : List ℕ = drop (used + 1) input in
        let text : List ℕ = line_of next (refuses ReelCut) in
        let k : to ≤ length out₀ = omega (arith, p.behind, refusal-fits used written next out g t why, g.same) in
        let n : used + suc (length rest) ≡ length input = omega (arith, w.inside, length-drop (used + 1) input) in
        let end : unreel (drop (length input) input) ≡ record { frames = []; rest = [] } =
        ap unreel (drop_of_length-le input {i = length input} (omega arith)) ∙ unreel-nil
        in
        let e : left used written next ≡ line (suc (length rest)) text (left (length input) to (next + 1)) =
        ap (lines_of more (length out₀ - written) next) w.made
        ∙ lines_cut more (length out₀ - written) next (get_or input used 0) rest m t
        ∙ ap (line (suc (length rest)) text)
        (ap none (sym (add-one next))
        ∙ sym (lines_end more (length out₀ - to) (next + 1))
        ∙ ap (lines_of more (length out₀ - to) (next + 1)) (sym end))
        in
        going-line used written next (suc (length rest)) (length input) out text to out₁ n g e (omega arith) k
        (rw (← w.cut) p)

  -- ---- the ends of a pass

  module _ (used written next : ℕ) (out : List ℕ) (g : Going used written next out) where
    pub going_done : left used written next ≡ none next → Passes whole out₀ (record { used = used; written = written; next = next }) out
    going_done e =
        let x : whole.used ≡ used = omega (arith, g.uses, ap (λ (l : Lines). l.used) e) in
        let y : length whole.text ≡ written = omega (arith, g.writes, ap (λ (l : Lines). length l.text) e) in
        let z : whole.next ≡ next = g.goes ∙ ap (λ (l : Lines). l.next) e in
        let all : length whole.text ≡ 0 + length whole.text = omega arith in
        record {
          told = rw (x, y, z) refl;
          stands =
              sym
              (ap (λ (n : ℕ). whole.text ++ drop n out₀) all
              ∙ sym (sets-eq whole.text out₀ 0 (omega (arith, g.room)))
              ∙ g.stands
              ∙ ap (λ (l : Lines). sets out written l.text) e);
        }

    pub done-stop : goes_on (length out₀ - written) next ≡ false → Passes whole out₀ (record { used = used; written = written; next = next }) out
    done-stop t = going_done (lines-stop more (length out₀ - written) next (unreel (drop used input)).frames (unreel (drop used input)).rest t)

    pub done_end : Ended input used → Passes whole out₀ (record { used = used; written = written; next = next }) out
    done_end w = going_done (ap (lines_of more (length out₀ - written) next) w.made ∙ lines_end more (length out₀ - written) next)

    pub done_more : (why : Refusal) → more ≡ true → Cut input used why → Passes whole out₀ (record { used = used; written = written; next = next }) out
    done_more why m w =
        going_done
        (ap (lines_of more (length out₀ - written) next) w.made
        ∙ lines_more more (length out₀ - written) next (get_or input used 0) (drop (used + 1) input) m)

  pub done-whole : (written next : ℕ) (out : List ℕ) → Going (length input) written next out
      → Passes whole out₀ (record { used = length input; written = written; next = next }) out
  done-whole written next out g =
      done_end (length input) written next out g
      (record { here = refl; made = ap unreel (drop_of_length-le input {i = length input} (omega arith)) ∙ unreel-nil })
