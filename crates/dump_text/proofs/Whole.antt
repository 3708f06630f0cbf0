-- A text that is laid out part by part. `Reached` says how far: what is left of the text is the text of what is left of the reel.
-- Assumes nothing.
use mathlib.Core.Path.{◌≡◌, refl, sym, ap, ap₂, ◌∙◌, subst}
use mathlib.Core.Bool.{Bool, true, false, cond, ◌&&◌, not}
use mathlib.Core.List.{List, [], ◌∷◌, ◌++◌, append-nil, append_assoc}
use Prim.Native.Nat.{ℕ, suc, ◌+◌, ◌-◌, ◌^◌, ◌≤◌, ◌<◌}
use native.Mathlib.Omega.{arith}
use lib.Dec.{T, leb}
use lib.ListN.{length, take, drop, get_or, length-append, length-drop, drop_of_length-le}
use lib.Seq.{drop-cons, drop-drop, drop-append_seam, drop_at, length-take-le, take-append_seam, take-add, take_all, take_at, take-length}
use borrow.Author.Tests.{lt-ltb, le-leb, lt-leb}
use Rattle.std.specs.Prelude.{Ok, Err}
use Rattle.refusal.specs.declared.Refusal.TheVariants.{ReelCut, OutputShort}
use Rattle.decoder.specs.Decoding.{refuses, decode}
use Rattle.reel.specs.Reel.{unreel}
use Rattle.dump_text.specs.Text.{line_of, text_at, text_of}
use Rattle.dump_text.specs.declared.Passed.{Passed}
use Rattle.dump_text.specs.Parts.{Lines, none, line, goes_on, lines_from, lines_of, Passes}
use Rattle.dump_text.specs.Whole.{dumped, filled, laid_at, Lays}
use Rattle.dump_text.proofs.Parts.{text-nil, part-text, part-goes}

pub no_write : {A : Type 0} → false ≡ true → A
no_write e = absurd (subst T (sym e) tt)

-- every line stands for a byte at least
pub next-used : (more : Bool) (room index : ℕ) (fs : List (List ℕ)) (rest : List ℕ)
    → (lines_from more room index fs rest).next ≤ index + (lines_from more room index fs rest).used
unfolding lines_from
next-used more room index [] [] = omega arith
next-used more room index [] (b ∷ rest) = by (goes_on room index && not more)
  where
    by : (t : Bool) → (cond t (line (suc (length rest)) (line_of index (refuses ReelCut)) (none (suc index))) (none index)).next
        ≤ index + (cond t (line (suc (length rest)) (line_of index (refuses ReelCut)) (none (suc index))) (none index)).used
    by true = omega arith
    by false = omega arith
next-used more room index (f ∷ fs) rest = by (goes_on room index) (next-used more (room - length (line_of index (decode f))) (suc index) fs rest)
  where
    after : Lines
    after = lines_from more (room - length (line_of index (decode f))) (suc index) fs rest

    by : (t : Bool) → after.next ≤ suc index + after.used → (cond t (line (suc (length f)) (line_of index (decode f)) after) (none index)).next
        ≤ index + (cond t (line (suc (length f)) (line_of index (decode f)) after) (none index)).used
    by true h = omega arith
    by false h = omega arith

pub record Reached (reel : List ℕ) (at index used : ℕ) : Type 0 where
  pub left : drop at (text_of reel) ≡ text_at index (drop used reel)
  pub within : at ≤ length (text_of reel)
  pub few : index ≤ used
  pub inside : used ≤ length reel

-- the text up to a place, and the output as it was behind it
abbrev pub so_far : List ℕ → ℕ → List ℕ → List ℕ
so_far text at out = take at text ++ drop at out

-- the part of a list from u on, to its end
pub tail : (u : ℕ) (l : List ℕ) → take (length l - u) (drop u l) ≡ drop u l
tail u l = take_all (length l - u) (drop u l) (omega (arith, length-drop u l))

-- a part put at its place, as a slice that was lent from there on comes back
pub laid-is : (part out last : List ℕ) (at : ℕ) → last ≡ take (length part) part ++ drop (length part) (take (length out - at) (drop at out))
    → take at out ++ (last ++ drop (length out - at) (drop at out)) ≡ laid_at part at out
laid-is part out last at e =
    let n : ℕ = length part in
    let gone : drop (length out - at) (drop at out) ≡ [] = drop_of_length-le (drop at out) {i = length out - at} (omega (arith, length-drop at out)) in
    ap₂ (λ (x y : List ℕ). take at out ++ (x ++ y))
    (e ∙ ap₂ (λ (x y : List ℕ). x ++ y) (take-length part) (ap (drop n) (tail at out) ∙ drop-drop n at out)) gone
    ∙ ap (λ (x : List ℕ). take at out ++ x) (append-nil (part ++ drop (at + n) out))

pub both : (b : Bool) (l : List ℕ) → l ≡ cond b l l
both true l = refl
both false l = refl

pub reached-start : (reel : List ℕ) → Reached reel 0 0 0
reached-start reel = record { left = refl; within = omega arith; few = omega arith; inside = omega arith }

module _ (reel : List ℕ) (at index used : ℕ) (z : Reached reel at index used) where
  pub reached-end : length reel ≤ used → at ≡ length (text_of reel)
  reached-end h =
      let e : drop at (text_of reel) ≡ [] = z.left ∙ ap (text_at index) (drop_of_length-le reel h) ∙ text-nil index in
      let n : length (text_of reel) - at ≡ 0 = sym (length-drop at (text_of reel)) ∙ ap length e in
      omega (arith, z.within)

  abbrev l : Lines
  l = lines_of false 512 index (unreel (drop used reel))

  split : drop at (text_of reel) ≡ l.text ++ text_at l.next (drop (used + l.used) reel)
  split =
      let p : List ℕ = drop used reel in
      z.left ∙ ap (text_at index) (sym (append-nil p)) ∙ part-text false [] (λ _. refl) 512 index p
      ∙ ap (λ (s : List ℕ). l.text ++ text_at l.next s) (ap (drop l.used) (append-nil p) ∙ drop-drop l.used used reel)

  pub reached-room : at + length l.text ≤ length (text_of reel)
  reached-room =
      let rest : List ℕ = text_at l.next (drop (used + l.used) reel) in
      let long : length (drop at (text_of reel)) ≡ length l.text + length rest = ap length split ∙ length-append l.text rest in
      let e : length (text_of reel) - at ≡ length l.text + length rest = sym (length-drop at (text_of reel)) ∙ long in
      omega (arith, z.within)

  pub reached-on : used + l.used ≤ length reel → Reached reel (at + length l.text) l.next (used + l.used)
  reached-on h =
      record {
        left =
            sym (drop-drop (length l.text) at (text_of reel))
            ∙ ap (drop (length l.text)) split
            ∙ drop-append_seam l.text (text_at l.next (drop (used + l.used) reel));
        within = reached-room;
        few = omega (arith, z.few, next-used false 512 index (unreel (drop used reel)).frames (unreel (drop used reel)).rest);
        inside = h;
      }

  pub reached-text : take (at + length l.text) (text_of reel) ≡ take at (text_of reel) ++ l.text
  reached-text =
      take-add at (length l.text) (text_of reel)
      ∙ ap (λ (s : List ℕ). take at (text_of reel) ++ s)
      (ap (take (length l.text)) split ∙ take-append_seam l.text (text_at l.next (drop (used + l.used) reel)))

  pub reached-goes : used < length reel → length reel < 2 ^ 63 → 0 < l.used
  reached-goes h k =
      let i : index < 2 ^ 64 - 1 = omega (arith, z.few) in
      let g : goes_on 512 index ≡ true = lt-ltb index (2 ^ 64 - 1) i in
      subst (λ (s : List ℕ). 0 < (lines_of false 512 index (unreel s)).used) (sym (drop-cons reel used 0 h))
      (part-goes false 512 index (get_or reel used 0) (drop (suc used) reel) g no_write)

-- ---- what a pass over the rest of the reel makes of it

-- As a pass over the rest of the reel told it, with its lines in `after`: how far the text has come, that some of the reel was used, how its
-- lines join what stands in an output, and that an output too short for them is one that was not to be written.
pub record Stepped (reel : List ℕ) (at index used : ℕ) (p : Passed) (after : List ℕ) : Type 0 where
  pub on : Reached reel (at + p.written) p.next (used + p.used)
  pub goes : used < length reel → length reel < 2 ^ 63 → 0 < p.used
  pub far : (write : Bool) (first out last : List ℕ) → out ≡ cond write (so_far (text_of reel) at first) first
      → last ≡ cond write (laid_at (take (p.written - 0) after) at out) out → last ≡ cond write (so_far (text_of reel) (at + p.written) first) first
  pub out : (write : Bool) (first now : List ℕ) → (write ≡ true → length (text_of reel) ≤ length first) → length now ≡ length first
      → at ≤ length now → length now - at < p.written → now ≡ cond write (so_far (text_of reel) at first) first
      → Lays (text_of reel) write first (at + p.written) now

module _ (reel : List ℕ) (at index used : ℕ) (z : Reached reel at index used) (room : ℕ) (input before after : List ℕ) (p : Passed)
    (er : room ≡ 512) (ei : input ≡ drop used reel) (ps : Passes (lines_of false room index (unreel input)) before p after) (most : p.used ≤ length input) where
  abbrev m : Lines
  m = lines_of false 512 index (unreel (drop used reel))

  lines : lines_of false room index (unreel input) ≡ m
  lines = ap₂ (λ (r : ℕ) (i : List ℕ). lines_of false r index (unreel i)) er ei

  told : p ≡ record { used = m.used; written = length m.text; next = m.next }
  told = ps.told ∙ ap (λ (x : Lines). record { used = x.used; written = length x.text; next = x.next }) lines

  step_room : at + p.written ≤ length (text_of reel)
  step_room = subst (λ (x : Passed). at + x.written ≤ length (text_of reel)) (sym told) (reached-room reel at index used z)

  step-on : Reached reel (at + p.written) p.next (used + p.used)
  step-on =
      let k : p.used ≤ length reel - used = subst (λ (n : ℕ). p.used ≤ n) (ap length ei ∙ length-drop used reel) most in
      let h : used + m.used ≤ length reel = subst (λ (x : Passed). used + x.used ≤ length reel) told (omega (arith, z.inside)) in
      subst (λ (x : Passed). Reached reel (at + x.written) x.next (used + x.used)) (sym told) (reached-on reel at index used z h)

  step-goes : used < length reel → length reel < 2 ^ 63 → 0 < p.used
  step-goes h k = subst (λ (x : Passed). 0 < x.used) (sym told) (reached-goes reel at index used z h k)

  part : take (p.written - 0) after ≡ m.text
  part =
      let n : p.written - 0 ≡ length m.text = ap (λ (x : Passed). x.written - 0) told ∙ omega arith in
      ap₂ take n (ps.stands ∙ ap (λ (x : Lines). x.text ++ drop (length x.text) before) lines)
      ∙ take-append_seam m.text (drop (length m.text) before)

  far-true : (out : List ℕ) → laid_at (take (p.written - 0) after) at (so_far (text_of reel) at out) ≡ so_far (text_of reel) (at + p.written) out
  far-true out =
      let t : List ℕ = text_of reel in
      let n : ℕ = length m.text in
      let l : length (take at t) ≡ at = length-take-le at t z.within in
      let w : at + n ≡ at + p.written = sym (ap (λ (x : Passed). at + x.written) told) in
      ap (λ (x : List ℕ). laid_at x at (so_far t at out)) part
      ∙ ap₂ (λ (x y : List ℕ). x ++ (m.text ++ y)) (take_at (take at t) (drop at out) at l)
      (sym (drop-drop n at (so_far t at out)) ∙ ap (drop n) (drop_at (take at t) (drop at out) at l) ∙ drop-drop n at out)
      ∙ sym (append_assoc (take at t) m.text (drop (at + n) out))
      ∙ ap (λ (x : List ℕ). x ++ drop (at + n) out) (sym (reached-text reel at index used z))
      ∙ ap (λ (k : ℕ). so_far t k out) w

  step-far : (write : Bool) (first out last : List ℕ) → out ≡ cond write (so_far (text_of reel) at first) first
      → last ≡ cond write (laid_at (take (p.written - 0) after) at out) out → last ≡ cond write (so_far (text_of reel) (at + p.written) first) first
  step-far true first out last e f = f ∙ ap (laid_at (take (p.written - 0) after) at) e ∙ far-true first
  step-far false first out last e f = f ∙ e

  -- a text that was to be written has room
  step-out : (write : Bool) (first out : List ℕ) → (write ≡ true → length (text_of reel) ≤ length first) → length out ≡ length first
      → at ≤ length out → length out - at < p.written → out ≡ cond write (so_far (text_of reel) at first) first
      → Lays (text_of reel) write first (at + p.written) out
  step-out true first out h n l o e = absurd (omega (arith, h refl, step_room))
  step-out false first out h n l o e = record { fits = λ k. absurd (omega arith); longer = λ k. omega (arith, step_room); stands = e }

  pub stepped : Stepped reel at index used p after
  stepped = record { on = step-on; goes = step-goes; far = step-far; out = step-out }

pub laid-all : (reel : List ℕ) (at index used : ℕ) → Reached reel at index used → length reel ≤ used → (write : Bool) (first out : List ℕ)
    → out ≡ cond write (so_far (text_of reel) at first) first → Lays (text_of reel) write first at out
laid-all reel at index used z h write first out e =
    let n : at ≡ length (text_of reel) = reached-end reel at index used z h in
    record {
      fits = λ k. n;
      longer = λ k. omega arith;
      stands = e
          ∙ ap (λ (x : List ℕ). cond write x first)
          (ap (λ (k : ℕ). so_far (text_of reel) k first) n ∙ ap (λ (x : List ℕ). x ++ drop (length (text_of reel)) first) (take-length (text_of reel)));
    }

-- ---- a dry run, and a run that writes

module _ (text first out : List ℕ) (n : ℕ) (dry : Lays text false first n out) where
  length-dry : length out ≡ length first
  length-dry = ap length dry.stands

  module _ (h : n ≤ length out) where
    is-long : n ≡ length text
    is-long = dry.fits (omega (arith, length-dry))

    pub dry-room : length text ≤ length out
    dry-room = omega (arith, is-long)

    fitting : leb (length text) (length first) ≡ true
    fitting = le-leb (length text) (length first) (omega (arith, dry-room, length-dry))

    pub dumped-text : Ok n ≡ dumped text first
    dumped-text = ap Ok is-long ∙ sym (simp fitting)

    pub filled-text : (m : ℕ) (last : List ℕ) → Lays text true out m last → last ≡ filled text first
    filled-text m last y = y.stands ∙ ap (λ (o : List ℕ). text ++ drop (length text) o) dry.stands ∙ sym (simp fitting)

  module _ (h : length out < n) where
    over : leb (length text) (length first) ≡ false
    over = lt-leb (length text) (length first) (dry.longer (omega (arith, length-dry)))

    pub dumped-short : Err OutputShort ≡ dumped text first
    dumped-short = sym (simp over)

    pub filled-short : out ≡ filled text first
    filled-short = dry.stands ∙ sym (simp over)
