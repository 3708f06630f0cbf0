-- What a call gives (`Gives`); a call on bytes of a layout, by what is read in them: what opens and what does not (`opened-..`, `ready-..`), and the step
-- on the frames (`accept`); and what a make gives (`make-..`).
-- Assumes nothing.
use mathlib.Core.Path.{ap, refl, sym, ◌∙◌, ◌≡◌}
use mathlib.Core.Bool.{Bool, cond, false, not, true}
use mathlib.Core.List.{List, []}
use Prim.Native.Nat.{ℕ, ◌<◌, ◌≤◌}
use borrow.Author.Tests.{le-leb, lt-leb}
use lib.Dec.{eqb}
use lib.ListN.{length}
use Rattle.refusal.specs.declared.Refusal.{Refusal}
use Rattle.refusal.specs.declared.Refusal.TheVariants.{BothForms, BufferSize}
use Rattle.std.specs.Prelude.{Err, IsErrAnd, Ok, Result}
use Rattle.contents.specs.Frames.{held}
use Rattle.contents.specs.Contents.{Contents, Layout, holds, image, judge, longest, offset_at, present_for, refused, room_of, start, verdict_of}
use Rattle.contents.proofs.Judged.{Bytes, Reads, apart, judge-image, judge-reads}
use Rattle.contents.proofs.Offsets.{offset-among, present-tells}
use Rattle.forms.specs.Forms.{in_both, single}
use Rattle.forms.proofs.Forms.{OneForm, both-agree, single-forms}
use Rattle.book.specs.Plain.{Turn, become, clear_on, Answer}
use Rattle.book.specs.Book.{Outcome, Permits, Tells, agreed, call, made, opened, verdict}

-- an answer is not both
pub done_refused : (n : ℕ) (x : Refusal) → Ok n ≡ Err x → ⊥
done_refused n x q = apart (cc)

-- what a `?` hands on is the refusal that it met
pub handed : {T : Type 0} (r : Result T Refusal) (x : Refusal) → IsErrAnd r (λ y. y ≡ x) → r ≡ Err x
handed (Err y) x h = ap (λ (z : Refusal). Err z) h
handed (Ok n) x h = absurd h

-- ---- an outcome

-- what a call gives, all of it
pub record Gives (p : Outcome) (a : Answer) (x y : List ℕ) : Type 0 where
  pub answer : a ≡ p.answer
  pub output : x ≡ p.output
  pub bytes : y ≡ p.bytes

module _ (p : Outcome) (a : Answer) (x y : List ℕ) (g : Gives p a x y) where
  pub permits : Permits p a y
  permits = (g.answer, g.bytes)

  pub tells : Tells p a x
  tells = (g.answer, g.output)

-- what is permitted of one call is permitted of an equal one
module _ (p q : Outcome) (a : Answer) (y : List ℕ) (e : p ≡ q) where
  pub permits-same : Permits p a y → Permits q a y
  permits-same h = (h.0 ∙ ap (λ (x : Outcome). x.answer) e, h.1 ∙ ap (λ (x : Outcome). x.bytes) e)

  pub tells-same : Tells p a y → Tells q a y
  tells-same h = (h.0 ∙ ap (λ (x : Outcome). x.answer) e, h.1 ∙ ap (λ (x : Outcome). x.output) e)

-- ---- what is found

-- the frames that were found
pub record Finds (c : Contents) : Type 0 where
  pub frames : List (List ℕ)
  pub opens : c ≡ holds frames

-- a verdict that is done has found some, and its number is 0
pub done-finds : (c : Contents) (n : ℕ) → Ok n ≡ verdict c → Finds c
done-finds (refused x) n e = absurd (done_refused n x e)
done-finds (holds fs) n e = record { frames = fs; opens = refl }

pub done-nought : (c : Contents) (n : ℕ) → Ok n ≡ verdict c → Ok 0 ≡ verdict c
done-nought c n e = sym (ap verdict (done-finds c n e).opens)

pub record Holds (l : Layout) (b : List ℕ) : Type 0 where
  pub frames : List (List ℕ)
  pub reads : judge l b ≡ holds frames
  pub opens : opened l b ≡ holds frames

agreed-holds : (c : Contents) (fs : List (List ℕ)) → agreed c ≡ holds fs → (c ≡ holds fs) × (single fs ≡ true)
agreed-holds (refused x) fs h = absurd (apart (cc))
agreed-holds (holds gs) fs h = go (single gs) refl h
  where
    go : (t : Bool) → single gs ≡ t → cond t (holds gs) (refused BothForms) ≡ holds fs → (holds gs ≡ holds fs) × (single fs ≡ true)
    go true e z = let q : gs ≡ fs = cc in (z, ap single (sym q) ∙ e)
    go false e z = absurd (apart (cc))

-- what opens reads as those frames, and holds no setting in both its forms
pub opened-judge : (l : Layout) (b : List ℕ) (fs : List (List ℕ)) → opened l b ≡ holds fs → judge l b ≡ holds fs
unfolding opened
opened-judge l b fs h = (agreed-holds (judge l b) fs h).0

pub opened-forms : (l : Layout) (b : List ℕ) (fs : List (List ℕ)) → opened l b ≡ holds fs → OneForm fs
unfolding opened
opened-forms l b fs h = single-forms fs (agreed-holds (judge l b) fs h).1

-- a book that opens reads as frames
pub opened-holds : (l : Layout) (b : List ℕ) (n : ℕ) → Ok n ≡ verdict (opened l b) → Holds l b
opened-holds l b n h =
    let f = done-finds (opened l b) n h in
    record { frames = f.frames; reads = opened-judge l b f.frames f.opens; opens = f.opens }

-- what the check of a buffer says is what a call finds
pub ready_refused : (l : Layout) (b : List ℕ) (x : Refusal) → Err x ≡ verdict_of (judge l b) → Err x ≡ verdict (opened l b)
unfolding opened
ready_refused l b x e = go (judge l b) e
  where
    go : (r : Contents) → Err x ≡ verdict_of r → Err x ≡ verdict (agreed r)
    go (refused y) z = let w : x ≡ y = cc in ap (λ (y : Refusal). Err y) w
    go (holds fs) z = absurd (apart (cc))

-- the offsets of a header tell which slots are held
pub present-held : (l : Layout) (b : List ℕ) (fs : List (List ℕ)) → judge l b ≡ holds fs → (s : ℕ) → s < l.slots → not (eqb (offset_at b s) 0) ≡ held s fs
present-held l b fs h s a = ap (λ (o : ℕ). not (eqb o 0)) (sym (offset-among l.slots b s a)) ∙ present-tells l b fs h s

-- and so whether a setting is held in both its forms
module _ (l : Layout) (b : List ℕ) (ok : Ok tt ≡ verdict_of (judge l b)) where
  sorted : (t : Bool) → in_both (present_for l.slots b) ≡ t → verdict (opened l b) ≡ cond t (Err BothForms) (Ok 0)
  unfolding opened single
  sorted t e = go (judge l b) refl ok
    where
      go : (r : Contents) → judge l b ≡ r → Ok tt ≡ verdict_of r → verdict (agreed (judge l b)) ≡ cond t (Err BothForms) (Ok 0)
      go (refused y) w z = absurd (apart (cc))
      go (holds fs) w z = rw (w, ← both-agree (present_for l.slots b) (λ s. held s fs) (λ s a. present-tells l b fs w s), e) (by t)
        where
          by : (t : Bool) → verdict (cond (not t) (holds fs) (refused BothForms)) ≡ cond t (Err BothForms) (Ok 0)
          by true = refl
          by false = refl

  pub ready-both : in_both (present_for l.slots b) ≡ true → Err BothForms ≡ verdict (opened l b)
  ready-both e = sym (sorted true e)

  pub ready-one : in_both (present_for l.slots b) ≡ false → Ok 0 ≡ verdict (opened l b)
  ready-one e = sym (sorted false e)

-- what opens is the image of its frames
pub opened-bytes : (l : Layout) (b : List ℕ) (fs : List (List ℕ)) → Bytes b → opened l b ≡ holds fs → b ≡ image l (length b) fs
opened-bytes l b fs B h = judge-image l b fs B (opened-judge l b fs h)

-- a call on a book that reads as frames is the step on them
pub accept : (l : Layout) (s : List ℕ → ℕ → List (List ℕ) → Turn) (o b : List ℕ) (h : Holds l b) (t : Turn) (y : List ℕ)
    → s o (room_of l (length b)) h.frames ≡ t → y ≡ image l (length b) t.frames
    → Gives (call l s o b) t.answer t.output y
unfolding call
accept l s o b h t y e q =
    record {
      answer = rw h.opens (ap (λ (u : Turn). u.answer) (sym e));
      output = rw h.opens (ap (λ (u : Turn). u.output) (sym e));
      bytes = rw
          h.opens (q ∙ ap (λ (u : Turn). image l (length b) u.frames) (sym e));
    }

-- ---- the empty book

module _ (l : Layout) (b : List ℕ) where
  pub make-short : length b < start l.slots → (Err BufferSize ≡ (made l b).answer) × (b ≡ (made l b).bytes)
  unfolding made
  make-short a = (rw (lt-leb _ _ a), rw (lt-leb _ _ a))

  pub make-long : start l.slots ≤ length b → longest < length b → (Err BufferSize ≡ (made l b).answer) × (b ≡ (made l b).bytes)
  unfolding made
  make-long h a = (rw (le-leb _ _ h, lt-leb _ _ a), rw (le-leb _ _ h, lt-leb _ _ a))

  pub make-fits : (x : List ℕ) → start l.slots ≤ length b → length b ≤ longest → x ≡ image l (length b) []
      → (Ok 0 ≡ (made l b).answer) × (x ≡ (made l b).bytes)
  unfolding made
  make-fits x h a e = (rw (le-leb _ _ h, le-leb _ _ a), rw (le-leb _ _ h, le-leb _ _ a) e)

pub holds-reads : (l : Layout) (b : List ℕ) (h : Holds l b) → Reads l b h.frames
holds-reads l b h = judge-reads l b h.frames h.reads

pub clear-done : (l : Layout) (b y : List ℕ) → Holds l b → y ≡ image l (length b) [] → Gives (call l clear_on [] b) (Ok 0) [] y
unfolding clear_on
clear-done l b y h e = accept l clear_on [] b h (become [] []) y refl e
