-- A stored book that holds a setting in both its forms: every call but make gets 16 and alters nothing, whatever it is asked (`both-refused`);
-- what is no book by its size or bytes is refused for that first (`ten-first`), no other call gets 16 (`sixteen-only`),
-- and after a make none ever does (`never-sixteen`), nor after calls on a stored book that can be edited (`stored-sixteen`).
-- Assumes nothing.
use mathlib.Core.Path.{ap, refl, subst, sym, ◌∙◌, ◌≡◌}
use mathlib.Core.Bool.{Bool, cond, false, false≢true, true}
use mathlib.Core.List.{List, [], ◌∷◌}
use Prim.Native.Nat.{ℕ, ◌≤◌}
use native.Mathlib.Omega.{arith}
use lib.ListN.{length}
use Rattle.refusal.specs.declared.Refusal.{Refusal}
use Rattle.refusal.specs.declared.Refusal.TheVariants.{BothForms}
use Rattle.refusal.specs.Numbers.{number_of}
use Rattle.contents.specs.Contents.{Contents, Layout, holds, judge, longest, refused, start}
use Rattle.contents.proofs.Judged.{Bytes}
use Rattle.contents.proofs.Places.{judge-own}
use Rattle.forms.specs.Forms.{single}
use Rattle.forms.proofs.Forms.{forms-single}
use Rattle.std.specs.Prelude.{Err}
use Rattle.book.specs.Book.{Edit, Read, Use, agreed, call_for, layout_in, opened, opened_for, ours, verdict}
use Rattle.book.specs.History.{Ask, Call, Clear, Make, Put, Remove, Replay, after, on_bytes, wants}
use Rattle.book.specs.Plain.{Turn}
use Rattle.codec.proofs.Places.{decode-own}
use Rattle.book.proofs.Calls.{opened-forms, opened-judge}
use Rattle.book.proofs.Versions.{edit-opened, edit-serves, opened_for-refuses, refuses-opened}
use Rattle.book.proofs.Keeps.{lent_to}
use Rattle.book.proofs.Places.{Says, Steps, after-says, made-says}
use Rattle.book.proofs.Single.{history-opens}
use Rattle.book.proofs.Called.{stored-opens}

-- whether a call is a make
abbrev pub is_make : Call → Bool
is_make Make = true
is_make (Put f) = false
is_make (Remove k) = false
is_make (Ask k o) = false
is_make Clear = false
is_make (Replay o) = false

-- a call that is refused before anything is asked
module _ (b : List ℕ) (x : Refusal) where
  call-refused : (u : Use) → opened_for u b ≡ refused x → (s : List ℕ → ℕ → List (List ℕ) → Turn) (o : List ℕ)
      → call_for u s o b ≡ record { answer = Err x; output = o; bytes = b }
  unfolding call_for
  call-refused u e s o = rw e

  after-refused : (c : Call) → is_make c ≡ false → opened_for (wants c) b ≡ refused x → after c b ≡ record { answer = Err x; output = lent_to c; bytes = b }
  after-refused Make n e = absurd (false≢true (sym n))
  after-refused (Put f) n e = call-refused Edit e _ []
  after-refused (Remove k) n e = call-refused Edit e _ []
  after-refused (Ask k o) n e = call-refused Read e _ o
  after-refused Clear n e = call-refused Edit e _ []
  after-refused (Replay o) n e = call-refused Read e _ o

module _ (b : List ℕ) (c : Call) (n : is_make c ≡ false) where
  pub ten-first : (x : Refusal) → judge (layout_in b) b ≡ refused x → after c b ≡ record { answer = Err x; output = lent_to c; bytes = b }
  unfolding opened
  ten-first x e = after-refused b x c n (opened_for-refuses (wants c) b x (rw e))

  pub both-refused : (fs : List (List ℕ)) → judge (layout_in b) b ≡ holds fs → single fs ≡ false
      → after c b ≡ record { answer = Err BothForms; output = lent_to c; bytes = b }
  unfolding opened
  both-refused fs e o = after-refused b BothForms c n (opened_for-refuses (wants c) b BothForms (rw (e, o)))

-- the frames of a book that gets 16
pub record Both (l : Layout) (b : List ℕ) : Type 0 where
  pub frames : List (List ℕ)
  pub reads : judge l b ≡ holds frames
  pub two : single frames ≡ false

-- ---- no other 16

module _ (b : List ℕ) where
  l : Layout
  l = layout_in b

  -- a refusal by 16 tells of both forms
  abbrev Tells16 : Refusal → Type 0
  Tells16 x = number_of x ≡ 16 → Both l b

  steps-none : Steps Tells16
  steps-none = record {
    room = λ e. absurd (omega arith);
    held = λ e. absurd (omega arith);
    kind = λ e. absurd (omega arith);
    short = λ e. absurd (omega arith);
    frame = λ f x d e. absurd (omega (arith, decode-own f x d));
  }

  -- which a book of its layout holds
  two-forms : (x : Refusal) → opened l b ≡ refused x → number_of x ≡ 16 → Both l b
  unfolding opened l
  two-forms x e n = go (judge l b) refl e
    where
      number : Contents → ℕ
      number (refused y) = number_of y
      number (holds fs) = 0

      go : (r : Contents) → judge l b ≡ r → agreed r ≡ refused x → Both l b
      go (refused y) w q = let h : number_of y ≡ number_of x = ap number q in absurd (omega (arith, judge-own l b y w))
      go (holds fs) w q = by (single fs) refl q
        where
          by : (t : Bool) → single fs ≡ t → cond t (holds fs) (refused BothForms) ≡ refused x → Both l b
          by false s z = record { frames = fs; reads = w; two = s }
          by true s z = let h : 0 ≡ number_of x = ap number z in absurd (omega arith)

  own : (u : Use) (x : Refusal) → opened_for u b ≡ refused x → number_of x ≡ 16 → Both l b
  unfolding l
  own u x e n = two-forms x (refuses-opened u b x e) n

  -- whatever the call and the bytes: who hears 16 called a book that holds both forms
  pub sixteen-only : (c : Call) → (after c b).answer ≡ Err BothForms → (is_make c ≡ false) × Both (layout_in b) b
  unfolding l
  sixteen-only c e = (opens c e, subst (Says Tells16) e (after-says Tells16 steps-none b own (λ n. absurd (omega arith)) c) refl)
    where
      Eleven : Refusal → Type 0
      Eleven x = number_of x ≡ 11

      opens : (c : Call) → (after c b).answer ≡ Err BothForms → is_make c ≡ false
      opens Make e = absurd (let n : ◌≡◌ {A = ℕ} 16 11 = subst (Says Eleven) e (made-says Eleven ours b refl) in omega arith)
      opens (Put f) e = refl
      opens (Remove k) e = refl
      opens (Ask k o) e = refl
      opens Clear e = refl
      opens (Replay o) e = refl

-- ---- where none is given

-- a book that can be edited gets none
open-sixteen : (b : List ℕ) (fs : List (List ℕ)) → opened_for Edit b ≡ holds fs → (c : Call) → (after c b).answer ≡ Err BothForms → ⊥
open-sixteen b fs h c e =
    let two = (sixteen-only b c e).1 in
    let opens = edit-opened b fs h in
    let own : layout_in b ≡ ours = (edit-serves b 0 (sym (ap verdict h))).layout in
    let same : holds two.frames ≡ holds fs = sym two.reads ∙ ap (λ (l : Layout). judge l b) own ∙ opened-judge ours b fs opens in
    let frames : two.frames ≡ fs = cc in
    false≢true (sym two.two ∙ ap single frames ∙ forms-single fs (opened-forms ours b fs opens))

-- NO CALL OF OURS EVER LEADS TO A 16: after a make and whatever calls, no call gets it
pub never-sixteen : (b : List ℕ) → start ours.slots ≤ length b → length b ≤ longest → (cs : List Call) (c : Call)
    → (after c (on_bytes after (Make ∷ cs) b).bytes).answer ≡ Err BothForms → ⊥
never-sixteen b low high cs c e = open-sixteen (on_bytes after (Make ∷ cs) b).bytes _ (history-opens b low high cs Edit) c e

-- nor does one after whatever calls on a stored book that can be edited: no call brings a second form into it
pub stored-sixteen : (b : List ℕ) (fs : List (List ℕ)) → opened_for Edit b ≡ holds fs → Bytes b → (cs : List Call) (c : Call)
    → (after c (on_bytes after cs b).bytes).answer ≡ Err BothForms → ⊥
stored-sixteen b fs h B cs c e = open-sixteen (on_bytes after cs b).bytes _ (stored-opens b fs h B cs Edit) c e
