-- What holds of each refusal that a step or a book's own judgement gives holds of every answer that is one (`after-says`); so the place that
-- an answer carries is at most 12, whatever the call and the bytes (`after-place`): it is the decoder's, or 0.
-- Assumes nothing.
use mathlib.Core.Path.{refl, subst, ◌≡◌}
use mathlib.Core.Bool.{Bool, cond, false, true}
use mathlib.Core.List.{List, [], ◌++◌}
use Prim.Native.Nat.{ℕ, ◌≤◌}
use native.Mathlib.Omega.{arith}
use lib.Dec.{leb, ltb}
use lib.ListN.{drop, length}
use Rattle.refusal.specs.declared.Refusal.{Refusal}
use Rattle.refusal.specs.declared.Refusal.TheVariants.{BothForms, BufferSize, NoRoom, NotAKind, NotHeld, OutputShort}
use Rattle.refusal.specs.Numbers.{place_of}
use Rattle.contents.proofs.Places.{judge-place}
use Rattle.decoder.specs.Decoding.{Reading, decode, reading, refuses}
use Rattle.codec.proofs.Places.{decode-place, place_in}
use Rattle.reel.specs.Reel.{reel_of}
use Rattle.std.specs.Prelude.{Ok, Err}
use Rattle.table.specs.Table.{settings}
use Rattle.settings.specs.Settings.{lacks, slot_for, slot_of}
use Rattle.contents.specs.Frames.{flat, held}
use Rattle.contents.specs.Contents.{Contents, Layout, holds, image, judge, longest, refused}
use Rattle.contents.specs.Contents.{start}
use Rattle.forms.specs.Forms.{single}
use Rattle.book.specs.Plain.{Turn, ask_on, become, clear_on, frame_of, placed, put_on, refuse, remove_on, replay_on, tell, without, Answer}
use Rattle.book.specs.Book.{Edit, Outcome, Read, Use, agreed, call_for, layout_in, made, on_contents, opened, opened_for, ours, room_in}
use Rattle.book.specs.History.{Ask, Call, Clear, Make, Put, Remove, Replay, after}
use Rattle.book.proofs.Versions.{refuses-opened}

-- what is said of an answer that is a refusal
abbrev pub Says : (Refusal → Type 0) → Answer → Type 0
Says P (Ok n) = Unit
Says P (Err x) = P x

-- what holds of the steps' refusals
pub record Steps (P : Refusal → Type 0) : Type 0 where
  pub room : P NoRoom
  pub held : P NotHeld
  pub kind : P NotAKind
  pub short : P OutputShort
  pub frame : (f : List ℕ) (x : Refusal) → decode f ≡ refuses x → P x

-- ---- make

module _ (P : Refusal → Type 0) (l : Layout) (b : List ℕ) (size : P BufferSize) where
  pub made-says : Says P (made l b).answer
  unfolding made
  made-says = by (leb (start l.slots) (length b)) (leb (length b) longest)
    where
      no : Outcome
      no = record { answer = Err BufferSize; output = []; bytes = b }

      by : (s t : Bool) → Says P (cond {A = Outcome} s (cond t (record { answer = Ok 0; output = []; bytes = image l (length b) [] }) no) no).answer
      by true true = tt
      by true false = size
      by false t = size

-- ---- the steps

module _ (P : Refusal → Type 0) (S : Steps P) where
  tell-says : (x o : List ℕ) (fs : List (List ℕ)) → Says P (tell x o fs).answer
  tell-says x o fs = by (leb (length x) (length o))
    where
      by : (t : Bool) → Says P (cond {A = Turn} t (record { answer = Ok (length x); output = x ++ drop (length x) o; frames = fs })
          (refuse OutputShort o fs)).answer
      by true = tt
      by false = S.short

  held-says : (t : Turn) (o : List ℕ) (fs : List (List ℕ)) → Says P t.answer → (a b : Bool)
      → Says P (cond {A = Turn} a (cond b t (refuse NotHeld o fs)) (refuse NotAKind o fs)).answer
  held-says t o fs h true true = h
  held-says t o fs h true false = S.held
  held-says t o fs h false b = S.kind

  pub put-says : (f o : List ℕ) (room : ℕ) (fs : List (List ℕ)) → Says P (put_on f o room fs).answer
  unfolding put_on
  put-says f o room fs = by (ltb (slot_of f) settings) (leb (length (flat (placed f fs))) room) (decode f) (S.frame f)
    where
      by : (a b : Bool) (x : Reading) → ((y : Refusal) → x ≡ refuses y → P y)
          → Says P (cond {A = Turn} a (cond b (become o (placed f fs)) (refuse NoRoom o fs)) (refuse (lacks x) o fs)).answer
      by true true x h = tt
      by true false x h = S.room
      by false b (reading k vs) h = S.kind
      by false b (refuses x) h = h x refl

  pub remove-says : (k : ℕ) (o : List ℕ) (room : ℕ) (fs : List (List ℕ)) → Says P (remove_on k o room fs).answer
  unfolding remove_on
  remove-says k o room fs = held-says (become o (without (slot_for k) fs)) o fs tt (ltb (slot_for k) settings) (held (slot_for k) fs)

  pub ask-says : (k : ℕ) (o : List ℕ) (room : ℕ) (fs : List (List ℕ)) → Says P (ask_on k o room fs).answer
  unfolding ask_on
  ask-says k o room fs =
      held-says (tell (frame_of (slot_for k) fs) o fs) o fs (tell-says (frame_of (slot_for k) fs) o fs) (ltb (slot_for k) settings) (held (slot_for k) fs)

  pub clear-says : (o : List ℕ) (room : ℕ) (fs : List (List ℕ)) → Says P (clear_on o room fs).answer
  unfolding clear_on
  clear-says o room fs = tt

  pub replay-says : (o : List ℕ) (room : ℕ) (fs : List (List ℕ)) → Says P (replay_on o room fs).answer
  unfolding replay_on
  replay-says o room fs = tell-says (reel_of fs) o fs

  -- ---- the calls, where it holds of the book's own refusals too

  module _ (b : List ℕ) (own : (u : Use) (x : Refusal) → opened_for u b ≡ refused x → P x) (size : P BufferSize) where
    pub call-says : (u : Use) (s : List ℕ → ℕ → List (List ℕ) → Turn) (o : List ℕ)
        → ((o : List ℕ) (room : ℕ) (fs : List (List ℕ)) → Says P (s o room fs).answer) → Says P (call_for u s o b).answer
    unfolding call_for
    call-says u s o h = by (opened_for u b) (own u)
      where
        by : (c : Contents) → ((x : Refusal) → c ≡ refused x → P x) → Says P (on_contents (layout_in b) s o b c).answer
        by (refused x) n = n x refl
        by (holds fs) n = h o (room_in b) fs

    pub after-says : (c : Call) → Says P (after c b).answer
    after-says Make = made-says P ours b size
    after-says (Put f) = call-says Edit (put_on f) [] (put-says f)
    after-says (Remove k) = call-says Edit (remove_on k) [] (remove-says k)
    after-says (Ask k o) = call-says Read (ask_on k) o (ask-says k)
    after-says Clear = call-says Edit clear_on [] clear-says
    after-says (Replay o) = call-says Read replay_on o replay-says

-- ---- places

abbrev pub Near : Refusal → Type 0
Near x = place_of x ≤ 12

pub steps-near : Steps Near
steps-near = record {
  room = omega arith;
  held = omega arith;
  kind = omega arith;
  short = omega arith;
  frame = λ f x e. subst (λ (r : Reading). place_in r ≤ 12) e (decode-place f);
}

-- what holds of what `judge` refuses by, and of both forms, holds of every refusal of a whole book
pub opened-says : (P : Refusal → Type 0) → P BothForms → (l : Layout) (b : List ℕ) → ((y : Refusal) → judge l b ≡ refused y → P y)
    → (x : Refusal) → opened l b ≡ refused x → P x
unfolding opened
opened-says P both l b h x e = subst of e (by (judge l b) refl)
  where
    of : Contents → Type 0
    of (refused y) = P y
    of (holds fs) = Unit

    told : (t : Bool) (fs : List (List ℕ)) → of (cond t (holds fs) (refused BothForms))
    told true fs = tt
    told false fs = both

    by : (c : Contents) → judge l b ≡ c → of (agreed c)
    by (refused y) w = h y w
    by (holds fs) w = told (single fs) fs

-- and so of every refusal that a use finds
pub opened_for-says : (P : Refusal → Type 0) → P BothForms → (b : List ℕ) → ((y : Refusal) → judge (layout_in b) b ≡ refused y → P y)
    → (u : Use) (x : Refusal) → opened_for u b ≡ refused x → P x
opened_for-says P both b h u x e = opened-says P both (layout_in b) b h x (refuses-opened u b x e)

pub opened_for-near : (b : List ℕ) (u : Use) (x : Refusal) → opened_for u b ≡ refused x → place_of x ≤ 12
opened_for-near b = opened_for-says Near (omega arith) b (λ y w. omega (arith, judge-place (layout_in b) b y w))

pub after-place : (b : List ℕ) (c : Call) (x : Refusal) → (after c b).answer ≡ Err x → place_of x ≤ 12
after-place b c x e = subst (Says Near) e (after-says Near steps-near b (opened_for-near b) (omega arith) c)
