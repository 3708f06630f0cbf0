-- A refused call leaves the book and the output as they were, for every call and bytes (`refused-keeps`).
-- Assumes nothing.
use mathlib.Core.Path.{ap, refl, sym, ◌∙◌, ◌≡◌}
use mathlib.Core.Bool.{Bool, cond, false, true}
use mathlib.Core.List.{List, [], ◌++◌}
use Prim.Native.Nat.{ℕ}
use lib.Dec.{leb, ltb}
use lib.ListN.{drop, length}
use Rattle.refusal.specs.declared.Refusal.{Refusal}
use Rattle.refusal.specs.declared.Refusal.TheVariants.{BufferSize, NoRoom, NotAKind, NotHeld, OutputShort}
use Rattle.decoder.specs.Decoding.{decode}
use Rattle.reel.specs.Reel.{reel_of}
use Rattle.std.specs.Prelude.{Ok, Err}
use Rattle.table.specs.Table.{settings}
use Rattle.settings.specs.Settings.{lacks, slot_for, slot_of}
use Rattle.contents.specs.Frames.{flat, held}
use Rattle.contents.specs.Contents.{Contents, Layout, holds, image, longest, refused, room_of, start}
use Rattle.contents.proofs.Judged.{Bytes}
use Rattle.book.specs.Plain.{Turn, ask_on, become, clear_on, frame_of, placed, put_on, refuse, remove_on, replay_on, tell, without}
use Rattle.book.specs.Book.{Edit, Outcome, Read, Use, call_for, layout_in, made, on_contents, opened_for, ours}
use Rattle.book.specs.History.{Ask, Call, Clear, Make, Put, Remove, Replay, after}
use Rattle.book.proofs.Calls.{done_refused, opened-bytes}
use Rattle.book.proofs.Versions.{opened_for-opened}

-- the output that a call is lent
abbrev pub lent_to : Call → List ℕ
lent_to Make = []
lent_to (Put f) = []
lent_to (Remove k) = []
lent_to (Ask k o) = o
lent_to Clear = []
lent_to (Replay o) = o

-- ---- turns

-- a turn that is refused keeps output and list
abbrev pub Keeps : Turn → List ℕ → List (List ℕ) → Type 0
Keeps t o fs = (x : Refusal) → t.answer ≡ Err x → (t.output ≡ o) × (t.frames ≡ fs)

become-keeps : (o o' : List ℕ) (fs gs : List (List ℕ)) → Keeps (become o fs) o' gs
become-keeps o o' fs gs x q = absurd (done_refused 0 x q)

refuse-keeps : (y : Refusal) (o : List ℕ) (fs : List (List ℕ)) → Keeps (refuse y o fs) o fs
refuse-keeps y o fs x q = (refl, refl)

tell-keeps : (m o : List ℕ) (fs : List (List ℕ)) → Keeps (tell m o fs) o fs
tell-keeps m o fs = go (leb (length m) (length o))
  where
    go : (t : Bool) → Keeps (cond {A = Turn} t (record { answer = Ok (length m); output = m ++ drop (length m) o; frames = fs }) (refuse OutputShort o fs))
        o fs
    go true x q = absurd (done_refused (length m) x q)
    go false x q = (refl, refl)

held_keeps : (t : Turn) (o : List ℕ) (fs : List (List ℕ)) → Keeps t o fs → (a b : Bool)
    → Keeps (cond {A = Turn} a (cond b t (refuse NotHeld o fs)) (refuse NotAKind o fs)) o fs
held_keeps t o fs k true true = k
held_keeps t o fs k true false = refuse-keeps NotHeld o fs
held_keeps t o fs k false b = refuse-keeps NotAKind o fs

module _ (o : List ℕ) (room : ℕ) (fs : List (List ℕ)) where
  pub put_keeps : (f : List ℕ) → Keeps (put_on f o room fs) o fs
  unfolding put_on
  put_keeps f = go (ltb (slot_of f) settings) (leb (length (flat (placed f fs))) room)
    where
      go : (a b : Bool) → Keeps (cond {A = Turn} a (cond b (become o (placed f fs)) (refuse NoRoom o fs)) (refuse (lacks (decode f)) o fs)) o fs
      go true true = become-keeps o o (placed f fs) fs
      go true false = refuse-keeps NoRoom o fs
      go false b = refuse-keeps (lacks (decode f)) o fs

  pub remove-keeps : (k : ℕ) → Keeps (remove_on k o room fs) o fs
  unfolding remove_on
  remove-keeps k =
      held_keeps (become o (without (slot_for k) fs)) o fs (become-keeps o o (without (slot_for k) fs) fs) (ltb (slot_for k) settings) (held (slot_for k) fs)

  pub ask-keeps : (k : ℕ) → Keeps (ask_on k o room fs) o fs
  unfolding ask_on
  ask-keeps k =
      held_keeps (tell (frame_of (slot_for k) fs) o fs) o fs (tell-keeps (frame_of (slot_for k) fs) o fs) (ltb (slot_for k) settings) (held (slot_for k) fs)

  pub replay-keeps : Keeps (replay_on o room fs) o fs
  unfolding replay_on
  replay-keeps = tell-keeps (reel_of fs) o fs

  pub clear-keeps : Keeps (clear_on o room fs) o fs
  unfolding clear_on
  clear-keeps = become-keeps o o [] fs

-- ---- calls

-- whatever the step on the list, if its refused turns keep output and list
pub call-keeps : (u : Use) (s : List ℕ → ℕ → List (List ℕ) → Turn) (o b : List ℕ) → Bytes b
    → ((room : ℕ) (fs : List (List ℕ)) (x : Refusal) → (s o room fs).answer ≡ Err x → ((s o room fs).output ≡ o) × ((s o room fs).frames ≡ fs))
    → (x : Refusal) → (call_for u s o b).answer ≡ Err x → ((call_for u s o b).output ≡ o) × ((call_for u s o b).bytes ≡ b)
unfolding call_for
call-keeps u s o b B keeps x e = go (opened_for u b) refl e
  where
    l : Layout
    l = layout_in b

    go : (c : Contents) → opened_for u b ≡ c → (on_contents l s o b c).answer ≡ Err x → ((on_contents l s o b c).output ≡ o) × ((on_contents l s o b c).bytes ≡ b)
    go (refused y) w q = (refl, refl)
    go (holds fs) w q =
        let k = keeps (room_of l (length b)) fs x q in
        (k.0, ap (λ (u : List (List ℕ)). image l (length b) u) k.1 ∙ sym (opened-bytes l b fs B (opened_for-opened u b fs w)))

made-keeps : (l : Layout) (b : List ℕ) (x : Refusal) → (made l b).answer ≡ Err x → ((made l b).output ≡ []) × ((made l b).bytes ≡ b)
unfolding made
made-keeps l b x e = go (leb (start l.slots) (length b)) (leb (length b) longest) e
  where
    picked : Bool → Bool → Outcome
    picked s t =
        cond s
        (cond t (record { answer = Ok 0; output = []; bytes = image l (length b) [] }) (record { answer = Err BufferSize; output = []; bytes = b }))
        (record { answer = Err BufferSize; output = []; bytes = b })

    go : (s t : Bool) → (picked s t).answer ≡ Err x → ((picked s t).output ≡ []) × ((picked s t).bytes ≡ b)
    go true true q = absurd (done_refused 0 x q)
    go true false q = (refl, refl)
    go false c q = (refl, refl)

-- WHAT IS REFUSED ALTERS NOTHING: whatever the bytes are, a call that is refused leaves the book and the output
pub refused-keeps : (c : Call) (b : List ℕ) → Bytes b → (x : Refusal) → (after c b).answer ≡ Err x → ((after c b).output ≡ lent_to c) × ((after c b).bytes ≡ b)
refused-keeps Make b B = made-keeps ours b
refused-keeps (Put f) b B = call-keeps Edit (put_on f) [] b B (λ room fs. put_keeps [] room fs f)
refused-keeps (Remove k) b B = call-keeps Edit (remove_on k) [] b B (λ room fs. remove-keeps [] room fs k)
refused-keeps (Ask k o) b B = call-keeps Read (ask_on k) o b B (λ room fs. ask-keeps o room fs k)
refused-keeps Clear b B = call-keeps Edit clear_on [] b B (λ room fs. clear-keeps [] room fs)
refused-keeps (Replay o) b B = call-keeps Read replay_on o b B (λ room fs. replay-keeps o room fs)
