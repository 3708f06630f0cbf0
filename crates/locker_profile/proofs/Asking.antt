-- What an ask of a book tells of a setting's arguments, as the source hands it on (specs/Steps.antt).
-- Assumes nothing.
use mathlib.Core.Path.{ap, refl, sym, ◌∙◌, ◌≡◌}
use mathlib.Core.Bool.{Bool, cond, false, true}
use mathlib.Core.List.{List, [], ◌++◌, ◌∷◌}
use Prim.Native.Nat.{ℕ, suc, zero, ◌-◌, ◌<◌, ◌≤◌}
use native.Mathlib.Omega.{arith}
use borrow.Author.Tests.{le-leb, lt-ltb, ne_eqb}
use Rattle.std.specs.Prelude.{Result, Ok, Err}
use lib.ListN.{drop, get_or, length, replicate, take}
use lib.Seq.{take_at}
use Rattle.refusal.specs.declared.Refusal.{Refusal}
use Rattle.refusal.specs.declared.Refusal.TheVariants.{NotHeld, SettingMissing}
use Rattle.refusal.specs.Numbers.{number_of}
use Rattle.decoder.specs.Decoding.{Reading, decode, decoded, reading, refuses}
use Rattle.decoder.specs.declared.Decoded.{Decoded}
use Rattle.decoder.proofs.Apart.{err-ok}
use Rattle.decoder.proofs.Handed.{decoded-refuses}
use Rattle.table.specs.Table.{settings}
use Rattle.settings.specs.Settings.{size_of, slot_for}
use Rattle.settings.proofs.Settings.{size-high, slot_of-length}
use Rattle.contents.specs.Frames.{held}
use Rattle.contents.proofs.Judged.{apart}
use Rattle.contents.specs.Contents.{Contents, holds, refused}
use Rattle.std.specs.Prelude.{Err, Ok, Result}
use Rattle.book.specs.Plain.{Turn, ask_on, frame_of, refuse, tell}
use Rattle.book.specs.Book.{Read, call_for, layout_in, on_contents, opened_for, room_in}
use Rattle.book.specs.History.{Ask, after}
use Rattle.book.proofs.Calls.{done_refused}
use Rattle.book.proofs.Laws.{frame-slot}
use Rattle.locker_profile.specs.Profile.{Refused, answered, arguments_of, frame_for, lora_from, lora_of, profile_of, profiled}
use Rattle.locker_profile.specs.Steps.{asked_of, given, handed, missing_for, withheld}
use Rattle.locker_profile.proofs.Bounds.{opened_for-own, own-not}

-- ---- the decoder's nine numbers

pad : (vs : List ℕ) (n i : ℕ) → get_or (vs ++ replicate n 0) i 0 ≡ get_or vs i 0
pad [] zero i = refl
pad [] (suc n) zero = refl
pad [] (suc n) (suc i) = pad [] n i
pad (v ∷ vs) n zero = refl
pad (v ∷ vs) n (suc i) = pad vs n i

-- they are handed over, and none where the decoder refuses
pub handed-reading : (x : Reading) (a : Result Decoded Refusal) (d : Decoded) → a ≡ decoded x → a ≡ Ok d → d.args ≡ handed x
unfolding decoded
handed-reading (reading k vs) a d e h =
    let z : ◌≡◌ {A = Result Decoded Refusal} (Ok d) (decoded (reading k vs)) = sym h ∙ e in
    let q : d ≡ record { kind = k; count = length vs; args = vs ++ replicate (9 - length vs) 0 } = cc in
    ap (λ (y : Decoded). y.args) q
handed-reading (refuses x) a d e h = absurd (err-ok (sym e ∙ h))

pub handed-refuses : (x : Reading) (a : Result Decoded Refusal) (r : Refusal) → a ≡ decoded x → a ≡ Err r → replicate 9 0 ≡ handed x
handed-refuses x a r e h = ap handed (sym (decoded-refuses x a r e h))

-- behind its own arguments a frame has zeros
argument_is : (f : List ℕ) (i : ℕ) → get_or (handed (decode f)) i 0 ≡ get_or (arguments_of (decode f)) i 0
argument_is f i = by (decode f)
  where
    by : (r : Reading) → get_or (handed r) i 0 ≡ get_or (arguments_of r) i 0
    by (reading k vs) = pad vs (9 - length vs) i
    by (refuses x) = pad [] 9 i

-- ---- an ask into twelve bytes

-- no frame of a setting is longer
frame-short : (s : ℕ) (fs : List (List ℕ)) → s < settings → held s fs ≡ true → length (frame_of s fs) ≤ 12
frame-short s fs a h =
    let e = frame-slot s fs h in
    omega (arith, slot_of-length (frame_of s fs) (omega (arith, e)), ap size_of e, size-high s a)

module _ (k : ℕ) (a : slot_for k < settings) (o : List ℕ) (n : length o ≡ 12) where
  -- so a kind that is held is told, and no other
  abbrev picked : List (List ℕ) → Bool → Turn
  picked fs t =
      cond t (record { answer = Ok (length (frame_for k fs)); output = frame_for k fs ++ drop (length (frame_for k fs)) o; frames = fs }) (refuse NotHeld o fs)

  ask-list : (room : ℕ) (fs : List (List ℕ)) → ask_on k o room fs ≡ picked fs (held (slot_for k) fs)
  unfolding ask_on
  ask-list room fs = rw (lt-ltb (slot_for k) settings a) (by (held (slot_for k) fs) refl)
    where
      by : (t : Bool) → held (slot_for k) fs ≡ t → cond {A = Turn} t (tell (frame_for k fs) o fs) (refuse NotHeld o fs) ≡ picked fs t
      by true h = rw (le-leb (length (frame_for k fs)) (length o) (omega (arith, frame-short (slot_for k) fs a h)))
      by false h = refl

  module _ (b : List ℕ) where
    pub ask-most : (m : ℕ) → Ok m ≡ (after (Ask k o) b).answer → m ≤ 12
    unfolding call_for
    ask-most m e = by (opened_for Read b) e
      where
        told : (fs : List (List ℕ)) (t : Bool) → held (slot_for k) fs ≡ t → Ok m ≡ (picked fs t).answer → m ≤ 12
        told fs true h e = let l : m ≡ length (frame_for k fs) = cc in omega (arith, frame-short (slot_for k) fs a h)
        told fs false h e = absurd (done_refused m NotHeld e)

        by : (c : Contents) → Ok m ≡ (on_contents (layout_in b) (ask_on k) o b c).answer → m ≤ 12
        by (refused x) e = absurd (done_refused m x e)
        by (holds fs) e = told fs (held (slot_for k) fs) refl (rw (ask-list (room_in b) fs) at e)

    pub ask-held : (m : ℕ) (out : List ℕ) → Ok m ≡ (after (Ask k o) b).answer → out ≡ (after (Ask k o) b).output
        → given (decode (take m out)) ≡ asked_of k (opened_for Read b)
    unfolding call_for
    ask-held m out e f = by (opened_for Read b) e f
      where
        told : (fs : List (List ℕ)) (t : Bool) → Ok m ≡ (picked fs t).answer → out ≡ (picked fs t).output
            → given (decode (take m out)) ≡ cond t (given (decode (frame_for k fs))) (withheld SettingMissing)
        told fs true e f =
            let x = frame_for k fs in
            let l : m ≡ length x = cc in
            ap (λ (y : List ℕ). given (decode (take m y))) f
            ∙ ap (λ (y : List ℕ). given (decode y)) (take_at x (drop (length x) o) m (sym l))
        told fs false e f = absurd (done_refused m NotHeld e)

        by : (c : Contents) → Ok m ≡ (on_contents (layout_in b) (ask_on k) o b c).answer → out ≡ (on_contents (layout_in b) (ask_on k) o b c).output
            → given (decode (take m out)) ≡ asked_of k c
        by (refused x) e f = absurd (done_refused m x e)
        by (holds fs) e f =
            told fs (held (slot_for k) fs) (rw (ask-list (room_in b) fs) at e) (rw (ask-list (room_in b) fs) at f)

    pub ask-missing : (x : Refusal) → Err x ≡ (after (Ask k o) b).answer → withheld (missing_for x) ≡ asked_of k (opened_for Read b)
    unfolding call_for
    ask-missing x e = by (opened_for Read b) refl e
      where
        told : (fs : List (List ℕ)) (t : Bool) → Err x ≡ (picked fs t).answer
            → withheld (missing_for x) ≡ cond t (given (decode (frame_for k fs))) (withheld SettingMissing)
        told fs true e = absurd (done_refused (length (frame_for k fs)) x (sym e))
        told fs false e = let same : x ≡ NotHeld = cc in ap (λ (z : Refusal). withheld (missing_for z)) same

        by : (c : Contents) → opened_for Read b ≡ c → Err x ≡ (on_contents (layout_in b) (ask_on k) o b c).answer → withheld (missing_for x) ≡ asked_of k c
        by (refused y) w e =
            let same : x ≡ y = cc in
            ap (λ (z : Refusal). withheld (missing_for z)) same ∙ rw (ne_eqb (number_of y) 9 (own-not y (opened_for-own b y w)).0)
        by (holds fs) w e = told fs (held (slot_for k) fs) (rw (ask-list (room_in b) fs) at e)

-- ---- the three settings

pub slots-low : (slot_for 1 < settings) × ((slot_for 2 < settings) × (slot_for 4 < settings))
unfolding slot_for
slots-low = (omega arith, (omega arith, omega arith))

pub record Has (k : ℕ) (c : Contents) (s : List ℕ) : Type 0 where
  pub frames : List (List ℕ)
  pub opens : c ≡ holds frames
  pub there : held (slot_for k) frames ≡ true
  pub said : s ≡ handed (decode (frame_for k frames))

abbrev Told : Type 0
Told = Result (List ℕ) Refusal

told_apart : (v : List ℕ) (x : Refusal) → ◌≡◌ {A = Told} (Ok v) (Err x) → ⊥
told_apart v x q = apart (cc)

module _ (k : ℕ) (a : Told) where
  pub has : (c : Contents) (s : List ℕ) → a ≡ asked_of k c → a ≡ Ok s → Has k c s
  has (refused x) s e d = absurd (told_apart s x (sym d ∙ e))
  has (holds fs) s e d = by (held (slot_for k) fs) refl e
    where
      by : (t : Bool) → held (slot_for k) fs ≡ t
          → a ≡ cond t (given (decode (frame_for k fs))) (withheld SettingMissing) → Has k (holds fs) s
      by true h q = let w : ◌≡◌ {A = Told} (Ok s) (given (decode (frame_for k fs))) = sym d ∙ q in record { frames = fs; opens = refl; there = h; said = cc }
      by false h q = absurd (told_apart s SettingMissing (sym d ∙ q))

  pub lacks : (fs : List (List ℕ)) (x : Refusal) → a ≡ asked_of k (holds fs) → a ≡ Err x
      → (held (slot_for k) fs ≡ false) × (x ≡ SettingMissing)
  lacks fs x e d = by (held (slot_for k) fs) e
    where
      by : (t : Bool) → a ≡ cond t (given (decode (frame_for k fs))) (withheld SettingMissing)
          → (t ≡ false) × (x ≡ SettingMissing)
      by true q = absurd (told_apart (handed (decode (frame_for k fs))) x (sym q ∙ d))
      by false q = let w : ◌≡◌ {A = Told} (Err x) (Err SettingMissing) = sym d ∙ q in (refl, cc)

-- which answer each of the three leads to
module _ (c : Contents) (x : Refusal) (one : Told) (a : one ≡ asked_of 1 c) where
  pub refused-first : one ≡ Err x → Refused x ≡ profiled c
  unfolding profile_of
  refused-first d = by c a
    where
      by : (c : Contents) → one ≡ asked_of 1 c → Refused x ≡ profiled c
      by (refused y) e = let w : ◌≡◌ {A = Told} (Err x) (Err y) = sym d ∙ e in let z : x ≡ y = cc in ap (λ (r : Refusal). Refused r) z
      by (holds fs) e = let l = lacks 1 one fs x e d in rw l.0 (ap (λ (r : Refusal). Refused r) l.1)

  module _ (u : List ℕ) (d : one ≡ Ok u) (two : Told) (b : two ≡ asked_of 2 c) where
    pub refused-second : two ≡ Err x → Refused x ≡ profiled c
    unfolding profile_of
    refused-second e =
        let h = has 1 one c u a d in
        let l = lacks 2 two h.frames x (b ∙ ap (asked_of 2) h.opens) e in
        rw (h.opens, h.there, l.0) (ap (λ (r : Refusal). Refused r) l.1)

    module _ (v : List ℕ) (e : two ≡ Ok v) (four : Told) (g : four ≡ asked_of 4 c) where
      pub refused-fourth : four ≡ Err x → Refused x ≡ profiled c
      unfolding profile_of
      refused-fourth f =
          let h = has 1 one c u a d in
          let i = has 2 two c v b e in
          let same : holds i.frames ≡ holds h.frames = sym i.opens ∙ h.opens in
          let l = lacks 4 four h.frames x (g ∙ ap (asked_of 4) h.opens) f in
          let there : held (slot_for 2) h.frames ≡ true = ap (held (slot_for 2)) (cc) ∙ i.there in
          rw (h.opens, h.there, there, l.0) (ap (λ (r : Refusal). Refused r) l.1)

-- the arguments that count are those of the three frames
pub lora-same : (f g h : List ℕ) → lora_from (handed (decode f)) (handed (decode g)) (handed (decode h)) ≡ lora_of f g h
unfolding lora_of
lora-same f g h =
    rw (argument_is f 0, argument_is f 1, argument_is f 2, argument_is f 3, argument_is g 2, argument_is g 3, argument_is h 0)

pub all-judged : (c : Contents) (one two four : List ℕ) → Has 1 c one → Has 2 c two → Has 4 c four
    → answered (lora_from one two four) ≡ profiled c
unfolding profile_of
all-judged c one two four h i j =
    let p : holds i.frames ≡ holds h.frames = sym i.opens ∙ h.opens in
    let q : holds j.frames ≡ holds h.frames = sym j.opens ∙ h.opens in
    let second : i.frames ≡ h.frames = cc in
    let fourth : j.frames ≡ h.frames = cc in
    let packet : held (slot_for 2) h.frames ≡ true = ap (held (slot_for 2)) (sym second) ∙ i.there in
    let sync : held (slot_for 4) h.frames ≡ true = ap (held (slot_for 4)) (sym fourth) ∙ j.there in
    rw (
      h.opens,
      h.there,
      packet,
      sync,
      h.said,
      i.said ∙ ap (λ (fs : List (List ℕ)). (handed (decode (frame_for 2 fs)))) second,
      j.said
          ∙ ap (λ (fs : List (List ℕ)). (handed (decode (frame_for 4 fs)))) fourth,
    )
    (ap answered (lora-same (frame_for 1 h.frames) (frame_for 2 h.frames) (frame_for 4 h.frames)))
