-- What a command does, by what it decodes to: in the words of the contract of `send` (`sent_day`, `sent_bytes`) and on the list (`on_sent`, `day_on`).
--     setting-sent, stray-sent     a command that decodes to a setting is put and tallied, and so is one that does not decode,
--     action-sent                  and one that decodes to an action is neither: these three are all there are
--     kind-latest, stray-latest    the latest command is then the kind that it decodes to, and 0, no kind, where it does not decode,
--     stray-skips                  so that an answer behind it is no reading: one more is skipped, and the last readings stay
--     stray-counted                and a sound book refuses it by the decoder's own number, where it is counted (of the list: `stray-skips-on`,
--                                  `stray-counted-on`)
-- Assumes nothing.
use mathlib.Core.Path.{◌≡◌, refl, ap, ◌∙◌}
use mathlib.Core.Bool.{Bool, true, false, cond, not}
use mathlib.Core.List.{List, [], ◌∷◌}
use Prim.Native.Nat.{ℕ, ◌≤◌, ◌<◌}
use native.Mathlib.Omega.{arith}
use lib.Dec.{ltb}
use borrow.Author.Tests.{lt-ltb, le-ltb}
use Rattle.table.specs.Table.{settings}
use Rattle.settings.specs.Settings.{slot_for, slot_of}
use Rattle.refusal.specs.declared.Refusal.{Refusal}
use Rattle.refusal.specs.Numbers.{number_of}
use Rattle.decoder.specs.Decoding.{reading, refuses, decode}
use Rattle.codec.proofs.Places.{decode-own}
use Rattle.contents.specs.Contents.{holds}
use Rattle.std.specs.Prelude.{Ok, Err}
use Rattle.book.specs.Plain.{put_on, refuse, Answer}
use Rattle.book.specs.Book.{Edit, call_for, opened_for, room_in}
use Rattle.book.specs.History.{Put, after}
use Rattle.day.specs.declared.Day.{Day}
use Rattle.day.specs.Days.{accepted_one, bumped, missed, noted, on_received, plus, refused_one, tallied}
use Rattle.day.specs.Steps.{State, day_on, on_sent, received, sent, sent_bytes, sent_day}

-- ---- which commands are put

module _ (f b : List ℕ) (d : Day) where
  -- a command that is put, as one of the kind k
  abbrev pub PutAs : ℕ → Type 0
  PutAs k = (sent_day f b d ≡ tallied k (after (Put f) b).answer d) × (sent_bytes f b ≡ (after (Put f) b).bytes)

  pub stray-sent : (x : Refusal) → decode f ≡ refuses x → PutAs 0
  unfolding sent_day sent_bytes
  stray-sent x e = rw e (refl, refl)

  module _ (k : ℕ) (vs : List ℕ) (e : decode f ≡ reading k vs) where
    pub setting-sent : slot_for k < settings → PutAs k
    unfolding sent_day sent_bytes
    setting-sent h = rw (e, lt-ltb (slot_for k) settings h) (refl, refl)

    pub action-sent : settings ≤ slot_for k → (sent_day f b d ≡ noted k d) × (sent_bytes f b ≡ b)
    unfolding sent_day sent_bytes
    action-sent h = rw (e, le-ltb (slot_for k) settings h) (refl, refl)

-- ---- the latest command

pub latest-tallied : (k : ℕ) (a : Answer) (d : Day) → (tallied k a d).latest ≡ k
unfolding accepted_one refused_one noted
latest-tallied k (Ok n) d = refl
latest-tallied k (Err x) d = go (ltb (number_of x) 9)
  where
    go : (t : Bool) → (cond t (refused_one (number_of x) (noted k d)) (noted k d)).latest ≡ k
    go true = refl
    go false = refl

-- a command of the kind k, put or not
latest-either : (k : ℕ) (t : Bool) (a : Answer) (d : Day) → (cond t (noted k d) (tallied k a d)).latest ≡ k
unfolding noted
latest-either k true a d = refl
latest-either k false a d = latest-tallied k a d

module _ (f b : List ℕ) (d : Day) where
  pub kind-latest : (k : ℕ) (vs : List ℕ) → decode f ≡ reading k vs → (sent_day f b d).latest ≡ k
  unfolding sent_day
  kind-latest k vs e = rw e (latest-either k (not (ltb (slot_for k) settings)) (after (Put f) b).answer d)

  pub stray-latest : (x : Refusal) → decode f ≡ refuses x → (sent_day f b d).latest ≡ 0
  stray-latest x e = ap (λ (z : Day). z.latest) (stray-sent f b d x e).0 ∙ latest-tallied 0 (after (Put f) b).answer d

-- ---- a command that does not decode

-- an answer that is skipped: one more, and the last readings stay
pub record Skips (d e : Day) : Type 0 where
  pub skipped : e.skipped ≡ plus d.skipped 1
  pub lora_rx_stats : e.lora_rx_stats ≡ d.lora_rx_stats
  pub lora_packet_status : e.lora_packet_status ≡ d.lora_packet_status
  pub fsk_rx_stats : e.fsk_rx_stats ≡ d.fsk_rx_stats
  pub fsk_packet_status : e.fsk_packet_status ≡ d.fsk_packet_status

skips-tallied : (a : Answer) (d : Day) (r : List ℕ) → Skips d (on_received r (tallied 0 a d))
unfolding on_received missed accepted_one refused_one noted
skips-tallied (Ok n) d r = record { skipped = refl; lora_rx_stats = refl; lora_packet_status = refl; fsk_rx_stats = refl; fsk_packet_status = refl }
skips-tallied (Err x) d r = go (ltb (number_of x) 9)
  where
    go : (t : Bool) → Skips d (on_received r (cond t (refused_one (number_of x) (noted 0 d)) (noted 0 d)))
    go true = record { skipped = refl; lora_rx_stats = refl; lora_packet_status = refl; fsk_rx_stats = refl; fsk_packet_status = refl }
    go false = record { skipped = refl; lora_rx_stats = refl; lora_packet_status = refl; fsk_rx_stats = refl; fsk_packet_status = refl }

module _ (f : List ℕ) (x : Refusal) (e : decode f ≡ refuses x) where
  -- every book refuses it by the decoder's own number
  stray-put : (room : ℕ) (fs : List (List ℕ)) → put_on f [] room fs ≡ refuse x [] fs
  unfolding put_on slot_of
  stray-put room fs = rw e

  stray-tallied : (d : Day) → (tallied 0 (Err x) d).refused ≡ bumped (number_of x) d.refused
  unfolding refused_one noted
  stray-tallied d = rw (lt-ltb (number_of x) 9 (omega (arith, decode-own f x e)))

  -- on the bytes of a book
  module _ (b : List ℕ) (d : Day) where
    pub stray-skips : (r : List ℕ) → Skips d (on_received r (sent_day f b d))
    stray-skips r = rw (stray-sent f b d x e).0 (skips-tallied (after (Put f) b).answer d r)

    pub stray-counted : (fs : List (List ℕ)) → opened_for Edit b ≡ holds fs → (sent_day f b d).refused ≡ bumped (number_of x) d.refused
    unfolding call_for
    stray-counted fs h = rw ((stray-sent f b d x e).0, h, stray-put (room_in b) fs) (stray-tallied d)

  -- and on the list
  module _ (room : ℕ) (s : State) where
    stray-on : on_sent room f s ≡ record { frames = s.frames; day = tallied 0 (Err x) s.day }
    unfolding on_sent
    stray-on = rw (e, stray-put room s.frames)

    pub stray-skips-on : (r : List ℕ) → Skips s.day (day_on room (sent f ∷ received r ∷ []) s).day
    unfolding day_on
    stray-skips-on r = rw stray-on (skips-tallied (Err x) s.day r)

    pub stray-counted-on : (on_sent room f s).day.refused ≡ bumped (number_of x) s.day.refused
    stray-counted-on = ap (λ (z : State). z.day.refused) stray-on ∙ stray-tallied s.day
