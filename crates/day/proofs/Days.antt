-- A record's effect on the numbers, one law for each way through the code.
-- Assumes nothing.
use mathlib.Core.Path.{◌≡◌, refl, sym, ap, ◌∙◌}
use mathlib.Core.List.{List}
use Prim.Native.Nat.{ℕ, ◌+◌, ◌^◌, ◌<◌, ◌≤◌}
use native.Mathlib.Omega.{arith}
use Rattle.std.specs.Prelude.{Option, Some, None, Result, Ok, Err}
use Rattle.std.specs.Option.{SomeIff, unwrap_or}
use lib.ListN.{take}
use borrow.Author.Tests.{le-leb, lt-leb, lt-ltb, le-ltb}
use Rattle.table.specs.Table.{settings}
use Rattle.settings.specs.Settings.{slot_for}
use Rattle.refusal.specs.declared.Refusal.{Refusal}
use Rattle.refusal.specs.Numbers.{number_of}
use Rattle.decoder.proofs.Handed.{decoded-reading, decoded-refuses}
use Rattle.decoder.specs.declared.Decoded.{Decoded}
use Rattle.decoder.specs.Decoding.{decoded, decode}
use Rattle.book.specs.Plain.{Answer as Said}
use Rattle.book.specs.Book.{Permits}
use Rattle.book.specs.History.{Put, after}
use Rattle.day.specs.declared.Day.{Day}
use Rattle.day.specs.Days.{most, plus, noted, refused_one, tallied}
use Rattle.day.specs.Steps.{sent_day, sent_bytes}
use Rattle.day.proofs.Commands.{PutAs, action-sent, setting-sent, stray-sent}

-- ---- counts

pub plus-fits : (count n : ℕ) → count + n ≤ most → plus count n ≡ count + n
unfolding plus
plus-fits count n h = rw (le-leb (count + n) most h) refl

pub plus-stays : (count n : ℕ) → most < count + n → plus count n ≡ count
unfolding plus
plus-stays count n h = rw (lt-leb (count + n) most h) refl

-- as the source adds
pub plus-checked : (count n : ℕ) (r : Option ℕ) → SomeIff r (count + n < 2 ^ 64) (count + n) → unwrap_or r count ≡ plus count n
plus-checked count n None h = sym (plus-stays count n (omega (arith, h)))
plus-checked count n (Some x) h = h.1 ∙ sym (plus-fits count n (omega (arith, h.0)))

-- ---- puts

-- a put that was refused, by a number that has a count and by one that has none
module _ (k : ℕ) (d : Day) (a : Said) (x : Refusal) (e : a ≡ Err x) (n : ℕ) (m : n ≡ number_of x) where
  pub tally-counted : n < 9 → refused_one n (noted k d) ≡ tallied k a d
  tally-counted h = rw (e, m, lt-ltb (number_of x) 9 (omega (arith, h, m))) refl

  pub tally-other : 9 ≤ n → noted k d ≡ tallied k a d
  tally-other h = rw (e, le-ltb (number_of x) 9 (omega (arith, h, m))) refl

-- ---- commands

module _ (f b : List ℕ) (d : Day) (q : Result Decoded Refusal) (e : q ≡ decoded (decode f)) where
  -- the two clauses of a command's contract
  abbrev pub Sent : Day → List ℕ → Type 0
  Sent r x = (r ≡ sent_day f b d) × (x ≡ sent_bytes f b)

  module _ (r : Day) (x : List ℕ) where
    put-sent : (k : ℕ) (a : Said) → PutAs f b d k → r ≡ tallied k a d → Permits (after (Put f) b) a x → Sent r x
    put-sent k a s g p = (g ∙ ap (λ (y : Said). tallied k y d) p.0 ∙ sym s.0, p.1 ∙ sym s.1)

    pub sent-setting : (c : Decoded) (a : Said) → q ≡ Ok c → slot_for c.kind < settings → r ≡ tallied c.kind a d → Permits (after (Put f) b) a x → Sent r x
    sent-setting c a h l = put-sent c.kind a (setting-sent f b d c.kind (take c.count c.args) (decoded-reading (decode f) q c e h) l)

    pub sent-action : (c : Decoded) → q ≡ Ok c → settings ≤ slot_for c.kind → r ≡ noted c.kind d → x ≡ b → Sent r x
    sent-action c h l g p =
        let s = action-sent f b d c.kind (take c.count c.args) (decoded-reading (decode f) q c e h) l in
        (g ∙ sym s.0, p ∙ sym s.1)

    pub sent-refused : (a : Said) (w : Refusal) → q ≡ Err w → r ≡ tallied 0 a d → Permits (after (Put f) b) a x → Sent r x
    sent-refused a w h = put-sent 0 a (stray-sent f b d w (decoded-refuses (decode f) q w e h))
