-- What fits is done (`written-fits`, `slid-fits`, `slid_up-fits`, `zeroed-fits`, `stored-fits`), what does not is not (`written_over` and the like);
-- and with no gap, what fits in the code's terms (`bounds-..`).
-- Assumes nothing.
use mathlib.Core.Path.{sym, ◌∙◌, ◌≡◌}
use mathlib.Core.Bool.{Bool, false, true}
use mathlib.Core.List.{List}
use Prim.Native.Nat.{ℕ, ◌+◌, ◌<◌, ◌≤◌}
use native.Mathlib.Omega.{arith}
use borrow.Author.Tests.{le-leb, le-ltb, leb-false, leb-true, lt-leb, lt-ltb}
use lib.Dec.{leb}
use lib.ListN.{drop, length, replicate}
use lib.Seq.{paste}
use Rattle.spans.specs.Spans.{set_word, slid, slid_up, stored, written, zeroed}

module _ (b : List ℕ) (at : ℕ) (s : List ℕ) where
  pub written-fits : at + length s ≤ length b → written b at s ≡ paste b at s (length s)
  unfolding written
  written-fits h = rw (le-leb _ _ h)

  pub written_over : length b < at + length s → written b at s ≡ b
  unfolding written
  written_over h = rw (lt-leb _ _ h)

module _ (b : List ℕ) (at gap m : ℕ) where
  pub slid-fits : at + gap + m ≤ length b → slid b at gap m ≡ paste b at (drop (at + gap) b) m
  unfolding slid
  slid-fits h = rw (le-leb _ _ h)

  pub slid-over : length b < at + gap + m → slid b at gap m ≡ b
  unfolding slid
  slid-over h = rw (lt-leb _ _ h)

  pub slid_up-fits : at + gap + m ≤ length b → slid_up b at gap m ≡ paste b (at + gap) (drop at b) m
  unfolding slid_up
  slid_up-fits h = rw (le-leb _ _ h)

  pub slid_up-over : length b < at + gap + m → slid_up b at gap m ≡ b
  unfolding slid_up
  slid_up-over h = rw (lt-leb _ _ h)

module _ (b : List ℕ) (at m : ℕ) where
  pub zeroed-fits : at + m ≤ length b → zeroed b at m ≡ paste b at (replicate m 0) m
  unfolding zeroed
  zeroed-fits h = rw (le-leb _ _ h)

  pub zeroed-over : length b < at + m → zeroed b at m ≡ b
  unfolding zeroed
  zeroed-over h = rw (lt-leb _ _ h)

module _ (b : List ℕ) (i v : ℕ) where
  pub stored-fits : v < 65536 → i + 2 ≤ length b → stored b i v ≡ set_word b i v
  unfolding stored
  stored-fits s h = rw (lt-ltb _ _ s, le-leb _ _ h)

  pub stored-large : 65536 ≤ v → stored b i v ≡ b
  unfolding stored
  stored-large s = rw (le-ltb _ _ s)

  pub stored-over : v < 65536 → length b < i + 2 → stored b i v ≡ b
  unfolding stored
  stored-over s h = rw (lt-ltb _ _ s, lt-leb _ _ h)

-- ---- in bounds

-- with no gap
module _ (len at m : ℕ) (t : Bool) (e : t ≡ leb (at + 0 + m) len) where
  pub bounds-in : t ≡ true → at + m ≤ len
  bounds-in y = let h : at + 0 + m ≤ len = leb-true (at + 0 + m) len (sym e ∙ y) in omega arith

  pub bounds-out : t ≡ false → len < at + m
  bounds-out y = let h : len < at + 0 + m = leb-false (at + 0 + m) len (sym e ∙ y) in omega arith
