-- The laws of a text in eight bytes: what a byte stored behind it gives (`room-text`, `full-text`),
-- and that no reading's text is cut off (`rssi-length`, `snr-length`).
-- Assumes nothing.
use Rattle.std.proofs.Common.{◌≡◌, ℕ, ◌+◌, ◌*◌, ◌/◌, ◌<◌, ◌≤◌, Bool, true, false, cond, ltb, List, [], ◌∷◌, ◌++◌, length, set, ℤ, pos, nat_abs, refl, ap, ◌∙◌, arith, length-append, le-ltb, lt-ltb}
use lib.Signed.{lt_z}
use Rattle.reading.specs.Level.{minus, tenths, hundredths, rssi_text, snr_text, text_of}
use Rattle.reading.specs.declared.Text.{Text}
use Rattle.reading.proofs.Decimals.{decimal-length}

-- a text with a byte stored behind it, if there is room
abbrev stored : Text → ℕ → Text
stored t b = cond (ltb t.len 8) (record { bytes = set t.bytes t.len b; len = t.len + 1 }) t

-- by the number of bytes that are there
stored-text : (l : List ℕ) (b : ℕ) → stored (text_of l) b ≡ text_of (l ++ (b ∷ []))
unfolding text_of
stored-text [] b = refl
stored-text (_ ∷ []) b = refl
stored-text (_ ∷ _ ∷ []) b = refl
stored-text (_ ∷ _ ∷ _ ∷ []) b = refl
stored-text (_ ∷ _ ∷ _ ∷ _ ∷ []) b = refl
stored-text (_ ∷ _ ∷ _ ∷ _ ∷ _ ∷ []) b = refl
stored-text (_ ∷ _ ∷ _ ∷ _ ∷ _ ∷ _ ∷ []) b = refl
stored-text (_ ∷ _ ∷ _ ∷ _ ∷ _ ∷ _ ∷ _ ∷ []) b = refl
stored-text (_ ∷ _ ∷ _ ∷ _ ∷ _ ∷ _ ∷ _ ∷ _ ∷ l) b = refl

module _ (t : Text) (b : ℕ) (l : List ℕ) (e : t ≡ text_of l) where
  told : stored t b ≡ text_of (l ++ (b ∷ []))
  told = ap (λ (u : Text). stored u b) e ∙ stored-text l b

  pub room-text : t.len < 8 → record { bytes = set t.bytes t.len b; len = t.len + 1 } ≡ text_of (l ++ (b ∷ []))
  room-text h = simp (lt-ltb t.len 8 h) at told

  pub full-text : 8 ≤ t.len → t ≡ text_of (l ++ (b ∷ []))
  full-text h = simp (le-ltb t.len 8 h) at told

-- nothing is cut off a text: that of a level is at most eight bytes long, that of an SNR six
minus-length : (b : Bool) → length (minus b) ≤ 1
minus-length true = omega arith
minus-length false = omega arith

pub rssi-length : (n : ℕ) → n < 65536 → length (rssi_text n) ≤ 8
unfolding rssi_text tenths
rssi-length n h =
    simp length-append
    (omega (arith, minus-length (ltb 0 n), decimal-length 4 (5 * n / 10) (omega arith)))

pub snr-length : (z : ℤ) → nat_abs z ≤ 128 → length (snr_text z) ≤ 6
unfolding snr_text hundredths
snr-length z h =
    simp length-append
    (omega (arith, minus-length (lt_z z (pos 0)), decimal-length 1 (25 * nat_abs z / 100) (omega arith)))

-- what a byte stored behind a text gives, for `push`
pub ruleset stored_behind = (room-text, full-text)
