-- The lines as forms: each is its form with the numbers filled in.
-- Assumes nothing.
use mathlib.Core.Path.{◌≡◌, refl, sym, ap, ◌∙◌}
use mathlib.Core.Bool.{Bool, true, false, cond}
use mathlib.Core.List.{List, [], ◌∷◌, ◌++◌, append_assoc}
use Prim.Native.Nat.{ℕ}
use Rattle.std.specs.Int.{from_bool}
use Rattle.reading.specs.Decimal.{decimal}
use Rattle.texts.specs.Words.{word, spaced, line}
use Rattle.texts.specs.Written.{filled}
use Rattle.texts.proofs.Forms.{spaced-then, filled-then}

-- a yes or no as a number
pub yes-or-no : (b : Bool) → from_bool b ≡ cond {A = ℕ} b 1 0
yes-or-no true = refl
yes-or-no false = refl

pub stopped-form : (a b : ℕ) → line (word "stopped") (decimal a ∷ decimal b ∷ []) ≡ filled (word "stopped 0 1\n") (a ∷ b ∷ []) []
unfolding line spaced filled
stopped-form a b = refl

pub refused-form : (a b : ℕ) → line (word "refused") (decimal a ∷ decimal b ∷ []) ≡ filled (word "refused 0 1\n") (a ∷ b ∷ []) []
unfolding line spaced filled
refused-form a b = refl

pub skipped-form : (a : ℕ) → line (word "skipped") (decimal a ∷ []) ≡ filled (word "skipped 0\n") (a ∷ []) []
unfolding line spaced filled
skipped-form a = refl

pub records-form : (a b : ℕ) → line (word "records") (decimal a ∷ []) ++ line (word "accepted") (decimal b ∷ [])
    ≡ filled (word "records 0\naccepted 1\n") (a ∷ b ∷ []) []
unfolding line spaced filled
records-form a b = ap (λ (l : List ℕ). word "records " ++ l) (append_assoc (decimal a) (10 ∷ []) (word "accepted " ++ (decimal b ++ (10 ∷ []))))

pub lora-rx-form : (a b c d e : ℕ) → line (word "lora_rx_stats")
    (word "pkt_rx" ∷ decimal a ∷ word "crc_error" ∷ decimal b ∷ word "header_error" ∷ decimal c ∷ word "detection" ∷ decimal d
    ∷ word "false_sync" ∷ decimal e ∷ [])
    ≡ filled (word "lora_rx_stats pkt_rx 0 crc_error 1 header_error 2 detection 3 false_sync 4\n") (a ∷ b ∷ c ∷ d ∷ e ∷ []) []
unfolding line spaced filled
lora-rx-form a b c d e = refl

pub fsk-rx-form : (a b c d e f g : ℕ) → line (word "fsk_rx_stats")
    (word "pkt_rx" ∷ decimal a ∷ word "crc_error" ∷ decimal b ∷ word "len_error" ∷ decimal c ∷ word "pbl_det" ∷ decimal d
    ∷ word "sync_ok" ∷ decimal e ∷ word "sync_fail" ∷ decimal f ∷ word "timeout" ∷ decimal g ∷ [])
    ≡ filled (word "fsk_rx_stats pkt_rx 0 crc_error 1 len_error 2 pbl_det 3 sync_ok 4 sync_fail 5 timeout 6\n") (a ∷ b ∷ c ∷ d ∷ e ∷ f ∷ g ∷ []) []
unfolding line spaced filled
fsk-rx-form a b c d e f g = refl

module _ (a b c : ℕ) (s p q : List ℕ) (d : ℕ) where
  abbrev lora-first : List ℕ → List ℕ
  lora-first = filled (word "lora_packet_status crc 0 coding_rate 1 pkt_length 2") (a ∷ b ∷ c ∷ [])

  abbrev lora-last : List ℕ
  lora-last = filled (word " detector 0\n") (d ∷ []) []

  lora-onward : lora-first [] ++ (spaced (word "snr_pkt" ∷ s ∷ []) [] ++ (spaced (word "rssi_pkt" ∷ p ∷ []) [] ++ (spaced (word "rssi_signal_pkt" ∷ q ∷ []) [] ++ lora-last)))
      ≡ lora-first (spaced (word "snr_pkt" ∷ s ∷ []) (spaced (word "rssi_pkt" ∷ p ∷ []) (spaced (word "rssi_signal_pkt" ∷ q ∷ []) lora-last)))
  lora-onward =
      filled-then (word "lora_packet_status crc 0 coding_rate 1 pkt_length 2") (a ∷ b ∷ c ∷ []) [] _
      ∙ ap lora-first
      (spaced-then (word "snr_pkt" ∷ s ∷ []) [] _
      ∙ ap (spaced (word "snr_pkt" ∷ s ∷ []))
      (spaced-then (word "rssi_pkt" ∷ p ∷ []) [] _ ∙ ap (spaced (word "rssi_pkt" ∷ p ∷ [])) (spaced-then (word "rssi_signal_pkt" ∷ q ∷ []) [] _)))

  lora-same : line (word "lora_packet_status")
      (word "crc" ∷ decimal a ∷ word "coding_rate" ∷ decimal b ∷ word "pkt_length" ∷ decimal c ∷ word "snr_pkt" ∷ s ∷ word "rssi_pkt" ∷ p
      ∷ word "rssi_signal_pkt" ∷ q ∷ word "detector" ∷ decimal d ∷ [])
      ≡ lora-first (spaced (word "snr_pkt" ∷ s ∷ []) (spaced (word "rssi_pkt" ∷ p ∷ []) (spaced (word "rssi_signal_pkt" ∷ q ∷ []) lora-last)))
  unfolding line spaced filled
  lora-same = refl

  pub lora-packet-form : line (word "lora_packet_status")
      (word "crc" ∷ decimal a ∷ word "coding_rate" ∷ decimal b ∷ word "pkt_length" ∷ decimal c ∷ word "snr_pkt" ∷ s ∷ word "rssi_pkt" ∷ p
      ∷ word "rssi_signal_pkt" ∷ q ∷ word "detector" ∷ decimal d ∷ [])
      ≡ lora-first [] ++ (spaced (word "snr_pkt" ∷ s ∷ []) [] ++ (spaced (word "rssi_pkt" ∷ p ∷ []) [] ++ (spaced (word "rssi_signal_pkt" ∷ q ∷ []) [] ++ lora-last)))
  lora-packet-form = lora-same ∙ sym lora-onward

module _ (a : ℕ) (p q : List ℕ) (b c d : ℕ) where
  abbrev fsk-first : List ℕ → List ℕ
  fsk-first = filled (word "fsk_packet_status pkt_len 0") (a ∷ [])

  abbrev fsk-last : List ℕ
  fsk-last = filled (word " addr_match_bcast 0 addr_match_node 1 lqi 2\n") (b ∷ c ∷ d ∷ []) []

  fsk-onward : fsk-first [] ++ (spaced (word "rssi_avg" ∷ p ∷ []) [] ++ (spaced (word "rssi_sync" ∷ q ∷ []) [] ++ fsk-last))
      ≡ fsk-first (spaced (word "rssi_avg" ∷ p ∷ []) (spaced (word "rssi_sync" ∷ q ∷ []) fsk-last))
  fsk-onward =
      filled-then (word "fsk_packet_status pkt_len 0") (a ∷ []) [] _
      ∙ ap fsk-first (spaced-then (word "rssi_avg" ∷ p ∷ []) [] _ ∙ ap (spaced (word "rssi_avg" ∷ p ∷ [])) (spaced-then (word "rssi_sync" ∷ q ∷ []) [] _))

  fsk-same : line (word "fsk_packet_status")
      (word "pkt_len" ∷ decimal a ∷ word "rssi_avg" ∷ p ∷ word "rssi_sync" ∷ q ∷ word "addr_match_bcast" ∷ decimal b ∷ word "addr_match_node" ∷ decimal c
      ∷ word "lqi" ∷ decimal d ∷ [])
      ≡ fsk-first (spaced (word "rssi_avg" ∷ p ∷ []) (spaced (word "rssi_sync" ∷ q ∷ []) fsk-last))
  unfolding line spaced filled
  fsk-same = refl

  pub fsk-packet-form : line (word "fsk_packet_status")
      (word "pkt_len" ∷ decimal a ∷ word "rssi_avg" ∷ p ∷ word "rssi_sync" ∷ q ∷ word "addr_match_bcast" ∷ decimal b ∷ word "addr_match_node" ∷ decimal c
      ∷ word "lqi" ∷ decimal d ∷ [])
      ≡ fsk-first [] ++ (spaced (word "rssi_avg" ∷ p ∷ []) [] ++ (spaced (word "rssi_sync" ∷ q ∷ []) [] ++ fsk-last))
  fsk-packet-form = fsk-same ∙ sym fsk-onward
