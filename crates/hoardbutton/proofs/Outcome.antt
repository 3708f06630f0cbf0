-- The contract of each public function permits one outcome. Assumes nothing.
use Rattle.once.proofs.Once.{Once, same}
use Rattle.hoardbutton.proofs as hoardbutton
use Rattle.hoardbutton.specs.contracts as contracts

-- ---- frames

hb-plain-once : Once contracts.frames.hb_plain.ended hoardbutton.frames.hb_plain.Reads.Pre hoardbutton.frames.hb_plain.Reads.Learnt
hb-plain-once κs a h o u p q i = (same p q i, o.1)

hb-checked-once : Once contracts.frames.hb_checked.ended hoardbutton.frames.hb_checked.Reads.Pre hoardbutton.frames.hb_checked.Reads.Learnt
hb-checked-once κs a h o u p q i = (same p q i, o.1)

hb-decode-once : Once contracts.frames.hb_decode.ended hoardbutton.frames.hb_decode.Reads.Pre hoardbutton.frames.hb_decode.Reads.Learnt
hb-decode-once κs a h o u p q i = (same p q i, o.1)

-- ---- radio

hb-status-once : Once contracts.radio.hb_status.ended hoardbutton.radio.hb_status.Reads.Pre hoardbutton.radio.hb_status.Reads.Learnt
hb-status-once κs a h o u p q i = (same p q i, o.1)

hb-intr-once : Once contracts.radio.hb_intr.ended hoardbutton.radio.hb_intr.Reads.Pre hoardbutton.radio.hb_intr.Reads.Learnt
hb-intr-once κs a h o u p q i = (same p q i, o.1)

hb-lora-rx-stats-once : Once contracts.radio.hb_lora_rx_stats.ended hoardbutton.radio.hb_lora_rx_stats.Reads.Pre hoardbutton.radio.hb_lora_rx_stats.Reads.Learnt
hb-lora-rx-stats-once κs a h o u p q i = (same p q i, o.1)

hb-lora-packet-status-once : Once contracts.radio.hb_lora_packet_status.ended hoardbutton.radio.hb_lora_packet_status.Reads.Pre hoardbutton.radio.hb_lora_packet_status.Reads.Learnt
hb-lora-packet-status-once κs a h o u p q i = (same p q i, o.1)

hb-fsk-rx-stats-once : Once contracts.radio.hb_fsk_rx_stats.ended hoardbutton.radio.hb_fsk_rx_stats.Reads.Pre hoardbutton.radio.hb_fsk_rx_stats.Reads.Learnt
hb-fsk-rx-stats-once κs a h o u p q i = (same p q i, o.1)

hb-fsk-packet-status-once : Once contracts.radio.hb_fsk_packet_status.ended hoardbutton.radio.hb_fsk_packet_status.Reads.Pre hoardbutton.radio.hb_fsk_packet_status.Reads.Learnt
hb-fsk-packet-status-once κs a h o u p q i = (same p q i, o.1)

hb-rssi-inst-once : Once contracts.radio.hb_rssi_inst.ended hoardbutton.radio.hb_rssi_inst.Reads.Pre hoardbutton.radio.hb_rssi_inst.Reads.Learnt
hb-rssi-inst-once κs a h o u p q i = (same p q i, o.1)

hb-timestamp-value-once : Once contracts.radio.hb_timestamp_value.ended hoardbutton.radio.hb_timestamp_value.Reads.Pre hoardbutton.radio.hb_timestamp_value.Reads.Learnt
hb-timestamp-value-once κs a h o u p q i = (same p q i, o.1)

hb-cca-result-once : Once contracts.radio.hb_cca_result.ended hoardbutton.radio.hb_cca_result.Reads.Pre hoardbutton.radio.hb_cca_result.Reads.Learnt
hb-cca-result-once κs a h o u p q i = (same p q i, o.1)

-- ---- readings

hb-counter-difference-once : Once contracts.readings.hb_counter_difference.ended hoardbutton.readings.hb_counter_difference.Reads.Pre hoardbutton.readings.hb_counter_difference.Reads.Learnt
hb-counter-difference-once κs a h o u p q i = (same p q i, o.1)

hb-lora-bw-hz-once : Once contracts.readings.hb_lora_bw_hz.ended hoardbutton.readings.hb_lora_bw_hz.Reads.Pre hoardbutton.readings.hb_lora_bw_hz.Reads.Learnt
hb-lora-bw-hz-once κs a h o u p q i = (same p q i, o.1)

hb-rx-bw-tenths-once : Once contracts.readings.hb_rx_bw_tenths.ended hoardbutton.readings.hb_rx_bw_tenths.Reads.Pre hoardbutton.readings.hb_rx_bw_tenths.Reads.Learnt
hb-rx-bw-tenths-once κs a h o u p q i = (same p q i, o.1)

-- ---- reels

hb-reel-step-once : Once contracts.reels.hb_reel_step.ended hoardbutton.reels.hb_reel_step.Reads.Pre hoardbutton.reels.hb_reel_step.Reads.Learnt
hb-reel-step-once κs a h o u p q i = (same p q i, o.1)

-- ---- with a lent buffer: the first, the second or the third parameter

hb-book-make-once : Once contracts.books.hb_book_make.ended hoardbutton.books.hb_book_make.Reads.Pre hoardbutton.books.hb_book_make.Reads.Learnt
hb-book-make-once κs a h o u p q i = (same p.0 q.0 i, (same p.1 q.1 i, o.1.1))

hb-book-put-once : Once contracts.books.hb_book_put.ended hoardbutton.books.hb_book_put.Reads.Pre hoardbutton.books.hb_book_put.Reads.Learnt
hb-book-put-once κs a h o u p q i = (same p.0 q.0 i, (same p.1 q.1 i, o.1.1))

hb-book-remove-once : Once contracts.books.hb_book_remove.ended hoardbutton.books.hb_book_remove.Reads.Pre hoardbutton.books.hb_book_remove.Reads.Learnt
hb-book-remove-once κs a h o u p q i = (same p.0 q.0 i, (same p.1 q.1 i, o.1.1))

hb-book-clear-once : Once contracts.books.hb_book_clear.ended hoardbutton.books.hb_book_clear.Reads.Pre hoardbutton.books.hb_book_clear.Reads.Learnt
hb-book-clear-once κs a h o u p q i = (same p.0 q.0 i, (same p.1 q.1 i, o.1.1))

hb-book-replay-once : Once contracts.books.hb_book_replay.ended hoardbutton.books.hb_book_replay.Reads.Pre hoardbutton.books.hb_book_replay.Reads.Learnt
hb-book-replay-once κs a h o u p q i = (same p.0 q.0 i, (o.1.0, (same p.1 q.1 i, o.1.1.1)))

hb-level-text-once : Once contracts.readings.hb_level_text.ended hoardbutton.readings.hb_level_text.Reads.Pre hoardbutton.readings.hb_level_text.Reads.Learnt
hb-level-text-once κs a h o u p q i = (same p.0 q.0 i, (o.1.0, (same p.1 q.1 i, o.1.1.1)))

hb-snr-text-once : Once contracts.readings.hb_snr_text.ended hoardbutton.readings.hb_snr_text.Reads.Pre hoardbutton.readings.hb_snr_text.Reads.Learnt
hb-snr-text-once κs a h o u p q i = (same p.0 q.0 i, (o.1.0, (same p.1 q.1 i, o.1.1.1)))

hb-dump-once : Once contracts.reels.hb_dump.ended hoardbutton.reels.hb_dump.Reads.Pre hoardbutton.reels.hb_dump.Reads.Learnt
hb-dump-once κs a h o u p q i = (same p.0 q.0 i, (o.1.0, (same p.1 q.1 i, o.1.1.1)))

hb-book-ask-once : Once contracts.books.hb_book_ask.ended hoardbutton.books.hb_book_ask.Reads.Pre hoardbutton.books.hb_book_ask.Reads.Learnt
hb-book-ask-once κs a h o u p q i = (same p.0 q.0 i, (o.1.0, (o.1.1.0, (same p.1 q.1 i, o.1.1.1.1))))

-- ---- plays

hb-play-once : Once contracts.plays.hb_play.ended hoardbutton.plays.hb_play.Reads.Pre hoardbutton.plays.hb_play.Reads.Learnt
hb-play-once κs a h o u p q i = (same p.0 q.0 i, (o.1.0, (same p.1 q.1 i, o.1.1.1)))

-- ---- shared: the book is the first of the parameters, the output the last

hb-side-put-once : Once contracts.shared.hb_side_put.ended hoardbutton.shared.hb_side_put.Reads.Pre hoardbutton.shared.hb_side_put.Reads.Learnt
hb-side-put-once κs a h o u p q i = (same p.0 q.0 i, (same p.1 q.1 i, o.1.1))

hb-side-remove-once : Once contracts.shared.hb_side_remove.ended hoardbutton.shared.hb_side_remove.Reads.Pre hoardbutton.shared.hb_side_remove.Reads.Learnt
hb-side-remove-once κs a h o u p q i = (same p.0 q.0 i, (same p.1 q.1 i, o.1.1))

hb-side-clear-once : Once contracts.shared.hb_side_clear.ended hoardbutton.shared.hb_side_clear.Reads.Pre hoardbutton.shared.hb_side_clear.Reads.Learnt
hb-side-clear-once κs a h o u p q i = (same p.0 q.0 i, (same p.1 q.1 i, o.1.1))

hb-side-replay-once : Once contracts.shared.hb_side_replay.ended hoardbutton.shared.hb_side_replay.Reads.Pre hoardbutton.shared.hb_side_replay.Reads.Learnt
hb-side-replay-once κs a h o u p q i = (same p.0 q.0 i, (o.1.0, (o.1.1.0, (o.1.1.1.0, (o.1.1.1.1.0, (o.1.1.1.1.1.0, (same p.1 q.1 i, o.1.1.1.1.1.1.1)))))))

hb-side-ask-once : Once contracts.shared.hb_side_ask.ended hoardbutton.shared.hb_side_ask.Reads.Pre hoardbutton.shared.hb_side_ask.Reads.Learnt
hb-side-ask-once κs a h o u p q i = (same p.0 q.0 i, (o.1.0, (o.1.1.0, (o.1.1.1.0, (o.1.1.1.1.0, (o.1.1.1.1.1.0, (o.1.1.1.1.1.1.0, (same p.1 q.1 i, o.1.1.1.1.1.1.1.1))))))))

-- ---- controllers

hb-controller-start-once : Once contracts.controllers.hb_controller_start.ended hoardbutton.controllers.hb_controller_start.Reads.Pre
    hoardbutton.controllers.hb_controller_start.Reads.Learnt
hb-controller-start-once κs a h o u p q i = (same p q i, o.1)

hb-controller-send-once : Once contracts.controllers.hb_controller_send.ended hoardbutton.controllers.hb_controller_send.Reads.Pre
    hoardbutton.controllers.hb_controller_send.Reads.Learnt
hb-controller-send-once κs a h o u p q i = (same p q i, o.1)

hb-controller-hear-once : Once contracts.controllers.hb_controller_hear.ended hoardbutton.controllers.hb_controller_hear.Reads.Pre
    hoardbutton.controllers.hb_controller_hear.Reads.Learnt
hb-controller-hear-once κs a h o u p q i = (same p q i, o.1)

-- ---- banks

hb-widths-check-once : Once contracts.banks.hb_widths_check.ended hoardbutton.banks.hb_widths_check.Reads.Pre hoardbutton.banks.hb_widths_check.Reads.Learnt
hb-widths-check-once κs a h o u p q i = (same p q i, o.1)

hb-widths-find-once : Once contracts.banks.hb_widths_find.ended hoardbutton.banks.hb_widths_find.Reads.Pre hoardbutton.banks.hb_widths_find.Reads.Learnt
hb-widths-find-once κs a h o u p q i = (same p.0 q.0 i, (o.1.0, (same p.1 q.1 i, o.1.1.1)))

hb-profile-once : Once contracts.profiles.hb_profile.ended hoardbutton.profiles.hb_profile.Reads.Pre hoardbutton.profiles.hb_profile.Reads.Learnt
hb-profile-once κs a h o u p q i = (same p q i, o.1)
