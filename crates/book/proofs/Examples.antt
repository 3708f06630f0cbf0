-- A frame of three bytes put into a made book: of 62 bytes, which refuses it for room, and of 65, which takes it, with the bytes that it then
-- has (REFERENCE, "Book"). Every refusal of a book, by number. And the two forms of the receive path (REFERENCE, "Short and long forms"): put one
-- after the other, and both in a stored book.
-- Assumes nothing.
use mathlib.Core.Path.{refl, ◌≡◌}
use mathlib.Core.List.{List, [], map, ◌++◌, ◌∷◌}
use Prim.Native.Nat.{ℕ, ◌+◌}
use lib.ListN.{replicate}
use Rattle.frame.specs.Field.{mask, part, read, read_to}
use Rattle.frame.specs.Layout.{byte_of, mask_of, reads, tab, tab_from}
use Rattle.table.specs.Codes.{is_in, lists, rx_bw_codes, takes}
use Rattle.table.specs.Laid.{find}
use Rattle.table.specs.Number.{narrow_of, narrows_of}
use Rattle.table.specs.Table.{kinds}
use Rattle.refusal.specs.Numbers.{number_of}
use Rattle.decoder.specs.Decoding.{answered, decode, judged, known, lacking, sought, stray}
use Rattle.std.specs.Prelude.{Ok, Err}
use Rattle.reel.specs.Reel.{reel_of}
use Rattle.settings.specs.Settings.{lengths, size_of, slot_for, slot_of}
use Rattle.contents.specs.Frames.{flat, held, place}
use Rattle.contents.specs.Contents.{all_zero, frames_from, header, image, judge, length_at, length_by, offset_at, present_from}
use Rattle.contents.specs.Contents.{room_of, slot_from, word_at, words}
use Rattle.forms.specs.Forms.{both_in, in_both, other, other_in, single}
use Rattle.book.specs.Plain.{ask_on, clear_on, frame_of, placed, put_on, remove_on, replay_on, seat, swap_in, without, Answer}
use Rattle.book.specs.Book.{Outcome, call_for, layout_in, made, opened, opened_for, ours}
use Rattle.book.specs.History.{Ask, Call, Clear, Make, Put, Remove, Replay, after, on_list, turn}

-- syncword 0x34
sync : List ℕ
sync = 0x02 ∷ 0x23 ∷ 0x34 ∷ []

-- bytes written, or the refusal's number
data Told : Type 0 where
  done : ℕ → Told
  refusal : ℕ → Told

abbrev told : Answer → Told
told (Ok n) = done n
told (Err x) = refusal (number_of x)

-- a buffer of n bytes, made, with one frame put
abbrev run : ℕ → Outcome
run n = after (Put sync) (made ours (replicate n 0xFF)).bytes

example :
    (told (run 62).answer ≡ refusal 8) × (told (run 65).answer ≡ done 0)
    × ((run 65).bytes ≡ 1 ∷ 1 ∷ 0x00 ∷ 0x41 ∷ 0 ∷ 0 ∷ 0 ∷ 0 ∷ 0 ∷ 0 ∷ 0x00 ∷ 0x3E ∷ (replicate 50 0 ++ sync))
unfolding sync made call_for opened_for layout_in opened judge image header words place flat present_from offset_at word_at all_zero frames_from single in_both
    both_in put_on placed seat other other_in held slot_of slot_for decode sought answered judged known stray lacking find takes is_in lists rx_bw_codes narrow_of
    narrows_of tab tab_from byte_of mask_of reads part mask read read_to
example = (refl, refl, refl)

-- ---- every refusal of a book, by number

-- a channel activity detection: an action
detection : List ℕ
detection = 0x02 ∷ 0x28 ∷ []

-- what is said in a buffer of n zeros, in a fresh book, and in one that holds the syncword
abbrev in_zeros : Call → ℕ → Told
in_zeros c n = told (after c (replicate n 0)).answer

abbrev in_fresh : Call → Told
in_fresh c = told (after c (made ours (replicate 65 0)).bytes).answer

abbrev in_filled : Call → Told
in_filled c = told (after c (image ours 65 (sync ∷ []))).answer

-- A make goes by the length alone. What is put has to decode, and then to be a setting's; a kind has to be a setting's and then held, and an output
-- long enough.
refusals :
    (map (in_zeros Make) (61 ∷ 62 ∷ 4096 ∷ 4097 ∷ []) ≡ refusal 11 ∷ done 0 ∷ done 0 ∷ refusal 11 ∷ [])
    × (map (in_zeros Clear) (61 ∷ 62 ∷ 4096 ∷ 4097 ∷ []) ≡ refusal 11 ∷ refusal 10 ∷ refusal 10 ∷ refusal 11 ∷ [])
    × (map in_fresh (Put [] ∷ Put detection ∷ Remove 0 ∷ Remove 8 ∷ Remove (kinds + 1) ∷ Remove 4 ∷ [])
    ≡ refusal 1 ∷ refusal 13 ∷ refusal 13 ∷ refusal 13 ∷ refusal 13 ∷ refusal 9 ∷ [])
    × (map in_fresh (Ask 0 [] ∷ Ask 8 [] ∷ Ask (kinds + 1) [] ∷ Ask 4 [] ∷ Replay [] ∷ []) ≡ refusal 13 ∷ refusal 13 ∷ refusal 13 ∷ refusal 9 ∷ done 0 ∷ [])
    × (map in_filled (Ask 4 (replicate 2 0) ∷ Ask 4 (replicate 3 0) ∷ Replay (replicate 3 0) ∷ Replay (replicate 4 0) ∷ [])
    ≡ refusal 12 ∷ done 3 ∷ refusal 12 ∷ done 4 ∷ [])
unfolding sync detection made call_for opened_for layout_in opened judge image header words place flat present_from offset_at word_at all_zero frames_from length_at
    length_by slot_from size_of lengths single in_both both_in put_on remove_on ask_on replay_on clear_on frame_of reel_of held slot_of slot_for decode sought answered
    judged known stray lacking find takes is_in lists rx_bw_codes narrow_of narrows_of tab tab_from byte_of mask_of reads part mask read read_to
refusals = (refl, refl, refl, refl, refl)

-- ---- the two forms of the receive path

-- by its short command, and by its long one with a boost
short : List ℕ
short = 0x02 ∷ 0x01 ∷ 0x00 ∷ []

long : ℕ → List ℕ
long boost = 0x02 ∷ 0x01 ∷ 0x00 ∷ boost ∷ []

-- 868.1 MHz
freq : List ℕ
freq = 0x02 ∷ 0x00 ∷ 0x33 ∷ 0xBE ∷ 0x27 ∷ 0xA0 ∷ []

-- the frames after some calls, in a book of n bytes
abbrev left : ℕ → List Call → List (List ℕ)
left n cs = (on_list (turn (room_of ours n)) cs []).frames

-- the technician's puts, one more each time; and the last of them where a byte lacks
story :
    (left 72 (Put (long 4) ∷ Put freq ∷ []) ≡ long 4 ∷ freq ∷ []) × (left 72 (Put (long 4) ∷ Put freq ∷ Put short ∷ []) ≡ short ∷ freq ∷ [])
    × (left 72 (Put (long 4) ∷ Put freq ∷ Put short ∷ Put (long 7) ∷ []) ≡ long 7 ∷ freq ∷ [])
    × (left 71 (Put short ∷ Put freq ∷ Put (long 7) ∷ []) ≡ short ∷ freq ∷ [])
    × (told (turn (room_of ours 71) (Put (long 7)) (short ∷ freq ∷ [])).answer ≡ refusal 8)
unfolding short long freq on_list turn flat put_on placed swap_in seat other other_in held slot_of slot_for decode sought answered judged known stray lacking
    find takes is_in lists rx_bw_codes narrow_of narrows_of tab tab_from byte_of mask_of reads part mask read read_to
story = (refl, refl, refl, refl, refl)

-- and what the radio is then sent
sent : (turn (room_of ours 72) (Replay (replicate 12 0)) (long 7 ∷ freq ∷ [])).output ≡ (4 ∷ long 7) ++ (6 ∷ freq)
unfolding long freq turn replay_on reel_of
sent = refl

-- ask and removal go by the kind: what is held in the long form is not held in the short one
exact :
    (told (turn 10 (Ask 25 (replicate 12 0)) (long 7 ∷ [])).answer ≡ refusal 9) × (told (turn 10 (Remove 25) (long 7 ∷ [])).answer ≡ refusal 9)
    × (told (turn 10 (Ask 26 (replicate 12 0)) (long 7 ∷ [])).answer ≡ done 4) × ((turn 10 (Remove 26) (long 7 ∷ [])).frames ≡ [])
unfolding long turn ask_on remove_on without frame_of held slot_of slot_for decode sought answered judged known stray lacking find takes is_in lists rx_bw_codes
    narrow_of narrows_of tab tab_from byte_of mask_of reads part mask read read_to
exact = (refl, refl, refl, refl)

-- a stored book of both forms gets 16, before a put decodes; with a byte behind its end that is not 0 it gets 10
both :
    (told (after (Put []) (image ours 69 (short ∷ long 7 ∷ []))).answer ≡ refusal 16)
    × (told (after (Put []) (image ours 69 (short ∷ long 7 ∷ []) ++ (1 ∷ []))).answer ≡ refusal 10)
unfolding short long call_for opened_for layout_in opened judge image header words place flat present_from offset_at word_at all_zero frames_from length_at length_by
    slot_from size_of lengths single in_both both_in held slot_of slot_for decode sought answered judged known stray lacking find takes is_in lists rx_bw_codes
    narrow_of narrows_of tab tab_from byte_of mask_of reads part mask read read_to
both = (refl, refl)
