-- What a side's call is answered by, computed in the contracts' own words (`after_event`) with the owner table of Examples.antt: which refusals come
-- before the side's own step, and in which order (`answers`).
-- Assumes nothing.
use mathlib.Core.Path.{refl, ◌≡◌}
use mathlib.Core.Bool.{false}
use mathlib.Core.List.{List, [], ◌++◌, ◌∷◌}
use Prim.Native.Nat.{ℕ, ◌+◌}
use Rattle.frame.specs.Field.{mask, part, read, read_to}
use Rattle.frame.specs.Layout.{byte_of, mask_of, reads, tab, tab_from}
use Rattle.table.specs.Codes.{is_in, lists, rx_bw_codes, takes}
use Rattle.table.specs.Laid.{find}
use Rattle.table.specs.Number.{narrow_of, narrows_of}
use Rattle.decoder.specs.Decoding.{answered, decode, judged, known, lacking, sought, stray}
use Rattle.settings.specs.Settings.{lengths, size_of, slot_for, slot_of}
use Rattle.contents.specs.Frames.{flat, held, place}
use Rattle.contents.specs.Contents.{all_zero, frames_from, header, image, judge, length_at, length_by, offset_at, present_from, slot_from, start, word_at, words}
use Rattle.forms.specs.Forms.{both_in, in_both, other, other_in, single}
use Rattle.owners.specs.Owners.{all_first, each_side, is_side, joined, joined_in, owner_table, owns, spare_first, table_right}
use Rattle.book.specs.Plain.{ask_on, clear_on, frame_of, placed, put_on, remove_on, seat, swap_in, without}
use Rattle.book.specs.Book.{call_for, layout_in, opened, opened_for, ours}
use Rattle.sides.specs.Parts.{chosen, within_quotas}
use Rattle.sides.specs.Calls.{Ask, Clear, Put, Remove, barred, may_call, own_turn, side_on}
use Rattle.sides.specs.Histories.{after_event, by}
use Rattle.sides.proofs.Examples.{address, filled, path, refusal, syncword, table, timeout, timing, told, whitening}

-- a buffer with room for 11 bytes that holds some frames
abbrev pub stored : List (List ℕ) → List ℕ
stored fs = image ours (start ours.slots + 11) fs

-- the long form of the receive path
abbrev long_path : List ℕ
long_path = 0x02 ∷ 0x01 ∷ 0x00 ∷ 0x07 ∷ []

pub answers :
    -- no side, whatever it asks for, and whatever it puts
    (told (after_event table (by 3 (Remove 21) []) (stored filled)).answer ≡ refusal 17)
    × (told (after_event table (by 0 (Put []) []) (stored filled)).answer ≡ refusal 17)
    -- either side past its quota, whoever calls
    × (told (after_event table (by 1 (Put syncword) []) (stored (address ∷ whitening ∷ []))).answer ≡ refusal 17)
    × (told (after_event table (by 2 (Ask 18) []) (stored (syncword ∷ timing ∷ path ∷ []))).answer ≡ refusal 17)
    -- the other's setting, before the quota is asked; the side's own quota, though the book has room
    × (told (after_event table (by 2 (Put timing) []) (stored (address ∷ []))).answer ≡ refusal 18)
    × (told (after_event table (by 2 (Put whitening) []) (stored (address ∷ []))).answer ≡ refusal 8)
    -- the book's own refusals come first: of both forms, of a byte behind the end, and of the size
    × (told (after_event table (by 3 Clear []) (stored (path ∷ long_path ∷ []))).answer ≡ refusal 16)
    × (told (after_event table (by 3 Clear []) (stored filled ++ (1 ∷ []))).answer ≡ refusal 10)
    × (told (after_event table (by 3 Clear []) []).answer ≡ refusal 11)
unfolding table syncword timeout timing address whitening path call_for opened_for layout_in opened judge image header words place present_from offset_at
    word_at all_zero frames_from length_at length_by slot_from size_of lengths single in_both both_in side_on may_call own_turn barred table_right is_side spare_first
    all_first each_side joined joined_in owns chosen within_quotas put_on remove_on ask_on clear_on placed seat held frame_of swap_in without flat other other_in slot_of
    slot_for decode sought answered judged known stray lacking find takes is_in lists rx_bw_codes narrow_of narrows_of tab tab_from byte_of mask_of reads part mask
    read read_to
answers = (refl, refl, refl, refl, refl, refl, refl, refl, refl)

-- an ask for a kind that the table has no entry for is not the other side's
pub no-entry : barred (owner_table [] 7 4) 1 (Ask 4) ≡ false
unfolding barred owns slot_for
no-entry = refl
