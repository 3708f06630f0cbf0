-- A story of two sides, computed: the installer owns the LoRa and the common settings and has 7 bytes, the operator the FSK settings and has 4, in a
-- book with room for 11. Each fills its quota, neither gets at the other's settings, and the operator's clear leaves what the installer put.
-- Assumes nothing.
use mathlib.Core.Path.{refl, ◌≡◌}
use mathlib.Core.List.{List, [], ◌++◌, ◌∷◌}
use Prim.Native.Nat.{ℕ, ◌-◌}
use lib.ListN.{replicate}
use Rattle.frame.specs.Field.{mask, part, read, read_to}
use Rattle.frame.specs.Layout.{byte_of, mask_of, reads, tab, tab_from}
use Rattle.table.specs.Codes.{is_in, lists, rx_bw_codes, takes}
use Rattle.table.specs.Laid.{find}
use Rattle.table.specs.Number.{narrow_of, narrows_of}
use Rattle.refusal.specs.Numbers.{number_of}
use Rattle.decoder.specs.Decoding.{answered, decode, judged, known, lacking, sought, stray}
use Rattle.settings.specs.Settings.{slot_for, slot_of}
use Rattle.contents.specs.Frames.{flat, held}
use Rattle.forms.specs.Forms.{other, other_in}
use Rattle.reel.specs.Reel.{reel_of}
use Rattle.owners.specs.Owners.{OwnerTable, all_first, each_side, is_side, joined, joined_in, owner_table, owns, spare_first, table_right}
use Rattle.std.specs.Prelude.{Ok, Err}
use Rattle.book.specs.Plain.{ask_on, clear_on, frame_of, placed, put_on, remove_on, replay_on, seat, swap_in, without, Answer}
use Rattle.book.specs.Book.{ours}
use Rattle.book.specs.History.{turn}
use Rattle.book.specs.History as whole
use Rattle.sides.specs.Parts.{chosen, within_quotas}
use Rattle.sides.specs.Calls.{Ask, Clear, Put, Remove, Replay, barred, may_call, own_turn, side_on}
use Rattle.sides.specs.Histories.{Event, Whole, by, jointly}

-- frames of kinds 4, 3 and 14 (LoRa), 21 and 18 (FSK), and 25 (common)
unfoldable pub syncword : List ℕ
syncword = 0x02 ∷ 0x23 ∷ 0x34 ∷ []

unfoldable pub timeout : List ℕ
timeout = 0x02 ∷ 0x22 ∷ 0x05 ∷ 0x01 ∷ []

unfoldable pub timing : List ℕ
timing = 0x02 ∷ 0x1D ∷ 0x00 ∷ []

unfoldable pub address : List ℕ
address = 0x02 ∷ 0x45 ∷ 0x01 ∷ 0x02 ∷ []

unfoldable pub whitening : List ℕ
whitening = 0x02 ∷ 0x42 ∷ 0x00 ∷ 0x00 ∷ []

unfoldable pub path : List ℕ
path = 0x02 ∷ 0x01 ∷ 0x00 ∷ []

-- the LoRa settings have the slots 0 to 11, the FSK settings 12 to 17; all behind them is side 1's too
unfoldable pub table : OwnerTable
table = owner_table (replicate 12 1 ++ (replicate 6 2 ++ replicate (ours.slots - 18) 1)) 7 4

-- bytes written, or the refusal's number
pub data Said : Type 0 where
  done : ℕ → Said
  refusal : ℕ → Said

abbrev pub told : Answer → Said
told (Ok n) = done n
told (Err x) = refusal (number_of x)

-- an event, what it is told, and the joint list after it
record Step : Type 0 where
  event : Event
  answer : Said
  frames : List (List ℕ)

abbrev step : Event → Said → List (List ℕ) → Step
step e a gs = record { event = e; answer = a; frames = gs }

-- each step gives what it says, on the list that the one before left
abbrev Story : List Step → List (List ℕ) → Type 0
Story [] fs = Unit
Story (s ∷ ss) fs = (told (jointly ours.slots 11 table s.event fs).answer ≡ s.answer) × ((jointly ours.slots 11 table s.event fs).frames
    ≡ s.frames) × Story ss s.frames

abbrev pub filled : List (List ℕ)
filled = syncword ∷ address ∷ timeout ∷ []

abbrev installed : List (List ℕ)
installed = syncword ∷ timeout ∷ []

story : Story (
    step (by 1 (Put syncword) []) (done 0) (syncword ∷ [])
    ∷ step (by 2 (Put address) []) (done 0) (syncword ∷ address ∷ [])
    ∷ step (by 1 (Put timeout) []) (done 0) filled
    -- each has filled its quota
    ∷ step (by 1 (Put timing) []) (refusal 8) filled
    ∷ step (by 2 (Put whitening) []) (refusal 8) filled
    -- the other's kinds, held or not
    ∷ step (by 2 (Put path) []) (refusal 18) filled
    ∷ step (by 2 (Remove 4) []) (refusal 18) filled
    ∷ step (by 1 (Ask 21) (replicate 12 0)) (refusal 18) filled
    ∷ step (by 1 (Ask 16) (replicate 12 0)) (refusal 18) filled
    -- its own, held or not, no setting, no side
    ∷ step (by 1 (Ask 4) (replicate 12 0)) (done 3) filled
    ∷ step (by 2 (Ask 18) (replicate 12 0)) (refusal 9) filled
    ∷ step (by 1 (Remove 8) []) (refusal 13) filled
    ∷ step (by 3 Clear []) (refusal 17) filled
    -- the whole book tells both, a side its own
    ∷ step (Whole (whole.Replay (replicate 14 0))) (done 14) filled
    ∷ step (by 1 Replay (replicate 10 0)) (done 9) filled
    ∷ step (by 1 Replay (replicate 8 0)) (refusal 12) filled
    ∷ step (by 2 Clear []) (done 0) installed
    ∷ step (by 2 Replay []) (done 0) installed
    -- a whole-book put takes the installer past its quota: 17 for both, until it is gone
    ∷ step (Whole (whole.Put path)) (done 0) (installed ++ (path ∷ []))
    ∷ step (by 1 Replay (replicate 20 0)) (refusal 17) (installed ++ (path ∷ []))
    ∷ step (by 2 (Put address) []) (refusal 17) (installed ++ (path ∷ []))
    ∷ step (Whole (whole.Remove 25)) (done 0) installed
    ∷ step (by 2 (Put address) []) (done 0) (installed ++ (address ∷ []))
    ∷ []
    ) []
unfolding table syncword timeout timing address whitening path turn side_on may_call own_turn barred table_right is_side spare_first all_first each_side joined
    joined_in owns chosen within_quotas put_on remove_on ask_on replay_on clear_on placed seat held frame_of swap_in without flat reel_of other other_in slot_of
    slot_for decode sought answered judged known stray lacking find takes is_in lists rx_bw_codes narrow_of narrows_of tab tab_from byte_of mask_of reads part mask
    read read_to
story = (refl, refl, (refl, refl, (refl, refl, (refl, refl, (refl, refl, (refl, refl, (refl, refl, (refl, refl, (refl, refl, (refl, refl, (refl, refl, (refl, refl, (refl, refl, (refl, refl, (refl, refl, (refl, refl, (refl, refl, (refl, refl, (refl, refl, (refl, refl, (refl, refl, (refl, refl, (refl, refl, tt)))))))))))))))))))))))

-- and a side's replay has its own frames alone
replays : ((jointly ours.slots 11 table (by 1 Replay (replicate 10 0)) filled).output ≡ 3 ∷ syncword ++ (4 ∷ timeout ++ (0 ∷ [])))
    × ((jointly ours.slots 11 table (by 2 Replay (replicate 5 0)) filled).output ≡ 4 ∷ address)
unfolding table syncword timeout address side_on may_call own_turn barred table_right is_side spare_first all_first each_side joined joined_in owns chosen
    within_quotas replay_on flat reel_of slot_of slot_for decode sought answered judged known stray lacking find takes is_in lists rx_bw_codes narrow_of narrows_of
    tab tab_from byte_of mask_of reads part mask read read_to
replays = (refl, refl)
