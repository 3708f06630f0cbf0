-- A full book's bytes are needed: every setting put in its longer form fits a fresh book of so many, and in one of a byte less the last put gets 8
-- (`all_fit`, `one-short`).
-- Assumes nothing.
use mathlib.Core.Path.{ap, refl, subst, sym, ◌∙◌, ◌≡◌}
use mathlib.Core.Bool.{Bool, cond, false, not, true, ◌&&◌}
use mathlib.Core.List.{List, [], ◌++◌, ◌∷◌}
use Prim.Native.Nat.{ℕ, ◌+◌, ◌<◌}
use native.Mathlib.Omega.{arith}
use lib.Dec.{T, eqb, ltb, ltb→lt}
use lib.ListN.{length}
use Rattle.frame.proofs.Fields.{both_left, both_right}
use Rattle.frame.specs.Field.{mask, part, read, read_to}
use Rattle.frame.specs.Layout.{byte_of, mask_of, reads, tab, tab_from}
use Rattle.table.specs.Codes.{is_in, lists, rx_bw_codes, takes}
use Rattle.table.specs.Laid.{find}
use Rattle.table.specs.Number.{narrow_of, narrows_of}
use Rattle.table.specs.Table.{settings}
use Rattle.refusal.specs.declared.Refusal.TheVariants.{NoRoom}
use Rattle.std.specs.Prelude.{Err}
use Rattle.decoder.specs.Decoding.{answered, decode, judged, known, lacking, sought, stray}
use Rattle.settings.specs.Settings.{slot_for, slot_of}
use Rattle.contents.specs.Frames.{flat, held}
use Rattle.contents.specs.Contents.{room_of}
use Rattle.contents.proofs.Shape.{Sound}
use Rattle.forms.specs.Forms.{both_in, in_both, most_bytes, single}
use Rattle.forms.proofs.Forms.{OneForm, both-agree, single-forms}
use Rattle.book.specs.Book.{full_book, ours}
use Rattle.book.specs.History.{BytesRun, ListRun, Make, Put, after, on_bytes, on_list, turn}
use Rattle.book.proofs.History.{history-ours}
use Rattle.book.proofs.Laws.{slots_in}
use Rattle.book.proofs.Loading.{done, dones, puts, puts-list, puts-over}

-- every setting but the last, in its longer form
pub front : List (List ℕ)
front =
    -- from commands.json: front
    (0x02 ∷ 0x20 ∷ 0x50 ∷ 0 ∷ []) ∷ (0x02 ∷ 0x21 ∷ 0 ∷ 0 ∷ 0 ∷ 0 ∷ []) ∷ (0x02 ∷ 0x22 ∷ 0 ∷ 0 ∷ []) ∷ (0x02 ∷ 0x23 ∷ 0 ∷ [])
    ∷ (0x02 ∷ 0x26 ∷ 0 ∷ 0 ∷ 0 ∷ 0 ∷ 0 ∷ 0 ∷ 0 ∷ 0 ∷ 0 ∷ 0 ∷ []) ∷ (0x02 ∷ 0x27 ∷ 0 ∷ 0 ∷ 0 ∷ 0 ∷ 0 ∷ 0 ∷ 0 ∷ [])
    ∷ (0x02 ∷ 0x2B ∷ 0 ∷ 0 ∷ 0 ∷ 0 ∷ 0 ∷ 0 ∷ 0 ∷ 0 ∷ 0 ∷ []) ∷ (0x02 ∷ 0x2D ∷ 0 ∷ 0 ∷ []) ∷ (0x02 ∷ 0x2E ∷ 0 ∷ 0 ∷ 0 ∷ 0 ∷ 0 ∷ 0 ∷ []) ∷ (0x02 ∷ 0x1D ∷ 0 ∷ [])
    ∷ (0x02 ∷ 0x1D ∷ 0 ∷ 0 ∷ []) ∷ (0x02 ∷ 0x40 ∷ 0 ∷ 0 ∷ 0 ∷ 0 ∷ 0 ∷ 0 ∷ 0 ∷ 0 ∷ 0 ∷ []) ∷ (0x02 ∷ 0x41 ∷ 0 ∷ 0 ∷ 0 ∷ 0 ∷ 0 ∷ 0 ∷ 0 ∷ [])
    ∷ (0x02 ∷ 0x42 ∷ 0 ∷ 0 ∷ []) ∷ (0x02 ∷ 0x43 ∷ 0 ∷ 0 ∷ 0 ∷ 0 ∷ 0 ∷ 0 ∷ 0 ∷ 0 ∷ []) ∷ (0x02 ∷ 0x44 ∷ 0 ∷ 0 ∷ 0 ∷ 0 ∷ 0 ∷ 0 ∷ 0 ∷ 0 ∷ 0 ∷ [])
    ∷ (0x02 ∷ 0x45 ∷ 0 ∷ 0 ∷ []) ∷ (0x02 ∷ 0x00 ∷ 0 ∷ 0 ∷ 0 ∷ 0 ∷ []) ∷ (0x02 ∷ 0x01 ∷ 0 ∷ 0 ∷ []) ∷ (0x02 ∷ 0x02 ∷ 0 ∷ 0 ∷ 0 ∷ []) ∷ (0x02 ∷ 0x0F ∷ 0 ∷ [])
    ∷ (0x02 ∷ 0x11 ∷ 0 ∷ 0 ∷ 0 ∷ 0 ∷ 0 ∷ 0 ∷ 0 ∷ 0 ∷ []) ∷ (0x02 ∷ 0x15 ∷ 0 ∷ 0 ∷ 0 ∷ 0 ∷ 0 ∷ 0 ∷ []) ∷ (0x02 ∷ 0x16 ∷ 0 ∷ []) ∷ (0x02 ∷ 0x1A ∷ 0 ∷ [])
    -- end: front
    ∷ []

pub last : List ℕ
last =
    -- from commands.json: last
    0x02 ∷ 0x1B ∷ 0 ∷ 0 ∷ 0 ∷ 0 ∷ 0 ∷ 0 ∷ 0 ∷ 0
    -- end: last
    ∷ []

-- ---- what the slots say

unfoldable listed : ℕ → List ℕ → Bool
listed j [] = false
listed j (s ∷ ss) = cond (eqb s j) true (listed j ss)

held-listed : (j : ℕ) (fs : List (List ℕ)) → held j fs ≡ listed j (slots_in fs)
unfolding held listed
held-listed j [] = refl
held-listed j (f ∷ fs) = ap (λ (t : Bool). cond (eqb (slot_of f) j) true t) (held-listed j fs)

-- slots of settings, none of them twice
unfoldable distinct : List ℕ → Bool
distinct [] = true
distinct (s ∷ ss) = (ltb s settings && not (listed s ss)) && distinct ss

sound-slots : (fs : List (List ℕ)) → T (distinct (slots_in fs)) → Sound fs
unfolding distinct
sound-slots [] t = tt
sound-slots (f ∷ fs) t =
    let s : ℕ = slot_of f in
    let l = both_left (ltb s settings && not (listed s (slots_in fs))) (distinct (slots_in fs)) t in
    let r = both_right (ltb s settings && not (listed s (slots_in fs))) (distinct (slots_in fs)) t in (
      ltb→lt _ _ (both_left (ltb s settings) (not (listed s (slots_in fs))) l),
      held-listed s fs ∙ absent (listed s (slots_in fs)) (both_right (ltb s settings) (not (listed s (slots_in fs))) l),
      sound-slots fs r,
    )
  where
    absent : (t : Bool) → T (not t) → t ≡ false
    absent false u = refl
    absent true u = elim u [ ]

forms-slots : (fs : List (List ℕ)) → in_both (λ j. listed j (slots_in fs)) ≡ false → OneForm fs
unfolding single
forms-slots fs e = single-forms fs (ap not (both-agree (λ j. held j fs) (λ j. listed j (slots_in fs)) (λ j a. held-listed j fs) ∙ e))

-- ---- the frames' slots and bytes

abbrev theirs : List ℕ
theirs =
    -- from commands.json: slots
    0 ∷ 1 ∷ 2 ∷ 3 ∷ 5 ∷ 6 ∷ 7 ∷ 8 ∷ 9 ∷ 10 ∷ 11 ∷ 12 ∷ 13 ∷ 14 ∷ 15 ∷ 16 ∷ 17 ∷ 18 ∷ 20 ∷ 22 ∷ 23 ∷ 24 ∷ 25 ∷ 26 ∷ 27 ∷ 28
    -- end: slots
    ∷ []

slots : slots_in (front ++ (last ∷ [])) ≡ theirs
unfolding front last slot_of slot_for decode sought answered judged known stray lacking find takes is_in lists rx_bw_codes narrow_of narrows_of tab tab_from byte_of
    mask_of reads part mask read read_to
slots = refl

bytes : (length (flat front) < most_bytes) × (length (flat (front ++ (last ∷ []))) ≡ most_bytes)
unfolding front last flat
bytes = (omega arith, refl)

sound : Sound (front ++ (last ∷ []))
unfolding distinct listed
sound = sound-slots (front ++ (last ∷ [])) (subst (λ (ss : List ℕ). T (distinct ss)) (sym slots) tt)

one_form : OneForm (front ++ (last ∷ []))
unfolding in_both both_in listed slot_for
one_form = forms-slots (front ++ (last ∷ [])) (ap (λ (ss : List ℕ). in_both (λ j. listed j ss)) slots)

-- ---- the runs

pub all_fit : (b : List ℕ) → length b ≡ full_book → (on_bytes after (Make ∷ puts (front ++ (last ∷ []))) b).heard ≡ done ∷ dones (front ++ (last ∷ []))
unfolding on_list turn
all_fit b e =
    ap (λ (r : BytesRun). r.heard) (history-ours b (omega arith) (omega arith) (puts (front ++ (last ∷ []))))
    ∙ ap (λ (r : ListRun). done ∷ r.heard)
    (puts-list (room_of ours (length b)) (front ++ (last ∷ [])) sound one_form (omega (arith, bytes.1)))

pub one-short : (b : List ℕ) → length b + 1 ≡ full_book
    → (on_bytes after (Make ∷ (puts front ++ (Put last ∷ []))) b).heard ≡ done ∷ (dones front ++ (record { answer = Err NoRoom; output = [] } ∷ []))
unfolding on_list turn
one-short b e =
    ap (λ (r : BytesRun). r.heard) (history-ours b (omega arith) (omega arith) (puts front ++ (Put last ∷ [])))
    ∙ ap (λ (r : ListRun). done ∷ r.heard)
    (puts-over (room_of ours (length b)) front last sound one_form (omega (arith, bytes.0)) (omega (arith, bytes.1)))
