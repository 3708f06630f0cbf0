-- A stored book whose sync word is longer than 64 bits is not well formed: every call but make gets 10 and alters nothing (`long-sync-word`), so
-- that no book that opens holds one (`opened-sync-word`).
-- Assumes nothing.
use mathlib.Core.Path.{◌∙◌, ◌≡◌}
use mathlib.Core.Bool.{false}
use mathlib.Core.List.{List}
use mathlib.Core.Logic.{⊎_elim}
use Prim.Native.Nat.{ℕ, ◌+◌, ◌%◌, ◌<◌, ◌≤◌}
use native.Mathlib.Omega.{arith}
use lib.ListN.{drop, get_or, length, length-take}
use lib.Seq.{get_or-drop, get_or-take}
use Rattle.frame.proofs.OneField.{le-or-lt}
use Rattle.refusal.specs.declared.Refusal.TheVariants.{NotWellFormed}
use Rattle.settings.specs.Settings.{lengths, size_of, slot_for, slot_of}
use Rattle.contents.specs.Contents.{holds, longest, offset_at, start}
use Rattle.contents.proofs.Judged.{Bytes}
use Rattle.contents.proofs.Loops.{get_d_past}
use Rattle.contents.proofs.Stored.{stored_at, stored-decodes, undecoded-ten}
use Rattle.codec.proofs.SyncWord.{nb_bits_in, sync-word-most}
use Rattle.std.specs.Prelude.{Err}
use Rattle.book.specs.Book.{Use, layout_in, opened_for}
use Rattle.book.specs.History.{Call, after}
use Rattle.book.proofs.Both.{is_make, ten-first}
use Rattle.book.proofs.Calls.{opened-judge}
use Rattle.book.proofs.Versions.{opened_for-opened, sync-slot}
use Rattle.book.proofs.Keeps.{lent_to}
use Rattle.book.proofs.Laws.{DecodesTo, slot-decodes}

-- the offset of kind 20's frame, and the nb_bits that stands behind it
abbrev pub sync_word_at : List ℕ → ℕ
sync_word_at b = offset_at b (slot_for 20)

abbrev pub nb_bits_at : List ℕ → ℕ
nb_bits_at b = get_or b (sync_word_at b + 10) 0 % 128

module _ (b : List ℕ) (B : Bytes b) (present : sync_word_at b ≡ 0 → ⊥) where
  f : List ℕ
  f = stored_at b (slot_for 20)

  byte_at : (i : ℕ) → i < 11 → get_or f i 0 ≡ get_or b (sync_word_at b + i) 0
  unfolding f size_of lengths slot_for
  byte_at i h = get_or-take 11 (drop (sync_word_at b) b) i 0 h ∙ get_or-drop (sync_word_at b) b i 0

  short : length f ≤ 11
  unfolding f size_of lengths slot_for
  short = simp length-take (omega arith)

  -- what stands there has at most 64 bits, if it decodes to kind 20
  decoded-sync-word : slot_of f ≡ slot_for 20 → nb_bits_at b ≤ 64
  unfolding slot_for
  decoded-sync-word e =
      let d : DecodesTo 20 f = slot-decodes 20 f (omega arith) e in
      let m : nb_bits_in f ≤ 64 = sync-word-most f d.arguments bytes d.reads in
      omega (arith, byte_at 10 (omega arith))
    where
      bytes : (i : ℕ) → get_or f i 0 < 256
      bytes i =
          ⊎_elim (λ h. omega (arith, get_d_past f i (omega (arith, short))))
          (λ h. omega (arith, byte_at i h, B (sync_word_at b + i))) (le-or-lt 11 i)

  pub opened-sync-word : (u : Use) (fs : List (List ℕ)) → opened_for u b ≡ holds fs → nb_bits_at b ≤ 64
  unfolding f
  opened-sync-word u fs e =
      decoded-sync-word (stored-decodes (layout_in b) b fs (opened-judge (layout_in b) b fs (opened_for-opened u b fs e)) (slot_for 20) (sync-slot b) present)

  pub long-sync-word : start (layout_in b).slots ≤ length b → length b ≤ longest → 64 < nb_bits_at b
      → (c : Call) → is_make c ≡ false → after c b ≡ record { answer = Err NotWellFormed; output = lent_to c; bytes = b }
  unfolding f
  long-sync-word low high long c n =
      ten-first b c n NotWellFormed
      (undecoded-ten (layout_in b) b low high (slot_for 20) (sync-slot b) present (λ e. let h = decoded-sync-word e in omega arith))
