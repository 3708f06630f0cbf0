-- What stands where the offsets of a well-formed book point: a frame of the slot's kind (`stored-decodes`). Bytes of a book's size that are not
-- well formed are refused for that (`misformed`), and so are those with anything else at an offset (`undecoded-ten`).
-- Assumes nothing.
use mathlib.Core.Path.{ap, ap₂, refl, subst, sym, ◌∙◌, ◌≡◌}
use mathlib.Core.Bool.{Bool, cond, false, false≢true, true}
use mathlib.Core.List.{List, ◌∷◌}
use Prim.Native.Nat.{suc, zero, ℕ, ◌+◌, ◌<◌, ◌≤◌}
use native.Mathlib.Omega.{arith}
use borrow.Author.Tests.{eqb-true, leb-false}
use lib.Dec.{eqb}
use lib.ListN.{drop, get_or, length, take}
use Rattle.refusal.specs.declared.Refusal.{Refusal}
use Rattle.refusal.specs.declared.Refusal.TheVariants.{NotWellFormed}
use Rattle.settings.specs.Settings.{size_of, slot_of}
use Rattle.settings.proofs.Settings.{slot_of-length}
use Rattle.contents.specs.Frames.{held, place}
use Rattle.contents.specs.Contents.{Contents, Layout, frames_from, holds, judge, length_at, longest, offset_at, refused, start, word_at}
use Rattle.contents.proofs.Shape.{place_none}
use Rattle.contents.proofs.Judged.{Reads, Split, frames_from-none, frames_from-split, frames_from-tiled, judge-reads, offsets}
use Rattle.contents.proofs.Places.{Says, judge-says}

-- the bytes that a slot's frame would have at its offset
abbrev pub stored_at : List ℕ → ℕ → List ℕ
stored_at b s = take (size_of s) (drop (offset_at b s) b)

-- of frames that tile the bytes, each stands at its slot's offset
tiled-stored : (m c : ℕ) (b : List ℕ) (p e : ℕ) (fs : List (List ℕ)) (s : ℕ) → frames_from m c b p e ≡ holds fs → held s fs ≡ true → slot_of (stored_at b s) ≡ s
unfolding held place
tiled-stored m zero b p e fs s h q =
    absurd (false≢true (subst (λ (gs : List (List ℕ)). held s gs ≡ true) (sym (frames_from-none m b p e fs h)) q))
tiled-stored m (suc c) b p e fs s h q =
    go (tiled-stored m c b (p + length_at m b p e) e x.rest s x.reads) (eqb (slot_of f) s) refl
    (subst (λ (gs : List (List ℕ)). held s gs ≡ true) x.whole q)
  where
    x : Split m c b p e fs
    x = frames_from-split m c b p e fs h

    f : List ℕ
    f = take (length_at m b p e) (drop p b)

    stands : offset_at b s ≡ place p (f ∷ x.rest) s
    stands = (frames_from-tiled m (suc c) b p e fs h).stand s q ∙ ap (λ (gs : List (List ℕ)). place p gs s) x.whole

    go : (held s x.rest ≡ true → slot_of (stored_at b s) ≡ s) → (t : Bool) → eqb (slot_of f) s ≡ t → cond t true (held s x.rest) ≡ true
        → slot_of (stored_at b s) ≡ s
    go ih true z w =
        let own : slot_of f ≡ s = eqb-true (slot_of f) s z in
        let at : offset_at b s ≡ p = stands ∙ ap (λ (t : Bool). cond t p (place (p + length f) x.rest s)) z in
        let long : size_of s ≡ length_at m b p e = ap size_of (sym own) ∙ sym (slot_of-length f x.slot) ∙ x.long in
        ap₂ (λ (n i : ℕ). slot_of (take n (drop i b))) long at ∙ own
    go ih false z w = ih w

pub stored-decodes : (l : Layout) (b : List ℕ) (fs : List (List ℕ)) → judge l b ≡ holds fs → (s : ℕ) → s < l.slots → (offset_at b s ≡ 0 → ⊥)
    → slot_of (stored_at b s) ≡ s
stored-decodes l b fs h s a n = go (held s fs) refl
  where
    r : Reads l b fs
    r = judge-reads l b fs h

    go : (t : Bool) → held s fs ≡ t → slot_of (stored_at b s) ≡ s
    go true q = tiled-stored l.slots (get_or b 1 0) b (start l.slots) (word_at b 2) fs s r.tiled q
    go false q = absurd (n (offsets l b fs r s a ∙ place_none (start l.slots) fs s q))

-- ---- what is refused by 10

module _ (l : Layout) (b : List ℕ) (low : start l.slots ≤ length b) (high : length b ≤ longest) where
  pub misformed : ((fs : List (List ℕ)) → judge l b ≡ holds fs → ⊥) → judge l b ≡ refused NotWellFormed
  misformed n =
      go (judge l b) refl
      (judge-says Form refl l b (λ e. absurd (omega (arith, leb-false (start l.slots) (length b) e)))
      (λ e. absurd (omega (arith, leb-false (length b) longest e))))
    where
      Form : Refusal → Type 0
      Form x = x ≡ NotWellFormed

      go : (c : Contents) → judge l b ≡ c → Says Form refl c → judge l b ≡ refused NotWellFormed
      go (refused x) e s = e ∙ ap refused s
      go (holds fs) e s = absurd (n fs e)

  pub undecoded-ten : (s : ℕ) → s < l.slots → (offset_at b s ≡ 0 → ⊥) → (slot_of (stored_at b s) ≡ s → ⊥) → judge l b ≡ refused NotWellFormed
  undecoded-ten s a o n = misformed (λ fs h. n (stored-decodes l b fs h s a o))
