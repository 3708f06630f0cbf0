-- Texts written one behind the other, as far as the output goes: `puts_then` joins two of them, and every function that writes cites it.
-- A text that fits stands whole: `start-whole`, `puts_whole`; in an output that is too short none is told: `short-whole`.
-- Assumes nothing.
use mathlib.Core.Path.{◌≡◌, refl, sym, ap, ap₂, ◌∙◌}
use mathlib.Core.Bool.{Bool, true, false}
use mathlib.Core.List.{List, [], ◌∷◌, ◌++◌}
use Prim.Native.Nat.{ℕ, suc, ◌+◌, ◌-◌, ◌≤◌, ◌<◌}
use native.Mathlib.Nat.{zero-add}
use native.Mathlib.Omega.{arith}
use lib.Dec.{leb}
use lib.ListN.{length, set, take, drop, length-append}
use lib.Seq.{sets, length-sets, sets-eq, set_out, take-append_seam}
use borrow.Author.Tests.{le-leb, lt-leb, leb-true, leb-false}
use Rattle.texts.specs.Whole.{told, laid}
use Rattle.texts.specs.Written.{end_of, Puts}

-- ---- one behind the other

pub sets-append : (l : List ℕ) (i : ℕ) (a b : List ℕ) → sets (sets l i a) (i + length a) b ≡ sets l i (a ++ b)
sets-append l i [] b = ap (λ (k : ℕ). sets l k b) (omega arith)
sets-append l i (x ∷ a) b =
    let e : i + suc (length a) ≡ suc i + length a = omega arith in
    ap (λ (k : ℕ). sets (sets (set l i x) (suc i) a) k b) e ∙ sets-append (set l i x) (suc i) a b

-- behind the output's end nothing is written
sets-out : (l : List ℕ) (i : ℕ) (t : List ℕ) → length l ≤ i → sets l i t ≡ l
sets-out l i [] h = refl
sets-out l i (x ∷ t) h =
    let e : set l i x ≡ l = set_out l i x h in
    ap (λ (m : List ℕ). sets m (suc i) t) e ∙ sets-out l (suc i) t (omega arith)

-- the second text stands where the first ended
sets_then : (l : List ℕ) (at : ℕ) (a b : List ℕ) → sets (sets l at a) (end_of at (length a) (length l)) b ≡ sets l at (a ++ b)
sets_then l at a b = by (leb (at + length a) (length l)) refl
  where
    m : ℕ
    m = end_of at (length a) (length l)

    by : (t : Bool) → leb (at + length a) (length l) ≡ t → sets (sets l at a) m b ≡ sets l at (a ++ b)
    by true e =
        let h : at + length a ≤ length l = leb-true (at + length a) (length l) e in
        let f : m ≡ at + length a = omega arith in
        ap (λ (k : ℕ). sets (sets l at a) k b) f ∙ sets-append l at a b
    by false e =
        let h : length l < at + length a = leb-false (at + length a) (length l) e in
        let s : List ℕ = sets l at a in
        let n : length s ≡ length l = length-sets l at a in
        sets-out s m b (omega arith) ∙ sym (sets-out s (at + length a) b (omega arith)) ∙ sets-append l at a b

end-then : (at a b n : ℕ) → end_of (end_of at a n) b n ≡ end_of at (a + b) n
end-then at a b n = omega arith

module _ {a b o p q : List ℕ} {at r s : ℕ} where
  pub puts_then : Puts a at o r p → Puts b r p s q → Puts (a ++ b) at o s q
  puts_then u v =
      let n : length p ≡ length o = ap length u.stands ∙ length-sets o at a in
      record {
        ends =
            v.ends
            ∙ ap₂ (λ (k m : ℕ). end_of k (length b) m) u.ends n
            ∙ end-then at (length a) (length b) (length o)
            ∙ ap (λ (k : ℕ). end_of at k (length o)) (sym (length-append a b));
        stands =
            v.stands
            ∙ ap (λ (l : List ℕ). sets l r b) u.stands
            ∙ ap (λ (k : ℕ). sets (sets o at a) k b) u.ends
            ∙ sets_then o at a b;
      }

module _ {a o p : List ℕ} {at r : ℕ} where
  pub puts-length : Puts a at o r p → length p ≡ length o
  puts-length u = ap length u.stands ∙ length-sets o at a

  pub puts-as : (b : List ℕ) → b ≡ a → Puts a at o r p → Puts b at o r p
  puts-as b e u = rw e u

-- nothing written
pub puts_none : (o : List ℕ) (at : ℕ) → Puts [] at o at o
puts_none o at = record { ends = omega arith; stands = refl }

-- a byte behind the output's end
pub puts-past : (o : List ℕ) (at b : ℕ) → length o ≤ at → Puts (b ∷ []) at o at o
puts-past o at b h = record { ends = omega arith; stands = sym (set_out o at b h) }

-- ---- a whole text at the start, with room for the longest and without

sets-start : (a l : List ℕ) → length a ≤ length l → sets l 0 a ≡ a ++ drop (length a) l
sets-start a l h = sets-eq a l 0 (omega arith) ∙ ap (λ (k : ℕ). a ++ drop k l) (zero-add (length a))

module _ (a o : List ℕ) {p : List ℕ} {r : ℕ} (room : ℕ) (fits : length a ≤ room) (h : room ≤ length o) where
  pub start-whole : r ≡ length a → p ≡ sets o 0 a → (r ≡ told room a o) × ((p ≡ laid room a o) × (r ≤ length o))
  start-whole e f =
      let yes : leb room (length o) ≡ true = le-leb room (length o) h in
      (rw yes e, (rw yes (f ∙ sets-start a o (omega arith)), omega arith))

module _ {t o p : List ℕ} {r : ℕ} (room : ℕ) (fits : length t ≤ room) (h : room ≤ length o) where
  pub puts_whole : Puts t 0 o r p → (r ≡ told room t o) × ((p ≡ laid room t o) × (r ≤ length o))
  puts_whole u = start-whole t o room fits h (omega (arith, u.ends)) u.stands

pub short-whole : (room : ℕ) (a o : List ℕ) → length o < room → (0 ≡ told room a o) × ((o ≡ laid room a o) × (0 ≤ length o))
short-whole room a o h =
    let no_room : leb room (length o) ≡ false = lt-leb room (length o) h in
    (rw no_room refl, (rw no_room refl, omega arith))

-- what was laid there is the part up to the length that was told
pub laid-part : (t o : List ℕ) {p : List ℕ} {r : ℕ} (room : ℕ) → r ≡ told room t o → p ≡ laid room t o → room ≤ length o → take (r - 0) p ≡ t
laid-part t o {p} {r} room e f h =
    let yes : leb room (length o) ≡ true = le-leb room (length o) h in
    let n : r ≡ length t = rw yes at e in
    let m : r - 0 ≡ length t = omega arith in
    ap₂ take m (rw yes at f) ∙ take-append_seam t (drop (length t) o)
