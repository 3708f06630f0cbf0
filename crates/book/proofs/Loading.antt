-- Puts of a list's frames, one after the other, give that list (`puts-list`), if it is one that the room can hold; and the first that the room
-- has no place for gets 8 (`puts-over`).
-- Assumes nothing.
use mathlib.Core.Path.{ap, refl, subst, sym, ◌∙◌, ◌≡◌}
use mathlib.Core.Bool.{Bool, false, true}
use mathlib.Core.List.{List, [], append_assoc, append-nil, ◌++◌, ◌∷◌}
use Prim.Native.Nat.{ℕ, ◌<◌, ◌≤◌}
use native.Mathlib.Omega.{arith}
use lib.ListN.{length, length-append}
use Rattle.refusal.specs.declared.Refusal.TheVariants.{NoRoom}
use Rattle.settings.specs.Settings.{slot_of}
use Rattle.contents.specs.Frames.{flat, held}
use Rattle.contents.proofs.Shape.{Sound}
use Rattle.forms.specs.Forms.{other}
use Rattle.forms.proofs.Forms.{OneForm}
use Rattle.std.specs.Prelude.{Ok, Err}
use Rattle.book.specs.Plain.{placed}
use Rattle.book.specs.History.{Call, Heard, Put, on_list, turn}
use Rattle.contents.proofs.Lists.{flat-split, held_after, held-before, held-here, sound-middle}
use Rattle.book.proofs.Placed.{placed-last}
use Rattle.book.proofs.Putting.{put_on-fits, put_on-full}

-- a put for each frame
abbrev pub puts : List (List ℕ) → List Call
puts [] = []
puts (f ∷ fs) = Put f ∷ puts fs

-- and its answer where it is done
abbrev pub done : Heard
done = record { answer = Ok 0; output = [] }

abbrev pub dones : List (List ℕ) → List Heard
dones [] = []
dones (f ∷ fs) = done ∷ dones fs

-- ---- the front of a list

-- what holds of a list holds of its front
sound-front : (xs ys : List (List ℕ)) → Sound (xs ++ ys) → Sound xs
sound-front [] ys s = tt
sound-front (x ∷ xs) ys s = (s.0, absent (held (slot_of x) xs) refl, sound-front xs ys s.2)
  where
    absent : (t : Bool) → held (slot_of x) xs ≡ t → t ≡ false
    absent false e = refl
    absent true e = sym (held-before (slot_of x) xs ys e) ∙ s.1

forms-front : (xs ys : List (List ℕ)) → OneForm (xs ++ ys) → OneForm xs
forms-front xs ys F s p q = F s (held-before s xs ys p) (held-before (other s) xs ys q)

-- ---- the puts

module _ (room : ℕ) where
  -- a frame that comes next goes behind the others
  next : (xs : List (List ℕ)) (f : List ℕ) (ys : List (List ℕ)) → Sound (xs ++ (f ∷ ys)) → OneForm (xs ++ (f ∷ ys)) → placed f xs ≡ xs ++ (f ∷ [])
  next xs f ys s F = placed-last f xs (sound-middle xs f ys s).1 (go (held (other (slot_of f)) xs) refl)
    where
      go : (t : Bool) → held (other (slot_of f)) xs ≡ t → t ≡ false
      go false q = refl
      go true q =
          let e : other (slot_of f) ≡ slot_of f = F (slot_of f) (held_after (slot_of f) xs (f ∷ ys) (held-here f ys))
          (held-before (other (slot_of f)) xs (f ∷ ys) q) in
          sym q ∙ ap (λ (j : ℕ). held j xs) e ∙ (sound-middle xs f ys s).1

  fits : (xs : List (List ℕ)) (f : List ℕ) (ys : List (List ℕ)) → length (flat (xs ++ (f ∷ []))) ≤ length (flat (xs ++ (f ∷ ys)))
  unfolding flat
  fits xs f ys = omega (
    arith,
    ap length (flat-split xs (f ∷ [])),
    ap length (flat-split xs (f ∷ ys)),
    length-append (flat xs) (f ++ []),
    length-append (flat xs) (f ++ flat ys),
    length-append {A = ℕ} f [],
    length-append f (flat ys),
  )

  -- whatever comes after them
  pub puts_then : (xs ys : List (List ℕ)) (cs : List Call) → Sound (xs ++ ys) → OneForm (xs ++ ys) → length (flat (xs ++ ys)) ≤ room
      → on_list (turn room) (puts ys ++ cs) xs
      ≡ record { heard = dones ys ++ (on_list (turn room) cs (xs ++ ys)).heard; frames = (on_list (turn room) cs (xs ++ ys)).frames }
  unfolding on_list turn
  puts_then xs [] cs s F r = rw append-nil
  puts_then xs (f ∷ ys) cs s F r =
      let same : (xs ++ (f ∷ [])) ++ ys ≡ xs ++ (f ∷ ys) = append_assoc xs (f ∷ []) ys in
      let step = put_on-fits f [] room xs (sound-middle xs f ys s).0 _ (next xs f ys s F) (omega (arith, fits xs f ys)) in
      let rest = puts_then (xs ++ (f ∷ [])) ys cs (subst Sound (sym same) s) (subst OneForm (sym same) F)
      (subst (λ (gs : List (List ℕ)). length (flat gs) ≤ room) (sym same) r) in
      rw (step, rest, same)

  pub puts-list : (fs : List (List ℕ)) → Sound fs → OneForm fs → length (flat fs) ≤ room
      → on_list (turn room) (puts fs) [] ≡ record { heard = dones fs; frames = fs }
  unfolding on_list
  puts-list fs s F r =
      ap (λ (cs : List Call). on_list (turn room) cs []) (sym (append-nil (puts fs)))
      ∙ puts_then [] fs [] s F r
      ∙ ap (λ (hs : List Heard). record { heard = hs; frames = fs }) (append-nil (dones fs))

  -- one frame more than has room
  pub puts-over : (fs : List (List ℕ)) (f : List ℕ) → Sound (fs ++ (f ∷ [])) → OneForm (fs ++ (f ∷ [])) → length (flat fs) ≤ room
      → room < length (flat (fs ++ (f ∷ []))) → on_list (turn room) (puts fs ++ (Put f ∷ [])) []
      ≡ record { heard = dones fs ++ (record { answer = Err NoRoom; output = [] } ∷ []); frames = fs }
  unfolding on_list turn
  puts-over fs f s F r o =
      puts_then [] fs (Put f ∷ []) (sound-front fs (f ∷ []) s) (forms-front fs (f ∷ []) F) r
      ∙ rw (put_on-full f [] room fs (sound-middle fs f [] s).0 _ (next fs f [] s F) o)
