-- A refit makes room for new bytes where a frame stood (`refit-image`): the offsets behind it move (`shifted-..`), and so does what they point
-- at, down or up (`moved-..`).
-- Assumes nothing.
use mathlib.Core.Path.{ap, ap₂, refl, subst, sym, ◌∙◌, ◌≡◌}
use mathlib.Core.Bool.{Bool, cond, false, true}
use mathlib.Core.List.{List, append_assoc, ◌++◌}
use Prim.Native.Nat.{zero, ℕ, ◌+◌, ◌-◌, ◌<◌, ◌≤◌}
use native.Mathlib.Nat.{le_refl}
use native.Mathlib.Omega.{arith}
use borrow.Author.Tests.{eq-eqb, eqb-true, le-ltb, lt-ltb, ne_eqb}
use lib.Dec.{eqb}
use lib.ListN.{drop, length, length-append, length-drop, length-replicate, replicate, replicate-append-replicate, take, take-append-drop}
use lib.Seq.{drop-append-add, drop-append-le, drop-drop, length-paste, length-take-le, paste, paste-zero, take_at}
use Rattle.table.specs.Table.{settings}
use Rattle.settings.specs.Settings.{size_of, slot_of}
use Rattle.settings.proofs.Settings.{size_low, slot_of-length}
use Rattle.contents.specs.Frames.{flat, held, place}
use Rattle.contents.specs.Contents.{Layout, image, start}
use Rattle.contents.proofs.Headers.{head, head-length, header-head}
use Rattle.contents.proofs.Shape.{Sound, place-from, place-ge, place_in, place_none, place-shift}
use Rattle.spans.specs.Spans.{slid, slid_up, zeroed}
use Rattle.spans.proofs.Spans.{slid-fits, slid_up-fits, zeroed-fits}
use Rattle.book.specs.Edits.{moved, refitted, remap, shifted_at}
use Rattle.spans.specs.Spans.{set_word, stored}
use Rattle.spans.proofs.Spans.{stored-fits}
use Rattle.filling.proofs.Pieces.{drop-replicate, paste-at, paste-right}
use Rattle.book.proofs.Parts.{head-end, head-remap}

-- ---- a move down or up

pub moved_down : (b x y : List ℕ) (at old new e m : ℕ) → new ≤ old → at + old ≤ e → e ≤ length b → m ≡ e - (at + old) → x ≡ slid b (at + new) (old - new) m
    → y ≡ zeroed x (e - old + new) (old - new) → y ≡ moved b at old new e
unfolding moved
moved_down b x y at old new e m a w z q p r =
    r
    ∙ zeroed-fits x (e - old + new) (old - new) (omega (arith, long))
    ∙ ap (λ (u : List ℕ). paste u (e - old + new) (replicate (old - new) 0) (old - new)) (pasted ∙ ap₂ (λ (i j : ℕ). paste b (at + new) (drop i b) j) same q)
  where
    same : at + new + (old - new) ≡ at + old
    same = omega arith

    pasted : x ≡ paste b (at + new) (drop (at + new + (old - new)) b) m
    pasted = p ∙ slid-fits b (at + new) (old - new) m (omega arith)

    long : length x ≡ length b
    long =
        ap length pasted
        ∙ length-paste b (at + new) (drop (at + new + (old - new)) b) m (omega arith) (omega (arith, length-drop (at + new + (old - new)) b))

pub moved_up : (b y : List ℕ) (at old new e m : ℕ) → old ≤ new → at + old ≤ e → e - old + new ≤ length b → m ≡ e - (at + old)
    → y ≡ slid_up b (at + old) (new - old) m → y ≡ moved b at old new e
unfolding moved
moved_up b y at old new e m a w z q p =
    p
    ∙ slid_up-fits b (at + old) (new - old) m (omega arith)
    ∙ ap₂ (λ (i j : ℕ). paste b i (drop (at + old) b) j) same q
    ∙ paste-zero W (e - old + new) (replicate 0 0)
    ∙ ap (λ (i : ℕ). paste W (e - old + new) (replicate i 0) i) none
  where
    W : List ℕ
    W = paste b (at + new) (drop (at + old) b) (e - (at + old))

    same : at + old + (new - old) ≡ at + new
    same = omega arith

    none : zero ≡ old - new
    none = omega arith

-- ---- the offsets

module _ (at old new o : ℕ) where
  pub shifted-after : at < o → o - old + new ≡ shifted_at at old new o
  unfolding shifted_at
  shifted-after a = rw (lt-ltb _ _ a)

  pub shifted-gone : o ≤ at → o ≡ at → 0 ≡ shifted_at at old new o
  unfolding shifted_at
  shifted-gone a e = rw (le-ltb _ _ a, eq-eqb _ _ e)

  pub shifted-kept : o ≤ at → (o ≡ at → ⊥) → o ≡ shifted_at at old new o
  unfolding shifted_at
  shifted-kept a e = rw (le-ltb _ _ a, ne_eqb _ _ e)

-- behind a frame g of slot k, with n bytes where it stood: what comes after it moves, and its own slot is absent
pub place-shifts : (p k n : ℕ) (g : List ℕ) (fs : List (List ℕ)) → 0 < p → slot_of g < settings → slot_of g ≡ k → held (slot_of g) fs ≡ false → (j : ℕ)
    → place (p + n) fs j ≡ shifted_at p (size_of k) n (cond (eqb (slot_of g) j) p (place (p + length g) fs j))
place-shifts p k n g fs pos small own fresh j = go (eqb (slot_of g) j) refl (held j fs) refl
  where
    len : length g ≡ size_of k
    len = slot_of-length g small ∙ ap size_of own

    low : 3 ≤ size_of k
    low = omega (arith, size_low (slot_of g) small, ap size_of own)

    go : (u : Bool) → eqb (slot_of g) j ≡ u → (x : Bool) → held j fs ≡ x
        → place (p + n) fs j ≡ shifted_at p (size_of k) n (cond u p (place (p + length g) fs j))
    go true e x w = place_none (p + n) fs j (ap (λ (i : ℕ). held i fs) (sym (eqb-true _ _ e)) ∙ fresh) ∙ shifted-gone p (size_of k) n p (le_refl p) refl
    go false e true w =
        let o : ℕ = place (p + length g) fs j in
        let a : o ≡ place p fs j + length g = place-shift (length g) p fs j w in
        let m : place (p + n) fs j ≡ o - size_of k + n = omega (arith, len, place-shift n p fs j w) in
        m ∙ shifted-after p (size_of k) n o (omega (arith, len, low, place-ge p fs j w))
    go false e false w =
        place_none (p + n) fs j w ∙ shifted-kept p (size_of k) n 0 (omega arith) (λ z. absurd (omega arith))
        ∙ ap (shifted_at p (size_of k) n) (sym (place_none (p + length g) fs j w))

-- ---- the bytes

-- H, D and T, then z zeros: T moves to behind new bytes in place of D
module _ (H D T : List ℕ) (new z : ℕ) (fits : new ≤ length D + z) where
  abbrev Y : List ℕ
  Y = D ++ (T ++ replicate z 0)

  long : length (D ++ (T ++ replicate z 0)) ≡ length D + length T + z
  long = omega (arith, length-append D (T ++ replicate z 0), length-append T (replicate z 0), length-replicate {A = ℕ} z 0)

  body-slid : paste (D ++ (T ++ replicate z 0)) new (T ++ replicate z 0) (length T) ≡ (take new Y ++ T) ++ drop (new + length T) Y
  body-slid = ap (λ (x : List ℕ). take new Y ++ x ++ drop (new + length T) Y) (take_at T (replicate z 0) (length T) refl)

  front : length (take new (D ++ (T ++ replicate z 0)) ++ T) ≡ new + length T
  front = length-append (take new Y) T ∙ ap (λ (x : ℕ). x + length T) (length-take-le new Y (omega (arith, long)))

  abbrev d : ℕ
  d = length D - new

  left : drop (length D - new) (drop (new + length T) (D ++ (T ++ replicate z 0))) ≡ replicate (z - (new - length D)) 0
  left =
      drop-drop (length D - new) (new + length T) Y
      ∙ ap (λ (x : ℕ). drop x Y) i
      ∙ drop-append-add D (T ++ replicate z 0) (length T + (new - length D))
      ∙ drop-append-add T (replicate z 0) (new - length D)
      ∙ drop-replicate z (new - length D)
    where
      i : new + length T + (length D - new) ≡ length D + (length T + (new - length D))
      i = omega arith

  body-zeroed : paste ((take new (D ++ (T ++ replicate z 0)) ++ T) ++ drop (new + length T) (D ++ (T ++ replicate z 0))) (new + length T)
      (replicate (length D - new) 0) (length D - new)
      ≡ take new Y ++ (T ++ replicate (z + length D - new) 0)
  body-zeroed =
      paste-at (take new Y ++ T) (drop (new + length T) Y) (replicate d 0) (new + length T) d front (length-replicate {A = ℕ} d 0)
      ∙ append_assoc (take new Y) T (replicate d 0 ++ drop d (drop (new + length T) Y))
      ∙ ap (λ (x : List ℕ). take new Y ++ (T ++ x)) (ap (λ (x : List ℕ). replicate d 0 ++ x) left ∙ replicate-append-replicate d (z - (new - length D)) 0
      ∙ ap (λ (n : ℕ). replicate n 0) n)
    where
      n : length D - new + (z - (new - length D)) ≡ z + length D - new
      n = omega arith

  body-moved : paste (paste (H ++ (D ++ (T ++ replicate z 0))) (length H + new) (T ++ replicate z 0) (length T)) (length H + (new + length T))
      (replicate (length D - new) 0) (length D - new)
      ≡ H ++ (take new (D ++ (T ++ replicate z 0)) ++ (T ++ replicate (z + length D - new) 0))
  body-moved =
      ap (λ (x : List ℕ). paste x (length H + (new + length T)) (replicate d 0) d)
      (paste-right H Y new (T ++ replicate z 0) (length T) ∙ ap (λ (x : List ℕ). H ++ x) body-slid)
      ∙ paste-right H ((take new Y ++ T) ++ drop (new + length T) Y) (new + length T) (replicate d 0) d
      ∙ ap (λ (x : List ℕ). H ++ x) body-zeroed

-- THE REFIT: the image of a list, with room for new bytes where the frame of slot k stood; its slot is absent
module _ (l : Layout) (n k new : ℕ) (fs : List (List ℕ)) (s : Sound fs) (h : held k fs ≡ true) (had : start l.slots + length (flat fs) ≤ n)
    (fit : start l.slots + length (flat fs) - size_of k + new ≤ n) where
  abbrev refit_body : List ℕ
  refit_body =
      take (place 0 fs k) (flat fs)
      ++ (take new (take (size_of k) (drop (place 0 fs k) (flat fs))
      ++ (drop (place 0 fs k + size_of k) (flat fs) ++ replicate (n - (start l.slots + length (flat fs))) 0))
      ++ (drop (place 0 fs k + size_of k) (flat fs) ++ replicate (n - (start l.slots + length (flat fs)) + size_of k - new) 0))

  pub refit-image : refitted l.slots (image l n fs) (place (start l.slots) fs k) (size_of k) new (start l.slots + length (flat fs))
      ≡ head l (length fs) (start l.slots + length (flat fs) - size_of k + new)
      (λ x. shifted_at (place (start l.slots) fs k) (size_of k) new (place (start l.slots) fs x)) ++ refit_body
  unfolding refitted moved image
  refit-image =
      ap (λ (x : List ℕ). set_word (mv x) 2 (E - old + new)) (ap (λ (x : List ℕ). remap φ l.slots (x ++ (flat fs ++ Z)) 0) (header-head l fs)
      ∙ head-remap l φ (length fs) E (flat fs ++ Z) l.slots 0 (place A fs) h1 (omega arith) (λ x u v. refl) (λ x u. absurd (omega arith)) (omega arith))
      ∙ ap (λ (x : List ℕ). set_word x 2 (E - old + new)) bytes
      ∙ head-end l (length fs) E (E - old + new) h1 B
    where
      A : ℕ
      A = start l.slots

      at : ℕ
      at = place (start l.slots) fs k

      o : ℕ
      o = place 0 fs k

      old : ℕ
      old = size_of k

      E : ℕ
      E = start l.slots + length (flat fs)

      φ : ℕ → ℕ
      φ = shifted_at at old new

      h1 : ℕ → ℕ
      h1 x = shifted_at (place (start l.slots) fs k) (size_of k) new (place (start l.slots) fs x)

      z : ℕ
      z = n - (start l.slots + length (flat fs))

      Z : List ℕ
      Z = replicate z 0

      H : List ℕ
      H = take o (flat fs)

      D : List ℕ
      D = take old (drop o (flat fs))

      T : List ℕ
      T = drop (o + old) (flat fs)

      t : ℕ
      t = length (drop (place 0 fs k + size_of k) (flat fs))

      B : List ℕ
      B = H ++ (take new (D ++ (T ++ Z)) ++ (T ++ replicate (z + old - new) 0))

      hd : List ℕ
      hd = head l (length fs) E h1

      mv : List ℕ → List ℕ
      mv b = paste (paste b (at + new) (drop (at + old) b) (E - (at + old))) (E - old + new) (replicate (old - new) 0) (old - new)

      in-F : o + old ≤ length (flat fs)
      in-F = omega (arith, place_in 0 fs k s h)

      at-o : place (start l.slots) fs k ≡ place 0 fs k + start l.slots
      at-o = place-from (start l.slots) fs k h

      tl : length (drop (place 0 fs k + size_of k) (flat fs)) ≡ length (flat fs) - (place 0 fs k + size_of k)
      tl = length-drop (place 0 fs k + size_of k) (flat fs)

      hl : length H ≡ o
      hl = length-take-le o (flat fs) (omega (arith, in-F))

      dl : length D ≡ old
      dl = length-take-le old (drop o (flat fs)) (omega (arith, in-F, length-drop o (flat fs)))

      dh : length hd ≡ start l.slots
      dh = head-length l (length fs) E h1

      parts : flat fs ≡ H ++ (D ++ T)
      parts = sym (take-append-drop o (flat fs)) ∙ ap (λ (x : List ℕ). H ++ x)
          (sym (take-append-drop old (drop o (flat fs))) ∙ ap (λ (x : List ℕ). D ++ x) (drop-drop old o (flat fs)))

      whole : flat fs ++ Z ≡ H ++ (D ++ (T ++ Z))
      whole = ap (λ (x : List ℕ). x ++ Z) parts ∙ append_assoc H (D ++ T) Z ∙ ap (λ (x : List ℕ). H ++ x) (append_assoc D T Z)

      body : paste (paste (flat fs ++ Z) (o + new) (T ++ Z) t) (o + (new + t)) (replicate (old - new) 0) (old - new) ≡ B
      body =
          ap (λ (x : List ℕ). paste (paste x (o + new) (T ++ Z) t) (o + (new + t)) (replicate (old - new) 0) (old - new)) whole
          ∙ subst (λ (x : ℕ). paste (paste (H ++ (D ++ (T ++ Z))) (x + new) (T ++ Z) t) (x + (new + t)) (replicate (old - new) 0) (old - new) ≡ B) hl
          (subst (λ (x : ℕ). paste (paste (H ++ (D ++ (T ++ Z))) (length H + new) (T ++ Z) t) (length H + (new + t)) (replicate (x - new) 0)
          (x - new) ≡ H ++ (take new (D ++ (T ++ Z)) ++ (T ++ replicate (z + x - new) 0))) dl
          (body-moved H D T new z (omega (arith, dl, in-F, fit, had))))

      source : drop (at + old) (hd ++ (flat fs ++ Z)) ≡ T ++ Z
      source = ap (λ (i : ℕ). drop i (hd ++ (flat fs ++ Z))) i ∙ drop-append-add hd (flat fs ++ Z) (o + old) ∙ drop-append-le (o + old) (flat fs) Z in-F
        where
          i : at + old ≡ length hd + (o + old)
          i = omega (arith, at-o, dh)

      bytes : paste (paste (hd ++ (flat fs ++ Z)) (at + new) (drop (at + old) (hd ++ (flat fs ++ Z))) (E - (at + old))) (E - old + new)
          (replicate (old - new) 0) (old - new) ≡ hd ++ B
      bytes =
          ap₂ (λ (x : List ℕ) (i : ℕ). paste x i (replicate (old - new) 0) (old - new))
          (ap₂ (λ (i c : ℕ). paste (hd ++ (flat fs ++ Z)) i (drop (at + old) (hd ++ (flat fs ++ Z))) c) i1 c1
          ∙ ap (λ (S : List ℕ). paste (hd ++ (flat fs ++ Z)) (length hd + (o + new)) S t) source
          ∙ paste-right hd (flat fs ++ Z) (o + new) (T ++ Z) t)
          i2
          ∙ paste-right hd (paste (flat fs ++ Z) (o + new) (T ++ Z) t) (o + (new + t)) (replicate (old - new) 0) (old - new)
          ∙ ap (λ (x : List ℕ). hd ++ x) body
        where
          i1 : at + new ≡ length hd + (o + new)
          i1 = omega (arith, at-o, dh)

          c1 : E - (at + old) ≡ t
          c1 = omega (arith, at-o, tl)

          i2 : E - old + new ≡ length hd + (o + (new + t))
          i2 = omega (arith, dh, tl, in-F)

-- the same in the code's terms, edit after edit
pub refitted-is : (m : ℕ) (b x y z : List ℕ) (at old new e : ℕ) → x ≡ remap (shifted_at at old new) m b 0 → y ≡ moved x at old new e
    → e - old + new < 65536 → 4 ≤ length y → z ≡ stored y 2 (e - old + new) → z ≡ refitted m b at old new e
unfolding refitted
refitted-is m b x y z at old new e p q low room r =
    r
    ∙ stored-fits y 2 (e - old + new) low room
    ∙ ap (λ (l : List ℕ). set_word l 2 (e - old + new)) (q ∙ ap (λ (l : List ℕ). moved l at old new e) p)
