-- What is left where a filling is done, and where it is not: the empty book (`blanked-image`, `blanked-left`), a frame behind the others
-- (`append-image`, `appended_left`, `appended-none`), and the frames of a list, of which a blank book then is the image (`fill-image`, `fill-reel`); a
-- buffer that no such book fits is left as it was (`fill-left`).
-- Assumes nothing.
use mathlib.Core.Path.{ap, ap₂, refl, subst, sym, ◌∙◌, ◌≡◌}
use mathlib.Core.Bool.{Bool, false, false≢true, true, ◌&&◌}
use mathlib.Core.List.{List, [], append_assoc, append-nil, ◌++◌, ◌∷◌}
use Prim.Native.Nat.{ℕ, ◌*◌, ◌+◌, ◌-◌, ◌<◌, ◌≤◌}
use native.Mathlib.Omega.{arith}
use borrow.Author.Tests.{le-leb, le-ltb, leb-true, lt-leb, lt-ltb, ltb-true}
use lib.Dec.{leb, ltb}
use lib.ListN.{drop, get_or, length, length-append, length-set, set, take}
use lib.Seq.{length-paste, paste}
use Rattle.spans.specs.Spans.{set_word, stored, written}
use Rattle.spans.proofs.Spans.{stored-fits, written-fits}
use Rattle.table.specs.Table.{settings}
use Rattle.settings.specs.Settings.{slot_of}
use Rattle.contents.specs.Frames.{flat, held}
use Rattle.contents.specs.Contents.{Layout, image, longest, room_of, start, word_at}
use Rattle.contents.proofs.Shape.{Sound, Within}
use Rattle.contents.proofs.Written.{image-count, image-end, image-length}
use Rattle.reel.specs.declared.Cursor.{Cursor}
use Rattle.reel.specs.Reel.{Unreeled, reel_of, unreel}
use Rattle.reel.proofs.Reels.{reel-whole}
use Rattle.reel.proofs.Found.{Whole}
use Rattle.filling.specs.Filling.{appended, appended_all, appended_to, blanked, filled_by, has_room, most_counted, sized_for}
use Rattle.filling.proofs.Pieces.{length-set_word}
use Rattle.contents.proofs.Lists.{flat-split, sound-middle, within-middle}
use Rattle.filling.proofs.Images.{app-image}

either : (t : Bool) → t && false ≡ false
either true = refl
either false = refl

sole : (t : Bool) → t ≡ t && true
sole true = refl
sole false = refl

-- ---- sizes

module _ (m n : ℕ) where
  pub sized-means : sized_for m n ≡ true → (start m ≤ n) × (n ≤ longest)
  unfolding sized_for
  sized-means e = by (leb (start m) n) refl (leb n longest) refl e
    where
      by : (x : Bool) → leb (start m) n ≡ x → (y : Bool) → leb n longest ≡ y → x && y ≡ true → (start m ≤ n) × (n ≤ longest)
      by true p true q z = (leb-true _ _ p, leb-true _ _ q)
      by true p false q z = absurd (false≢true z)
      by false p y q z = absurd (false≢true z)

  pub sized-fits : start m ≤ n → n ≤ longest → sized_for m n ≡ true
  unfolding sized_for
  sized-fits a b = rw (le-leb _ _ a, le-leb _ _ b)

  pub sized-long : longest < n → sized_for m n ≡ false
  unfolding sized_for
  sized-long a = rw (lt-leb n longest a) (either (leb (start m) n))

  pub sized-short : n < start m → sized_for m n ≡ false
  unfolding sized_for
  sized-short a = rw (lt-leb _ _ a)

  pub sized-rest : n ≤ longest → leb (start m) n ≡ sized_for m n
  unfolding sized_for
  sized-rest a = rw (le-leb n longest a) (sole (leb (start m) n))

-- ---- the empty book

module _ (l : Layout) (b : List ℕ) where
  pub blanked-fits : sized_for l.slots (length b) ≡ true → blanked l b ≡ image l (length b) []
  unfolding blanked
  blanked-fits e = rw e

  pub blanked-image : start l.slots ≤ length b → length b ≤ longest → blanked l b ≡ image l (length b) []
  blanked-image small big = blanked-fits (sized-fits l.slots (length b) small big)

  pub blanked-left : sized_for l.slots (length b) ≡ false → blanked l b ≡ b
  unfolding blanked
  blanked-left e = rw e

-- ---- a frame behind the others

-- what it is to have room, in numbers
pub record Room (m s n : ℕ) (b : List ℕ) : Type 0 where
  pub setting : s < settings
  pub among : s < m
  pub small : start m ≤ length b
  pub big : length b ≤ longest
  pub low : start m ≤ word_at b 2
  pub high : word_at b 2 + n ≤ length b
  pub few : get_or b 1 0 < most_counted

module _ (m s n : ℕ) (b : List ℕ) where
  pub has_room_lem : has_room m s n b ≡ true → Room m s n b
  unfolding has_room
  has_room_lem e =
      by (ltb s settings) refl (ltb s m) refl (sized_for m (length b)) refl (leb (start m) (word_at b 2)) refl (leb (word_at b 2 + n) (length b)) refl
      (ltb (get_or b 1 0) most_counted) refl e
    where
      by : (w : Bool) → ltb s settings ≡ w → (x : Bool) → ltb s m ≡ x → (y : Bool) → sized_for m (length b) ≡ y → (z : Bool)
          → leb (start m) (word_at b 2) ≡ z → (u : Bool) → leb (word_at b 2 + n) (length b) ≡ u → (v : Bool) → ltb (get_or b 1 0) most_counted ≡ v
          → w && (x && (y && (z && (u && v)))) ≡ true → Room m s n b
      by false o x p y q z r u g v h e = absurd (false≢true e)
      by true o false p y q z r u g v h e = absurd (false≢true e)
      by true o true p false q z r u g v h e = absurd (false≢true e)
      by true o true p true q false r u g v h e = absurd (false≢true e)
      by true o true p true q true r false g v h e = absurd (false≢true e)
      by true o true p true q true r true g false h e = absurd (false≢true e)
      by true o true p true q true r true g true h e =
          let size = sized-means m (length b) q in
          record {
            setting = ltb-true _ _ o;
            among = ltb-true _ _ p;
            small = size.0;
            big = size.1;
            low = leb-true _ _ r;
            high = leb-true _ _ g;
            few = ltb-true _ _ h;
          }

  pub room-has : Room m s n b → has_room m s n b ≡ true
  unfolding has_room
  room-has R =
      rw (
        lt-ltb _ _ R.setting,
        lt-ltb _ _ R.among,
        sized-fits m (length b) R.small R.big,
        le-leb _ _ R.low,
        le-leb _ _ R.high,
        lt-ltb _ _ R.few,
      )

module _ (m s : ℕ) (f b : List ℕ) where
  pub appended-fits : Room m s (length f) b → appended_to m s f b ≡ appended b f s (word_at b 2)
  unfolding appended_to
  appended-fits R = rw (room-has m s (length f) b R)

  pub appended_left : has_room m s (length f) b ≡ false → appended_to m s f b ≡ b
  unfolding appended_to
  appended_left e = rw e

  -- the same in the code's terms, store after store
  pub append-made : Room m s (length f) b → (e c : ℕ) → e ≡ word_at b 2 → c ≡ get_or b 1 0 → (x y z : List ℕ) → x ≡ written b e f
      → y ≡ stored (set x 1 (c + 1)) 2 (e + length f) → z ≡ stored y (4 + 2 * s) e → z ≡ appended_to m s f b
  unfolding appended
  append-made R e c end count x y z p q r =
      r
      ∙ stored-fits y (4 + 2 * s) e (omega (arith, end, R.high, R.big)) (omega (arith, long, R.among, R.small))
      ∙ ap (λ (l : List ℕ). set_word l (4 + 2 * s) e) second
      ∙ rw (end, count) (sym (appended-fits R))
    where
      first : x ≡ paste b e f (length f)
      first = p ∙ written-fits b e f (omega (arith, end, R.high))

      front : length (set (paste b e f (length f)) 1 (c + 1)) ≡ length b
      front = length-set (paste b e f (length f)) 1 (c + 1) ∙ length-paste b e f (length f) (omega (arith, end, R.high)) (omega arith)

      second : y ≡ set_word (set (paste b e f (length f)) 1 (c + 1)) 2 (e + length f)
      second =
          q
          ∙ ap (λ (l : List ℕ). stored (set l 1 (c + 1)) 2 (e + length f)) first
          ∙ stored-fits (set (paste b e f (length f)) 1 (c + 1)) 2 (e + length f) (omega (arith, end, R.high, R.big)) (omega (arith, front, R.small))

      long : length y ≡ length b
      long = ap length second ∙ length-set_word (set (paste b e f (length f)) 1 (c + 1)) 2 (e + length f) ∙ front

-- test after test
module _ (m s n : ℕ) (b : List ℕ) where
  pub room-none : settings ≤ s → false ≡ has_room m s n b
  unfolding has_room
  room-none a = rw (le-ltb _ _ a)

  module _ (own : s < settings) where
    pub room-slot : m ≤ s → false ≡ has_room m s n b
    unfolding has_room
    room-slot a = rw (lt-ltb _ _ own, le-ltb _ _ a)

    module _ (a : s < m) where
      pub room-size : sized_for m (length b) ≡ false → false ≡ has_room m s n b
      unfolding has_room
      room-size e = rw (lt-ltb _ _ own, lt-ltb _ _ a, e)

      module _ (e : sized_for m (length b) ≡ true) where
        pub room-low : word_at b 2 < start m → false ≡ has_room m s n b
        unfolding has_room
        room-low h = rw (lt-ltb _ _ own, lt-ltb _ _ a, e, lt-leb _ _ h)

        module _ (h : start m ≤ word_at b 2) where
          pub room-high : length b < word_at b 2 + n → false ≡ has_room m s n b
          unfolding has_room
          room-high k = rw (lt-ltb _ _ own, lt-ltb _ _ a, e, le-leb _ _ h, lt-leb _ _ k)

          pub room-count : word_at b 2 + n ≤ length b → ltb (get_or b 1 0) most_counted ≡ has_room m s n b
          unfolding has_room
          room-count k = rw (lt-ltb _ _ own, lt-ltb _ _ a, e, le-leb _ _ h, le-leb _ _ k)

-- nor has a buffer that is none of such a header
unsized : (m s n : ℕ) (b : List ℕ) → sized_for m (length b) ≡ false → has_room m s n b ≡ false
unfolding has_room
unsized m s n b e = rw e (by (ltb s settings) (ltb s m))
  where
    by : (x y : Bool) → x && (y && false) ≡ false
    by false y = refl
    by true false = refl
    by true true = refl

-- what is no setting's slot is left out
pub appended-none : (m s : ℕ) (f b : List ℕ) → settings ≤ s → appended_to m s f b ≡ b
appended-none m s f b a = appended_left m s f b (sym (room-none m s (length f) b a))

-- behind the frames of a list that has none of its slot: the book of the list with the frame at its end
pub append-image : (l : Layout) (n : ℕ) (f : List ℕ) (fs : List (List ℕ)) → n ≤ longest → slot_of f < settings → held (slot_of f) fs ≡ false
    → slot_of f < l.slots → length fs + 1 < 256 → start l.slots + length (flat fs) + length f ≤ n
    → appended_to l.slots (slot_of f) f (image l n fs) ≡ image l n (fs ++ (f ∷ []))
unfolding appended
append-image l n f fs big own new among few room =
    let long : length (image l n fs) ≡ n = image-length l n fs (omega arith) in
    appended-fits l.slots (slot_of f) f (image l n fs)
    (record {
      setting = own;
      among = among;
      small = omega (arith, long);
      big = omega (arith, long);
      low = omega (arith, image-end l n fs);
      high = omega (arith, image-end l n fs, long);
      few = omega (arith, image-count l n fs);
    })
    ∙ rw (image-end l n fs, image-count l n fs) (app-image l n f fs new among room)

-- ---- the frames of a list

module _ (l : Layout) where
  -- each behind the one before, while none comes twice
  all-image : (n : ℕ) → n ≤ longest → (xs ys : List (List ℕ)) → Sound (xs ++ ys) → Within l.slots (xs ++ ys) → length (xs ++ ys) < 256
      → start l.slots + length (flat (xs ++ ys)) ≤ n → appended_all l.slots ys (image l n xs) ≡ image l n (xs ++ ys)
  unfolding appended_all flat
  all-image n big xs [] s w few room = ap (image l n) (sym (append-nil xs))
  all-image n big xs (f ∷ ys) s w few room =
      let same : (xs ++ (f ∷ [])) ++ ys ≡ xs ++ (f ∷ ys) = append_assoc xs (f ∷ []) ys in
      let size = ap length (flat-split xs (f ∷ ys)) ∙ length-append (flat xs) (f ++ flat ys) in
      ap (appended_all l.slots ys) (append-image l n f xs big (sound-middle xs f ys s).0 (sound-middle xs f ys s).1 (within-middle l.slots xs f ys w)
      (omega (arith, length-append xs (f ∷ ys))) (omega (arith, size, length-append f (flat ys))))
      ∙ all-image n big (xs ++ (f ∷ [])) ys (subst Sound (sym same) s) (subst (Within l.slots) (sym same) w)
      (subst (λ (gs : List (List ℕ)). length gs < 256) (sym same) few)
      (subst (λ (gs : List (List ℕ)). start l.slots + length (flat gs) ≤ n) (sym same) room)
      ∙ ap (image l n) same

  module _ (b : List ℕ) where
    -- A BLANK BOOK FILLED WITH A LIST IS THE LIST'S IMAGE, whatever the bytes were: each frame a setting's with a slot there, none twice, and room for all
    pub fill-image : start l.slots ≤ length b → length b ≤ longest → (fs : List (List ℕ)) → Sound fs → Within l.slots fs → length fs < 256
        → length (flat fs) ≤ room_of l (length b) → filled_by l fs b ≡ image l (length b) fs
    unfolding filled_by
    fill-image small big fs s w few room =
        ap (appended_all l.slots fs) (blanked-image l b small big)
        ∙ all-image (length b) big [] fs s w few (omega arith)

    -- the same of the reel that the list makes
    pub fill-reel : start l.slots ≤ length b → length b ≤ longest → (fs : List (List ℕ)) → Sound fs → Within l.slots fs → length fs < 256
        → length (flat fs) ≤ room_of l (length b) → filled_by l (unreel (reel_of fs)).frames b ≡ image l (length b) fs
    fill-reel small big fs s w few room =
        ap (λ (u : Unreeled). filled_by l u.frames b) (reel-whole fs) ∙ fill-image small big fs s w few room

    -- what is no buffer of such a book is left as it was
    all_left : sized_for l.slots (length b) ≡ false → (fs : List (List ℕ)) → appended_all l.slots fs b ≡ b
    unfolding appended_all
    all_left e [] = refl
    all_left e (f ∷ fs) =
        ap (appended_all l.slots fs) (appended_left l.slots (slot_of f) f b (unsized l.slots (slot_of f) (length f) b e)) ∙ all_left e fs

    pub fill-left : (fs : List (List ℕ)) → sized_for l.slots (length b) ≡ false → filled_by l fs b ≡ b
    unfolding filled_by
    fill-left fs e = ap (appended_all l.slots fs) (blanked-left l b e) ∙ all_left e fs

-- ---- along a reel

-- what is left of a reel from a place on makes of the bytes there what all of it makes of those at the start
pub record Along (m : ℕ) (reel b₀ b : List ℕ) (at : ℕ) : Type 0 where
  pub within : at ≤ length reel
  pub same : appended_all m (unreel reel).frames b₀ ≡ appended_all m (unreel (drop at reel)).frames b

pub along-start : (m : ℕ) (reel b : List ℕ) → Along m reel b b 0
along-start m reel b = record { within = omega arith; same = refl }

module _ (m : ℕ) (reel b₀ b : List ℕ) (at : ℕ) (A : Along m reel b₀ b at) where
  -- a step's frame goes behind the others
  pub along-on : (start end : ℕ) (next : Cursor) → Whole reel at start end next → (s : ℕ) → s ≡ slot_of (take (end - start) (drop start reel))
      → (y : List ℕ) → y ≡ appended_to m s (take (end - start) (drop start reel)) b → Along m reel b₀ y next.at
  unfolding appended_all
  along-on start end next W s own y e =
      let f : List ℕ = take (end - start) (drop start reel) in
      record {
        within = omega (arith, W.onward, W.inside);
        same = A.same
            ∙ ap (λ (u : Unreeled). appended_all m u.frames b) W.made
            ∙ ap₂ (λ (k : ℕ) (x : List ℕ). appended_all m (unreel (drop k reel)).frames x) (sym W.onward)
            (ap (λ (k : ℕ). appended_to m k f b) (sym own) ∙ sym e);
      }

  -- where no frame is left, all are in
  module _ (l : Layout) (x : List ℕ) (n : m ≡ l.slots) (e : b₀ ≡ blanked l x) where
    pub along-none : (r : List ℕ) → unreel (drop at reel) ≡ record { frames = []; rest = r } → b ≡ filled_by l (unreel reel).frames x
    unfolding filled_by appended_all
    along-none r z =
        sym (A.same ∙ ap (λ (u : Unreeled). appended_all m u.frames b) z)
        ∙ ap₂ (λ (k : ℕ) (y : List ℕ). appended_all k (unreel reel).frames y) n e
