-- Where `judge` reads frames in bytes, the bytes are the image of those frames (`judge-image`). On the way: the tests that a sound book has
-- passed (`Reads`), what its frames keep to (`Tiled`), and that the offsets are the frames' places (`offsets`).
-- Assumes nothing.
use mathlib.Core.Path.{ap, ap₂, refl, subst, sym, ◌∙◌, ◌≡◌}
use mathlib.Core.Bool.{Bool, cond, false, false≢true, not, true}
use mathlib.Core.List.{List, [], append_assoc, ◌++◌, ◌∷◌}
use Prim.Native.Nat.{suc, zero, ℕ, ◌%◌, ◌*◌, ◌+◌, ◌-◌, ◌/◌, ◌<◌, ◌≤◌}
use native.Mathlib.Numerals.{add-one}
use native.Mathlib.Omega.{arith}
use borrow.Author.Tests.{eqb-false, eqb-true, leb-true, ltb-true, ne_eqb, not-false}
use lib.Dec.{eqb, leb, ltb}
use lib.ListN.{drop, get_or, length, length-append, length-drop, replicate, take, take-append-drop}
use lib.Seq.{drop-cons, drop-drop}
use Rattle.refusal.specs.declared.Refusal.{Refusal}
use Rattle.refusal.specs.declared.Refusal.TheVariants.{BufferSize, NotWellFormed}
use Rattle.table.specs.Table.{settings}
use Rattle.settings.specs.Settings.{size_of, slot_of}
use Rattle.settings.proofs.Settings.{size_low, size-some, slot_of-length}
use Rattle.contents.specs.Frames.{flat, held, place}
use Rattle.contents.specs.Contents.{Contents, Layout, all_zero, before, frames_from, header, holds, image, judge, length_at, length_by, longest, offset_at}
use Rattle.contents.specs.Contents.{present_from, refused, slot_from, start, word_at, words}
use Rattle.contents.proofs.Headers.{words-cong}
use Rattle.contents.proofs.Shape.{Sound, Within, count_held, count_same, count_from, place-ge, place_none, present-count}

-- ---- inversion

-- what two cases of a type would be, were they one
pub apart : ◌≡◌ {A = ℕ} 0 1 → ⊥
apart e = omega arith

never : (r : Refusal) (fs : List (List ℕ)) → refused r ≡ holds fs → ⊥
never r fs h = apart (cc)

given_holds : (t : Bool) (x : Contents) (r : Refusal) (fs : List (List ℕ)) → cond t x (refused r) ≡ holds fs → (t ≡ true) × (x ≡ holds fs)
given_holds true x r fs h = (refl, h)
given_holds false x r fs h = absurd (never r fs h)

unless_holds : (t : Bool) (x : Contents) (r : Refusal) (fs : List (List ℕ)) → cond t (refused r) x ≡ holds fs → (t ≡ false) × (x ≡ holds fs)
unless_holds false x r fs h = (refl, h)
unless_holds true x r fs h = absurd (never r fs h)

record Rest (f : List ℕ) (r : Contents) (fs : List (List ℕ)) : Type 0 where
  rest : List (List ℕ)
  whole : fs ≡ f ∷ rest
  reads : r ≡ holds rest

before-holds : (f : List ℕ) (r : Contents) (fs : List (List ℕ)) → before f r ≡ holds fs → Rest f r fs
before-holds f (refused n) fs h = absurd (never n fs h)
before-holds f (holds gs) fs h = record { rest = gs; whole = cc; reads = refl }

pub record Reads (l : Layout) (b : List ℕ) (fs : List (List ℕ)) : Type 0 where
  pub small : start l.slots ≤ length b
  pub big : length b ≤ longest
  pub version : get_or b 0 0 ≡ l.version
  pub low : start l.slots ≤ word_at b 2
  pub high : word_at b 2 ≤ length b
  pub count : present_from l.slots b 0 ≡ get_or b 1 0
  pub tail : all_zero (drop (word_at b 2) b) ≡ true
  pub tiled : frames_from l.slots (get_or b 1 0) b (start l.slots) (word_at b 2) ≡ holds fs

pub judge-reads : (l : Layout) (b : List ℕ) (fs : List (List ℕ)) → judge l b ≡ holds fs → Reads l b fs
unfolding judge
judge-reads l b fs h =
    let s1 = given_holds (leb (start l.slots) (length b)) _ BufferSize fs h in
    let s2 = given_holds (leb (length b) longest) _ BufferSize fs s1.1 in
    let s3 = given_holds (eqb (get_or b 0 0) l.version) _ NotWellFormed fs s2.1 in
    let s4 = given_holds (leb (start l.slots) (word_at b 2)) _ NotWellFormed fs s3.1 in
    let s5 = given_holds (leb (word_at b 2) (length b)) _ NotWellFormed fs s4.1 in
    let s6 = given_holds (eqb (present_from l.slots b 0) (get_or b 1 0)) _ NotWellFormed fs s5.1 in
    let s7 = given_holds (all_zero (drop (word_at b 2) b)) _ NotWellFormed fs s6.1 in
    record {
      small = leb-true _ _ s1.0;
      big = leb-true _ _ s2.0;
      version = eqb-true _ _ s3.0;
      low = leb-true _ _ s4.0;
      high = leb-true _ _ s5.0;
      count = eqb-true _ _ s6.0;
      tail = s7.0;
      tiled = s7.1;
    }

record Found (m : ℕ) (k : ℕ) (b : List ℕ) (p e : ℕ) : Type 0 where
  slot : k < settings
  among : k < m
  within : p + (size_of k) ≤ e
  decodes : slot_of (take (size_of k) (drop p b)) ≡ k
  long : length_by m k b p e ≡ size_of k

length_by-found : (m : ℕ) (k : ℕ) (b : List ℕ) (p e : ℕ) → (length_by m k b p e ≡ 0 → ⊥) → Found m k b p e
unfolding length_by
length_by-found m k b p e n = go (ltb k m) (leb (p + (size_of k)) e) (eqb (slot_of (take (size_of k) (drop p b))) k) refl refl refl
  where
    go : (x y z : Bool) → ltb k m ≡ x → leb (p + (size_of k)) e ≡ y → eqb (slot_of (take (size_of k) (drop p b))) k ≡ z → Found m k b p e
    go false y z p1 p2 p3 = absurd (n (rw p1))
    go true false z p1 p2 p3 = absurd (n (rw (p1, p2)))
    go true true false p1 p2 p3 = absurd (n (rw (p1, p2, p3)))
    go true true true p1 p2 p3 =
        record {
          slot = size-some k (λ z. n (rw (p1, p2, p3) z));
          among = ltb-true _ _ p1;
          within = leb-true _ _ p2;
          decodes = eqb-true _ _ p3;
          long = rw
              (p1, p2, p3);
        }

slot_from-at : (l : ℕ) (b : List ℕ) (p k : ℕ) → slot_from l b p k < k + l → offset_at b (slot_from l b p k) ≡ p
unfolding slot_from
slot_from-at zero b p k h = absurd (omega arith)
slot_from-at (suc l) b p k h = go (slot_from-at l b p (k + 1)) (eqb (offset_at b k) p) refl h
  where
    go : (slot_from l b p (k + 1) < k + 1 + l → offset_at b (slot_from l b p (k + 1)) ≡ p) → (t : Bool) → eqb (offset_at b k) p ≡ t
        → cond t k (slot_from l b p (k + 1)) < k + suc l → offset_at b (cond t k (slot_from l b p (k + 1))) ≡ p
    go ih true e q = eqb-true _ _ e
    go ih false e q = ih (omega arith)

-- ---- the frames tile the bytes

-- a reading of c frames, taken apart: none, or a frame and the rest
pub record Split (m : ℕ) (c : ℕ) (b : List ℕ) (p e : ℕ) (fs : List (List ℕ)) : Type 0 where
  pub rest : List (List ℕ)
  pub whole : fs ≡ take (length_at m b p e) (drop p b) ∷ rest
  pub reads : frames_from m c b (p + length_at m b p e) e ≡ holds rest
  pub slot : slot_of (take (length_at m b p e) (drop p b)) < settings
  pub own : slot_of (take (length_at m b p e) (drop p b)) ≡ slot_from m b p 0
  pub long : length (take (length_at m b p e) (drop p b)) ≡ length_at m b p e
  pub sized : length_at m b p e ≡ size_of (slot_from m b p 0)
  pub ends : p + length_at m b p e ≤ e

pub frames_from-split : (m : ℕ) (c : ℕ) (b : List ℕ) (p e : ℕ) (fs : List (List ℕ)) → frames_from m (suc c) b p e ≡ holds fs → Split m c b p e fs
unfolding frames_from length_at
frames_from-split m c b p e fs h =
    let l : ℕ = length_at m b p e in
    let k : ℕ = slot_from m b p 0 in
    let s = unless_holds (eqb l 0) _ NotWellFormed fs h in
    let r = before-holds (take l (drop p b)) (frames_from m c b (p + l) e) fs s.1 in
    let g = length_by-found m k b p e (eqb-false l 0 s.0) in
    let d : slot_of (take l (drop p b)) ≡ k = ap (λ (x : ℕ). slot_of (take x (drop p b))) g.long ∙ g.decodes in
    let small : slot_of (take l (drop p b)) < settings = omega (arith, g.slot) in
    record {
      rest = r.rest;
      whole = r.whole;
      reads = r.reads;
      slot = small;
      own = d;
      long = slot_of-length (take l (drop p b)) small ∙ ap (λ (x : ℕ). size_of x) d ∙ sym g.long;
      sized = g.long;
      ends = omega (arith, g.within, g.long);
    }

pub frames_from-none : (m : ℕ) (b : List ℕ) (p e : ℕ) (fs : List (List ℕ)) → frames_from m 0 b p e ≡ holds fs → [] ≡ fs
unfolding frames_from
frames_from-none m b p e fs h = let s = given_holds (eqb p e) (holds []) NotWellFormed fs h in cc s.1

pub record Tiled (m : ℕ) (b : List ℕ) (p e c : ℕ) (fs : List (List ℕ)) : Type 0 where
  pub many : length fs ≡ c
  pub ends : p + length (flat fs) ≡ e
  pub body : drop p b ≡ flat fs ++ drop e b
  pub sound : Sound fs
  pub within : Within m fs
  pub stand : (j : ℕ) → held j fs ≡ true → offset_at b j ≡ place p fs j

tiled-none : (m : ℕ) (b : List ℕ) (p e : ℕ) → p ≡ e → Tiled m b p e 0 []
unfolding flat held
tiled-none m b p e h =
    record { many = refl; ends = omega arith; body = ap (λ (x : ℕ). drop x b) h; sound = tt; within = tt; stand = λ j q. absurd (false≢true q) }

tiled-more : (m : ℕ) (b : List ℕ) (p e c k l : ℕ) (f : List ℕ) (fs : List (List ℕ)) → take l (drop p b) ≡ f → l ≡ size_of k → k < settings → k < m
    → slot_of f ≡ k → offset_at b k ≡ p
    → Tiled m b (p + l) e c fs → Tiled m b p e (suc c) (f ∷ fs)
unfolding flat held place
tiled-more m b p e c k l f fs hf hl hk hm hs ho t =
    record {
      many = ap suc t.many;
      ends = omega (arith, length-append f (flat fs), len, t.ends);
      body = sym (take-append-drop l (drop p b)) ∙ ap₂ (λ (x y : List ℕ). x ++ y) hf (drop-drop l p b ∙ t.body) ∙ sym (append_assoc f (flat fs) (drop e b));
      sound = (subst (λ (x : ℕ). x < settings) (sym hs) hk, fresh (held (slot_of f) fs) refl, t.sound);
      within = (subst (λ (x : ℕ). x < m) (sym hs) hm, t.within);
      stand = λ j q. at j (eqb (slot_of f) j) refl q;
    }
  where
    len : length f ≡ l
    len = slot_of-length f (omega (arith, hs)) ∙ ap (λ (x : ℕ). size_of x) hs ∙ sym hl

    fresh : (x : Bool) → held (slot_of f) fs ≡ x → x ≡ false
    fresh false q = refl
    fresh true q =
        let w : held k fs ≡ true = subst (λ (x : ℕ). held x fs ≡ true) hs q in
        absurd (omega (arith, size_low k hk, t.stand k w, place-ge (p + l) fs k w))

    at : (j : ℕ) (x : Bool) → eqb (slot_of f) j ≡ x → cond x true (held j fs) ≡ true → offset_at b j ≡ cond x p (place (p + length f) fs j)
    at j true z q = subst (λ (x : ℕ). offset_at b x ≡ p) (sym hs ∙ eqb-true _ _ z) ho
    at j false z q = t.stand j q ∙ ap (λ (x : ℕ). place (p + x) fs j) (sym len)

pub frames_from-tiled : (m : ℕ) (c : ℕ) (b : List ℕ) (p e : ℕ) (fs : List (List ℕ)) → frames_from m c b p e ≡ holds fs → Tiled m b p e c fs
unfolding frames_from length_at
frames_from-tiled m zero b p e fs h =
    let s = given_holds (eqb p e) (holds []) NotWellFormed fs h in
    let q : [] ≡ fs = cc s.1 in
    subst (λ (x : List (List ℕ)). Tiled m b p e 0 x) q (tiled-none m b p e (eqb-true _ _ s.0))
frames_from-tiled m (suc c) b p e fs h =
    let l : ℕ = length_at m b p e in
    let k : ℕ = slot_from m b p 0 in
    let s = unless_holds (eqb l 0) _ NotWellFormed fs h in
    let r = before-holds (take l (drop p b)) (frames_from m c b (p + l) e) fs s.1 in
    let g = length_by-found m k b p e (eqb-false l 0 s.0) in
    subst (λ (x : List (List ℕ)). Tiled m b p e (suc c) x) (sym r.whole)
    (tiled-more m b p e c k l (take l (drop p b)) r.rest refl g.long g.slot g.among
    (ap (λ (x : ℕ). slot_of (take x (drop p b))) g.long ∙ g.decodes) (slot_from-at m b p 0 (omega (arith, g.among)))
    (frames_from-tiled m c b (p + l) e r.rest r.reads))

-- ---- the bytes are the image

abbrev pub Bytes : List ℕ → Type 0
Bytes b = (i : ℕ) → get_or b i 0 < 256

drop-two : (b : List ℕ) (i : ℕ) → i + 1 < length b → drop i b ≡ get_or b i 0 ∷ get_or b (i + 1) 0 ∷ drop (i + 2) b
drop-two b i h = one i (omega arith) ∙ ap (λ (r : List ℕ). get_or b i 0 ∷ r) (one (i + 1) h ∙ ap (λ (x : ℕ). get_or b (i + 1) 0 ∷ drop x b) step)
  where
    one : (j : ℕ) → j < length b → drop j b ≡ get_or b j 0 ∷ drop (j + 1) b
    one j q = rw (add-one, drop-cons b j 0)

    step : i + 1 + 1 ≡ i + 2
    step = omega arith

word_bytes : (b : List ℕ) (i : ℕ) → Bytes b → (get_or b i 0 ≡ word_at b i / 256) × (get_or b (i + 1) 0 ≡ word_at b i % 256)
unfolding word_at
word_bytes b i B = (omega (arith, B (i + 1)), omega (arith, B (i + 1)))

-- two bytes at i are the number there, high byte start
drop-word : (b : List ℕ) (i : ℕ) → Bytes b → i + 1 < length b → drop i b ≡ word_at b i / 256 ∷ word_at b i % 256 ∷ drop (i + 2) b
drop-word b i B h =
    drop-two b i h ∙ ap₂ (λ (x y : ℕ). x ∷ y ∷ drop (i + 2) b) (word_bytes b i B).0 (word_bytes b i B).1

pub words-drop : (l k : ℕ) (b : List ℕ) → Bytes b → 4 + 2 * (k + l) ≤ length b → drop (4 + 2 * k) b ≡ words l k (offset_at b) ++ drop (4 + 2 * (k + l)) b
unfolding words offset_at
words-drop zero k b B h = ap (λ (x : ℕ). drop x b) (e k)
  where
    e : (k : ℕ) → 4 + 2 * k ≡ 4 + 2 * (k + zero)
    e k = omega arith
words-drop (suc l) k b B h =
    drop-word b (4 + 2 * k) B (omega arith)
    ∙ ap (λ (r : List ℕ). offset_at b k / 256 ∷ offset_at b k % 256 ∷ r)
    (ap (λ (x : ℕ). drop x b) (e1 k) ∙ words-drop l (k + 1) b B (omega arith) ∙ ap (λ (x : ℕ). words l (k + 1) (offset_at b) ++ drop x b) (e2 k l))
  where
    e1 : (k : ℕ) → 4 + 2 * k + 2 ≡ 4 + 2 * (k + 1)
    e1 k = omega arith

    e2 : (k l : ℕ) → 4 + 2 * (k + 1 + l) ≡ 4 + 2 * (k + suc l)
    e2 k l = omega arith

pub words-first : (m : ℕ) (b : List ℕ) → Bytes b → start m ≤ length b → drop 4 b ≡ words m 0 (offset_at b) ++ drop (start m) b
words-first m b B h = words-drop m 0 b B (omega arith) ∙ ap (λ (x : ℕ). words m 0 (offset_at b) ++ drop x b) (e m)
  where
    e : (m : ℕ) → 4 + 2 * (0 + m) ≡ 4 + 2 * m
    e m = omega arith

zeros : (l : List ℕ) → all_zero l ≡ true → l ≡ replicate (length l) 0
unfolding all_zero
zeros [] h = refl
zeros (x ∷ xs) h = go (zeros xs) (eqb x 0) refl h
  where
    go : (all_zero xs ≡ true → xs ≡ replicate (length xs) 0) → (t : Bool) → eqb x 0 ≡ t → cond t (all_zero xs) false ≡ true → x ∷ xs ≡ 0 ∷ replicate (length xs) 0
    go ih true e q = ap₂ (λ (a : ℕ) (r : List ℕ). a ∷ r) (eqb-true _ _ e) (ih q)
    go ih false e q = absurd (false≢true q)

-- the offsets kept are those of the frames
pub offsets : (l : Layout) (b : List ℕ) (fs : List (List ℕ)) → Reads l b fs → (j : ℕ) → j < l.slots → offset_at b j ≡ place (start l.slots) fs j
offsets l b fs R j h = go (held j fs) refl
  where
    t : Tiled l.slots b (start l.slots) (word_at b 2) (get_or b 1 0) fs
    t = frames_from-tiled l.slots (get_or b 1 0) b (start l.slots) (word_at b 2) fs R.tiled

    kept : (i : ℕ) → held i fs ≡ true → not (eqb (offset_at b i) 0) ≡ true
    kept i q = ap not (ne_eqb (offset_at b i) 0 (λ z. absurd (omega (arith, t.stand i q, place-ge (start l.slots) fs i q))))

    same : count_from l.slots (λ i. held i fs) 0 ≡ count_from l.slots (λ i. not (eqb (offset_at b i) 0)) 0
    same = count_held l.slots fs t.sound t.within ∙ t.many ∙ sym R.count ∙ present-count l.slots 0 b

    go : (x : Bool) → held j fs ≡ x → offset_at b j ≡ place (start l.slots) fs j
    go true q = t.stand j q
    go false q =
        eqb-true _ _ (not-false _ (count_same l.slots 0 (λ i. held i fs) (λ i. not (eqb (offset_at b i) 0)) kept same j (omega arith) (omega arith) q))
        ∙ sym (place_none (start l.slots) fs j q)

pub reads-image : (l : Layout) (b : List ℕ) (fs : List (List ℕ)) → Bytes b → Reads l b fs → b ≡ image l (length b) fs
unfolding image header
reads-image l b fs B R =
    drop-two b 0 (omega (arith, R.small))
    ∙ ap₂ (λ (x : ℕ) (r : List ℕ). x ∷ r) R.version
    (ap₂ (λ (x : ℕ) (r : List ℕ). x ∷ r) (sym t.many)
    (drop-word b 2 B (omega (arith, R.small))
    ∙ ap₂ (λ (x : ℕ) (r : List ℕ). x / 256 ∷ x % 256 ∷ r) (sym t.ends)
    (words-first l.slots b B R.small
    ∙ ap₂ (λ (r s : List ℕ). r ++ s) (words-cong l.slots 0 (offset_at b) (place (start l.slots) fs) (λ j x y. offsets l b fs R j (omega arith)))
    (t.body ∙ ap (λ (r : List ℕ). flat fs ++ r) (zeros (drop (word_at b 2) b) R.tail
    ∙ ap (λ (n : ℕ). replicate n 0) (length-drop (word_at b 2) b ∙ ap (λ (n : ℕ). length b - n) (sym t.ends)))))))
  where
    t : Tiled l.slots b (start l.slots) (word_at b 2) (get_or b 1 0) fs
    t = frames_from-tiled l.slots (get_or b 1 0) b (start l.slots) (word_at b 2) fs R.tiled

-- whatever `judge` accepts is the image of its list
pub judge-image : (l : Layout) (b : List ℕ) (fs : List (List ℕ)) → Bytes b → judge l b ≡ holds fs → b ≡ image l (length b) fs
judge-image l b fs B h = reads-image l b fs B (judge-reads l b fs h)
