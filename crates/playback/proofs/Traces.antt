-- The records of whole traces, and the runs that they give.
--     headed-true, true-headed          a header is one exactly if its four bytes are there and the first offset is at least 4
--     traced-prefix, run-prefix         a smaller count in the header gives the records, and the state, of that prefix
--     traced-cut, run-cut               and so do the bytes cut there, with a fault where records are missing
--     traced-behind, traced-between     what stands behind the last record, or before the first, is never looked at
--     traced-bytes                      a trace that was written is read back
--     stopped-at, traced-whole          a fault is where no whole record stands; without one all records are there that the header counts
--     run-stopped                       the state at a fault is that of the records before it
--     run-headless                      a fault of the header leaves a fresh state
-- Assumes nothing.
use mathlib.Core.Path.{◌≡◌, refl, sym, ap, ap₂, subst, ◌∙◌}
use mathlib.Core.Bool.{Bool, true, false, cond, false≢true}
use mathlib.Core.List.{List, [], ◌∷◌, ◌++◌, append_assoc, append-nil}
use mathlib.Core.Option.{Option, none, some, some-ne-none}
use Prim.Native.Nat.{ℕ, zero, suc, ◌+◌, ◌-◌, ◌*◌, ◌≤◌, ◌<◌}
use native.Mathlib.Omega.{arith}
use lib.Dec.{leb, ltb}
use lib.ListN.{length, take, drop, length-append, length-drop, length-take, take-append-drop, get_or-append, drop_of_length-le}
use lib.Seq.{drop-drop, drop-append-le, drop-append_seam, get_or-drop, get_or-take, take-length, take-append_seam, take-nil, length-take-le}
use borrow.Author.Tests.{le-leb, lt-leb, leb-true, leb-false, ltb-true, ltb-false}
use Rattle.contents.specs.Contents.{word_at}
use Rattle.day.specs.Steps.{Record, State, day_on, morning}
use Rattle.playback.specs.Trace.{bytes_of, bytes_of_all, fits, Found, stopped_at, records_from, headed, traced, count_in, first_in, recounted, end_of}
use Rattle.playback.specs.Plays.{Run, run_on, run_in}
use Rattle.playback.proofs.Found.{ahead_all, records-bytes, records-hold, records-take, records-free, records-most, records-behind}

abbrev pub found : List Record → Option ℕ → Found
found rs x = record { records = rs; stop = x }

abbrev pub ran : State → Option ℕ → Run
ran s x = record { state = s; stop = x }

-- ---- the header

pub record Headed (t : List ℕ) : Type 0 where
  pub long : 4 ≤ length t
  pub behind : 4 ≤ first_in t

pub headed-true : (t : List ℕ) → headed t ≡ true → Headed t
unfolding headed
headed-true t h = go (leb 4 (length t)) refl (leb 4 (first_in t)) refl h
  where
    go : (x : Bool) → leb 4 (length t) ≡ x → (y : Bool) → leb 4 (first_in t) ≡ y → cond x y false ≡ true → Headed t
    go true p true q e = record { long = leb-true _ _ p; behind = leb-true _ _ q }
    go true p false q e = absurd (false≢true e)
    go false p y q e = absurd (false≢true e)

pub true-headed : (t : List ℕ) → Headed t → headed t ≡ true
unfolding headed
true-headed t h = rw (le-leb 4 (length t) h.long, le-leb 4 (first_in t) h.behind)

module _ (t : List ℕ) where
  pub traced-headed : 4 ≤ length t → 4 ≤ first_in t → traced t ≡ records_from (count_in t) (first_in t) (drop (first_in t) t)
  unfolding traced
  traced-headed h k = rw (true-headed t (record { long = h; behind = k })) refl

  pub traced-short : length t < 4 → traced t ≡ stopped_at 0
  unfolding traced headed
  traced-short h = rw (lt-leb 4 (length t) h) refl

  pub traced-low : 4 ≤ length t → first_in t < 4 → traced t ≡ stopped_at 0
  unfolding traced headed
  traced-low h k = rw (le-leb 4 (length t) h, lt-leb 4 (first_in t) k) refl

  pub run-headless : (room : ℕ) → headed t ≡ false → run_in room t ≡ ran morning (some 0)
  unfolding run_in traced day_on
  run-headless room h = rw h refl

-- the two words of a header, whatever follows it
module _ (p q : List ℕ) (h : 4 ≤ length p) where
  pub count-append : count_in (p ++ q) ≡ count_in p
  unfolding word_at
  count-append =
      ap₂ (λ (x y : ℕ). x * 256 + y) (get_or-append p q 0 0 (omega (arith, h))) (get_or-append p q 0 (0 + 1) (omega (arith, h)))

  pub first-append : first_in (p ++ q) ≡ first_in p
  unfolding word_at
  first-append =
      ap₂ (λ (x y : ℕ). x * 256 + y) (get_or-append p q 0 2 (omega (arith, h))) (get_or-append p q 0 (2 + 1) (omega (arith, h)))

-- ---- a smaller count

module _ (m : ℕ) (t : List ℕ) where
  recount-count : count_in (recounted m t) ≡ m
  unfolding word_at recounted
  recount-count = omega arith

  recount-first : first_in (recounted m t) ≡ first_in t
  unfolding word_at recounted
  recount-first = ap₂ (λ (x y : ℕ). x * 256 + y) (get_or-drop 2 t 0 0) (get_or-drop 2 t 1 0)

  recount-length : 2 ≤ length t → length (recounted m t) ≡ length t
  unfolding recounted
  recount-length h = omega (arith, h, length-drop 2 t)

  recount-drop : (k : ℕ) → 2 ≤ k → drop k (recounted m t) ≡ drop k t
  unfolding recounted
  recount-drop k h =
      let e : k ≡ 2 + (k - 2) = omega (arith, h) in
      ap (λ (n : ℕ). drop n (recounted m t)) e ∙ sym (drop-drop (k - 2) 2 (recounted m t)) ∙ drop-drop (k - 2) 2 t ∙ ap (λ (n : ℕ). drop n t) (sym e)

module _ (t : List ℕ) (h : headed t ≡ true) where
  z : Headed t
  z = headed-true t h

  pub traced-all : traced t ≡ records_from (count_in t) (first_in t) (drop (first_in t) t)
  traced-all = traced-headed t z.long z.behind

  pub traced-most : length (traced t).records ≤ count_in t
  traced-most = subst (λ (f : Found). length f.records ≤ count_in t) (sym traced-all) (records-most (count_in t) (first_in t) (drop (first_in t) t))

  traced-recounted : (m : ℕ) → traced (recounted m t) ≡ records_from m (first_in t) (drop (first_in t) t)
  traced-recounted m =
      let l : 2 ≤ length t = omega (arith, z.long) in
      let i : first_in (recounted m t) ≡ first_in t = recount-first m t in
      traced-headed (recounted m t) (subst (λ (n : ℕ). 4 ≤ n) (sym (recount-length m t l)) z.long) (subst (λ (n : ℕ). 4 ≤ n) (sym i) z.behind)
      ∙ ap₂ (λ (a b : ℕ). records_from a b (drop b (recounted m t))) (recount-count m t) i
      ∙ ap (records_from m (first_in t)) (recount-drop m t (first_in t) (omega (arith, z.behind)))

  pub traced-prefix : (m : ℕ) → m ≤ length (traced t).records → traced (recounted m t) ≡ found (take m (traced t).records) none
  traced-prefix m k =
      let s : List ℕ = drop (first_in t) t in
      let l : m ≤ length (records_from (count_in t) (first_in t) s).records = subst (λ (f : Found). m ≤ length f.records) traced-all k in
      let n : m ≤ count_in t = omega (arith, k, traced-most) in
      traced-recounted m
      ∙ ap₂ found (records-take m (count_in t) (first_in t) s n) (records-free m (count_in t) (first_in t) s l)
      ∙ ap (λ (f : Found). found (take m f.records) none) (sym traced-all)

  pub run-prefix : (room m : ℕ) → m ≤ length (traced t).records
      → run_in room (recounted m t) ≡ ran (day_on room (take m (traced t).records) morning) none
  unfolding run_in
  run-prefix room m k = ap (λ (f : Found). run_on room f morning) (traced-prefix m k)

  -- ---- refusal 15

  pub stopped-at : (p : ℕ) → (traced t).stop ≡ some p
      → (p ≡ first_in t + length (bytes_of_all (traced t).records)) × (fits (drop p t) ≡ false) × (length (traced t).records < count_in t)
  stopped-at p e =
      let s : List ℕ = drop (first_in t) t in
      let f : Found = records_from (count_in t) (first_in t) s in
      let g : f.stop ≡ some p = subst (λ (x : Found). x.stop ≡ some p) traced-all e in
      let y : (p ≡ first_in t + length (bytes_of_all f.records)) × (fits (drop (length (bytes_of_all f.records)) s) ≡ false) × (length f.records < count_in t)
      = (records-hold (count_in t) (first_in t) s).fault p g in
      let w : drop p t ≡ drop (length (bytes_of_all f.records)) s = ap (λ (n : ℕ). drop n t) y.0 ∙ sym (drop-drop (length (bytes_of_all f.records)) (first_in t) t) in (
        subst (λ (x : Found). p ≡ first_in t + length (bytes_of_all x.records)) (sym traced-all) y.0,
        ap fits w ∙ y.1,
        subst (λ (x : Found). length x.records < count_in t) (sym traced-all) y.2,
      )

  -- a trace without a fault has as many records as its header counts, and their bytes stand from the first offset on
  pub traced-whole : (traced t).stop ≡ none
      → (length (traced t).records ≡ count_in t)
      × (bytes_of_all (traced t).records ++ drop (length (bytes_of_all (traced t).records)) (drop (first_in t) t) ≡ drop (first_in t) t)
  traced-whole e =
      let s : List ℕ = drop (first_in t) t in
      let y = records-hold (count_in t) (first_in t) s in
      subst (λ (f : Found). (length f.records ≡ count_in t) × (bytes_of_all f.records ++ drop (length (bytes_of_all f.records)) s ≡ s)) (sym traced-all)
      (y.all (subst (λ (f : Found). f.stop ≡ none) traced-all e), y.again)

  -- the state of the records before the fault: what the same trace gives with their number in its header
  pub run-stopped : (room : ℕ) → run_in room (recounted (length (traced t).records) t) ≡ ran (run_in room t).state none
  unfolding run_in
  run-stopped room =
      run-prefix room (length (traced t).records) (omega arith)
      ∙ ap (λ (l : List Record). ran (day_on room l morning) none) (take-length (traced t).records)

-- ---- what stands behind the last record

-- nothing is found in no bytes
records-empty : (n at : ℕ) → records_from (suc n) at [] ≡ stopped_at at
unfolding records_from fits
records-empty n at = refl

records-past : (n f : ℕ) (t x : List ℕ) → (records_from n f (drop f t)).stop ≡ none → records_from n f (drop f (t ++ x)) ≡ records_from n f (drop f t)
unfolding records_from
records-past zero f t x k = refl
records-past (suc n) f t x k = by (leb f (length t)) refl
  where
    by : (y : Bool) → leb f (length t) ≡ y → records_from (suc n) f (drop f (t ++ x)) ≡ records_from (suc n) f (drop f t)
    by true w = ap (records_from (suc n) f) (drop-append-le f t x (leb-true f (length t) w)) ∙ records-behind (suc n) f (drop f t) x k
    by false w =
        let l : length t < f = leb-false f (length t) w in
        let g : records_from (suc n) f (drop f t) ≡ stopped_at f = ap (records_from (suc n) f) (drop_of_length-le t {i = f} (omega (arith, l))) ∙ records-empty n f in
        absurd (some-ne-none f (ap (λ (y : Found). y.stop) (sym g) ∙ k))

headless : (t : List ℕ) → headed t ≡ false → traced t ≡ stopped_at 0
unfolding traced
headless t h = rw h refl

pub traced-behind : (t x : List ℕ) → (traced t).stop ≡ none → traced (t ++ x) ≡ traced t
traced-behind t x e = go (headed t) refl
  where
    go : (y : Bool) → headed t ≡ y → traced (t ++ x) ≡ traced t
    go true w =
        let z : Headed t = headed-true t w in
        let l : 4 ≤ length (t ++ x) = omega (arith, z.long, length-append t x) in
        let i : first_in (t ++ x) ≡ first_in t = first-append t x z.long in
        traced-headed (t ++ x) l (subst (λ (n : ℕ). 4 ≤ n) (sym i) z.behind)
        ∙ ap₂ (λ (a b : ℕ). records_from a b (drop b (t ++ x))) (count-append t x z.long) i
        ∙ records-past (count_in t) (first_in t) t x (ap (λ (f : Found). f.stop) (sym (traced-all t w)) ∙ e)
        ∙ sym (traced-all t w)
    go false w = absurd (some-ne-none 0 (ap (λ (f : Found). f.stop) (sym (headless t w)) ∙ e))

-- ---- what stands before the first

word-take : (e i : ℕ) (t : List ℕ) → i + 2 ≤ e → word_at (take e t) i ≡ word_at t i
unfolding word_at
word-take e i t h = ap₂ (λ (a b : ℕ). a * 256 + b) (get_or-take e t i 0 (omega (arith, h))) (get_or-take e t (i + 1) 0 (omega (arith, h)))

-- a header, a gap that the header allows for, and what is behind it
module _ (h g s : List ℕ) (l : length h ≡ 4) (f : first_in h ≡ 4 + length g) where
  traced-gap : traced (h ++ (g ++ s)) ≡ records_from (count_in h) (4 + length g) s
  traced-gap =
      let k : 4 ≤ length h = omega (arith, l) in
      let i : first_in (h ++ (g ++ s)) ≡ 4 + length g = first-append h (g ++ s) k ∙ f in
      let b : 4 + length g ≡ length (h ++ g) = omega (arith, l, length-append h g) in
      let d : drop (4 + length g) (h ++ (g ++ s)) ≡ s
      = ap₂ drop b (sym (append_assoc h g s)) ∙ drop-append_seam (h ++ g) s in
      traced-headed (h ++ (g ++ s)) (omega (arith, l, length-append h (g ++ s))) (subst (λ (n : ℕ). 4 ≤ n) (sym i) (omega arith))
      ∙ ap₂ (λ (a n : ℕ). records_from a n (drop n (h ++ (g ++ s)))) (count-append h (g ++ s) k) i
      ∙ ap (records_from (count_in h) (4 + length g)) d

-- two traces with the same header and the same bytes from the first record on
pub traced-between : (t u : List ℕ) → 4 ≤ length t → 4 ≤ length u → take 4 t ≡ take 4 u → drop (first_in t) t ≡ drop (first_in t) u
    → traced t ≡ traced u
unfolding traced headed
traced-between t u l m e f =
    let word : (i : ℕ) → i + 2 ≤ 4 → word_at t i ≡ word_at u i =
    λ i h. sym (word-take 4 i t h) ∙ ap (λ (x : List ℕ). word_at x i) e ∙ word-take 4 i u h
    in
    let c : count_in t ≡ count_in u = word 0 (omega arith) in
    let g : first_in t ≡ first_in u = word 2 (omega arith) in
    let s : drop (first_in t) t ≡ drop (first_in u) u = f ∙ ap (λ (n : ℕ). drop n u) g in
    rw (le-leb 4 (length t) l, le-leb 4 (length u) m, c, s, g) refl

-- a header, a gap and the bytes of the records that the header counts, whatever follows them
pub traced-bytes : (h g : List ℕ) (rs : List Record) (x : List ℕ) → length h ≡ 4 → count_in h ≡ length rs → first_in h ≡ 4 + length g
    → traced (h ++ (g ++ (bytes_of_all rs ++ x))) ≡ found rs none
unfolding records_from
traced-bytes h g rs x l c f =
    let n : count_in h ≡ length rs + 0 = c ∙ omega arith in
    traced-gap h g (bytes_of_all rs ++ x) l f
    ∙ ap (λ (k : ℕ). records_from k (4 + length g) (bytes_of_all rs ++ x)) n
    ∙ records-bytes rs 0 (4 + length g) x
    ∙ ap (λ (y : List Record). found y none) (append-nil rs)

-- ---- the bytes cut behind a record

drop-take : (n k : ℕ) (l : List ℕ) → drop n (take (n + k) l) ≡ take k (drop n l)
drop-take zero k l = let e : 0 + k ≡ k = omega arith in ap (λ (i : ℕ). take i l) e
drop-take (suc n) k [] = ap (drop (suc n)) (take-nil (suc n + k)) ∙ sym (take-nil k)
drop-take (suc n) k (x ∷ l) =
    let e : suc n + k ≡ suc (n + k) = omega arith in
    ap (λ (i : ℕ). drop (suc n) (take i (x ∷ l))) e ∙ drop-take n k l

bytes-append : (a b : List Record) → bytes_of_all (a ++ b) ≡ bytes_of_all a ++ bytes_of_all b
unfolding bytes_of_all
bytes-append [] b = refl
bytes-append (r ∷ a) b = ap (λ (l : List ℕ). bytes_of r ++ l) (bytes-append a b) ∙ sym (append_assoc (bytes_of r) (bytes_of_all a) (bytes_of_all b))

module _ (t : List ℕ) (h : headed t ≡ true) (m : ℕ) (k : m ≤ length (traced t).records) where
  abbrev rs : List Record
  rs = (traced t).records

  abbrev l : ℕ
  l = length (bytes_of_all (take m rs))

  y : Headed t
  y = headed-true t h

  again : bytes_of_all rs ++ drop (length (bytes_of_all rs)) (drop (first_in t) t) ≡ drop (first_in t) t
  again =
      subst (λ (f : Found). bytes_of_all f.records ++ drop (length (bytes_of_all f.records)) (drop (first_in t) t) ≡ drop (first_in t) t) (sym (traced-all t h))
      (records-hold (count_in t) (first_in t) (drop (first_in t) t)).again

  cut-bytes : drop (first_in t) (take (end_of m t) t) ≡ bytes_of_all (take m rs)
  cut-bytes =
      let x : List ℕ = drop (length (bytes_of_all rs)) (drop (first_in t) t) in
      drop-take (first_in t) l t
      ∙ ap (take l) (sym again ∙ ap (λ (a : List Record). bytes_of_all a ++ x) (sym (take-append-drop m rs)) ∙ ap (λ (a : List ℕ). a ++ x) (bytes-append (take m rs) (drop m rs))
      ∙ append_assoc (bytes_of_all (take m rs)) (bytes_of_all (drop m rs)) x)
      ∙ take-append_seam (bytes_of_all (take m rs)) (bytes_of_all (drop m rs) ++ x)

  cut-count : count_in (take (end_of m t) t) ≡ count_in t
  cut-count = word-take (end_of m t) 0 t (omega (arith, y.behind))

  cut-first : first_in (take (end_of m t) t) ≡ first_in t
  cut-first = word-take (end_of m t) 2 t (omega (arith, y.behind))

  left_over : (j at : ℕ) (x : Bool) → ltb m (count_in t) ≡ x → j ≡ count_in t - m → records_from j at [] ≡ found [] (cond x (some at) none)
  unfolding records_from
  left_over zero at true e w = absurd (let v : m < count_in t = ltb-true _ _ e in omega (arith, w))
  left_over zero at false e w = refl
  left_over (suc j) at true e w = records-empty j at
  left_over (suc j) at false e w = absurd (let v : count_in t ≤ m = ltb-false _ _ e in omega (arith, w))

  -- the bytes cut behind m records: these records, and a refusal at the cut where more were announced
  pub traced-cut : traced (take (end_of m t) t) ≡ found (take m rs) (cond (ltb m (count_in t)) (some (end_of m t)) none)
  traced-cut =
      let e : ℕ = end_of m t in
      let n : ℕ = count_in t - m in
      let q : length (take m rs) ≡ m = length-take-le m rs k in
      let a : count_in t ≡ length (take m rs) + n = omega (arith, q, k, traced-most t h) in
      let long : 4 ≤ length (take e t) = omega (arith, length-take e t, y.behind, y.long) in
      traced-headed (take e t) long (subst (λ (i : ℕ). 4 ≤ i) (sym cut-first) y.behind)
      ∙ ap₂ (λ (c i : ℕ). records_from c i (drop i (take e t))) cut-count cut-first
      ∙ ap₂ (λ (c : ℕ) (s : List ℕ). records_from c (first_in t) s) a (cut-bytes ∙ sym (append-nil (bytes_of_all (take m rs))))
      ∙ records-bytes (take m rs) n (first_in t) []
      ∙ ap (ahead_all (take m rs)) (left_over n e (ltb m (count_in t)) refl refl)
      ∙ ap (λ (r : List Record). found r (cond (ltb m (count_in t)) (some e) none)) (append-nil (take m rs))

  pub run-cut : (room : ℕ) → run_in room (take (end_of m t) t) ≡ ran (day_on room (take m rs) morning) (cond (ltb m (count_in t)) (some (end_of m t)) none)
  unfolding run_in
  run-cut room = ap (λ (f : Found). run_on room f morning) traced-cut
