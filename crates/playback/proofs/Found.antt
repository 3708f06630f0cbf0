-- Records and their bytes: what bytes have of them, whatever stands behind.
--     fits-true, true-fits               a record stands in front exactly if its direction is 0 or 1 and its bytes are all there
--     record-sent, record-received       0 is a command that was sent, 1 an answer that was received
--     records-bytes      the bytes of records are read as these records, and then what follows
--     records-hold       records that were found have the bytes that they were found in, and a fault is where no whole record stands
--     records-take       a smaller number finds the first of the same records, and `records-free` no fault
--     records-behind     what follows records that are all there is never looked at
-- Assumes nothing.
use mathlib.Core.Path.{◌≡◌, refl, sym, ap, ap₂, subst, ◌∙◌}
use mathlib.Core.Bool.{Bool, true, false, cond, false≢true}
use mathlib.Core.List.{List, [], ◌∷◌, ◌++◌, append_assoc}
use mathlib.Core.Option.{none, some, none-ne-some, some-ne-none}
use Prim.Native.Nat.{ℕ, zero, suc, ◌+◌, ◌-◌, ◌≤◌, ◌<◌}
use native.Mathlib.Omega.{arith}
use lib.Dec.{eqb, leb}
use lib.ListN.{length, take, drop, get_or, length-append, length-drop, take-append-drop, get_or-append}
use lib.Seq.{take-append_seam, drop-append_seam, drop-append-le, take-append-le, drop-drop, length-take-le}
use borrow.Author.Tests.{le-leb, lt-leb, leb-true, eqb-true, eqb-false}
use Rattle.day.specs.Steps.{Record, sent, received}
use Rattle.playback.specs.Trace.{bytes_of, bytes_of_all, size_at, fits, record_at, Found, stopped_at, ahead, records_from}

-- ---- the record in front

pub record Fits (s : List ℕ) : Type 0 where
  pub known : get_or s 0 0 ≤ 1
  pub whole : 2 + get_or s 1 0 ≤ length s

pub fits-true : (s : List ℕ) → fits s ≡ true → Fits s
unfolding fits
fits-true s h = go (leb (get_or s 0 0) 1) refl (leb (size_at s) (length s)) refl h
  where
    go : (x : Bool) → leb (get_or s 0 0) 1 ≡ x → (y : Bool) → leb (size_at s) (length s) ≡ y → cond x y false ≡ true → Fits s
    go true p true q e = record { known = leb-true _ _ p; whole = leb-true _ _ q }
    go true p false q e = absurd (false≢true e)
    go false p y q e = absurd (false≢true e)

pub true-fits : (s : List ℕ) → Fits s → fits s ≡ true
unfolding fits
true-fits s f = rw (le-leb (get_or s 0 0) 1 f.known, le-leb (size_at s) (length s) f.whole) refl

pub unknown-fits : (s : List ℕ) → 1 < get_or s 0 0 → fits s ≡ false
unfolding fits
unknown-fits s h = rw (lt-leb (get_or s 0 0) 1 h) refl

module _ (s : List ℕ) where
  pub record-sent : get_or s 0 0 ≡ 0 → record_at s ≡ sent (take (get_or s 1 0) (drop 2 s))
  unfolding record_at
  record-sent e = rw e refl

  pub record-received : get_or s 0 0 ≡ 1 → record_at s ≡ received (take (get_or s 1 0) (drop 2 s))
  unfolding record_at
  record-received e = rw e refl

-- what follows a whole record does not alter it
module _ (p q : List ℕ) (f : Fits p) where
  zeroth : get_or (p ++ q) 0 0 ≡ get_or p 0 0
  zeroth = get_or-append p q 0 0 (omega (arith, f.whole))

  first : get_or (p ++ q) 1 0 ≡ get_or p 1 0
  first = get_or-append p q 0 1 (omega (arith, f.whole))

  pub fits-append : fits (p ++ q) ≡ true
  fits-append =
      true-fits (p ++ q) (record {
        known = subst (λ (n : ℕ). n ≤ 1) (sym zeroth) f.known;
        whole = subst (λ (n : ℕ). 2 + n ≤ length (p ++ q)) (sym first) (omega (arith, f.whole, length-append p q));
      })

  pub size-append : size_at (p ++ q) ≡ size_at p
  size-append = ap (λ (n : ℕ). 2 + n) first

  pub drop-size-append : drop (size_at (p ++ q)) (p ++ q) ≡ drop (size_at p) p ++ q
  drop-size-append = ap (λ (n : ℕ). drop n (p ++ q)) size-append ∙ drop-append-le (size_at p) p q f.whole

  pub record-append : record_at (p ++ q) ≡ record_at p
  unfolding record_at
  record-append =
      let body : take (get_or p 1 0) (drop 2 (p ++ q)) ≡ take (get_or p 1 0) (drop 2 p)
      = ap (take (get_or p 1 0)) (drop-append-le 2 p q (omega (arith, f.whole))) ∙ take-append-le (get_or p 1 0) (drop 2 p) q (omega (arith, f.whole, length-drop 2 p)) in
      rw (zeroth, first, body) refl

-- a direction that is wrong stays so
pub unknown-append : (p q : List ℕ) → 1 < get_or p 0 0 → fits (p ++ q) ≡ false
unknown-append [] q h = absurd (omega arith)
unknown-append (x ∷ p) q h = unknown-fits (x ∷ (p ++ q)) h

-- ---- records one after the other

module _ (n at : ℕ) (s : List ℕ) where
  pub records-next : fits s ≡ true → records_from (suc n) at s ≡ ahead (record_at s) (records_from n (at + size_at s) (drop (size_at s) s))
  unfolding records_from
  records-next h = rw h refl

  pub records-stop : fits s ≡ false → records_from (suc n) at s ≡ stopped_at at
  unfolding records_from
  records-stop h = rw h refl

-- ---- the bytes of records

module _ (r : Record) (x : List ℕ) where
  front_fits : fits (bytes_of r ++ x) ≡ true
  unfolding bytes_of
  front_fits = go r
    where
      go : (r : Record) → fits (bytes_of r ++ x) ≡ true
      go (sent b) = true-fits (0 ∷ length b ∷ (b ++ x)) (record { known = omega arith; whole = omega (arith, length-append b x) })
      go (received b) = true-fits (1 ∷ length b ∷ (b ++ x)) (record { known = omega arith; whole = omega (arith, length-append b x) })

  front-record : record_at (bytes_of r ++ x) ≡ r
  unfolding bytes_of record_at
  front-record = go r
    where
      go : (r : Record) → record_at (bytes_of r ++ x) ≡ r
      go (sent b) = ap sent (take-append_seam b x)
      go (received b) = ap received (take-append_seam b x)

  front-size : size_at (bytes_of r ++ x) ≡ length (bytes_of r)
  unfolding bytes_of
  front-size = go r
    where
      go : (r : Record) → size_at (bytes_of r ++ x) ≡ length (bytes_of r)
      go (sent b) = omega arith
      go (received b) = omega arith

  front-drop : drop (size_at (bytes_of r ++ x)) (bytes_of r ++ x) ≡ x
  front-drop = ap (λ (n : ℕ). drop n (bytes_of r ++ x)) front-size ∙ drop-append_seam (bytes_of r) x

-- records in front of what was found
abbrev pub ahead_all : List Record → Found → Found
ahead_all rs f = record { records = rs ++ f.records; stop = f.stop }

pub records-bytes : (rs : List Record) (n at : ℕ) (s : List ℕ)
    → records_from (length rs + n) at (bytes_of_all rs ++ s) ≡ ahead_all rs (records_from n (at + length (bytes_of_all rs)) s)
unfolding bytes_of_all
records-bytes [] n at s =
    let a : 0 + n ≡ n = omega arith in
    let b : at ≡ at + 0 = omega arith in
    ap₂ (λ (k l : ℕ). records_from k l s) a b
records-bytes (r ∷ rs) n at s =
    let x : List ℕ = bytes_of_all rs ++ s in
    let a : suc (length rs) + n ≡ suc (length rs + n) = omega arith in
    let b : at + length (bytes_of r) + length (bytes_of_all rs) ≡ at + length (bytes_of r ++ bytes_of_all rs) = omega (arith, length-append (bytes_of r) (bytes_of_all rs)) in
    ap₂ (λ (k : ℕ) (l : List ℕ). records_from k at l) a (append_assoc (bytes_of r) (bytes_of_all rs) s)
    ∙ records-next (length rs + n) at (bytes_of r ++ x) (front_fits r x)
    ∙ ap₂ (λ (k : ℕ) (l : List ℕ). ahead (record_at (bytes_of r ++ x)) (records_from (length rs + n) (at + k) l)) (front-size r x) (front-drop r x)
    ∙ ap (λ (y : Record). ahead y (records_from (length rs + n) (at + length (bytes_of r)) x)) (front-record r x)
    ∙ ap (ahead r) (records-bytes rs n (at + length (bytes_of r)) s)
    ∙ ap (λ (k : ℕ). ahead_all (r ∷ rs) (records_from n k s)) b

-- the record in front has the bytes that it was found in
front-again : (s : List ℕ) → Fits s → bytes_of (record_at s) ++ drop (size_at s) s ≡ s
unfolding bytes_of record_at
front-again [] f = absurd (omega (arith, f.whole))
front-again (d ∷ []) f = absurd (omega (arith, f.whole))
front-again (d ∷ n ∷ s) f = go (eqb d 0) refl
  where
    m : ℕ
    m = length (take n s)

    long : m ≡ n
    long = length-take-le n s (omega (arith, f.whole))

    rest : take n s ++ drop (2 + n) (d ∷ n ∷ s) ≡ s
    rest = ap (λ (l : List ℕ). take n s ++ l) (sym (drop-drop n 2 (d ∷ n ∷ s))) ∙ take-append-drop n s

    go : (x : Bool) → eqb d 0 ≡ x → bytes_of (cond x (sent (take n s)) (received (take n s))) ++ drop (2 + n) (d ∷ n ∷ s) ≡ d ∷ n ∷ s
    go true e = ap₂ (λ (a : ℕ) (l : List ℕ). a ∷ m ∷ l) (sym (eqb-true d 0 e)) rest ∙ ap (λ (k : ℕ). d ∷ k ∷ s) long
    go false e =
        let one : 1 ≡ d = omega (arith, f.known, eqb-false d 0 e) in
        ap₂ (λ (a : ℕ) (l : List ℕ). a ∷ m ∷ l) one rest ∙ ap (λ (k : ℕ). d ∷ k ∷ s) long

front_length : (s : List ℕ) → Fits s → length (bytes_of (record_at s)) ≡ size_at s
front_length s f =
    let e : length (bytes_of (record_at s)) + (length s - size_at s) ≡ length s
    = ap (λ (k : ℕ). length (bytes_of (record_at s)) + k) (sym (length-drop (size_at s) s)) ∙ sym (length-append (bytes_of (record_at s)) (drop (size_at s) s)) ∙ ap length (front-again s f) in
    omega (arith, f.whole)

-- What records were found in: their bytes stand in front; they are as many as asked for, or a fault is where no record fits.
pub record Holds (n at : ℕ) (s : List ℕ) (f : Found) : Type 0 where
  pub again : bytes_of_all f.records ++ drop (length (bytes_of_all f.records)) s ≡ s
  pub all : f.stop ≡ none → length f.records ≡ n
  pub fault : (p : ℕ) → f.stop ≡ some p
      → (p ≡ at + length (bytes_of_all f.records)) × (fits (drop (length (bytes_of_all f.records)) s) ≡ false) × (length f.records < n)

pub records-hold : (n at : ℕ) (s : List ℕ) → Holds n at s (records_from n at s)
unfolding records_from bytes_of_all
records-hold zero at s = record { again = refl; all = λ _. refl; fault = λ p e. absurd (none-ne-some p e) }
records-hold (suc n) at s = go (fits s) refl (records-hold n (at + size_at s) (drop (size_at s) s))
  where
    found : Found
    found = records_from n (at + size_at s) (drop (size_at s) s)

    go : (x : Bool) → fits s ≡ x → Holds n (at + size_at s) (drop (size_at s) s) found
        → Holds (suc n) at s (cond x (ahead (record_at s) found) (stopped_at at))
    go true e ih =
        let f : Fits s = fits-true s e in
        let r : List ℕ = bytes_of (record_at s) in
        let b : List ℕ = bytes_of_all found.records in
        let l : length (r ++ b) ≡ size_at s + length b = length-append r b ∙ ap (λ (k : ℕ). k + length b) (front_length s f) in
        let t : drop (length (r ++ b)) s ≡ drop (length b) (drop (size_at s) s) = ap (λ (k : ℕ). drop k s) l ∙ sym (drop-drop (length b) (size_at s) s) in
        record {
          again = ap (λ (x : List ℕ). (r ++ b) ++ x) t ∙ append_assoc r b (drop (length b) (drop (size_at s) s)) ∙ ap (λ (x : List ℕ). r ++ x) ih.again ∙ front-again s f;
          all = λ h. ap suc (ih.all h);
          fault = λ p h. (
            let z : p ≡ at + size_at s + length b = (ih.fault p h).0 in omega (arith, l),
            ap fits t ∙ (ih.fault p h).1,
            let z : length found.records < n = (ih.fault p h).2 in omega arith,
          );
        }
    go false e ih =
        record {
          again = refl;
          all = λ h. absurd (some-ne-none at h);
          fault = λ p h. (let w : at ≡ p = cc in omega (arith, w), e, omega arith);
        }

-- ---- fewer records

module _ (at : ℕ) (s : List ℕ) where
  -- the record that fits, and those behind it
  records-front : (n : ℕ) → fits s ≡ true
      → (records_from (suc n) at s).records ≡ record_at s ∷ (records_from n (at + size_at s) (drop (size_at s) s)).records
  records-front n h = ap (λ (f : Found). f.records) (records-next n at s h)

  records-none : (n : ℕ) → fits s ≡ false → (records_from (suc n) at s).records ≡ []
  records-none n h = ap (λ (f : Found). f.records) (records-stop n at s h)

-- a smaller number finds the first of the same records
pub records-take : (m n at : ℕ) (s : List ℕ) → m ≤ n → (records_from m at s).records ≡ take m (records_from n at s).records
unfolding records_from
records-take zero n at s h = refl
records-take (suc m) zero at s h = absurd (omega arith)
records-take (suc m) (suc n) at s h = go (fits s) (records-take m n (at + size_at s) (drop (size_at s) s) (omega arith))
  where
    few : Found
    few = records_from m (at + size_at s) (drop (size_at s) s)

    many : Found
    many = records_from n (at + size_at s) (drop (size_at s) s)

    go : (x : Bool) → few.records ≡ take m many.records
        → (cond x (ahead (record_at s) few) (stopped_at at)).records ≡ take (suc m) (cond x (ahead (record_at s) many) (stopped_at at)).records
    go true ih = ap (λ (l : List Record). record_at s ∷ l) ih
    go false ih = refl

-- and meets no fault, where so many were found
pub records-free : (m n at : ℕ) (s : List ℕ) → m ≤ length (records_from n at s).records → (records_from m at s).stop ≡ none
unfolding records_from
records-free zero n at s h = refl
records-free (suc m) zero at s h = absurd (omega arith)
records-free (suc m) (suc n) at s h = go (fits s) h (records-free m n (at + size_at s) (drop (size_at s) s))
  where
    few : Found
    few = records_from m (at + size_at s) (drop (size_at s) s)

    many : Found
    many = records_from n (at + size_at s) (drop (size_at s) s)

    go : (x : Bool) → suc m ≤ length (cond x (ahead (record_at s) many) (stopped_at at)).records → (m ≤ length many.records → few.stop ≡ none)
        → (cond x (ahead (record_at s) few) (stopped_at at)).stop ≡ none
    go true k ih = ih (omega (arith, k))
    go false k ih = absurd (omega (arith, k))

-- no more are found than asked for
pub records-most : (n at : ℕ) (s : List ℕ) → length (records_from n at s).records ≤ n
unfolding records_from
records-most zero at s = omega arith
records-most (suc n) at s = go (fits s) (records-most n (at + size_at s) (drop (size_at s) s))
  where
    found : Found
    found = records_from n (at + size_at s) (drop (size_at s) s)

    go : (x : Bool) → length found.records ≤ n → length (cond x (ahead (record_at s) found) (stopped_at at)).records ≤ suc n
    go true ih = omega (arith, ih)
    go false ih = omega arith

-- what follows records that are all there is never looked at
pub records-behind : (n at : ℕ) (s x : List ℕ) → (records_from n at s).stop ≡ none → records_from n at (s ++ x) ≡ records_from n at s
unfolding records_from
records-behind zero at s x h = refl
records-behind (suc n) at s x h = go (fits s) refl h (records-behind n (at + size_at s) (drop (size_at s) s) x)
  where
    found : Found
    found = records_from n (at + size_at s) (drop (size_at s) s)

    go : (y : Bool) → fits s ≡ y → (cond y (ahead (record_at s) found) (stopped_at at)).stop ≡ none
        → (found.stop ≡ none → records_from n (at + size_at s) (drop (size_at s) s ++ x) ≡ found)
        → records_from (suc n) at (s ++ x) ≡ cond y (ahead (record_at s) found) (stopped_at at)
    go true e k ih =
        let f : Fits s = fits-true s e in
        records-next n at (s ++ x) (fits-append s x f)
        ∙ ap₂ (λ (i : ℕ) (l : List ℕ). ahead (record_at (s ++ x)) (records_from n (at + i) l)) (size-append s x f) (drop-size-append s x f)
        ∙ ap₂ (λ (r : Record) (y : Found). ahead r y) (record-append s x f) (ih k)
    go false e k ih = absurd (some-ne-none at k)
