-- A trace in parts, on the plain list. What a pass leaves to come is what was to come before it (`pass-rest`), as long as offsets fit 64 bits.
--     pass-run          one pass over a whole trace gives its run
--     pass-over         a pass after which no more is to come ends the playback
--     pass-used         a pass uses no more than it is given
--     pass-goes         and, where it has the longest record there is in front, uses some of it or ends the playback
-- Assumes nothing.
use mathlib.Core.Path.{◌≡◌, refl, sym, ap, ap₂, subst, ◌∙◌}
use mathlib.Core.Bool.{Bool, true, false, cond, false≢true}
use mathlib.Core.List.{List, [], ◌++◌, append-nil}
use mathlib.Core.Logic.{◌⊎◌, inl, inr}
use Prim.Native.Nat.{ℕ, zero, suc, ◌+◌, ◌-◌, ◌≤◌, ◌<◌}
use native.Mathlib.Omega.{arith}
use lib.Dec.{leb, ltb}
use lib.ListN.{length, drop, get_or, length-append, length-drop, drop_of_length-le}
use lib.Seq.{drop-drop, drop-append-le, drop-append_seam}
use borrow.Author.Tests.{eqb-true, le-leb, leb-true, leb-false, ltb-true, lt-ltb}
use Rattle.day.specs.Days.{most, plus}
use Rattle.day.specs.Steps.{Record, State, day_on, morning, step}
use Rattle.day.proofs.Days.{plus-fits}
use Rattle.playback.specs.declared.Stage.{Stage}
use Rattle.playback.specs.declared.Stage.TheVariants.{Header, Records, Stopped}
use Rattle.playback.specs.Trace.{Found, count_in, first_in, fits, record_at, records_from, size_at, stopped_at, traced}
use Rattle.playback.specs.Plays.{Run, run_in, run_on}
use Rattle.playback.specs.Parts.{Went, after, halts, hopeless, is_over, pass_from, pass_gap, pass_header, pass_records, stop_of}
use Rattle.playback.proofs.Found.{Fits, drop-size-append, fits-append, fits-true, record-append, records-next, records-stop, size-append, unknown-append}
use Rattle.playback.proofs.Traces.{count-append, first-append, traced-headed, traced-low, traced-short}

-- ---- what is still to come

-- what the rest of a trace gives, from where a playback stands
unfoldable pub rest_from : ℕ → Stage → List ℕ → State → Run
rest_from room Header s d = run_on room (traced s) d
rest_from room (Records left skip at) s d = run_on room (records_from left (at + skip) (drop skip s)) d
rest_from room (Stopped at) s d = run_on room (stopped_at at) d

-- no offset of the rest overflows
abbrev pub Near : Stage → List ℕ → Type 0
Near Header s = (length s ≤ most) × (first_in s ≤ most)
Near (Records left skip at) s = (at + skip ≤ most) × (at + length s ≤ most)
Near (Stopped at) s = Unit {0}

-- a pass, over s: what it leaves to come is what was to come
pub record Keeps (room : ℕ) (x : Run) (s : List ℕ) (w : Went) : Type 0 where
  pub comes : x ≡ rest_from room w.stage (drop w.used s) w.state
  pub near : Near w.stage (drop w.used s)

-- the records from an offset on, with a state before them
abbrev from : ℕ → ℕ → ℕ → List ℕ → State → Run
from room n at s d = run_on room (records_from n at s) d

rest-records : (room n at : ℕ) (s : List ℕ) (d : State) → from room n at s d ≡ rest_from room (Records n 0 at) s d
unfolding rest_from
rest-records room n at s d = ap (λ (k : ℕ). from room n k s d) (omega arith)

rest-gap : (room left skip at : ℕ) (s : List ℕ) (d : State) → from room left (at + skip) (drop skip s) d ≡ rest_from room (Records left skip at) s d
unfolding rest_from
rest-gap room left skip at s d = refl

-- a pass behind k bytes that are used
keeps-after : (room : ℕ) (x : Run) (k : ℕ) (s : List ℕ) (w : Went) → Keeps room x (drop k s) w → Keeps room x s (after k w)
keeps-after room x k s w e =
    record {
      comes = e.comes ∙ ap (λ (l : List ℕ). rest_from room w.stage l w.state) (drop-drop w.used k s);
      near = subst (Near w.stage) (drop-drop w.used k s) e.near;
    }

keeps-eq : (room : ℕ) (x y : Run) (s : List ℕ) (w : Went) → x ≡ y → Keeps room y s w → Keeps room x s w
keeps-eq room x y s w e k = record { comes = e ∙ k.comes; near = k.near }

from_next : (room n at : ℕ) (s : List ℕ) (d : State) → fits s ≡ true
    → from room (suc n) at s d ≡ from room n (at + size_at s) (drop (size_at s) s) (step room (record_at s) d)
unfolding day_on
from_next room n at s d h = ap (λ (f : Found). run_on room f d) (records-next n at s h)

from-stop : (room n at : ℕ) (s : List ℕ) (d : State) → fits s ≡ false → from room (suc n) at s d ≡ run_on room (stopped_at at) d
from-stop room n at s d h = ap (λ (f : Found). run_on room f d) (records-stop n at s h)

-- ---- one pass over a part p of what goes on with q

module _ (room : ℕ) (more : Bool) (q : List ℕ) (last : more ≡ false → q ≡ []) where
  -- bytes that will never be a record are none with more behind them
  hopeless-append : (p : List ℕ) → fits p ≡ false → hopeless more p ≡ true → fits (p ++ q) ≡ false
  hopeless-append p f h = go more refl h
    where
      go : (m : Bool) → more ≡ m → hopeless m p ≡ true → fits (p ++ q) ≡ false
      go true e k = unknown-append p q (ltb-true 1 (get_or p 0 0) k)
      go false e k = ap (λ (l : List ℕ). fits (p ++ l)) (last e) ∙ ap fits (append-nil p) ∙ f

  records-keep : (n at : ℕ) (p : List ℕ) (d : State) → at + length (p ++ q) ≤ most
      → Keeps room (from room n at (p ++ q) d) (p ++ q) (pass_records more room n at p d)
  unfolding pass_records rest_from
  records-keep zero at p d b = record { comes = rest-records room 0 at (p ++ q) d; near = (omega (arith, b), b) }
  records-keep (suc n) at p d b = go (fits p) refl (hopeless more p) refl (records-keep n (plus at (size_at p)) (drop (size_at p) p) (step room (record_at p) d))
    where
      onward : Went
      onward = pass_records more room n (plus at (size_at p)) (drop (size_at p) p) (step room (record_at p) d)

      next : fits p ≡ true → from room (suc n) at (p ++ q) d ≡ from room n (at + size_at p) (drop (size_at p) p ++ q) (step room (record_at p) d)
      next e =
          let f : Fits p = fits-true p e in
          from_next room n at (p ++ q) d (fits-append p q f)
          ∙ ap₂ (λ (k : ℕ) (l : List ℕ). from room n (at + k) l (step room (record_at (p ++ q)) d)) (size-append p q f) (drop-size-append p q f)
          ∙ ap (λ (r : Record). from room n (at + size_at p) (drop (size_at p) p ++ q) (step room r d)) (record-append p q f)

      go : (x : Bool) → fits p ≡ x → (y : Bool) → hopeless more p ≡ y
          → (plus at (size_at p) + length (drop (size_at p) p ++ q) ≤ most
          → Keeps room (from room n (plus at (size_at p)) (drop (size_at p) p ++ q) (step room (record_at p) d)) (drop (size_at p) p ++ q) onward)
          → Keeps room (from room (suc n) at (p ++ q) d) (p ++ q)
          (cond x (after (size_at p) onward) (cond y (halts (Stopped at) d) (halts (Records (suc n) 0 at) d)))
      go true e y f ih =
          let w : size_at p ≤ length p = (fits-true p e).whole in
          let l : drop (size_at p) (p ++ q) ≡ drop (size_at p) p ++ q = drop-append-le (size_at p) p q w in
          let g : plus at (size_at p) ≡ at + size_at p = plus-fits at (size_at p) (omega (arith, b, w, length-append p q)) in
          let m : plus at (size_at p) + length (drop (size_at p) p ++ q) ≤ most =
          omega (arith, b, w, g, length-append p q, length-append (drop (size_at p) p) q, length-drop (size_at p) p)
          in
          keeps-eq room (from room (suc n) at (p ++ q) d) (from room n (plus at (size_at p)) (drop (size_at p) p ++ q) (step room (record_at p) d)) (p ++ q)
          (after (size_at p) onward) (next e ∙ ap (λ (k : ℕ). from room n k (drop (size_at p) p ++ q) (step room (record_at p) d)) (sym g))
          (keeps-after room (from room n (plus at (size_at p)) (drop (size_at p) p ++ q) (step room (record_at p) d)) (size_at p) (p ++ q) onward
          (subst (λ (l : List ℕ). Keeps room (from room n (plus at (size_at p)) (drop (size_at p) p ++ q) (step room (record_at p) d)) l onward) (sym l) (ih m)))
      go false e true f ih = record { comes = from-stop room n at (p ++ q) d (hopeless-append p e f); near = tt }
      go false e false f ih = record { comes = rest-records room (suc n) at (p ++ q) d; near = (omega (arith, b), b) }

  gap-keep : (left skip at : ℕ) (p : List ℕ) (d : State) → at + skip ≤ most → at + length (p ++ q) ≤ most
      → Keeps room (from room left (at + skip) (drop skip (p ++ q)) d) (p ++ q) (pass_gap more room left skip at p d)
  unfolding pass_gap
  gap-keep left skip at p d a b = go (leb skip (length p)) refl more refl
    where
      onward : List ℕ → Went
      onward s = pass_records more room left (plus at skip) s d

      ends : plus at skip ≡ at + skip
      ends = plus-fits at skip a

      whole : List ℕ → Run
      whole s = from room left (at + skip) s d

      records : (s : List ℕ) → at + skip + length (s ++ q) ≤ most → Keeps room (whole (s ++ q)) (s ++ q) (onward s)
      records s m =
          keeps-eq room (whole (s ++ q)) (from room left (plus at skip) (s ++ q) d) (s ++ q) (onward s) (ap (λ (k : ℕ). from room left k (s ++ q) d) (sym ends))
          (records-keep left (plus at skip) s d (omega (arith, m, ends)))

      go : (x : Bool) → leb skip (length p) ≡ x → (m : Bool) → more ≡ m
          → Keeps room (whole (drop skip (p ++ q))) (p ++ q)
          (cond x (after skip (onward (drop skip p)))
          (cond m (record { used = length p; stage = Records left (skip - length p) (plus at (length p)); state = d }) (after (length p) (onward []))))
      go true e m f =
          let h : skip ≤ length p = leb-true skip (length p) e in
          let s : drop skip (p ++ q) ≡ drop skip p ++ q = drop-append-le skip p q h in
          keeps-after room (whole (drop skip (p ++ q))) skip (p ++ q) (onward (drop skip p))
          (subst (λ (l : List ℕ). Keeps room (whole l) l (onward (drop skip p))) (sym s)
          (records (drop skip p) (omega (arith, b, h, length-append p q, length-append (drop skip p) q, length-drop skip p))))
      go false e true f =
          let h : length p < skip = leb-false skip (length p) e in
          let g : plus at (length p) ≡ at + length p = plus-fits at (length p) (omega (arith, a, h)) in
          let i : at + skip ≡ plus at (length p) + (skip - length p) = omega (arith, h, g) in
          let j : skip ≡ length p + (skip - length p) = omega (arith, h) in
          let l : drop skip (p ++ q) ≡ drop (skip - length p) (drop (length p) (p ++ q)) =
          ap (λ (k : ℕ). drop k (p ++ q)) j ∙ sym (drop-drop (skip - length p) (length p) (p ++ q))
          in
          record {
            comes =
                ap₂ (λ (k : ℕ) (l : List ℕ). from room left k l d) i l
                ∙ rest-gap room left (skip - length p) (plus at (length p)) (drop (length p) (p ++ q)) d;
            near = (omega (arith, a, i), omega (arith, b, h, g, length-append p q, length-drop (length p) (p ++ q)));
          }
      go false e false f =
          let h : length p < skip = leb-false skip (length p) e in
          let none : q ≡ [] = last f in
          let s : drop skip (p ++ q) ≡ [] ++ q =
          drop_of_length-le (p ++ q) {i = skip} (omega (arith, h, length-append p q, ap length none)) ∙ sym none
          in
          let z : [] ++ q ≡ drop (length p) (p ++ q) = sym (drop-append_seam p q) in
          keeps-after room (whole (drop skip (p ++ q))) (length p) (p ++ q) (onward [])
          (subst (λ (l : List ℕ). Keeps room (whole (drop skip (p ++ q))) l (onward [])) z
          (keeps-eq room (whole (drop skip (p ++ q))) (whole ([] ++ q)) ([] ++ q) (onward []) (ap whole s)
          (records [] (omega (arith, a, ap length none)))))

  header-keep : (p : List ℕ) (d : State) → length (p ++ q) ≤ most → first_in (p ++ q) ≤ most
      → Keeps room (rest_from room Header (p ++ q) d) (p ++ q) (pass_header more room p d)
  unfolding pass_header rest_from
  header-keep p d b c = go (leb 4 (length p)) refl (leb 4 (first_in p)) refl more refl
    where
      onward : Went
      onward = pass_gap more room (count_in p) (first_in p - 4) 4 (drop 4 p) d

      whole : Found → Run
      whole f = run_on room f d

      go : (x : Bool) → leb 4 (length p) ≡ x → (y : Bool) → leb 4 (first_in p) ≡ y → (m : Bool) → more ≡ m
          → Keeps room (run_on room (traced (p ++ q)) d) (p ++ q)
          (cond x (cond y (after 4 onward) (halts (Stopped 0) d)) (cond m (halts Header d) (halts (Stopped 0) d)))
      go true e true f m g =
          let h : 4 ≤ length p = leb-true 4 (length p) e in
          let k : 4 ≤ first_in p = leb-true 4 (first_in p) f in
          let l : 4 ≤ length (p ++ q) = omega (arith, h, length-append p q) in
          let i : first_in (p ++ q) ≡ first_in p = first-append p q h in
          let j : first_in p ≡ 4 + (first_in p - 4) = omega (arith, k) in
          let s : drop 4 (p ++ q) ≡ drop 4 p ++ q = drop-append-le 4 p q h in
          let t : drop (first_in p) (p ++ q) ≡ drop (first_in p - 4) (drop 4 p ++ q) =
          ap (λ (n : ℕ). drop n (p ++ q)) j ∙ sym (drop-drop (first_in p - 4) 4 (p ++ q)) ∙ ap (drop (first_in p - 4)) s
          in
          let x : Run = from room (count_in p) (4 + (first_in p - 4)) (drop (first_in p - 4) (drop 4 p ++ q)) d in
          let w : run_on room (traced (p ++ q)) d ≡ x =
          ap whole (traced-headed (p ++ q) l (subst (λ (n : ℕ). 4 ≤ n) (sym i) k))
          ∙ ap₂ (λ (a b : ℕ). from room a b (drop b (p ++ q)) d) (count-append p q h) i
          ∙ ap₂ (λ (b : ℕ) (r : List ℕ). from room (count_in p) b r d) j t
          in
          keeps-eq room (run_on room (traced (p ++ q)) d) x (p ++ q) (after 4 onward) w
          (keeps-after room x 4 (p ++ q) onward
          (subst (λ (r : List ℕ). Keeps room x r onward) (sym s)
          (gap-keep (count_in p) (first_in p - 4) 4 (drop 4 p) d (omega (arith, c, i, j))
          (omega (arith, b, h, length-append p q, length-append (drop 4 p) q, length-drop 4 p)))))
      go true e false f m g =
          let h : 4 ≤ length p = leb-true 4 (length p) e in
          record {
            comes =
                ap whole (traced-low (p ++ q) (omega (arith, h, length-append p q)) (subst (λ (n : ℕ). n < 4) (sym (first-append p q h)) (leb-false 4 (first_in p) f)));
            near = tt;
          }
      go false e y f true g = record { comes = refl; near = (b, c) }
      go false e y f false g =
          record {
            comes = ap whole (ap (λ (l : List ℕ). traced (p ++ l)) (last g) ∙ ap traced (append-nil p) ∙ traced-short p (leb-false 4 (length p) e));
            near = tt;
          }

  pub pass-rest : (g : Stage) (d : State) (p : List ℕ) → Near g (p ++ q) → Keeps room (rest_from room g (p ++ q) d) (p ++ q) (pass_from more room g p d)
  unfolding pass_from rest_from
  pass-rest Header d p n = header-keep p d n.0 n.1
  pass-rest (Records left skip at) d p n = gap-keep left skip at p d n.0 n.1
  pass-rest (Stopped at) d p n = record { comes = refl; near = tt }

-- ---- the end

-- where a playback is over, nothing that follows matters
pub over-rest : (room : ℕ) (g : Stage) (s : List ℕ) (d : State) → is_over g ≡ true → rest_from room g s d ≡ record { state = d; stop = stop_of g }
unfolding rest_from records_from day_on
over-rest room Header s d h = absurd (false≢true h)
over-rest room (Records left skip at) s d h =
    ap (λ (n : ℕ). run_on room (records_from n (at + skip) (drop skip s)) d) (eqb-true left 0 h)
over-rest room (Stopped at) s d h = refl

records-over : (room n at : ℕ) (s : List ℕ) (d : State) → is_over (pass_records false room n at s d).stage ≡ true
unfolding pass_records
records-over room zero at s d = refl
records-over room (suc n) at s d = go (fits s) (records-over room n (plus at (size_at s)) (drop (size_at s) s) (step room (record_at s) d))
  where
    onward : Went
    onward = pass_records false room n (plus at (size_at s)) (drop (size_at s) s) (step room (record_at s) d)

    go : (x : Bool) → is_over onward.stage ≡ true → is_over (cond x (after (size_at s) onward) (halts (Stopped at) d)).stage ≡ true
    go true ih = ih
    go false ih = refl

gap-over : (room left skip at : ℕ) (s : List ℕ) (d : State) → is_over (pass_gap false room left skip at s d).stage ≡ true
unfolding pass_gap
gap-over room left skip at s d = go (leb skip (length s))
  where
    onward : List ℕ → Went
    onward l = pass_records false room left (plus at skip) l d

    go : (x : Bool) → is_over (cond x (after skip (onward (drop skip s))) (after (length s) (onward []))).stage ≡ true
    go true = records-over room left (plus at skip) (drop skip s) d
    go false = records-over room left (plus at skip) [] d

header-over : (room : ℕ) (s : List ℕ) (d : State) → is_over (pass_header false room s d).stage ≡ true
unfolding pass_header
header-over room s d = go (leb 4 (length s)) (leb 4 (first_in s))
  where
    onward : Went
    onward = pass_gap false room (count_in s) (first_in s - 4) 4 (drop 4 s) d

    go : (x y : Bool) → is_over (cond x (cond y (after 4 onward) (halts (Stopped 0) d)) (halts (Stopped 0) d)).stage ≡ true
    go true true = gap-over room (count_in s) (first_in s - 4) 4 (drop 4 s) d
    go true false = refl
    go false y = refl

pub pass-over : (room : ℕ) (g : Stage) (s : List ℕ) (d : State) → is_over (pass_from false room g s d).stage ≡ true
unfolding pass_from
pass-over room Header s d = header-over room s d
pass-over room (Records left skip at) s d = gap-over room left skip at s d
pass-over room (Stopped at) s d = refl

-- one pass over a whole trace
pub pass-run : (room : ℕ) (t : List ℕ) → length t ≤ most → first_in t ≤ most
    → record { state = (pass_from false room Header t morning).state; stop = stop_of (pass_from false room Header t morning).stage } ≡ run_in room t
unfolding rest_from run_in
pass-run room t b c =
    let e : t ++ [] ≡ t = append-nil t in
    let w : Went = pass_from false room Header t morning in
    let k : Keeps room (rest_from room Header (t ++ []) morning) (t ++ []) w =
    pass-rest room false [] (λ _. refl) Header morning t (omega (arith, b, ap length e), omega (arith, c, ap first_in e))
    in
    sym (over-rest room w.stage (drop w.used (t ++ [])) w.state (pass-over room Header t morning))
    ∙ sym k.comes
    ∙ ap (λ (l : List ℕ). run_on room (traced l) morning) e

-- ---- how far a pass comes

records-used : (more : Bool) (room n at : ℕ) (s : List ℕ) (d : State) → (pass_records more room n at s d).used ≤ length s
unfolding pass_records
records-used more room zero at s d = omega arith
records-used more room (suc n) at s d =
    go (fits s) refl (hopeless more s) (records-used more room n (plus at (size_at s)) (drop (size_at s) s) (step room (record_at s) d))
  where
    onward : Went
    onward = pass_records more room n (plus at (size_at s)) (drop (size_at s) s) (step room (record_at s) d)

    go : (x : Bool) → fits s ≡ x → (y : Bool) → onward.used ≤ length (drop (size_at s) s)
        → (cond x (after (size_at s) onward) (cond y (halts (Stopped at) d) (halts (Records (suc n) 0 at) d))).used ≤ length s
    go true e y ih = let f : size_at s ≤ length s = (fits-true s e).whole in omega (arith, f, ih, length-drop (size_at s) s)
    go false e true ih = omega arith
    go false e false ih = omega arith

gap-used : (more : Bool) (room left skip at : ℕ) (s : List ℕ) (d : State) → (pass_gap more room left skip at s d).used ≤ length s
unfolding pass_gap
gap-used more room left skip at s d = go (leb skip (length s)) refl more
  where
    onward : List ℕ → Went
    onward l = pass_records more room left (plus at skip) l d

    go : (x : Bool) → leb skip (length s) ≡ x → (m : Bool)
        → (cond x (after skip (onward (drop skip s)))
        (cond m (record { used = length s; stage = Records left (skip - length s) (plus at (length s)); state = d }) (after (length s) (onward [])))).used
        ≤ length s
    go true e m =
        let h : skip ≤ length s = leb-true _ _ e in
        omega (arith, h, records-used more room left (plus at skip) (drop skip s) d, length-drop skip s)
    go false e true = omega arith
    go false e false = omega (arith, records-used more room left (plus at skip) [] d)

pub pass-used : (more : Bool) (room : ℕ) (g : Stage) (s : List ℕ) (d : State) → (pass_from more room g s d).used ≤ length s
unfolding pass_from pass_header
pass-used more room Header s d = go (leb 4 (length s)) refl (leb 4 (first_in s)) more
  where
    onward : Went
    onward = pass_gap more room (count_in s) (first_in s - 4) 4 (drop 4 s) d

    go : (x : Bool) → leb 4 (length s) ≡ x → (y m : Bool)
        → (cond x (cond y (after 4 onward) (halts (Stopped 0) d)) (cond m (halts Header d) (halts (Stopped 0) d))).used ≤ length s
    go true e true m =
        let h : 4 ≤ length s = leb-true _ _ e in
        omega (arith, h, gap-used more room (count_in s) (first_in s - 4) 4 (drop 4 s) d, length-drop 4 s)
    go true e false m = omega arith
    go false e y true = omega arith
    go false e y false = omega arith
pass-used more room (Records left skip at) s d = gap-used more room left skip at s d
pass-used more room (Stopped at) s d = omega arith

-- some bytes are used, or the playback is over
abbrev pub Goes : Went → Type 0
Goes w = (0 < w.used) ⊎ (is_over w.stage ≡ true)

records-goes : (more : Bool) (room n at : ℕ) (s : List ℕ) (d : State) → get_or s 1 0 ≤ 255 → 257 ≤ length s → Goes (pass_records more room n at s d)
unfolding pass_records fits
records-goes more room zero at s d b l = inr refl
records-goes more room (suc n) at s d b l = go (leb (get_or s 0 0) 1) refl
  where
    onward : Went
    onward = pass_records more room n (plus at (size_at s)) (drop (size_at s) s) (step room (record_at s) d)

    go : (x : Bool) → leb (get_or s 0 0) 1 ≡ x
        → Goes (cond (cond x (leb (size_at s) (length s)) false) (after (size_at s) onward)
        (cond (cond more (ltb 1 (get_or s 0 0)) true) (halts (Stopped at) d) (halts (Records (suc n) 0 at) d)))
    go true e = rw (le-leb (size_at s) (length s) (omega (arith, b, l))) (inl (omega arith))
    go false e = by more
      where
        by : (m : Bool) → Goes (cond (cond m (ltb 1 (get_or s 0 0)) true) (halts (Stopped at) d) (halts (Records (suc n) 0 at) d))
        by true = rw (lt-ltb 1 (get_or s 0 0) (leb-false _ _ e)) (inr refl)
        by false = inr refl

goes_after : (k : ℕ) (w : Went) → Goes w → Goes (after k w)
goes_after k w (inl h) = inl (omega (arith, h))
goes_after k w (inr h) = inr h

gap-goes : (more : Bool) (room left skip at : ℕ) (s : List ℕ) (d : State) → get_or s 1 0 ≤ 255 → 257 ≤ length s
    → Goes (pass_gap more room left skip at s d)
unfolding pass_gap
gap-goes more room left zero at s d b l =
    rw (le-leb 0 (length s) (omega arith))
    (goes_after 0 (pass_records more room left (plus at 0) s d) (records-goes more room left (plus at 0) s d b l))
gap-goes more room left (suc k) at s d b l = go (leb (suc k) (length s)) more
  where
    onward : List ℕ → Went
    onward l = pass_records more room left (plus at (suc k)) l d

    go : (x m : Bool) → Goes (cond x (after (suc k) (onward (drop (suc k) s)))
        (cond m (record { used = length s; stage = Records left (suc k - length s) (plus at (length s)); state = d }) (after (length s) (onward []))))
    go true m = inl (omega arith)
    go false true = inl (omega (arith, l))
    go false false = inl (omega (arith, l))

pub pass-goes : (more : Bool) (room : ℕ) (g : Stage) (s : List ℕ) (d : State) → get_or s 1 0 ≤ 255 → 257 ≤ length s → Goes (pass_from more room g s d)
unfolding pass_from pass_header
pass-goes more room Header s d b l = rw (le-leb 4 (length s) (omega (arith, l))) (go (leb 4 (first_in s)))
  where
    onward : Went
    onward = pass_gap more room (count_in s) (first_in s - 4) 4 (drop 4 s) d

    go : (y : Bool) → Goes (cond y (after 4 onward) (halts (Stopped 0) d))
    go true = inl (omega arith)
    go false = inr refl
pass-goes more room (Records left skip at) s d b l = gap-goes more room left skip at s d b l
pass-goes more room (Stopped at) s d b l = inr refl
