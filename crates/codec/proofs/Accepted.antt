-- What it takes that the checked builder makes a frame (`Made`) and that a frame decodes (`Read`), and the way from each to the other:
-- the lemmas of proofs/Laws.antt. Assumes nothing.
use mathlib.Core.Path.{◌≡◌, refl, sym, ap, ap₂, ◌∙◌, subst}
use mathlib.Core.Bool.{Bool, true, false, cond, ◌&&◌}
use mathlib.Core.List.{List, [], ◌∷◌}
use Prim.Native.Nat.{ℕ, suc, ◌^◌, ◌≤◌, ◌<◌, min}
use native.Mathlib.Omega.{arith}
use borrow.Author.Tests.{lt-ltb, le-ltb, ltb-true, ltb-false}
use lib.Bits.{bit_and}
use lib.Dec.{T, leb, ltb, leb→le, ltb→lt, lt→ltb}
use Rattle.std.specs.Prelude.{Result, Ok, Err, Option, Some, None}
use lib.ListN.{length, get_or}
use Rattle.frame.specs.Layout.{bytes, tab, byte_of, mask_of, reads, fitting, layout}
use Rattle.frame.proofs.Fields.{and_in, both_left, both_right, length-tab, get_d-tab, checked-reads, reads_fit, frame_back, clean}
use Rattle.table.specs.Number.{narrow_of, narrows_of, codes_of}
use Rattle.table.specs.Codes.{takes}
use Rattle.table.specs.Table.{kinds, rows, op_of, len_of, numbers_of, op_number, row_of}
use Rattle.table.specs.Narrowed.{fields_of, frame_of, opcode, arguments_in}
use Rattle.table.specs.Laid.{find}
use Rattle.table.proofs.Cells.{length-narrows}
use Rattle.table.proofs.Rows.{Laid, row_laid, row-found}
use Rattle.refusal.specs.declared.Refusal.{Refusal}
use Rattle.refusal.specs.declared.Refusal.TheVariants.{ShortFrame, StrayBit, UnknownCode, NotAKind}
use Rattle.codes.specs.Allowed.{allows}
use Rattle.decoder.specs.Decoding as decoder
use Rattle.decoder.specs.Decoding.{reading, stray_at, lacking, lacking_at, judged, sought, answered, decode}
use Rattle.decoder.proofs.Apart.{refuses-reading}
use Rattle.decoder.proofs.Stray.{none-stray, stray-clean}
use Rattle.decoder.proofs.Returns.{Found, sought-row}
use Rattle.builder.specs.Building as builder
use Rattle.builder.specs.Building.{makes, first_misfit, unless, builds, checked}
use Rattle.builder.proofs.Apart.{at_none, refuses-makes}
use Rattle.codec.proofs.Fitting.{starts, narrows, all_fit, row-opcode, row_fits}

pub of-true : (b : Bool) → b ≡ true → T b
of-true b e = subst T (sym e) tt

is_true : (b : Bool) → T b → b ≡ true
is_true true t = refl
is_true false t = absurd t

-- ---- arguments inside their ranges

pub record Inside (cs vs : List ℕ) : Type 0 where
  pub fit : T (fitting (narrows_of cs) vs)
  pub long : length vs ≡ length cs
  pub taken : (n : ℕ) → lacking n cs vs ≡ n

pub inside : (n : ℕ) (cs vs : List ℕ) → first_misfit allows n cs vs ≡ None → Inside cs vs
unfolding first_misfit fitting narrows_of lacking
inside n [] [] e = record { fit = tt; long = refl; taken = λ m. refl }
inside n [] (v ∷ vs) e = absurd (at_none e)
inside n (c ∷ cs) [] e = absurd (at_none e)
inside n (c ∷ cs) (v ∷ vs) e = go (ltb v (2 ^ (narrow_of c).w)) (takes (codes_of c) v) refl refl e (inside (suc n) cs vs)
  where
    go : (a b : Bool) → ltb v (2 ^ (narrow_of c).w) ≡ a → takes (codes_of c) v ≡ b → cond (a && b) (first_misfit allows (suc n) cs vs) (Some n) ≡ None
        → (first_misfit allows (suc n) cs vs ≡ None → Inside cs vs) → Inside (c ∷ cs) (v ∷ vs)
    go true true p q z ih =
        let w : Inside cs vs = ih z in record {
          fit = and_in (ltb v (2 ^ (narrow_of c).w)) (fitting (narrows_of cs) vs) (of-true _ p) w.fit;
          long = ap suc w.long;
          taken = λ m. ap (λ (b : Bool). cond b (lacking m cs vs) (min (narrow_of c).first (lacking m cs vs))) q ∙ w.taken m;
        }
    go true false p q z ih = absurd (at_none z)
    go false b p q z ih = absurd (at_none z)

-- what a frame holds fits, so that only a code can fail
none-fails : (m n : ℕ) (cs vs : List ℕ) → T (fitting (narrows_of cs) vs) → T (all_fit m cs) → m ≤ lacking m cs vs → first_misfit allows n cs vs ≡ None
unfolding first_misfit fitting narrows_of lacking all_fit starts
none-fails m n [] [] t s h = refl
none-fails m n [] (v ∷ vs) t s h = absurd t
none-fails m n (c ∷ cs) [] t s h = absurd t
none-fails m n (c ∷ cs) (v ∷ vs) t s h =
    go (takes (codes_of c) v) refl h
    (none-fails m (suc n) cs vs (both_right (ltb v (2 ^ (narrow_of c).w)) (fitting (narrows_of cs) vs) t)
    (both_right (ltb (narrow_of c).first m && narrows c) (all_fit m cs) s))
  where
    low : (narrow_of c).first < m
    low = ltb→lt _ _ (both_left (ltb (narrow_of c).first m) (narrows c) (both_left (ltb (narrow_of c).first m && narrows c) (all_fit m cs) s))

    small : ltb v (2 ^ (narrow_of c).w) ≡ true
    small = is_true _ (both_left (ltb v (2 ^ (narrow_of c).w)) (fitting (narrows_of cs) vs) t)

    go : (b : Bool) → takes (codes_of c) v ≡ b → m ≤ cond b (lacking m cs vs) (min (narrow_of c).first (lacking m cs vs))
        → (m ≤ lacking m cs vs → first_misfit allows (suc n) cs vs ≡ None) → cond (allows c v) (first_misfit allows (suc n) cs vs) (Some n) ≡ None
    go true q l ih = ap₂ (λ (a b : Bool). cond (a && b) (first_misfit allows (suc n) cs vs) (Some n)) small q ∙ ih l
    go false q l ih = absurd (omega (arith, low))

-- ---- a frame that is built decodes

module _ (r vs : List ℕ) (lay : T (layout (len_of r) (fields_of r))) (small : op_of r < 65536) (i : Inside (numbers_of r) vs) where
  many : length (op_of r ∷ vs) ≡ length (fields_of r)
  many = ap suc i.long ∙ sym (length-narrows (op_number ∷ numbers_of r))

  frame-length : length (frame_of r vs) ≡ len_of r
  frame-length = length-tab (len_of r) (byte_of (fields_of r) (op_of r ∷ vs))

  -- what the row's fields, the opcode's with them, read in it
  read_back : reads (fields_of r) (bytes (frame_of r vs)) ≡ op_of r ∷ vs
  unfolding fitting narrows_of narrow_of
  read_back =
      checked-reads (len_of r) (fields_of r) (op_of r ∷ vs) lay many
      (and_in (ltb (op_of r) 65536) (fitting (narrows_of (numbers_of r)) vs) (lt→ltb (op_of r) 65536 small) i.fit)

  pub opcode-back : opcode (frame_of r vs) ≡ op_of r
  unfolding reads narrows_of
  opcode-back = let e = read_back in cc

  arguments-back : arguments_in r (frame_of r vs) ≡ vs
  unfolding reads narrows_of
  arguments-back = let e = read_back in cc

  -- no bit of it is stray
  stray-back : stray_at r (frame_of r vs) ≡ length (frame_of r vs)
  stray-back =
      stray-clean (mask_of (fields_of r)) (frame_of r vs)
      (λ j l. let l' : j < len_of r = omega (arith, frame-length) in
      let e : bytes (frame_of r vs) j ≡ byte_of (fields_of r) (op_of r ∷ vs) j = get_d-tab (len_of r) (byte_of (fields_of r) (op_of r ∷ vs)) j l' in
      ap (λ (x : ℕ). bit_and x (mask_of (fields_of r) j)) e ∙ clean (len_of r) (fields_of r) (op_of r ∷ vs) lay many j ∙ sym e)

  judged-back : (k : ℕ) → judged k r (frame_of r vs) ≡ reading k vs
  unfolding judged
  judged-back k =
      let z : lacking_at r (frame_of r vs) ≡ length (frame_of r vs) = ap (lacking (length (frame_of r vs)) (numbers_of r)) arguments-back
      ∙ i.taken (length (frame_of r vs)) in
      let q : ltb (length (frame_of r vs)) (length (frame_of r vs)) ≡ false = le-ltb (length (frame_of r vs)) (length (frame_of r vs)) (omega arith) in
      simp (stray-back, z, q) (ap (reading k) arguments-back)

pub decode-found : (f : List ℕ) (i : ℕ) → 2 ≤ length f → find rows (opcode f) (length f) ≡ i → i < kinds → decode f ≡ judged (suc i) (get_or rows i []) f
unfolding decode sought answered
decode-found f i h e l = simp (le-ltb (length f) 2 h, e, lt-ltb i kinds l)

pub row-decodes : (i : ℕ) (vs : List ℕ) → i < kinds → first_misfit allows 1 (numbers_of (get_or rows i [])) vs ≡ None
    → decode (frame_of (get_or rows i []) vs) ≡ reading (suc i) vs
row-decodes i vs h e =
    let r : List ℕ = get_or rows i [] in
    let z : Laid r = row_laid i h in
    let n : Inside (numbers_of r) vs = inside 1 (numbers_of r) vs e in
    let o : op_of r < 65536 = row-opcode i h in
    let el : length (frame_of r vs) ≡ len_of r = frame-length r vs z.apart-narrowed o n in
    decode-found (frame_of r vs) i (omega (arith, z.least)) (ap₂ (find rows) (opcode-back r vs z.apart-narrowed o n) el ∙ row-found i h) h
    ∙ judged-back r vs z.apart-narrowed o n (suc i)

-- ---- what it takes that the checked builder makes a frame

pub record Made (k : ℕ) (vs f : List ℕ) : Type 0 where
  pub low : 0 < k
  pub high : k ≤ kinds
  pub none : first_misfit allows 1 (numbers_of (row_of k)) vs ≡ None
  pub gives : frame_of (row_of k) vs ≡ f

unless-made : (m : Option ℕ) (g f : List ℕ) → unless m g ≡ makes f → (m ≡ None) × (g ≡ f)
unfolding unless
unless-made None g f e = (refl, cc)
unless-made (Some n) g f e = absurd (refuses-makes e)

pub made : (k : ℕ) (vs f : List ℕ) → checked k vs ≡ makes f → Made k vs f
unfolding builds
made k vs f e = go (ltb 0 k) (leb k kinds) refl refl e
  where
    m : Option ℕ
    m = first_misfit allows 1 (numbers_of (row_of k)) vs

    go : (a b : Bool) → ltb 0 k ≡ a → leb k kinds ≡ b → cond (a && b) (unless m (frame_of (row_of k) vs)) (builder.refuses NotAKind) ≡ makes f → Made k vs f
    go true true p q z =
        let u = unless-made m (frame_of (row_of k) vs) f z in
        record { low = ltb-true 0 k p; high = leb→le k kinds (of-true _ q); none = u.0; gives = u.1 }
    go true false p q z = absurd (refuses-makes z)
    go false b p q z = absurd (refuses-makes z)

-- ---- what it takes that a frame decodes

pub record Read (f : List ℕ) (k : ℕ) (vs : List ℕ) : Type 0 where
  pub at : ℕ
  pub kind : k ≡ suc at
  pub row : at < kinds
  pub gives : frame_of (get_or rows at []) vs ≡ f
  pub none : first_misfit allows 1 (numbers_of (get_or rows at [])) vs ≡ None

-- the frame of what a clean frame holds is the frame
frame-again : (r f : List ℕ) → opcode f ≡ op_of r → len_of r ≡ length f → length f ≤ stray_at r f → frame_of r (arguments_in r f) ≡ f
unfolding reads narrows_of
frame-again r f eo el h =
    ap₂ (λ (n o : ℕ). tab n (byte_of (fields_of r) (o ∷ arguments_in r f))) el (sym eo)
    ∙ frame_back (fields_of r) f (none-stray (mask_of (fields_of r)) f h)

judged-read : (i k : ℕ) (f vs : List ℕ) → i < kinds → opcode f ≡ op_of (get_or rows i []) → len_of (get_or rows i []) ≡ length f
    → judged (suc i) (get_or rows i []) f ≡ reading k vs → Read f k vs
unfolding judged
judged-read i k f vs h eo el e = go (ltb (stray_at r f) (length f)) (ltb (lacking_at r f) (length f)) refl refl e
  where
    r : List ℕ
    r = get_or rows i []

    xs : List ℕ
    xs = arguments_in r f

    go : (a b : Bool) → ltb (stray_at r f) (length f) ≡ a → ltb (lacking_at r f) (length f) ≡ b
        → cond a (decoder.refuses (StrayBit (stray_at r f))) (cond b (decoder.refuses (UnknownCode (lacking_at r f))) (reading (suc i) xs)) ≡ reading k vs
        → Read f k vs
    go true b p q z = absurd (refuses-reading z)
    go false true p q z = absurd (refuses-reading z)
    go false false p q z =
        let ev : xs ≡ vs = cc in
        let ek : k ≡ suc i = cc in
        let st : T (all_fit (length f) (numbers_of r)) = subst (λ (n : ℕ). T (all_fit n (numbers_of r))) el (row_fits i h) in record {
          at = i;
          kind = ek;
          row = h;
          gives = ap (frame_of r) (sym ev) ∙ frame-again r f eo el (ltb-false _ _ p);
          none = ap (first_misfit allows 1 (numbers_of r)) (sym ev) ∙ none-fails (length f) 1 (numbers_of r) xs (reads_fit (narrows_of (numbers_of r)) (bytes f))
              st (ltb-false _ _ q);
        }

pub decode-read : (f : List ℕ) (k : ℕ) (vs : List ℕ) → decode f ≡ reading k vs → Read f k vs
unfolding decode answered
decode-read f k vs e = go (ltb (length f) 2) (sought (opcode f) (length f)) refl e
  where
    go : (a : Bool) (x : Result ℕ Refusal) → sought (opcode f) (length f) ≡ x → cond a (decoder.refuses ShortFrame) (answered f x) ≡ reading k vs → Read f k vs
    go true x p z = absurd (refuses-reading z)
    go false (Err y) p z = absurd (refuses-reading z)
    go false (Ok i) p z =
        let g : Found (opcode f) (length f) i = sought-row (opcode f) (length f) i p in
        judged-read i k f vs g.row (sym g.has.0) g.has.1 z
