-- Where 4 and 5 stand: at the lowest such byte (REFERENCE, "Refusals").
--     four-lowest, lowest-four   4 at p is given exactly if p is the lowest byte with a bit that no field of the frame's row holds
--     five-lowest, lowest-five   5 at p exactly if there is no such byte, and p is the lowest at which a field starts that does not take what it holds
-- The frame's row has its opcode and length; there is at most one (`row_one`, table, proofs/Rows.antt).
-- Assumes nothing.
use mathlib.Core.Path.{◌≡◌, refl, sym, ap, ap₂, ◌∙◌, subst}
use mathlib.Core.Logic.{⊎_elim}
use mathlib.Core.Bool.{Bool, true, false, cond, false≢true}
use mathlib.Core.List.{List, [], ◌∷◌}
use Prim.Native.Nat.{ℕ, zero, suc, ◌≤◌, ◌<◌, min, zero-le, suc-le-suc}
use native.Mathlib.Nat.{le_of_suc-le-suc, not-suc-le-zero}
use native.Mathlib.Omega.{arith}
use borrow.Author.Tests.{eqb-true, eqb-false, ltb-true, ltb-false, lt-ltb, le-ltb}
use lib.Bits.{bit_and}
use lib.Dec.{T, eqb, ltb, ltb→lt}
use Rattle.std.specs.Prelude.{Result, Ok, Err}
use lib.ListN.{length, get_or}
use Rattle.frame.specs.Field.{read}
use Rattle.frame.specs.Layout.{bytes, mask_of, reads, tab, tab_from}
use Rattle.frame.proofs.OneField.{le-or-lt}
use Rattle.frame.proofs.Fields.{both_left, both_right}
use Rattle.table.specs.Number.{narrow_of, narrows_of, codes_of}
use Rattle.table.specs.Codes.{takes}
use Rattle.table.specs.Table.{kinds, rows, row_at, op_of, len_of, numbers_of}
use Rattle.table.specs.Laid.{find}
use Rattle.table.specs.Narrowed.{fields_of, opcode, arguments_in}
use Rattle.table.proofs.Rows.{row-at, row-found, row_laid}
use Rattle.refusal.specs.declared.Refusal.{Refusal}
use Rattle.refusal.specs.declared.Refusal.TheVariants.{ShortFrame, WrongLength, UnknownOpcode, StrayBit, UnknownCode}
use Rattle.refusal.specs.Numbers.{number_of}
use Rattle.decoder.specs.Decoding.{Reading, reading, refuses, stray, lacking, stray_at, lacking_at, judged, known, sought, answered, decode}
use Rattle.decoder.proofs.Apart.{refuses-reading}
use Rattle.decoder.proofs.Clean.{start_below}
use Rattle.decoder.proofs.Returns.{judged-stray, sought-row, sought-none}
use Rattle.decoder.proofs.Arms.{row-starts}

-- ---- the words

-- the lowest number of which P holds
pub record Lowest (P : ℕ → Type 0) (p : ℕ) : Type 0 where
  pub here : P p
  pub least : (j : ℕ) → P j → p ≤ j

-- byte p of the frame has a bit that the masks m lack
pub record Unmasked (m : ℕ → ℕ) (f : List ℕ) (p : ℕ) : Type 0 where
  pub inside : p < length f
  pub over : bit_and (bytes f p) (m p) ≡ bytes f p → ⊥

-- at byte p one of the fields cs starts that does not take what it holds in the bytes b
pub record Lacks (cs : List ℕ) (b : ℕ → ℕ) (p : ℕ) : Type 0 where
  pub field : ℕ
  pub among : field < length cs
  pub starts : (narrow_of (get_or cs field 0)).first ≡ p
  pub untaken : takes (codes_of (get_or cs field 0)) (read (narrow_of (get_or cs field 0)) b) ≡ false

-- the row at i has the frame's opcode and length
pub record Has (f : List ℕ) (i : ℕ) : Type 0 where
  pub row : i < kinds
  pub opcode-is : op_of (get_or rows i []) ≡ opcode f
  pub length-is : len_of (get_or rows i []) ≡ length f

-- ---- the walk over the bytes stops at one with a stray bit, or at the end, and passes none

tab-shift : (i n : ℕ) (m : ℕ → ℕ) → tab_from (suc i) n m ≡ tab_from i n (λ j. m (suc j))
unfolding tab_from
tab-shift i zero m = refl
tab-shift i (suc n) m = ap (λ (l : List ℕ). m (suc i) ∷ l) (tab-shift (suc i) n m)

stray-next : (m : ℕ → ℕ) (b : ℕ) (bs : List ℕ)
    → stray (tab (suc (length bs)) m) (b ∷ bs) ≡ cond (eqb (bit_and b (m 0)) b) (suc (stray (tab (length bs) (λ j. m (suc j))) bs)) 0
unfolding stray tab tab_from
stray-next m b bs = ap (λ (ms : List ℕ). cond (eqb (bit_and b (m 0)) b) (suc (stray ms bs)) 0) (tab-shift 0 (length bs) m)

stray-stops : (m : ℕ → ℕ) (f : List ℕ) → stray (tab (length f) m) f < length f → Unmasked m f (stray (tab (length f) m) f)
stray-stops m [] h = absurd (not-suc-le-zero h)
stray-stops m (b ∷ bs) h =
    subst (Unmasked m (b ∷ bs)) (sym (stray-next m b bs))
    (by (eqb (bit_and b (m 0)) b) refl (subst (λ (s : ℕ). s < suc (length bs)) (stray-next m b bs) h) (stray-stops (λ j. m (suc j)) bs))
  where
    rest : ℕ
    rest = stray (tab (length bs) (λ j. m (suc j))) bs

    by : (t : Bool) → eqb (bit_and b (m 0)) b ≡ t → cond t (suc rest) 0 < suc (length bs) → (rest < length bs → Unmasked (λ j. m (suc j)) bs rest)
        → Unmasked m (b ∷ bs) (cond t (suc rest) 0)
    by true e l ih = record { inside = l; over = (ih (le_of_suc-le-suc l)).over }
    by false e l ih = record { inside = l; over = eqb-false (bit_and b (m 0)) b e }

stray-passes : (m : ℕ → ℕ) (f : List ℕ) (j : ℕ) → Unmasked m f j → stray (tab (length f) m) f ≤ j
stray-passes m [] j o = absurd (not-suc-le-zero o.inside)
stray-passes m (b ∷ bs) j o =
    subst (λ (s : ℕ). s ≤ j) (sym (stray-next m b bs)) (by (eqb (bit_and b (m 0)) b) refl j o (stray-passes (λ k. m (suc k)) bs))
  where
    rest : ℕ
    rest = stray (tab (length bs) (λ k. m (suc k))) bs

    by : (t : Bool) → eqb (bit_and b (m 0)) b ≡ t → (k : ℕ) → Unmasked m (b ∷ bs) k → ((i : ℕ) → Unmasked (λ n. m (suc n)) bs i → rest ≤ i)
        → cond t (suc rest) 0 ≤ k
    by false e k o ih = zero-le
    by true e zero o ih = absurd (o.over (eqb-true (bit_and b (m 0)) b e))
    by true e (suc k) o ih = suc-le-suc (ih k (record { inside = le_of_suc-le-suc o.inside; over = o.over }))

-- ---- the lowest of the fields that lack is one of them, and none is lower

module _ (n : ℕ) (b : ℕ → ℕ) where
  abbrev lacking_in : List ℕ → ℕ
  lacking_in cs = lacking n cs (reads (narrows_of cs) b)

  later : {p : ℕ} (c : ℕ) (cs : List ℕ) → Lacks cs b p → Lacks (c ∷ cs) b p
  later c cs l = record { field = suc l.field; among = suc-le-suc l.among; starts = l.starts; untaken = l.untaken }

  lacking-stops : (cs : List ℕ) → lacking_in cs < n → Lacks cs b (lacking_in cs)
  unfolding lacking reads narrows_of
  lacking-stops [] h = absurd (omega arith)
  lacking-stops (c ∷ cs) h = by (takes (codes_of c) (read (narrow_of c) b)) refl h (lacking-stops cs)
    where
      by : (t : Bool) → takes (codes_of c) (read (narrow_of c) b) ≡ t → cond t (lacking_in cs) (min (narrow_of c).first (lacking_in cs)) < n
          → (lacking_in cs < n → Lacks cs b (lacking_in cs)) → Lacks (c ∷ cs) b (cond t (lacking_in cs) (min (narrow_of c).first (lacking_in cs)))
      by true e l ih = later c cs (ih l)
      by false e l ih =
          ⊎_elim
          (λ k. record { field = 0; among = suc-le-suc zero-le; starts = omega (arith, k); untaken = e })
          (λ k. subst (Lacks (c ∷ cs) b) (omega (arith, k)) (later c cs (ih (omega (arith, k, l)))))
          (le-or-lt (narrow_of c).first (lacking_in cs))

  lacking-passes : (cs : List ℕ) (p : ℕ) → Lacks cs b p → lacking_in cs ≤ p
  unfolding lacking reads narrows_of
  lacking-passes [] p l = absurd (not-suc-le-zero l.among)
  lacking-passes (c ∷ cs) p l = by (takes (codes_of c) (read (narrow_of c) b)) refl l.field l.among l.starts l.untaken (lacking-passes cs p)
    where
      by : (t : Bool) → takes (codes_of c) (read (narrow_of c) b) ≡ t → (j : ℕ) → j < suc (length cs) → (narrow_of (get_or (c ∷ cs) j 0)).first ≡ p
          → takes (codes_of (get_or (c ∷ cs) j 0)) (read (narrow_of (get_or (c ∷ cs) j 0)) b) ≡ false → (Lacks cs b p → lacking_in cs ≤ p)
          → cond t (lacking_in cs) (min (narrow_of c).first (lacking_in cs)) ≤ p
      by true e zero a s u ih = absurd (false≢true (sym u ∙ e))
      by false e zero a s u ih = omega (arith, s)
      by true e (suc j) a s u ih = ih (record { field = j; among = le_of_suc-le-suc a; starts = s; untaken = u })
      by false e (suc j) a s u ih =
          let h = ih (record { field = j; among = le_of_suc-le-suc a; starts = s; untaken = u }) in
          omega (arith, h)

starts-below : (n : ℕ) (cs : List ℕ) (j : ℕ) → T (start_below n cs) → j < length cs → (narrow_of (get_or cs j 0)).first < n
unfolding start_below
starts-below n [] j t h = absurd (not-suc-le-zero h)
starts-below n (c ∷ cs) zero t h = ltb→lt (narrow_of c).first n (both_left (ltb (narrow_of c).first n) (start_below n cs) t)
starts-below n (c ∷ cs) (suc j) t h = starts-below n cs j (both_right (ltb (narrow_of c).first n) (start_below n cs) t) (le_of_suc-le-suc h)

-- ---- a frame of a row is judged by that row, and no other gets 4 or 5

has-judged : (f : List ℕ) (i : ℕ) → Has f i → decode f ≡ judged (suc i) (get_or rows i []) f
unfolding decode answered sought
has-judged f i h =
    let e : find rows (opcode f) (length f) ≡ i = ap₂ (find rows) (sym h.opcode-is) (sym h.length-is) ∙ row-found i h.row in
    let two : 2 ≤ length f = omega (arith, (row_laid i h.row).least, h.length-is) in
    let there : sought (opcode f) (length f) ≡ Ok i =
    ap (λ (k : ℕ). cond (ltb k kinds) (Ok k) (cond (known rows (opcode f)) (Err WrongLength) (Err UnknownOpcode))) e
    ∙ ap (λ (t : Bool). cond t (Ok i) (cond (known rows (opcode f)) (Err WrongLength) (Err UnknownOpcode))) (lt-ltb i kinds h.row) in
    ap (λ (t : Bool). cond t (refuses ShortFrame) (answered f (sought (opcode f) (length f)))) (le-ltb (length f) 2 two) ∙ ap (answered f) there

record Judged (f : List ℕ) (x : Refusal) : Type 0 where
  row : ℕ
  has : Has f row
  says : judged (suc row) (get_or rows row []) f ≡ refuses x

refused-judged : (f : List ℕ) (x : Refusal) → 4 ≤ number_of x → decode f ≡ refuses x → Judged f x
unfolding decode answered
refused-judged f x h e = by (ltb (length f) 2) (sought (opcode f) (length f)) refl e
  where
    not_so : (y : Refusal) → refuses y ≡ refuses x → number_of y ≤ 3 → ⊥
    not_so y z l = let q : y ≡ x = cc in omega (arith, ap number_of q)

    by : (a : Bool) (y : Result ℕ Refusal) → sought (opcode f) (length f) ≡ y → cond a (refuses ShortFrame) (answered f y) ≡ refuses x → Judged f x
    by true y p z = absurd (not_so ShortFrame z (omega arith))
    by false (Err y) p z =
        absurd (⊎_elim (λ e. not_so WrongLength (ap refuses (sym e) ∙ z) (omega arith)) (λ e. not_so UnknownOpcode (ap refuses (sym e) ∙ z) (omega arith))
        (sought-none (opcode f) (length f) y p))
    by false (Ok i) p z =
        let g = sought-row (opcode f) (length f) i p in
        record { row = i; has = record { row = g.row; opcode-is = g.has.0; length-is = g.has.1 }; says = z }

module _ (k : ℕ) (r f : List ℕ) where
  abbrev choice : Bool → Bool → Reading
  choice a b = cond a (refuses (StrayBit (stray_at r f))) (cond b (refuses (UnknownCode (lacking_at r f))) (reading k (arguments_in r f)))

  judged-four : (p : ℕ) → judged k r f ≡ refuses (StrayBit p) → (stray_at r f ≡ p) × (stray_at r f < length f)
  unfolding judged
  judged-four p e = by (ltb (stray_at r f) (length f)) refl (ltb (lacking_at r f) (length f)) e
    where
      by : (a : Bool) → ltb (stray_at r f) (length f) ≡ a → (b : Bool) → choice a b ≡ refuses (StrayBit p) → (stray_at r f ≡ p) × (stray_at r f < length f)
      by true h b z = (cc, ltb-true (stray_at r f) (length f) h)
      by false h true z = absurd (let w : ◌≡◌ {A = ℕ} 0 1 = cc in omega arith)
      by false h false z = absurd (refuses-reading (sym z))

  judged-five : (p : ℕ) → judged k r f ≡ refuses (UnknownCode p) → (length f ≤ stray_at r f) × (lacking_at r f ≡ p) × (lacking_at r f < length f)
  unfolding judged
  judged-five p e = by (ltb (stray_at r f) (length f)) refl (ltb (lacking_at r f) (length f)) refl e
    where
      by : (a : Bool) → ltb (stray_at r f) (length f) ≡ a → (b : Bool) → ltb (lacking_at r f) (length f) ≡ b → choice a b ≡ refuses (UnknownCode p)
          → (length f ≤ stray_at r f) × (lacking_at r f ≡ p) × (lacking_at r f < length f)
      by true h b j z = absurd (let w : ◌≡◌ {A = ℕ} 0 1 = cc in omega arith)
      by false h true j z = (ltb-false (stray_at r f) (length f) h, cc, ltb-true (lacking_at r f) (length f) j)
      by false h false j z = absurd (refuses-reading (sym z))

  five-judged : length f ≤ stray_at r f → lacking_at r f < length f → judged k r f ≡ refuses (UnknownCode (lacking_at r f))
  unfolding judged
  five-judged clean h = simp (le-ltb (stray_at r f) (length f) clean, lt-ltb (lacking_at r f) (length f) h)

-- ---- the laws

-- a bit of byte p is stray for the row at i; a field of that row lacks at byte p
abbrev pub StrayIn : ℕ → List ℕ → ℕ → Type 0
StrayIn i f = Unmasked (mask_of (fields_of (get_or rows i []))) f

abbrev pub LacksIn : ℕ → List ℕ → ℕ → Type 0
LacksIn i f = Lacks (numbers_of (get_or rows i [])) (bytes f)

module _ (f : List ℕ) (p : ℕ) where
  pub four-lowest : decode f ≡ refuses (StrayBit p) → (i : ℕ) × Has f i × Lowest (StrayIn i f) p
  four-lowest e =
      let j = refused-judged f (StrayBit p) (omega arith) e in
      let r = get_or rows j.row [] in
      let m = mask_of (fields_of r) in
      let q = judged-four (suc j.row) r f p j.says in
      (j.row, j.has, subst (Lowest (Unmasked m f)) q.0 (record { here = stray-stops m f q.1; least = stray-passes m f }))

  pub five-lowest : decode f ≡ refuses (UnknownCode p) → (i : ℕ) × Has f i × ((j : ℕ) → StrayIn i f j → ⊥) × Lowest (LacksIn i f) p
  five-lowest e =
      let j = refused-judged f (UnknownCode p) (omega arith) e in
      let r = get_or rows j.row [] in
      let q = judged-five (suc j.row) r f p j.says in
      let cs = numbers_of r in (
        j.row,
        j.has,
        (λ k o. omega (arith, q.0, o.inside, stray-passes (mask_of (fields_of r)) f k o)),
        subst (Lowest (LacksIn j.row f)) q.1
            (record { here = lacking-stops (length f) (bytes f) cs q.2; least = lacking-passes (length f) (bytes f) cs }),
      )

  module _ (i : ℕ) (h : Has f i) where
    abbrev r : List ℕ
    r = get_or rows i []

    abbrev m : ℕ → ℕ
    m = mask_of (fields_of r)

    pub lowest-four : Lowest (StrayIn i f) p → decode f ≡ refuses (StrayBit p)
    lowest-four l =
        let low = stray-passes m f p l.here in
        let high = l.least (stray_at r f) (stray-stops m f (omega (arith, low, l.here.inside))) in
        has-judged f i h ∙ judged-stray r f (suc i) p (omega (arith, low, high)) l.here.inside

    pub lowest-five : ((j : ℕ) → StrayIn i f j → ⊥) → Lowest (LacksIn i f) p → decode f ≡ refuses (UnknownCode p)
    lowest-five none l =
        let cs = numbers_of r in
        let s : T (start_below (length f) cs) = subst (λ (x : List ℕ). T (start_below (length f) (numbers_of x))) (row-at i h.row)
        (subst (λ (n : ℕ). T (start_below n (numbers_of (row_at i)))) (ap (λ (x : List ℕ). len_of x) (row-at i h.row) ∙ h.length-is) (row-starts i h.row)) in
        let inside : p < length f = omega (arith, l.here.starts, starts-below (length f) cs l.here.field s l.here.among) in
        let low = lacking-passes (length f) (bytes f) cs p l.here in
        let high = l.least (lacking_at r f) (lacking-stops (length f) (bytes f) cs (omega (arith, low, inside))) in
        let clean : length f ≤ stray_at r f = ⊎_elim (λ k. k) (λ k. absurd (none (stray_at r f) (stray-stops m f k))) (le-or-lt (length f) (stray_at r f)) in
        has-judged f i h ∙ five-judged (suc i) r f clean (omega (arith, low, inside)) ∙ ap (λ (q : ℕ). refuses (UnknownCode q)) (omega (arith, low, high))
