-- Loops that store one byte a turn: each turn takes a paste one byte further, at its end or at its front. And what the library's methods leave, as pastes:
-- a part overwritten (`part-paste`), and two bytes set (`word-paste`).
-- Assumes nothing.
use mathlib.Core.Path.{ap, ap₂, sym, ◌∙◌, ◌≡◌}
use mathlib.Core.List.{List, [], append_assoc, ◌++◌, ◌∷◌}
use Prim.Native.Nat.{suc, zero, ℕ, ◌%◌, ◌+◌, ◌-◌, ◌/◌, ◌<◌, ◌≤◌}
use native.Mathlib.Numerals.{add-one}
use native.Mathlib.Omega.{arith}
use borrow.Rule.Slice.PartMut.{put_mid}
use lib.ListN.{drop, get_or, length, length-append, length-drop, set, take}
use lib.Seq.{drop-cons, get_or-append-add, get_or-drop, get_or-take, length_paste_head, length-take-le, paste, paste-suc, paste-zero, set-append_left}
use lib.Seq.{sets-eq, take_at, take-set-lt, take-suc-set}
use Rattle.std.proofs.lemmas.Slice.{put_mid-paste}
use Rattle.std.specs.Int.{to_be_bytes, w16}
use Rattle.spans.specs.Spans.{set_word}

pub paste-next : (d : List ℕ) (at : ℕ) (s : List ℕ) (j v : ℕ) → at + j < length d → j < length s → v ≡ get_or s j 0
    → set (paste d at s j) (at + j) v ≡ paste d at s (j + 1)
paste-next d at s j v a b e =
    ap (λ (x : ℕ). set (paste d at s j) (at + j) x) e
    ∙ paste-suc d at s j 0 a b
    ∙ ap (λ (x : ℕ). paste d at s x) (sym (add-one j))

pub get_d-paste-past : (d : List ℕ) (at : ℕ) (s : List ℕ) (n i : ℕ) → at ≤ length d → n ≤ length s → at + n ≤ i → get_or (paste d at s n) i 0 ≡ get_or d i 0
get_d-paste-past d at s n i a b h =
    ap (λ (x : ℕ). get_or (paste d at s n) x 0) e
    ∙ get_or-append-add (take at d ++ take n s) (drop (at + n) d) (i - (at + n)) 0
    ∙ get_or-drop (at + n) d (i - (at + n)) 0
    ∙ ap (λ (x : ℕ). get_or d x 0) e2
  where
    e : i ≡ length (take at d ++ take n s) + (i - (at + n))
    e = omega (arith, length_paste_head d at s n a b)

    e2 : at + n + (i - (at + n)) ≡ i
    e2 = omega arith

pub slide-byte : (d : List ℕ) (at gap i : ℕ) → at + gap + i < length d
    → get_or (paste d at (drop (at + gap) d) i) (at + gap + i) 0 ≡ get_or (drop (at + gap) d) i 0
slide-byte d at gap i h =
    get_d-paste-past d at (drop (at + gap) d) i (at + gap + i) (omega arith) (omega (arith, length-drop (at + gap) d)) (omega arith)
    ∙ sym (get_or-drop (at + gap) d i 0)

-- ---- from the top down

-- one byte more in front of what is pasted
paste-prev : (d : List ℕ) (p : ℕ) (s : List ℕ) (n v : ℕ) → p < length d → set (paste d (suc p) s n) p v ≡ paste d p (v ∷ s) (suc n)
paste-prev d p s n v h =
    set-append_left (take (suc p) d ++ take n s) (drop (suc p + n) d) p v room
    ∙ ap₂ (λ (x : List ℕ) (i : ℕ). x ++ drop i d)
    (set-append_left (take (suc p) d) (take n s) p v (omega (arith, len))
    ∙ ap (λ (x : List ℕ). x ++ take n s) (sym (take-set-lt (suc p) d p v (omega arith)) ∙ take-suc-set d p v h)
    ∙ append_assoc (take p d) (v ∷ []) (take n s))
    e
  where
    len : length (take (suc p) d) ≡ suc p
    len = length-take-le (suc p) d (omega arith)

    room : p < length (take (suc p) d ++ take n s)
    room = omega (arith, len, length-append (take (suc p) d) (take n s))

    e : suc p + n ≡ p + suc n
    e = omega arith

-- a byte before what is pasted is as it was
get_d-paste-before : (d : List ℕ) (p : ℕ) (s : List ℕ) (n i : ℕ) → p ≤ length d → i < p → get_or (paste d p s n) i 0 ≡ get_or d i 0
get_d-paste-before d p s n i h a =
    sym (get_or-take p (paste d p s n) i 0 a)
    ∙ ap (λ (x : List ℕ). get_or x i 0)
    (ap (take p) (append_assoc (take p d) (take n s) (drop (p + n) d)) ∙ take_at (take p d) (take n s ++ drop (p + n) d) p (length-take-le p d h))
    ∙ get_or-take p d i 0 a

-- the bytes from i to m moved up by gap
abbrev pub raised : List ℕ → ℕ → ℕ → ℕ → ℕ → List ℕ
raised d at gap m i = paste d (at + gap + i) (drop (at + i) d) (m - i)

-- a turn: byte j goes up too
pub raised-next : (d : List ℕ) (at gap m i j : ℕ) → at + gap + m ≤ length d → i ≤ m → j + 1 ≡ i
    → set (raised d at gap m i) (at + gap + j) (get_or (raised d at gap m i) (at + j) 0) ≡ raised d at gap m j
raised-next d at gap m i j h a e =
    ap (λ (v : ℕ). set (raised d at gap m i) (at + gap + j) v)
    (get_d-paste-before d (at + gap + i) (drop (at + i) d) (m - i) (at + j) (omega arith) (omega arith))
    ∙ ap₂ (λ (p q : ℕ). set (paste d p (drop q d) (m - i)) (at + gap + j) (get_or d (at + j) 0)) up q
    ∙ paste-prev d (at + gap + j) (drop (suc (at + j)) d) (m - i) (get_or d (at + j) 0) (omega arith)
    ∙ ap₂ (λ (s : List ℕ) (n : ℕ). paste d (at + gap + j) s n) (sym (drop-cons d (at + j) 0 (omega arith))) n
  where
    up : at + gap + i ≡ suc (at + gap + j)
    up = omega arith

    q : at + i ≡ suc (at + j)
    q = omega arith

    n : suc (m - i) ≡ m - j
    n = omega arith

pub raised-none : (d : List ℕ) (at gap m : ℕ) → d ≡ raised d at gap m m
raised-none d at gap m = paste-zero d (at + gap + m) (drop (at + m) d) ∙ ap (λ (n : ℕ). paste d (at + gap + m) (drop (at + m) d) n) (z m)
  where
    z : (m : ℕ) → zero ≡ m - m
    z m = omega arith

pub raised_all : (d : List ℕ) (at gap m i : ℕ) → i ≤ 0 → raised d at gap m i ≡ paste d (at + gap) (drop at d) m
raised_all d at gap m i h = ap₂ (λ (p q : ℕ). paste d p (drop q d) (m - i)) a b ∙ ap (λ (n : ℕ). paste d (at + gap) (drop at d) n) c
  where
    a : at + gap + i ≡ at + gap
    a = omega arith

    b : at + i ≡ at
    b = omega arith

    c : m - i ≡ m
    c = omega arith

-- ---- what the library's methods leave

-- the part of n bytes from at on, with other bytes in it
pub part-paste : (d : List ℕ) (at n : ℕ) (s t : List ℕ) → t ≡ s → n ≡ length s → put_mid at (at + n - at) d t ≡ paste d at s n
part-paste d at n s t e h = put_mid-paste at (at + n - at) d t s n e (omega arith) h

pub word-paste : (d : List ℕ) (i v : ℕ) → v < 65536 → i + 2 ≤ length d → paste d i (to_be_bytes w16 v) 2 ≡ set_word d i v
unfolding set_word
word-paste d i v s h =
    let high : v / 256 % 256 ≡ v / 256 = omega arith in
    sym (sets-eq (v / 256 % 256 ∷ v % 256 ∷ []) d i h)
    ∙ ap₂ (λ (x j : ℕ). set (set d i x) j (v % 256)) high (sym (add-one i))
