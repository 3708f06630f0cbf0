-- The lines as they are written: by forms with numbers filled in, and bank by bank.
-- Assumes nothing.
use mathlib.Core.Path.{◌≡◌, refl, sym, ap, ◌∙◌}
use mathlib.Core.List.{List, [], ◌∷◌, ◌++◌, append_assoc, append-nil}
use Prim.Native.Nat.{ℕ, zero, suc, ◌+◌, ◌/◌, ◌%◌, ◌<◌}
use native.Mathlib.Omega.{arith}
use native.Mathlib.Numerals.{add-one}
use lib.ListN.{length, get_or, take}
use Rattle.reading.specs.Decimal.{digit, decimal}
use Rattle.reading.specs.Level.{tenths}
use Rattle.reading.proofs.Decimals.{decimal-one}
use Rattle.texts.specs.Words.{word, spaced, line}
use Rattle.texts.specs.Written.{filled}
use Rattle.texts.proofs.Forms.{filled-then}
use Rattle.rx_bw.specs.Width.{name_of}
use Rattle.widths_text.specs.Text.{millionths, width_text, bank_line, bank_lines}

-- a digit as a number of a form
digit-one : (n : ℕ) → decimal (n % 10) ≡ digit n ∷ []
digit-one n =
    let e : n % 10 % 10 ≡ n % 10 = omega arith in
    decimal-one (n % 10) (omega arith) ∙ ap (λ (d : ℕ). (48 + d) ∷ []) e

pub millionths-form : (v : ℕ) → millionths v
    ≡ filled (word "0.123456")
    (v / 1000000 ∷ v / 100000 % 10 ∷ v / 10000 % 10 ∷ v / 1000 % 10 ∷ v / 100 % 10 ∷ v / 10 % 10 ∷ v % 10 ∷ []) []
unfolding millionths filled
millionths-form v = simp digit-one

pub bank-form : (k need c : ℕ) → bank_line k need c
    ≡ filled (word "0 1 2 3.4 ") (k ∷ need ∷ c ∷ name_of c / 10 ∷ name_of c % 10 ∷ []) [] ++ (width_text c ++ (10 ∷ []))
unfolding bank_line line spaced tenths filled
bank-form k need c = sym (filled-then (word "0 1 2 3.4 ") (k ∷ need ∷ c ∷ name_of c / 10 ∷ name_of c % 10 ∷ []) [] (width_text c ++ (10 ∷ []))
    ∙ simp (digit-one, append_assoc))

pub refused-form : (a b : ℕ) → line (word "refused") (decimal a ∷ []) ≡ filled (word "refused 0\n") (a ∷ b ∷ []) []
unfolding line spaced filled
refused-form a b = refl

pub bank-refused-form : (a b : ℕ) → line (word "refused") (decimal a ∷ word "at" ∷ word "bank" ∷ decimal b ∷ [])
    ≡ filled (word "refused 0 at bank 1\n") (a ∷ b ∷ []) []
unfolding line spaced filled
bank-refused-form a b = refl

-- one bank more, behind the first i
lines-suc : (k : ℕ) (ns cs : List ℕ) (i : ℕ) → i < length ns → i < length cs
    → bank_lines k (take (suc i) ns) (take (suc i) cs) ≡ bank_lines k (take i ns) (take i cs) ++ bank_line (suc (k + i)) (get_or ns i 0) (get_or cs i 0)
unfolding bank_lines
lines-suc k [] cs i h g = absurd (omega arith)
lines-suc k (n ∷ ns) [] i h g = absurd (omega arith)
lines-suc k (n ∷ ns) (c ∷ cs) zero h g =
    let e : k ≡ k + 0 = omega arith in
    append-nil (bank_line (suc k) n c) ∙ ap (λ (j : ℕ). bank_line (suc j) n c) e
lines-suc k (n ∷ ns) (c ∷ cs) (suc i) h g =
    let e : suc k + i ≡ k + suc i = omega arith in
    let a : List ℕ = bank_line (suc k) n c in
    let b : List ℕ = bank_lines (suc k) (take i ns) (take i cs) in
    let z : ℕ → List ℕ = λ (j : ℕ). bank_line (suc j) (get_or ns i 0) (get_or cs i 0) in
    ap (λ (l : List ℕ). a ++ l) (lines-suc (suc k) ns cs i (omega arith) (omega arith) ∙ ap (λ (j : ℕ). b ++ z j) e) ∙ sym (append_assoc a b (z (k + suc i)))

pub lines_next : (ns cs : List ℕ) (i : ℕ) → i < length ns → i < length cs
    → bank_lines 0 (take (i + 1) ns) (take (i + 1) cs) ≡ bank_lines 0 (take i ns) (take i cs) ++ bank_line (i + 1) (get_or ns i 0) (get_or cs i 0)
lines_next ns cs i h g =
    let e : suc (0 + i) ≡ i + 1 = omega arith in
    ap (λ (j : ℕ). bank_lines 0 (take j ns) (take j cs)) (add-one i) ∙ lines-suc 0 ns cs i h g
    ∙ ap (λ (j : ℕ). bank_lines 0 (take i ns) (take i cs) ++ bank_line j (get_or ns i 0) (get_or cs i 0)) e
