-- What each digit of a row's head says of the row: tests, computed over all rows. Assumes nothing.
use mathlib.Core.Path.{◌≡◌, ap, ◌∙◌}
use mathlib.Core.List.{[]}
use Prim.Native.Nat.{ℕ, suc, ◌-◌, ◌/◌, ◌%◌, ◌<◌, min}
use native.Mathlib.Omega.{arith}
use lib.Dec.{T, eqb, eqb→eq}
use lib.ListN.{get_or}
use Rattle.table.proofs.Below.{below, below_at}
use Rattle.table.specs.Table.{kinds, rows, op_of, len_of, count_of, slot_of}
use Rattle.table.specs.Heads.{length_for, head_for, head_at}

-- two numbers that are the same of every row
every : (f g : ℕ → ℕ) → T (below (λ k. eqb (f k) (g k)) kinds) → (k : ℕ) → k < kinds → f k ≡ g k
every f g t k h = eqb→eq (f k) (g k) (below_at (λ (j : ℕ). eqb (f j) (g j)) kinds k t h)

pub head-place : (k : ℕ) → k < kinds → head_for k / 1048576 ≡ k
unfolding below
head-place = every (λ k. head_for k / 1048576) (λ k. k) tt

pub head-length : (k : ℕ) → k < kinds → head_for k / 16 % 16 ≡ len_of (get_or rows k [])
unfolding below
head-length = every (λ k. head_for k / 16 % 16) (λ k. len_of (get_or rows k [])) tt

pub head-next : (k : ℕ) → k < kinds → head_for k % 16 ≡ length_for (op_of (get_or rows k [])) (get_or rows (suc k) [])
unfolding below
head-next = every (λ k. head_for k % 16) (λ k. length_for (op_of (get_or rows k [])) (get_or rows (suc k) [])) tt

pub head-count : (k : ℕ) → k < kinds → head_for k / 256 % 16 ≡ count_of (get_or rows k [])
unfolding below
head-count = every (λ k. head_for k / 256 % 16) (λ k. count_of (get_or rows k [])) tt

pub head-slot : (k : ℕ) → k < kinds → head_for k / 4096 % 256 ≡ slot_of (get_or rows k [])
unfolding below
head-slot = every (λ k. head_for k / 4096 % 256) (λ k. slot_of (get_or rows k [])) tt

pub head-at-slot : (k : ℕ) → k < kinds → head_at k / 4096 % 256 ≡ slot_of (get_or rows k [])
unfolding head_at
head-at-slot k h = let e : min k (kinds - 1) ≡ k = omega arith in ap (λ (j : ℕ). head_for j / 4096 % 256) e ∙ head-slot k h
