-- What an answer can be: a rule from 1 to 7 (`broken-bounds`); a refusal is the book's own or 22 (`refused-only`), and has no place
-- (`profiled-place`).
-- Assumes nothing.
use mathlib.Core.Path.{refl, subst, ◌≡◌}
use mathlib.Core.Bool.{Bool, cond, false, true}
use mathlib.Core.List.{List}
use mathlib.Core.Logic.{inl, inr, ◌⊎◌}
use Prim.Native.Nat.{ℕ, ◌≤◌}
use native.Mathlib.Omega.{arith}
use Rattle.std.specs.Prelude.{None, Ok, Option, Some}
use Rattle.refusal.specs.declared.Refusal.{Refusal}
use Rattle.refusal.specs.declared.Refusal.TheVariants.{SettingMissing}
use Rattle.refusal.specs.Numbers.{number_of, place_of}
use Rattle.contents.specs.Contents.{Contents, holds, refused}
use Rattle.contents.proofs.Places.{judge-own, judge-place}
use Rattle.book.specs.Book.{Read, layout_in, opened_for}
use Rattle.book.proofs.Places.{opened_for-says}
use Rattle.locker_profile.specs.Profile.{Answer, Broken, Refused, Yes, answer_for, answered, holds_all, lora_in, profile_of, profiled}
use Rattle.locker_profile.specs.declared.Lora.{Lora}
use Rattle.locker_profile.specs.Rules.{first_broken, rules}
use Rattle.locker_profile.proofs.Rules.{place-most}

-- what holds of each rule from 1 to 7, of 22 and of the book's own refusals holds of whatever is answered
module _ (R : ℕ → Type 0) (P : Refusal → Type 0) (rule : (n : ℕ) → 1 ≤ n → n ≤ 7 → R n) (missing : P SettingMissing) where
  abbrev Says : Answer → Type 0
  Says Yes = Unit
  Says (Broken n) = R n
  Says (Refused x) = P x

  judged-says : (n : Option ℕ) (x : Lora) → first_broken 1 rules x ≡ n → Says (Ok n)
  judged-says None x e = tt
  judged-says (Some n) x e = let b = place-most 1 n rules x e in rule n b.0 (omega (arith, b.1))

  profiled-says : (c : Contents) → ((x : Refusal) → c ≡ refused x → P x) → Says (profiled c)
  unfolding profile_of
  profiled-says (refused x) h = h x refl
  profiled-says (holds fs) h = by (holds_all fs)
    where
      by : (b : Bool) → Says (cond b (answered (lora_in fs)) (Refused SettingMissing))
      by true = judged-says (first_broken 1 rules (lora_in fs)) (lora_in fs) refl
      by false = missing

abbrev Rule : ℕ → Type 0
Rule n = (1 ≤ n) × (n ≤ 7)

abbrev Any : {A : Type 0} → A → Type 0
Any x = Unit

pub broken-bounds : (c : Contents) (n : ℕ) → profiled c ≡ Broken n → (1 ≤ n) × (n ≤ 7)
broken-bounds c n e = subst (Says Rule Any (λ i l m. (l, m)) tt) e (profiled-says Rule Any (λ i l m. (l, m)) tt c (λ x w. tt))

-- ---- refusals

-- the book's own: 10 or 11, or 16
abbrev pub Own : Refusal → Type 0
Own x = ((10 ≤ number_of x) × (number_of x ≤ 11)) ⊎ (number_of x ≡ 16)

pub opened_for-own : (b : List ℕ) (x : Refusal) → opened_for Read b ≡ refused x → Own x
opened_for-own b =
    opened_for-says Own (inr refl) b (λ y w. inl (judge-own (layout_in b) b y w)) Read

-- so neither 9 nor 22 is a book's own
pub own-not : (x : Refusal) → Own x → (number_of x ≡ 9 → ⊥) × (number_of x ≡ 22 → ⊥)
own-not x (inl h) = ((λ e. absurd (omega (arith, h.0))), λ e. absurd (omega (arith, h.1)))
own-not x (inr h) = ((λ e. absurd (omega arith)), λ e. absurd (omega arith))

-- A REFUSAL IS THE BOOK'S OWN, OR 22
pub refused-only : (b : List ℕ) (x : Refusal) → answer_for b ≡ Refused x → Own x ⊎ (x ≡ SettingMissing)
refused-only b x e =
    subst (Says Any (λ y. Own y ⊎ (y ≡ SettingMissing)) (λ i l m. tt) (inr refl)) e
    (profiled-says Any (λ y. Own y ⊎ (y ≡ SettingMissing)) (λ i l m. tt) (inr refl) (opened_for Read b) (λ y w. inl (opened_for-own b y w)))

pub profiled-place : (b : List ℕ) (x : Refusal) → answer_for b ≡ Refused x → place_of x ≡ 0
profiled-place b x e =
    subst (Says Any (λ y. place_of y ≡ 0) (λ i l m. tt) refl) e
    (profiled-says Any (λ y. place_of y ≡ 0) (λ i l m. tt) refl (opened_for Read b)
    (opened_for-says (λ y. place_of y ≡ 0) refl b (judge-place (layout_in b) b) Read))
