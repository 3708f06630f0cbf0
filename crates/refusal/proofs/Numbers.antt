-- Every refusal has a number from 1 to 22 (`number-bounds`), and number and place tell which it is (`refusals-same`).
-- Assumes nothing.
use mathlib.Core.Path.{ap₂, refl, sym, ◌∙◌, ◌≡◌}
use mathlib.Core.List.{[], ◌∷◌}
use Prim.Native.Nat.{ℕ, ◌≤◌}
use native.Mathlib.Omega.{arith}
use lib.ListN.{get_or}
use Rattle.refusal.specs.Numbers.{number_of, place_of}
use Rattle.refusal.specs.declared.Refusal.{Refusal}
use Rattle.refusal.specs.declared.Refusal.TheVariants.{ShortFrame, UnknownOpcode, WrongLength, StrayBit, UnknownCode}
use Rattle.refusal.specs.declared.Refusal.TheVariants.{ArgumentOutside, ResponseLength, NoRoom, NotHeld, NotWellFormed}
use Rattle.refusal.specs.declared.Refusal.TheVariants.{BufferSize, OutputShort, NotAKind, ReelCut, TraceFault, BothForms, OwnersWrong, OtherSide}
use Rattle.refusal.specs.declared.Refusal.TheVariants.{NoWidth, NotNarrowest, ListLength, SettingMissing}

pub number-bounds : (x : Refusal) → (1 ≤ number_of x) × (number_of x ≤ 22)
number-bounds ShortFrame = (omega arith, omega arith)
number-bounds UnknownOpcode = (omega arith, omega arith)
number-bounds WrongLength = (omega arith, omega arith)
number-bounds (StrayBit at) = (omega arith, omega arith)
number-bounds (UnknownCode at) = (omega arith, omega arith)
number-bounds (ArgumentOutside at) = (omega arith, omega arith)
number-bounds ResponseLength = (omega arith, omega arith)
number-bounds NoRoom = (omega arith, omega arith)
number-bounds NotHeld = (omega arith, omega arith)
number-bounds NotWellFormed = (omega arith, omega arith)
number-bounds BufferSize = (omega arith, omega arith)
number-bounds OutputShort = (omega arith, omega arith)
number-bounds NotAKind = (omega arith, omega arith)
number-bounds ReelCut = (omega arith, omega arith)
number-bounds (TraceFault at) = (omega arith, omega arith)
number-bounds BothForms = (omega arith, omega arith)
number-bounds OwnersWrong = (omega arith, omega arith)
number-bounds OtherSide = (omega arith, omega arith)
number-bounds (NoWidth bank) = (omega arith, omega arith)
number-bounds (NotNarrowest bank) = (omega arith, omega arith)
number-bounds ListLength = (omega arith, omega arith)
number-bounds SettingMissing = (omega arith, omega arith)

-- the refusal of a number, with its place
abbrev refusal_by : ℕ → ℕ → Refusal
refusal_by n p =
    get_or
    (ShortFrame ∷ ShortFrame ∷ UnknownOpcode ∷ WrongLength ∷ StrayBit p ∷ UnknownCode p ∷ ArgumentOutside p ∷ ResponseLength ∷ NoRoom ∷ NotHeld
    ∷ NotWellFormed ∷ BufferSize ∷ OutputShort ∷ NotAKind ∷ ReelCut ∷ TraceFault p ∷ BothForms ∷ OwnersWrong ∷ OtherSide ∷ NoWidth p
    ∷ NotNarrowest p ∷ ListLength ∷ SettingMissing ∷ [])
    n ShortFrame

refusal-known : (x : Refusal) → refusal_by (number_of x) (place_of x) ≡ x
refusal-known ShortFrame = refl
refusal-known UnknownOpcode = refl
refusal-known WrongLength = refl
refusal-known (StrayBit p) = refl
refusal-known (UnknownCode p) = refl
refusal-known (ArgumentOutside p) = refl
refusal-known ResponseLength = refl
refusal-known NoRoom = refl
refusal-known NotHeld = refl
refusal-known NotWellFormed = refl
refusal-known BufferSize = refl
refusal-known OutputShort = refl
refusal-known NotAKind = refl
refusal-known ReelCut = refl
refusal-known (TraceFault p) = refl
refusal-known BothForms = refl
refusal-known OwnersWrong = refl
refusal-known OtherSide = refl
refusal-known (NoWidth p) = refl
refusal-known (NotNarrowest p) = refl
refusal-known ListLength = refl
refusal-known SettingMissing = refl

pub refusals-same : (x y : Refusal) → number_of x ≡ number_of y → place_of x ≡ place_of y → x ≡ y
refusals-same x y n p = sym (refusal-known x) ∙ ap₂ refusal_by n p ∙ refusal-known y
