-- The fields of a frame together: the bytes that their values give, the values that bytes hold, and the test of a layout.
-- Assumes nothing.
use Rattle.std.specs.Prelude.{ℕ, zero, suc, ◌%◌, ◌^◌, Bool, true, false, cond, ◌&&◌, List, [], ◌∷◌, ltb, eqb, get_or, length}
use Rattle.std.specs.Int.Bits.{bit_and, bit_or}
use Rattle.frame.specs.declared.Field.{Field}
use Rattle.frame.specs.Field.{part, mask, read, sound}

-- the bytes of a list, 0 past its end
abbrev pub bytes : List ℕ → ℕ → ℕ
bytes l i = get_or l i 0

-- the list of the first n bytes
unfoldable pub tab_from : ℕ → ℕ → (ℕ → ℕ) → List ℕ
tab_from i zero b = []
tab_from i (suc n) b = b i ∷ tab_from (suc i) n b

unfoldable pub tab : ℕ → (ℕ → ℕ) → List ℕ
tab n b = tab_from 0 n b

-- ---- packing

-- byte i of the frame that the values vs of the fields fs give: all that they put there, ORed
unfoldable pub byte_of : List Field → List ℕ → ℕ → ℕ
byte_of [] vs i = 0
byte_of (f ∷ fs) [] i = 0
byte_of (f ∷ fs) (v ∷ vs) i = bit_or (part f v i) (byte_of fs vs i)

-- the bytes s with the value v of the field f ORed into them; a field that is none puts nothing
unfoldable pub put : List ℕ → Field → ℕ → List ℕ
put s f v = cond (sound 16 f) (tab (length s) (λ i. bit_or (bytes s i) (part f v i))) s

-- with a value for each field, one after another
abbrev pub puts : List ℕ → List Field → List ℕ → List ℕ
puts s [] vs = s
puts s (f ∷ fs) [] = s
puts s (f ∷ fs) (v ∷ vs) = puts (put s f v) fs vs

-- ---- reading

-- the number that the field f holds; a field that is none holds 0
unfoldable pub get : List ℕ → Field → ℕ
get s f = cond (sound 16 f) (read f (bytes s)) 0

-- the number of each field
unfoldable pub reads : List Field → (ℕ → ℕ) → List ℕ
reads [] b = []
reads (f ∷ fs) b = read f b ∷ reads fs b

-- the bits of byte i that any of the fields holds
unfoldable pub mask_of : List Field → ℕ → ℕ
mask_of [] i = 0
mask_of (f ∷ fs) i = bit_or (mask f i) (mask_of fs i)

-- the values, each cut to its field
unfoldable pub cut : List Field → List ℕ → List ℕ
cut [] vs = []
cut (f ∷ fs) [] = []
cut (f ∷ fs) (v ∷ vs) = v % 2 ^ f.w ∷ cut fs vs

-- whether there is a value for each field, and it fits
unfoldable pub fitting : List Field → List ℕ → Bool
fitting [] [] = true
fitting [] (v ∷ vs) = false
fitting (f ∷ fs) [] = false
fitting (f ∷ fs) (v ∷ vs) = ltb v (2 ^ f.w) && fitting fs vs

-- ---- the test of a layout

-- every field lies within len bytes
unfoldable pub sound_all : ℕ → List Field → Bool
sound_all len [] = true
sound_all len (f ∷ fs) = sound len f && sound_all len fs

-- two fields share no bit of the first n bytes
unfoldable pub apart : ℕ → Field → Field → Bool
apart zero f g = true
apart (suc n) f g = eqb (bit_and (mask f n) (mask g n)) 0 && apart n f g

-- a field shares none with any of fs
unfoldable pub apart_all : ℕ → Field → List Field → Bool
apart_all n f [] = true
apart_all n f (g ∷ gs) = apart n f g && apart_all n f gs

-- no two of fs share one
unfoldable pub disjoint : ℕ → List Field → Bool
disjoint n [] = true
disjoint n (f ∷ fs) = apart_all n f fs && disjoint n fs

-- fields within len bytes that share no bit
abbrev pub layout : ℕ → List Field → Bool
layout len fs = sound_all len fs && disjoint len fs
