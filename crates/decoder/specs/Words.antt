-- A frame held in two words of eight bytes, as the decoder reads it, and the masks of a row in the same two words. Only contracts
-- of private functions cite these: what a frame says is in Decoding.antt. Assumes nothing.
use Rattle.std.specs.Prelude.{ℕ, zero, suc, ◌+◌, ◌-◌, ◌*◌, ◌/◌, ◌%◌, ◌^◌, ◌≡◌, Bool, true, false, cond, ◌&&◌, List, [], ◌∷◌, ◌++◌, T, eqb, leb, ltb, length, get_or, replicate}
use Rattle.std.specs.Int.Bits.{bit_and}
use Rattle.frame.specs.declared.Field.{Field}
use Rattle.frame.specs.Field.{size, sound, read}
use Rattle.frame.specs.Layout.{bytes, mask_of}
use Rattle.table.specs.Number.{narrow_of, codes_of}
use Rattle.table.specs.Codes.{takes}
use Rattle.table.specs.Table.{len_of, count_of, numbers_of}
use Rattle.table.specs.Narrowed.{fields_of, arguments_in}

-- the number of the first n bytes, high byte first
unfoldable pub big_end : (ℕ → ℕ) → ℕ → ℕ
big_end b zero = 0
big_end b (suc n) = big_end b n * 256 + b n

-- the bytes from a on
abbrev pub from : ℕ → (ℕ → ℕ) → ℕ → ℕ
from a b i = b (a + i)

-- the first eight of n bytes, where there are more than eight
unfoldable pub first_word : ℕ → (ℕ → ℕ) → ℕ
first_word n b = cond (ltb 8 n) (big_end b 8) 0

-- the last eight of n bytes, or all of them
unfoldable pub last_word : ℕ → (ℕ → ℕ) → ℕ
last_word n b = cond (leb 8 n) (big_end (from (n - 8) b) 8) (big_end b n)

-- the bits that the row's fields hold, in two words
unfoldable pub held_of : List ℕ → List ℕ
held_of r = first_word (len_of r) (mask_of (fields_of r)) ∷ last_word (len_of r) (mask_of (fields_of r)) ∷ []

-- byte i of n, of two such words
unfoldable pub held_byte : List ℕ → ℕ → ℕ → ℕ
held_byte held n i = cond (ltb (i + 8) n) (get_or held 0 0 / 2 ^ (8 * (7 - i)) % 256) (get_or held 1 0 / 2 ^ (8 * (n - 1 - i)) % 256)

-- whether each word lies under its mask
unfoldable pub clean_words : List ℕ → ℕ → ℕ → Bool
clean_words held first last = eqb (bit_and first (get_or held 0 0)) first && eqb (bit_and last (get_or held 1 0)) last

-- whether a frame has no stray bit for the row, by its words
abbrev pub clean_frame : List ℕ → List ℕ → Bool
clean_frame r f = clean_words (held_of r) (first_word (length f) (bytes f)) (last_word (length f) (bytes f))

-- the two words of a frame
pub record InWords (first last : ℕ) (f : List ℕ) : Type 0 where
  pub first-is : first ≡ first_word (length f) (bytes f)
  pub last-is : last ≡ last_word (length f) (bytes f)

-- whether a field that lies in n bytes is read from a word: from the last, or from the first where there are two
abbrev pub in_word : ℕ → Field → Bool
in_word n f = cond (leb (8 * (n - (f.first + size f)) + f.lo + f.w) 64) true (leb 9 n && leb (f.first + size f) 8)

-- whether the field c of a frame of n bytes is nothing, eight bytes, or high byte first in a word
unfoldable pub reached : ℕ → ℕ → Bool
reached n c =
    (leb n 12 && sound n (narrow_of c))
    && cond (leb 64 (narrow_of c).w) true (cond (eqb (narrow_of c).w 0) true (cond (narrow_of c).le false (in_word n (narrow_of c))))

-- whether each of these fields is
unfoldable pub all_reached : ℕ → List ℕ → Bool
all_reached n [] = true
all_reached n (c ∷ cs) = reached n c && all_reached n cs

-- whether `whole` is what the field c holds, where that is eight bytes
abbrev pub Whole : ℕ → (ℕ → ℕ) → ℕ → Type 0
Whole whole b c = T (leb 64 (narrow_of c).w) → whole ≡ read (narrow_of c) b

-- whether it is what each of them holds that is eight bytes
unfoldable pub AllWhole : ℕ → (ℕ → ℕ) → List ℕ → Type 0
AllWhole whole b [] = Unit
AllWhole whole b (c ∷ cs) = Whole whole b c × AllWhole whole b cs

-- nine fields, as straight code has them
abbrev pub nine : ℕ → ℕ → ℕ → ℕ → ℕ → ℕ → ℕ → ℕ → ℕ → List ℕ
nine c0 c1 c2 c3 c4 c5 c6 c7 c8 = c0 ∷ c1 ∷ c2 ∷ c3 ∷ c4 ∷ c5 ∷ c6 ∷ c7 ∷ c8 ∷ []

-- whether each of these fields takes what it holds
unfoldable pub all_taken : List ℕ → (ℕ → ℕ) → Bool
all_taken [] b = true
all_taken (c ∷ cs) b = takes (codes_of c) (read (narrow_of c) b) && all_taken cs b

-- whether a frame has no stray bit for the row, and each field takes what it holds
abbrev pub good_frame : List ℕ → List ℕ → Bool
good_frame r f = clean_frame r f && all_taken (numbers_of r) (bytes f)

-- the arguments that a frame holds, and zeros up to nine
abbrev pub nine_in : List ℕ → List ℕ → List ℕ
nine_in r f = arguments_in r f ++ replicate (9 - count_of r) 0
