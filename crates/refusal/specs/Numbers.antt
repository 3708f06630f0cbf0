-- The refusals' numbers and places, and when each is given (REFERENCE, "Refusals").
-- Assumes nothing.
use Rattle.std.specs.Prelude.{ℕ}
use Rattle.refusal.specs.declared.Refusal.{Refusal}
use Rattle.refusal.specs.declared.Refusal.TheVariants.{ShortFrame, UnknownOpcode, WrongLength, StrayBit, UnknownCode}
use Rattle.refusal.specs.declared.Refusal.TheVariants.{ArgumentOutside, ResponseLength, NoRoom, NotHeld, NotWellFormed}
use Rattle.refusal.specs.declared.Refusal.TheVariants.{BufferSize, OutputShort, NotAKind, ReelCut, TraceFault, BothForms, OwnersWrong, OtherSide}
use Rattle.refusal.specs.declared.Refusal.TheVariants.{NoWidth, NotNarrowest, ListLength, SettingMissing}

abbrev pub number_of : Refusal → ℕ
-- a frame too short to hold an opcode
number_of ShortFrame = 1
-- no command has the opcode
number_of UnknownOpcode = 2
-- commands have the opcode, and none has the length
number_of WrongLength = 3
-- a bit is 1 that belongs to no field
number_of (StrayBit at) = 4
-- a field of an enum holds a number that is no value of it, or the field of a number one that is over its limit
number_of (UnknownCode at) = 5
-- an argument of a builder that is outside its field, over its limit or no value of its enum, or one too few or too many
number_of (ArgumentOutside at) = 6
-- a response of another length than its own
number_of ResponseLength = 7
-- the book has no room for the frame, or the side's quota has none
number_of NoRoom = 8
-- the book holds no frame of the kind
number_of NotHeld = 9
-- the bytes lent are no book
number_of NotWellFormed = 10
-- the buffer lent is too short or too long for a book
number_of BufferSize = 11
-- the output lent is too short for the answer
number_of OutputShort = 12
-- no kind has the number, or the kind is an action where a setting is asked for
number_of NotAKind = 13
-- the reel ends before the frame does, or the place lies past its end
number_of ReelCut = 14
-- the trace's header or the record at the place does not fit the trace, its first record would stand in the header, or a direction is none
number_of (TraceFault at) = 15
-- the book holds a setting in both its forms
number_of BothForms = 16
-- the owner table is wrong, the caller is no side, or a side's frames exceed its quota
number_of OwnersWrong = 17
-- the other side owns the kind
number_of OtherSide = 18
-- no listed width is at least the bank's need
number_of (NoWidth bank) = 19
-- the code proposed for the bank is not the narrowest listed one whose width is at least its need
number_of (NotNarrowest bank) = 20
-- a list has no bank or more than 32, or the two lists differ in length
number_of ListLength = 21
-- the book holds no frame of a kind that the locker profile judges
number_of SettingMissing = 22

-- where: the lowest such byte of the frame, counted from 0; of arguments the first, counted from 1; of a trace the byte where the faulty record
-- starts, counted from 0, and 0 for its header; of banks the first, counted from 1; 0 where there is no place to name
abbrev pub place_of : Refusal → ℕ
place_of (StrayBit at) = at
place_of (UnknownCode at) = at
place_of (ArgumentOutside at) = at
place_of (TraceFault at) = at
place_of (NoWidth bank) = bank
place_of (NotNarrowest bank) = bank
place_of ShortFrame = 0
place_of UnknownOpcode = 0
place_of WrongLength = 0
place_of ResponseLength = 0
place_of NoRoom = 0
place_of NotHeld = 0
place_of NotWellFormed = 0
place_of BufferSize = 0
place_of OutputShort = 0
place_of NotAKind = 0
place_of ReelCut = 0
place_of BothForms = 0
place_of OwnersWrong = 0
place_of OtherSide = 0
place_of ListLength = 0
place_of SettingMissing = 0
