-- The numbers of the refusals of a frame and of the faults of an image, and the code of a check that may refuse (document 01,
-- "Codes, in order of checking" and "The configuration image").
use Rattle.std.specs.Prelude.{ℕ, Result, Ok, Err}
use Rattle.codes.specs.Codes
use Rattle.codes.specs.declared.Refusal.{Refusal}
use Rattle.codes.specs.declared.Refusal.TheVariants.{TooShort, TooLong, OtherConstant, UnknownLink, OtherPort, BelowSmallest, AboveLargest, Unsound}
use Rattle.codes.specs.declared.Fault.{Fault}
use Rattle.codes.specs.declared.Fault.TheVariants.{Cut, WrongTag, WrongLength, BadValue, BadCount, Surplus, NoRoom}

-- the number of a refusal, and that of a fault
abbrev pub number_of : Refusal → ℕ
number_of TooShort = Codes.too_short
number_of TooLong = Codes.too_long
number_of OtherConstant = Codes.other_constant
number_of UnknownLink = Codes.unknown_link
number_of OtherPort = Codes.other_port
number_of BelowSmallest = Codes.below_smallest
number_of AboveLargest = Codes.above_largest
number_of Unsound = Codes.unsound

abbrev pub fault_number : Fault → ℕ
fault_number Cut = Codes.cut
fault_number WrongTag = Codes.wrong_tag
fault_number WrongLength = Codes.wrong_length
fault_number BadValue = Codes.bad_value
fault_number BadCount = Codes.bad_count
fault_number Surplus = Codes.surplus
fault_number NoRoom = Codes.no_room

-- the code of a check that passes or refuses, and that of a check that passes or finds a fault
abbrev pub code_of : Result Unit Refusal → ℕ
code_of (Ok _) = Codes.success
code_of (Err r) = number_of r

abbrev pub fault_code : Result Unit Fault → ℕ
fault_code (Ok _) = Codes.success
fault_code (Err f) = fault_number f
