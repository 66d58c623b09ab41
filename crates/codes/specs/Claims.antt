-- The numbers of the codes (document 01, "Codes, in order of checking" and "The configuration image"; document 02, Q-1), in
-- figures; proved in proofs/Claims.antt.
use Rattle.std.specs.Prelude.{[], ◌∷◌, map, ◌≡◌}
use Rattle.codes.specs.Codes
use Rattle.codes.specs.Refused.{number_of, fault_number}
use Rattle.codes.specs.declared.Refusal.{Refusal}
use Rattle.codes.specs.declared.Refusal.TheVariants.{TooShort, TooLong, OtherConstant, UnknownLink, OtherPort, BelowSmallest, AboveLargest, Unsound}
use Rattle.codes.specs.declared.Fault.{Fault}
use Rattle.codes.specs.declared.Fault.TheVariants.{Cut, WrongTag, WrongLength, BadValue, BadCount, Surplus, NoRoom}

abbrev pub CodeFigures : Type 0
CodeFigures =
    (Codes.success ≡ 0) × (Codes.too_short ≡ 1) × (Codes.too_long ≡ 2) × (Codes.other_constant ≡ 3)
    × (Codes.unknown_link ≡ 4) × (Codes.other_port ≡ 5) × (Codes.below_smallest ≡ 6) × (Codes.above_largest ≡ 7)
    × (Codes.late ≡ 8) × (Codes.short ≡ 9) × (Codes.unsound ≡ 10)
    × (Codes.cut ≡ 20) × (Codes.wrong_tag ≡ 21) × (Codes.wrong_length ≡ 22) × (Codes.bad_value ≡ 23)
    × (Codes.bad_count ≡ 24) × (Codes.surplus ≡ 25) × (Codes.no_room ≡ 26)
    × (Codes.copy ≡ 30) × (Codes.out_of_sequence ≡ 31)

-- the number of every refusal, and of every fault
abbrev pub RefusalFigures : Type 0
RefusalFigures =
    map number_of (TooShort ∷ TooLong ∷ OtherConstant ∷ UnknownLink ∷ OtherPort ∷ BelowSmallest ∷ AboveLargest ∷ Unsound ∷ [])
    ≡ 1 ∷ 2 ∷ 3 ∷ 4 ∷ 5 ∷ 6 ∷ 7 ∷ 10 ∷ []

abbrev pub FaultFigures : Type 0
FaultFigures =
    map fault_number (Cut ∷ WrongTag ∷ WrongLength ∷ BadValue ∷ BadCount ∷ Surplus ∷ NoRoom ∷ [])
    ≡ 20 ∷ 21 ∷ 22 ∷ 23 ∷ 24 ∷ 25 ∷ 26 ∷ []

-- numbers tell refusals apart, and faults
abbrev pub RefusalsApart : Type 0
RefusalsApart = (r q : Refusal) → number_of r ≡ number_of q → r ≡ q

abbrev pub FaultsApart : Type 0
FaultsApart = (f g : Fault) → fault_number f ≡ fault_number g → f ≡ g
