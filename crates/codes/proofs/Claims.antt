-- The numbers of the codes, computed, and that they tell refusals and faults apart: a refusal is found by its number.
-- Assumes nothing.
use Prim.Native.Nat.{ℕ}
use mathlib.Core.Path.{◌≡◌, refl, sym, ap, ◌∙◌}
use lib.Dec.{eqb}
use Rattle.std.specs.Prelude.{if◌then◌else◌}
use Rattle.codes.specs.Claims.{CodeFigures, RefusalFigures, FaultFigures, RefusalsApart, FaultsApart}
use Rattle.codes.specs.Refused.{number_of, fault_number}
use Rattle.codes.specs.declared.Refusal.{Refusal}
use Rattle.codes.specs.declared.Refusal.TheVariants.{TooShort, TooLong, OtherConstant, UnknownLink, OtherPort, BelowSmallest, AboveLargest, Unsound}
use Rattle.codes.specs.declared.Fault.{Fault}
use Rattle.codes.specs.declared.Fault.TheVariants.{Cut, WrongTag, WrongLength, BadValue, BadCount, Surplus, NoRoom}

pub code_figures : CodeFigures
code_figures =
    (refl, refl, refl, refl, refl, refl, refl, refl, refl, refl, refl, refl, refl, refl, refl, refl, refl, refl, refl, refl)

pub refusal_figures : RefusalFigures
refusal_figures = refl

pub fault_figures : FaultFigures
fault_figures = refl

-- the refusal of a number, and the fault
abbrev refusal_of : ℕ → Refusal
refusal_of n =
    if eqb n 1 then TooShort
    else if eqb n 2 then TooLong
    else if eqb n 3 then OtherConstant
    else if eqb n 4 then UnknownLink
    else if eqb n 5 then OtherPort
    else if eqb n 6 then BelowSmallest
    else if eqb n 7 then AboveLargest
    else Unsound

refusal_back : (r : Refusal) → refusal_of (number_of r) ≡ r
refusal_back TooShort = refl
refusal_back TooLong = refl
refusal_back OtherConstant = refl
refusal_back UnknownLink = refl
refusal_back OtherPort = refl
refusal_back BelowSmallest = refl
refusal_back AboveLargest = refl
refusal_back Unsound = refl

pub refusals_apart : RefusalsApart
refusals_apart r q e = sym (refusal_back r) ∙ ap refusal_of e ∙ refusal_back q

abbrev fault_of : ℕ → Fault
fault_of n =
    if eqb n 20 then Cut
    else if eqb n 21 then WrongTag
    else if eqb n 22 then WrongLength
    else if eqb n 23 then BadValue
    else if eqb n 24 then BadCount
    else if eqb n 25 then Surplus
    else NoRoom

fault_back : (f : Fault) → fault_of (fault_number f) ≡ f
fault_back Cut = refl
fault_back WrongTag = refl
fault_back WrongLength = refl
fault_back BadValue = refl
fault_back BadCount = refl
fault_back Surplus = refl
fault_back NoRoom = refl

pub faults_apart : FaultsApart
faults_apart f g e = sym (fault_back f) ∙ ap fault_of e ∙ fault_back g
