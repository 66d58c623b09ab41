-- The codes of every call, as the papers number them. Definitions and code name the codes; statements have their
-- figures.
use Rattle.std.specs.Prelude.{ℕ}

-- ---- frame calls, policing steps and frame reading (document 01, "Codes, in order of checking"), and 0 of every call
-- success: forwarded, delivered, or no code fits
abbrev pub success : ℕ
success = 0

-- a frame shorter than 64 octets
abbrev pub too_short : ℕ
too_short = 1

-- a frame longer than 1,518
abbrev pub too_long : ℕ
too_long = 2

-- wrong constant field
abbrev pub other_constant : ℕ
other_constant = 3

-- unknown virtual link; also at the receiving end (document 02, Q-1)
abbrev pub unknown_link : ℕ
unknown_link = 4

-- wrong input port
abbrev pub other_port : ℕ
other_port = 5

-- a frame below the link's smallest size
abbrev pub below_smallest : ℕ
below_smallest = 6

-- a frame above the link's largest size
abbrev pub above_largest : ℕ
above_largest = 7

-- a time before the last one; also at the receiving end (document 02, Q-1)
abbrev pub late : ℕ
late = 8

-- credit short of the cost
abbrev pub short : ℕ
short = 9

-- invalid table entry: the link's row or its account breaks a rule, or the credit is above the capacity
abbrev pub unsound : ℕ
unsound = 10

-- ---- reading, loading and writing an image (document 01, "The configuration image")
-- fewer than 3 octets left for a field, or the field's data cut
abbrev pub cut : ℕ
cut = 20

-- a tag that is unknown or out of order
abbrev pub wrong_tag : ℕ
wrong_tag = 21

-- a length that isn't the tag's
abbrev pub wrong_length : ℕ
wrong_length = 22

-- a value that breaks a rule
abbrev pub bad_value : ℕ
bad_value = 23

-- an account or a link too many; for the writer also a count of 0 or over the rows lent
abbrev pub bad_count : ℕ
bad_count = 24

-- octets after the end
abbrev pub surplus : ℕ
surplus = 25

-- a lent run or room that is too short
abbrev pub no_room : ℕ
no_room = 26

-- ---- the receiving end, beside 0, 4 and 8 (document 02, Q-1). The papers give no other answer a number; 30 and 31 are
-- this project's
-- the copy of a frame that was delivered
abbrev pub copy : ℕ
copy = 30

-- out of sequence: a number that doesn't follow the last one
abbrev pub out_of_sequence : ℕ
out_of_sequence = 31
