-- The codes of the filter (document 01, "Codes, in order of checking", 1 to 7; code 10, which the table has between 4
-- and 5, is the frame call's). The frame call and the rule over a history both cite these codes.
use Rattle.std.specs.Prelude.{ℕ, not, List, length, ltb, eqb, Result}
use Rattle.codes.specs.Codes
use Rattle.codes.specs.Refused.{number_of}
use Rattle.codes.specs.declared.Refusal.{Refusal}
use Rattle.std.specs.Prelude.{if◌then◌else◌}
use Rattle.frame.specs.Frame.{length_code, constant_field, link_number}
use Rattle.tables.specs.Rows.{link_table, link_in, found}
use Rattle.rows.specs.Rows.{Found}
use Rattle.std.specs.Prelude.{Some, None}
use Rattle.tables.specs.declared.Link.{Link}
use Rattle.std.specs.Prelude.{Ok, Err}

-- the code by the frame alone: the first of 1, 2 and 3 that fits, or 0
unfoldable pub frame_code : ℕ → List ℕ → ℕ
frame_code constant f =
    if not (eqb (length_code (length f)) Codes.success) then length_code (length f)
    else if not (eqb (constant_field f) constant) then Codes.other_constant
    else Codes.success

-- the code by the link, for a frame of n octets on a port: the first of 5, 6 and 7 that fits, or 0
unfoldable pub port_code : Link → ℕ → ℕ → ℕ
port_code l n port =
    if not (eqb port l.port) then Codes.other_port
    else if ltb n l.smallest then Codes.below_smallest
    else if ltb l.largest n then Codes.above_largest
    else Codes.success

-- the route of a frame before the account is looked at: its link, or the code that stops it
abbrev pub Route : Type 0
Route = Result Link ℕ

-- the route as the code gives it
abbrev pub route_of : Result Link Refusal → Route
route_of (Ok l) = Ok l
route_of (Err r) = Err (number_of r)

-- the route by the row that has the frame's number: 4 where there is no such row, else the row's link
abbrev pub route_to : List ℕ → Found → Route
route_to links None = Err Codes.unknown_link
route_to links (Some j) = Ok (link_in (link_table links) j)

-- the route of a frame: stopped by 1, 2 or 3, else by 4, or the link of the first row in use that has the frame's
-- number
unfoldable pub routed : List ℕ → ℕ → List ℕ → ℕ → Route
routed f constant links count =
    if not (eqb (frame_code constant f) Codes.success) then Err (frame_code constant f)
    else route_to links (found links count (link_number f))
