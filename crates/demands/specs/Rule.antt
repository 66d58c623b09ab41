-- The rule of demand 3 over a history (document 01, "The terms of demand 3"): each frame's code from the image's octets and the
-- list of calls. It reads no credit, no stored time and no verdict.
use Rattle.std.specs.Prelude.{ℕ, Bool, false, not, ◌&&◌, List, [], map, length, leb, eqb}
use Rattle.codes.specs.Codes
use Rattle.std.specs.Prelude.{if◌then◌else◌}
use Rattle.lists.specs.History.{Machine, answers, left_by, by_calls}
use Rattle.lists.specs.Lists.{only}
use Rattle.frame.specs.Frame.{link_number}
use Rattle.terms.specs.declared.Terms.{Terms}
use Rattle.account_rule.specs.Bucket.{Reached}
use Rattle.account_rule.specs.Rule.{StepCall, rule_arrived, rule_of_account}
use Rattle.rows.specs.Rows.{found_in}
use Rattle.tables.specs.Rows.{account_in, link_in}
use Rattle.rows.specs.Rows.{Found}
use Rattle.std.specs.Prelude.{Some, None}
use Rattle.tables.specs.declared.Link.{Link}
use Rattle.image_read.specs.Read.{read_image}
use Rattle.image_field.specs.Checks.{account_fields, link_fields}
use Rattle.filter.specs.Filter.{frame_code, port_code}
use Rattle.switch.specs.Call.{Call}

-- ---- what the image says: account i
abbrev pub image_terms : List ℕ → ℕ → Terms
image_terms s i = account_in (account_fields s) i

-- link j
abbrev pub image_link : List ℕ → ℕ → Link
image_link s j = link_in (link_fields s (read_image s).settings.accounts) j

-- where its links have the frame's number
abbrev pub link_row : List ℕ → Call → Found
link_row s f = found_in (link_fields s (read_image s).settings.accounts) (read_image s).settings.links (link_number f.octets)

-- ---- the filter: the first of the codes 1 to 7 that fits a frame, or 0. By the row of its number, 4 or the codes of that link
abbrev pub link_code : List ℕ → Call → Found → ℕ
link_code s f None = Codes.unknown_link
link_code s f (Some j) = port_code (image_link s j) (length f.octets) f.port

-- and before that by the frame alone
unfoldable pub filter_code : List ℕ → Call → ℕ
filter_code s f =
    if not (eqb (frame_code (read_image s).settings.constant f.octets) Codes.success) then frame_code (read_image s).settings.constant f.octets
    else link_code s f (link_row s f)

-- ---- for which account a frame is meant: the one that the image's link of its number names
abbrev pub names : List ℕ → ℕ → Found → Bool
names s a None = false
names s a (Some j) = eqb (image_link s j).account a

-- provided that the frame has a whole destination address, whose last two octets are the number
abbrev pub destination_octets : ℕ
destination_octets = 6

unfoldable pub meant : List ℕ → ℕ → Call → Bool
meant s a f = leb destination_octets (length f.octets) && names s a (link_row s f)

-- ---- which frames reached an account. The filter lets a frame pass to the account for which it is meant
abbrev pub passing : List ℕ → ℕ → Call → Bool
passing s a f = meant s a f && eqb (filter_code s f) Codes.success

-- what the account sees of it
abbrev pub step_call_of : Call → StepCall
step_call_of f = record { octets = length f.octets; time = f.time }

-- of the frames that pass to it in a past, the rule for one account leaves out the late ones, and says which of the others were
-- forwarded. Both lists have the newest first
unfoldable pub reached_in : List ℕ → List Call → ℕ → List Reached
reached_in s past a = left_by (rule_of_account (image_terms s a)) [] (map step_call_of (only (passing s a) past))

-- ---- the code of a frame after a past. Its account, which is asked only where its number has a link
abbrev pub account_named : List ℕ → Found → ℕ
account_named s None = 0
account_named s (Some j) = (image_link s j).account

-- the filter's code; else, from the frames that reached the account: late by the last of them, or forwarded or short by the rule
unfoldable pub rule_code : List ℕ → List Call → Call → ℕ
rule_code s past f =
    if not (eqb (filter_code s f) Codes.success) then filter_code s f
    else (rule_arrived (image_terms s (account_named s (link_row s f)))
    (reached_in s past (account_named s (link_row s f))) (length f.octets) f.time).code

-- the rule as a machine whose state is the past, and the codes of a history by it
abbrev pub rule_of_calls : List ℕ → Machine (List Call) Call ℕ
rule_of_calls s = by_calls (rule_code s)

abbrev pub rule_codes : List ℕ → List Call → List ℕ
rule_codes s h = answers (rule_of_calls s) [] h
