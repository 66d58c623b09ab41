-- The frame call (document 01, "Codes, in order of checking"): the answer, and the credits and last times after the
-- call, for any tables, counts, frame, port and time whatsoever.
use Rattle.std.specs.Prelude.{ℕ, ◌/◌, min, not, ◌&&◌, List, length, get_or, set, eqb, Result}
use Rattle.codes.specs.Codes
use Rattle.std.specs.Prelude.{if◌then◌else◌}
use Rattle.account.specs.Account.{account_of, holding, account_sound}
use Rattle.account.specs.Step.{Stepped, policed}
use Rattle.account.specs.declared.Account.{Account}
use Rattle.tables.specs.Rows.{Config, account_octets, account_table, account_in}
use Rattle.tables_rules.specs.Rules.{link_sound}
use Rattle.tables.specs.declared.Link.{Link}
use Rattle.codes.specs.Refused.{number_of}
use Rattle.codes.specs.declared.Refusal.{Refusal}
use Rattle.account.specs.Step.{stepped}
use Rattle.account.specs.declared.Ruling.{Ruling}
use Rattle.switch_verdict.specs.declared.Verdict.{Verdict}
use Rattle.switch_verdict.specs.declared.Verdict.TheVariants.{Refused}
use Rattle.switch_verdict.specs.Verdict.{Report, reported, with_mask}
use Rattle.filter.specs.Filter.{port_code, routed}
use Rattle.filter.specs.Filter.{Route}
use Rattle.std.specs.Prelude.{Ok, Err}

-- the state: what a call may change
pub record State : Type 0 where
  pub credits : List ℕ
  pub lasts : List ℕ

abbrev pub state_of : List ℕ → List ℕ → State
state_of c t = record { credits = c; lasts = t }

-- a call: the frame's octets, the port that it came in on, its time
pub record Call : Type 0 where
  pub octets : List ℕ
  pub port : ℕ
  pub time : ℕ

abbrev pub call_of : List ℕ → ℕ → ℕ → Call
call_of f p t = record { octets = f; port = p; time = t }

-- what a call reports, and the state after the call
pub record After : Type 0 where
  pub says : Report
  pub state : State

abbrev pub after_of : Report → State → After
after_of w s = record { says = w; state = s }

-- accounts in use ("Accounts and links"): a count larger than the rows of the shortest run lent is read as their number
unfoldable pub in_use_by : ℕ → ℕ → ℕ → ℕ → ℕ
in_use_by count accounts credits lasts = min count (min (accounts / account_octets) (min credits lasts))

abbrev pub accounts_in_use : Config → State → ℕ
accounts_in_use g s = in_use_by g.count_of_accounts (length g.accounts) (length s.credits) (length s.lasts)

-- account a: its row, its credit and its last time
unfoldable pub account_held : List ℕ → State → ℕ → Account
account_held accounts s a = account_of (account_in (account_table accounts) a) (get_or s.credits a 0) (get_or s.lasts a 0)

-- ---- for a link and its account: the report, with the account's credit and last time after the call
pub record Decided : Type 0 where
  pub says : Report
  pub credit : ℕ
  pub last : ℕ

-- a refusal keeps the account's credit and last time; the policing step gives new ones
abbrev pub kept : ℕ → Account → Decided
kept code a = record { says = reported (Refused code); credit = a.credit; last = a.last }

abbrev pub step_on : Link → Stepped → Decided
step_on l q = record { says = with_mask l.mask q.says; credit = q.account.credit; last = q.account.last }

-- the decision from a ruling on the account or a refusal
abbrev pub decision_of : Link → Account → Result Ruling Refusal → Decided
decision_of l a (Ok r) = step_on l (stepped r.outcome (holding a r.credit r.last))
decision_of l a (Err r) = kept (number_of r) a

-- the decision: 10 where the link's row or the account breaks a rule or the credit is above the capacity; then 5, 6 and
-- 7; then the step
unfoldable pub decided : Link → ℕ → Account → ℕ → ℕ → ℕ → Decided
decided l used a n port t =
    if not (link_sound l used a.terms.smax && account_sound a) then kept Codes.unsound a
    else if not (eqb (port_code l n port) Codes.success) then kept (port_code l n port) a
    else step_on l (policed a n t)

-- the decision for account a, stored
abbrev pub stored : State → ℕ → Decided → After
stored s a d = after_of d.says (state_of (set s.credits a d.credit) (set s.lasts a d.last))

-- ---- the call

abbrev pub refused_with : ℕ → State → After
refused_with code s = after_of (reported (Refused code)) s

-- the call on a link: the link's account decides, and the decision is stored
abbrev pub by_link : Config → State → Call → Link → After
by_link g s f l =
    stored s l.account
    (decided l (accounts_in_use g s) (account_held g.accounts s l.account) (length f.octets) f.port f.time)

-- the call by the route that the filter finds: the code, or the link
abbrev pub settled : Config → State → Call → Route → After
settled g s f (Err code) = refused_with code s
settled g s f (Ok l) = by_link g s f l

-- the call: the filter, then the link's account
unfoldable pub called : Config → State → Call → After
called g s f = settled g s f (routed f.octets g.constant g.links g.count_of_links)

-- what a call reports and leaves, from a verdict or a refusal
abbrev pub call_after : Result Verdict Refusal → State → After
call_after (Ok v) s = after_of (reported v) s
call_after (Err r) s = refused_with (number_of r) s
