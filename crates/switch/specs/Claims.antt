-- What holds of the frame call for any tables, counts, frame, port and time whatsoever (document 01, "Codes, in order of
-- checking"); proved in proofs/Claims.antt.
use Rattle.std.specs.Prelude.{ℕ, ◌+◌, ◌*◌, ◌≤◌, ◌<◌, List, ◌⊎◌, ◌↔◌, ◌≡◌, length}
use Rattle.frame.specs.Frame.{length_code, link_number}
use Rattle.tables.specs.Rows.{Config, link_table, link_in, links_in_use, found}
use Rattle.tables_rules.specs.Rules.{port_count}
use Rattle.std.specs.Prelude.{Some}
use Rattle.filter.specs.Filter.{frame_code}
use Rattle.switch_verdict.specs.Verdict.{Report}
use Rattle.switch.specs.Call.{State, state_of, Call, call_of, after_of, accounts_in_use, account_held}
use Rattle.switch.specs.Call.{refused_with, called}

-- demand 1: a call's code is one of the table's, 0 to 10
abbrev pub CallAnswers : Type 0
CallAnswers = (g : Config) (s : State) (f : Call) → (called g s f).says.code ≤ 10

-- demand 1: any code but 0 and 9 leaves everything as it was
abbrev pub RefusedCallKeeps : Type 0
RefusedCallKeeps =
    (g : Config) (s : State) (f : Call) → ((called g s f).says.code ≡ 0 → ⊥) → ((called g s f).says.code ≡ 9 → ⊥) → (called g s f).state ≡ s

-- a frame that is too short or too long is refused by its length alone
abbrev pub LengthAlone : Type 0
LengthAlone =
    (g : Config) (s : State) (f : Call) → (length_code (length f.octets) ≡ 0 → ⊥)
    → called g s f ≡ refused_with (length_code (length f.octets)) s

-- ---- accounts in use ("Accounts and links"): exactly those below the count whose row, credit and last time are lent
abbrev pub InUseExactly : Type 0
InUseExactly =
    (g : Config) (s : State) (i : ℕ)
    → (i < accounts_in_use g s)
    ↔ ((i < g.count_of_accounts) × (6 * i + 6 ≤ length g.accounts) × (i < length s.credits) × (i < length s.lasts))

-- a link whose account is not below the count gets 10, however long the runs are
abbrev pub AtTheCount : Type 0
AtTheCount =
    (g : Config) (s : State) (f : Call) (j : ℕ) → frame_code g.constant f.octets ≡ 0
    → found g.links g.count_of_links (link_number f.octets) ≡ Some j → g.count_of_accounts ≤ (link_in (link_table g.links) j).account
    → called g s f ≡ refused_with 10 s

-- a port that no switch has gets no further than 5
abbrev pub PortsBeyond : Type 0
PortsBeyond =
    (g : Config) (s : State) (f : Call) → port_count ≤ f.port
    → ((called g s f).says.code ≡ 10) ⊎ ((1 ≤ (called g s f).says.code) × ((called g s f).says.code ≤ 5))

-- ---- what a call is lent, is given and leaves, each part by its name
abbrev pub CallParts : Type 0
CallParts =
    (credits lasts octets : List ℕ) (port time : ℕ) (says : Report)
    → ((state_of credits lasts).credits ≡ credits) × ((state_of credits lasts).lasts ≡ lasts)
    × ((call_of octets port time).octets ≡ octets) × ((call_of octets port time).port ≡ port) × ((call_of octets port time).time ≡ time)
    × ((after_of says (state_of credits lasts)).says ≡ says) × ((after_of says (state_of credits lasts)).state ≡ state_of credits lasts)

-- ---- what plays no part: rows beyond those in use. Tables that agree in the constant field and in the rows in use answer alike
pub record SameInUse (g : Config) (s : State) (g' : Config) (s' : State) : Type 0 where
  pub constant : g.constant ≡ g'.constant
  pub links : links_in_use g.links g.count_of_links ≡ links_in_use g'.links g'.count_of_links
  pub rows : (j : ℕ) → j < links_in_use g.links g.count_of_links → link_in (link_table g.links) j ≡ link_in (link_table g'.links) j
  pub accounts : accounts_in_use g s ≡ accounts_in_use g' s'
  pub held : (i : ℕ) → i < accounts_in_use g s → account_held g.accounts s i ≡ account_held g'.accounts s' i

abbrev pub RowsBeyondUnread : Type 0
RowsBeyondUnread =
    (g : Config) (s : State) (g' : Config) (s' : State) → SameInUse g s g' s' → (f : Call) → (called g s f).says ≡ (called g' s' f).says
