-- What a frame call reports and leaves, by its code, for any tables, counts, frame, port and time whatsoever (document
-- 01, "Codes, in order of checking"); proved in proofs/Claims.antt.
use Rattle.std.specs.Prelude.{ℕ, ◌-◌, ◌≤◌, ◌<◌, ◌⊎◌, ◌≡◌, length, set}
use Rattle.std.proofs.Math.Option.{none, some}
use Rattle.frame.specs.Frame.{link_number}
use Rattle.terms.specs.Terms.{capacity, cost}
use Rattle.account.specs.Account.{terms_of, credit_at}
use Rattle.account.specs.declared.Account.{Account}
use Rattle.tables.specs.Rows.{Config, link_table, link_in, found}
use Rattle.rows.specs.Rows.{Found}
use Rattle.std.specs.Prelude.{Some, None}
use Rattle.tables.specs.declared.Link.{Link}
use Rattle.switch_verdict.specs.Verdict.{report}
use Rattle.switch.specs.Call.{State, state_of, Call, After, accounts_in_use, account_held, decided, called}

-- ---- what a call reports and leaves, on a link l with account a, `used` accounts being in use: demand 1's "a refusal
-- changes nothing", and the verdict's own data
pub record Effects (used : ℕ) (s : State) (f : Call) (l : Link) (a : Account) (r : After) : Type 0 where
  -- 0: forwarded to the link's ports; the account, which is in use, and no other, is topped up, at the frame's time, less the
  -- cost
  pub forwarded : r.says.code ≡ 0
      → (l.account < used)
      × (r.says ≡ report 0 (some l.mask) (some (credit_at a f.time - cost (terms_of a) (length f.octets))))
      × (r.state ≡ state_of (set s.credits l.account (credit_at a f.time - cost (terms_of a) (length f.octets)))
      (set s.lasts l.account f.time))
      × (cost (terms_of a) (length f.octets) ≤ credit_at a f.time)
  -- 9: the account, which is in use, and no other, is topped up, at the frame's time
  pub short : r.says.code ≡ 9
      → (l.account < used)
      × (r.says ≡ report 9 none (some (credit_at a f.time)))
      × (r.state ≡ state_of (set s.credits l.account (credit_at a f.time)) (set s.lasts l.account f.time))
      × (credit_at a f.time < cost (terms_of a) (length f.octets))
  -- 8: reports the credit held; the frame's time is before the account's last
  pub late : r.says.code ≡ 8 → (r.says ≡ report 8 none (some a.credit)) × (f.time < a.last)
  -- any code but 0 and 9 changes nothing
  pub kept : (r.says.code ≡ 0 → ⊥) → (r.says.code ≡ 9 → ⊥) → r.state ≡ s
  -- any code but 0, 8 and 9 is reported alone
  pub bare : (r.says.code ≡ 0 → ⊥) → (r.says.code ≡ 8 → ⊥) → (r.says.code ≡ 9 → ⊥) → r.says ≡ report r.says.code none none

-- the link is that of the first row in use with the frame's number; where there is no such row the call answers 1, 2, 3
-- or 4
abbrev pub RowEffects : Config → State → Call → Found → After → Type 0
RowEffects g s f None r = (r.state ≡ s) × (r.says ≡ report r.says.code none none) × ((r.says.code ≡ 0) → ⊥) × (r.says.code ≤ 4)
RowEffects g s f (Some j) r =
    Effects (accounts_in_use g s) s f (link_in (link_table g.links) j)
    (account_held g.accounts s (link_in (link_table g.links) j).account) r

abbrev pub CallEffects : Type 0
CallEffects = (g : Config) (s : State) (f : Call) → RowEffects g s f (found g.links g.count_of_links (link_number f.octets)) (called g s f)

-- the credit stored with 0 and with 9 is less than the capacity, whatever the tables: no frame call leaves the account
-- that it reaches full
abbrev pub StoredBelowCapacity : Type 0
StoredBelowCapacity =
    (l : Link) (used : ℕ) (a : Account) (n port t : ℕ)
    → ((decided l used a n port t).says.code ≡ 0) ⊎ ((decided l used a n port t).says.code ≡ 9)
    → (decided l used a n port t).credit < capacity (terms_of a)
