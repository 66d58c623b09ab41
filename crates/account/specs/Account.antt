-- An account with its credit and last time, and what its methods give (document 01, "Credit, in whole units").
use Rattle.std.specs.Prelude.{ℕ, ◌+◌, ◌-◌, ◌*◌, min, Bool, ◌&&◌, leb, eqb, Result, Ok, Err}
use Rattle.codes.specs.Codes
use Rattle.codes.specs.declared.Refusal.{Refusal}
use Rattle.codes.specs.declared.Refusal.TheVariants.{Unsound}
use Rattle.std.specs.Prelude.{if◌then◌else◌}
use Rattle.frame.specs.Frame.{length_code}
use Rattle.terms.specs.Terms.{terms_good, rate, capacity, cost}
use Rattle.terms.specs.declared.Terms.{Terms}
use Rattle.account.specs.declared.Account.{Account}
use Rattle.account.specs.declared.Measured.{Measured}

-- the configured values of an account; and the account with such values, a credit and a last time
abbrev pub terms_of : Account → Terms
terms_of a = a.terms

abbrev pub account_of : Terms → ℕ → ℕ → Account
account_of p c t = record { terms = p; credit = c; last = t }

-- the account when it holds credit c and its last time is t
abbrev pub holding : Account → ℕ → ℕ → Account
holding a c t = account_of (terms_of a) c t

-- a fresh account, as loading leaves an account: credit at capacity, last time 0
abbrev pub loaded : Terms → Account
loaded p = account_of p (capacity p) 0

-- whether code 10 doesn't fit the account ("Codes, in order of checking"): values within limits, credit at most the
-- capacity
unfoldable pub account_sound : Account → Bool
account_sound a = terms_good (terms_of a) && leb a.credit (capacity (terms_of a))

-- the credit topped up to time t: the credit and what the elapsed time adds, at most `full`
unfoldable pub credit_up_to : Account → ℕ → ℕ → ℕ
credit_up_to a full t = min full (a.credit + rate (terms_of a) * (t - a.last))

-- the credit topped up to time t, at most the capacity
abbrev pub credit_at : Account → ℕ → ℕ
credit_at a t = credit_up_to a (capacity (terms_of a)) t

-- ---- the methods: each gives 0, or changes nothing, where the policing step refuses what that method is given

unfoldable pub capacity_of : Account → ℕ
capacity_of a = if account_sound a then capacity (terms_of a) else 0

-- the capacity of a sound account; one that is not is refused
unfoldable pub sound_capacity : Account → Result ℕ Refusal
sound_capacity a = if account_sound a then Ok (capacity (terms_of a)) else Err Unsound

unfoldable pub cost_of : Account → ℕ → ℕ
cost_of a n = if eqb (length_code n) Codes.success && account_sound a then cost (terms_of a) n else 0

-- what capacity and cost hand back: the number x, and the account as it was ("Each place and its form")
abbrev pub measured : ℕ → Account → Measured
measured x a = record { units = x; account = a }

unfoldable pub topped_up : Account → ℕ → Account
topped_up a t = if account_sound a && leb a.last t then holding a (credit_at a t) t else a

-- the account less a frame's cost; a short credit stays, as the step keeps the credit of a dropped frame. Document 01
-- doesn't speak of this method alone
unfoldable pub debited : Account → ℕ → Account
debited a n =
    if leb (cost_of a n) a.credit
    then holding a (a.credit - cost_of a n) a.last
    else a
