-- The runs that loading is lent, each by its name, and when they are long enough (document 01, "The configuration image"); proved
-- in proofs/Claims.antt.
use Rattle.std.specs.Prelude.{ℕ, ◌*◌, ◌≤◌, true, List, ◌↔◌, ◌≡◌, length}
use Rattle.image_fill.specs.Filling.{Runs, runs_of, long_enough}

abbrev pub RunParts : Type 0
RunParts =
    (a c t l : List ℕ)
    → ((runs_of a c t l).accounts ≡ a) × ((runs_of a c t l).credits ≡ c) × ((runs_of a c t l).lasts ≡ t) × ((runs_of a c t l).links ≡ l)

-- runs are long enough exactly where there is a row, a credit and a last time for every account, and a row for every
-- link
abbrev pub LongEnoughExactly : Type 0
LongEnoughExactly =
    (n m : ℕ) (r : Runs)
    → (long_enough n m r ≡ true)
    ↔ ((6 * n ≤ length r.accounts) × (n ≤ length r.credits) × (n ≤ length r.lasts) × (13 * m ≤ length r.links))
