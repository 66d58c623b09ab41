-- Histories (document 01, "The terms of demand 3"): lists of frame calls from tables just loaded. What such a list answers and
-- leaves is switch's `call_answers` and `final_state`.
use Rattle.std.specs.Prelude.{ℕ, List, map}
use Rattle.tables.specs.Rows.{Config, config_for}
use Rattle.image_read.specs.Read.{read_image}
use Rattle.image_fill.specs.Filling.{Runs}
use Rattle.switch_verdict.specs.Verdict.{Report}
use Rattle.switch.specs.Call.{State, state_of}

-- the numbers of answers in the table of codes
abbrev pub call_codes : List Report → List ℕ
call_codes = map (λ w. w.code)

-- what a call is lent of runs that begin with what loading an image wrote: the constant field, the counts and the rows; and the
-- credits and last times
abbrev pub config_in : List ℕ → Runs → Config
config_in s r = config_for (read_image s).settings r.accounts r.links

abbrev pub state_in : Runs → State
state_in r = state_of r.credits r.lasts
