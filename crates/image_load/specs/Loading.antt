-- What loading an image answers and leaves in the four lent runs (document 01, "The configuration image" and "Credit, in whole
-- units").
use Rattle.std.specs.Prelude.{ℕ, not, List, length, eqb}
use Rattle.codes.specs.Codes
use Rattle.std.specs.Prelude.{if◌then◌else◌}
use Rattle.image_read.specs.declared.ImageAnswer.{ImageAnswer}
use Rattle.image_read.specs.Read.{image_refused, read_image}
use Rattle.image_fill.specs.Filling.{Runs, runs_hold, filled}

-- an answer of loading, with the runs after loading
pub record Loading : Type 0 where
  pub answer : ImageAnswer
  pub runs : Runs

abbrev pub loading_of : ImageAnswer → Runs → Loading
loading_of q r = record { answer = q; runs = r }

-- the answer of loading, by the lengths of the runs: 26 only when nothing else is refused
unfoldable pub load_answer : List ℕ → ℕ → ℕ → ℕ → ℕ → ImageAnswer
load_answer s accounts credits lasts links =
    if not (eqb (read_image s).code Codes.success) then read_image s
    else if runs_hold (read_image s).settings.accounts (read_image s).settings.links accounts credits lasts links then read_image s
    else image_refused Codes.no_room (length s)

abbrev pub answer_for : List ℕ → Runs → ImageAnswer
answer_for s r = load_answer s (length r.accounts) (length r.credits) (length r.lasts) (length r.links)

unfoldable pub loading : List ℕ → Runs → Loading
loading s r =
    if eqb (answer_for s r).code Codes.success
    then loading_of (answer_for s r) (filled s (answer_for s r).settings.accounts (answer_for s r).settings.links r)
    else loading_of (answer_for s r) r
