-- Answers of document 01 and of request Q-1 in numbers, as programs in other languages get them: one number for each
-- part, 0 for a mask or a credit that an answer doesn't carry. By the code a caller knows which parts the answer
-- carries ("Codes, in order of checking": the verdict carries its own data).
use Rattle.std.specs.Prelude.{ℕ, List, eqb}
use Rattle.std.proofs.Math.Option.{Option, none, some}
use Rattle.tables.specs.Rows.{settings_of}
use Rattle.std.specs.Prelude.{if◌then◌else◌}
use Rattle.frame.specs.Frame.{Reading}
use Rattle.terms.specs.Terms.{terms_with}
use Rattle.account.specs.Account.{account_of}
use Rattle.account.specs.Step.{StepReport, Stepped}
use Rattle.account.specs.declared.Account.{Account}
use Rattle.image_read.specs.declared.ImageAnswer.{ImageAnswer}
use Rattle.switch_verdict.specs.Verdict.{Report}
use Rattle.switch.specs.Call.{State, After}
use Rattle.receive.specs.Receive.{Received}
use Rattle.receive_answer.specs.Answer.{reception_code}
use Rattle.receive_answer.specs.declared.Network.{Network}
use Rattle.receive_answer.specs.declared.Network.TheVariants.{A, B}

abbrev pub or_zero : Option ℕ → ℕ
or_zero none = 0
or_zero (some x) = x

-- ---- frame reading ("The frame")
abbrev pub header_with : ℕ → ℕ → ℕ → Reading
header_with code link sequence = record { code = code; link = link; sequence = sequence }

-- ---- an account by its values ("Accounts and links"): Smax, k, jitter, mode, credit and last time
abbrev pub account_with : ℕ → ℕ → ℕ → ℕ → ℕ → ℕ → Account
account_with smax k jitter mode credit last =
    account_of (terms_with smax k jitter mode) credit last

-- ---- the policing step ("Credit, in whole units"): the code, the credit reported, and the account after the step
pub record StepNumbers : Type 0 where
  pub code : ℕ
  pub credit : ℕ

abbrev pub step_numbers : ℕ → ℕ → StepNumbers
step_numbers code credit = record { code = code; credit = credit }

abbrev pub step_says : StepReport → StepNumbers
step_says w = step_numbers w.code (or_zero w.credit)

pub record StepDone : Type 0 where
  pub says : StepNumbers
  pub account : Account

abbrev pub step_done : StepNumbers → Account → StepDone
step_done n a = record { says = n; account = a }

abbrev pub step_done_of : Stepped → StepDone
step_done_of q = step_done (step_says q.says) q.account

-- ---- the frame call ("Codes, in order of checking"): the code, the mask and the credit reported, and the state after
-- the call
pub record CallNumbers : Type 0 where
  pub code : ℕ
  pub mask : ℕ
  pub credit : ℕ

abbrev pub call_numbers : ℕ → ℕ → ℕ → CallNumbers
call_numbers code mask credit = record { code = code; mask = mask; credit = credit }

abbrev pub call_says : Report → CallNumbers
call_says w = call_numbers w.code (or_zero w.mask) (or_zero w.credit)

pub record CallDone : Type 0 where
  pub says : CallNumbers
  pub state : State

abbrev pub call_done : CallNumbers → State → CallDone
call_done n s = record { says = n; state = s }

abbrev pub call_done_of : After → CallDone
call_done_of r = call_done (call_says r.says) r.state

-- ---- reading and loading an image ("The configuration image"): code, offset, constant field, counts of accounts and links
abbrev pub loaded_with : ℕ → ℕ → ℕ → ℕ → ℕ → ImageAnswer
loaded_with code offset constant accounts links =
    record { code = code; offset = offset; settings = settings_of constant accounts links }

-- ---- the receiving end's call (document 02, Q-1): the number of the answer, and the memory after the call
abbrev pub network_of : ℕ → Network
network_of n = if eqb n 0 then A else B

pub record ReceptionDone : Type 0 where
  pub number : ℕ
  pub memory : List ℕ

abbrev pub reception_done : ℕ → List ℕ → ReceptionDone
reception_done n r = record { number = n; memory = r }

abbrev pub reception_done_of : Received → ReceptionDone
reception_done_of z = reception_done (reception_code z.says) z.memory
