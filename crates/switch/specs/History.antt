-- Lists of frame calls on one set of tables, each on what the call before left (document 01, "The terms of demand 3").
use Rattle.std.specs.Prelude.{List}
use Rattle.lists.specs.History
use Rattle.lists.specs.History.{Machine}
use Rattle.tables.specs.Rows.{Config}
use Rattle.switch_verdict.specs.Verdict.{Report}
use Rattle.switch.specs.Call.{State, Call, called}

-- frame calls on these tables: what a call answers, and the credits and last times that it leaves
abbrev pub calls_on : Config → Machine State Call Report
calls_on g = record { says = λ s f. (called g s f).says; leaves = λ s f. (called g s f).state }

-- what the calls of a list answer, one each, and what the last one leaves
abbrev pub call_answers : Config → State → List Call → List Report
call_answers g s h = History.answers (calls_on g) s h

abbrev pub final_state : Config → State → List Call → State
final_state g s h = History.final (calls_on g) s h
