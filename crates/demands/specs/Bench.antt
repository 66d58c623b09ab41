-- The starred cases of the bench sheet (document 01, "Bench sheet") as one statement, from the octets of image P through
-- loading and the frame call. The cases' octets and times are those of account_rule's table. The cost of case 3, the sums of
-- case 4 and the top-up of case 10 stand there too, for the account values that image P is shown here to have.
use Rattle.std.specs.Prelude.{ℕ, ◌-◌, ◌^◌, true, List, [], ◌∷◌, map, ◌≡◌, get_or, set, replicate}
use Rattle.std.proofs.Math.Option.{none, some}
use Rattle.terms.specs.Terms.{byte_mode, frame_mode}
use Rattle.account_rule.specs.Bench.{Case, terms_p, byte_cases, frame_cases}
use Rattle.image_read.specs.Bench.{image_p, answer_p}
use Rattle.image_load.specs.Loading.{loading}
use Rattle.image_fill.specs.Filling.{Runs, long_enough}
use Rattle.image_round_trip.specs.RoundTrips.{loaded_tables}
use Rattle.switch_verdict.specs.Verdict.{Report, report}
use Rattle.switch.specs.Call.{State, Call, call_of, called}
use Rattle.switch.specs.History.{call_answers, final_state}
use Rattle.demands.specs.History.{state_in}
use Rattle.demands.specs.Rule.{image_terms}

-- image P with frame mode in its account: octet 16 is 1
abbrev pub frame_image_p : List ℕ
frame_image_p = set image_p 16 1

-- a frame of n octets, 6 or more, with image P's constant field, on link 7 and port 2
abbrev pub sent : ℕ → ℕ → Call
sent n t = call_of (3 ∷ 0 ∷ 0 ∷ 0 ∷ 0 ∷ 7 ∷ replicate (n - 6) 0) 2 t

abbrev pub calls : List Case → List Call
calls = map (λ c. sent c.step.octets c.step.time)

-- what the cases report, written out: a forwarded frame link 7's mask, port 3, and the credit left; a short or late one the
-- credit held
abbrev pub byte_verdicts : List Report
byte_verdicts =
    report 0 (some 8) (some 100000)
    ∷ report 9 none (some 199800)
    ∷ report 0 (some 8) (some 0)
    ∷ report 8 none (some 0)
    ∷ report 9 none (some 199800)
    ∷ report 0 (some 8) (some 0)
    ∷ report 9 none (some 0)
    ∷ report 0 (some 8) (some 0)
    ∷ report 0 (some 8) (some 100000)
    ∷ []

abbrev pub frame_verdicts : List Report
frame_verdicts = report 0 (some 8) (some 100000) ∷ []

-- the answers of these cases from an image loaded into runs
abbrev pub case_answers : List ℕ → Runs → List Case → List Report
case_answers s r cases = call_answers (loaded_tables s r) (state_in (loading s r).runs) (calls cases)

-- and what they leave
abbrev pub state_after : List ℕ → Runs → List Case → State
state_after s r cases = final_state (loaded_tables s r) (state_in (loading s r).runs) (calls cases)

-- what loading answers, and the account that image P names; case 1; cases 2 to 10, and what the account then holds; case 11.
-- From runs of any content, long enough for one account and one link
abbrev pub CallBenchTable : Type 0
CallBenchTable =
    (r : Runs) → long_enough 1 1 r ≡ true
    → ((loading image_p r).answer ≡ answer_p)
    × (image_terms image_p 0 ≡ terms_p byte_mode)
    × (image_terms frame_image_p 0 ≡ terms_p frame_mode)
    × (get_or (loading image_p r).runs.credits 0 0 ≡ 300000)
    × (case_answers image_p r byte_cases ≡ byte_verdicts)
    × (get_or (state_after image_p r byte_cases).credits 0 0 ≡ 100000)
    × (get_or (state_after image_p r byte_cases).lasts 0 0 ≡ 2 ^ 64 - 1)
    × (case_answers frame_image_p r frame_cases ≡ frame_verdicts)

-- case 12: a frame of 63, 64, 200, 201, 1,518 and 1,519 octets on link 7, each on tables just loaded
abbrev pub CaseTwelve : Type 0
CaseTwelve =
    (r : Runs) → long_enough 1 1 r ≡ true
    → map (λ n. (called (loaded_tables image_p r) (state_in (loading image_p r).runs) (sent n 0)).says.code)
    (63 ∷ 64 ∷ 200 ∷ 201 ∷ 1518 ∷ 1519 ∷ [])
    ≡ 1 ∷ 0 ∷ 0 ∷ 7 ∷ 7 ∷ 2 ∷ []
