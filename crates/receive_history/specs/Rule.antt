-- The rule of the receiving end over a history (document 02, Q-1): each frame's answer from the rows and from the
-- frames before it with their answers. The rule reads no memory.
use Rattle.std.specs.Prelude.{ℕ, Bool, true, false, ◌&&◌, List, [], ◌∷◌, eqb, Option, Some, None, if◌then◌else◌}
use Rattle.lists.specs.History.{Machine, answers, by_answers}
use Rattle.lists.specs.Lists.{only}
use Rattle.rows.specs.Rows.{Found}
use Rattle.receive_answer.specs.declared.Arrival.{Arrival}
use Rattle.receive_answer.specs.declared.Network.{Network}
use Rattle.receive_answer.specs.declared.Network.TheVariants.{A, B}
use Rattle.receive_answer.specs.declared.Reception.{Reception}
use Rattle.receive_answer.specs.declared.Reception.TheVariants.{Delivered, Copy, OutOfSequence, UnknownLink, Late}
use Rattle.receive.specs.Lent.{skew_in, row_found}
use Rattle.receive_answer.specs.Answer.{other, taken, reception_by}
use Rattle.receive_history.specs.History.{Answered, answered_of, on_link}

-- ---- the frames that a link received: all but those refused with 4 or 8. Lists of earlier frames have the newest
-- first
abbrev pub received_on : ℕ → Answered → Bool
received_on link a = on_link link a.frame && taken a.says

abbrev pub of_link : ℕ → List Answered → List Answered
of_link link past = only (received_on link) past

-- ---- what these frames say
-- the last time, on either network
unfoldable pub newest_time : List Answered → ℕ
newest_time [] = 0
newest_time (a ∷ past) = a.frame.time

-- the last number on a network
abbrev pub same_network : Network → Network → Bool
same_network A A = true
same_network A B = false
same_network B A = false
same_network B B = true

unfoldable pub newest_number : Network → List Answered → Option ℕ
newest_number x [] = None
newest_number x (a ∷ past) = if same_network a.frame.network x then Some a.frame.number else newest_number x past

-- the time of the latest delivery of number n on a network, if that delivery hasn't met its copy. Going back, the first
-- frame that matters is either this delivery, or a copy of n on the other network, which met the delivery
abbrev pub numbered : Network → ℕ → Arrival → Bool
numbered x n f = same_network f.network x && eqb f.number n

abbrev pub unmet_by : Network → ℕ → Arrival → Reception → Option ℕ → Option ℕ
unmet_by x n f Delivered d = if numbered x n f then Some f.time else d
unmet_by x n f Copy d = if numbered (other x) n f then None else d
unmet_by x n f OutOfSequence d = d
unmet_by x n f UnknownLink d = d
unmet_by x n f Late d = d

unfoldable pub unmet : Network → ℕ → List Answered → Option ℕ
unmet x n [] = None
unmet x n (a ∷ past) = unmet_by x n a.frame a.says (unmet x n past)

-- ---- the answer to a frame by the rule, on a link with this SkewMax that received these frames
unfoldable pub rule_on : ℕ → List Answered → Arrival → Reception
rule_on skew past f =
    reception_by skew (newest_time past) (newest_number f.network past) (unmet (other f.network) f.number past) f.number f.time

abbrev pub rule_by : List ℕ → List Answered → Arrival → Found → Reception
rule_by rows past f None = UnknownLink
rule_by rows past f (Some j) = rule_on (skew_in rows j) (of_link f.link past) f

-- the answer by the row of the frame's link, with so many words of memories lent
unfoldable pub rule_answer : List ℕ → ℕ → List Answered → Arrival → Reception
rule_answer rows words past f = rule_by rows past f (row_found rows words f.link)

-- the rule as a machine whose state is the past with its answers; and the answers to a history by the rule
abbrev pub rule_of_frames : List ℕ → ℕ → Machine (List Answered) Arrival Answered
rule_of_frames rows words = by_answers (λ past f. answered_of f (rule_answer rows words past f))

abbrev pub rule_answers : List ℕ → ℕ → List Arrival → List Answered
rule_answers rows words h = answers (rule_of_frames rows words) [] h
