-- What holds of the receiving end's answers (document 02, Q-1); proved in proofs/Claims.antt.
use Rattle.std.specs.Prelude.{ℕ, ◌-◌, ◌≤◌, ◌<◌, true, false, [], ◌∷◌, map, ◌↔◌, ◌≡◌, Option, Some, None}
use Rattle.receive_sequence.specs.Sequence.{passes}
use Rattle.receive_answer.specs.Answer.{reception_code, reception_by}
use Rattle.receive_answer.specs.declared.Reception.{Reception}
use Rattle.receive_answer.specs.declared.Reception.TheVariants.{Delivered, Copy, OutOfSequence, UnknownLink, Late}

-- two answers with the same number are the same
abbrev pub AnswersApart : Type 0
AnswersApart = (a b : Reception) → reception_code a ≡ reception_code b → a ≡ b

-- the numbers of all five answers, in figures
abbrev pub ReceptionNumbers : Type 0
ReceptionNumbers = map reception_code (Delivered ∷ Copy ∷ OutOfSequence ∷ UnknownLink ∷ Late ∷ []) ≡ 0 ∷ 30 ∷ 31 ∷ 4 ∷ 8 ∷ []

-- ---- the rule, for a frame of number n with time t, whatever the frame's link remembers

-- the other network's delivery of n awaits its copy, is not timed after the frame, and is no more than SkewMax old
pub record AwaitsCopy (skew : ℕ) (delivery : Option ℕ) (t : ℕ) : Type 0 where
  pub time : ℕ
  pub awaits : delivery ≡ Some time
  pub not_after : time ≤ t
  pub in_skew_lem : t - time ≤ skew

-- the answer: 8 exactly for a time before the link's last; then out of sequence exactly where the number doesn't pass;
-- then a copy exactly where such a delivery awaits it, else delivered
pub record AnsweredBy (skew last : ℕ) (number delivery : Option ℕ) (n t : ℕ) (a : Reception) : Type 0 where
  pub late : (a ≡ Late) ↔ (t < last)
  pub out : (a ≡ OutOfSequence) ↔ ((last ≤ t) × (passes number n ≡ false))
  pub copy : (a ≡ Copy) ↔ ((last ≤ t) × (passes number n ≡ true) × AwaitsCopy skew delivery t)
  pub delivered : (a ≡ Delivered) ↔ ((last ≤ t) × (passes number n ≡ true) × (AwaitsCopy skew delivery t → ⊥))

abbrev pub AnswersExactly : Type 0
AnswersExactly =
    (skew last : ℕ) (number delivery : Option ℕ) (n t : ℕ)
    → AnsweredBy skew last number delivery n t (reception_by skew last number delivery n t)

-- a delivery timed after the frame counts as none
abbrev pub LaterCountsAsNone : Type 0
LaterCountsAsNone =
    (skew last : ℕ) (number : Option ℕ) (d n t : ℕ) → last ≤ t → passes number n ≡ true → t < d
    → reception_by skew last number (Some d) n t ≡ Delivered

-- the answers in figures: SkewMax 100, last time 40, first on its network, a delivery at 50
abbrev pub AnswersInFigures : Type 0
AnswersInFigures =
    map (reception_by 100 40 None (Some 50) 7) (39 ∷ 40 ∷ 49 ∷ 50 ∷ 150 ∷ 151 ∷ [])
    ≡ Late ∷ Delivered ∷ Delivered ∷ Copy ∷ Copy ∷ Delivered ∷ []
