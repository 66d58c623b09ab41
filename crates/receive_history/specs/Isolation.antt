-- One link apart from all other traffic (document 02, Q-1: "Two runs that differ only in other links' frames deliver the same on
-- this link"); proved in proofs/Isolation.antt.
use Rattle.std.specs.Prelude.{ℕ, List, ◌≡◌}
use Rattle.lists.specs.Lists.{only, answers_to}
use Rattle.receive_answer.specs.declared.Arrival.{Arrival}
use Rattle.receive_history.specs.History.{frame_answers, final_memory, Empty, Octets, on_link, skew_of, memory_of}

-- two histories, each with rows and memories of its own, share a link's answers and the memory that the link's frames
-- leave, where the link has the same SkewMax in both and the link's frames are the same
pub record SameOnLink (link : ℕ) (rows r : List ℕ) (h : List Arrival) (rows' r' : List ℕ) (h' : List Arrival) : Type 0 where
  pub says : answers_to (on_link link) h (frame_answers rows r h) ≡ answers_to (on_link link) h' (frame_answers rows' r' h')
  pub leaves : memory_of rows (final_memory rows r h) link ≡ memory_of rows' (final_memory rows' r' h') link

-- the same on a link, from any memories in which the link's own are equal
abbrev pub ReceptionsApartFromAny : Type 0
ReceptionsApartFromAny =
    (link : ℕ) (rows r : List ℕ) (h : List Arrival) → Octets h
    → (rows' r' : List ℕ) (h' : List Arrival) → Octets h'
    → skew_of rows r link ≡ skew_of rows' r' link → memory_of rows r link ≡ memory_of rows' r' link
    → only (on_link link) h ≡ only (on_link link) h'
    → SameOnLink link rows r h rows' r' h'

-- the same on a link, from empty memories
abbrev pub ReceptionsApart : Type 0
ReceptionsApart =
    (link : ℕ) (rows r : List ℕ) → Empty rows r → (h : List Arrival) → Octets h
    → (rows' r' : List ℕ) → Empty rows' r' → (h' : List Arrival) → Octets h'
    → skew_of rows r link ≡ skew_of rows' r' link → only (on_link link) h ≡ only (on_link link) h'
    → SameOnLink link rows r h rows' r' h'
