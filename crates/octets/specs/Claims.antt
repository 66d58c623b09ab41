-- What holds of numbers in octets at every width; proved in proofs/Claims.antt.
use Rattle.std.specs.Prelude.{ℕ, ◌+◌, ◌^◌, ◌≤◌, ◌<◌, ◌≡◌, List, length, get_or}
use Rattle.octets.specs.Numbers.{number_at, octets_of}
use Rattle.octets.specs.Runs.{put}

-- a number that is written where it has room reads back
abbrev pub ReadsBack : Type 0
ReadsBack =
    (w : ℕ) (d : List ℕ) (at x : ℕ) → at + w ≤ length d → x < 256 ^ w
    → number_at w (put d at (octets_of w x)) at ≡ x

-- a number that was read, written at its own offset again, leaves the octets as they were
abbrev pub WritesBack : Type 0
WritesBack =
    (w : ℕ) (d : List ℕ) (at : ℕ) → ((i : ℕ) → get_or d i 0 < 256)
    → put d at (octets_of w (number_at w d at)) ≡ d
