-- The configured values of an account, their limits, and what follows from them alone: BAG, charge, capacity and cost
-- (document 01, "Accounts and links" and "Credit, in whole units"; document 02, Q-3).
use Rattle.std.specs.Prelude.{ℕ, ◌+◌, ◌*◌, ◌^◌, Bool, ◌&&◌, ◌||◌, leb, eqb}
use Rattle.codes.specs.Codes
use Rattle.std.specs.Prelude.{if◌then◌else◌}
use Rattle.frame.specs.Limits.{smallest_frame, largest_frame}
use Rattle.frame.specs.Frame.{length_code}
use Rattle.terms.specs.declared.Terms.{Terms}

-- an account's values: Smax in octets, k of the BAG, jitter in microseconds, mode
abbrev pub terms_with : ℕ → ℕ → ℕ → ℕ → Terms
terms_with smax k jitter mode = record { smax = smax; k = k; jitter = jitter; mode = mode }

-- the largest k and the largest jitter
abbrev pub largest_k : ℕ
largest_k = 7

abbrev pub largest_jitter : ℕ
largest_jitter = 10000

-- the modes: byte mode and frame mode, and from 2 on both with line octets (Q-3). No mode is above the last
abbrev pub byte_mode : ℕ
byte_mode = 0

abbrev pub frame_mode : ℕ
frame_mode = 1

abbrev pub line_byte_mode : ℕ
line_byte_mode = 2

abbrev pub line_frame_mode : ℕ
line_frame_mode = 3

-- whether the values keep their limits; those of Smax are a frame's
unfoldable pub terms_good : Terms → Bool
terms_good p =
    leb smallest_frame p.smax
    && leb p.smax largest_frame
    && leb p.k largest_k
    && leb p.jitter largest_jitter
    && leb p.mode line_frame_mode

-- the bandwidth allocation gap in microseconds: one millisecond, doubled k times
abbrev pub shortest_bag : ℕ
shortest_bag = 1000

unfoldable pub bag : ℕ → ℕ
bag k = shortest_bag * 2 ^ k

-- what the line takes beside a frame's octets, in octets (Q-3; IEEE 802.3): preamble and start delimiter, 8, and the gap between
-- frames, 12
abbrev pub line_octets : ℕ
line_octets = 20

-- the charge added to any octets, by mode
unfoldable pub added : ℕ → ℕ
added mode = if leb line_byte_mode mode then line_octets else 0

-- what is charged for n octets, by mode
unfoldable pub charge : ℕ → ℕ → ℕ
charge mode n = n + added mode

-- what a microsecond adds to the credit: the charge of Smax
unfoldable pub rate : Terms → ℕ
rate p = charge p.mode p.smax

-- capacity = rate × (BAG + J)
unfoldable pub capacity : Terms → ℕ
capacity p = rate p * (bag p.k + p.jitter)

-- whether a mode charges a frame by its own octets; the other modes charge Smax for a frame
unfoldable pub by_octets : ℕ → Bool
by_octets mode = eqb mode byte_mode || eqb mode line_byte_mode

-- what is charged for a frame of n octets
unfoldable pub charged : Terms → ℕ → ℕ
charged p n = charge p.mode (if by_octets p.mode then n else p.smax)

-- cost = octets charged × BAG
unfoldable pub cost : Terms → ℕ → ℕ
cost p n = charged p n * bag p.k

-- the capacity as the method gives it: 0 where the values break a limit
unfoldable pub checked_capacity : Terms → ℕ
checked_capacity p = if terms_good p then capacity p else 0

-- the cost as the method gives it: 0 where the values break a limit or no frame has n octets
unfoldable pub checked_cost : Terms → ℕ → ℕ
checked_cost p n = if terms_good p && eqb (length_code n) Codes.success then cost p n else 0
