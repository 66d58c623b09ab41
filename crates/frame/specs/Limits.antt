-- The sizes that a frame can have, frame check sequence and all (document 01, "The frame").
use Rattle.std.specs.Prelude.{ℕ}

abbrev pub smallest_frame : ℕ
smallest_frame = 64

abbrev pub largest_frame : ℕ
largest_frame = 1518
