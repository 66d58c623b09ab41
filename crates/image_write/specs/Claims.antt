-- What holds of writing for any tables, counts and room whatsoever (document 01, "The configuration image", the writer); proved
-- in proofs/Claims.antt.
use Rattle.std.specs.Prelude.{ℕ, ◌*◌, ◌≤◌, ◌<◌, true, false, ◌↔◌, ◌≡◌, length, drop}
use mathlib.Core.List.{List, [], ◌∷◌, ◌++◌, Memᴰ}
use Rattle.tables.specs.Rows.{Config, account_table, link_table}
use Rattle.tables_rules.specs.Rules.{account_good, link_good}
use Rattle.image_layout.specs.Layout.{field_offset, image_length, constant_good, image_of}
use Rattle.image_write.specs.Writing.{counts_good, written_of, value_answer, writing}

-- demand 1: the codes that writing can answer
abbrev pub WriteCodes : Type 0
WriteCodes = (g : Config) (d : List ℕ) → Memᴰ (writing g d).answer.code (0 ∷ 23 ∷ 24 ∷ 26 ∷ [])

-- demand 1: a refusal writes nothing
abbrev pub RefusedWriteKeeps : Type 0
RefusedWriteKeeps = (g : Config) (d : List ℕ) → ((writing g d).answer.code ≡ 0 → ⊥) → (writing g d).room ≡ d

-- the offsets of answers: 0 with 24 and 26, the image's length with success
abbrev pub WriteOffsets : Type 0
WriteOffsets =
    (g : Config) (d : List ℕ)
    → ((writing g d).answer.code ≡ 24 → (writing g d).answer.offset ≡ 0)
    × ((writing g d).answer.code ≡ 26 → (writing g d).answer.offset ≡ 0)
    × ((writing g d).answer.code ≡ 0 → (writing g d).answer.offset ≡ length (image_of g))

-- counts are good exactly where each is from 1 to its limit and so many rows are lent
abbrev pub CountsExactly : Type 0
CountsExactly =
    (accounts : List ℕ) (n : ℕ) (links : List ℕ) (m : ℕ)
    → (counts_good accounts n links m ≡ true)
    ↔ (((1 ≤ n) × (n ≤ 64) × (6 * n ≤ length accounts)) × ((1 ≤ m) × (m ≤ 256) × (13 * m ≤ length links)))

-- when 24, 26 and success come: 24 by the counts; with good counts and good values, 26 or success by the room
abbrev pub WriteRefuses : Type 0
WriteRefuses =
    (g : Config) (d : List ℕ)
    → (counts_good g.accounts g.count_of_accounts g.links g.count_of_links ≡ false → (writing g d).answer ≡ written_of 24 0)
    × (counts_good g.accounts g.count_of_accounts g.links g.count_of_links ≡ true → (value_answer g).code ≡ 0
    → length d < image_length g.count_of_accounts g.count_of_links → (writing g d).answer ≡ written_of 26 0)

abbrev pub WriteAccepts : Type 0
WriteAccepts =
    (g : Config) (d : List ℕ) → counts_good g.accounts g.count_of_accounts g.links g.count_of_links ≡ true → (value_answer g).code ≡ 0
    → image_length g.count_of_accounts g.count_of_links ≤ length d
    → (writing g d).answer ≡ written_of 0 (image_length g.count_of_accounts g.count_of_links)

-- 23 with the offset of the first bad value: the constant field; else the first account; else, all accounts being good,
-- the first link
abbrev pub FirstBadConstant : Type 0
FirstBadConstant =
    (g : Config) (d : List ℕ) → counts_good g.accounts g.count_of_accounts g.links g.count_of_links ≡ true → constant_good g.constant ≡ false
    → (writing g d).answer ≡ written_of 23 0

abbrev pub FirstBadAccount : Type 0
FirstBadAccount =
    (g : Config) (d : List ℕ) → counts_good g.accounts g.count_of_accounts g.links g.count_of_links ≡ true → constant_good g.constant ≡ true
    → (i : ℕ) → i < g.count_of_accounts → ((k : ℕ) → k < i → account_good (account_table g.accounts) k ≡ true)
    → account_good (account_table g.accounts) i ≡ false
    → (writing g d).answer ≡ written_of 23 (field_offset i 0)

abbrev pub FirstBadLink : Type 0
FirstBadLink =
    (g : Config) (d : List ℕ) → counts_good g.accounts g.count_of_accounts g.links g.count_of_links ≡ true → constant_good g.constant ≡ true
    → ((k : ℕ) → k < g.count_of_accounts → account_good (account_table g.accounts) k ≡ true)
    → (j : ℕ) → j < g.count_of_links
    → ((k : ℕ) → k < j → link_good (account_table g.accounts) (link_table g.links) g.count_of_accounts k ≡ true)
    → link_good (account_table g.accounts) (link_table g.links) g.count_of_accounts j ≡ false
    → (writing g d).answer ≡ written_of 23 (field_offset g.count_of_accounts j)

-- after success the room holds the image, and then what stood there before
abbrev pub WritesImage : Type 0
WritesImage =
    (g : Config) (d : List ℕ) → (writing g d).answer.code ≡ 0
    → (writing g d).room ≡ image_of g ++ drop (length (image_of g)) d

-- the length of an image, from its counts
abbrev pub ImageLength : Type 0
ImageLength = (g : Config) → length (image_of g) ≡ image_length g.count_of_accounts g.count_of_links
