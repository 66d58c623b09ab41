-- What writing an image answers and leaves in the lent room (document 01, "The configuration image", the writer).
use Rattle.std.specs.Prelude.{ℕ, ◌*◌, Bool, not, ◌&&◌, List, length, ltb, leb, eqb, Result, Ok, Err}
use Rattle.codes.specs.Codes
use Rattle.codes.specs.Refused.{fault_number}
use Rattle.std.specs.Prelude.{if◌then◌else◌}
use Rattle.octets.specs.Runs.{put}
use Rattle.lists.specs.Leading.{leading}
use Rattle.tables.specs.Rows.{Config, account_octets, link_octets, account_table, link_table}
use Rattle.tables_rules.specs.Rules.{account_good, link_good}
use Rattle.image_layout.specs.Layout.{max_accounts, max_links, field_offset, image_length, constant_good, image_of}
use Rattle.image_read.specs.declared.ImageError.{ImageError}

-- whether a count is from 1 to its limit, with so many rows of w octets lent
unfoldable pub count_good : ℕ → ℕ → ℕ → ℕ → Bool
count_good n limit w lent = leb 1 n && leb n limit && leb (w * n) lent

unfoldable pub counts_good : List ℕ → ℕ → List ℕ → ℕ → Bool
counts_good accounts n links m = count_good n max_accounts account_octets (length accounts) && count_good m max_links link_octets (length links)

-- the first account, and the first link, with a bad value; the count where no value is bad
unfoldable pub bad_account : Config → ℕ
bad_account g = leading (account_good (account_table g.accounts)) g.count_of_accounts

unfoldable pub bad_link : Config → ℕ
bad_link g = leading (link_good (account_table g.accounts) (link_table g.links) g.count_of_accounts) g.count_of_links

-- what writing answers: the code, and the length of the image or the offset that a bad field would have had
pub record Written : Type 0 where
  pub code : ℕ
  pub offset : ℕ

abbrev pub written_of : ℕ → ℕ → Written
written_of code offset = record { code = code; offset = offset }

-- the answer that a result of the code stands for
abbrev pub written_by : Result ℕ ImageError → Written
written_by (Ok size) = written_of Codes.success size
written_by (Err e) = written_of (fault_number e.fault) e.offset

-- the answer by the values: 23 with the offset that the first bad field would have, the constant field's first; else 0
-- with the length of the image
unfoldable pub value_answer : Config → Written
value_answer g =
    if not (constant_good g.constant) then written_of Codes.bad_value 0
    else if ltb (bad_account g) g.count_of_accounts then written_of Codes.bad_value (field_offset (bad_account g) 0)
    else if ltb (bad_link g) g.count_of_links then written_of Codes.bad_value (field_offset g.count_of_accounts (bad_link g))
    else written_of Codes.success (image_length g.count_of_accounts g.count_of_links)

-- the answer of writing into a room of this length: 24, then 23, then 26
unfoldable pub write_answer : Config → ℕ → Written
write_answer g room =
    if not (counts_good g.accounts g.count_of_accounts g.links g.count_of_links) then written_of Codes.bad_count 0
    else if not (eqb (value_answer g).code Codes.success) then value_answer g
    else if ltb room (image_length g.count_of_accounts g.count_of_links) then written_of Codes.no_room 0
    else value_answer g

-- an answer of writing, with the room after writing
pub record Writing : Type 0 where
  pub answer : Written
  pub room : List ℕ

abbrev pub writing_of : Written → List ℕ → Writing
writing_of q d = record { answer = q; room = d }

-- what writing answers and leaves: a refusal writes nothing; success writes the image at the room's start
unfoldable pub writing : Config → List ℕ → Writing
writing g d =
    if eqb (write_answer g (length d)).code Codes.success
    then writing_of (write_answer g (length d)) (put d 0 (image_of g))
    else writing_of (write_answer g (length d)) d
