-- The checks of one field of an image (document 01, "The configuration image").
use Rattle.std.specs.Prelude.{ℕ, ◌+◌, Bool, true, false, not, ◌&&◌, ◌||◌, List, get_or, leb, eqb}
use Rattle.codes.specs.Codes
use Rattle.std.specs.Prelude.{if◌then◌else◌}
use Rattle.rows.specs.Rows.{Rows}
use Rattle.tables.specs.Rows.{account_octets, link_octets}
use Rattle.tables_rules.specs.Rules.{account_good, link_good}
use Rattle.fields.specs.Fields.{tag_and_length, field_at}
use Rattle.fields.specs.declared.Field.{Field}
use Rattle.image_layout.specs.Layout.{head_tag, account_tag, link_tag, end_tag, edition, head_octets, field_offset}
use Rattle.image_layout.specs.Layout.{data_offset, max_accounts, max_links, edition_offset, constant_of, constant_good}

-- the code of a field, by the checks in document 01's order: 20 without room for tag and length, 21 by the tag, 22 by
-- the length, 20 without room for the data, 24 for one field too many, 23 for a value
unfoldable pub field_code : Field → Bool → ℕ → Bool → Bool → ℕ
field_code f order size full good =
    if not f.headed then Codes.cut
    else if not order then Codes.wrong_tag
    else if not (eqb f.size size) then Codes.wrong_length
    else if not f.whole then Codes.cut
    else if full then Codes.bad_count
    else if not good then Codes.bad_value
    else Codes.success

-- ---- the head: whether its edition and its constant field are good; its code
unfoldable pub head_good : List ℕ → Bool
head_good s = eqb (get_or s edition_offset 0) edition && constant_good (constant_of s)

unfoldable pub head_code : List ℕ → ℕ
head_code s = field_code (field_at s 0) (eqb (field_at s 0).tag head_tag) head_octets false (head_good s)

-- ---- the field after n accounts and m links

-- the data of fields of one size, the first at an offset, as rows; the rows of the accounts, and of the links after n
-- accounts
abbrev pub field_rows : List ℕ → ℕ → ℕ → Rows
field_rows s first size = record { octets = s; first = first; step = tag_and_length + size }

abbrev pub account_fields : List ℕ → Rows
account_fields s = field_rows s (data_offset 0 0) account_octets

abbrev pub link_fields : List ℕ → ℕ → Rows
link_fields s n = field_rows s (data_offset n 0) link_octets

-- whether a tag may stand after n accounts and m links: first an account; then an account or a link; after a link a
-- link or the end
unfoldable pub in_order : ℕ → ℕ → ℕ → Bool
in_order tag n m =
    if eqb n 0 then eqb tag account_tag
    else if eqb m 0 then eqb tag account_tag || eqb tag link_tag
    else eqb tag link_tag || eqb tag end_tag

-- the length of a tag's data: an account's, a link's, the end's
unfoldable pub data_octets : ℕ → ℕ
data_octets tag = if eqb tag account_tag then account_octets else if eqb tag link_tag then link_octets else 0

-- whether one more account or link would be over the limit
unfoldable pub is_full : ℕ → ℕ → ℕ → Bool
is_full tag n m = if eqb tag account_tag then leb max_accounts n else if eqb tag link_tag then leb max_links m else false

-- whether the values of the field keep their rules
unfoldable pub values_good : List ℕ → ℕ → ℕ → ℕ → Bool
values_good s tag n m =
    if eqb tag account_tag then account_good (account_fields s) n
    else if eqb tag link_tag then link_good (account_fields s) (link_fields s n) n m
    else true

-- the field's code, or 0, for a given tag; the tag that stands there; and the field's code for that tag
abbrev pub code_by_tag : List ℕ → ℕ → ℕ → ℕ → ℕ
code_by_tag s n m tag = field_code (field_at s (field_offset n m)) (in_order tag n m) (data_octets tag) (is_full tag n m) (values_good s tag n m)

abbrev pub tag_at : List ℕ → ℕ → ℕ → ℕ
tag_at s n m = (field_at s (field_offset n m)).tag

unfoldable pub next_code : List ℕ → ℕ → ℕ → ℕ
next_code s n m = code_by_tag s n m (tag_at s n m)
