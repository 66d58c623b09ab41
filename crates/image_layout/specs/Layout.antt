-- The octets of a configuration image: tagged fields one after the other (document 01, "The configuration image").
use Rattle.std.specs.Prelude.{ℕ, ◌+◌, ◌*◌, ◌/◌, ◌%◌, ◌^◌, Bool, List, [], ◌∷◌, ◌++◌, eqb}
use Rattle.octets.specs.Numbers.{number_at, octets_of}
use Rattle.octets.specs.Runs.{joined}
use Rattle.fields.specs.Fields.{tag_and_length, field_of}
use Rattle.rows.specs.Rows.{row_octets}
use Rattle.tables.specs.Rows.{Config, account_octets, link_octets, account_table, link_table}

-- the four tags, and the only edition
abbrev pub head_tag : ℕ
head_tag = 1

abbrev pub account_tag : ℕ
account_tag = 2

abbrev pub link_tag : ℕ
link_tag = 3

abbrev pub end_tag : ℕ
end_tag = 9

abbrev pub edition : ℕ
edition = 1

-- the octets of an image: the head, the accounts, the links, the end
unfoldable pub image_of : Config → List ℕ
image_of g =
    field_of head_tag (edition ∷ octets_of 4 g.constant)
    ++ joined (λ i. field_of account_tag (row_octets account_octets (account_table g.accounts) i)) g.count_of_accounts
    ++ joined (λ j. field_of link_tag (row_octets link_octets (link_table g.links) j)) g.count_of_links
    ++ field_of end_tag []

-- ---- sizes that follow from the tags' data: the head's data; each whole field
abbrev pub head_octets : ℕ
head_octets = 5

abbrev pub head_size : ℕ
head_size = tag_and_length + head_octets

abbrev pub account_size : ℕ
account_size = tag_and_length + account_octets

abbrev pub link_size : ℕ
link_size = tag_and_length + link_octets

-- the offset of the field after n accounts and m links; the offset of that field's data, which is also the length of an
-- image whose end is that field
unfoldable pub field_offset : ℕ → ℕ → ℕ
field_offset n m = head_size + account_size * n + link_size * m

abbrev pub data_offset : ℕ → ℕ → ℕ
data_offset n m = field_offset n m + tag_and_length

abbrev pub image_length : ℕ → ℕ → ℕ
image_length n m = data_offset n m

-- ---- limits ("Accounts and links"), and the longest image
abbrev pub max_accounts : ℕ
max_accounts = 64

abbrev pub max_links : ℕ
max_links = 256

abbrev pub longest_image : ℕ
longest_image = image_length max_accounts max_links

-- the number of octets that settle what an image of any length is answered: up to the end of a link that is one too
-- many
abbrev pub image_prefix : ℕ
image_prefix = field_offset max_accounts max_links + link_size

-- ---- the head's data: the edition, then the constant field, whose first octet has the two low bits set
abbrev pub edition_offset : ℕ
edition_offset = tag_and_length

abbrev pub constant_offset : ℕ
constant_offset = edition_offset + 1

abbrev pub constant_of : List ℕ → ℕ
constant_of s = number_at 4 s constant_offset

unfoldable pub constant_good : ℕ → Bool
constant_good c = eqb (c / 2 ^ 24 % 4) 3
