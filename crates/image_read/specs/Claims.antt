-- What holds of reading for any octets whatsoever (document 01, "The configuration image"); proved in proofs/Claims.antt and
-- proofs/Prefix.antt.
use Rattle.std.specs.Prelude.{ℕ, zero, suc, ◌+◌, ◌*◌, ◌≤◌, ◌<◌, true, ◌↔◌, ◌≡◌, length, take}
use mathlib.Core.List.{List, [], ◌∷◌, Memᴰ}
use Rattle.std.specs.Prelude.{if◌then◌else◌}
use Rattle.image_layout.specs.Layout.{account_tag, link_tag, end_tag, image_length, max_accounts, max_links, longest_image, image_prefix}
use Rattle.octets.specs.Numbers.{number_at}
use Rattle.tables.specs.Rows.{settings_of}
use Rattle.image_read.specs.declared.ImageAnswer.{ImageAnswer}
use Rattle.image_read.specs.Read.{good_field, good_accounts, good_links, image_refused, read_end, read_image}
use Rattle.image_field.specs.Checks.{head_code, next_code, tag_at}

-- demand 1: the codes that reading can answer
abbrev pub ReadCodes : Type 0
ReadCodes = (s : List ℕ) → Memᴰ (read_image s).code (0 ∷ 20 ∷ 21 ∷ 22 ∷ 23 ∷ 24 ∷ 25 ∷ [])

-- an accepted image ends with its end field; before the end field stand accounts and links, at least one of each and no
-- more than the limits
abbrev pub AcceptedEnds : Type 0
AcceptedEnds =
    (s : List ℕ) → (read_image s).code ≡ 0
    → (tag_at s (read_image s).settings.accounts (read_image s).settings.links ≡ end_tag)
    × (length s ≡ image_length (read_image s).settings.accounts (read_image s).settings.links)
    × (1 ≤ (read_image s).settings.accounts)
    × (1 ≤ (read_image s).settings.links)
    × ((read_image s).settings.accounts ≤ max_accounts)
    × ((read_image s).settings.links ≤ max_links)
    × (length s ≤ longest_image)

-- a field is good, and so passed, exactly where it has the tag and no code fits it
abbrev pub GoodFieldsExactly : Type 0
GoodFieldsExactly =
    (s : List ℕ) (tag n m : ℕ) → (good_field s tag n m ≡ true) ↔ ((tag_at s n m ≡ tag) × (next_code s n m ≡ 0))

-- the answer of reading field by field: a good account or link is passed, and the first field that is neither ends the
-- reading. From as many fields on as an image can have, the bound k on the fields never decides; 255 is no code of
-- reading
unfoldable pub walked : ℕ → List ℕ → ℕ → ℕ → ImageAnswer
walked zero s n m = image_refused 255 0
walked (suc k) s n m =
    if good_field s account_tag n m then walked k s (suc n) m
    else if good_field s link_tag n m then walked k s n (suc m)
    else read_end s n m

abbrev pub ReadFieldByField : Type 0
ReadFieldByField = (s : List ℕ) (k : ℕ) → max_accounts + max_links < k → head_code s ≡ 0 → walked k s 0 0 ≡ read_image s

-- an image of any length is answered by its first octets
abbrev pub PrefixRead : Type 0
PrefixRead = (s : List ℕ) → read_image (take image_prefix s) ≡ read_image s

-- ---- every answer with its offset, with n good accounts after the head and m good links after these: the head's code
-- at 0; the code of the next field at that field's first octet; 25 at the first octet after the end; success at the
-- image's length
pub record Answer (s : List ℕ) (n m : ℕ) : Type 0 where
  pub head : (head_code s ≡ 0 → ⊥) → read_image s ≡ image_refused (head_code s) 0
  pub field : head_code s ≡ 0 → (next_code s n m ≡ 0 → ⊥) → read_image s ≡ image_refused (next_code s n m) (8 + 9 * n + 16 * m)
  pub surplus : head_code s ≡ 0 → next_code s n m ≡ 0 → 8 + 9 * n + 16 * m + 3 < length s
      → read_image s ≡ image_refused 25 (8 + 9 * n + 16 * m + 3)
  pub success : head_code s ≡ 0 → next_code s n m ≡ 0 → length s ≤ 8 + 9 * n + 16 * m + 3
      → read_image s ≡ record { code = 0; offset = length s; settings = settings_of (number_at 4 s 4) n m }

abbrev pub ReadAnswers : Type 0
ReadAnswers = (s : List ℕ) → Answer s (good_accounts s) (good_links s (good_accounts s))
