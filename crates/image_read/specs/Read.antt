-- What reading an image answers: the code of the first field that is refused, or success at the end (document 01, "The
-- configuration image").
use Rattle.std.specs.Prelude.{ℕ, Bool, not, ◌&&◌, List, length, ltb, eqb, Result, Ok, Err}
use Rattle.codes.specs.Codes
use Rattle.codes.specs.Refused.{fault_number}
use Rattle.std.specs.Prelude.{if◌then◌else◌}
use Rattle.lists.specs.Leading.{leading}
use Rattle.tables.specs.Rows.{settings_of}
use Rattle.tables.specs.declared.Settings.{Settings}
use Rattle.image_layout.specs.Layout.{account_tag, link_tag, field_offset, image_length, max_accounts, max_links, constant_of}
use Rattle.image_field.specs.Checks.{head_code, next_code, tag_at}
use Rattle.image_read.specs.declared.ImageAnswer.{ImageAnswer}
use Rattle.image_read.specs.declared.ImageError.{ImageError}

-- ---- whether a field has a tag and is good; how many good accounts stand after the head, and how many good links
-- after n accounts
unfoldable pub good_field : List ℕ → ℕ → ℕ → ℕ → Bool
good_field s tag n m = eqb (tag_at s n m) tag && eqb (next_code s n m) Codes.success

unfoldable pub good_accounts : List ℕ → ℕ
good_accounts s = leading (λ i. good_field s account_tag i 0) max_accounts

unfoldable pub good_links : List ℕ → ℕ → ℕ
good_links s n = leading (λ j. good_field s link_tag n j) max_links

-- ---- the answers of reading or loading an image: what a result of the code stands for, with the image's length, which success
-- answers
abbrev pub answered : ℕ → Result Settings ImageError → ImageAnswer
answered size (Ok q) = record { code = Codes.success; offset = size; settings = q }
answered size (Err e) = record { code = fault_number e.fault; offset = e.offset; settings = settings_of 0 0 0 }

-- a refusal
abbrev pub image_refused : ℕ → ℕ → ImageAnswer
image_refused code offset = record { code = code; offset = offset; settings = settings_of 0 0 0 }

-- the answer at the field after n accounts and m links, which ends the reading: the field's code, 25, or success
unfoldable pub read_end : List ℕ → ℕ → ℕ → ImageAnswer
read_end s n m =
    if not (eqb (next_code s n m) Codes.success) then image_refused (next_code s n m) (field_offset n m)
    else if ltb (image_length n m) (length s) then image_refused Codes.surplus (image_length n m)
    else record { code = Codes.success; offset = length s; settings = settings_of (constant_of s) n m }

unfoldable pub read_image : List ℕ → ImageAnswer
read_image s =
    if not (eqb (head_code s) Codes.success) then image_refused (head_code s) 0
    else read_end s (good_accounts s) (good_links s (good_accounts s))
