-- Image P of the bench sheet (document 01, "Bench sheet"), octet by octet: what image P reads as, what its rows say,
-- which tables it is the image of, and what it is answered with a fault in it. Proved in proofs/Bench.antt.
use Rattle.std.specs.Prelude.{ℕ, List, [], ◌∷◌, ◌++◌, map, ◌≡◌, set, take}
use Rattle.terms.specs.declared.Terms.{Terms}
use Rattle.tables.specs.Rows.{Config, account_in, link_in, settings_of}
use Rattle.tables.specs.declared.Link.{Link}
use Rattle.image_layout.specs.Layout.{image_of}
use Rattle.image_read.specs.declared.ImageAnswer.{ImageAnswer}
use Rattle.image_read.specs.Read.{read_image}
use Rattle.image_field.specs.Checks.{account_fields, link_fields}

abbrev pub account_p : List ℕ
account_p = 0 ∷ 200 ∷ 0 ∷ 1 ∷ 244 ∷ 0 ∷ []

abbrev pub link_p : List ℕ
link_p = 0 ∷ 7 ∷ 2 ∷ 0 ∷ 0 ∷ 0 ∷ 8 ∷ 0 ∷ 64 ∷ 0 ∷ 200 ∷ 0 ∷ 0 ∷ []

abbrev pub image_p : List ℕ
image_p =
    (1 ∷ 0 ∷ 5 ∷ 1 ∷ 3 ∷ 0 ∷ 0 ∷ 0 ∷ [])
    ++ (2 ∷ 0 ∷ 6 ∷ account_p)
    ++ (3 ∷ 0 ∷ 13 ∷ link_p)
    ++ (9 ∷ 0 ∷ 0 ∷ [])

-- the values of image P: constant field 03 00 00 00; Smax 200, BAG 1,000 us, J 500 us, byte mode; link 7 on port 2 to
-- port 3
abbrev pub answer_p : ImageAnswer
answer_p = record { code = 0; offset = 36; settings = settings_of 50331648 1 1 }

abbrev pub decoded_account_p : Terms
decoded_account_p = record { smax = 200; k = 0; jitter = 500; mode = 0 }

abbrev pub decoded_link_p : Link
decoded_link_p = record { number = 7; port = 2; mask = 8; smallest = 64; largest = 200; account = 0 }

abbrev pub config_p : Config
config_p = record { constant = 50331648; accounts = account_p; count_of_accounts = 1; links = link_p; count_of_links = 1 }

abbrev pub ImagePReads : Type 0
ImagePReads =
    (read_image image_p ≡ answer_p)
    × (account_in (account_fields image_p) 0 ≡ decoded_account_p)
    × (link_in (link_fields image_p 1) 0 ≡ decoded_link_p)
    × (image_of config_p ≡ image_p)

-- ---- image P altered: code and offset of the answer
abbrev pub answered : List ℕ → ℕ × ℕ
answered s = ((read_image s).code, (read_image s).offset)

abbrev pub altered : ℕ → ℕ → List ℕ
altered at x = set image_p at x

-- case 13 (no octets; without the last 3; one octet more), and two octets more
abbrev pub CaseThirteen : Type 0
CaseThirteen =
    map answered ([] ∷ take 33 image_p ∷ (image_p ++ (0 ∷ [])) ∷ (image_p ++ (9 ∷ 0 ∷ [])) ∷ [])
    ≡ (20, 0) ∷ (20, 33) ∷ (25, 36) ∷ (25, 36) ∷ []

-- image P cut after so many octets: 20 at the field that is cut, within its tag and length or within its data
abbrev pub CutImages : Type 0
CutImages =
    map (λ n. answered (take n image_p)) (2 ∷ 3 ∷ 7 ∷ 8 ∷ 10 ∷ 11 ∷ 16 ∷ 17 ∷ 20 ∷ 32 ∷ 35 ∷ [])
    ≡ (20, 0) ∷ (20, 0) ∷ (20, 0) ∷ (20, 8) ∷ (20, 8) ∷ (20, 8) ∷ (20, 8) ∷ (20, 17) ∷ (20, 17) ∷ (20, 17) ∷ (20, 33) ∷ []

-- image P whose link names account 1, and has number 1,500, whose octets would pass for that account's Smax
abbrev pub unknown_account : List ℕ
unknown_account = set (set (altered 32 1) 20 5) 21 220

-- image P with one octet altered. 21: tags 2, 3, 9 and 2 in place of 1, 2, 3 and 9, and an unknown tag; 22: each
-- field's length; 23: edition 2, constant field 02.., Smax 63, k 8, J 10,228, mode 4; port 32, mask 0, smallest 63,
-- largest 201, and an account that the image doesn't have
abbrev pub FaultyImages : Type 0
FaultyImages =
    (map answered (altered 0 2 ∷ altered 8 3 ∷ altered 17 9 ∷ altered 33 2 ∷ altered 8 4 ∷ [])
    ≡ (21, 0) ∷ (21, 8) ∷ (21, 17) ∷ (21, 33) ∷ (21, 8) ∷ [])
    × (map answered (altered 2 4 ∷ altered 10 7 ∷ altered 19 12 ∷ altered 35 1 ∷ [])
    ≡ (22, 0) ∷ (22, 8) ∷ (22, 17) ∷ (22, 33) ∷ [])
    × (map answered (altered 3 2 ∷ altered 4 2 ∷ altered 12 63 ∷ altered 13 8 ∷ altered 14 39 ∷ altered 16 4 ∷ [])
    ≡ (23, 0) ∷ (23, 0) ∷ (23, 8) ∷ (23, 8) ∷ (23, 8) ∷ (23, 8) ∷ [])
    × (map answered (altered 22 32 ∷ altered 26 0 ∷ altered 28 63 ∷ altered 30 201 ∷ unknown_account ∷ [])
    ≡ (23, 17) ∷ (23, 17) ∷ (23, 17) ∷ (23, 17) ∷ (23, 17) ∷ [])

-- image P with two faults at once: a wrong tag and a wrong length is 21; a wrong tag with too few octets left 20; a
-- wrong length and data cut 22; data cut and a bad value 20; with a bad account and a bad link the account decides
abbrev pub TwoFaults : Type 0
TwoFaults =
    map answered
    (set (altered 8 4) 10 7
    ∷ take 10 (altered 8 4)
    ∷ take 11 (altered 10 7)
    ∷ take 16 (altered 13 8)
    ∷ set (altered 13 8) 22 32
    ∷ [])
    ≡ (21, 8) ∷ (20, 8) ∷ (22, 8) ∷ (20, 8) ∷ (23, 8) ∷ []
