-- The figures of the layout, and the form of a constant field at both sides (document 01, "The configuration image"); proved in
-- proofs/Claims.antt.
use Rattle.std.specs.Prelude.{ℕ, ◌+◌, ◌*◌, ◌%◌, ◌^◌, ◌<◌, true, false, [], ◌∷◌, map, ◌≡◌, eqb}
use Rattle.fields.specs.Fields.{tag_and_length}
use Rattle.image_layout.specs.Layout.{head_tag, account_tag, link_tag, end_tag, edition, head_size, account_size}
use Rattle.image_layout.specs.Layout.{link_size, max_accounts, max_links, longest_image, image_prefix, constant_good}

-- the figures: tags, edition, sizes of the fields, the limits, the longest image, and how much of any image settles its answer
abbrev pub ImageFigures : Type 0
ImageFigures =
    (head_tag ≡ 1) × (account_tag ≡ 2) × (link_tag ≡ 3) × (end_tag ≡ 9) × (edition ≡ 1)
    × (head_size ≡ 8) × (account_size ≡ 9) × (link_size ≡ 16) × (tag_and_length ≡ 3)
    × (max_accounts ≡ 64) × (max_links ≡ 256) × (longest_image ≡ 4683) × (image_prefix ≡ 4696)

-- constant fields with zeros after the first octet: 00, 01, 02 and FC lack a low bit; 03, 07 and FF have both; 00 00 00
-- 03 has the two bits in another octet
abbrev pub ConstantLimits : Type 0
ConstantLimits =
    (map constant_good (0 ∷ 1 * 2 ^ 24 ∷ 2 * 2 ^ 24 ∷ 252 * 2 ^ 24 ∷ 3 ∷ []) ≡ false ∷ false ∷ false ∷ false ∷ false ∷ [])
    × (map constant_good (3 * 2 ^ 24 ∷ 7 * 2 ^ 24 ∷ 255 * 2 ^ 24 ∷ []) ≡ true ∷ true ∷ true ∷ [])

-- the first octet alone decides whether a constant field is good, whatever the other three octets; in figures 03 01 02
-- 04, FB FF FF FF and 02 03 07 FF
abbrev pub ConstantByFirst : Type 0
ConstantByFirst =
    ((first rest : ℕ) → rest < 2 ^ 24 → constant_good (first * 2 ^ 24 + rest) ≡ eqb (first % 4) 3)
    × (map constant_good (50397700 ∷ 4227858431 ∷ 33753087 ∷ []) ≡ true ∷ true ∷ false ∷ [])
