-- Laws of offsets and sizes. Assumes nothing.
use Prim.Native.Nat.{ℕ, ◌+◌, ◌*◌, ◌^◌, ◌≤◌, ◌<◌}
use mathlib.Core.Path.{◌≡◌}
use native.Mathlib.Nat.{mul-le-mul}
use native.Mathlib.Omega.{arith}
use Rattle.fields.specs.Fields.{tag_and_length}
use Rattle.image_layout.specs.Layout.{account_size, link_size, field_offset, data_offset}

-- ---- where the data of accounts and links stand
pub account_offset : (i : ℕ) → data_offset i 0 ≡ data_offset 0 0 + account_size * i
unfolding field_offset
account_offset i = omega arith

pub link_offset : (n j : ℕ) → data_offset n j ≡ data_offset n 0 + link_size * j
unfolding field_offset
link_offset n j = omega arith

-- ---- the product of a field's size and a count: data of one octet's length, tag and length beside them, a count of
-- two octets
pub small_product : (x y : ℕ) → x < 2 ^ 8 + tag_and_length → y < 2 ^ 16 → x * y < 2 ^ 25
small_product x y h k =
    let hx : x ≤ 258 = omega arith in
    let hy : y ≤ 65535 = omega arith in
    let p : x * y ≤ 258 * 65535 = mul-le-mul hx hy in
    omega arith
