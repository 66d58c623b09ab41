-- Laws of the values of a field that stands whole, read at its offset. Assumes nothing.
use Prim.Native.Nat.{ℕ, ◌+◌, ◌-◌, ◌≤◌}
use mathlib.Core.Bool.{Bool, true}
use mathlib.Core.List.{List}
use mathlib.Core.Path.{◌≡◌, sym, ap, ap₂, ◌∙◌}
use native.Mathlib.Omega.{arith}
use lib.Dec.{ltb}
use lib.ListN.{length, take, drop}
use borrow.Author.Tests.{ne_eqb}
use Rattle.octets.specs.Numbers.{number_at}
use Rattle.fields.specs.Fields.{tag_and_length, stands_at}
use Rattle.fields.proofs.Fields.{stands_whole}
use Rattle.terms.specs.Terms.{terms_good}
use Rattle.terms.specs.declared.Terms.{Terms}
use Rattle.tables.specs.Rows.{account_octets, link_octets, terms_at, link_at, account_in, link_in}
use Rattle.tables_rules.specs.Rules.{account_good, number_rises}
use Rattle.tables.specs.declared.Link.{Link}
use Rattle.tables.proofs.Rows.{terms_within, link_within}
use Rattle.image_layout.specs.Layout.{field_offset, data_offset}
use Rattle.image_layout.proofs.Offsets.{account_offset, link_offset}
use Rattle.image_field.specs.Checks.{account_fields, link_fields}

-- the data of a field that stands whole are inside the image
pub inside : (s : List ℕ) (at tag size : ℕ) (b : Bool) → b ≡ stands_at s at tag size → b ≡ true → at + (tag_and_length + size) ≤ length s
inside s at tag size b e h = stands_whole s at tag size (sym e ∙ h)

-- ---- an account: its values, and its Smax
pub account_values : (s : List ℕ) (i at : ℕ) → at ≡ field_offset i 0 → (p : Terms)
    → p ≡ terms_at (take (at + tag_and_length + account_octets - (at + tag_and_length)) (drop (at + tag_and_length) s)) 0
    → (r : Bool) → r ≡ terms_good p → r ≡ account_good (account_fields s) i
unfolding account_good
account_values s i at e p f r g =
    g ∙ ap terms_good
    (f ∙ terms_within s (at + tag_and_length) (at + tag_and_length + account_octets - (at + tag_and_length)) (omega arith) ∙ ap (terms_at s) (ap (λ (x : ℕ). x + tag_and_length) e ∙ account_offset i))

pub account_smax : (s : List ℕ) (i at x : ℕ) → at ≡ data_offset i 0 → x ≡ number_at 2 s at → x ≡ (account_in (account_fields s) i).smax
unfolding terms_at
account_smax s i at x e f = f ∙ ap (number_at 2 s) (e ∙ account_offset i)

-- ---- a link: its values, and whether its number rises
module _ (s : List ℕ) (n j : ℕ) where
  pub link_in_lem : (at : ℕ) → at ≡ field_offset n j → (l : Link)
      → l ≡ link_at (take (at + tag_and_length + link_octets - (at + tag_and_length)) (drop (at + tag_and_length) s)) 0 → l ≡ link_in (link_fields s n) j
  link_in_lem at e l f =
      f ∙ link_within s (at + tag_and_length) (at + tag_and_length + link_octets - (at + tag_and_length)) (omega arith) ∙ ap (link_at s) (ap (λ (x : ℕ). x + tag_and_length) e ∙ link_offset n j)

  pub rises_above : (j ≡ 0 → ⊥) → (at x y : ℕ) → at ≡ data_offset n (j - 1) → x ≡ number_at 2 s at → y ≡ (link_in (link_fields s n) j).number
      → ltb x y ≡ number_rises (link_fields s n) j
  unfolding number_rises link_at
  rises_above d at x y e f g = ap₂ ltb (f ∙ ap (number_at 2 s) (e ∙ link_offset n (j - 1))) g ∙ simp (ne_eqb _ _ d)
