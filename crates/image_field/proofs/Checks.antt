-- A field whose tag is that of no kind. Assumes nothing.
use Prim.Native.Nat.{ℕ}
use mathlib.Core.Bool.{Bool, true, false}
use mathlib.Core.List.{List}
use mathlib.Core.Path.{◌≡◌, sym, ap, ◌∙◌}
use Rattle.std.specs.Prelude.{Err}
use Rattle.codes.specs.Refused.{fault_number}
use Rattle.codes.specs.declared.Fault.TheVariants.{WrongTag}
use Rattle.codes.specs.declared.Fault.{Fault}
use Rattle.fields.specs.Fields.{field_at}
use Rattle.fields.specs.declared.Field.{Field}
use Rattle.lists.proofs.Tests.{split}
use lib.Dec.{eqb}
use Rattle.image_layout.specs.Layout.{account_tag, link_tag, end_tag, field_offset}
use Rattle.image_field.specs.Kind.{kind_of}
use Rattle.image_field.specs.Checks.{field_code, in_order, next_code}

-- it is in no order, and the fault is a wrong tag
none_in_order : (tag n m : ℕ) (e : Fault) → Err e ≡ kind_of tag → (in_order tag n m ≡ false) × (e ≡ WrongTag)
unfolding kind_of in_order
none_in_order tag n m e k =
    split (eqb tag account_tag)
    (λ a. absurd (let z = simp a at k in cc))
    (λ a. split (eqb tag link_tag)
    (λ b. absurd (let z = simp (a, b) at k in cc))
    (λ b. split (eqb tag end_tag)
    (λ c. absurd (let z = simp (a, b, c) at k in cc))
    (λ c.
    let z = simp (a, b, c) at k in
    (split (eqb n 0) (λ p. simp (p, a)) (λ p. split (eqb m 0) (λ q. simp (p, q, a, b)) (λ q. simp (p, q, b, c))), cc))))

-- it is answered 21
wrong_order : (f : Field) (order : Bool) (size : ℕ) (full good : Bool) → f.headed ≡ true → order ≡ false → 21 ≡ field_code f order size full good
unfolding field_code
wrong_order f order size full good h o = simp (h, o)

pub unknown_tag : (s : List ℕ) (n m at : ℕ) (f : Field) (e : Fault) → at ≡ field_offset n m → f ≡ field_at s at → f.headed ≡ true
    → Err e ≡ kind_of f.tag → fault_number e ≡ next_code s n m
unfolding next_code
unknown_tag s n m at f e p q h k =
    let g : f ≡ field_at s (field_offset n m) = q ∙ ap (field_at s) p in
    let o = none_in_order f.tag n m e k in
    ap fault_number o.1
    ∙ wrong_order (field_at s (field_offset n m)) _ _ _ _ (sym (ap (λ (x : Field). x.headed) g) ∙ h) (sym (ap (λ (x : Field). in_order x.tag n m) g) ∙ o.0)
