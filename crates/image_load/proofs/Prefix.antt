-- An image of any length is loaded by its first octets: an accepted image is no longer than the prefix, and a refused
-- image leaves the runs unchanged. Assumes nothing.
use Prim.Native.Nat.{ℕ, ◌≤◌}
use mathlib.Core.List.{List}
use mathlib.Core.Path.{◌≡◌, refl, sym, ap, ◌∙◌}
use native.Mathlib.Omega.{arith}
use lib.Dec.{eqb}
use lib.ListN.{length, take}
use lib.Seq.{take_all}
use borrow.Author.Tests.{eqb-true, eqb-false}
use Rattle.lists.proofs.Tests.{split}
use Rattle.image_layout.specs.Layout.{field_offset, image_prefix}
use Rattle.image_read.specs.declared.ImageAnswer.{ImageAnswer}
use Rattle.image_read.specs.Read.{read_image}
use Rattle.image_read.proofs.Accepted.{accepted}
use Rattle.image_read.proofs.Prefix.{prefix_read}
use Rattle.image_read.proofs.Reading.{few_read}
use Rattle.image_load.specs.Loading.{loading_of, loading}
use Rattle.image_fill.specs.Filling.{Runs}
use Rattle.image_load.specs.Claims.{PrefixLoad}
use Rattle.image_load.proofs.Loading.{by_load}

short : (s : List ℕ) → (read_image s).code ≡ 0 → length s ≤ image_prefix
unfolding field_offset
short s z = let l = (accepted s z).length_is in let a = (few_read s).0 in let b = (few_read s).1 in omega arith

refused_load : (s : List ℕ) (r : Runs) → ((read_image s).code ≡ 0 → ⊥) → loading s r ≡ loading_of (read_image s) r
refused_load s r d =
    by_load s r (λ w. w ≡ loading_of (read_image s) r) (λ _. refl) (λ z _. absurd (d z)) (λ z _. absurd (d z))

pub prefix_load : PrefixLoad
prefix_load s r =
    split (eqb (read_image s).code 0)
    (λ e. ap (λ (t : List ℕ). loading t r) (take_all image_prefix s (short s (eqb-true _ _ e))))
    (λ e.
    let d : ((read_image s).code ≡ 0 → ⊥) = eqb-false _ _ e in
    let q : read_image (take image_prefix s) ≡ read_image s = prefix_read s in
    refused_load (take image_prefix s) r (λ z. d (sym (ap (λ (x : ImageAnswer). x.code) q) ∙ z))
    ∙ ap (λ (x : ImageAnswer). loading_of x r) q
    ∙ sym (refused_load s r d))
