-- Laws of the filter, case by case as the code makes its tests. Assumes nothing.
use Prim.Native.Nat.{ℕ, ◌≤◌, ◌<◌}
use mathlib.Core.Bool.{true}
use mathlib.Core.List.{List}
use mathlib.Core.Path.{◌≡◌, refl, sym, ◌∙◌}
use native.Mathlib.Omega.{arith}
use lib.ListN.{length}
use lib.Dec.{ltb, eqb}
use borrow.Author.Tests.{lt-ltb, le-ltb, ltb-false, eq-eqb, ne_eqb, eqb-true, eqb-false}
use Rattle.lists.proofs.Tests.{split}
use Rattle.frame.specs.Frame.{length_code, constant_field, link_number}
use Rattle.frame.proofs.Frame.{by_length}
use Rattle.tables.specs.Rows.{found}
use Rattle.rows.specs.Rows.{Found}
use Rattle.tables.specs.declared.Link.{Link}
use Rattle.filter.specs.Filter.{frame_code, port_code, route_to, routed}
use Rattle.std.specs.Prelude.{Err}

-- ---- the frame alone, by the code h of its length
module _ (constant : ℕ) (f : List ℕ) (h : ℕ) (e : h ≡ length_code (length f)) where
  pub frame_length : (h ≡ 0 → ⊥) → h ≡ frame_code constant f
  unfolding frame_code
  frame_length z = simp (e, ne_eqb (length_code (length f)) 0 (rw e at z))

  module _ (z : h ≡ 0) (x : ℕ) (q : x ≡ constant_field f) where
    good_length : eqb (length_code (length f)) 0 ≡ true
    good_length = eq-eqb (length_code (length f)) 0 (sym e ∙ z)

    pub frame_constant : (x ≡ constant → ⊥) → 3 ≡ frame_code constant f
    unfolding frame_code
    frame_constant d = simp (good_length, ne_eqb (constant_field f) constant (rw q at d))

    pub frame_passes : x ≡ constant → 0 ≡ frame_code constant f
    unfolding frame_code
    frame_passes d = simp (good_length, eq-eqb (constant_field f) constant (sym q ∙ d))

-- a frame of code 0 has the size of a frame
pub frame_zero : (constant : ℕ) (f : List ℕ) → frame_code constant f ≡ 0 → length_code (length f) ≡ 0
frame_zero constant f e =
    split (eqb (length_code (length f)) 0)
    (λ z. eqb-true _ _ z)
    (λ z. frame_length constant f (length_code (length f)) refl (eqb-false _ _ z) ∙ e)

pub frame_code_high : (constant : ℕ) (f : List ℕ) → frame_code constant f ≤ 3
frame_code_high constant f =
    by_length (length f)
    (λ _ e. rw (← frame_length constant f 1 (sym e) (λ d. omega arith)) (omega arith))
    (λ _ _ e. rw (← frame_length constant f 2 (sym e) (λ d. omega arith)) (omega arith))
    (λ _ _ e.
    split (eqb (constant_field f) constant)
    (λ d. rw (← frame_passes constant f 0 (sym e) refl (constant_field f) refl (eqb-true _ _ d)) (omega arith))
    (λ d. rw (← frame_constant constant f 0 (sym e) refl (constant_field f) refl (eqb-false _ _ d)) (omega arith)))

-- ---- the codes by the link
module _ (l : Link) (n port : ℕ) where
  pub port_other : (port ≡ l.port → ⊥) → 5 ≡ port_code l n port
  unfolding port_code
  port_other d = simp (ne_eqb _ _ d)

  module _ (d : port ≡ l.port) where
    pub port_small : n < l.smallest → 6 ≡ port_code l n port
    unfolding port_code
    port_small h = simp (eq-eqb _ _ d, lt-ltb _ _ h)

    module _ (h : l.smallest ≤ n) where
      pub port_large : l.largest < n → 7 ≡ port_code l n port
      unfolding port_code
      port_large k = simp (eq-eqb _ _ d, le-ltb _ _ h, lt-ltb _ _ k)

      pub port_passes : n ≤ l.largest → 0 ≡ port_code l n port
      unfolding port_code
      port_passes k = simp (eq-eqb _ _ d, le-ltb _ _ h, le-ltb _ _ k)

  pub port_code_high : port_code l n port ≤ 7
  unfolding port_code
  port_code_high =
      split (eqb port l.port)
      (λ e. split (ltb n l.smallest)
      (λ d. simp (e, d) (omega arith))
      (λ d. split (ltb l.largest n) (λ c. simp (e, d, c) (omega arith)) (λ c. simp (e, d, c) (omega arith))))
      (λ e. simp e (omega arith))

  -- a frame with code 0 is at most of the link's largest size
  pub passed_largest : port_code l n port ≡ 0 → n ≤ l.largest
  unfolding port_code
  passed_largest z =
      split (ltb l.largest n)
      (λ c. split (eqb port l.port)
      (λ e. split (ltb n l.smallest)
      (λ d. absurd (omega (arith, simp (e, d, c) at z)))
      (λ d. absurd (omega (arith, simp (e, d, c) at z))))
      (λ e. absurd (omega (arith, simp (e, c) at z))))
      (λ c. ltb-false _ _ c)

-- ---- the route, by the code h of the frame alone
module _ (f : List ℕ) (constant : ℕ) (links : List ℕ) (count h : ℕ) (e : h ≡ frame_code constant f) where
  pub route_stopped : (h ≡ 0 → ⊥) → Err h ≡ routed f constant links count
  unfolding routed
  route_stopped z = simp (e, ne_eqb (frame_code constant f) 0 (rw e at z))

  pub route_row : h ≡ 0 → (x : ℕ) → x ≡ link_number f → (d : Found) → d ≡ found links count x → route_to links d ≡ routed f constant links count
  unfolding routed
  route_row z x p d q = simp (q, p, eq-eqb (frame_code constant f) 0 (sym e ∙ z))
