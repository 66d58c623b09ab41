-- Laws of the value rules, test by test as the code makes the tests, and over rows with the same octets. Assumes
-- nothing.
use Prim.Native.Nat.{ℕ, min, ◌+◌, ◌*◌, ◌-◌, ◌/◌, ◌%◌, ◌^◌, ◌≤◌, ◌<◌}
use mathlib.Core.Bool.{Bool, true, false, ◌&&◌}
use mathlib.Core.List.{List}
use mathlib.Core.Path.{◌≡◌, refl, sym, ap, ap₂, ◌∙◌}
use lib.Dec.{ltb, leb, eqb}
use borrow.Author.Tests.{le-ltb, ltb-true, ltb-false, leb-true, eq-eqb}
use Rattle.lists.proofs.Tests.{split, both}
use Rattle.frame.specs.Limits.{smallest_frame}
use lib.ListN.{length}
use Rattle.octets.specs.Numbers.{number_at}
use Rattle.terms.specs.declared.Terms.{Terms}
use Rattle.rows.specs.Rows.{Rows, spaced}
use Rattle.rows.proofs.Rows.{number_near}
use Rattle.tables.specs.Rows.{terms_at, link_at, account_in, link_in}
use Rattle.tables_rules.specs.Rules.{port_count, ports_sound, sizes_sound, link_sound, account_good, number_rises, link_good}
use Rattle.tables.specs.declared.Link.{Link}
use Rattle.tables.proofs.Rows.{terms_near, link_near}

-- ---- a link
module _ (l : Link) (n smax : ℕ) where
  pub account_past : n ≤ l.account → false ≡ link_sound l n smax
  unfolding link_sound
  account_past h = simp (le-ltb _ _ h)

  -- what holds of a sound link
  pub sound_account : link_sound l n smax ≡ true → l.account < n
  unfolding link_sound
  sound_account e = ltb-true _ _ (both (ltb l.account n) _ (both _ (sizes_sound l.smallest l.largest smax) e).0).0

  pub sound_port : link_sound l n smax ≡ true → l.port < port_count
  unfolding link_sound ports_sound
  sound_port e =
      let p = (both (ltb l.account n) (ports_sound l.port l.mask) (both _ (sizes_sound l.smallest l.largest smax) e).0).1 in
      ltb-true _ _ (both (ltb l.port port_count) _ (both _ (eqb (l.mask / 2 ^ l.port % 2) 0) p).0).0

  pub sound_sizes : link_sound l n smax ≡ true → (smallest_frame ≤ l.smallest) × (l.smallest ≤ l.largest) × (l.largest ≤ smax)
  unfolding link_sound sizes_sound
  sound_sizes e =
      let s = (both (ltb l.account n && ports_sound l.port l.mask) (sizes_sound l.smallest l.largest smax) e).1 in
      let t = both (leb smallest_frame l.smallest && leb l.smallest l.largest) (leb l.largest smax) s in
      let u = both (leb smallest_frame l.smallest) (leb l.smallest l.largest) t.0 in
      (leb-true _ _ u.0, leb-true _ _ u.1, leb-true _ _ t.1)

-- ---- rows with the same values
pub account_good_same : (a b : Rows) (i j : ℕ) → account_in a i ≡ account_in b j → account_good a i ≡ account_good b j
unfolding account_good
account_good_same a b i j e = rw e

-- the Smax matters only where the link's account is below n
sound_same : (l : Link) (n x y : ℕ) → (l.account < n → x ≡ y) → link_sound l n x ≡ link_sound l n y
sound_same l n x y h =
    split (ltb l.account n)
    (λ e. ap (link_sound l n) (h (ltb-true _ _ e)))
    (λ e. let k = ltb-false _ _ e in sym (account_past l n x k) ∙ account_past l n y k)

pub rises_same : (l m : Rows) (j : ℕ) → link_in l j ≡ link_in m j → link_in l (j - 1) ≡ link_in m (j - 1) → number_rises l j ≡ number_rises m j
unfolding number_rises
rises_same l m j e f = rw (e, f)

pub link_good_same : (a b l m : Rows) (n j : ℕ) → ((i : ℕ) → i < n → account_in a i ≡ account_in b i)
    → link_in l j ≡ link_in m j → link_in l (j - 1) ≡ link_in m (j - 1) → link_good a l n j ≡ link_good b m n j
unfolding link_good
link_good_same a b l m n j h e f =
    let g : link_sound (link_in l j) n (account_in a (link_in l j).account).smax ≡ link_sound (link_in m j) n (account_in b (link_in m j).account).smax =
    rw e (sound_same (link_in m j) n _ _ (λ k. ap (λ (p : Terms). p.smax) (h (link_in m j).account k))) in
    ap₂ ◌&&◌ (rises_same l m j e f) g

-- ---- row i, read from a first offset that is cut to the run's length: an account's values, its Smax, a link's number
module _ (s : List ℕ) (first step i : ℕ) where
  pub account_row : terms_at s (min first (length s) + step * i) ≡ account_in (spaced s first step) i
  account_row = terms_near s first (step * i) _ refl

  pub smax_row : number_at 2 s (min first (length s) + step * i) ≡ (account_in (spaced s first step) i).smax
  unfolding terms_at
  smax_row = number_near s first (step * i) _ refl 2

  pub number_row : number_at 2 s (min first (length s) + step * i) ≡ (link_in (spaced s first step) i).number
  unfolding link_at
  number_row = number_near s first (step * i) _ refl 2

  pub link_row : link_at s (min first (length s) + step * i) ≡ link_in (spaced s first step) i
  link_row = link_near s first (step * i) _ refl

pub rises_first : (l : Rows) (j : ℕ) → j ≡ 0 → true ≡ number_rises l j
unfolding number_rises
rises_first l j e = simp (eq-eqb _ _ e)

module _ (a l : Rows) (n j : ℕ) (r : Bool) (e : r ≡ number_rises l j) where
  pub link_falls : r ≡ false → false ≡ link_good a l n j
  unfolding link_good
  link_falls h = simp (← e, h)

  -- a link row by the link and the Smax of its account in hand
  pub link_values : r ≡ true → (k : Link) (x : ℕ) (z : Bool) → k ≡ link_in l j → x ≡ (account_in a k.account).smax → z ≡ link_sound k n x
      → z ≡ link_good a l n j
  unfolding link_good
  link_values h k x z m u v =
      v ∙ ap (link_sound k n) u
      ∙ ap (λ (b : Link). link_sound b n (account_in a b.account).smax) m
      ∙ simp (← e, h)
