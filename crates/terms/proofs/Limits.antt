-- What the limits of an account's values say of its products: every product fits 32 bits. The modes share all of this
-- but the charge added: the products are bounded once, over the charge added. Assumes nothing.
use Prim.Native.Nat.{ℕ, ◌+◌, ◌*◌, ◌^◌, ◌≤◌, ◌<◌}
use mathlib.Core.Bool.{true}
use mathlib.Core.Path.{◌≡◌}
use native.Mathlib.Nat.{mul-le-mul, mul-le-mul_left, le_trans, le_refl, one-le-pow, one-le-mul}
use native.Mathlib.Omega.{arith}
use lib.Dec.{leb}
use lib.Pow.{pow_mono}
use borrow.Author.Tests.{leb-true, lt-leb, le-leb}
use Rattle.lists.proofs.Tests.{split, both}
use Rattle.frame.specs.Limits.{smallest_frame, largest_frame}
use Rattle.terms.specs.declared.Terms.{Terms}
use Rattle.terms.specs.Terms.{largest_k, largest_jitter, line_byte_mode, line_frame_mode, terms_good, shortest_bag, bag, line_octets, added, charge, rate, capacity, by_octets, charged, cost}

-- ---- the limits, one by one
pub record Limits (p : Terms) : Type 0 where
  pub smax_low : smallest_frame ≤ p.smax
  pub smax_high : p.smax ≤ largest_frame
  pub k_high : p.k ≤ largest_k
  pub jitter_high : p.jitter ≤ largest_jitter
  pub mode_high : p.mode ≤ line_frame_mode

pub limits : (p : Terms) → terms_good p ≡ true → Limits p
unfolding terms_good
limits p e =
    let d = both _ (leb p.mode line_frame_mode) e in
    let f = both _ (leb p.jitter largest_jitter) d.0 in
    let g = both _ (leb p.k largest_k) f.0 in
    let h = both (leb smallest_frame p.smax) (leb p.smax largest_frame) g.0 in
    record {
      smax_low = leb-true _ _ h.0;
      smax_high = leb-true _ _ h.1;
      k_high = leb-true _ _ g.1;
      jitter_high = leb-true _ _ f.1;
      mode_high = leb-true _ _ d.1;
    }

-- values within all limits pass the test
pub are_good_by : (p : Terms) → Limits p → terms_good p ≡ true
unfolding terms_good
are_good_by p l =
    simp (le-leb _ _ l.smax_low, le-leb _ _ l.smax_high, le-leb _ _ l.k_high, le-leb _ _ l.jitter_high, le-leb _ _ l.mode_high)

-- ---- bounds, by formula from the limits
abbrev longest_bag : ℕ
longest_bag = shortest_bag * 2 ^ largest_k

abbrev longest_window : ℕ
longest_window = longest_bag + largest_jitter

abbrev largest_charge : ℕ
largest_charge = largest_frame + line_octets

bag_high : (k : ℕ) → k ≤ largest_k → bag k ≤ longest_bag
unfolding bag
bag_high k h = mul-le-mul_left shortest_bag (pow_mono h)

-- ---- the charge added: none, or the line octets
pub added_none : (m : ℕ) → m < line_byte_mode → added m ≡ 0
unfolding added
added_none m h = simp (lt-leb _ _ h)

added_high : (m : ℕ) → added m ≤ line_octets
unfolding added
added_high m =
    split (leb line_byte_mode m)
    (λ e. simp e (le_refl line_octets))
    (λ e. simp e (omega arith))

most_charged : (m x : ℕ) → x ≤ largest_frame + added m → x ≤ largest_charge
most_charged m x h = let e = added_high m in omega arith

-- ---- the charge of octets, whatever is added: no less than the octets, no more than the largest frame's charge; more
-- octets are charged no less
module _ (m n : ℕ) where
  charge_high : n ≤ largest_frame → charge m n ≤ largest_frame + added m
  unfolding charge
  charge_high h = omega arith

  charge_low : n ≤ charge m n
  unfolding charge
  charge_low = omega arith

  charge_rises : (o : ℕ) → n ≤ o → charge m n ≤ charge m o
  unfolding charge
  charge_rises o h = omega arith

-- ---- the products
module _ (p : Terms) (l : Limits p) where
  rate_high : rate p ≤ largest_frame + added p.mode
  unfolding rate
  rate_high = charge_high p.mode p.smax l.smax_high

  pub rate_low : 1 ≤ rate p
  unfolding rate
  rate_low = le_trans (omega arith) (le_trans l.smax_low (charge_low p.mode p.smax))

  -- what is charged for a frame is the charge of the frame's octets or of Smax
  charged_by : (n : ℕ) (P : ℕ → Type 0) → P (charge p.mode n) → P (rate p) → P (charged p n)
  unfolding rate charged
  charged_by n P f g = split (by_octets p.mode) (λ e. simp e f) (λ e. simp e g)

  charged_high : (n : ℕ) → n ≤ largest_frame → charged p n ≤ largest_frame + added p.mode
  charged_high n h = charged_by n (λ c. c ≤ largest_frame + added p.mode) (charge_high p.mode n h) rate_high

  charged_low : (n : ℕ) → 1 ≤ n → 1 ≤ charged p n
  charged_low n h = charged_by n (λ c. 1 ≤ c) (le_trans h (charge_low p.mode n)) rate_low

  charged_rate : (n : ℕ) → n ≤ p.smax → charged p n ≤ rate p
  unfolding rate
  charged_rate n h = charged_by n (λ c. c ≤ rate p) (charge_rises p.mode n p.smax h) (le_refl (rate p))

  pub window_high : bag p.k + p.jitter ≤ longest_window
  window_high = let b = bag_high p.k l.k_high in let j = l.jitter_high in omega arith

  pub capacity_with : capacity p ≤ (largest_frame + added p.mode) * longest_window
  unfolding capacity
  capacity_with = mul-le-mul rate_high window_high

  pub capacity_high : capacity p ≤ largest_charge * longest_window
  unfolding capacity
  capacity_high = mul-le-mul (most_charged p.mode (rate p) rate_high) window_high

  bag_low : 1 ≤ bag p.k
  unfolding bag
  bag_low = one-le-mul {a = shortest_bag} {b = 2 ^ p.k} (omega arith) (one-le-pow p.k 2 (omega arith))

  pub capacity_low : 1 ≤ capacity p
  unfolding capacity
  capacity_low = let b = bag_low in one-le-mul rate_low (omega arith)

  pub cost_high : (n : ℕ) → n ≤ largest_frame → cost p n ≤ largest_charge * longest_bag
  unfolding cost
  cost_high n h = mul-le-mul (most_charged p.mode (charged p n) (charged_high n h)) (bag_high p.k l.k_high)

  -- a frame costs something, and a frame of at most Smax costs no more than a full account holds
  pub cost_low : (n : ℕ) → 1 ≤ n → 1 ≤ cost p n
  unfolding cost
  cost_low n h = one-le-mul (charged_low n h) bag_low

  pub cost_capacity : (n : ℕ) → n ≤ p.smax → cost p n ≤ capacity p
  unfolding cost capacity
  cost_capacity n h = mul-le-mul (charged_rate n h) (omega arith)
