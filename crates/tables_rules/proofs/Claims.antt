-- The value rules exactly, from their definitions alone, and at both sides of their bounds. Assumes nothing.
use Prim.Native.Nat.{suc, ◌-◌, ◌/◌, ◌%◌, ◌^◌}
use mathlib.Core.Bool.{Bool, false, not, ◌&&◌}
use mathlib.Core.Path.{◌≡◌, refl}
use native.Mathlib.Omega.{arith}
use lib.Dec.{ltb, leb, eqb}
use borrow.Author.Tests.{ltb-true, lt-ltb, leb-true, le-leb, eqb-true, eqb-false, eq-eqb, ne_eqb, not-true}
use Rattle.lists.proofs.Tests.{both}
use Rattle.tables.specs.Rows.{account_in, link_in}
use Rattle.tables_rules.specs.Rules.{ports_sound, sizes_sound, link_sound, account_good, link_row_sound, number_rises, link_good}
use Rattle.tables_rules.specs.Claims.{LinkSoundExactly, PortBits, NumbersRise, RowsGoodExactly, SizesWithinSmax, LinkRefused, LinkAccepted}
use Rattle.tables_rules.proofs.Rules.{sound_sizes}

pub sizes_within_smax : SizesWithinSmax
sizes_within_smax a l n j = sound_sizes (link_in l j) n (account_in a (link_in l j).account).smax

pub link_refused : LinkRefused
unfolding ports_sound sizes_sound link_sound
link_refused = refl

pub link_accepted : LinkAccepted
unfolding ports_sound sizes_sound link_sound
link_accepted = refl

pub link_sound_exactly : LinkSoundExactly
unfolding ports_sound sizes_sound link_sound
link_sound_exactly l n smax = (
  λ e.
      let ports : Bool = ltb l.port 32 && not (eqb l.mask 0) && eqb (l.mask / 2 ^ l.port % 2) 0 in
      let sizes : Bool = leb 64 l.smallest && leb l.smallest l.largest && leb l.largest smax in
      let a = both (ltb l.account n && ports) sizes e in
      let b = both (ltb l.account n) ports a.0 in
      let c = both (ltb l.port 32 && not (eqb l.mask 0)) (eqb (l.mask / 2 ^ l.port % 2) 0) b.1 in
      let d = both (ltb l.port 32) (not (eqb l.mask 0)) c.0 in
      let f = both (leb 64 l.smallest && leb l.smallest l.largest) (leb l.largest smax) a.1 in
      let g = both (leb 64 l.smallest) (leb l.smallest l.largest) f.0 in (
        ltb-true _ _ b.0,
        ltb-true _ _ d.0,
        eqb-false _ _ (not-true (eqb l.mask 0) d.1),
        eqb-true _ _ c.1,
        leb-true _ _ g.0,
        leb-true _ _ g.1,
        leb-true _ _ f.1,
      ),
  λ h. simp (lt-ltb _ _ h.0, lt-ltb _ _ h.1, ne_eqb _ _ h.2, eq-eqb _ _ h.3, le-leb _ _ h.4, le-leb _ _ h.5, le-leb _ _ h.6),
)

pub port_bits : PortBits
unfolding ports_sound
port_bits = (refl, refl, refl)

pub numbers_rise : NumbersRise
unfolding number_rises
numbers_rise l j =
    let q : eqb (suc j) 0 ≡ false = ne_eqb (suc j) 0 (λ e. omega arith) in
    let p : suc j - 1 ≡ j = omega arith in (
      refl,
      (λ e. ltb-true _ _ (simp (q, p) at e), λ h. simp (q, p) (lt-ltb _ _ h)),
    )

pub rows_good_exactly : RowsGoodExactly
unfolding account_good link_good
rows_good_exactly a l n i = (
  refl,
  (λ e. both (number_rises l i) (link_row_sound a l n i) e, λ h. simp (h.0, h.1)),
)
