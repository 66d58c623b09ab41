-- The value rules exactly, and at both sides of their bounds (document 01, "Accounts and links" and "The configuration image");
-- proved in proofs/Claims.antt.
use Rattle.std.specs.Prelude.{ℕ, suc, ◌-◌, ◌/◌, ◌%◌, ◌^◌, ◌≤◌, ◌<◌, true, false, not, List, [], ◌∷◌, map, ◌↔◌, ◌≡◌, eqb}
use Rattle.rows.specs.Rows.{Rows}
use Rattle.terms.specs.Terms.{terms_good}
use Rattle.tables.specs.Rows.{account_in, link_in}
use Rattle.tables.specs.declared.Link.{Link}
use Rattle.tables_rules.specs.Rules.{ports_sound, link_sound, account_good, link_row_sound, number_rises, link_good}

-- a link keeps its rules exactly where its account exists, its port is one of 32, its mask is not 0 and lacks the port's bit, and
-- its sizes rise from 64 to Smax
abbrev pub LinkSoundExactly : Type 0
LinkSoundExactly =
    (l : Link) (n smax : ℕ)
    → (link_sound l n smax ≡ true)
    ↔ ((l.account < n) × (l.port < 32) × (l.mask ≡ 0 → ⊥) × (l.mask / 2 ^ l.port % 2 ≡ 0)
    × (64 ≤ l.smallest) × (l.smallest ≤ l.largest) × (l.largest ≤ smax))

-- bit p is port p's, over all 32 ports: a mask of one bit is refused on that bit's port and on no other port; a mask of
-- all bits but one is accepted on the missing bit's port; a mask of all bits is accepted on no port
abbrev pub ports : List ℕ
ports =
    0 ∷ 1 ∷ 2 ∷ 3 ∷ 4 ∷ 5 ∷ 6 ∷ 7 ∷ 8 ∷ 9 ∷ 10 ∷ 11 ∷ 12 ∷ 13 ∷ 14 ∷ 15
    ∷ 16 ∷ 17 ∷ 18 ∷ 19 ∷ 20 ∷ 21 ∷ 22 ∷ 23 ∷ 24 ∷ 25 ∷ 26 ∷ 27 ∷ 28 ∷ 29 ∷ 30 ∷ 31 ∷ []

abbrev pub PortBits : Type 0
PortBits =
    (map (λ p. map (λ q. ports_sound p (2 ^ q)) ports) ports ≡ map (λ p. map (λ q. not (eqb p q)) ports) ports)
    × (map (λ p. ports_sound p (2 ^ 32 - 1 - 2 ^ p)) ports ≡ map (λ p. true) ports)
    × (map (λ p. ports_sound p (2 ^ 32 - 1)) ports ≡ map (λ p. false) ports)

-- numbers rise: a row after the first has a number above that of the row before it
abbrev pub NumbersRise : Type 0
NumbersRise =
    (l : Rows) (j : ℕ)
    → (number_rises l 0 ≡ true) × ((number_rises l (suc j) ≡ true) ↔ ((link_in l j).number < (link_in l (suc j)).number))

-- a row is good where its own values are good and, for a link, its number rises
abbrev pub RowsGoodExactly : Type 0
RowsGoodExactly =
    (a l : Rows) (n i : ℕ)
    → (account_good a i ≡ terms_good (account_in a i))
    × ((link_good a l n i ≡ true) ↔ ((number_rises l i ≡ true) × (link_row_sound a l n i ≡ true)))

-- the sizes of a sound link row are a frame's, and at most the Smax in the row of the link's account, in modes with
-- line octets too (document 02, Q-3)
abbrev pub SizesWithinSmax : Type 0
SizesWithinSmax =
    (a l : Rows) (n j : ℕ) → link_row_sound a l n j ≡ true
    → (64 ≤ (link_in l j).smallest)
    × ((link_in l j).smallest ≤ (link_in l j).largest)
    × ((link_in l j).largest ≤ (account_in a (link_in l j).account).smax)

-- a link of number 7 with these values, judged among 2 accounts, with Smax 200 for its own account
abbrev pub link_with : ℕ → ℕ → ℕ → ℕ → ℕ → Link
link_with port mask smallest largest account =
    record { number = 7; port = port; mask = mask; smallest = smallest; largest = largest; account = account }

-- port 32; no output port; the input port as output port; smallest below a frame's; sizes swapped; largest above Smax; account 2
abbrev pub LinkRefused : Type 0
LinkRefused =
    map (λ l. link_sound l 2 200)
    (link_with 32 8 64 200 1
    ∷ link_with 2 0 64 200 1
    ∷ link_with 2 12 64 200 1
    ∷ link_with 2 8 63 200 1
    ∷ link_with 2 8 201 200 1
    ∷ link_with 2 8 64 201 1
    ∷ link_with 2 8 64 200 2
    ∷ [])
    ≡ false ∷ false ∷ false ∷ false ∷ false ∷ false ∷ false ∷ []

-- link values at the good side of each bound; and all ports but the input port
abbrev pub LinkAccepted : Type 0
LinkAccepted =
    map (λ l. link_sound l 2 200)
    (link_with 31 8 64 200 1
    ∷ link_with 2 8 64 200 1
    ∷ link_with 2 4294967291 64 200 1
    ∷ link_with 2 8 64 64 1
    ∷ link_with 2 8 200 200 1
    ∷ link_with 2 8 64 200 0
    ∷ [])
    ≡ true ∷ true ∷ true ∷ true ∷ true ∷ true ∷ []
