-- Laws of the rows that loading copies, and of what loading leaves. Assumes nothing.
use Prim.Native.Nat.{ℕ, ◌+◌, ◌*◌, ◌≤◌, ◌<◌, min}
use mathlib.Core.Bool.{true}
use mathlib.Core.List.{List, [], ◌∷◌, ◌++◌}
use mathlib.Core.Path.{◌≡◌, sym, ap, ◌∙◌}
use native.Mathlib.Nat.{zero-add}
use native.Mathlib.Omega.{arith}
use lib.ListN.{length, take, drop, set, replicate, length-replicate}
use lib.Seq.{length-take-le}
use Rattle.octets.specs.Runs.{octets_at, joined, put}
use Rattle.octets.proofs.Parts.{part_same, joined_same, length_joined}
use Rattle.octets.proofs.Runs.{put_fits, put_no_room}
use Rattle.octets.proofs.Filled.{Filled, fill_start, fill_next, fill_one}
use Rattle.terms.specs.Terms.{checked_capacity}
use Rattle.terms.specs.declared.Terms.{Terms}
use Rattle.terms.proofs.Methods.{capacity_kept}
use Rattle.rows.specs.Rows.{Rows, row_octets, row_offset}
use Rattle.rows.proofs.Rows.{near}
use Rattle.tables.specs.Rows.{terms_at, account_in}
use Rattle.tables_rules.specs.Rules.{account_good}
use Rattle.tables.proofs.Rows.{terms_near}
use Rattle.image_field.specs.Checks.{account_fields}
use Rattle.image_fill.specs.Filling.{full_credit, capacities}

-- ---- rows of w octets copied, where the code reads w as `width`: row i is read from a first offset that is cut to the run's length
module _ {w width : ℕ} (e : width ≡ w) where
  module _ (d : List ℕ) (f : ℕ → List ℕ) (n : ℕ) (each : (k : ℕ) → length (f k) ≡ w) where
    pub copy_refused : length d < width * n → d ≡ put d 0 (joined f n)
    copy_refused h =
        let k : length d < w * n = rw e at h in
        sym (put_no_room d 0 (joined f n) (rw (zero-add (length (joined f n)), length_joined f w each n) k))

    pub copy_starts : width * n ≤ length d → Filled d 0 w f n 0 d
    copy_starts h = fill_start each (rw (zero-add (w * n)) (rw e at h))

  module _ (r : Rows) {d : List ℕ} {n i : ℕ} {to : List ℕ} (b : Filled d 0 w (row_octets w r) n i to) (l : i < n) where
    pub copy_goes_on : (at : ℕ) → at ≡ min r.first (length r.octets) + r.step * i → {x : List ℕ} → x ≡ put to (width * i) (octets_at width r.octets at)
        → Filled d 0 w (row_octets w r) n (i + 1) x
    copy_goes_on at p q =
        fill_next b l (ap (λ (y : ℕ). y * i) e ∙ sym (zero-add (w * i)))
        (ap (λ (y : ℕ). octets_at y r.octets at) e ∙ part_same w r.octets r.octets at (row_offset r i) (λ k _. near r.octets r.first (r.step * i) at p k)) q

-- ---- capacities stored one by one
abbrev pub row_capacity : Rows → ℕ → List ℕ
row_capacity a i = checked_capacity (account_in a i) ∷ []

pub credit_goes_on : (a : Rows) {d : List ℕ} {n i : ℕ} {e : List ℕ} → Filled d 0 1 (row_capacity a) n i e → i < n
    → (at : ℕ) → at ≡ min a.first (length a.octets) + a.step * i → (p : Terms) → p ≡ terms_at a.octets at → {x : ℕ} → x ≡ checked_capacity p
    → Filled d 0 1 (row_capacity a) n (i + 1) (set e i x)
credit_goes_on a {i = i} b l at q p v u =
    fill_one b l (sym (zero-add i)) (u ∙ ap checked_capacity (v ∙ terms_near a.octets a.first (a.step * i) at q))

-- ---- last times: no room, or zeros
pub lasts_kept : (d : List ℕ) (n : ℕ) → length d < n → d ≡ put d 0 (replicate n 0)
lasts_kept d n h = sym (put_no_room d 0 (replicate n 0) (simp length-replicate (omega arith)))

pub lasts_cleared : (d e : List ℕ) (n : ℕ) → n ≤ length d → e ≡ replicate (length (take n d)) 0 → e ++ drop n d ≡ put d 0 (replicate n 0)
lasts_cleared d e n h q =
    let z : List ℕ = replicate n 0 in
    let f : 0 + length z ≡ n = simp (zero-add, length-replicate) in
    ap (λ (x : List ℕ). x ++ drop n d) (q ∙ ap (λ (m : ℕ). replicate m 0) (length-take-le n d h))
    ∙ sym (put_fits d 0 z (omega arith) ∙ ap (λ (m : ℕ). z ++ drop m d) f)

-- ---- the capacity of an account: as the method gives it, and as the formula gives it
full_capacity : (s : List ℕ) (i : ℕ) → account_good (account_fields s) i ≡ true → checked_capacity (account_in (account_fields s) i) ≡ full_credit (account_fields s) i
unfolding account_good
full_capacity s i e = sym (capacity_kept (account_in (account_fields s) i) e)

pub capacities_good : (s : List ℕ) (n : ℕ) → ((i : ℕ) → i < n → account_good (account_fields s) i ≡ true) → joined (row_capacity (account_fields s)) n ≡ capacities (account_fields s) n
unfolding capacities
capacities_good s n h =
    joined_same (row_capacity (account_fields s)) (λ i. full_credit (account_fields s) i ∷ []) n
    (λ i l. ap (λ (x : ℕ). x ∷ []) (full_capacity s i (h i l)))
