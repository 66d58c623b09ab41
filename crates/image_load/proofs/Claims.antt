-- What holds of loading for any octets and any runs. Assumes nothing.
use Prim.Native.Nat.{ℕ, ◌+◌, ◌*◌, ◌≤◌}
use mathlib.Core.Bool.{false, false≢true}
use mathlib.Core.List.{List, [], ◌∷◌, Memᴰ}
use mathlib.Core.Path.{◌≡◌, refl, sym, ap, ◌∙◌}
use native.Mathlib.Omega.{arith}
use lib.Dec.{leb}
use lib.ListN.{length, drop, replicate, length-replicate}
use lib.Seq.{drop_at}
use borrow.Author.Tests.{leb-true, leb-false}
use Rattle.octets.specs.Runs.{put}
use Rattle.lists.proofs.Tests.{split}
use Rattle.octets.proofs.Runs.{put_fits, put_no_room}
use Rattle.tables.specs.Rows.{account_octets, link_octets}
use Rattle.image_read.specs.Read.{image_refused, read_image}
use Rattle.image_field.specs.Checks.{account_fields}
use Rattle.image_read.proofs.Accepted.{accepted, refused_zeros}
use Rattle.image_read.proofs.Claims.{listed, code_listed, not_26, offset_inside}
use Rattle.image_fill.specs.Filling.{Runs, account_rows, link_rows, capacities, filled}
use Rattle.image_load.specs.Claims.{LoadCodes, RefusedLoadKeeps, LoadRefuses, OffsetsInside, RowsBeyondKept}
use Rattle.image_load.proofs.Loading.{runs_held, by_load, length_account_rows, length_link_rows, length_capacities}

-- ---- codes
pub load_codes : LoadCodes
load_codes s r =
    let l : List ℕ = 0 ∷ 20 ∷ 21 ∷ 22 ∷ 23 ∷ 24 ∷ 25 ∷ 26 ∷ [] in
    let c : Memᴰ (read_image s).code l = code_listed l refl refl refl refl refl refl refl s in
    by_load s r (λ w. Memᴰ w.answer.code l) (λ _. c) (λ _ _. c) (λ _ _. listed 26 l refl)

-- ---- loading refused
pub refused_load_keeps : RefusedLoadKeeps
refused_load_keeps s r =
    by_load s r
    (λ w. (w.answer.code ≡ 0 → ⊥) → (w.runs ≡ r) × (w.answer.settings.constant ≡ 0) × (w.answer.settings.accounts ≡ 0) × (w.answer.settings.links ≡ 0))
    (λ d _. let z = refused_zeros s d in (refl, z.0, z.1, z.2))
    (λ z _ d. absurd (d z))
    (λ _ _ _. (refl, refl, refl, refl))

-- ---- what loading answers where it refuses
pub load_refuses : LoadRefuses
load_refuses s r = (
  by_load s r (λ w. ((read_image s).code ≡ 0 → ⊥) → w.answer ≡ read_image s)
      (λ d f. refl)
      (λ z t f. absurd (f z))
      (λ z t f. absurd (f z)),
  by_load s r (λ w. (read_image s).code ≡ 0 → runs_held s r ≡ false → w.answer ≡ image_refused 26 (length s))
      (λ d z f. absurd (d z))
      (λ z t y f. absurd (false≢true (sym f ∙ t)))
      (λ z t y f. refl),
)

-- ---- offsets
pub offsets_inside : OffsetsInside
offsets_inside s r =
    by_load s r
    (λ w. (w.answer.offset ≤ length s) × (w.answer.code ≡ 0 → w.answer.offset ≡ length s) × (w.answer.code ≡ 26 → w.answer.offset ≡ length s))
    (λ d. (offset_inside s, λ z. absurd (d z), λ e. absurd (not_26 s e)))
    (λ z _. (offset_inside s, λ _. (accepted s z).offset_is, λ e. absurd (not_26 s e)))
    (λ _ _. (omega arith, λ e. absurd (omega arith), λ _. refl))

-- ---- rows beyond what was written
drop_put : (d xs : List ℕ) (k : ℕ) → length xs ≡ k → drop k (put d 0 xs) ≡ drop k d
drop_put d xs k e =
    let p : 0 + length xs ≡ k = omega arith in
    split (leb (0 + length xs) (length d))
    (λ h. ap (drop k) (put_fits d 0 xs (leb-true _ _ h)) ∙ drop_at xs (drop (0 + length xs) d) k e ∙ ap (λ (i : ℕ). drop i d) p)
    (λ h. ap (drop k) (put_no_room d 0 xs (leb-false _ _ h)))

-- filled runs are unchanged after the rows that the image names
abbrev Beyond : ℕ → ℕ → Runs → Runs → Type 0
Beyond n m a r =
    (drop (account_octets * n) a.accounts ≡ drop (account_octets * n) r.accounts)
    × (drop n a.credits ≡ drop n r.credits)
    × (drop n a.lasts ≡ drop n r.lasts)
    × (drop (link_octets * m) a.links ≡ drop (link_octets * m) r.links)

filled_beyond : (s : List ℕ) (n m : ℕ) (r : Runs) → Beyond n m (filled s n m r) r
unfolding filled
filled_beyond s n m r = (
  drop_put r.accounts (account_rows s n) (account_octets * n) (length_account_rows s n m),
  drop_put r.credits (capacities (account_fields s) n) n (length_capacities s n m),
  drop_put r.lasts (replicate n 0) n (length-replicate n 0),
  drop_put r.links (link_rows s n m) (link_octets * m) (length_link_rows s n m),
)

pub rows_beyond_kept : RowsBeyondKept
rows_beyond_kept s r =
    by_load s r (λ w. w.answer.code ≡ 0 → Beyond w.answer.settings.accounts w.answer.settings.links w.runs r)
    (λ d z. absurd (d z))
    (λ _ _ _. filled_beyond s (read_image s).settings.accounts (read_image s).settings.links r)
    (λ _ _ z. absurd (omega arith))
