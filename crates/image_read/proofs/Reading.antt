-- Laws of what reading and loading answer, case by case as the code makes the checks. Assumes nothing.
use Prim.Native.Nat.{ℕ, ◌≤◌, ◌<◌}
use mathlib.Core.List.{List}
use mathlib.Core.Path.{◌≡◌, sym, ap, ◌∙◌}
use native.Mathlib.Omega.{arith}
use lib.Dec.{ltb, eqb}
use lib.ListN.{length}
use borrow.Author.Tests.{le-ltb, ltb-true, ltb-false, eq-eqb, ne_eqb, eqb-true, eqb-false}
use Rattle.codes.specs.Refused.{fault_number}
use Rattle.codes.specs.declared.Fault.{Fault}
use Rattle.codes.specs.declared.Fault.TheVariants.{Cut, WrongTag, WrongLength, BadValue, BadCount, Surplus, NoRoom}
use Rattle.tables.specs.Rows.{settings_of}
use Rattle.octets.specs.Numbers.{number_at}
use Rattle.lists.proofs.Tests.{split}
use Rattle.lists.proofs.Leading.{leading_high}
use Rattle.image_layout.specs.Layout.{account_tag, link_tag, field_offset, data_offset, image_length, max_accounts, max_links}
use Rattle.image_read.specs.declared.ImageAnswer.{ImageAnswer}
use Rattle.image_read.specs.Read.{good_field, good_accounts, good_links, image_refused, read_end, read_image}
use Rattle.image_field.specs.Checks.{head_code, next_code}

-- no fault has the number of success
pub no_fault : (f : Fault) → fault_number f ≡ 0 → ⊥
no_fault Cut e = omega arith
no_fault WrongTag e = omega arith
no_fault WrongLength e = omega arith
no_fault BadValue e = omega arith
no_fault BadCount e = omega arith
no_fault Surplus e = omega arith
no_fault NoRoom e = omega arith

-- ---- counts are within the limits
pub few_accounts : (s : List ℕ) → good_accounts s ≤ max_accounts
unfolding good_accounts
few_accounts s = leading_high (λ i. good_field s account_tag i 0) max_accounts

pub few_links : (s : List ℕ) (n : ℕ) → good_links s n ≤ max_links
unfolding good_links
few_links s n = leading_high (λ j. good_field s link_tag n j) max_links

-- ---- the answer at the last field
module _ (s : List ℕ) (n m : ℕ) (code : ℕ) (e : code ≡ next_code s n m) where
  pub end_accepted : code ≡ 0 → (end : ℕ) → end ≡ data_offset n m → length s ≤ end → (k : ℕ) → k ≡ number_at 4 s 4
      → ◌≡◌ {A = ImageAnswer} (record { code = 0; offset = length s; settings = settings_of k n m }) (read_end s n m)
  unfolding read_end
  end_accepted z end p h k c = rw c (simp (eq-eqb _ _ (sym e ∙ z), le-ltb _ _ (rw p at h)))

-- ---- the answer
module _ (s : List ℕ) (code : ℕ) (e : code ≡ head_code s) where
  pub head_refused : (code ≡ 0 → ⊥) → (q : ImageAnswer) → q ≡ image_refused code 0 → q ≡ read_image s
  unfolding read_image
  head_refused d q v = v ∙ ap (λ (k : ℕ). image_refused k 0) e ∙ simp (ne_eqb _ _ (λ z. d (e ∙ z)))

  pub head_passed : code ≡ 0 → (n m : ℕ) (q : ImageAnswer) → n ≡ good_accounts s → m ≡ good_links s n → q ≡ read_end s n m → q ≡ read_image s
  unfolding read_image
  head_passed z n m q f g v =
      v ∙ ap (read_end s n) g ∙ ap (λ (k : ℕ). read_end s k (good_links s k)) f ∙ simp (eq-eqb _ _ (sym e ∙ z))

-- ---- case analysis of what reading answers
module _ (s : List ℕ) (P : ImageAnswer → Type 0) where
  -- surplus octets are refused at some offset inside the image
  pub by_end : (n m : ℕ)
      → ((next_code s n m ≡ 0 → ⊥) → P (image_refused (next_code s n m) (field_offset n m)))
      → (next_code s n m ≡ 0 → image_length n m < length s → (at : ℕ) → at ≤ length s → P (image_refused 25 at))
      → (next_code s n m ≡ 0 → length s ≤ image_length n m → P (record { code = 0; offset = length s; settings = settings_of (number_at 4 s 4) n m }))
      → P (read_end s n m)
  unfolding read_end
  by_end n m f g h =
      split (eqb (next_code s n m) 0)
      (λ e.
      split (ltb (image_length n m) (length s))
      (λ l. let k = ltb-true _ _ l in simp (e, l) (g (eqb-true _ _ e) k _ (omega arith)))
      (λ l. simp (e, l) (h (eqb-true _ _ e) (ltb-false _ _ l))))
      (λ e. simp e (f (eqb-false _ _ e)))

  pub by_reading : ((head_code s ≡ 0 → ⊥) → P (image_refused (head_code s) 0))
      → (head_code s ≡ 0 → P (read_end s (good_accounts s) (good_links s (good_accounts s))))
      → P (read_image s)
  unfolding read_image
  by_reading f g =
      split (eqb (head_code s) 0)
      (λ e. simp e (g (eqb-true _ _ e)))
      (λ e. simp e (f (eqb-false _ _ e)))

-- ---- the counts of an answer are within the limits
abbrev pub Few : ImageAnswer → Type 0
Few q = (q.settings.accounts ≤ max_accounts) × (q.settings.links ≤ max_links)

pub few_read : (s : List ℕ) → Few (read_image s)
few_read s =
    by_reading s Few
    (λ d. (omega arith, omega arith))
    (λ z. by_end s Few (good_accounts s) (good_links s (good_accounts s))
    (λ d. (omega arith, omega arith))
    (λ e h at k. (omega arith, omega arith))
    (λ e h. (few_accounts s, few_links s (good_accounts s))))

pub few_accounts_read : (s : List ℕ) (q : ImageAnswer) → q ≡ read_image s → q.settings.accounts ≤ max_accounts
few_accounts_read s q e = rw e (few_read s).0

pub few_links_read : (s : List ℕ) (q : ImageAnswer) → q ≡ read_image s → q.settings.links ≤ max_links
few_links_read s q e = rw e (few_read s).1
