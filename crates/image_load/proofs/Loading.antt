-- Laws of what loading answers and leaves, case by case. Assumes nothing.
use Prim.Native.Nat.{ℕ, ◌*◌, ◌<◌}
use mathlib.Core.Bool.{Bool, true, false, false≢true}
use mathlib.Core.List.{List, [], ◌∷◌}
use mathlib.Core.Path.{◌≡◌, refl, sym, ap, ◌∙◌}
use native.Mathlib.Nat.{one-mul}
use native.Mathlib.Omega.{arith}
use lib.Dec.{eqb}
use lib.ListN.{length, replicate}
use borrow.Author.Tests.{eq-eqb, ne_eqb, eqb-true, eqb-false}
use Rattle.std.specs.Prelude.{if◌then◌else◌}
use Rattle.lists.proofs.Tests.{split}
use Rattle.rows.specs.Rows.{row_octets}
use Rattle.tables.specs.Rows.{account_octets, link_octets}
use Rattle.tables_rules.specs.Rules.{account_good}
use Rattle.std.specs.Prelude.{Ok, Err}
use Rattle.tables.specs.declared.Settings.{Settings}
use Rattle.image_read.specs.declared.ImageError.{ImageError}
use Rattle.image_read.specs.declared.ImageAnswer.{ImageAnswer}
use Rattle.image_read.specs.Read.{answered, image_refused, read_image}
use Rattle.image_field.specs.Checks.{account_fields, link_fields}
use Rattle.image_read.proofs.Accepted.{accepted, counted_account, good_account}
use Rattle.image_read.proofs.Reading.{no_fault}
use Rattle.image_load.specs.Loading.{Loading, loading_of, load_answer, loading}
use Rattle.image_fill.specs.Filling.{long_enough, runs_hold, Runs, account_rows, link_rows, full_credit, capacities, checked_filled, filled, runs_of}
use Rattle.octets.specs.Runs.{put}
use Rattle.octets.proofs.Parts.{length_part, length_joined}
use Rattle.image_fill.proofs.Filling.{capacities_good}

-- ---- case analysis of what loading answers
by_loading : (s : List ℕ) (accounts credits lasts links : ℕ) (P : ImageAnswer → Type 0)
    → (((read_image s).code ≡ 0 → ⊥) → P (read_image s))
    → ((read_image s).code ≡ 0 → runs_hold (read_image s).settings.accounts (read_image s).settings.links accounts credits lasts links ≡ true → P (read_image s))
    → ((read_image s).code ≡ 0 → runs_hold (read_image s).settings.accounts (read_image s).settings.links accounts credits lasts links ≡ false → P (image_refused 26 (length s)))
    → P (load_answer s accounts credits lasts links)
unfolding load_answer
by_loading s accounts credits lasts links P f g h =
    split (eqb (read_image s).code 0)
    (λ e.
    split (runs_hold (read_image s).settings.accounts (read_image s).settings.links accounts credits lasts links)
    (λ t. simp (e, t) (g (eqb-true _ _ e) t))
    (λ t. simp (e, t) (h (eqb-true _ _ e) t)))
    (λ e. simp e (f (eqb-false _ _ e)))

-- ---- runs that are long enough for what an image names
abbrev pub runs_held : List ℕ → Runs → Bool
runs_held s r = long_enough (read_image s).settings.accounts (read_image s).settings.links r

-- case analysis of what loading answers and leaves
pub by_load : (s : List ℕ) (r : Runs) (P : Loading → Type 0)
    → (((read_image s).code ≡ 0 → ⊥) → P (loading_of (read_image s) r))
    → ((read_image s).code ≡ 0 → runs_held s r ≡ true → P (loading_of (read_image s) (filled s (read_image s).settings.accounts (read_image s).settings.links r)))
    → ((read_image s).code ≡ 0 → runs_held s r ≡ false → P (loading_of (image_refused 26 (length s)) r))
    → P (loading s r)
unfolding loading
by_load s r P f g h =
    by_loading s (length r.accounts) (length r.credits) (length r.lasts) (length r.links)
    (λ q. P (if eqb q.code 0 then loading_of q (filled s q.settings.accounts q.settings.links r) else loading_of q r))
    (λ d. simp (ne_eqb _ _ d) (f d))
    (λ z t. simp (eq-eqb _ _ z) (g z t))
    (λ z t. h z t)

-- ---- the answer as the code gives it, with q for what reading answers
module _ (s : List ℕ) (r : Runs) where
  pub load_refused : (e : ImageError) → answered (length s) (Err e) ≡ read_image s → loading_of (answered (length s) (Err e)) r ≡ loading s r
  load_refused e p =
      let d : (read_image s).code ≡ 0 → ⊥ = λ z. no_fault e.fault (ap (λ (x : ImageAnswer). x.code) p ∙ z) in
      by_load s r (λ w. loading_of (answered (length s) (Err e)) r ≡ w)
      (λ _. ap (λ (x : ImageAnswer). loading_of x r) p)
      (λ z _. absurd (d z))
      (λ z _. absurd (d z))

  module _ (q : Settings) (p : answered (length s) (Ok q) ≡ read_image s) (b : Bool) (v : b ≡ long_enough q.accounts q.links r) where
    accepts : (read_image s).code ≡ 0
    accepts = sym (ap (λ (x : ImageAnswer). x.code) p)

    held : b ≡ runs_held s r
    held = v ∙ ap (λ (x : ImageAnswer). long_enough x.settings.accounts x.settings.links r) p

    pub load_short : b ≡ false → loading_of (image_refused 26 (length s)) r ≡ loading s r
    load_short f =
        by_load s r (λ w. loading_of (image_refused 26 (length s)) r ≡ w)
        (λ d. absurd (d accepts))
        (λ _ t. absurd (false≢true (sym f ∙ held ∙ t)))
        (λ _ _. refl)

    pub load_filled : b ≡ true → (w : Runs) → w ≡ checked_filled s q.accounts q.links r → loading_of (answered (length s) (Ok q)) w ≡ loading s r
    unfolding checked_filled filled
    load_filled t w g =
        let a : ImageAnswer = answered (length s) (Ok q) in
        let good : (i : ℕ) → i < q.accounts → account_good (account_fields s) i ≡ true =
        λ i l.
        let n : q.accounts ≡ (read_image s).settings.accounts = ap (λ (x : ImageAnswer). x.settings.accounts) p in
        let k = (accepted s accepts).accounts_are in
        good_account s i (counted_account s i (omega arith)) in
        let full : w ≡ filled s q.accounts q.links r =
        g
        ∙ ap
        (λ (c : List ℕ). runs_of (put r.accounts 0 (account_rows s q.accounts)) (put r.credits 0 c) (put r.lasts 0 (replicate q.accounts 0)) (put r.links 0 (link_rows s q.accounts q.links)))
        (capacities_good s q.accounts good) in
        by_load s r (λ x. loading_of a w ≡ x)
        (λ d. absurd (d accepts))
        (λ _ _. ap (loading_of a) full ∙ ap (λ (x : ImageAnswer). loading_of x (filled s x.settings.accounts x.settings.links r)) p)
        (λ _ f. absurd (false≢true (sym f ∙ sym held ∙ t)))

-- ---- the lengths of what is written
module _ (s : List ℕ) (n m : ℕ) where
  pub length_account_rows : length (account_rows s n) ≡ account_octets * n
  unfolding account_rows
  length_account_rows = length_joined (row_octets account_octets (account_fields s)) account_octets (λ i. length_part account_octets s _) n

  pub length_link_rows : length (link_rows s n m) ≡ link_octets * m
  unfolding link_rows
  length_link_rows = length_joined (row_octets link_octets (link_fields s n)) link_octets (λ j. length_part link_octets s _) m

  pub length_capacities : length (capacities (account_fields s) n) ≡ n
  unfolding capacities
  length_capacities = length_joined (λ i. full_credit (account_fields s) i ∷ []) 1 (λ i. refl) n ∙ one-mul n
