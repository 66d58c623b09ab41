-- Laws of what writing answers, case by case as the code makes the checks. Assumes nothing.
use Prim.Native.Nat.{ℕ, ◌*◌, ◌≤◌, ◌<◌}
use mathlib.Core.Bool.{Bool, true, false}
use mathlib.Core.List.{List}
use mathlib.Core.Path.{◌≡◌, refl, sym, ap, ap₂, ◌∙◌}
use native.Mathlib.Omega.{arith}
use lib.Dec.{ltb, leb, eqb}
use lib.ListN.{length}
use borrow.Author.Tests.{lt-ltb, le-ltb, ltb-true, ltb-false, leb-true, eq-eqb, ne_eqb, eqb-true, eqb-false}
use Rattle.std.specs.Prelude.{Ok, Err}
use Rattle.octets.specs.Runs.{put}
use Rattle.lists.proofs.Tests.{split, both}
use Rattle.lists.specs.Leading.{leading}
use Rattle.rows.specs.Rows.{Rows}
use Rattle.tables.specs.Rows.{Config, account_octets, link_octets, account_table, link_table}
use Rattle.tables_rules.specs.Rules.{account_good, link_good}
use Rattle.image_layout.specs.Layout.{max_accounts, max_links, field_offset, image_length, constant_good, image_of}
use Rattle.image_read.specs.declared.ImageError.{ImageError}
use Rattle.image_read.proofs.Reading.{no_fault}
use Rattle.image_write.specs.Writing.{Written, count_good, counts_good, bad_account, bad_link, written_of, written_by, value_answer, write_answer, writing_of, writing}

-- ---- one count
module _ (n limit w lent : ℕ) where
  -- what a good count says
  pub record Counted : Type 0 where
    pub some : 1 ≤ n
    pub few : n ≤ limit
    pub rows : w * n ≤ lent

  pub counted : count_good n limit w lent ≡ true → Counted
  unfolding count_good
  counted e =
      let b = both _ (leb (w * n) lent) e in
      let a = both (leb 1 n) (leb n limit) b.0 in
      record { some = leb-true _ _ a.0; few = leb-true _ _ a.1; rows = leb-true _ _ b.1 }

-- ---- both counts
module _ (accounts : List ℕ) (n : ℕ) (links : List ℕ) (m : ℕ) where
  pub accounts_counted : counts_good accounts n links m ≡ true → Counted n max_accounts account_octets (length accounts)
  unfolding counts_good
  accounts_counted e =
      counted n max_accounts account_octets (length accounts)
      (both (count_good n max_accounts account_octets (length accounts)) (count_good m max_links link_octets (length links)) e).0

  pub links_counted : counts_good accounts n links m ≡ true → Counted m max_links link_octets (length links)
  unfolding counts_good
  links_counted e =
      counted m max_links link_octets (length links)
      (both (count_good n max_accounts account_octets (length accounts)) (count_good m max_links link_octets (length links)) e).1

-- ---- the first bad rows, of tables that the code has as rows
pub account_found : (g : Config) (a : Rows) (x : ℕ) → a ≡ account_table g.accounts → x ≡ leading (account_good a) g.count_of_accounts → x ≡ bad_account g
unfolding bad_account
account_found g a x p e = e ∙ ap (λ (b : Rows). leading (account_good b) g.count_of_accounts) p

pub link_found : (g : Config) (a l : Rows) (y : ℕ) → a ≡ account_table g.accounts → l ≡ link_table g.links
    → y ≡ leading (link_good a l g.count_of_accounts) g.count_of_links → y ≡ bad_link g
unfolding bad_link
link_found g a l y p q e = e ∙ ap₂ (λ (b c : Rows). leading (link_good b c g.count_of_accounts) g.count_of_links) p q

-- ---- the values
module _ (g : Config) (r : Bool) (e : r ≡ constant_good g.constant) where
  pub constant_bad : r ≡ false → written_of 23 0 ≡ value_answer g
  unfolding value_answer
  constant_bad h = simp (← e, h)

  module _ (h : r ≡ true) (x : ℕ) (f : x ≡ bad_account g) where
    pub account_bad : x < g.count_of_accounts → (at : ℕ) → at ≡ field_offset x 0 → written_of 23 at ≡ value_answer g
    unfolding value_answer
    account_bad k at p = ap (written_of 23) (p ∙ ap (λ (y : ℕ). field_offset y 0) f) ∙ simp (← e, h, lt-ltb _ _ (rw f at k))

    module _ (k : g.count_of_accounts ≤ x) (y : ℕ) (q : y ≡ bad_link g) where
      pub link_bad : y < g.count_of_links → (at : ℕ) → at ≡ field_offset g.count_of_accounts y → written_of 23 at ≡ value_answer g
      unfolding value_answer
      link_bad l at p =
          ap (written_of 23) (p ∙ ap (field_offset g.count_of_accounts) q) ∙ simp (← e, h, le-ltb _ _ (rw f at k), lt-ltb _ _ (rw q at l))

      pub all_good : g.count_of_links ≤ y → (at : ℕ) → at ≡ image_length g.count_of_accounts g.count_of_links → written_of 0 at ≡ value_answer g
      unfolding value_answer
      all_good l at p = ap (written_of 0) p ∙ simp (← e, h, le-ltb _ _ (rw f at k), le-ltb _ _ (rw q at l))

-- ---- the answer
module _ (g : Config) (room : ℕ) (r : Bool) (e : r ≡ counts_good g.accounts g.count_of_accounts g.links g.count_of_links) where
  pub counts_bad : r ≡ false → written_of 24 0 ≡ write_answer g room
  unfolding write_answer
  counts_bad h = simp (← e, h)

  module _ (h : r ≡ true) (q : Written) (v : q ≡ value_answer g) where
    pub value_bad : (q.code ≡ 0 → ⊥) → q ≡ write_answer g room
    unfolding write_answer
    value_bad d = v ∙ simp (← e, h, ne_eqb _ _ (λ z. d (ap (λ (w : Written). w.code) v ∙ z)))

    module _ (z : q.code ≡ 0) (end : ℕ) (p : end ≡ image_length g.count_of_accounts g.count_of_links) where
      fine : (value_answer g).code ≡ 0
      fine = sym (ap (λ (w : Written). w.code) v) ∙ z

      pub room_short : room < end → written_of 26 0 ≡ write_answer g room
      unfolding write_answer
      room_short k = simp (← e, h, eq-eqb _ _ fine, lt-ltb _ _ (rw p at k))

      pub room_enough : end ≤ room → q ≡ write_answer g room
      unfolding write_answer
      room_enough k = v ∙ simp (← e, h, eq-eqb _ _ fine, le-ltb _ _ (rw p at k))

-- ---- case analysis of what writing answers
module _ (g : Config) (P : Written → Type 0) where
  pub by_values :
      (constant_good g.constant ≡ false → P (written_of 23 0))
      → (bad_account g < g.count_of_accounts → P (written_of 23 (field_offset (bad_account g) 0)))
      → (bad_link g < g.count_of_links → P (written_of 23 (field_offset g.count_of_accounts (bad_link g))))
      → (constant_good g.constant ≡ true → g.count_of_accounts ≤ bad_account g → g.count_of_links ≤ bad_link g
      → P (written_of 0 (image_length g.count_of_accounts g.count_of_links)))
      → P (value_answer g)
  unfolding value_answer
  by_values f h k l =
      split (constant_good g.constant)
      (λ e.
      split (ltb (bad_account g) g.count_of_accounts)
      (λ a. simp (e, a) (h (ltb-true _ _ a)))
      (λ a.
      split (ltb (bad_link g) g.count_of_links)
      (λ b. simp (e, a, b) (k (ltb-true _ _ b)))
      (λ b. simp (e, a, b) (l e (ltb-false _ _ a) (ltb-false _ _ b)))))
      (λ e. simp e (f e))

  pub by_writing : (room : ℕ)
      → (counts_good g.accounts g.count_of_accounts g.links g.count_of_links ≡ false → P (written_of 24 0))
      → (counts_good g.accounts g.count_of_accounts g.links g.count_of_links ≡ true → ((value_answer g).code ≡ 0 → ⊥) → P (value_answer g))
      → ((value_answer g).code ≡ 0 → room < image_length g.count_of_accounts g.count_of_links → P (written_of 26 0))
      → (counts_good g.accounts g.count_of_accounts g.links g.count_of_links ≡ true → (value_answer g).code ≡ 0
      → image_length g.count_of_accounts g.count_of_links ≤ room → P (value_answer g))
      → P (write_answer g room)
  unfolding write_answer
  by_writing room f h k l =
      split (counts_good g.accounts g.count_of_accounts g.links g.count_of_links)
      (λ e.
      split (eqb (value_answer g).code 0)
      (λ z.
      split (ltb room (image_length g.count_of_accounts g.count_of_links))
      (λ b. simp (e, z, b) (k (eqb-true _ _ z) (ltb-true _ _ b)))
      (λ b. simp (e, z, b) (l e (eqb-true _ _ z) (ltb-false _ _ b))))
      (λ z. simp (e, z) (h e (eqb-false _ _ z))))
      (λ e. simp e (f e))

-- ---- what is left in the room
module _ (g : Config) (d : List ℕ) (q : Written) (e : q ≡ write_answer g (length d)) where
  pub writing_refused : (q.code ≡ 0 → ⊥) → writing_of q d ≡ writing g d
  unfolding writing
  writing_refused f = ap (λ (w : Written). writing_of w d) e ∙ simp (ne_eqb _ _ (λ z. f (ap (λ (w : Written). w.code) e ∙ z)))

  pub writing_done : q.code ≡ 0 → (x : List ℕ) → x ≡ put d 0 (image_of g) → writing_of q x ≡ writing g d
  unfolding writing
  writing_done z x v = ap₂ writing_of e v ∙ simp (eq-eqb _ _ (sym (ap (λ (w : Written). w.code) e) ∙ z))

-- ---- the call as the code makes it
-- the length of the image is what good values answer
good_size : (g : Config) (size : ℕ) → written_by (Ok size) ≡ value_answer g → size ≡ image_length g.count_of_accounts g.count_of_links
good_size g size =
    by_values g (λ w. written_by (Ok size) ≡ w → size ≡ image_length g.count_of_accounts g.count_of_links)
    (λ _ e. absurd (no_success e))
    (λ _ e. absurd (no_success e))
    (λ _ e. absurd (no_success e))
    (λ _ _ _ e. ap (λ (w : Written). w.offset) e)
  where
    no_success : {at : ℕ} → written_by (Ok size) ≡ written_of 23 at → ⊥
    no_success e = let c : ◌≡◌ {A = ℕ} 0 23 = ap (λ (w : Written). w.code) e in omega arith

module _ (g : Config) (d : List ℕ) (r : Bool) (e : r ≡ counts_good g.accounts g.count_of_accounts g.links g.count_of_links) where
  pub write_bad_count : r ≡ false → writing_of (written_of 24 0) d ≡ writing g d
  write_bad_count h = writing_refused g d _ (counts_bad g (length d) r e h) (λ z. omega arith)

  module _ (h : r ≡ true) where
    pub write_bad_value : (q : ImageError) → written_by (Err q) ≡ value_answer g → writing_of (written_by (Err q)) d ≡ writing g d
    write_bad_value q v = writing_refused g d _ (value_bad g (length d) r e h _ v (no_fault q.fault)) (no_fault q.fault)

    module _ (size : ℕ) (v : written_by (Ok size) ≡ value_answer g) where
      pub write_no_room : length d < size → writing_of (written_of 26 0) d ≡ writing g d
      write_no_room k = writing_refused g d _ (room_short g (length d) r e h _ v refl size (good_size g size v) k) (λ z. omega arith)

      pub write_done : size ≤ length d → (x : List ℕ) → x ≡ put d 0 (image_of g) → writing_of (written_by (Ok size)) x ≡ writing g d
      write_done k = writing_done g d _ (room_enough g (length d) r e h _ v refl size (good_size g size v) k) refl

-- the answer beside the room is that of writing, whatever the answer
pub writing_answer : (g : Config) (d : List ℕ) → (writing g d).answer ≡ write_answer g (length d)
unfolding writing
writing_answer g d =
    split (eqb (write_answer g (length d)).code 0)
    (λ e. simp e)
    (λ e. simp e)
