-- What holds of writing for any tables, counts and room. Assumes nothing.
use Prim.Native.Nat.{ℕ, ◌*◌, ◌≤◌}
use mathlib.Core.Bool.{true, false, ◌&&◌}
use mathlib.Core.List.{List, [], ◌∷◌, ◌++◌, Memᴰ}
use mathlib.Core.Logic.{◌↔◌}
use mathlib.Core.Path.{◌≡◌, refl, sym, ap, ◌∙◌}
use native.Mathlib.Nat.{zero-add}
use native.Mathlib.Omega.{arith}
use lib.Dec.{leb, eqb}
use lib.ListN.{length, drop}
use borrow.Author.Tests.{leb-true, le-leb}
use Rattle.std.specs.Prelude.{if◌then◌else◌}
use Rattle.lists.proofs.Tests.{both}
use Rattle.octets.specs.Runs.{put}
use Rattle.octets.proofs.Runs.{put_fits}
use Rattle.tables.specs.Rows.{Config, account_table, link_table}
use Rattle.tables_rules.specs.Rules.{account_good, link_good}
use Rattle.lists.proofs.Leading.{leading_is}
use Rattle.image_layout.specs.Layout.{field_offset, image_length, image_of}
use Rattle.image_write.specs.Writing.{count_good, counts_good, bad_account, bad_link, written_of, value_answer, write_answer, Writing, writing_of, writing}
use Rattle.image_write.specs.Claims.{CountsExactly, WriteRefuses, WriteAccepts, FirstBadConstant, FirstBadAccount, FirstBadLink, WriteCodes, RefusedWriteKeeps, WriteOffsets, WritesImage, ImageLength}
use Rattle.image_write.proofs.Writing.{writing_answer, counts_bad, room_short, room_enough, constant_bad, account_bad, link_bad, value_bad, by_values, by_writing, writing_refused}
use Rattle.image_octets.proofs.Written.{length_image}

-- case analysis of what writing answers and leaves
by_write : (g : Config) (d : List ℕ) (P : Writing → Type 0)
    → P (writing_of (written_of 24 0) d)
    → ((at : ℕ) → P (writing_of (written_of 23 at) d))
    → P (writing_of (written_of 26 0) d)
    → (image_length g.count_of_accounts g.count_of_links ≤ length d → P (writing_of (written_of 0 (image_length g.count_of_accounts g.count_of_links)) (put d 0 (image_of g))))
    → P (writing g d)
unfolding writing
by_write g d P p24 p23 p26 p0 =
    by_writing g (λ w. P (if eqb w.code 0 then writing_of w (put d 0 (image_of g)) else writing_of w d)) (length d)
    (λ e. p24)
    (λ e f. by_values g (λ w. (w.code ≡ 0 → ⊥) → P (if eqb w.code 0 then writing_of w (put d 0 (image_of g)) else writing_of w d))
    (λ c o. p23 _)
    (λ a o. p23 _)
    (λ b o. p23 _)
    (λ c a b o. absurd (o refl))
    f)
    (λ v h. p26)
    (λ e v h. by_values g (λ w. w.code ≡ 0 → P (if eqb w.code 0 then writing_of w (put d 0 (image_of g)) else writing_of w d))
    (λ c o. absurd (omega arith))
    (λ a o. absurd (omega arith))
    (λ b o. absurd (omega arith))
    (λ c a b o. p0 h)
    v)

-- when a count is good, from the definition alone
count_exactly : (n limit w lent : ℕ) → (count_good n limit w lent ≡ true) ↔ ((1 ≤ n) × (n ≤ limit) × (w * n ≤ lent))
unfolding count_good
count_exactly n limit w lent = (
  λ e.
      let a = both (leb 1 n && leb n limit) (leb (w * n) lent) e in
      let b = both (leb 1 n) (leb n limit) a.0 in
      (leb-true _ _ b.0, leb-true _ _ b.1, leb-true _ _ a.1),
  λ h. simp (le-leb _ _ h.0, le-leb _ _ h.1, le-leb _ _ h.2),
)

pub counts_exactly : CountsExactly
unfolding counts_good
counts_exactly accounts n links m =
    let a = count_exactly n 64 6 (length accounts) in
    let b = count_exactly m 256 13 (length links) in (
      λ e. let c = both (count_good n 64 6 (length accounts)) (count_good m 256 13 (length links)) e in (a.0 c.0, b.0 c.1),
      λ h. simp (a.1 h.0, b.1 h.1),
    )

pub write_codes : WriteCodes
write_codes g d =
    by_write g d (λ w. Memᴰ w.answer.code (0 ∷ 23 ∷ 24 ∷ 26 ∷ []))
    (Memᴰ.tail (Memᴰ.tail (Memᴰ.head refl)))
    (λ at. Memᴰ.tail (Memᴰ.head refl))
    (Memᴰ.tail (Memᴰ.tail (Memᴰ.tail (Memᴰ.head refl))))
    (λ h. Memᴰ.head refl)

pub refused_write_keeps : RefusedWriteKeeps
refused_write_keeps g d =
    by_write g d (λ w. (w.answer.code ≡ 0 → ⊥) → w.room ≡ d)
    (λ f. refl)
    (λ at f. refl)
    (λ f. refl)
    (λ h f. absurd (f refl))

pub write_offsets : WriteOffsets
write_offsets g d =
    by_write g d
    (λ w. (w.answer.code ≡ 24 → w.answer.offset ≡ 0) × (w.answer.code ≡ 26 → w.answer.offset ≡ 0) × (w.answer.code ≡ 0 → w.answer.offset ≡ length (image_of g)))
    (λ e. refl, λ e. refl, λ e. absurd (omega arith))
    (λ at. (λ e. absurd (omega arith), λ e. absurd (omega arith), λ e. absurd (omega arith)))
    (λ e. refl, λ e. refl, λ e. absurd (omega arith))
    (λ h. (λ e. absurd (omega arith), λ e. absurd (omega arith), λ e. sym (length_image g)))

pub writes_image : WritesImage
writes_image g d =
    by_write g d (λ w. w.answer.code ≡ 0 → w.room ≡ image_of g ++ drop (length (image_of g)) d)
    (λ e. absurd (omega arith))
    (λ at e. absurd (omega arith))
    (λ e. absurd (omega arith))
    (λ h e. let l = length_image g in put_fits d 0 (image_of g) (omega arith) ∙ ap (λ (n : ℕ). image_of g ++ drop n d) (zero-add (length (image_of g))))

pub image_length_lem : ImageLength
image_length_lem g = length_image g

-- ---- the first bad value
module _ (g : Config) (d : List ℕ) (e : counts_good g.accounts g.count_of_accounts g.links g.count_of_links ≡ true) where
  answered : (at : ℕ) → written_of 23 at ≡ value_answer g → (writing g d).answer ≡ written_of 23 at
  answered at v =
      let q : written_of 23 at ≡ write_answer g (length d) = value_bad g (length d) true (sym e) refl (written_of 23 at) v (λ z. omega arith) in
      sym (ap (λ (w : Writing). w.answer) (writing_refused g d (written_of 23 at) q (λ z. omega arith)))

pub first_bad_constant : FirstBadConstant
first_bad_constant g d e c = answered g d e 0 (constant_bad g false (sym c) refl)

pub first_bad_account : FirstBadAccount
unfolding bad_account
first_bad_account g d e c i l before bad =
    answered g d e (field_offset i 0)
    (account_bad g true (sym c) refl i
    (sym (leading_is (account_good (account_table g.accounts)) i g.count_of_accounts (omega arith) before (λ _. bad))) l _ refl)

pub first_bad_link : FirstBadLink
unfolding bad_account bad_link
first_bad_link g d e c all j l before bad =
    answered g d e (field_offset g.count_of_accounts j)
    (link_bad g true (sym c) refl g.count_of_accounts
    (sym (leading_is (account_good (account_table g.accounts)) g.count_of_accounts g.count_of_accounts (omega arith) all (λ h. absurd (omega arith))))
    (omega arith) j
    (sym (leading_is (link_good (account_table g.accounts) (link_table g.links) g.count_of_accounts) j g.count_of_links (omega arith) before (λ _. bad))) l _ refl)

-- ---- when 24, 26 and success come
values_length : (g : Config) → (value_answer g).code ≡ 0 → value_answer g ≡ written_of 0 (image_length g.count_of_accounts g.count_of_links)
values_length g =
    by_values g (λ w. w.code ≡ 0 → w ≡ written_of 0 (image_length g.count_of_accounts g.count_of_links))
    (λ c o. absurd (omega arith))
    (λ a o. absurd (omega arith))
    (λ b o. absurd (omega arith))
    (λ c a b o. refl)

pub write_refuses : WriteRefuses
write_refuses g d = (
  λ e. writing_answer g d ∙ sym (counts_bad g (length d) false (sym e) refl),
  λ e v h. writing_answer g d ∙ sym (room_short g (length d) true (sym e) refl (value_answer g) refl v _ refl h),
)

pub write_accepts : WriteAccepts
write_accepts g d e v h =
    writing_answer g d ∙ sym (room_enough g (length d) true (sym e) refl (value_answer g) refl v _ refl h) ∙ values_length g v
