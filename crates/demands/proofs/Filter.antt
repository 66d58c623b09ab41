-- The filter over the tables of a history is the filter by the image: a call is refused with the first code before 8 that fits, or goes
-- over to the account with the image's link. And which frames pass to which account. Assumes nothing.
use Prim.Native.Nat.{ℕ, ◌<◌}
use mathlib.Core.Bool.{Bool, true, false, ◌&&◌, and-true, and-false}
use mathlib.Core.List.{List}
use mathlib.Core.Path.{◌≡◌, refl, sym, ap, ap₂, ◌∙◌}
use native.Mathlib.Omega.{arith}
use lib.ListN.{length}
use lib.Dec.{leb, eqb}
use borrow.Author.Tests.{le-leb, eq-eqb, ne_eqb, eqb-true, eqb-false}
use Rattle.lists.proofs.Tests.{split}
use Rattle.frame.specs.Frame.{link_number}
use Rattle.frame.proofs.Frame.{within}
use Rattle.rows.specs.Rows.{found_in}
use Rattle.tables.specs.Rows.{Config, link_table, links_in_use, found}
use Rattle.rows.specs.Rows.{Found}
use Rattle.std.specs.Prelude.{Some, None}
use Rattle.rows.proofs.Finding.{first_found}
use Rattle.tables.proofs.Claims.{links_same}
use Rattle.image_read.specs.Read.{read_image}
use Rattle.image_field.specs.Checks.{link_fields}
use Rattle.filter.specs.Filter.{frame_code, port_code}
use Rattle.switch.specs.Call.{State, Call, refused_with, by_link, called}
use Rattle.filter.proofs.Filter.{frame_zero}
use Rattle.switch.proofs.Call.{on_row, call_refused, call_row}
use Rattle.demands.specs.Rule.{image_link, link_row, link_code, filter_code, names, destination_octets, meant, passing}
use Rattle.demands.proofs.Tables.{Tables}

-- by the constructor found, with the equation in hand
by_constructor : {P : Type 0} (d : Found) → (d ≡ None → P) → ((j : ℕ) → d ≡ Some j → P) → P
by_constructor None f g = f refl
by_constructor (Some j) f g = g j refl

-- ---- the code by the image
module _ (s : List ℕ) (f : Call) where
  abbrev pub frame_code_lem : ℕ
  frame_code_lem = frame_code (read_image s).settings.constant f.octets

  pub filter_frame : (frame_code_lem ≡ 0 → ⊥) → filter_code s f ≡ frame_code_lem
  unfolding filter_code
  filter_frame h = simp (ne_eqb _ _ h)

  module _ (z : frame_code_lem ≡ 0) where
    by_row : filter_code s f ≡ link_code s f (link_row s f)
    unfolding filter_code
    by_row = simp (eq-eqb _ _ z)

    pub filter_unknown : link_row s f ≡ None → filter_code s f ≡ 4
    filter_unknown e = by_row ∙ ap (link_code s f) e

    pub filter_link : (j : ℕ) → link_row s f ≡ Some j → filter_code s f ≡ port_code (image_link s j) (length f.octets) f.port
    filter_link j e = by_row ∙ ap (link_code s f) e

  -- by cases
  pub by_filter : {P : Type 0}
      → ((frame_code_lem ≡ 0 → ⊥) → P)
      → (frame_code_lem ≡ 0 → link_row s f ≡ None → P)
      → (frame_code_lem ≡ 0 → (j : ℕ) → link_row s f ≡ Some j → j < (read_image s).settings.links → P)
      → P
  by_filter stopped unknown over =
      split (eqb frame_code_lem 0)
      (λ e.
      by_constructor (link_row s f) (unknown (eqb-true _ _ e))
      (λ j q. over (eqb-true _ _ e) j q (first_found (link_fields s (read_image s).settings.accounts) (read_image s).settings.links (link_number f.octets) j q).0))
      (λ e. stopped (eqb-false _ _ e))

  -- ---- which frames pass to an account
  module _ (a : ℕ) where
    pub passes_none : (filter_code s f ≡ 0 → ⊥) → passing s a f ≡ false
    passes_none h = ap (λ (b : Bool). meant s a f && b) (ne_eqb _ _ h) ∙ and-false (meant s a f)

    pub passes_link : (j : ℕ) → frame_code_lem ≡ 0 → link_row s f ≡ Some j → filter_code s f ≡ 0 → passing s a f ≡ eqb (image_link s j).account a
    unfolding meant
    passes_link j z e c =
        let w = within (length f.octets) (frame_zero (read_image s).settings.constant f.octets z) in
        let l : leb destination_octets (length f.octets) ≡ true = le-leb destination_octets (length f.octets) (omega arith) in
        ap₂ ◌&&◌ (ap₂ ◌&&◌ l (ap (names s a) e)) (eq-eqb (filter_code s f) 0 c) ∙ and-true (eqb (image_link s j).account a)

-- ---- the call over the tables
module _ (s : List ℕ) (g : Config) (t : Tables s g) (q : State) (f : Call) where
  -- the search over the rows lent is the search over the image's
  row_is : found g.links g.count_of_links (link_number f.octets) ≡ link_row s f
  row_is =
      let a = t.link_count in
      let b = t.link_room in
      let m : links_in_use g.links g.count_of_links ≡ (read_image s).settings.links = omega arith in
      ap (λ (n : ℕ). found_in (link_table g.links) n (link_number f.octets)) m
      ∙ links_same (link_table g.links) (link_fields s (read_image s).settings.accounts) (read_image s).settings.links (link_number f.octets) t.link

  code_is : frame_code g.constant f.octets ≡ frame_code_lem s f
  code_is = ap (λ (c : ℕ). frame_code c f.octets) t.constant

  pub call_frame : (frame_code_lem s f ≡ 0 → ⊥) → called g q f ≡ refused_with (frame_code_lem s f) q
  call_frame h = call_refused g q f (λ e. h (sym code_is ∙ e)) ∙ ap (λ (c : ℕ). refused_with c q) code_is

  module _ (z : frame_code_lem s f ≡ 0) where
    by_image_row : called g q f ≡ on_row g q f (link_row s f)
    by_image_row = call_row g q f (code_is ∙ z) ∙ ap (on_row g q f) row_is

    pub call_nowhere : link_row s f ≡ None → called g q f ≡ refused_with 4 q
    call_nowhere e = by_image_row ∙ ap (on_row g q f) e

    pub call_link : (j : ℕ) → link_row s f ≡ Some j → j < (read_image s).settings.links → called g q f ≡ by_link g q f (image_link s j)
    call_link j e h = by_image_row ∙ ap (on_row g q f) e ∙ ap (by_link g q f) (t.link j h)
