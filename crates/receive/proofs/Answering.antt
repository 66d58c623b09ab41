-- Laws of what an answer leaves, and of the call by the row found. Assumes nothing.
use Prim.Native.Nat.{ℕ, ◌<◌}
use mathlib.Core.Bool.{false}
use mathlib.Core.List.{List}
use mathlib.Core.Path.{◌≡◌, refl, sym, ap, ◌∙◌}
use lib.ListN.{length}
use Rattle.rows.specs.Rows.{table_of, found_in}
use Rattle.rows.specs.Rows.{Found}
use Rattle.std.specs.Prelude.{Some, None}
use Rattle.rows.proofs.Finding.{first_found}
use Rattle.receive_answer.specs.declared.Arrival.{Arrival}
use Rattle.receive_answer.specs.declared.Reception.{Reception}
use Rattle.receive_answer.specs.declared.Reception.TheVariants.{Delivered, Copy, OutOfSequence, UnknownLink, Late}
use Rattle.receive.specs.Lent.{skew_row_octets, skew_in, rows_in_use, row_found}
use Rattle.receive_answer.specs.Answer.{taken}
use Rattle.receive.specs.Receive.{memory_after, Received, received_of, on_memory, on_row, received}

-- ---- what an answer leaves
pub refused_leaves : (r : List ℕ) (j : ℕ) (f : Arrival) (a : Reception) → taken a ≡ false → memory_after r j f a ≡ r
refused_leaves r j f UnknownLink e = refl
refused_leaves r j f Late e = refl
refused_leaves r j f Delivered e = cc
refused_leaves r j f Copy e = cc
refused_leaves r j f OutOfSequence e = cc

-- ---- the call, by the row found
pub call_at : (rows r : List ℕ) (f : Arrival) (j : ℕ) → row_found rows (length r) f.link ≡ Some j → received rows r f ≡ on_memory (skew_in rows j) r j f
unfolding received
call_at rows r f j e = ap (on_row rows r f) e

pub call_nowhere : (rows r : List ℕ) (f : Arrival) → row_found rows (length r) f.link ≡ None → received rows r f ≡ received_of UnknownLink r
unfolding received
call_nowhere rows r f e = ap (on_row rows r f) e

pub by_row : (rows r : List ℕ) (f : Arrival) (P : Received → Type 0)
    → (row_found rows (length r) f.link ≡ None → P (received_of UnknownLink r))
    → ((j : ℕ) → row_found rows (length r) f.link ≡ Some j → P (on_memory (skew_in rows j) r j f))
    → P (received rows r f)
unfolding received
by_row rows r f P nowhere at = cases (row_found rows (length r) f.link) refl
  where
    cases : (d : Found) → row_found rows (length r) f.link ≡ d → P (on_row rows r f (row_found rows (length r) f.link))
    cases None e = rw e (nowhere e)
    cases (Some j) e = rw e (at j e)

-- the call by the row that the code finds
module _ (rows r : List ℕ) (f : Arrival) (d : Found) (g : d ≡ found_in (table_of skew_row_octets rows) (rows_in_use (length rows) (length r)) f.link) where
  row_is : d ≡ row_found rows (length r) f.link
  unfolding row_found
  row_is = g

  called_by : on_row rows r f d ≡ received rows r f
  unfolding received
  called_by = ap (on_row rows r f) row_is

  pub call_unknown : d ≡ None → received_of UnknownLink r ≡ received rows r f
  call_unknown q = ap (on_row rows r f) (sym q) ∙ called_by

  module _ (j : ℕ) (q : d ≡ Some j) where
    pub row_low : j < rows_in_use (length rows) (length r)
    row_low = (first_found (table_of skew_row_octets rows) _ f.link j (sym g ∙ q)).0

    pub call_answered : (z : Received) → z ≡ on_memory (skew_in rows j) r j f → z ≡ received rows r f
    call_answered z e = e ∙ ap (on_row rows r f) (sym q) ∙ called_by
