-- The table of codes of the frame call, line by line, for any tables, counts, frame, port and time whatsoever (document
-- 01, "Codes, in order of checking"); proved in proofs/Claims.antt.
use Rattle.std.specs.Prelude.{true, not, ◌&&◌, List, [], ◌∷◌, ◌≡◌, length, ltb, eqb}
use Rattle.lists.specs.Lines.{Line, line, first_fit}
use Rattle.frame.specs.Limits.{smallest_frame, largest_frame}
use Rattle.frame.specs.Frame.{constant_field, link_number}
use Rattle.terms.specs.Terms.{cost}
use Rattle.account.specs.Account.{terms_of, account_sound, credit_at}
use Rattle.account.specs.declared.Account.{Account}
use Rattle.tables.specs.Rows.{Config, link_table, link_in, found}
use Rattle.tables_rules.specs.Rules.{link_sound}
use Rattle.rows.specs.Rows.{Found}
use Rattle.std.specs.Prelude.{Some, None}
use Rattle.tables.specs.declared.Link.{Link}
use Rattle.switch.specs.Call.{State, Call, accounts_in_use, account_held, called}

-- ---- the table of codes, line by line: the call's code is that of the first line that fits, 0 where no line fits
-- the lines of a link l and its account a
abbrev pub link_lines : Config → State → Call → Link → Account → List Line
link_lines g s f l a =
    line 10 (not (link_sound l (accounts_in_use g s) a.terms.smax && account_sound a))
    ∷ line 5 (not (eqb f.port l.port))
    ∷ line 6 (ltb (length f.octets) l.smallest)
    ∷ line 7 (ltb l.largest (length f.octets))
    ∷ line 8 (ltb f.time a.last)
    ∷ line 9 (ltb (credit_at a f.time) (cost (terms_of a) (length f.octets)))
    ∷ []

-- the lines by the row found; 4 alone where no row has the number
abbrev pub row_lines : Config → State → Call → Found → List Line
row_lines g s f None = line 4 true ∷ []
row_lines g s f (Some j) = link_lines g s f (link_in (link_table g.links) j) (account_held g.accounts s (link_in (link_table g.links) j).account)

-- the whole table
abbrev pub code_table : Config → State → Call → List Line
code_table g s f =
    line 1 (ltb (length f.octets) smallest_frame)
    ∷ line 2 (ltb largest_frame (length f.octets))
    ∷ line 3 (not (eqb (constant_field f.octets) g.constant))
    ∷ row_lines g s f (found g.links g.count_of_links (link_number f.octets))

abbrev pub CodesInOrder : Type 0
CodesInOrder = (g : Config) (s : State) (f : Call) → (called g s f).says.code ≡ first_fit (code_table g s f)
