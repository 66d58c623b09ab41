-- Laws of writing an image's octets: a field, fields one after the other, the whole image. Assumes nothing.
use Prim.Native.Nat.{ℕ, ◌+◌, ◌*◌, ◌≤◌, ◌<◌}
use mathlib.Core.List.{List, [], ◌∷◌, ◌++◌}
use mathlib.Core.Path.{◌≡◌, refl, sym, ap, ◌∙◌}
use native.Mathlib.Omega.{arith}
use lib.ListN.{length, set, length-append, length-set}
use Rattle.octets.specs.Numbers.{octets_of}
use Rattle.octets.specs.Runs.{octets_at, joined, put}
use Rattle.octets.proofs.Numbers.{length_octets}
use Rattle.octets.proofs.Parts.{length_part, part_none, length_joined}
use Rattle.octets.proofs.Runs.{put_no_room, put_one, put_after, length_written}
use Rattle.rows.specs.Rows.{table_of, row_octets}
use Rattle.tables.specs.Rows.{Config, account_octets, link_octets}
use Rattle.fields.specs.Fields.{field_of, tag_and_length}
use Rattle.fields.proofs.Fields.{length_field}
use Rattle.image_layout.specs.Layout.{head_tag, account_tag, link_tag, end_tag, edition, image_of, head_octets, head_size, account_size, link_size, field_offset, image_length}

-- ---- one field
pub field_written : (d e f : List ℕ) (at tag size : ℕ) (bytes : List ℕ) → length bytes ≡ size → at + (tag_and_length + size) ≤ length d
    → e ≡ put (set d at tag) (at + 1) (octets_of 2 size) → f ≡ put e (at + tag_and_length) bytes → f ≡ put d at (field_of tag bytes)
unfolding field_of
field_written d e f at tag size bytes l h p q =
    let o : length (octets_of 2 size) ≡ 2 = length_octets 2 size in
    let start : set d at tag ≡ put d at (tag ∷ []) = put_one d at tag (omega arith) in
    let e1 : e ≡ put d at (tag ∷ octets_of 2 size) =
    p ∙ ap (λ (x : List ℕ). put x (at + 1) (octets_of 2 size)) start ∙ put_after d at (tag ∷ []) (octets_of 2 size) (at + 1) refl (omega arith) in
    q ∙ ap (λ (x : List ℕ). put x (at + tag_and_length) bytes) e1
    ∙ put_after d at (tag ∷ octets_of 2 size) bytes (at + tag_and_length) (omega arith) (omega arith)
    ∙ ap (λ (n : ℕ). put d at (tag ∷ octets_of 2 n ++ bytes)) (sym l)

-- the head, whose data are the edition and the constant field
pub length_head : (c : ℕ) → length (edition ∷ octets_of 4 c) ≡ head_octets
length_head c = let o = length_octets 4 c in omega arith

pub head_size_lem : (c : ℕ) → length (field_of head_tag (edition ∷ octets_of 4 c)) ≡ head_size
head_size_lem c = let a = length_field head_tag (edition ∷ octets_of 4 c) in let b = length_head c in omega arith

pub head_written : (d e f : List ℕ) (c : ℕ) → head_size ≤ length d
    → e ≡ put (set d 0 head_tag) 1 (octets_of 2 head_octets) → f ≡ put (set e 3 edition) 4 (octets_of 4 c)
    → f ≡ put d 0 (field_of head_tag (edition ∷ octets_of 4 c))
head_written d e f c h p q =
    let o : length (octets_of 4 c) ≡ 4 = length_octets 4 c in
    let i : length e ≡ length d = length_written (set d 0 head_tag) 1 (octets_of 2 head_octets) e p ∙ length-set d 0 head_tag in
    let r : f ≡ put e 3 (edition ∷ octets_of 4 c) =
    q ∙ ap (λ (x : List ℕ). put x 4 (octets_of 4 c)) (put_one e 3 edition (omega arith)) ∙ put_after e 3 (edition ∷ []) (octets_of 4 c) 4 refl (omega arith) in
    field_written d e f 0 head_tag head_octets (edition ∷ octets_of 4 c) (length_head c) (omega arith) p r

-- ---- fields of rows that touch
abbrev pub row_field : ℕ → ℕ → List ℕ → ℕ → List ℕ
row_field tag size rows i = field_of tag (row_octets size (table_of size rows) i)

pub length_row_field : (tag size : ℕ) (rows : List ℕ) (i : ℕ) → length (row_field tag size rows i) ≡ tag_and_length + size
length_row_field tag size rows i =
    length_field tag (row_octets size (table_of size rows) i) ∙ ap (λ (n : ℕ). tag_and_length + n) (length_part size rows (0 + size * i))

pub length_fields : (tag size : ℕ) (rows : List ℕ) (n : ℕ) → length (joined (row_field tag size rows) n) ≡ (tag_and_length + size) * n
length_fields tag size rows n = length_joined (row_field tag size rows) (tag_and_length + size) (length_row_field tag size rows) n

-- ---- the whole image
pub length_image : (g : Config) → length (image_of g) ≡ image_length g.count_of_accounts g.count_of_links
unfolding image_of field_offset
length_image g =
    let h = head_size_lem g.constant in
    let a = length_fields account_tag account_octets g.accounts g.count_of_accounts in
    let l = length_fields link_tag link_octets g.links g.count_of_links in
    let z = length_field end_tag [] in
    simp length-append (omega arith)

pub image_written : (g : Config) (d e1 e2 e3 e4 : List ℕ) (p1 p2 p3 : ℕ) → image_length g.count_of_accounts g.count_of_links ≤ length d
    → p1 ≡ field_offset 0 0 → p2 ≡ field_offset g.count_of_accounts 0 → p3 ≡ field_offset g.count_of_accounts g.count_of_links
    → e1 ≡ put d 0 (field_of head_tag (edition ∷ octets_of 4 g.constant))
    → e2 ≡ put e1 p1 (joined (row_field account_tag account_octets g.accounts) g.count_of_accounts)
    → e3 ≡ put e2 p2 (joined (row_field link_tag link_octets g.links) g.count_of_links)
    → e4 ≡ put e3 p3 (field_of end_tag (octets_at 0 [] 0))
    → e4 ≡ put d 0 (image_of g)
unfolding image_of field_offset
image_written g d e1 e2 e3 e4 p1 p2 p3 h q1 q2 q3 v1 v2 v3 v4 =
    let head : List ℕ = field_of head_tag (edition ∷ octets_of 4 g.constant) in
    let rows : List ℕ = joined (row_field account_tag account_octets g.accounts) g.count_of_accounts in
    let ls : List ℕ = joined (row_field link_tag link_octets g.links) g.count_of_links in
    let end : List ℕ = field_of end_tag [] in
    let l1 : length head ≡ head_size = head_size_lem g.constant in
    let l2 : length rows ≡ account_size * g.count_of_accounts = length_fields account_tag account_octets g.accounts g.count_of_accounts in
    let l3 : length ls ≡ link_size * g.count_of_links = length_fields link_tag link_octets g.links g.count_of_links in
    let l4 : length end ≡ tag_and_length = length_field end_tag [] in
    let l12 : length (head ++ rows) ≡ length head + length rows = length-append head rows in
    let l123 : length (head ++ rows ++ ls) ≡ length (head ++ rows) + length ls = length-append (head ++ rows) ls in
    let w2 : e2 ≡ put d 0 (head ++ rows) =
    v2 ∙ ap (λ (x : List ℕ). put x p1 rows) v1 ∙ put_after d 0 head rows p1 (omega arith) (omega arith) in
    let w3 : e3 ≡ put d 0 (head ++ rows ++ ls) =
    v3 ∙ ap (λ (x : List ℕ). put x p2 ls) w2 ∙ put_after d 0 (head ++ rows) ls p2 (omega arith) (omega arith) in
    v4 ∙ ap (λ (x : List ℕ). put e3 p3 (field_of end_tag x)) (part_none [] 0)
    ∙ ap (λ (x : List ℕ). put x p3 end) w3
    ∙ put_after d 0 (head ++ rows ++ ls) end p3 (omega arith) (omega arith)

-- a field of `size` octets of data
pub length_sized : (tag size : ℕ) (s : List ℕ) (at : ℕ) → length (field_of tag (octets_at size s at)) ≡ tag_and_length + size
length_sized tag size s at = length_field tag (octets_at size s at) ∙ ap (λ (n : ℕ). tag_and_length + n) (length_part size s at)

-- without room nothing is written
pub head_refused : (d : List ℕ) (c : ℕ) → length d < head_size → d ≡ put d 0 (field_of head_tag (edition ∷ octets_of 4 c))
head_refused d c h = let l = head_size_lem c in sym (put_no_room d 0 _ (omega arith))

pub image_refused : (d : List ℕ) (g : Config) (size : ℕ) → size ≡ image_length g.count_of_accounts g.count_of_links → length d < size → d ≡ put d 0 (image_of g)
image_refused d g size e h = let l = length_image g in sym (put_no_room d 0 _ (omega arith))

-- the room for the head is still there once the head's tag and length are written
pub head_inside : (d e : List ℕ) (tag : ℕ) (xs : List ℕ) → head_size ≤ length d → e ≡ put (set d 0 tag) 1 xs → 3 < length e
head_inside d e tag xs h v =
    let l : length e ≡ length d = length_written (set d 0 tag) 1 xs e v ∙ length-set d 0 tag in
    omega arith
