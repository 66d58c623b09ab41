-- Numbers spelled one after the other, read again. Assumes nothing.
use Prim.Native.Nat.{ℕ, ◌+◌, ◌^◌, ◌<◌}
use mathlib.Core.List.{List, [], ◌∷◌, ◌++◌, append_assoc}
use mathlib.Core.Path.{◌≡◌, refl, sym, ap, ap₂, ◌∙◌, subst}
use native.Mathlib.Nat.{zero-add}
use native.Mathlib.Omega.{arith}
use lib.ListN.{length, get_or, length-append, get_or-append}
use lib.Seq.{get_or-append-add}
use Rattle.octets.specs.Numbers.{number_at, octets_of}
use Rattle.octets.specs.Spelled.{Part, spelled, Fit}
use Rattle.octets.proofs.Numbers.{length_octets, number_octets_lem, number_one, number_shift}

-- the values of parts are read one after the other from an offset on
abbrev pub Reads : List Part → List ℕ → ℕ → Type 0
Reads [] s at = Unit {0}
Reads (p ∷ ps) s at = (number_at p.octets s at ≡ p.value) × Reads ps s (at + p.octets)

-- a number between other octets
pub number_between : (w x : ℕ) (before rest after : List ℕ) → x < 256 ^ w → number_at w (before ++ (octets_of w x ++ rest) ++ after) (length before) ≡ x
number_between w x before rest after h =
    let xs : List ℕ = octets_of w x in
    let l = length_octets w x in
    let m = length-append xs rest in
    let n = length-append before (xs ++ rest) in
    number_shift w (before ++ (xs ++ rest) ++ after) xs (length before) 0
    (λ k b.
    get_or-append (before ++ (xs ++ rest)) after 0 (length before + k) (omega arith)
    ∙ get_or-append-add before (xs ++ rest) k 0
    ∙ get_or-append xs rest 0 k (omega arith)
    ∙ ap (λ (i : ℕ). get_or xs i 0) (sym (zero-add k)))
    ∙ number_octets_lem w x h

-- parts that are spelled read back, whatever stands before and after them
pub spelled_reads : (ps : List Part) (before after : List ℕ) → Fit ps → Reads ps (before ++ spelled ps ++ after) (length before)
unfolding spelled
spelled_reads [] before after f = tt
spelled_reads (p ∷ ps) before after f =
    let xs : List ℕ = octets_of p.octets p.value in
    let l : length (before ++ xs) ≡ length before + p.octets = length-append before xs ∙ ap (λ (n : ℕ). length before + n) (length_octets p.octets p.value) in
    let s : before ++ xs ++ spelled ps ++ after ≡ before ++ (xs ++ spelled ps) ++ after = ap (λ (r : List ℕ). r ++ after) (append_assoc before xs (spelled ps)) in
    let rest : Reads ps (before ++ xs ++ spelled ps ++ after) (length (before ++ xs)) = spelled_reads ps (before ++ xs) after f.1 in (
      number_between p.octets p.value before (spelled ps) after f.0,
      subst (λ (r : List ℕ). Reads ps r (length before + p.octets)) s (subst (Reads ps (before ++ xs ++ spelled ps ++ after)) l rest),
    )

-- a value read at an offset that is given in another form
pub read_at : (w : ℕ) (s : List ℕ) {a b x : ℕ} → number_at w s a ≡ x → a ≡ b → number_at w s b ≡ x
read_at w s e h = ap (number_at w s) (sym h) ∙ e

-- a value of one octet, read as that octet
pub octet_at : (s : List ℕ) {a b x : ℕ} → number_at 1 s a ≡ x → a ≡ b → get_or s b 0 ≡ x
octet_at s {b = b} e h = sym (number_one s b) ∙ read_at 1 s e h

-- the length of spelled parts
abbrev pub total : List Part → ℕ
total [] = 0
total (p ∷ ps) = p.octets + total ps

pub length_spelled : (ps : List Part) → length (spelled ps) ≡ total ps
unfolding spelled
length_spelled [] = refl
length_spelled (p ∷ ps) = length-append (octets_of p.octets p.value) (spelled ps) ∙ ap₂ ◌+◌ (length_octets p.octets p.value) (length_spelled ps)
