-- Laws of rows of accounts and links: the same octets at two offsets, a row read value by value. Assumes nothing.
use Prim.Native.Nat.{ℕ, ◌+◌, ◌-◌, ◌≤◌, min}
use mathlib.Core.List.{List}
use mathlib.Core.Path.{◌≡◌, ap, ◌∙◌}
use native.Mathlib.Nat.{zero-add}
use native.Mathlib.Omega.{arith}
use lib.ListN.{length, get_or, take, drop}
use lib.Seq.{get_or-drop}
use Rattle.std.proofs.lemmas.List.{take_rest}
use Rattle.octets.specs.Runs.{octets_at}
use Rattle.octets.proofs.Parts.{get_d_within, get_d_from, part_octet}
use Rattle.rows.proofs.Rows.{near}
use Rattle.terms.specs.declared.Terms.{Terms}
use Rattle.tables.specs.Rows.{account_octets, link_octets, terms_at, link_at}
use Rattle.tables.specs.Decoded.{ReadByOctets}
use Rattle.tables.specs.Laws.{terms_same, link_same}
use Rattle.tables.specs.declared.Link.{Link}

-- ---- a row read value by value
pub terms_read : (s : List ℕ) (at a k j m : ℕ) → a ≡ (terms_at s at).smax → k ≡ (terms_at s at).k → j ≡ (terms_at s at).jitter → m ≡ (terms_at s at).mode
    → ◌≡◌ {A = Terms} (record { smax = a; k = k; jitter = j; mode = m }) (terms_at s at)
terms_read s at a k j m p q u v = rw (p, q, u, v)

pub link_read : (s : List ℕ) (at n p w i z a : ℕ) → n ≡ (link_at s at).number → p ≡ (link_at s at).port → w ≡ (link_at s at).mask
    → i ≡ (link_at s at).smallest → z ≡ (link_at s at).largest → a ≡ (link_at s at).account
    → ◌≡◌ {A = Link} (record { number = n; port = p; mask = w; smallest = i; largest = z; account = a }) (link_at s at)
link_read s at n p w i z a h1 h2 h3 h4 h5 h6 = rw (h1, h2, h3, h4, h5, h6)

-- ---- a row whose values depend on its w octets alone
module _ {A : Type 0} (w : ℕ) (decoded : List ℕ → ℕ → A) (law : ReadByOctets w decoded) where
  -- read from a part of n octets
  pub read_within : (s : List ℕ) (at n : ℕ) → w ≤ n → decoded (take n (drop at s)) 0 ≡ decoded s at
  read_within s at n h =
      law (take n (drop at s)) s 0 at
      (λ k l. ap (λ (i : ℕ). get_or (take n (drop at s)) i 0) (zero-add k) ∙ get_d_within n at s k (omega arith))

  -- read from all octets after an offset that is cut to the end
  pub read_from : (s : List ℕ) (at start : ℕ) → start ≡ min at (length s) → decoded (take (length s - start) (drop start s)) 0 ≡ decoded s at
  read_from s at start e =
      ap (λ (r : List ℕ). decoded r 0) (take_rest s start)
      ∙ law (drop start s) s 0 at
      (λ k l. get_d_from s at k e (ap (λ (i : ℕ). get_or (drop start s) i 0) (zero-add k) ∙ get_or-drop start s k 0))

-- ---- an account and a link
pub terms_within : (s : List ℕ) (at n : ℕ) → account_octets ≤ n → terms_at (take n (drop at s)) 0 ≡ terms_at s at
terms_within = read_within account_octets terms_at terms_same

pub link_within : (s : List ℕ) (at n : ℕ) → link_octets ≤ n → link_at (take n (drop at s)) 0 ≡ link_at s at
link_within = read_within link_octets link_at link_same

-- ---- the same rows of octets have the same values
pub terms_part : (s t : List ℕ) (a b : ℕ) → octets_at account_octets s a ≡ octets_at account_octets t b → terms_at s a ≡ terms_at t b
terms_part s t a b e = terms_same s t a b (part_octet account_octets s t a b e)

pub link_part : (s t : List ℕ) (a b : ℕ) → octets_at link_octets s a ≡ octets_at link_octets t b → link_at s a ≡ link_at t b
link_part s t a b e = link_same s t a b (part_octet link_octets s t a b e)

-- ---- row i, read from a first offset that is cut to the run's length
module _ (s : List ℕ) (first x at : ℕ) (e : at ≡ min first (length s) + x) where
  pub terms_near : terms_at s at ≡ terms_at s (first + x)
  terms_near = terms_same s s at (first + x) (λ k l. near s first x at e k)

  pub link_near : link_at s at ≡ link_at s (first + x)
  link_near = link_same s s at (first + x) (λ k l. near s first x at e k)
