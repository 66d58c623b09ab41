-- What holds of loading for any octets and any runs whatsoever (document 01, "The configuration image"); proved in
-- proofs/Claims.antt and proofs/Prefix.antt.
use Rattle.std.specs.Prelude.{ℕ, ◌*◌, ◌≤◌, false, ◌≡◌, length, take, drop}
use mathlib.Core.List.{List, [], ◌∷◌, Memᴰ}
use Rattle.tables.specs.Rows.{account_octets, link_octets}
use Rattle.image_layout.specs.Layout.{image_prefix}
use Rattle.image_read.specs.Read.{image_refused, read_image}
use Rattle.image_load.specs.Loading.{loading}
use Rattle.image_fill.specs.Filling.{Runs, long_enough}

-- demand 1: the codes that loading can answer
abbrev pub LoadCodes : Type 0
LoadCodes = (s : List ℕ) (r : Runs) → Memᴰ (loading s r).answer.code (0 ∷ 20 ∷ 21 ∷ 22 ∷ 23 ∷ 24 ∷ 25 ∷ 26 ∷ [])

-- demand 1: a refusal leaves every run as it was, and answers zeros
abbrev pub RefusedLoadKeeps : Type 0
RefusedLoadKeeps =
    (s : List ℕ) (r : Runs) → ((loading s r).answer.code ≡ 0 → ⊥)
    → ((loading s r).runs ≡ r)
    × ((loading s r).answer.settings.constant ≡ 0)
    × ((loading s r).answer.settings.accounts ≡ 0)
    × ((loading s r).answer.settings.links ≡ 0)

-- what reading refuses, loading refuses with the same answer; what reading accepts, loading refuses as 26 where a run
-- is too short
abbrev pub LoadRefuses : Type 0
LoadRefuses =
    (s : List ℕ) (r : Runs)
    → (((read_image s).code ≡ 0 → ⊥) → (loading s r).answer ≡ read_image s)
    × ((read_image s).code ≡ 0
    → long_enough (read_image s).settings.accounts (read_image s).settings.links r ≡ false
    → (loading s r).answer ≡ image_refused 26 (length s))

-- the offset answered never lies past the image; success and 26 answer the image's length
abbrev pub OffsetsInside : Type 0
OffsetsInside =
    (s : List ℕ) (r : Runs)
    → ((loading s r).answer.offset ≤ length s)
    × ((loading s r).answer.code ≡ 0 → (loading s r).answer.offset ≡ length s)
    × ((loading s r).answer.code ≡ 26 → (loading s r).answer.offset ≡ length s)

-- rows beyond those named keep what they had
abbrev pub RowsBeyondKept : Type 0
RowsBeyondKept =
    (s : List ℕ) (r : Runs) → (loading s r).answer.code ≡ 0
    → (drop (account_octets * (loading s r).answer.settings.accounts) (loading s r).runs.accounts
    ≡ drop (account_octets * (loading s r).answer.settings.accounts) r.accounts)
    × (drop (loading s r).answer.settings.accounts (loading s r).runs.credits ≡ drop (loading s r).answer.settings.accounts r.credits)
    × (drop (loading s r).answer.settings.accounts (loading s r).runs.lasts ≡ drop (loading s r).answer.settings.accounts r.lasts)
    × (drop (link_octets * (loading s r).answer.settings.links) (loading s r).runs.links
    ≡ drop (link_octets * (loading s r).answer.settings.links) r.links)

-- an image of any length is loaded by its first octets, into any runs
abbrev pub PrefixLoad : Type 0
PrefixLoad = (s : List ℕ) (r : Runs) → loading (take image_prefix s) r ≡ loading s r
