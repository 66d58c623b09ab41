-- The tables of a history: what they hold of the image, from their start on. Assumes nothing.
use Prim.Native.Nat.{ℕ, ◌*◌, ◌≤◌, ◌<◌}
use mathlib.Core.Bool.{true}
use mathlib.Core.List.{List}
use mathlib.Core.Path.{◌≡◌, refl, sym, ap, ◌∙◌}
use lib.ListN.{length}
use Rattle.terms.specs.Terms.{terms_good, capacity}
use Rattle.terms.specs.declared.Terms.{Terms}
use Rattle.account.specs.Account.{account_of, loaded}
use Rattle.tables.specs.Rows.{Config, account_octets, link_octets, account_table, link_table, account_in, link_in}
use Rattle.tables_rules.specs.Rules.{link_sound, account_good}
use Rattle.tables_rules.proofs.Rules.{sound_account}
use Rattle.image_read.specs.Read.{read_image}
use Rattle.image_fill.specs.Filling.{Runs}
use Rattle.image_load.specs.Fresh.{Fresh, HoldsImage, SoundTables}
use Rattle.image_load.proofs.Fresh.{Long, held_long, fresh_holds, fresh_sound}
use Rattle.switch.specs.Call.{account_held}
use Rattle.demands.specs.History.{config_in, state_in}
use Rattle.demands.specs.Rule.{image_terms, image_link}

-- what a call is lent holds the image's constant field, counts and rows, each within its rules
pub record Tables (s : List ℕ) (g : Config) : Type 0 where
  pub constant : g.constant ≡ (read_image s).settings.constant
  pub account_count : g.count_of_accounts ≡ (read_image s).settings.accounts
  pub link_count : g.count_of_links ≡ (read_image s).settings.links
  pub account_room : account_octets * (read_image s).settings.accounts ≤ length g.accounts
  pub link_room : link_octets * (read_image s).settings.links ≤ length g.links
  pub terms : (i : ℕ) → i < (read_image s).settings.accounts → account_in (account_table g.accounts) i ≡ image_terms s i
  pub link : (j : ℕ) → j < (read_image s).settings.links → link_in (link_table g.links) j ≡ image_link s j
  pub limits : (i : ℕ) → i < (read_image s).settings.accounts → terms_good (image_terms s i) ≡ true
  pub rules : (j : ℕ) → j < (read_image s).settings.links
      → link_sound (image_link s j) (read_image s).settings.accounts (image_terms s (image_link s j).account).smax ≡ true

module _ (s : List ℕ) (r : Runs) (f : Fresh s r) where
  abbrev n : ℕ
  n = (read_image s).settings.accounts

  abbrev m : ℕ
  m = (read_image s).settings.links

  holds : HoldsImage s r n m
  holds = fresh_holds s r f

  sound : SoundTables r n m
  sound = fresh_sound s r f

  pub long : Long n m (length r.accounts) (length r.credits) (length r.lasts) (length r.links)
  long = held_long n m (length r.accounts) (length r.credits) (length r.lasts) (length r.links) holds.long

  limits_of : (i : ℕ) → i < n → terms_good (image_terms s i) ≡ true
  unfolding account_good
  limits_of i h = ap terms_good (sym (holds.accounts i h)) ∙ sound.accounts i h

  -- the row's rules are about its own values and its account's Smax
  rules_of : (j : ℕ) → j < m → link_sound (image_link s j) n (image_terms s (image_link s j).account).smax ≡ true
  rules_of j h =
      let k : link_in (link_table r.links) j ≡ image_link s j = holds.links j h in
      let e : link_sound (image_link s j) n (account_in (account_table r.accounts) (image_link s j).account).smax ≡ true = rw k at (sound.links j h) in
      let u : (image_link s j).account < n = sound_account (image_link s j) n _ e in
      ap (λ (p : Terms). link_sound (image_link s j) n p.smax) (sym (holds.accounts (image_link s j).account u)) ∙ e

  pub tables : Tables s (config_in s r)
  tables =
      record {
        constant = refl;
        account_count = refl;
        link_count = refl;
        account_room = long.accounts_long;
        link_room = long.links_long;
        terms = holds.accounts;
        link = holds.links;
        limits = limits_of;
        rules = rules_of;
      }

  -- each account is as loading leaves it
  pub starts_loaded : (i : ℕ) → i < n → account_held r.accounts (state_in r) i ≡ loaded (image_terms s i)
  unfolding account_held
  starts_loaded i h =
      let e = holds.accounts i h in
      λ k. account_of (e k) ((sound.full i h ∙ ap capacity e) k) (sound.unused i h k)
