-- A turn by the octets that are left: those before its offset play no part. Assumes nothing.
use Prim.Native.Nat.{ℕ, zero, suc, ◌+◌, ◌-◌, ◌/◌, ◌≤◌}
use mathlib.Core.Bool.{Bool, false, false≢true}
use mathlib.Core.List.{List, ◌++◌}
use mathlib.Core.Path.{◌≡◌, refl, sym, ap, ap₂, ◌∙◌}
use native.Mathlib.Omega.{arith}
use lib.Dec.{leb}
use lib.ListN.{length, take, drop, take-append-drop, length-drop}
use lib.Seq.{length-take-le, drop-drop}
use Rattle.lists.proofs.Tests.{split}
use Rattle.tables.specs.Rows.{Config}
use Rattle.switch.specs.Call.{State, Call, called}
use Rattle.replay_text.specs.Text.{line_of}
use Rattle.replay_log.specs.Claims.{moved}
use Rattle.replay_log.specs.Records.{next_in}
use Rattle.replay_log.specs.declared.Entry.{Entry}
use Rattle.replay_log.specs.declared.Entry.TheVariants.{Frame, More, Cut, End}
use Rattle.replay_log.proofs.Settled.{next_moved, frame_inside}
use Rattle.replay_answer.specs.Answer.{record_call}
use Rattle.replay_turn.specs.declared.Progress.{Progress}
use Rattle.replay_turn.specs.declared.Stop.{Stop}
use Rattle.replay_turn.specs.declared.Stop.TheVariants.{Octets, Room, Finished, CutOff}
use Rattle.replay_turn.specs.Turn.{Stretch, stopped, with_text, most_frames, stretch_by, stretch, Turned, turn_of, turned}
use Rattle.replay_turn.specs.Text.{Standing, standing_of, Turn, stretch_of, over, printed_by, standing_after, left_by}
use Rattle.octets.specs.Runs.{put}
use Rattle.replay_turn.specs.Joins.{TurnIsCall}
use Rattle.replay_turn.proofs.Log.{call_moved}

abbrev moved_on : ℕ → Stretch → Stretch
moved_on n a = stopped a.text (n + a.at) a.frames a.state a.stop

module _ (g : Config) (b s : List ℕ) (w : Bool) where
  entry_moved : (n at k : ℕ) (t : State)
      → ((at : ℕ) (t : State) → stretch n g (b ++ s) w (length b + at) (suc k) t ≡ moved_on (length b) (stretch n g s w at (suc k) t))
      → (e : Entry)
      → stretch_by (λ next left. stretch n g (b ++ s) w next (suc k) left) g (b ++ s) (length b + at) k t (moved (length b) e)
      ≡ moved_on (length b) (stretch_by (λ next left. stretch n g s w next (suc k) left) g s at k t e)
  entry_moved n at k t on (Frame r) =
      split (leb most_frames k)
      (λ q. simp q)
      (λ q.
      let same : (f : Call) → f ≡ record_call s r
      → with_text (line_of (suc k) (called g t f).says) (stretch n g (b ++ s) w (length b + r.next) (suc k) (called g t f).state)
      ≡ moved_on (length b) (with_text (line_of (suc k) (called g t (record_call s r)).says) (stretch n g s w r.next (suc k) (called g t (record_call s r)).state))
      = λ f c.
      ap (λ (f : Call). with_text (line_of (suc k) (called g t f).says) (stretch n g (b ++ s) w (length b + r.next) (suc k) (called g t f).state)) c
      ∙ ap (with_text (line_of (suc k) (called g t (record_call s r)).says)) (on r.next (called g t (record_call s r)).state) in
      simp q (same _ (call_moved b s r (length b + r.next))))
  entry_moved n at k t on More = refl
  entry_moved n at k t on Cut = refl
  entry_moved n at k t on End = refl

  pub stretch_moved : (n at k : ℕ) (t : State) → stretch n g (b ++ s) w (length b + at) k t ≡ moved_on (length b) (stretch n g s w at k t)
  unfolding stretch
  stretch_moved zero at k t = refl
  stretch_moved (suc n) at k t =
      ap (stretch_by (λ next left. stretch n g (b ++ s) w next (suc k) left) g (b ++ s) (length b + at) k t) (next_moved b s at w)
      ∙ entry_moved n at k t (λ at t. stretch_moved n at (suc k) t) (next_in s at w)

-- a turn stops within the octets at hand
module _ (g : Config) (s : List ℕ) (w : Bool) where
  entry_inside : (after : ℕ → State → Stretch) → ((next : ℕ) (t : State) → next ≤ length s → (after next t).at ≤ length s)
      → (at k : ℕ) (t : State) → at ≤ length s → (e : Entry) → next_in s at w ≡ e → (stretch_by after g s at k t e).at ≤ length s
  entry_inside after on at k t i (Frame r) q =
      let z = on r.next (called g t (record_call s r)).state (frame_inside s at w r q).2 in
      split (leb most_frames k) (λ e. simp e i) (λ e. simp e z)
  entry_inside after on at k t i More q = i
  entry_inside after on at k t i Cut q = i
  entry_inside after on at k t i End q = i

  stretch_inside : (n at k : ℕ) (t : State) → at ≤ length s → (stretch n g s w at k t).at ≤ length s
  unfolding stretch
  stretch_inside zero at k t i = i
  stretch_inside (suc n) at k t i =
      entry_inside (λ next left. stretch n g s w next (suc k) left) (λ next left l. stretch_inside n next (suc k) left l) at k t i
      (next_in s at w) refl

-- a turn by the octets from its offset on
turn_of_rest : (g : Config) (before rest : List ℕ) (w : Bool) (p : Progress) (d : List ℕ) (t : State) → p.at ≡ length before
    → turned g (before ++ rest) w p d t ≡ turn_of d (moved_on (length before) (stretch (length d / 36) g rest w 0 p.frames t))
turn_of_rest g before rest w p d t e =
    let z : p.at ≡ length before + 0 = omega arith in
    ap (λ (at : ℕ). turn_of d (stretch (length d / 36) g (before ++ rest) w at p.frames t)) z
    ∙ ap (turn_of d) (stretch_moved g before rest w (length d / 36) 0 p.frames t)

module _ (g : Config) (s : List ℕ) (x : Standing) (c : Turn) (p : Progress) (d : List ℕ) where
  abbrev a : Stretch
  a = stretch_of g x c

  as_stretch : p.at ≤ length s → drop p.at s ≡ x.hand ++ c.piece → p.frames ≡ x.frames → c.lines ≡ length d / 36
      → turned g s c.whole p d x.state ≡ turn_of d (moved_on p.at a)
  as_stretch i e k n =
      let l : length (take p.at s) ≡ p.at = length-take-le p.at s i in
      ap (λ (xs : List ℕ). turned g xs c.whole p d x.state) (sym (take-append-drop p.at s))
      ∙ turn_of_rest g (take p.at s) (drop p.at s) c.whole p d x.state (sym l)
      ∙ ap₂ (λ (m : ℕ) (b : Stretch). turn_of d (moved_on m b)) l
      (ap₂ (λ (m : ℕ) (xs : List ℕ). stretch m g xs c.whole 0 p.frames x.state) (sym n) e
      ∙ ap (λ (m : ℕ). stretch c.lines g (x.hand ++ c.piece) c.whole 0 m x.state) k)

  same_turn : (v : Stop) → over v ≡ false → (r : Turned) → r ≡ turn_of d (moved_on p.at a) → drop p.at s ≡ x.hand ++ c.piece
      → (r.room ≡ put d 0 (printed_by g x c v)) × (r.progress.written ≡ length (printed_by g x c v))
      × (standing_of (drop r.progress.at s) r.progress.frames r.state r.progress.stop ≡ left_by g x c v)
  same_turn v o r q e = by_stop v o
    where
      left : standing_of (drop r.progress.at s) r.progress.frames r.state r.progress.stop ≡ standing_after (x.hand ++ c.piece) a
      left =
          ap (λ (r : Turned). standing_of (drop r.progress.at s) r.progress.frames r.state r.progress.stop) q
          ∙ ap (λ (xs : List ℕ). standing_of xs a.frames a.state a.stop) (sym (drop-drop a.at p.at s) ∙ ap (drop a.at) e)

      by_stop : (v : Stop) → over v ≡ false
          → (r.room ≡ put d 0 (printed_by g x c v)) × (r.progress.written ≡ length (printed_by g x c v))
          × (standing_of (drop r.progress.at s) r.progress.frames r.state r.progress.stop ≡ left_by g x c v)
      by_stop Finished o = absurd (false≢true (sym o))
      by_stop CutOff o = absurd (false≢true (sym o))
      by_stop Octets o = (ap (λ (r : Turned). r.room) q, ap (λ (r : Turned). r.progress.written) q, left)
      by_stop Room o = (ap (λ (r : Turned). r.room) q, ap (λ (r : Turned). r.progress.written) q, left)

pub turn_is_call : TurnIsCall
turn_is_call g s x c p d o i e k n =
    let q : turned g s c.whole p d x.state ≡ turn_of d (moved_on p.at (stretch_of g x c)) = as_stretch g s x c p d i e k n in
    let z = same_turn g s x c p d x.stop o _ q e in
    let y : (turned g s c.whole p d x.state).progress.at ≡ p.at + (stretch_of g x c).at = ap (λ (r : Turned). r.progress.at) q in
    let a : (stretch_of g x c).at ≤ length (x.hand ++ c.piece)
    = stretch_inside g (x.hand ++ c.piece) c.whole c.lines 0 x.frames x.state (omega arith) in
    let b : length (x.hand ++ c.piece) ≡ length s - p.at = sym (ap length e) ∙ length-drop p.at s in
    record { text = z.0; written = z.1; inside = omega arith; left = z.2 }
