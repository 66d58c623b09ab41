-- A replay ends: each turn after the log's end leaves fewer octets at hand, or it is the last. Assumes nothing.
use Prim.Native.Nat.{ℕ, zero, suc, ◌+◌, ◌≤◌, ◌<◌}
use mathlib.Core.Bool.{Bool, true, false≢true}
use mathlib.Core.List.{List, [], ◌∷◌, ◌++◌, append-nil, flat_map, Memᴰ}
use mathlib.Core.Logic.{◌⊎◌, ⊎_elim, inl, inr}
use mathlib.Core.Path.{◌≡◌, refl, sym, ap, ◌∙◌, subst}
use native.Mathlib.Omega.{arith}
use lib.Dec.{leb}
use lib.ListN.{length, drop, length-append, length-drop}
use Rattle.lists.specs.History.{final}
use Rattle.lists.proofs.History.{final_append}
use Rattle.lists.proofs.Tests.{split}
use Rattle.tables.specs.Rows.{Config}
use Rattle.switch.specs.Call.{State, called}
use Rattle.replay_log.specs.Records.{frame_start, next_in}
use Rattle.replay_log.specs.declared.Entry.{Entry}
use Rattle.replay_log.specs.declared.Entry.TheVariants.{Frame, More, Cut, End}
use Rattle.replay_log.proofs.Settled.{frame_inside, never_open}
use Rattle.replay_answer.specs.Answer.{record_call}
use Rattle.replay_turn.specs.declared.Stop.{Stop}
use Rattle.replay_turn.specs.declared.Stop.TheVariants.{Octets, Room, Finished, CutOff}
use Rattle.replay_turn.specs.Turn.{Stretch, most_frames, stretch_by, stretch}
use Rattle.replay_turn.specs.Text.{Standing, start, Turn, stretch_of, left_by, over, replaying, read_by}
use Rattle.replay_turn.specs.Joins.{ReplayEnds}

module _ (g : Config) where
  -- a stretch never goes back
  module _ (s : List ℕ) (w : Bool) where
    entry_on : (after : ℕ → State → Stretch) → ((next : ℕ) (t : State) → next ≤ (after next t).at)
        → (at k : ℕ) (t : State) (e : Entry) → next_in s at w ≡ e → at ≤ (stretch_by after g s at k t e).at
    entry_on after on at k t (Frame r) q =
        let i = frame_inside s at w r q in
        let a : r.start ≡ at + frame_start = i.0 in
        let b : r.next ≡ r.start + r.size = i.1 in
        let z = on r.next (called g t (record_call s r)).state in
        split (leb most_frames k) (λ e. simp e (omega arith)) (λ e. simp e (omega arith))
    entry_on after on at k t More q = omega arith
    entry_on after on at k t Cut q = omega arith
    entry_on after on at k t End q = omega arith

    stretch_on : (n at k : ℕ) (t : State) → at ≤ (stretch n g s w at k t).at
    unfolding stretch
    stretch_on zero at k t = omega arith
    stretch_on (suc n) at k t =
        entry_on (λ next left. stretch n g s w next (suc k) left) (λ next left. stretch_on n next (suc k) left) at k t (next_in s at w) refl

  -- the first entry of the octets at hand, where no more follow: it ends the replay, or fewer are left
  abbrev Fewer : List ℕ → Stretch → Type 0
  Fewer s a = (over a.stop ≡ true) ⊎ (length (drop a.at s) < length s)

  entry_ends : (s : List ℕ) (after : ℕ → State → Stretch) → ((next : ℕ) (t : State) → next ≤ (after next t).at)
      → (k : ℕ) (t : State) (e : Entry) → next_in s 0 true ≡ e → Fewer s (stretch_by after g s 0 k t e)
  entry_ends s after on k t (Frame r) q =
      let i = frame_inside s 0 true r q in
      let a : r.start ≡ 0 + frame_start = i.0 in
      let b : r.next ≡ r.start + r.size = i.1 in
      let c : r.next ≤ length s = i.2 in
      let z = on r.next (called g t (record_call s r)).state in
      let d = length-drop (after r.next (called g t (record_call s r)).state).at s in
      split (leb most_frames k) (λ e. simp e (inl refl)) (λ e. simp e (inr (omega arith)))
  entry_ends s after on k t More q = absurd (never_open s 0 q)
  entry_ends s after on k t Cut q = inl refl
  entry_ends s after on k t End q = inl refl

  stretch_ends : (n k : ℕ) (s : List ℕ) (t : State) → 0 < n → Fewer s (stretch n g s true 0 k t)
  unfolding stretch
  stretch_ends zero k s t h = absurd (omega arith)
  stretch_ends (suc n) k s t h =
      entry_ends s (λ next left. stretch n g s true next (suc k) left) (λ next left. stretch_on s true n next (suc k) left) k t (next_in s 0 true) refl

  -- ---- one turn
  abbrev Less : Standing → Standing → Type 0
  Less s z = (over z.stop ≡ true) ⊎ (length z.hand < length s.hand)

  turn_ends : (s : Standing) (c : Turn) → (c.piece ≡ []) × (c.whole ≡ true) × (0 < c.lines) → (v : Stop) → s.stop ≡ v → Less s (left_by g s c v)
  turn_ends s c e v q =
      let a : s.hand ++ c.piece ≡ s.hand = ap (λ (xs : List ℕ). s.hand ++ xs) e.0 ∙ append-nil s.hand in
      let f : Fewer (s.hand ++ c.piece) (stretch_of g s c) =
      subst (λ (w : Bool). Fewer (s.hand ++ c.piece) (stretch c.lines g (s.hand ++ c.piece) w 0 s.frames s.state)) (sym e.1)
      (stretch_ends c.lines s.frames (s.hand ++ c.piece) s.state e.2) in
      let m : length (s.hand ++ c.piece) ≡ length s.hand = ap length a in
      by_stop f m v q
    where
      by_stop : Fewer (s.hand ++ c.piece) (stretch_of g s c) → length (s.hand ++ c.piece) ≡ length s.hand → (v : Stop) → s.stop ≡ v
          → Less s (left_by g s c v)
      by_stop f m Finished q = inl (ap over q)
      by_stop f m CutOff q = inl (ap over q)
      by_stop f m Octets q = ⊎_elim (λ x. inl x) (λ x. inr (omega arith)) f
      by_stop f m Room q = ⊎_elim (λ x. inl x) (λ x. inr (omega arith)) f

  stays_over : (s : Standing) (c : Turn) (v : Stop) → s.stop ≡ v → over s.stop ≡ true → over (left_by g s c v).stop ≡ true
  stays_over s c Finished q e = e
  stays_over s c CutOff q e = e
  stays_over s c Octets q e = absurd (false≢true (ap over (sym q) ∙ e))
  stays_over s c Room q e = absurd (false≢true (ap over (sym q) ∙ e))

  -- ---- turns after the log's end
  all_over : (ds : List Turn) (s : Standing) → over s.stop ≡ true → over (final (replaying g) s ds).stop ≡ true
  unfolding final
  all_over [] s e = e
  all_over (d ∷ ds) s e = all_over ds ((replaying g).leaves s d) (stays_over s d s.stop refl e)

  all_end : (ds : List Turn) (s : Standing) → ((c : Turn) → Memᴰ c ds → (c.piece ≡ []) × (c.whole ≡ true) × (0 < c.lines))
      → length s.hand < length ds → over (final (replaying g) s ds).stop ≡ true
  unfolding final
  all_end [] s h l = absurd (omega arith)
  all_end (d ∷ ds) s h l =
      ⊎_elim (λ e. all_over ds ((replaying g).leaves s d) e)
      (λ e. all_end ds ((replaying g).leaves s d) (λ c i. h c (Memᴰ.tail i)) (omega arith))
      (turn_ends s d (h d (Memᴰ.head refl)) s.stop refl)

  -- ---- turns before it: no more is at hand than was read
  no_more : (s : Standing) (c : Turn) (v : Stop) → length (left_by g s c v).hand ≤ length s.hand + length c.piece
  no_more s c Finished = omega arith
  no_more s c CutOff = omega arith
  no_more s c Octets =
      let a = length-append s.hand c.piece in
      let d = length-drop (stretch_of g s c).at (s.hand ++ c.piece) in
      omega arith
  no_more s c Room =
      let a = length-append s.hand c.piece in
      let d = length-drop (stretch_of g s c).at (s.hand ++ c.piece) in
      omega arith

  at_hand : (cs : List Turn) (s : Standing) → length (final (replaying g) s cs).hand ≤ length s.hand + length (read_by cs)
  unfolding final flat_map
  at_hand [] s = omega arith
  at_hand (c ∷ cs) s =
      let a = at_hand cs ((replaying g).leaves s c) in
      let b = no_more s c s.stop in
      let l = length-append c.piece (read_by cs) in
      omega arith

pub replay_ends : ReplayEnds
replay_ends g t cs ds h l =
    let a = at_hand g cs (start t) in
    ap (λ (x : Standing). over x.stop) (final_append (replaying g) cs ds (start t))
    ∙ all_end g ds (final (replaying g) (start t) cs) h (omega arith)
