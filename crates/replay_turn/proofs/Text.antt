-- A replay, turn after turn: what is printed and what is left to print are together the text of the log. Assumes nothing.
use Prim.Native.Nat.{ℕ, zero, suc, ◌+◌, ◌-◌, ◌^◌, ◌≤◌, ◌<◌}
use mathlib.Core.Bool.{Bool, true, false, false≢true}
use mathlib.Core.List.{List, [], ◌∷◌, ◌++◌, append_assoc, append-nil, flat_map, flatten, Memᴰ}
use mathlib.Core.Path.{◌≡◌, refl, sym, ap, ◌∙◌, subst}
use native.Mathlib.Omega.{arith}
use lib.Dec.{leb}
use lib.ListN.{length, get_or, drop, length-append, length-drop}
use borrow.Author.Tests.{lt-leb, leb-true, leb-false}
use Rattle.std.specs.Prelude.{if◌then◌else◌}
use Rattle.lists.specs.History.{answers, final}
use Rattle.lists.proofs.History.{answers_append, final_append}
use Rattle.lists.proofs.Tests.{split}
use Rattle.tables.specs.Rows.{Config}
use Rattle.switch.specs.Call.{State, Call, called}
use Rattle.switch.specs.History.{call_answers}
use Rattle.replay_text.specs.Text.{line_of, cut_line}
use Rattle.replay_log.specs.Records.{frame_start, longest_record, next_in}
use Rattle.replay_log.specs.declared.FrameRecord.{FrameRecord}
use Rattle.replay_log.specs.declared.Entry.{Entry}
use Rattle.replay_log.specs.declared.Entry.TheVariants.{Frame, More, Cut, End}
use Rattle.replay_log.proofs.Settled.{frame_inside, never_more, never_open}
use Rattle.replay_answer.specs.Answer.{record_call}
use Rattle.replay_turn.specs.declared.Stop.{Stop}
use Rattle.replay_turn.specs.declared.Stop.TheVariants.{Octets, Room, Finished, CutOff}
use Rattle.replay_turn.specs.Log.{Logged, logged_of, with_call, logged_by, logged_from}
use Rattle.replay_turn.specs.Turn.{Stretch, stopped, with_text, most_frames, stretch_by, stretch}
use Rattle.replay_turn.specs.Text.{lines_from, text_after, Standing, start, Turn, stretch_of, printed_by, standing_after, left_by, over, replaying, read_by}
use Rattle.replay_turn.specs.Claims.{TextOfPieces, TurnsMoveOn}
use Rattle.replay_turn.proofs.Log.{logged_next, logged_dropped, entry_settled, call_settled}

-- ---- the text from a frame on is its line and the text after it
text_frame : (g : Config) (t : State) (k : ℕ) (f : Call) (l : Logged)
    → text_after g t k (with_call f l) ≡ line_of (suc k) (called g t f).says ++ text_after g (called g t f).state (suc k) l
unfolding lines_from answers
text_frame g t k f l =
    append_assoc (line_of (suc k) (called g t f).says) (lines_from (suc (suc k)) (call_answers g (called g t f).state l.calls))
    (if l.cut then cut_line else [])

text_none : (g : Config) (t : State) (k : ℕ) (cut : Bool) → text_after g t k (logged_of [] cut) ≡ (if cut then cut_line else [])
unfolding lines_from answers
text_none g t k cut = refl

-- ---- a stretch of the octets at hand, and the octets u that follow them
module _ (g : Config) (s u : List ℕ) (w : Bool) (only : w ≡ true → u ≡ []) where
  abbrev whole_log : List ℕ
  whole_log = s ++ u

  -- what is left to print
  abbrev left : Stop → Stretch → List ℕ
  left Finished a = []
  left CutOff a = []
  left Octets a = text_after g a.state a.frames (logged_from whole_log a.at)
  left Room a = text_after g a.state a.frames (logged_from whole_log a.at)

  -- and whether that ends with `cut`
  abbrev left_cut : Stop → Stretch → Bool
  left_cut Finished a = false
  left_cut CutOff a = true
  left_cut Octets a = (logged_from whole_log a.at).cut
  left_cut Room a = (logged_from whole_log a.at).cut

  pub record Goes (x : List ℕ) (b : Bool) (a : Stretch) : Type 0 where
    pub text : x ≡ a.text ++ left a.stop a
    pub cut : b ≡ left_cut a.stop a
    pub inside : a.at ≤ length s
    pub few : a.frames + length whole_log < 2 ^ 64 + a.at

  with_text_lem : (line x : List ℕ) (b : Bool) (a : Stretch) → Goes x b a → Goes (line ++ x) b (with_text line a)
  with_text_lem line x b a q =
      record {
        text = ap (λ (xs : List ℕ). line ++ xs) q.text ∙ again a.stop;
        cut = q.cut ∙ same_cut a.stop;
        inside = q.inside;
        few = q.few;
      }
    where
      again : (v : Stop) → line ++ (a.text ++ left v a) ≡ line ++ a.text ++ left v (with_text line a)
      again Finished = sym (append_assoc line a.text [])
      again CutOff = sym (append_assoc line a.text [])
      again Octets = sym (append_assoc line a.text (left Octets a))
      again Room = sym (append_assoc line a.text (left Room a))

      same_cut : (v : Stop) → left_cut v a ≡ left_cut v (with_text line a)
      same_cut Finished = refl
      same_cut CutOff = refl
      same_cut Octets = refl
      same_cut Room = refl

  -- the log by what stands at hand
  logged_by_lem : (at : ℕ) (e : Entry) → next_in s at w ≡ e → (e ≡ More → ⊥) → logged_from whole_log at ≡ logged_by (logged_from whole_log) whole_log e
  logged_by_lem at e q n =
      logged_next whole_log at
      ∙ ap (logged_by (logged_from whole_log) whole_log) (entry_settled s u at w only (λ m. n (sym q ∙ m)) ∙ q)

  -- one record more than `after` has
  module _ (after : ℕ → State → Stretch) (at k : ℕ) (t : State) (i : at ≤ length s) (f : k + length whole_log < 2 ^ 64 + at)
      (on : (next : ℕ) (state : State) → next ≤ length s → suc k + length whole_log < 2 ^ 64 + next
      → Goes (text_after g state (suc k) (logged_from whole_log next)) (logged_from whole_log next).cut (after next state)) where
    abbrev before : List ℕ
    before = text_after g t k (logged_from whole_log at)

    frame_log : (r : FrameRecord) → next_in s at w ≡ Frame r → logged_from whole_log at ≡ with_call (record_call s r) (logged_from whole_log r.next)
    frame_log r e =
        logged_by_lem at (Frame r) e (λ m. let y : ◌≡◌ {A = ℕ} 0 1 = cc in omega arith)
        ∙ ap (λ (d : Call). with_call d (logged_from whole_log r.next)) (call_settled s u at w r e)

    frame_text : (r : FrameRecord) → next_in s at w ≡ Frame r
        → before
        ≡ line_of (suc k) (called g t (record_call s r)).says
        ++ text_after g (called g t (record_call s r)).state (suc k) (logged_from whole_log r.next)
    frame_text r e =
        ap (text_after g t k) (frame_log r e)
        ∙ text_frame g t k (record_call s r) (logged_from whole_log r.next)

    by_entry : (e : Entry) → next_in s at w ≡ e → Goes before (logged_from whole_log at).cut (stretch_by after g s at k t e)
    by_entry (Frame r) e =
        let p = frame_inside s at w r e in
        let a : r.start ≡ at + frame_start = p.0 in
        let b : r.next ≡ r.start + r.size = p.1 in
        let c : r.next ≤ length s = p.2 in
        let l : length whole_log ≡ length s + length u = length-append s u in
        let z : leb most_frames k ≡ false = lt-leb most_frames k (omega arith) in
        let h : Call = record_call s r in
        let line : List ℕ = line_of (suc k) (called g t h).says in
        let q = with_text_lem line _ _ _ (on r.next (called g t h).state c (omega arith)) in
        simp z
        (record { text = frame_text r e ∙ q.text; cut = ap (λ (l : Logged). l.cut) (frame_log r e) ∙ q.cut; inside = q.inside; few = q.few })
    by_entry Cut e =
        record {
          text = ap (text_after g t k) (logged_by_lem at Cut e (λ m. let y : ◌≡◌ {A = ℕ} 0 1 = cc in omega arith)) ∙ text_none g t k true ∙ sym (append-nil cut_line);
          cut = ap (λ (l : Logged). l.cut) (logged_by_lem at Cut e (λ m. let y : ◌≡◌ {A = ℕ} 0 1 = cc in omega arith));
          inside = i;
          few = f;
        }
    by_entry More e = record { text = refl; cut = refl; inside = i; few = f }
    by_entry End e =
        record {
          text = ap (text_after g t k) (logged_by_lem at End e (λ m. let y : ◌≡◌ {A = ℕ} 0 1 = cc in omega arith)) ∙ text_none g t k false;
          cut = ap (λ (l : Logged). l.cut) (logged_by_lem at End e (λ m. let y : ◌≡◌ {A = ℕ} 0 1 = cc in omega arith));
          inside = i;
          few = f;
        }

  pub goes : (n at k : ℕ) (t : State) → at ≤ length s → k + length whole_log < 2 ^ 64 + at
      → Goes (text_after g t k (logged_from whole_log at)) (logged_from whole_log at).cut (stretch n g s w at k t)
  unfolding stretch
  goes zero at k t i f = record { text = refl; cut = refl; inside = i; few = f }
  goes (suc n) at k t i f =
      by_entry (λ next state. stretch n g s w next (suc k) state) at k t i f
      (λ next state i f. goes n next (suc k) state i f) (next_in s at w) refl

-- ---- a replay between turns, and the octets u that are still to be read
module _ (g : Config) where
  abbrev to_come : Stop → Standing → List ℕ → List ℕ
  to_come Finished s u = []
  to_come CutOff s u = []
  to_come Octets s u = text_after g s.state s.frames (logged_from (s.hand ++ u) 0)
  to_come Room s u = text_after g s.state s.frames (logged_from (s.hand ++ u) 0)

  abbrev cut_to_come : Stop → Standing → List ℕ → Bool
  cut_to_come Finished s u = false
  cut_to_come CutOff s u = true
  cut_to_come Octets s u = (logged_from (s.hand ++ u) 0).cut
  cut_to_come Room s u = (logged_from (s.hand ++ u) 0).cut

  abbrev cut_after : Standing → List ℕ → Bool
  cut_after s u = cut_to_come s.stop s u

  abbrev left_after : Standing → List ℕ → List ℕ
  left_after s u = to_come s.stop s u

  abbrev Few : Standing → List ℕ → Type 0
  Few s u = s.frames + length (s.hand ++ u) < 2 ^ 64

  pub record Turns (s : Standing) (c : Turn) (u : List ℕ) (says : List ℕ) (left : Standing) : Type 0 where
    pub text : left_after s (c.piece ++ u) ≡ says ++ left_after left u
    pub cut : cut_after s (c.piece ++ u) ≡ cut_after left u
    pub few : Few left u

  module _ (s : Standing) (c : Turn) (u : List ℕ) (only : c.whole ≡ true → u ≡ []) (few : Few s (c.piece ++ u)) where
    abbrev hand : List ℕ
    hand = s.hand ++ c.piece

    same_log : s.hand ++ (c.piece ++ u) ≡ hand ++ u
    same_log = sym (append_assoc s.hand c.piece u)

    abbrev a : Stretch
    a = stretch_of g s c

    went : Goes g hand u c.whole only (text_after g s.state s.frames (logged_from (hand ++ u) 0)) (logged_from (hand ++ u) 0).cut a
    went =
        let l : s.frames + length (hand ++ u) < 2 ^ 64 + 0 = subst (λ (xs : List ℕ). s.frames + length xs < 2 ^ 64 + 0) same_log few in
        goes g hand u c.whole only c.lines 0 s.frames s.state (omega arith) l

    rest_is : logged_from (drop a.at hand ++ u) 0 ≡ logged_from (hand ++ u) a.at
    rest_is = logged_dropped hand u a.at went.inside

    few_left : Few (standing_after hand a) u
    few_left =
        let d : length (drop a.at hand) ≡ length hand - a.at = length-drop a.at hand in
        let x : length (drop a.at hand ++ u) ≡ length (drop a.at hand) + length u = length-append (drop a.at hand) u in
        let y : length (hand ++ u) ≡ length hand + length u = length-append hand u in
        let i : a.at ≤ length hand = went.inside in
        let k : a.frames + length (hand ++ u) < 2 ^ 64 + a.at = went.few in
        omega arith

    left_same : (v : Stop) → left g hand u c.whole only v a ≡ to_come v (standing_after hand a) u
    left_same Finished = refl
    left_same CutOff = refl
    left_same Octets = ap (text_after g a.state a.frames) (sym rest_is)
    left_same Room = ap (text_after g a.state a.frames) (sym rest_is)

    cut_same : (v : Stop) → left_cut g hand u c.whole only v a ≡ cut_to_come v (standing_after hand a) u
    cut_same Finished = refl
    cut_same CutOff = refl
    cut_same Octets = ap (λ (l : Logged). l.cut) (sym rest_is)
    cut_same Room = ap (λ (l : Logged). l.cut) (sym rest_is)

    cutting : (logged_from (s.hand ++ (c.piece ++ u)) 0).cut ≡ cut_after (standing_after hand a) u
    cutting = ap (λ (xs : List ℕ). (logged_from xs 0).cut) same_log ∙ went.cut ∙ cut_same a.stop

    playing : text_after g s.state s.frames (logged_from (s.hand ++ (c.piece ++ u)) 0) ≡ a.text ++ left_after (standing_after hand a) u
    playing =
        ap (λ (xs : List ℕ). text_after g s.state s.frames (logged_from xs 0)) same_log
        ∙ went.text ∙ ap (λ (xs : List ℕ). a.text ++ xs) (left_same a.stop)

    still : Few s u
    still =
        let l : length (s.hand ++ (c.piece ++ u)) ≡ length s.hand + length (c.piece ++ u) = length-append s.hand (c.piece ++ u) in
        let m : length (c.piece ++ u) ≡ length c.piece + length u = length-append c.piece u in
        let n : length (s.hand ++ u) ≡ length s.hand + length u = length-append s.hand u in
        omega arith

    -- a replay that is over stays as it is
    stays : (v : Stop) → s.stop ≡ v → to_come v s (c.piece ++ u) ≡ to_come v s u → cut_to_come v s (c.piece ++ u) ≡ cut_to_come v s u
        → Turns s c u [] s
    stays v e p q =
        record {
          text = ap (λ (x : Stop). to_come x s (c.piece ++ u)) e ∙ p ∙ ap (λ (x : Stop). to_come x s u) (sym e);
          cut = ap (λ (x : Stop). cut_to_come x s (c.piece ++ u)) e ∙ q ∙ ap (λ (x : Stop). cut_to_come x s u) (sym e);
          few = still;
        }

    by_stop : (v : Stop) → s.stop ≡ v → Turns s c u (printed_by g s c v) (left_by g s c v)
    by_stop Finished e = stays Finished e refl refl
    by_stop CutOff e = stays CutOff e refl refl
    by_stop Octets e =
        record {
          text = ap (λ (v : Stop). to_come v s (c.piece ++ u)) e ∙ playing;
          cut = ap (λ (v : Stop). cut_to_come v s (c.piece ++ u)) e ∙ cutting;
          few = few_left;
        }
    by_stop Room e =
        record {
          text = ap (λ (v : Stop). to_come v s (c.piece ++ u)) e ∙ playing;
          cut = ap (λ (v : Stop). cut_to_come v s (c.piece ++ u)) e ∙ cutting;
          few = few_left;
        }

    pub one_turn : Turns s c u ((replaying g).says s c) ((replaying g).leaves s c)
    one_turn = by_stop s.stop refl

  -- ---- a list of turns
  abbrev says_all : Standing → List Turn → List ℕ
  says_all s cs = flatten (answers (replaying g) s cs)

  nil_right : (xs ys : List ℕ) → xs ++ ys ≡ [] → ys ≡ []
  nil_right [] ys e = e
  nil_right (x ∷ xs) ys e = let z : ◌≡◌ {A = ℕ} (length (x ∷ (xs ++ ys))) 0 = ap length e in absurd (omega arith)

  -- what is printed by a list of turns, and what is left to print after it
  pub record AllTurns (s left : Standing) (read u says : List ℕ) : Type 0 where
    pub text : left_after s (read ++ u) ≡ says ++ left_after left u
    pub cut : cut_after s (read ++ u) ≡ cut_after left u
    pub few : Few left u

  pub all_turns : (cs : List Turn) (s : Standing) (u : List ℕ) → ((c : Turn) → Memᴰ c cs → c.whole ≡ true → read_by cs ++ u ≡ [])
      → Few s (read_by cs ++ u) → AllTurns s (final (replaying g) s cs) (read_by cs) u (says_all s cs)
  unfolding flat_map flatten answers final
  all_turns [] s u h k = record { text = refl; cut = refl; few = k }
  all_turns (c ∷ cs) s u h k =
      let e : c.piece ++ read_by cs ++ u ≡ c.piece ++ (read_by cs ++ u) = append_assoc c.piece (read_by cs) u in
      let quiet : (d : Turn) → Memᴰ d (c ∷ cs) → d.whole ≡ true → read_by cs ++ u ≡ [] =
      λ d i w. nil_right c.piece (read_by cs ++ u) (sym e ∙ h d i w) in
      let one = one_turn s c (read_by cs ++ u) (quiet c (Memᴰ.head refl)) (subst (Few s) e k) in
      let next : Standing = (replaying g).leaves s c in
      let z = all_turns cs next u (λ d i w. quiet d (Memᴰ.tail i) w) one.few in
      record {
        text =
            ap (left_after s) e ∙ one.text ∙ ap (λ (xs : List ℕ). (replaying g).says s c ++ xs) z.text
            ∙ sym (append_assoc ((replaying g).says s c) (says_all next cs) (left_after (final (replaying g) next cs) u));
        cut = ap (cut_after s) e ∙ one.cut ∙ z.cut;
        few = z.few;
      }

flatten_append : (xss yss : List (List ℕ)) → flatten (xss ++ yss) ≡ flatten xss ++ flatten yss
unfolding flatten
flatten_append [] yss = refl
flatten_append (xs ∷ xss) yss =
    ap (λ (zs : List ℕ). xs ++ zs) (flatten_append xss yss) ∙ sym (append_assoc xs (flatten xss) (flatten yss))

nothing_read : (ds : List Turn) → ((c : Turn) → Memᴰ c ds → (c.piece ≡ []) × (c.whole ≡ true)) → read_by ds ≡ []
unfolding flat_map
nothing_read [] h = refl
nothing_read (c ∷ ds) h =
    ap (λ (xs : List ℕ). xs ++ read_by ds) (h c (Memᴰ.head refl)).0 ∙ nothing_read ds (λ d i. h d (Memᴰ.tail i))

-- a replay that is over has nothing left to print
over_text : (g : Config) (s : Standing) (v : Stop) → over v ≡ true → to_come g v s [] ≡ []
over_text g s Octets e = absurd (false≢true e)
over_text g s Room e = absurd (false≢true e)
over_text g s Finished e = refl
over_text g s CutOff e = refl

over_stop : (g : Config) (s : Standing) (v : Stop) → over v ≡ true → v ≡ (if cut_to_come g v s [] then CutOff else Finished)
over_stop g s Octets e = absurd (false≢true e)
over_stop g s Room e = absurd (false≢true e)
over_stop g s Finished e = refl
over_stop g s CutOff e = refl

pub text_of_pieces : TextOfPieces
text_of_pieces g t cs ds reading ended small e =
    let s : Standing = final (replaying g) (start t) cs in
    let z : Standing = final (replaying g) s ds in
    let r : read_by ds ++ [] ≡ [] = append-nil (read_by ds) ∙ nothing_read ds ended in
    let first = all_turns g cs (start t) [] (λ c i w. absurd (false≢true (sym (reading c i) ∙ w)))
    (subst (λ (xs : List ℕ). 0 + length xs < 2 ^ 64) (sym (append-nil (read_by cs))) (omega arith)) in
    let second = all_turns g ds s [] (λ c i w. r) (subst (λ (xs : List ℕ). s.frames + length (s.hand ++ xs) < 2 ^ 64) (sym r) first.few) in
    let same : final (replaying g) (start t) (cs ++ ds) ≡ z = final_append (replaying g) cs ds (start t) in
    let ends : over z.stop ≡ true = ap (λ (x : Standing). over x.stop) (sym same) ∙ e in
    let whole : read_by cs ++ [] ≡ read_by cs = append-nil (read_by cs) in
    record {
      text_is =
          ap flatten (answers_append (replaying g) cs ds (start t))
          ∙ flatten_append (answers (replaying g) (start t) cs) (answers (replaying g) s ds)
          ∙ ap (λ (xs : List ℕ). says_all g (start t) cs ++ xs)
          (sym (append-nil (says_all g s ds)) ∙ ap (λ (xs : List ℕ). says_all g s ds ++ xs) (sym (over_text g z z.stop ends))
          ∙ sym second.text ∙ ap (left_after g s) r)
          ∙ sym first.text
          ∙ ap (λ (xs : List ℕ). text_after g t 0 (logged_from xs 0)) whole;
      stop_is =
          ap (λ (x : Standing). x.stop) same
          ∙ over_stop g z z.stop ends
          ∙ ap (λ (b : Bool). if b then CutOff else Finished)
          (sym second.cut ∙ ap (cut_after g s) r ∙ sym first.cut ∙ ap (λ (xs : List ℕ). (logged_from xs 0).cut) whole);
    }

-- ---- a turn moves on
module _ (g : Config) (s : List ℕ) (w : Bool) (o : (i : ℕ) → get_or s i 0 < 256) where
  abbrev Moves : ℕ → ℕ → Stretch → Type 0
  Moves n k a = (a.stop ≡ Room → a.frames ≡ k + n) × (a.stop ≡ Octets → (w ≡ false) × (length s < a.at + longest_record))

  moves_over : (n k : ℕ) (text : List ℕ) (at : ℕ) (t : State) (v : Stop) → over v ≡ true → Moves n k (stopped text at k t v)
  moves_over n k text at t Octets e = absurd (false≢true e)
  moves_over n k text at t Room e = absurd (false≢true e)
  moves_over n k text at t Finished e = (
    (λ e. let y : ◌≡◌ {A = ℕ} 0 1 = cc in absurd (omega arith)),
    (λ e. let y : ◌≡◌ {A = ℕ} 0 1 = cc in absurd (omega arith)),
  )
  moves_over n k text at t CutOff e = (
    (λ e. let y : ◌≡◌ {A = ℕ} 0 1 = cc in absurd (omega arith)),
    (λ e. let y : ◌≡◌ {A = ℕ} 0 1 = cc in absurd (omega arith)),
  )

  -- more octets are asked for only of a log that may have more
  wants_more : (at : ℕ) → next_in s at w ≡ More → (w ≡ false) × (length s < at + longest_record)
  wants_more at e = by_whole w refl
    where
      by_whole : (v : Bool) → w ≡ v → (w ≡ false) × (length s < at + longest_record)
      by_whole true q = absurd (never_open s at (ap (next_in s at) (sym q) ∙ e))
      by_whole false q = (
        q,
        split (leb (at + longest_record) (length s))
            (λ b. absurd (never_more s at o (leb-true _ _ b) (ap (next_in s at) (sym q) ∙ e)))
            (λ b. leb-false _ _ b),
      )

  moves_by : (n at k : ℕ) (t : State) (after : ℕ → State → Stretch) → ((next : ℕ) (state : State) → Moves n (suc k) (after next state))
      → (e : Entry) → next_in s at w ≡ e → Moves (suc n) k (stretch_by after g s at k t e)
  moves_by n at k t after on (Frame r) q =
      split (leb most_frames k)
      (λ b. simp b (moves_over (suc n) k [] at t Finished refl))
      (λ b.
      let z = on r.next (called g t (record_call s r)).state in
      simp b ((λ e. let y : (after r.next (called g t (record_call s r)).state).frames ≡ suc k + n = z.0 e in omega arith), z.1))
  moves_by n at k t after on Cut q = moves_over (suc n) k cut_line at t CutOff refl
  moves_by n at k t after on More q = ((λ e. let y : ◌≡◌ {A = ℕ} 0 1 = cc in absurd (omega arith)), (λ e. wants_more at q))
  moves_by n at k t after on End q = moves_over (suc n) k [] at t Finished refl

  moves : (n at k : ℕ) (t : State) → Moves n k (stretch n g s w at k t)
  unfolding stretch
  moves zero at k t = ((λ e. omega arith), (λ e. let y : ◌≡◌ {A = ℕ} 0 1 = cc in absurd (omega arith)))
  moves (suc n) at k t =
      moves_by n at k t (λ next left. stretch n g s w next (suc k) left) (λ next state. moves n next (suc k) state) (next_in s at w) refl

pub turns_move_on : TurnsMoveOn
turns_move_on n g s w at k t o = moves g s w o n at k t
