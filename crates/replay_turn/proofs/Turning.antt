-- Laws of a turn, one for each place where it ends, and of its start. Assumes nothing.
use Prim.Native.Nat.{ℕ, suc, ◌+◌, ◌*◌, ◌-◌, ◌^◌, ◌≤◌, ◌<◌}
use mathlib.Core.Bool.{Bool}
use mathlib.Core.List.{List, [], ◌++◌, append_assoc}
use mathlib.Core.Path.{◌≡◌, refl, sym, ap, ap₂, ◌∙◌, subst}
use native.Mathlib.Omega.{arith}
use lib.ListN.{length, length-append}
use borrow.Author.Tests.{le-leb, lt-leb}
use Rattle.octets.specs.Runs.{put}
use Rattle.octets.proofs.Runs.{put_none, put_after, length_written}
use Rattle.tables.specs.Rows.{Config}
use Rattle.switch.specs.Call.{State, After, called}
use Rattle.replay_words.specs.Words.{appended_of, next_offset, appended}
use Rattle.replay_words.proofs.Words.{appended_room, appended_next}
use Rattle.replay_text.specs.Text.{line_of, cut_line, longest_line}
use Rattle.replay_log.specs.Records.{next_in}
use Rattle.replay_log.specs.declared.FrameRecord.{FrameRecord}
use Rattle.replay_log.specs.declared.Entry.{Entry}
use Rattle.replay_log.specs.declared.Entry.TheVariants.{Frame, More, Cut, End}
use Rattle.replay_answer.specs.Answer.{record_call}
use Rattle.replay_turn.specs.declared.Stop.{Stop}
use Rattle.replay_turn.specs.declared.Stop.TheVariants.{Octets, Room, Finished}
use Rattle.replay_turn.specs.declared.Progress.{Progress}
use Rattle.replay_turn.specs.Turn.{Stretch, stopped, with_text, most_frames, cut_stop, stretch_by, stretch, turned_of, progress_of, turn_of}
use Rattle.replay_turn.specs.Parts.{Lined, lined_of, lined, WithRoom, with_room, stopped_by}

-- ---- a stretch by what stands next
module _ (n : ℕ) (g : Config) (s : List ℕ) (w : Bool) (at k : ℕ) (t : State) where
  pub stretch_by_lem : (e : Entry) → next_in s at w ≡ e
      → stretch (suc n) g s w at k t ≡ stretch_by (λ next left. stretch n g s w next (suc k) left) g s at k t e
  unfolding stretch
  stretch_by_lem e q = ap (stretch_by (λ next left. stretch n g s w next (suc k) left) g s at k t) q

  pub stretch_frame : (r : FrameRecord) → next_in s at w ≡ Frame r → k < most_frames
      → stretch (suc n) g s w at k t
      ≡ with_text (line_of (suc k) (called g t (record_call s r)).says) (stretch n g s w r.next (suc k) (called g t (record_call s r)).state)
  stretch_frame r q l = stretch_by_lem (Frame r) q ∙ simp (lt-leb most_frames k l)

  stretch_many : (r : FrameRecord) → next_in s at w ≡ Frame r → most_frames ≤ k → stretch (suc n) g s w at k t ≡ stopped [] at k t Finished
  stretch_many r q l = stretch_by_lem (Frame r) q ∙ simp (le-leb most_frames k l)

-- ---- the loop of a turn
module _ (g : Config) (s : List ℕ) (w : Bool) (d₀ : List ℕ) (at₀ k₀ : ℕ) (t₀ : State) (most : ℕ) where
  -- lines are put, and there is room for `left` more: their text stands at the front of the room, and what the turn still has to
  -- do is the rest of what it has to do in all
  pub record Along (d : List ℕ) (at k : ℕ) (t : State) (written left : ℕ) : Type 0 where
    pub text : List ℕ
    pub room : d ≡ put d₀ 0 text
    pub here : written ≡ length text
    pub fits : written + longest_line * left ≤ length d₀
    pub same : with_text text (stretch left g s w at k t) ≡ stretch most g s w at₀ k₀ t₀

  -- what a turn returns, and that the room holds all of its text
  abbrev Ends : Progress → List ℕ → State → Type 0
  Ends p c t = (turned_of p c t ≡ turn_of d₀ (stretch most g s w at₀ k₀ t₀)) × (p.written ≤ length c)

  pub along_start : (left : ℕ) → left ≡ most → longest_line * most ≤ length d₀ → Along d₀ at₀ k₀ t₀ 0 left
  along_start left e h =
      record { text = []; room = sym (put_none d₀ 0); here = refl; fits = omega arith; same = ap (λ (n : ℕ). stretch n g s w at₀ k₀ t₀) e }

  module _ {d : List ℕ} {at k : ℕ} {t : State} {written left : ℕ} (a : Along d at k t written left) where
    long : length d ≡ length d₀
    long = length_written d₀ 0 a.text d a.room

    -- a text put after the lines
    put_on : (e xs : List ℕ) → e ≡ put d written xs → written + length xs ≤ length d₀ → e ≡ put d₀ 0 (a.text ++ xs)
    put_on e xs q l =
        let h = a.here in
        let z : written ≡ 0 + length a.text = omega arith in
        q ∙ ap (λ (c : List ℕ). put c written xs) a.room ∙ put_after d₀ 0 a.text xs written z (omega arith)

    length_on : (xs : List ℕ) → length (a.text ++ xs) ≡ written + length xs
    length_on xs = let h = a.here in let l = length-append a.text xs in omega arith

    -- the turn ends
    ended : (e xs : List ℕ) (n : ℕ) (v : Stop) → stretch left g s w at k t ≡ stopped xs at k t v
        → e ≡ put d written xs → n ≡ written + length xs → written + length xs ≤ length d₀
        → Ends (progress_of at k n v) e t
    ended e xs n v q p m l =
        let z : length e ≡ length d₀ = length_written d₀ 0 (a.text ++ xs) e (put_on e xs p l) in (
          ap₂ (λ (i : ℕ) (c : List ℕ). turned_of (progress_of at k i v) c t) (m ∙ sym (length_on xs)) (put_on e xs p l)
              ∙ ap (turn_of d₀) (ap (with_text a.text) (sym q) ∙ a.same),
          omega arith,
        )

    -- with no more text
    ended_here : (v : Stop) → stretch left g s w at k t ≡ stopped [] at k t v → Ends (progress_of at k written v) d t
    ended_here v q = let h = a.fits in ended d [] written v q (sym (put_none d written)) (omega arith) (omega arith)

    pub along_full : left ≤ 0 → Ends (progress_of at k written Room) d t
    unfolding stretch
    along_full e = let z : left ≡ 0 = omega arith in ended_here Room (ap (λ (m : ℕ). stretch m g s w at k t) z)

    module _ (more : 0 < left) where
      as_stopped : (p : Progress) (c : List ℕ) (x : WithRoom) → with_room p c ≡ x → Ends x.progress x.room t → Ends p c t
      as_stopped p c x o = subst (λ (x : WithRoom). Ends x.progress x.room t) (sym o)

      one_more : left ≡ suc (left - 1)
      one_more = omega arith

      -- at something else than a frame
      stops : (e : Entry) (xs : List ℕ) (v : Stop) → next_in s at w ≡ e
          → stretch_by (λ next state. stretch (left - 1) g s w next (suc k) state) g s at k t e ≡ stopped xs at k t v
          → stretch left g s w at k t ≡ stopped xs at k t v
      stops e xs v q p = ap (λ (m : ℕ). stretch m g s w at k t) one_more ∙ stretch_by_lem (left - 1) g s w at k t e q ∙ p

      pub along_stop : (e : Entry) (p : Progress) (c : List ℕ) → e ≡ next_in s at w → ((r : FrameRecord) → e ≡ Frame r → ⊥)
          → with_room p c ≡ stopped_by d at k written e → Ends p c t
      along_stop (Frame r) p c q n o = absurd (n r refl)
      along_stop More p c q n o = as_stopped p c _ o (ended_here Octets (stops More [] Octets (sym q) refl))
      along_stop Cut p c q n o =
          let h = a.fits in
          let f : written + length cut_line ≤ length d₀ = omega arith in
          let m : next_offset d written cut_line ≡ written + length cut_line = appended_next d written cut_line _ (put d written cut_line) refl (omega (arith, long)) in
          as_stopped p c _ o
          (ended (put d written cut_line) cut_line (next_offset d written cut_line) cut_stop (stops Cut cut_line cut_stop (sym q) refl) refl m f)
      along_stop End p c q n o = as_stopped p c _ o (ended_here Finished (stops End [] Finished (sym q) refl))

      -- at a frame that can't be numbered
      pub along_many : (e : Entry) (r : FrameRecord) (p : Progress) (c : List ℕ) → e ≡ next_in s at w → e ≡ Frame r → most_frames ≤ k
          → with_room p c ≡ stopped_by d at k written End → Ends p c t
      along_many e r p c q f z o =
          as_stopped p c _ o
          (ended_here Finished (ap (λ (m : ℕ). stretch m g s w at k t) one_more ∙ stretch_many (left - 1) g s w at k t r (sym q ∙ f) z))

      -- at any other, which gets the number `number` and leaves room for `rest` lines
      module _ (x : Entry) (r : FrameRecord) (q : x ≡ next_in s at w) (f : x ≡ Frame r) (number rest : ℕ) (i : number ≡ k + 1) (l : number < 2 ^ 64)
          (o : left ≡ rest + 1) where
        abbrev answered : After
        answered = called g t (record_call s r)

        abbrev line : List ℕ
        line = line_of number answered.says

        abbrev after : Stretch
        after = stretch rest g s w r.next number answered.state

        goes_on : stretch left g s w at k t ≡ with_text line after
        goes_on =
            let z : left ≡ suc rest = omega arith in
            let y : suc k ≡ number = omega arith in
            ap (λ (m : ℕ). stretch m g s w at k t) z
            ∙ stretch_frame rest g s w at k t r (sym q ∙ f) (omega arith)
            ∙ ap (λ (m : ℕ). with_text (line_of m answered.says) (stretch rest g s w r.next m answered.state)) y

        pub along_frame : (n : ℕ) (e : List ℕ) (state : State) → lined_of n e state ≡ lined g t d written number (record_call s r)
            → length line ≤ longest_line → Along e r.next number state n rest
        along_frame n e state p b =
            let h = a.fits in
            let put-line : appended_of n e ≡ appended d written line = ap (λ (y : Lined). y.appended) p in
            let j : written + length line ≤ length d₀ = omega arith in
            let m : n ≡ written + length line = appended_next d written line n e put-line (omega (arith, long)) in
            record {
              text = a.text ++ line;
              room = put_on e line (appended_room d written line n e put-line) j;
              here = m ∙ sym (length_on line);
              fits = omega arith;
              same =
                  ap (λ (st : State). with_text (a.text ++ line) (stretch rest g s w r.next number st)) (ap (λ (y : Lined). y.state) p)
                  ∙ ap (λ (xs : List ℕ). record { text = xs; at = after.at; frames = after.frames; state = after.state; stop = after.stop })
                  (append_assoc a.text line after.text)
                  ∙ ap (with_text a.text) (sym goes_on)
                  ∙ a.same;
            }
