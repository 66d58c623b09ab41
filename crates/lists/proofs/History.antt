-- Laws of histories. Assumes nothing.
use mathlib.Core.Bool.{Bool, true, false}
use mathlib.Core.List.Memᴰ
use mathlib.Core.List.{List, [], ◌∷◌, ◌++◌, map, map-id, zip, zip_with, reverse, reverse_aux, Memᴰ}
use mathlib.Core.Logic.{⊎_elim}
use mathlib.Core.Path.{◌≡◌, refl, sym, ap, ap₂, ◌∙◌, subst}
use Rattle.std.specs.Prelude.{if◌then◌else◌}
use Rattle.lists.specs.Lists.{only, answers_to}
use Rattle.lists.specs.History.{Machine, answers, final, left_by, by_calls, by_answers}
use Rattle.lists.proofs.Tests.{split}

-- ---- a list of calls after another list
module _ {S C A : Type 0} (m : Machine S C A) where
  pub answers_append : (h k : List C) (s : S) → answers m s (h ++ k) ≡ answers m s h ++ answers m (final m s h) k
  unfolding answers final
  answers_append [] k s = refl
  answers_append (c ∷ h) k s = ap (◌∷◌ (m.says s c)) (answers_append h k (m.leaves s c))

  pub final_append : (h k : List C) (s : S) → final m s (h ++ k) ≡ final m (final m s h) k
  unfolding final
  final_append [] k s = refl
  final_append (c ∷ h) k s = final_append h k (m.leaves s c)

  -- a property of every answer that a call can get is one of each answer in a list
  pub answers_each : (P : A → Type 0) → ((s : S) (c : C) → P (m.says s c))
      → (h : List C) (s : S) (a : A) → Memᴰ a (answers m s h) → P a
  unfolding answers
  answers_each P all [] s a i = absurd (Memᴰ.not-nil i)
  answers_each P all (c ∷ h) s a i =
      ⊎_elim (λ e. subst P (sym e) (all s c)) (answers_each P all h (m.leaves s c) a) (Memᴰ.cases_cons i)

  -- a past is a history with the newest call first
  past_final : (h past : List C) (s : S) → left_by m s (reverse_aux h past) ≡ final m (left_by m s past) h
  unfolding final left_by
  past_final [] past s = refl
  past_final (c ∷ h) past s = past_final h (c ∷ past) s

  pub left_by_lem : (h : List C) (s : S) → left_by m s (reverse h) ≡ final m s h
  unfolding left_by
  left_by_lem h s = past_final h [] s

-- ---- the state of a rule is the past: from the empty past, `reverse` of the calls or of the answers
pub final_calls : {C A : Type 0} (rule : List C → C → A) (h past : List C) → final (by_calls rule) past h ≡ reverse_aux h past
unfolding final
final_calls rule [] past = refl
final_calls rule (c ∷ h) past = final_calls rule h (c ∷ past)

pub final_answers : {C A : Type 0} (rule : List A → C → A) (h : List C) (past : List A)
    → final (by_answers rule) past h ≡ reverse_aux (answers (by_answers rule) past h) past
unfolding answers final
final_answers rule [] past = refl
final_answers rule (c ∷ h) past = final_answers rule h (rule past c ∷ past)

-- ---- a simulation, on the calls of a list: from states that R relates, n answers what m's answer reports, and R
-- relates the states that both leave
pub record Simulates {S T C A B : Type 0} (m : Machine S C A) (n : Machine T C B)
    (tells : A → B) (R : T → S → Type 0) (h : List C) : Type 0 where
  pub each : (c : C) → Memᴰ c h → (t : T) (s : S) → R t s
      → (tells (m.says s c) ≡ n.says t c) × R (n.leaves t c) (m.leaves s c)

module _ {S T C A B : Type 0} {m : Machine S C A} {n : Machine T C B} {tells : A → B} {R : T → S → Type 0} where
  -- a simulation on every call carries over to the whole list
  pub simulated : (h : List C) → Simulates m n tells R h → (t : T) (s : S) → R t s
      → (map tells (answers m s h) ≡ answers n t h) × R (final n t h) (final m s h)
  unfolding answers final
  simulated [] k t s r = (refl, r)
  simulated (c ∷ h) k t s r =
      let q = k.each c (Memᴰ.head refl) t s r in
      let z = simulated h (record { each = λ d i. k.each d (Memᴰ.tail i) }) (n.leaves t c) (m.leaves s c) q.1 in
      (ap₂ ◌∷◌ q.0 z.0, z.1)

-- a simulation with equal answers has equal lists of answers
pub same_answers : {S T C A : Type 0} {m : Machine S C A} {n : Machine T C A} {R : T → S → Type 0}
    (h : List C) → Simulates m n (λ x. x) R h → (t : T) (s : S) → R t s → answers m s h ≡ answers n t h
same_answers {m = m} h k t s r = sym (map-id (answers m s h)) ∙ (simulated h k t s r).0

-- ---- a simulation by the picked calls alone: n answers the picked calls as m does, and any other call, of which n
-- knows nothing, keeps R
pub record SimulatesPicked {S T C A : Type 0} (m : Machine S C A) (n : Machine T C A)
    (pick : C → Bool) (R : T → S → Type 0) (h : List C) : Type 0 where
  pub picked : (c : C) → Memᴰ c h → pick c ≡ true → (t : T) (s : S) → R t s
      → (m.says s c ≡ n.says t c) × R (n.leaves t c) (m.leaves s c)
  pub others : (c : C) → Memᴰ c h → pick c ≡ false → (t : T) (s : S) → R t s → R t (m.leaves s c)

module _ {S T C A : Type 0} {m : Machine S C A} {n : Machine T C A} {pick : C → Bool} {R : T → S → Type 0} where
  rest : (c : C) (h : List C) → SimulatesPicked m n pick R (c ∷ h) → SimulatesPicked m n pick R h
  rest c h k = record { picked = λ d i. k.picked d (Memᴰ.tail i); others = λ d i. k.others d (Memᴰ.tail i) }

  pub simulated_picked : (h : List C) → SimulatesPicked m n pick R h → (t : T) (s : S) → R t s
      → (answers_to pick h (answers m s h) ≡ answers n t (only pick h)) × R (final n t (only pick h)) (final m s h)
  unfolding answers final answers_to only
  simulated_picked [] k t s r = (refl, r)
  simulated_picked (c ∷ h) k t s r =
      split (pick c)
      (λ e.
      let q = k.picked c (Memᴰ.head refl) e t s r in
      let z = simulated_picked h (rest c h k) (n.leaves t c) (m.leaves s c) q.1 in
      simp e (ap₂ ◌∷◌ q.0 z.0, z.1))
      (λ e. simp e (simulated_picked h (rest c h k) t (m.leaves s c) (k.others c (Memᴰ.head refl) e t s r)))

-- ---- two histories that share the picked calls: the same answers to these calls, and the states left are related to
-- one state
pub alike : {S S' T C A : Type 0} {m : Machine S C A} {m' : Machine S' C A} {n : Machine T C A}
    {pick : C → Bool} {R : T → S → Type 0} {R' : T → S' → Type 0}
    (h h' : List C) → SimulatesPicked m n pick R h → SimulatesPicked m' n pick R' h' → only pick h ≡ only pick h'
    → (t : T) (s : S) → R t s → (s' : S') → R' t s'
    → (answers_to pick h (answers m s h) ≡ answers_to pick h' (answers m' s' h'))
    × R (final n t (only pick h)) (final m s h) × R' (final n t (only pick h)) (final m' s' h')
alike {C = C} {m' = m'} {n = n} {R' = R'} h h' k k' e t s r s' r' =
    let z = simulated_picked h k t s r in
    let z' = simulated_picked h' k' t s' r' in
    (z.0 ∙ ap (answers n t) e ∙ sym z'.0, z.1, subst (λ (g : List C). R' (final n t g) (final m' s' h')) (sym e) z'.1)

-- ---- a list collected call by call, from the calls with their answers
module _ {S C A R : Type 0} (m : Machine S C A) (collect : S → List R) (pick : C × A → Bool) (count : C × A → R)
    (each : (s : S) (c : C)
    → collect (m.leaves s c) ≡ (if pick (c, m.says s c) then count (c, m.says s c) ∷ collect s else collect s)) where
  pub collected : (h : List C) (s : S) → collect (final m s h) ≡ reverse_aux (map count (only pick (zip h (answers m s h)))) (collect s)
  unfolding answers final only zip zip_with
  collected [] s = refl
  collected (c ∷ h) s =
      let after : List C → List R = λ k. map count (only pick (zip k (answers m (m.leaves s c) k))) in
      split (pick (c, m.says s c))
      (λ e.
      let q : collect (m.leaves s c) ≡ count (c, m.says s c) ∷ collect s = each s c ∙ simp e in
      collected h (m.leaves s c) ∙ ap (reverse_aux (after h)) q ∙ simp e)
      (λ e.
      let q : collect (m.leaves s c) ≡ collect s = each s c ∙ simp e in
      collected h (m.leaves s c) ∙ ap (reverse_aux (after h)) q ∙ simp e)
