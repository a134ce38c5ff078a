-- The calls of marks: they rise, those of later chunks are above the last call that the chunks before them finish,
-- and a query's Ends are up to its last use.
use Rattle.std.proofs.Common.{◌≡◌, ℕ, ◌+◌, ◌-◌, ◌<◌, ◌≤◌, Bool, true, false, cond, ◌&&◌, ◌==◌, List, [], ◌∷◌, ◌++◌}
use Rattle.std.proofs.Common.{refl, sym, ap, ◌∙◌, subst, inl, inr, Option, Some, arith, append_assoc}
use Rattle.std.specs.List.{AllByRecursion}
use Rattle.std.proofs.lemmas.Bool.{cases_Bool, leb-true, eqb-true, eq-eqb}
use Rattle.base_lemmas.specs.Lists.{Pairwise}
use Rattle.vk_types.specs.Effects.{Meaning}
use Rattle.base_lemmas.proofs.Lists.{all_append, all_map}
use Rattle.core_model.specs.Script.{Create, Discard, No_overwrite, Stage, Command, Destroy, Create_shader, Mark_query}
use Rattle.core_model.specs.Script.{Set_state, Turn, Refused, Passed, Flushed, Asked, Item, Script}
use Rattle.core_model.specs.Chunking.{call_of, ends_call, is_due, cut, last_call, joined}
use Rattle.core_model.specs.CoreState.{Segment, last_finished}
use Rattle.core_model.specs.AppActs.{is_finished}
use Rattle.core_model.specs.Lawful.{ends_query, last_end, IsLawful}
use Rattle.core_model.specs.Invariant.{turns_of}
use Rattle.core_model.specs.Queries.{commands_by, turn_marks, marks_from, is_end}
use Rattle.core_model.proofs.Runs.LastUses.{after_segments, all_later}

module _ (meaning : Meaning) (script : Script) (lawful : IsLawful meaning script) where
  pub calls_rise : (ts front back : List Turn) → script.turns ≡ front ++ (ts ++ back)
      → Pairwise (λ t u. call_of t ≤ call_of u) ts
  calls_rise [] front back e = tt
  calls_rise (t ∷ ts) front back e = (
    all_later meaning script lawful ts front t [] back e,
    calls_rise ts (front ++ t ∷ []) back (e ∙ sym (append_assoc front (t ∷ []) (ts ++ back))),
  )

  -- behind chunks each call is above the last that they finish
  pub calls_behind : (ts : List Turn) (ss : List Segment) (mid back : List Turn)
      → script.turns ≡ joined (turns_of ss) ++ (mid ++ (ts ++ back))
      → AllByRecursion (λ t. last_finished ss < call_of t) ts
  calls_behind [] ss mid back e = tt
  calls_behind (t ∷ ts) ss mid back e = (
    after_segments meaning script lawful ss [] mid t (ts ++ back) e,
    calls_behind ts ss (mid ++ t ∷ []) back (e ∙ ap (λ l. joined (turns_of ss) ++ l)
        (sym (append_assoc mid (t ∷ []) (ts ++ back)))),
  )

-- Chunks have turns -------------------------------------------------------------------------------------------------

due_filled : (script : Script) (ts future : List Turn) → is_due script ts future ≡ true → ts ≡ [] → ⊥
due_filled script [] future h e = cc h
due_filled script (t ∷ ts) future h e = cc e

pub cut_filled : (script : Script) (turns ts : List Turn) → AllByRecursion (λ l. l ≡ [] → ⊥) (cut script ts turns)
cut_filled script [] ts =
    elim (cases_Bool (is_due script ts [])) [
      | inl h ↦ subst (λ c. AllByRecursion (λ l. l ≡ [] → ⊥) (cond c (ts ∷ []) [])) (sym h)
          (due_filled script ts [] h, tt)
      | inr h ↦ subst (λ c. AllByRecursion (λ l. l ≡ [] → ⊥) (cond c (ts ∷ []) [])) (sym h) tt
    ]
cut_filled script (t ∷ turns) ts =
    let due = cut_filled script turns (t ∷ []) in
    let on = cut_filled script turns (ts ++ t ∷ []) in
    elim (cases_Bool (is_due script ts (t ∷ turns))) [
      | inl h ↦ subst (λ c. AllByRecursion (λ l. l ≡ [] → ⊥)
          (cond c (ts ∷ cut script (t ∷ []) turns) (cut script (ts ++ t ∷ []) turns))) (sym h)
          (due_filled script ts (t ∷ turns) h, due)
      | inr h ↦ subst (λ c. AllByRecursion (λ l. l ≡ [] → ⊥)
          (cond c (ts ∷ cut script (t ∷ []) turns) (cut script (ts ++ t ∷ []) turns))) (sym h) on
    ]

pub finished_last : (ss : List Segment) (s : Segment) → last_finished (ss ++ s ∷ []) ≡ last_call s.turns
finished_last [] s = refl
finished_last (x ∷ []) s = refl
finished_last (x ∷ y ∷ ss) s = finished_last (y ∷ ss) s

-- what lies below each of these calls is not above the last that they finish
pub below_last : (d : ℕ) (ts : List Turn) → (ts ≡ [] → ⊥) → AllByRecursion (λ t. d < call_of t) ts → d ≤ last_call ts
below_last d [] some h = absurd (some refl)
below_last d (t ∷ []) some h = by (ends_call t)
  where
    by : (c : Bool) → d ≤ cond c (call_of t) (call_of t - 1)
    by true = let l = h.0 in omega (arith, l)
    by false = let l = h.0 in omega (arith, l)
below_last d (t ∷ u ∷ ts) some h = below_last d (u ∷ ts) (λ e. cc e) h.1

-- The last End ------------------------------------------------------------------------------------------------------

-- a mark that ends the query is of a turn that does
mark_ends : (q n : ℕ) (t : Turn) → AllByRecursion (λ m. (is_end m && (q == m.query)) ≡ true
    → (ends_query q t ≡ true) × (m.call ≡ call_of t)) (turn_marks n t)
mark_ends q n (Refused call) = tt
mark_ends q n (Passed call) = tt
mark_ends q n (Flushed call) = tt
mark_ends q n (Asked call ask used may_pend) = tt
mark_ends q n (Item call item last (Create buffer bytes) bound) = tt
mark_ends q n (Item call item last (Discard buffer from bytes) bound) = tt
mark_ends q n (Item call item last (No_overwrite buffer from bytes) bound) = tt
mark_ends q n (Item call item last (Stage bytes target skip) bound) = tt
mark_ends q n (Item call item last (Command w skip) bound) = tt
mark_ends q n (Item call item last (Destroy buffer) bound) = tt
mark_ends q n (Item call item last Create_shader bound) = tt
mark_ends q n (Item call item last (Mark_query query true) bound) = ((λ h. absurd (cc h)), tt)
mark_ends q n (Item call item last (Mark_query query false) bound) =
    ((λ h. (eq-eqb query q (sym (eqb-true q query h)), refl)), tt)
mark_ends q n (Item call item last Set_state bound) = tt

-- the last End is no earlier than this one
end_low : (q d : ℕ) (ts : List Turn) (c : ℕ) → AllByRecursion (λ t. c ≤ call_of t) ts
    → Pairwise (λ t u. call_of t ≤ call_of u) ts → is_finished (last_end q ts (Some c)) d ≡ true → c ≤ d
end_low q d [] c l h fin = leb-true c d fin
end_low q d (t ∷ ts) c l h fin =
    elim (cases_Bool (ends_query q t)) [
      | inl e ↦
          let r = end_low q d ts (call_of t) h.0 h.1
          (sym (ap (λ b. is_finished (last_end q ts (cond b (Some (call_of t)) (Some c))) d) e) ∙ fin) in
          let a = l.0 in
          omega (arith, r, a)
      | inr e ↦ end_low q d ts c l.1 h.1
          (sym (ap (λ b. is_finished (last_end q ts (cond b (Some (call_of t)) (Some c))) d) e) ∙ fin)
    ]

-- where the last End of a query is finished, all are
pub ends_low : (q d : ℕ) (ts : List Turn) (n : ℕ) (found : Option ℕ) → Pairwise (λ t u. call_of t ≤ call_of u) ts
    → is_finished (last_end q ts found) d ≡ true
    → AllByRecursion (λ m. (is_end m && (q == m.query)) ≡ true → m.call ≤ d) (marks_from n ts)
ends_low q d [] n found h fin = tt
ends_low q d (t ∷ ts) n found h fin =
    all_append (λ m. (is_end m && (q == m.query)) ≡ true → m.call ≤ d) (turn_marks n t)
    (marks_from (n + commands_by t) ts)
    (all_map (λ m. (is_end m && (q == m.query)) ≡ true → (ends_query q t ≡ true)
    × (m.call ≡ call_of t)) (λ m. (is_end m && (q == m.query)) ≡ true → m.call ≤ d)
    (λ m k e.
    let z = k e in
    let l = end_low q d ts (call_of t) h.0 h.1
    (sym (ap (λ b. is_finished (last_end q ts (cond b (Some (call_of t)) found)) d) z.0) ∙ fin) in
    let c = z.1 in
    omega (arith, l, c))
    (turn_marks n t) (mark_ends q n t))
    (ends_low q d ts (n + commands_by t) (cond (ends_query q t) (Some (call_of t)) found) h.1 fin)
