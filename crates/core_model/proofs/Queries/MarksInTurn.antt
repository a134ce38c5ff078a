-- The marks of a run: those that the turns make, of calls and commands that rise; of one query a Begin and an End in
-- turn.
use Rattle.std.proofs.Common.{◌≡◌, ℕ, ◌+◌, ◌≤◌, Bool, true, false, cond, not, ◌==◌, List, [], ◌∷◌, ◌++◌, refl, sym}
use Rattle.std.proofs.Common.{ap, ◌∙◌, subst, ◌⊎◌, inl, inr, arith, append_assoc, append-nil}
use Rattle.dx_types.specs.declared.range.Range.{Range}
use Rattle.vk_types.specs.declared.message.QueryMark.{QueryMark}
use Rattle.base_lemmas.specs.Lists.{Pairwise}
use Rattle.vk_types.specs.Effects.{Meaning}
use Rattle.core_model.specs.Script.{Create, Discard, No_overwrite, Stage, Command, Destroy, Create_shader, Mark_query}
use Rattle.core_model.specs.Script.{Set_state, Turn, Refused, Passed, Flushed, Asked, Item, Script}
use Rattle.core_model.specs.Chunking.{joined}
use Rattle.core_model.specs.CoreState.{Core, segments, later}
use Rattle.core_model.specs.Readings.{Reading}
use Rattle.core_model.specs.OtherParts.{all_marks}
use Rattle.core_model.specs.Lawful.{is_begun, IsLawful}
use Rattle.core_model.specs.Invariant.{turns_of}
use Rattle.core_model.specs.Kept.{Kept}
use Rattle.core_model.specs.Queries.{commands_by, commands_in, turn_marks, marks_from, AreInTurn, QueriesRight}
use Rattle.core_model.proofs.Runs.Tracing.{joined_last}
use Rattle.core_model.proofs.Steps.Turning.{segments_handed}
use Rattle.core_model.proofs.Queries.InOrderCounts.{commands_append}
use Rattle.core_model.proofs.Queries.QueryMarks.{marks_append, marked_marks, marks_rise, numbers_rise}
use Rattle.core_model.proofs.Queries.QueryCalls.{calls_rise}

begun_append : (q : ℕ) (xs ys : List QueryMark) (was : Bool)
    → is_begun q (xs ++ ys) was ≡ is_begun q ys (is_begun q xs was)
begun_append q [] ys was = refl
begun_append q (x ∷ xs) ys was = begun_append q xs ys (cond (x.query == q) x.begins was)

-- a turn makes no mark, or it is a Begin or an End
abbrev MarkOf : Turn → Type 0
MarkOf t = (call : ℕ) × (item : ℕ) × (ends : Bool) × (query : ℕ) × (begins : Bool) × (bound : List Range)
    × (t ≡ Item call item ends (Mark_query query begins) bound)

mark_or_none : (n : ℕ) (t : Turn) → (turn_marks n t ≡ []) ⊎ MarkOf t
mark_or_none n (Refused call) = inl refl
mark_or_none n (Passed call) = inl refl
mark_or_none n (Flushed call) = inl refl
mark_or_none n (Asked call ask used may_pend) = inl refl
mark_or_none n (Item call item ends (Create buffer bytes) bound) = inl refl
mark_or_none n (Item call item ends (Discard buffer from bytes) bound) = inl refl
mark_or_none n (Item call item ends (No_overwrite buffer from bytes) bound) = inl refl
mark_or_none n (Item call item ends (Stage bytes target skip) bound) = inl refl
mark_or_none n (Item call item ends (Command w skip) bound) = inl refl
mark_or_none n (Item call item ends (Destroy buffer) bound) = inl refl
mark_or_none n (Item call item ends Create_shader bound) = inl refl
mark_or_none n (Item call item ends (Mark_query query begins) bound) =
    inr (call, item, ends, query, begins, bound, refl)
mark_or_none n (Item call item ends Set_state bound) = inl refl

not_twice : (b : Bool) → not (not b) ≡ b
not_twice true = refl
not_twice false = refl

module _ (meaning : Meaning) (script : Script) (lawful : IsLawful meaning script) where
  turn_in_turn : (front back : List Turn) (t : Turn) → script.turns ≡ front ++ t ∷ back → (q : ℕ)
      → AreInTurn q (is_begun q (marks_from 0 front) false) (turn_marks (commands_in front) t)
  turn_in_turn front back t e q = elim (mark_or_none (commands_in front) t) [
    | inl n ↦ subst (AreInTurn q (is_begun q (marks_from 0 front) false)) (sym n) tt
    | inr m ↦
        let here : script.turns ≡ front ++ Item m.0 m.1 m.2 (Mark_query m.3 m.4) m.5 ∷ back = e
        ∙ ap (λ t. front ++ t ∷ back) m.6 in
        let rightly : is_begun m.3 (marks_from 0 front) false ≡ not m.4 =
        lawful.plays front m.0 m.1 m.2 (Mark_query m.3 m.4) m.5 back here in
        subst (λ t. AreInTurn q (is_begun q (marks_from 0 front) false) (turn_marks (commands_in front) t)) (sym m.6) (
          (λ same. sym (ap not (ap (λ k. is_begun k (marks_from 0 front) false) (sym same) ∙ rightly)
              ∙ not_twice m.4)),
          tt,
        )
  ]

  in_turn_append : (q : ℕ) (begun : Bool) (xs ys : List QueryMark) → AreInTurn q begun xs
      → AreInTurn q (is_begun q xs begun) ys → AreInTurn q begun (xs ++ ys)
  in_turn_append q begun [] ys h k = k
  in_turn_append q begun (x ∷ xs) ys h k = (h.0, in_turn_append q (cond (x.query == q) x.begins begun) xs ys h.1 k)

  pub in_turn_from : (ts front back : List Turn) → script.turns ≡ front ++ (ts ++ back) → (q : ℕ)
      → AreInTurn q (is_begun q (marks_from 0 front) false) (marks_from (commands_in front) ts)
  in_turn_from [] front back e q = tt
  in_turn_from (t ∷ ts) front back e q =
      let n = commands_in front in
      let marks : marks_from 0 (front ++ t ∷ []) ≡ marks_from 0 front ++ turn_marks n t =
      marks_append 0 front (t ∷ []) ∙ ap (λ l. marks_from 0 front ++ l) (append-nil (turn_marks (0 + n) t))
      ∙ (let z : 0 + n ≡ n = omega arith in ap (λ k. marks_from 0 front ++ turn_marks k t) z) in
      let begun : is_begun q (marks_from 0 (front ++ t ∷ [])) false
      ≡ is_begun q (turn_marks n t) (is_begun q (marks_from 0 front) false) =
      ap (λ l. is_begun q l false) marks ∙ begun_append q (marks_from 0 front) (turn_marks n t) false in
      let number : commands_in (front ++ t ∷ []) ≡ n + commands_by t =
      (let c = commands_append front (t ∷ []) in omega (arith, c)) in
      let rest = in_turn_from ts (front ++ t ∷ []) back (e ∙ sym (append_assoc front (t ∷ []) (ts ++ back))) q in
      in_turn_append q (is_begun q (marks_from 0 front) false) (turn_marks n t) (marks_from (n + commands_by t) ts)
      (turn_in_turn front (ts ++ back) t e q)
      (subst (λ k. AreInTurn q (is_begun q (turn_marks n t) (is_begun q (marks_from 0 front) false))
      (marks_from k ts)) number
      (subst (λ b. AreInTurn q b (marks_from (commands_in (front ++ t ∷ [])) ts)) begun rest))

-- in a state the marks of all chunks are those of the turns that were taken
module _ (meaning : Meaning) (reading : Reading) (script : Script) (core : Core)
    (k : Kept meaning reading script core) (q : QueriesRight meaning script core) where
  pub marks_are : all_marks (segments core) ≡ marks_from 0 core.past
  marks_are =
      marked_marks 0 (segments core) q.marked
      ∙ ap (marks_from 0) (ap (λ l. joined (turns_of l)) (segments_handed core)
      ∙ joined_last (core.taken ++ later core) core.open_chunk ∙ sym k.traced.past)

  pub marks_in_turn : IsLawful meaning script → (query : ℕ) → AreInTurn query false (all_marks (segments core))
  marks_in_turn lawful query =
      subst (AreInTurn query false) (sym marks_are) (in_turn_from meaning script lawful core.past [] core.future
      (sym k.good.sound.position) query)

  pub calls_in_turn : IsLawful meaning script → Pairwise (λ m k. m.call ≤ k.call) (all_marks (segments core))
  calls_in_turn lawful =
      subst (Pairwise (λ m k. m.call ≤ k.call)) (sym marks_are)
      (marks_rise 0 core.past (calls_rise meaning script lawful core.past [] core.future
      (sym k.good.sound.position)))

  pub numbers_in_turn : Pairwise (λ m k. m.before ≤ k.before) (all_marks (segments core))
  numbers_in_turn = subst (Pairwise (λ m k. m.before ≤ k.before)) (sym marks_are) (numbers_rise 0 core.past)
