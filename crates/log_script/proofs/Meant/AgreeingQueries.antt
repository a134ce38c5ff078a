-- Queries: what a Begin, an End and a creation leave of the counts, in Direct3D and in order.
use Rattle.std.proofs.Common.{◌≡◌, ℕ, ◌-◌, ◌==◌, Bool, true, false, cond, Option, Some, None, refl, sym, ap, ◌∙◌, inl}
use Rattle.std.proofs.Common.{inr}
use Rattle.std.specs.Prelude.{unwrap_or, if◌then◌else◌}
use Rattle.std.proofs.lemmas.Bool.{both_ways, cases_eq, eqb-true, eq-eqb, ne_eqb}
use Rattle.vk_types.specs.Effects.{Meaning}
use Rattle.base_lemmas.specs.IdMap.{IdMap, get, insert}
use Rattle.d3d_model.specs.D3dState.{Memory, Query, count_of}
use Rattle.d3d_model.specs.Past.{Past}
use Rattle.d3d_model.specs.Memory.{begun_count, ended_count, no_counts}
use Rattle.d3d_model.specs.Effect.{begun_query, ended_query}
use Rattle.d3d_model.specs.ReplyText.{sort_if}
use Rattle.d3d_model.specs.Uses.{ended_if}
use Rattle.base_lemmas.proofs.Maps.{get-remove, get_same, get_other, other_key}
use Rattle.core_model.specs.Script.{Script, InOrder, Mark_query, Set_state, play_in_order}
use Rattle.log_script.specs.Plays.{counts_invocations}
use Rattle.log_script.proofs.Owed.QueryMaps.{flag, started, stopped, after_begin, after_end, stopped_counts}
use Rattle.log_script.proofs.Owed.QueryMaps.{counted_ended}
use Rattle.log_script.proofs.Meant.AgreeingWrites.{Alike}

-- of one query, or of none that is live
pub record QueryAlike (m : Memory) (w : InOrder) (id : ℕ) (o : Option Query) : Type 0 where
  pub begun : (q : Query) → o ≡ Some q → q.sort ≡ 2 → q.begun ≡ true → get m.begun_at id ≡ Some (w.begun id)
  pub counted : (q : Query) → o ≡ Some q → q.sort ≡ 2 → (n : ℕ) → q.ended ≡ Some n → count_of m id ≡ w.count id

module _ (meaning : Meaning) (script : Script) (past : Past) (qs : IdMap Query) (m : Memory) (w : InOrder)
    (alike : Alike past qs m w) where
  one : (id : ℕ) → QueryAlike m w id (get qs id)
  one id = record { begun = alike.begun id; counted = alike.counted id }

  -- the query counts invocations
  counts_two : (q : Query) (o : Option Query) → o ≡ Some q → q.sort ≡ 2 → counts_invocations o ≡ true
  counts_two q o e sort = ap counts_invocations e ∙ ap (λ (s : ℕ). s == 2) sort

  -- ---- a Begin

  begun_of : (o : Option Query) (w' : InOrder) (id : ℕ) → w'.begun id ≡ w.total → w'.count id ≡ w.count id
      → QueryAlike m w id o → QueryAlike (begun_count m id) w' id (started o)
  begun_of None w' id now same h = record { begun = λ q e sort is. absurd cc; counted = λ q e sort n is. absurd cc }
  begun_of (Some x) w' id now same h = record {
    begun = λ q e sort is. get_same m.begun_at id m.ran ∙ ap (λ (n : ℕ). Some n) (sym (now ∙ alike.ran));
    counted = λ q e sort n is. h.counted x refl (ap sort_if e ∙ sort) n (ap ended_if e ∙ is) ∙ sym same;
  }

  begun_other : (w' : InOrder) (p id : ℕ) → (id ≡ p → ⊥) → w'.begun id ≡ w.begun id → w'.count id ≡ w.count id
      → QueryAlike (begun_count m p) w' id (get qs id)
  begun_other w' p id apart same kept = record {
    begun = λ q e sort is. get_other m.begun_at p m.ran id apart ∙ alike.begun id q e sort is
        ∙ ap (λ (n : ℕ). Some n) (sym same);
    counted = λ q e sort n is. alike.counted id q e sort n is ∙ sym kept;
  }

  -- a query that counts nothing
  plain_begun : (o : Option Query) (id : ℕ) → counts_invocations o ≡ false
      → QueryAlike (begun_count m id) w id (started o)
  plain_begun None id e = record { begun = λ q f sort is. absurd cc; counted = λ q f sort n is. absurd cc }
  plain_begun (Some x) id e = record {
    begun = λ q f sort is. absurd (both_ways (counts_invocations (Some x)) e
        (ap (λ (s : ℕ). s == 2) (ap sort_if f ∙ sort)));
    counted = λ q f sort n is. absurd (both_ways (counts_invocations (Some x)) e
        (ap (λ (s : ℕ). s == 2) (ap sort_if f ∙ sort)));
  }

  pub begin_alike : (p : ℕ) → Alike past (begun_query (get qs p) qs p) (begun_count m p)
      (play_in_order meaning script (if counts_invocations (get qs p) then Mark_query p true else Set_state) w)
  begin_alike p =
      elim (counts_invocations (get qs p)) as (λ b. counts_invocations (get qs p) ≡ b
      → Alike past (begun_query (get qs p) qs p) (begun_count m p)
      (play_in_order meaning script (if b then Mark_query p true else Set_state) w)) [
        | true ↦ λ e.
            let w' : InOrder = play_in_order meaning script (Mark_query p true) w in
            let all = after_begin (λ id o. QueryAlike (begun_count m p) w' id o) qs p
            (begun_of (get qs p) w' p (ap (λ (t : Bool). cond t w.total (w.begun p)) (eq-eqb p p refl)) refl (one p))
            (λ id apart. begun_other w' p id apart (ap (λ (t : Bool). cond t w.total (w.begun id))
            (ne_eqb id p apart)) refl) in
            record {
              shown = alike.shown;
              ran = alike.ran;
              begun = λ id. (all id).begun;
              counted =
                  λ id. (all id).counted;
            }
        | false ↦ λ e.
            let all = after_begin (λ id o. QueryAlike (begun_count m p) w id o) qs p (plain_begun (get qs p) p e)
            (λ id apart. begun_other w p id apart refl refl) in
            record {
              shown = alike.shown;
              ran = alike.ran;
              begun = λ id. (all id).begun;
              counted =
                  λ id. (all id).counted;
            }
      ] refl

  -- ---- an End

  -- what is ended is not begun
  ended_of : (n : ℕ) (o : Option Query) (m' : Memory) (w' : InOrder) (id : ℕ)
      → (counts_invocations o ≡ true → count_of m' id ≡ w'.count id) → QueryAlike m' w' id (stopped n o)
  ended_of n o m' w' id same = record {
    begun = λ q e sort is. absurd (both_ways (flag (stopped n o)) (counted_ended n o) (ap flag e ∙ is));
    counted = λ q e sort k is. same (sym (stopped_counts n o) ∙ counts_two q (stopped n o) e sort);
  }

  ended_other : (w' : InOrder) (p id : ℕ) → (id ≡ p → ⊥) → w'.begun id ≡ w.begun id → w'.count id ≡ w.count id
      → QueryAlike (ended_count m p) w' id (get qs id)
  ended_other w' p id apart kept same = record {
    begun = λ q e sort is. alike.begun id q e sort is ∙ ap (λ (n : ℕ). Some n) (sym kept);
    counted = λ q e sort n is.
        ap (λ (c : Option ℕ). unwrap_or c 0) (get_other m.counts p (m.ran - unwrap_or (get m.begun_at p) m.ran) id
        apart) ∙ alike.counted id q e sort n is ∙ sym same;
  }

  -- the count that an End leaves of a query that was begun
  counted_now : (o : Option Query) (p : ℕ) → QueryAlike m w p o → counts_invocations o ≡ true → flag o ≡ true
      → count_of (ended_count m p) p ≡ w.total - w.begun p
  counted_now None p h e f = absurd cc
  counted_now (Some x) p h e f =
      ap (λ (c : Option ℕ). unwrap_or c 0) (get_same m.counts p (m.ran - unwrap_or (get m.begun_at p) m.ran))
      ∙ ap (λ (c : Option ℕ). m.ran - unwrap_or c m.ran) (h.begun x refl (eqb-true x.sort 2 e) f)
      ∙ ap (λ (n : ℕ). n - w.begun p) (sym alike.ran)

  pub end_alike : (n p : ℕ) → (counts_invocations (get qs p) ≡ true → flag (get qs p) ≡ true)
      → Alike past (ended_query n (get qs p) qs p) (ended_count m p)
      (play_in_order meaning script (if counts_invocations (get qs p) then Mark_query p false else Set_state) w)
  end_alike n p ready =
      elim (counts_invocations (get qs p)) as (λ b. counts_invocations (get qs p) ≡ b
      → Alike past (ended_query n (get qs p) qs p) (ended_count m p)
      (play_in_order meaning script (if b then Mark_query p false else Set_state) w)) [
        | true ↦ λ e.
            let w' : InOrder = play_in_order meaning script (Mark_query p false) w in
            let all = after_end (λ id o. QueryAlike (ended_count m p) w' id o) n qs p
            (ended_of n (get qs p) (ended_count m p) w' p (λ c. counted_now (get qs p) p (one p) e (ready e)
            ∙ sym (ap (λ (t : Bool). cond t (w.total - w.begun p) (w.count p)) (eq-eqb p p refl))))
            (λ id apart. ended_other w' p id apart refl
            (ap (λ (t : Bool). cond t (w.total - w.begun p) (w.count id)) (ne_eqb id p apart))) in
            record {
              shown = alike.shown;
              ran = alike.ran;
              begun = λ id. (all id).begun;
              counted =
                  λ id. (all id).counted;
            }
        | false ↦ λ e.
            let all = after_end (λ id o. QueryAlike (ended_count m p) w id o) n qs p
            (ended_of n (get qs p) (ended_count m p) w p (λ c. absurd
            (both_ways (counts_invocations (get qs p)) e c))) (λ id apart. ended_other w p id apart refl refl) in
            record {
              shown = alike.shown;
              ran = alike.ran;
              begun = λ id. (all id).begun;
              counted =
                  λ id. (all id).counted;
            }
      ] refl

  -- ---- a creation

  pub created_query : (p sort : ℕ) → Alike past (insert qs p (record { sort = sort; begun = false; ended = None }))
      (no_counts m p) w
  created_query p sort =
      let x : Query = record { sort = sort; begun = false; ended = None } in
      record {
        shown = alike.shown;
        ran = alike.ran;
        begun = λ id q e two is. elim (cases_eq id p) [
          | inl s ↦ absurd
              (both_ways false refl (ap flag (sym (get_same qs p x) ∙ ap (λ (k : ℕ). get (insert qs p x) k) (sym s)
              ∙ e) ∙ is))
          | inr apart ↦ get-remove m.begun_at p id ∙ ap (λ (t : Bool). cond t None (get m.begun_at id))
              (other_key id p apart) ∙ alike.begun id q (sym (get_other qs p x id apart) ∙ e) two is
        ];
        counted = λ id q e two n is. elim (cases_eq id p) [
          | inl s ↦ none_ended (ap ended_if (sym (get_same qs p x) ∙ ap (λ (k : ℕ). get (insert qs p x) k) (sym s)
              ∙ e) ∙ is)
          | inr apart ↦
              ap (λ (c : Option ℕ). unwrap_or c 0) (get-remove m.counts p id
              ∙ ap (λ (t : Bool). cond t None (get m.counts id)) (other_key id p apart))
              ∙ alike.counted id q (sym (get_other qs p x id apart) ∙ e) two n is
        ];
      }
    where
      none_ended : {A : Type 0} {n : ℕ} → ◌≡◌ {A = Option ℕ} None (Some n) → A
      none_ended e = absurd cc
