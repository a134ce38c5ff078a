-- What holds of each call that is accepted holds of the calls of each list.
use Rattle.std.proofs.Common.{◌≡◌, ℕ, zero, suc, true, false, List, [], ◌∷◌, ◌++◌, replicate, Option, Some, None}
use Rattle.std.proofs.Common.{refl, sym, ◌∙◌, subst, inl, inr}
use Rattle.std.specs.Prelude.{◌==◌, slice_get, slice_index_or, if◌then◌else◌}
use Rattle.std.specs.List.{AllByRecursion}
use Rattle.std.specs.Ordering.{nat_cmp, eq_by_cmp}
use Rattle.dx_types.specs.declared.refusal.Refusal.{Refusal}
use Rattle.call_log.specs.Call as calls
use Rattle.call_log.specs.Call.{Call, Issued}
use Rattle.base_lemmas.specs.IdMap.{empty, get}
use Rattle.d3d_model.specs.Binding.{Bindings, default_bindings}
use Rattle.d3d_model.specs.D3dState.{Objects, Numbered, Context, default_context, context_of, bindings_of}
use Rattle.d3d_model.specs.D3dState.{with_bindings, calls_if, calls_of_list}
use Rattle.d3d_model.specs.Stream.{set_by}
use Rattle.d3d_model.specs.Effect.{destroyed, queries_after, played, played_all, list_start, recorded_on, finished}
use Rattle.d3d_model.specs.Effect.{objects_after}
use Rattle.d3d_model.specs.InOrder.{State, unless_refused, verdict_in, after_call, after_calls}
use Rattle.base_lemmas.proofs.Maps.{get-empty, get-insert}
use Rattle.d3d_model.proofs.Listed.{set_at, one_value, contexts_if, lists_if}
use Rattle.log_script.proofs.Owed.TurnStates.{all_both}

abbrev pub All : (Call → Type 0) → List Numbered → Type 0
All P cs = AllByRecursion (λ c. P c.call) cs

pub record Recorded (P : Call → Type 0) (o : Objects) : Type 0 where
  pub opened : (x : ℕ) → All P (context_of o x).recorded
  pub listed : (l : ℕ) (cs : List Numbered) → get o.lists l ≡ Some cs → All P cs

with_set : (P : Call → Type 0) (o : Objects) (x : ℕ) (b : Bindings) → Recorded P o → Recorded P (with_bindings o x b)
with_set P o x b h = record {
  opened = λ y. set_at (λ c. All P c.recorded) o.contexts x y
      (record { bindings = b; recorded = (context_of o x).recorded }) default_context (h.opened x) (h.opened y);
  listed = h.listed;
}

once_played : (P : Call → Type 0) (n : ℕ) (o : Objects) (c : Call) → Recorded P o → Recorded P (played n o c)
once_played P n o c h = with_set P (record o { queries = queries_after n o.queries c }) 0
    (set_by o (bindings_of o 0) c) (record { opened = h.opened; listed = h.listed })

all_played : (P : Call → Type 0) (n : ℕ) (o : Objects) (cs : List Numbered) → Recorded P o
    → Recorded P (played_all n o cs)
all_played P n o [] h = h
all_played P n o (c ∷ cs) h = all_played P n (played n o c.call) cs (once_played P n o c.call h)

one_recorded : (P : Call → Type 0) (n : ℕ) (o : Objects) (x : ℕ) (c : Call) → P c → Recorded P o
    → Recorded P (recorded_on n o x c)
one_recorded P n o x c p h = record {
  opened = λ y. set_at (λ k. All P k.recorded) o.contexts x y
      (record {
        bindings = set_by o (bindings_of o x) c;
        recorded =
            (context_of o x).recorded ++ record { number = n; call = c } ∷ [];
      }) default_context
      (all_both (λ k. P k.call) (context_of o x).recorded (record { number = n; call = c } ∷ []) (h.opened x)
      (p, tt)) (h.opened y);
  listed = h.listed;
}

one_finished : (P : Call → Type 0) (o : Objects) (x list : ℕ) → Recorded P o → Recorded P (finished o x list)
one_finished P o x list h = record {
  opened = λ y. set_at (λ k. All P k.recorded) o.contexts x y default_context default_context tt (h.opened y);
  listed = λ l cs e. elim (one_value (eq_by_cmp nat_cmp l list) (context_of o x).recorded cs (get o.lists l)
      (sym (get-insert o.lists list (context_of o x).recorded l) ∙ e)) [
        | inl f ↦ subst (λ (k : List Numbered). All P k) f (h.opened x)
        | inr f ↦ h.listed l cs f
      ];
}

one_destroyed : (P : Call → Type 0) (o : Objects) (k i : ℕ) → Recorded P o → Recorded P (destroyed o k i)
one_destroyed P o k i h = record {
  opened = λ x. subst (λ (cs : List Context). All P (slice_index_or cs x default_context).recorded)
      (sym (contexts_if (k == 1) (k == 2) (k == 3) (k == 4) o i)) (h.opened x);
  listed = λ l cs e. h.listed l cs (lists_if (k == 1) (k == 2) (k == 3) (k == 4) o i l cs e);
}

on_each : (P : Call → Type 0) (n : ℕ) (o : Objects) (x : ℕ) (c : Call) → P c → Recorded P o
    → Recorded P (if x == 0 then played n o c else recorded_on n o x c)
on_each P n o x c p h = elim (x == 0) as (λ b. Recorded P (if b then played n o c else recorded_on n o x c))
    [ true ↦ once_played P n o c h | false ↦ one_recorded P n o x c p h ]

pub after_one : (P : Call → Type 0) (n : ℕ) (o : Objects) (x : ℕ) (c : Call) → P c → Recorded P o
    → Recorded P (objects_after n o x c)
after_one P n o x (calls.Buffer id size usage bind misc stride bytes) p h =
    record { opened = h.opened; listed = h.listed }
after_one P n o x (calls.View view res kind form components first count) p h =
    record { opened = h.opened; listed = h.listed }
after_one P n o x (calls.CreateShader id words) p h = record { opened = h.opened; listed = h.listed }
after_one P n o x (calls.Query id sort) p h = record { opened = h.opened; listed = h.listed }
after_one P n o x (calls.Destroy class id) p h = one_destroyed P o class id h
after_one P n o x (calls.MapRead res flag offset len) p h = h
after_one P n o x (calls.GetData query flag) p h = h
after_one P n o x calls.Flush p h = h
after_one P n o x (calls.ExecuteList list flag) p h =
    with_set P (played_all n (list_start o) (calls_of_list o list)) 0
    (if flag == 1 then bindings_of o 0 else default_bindings)
    (all_played P n (list_start o) (calls_of_list o list) (with_set P o 0 default_bindings h))
after_one P n o x (calls.FinishList list) p h = one_finished P o x list h
after_one P n o x c p h = on_each P n o x c p h

pub none_recorded : (P : Call → Type 0) (n x : ℕ)
    → All P (slice_index_or (replicate n default_context) x default_context).recorded
none_recorded P zero x = tt
none_recorded P (suc n) zero = tt
none_recorded P (suc n) (suc x) = none_recorded P n x

-- the calls of the log that are accepted have the property
abbrev pub Accepts : (Call → Type 0) → List Issued → Type 0
Accepts P log = (n : ℕ) (i : Issued) → slice_get log n ≡ Some i → verdict_in (after_calls log n) i ≡ None
    → P i.call

pub recorded : (P : Call → Type 0) (log : List Issued) → Accepts P log → (n : ℕ)
    → Recorded P (after_calls log n).objects
unfolding after_calls
recorded P log accepts zero = record {
  opened = λ x. none_recorded P 17 x;
  listed = λ l cs e. absurd (no_list (get (empty {X = List Numbered}) l) cs (get-empty (List Numbered) l) e);
}
  where
    no_list : (o : Option (List Numbered)) (cs : List Numbered) → o ≡ None → o ≡ Some cs → ⊥
    no_list o cs e f = cc
recorded P log accepts (suc n) = by_call (suc n) (after_calls log n) (slice_get log n) (accepts n)
    (recorded P log accepts n)
  where
    unless : (n : ℕ) (s : State) (i : Issued) (v : Option Refusal) → (v ≡ None → P i.call) → Recorded P s.objects
        → Recorded P (unless_refused n s i v).objects
    unless n s i (Some why) a h = h
    unless n s i None a h = after_one P n s.objects i.context i.call (a refl) h

    by_call : (n : ℕ) (s : State) (o : Option Issued) → ((i : Issued) → o ≡ Some i → verdict_in s i ≡ None → P i.call)
        → Recorded P s.objects → Recorded P (after_call n s o).objects
    by_call n s None a h = h
    by_call n s (Some i) a h = unless n s i (verdict_in s i) (a i refl) h

-- the calls of a list that is live
pub of_list : (P : Call → Type 0) (o : Objects) (list : ℕ) → Recorded P o → All P (calls_of_list o list)
of_list P o list h = by_value (get o.lists list) refl
  where
    by_value : (v : Option (List Numbered)) → get o.lists list ≡ v → All P (calls_if v)
    by_value None e = tt
    by_value (Some cs) e = h.listed list cs e
