-- What each call does to the live buffers and to the past, and what its turns do: they make a buffer, or do the
-- call's deeds.
use Rattle.std.proofs.Common.{◌≡◌, ℕ, zero, suc, Bool, true, false, cond, List, [], ◌∷◌, ◌++◌, Option, Some, None}
use Rattle.std.proofs.Common.{refl, sym, ap, ◌∙◌, subst, inl, inr, ◌⊎◌, append-nil}
use Rattle.std.specs.Prelude.{◌==◌, is_some, slice_get, if◌then◌else◌}
use Rattle.std.specs.List.{list_any, AllByRecursion}
use Rattle.std.specs.Ordering.{nat_cmp, eq_by_cmp}
use Rattle.std.proofs.lemmas.Bool.{not-false}
use Rattle.dx_types.specs.declared.refusal.Refusal.{Refusal}
use Rattle.dx_types.specs.declared.shape.Shape.{Shape}
use Rattle.call_log.specs.Call as calls
use Rattle.call_log.specs.Call.{Call, Issued}
use Rattle.base_lemmas.specs.IdMap.{get, remove}
use Rattle.d3d_model.specs.Resource.{Buffers}
use Rattle.d3d_model.specs.Binding.{Bindings, default_bindings}
use Rattle.d3d_model.specs.D3dState.{Objects, Numbered, bindings_of, calls_if, calls_of_list}
use Rattle.d3d_model.specs.Past.{Past, Deed, Makes, then_done, makes}
use Rattle.d3d_model.specs.Stream.{binds, deeds, deeds_of_list}
use Rattle.d3d_model.specs.Verdict.{place_of, call_checks}
use Rattle.d3d_model.specs.Effect.{played, played_all, recorded_on, list_start, objects_after}
use Rattle.d3d_model.specs.InOrder.{State, accepted, unless_refused, verdict_in, after_call, after_calls}
use Rattle.base_lemmas.proofs.Maps.{get-remove, get_other}
use Rattle.d3d_model.proofs.Checked.{Passed}
use Rattle.d3d_model.proofs.Listed.{own_checks}
use Rattle.d3d_model.proofs.Pasts.{list_makes_none}
use Rattle.d3d_model.proofs.Sized.{same_buffers_all}
use Rattle.core_model.specs.Script.{Create, Destroy, Create_shader, Set_state, Turn, Refused, Passed as Went, Flushed}
use Rattle.core_model.specs.Script.{Asked, Item}
use Rattle.core_model.specs.Chunking.{call_of}
use Rattle.core_model.specs.Lawful.{resets, bound_by}
use Rattle.log_script.specs.Makers.{maker}
use Rattle.log_script.specs.Turns.{item_of, list_items, turns_by_place, turns_unless, turns_in, turns_of}
use Rattle.log_script.specs.Fitting.{ListFits}
use Rattle.log_script.proofs.Owed.FittingCalls.{own_fits, default_fits, binds_fit}
use Rattle.log_script.proofs.Owed.FittingStates.{StateFits, context_fits, listed_fits}
use Rattle.log_script.proofs.Owed.FittingLogs.{state_fits, list_fits}
use Rattle.log_script.proofs.Owed.ListRights.{CallRight, ListRight, ListsRight, none_right, lists_right}
use Rattle.log_script.proofs.Owed.BoundDeeds.{Does, DoAll}
use Rattle.log_script.proofs.Owed.BoundItems.{WriteLives, ranges_live, item_does, list_do, HasFirst, first_set}
use Rattle.log_script.proofs.Owed.BoundItems.{StartOf, start_of}

-- the turns do deeds that make no buffer, and no buffer comes
pub record Acts (n : ℕ) (b : Buffers) (past : Past) (b' : Buffers) (past' : Past) (ts : List Turn) : Type 0 where
  pub done : List Deed
  pub now : past' ≡ then_done n past done
  pub makes_none : (res : ℕ) → list_any (makes res) done ≡ false
  pub older : (id : ℕ) → is_some (get b' id) ≡ true → is_some (get b id) ≡ true
  pub does : DoAll n b past ts done

-- a buffer comes
pub record Comes (n : ℕ) (b : Buffers) (past : Past) (b' : Buffers) (past' : Past) (ts : List Turn) : Type 0 where
  pub id : ℕ
  pub bytes : List ℕ
  pub now : past' ≡ record { call = n; deed = Makes id } ∷ past
  pub older : (other : ℕ) → (other ≡ id → ⊥) → is_some (get b' other) ≡ true → is_some (get b other) ≡ true
  pub turns : ts ≡ Item n n true (Create n bytes) [] ∷ []

abbrev pub Next : ℕ → Buffers → Past → Buffers → Past → List Turn → Type 0
Next n b past b' past' ts = Acts n b past b' past' ts ⊎ Comes n b past b' past' ts

-- ---- one turn

does_one : (n : ℕ) (b : Buffers) (past : Past) (t : Turn) (ds : List Deed) → Does n b past t ds
    → DoAll n b past (t ∷ []) ds
does_one n b past t ds h = (ds, ([], (sym (append-nil ds), (h, refl))))

does_nothing : (n : ℕ) (b : Buffers) (past : Past) (t : Turn) → call_of t ≡ n → bound_by t ≡ []
    → ((name : ℕ) → resets name t ≡ false) → DoAll n b past (t ∷ []) []
does_nothing n b past t e f g =
    does_one n b past t [] (inl (record { ranges = []; live = tt; deeds = refl; call = e; takes = f; keeps = g }))

quiet : (n : ℕ) (b : Buffers) (past : Past) (b' : Buffers) (t : Turn)
    → ((id : ℕ) → is_some (get b' id) ≡ true → is_some (get b id) ≡ true)
    → call_of t ≡ n → bound_by t ≡ [] → ((name : ℕ) → resets name t ≡ false)
    → Acts n b past b' (then_done n past []) (t ∷ [])
quiet n b past b' t older e f g = record {
  done = [];
  now = refl;
  makes_none = λ res. refl;
  older = older;
  does =
      does_nothing n b past t e f g;
}

nothing_then : (n : ℕ) (past : Past) → past ≡ then_done n past []
unfolding then_done
nothing_then n past = refl

made_then : (n : ℕ) (past : Past) (id : ℕ) → then_done n past (Makes id ∷ [])
    ≡ record { call = n; deed = Makes id } ∷ past
unfolding then_done
made_then n past id = refl

-- ---- lists

each_of : {X : Type 0} (P : X → Type 0) (cs : List X) → ((done : List X) (c : X) (back : List X)
    → cs ≡ done ++ c ∷ back → P c) → AllByRecursion P cs
each_of P [] f = tt
each_of P (c ∷ cs) f = (f [] c cs refl, each_of P cs (λ done d back e. f (c ∷ done) d back (ap (λ l. c ∷ l) e)))

write_of : (o : Objects) (past : Past) (c : Call) → CallRight o past c → WriteLives o.buffers c
write_of o past (calls.MapWrite res mode offset bytes) h = h.0
write_of o past _ h = tt

pub listed_right : (o : Objects) (list : ℕ) → ListsRight o → ListRight o (calls_of_list o list)
listed_right o list h = by_list (get o.lists list) refl
  where
    by_list : (found : Option (List Numbered)) → get o.lists list ≡ found → ListRight o (calls_if found)
    by_list None e = none_right o
    by_list (Some cs) e = h.listed list cs e

pub listed_writes : (o : Objects) (list : ℕ) → ListsRight o → AllByRecursion (λ c. WriteLives o.buffers c.call)
    (calls_of_list o list)
listed_writes o list h =
    each_of (λ (c : Numbered). WriteLives o.buffers c.call) (calls_of_list o list)
    (λ done c back e. write_of o _ c.call (listed_right o list h done c back e))

pub listed_fit : (o : Objects) (list : ℕ) → StateFits o → ListFits o default_bindings (calls_of_list o list)
listed_fit o list h = list_fits o default_bindings (calls_of_list o list) h (default_fits o) (listed_fits o list h)

executes : (n : ℕ) (s : State) (x list flag : ℕ) → StateFits s.objects → ListsRight s.objects
    → HasFirst s.objects.contexts
    → Acts n s.objects.buffers s.past (objects_after n s.objects x (calls.ExecuteList list flag)).buffers
    (then_done n s.past (deeds_of_list s.objects (calls_of_list s.objects list)))
    (list_items n s.past (list_start s.objects) (calls_of_list s.objects list))
executes n s x list flag fits right first =
    let o : Objects = s.objects in
    let cs : List Numbered = calls_of_list o list in
    let start : StartOf o = start_of o first in
    record {
      done = deeds_of_list o cs;
      now = refl;
      makes_none = λ res. list_makes_none res o default_bindings cs;
      older = λ id e. sym (ap (λ (m : Buffers). is_some (get m id)) (same_buffers_all n (list_start o) cs)) ∙ e;
      does = subst (λ (k : Objects). DoAll n o.buffers s.past (list_items n s.past k cs) (deeds_of_list o cs))
          (sym start.is)
          (list_do n s.past o o.queries (record { bindings = default_bindings; recorded = start.recorded })
          start.others cs (listed_fit o list fits) (listed_writes o list right));
    }

-- ---- calls

call_makes_none : (res : ℕ) (o : Objects) (b : Bindings) (c : Call) → list_any (makes res) (deeds o b c) ≡ false
call_makes_none res o b c = sym (ap (list_any (makes res)) (append-nil (deeds o b c)))
    ∙ list_makes_none res o b (record { number = 0; call = c } ∷ [])

-- what a map writes lives
checked_write : (o : Objects) (past : Past) (x : ℕ) (c : Call) → Passed (call_checks o past x c)
    → WriteLives o.buffers c
checked_write o past x (calls.MapWrite res mode offset bytes) p = not-false (is_some (get o.buffers res)) p.0
checked_write o past x _ p = tt

each : (n : ℕ) (s : State) (x : ℕ) (c : Call) → Passed (call_checks s.objects s.past x c) → StateFits s.objects
    → Acts n s.objects.buffers s.past (if x == 0 then played n s.objects c else recorded_on n s.objects x c).buffers
    (then_done n s.past (if x == 0 then deeds s.objects (bindings_of s.objects 0) c else []))
    (if x == 0 then item_of n n true s.past s.objects c ∷ [] else Went n ∷ [])
each n s x c p fits =
    let o : Objects = s.objects in
    let b : Bindings = bindings_of o 0 in
    elim (x == 0) as (λ t. Acts n o.buffers s.past (if t then played n o c else recorded_on n o x c).buffers
    (then_done n s.past (if t then deeds o b c else []))
    (if t then item_of n n true s.past o c ∷ [] else Went n ∷ [])) [
      | true ↦
          let live = ranges_live o (binds o b c) (binds_fit o b c fits.views (own_fits o s.past x c fits.buffers p)
          (context_fits o 0 fits).set) in
          record {
            done = deeds o b c;
            now = refl;
            makes_none = λ res. call_makes_none res o b c;
            older = λ id e. e;
            does = does_one n o.buffers s.past (item_of n n true s.past o c) (deeds o b c)
                (item_does n n true o.buffers s.past o o b b c (binds o b c) live (checked_write o s.past x c p)
                refl);
          }
      | false ↦ quiet n o.buffers s.past o.buffers (Went n) (λ id e. e) refl refl (λ name. refl)
    ]

removed : (m : Buffers) (k id : ℕ) → is_some (get (remove m k) id) ≡ true → is_some (get m id) ≡ true
removed m k id e = by_test (eq_by_cmp nat_cmp id k) (get m id) (sym (ap is_some (get-remove m k id)) ∙ e)
  where
    by_test : (b : Bool) (o : Option Shape) → is_some (cond b None o) ≡ true → is_some o ≡ true
    by_test true o f = absurd cc
    by_test false o f = f

destroys : (t1 t2 t3 t4 : Bool) (n : ℕ) (o : Objects) (past : Past) (id : ℕ)
    → Acts n o.buffers past (if t1 then record o { buffers = remove o.buffers id } else if t2 then record o
    { views = remove o.views id } else if t3 then record o { shaders = remove o.shaders id } else if t4 then
    record o { queries = remove o.queries id } else record o { lists = remove o.lists id }).buffers
    (then_done n past []) (Item n n true (if t1 then Destroy (maker past id) else Set_state) [] ∷ [])
destroys true t2 t3 t4 n o past id = quiet n o.buffers past (remove o.buffers id)
    (Item n n true (Destroy (maker past id)) []) (removed o.buffers id) refl refl (λ name. refl)
destroys false true t3 t4 n o past id = quiet n o.buffers past o.buffers (Item n n true Set_state []) (λ q e. e)
    refl refl (λ name. refl)
destroys false false true t4 n o past id = quiet n o.buffers past o.buffers (Item n n true Set_state []) (λ q e. e)
    refl refl (λ name. refl)
destroys false false false true n o past id = quiet n o.buffers past o.buffers (Item n n true Set_state [])
    (λ q e. e) refl refl (λ name. refl)
destroys false false false false n o past id = quiet n o.buffers past o.buffers (Item n n true Set_state [])
    (λ q e. e) refl refl (λ name. refl)

next_accepted : (n : ℕ) (s : State) (x : ℕ) (c : Call) → Passed (call_checks s.objects s.past x c)
    → StateFits s.objects → ListsRight s.objects → HasFirst s.objects.contexts
    → Next n s.objects.buffers s.past (accepted n s x c).objects.buffers (accepted n s x c).past
    (turns_by_place (place_of c) n s x c)
next_accepted n s x (calls.Buffer id size usage bind misc stride bytes) p fits right first = inr (record {
  id = id;
  bytes = bytes;
  now = made_then n s.past id;
  older = λ other apart e. sym (ap is_some (get_other s.objects.buffers id _ other apart)) ∙ e;
  turns = refl;
})
next_accepted n s x (calls.Destroy class id) p fits right first =
    inl (destroys (class == 1) (class == 2) (class == 3) (class == 4) n s.objects s.past id)
next_accepted n s x (calls.View view res kind form components start count) p fits right first =
    inl (quiet n s.objects.buffers s.past s.objects.buffers (Item n n true Set_state []) (λ q e. e) refl refl
    (λ name. refl))
next_accepted n s x (calls.CreateShader id words) p fits right first =
    inl (quiet n s.objects.buffers s.past s.objects.buffers (Item n n true Create_shader []) (λ q e. e) refl refl
    (λ name. refl))
next_accepted n s x (calls.Query id sort) p fits right first =
    inl (quiet n s.objects.buffers s.past s.objects.buffers (Item n n true Set_state []) (λ q e. e) refl refl
    (λ name. refl))
next_accepted n s x (calls.MapRead res flag offset len) p fits right first =
    inl (quiet n s.objects.buffers s.past s.objects.buffers (Asked n _ _ _) (λ q e. e) refl refl (λ name. refl))
next_accepted n s x (calls.GetData query flag) p fits right first =
    inl (quiet n s.objects.buffers s.past s.objects.buffers (Asked n _ _ _) (λ q e. e) refl refl (λ name. refl))
next_accepted n s x calls.Flush p fits right first =
    inl (quiet n s.objects.buffers s.past s.objects.buffers (Flushed n) (λ q e. e) refl refl (λ name. refl))
next_accepted n s x (calls.ExecuteList list flag) p fits right first = inl (executes n s x list flag fits right first)
next_accepted n s x (calls.FinishList list) p fits right first =
    inl (quiet n s.objects.buffers s.past s.objects.buffers (Went n) (λ q e. e) refl refl (λ name. refl))
next_accepted n s x c p fits right first = inl (each n s x c p fits)

-- ---- the contexts

first_played : (n : ℕ) (o : Objects) (cs : List Numbered) → HasFirst o.contexts → HasFirst (played_all n o cs).contexts
first_played n o [] h = h
first_played n o (c ∷ cs) h = first_played n (played n o c.call) cs (first_set o.contexts 0 _ h)

first_destroyed : (t1 t2 t3 t4 : Bool) (o : Objects) (id : ℕ) → HasFirst o.contexts
    → HasFirst (if t1 then record o { buffers = remove o.buffers id } else if t2 then record o {
      views =
          remove o.views id;
    } else if t3 then record o { shaders = remove o.shaders id } else if t4 then record o
    { queries = remove o.queries id } else record o { lists = remove o.lists id }).contexts
first_destroyed true t2 t3 t4 o id h = h
first_destroyed false true t3 t4 o id h = h
first_destroyed false false true t4 o id h = h
first_destroyed false false false true o id h = h
first_destroyed false false false false o id h = h

first_each : (n : ℕ) (o : Objects) (x : ℕ) (c : Call) → HasFirst o.contexts
    → HasFirst (if x == 0 then played n o c else recorded_on n o x c).contexts
first_each n o x c h = elim (x == 0) as (λ b. HasFirst (if b then played n o c else recorded_on n o x c).contexts)
    [ true ↦ first_set o.contexts 0 _ h | false ↦ first_set o.contexts x _ h ]

first_after : (n : ℕ) (o : Objects) (x : ℕ) (c : Call) → HasFirst o.contexts → HasFirst (objects_after n o x c).contexts
first_after n o x (calls.Buffer id size usage bind misc stride bytes) h = h
first_after n o x (calls.Destroy class id) h = first_destroyed (class == 1) (class == 2) (class == 3) (class == 4) o
    id h
first_after n o x (calls.View view res kind form components first count) h = h
first_after n o x (calls.CreateShader id words) h = h
first_after n o x (calls.Query id sort) h = h
first_after n o x (calls.MapRead res flag offset len) h = h
first_after n o x (calls.GetData query flag) h = h
first_after n o x calls.Flush h = h
first_after n o x (calls.ExecuteList list flag) h = first_set
    (played_all n (list_start o) (calls_of_list o list)).contexts 0 _
    (first_played n (list_start o) (calls_of_list o list) (first_set o.contexts 0 _ h))
first_after n o x (calls.FinishList list) h = first_set o.contexts x _ h
first_after n o x c h = first_each n o x c h

pub has_first : (log : List Issued) (n : ℕ) → HasFirst (after_calls log n).objects.contexts
unfolding after_calls
has_first log zero = tt
has_first log (suc n) = after_one (suc n) (after_calls log n) (slice_get log n) (has_first log n)
  where
    unless : (n : ℕ) (s : State) (i : Issued) (v : Option Refusal) → HasFirst s.objects.contexts
        → HasFirst (unless_refused n s i v).objects.contexts
    unless n s i (Some why) h = h
    unless n s i None h = first_after n s.objects i.context i.call h

    after_one : (n : ℕ) (s : State) (o : Option Issued) → HasFirst s.objects.contexts
        → HasFirst (after_call n s o).objects.contexts
    after_one n s None h = h
    after_one n s (Some i) h = unless n s i (verdict_in s i) h

-- ---- all calls

pub next_at : (log : List Issued) (n : ℕ) → Next (suc n) (after_calls log n).objects.buffers
    (after_calls log n).past (after_calls log (suc n)).objects.buffers (after_calls log (suc n)).past
    (turns_of log (suc n))
unfolding after_calls
next_at log n = one (suc n) (after_calls log n) (slice_get log n) (state_fits log n) (lists_right log n)
    (has_first log n)
  where
    unless : (n : ℕ) (s : State) (i : Issued) (v : Option Refusal) → verdict_in s i ≡ v → StateFits s.objects
        → ListsRight s.objects → HasFirst s.objects.contexts
        → Next n s.objects.buffers s.past (unless_refused n s i v).objects.buffers (unless_refused n s i v).past
        (turns_unless n s i v)
    unless n s i (Some why) e fits right first = inl (record {
      done = [];
      now = nothing_then n s.past;
      makes_none = λ res. refl;
      older = λ id f. f;
      does = does_nothing n s.objects.buffers s.past (Refused n) refl refl (λ name. refl);
    })
    unless n s i None e fits right first = next_accepted n s i.context i.call
        (own_checks s.objects s.past i.context i.call e) fits right first

    one : (n : ℕ) (s : State) (o : Option Issued) → StateFits s.objects → ListsRight s.objects
        → HasFirst s.objects.contexts
        → Next n s.objects.buffers s.past (after_call n s o).objects.buffers (after_call n s o).past (turns_in n s o)
    one n s None fits right first =
        inl (record {
          done = [];
          now = nothing_then n s.past;
          makes_none = λ res. refl;
          older = λ id f. f;
          does =
              refl;
        })
    one n s (Some i) fits right first = unless n s i (verdict_in s i) refl fits right first
