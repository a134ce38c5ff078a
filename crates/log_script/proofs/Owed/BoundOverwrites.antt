-- Where a script is cut before a no-overwrite: it writes a live buffer, and the past there binds none of its bytes.
use Rattle.std.proofs.Common.{◌≡◌, ℕ, suc, ◌+◌, Bool, true, false, not, ◌&&◌, ◌||◌, List, [], ◌∷◌, ◌++◌, length}
use Rattle.std.proofs.Common.{Option, Some, None, refl, sym, ap, ◌∙◌, subst, inl, inr}
use Rattle.std.specs.Prelude.{◌==◌, is_some, unwrap_or, slice_get, if◌then◌else◌}
use Rattle.std.proofs.lemmas.Bool.{not-false, or_left, or_right, or_cases}
use Rattle.dx_types.specs.declared.refusal.Refusal.{Refusal}
use Rattle.dx_types.specs.declared.refusal.Refusal.TheVariants.{InUse, FirstMapNotDiscard}
use Rattle.dx_types.specs.declared.range.ResRange.{ResRange}
use Rattle.dx_types.specs.declared.range.Range.{Range}
use Rattle.call_log.specs.Call as calls
use Rattle.call_log.specs.Call.{Call, Issued}
use Rattle.base_lemmas.specs.IdMap.{get}
use Rattle.d3d_model.specs.Resource.{Buffers}
use Rattle.d3d_model.specs.Binding as binding
use Rattle.d3d_model.specs.Binding.{Bindings, default_bindings}
use Rattle.d3d_model.specs.D3dState.{Objects, Numbered, Context, context_of, bindings_of, calls_of_list}
use Rattle.d3d_model.specs.Past.{Past, Deed, then_done, makes, discards, is_bound, was_discarded, was_renewed}
use Rattle.d3d_model.specs.Stream.{past_of_list, deeds_of_list}
use Rattle.d3d_model.specs.Verdict.{place_of, in_use, no_overwrite_checks, call_checks}
use Rattle.d3d_model.specs.Effect.{list_start}
use Rattle.d3d_model.specs.InOrder.{State, verdict_in, after_calls}
use Rattle.d3d_model.proofs.Checked.{Passed}
use Rattle.d3d_model.proofs.Listed.{own_checks}
use Rattle.d3d_model.proofs.Pasts.{is_bound_then}
use Rattle.core_model.specs.Script.{Play, Create, Discard, No_overwrite, Stage, Command, Destroy, Create_shader}
use Rattle.core_model.specs.Script.{Mark_query, Set_state, Turn, Refused, Passed as Went, Flushed, Asked, Item}
use Rattle.log_script.specs.Makers.{maker, bytes_from}
use Rattle.log_script.specs.Plays.{staged, play_of}
use Rattle.log_script.specs.Turns.{item_of, list_items, turns_by_place, turns_unless, turns_in, turns_of}
use Rattle.log_script.proofs.Owed.FittingStates.{StateFits}
use Rattle.log_script.proofs.Owed.FittingLogs.{state_fits}
use Rattle.log_script.proofs.Owed.ListRights.{CallRight, ListsRight, lists_right}
use Rattle.log_script.proofs.Owed.BoundDeeds.{DoAll}
use Rattle.log_script.proofs.Owed.QuietPlays.{is_quiet, play_quiet, staged_quiet}
use Rattle.log_script.proofs.Owed.BoundItems.{CutAt, cut_list, HasFirst, StartOf, start_of}
use Rattle.log_script.proofs.Owed.BoundSteps.{listed_right, listed_writes, listed_fit, has_first}
use Rattle.log_script.proofs.Owed.BoundCuts.{no_turn, only, none_some}

-- ---- what overwrites

-- a buffer, a place and bytes
abbrev pub Written : Type 0
Written = ℕ × (ℕ × List ℕ)

-- what a no-overwrite writes
over : Play → Option Written
over (Create buffer bytes) = None
over (Discard buffer from bytes) = None
over (No_overwrite buffer from bytes) = Some (buffer, (from, bytes))
over (Stage bytes target skip) = None
over (Command w skip) = None
over (Destroy buffer) = None
over Create_shader = None
over (Mark_query query begins) = None
over Set_state = None

overs : Turn → Option Written
overs (Refused call) = None
overs (Went call) = None
overs (Flushed call) = None
overs (Asked call ask used may_pend) = None
overs (Item call item ends play bound) = over play

quiet_over : (play : Play) → is_quiet play ≡ true → over play ≡ None
unfolding over
quiet_over (Create buffer bytes) e = absurd cc
quiet_over (Discard buffer from bytes) e = absurd cc
quiet_over (No_overwrite buffer from bytes) e = absurd cc
quiet_over (Stage bytes target skip) e = refl
quiet_over (Command w skip) e = refl
quiet_over (Destroy buffer) e = absurd cc
quiet_over Create_shader e = absurd cc
quiet_over (Mark_query query begins) e = refl
quiet_over Set_state e = refl

-- the call is a map of mode 1
record OverBy (past : Past) (c : Call) (buffer from : ℕ) (bytes : List ℕ) : Type 0 where
  pub res : ℕ
  pub mode : ℕ
  pub is : c ≡ calls.MapWrite res mode from bytes
  pub is_over : (mode == 1) ≡ true
  pub made : buffer ≡ maker past res

over_means : (past : Past) (o : Objects) (b : Bindings) (c : Call) (buffer from : ℕ) (bytes : List ℕ)
    → over (play_of past o b c) ≡ Some (buffer, (from, bytes)) → OverBy past c buffer from bytes
unfolding over
over_means past o b (calls.MapWrite res mode offset written) buffer from bytes e =
    let stages : Play = staged past binding.Never written (bytes_from past res offset (length written)) in
    let wanted : Written = (buffer, (from, bytes)) in
    elim (mode == 0) as
    (λ d. over (if d then Discard (maker past res) offset written else if mode == 1 then No_overwrite
    (maker past res) offset written else stages) ≡ Some wanted
    → OverBy past (calls.MapWrite res mode offset written) buffer from bytes) [
      | true ↦ λ f. none_some None wanted refl f
      | false ↦ elim (mode == 1) as (λ v. (mode == 1) ≡ v → over
          (if v then No_overwrite (maker past res) offset written else stages) ≡ Some wanted
          → OverBy past (calls.MapWrite res mode offset written) buffer from bytes) [
            | true ↦ λ m f.
                let at : offset ≡ from = ap (λ (q : Option Written). (unwrap_or q wanted).1.0) f in
                let same : written ≡ bytes = ap (λ (q : Option Written). (unwrap_or q wanted).1.1) f in
                record {
                  res = res;
                  mode = mode;
                  is = λ i. calls.MapWrite res mode (at i) (same i);
                  is_over = m;
                  made =
                      sym (ap (λ (q : Option Written). (unwrap_or q wanted).0) f);
                }
            | false ↦ λ m f. none_some (over stages) wanted (quiet_over stages
                (staged_quiet past binding.Never written (bytes_from past res offset (length written)))) f
          ] refl
    ] e
over_means past o b c buffer from bytes e = none_some (over (play_of past o b c)) (buffer, (from, bytes))
    (quiet_over (play_of past o b c) (play_quiet past o b c refl)) e

-- ---- what it writes is not bound

-- behind the turns of call n so far, whose deeds are `done`
pub record Overwrites (n : ℕ) (b : Buffers) (past : Past) (part : List Turn) (buffer from : ℕ) (bytes : List ℕ) :
    Type 0 where
  pub done : List Deed
  pub does : DoAll n b past part done
  pub res : ℕ
  pub lives : is_some (get b res) ≡ true
  pub made : buffer ≡ maker past res
  pub unbound : is_bound (then_done n past done) (record { res = res; from = from; to = from + length bytes }) ≡ false

nothing_more : (n : ℕ) (past : Past) (r : ResRange) → is_bound past r ≡ false → is_bound (then_done n past []) r ≡ false
unfolding then_done
nothing_more n past r e = e

immediate_checks : (o : Objects) (past : Past) (x res mode from : ℕ) (bytes : List ℕ) → (x == 0) ≡ true
    → (mode == 1) ≡ true
    → Passed (call_checks o past x (calls.MapWrite res mode from bytes)) → in_use past res from bytes ≡ false
immediate_checks o past x res mode from bytes immediate overs p =
    let checks : Passed (no_overwrite_checks o past x res from bytes) =
    subst (λ b. Passed (if b then no_overwrite_checks o past x res from bytes else [])) overs p.1.1.1.1 in
    let listed = past_of_list o (context_of o x).recorded in
    let here = subst
    (λ b. Passed (if b then (in_use past res from bytes, InUse) ∷ [] else
    (not (was_discarded listed res), FirstMapNotDiscard) ∷ (in_use listed res from bytes, InUse) ∷ []))
    immediate checks in
    here.0

over_at_once : (n : ℕ) (s : State) (x : ℕ) (c : Call) → (x == 0) ≡ true → Passed (call_checks s.objects s.past x c)
    → (part : List Turn) (t : Turn) (rest : List Turn) (buffer from : ℕ) (bytes : List ℕ)
    → item_of n n true s.past s.objects c ∷ [] ≡ part ++ t ∷ rest → overs t ≡ Some (buffer, (from, bytes))
    → Overwrites n s.objects.buffers s.past part buffer from bytes
unfolding overs
over_at_once n s x c immediate p part t rest buffer from bytes e f =
    let o : Objects = s.objects in
    let one = only (item_of n n true s.past o c) part t rest e in
    let by = over_means s.past o (bindings_of o 0) c buffer from bytes (ap overs one.is ∙ f) in
    let checks : Passed (call_checks o s.past x (calls.MapWrite by.res by.mode from bytes)) =
    subst (λ (k : Call). Passed (call_checks o s.past x k)) by.is p in
    record {
      done = [];
      does = subst (λ (l : List Turn). DoAll n o.buffers s.past l []) (sym one.none) refl;
      res = by.res;
      lives = not-false (is_some (get o.buffers by.res)) checks.0;
      made = by.made;
      unbound = nothing_more n s.past (record { res = by.res; from = from; to = from + length bytes })
          (immediate_checks o s.past x by.res by.mode from bytes immediate by.is_over checks);
    }

unover : {A : Type 0} (u : Turn) (part : List Turn) (t : Turn) (rest : List Turn) (w : Written) → overs u ≡ None
    → u ∷ [] ≡ part ++ t ∷ rest → overs t ≡ Some w → A
unover u part t rest w e f g = none_some (overs t) w (sym (ap overs (only u part t rest f).is) ∙ e) g

over_each : (n : ℕ) (s : State) (x : ℕ) (c : Call) → Passed (call_checks s.objects s.past x c)
    → (part : List Turn) (t : Turn) (rest : List Turn) (buffer from : ℕ) (bytes : List ℕ)
    → (if x == 0 then item_of n n true s.past s.objects c ∷ [] else Went n ∷ []) ≡ part ++ t ∷ rest
    → overs t ≡ Some (buffer, (from, bytes)) → Overwrites n s.objects.buffers s.past part buffer from bytes
unfolding overs
over_each n s x c p part t rest buffer from bytes e f =
    elim (x == 0) as (λ b. (x == 0) ≡ b → (if b then item_of n n true s.past s.objects c ∷ [] else Went n ∷ [])
    ≡ part ++ t ∷ rest → Overwrites n s.objects.buffers s.past part buffer from bytes) [
      | true ↦ λ immediate g. over_at_once n s x c immediate p part t rest buffer from bytes g f
      | false ↦ λ deferred g. unover (Went n) part t rest (buffer, (from, bytes)) refl g f
    ] refl e

-- ---- in a list

renewed : (p : Past) (res : ℕ) → was_discarded p res ≡ true → was_renewed p res ≡ true
unfolding was_discarded was_renewed
renewed [] res e = absurd cc
renewed (d ∷ p) res e = elim (or_cases (discards res d.deed) (was_discarded p res) e) [
  | inl f ↦ or_left (makes res d.deed || discards res d.deed) (was_renewed p res)
      (or_right (makes res d.deed) (discards res d.deed) f)
  | inr f ↦ or_right (makes res d.deed || discards res d.deed) (was_renewed p res) (renewed p res f)
]

unbound_in_list : (n : ℕ) (past : Past) (ds : List Deed) (r : ResRange)
    → was_discarded (then_done 0 [] ds) r.res ≡ true → is_bound (then_done 0 [] ds) r ≡ false
    → is_bound (then_done n past ds) r ≡ false
unbound_in_list n past ds r e f =
    is_bound_then n 0 past ds r
    ∙ ap (λ t. t || (not (was_renewed (then_done 0 [] ds) r.res) && is_bound past r)) f
    ∙ ap (λ t. not t && is_bound past r) (renewed (then_done 0 [] ds) r.res e)

over_listed : (n : ℕ) (s : State) (list : ℕ) → StateFits s.objects → ListsRight s.objects
    → HasFirst s.objects.contexts → (part : List Turn) (t : Turn) (rest : List Turn) (buffer from : ℕ)
    (bytes : List ℕ)
    → list_items n s.past (list_start s.objects) (calls_of_list s.objects list) ≡ part ++ t ∷ rest
    → overs t ≡ Some (buffer, (from, bytes)) → Overwrites n s.objects.buffers s.past part buffer from bytes
unfolding overs over
over_listed n s list fits right first part t rest buffer from bytes e f =
    let o : Objects = s.objects in
    let cs : List Numbered = calls_of_list o list in
    let start : StartOf o = start_of o first in
    let x : Context = record { bindings = default_bindings; recorded = start.recorded } in
    elim (cut_list n s.past o o.queries x start.others cs (listed_fit o list fits) (listed_writes o list right) part
    t rest (sym (ap (λ (k : Objects). list_items n s.past k cs) start.is) ∙ e)) [
      | inl last ↦ none_some (overs t) (buffer, (from, bytes)) (ap overs last) f
      | inr c ↦ in_list c
    ]
  where
    in_list : CutAt n s.past s.objects default_bindings (calls_of_list s.objects list) part t
        → Overwrites n s.objects.buffers s.past part buffer from bytes
    in_list c =
        let by = over_means s.past c.now c.set c.call.call buffer from bytes (sym (ap overs c.is) ∙ f) in
        let own : CallRight s.objects (past_of_list s.objects c.done) (calls.MapWrite by.res by.mode from bytes) =
        subst (λ (k : Call). CallRight s.objects (past_of_list s.objects c.done) k) by.is
        (listed_right s.objects list right c.done c.call c.back c.are) in
        let checked = own.1 by.is_over in
        record {
          done = deeds_of_list s.objects c.done;
          does = c.does;
          res = by.res;
          lives = own.0;
          made = by.made;
          unbound = unbound_in_list n s.past (deeds_of_list s.objects c.done)
              (record { res = by.res; from = from; to = from + length bytes }) checked.0 checked.1;
        }

-- ---- all calls

overwrites : (n : ℕ) (s : State) (x : ℕ) (c : Call) → Passed (call_checks s.objects s.past x c)
    → StateFits s.objects → ListsRight s.objects → HasFirst s.objects.contexts
    → (part : List Turn) (t : Turn) (rest : List Turn) (buffer from : ℕ) (bytes : List ℕ)
    → turns_by_place (place_of c) n s x c ≡ part ++ t ∷ rest → overs t ≡ Some (buffer, (from, bytes))
    → Overwrites n s.objects.buffers s.past part buffer from bytes
unfolding overs over
overwrites n s x (calls.MapRead res flag offset len) p fits right first part t rest buffer from bytes e f =
    unover (Asked n _ _ _) part t rest (buffer, (from, bytes)) refl e f
overwrites n s x (calls.GetData query flag) p fits right first part t rest buffer from bytes e f =
    unover (Asked n _ _ _) part t rest (buffer, (from, bytes)) refl e f
overwrites n s x calls.Flush p fits right first part t rest buffer from bytes e f =
    unover (Flushed n) part t rest (buffer, (from, bytes)) refl e f
overwrites n s x (calls.ExecuteList list flag) p fits right first part t rest buffer from bytes e f =
    over_listed n s list fits right first part t rest buffer from bytes e f
overwrites n s x (calls.FinishList list) p fits right first part t rest buffer from bytes e f =
    unover (Went n) part t rest (buffer, (from, bytes)) refl e f
overwrites n s x (calls.Buffer id size usage bind misc stride first_bytes) p fits right first part t rest buffer
    from bytes e f =
    unover (Item n n true (Create n first_bytes) []) part t rest (buffer, (from, bytes)) refl e f
overwrites n s x (calls.View view res kind form components start count) p fits right first part t rest buffer from
    bytes e f =
    unover (Item n n true Set_state []) part t rest (buffer, (from, bytes)) refl e f
overwrites n s x (calls.CreateShader id words) p fits right first part t rest buffer from bytes e f =
    unover (Item n n true Create_shader []) part t rest (buffer, (from, bytes)) refl e f
overwrites n s x (calls.Query id sort) p fits right first part t rest buffer from bytes e f =
    unover (Item n n true Set_state []) part t rest (buffer, (from, bytes)) refl e f
overwrites n s x (calls.Destroy class id) p fits right first part t rest buffer from bytes e f =
    let play : Play = if class == 1 then Destroy (maker s.past id) else Set_state in
    let none : over play ≡ None =
    elim (class == 1) as (λ b. over (if b then Destroy (maker s.past id) else Set_state) ≡ None)
    [ true ↦ refl | false ↦ refl ] in
    unover (Item n n true play []) part t rest (buffer, (from, bytes)) none e f
overwrites n s x c p fits right first part t rest buffer from bytes e f =
    over_each n s x c p part t rest buffer from bytes e f

over_is : (call item : ℕ) (ends : Bool) (buffer from : ℕ) (bytes : List ℕ) (bound : List Range)
    → overs (Item call item ends (No_overwrite buffer from bytes) bound) ≡ Some (buffer, (from, bytes))
unfolding overs over
over_is call item ends buffer from bytes bound = refl

refused_over : (n : ℕ) → overs (Refused n) ≡ None
unfolding overs
refused_over n = refl

pub overwrites_at : (log : List Issued) (n : ℕ) (part : List Turn) (call item : ℕ) (ends : Bool) (buffer from : ℕ)
    (bytes : List ℕ) (bound : List Range) (rest : List Turn)
    → turns_of log (suc n) ≡ part ++ Item call item ends (No_overwrite buffer from bytes) bound ∷ rest
    → Overwrites (suc n) (after_calls log n).objects.buffers (after_calls log n).past part buffer from bytes
overwrites_at log n part call item ends buffer from bytes bound rest =
    one (after_calls log n) (slice_get log n) (state_fits log n) (lists_right log n) (has_first log n)
    (Item call item ends (No_overwrite buffer from bytes) bound) (over_is call item ends buffer from bytes bound)
  where
    unless : (s : State) (i : Issued) (v : Option Refusal) → verdict_in s i ≡ v → StateFits s.objects
        → ListsRight s.objects → HasFirst s.objects.contexts → (t : Turn) → overs t ≡ Some (buffer, (from, bytes))
        → turns_unless (suc n) s i v ≡ part ++ t ∷ rest → Overwrites (suc n) s.objects.buffers s.past part buffer
        from bytes
    unless s i (Some why) h fits right first t f e = unover (Refused (suc n)) part t rest (buffer, (from, bytes))
        (refused_over (suc n)) e f
    unless s i None h fits right first t f e =
        overwrites (suc n) s i.context i.call (own_checks s.objects s.past i.context i.call h) fits right first part
        t rest buffer from bytes e f

    one : (s : State) (o : Option Issued) → StateFits s.objects → ListsRight s.objects → HasFirst s.objects.contexts
        → (t : Turn) → overs t ≡ Some (buffer, (from, bytes))
        → turns_in (suc n) s o ≡ part ++ t ∷ rest → Overwrites (suc n) s.objects.buffers s.past part buffer from bytes
    one s None fits right first t f e = absurd (no_turn part t rest e)
    one s (Some i) fits right first t f e = unless s i (verdict_in s i) refl fits right first t f e
