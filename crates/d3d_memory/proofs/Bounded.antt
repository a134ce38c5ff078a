-- What a log of calls keeps within limits: the size of each buffer, the length of each list, the number of invocations.
use Rattle.std.proofs.Common.{◌≡◌, ℕ, zero, suc, ◌+◌, ◌*◌, ◌≤◌, Bool, true, false, not, ◌&&◌, ◌||◌, cond, List, [], ◌∷◌, ◌++◌, length, Option, Some, None, refl, sym, ap, ◌∙◌, subst, arith, inl, inr, ◌⊎◌}
use Rattle.std.specs.Prelude.{nat_le, nat_lt, slice_get, slice_set, slice_index, slice_index_or, ◌==◌, replicate, if◌then◌else◌}
use Rattle.std.specs.Option.{option_map}
use Rattle.std.specs.List.{flat_map}
use Rattle.std.specs.Ordering.{nat_cmp, eq_by_cmp}
use Rattle.std.proofs.lemmas.Bool.{ltb-false, leb-false, leb-true}
use Rattle.std.proofs.lemmas.List.{length-append}
use Rattle.dx_types.specs.declared.refusal.Refusal.{Refusal}
use Rattle.dx_types.specs.declared.refusal.Refusal.TheVariants.{WrongContext, TooMuchMemory}
use Rattle.dx_types.specs.declared.shape.Shape.{Shape}
use Rattle.dx_types.specs.declared.range.ResRange.{ResRange}
use Rattle.call_log.specs.Call as calls
use Rattle.call_log.specs.Call.{Call, Issued}
use Rattle.call_log.specs.Grammar.{Frame, IsLog, calls_of, spell, end_record}
use Rattle.shader_model.specs.Shader.{Program, shader_of}
use Rattle.shader_model.specs.Invocation.{Slots}
use Rattle.shader_model.specs.Dispatch.{volume, count_of}
use Rattle.base_lemmas.specs.IdMap.{empty, get, remove}
use Rattle.d3d_model.specs.Check.{Check}
use Rattle.d3d_model.specs.Resource.{Buffers, usage_from}
use Rattle.d3d_model.specs.Regions.{filled}
use Rattle.d3d_model.specs.Binding.{Bindings, BoundView, Predicate, default_bindings}
use Rattle.d3d_model.specs.Shader.{ran_if, ran_dispatch, declared_by}
use Rattle.d3d_model.specs.D3dState.{Objects, Memory, Numbered, Context, default_context, context_of, bindings_of, with_bindings, calls_of_list, calls_if, bytes_of, bytes_if, bound_view, words_set}
use Rattle.d3d_model.specs.Past.{Past}
use Rattle.d3d_model.specs.Stream.{set_by}
use Rattle.d3d_model.specs.Verdict.{Place, OnDevice, OnImmediate, OnEach, OnDeferred, place_of, is_wrong_at, is_too_long, buffer_checks, call_checks, verdict}
use Rattle.d3d_model.specs.Effect.{queries_after, played, played_all, list_start, recorded_on, finished, objects_after}
use Rattle.d3d_model.specs.Memory.{uavs_shown, slots_seen, write_if, write, copied, discarded, cleared, pattern, is_skipped, unless_skipped, stored, dispatched, counts_at, made, run, run_all, run_at, immediate_run}
use Rattle.d3d_model.specs.InOrder.{State, unless_refused, verdict_in, after_call, after_calls, before_call}
use Rattle.base_lemmas.proofs.Maps.{get-empty, get-insert, get-remove}
use Rattle.d3d_model.proofs.Checked.{Passed, all_passed}
use Rattle.d3d_model.proofs.Sized.{sized, same_buffers_all, same_run}
use Rattle.d3d_memory.specs.Limits.{HasRoom, InLimits}
use Rattle.d3d_memory.proofs.Lengths.{same_length}

some_back : {X : Type 0} (x y : X) → Some x ≡ Some y → x ≡ y
some_back x y e = cc

-- ---- the size of each buffer

abbrev Small : Option Shape → Type 0
Small o = (s : Shape) → o ≡ Some s → s.size ≤ 16777216

abbrev AllSmall : Buffers → Type 0
AllSmall b = (id : ℕ) → Small (get b id)

third_fails : (a b c d : Bool) → a || b || c || d ≡ false → c ≡ false
third_fails true b c d e = absurd cc
third_fails false true c d e = absurd cc
third_fails false false true d e = absurd cc
third_fails false false false d e = refl

buffer_small : (o : Objects) (past : Past) (x id size usage bind misc stride : ℕ) (bytes : List ℕ)
    → verdict o past (record { context = x; call = calls.Buffer id size usage bind misc stride bytes }) ≡ None → size ≤ 16777216
buffer_small o past x id size usage bind misc stride bytes e =
    let h = all_passed ((is_wrong_at OnDevice x, WrongContext) ∷ (buffer_checks o id size usage bind misc stride bytes ++ (false, TooMuchMemory) ∷ [])) e in
    ltb-false 16777216 size (third_fails (size == 0) _ (nat_lt 16777216 size) _ h.1.1.1.1.0)

small_inserted : (t : Bool) (shape : Shape) (p : Option Shape) → shape.size ≤ 16777216 → Small p → Small (cond t (Some shape) p)
small_inserted true shape p fits h s e = subst (λ (k : Shape). k.size ≤ 16777216) (some_back shape s e) fits
small_inserted false shape p fits h s e = h s e

small_removed : (t : Bool) (p : Option Shape) → Small p → Small (cond t None p)
small_removed true p h s e = absurd cc
small_removed false p h s e = h s e

small_destroyed : (t1 t2 t3 t4 : Bool) (o : Objects) (id : ℕ) → AllSmall o.buffers
    → AllSmall (if t1 then record o { buffers = remove o.buffers id } else if t2 then record o { views = remove o.views id } else if t3 then record o { shaders = remove o.shaders id } else if t4 then record o { queries = remove o.queries id } else record o { lists = remove o.lists id }).buffers
small_destroyed true t2 t3 t4 o id h = λ q. subst Small (sym (get-remove o.buffers id q)) (small_removed (eq_by_cmp nat_cmp q id) (get o.buffers q) (h q))
small_destroyed false true t3 t4 o id h = h
small_destroyed false false true t4 o id h = h
small_destroyed false false false true o id h = h
small_destroyed false false false false o id h = h

small_each : (n : ℕ) (o : Objects) (x : ℕ) (c : Call) → AllSmall o.buffers → AllSmall (if x == 0 then played n o c else recorded_on n o x c).buffers
small_each n o x c h = elim (x == 0) as (λ b. AllSmall (if b then played n o c else recorded_on n o x c).buffers) [ true ↦ h | false ↦ h ]

small_after : (n : ℕ) (o : Objects) (past : Past) (x : ℕ) (c : Call) → verdict o past (record { context = x; call = c }) ≡ None → AllSmall o.buffers → AllSmall (objects_after n o x c).buffers
small_after n o past x (calls.Buffer id size usage bind misc stride bytes) e h = λ q.
    subst Small (sym (get-insert o.buffers id (record { size = size; usage = usage_from usage; bind = bind; misc = misc; stride = stride }) q))
    (small_inserted (eq_by_cmp nat_cmp q id) _ (get o.buffers q) (buffer_small o past x id size usage bind misc stride bytes e) (h q))
small_after n o past x (calls.Destroy class id) e h = small_destroyed (class == 1) (class == 2) (class == 3) (class == 4) o id h
small_after n o past x (calls.View view res kind form components first count) e h = h
small_after n o past x (calls.CreateShader id words) e h = h
small_after n o past x (calls.Query id sort) e h = h
small_after n o past x (calls.MapRead res flag offset len) e h = h
small_after n o past x (calls.GetData query flag) e h = h
small_after n o past x calls.Flush e h = h
small_after n o past x (calls.ExecuteList list flag) e h =
    rw (same_buffers_all n (list_start o) (calls_of_list o list)) h
small_after n o past x (calls.FinishList list) e h = h
small_after n o past x c e h = small_each n o x c h

none_small : (o : Option Shape) → o ≡ None → Small o
none_small o e s f = absurd cc

all_small : (log : List Issued) (n : ℕ) → AllSmall (after_calls log n).objects.buffers
unfolding after_calls
all_small log zero = λ id. none_small (get (empty {X = Shape}) id) (get-empty Shape id)
all_small log (suc n) = after_one (suc n) (after_calls log n) (slice_get log n) (all_small log n)
  where
    unless : (n : ℕ) (s : State) (i : Issued) (v : Option Refusal) → verdict_in s i ≡ v → AllSmall s.objects.buffers → AllSmall (unless_refused n s i v).objects.buffers
    unless n s i (Some why) e h = h
    unless n s i None e h = small_after n s.objects s.past i.context i.call e h

    after_one : (n : ℕ) (s : State) (o : Option Issued) → AllSmall s.objects.buffers → AllSmall (after_call n s o).objects.buffers
    after_one n s None h = h
    after_one n s (Some i) h = unless n s i (verdict_in s i) refl h

short_if : (p : Option (List ℕ)) (q : Option Shape) → option_map (λ (l : List ℕ). length l) p ≡ option_map (λ (s : Shape). s.size) q → Small q → length (bytes_if p) ≤ 16777216
short_if None q e h = omega arith
short_if (Some bytes) None e h = absurd cc
short_if (Some bytes) (Some s) e h = omega (arith, some_back (length bytes) s.size e, h s refl)

bytes_in_limit : (log : List Issued) (n id : ℕ) → length (bytes_of (after_calls log n).memory id) ≤ 16777216
bytes_in_limit log n id = short_if (get (after_calls log n).memory.bytes id) (get (after_calls log n).objects.buffers id) (sized log n id) (all_small log n id)

-- ---- the length of each list

record ShortLists (o : Objects) : Type 0 where
  opened : (x : ℕ) → length (context_of o x).recorded ≤ 65536
  listed : (l : ℕ) (cs : List Numbered) → get o.lists l ≡ Some cs → length cs ≤ 65536

set_at : (P : Context → Type 0) (xs : List Context) (i j : ℕ) (v d : Context) → P v → P (slice_index_or xs j d) → P (slice_index_or (slice_set xs i v) j d)
set_at P [] i j v d pv h = h
set_at P (x ∷ xs) zero zero v d pv h = pv
set_at P (x ∷ xs) zero (suc j) v d pv h = h
set_at P (x ∷ xs) (suc i) zero v d pv h = h
set_at P (x ∷ xs) (suc i) (suc j) v d pv h = set_at P xs i j v d pv h

abbrev IsShort : Context → Type 0
IsShort c = length c.recorded ≤ 65536

short_with : (o : Objects) (x : ℕ) (b : Bindings) → ShortLists o → ShortLists (with_bindings o x b)
short_with o x b h = record {
  opened = λ y. set_at IsShort o.contexts x y (record { bindings = b; recorded = (context_of o x).recorded }) default_context (h.opened x) (h.opened y);
  listed = h.listed;
}

short_played : (n : ℕ) (o : Objects) (c : Call) → ShortLists o → ShortLists (played n o c)
short_played n o c h =
    short_with (record o { queries = queries_after n o.queries c }) 0 (set_by o (bindings_of o 0) c) (record { opened = h.opened; listed = h.listed })

short_played_all : (n : ℕ) (o : Objects) (cs : List Numbered) → ShortLists o → ShortLists (played_all n o cs)
short_played_all n o [] h = h
short_played_all n o (c ∷ cs) h = short_played_all n (played n o c.call) cs (short_played n o c.call h)

short_recorded : (n : ℕ) (o : Objects) (x : ℕ) (c : Call) → nat_le 65536 (length (context_of o x).recorded) ≡ false → ShortLists o → ShortLists (recorded_on n o x c)
short_recorded n o x c room h =
    let more : List Numbered = record { number = n; call = c } ∷ [] in
    record {
      opened = λ y. set_at IsShort o.contexts x y _ default_context
          (omega (arith, leb-false 65536 (length (context_of o x).recorded) room, length-append (context_of o x).recorded more))
          (h.opened y);
      listed = h.listed;
    }

short_each : (n : ℕ) (o : Objects) (x : ℕ) (c : Call) → not (x == 0) && nat_le 65536 (length (context_of o x).recorded) ≡ false → ShortLists o
    → ShortLists (if x == 0 then played n o c else recorded_on n o x c)
short_each n o x c room h =
    elim (x == 0) as (λ b. not b && nat_le 65536 (length (context_of o x).recorded) ≡ false → ShortLists (if b then played n o c else recorded_on n o x c)) [
      | true ↦ λ e. short_played n o c h
      | false ↦ λ e. short_recorded n o x c e h
    ] room

one_value : {X : Type 0} (b : Bool) (v w : X) (o : Option X) → cond b (Some v) o ≡ Some w → (v ≡ w) ⊎ (o ≡ Some w)
one_value true v w o e = inl (some_back v w e)
one_value false v w o e = inr e

short_finished : (o : Objects) (x list : ℕ) → ShortLists o → ShortLists (finished o x list)
short_finished o x list h = record {
  opened = λ y. set_at IsShort o.contexts x y default_context default_context (omega arith) (h.opened y);
  listed = λ l cs e. elim (one_value (eq_by_cmp nat_cmp l list) (context_of o x).recorded cs (get o.lists l) (sym (get-insert o.lists list (context_of o x).recorded l) ∙ e)) [
    | inl f ↦ subst (λ (k : List Numbered). length k ≤ 65536) f (h.opened x)
    | inr f ↦ h.listed l cs f
  ];
}

one_removed : {X : Type 0} (b : Bool) (o : Option X) (v : X) → cond b None o ≡ Some v → o ≡ Some v
one_removed true o v e = absurd cc
one_removed false o v e = e

short_destroyed : (t1 t2 t3 t4 : Bool) (o : Objects) (id : ℕ) → ShortLists o
    → ShortLists (if t1 then record o { buffers = remove o.buffers id } else if t2 then record o { views = remove o.views id } else if t3 then record o { shaders = remove o.shaders id } else if t4 then record o { queries = remove o.queries id } else record o { lists = remove o.lists id })
short_destroyed true t2 t3 t4 o id h = record { opened = h.opened; listed = h.listed }
short_destroyed false true t3 t4 o id h = record { opened = h.opened; listed = h.listed }
short_destroyed false false true t4 o id h = record { opened = h.opened; listed = h.listed }
short_destroyed false false false true o id h = record { opened = h.opened; listed = h.listed }
short_destroyed false false false false o id h = record {
  opened = h.opened;
  listed = λ l cs e. h.listed l cs (one_removed (eq_by_cmp nat_cmp l id) (get o.lists l) cs (sym (get-remove o.lists id l) ∙ e));
}

short_after : (n : ℕ) (o : Objects) (x : ℕ) (c : Call) → is_too_long o x (place_of c) ≡ false → ShortLists o → ShortLists (objects_after n o x c)
short_after n o x (calls.Buffer id size usage bind misc stride bytes) e h = record { opened = h.opened; listed = h.listed }
short_after n o x (calls.View view res kind form components first count) e h = record { opened = h.opened; listed = h.listed }
short_after n o x (calls.CreateShader id words) e h = record { opened = h.opened; listed = h.listed }
short_after n o x (calls.Query id sort) e h = record { opened = h.opened; listed = h.listed }
short_after n o x (calls.Destroy class id) e h = short_destroyed (class == 1) (class == 2) (class == 3) (class == 4) o id h
short_after n o x (calls.MapRead res flag offset len) e h = h
short_after n o x (calls.GetData query flag) e h = h
short_after n o x calls.Flush e h = h
short_after n o x (calls.ExecuteList list flag) e h =
    short_with (played_all n (list_start o) (calls_of_list o list)) 0 (if flag == 1 then bindings_of o 0 else default_bindings)
    (short_played_all n (list_start o) (calls_of_list o list) (short_with o 0 default_bindings h))
short_after n o x (calls.FinishList list) e h = short_finished o x list h
short_after n o x c e h = short_each n o x c e h

passed_behind : (cs ds : List Check) → Passed (cs ++ ds) → Passed ds
passed_behind [] ds p = p
passed_behind (c ∷ cs) ds p = passed_behind cs ds p.1

not_too_long : (o : Objects) (past : Past) (x : ℕ) (c : Call) → verdict o past (record { context = x; call = c }) ≡ None → is_too_long o x (place_of c) ≡ false
not_too_long o past x c e =
    (passed_behind (call_checks o past x c) ((is_too_long o x (place_of c), TooMuchMemory) ∷ [])
    (all_passed ((is_wrong_at (place_of c) x, WrongContext) ∷ (call_checks o past x c ++ (is_too_long o x (place_of c), TooMuchMemory) ∷ [])) e).1).0

short_default : (k x : ℕ) → IsShort (slice_index_or (replicate k default_context) x default_context)
short_default zero x = omega arith
short_default (suc k) zero = omega arith
short_default (suc k) (suc x) = short_default k x

short_none : (o : Option (List Numbered)) (cs : List Numbered) → o ≡ None → o ≡ Some cs → length cs ≤ 65536
short_none o cs e f = absurd cc

short_lists : (log : List Issued) (n : ℕ) → ShortLists (after_calls log n).objects
unfolding after_calls
short_lists log zero = record {
  opened = λ x. short_default 17 x;
  listed = λ l cs e. short_none (get (empty {X = List Numbered}) l) cs (get-empty (List Numbered) l) e;
}
short_lists log (suc n) = after_one (suc n) (after_calls log n) (slice_get log n) (short_lists log n)
  where
    unless : (n : ℕ) (s : State) (i : Issued) (v : Option Refusal) → verdict_in s i ≡ v → ShortLists s.objects → ShortLists (unless_refused n s i v).objects
    unless n s i (Some why) e h = h
    unless n s i None e h = short_after n s.objects i.context i.call (not_too_long s.objects s.past i.context i.call e) h

    after_one : (n : ℕ) (s : State) (o : Option Issued) → ShortLists s.objects → ShortLists (after_call n s o).objects
    after_one n s None h = h
    after_one n s (Some i) h = unless n s i (verdict_in s i) refl h

short_list : (o : Option (List Numbered)) → ((cs : List Numbered) → o ≡ Some cs → length cs ≤ 65536) → length (calls_if o) ≤ 65536
short_list None h = omega arith
short_list (Some cs) h = h cs refl

-- ---- the number of invocations

few_by : (a b c d : Bool) (k : ℕ) → (d ≡ true → k ≤ 16777216) → (if a && b && c && d then k else 0) ≤ 16777216
few_by false b c d k h = omega arith
few_by true false c d k h = omega arith
few_by true true false d k h = omega arith
few_by true true true false k h = omega arith
few_by true true true true k h = h refl

-- a dispatch runs at most 16,777,216 invocations
pub count_in_limit : (p : Program) (groups : List ℕ) → count_of p groups ≤ 16777216
count_in_limit p groups =
    few_by (nat_le (slice_index groups 0) 65535) (nat_le (slice_index groups 1) 65535) (nat_le (slice_index groups 2) 65535) (nat_le (volume groups * volume p.group) 16777216) (volume groups * volume p.group) (λ e. leb-true (volume groups * volume p.group) 16777216 e)

few_ran : (words groups : List ℕ) (slots : Slots) → (ran_dispatch words groups slots).count ≤ 16777216
unfolding ran_dispatch
few_ran words groups slots = by_program (shader_of words)
  where
    by_program : (p : Option Program) → (ran_if p groups slots).count ≤ 16777216
    by_program None = omega arith
    by_program (Some p) = count_in_limit p groups

ran_written : (o : Option (List ℕ)) (m : Memory) (res from : ℕ) (piece : List ℕ) → (write_if o m res from piece).ran ≡ m.ran
ran_written None m res from piece = refl
ran_written (Some old) m res from piece = refl

ran_write : (m : Memory) (res from : ℕ) (piece : List ℕ) → (write m res from piece).ran ≡ m.ran
ran_write m res from piece = ran_written (get m.bytes res) m res from piece

-- parts that are put back count nothing
pub ran_stored : (m : Memory) (slots : List (Option ResRange)) (words : List (List ℕ)) → (stored m slots words).ran ≡ m.ran
ran_stored m [] words = refl
ran_stored m (slot ∷ slots) [] = refl
ran_stored m (None ∷ slots) (w ∷ words) = ran_stored m slots words
ran_stored m (Some r ∷ slots) (w ∷ words) = ran_stored (write m r.res r.from _) slots words ∙ ran_write m r.res r.from _

ran_dispatched : (o : Objects) (b : Bindings) (groups : List ℕ) (m : Memory) → (dispatched o b groups m).ran ≤ m.ran + 16777216
ran_dispatched o b groups m =
    let words = words_set o b in
    let ds = declared_by words in
    let r = ran_dispatch words groups (slots_seen o m b ds) in
    omega (arith, ran_stored m (uavs_shown b ds) r.slots.writes, few_ran words groups (slots_seen o m b ds))

-- at most so many invocations more
ran_unless : (m : Memory) (p : Predicate) (after : Memory) → after.ran ≤ m.ran + 16777216 → (unless_skipped m p after).ran ≤ m.ran + 16777216
ran_unless m p after h = elim (is_skipped m p) as (λ b. (if b then m else after).ran ≤ m.ran + 16777216) [ true ↦ omega arith | false ↦ h ]

ran_kept : (m after : Memory) → after.ran ≡ m.ran → after.ran ≤ m.ran + 16777216
ran_kept m after e = omega (arith, e)

ran_cleared : (m : Memory) (v : Option BoundView) (values : List ℕ) → (cleared m v values).ran ≡ m.ran
ran_cleared m None values = refl
ran_cleared m (Some v) values = ran_write m v.shape.res (v.shape.first * v.shape.unit) (pattern v.shape values)

ran_run : (o : Objects) (m : Memory) (c : Call) → (run o m c).ran ≤ m.ran + 16777216
ran_run o m (calls.Dispatch x y z) = ran_unless m (bindings_of o 0).predicate _ (ran_dispatched o (bindings_of o 0) (x ∷ y ∷ z ∷ []) m)
ran_run o m (calls.DispatchIndirect res offset) = ran_unless m (bindings_of o 0).predicate _ (ran_dispatched o (bindings_of o 0) (counts_at m res offset) m)
ran_run o m (calls.CopyRegion target target_offset source source_offset len) =
    ran_unless m (bindings_of o 0).predicate _ (ran_kept m (copied m target target_offset source source_offset len) (ran_write m target target_offset _))
ran_run o m (calls.Copy target source) = ran_unless m (bindings_of o 0).predicate _ (ran_kept m (write m target 0 (bytes_of m source)) (ran_write m target 0 _))
ran_run o m (calls.Update res offset bytes) = ran_unless m (bindings_of o 0).predicate _ (ran_kept m (write m res offset bytes) (ran_write m res offset bytes))
ran_run o m (calls.ClearUav view v0 v1 v2 v3) =
    let values = v0 ∷ v1 ∷ v2 ∷ v3 ∷ [] in
    ran_unless m (bindings_of o 0).predicate _ (ran_kept m (cleared m (bound_view o view) values) (ran_cleared m (bound_view o view) values))
ran_run o m (calls.MapWrite res mode offset bytes) =
    ran_kept m (run o m (calls.MapWrite res mode offset bytes)) (elim (mode == 0) as (λ b. (if b then discarded m res offset bytes else write m res offset bytes).ran ≡ m.ran) [
      | true ↦ ran_write (write m res 0 (filled (length (bytes_of m res)) [])) res offset bytes ∙ ran_write m res 0 _
      | false ↦ ran_write m res offset bytes
    ])
ran_run o m _ = omega arith

ran_run_all : (n : ℕ) (o : Objects) (m : Memory) (cs : List Numbered) → (run_all n o m cs).ran ≤ m.ran + 16777216 * length cs
ran_run_all n o m [] = omega arith
ran_run_all n o m (c ∷ cs) = omega (arith, ran_run o m c.call, ran_run_all n (played n o c.call) (run o m c.call) cs)

ran_made : (m : Memory) (c : Call) → (made m c).ran ≡ m.ran
ran_made m (calls.Buffer id size usage bind misc stride bytes) = refl
ran_made m (calls.Query id sort) = refl
ran_made m (calls.Destroy class id) = elim (class == 1) as (λ b. (if b then record m { bytes = remove m.bytes id } else m).ran ≡ m.ran) [ true ↦ refl | false ↦ refl ]
ran_made m _ = refl

ran_immediate : (n : ℕ) (o : Objects) (m : Memory) (c : Call) → ShortLists o → (immediate_run n o m c).ran ≤ m.ran + 1099511627776
ran_immediate n o m (calls.ExecuteList list flag) h =
    omega (arith, ran_run_all n (list_start o) m (calls_of_list o list), short_list (get o.lists list) (h.listed list))
ran_immediate n o m _ h = omega arith

ran_at : (p : Place) (n : ℕ) (o : Objects) (m : Memory) (x : ℕ) (c : Call) → ShortLists o → (run_at p n o m x c).ran ≤ m.ran + 1099511627776
ran_at OnDevice n o m x c h = omega (arith, ran_made m c)
ran_at OnImmediate n o m x c h = ran_immediate n o m c h
ran_at OnEach n o m x c h = elim (x == 0) as (λ b. (if b then run o m c else m).ran ≤ m.ran + 1099511627776) [ true ↦ omega (arith, ran_run o m c) | false ↦ omega arith ]
ran_at OnDeferred n o m x c h = omega arith

-- a call runs no more invocations than a list of 65,536 dispatches
ran_in_limit : (log : List Issued) (n : ℕ) → (after_calls log n).memory.ran ≤ 1099511627776 * n
unfolding after_calls
ran_in_limit log zero = omega arith
ran_in_limit log (suc n) = after_one (suc n) n (after_calls log n) (slice_get log n) (short_lists log n) (ran_in_limit log n)
  where
    unless : (n k : ℕ) (s : State) (i : Issued) (v : Option Refusal) → ShortLists s.objects → s.memory.ran ≤ 1099511627776 * k → (unless_refused n s i v).memory.ran ≤ 1099511627776 * suc k
    unless n k s i (Some why) short h = omega (arith, h)
    unless n k s i None short h = omega (arith, h, ran_at (place_of i.call) n s.objects s.memory i.context i.call short)

    after_one : (n k : ℕ) (s : State) (o : Option Issued) → ShortLists s.objects → s.memory.ran ≤ 1099511627776 * k → (after_call n s o).memory.ran ≤ 1099511627776 * suc k
    after_one n k s None short h = omega (arith, h)
    after_one n k s (Some i) short h = unless n k s i (verdict_in s i) short h

-- ---- each state that a call of a log meets

pub in_limits : (log : List Issued) (n : ℕ) → n ≤ 8388607 → InLimits (before_call log n).memory
in_limits log zero h = record { bytes = λ id. omega (arith, ap (λ (o : Option (List ℕ)). length (bytes_if o)) (get-empty (List ℕ) id)); ran = omega arith }
in_limits log (suc n) h = record { bytes = bytes_in_limit log n; ran = omega (arith, ran_in_limit log n) }

spelled_len : (frames : List Frame) → 8 * length frames ≤ length (flat_map spell frames)
spelled_len [] = omega arith
spelled_len (f ∷ frames) = omega (arith, length-append (spell f) (flat_map spell frames), spelled_len frames)

-- a log has at most 8,388,606 calls
pub few_calls : (bytes : List ℕ) (frames : List Frame) → IsLog bytes frames → length bytes ≤ 67108864 → length frames ≤ 8388606
few_calls bytes frames log small =
    omega (arith, small, ap length log.spelled, length-append (flat_map spell frames) end_record, spelled_len frames)

-- the state that a call of a log meets, and the last one
pub log_in_limits : (bytes : List ℕ) (frames : List Frame) (n : ℕ) → IsLog bytes frames → length bytes ≤ 67108864 → n ≤ length frames + 1 → InLimits (before_call (calls_of frames) n).memory
log_in_limits bytes frames n log small h = in_limits (calls_of frames) n (omega (arith, h, few_calls bytes frames log small))

-- ---- while a list is played

-- a call that is played takes the room of one
pub room_after : (o : Objects) (m : Memory) (c : Call) (k : ℕ) → HasRoom m (suc k) → HasRoom (run o m c) k
room_after o m c k h = record {
  bytes = λ id. omega (arith, h.bytes id, same_length m (run o m c) id (same_run o m c));
  ran = omega (arith, h.ran, ran_run o m c);
}

pub in_room : (m : Memory) (k : ℕ) → HasRoom m k → InLimits m
in_room m k h = record { bytes = h.bytes; ran = omega (arith, h.ran) }

room : (log : List Issued) (n : ℕ) → n ≤ 8388607 → (list : ℕ) → HasRoom (before_call log n).memory (length (calls_of_list (before_call log n).objects list))
room log zero h list = record {
  bytes = (in_limits log zero h).bytes;
  ran = omega (arith, short_list (get (empty {X = List Numbered}) list) (λ cs e. short_none (get (empty {X = List Numbered}) list) cs (get-empty (List Numbered) list) e));
}
room log (suc n) h list = record {
  bytes = bytes_in_limit log n;
  ran = omega (arith, ran_in_limit log n, short_list (get (after_calls log n).objects.lists list) ((short_lists log n).listed list));
}

-- the state that a call of a log meets has room for the calls of each live list
pub log_has_room : (bytes : List ℕ) (frames : List Frame) (n : ℕ) → IsLog bytes frames → length bytes ≤ 67108864 → n ≤ length frames + 1
    → (list : ℕ) → HasRoom (before_call (calls_of frames) n).memory (length (calls_of_list (before_call (calls_of frames) n).objects list))
log_has_room bytes frames n log small h list = room (calls_of frames) n (omega (arith, h, few_calls bytes frames log small)) list
