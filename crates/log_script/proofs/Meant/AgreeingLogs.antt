-- After the turns of each call, the state in order shows the Direct3D state.
use Rattle.std.proofs.Common.{◌≡◌, ℕ, zero, suc, ◌≤◌, ◌==◌, Bool, true, false, not, ◌&&◌, List, [], ◌∷◌, length}
use Rattle.std.proofs.Common.{Option, Some, None, refl, sym, ap, ◌∙◌, subst, inl, inr, arith, append-nil}
use Rattle.std.specs.Prelude.{nat_lt, is_some, slice_get, if◌then◌else◌}
use Rattle.std.specs.List.{list_any}
use Rattle.std.proofs.lemmas.Bool.{cases_eq, eqb-true, eq-eqb, ne_eqb, ltb-false}
use Rattle.dx_types.specs.declared.refusal.Refusal.{Refusal}
use Rattle.vk_types.specs.Memory.{Memory as Bytes, range, number_at}
use Rattle.vk_types.specs.Effects.{Meaning}
use Rattle.call_log.specs.Call as calls
use Rattle.call_log.specs.Call.{Call, Issued}
use Rattle.base_lemmas.specs.IdMap.{IdMap, get, insert, remove}
use Rattle.d3d_model.specs.Regions.{filled}
use Rattle.d3d_model.specs.Resource.{size_of}
use Rattle.d3d_model.specs.Binding.{Bindings, default_bindings}
use Rattle.d3d_model.specs.D3dState.{Objects, Memory, Query, Numbered, context_of, bindings_of, calls_of_list}
use Rattle.d3d_model.specs.Past.{Past, then_done, makes}
use Rattle.d3d_model.specs.Stream.{makings, deeds, deeds_of_list, begun_after}
use Rattle.d3d_model.specs.Verdict.{place_of, is_begun_on, query_is_one, call_checks, verdict}
use Rattle.d3d_model.specs.Effect.{played, played_all, recorded_on, list_start}
use Rattle.d3d_model.specs.Memory.{no_counts, run, run_all}
use Rattle.d3d_model.specs.InOrder.{State, accepted, unless_refused, verdict_in, after_call, after_calls}
use Rattle.base_lemmas.proofs.Maps.{get-empty, get_same, get_other}
use Rattle.d3d_model.proofs.Checked.{Passed}
use Rattle.d3d_model.proofs.Pasts.{list_makes_none}
use Rattle.d3d_model.proofs.Sized.{Sized, sized, length-filled}
use Rattle.d3d_model.proofs.Listed.{own_checks}
use Rattle.core_model.specs.Script.{Script, InOrder, Create, Destroy, Set_state, Turn, Passed as Went, at_start}
use Rattle.core_model.specs.Script.{put_bytes, play_in_order, in_order}
use Rattle.core_model.proofs.Steps.Turning.{in_order-append}
use Rattle.log_script.specs.Makers.{maker}
use Rattle.log_script.specs.Showing.{Shows}
use Rattle.log_script.specs.Turns.{item_of, list_items, turns_by_place, turns_unless, turns_in, turns_of}
use Rattle.log_script.specs.LogScript.{shape_by, shape_unless, shape_in, shape_made, meaning_of, turns_upto, script_of}
use Rattle.log_script.specs.Standing.{CallStands}
use Rattle.log_script.specs.Agreeing.{Agrees}
use Rattle.log_script.proofs.Meant.ByteLists.{number_is, filled_at}
use Rattle.log_script.proofs.Meant.Showing.{shows_whole}
use Rattle.log_script.proofs.Owed.BufferSteps.{maker_then}
use Rattle.log_script.proofs.Owed.BufferMakers.{AllMade, all_made, none_some, one_removed, one_maker}
use Rattle.log_script.proofs.Owed.LiveBuffers.{no_turns, next_turns}
use Rattle.log_script.proofs.Owed.FittingCalls.{own_fits, default_fits}
use Rattle.log_script.proofs.Owed.FittingStates.{same_objects, owns_go_on, listed_fits, fits_with}
use Rattle.log_script.proofs.Owed.FittingLogs.{state_fits}
use Rattle.log_script.proofs.Owed.RecordedCalls.{All, Recorded}
use Rattle.log_script.proofs.Owed.StandingCalls.{accepted_stands, list_same, lists_stand}
use Rattle.log_script.proofs.Owed.WholeViews.{whole_views}
use Rattle.log_script.proofs.Owed.QueryMaps.{flag}
use Rattle.log_script.proofs.Owed.QueryLists.{Ready, ListInTurn, ListsInTurn, ready_on, lists_in_turn}
use Rattle.log_script.proofs.Owed.QueriesInTurn.{calls_have}
use Rattle.log_script.proofs.Meant.AgreeingWrites.{put_elsewhere, live_of, Alike}
use Rattle.log_script.proofs.Meant.AgreeingQueries.{created_query}
use Rattle.log_script.proofs.Meant.AgreeingContexts.{start_slots, all_slots_at, shaders_known}
use Rattle.log_script.proofs.Meant.AgreeingPlays.{whole_words, Known, play_alike}
use Rattle.log_script.proofs.Meant.AgreeingLists.{items_alike}

-- ---- makers

-- another past with the same makers
remade : (past past' : Past) (qs : IdMap Query) (m : Memory) (w : InOrder)
    → ((res : ℕ) → maker past' res ≡ maker past res) → Alike past qs m w → Alike past' qs m w
remade past past' qs m w same h = record {
  shown = λ id b e. subst (λ (k : ℕ). Shows w.bytes k b) (sym (same id)) (h.shown id b e);
  ran = h.ran;
  begun = h.begun;
  counted = h.counted;
}

no_deeds : (n : ℕ) (past : Past) (qs : IdMap Query) (m : Memory) (w : InOrder) → Alike past qs m w
    → Alike (then_done n past []) qs m w
no_deeds n past qs m w h = remade past (then_done n past []) qs m w (λ res. maker_then n past [] res refl) h

maker_made : (n : ℕ) (past : Past) (id size usage bind misc stride : ℕ) (bytes : List ℕ) (res : ℕ)
    → maker (then_done n past (makings (calls.Buffer id size usage bind misc stride bytes))) res
    ≡ (if id == res then n else maker past res)
unfolding maker then_done
maker_made n past id size usage bind misc stride bytes res = refl

-- ---- calls of the device

created_alike : (meaning : Meaning) (script : Script) (n : ℕ) (past past' : Past) (qs : IdMap Query) (m : Memory)
    (w : InOrder) (id size : ℕ) (bytes : List ℕ)
    → ((res : ℕ) → maker past' res ≡ (if id == res then n else maker past res))
    → ((q : ℕ) (b : List ℕ) → get m.bytes q ≡ Some b → maker past q ≡ n → ⊥)
    → script.size n ≡ size → length bytes ≤ size → Alike past qs m w
    → Alike past' qs (record m { bytes = insert m.bytes id (filled size bytes) })
    (play_in_order meaning script (Create n bytes) w)
created_alike meaning script n past past' qs m w id size bytes makers older has fits h =
    let mem' : Bytes = put_bytes (range n 0 (script.size n)) bytes w.bytes in
    let here : Shows mem' n (filled size bytes) =
    subst (λ (k : ℕ). Shows (put_bytes (range n 0 k) bytes w.bytes) n (filled size bytes)) (sym has)
    (shows_whole w.bytes n size (number_at bytes) (filled size bytes) (length-filled size bytes)
    (λ k l. number_is bytes k ∙ sym (filled_at size bytes fits k))) in
    let new : maker past' id ≡ n = makers id ∙ ap (λ (t : Bool). if t then n else maker past id) (eq-eqb id id refl) in
    record {
      shown = λ q b e. elim (cases_eq q id) [
        | inl p ↦
            let same : Some (filled size bytes) ≡ Some b = sym (get_same m.bytes id (filled size bytes))
            ∙ ap (λ (k : ℕ). get (insert m.bytes id (filled size bytes)) k) (sym p) ∙ e in
            subst (λ (k : ℕ). Shows mem' k b) (sym (ap (λ (k : ℕ). maker past' k) p ∙ new))
            (subst (λ (l : List ℕ). Shows mem' n l) (bytes_same (filled size bytes) b same) here)
        | inr apart ↦
            let was : get m.bytes q ≡ Some b = sym (get_other m.bytes id (filled size bytes) q apart) ∙ e in
            let old : maker past' q ≡ maker past q = makers q
            ∙ ap (λ (t : Bool). if t then n else maker past q) (ne_eqb id q (λ s. apart (sym s))) in
            subst (λ (k : ℕ). Shows mem' k b) (sym old) (λ i l. put_elsewhere n 0 (script.size n) (number_at bytes)
            w.bytes (maker past q) i (older q b was) ∙ h.shown q b was i l)
      ];
      ran = h.ran;
      begun = h.begun;
      counted = h.counted;
    }
  where
    bytes_same : (a b : List ℕ) → ◌≡◌ {A = Option (List ℕ)} (Some a) (Some b) → a ≡ b
    bytes_same a b e = cc

destroyed_alike : (t1 t2 t3 t4 : Bool) (meaning : Meaning) (script : Script) (past : Past) (o : Objects)
    (m : Memory) (w : InOrder) (id : ℕ) → Alike past o.queries m w
    → Alike past
    (if t1 then record o { buffers = remove o.buffers id } else if t2 then record o { views = remove o.views id }
    else if t3 then record o { shaders = remove o.shaders id } else if t4 then record o {
      queries =
          remove o.queries id;
    } else record o { lists = remove o.lists id }).queries
    (if t1 then record m { bytes = remove m.bytes id } else m)
    (play_in_order meaning script (if t1 then Destroy (maker past id) else Set_state) w)
destroyed_alike true t2 t3 t4 meaning script past o m w id h =
    record {
      shown = λ q b e. h.shown q b (one_removed m.bytes id q b e);
      ran = h.ran;
      begun = h.begun;
      counted =
          h.counted;
    }
destroyed_alike false true t3 t4 meaning script past o m w id h = h
destroyed_alike false false true t4 meaning script past o m w id h = h
destroyed_alike false false false true meaning script past o m w id h = record {
  shown = h.shown;
  ran = h.ran;
  begun = λ q x e sort is. h.begun q x (one_removed o.queries id q x e) sort is;
  counted = λ q x e sort n is. h.counted q x (one_removed o.queries id q x e) sort n is;
}
destroyed_alike false false false false meaning script past o m w id h = h

-- the bytes of a creation fit the buffer
bytes_fit : (size : ℕ) (bytes : List ℕ) → (nat_lt 0 (length bytes) && not (length bytes == size)) ≡ false
    → length bytes ≤ size
bytes_fit size bytes e = by_tests (length bytes == size) (nat_lt 0 (length bytes)) refl refl e
  where
    by_tests : (same some : Bool) → (length bytes == size) ≡ same → nat_lt 0 (length bytes) ≡ some
        → (some && not same) ≡ false → length bytes ≤ size
    by_tests true some f g h = omega (arith, eqb-true (length bytes) size f)
    by_tests false true f g h = absurd cc
    by_tests false false f g h = omega (arith, ltb-false 0 (length bytes) g)

-- ---- what is known behind each call

known_at : (log : List Issued) (n : ℕ) → Known log (script_of log) (after_calls log n).past (after_calls log n).objects
known_at log n = record {
  settled = record {
    apart = λ id other s t e f same. one_maker log n (after_calls log n).objects.buffers (after_calls log n).past
        (all_made log n) id other (ap is_some e) (ap is_some f) same;
    sizes = λ id s e. ap size_of (all_made log n id s e).shape;
  };
  fits = state_fits log n;
  slots = all_slots_at log n;
  whole = λ id v e. whole_words v (whole_views log n id v e);
  shaders = shaders_known log n;
}

-- the same where a list starts
known_start : (log : List Issued) (script : Script) (past : Past) (o : Objects) → Known log script past o
    → Known log script past (list_start o)
known_start log script past o h = record {
  settled = record { apart = h.settled.apart; sizes = h.settled.sizes };
  fits = fits_with o 0 default_bindings (default_fits o) h.fits;
  slots = start_slots o h.slots;
  whole = h.whole;
  shaders = h.shaders;
}

module _ (log : List Issued) (script : Script) (n before : ℕ) (s : State) (x : ℕ)
    (known : Known log script s.past s.objects) (sized : Sized s.objects s.memory)
    (made : AllMade log before s.objects.buffers s.past) (later : n ≡ suc before)
    (stand : Recorded (CallStands s.objects) s.objects) (turn : ListsInTurn s.objects) where
  each_alike : (c : Call) (w : InOrder) → Passed (call_checks s.objects s.past x c) → CallStands s.objects c
      → Alike s.past s.objects.queries s.memory w
      → Alike (then_done n s.past (if x == 0 then deeds s.objects (bindings_of s.objects 0) c else []))
      (if x == 0 then played n s.objects c else recorded_on n s.objects x c).queries
      (if x == 0 then run s.objects s.memory c else s.memory)
      (in_order (meaning_of log) script (if x == 0 then item_of n n true s.past s.objects c ∷ [] else Went n ∷
      []) w)
  each_alike c w p stands h =
      let b : Bindings = bindings_of s.objects 0 in
      let ready : Ready s.objects.queries (λ q. is_begun_on s.objects x q) c = ready_on s.objects s.past x c p in
      elim (x == 0) as
      (λ t. Ready s.objects.queries (λ q. if t then flag (get s.objects.queries q) else begun_after q false
      (context_of s.objects x).recorded) c
      → Alike (then_done n s.past (if t then deeds s.objects b c else []))
      (if t then played n s.objects c else recorded_on n s.objects x c).queries
      (if t then run s.objects s.memory c else s.memory) (in_order (meaning_of log) script
      (if t then item_of n n true s.past s.objects c ∷ [] else Went n ∷ []) w)) [
        | true ↦ λ r.
            remade s.past (then_done n s.past (deeds s.objects b c)) (played n s.objects c).queries
            (run s.objects s.memory c)
            (in_order (meaning_of log) script (item_of n n true s.past s.objects c ∷ []) w)
            (λ res. maker_then n s.past (deeds s.objects b c) res
            (sym (ap (list_any (makes res)) (append-nil (deeds s.objects b c)))
            ∙ list_makes_none res s.objects b (record { number = 0; call = c } ∷ [])))
            (play_alike log script s.past n s.objects s.memory w known sized h c
            (own_fits s.objects s.past x c known.fits.buffers p) stands r)
        | false ↦ λ r. no_deeds n s.past s.objects.queries s.memory w h
      ] ready

  accepted_alike : (c : Call) (w : InOrder) → shape_made log n ≡ shape_by c
      → script.size n ≡ size_of (shape_made log n) → verdict s.objects s.past (record { context = x; call = c })
      ≡ None
      → Alike s.past s.objects.queries s.memory w
      → Alike (accepted n s x c).past (accepted n s x c).objects.queries (accepted n s x c).memory
      (in_order (meaning_of log) script (turns_by_place (place_of c) n s x c) w)
  accepted_alike (calls.Buffer id size usage bind misc stride bytes) w shape has e h =
      let p = own_checks s.objects s.past x (calls.Buffer id size usage bind misc stride bytes) e in
      created_alike (meaning_of log) script n s.past (then_done n s.past
      (makings (calls.Buffer id size usage bind misc stride bytes))) s.objects.queries s.memory w id size bytes
      (λ res. maker_made n s.past id size usage bind misc stride bytes res)
      (λ q b f same. let l = live_of s.objects s.memory sized q b f in let k = (made q l.0 l.1).last in
      let none : ⊥ = omega (arith, k, same, later) in none)
      (has ∙ ap size_of shape) (bytes_fit size bytes p.1.1.1.1.0) h
  accepted_alike (calls.View view res kind form components first count) w shape has e h =
      no_deeds n s.past s.objects.queries s.memory w h
  accepted_alike (calls.CreateShader id words) w shape has e h = no_deeds n s.past s.objects.queries s.memory w h
  accepted_alike (calls.Query id sort) w shape has e h =
      let m' : Memory = no_counts s.memory id in
      let qs : IdMap Query = insert s.objects.queries id (record { sort = sort; begun = false; ended = None }) in
      no_deeds n s.past qs m' w (created_query (meaning_of log) script s.past s.objects.queries s.memory w h id sort)
  accepted_alike (calls.Destroy class id) w shape has e h =
      no_deeds n s.past _ _ _ (destroyed_alike (class == 1) (class == 2) (class == 3) (class == 4) (meaning_of log)
      script s.past s.objects s.memory w id h)
  accepted_alike (calls.MapRead res flag offset len) w shape has e h = no_deeds n s.past s.objects.queries s.memory w h
  accepted_alike (calls.GetData query flag) w shape has e h = no_deeds n s.past s.objects.queries s.memory w h
  accepted_alike calls.Flush w shape has e h = no_deeds n s.past s.objects.queries s.memory w h
  accepted_alike (calls.ExecuteList list flag) w shape has e h =
      let p = own_checks s.objects s.past x (calls.ExecuteList list flag) e in
      let cs : List Numbered = calls_of_list s.objects list in
      let o : Objects = list_start s.objects in
      let start : IdMap Query = s.objects.queries in
      remade s.past (then_done n s.past (deeds_of_list s.objects cs)) (played_all n o cs).queries
      (run_all n o s.memory cs) (in_order (meaning_of log) script (list_items n s.past o cs) w)
      (λ res. maker_then n s.past (deeds_of_list s.objects cs) res (list_makes_none res s.objects default_bindings cs))
      (items_alike log script s.past n start (λ q. query_is_one (get start q) (λ q. q.begun)) o s.memory w [] cs
      (known_start log script s.past s.objects known) sized h
      (owns_go_on s.objects o cs (same_objects s.objects o refl refl refl) (listed_fits s.objects list known.fits))
      (list_same s.objects o cs (record { buffers = λ id f. refl; views = λ id f. refl })
      (calls_have (λ l. All (CallStands s.objects) l) (get s.objects.lists list) tt
      (λ l f. stand.listed list l f)))
      (λ q f. f) (λ q f. refl) p.1.1.0 (calls_have (ListInTurn start) (get s.objects.lists list) tt
      (λ l f. turn.1 list l f)))
  accepted_alike (calls.FinishList list) w shape has e h = no_deeds n s.past s.objects.queries s.memory w h
  accepted_alike c w shape has e h = each_alike c w (own_checks s.objects s.past x c e)
      (accepted_stands s (record { context = x; call = c }) e) h

-- ---- all calls

none_alike : (log : List Issued) → Alike (after_calls log zero).past (after_calls log zero).objects.queries
    (after_calls log zero).memory at_start
unfolding after_calls
none_alike log = record {
  shown = λ id b e. absurd (none_some _ b (get-empty (List ℕ) id) e);
  ran = refl;
  begun = λ id q e sort is. absurd (none_some _ q (get-empty Query id) e);
  counted = λ id q e sort n is. absurd (none_some _ q (get-empty Query id) e);
}

next_alike : (log : List Issued) (n : ℕ) (w : InOrder) → Alike (after_calls log n).past
    (after_calls log n).objects.queries (after_calls log n).memory w
    → Alike (after_calls log (suc n)).past (after_calls log (suc n)).objects.queries
    (after_calls log (suc n)).memory (in_order (meaning_of log) (script_of log) (turns_of log (suc n)) w)
unfolding after_calls
next_alike log n w h = by_call (slice_get log n) refl
  where
    s : State
    s = after_calls log n

    unless : (i : Issued) (v : Option Refusal) → verdict_in s i ≡ v → shape_made log (suc n) ≡ shape_unless i.call v
        → Alike (unless_refused (suc n) s i v).past (unless_refused (suc n) s i v).objects.queries
        (unless_refused (suc n) s i v).memory
        (in_order (meaning_of log) (script_of log) (turns_unless (suc n) s i v) w)
    unless i (Some why) e shape = h
    unless i None e shape =
        accepted_alike log (script_of log) (suc n) n s i.context (known_at log n) (sized log n) (all_made log n)
        refl (lists_stand log n) (lists_in_turn log n) i.call w shape refl e h

    by_call : (o : Option Issued) → slice_get log n ≡ o
        → Alike (after_call (suc n) s o).past (after_call (suc n) s o).objects.queries
        (after_call (suc n) s o).memory (in_order (meaning_of log) (script_of log) (turns_in (suc n) s o) w)
    by_call None e = h
    by_call (Some i) e = unless i (verdict_in s i) refl (ap (λ (o : Option Issued). shape_in s o) e)

pub alike_at : (log : List Issued) (n : ℕ)
    → Alike (after_calls log n).past (after_calls log n).objects.queries (after_calls log n).memory
    (in_order (meaning_of log) (script_of log) (turns_upto log n) at_start)
alike_at log zero =
    subst (λ (ts : List Turn). Alike (after_calls log zero).past (after_calls log zero).objects.queries
    (after_calls log zero).memory (in_order (meaning_of log) (script_of log) ts at_start))
    (sym (no_turns log)) (none_alike log)
alike_at log (suc n) =
    let joined = ap (λ (ts : List Turn). in_order (meaning_of log) (script_of log) ts at_start) (next_turns log n)
    ∙ in_order-append (meaning_of log) (script_of log) (turns_upto log n) (turns_of log (suc n)) at_start in
    subst (λ (w : InOrder). Alike (after_calls log (suc n)).past (after_calls log (suc n)).objects.queries
    (after_calls log (suc n)).memory w) (sym joined)
    (next_alike log n (in_order (meaning_of log) (script_of log) (turns_upto log n) at_start) (alike_at log n))

pub agrees_at : (log : List Issued) (n : ℕ) → Agrees (after_calls log n)
    (in_order (meaning_of log) (script_of log) (turns_upto log n) at_start)
agrees_at log n = let h = alike_at log n in record {
  bytes = h.shown;
  ran = h.ran;
  begun = h.begun;
  counted =
      h.counted;
}
