-- The turns of a call bind, write and destroy what lives when it comes.
use Rattle.std.proofs.Common.{◌≡◌, ℕ, zero, suc, ◌+◌, ◌≤◌, Bool, true, false, not, ◌&&◌, ◌||◌, List, [], ◌∷◌, length}
use Rattle.std.proofs.Common.{Option, Some, None, refl, sym, ap, subst, arith, ltb-false, eqb-true}
use Rattle.std.specs.Prelude.{◌==◌, nat_lt, slice_get, is_some, unwrap_or, if◌then◌else◌}
use Rattle.std.specs.List.{AllByRecursion}
use Rattle.dx_types.specs.declared.refusal.Refusal.{Refusal}
use Rattle.dx_types.specs.declared.refusal.Refusal.TheVariants.{BadUsage}
use Rattle.dx_types.specs.declared.range.Range.{Range}
use Rattle.dx_types.specs.declared.range.ResRange.{ResRange}
use Rattle.dx_types.specs.declared.shape.Shape.{Shape}
use Rattle.vk_types.specs.declared.command.Groups.TheVariants as groups
use Rattle.vk_types.specs.declared.command.Work.{Work}
use Rattle.vk_types.specs.declared.command.Work.TheVariants as work
use Rattle.call_log.specs.Call as calls
use Rattle.call_log.specs.Call.{Call, Issued}
use Rattle.base_lemmas.specs.IdMap.{IdMap, get}
use Rattle.d3d_model.specs.Check.{Check}
use Rattle.d3d_model.specs.Resource.{is_staging, size_of, is_one}
use Rattle.d3d_model.specs.Binding as binding
use Rattle.d3d_model.specs.Binding.{Bindings, BoundView, Predicate, default_bindings}
use Rattle.d3d_model.specs.D3dState.{Objects, Shader, Numbered, buffer_of, bindings_of, bound_view, calls_of_list}
use Rattle.d3d_model.specs.Stream.{range_of, binds}
use Rattle.d3d_model.specs.Verdict.{is_live_buffer, buffer_is, passes_end, Place, OnDevice, OnImmediate, OnEach}
use Rattle.d3d_model.specs.Verdict.{OnDeferred, place_of, call_checks, unused_buffer, unused_view, unused_shader}
use Rattle.d3d_model.specs.Verdict.{unused_query, known_list}
use Rattle.d3d_model.specs.Effect.{played, list_start}
use Rattle.d3d_model.specs.InOrder.{State, verdict_in, after_calls, before_call}
use Rattle.d3d_model.specs.ReplyText.{sort_if, query_value}
use Rattle.d3d_model.proofs.Checked.{Passed}
use Rattle.d3d_model.proofs.Named.{none_of}
use Rattle.d3d_model.proofs.Listed.{left_of, own_checks}
use Rattle.core_model.specs.Script.{Set_state, Discard, No_overwrite, Stage, Command, Destroy, Mark_query, Count}
use Rattle.core_model.specs.Script.{Constant, Passed as Turn_passed}
use Rattle.log_script.specs.Makers.{maker, bytes_from}
use Rattle.log_script.specs.Plays.{skips, condition, predicated, staged, dispatch, clear, clears, copies, whole}
use Rattle.log_script.specs.Plays.{counts_invocations, marks, maps, play_of, making_of}
use Rattle.log_script.specs.Turns.{ask_of, item_of, list_items, immediate_turns, turns_by_place, turns_unless}
use Rattle.log_script.specs.Turns.{turns_in, turns_of}
use Rattle.log_script.specs.LogScript.{shape_by, shape_unless, shape_in, shape_made}
use Rattle.core_model.specs.Lawful.{play_shaders}
use Rattle.log_script.specs.Standing.{CallStands}
use Rattle.log_script.specs.Fitting.{LivesAndFits}
use Rattle.log_script.specs.FittingTurns.{RunsLive, BoundFits, AskFits, ReadFits, WriteFits, PlayFits, TurnFits}
use Rattle.log_script.proofs.Owed.StayingFit.{all_by, RangesFit, MapFits, OwnFits, OwnsFit}
use Rattle.log_script.proofs.Owed.FittingCalls.{not_false, positive, live_buffer, BuffersFit, own_fits, default_fits}
use Rattle.log_script.proofs.Owed.FittingCalls.{binds_fit}
use Rattle.log_script.proofs.Owed.FittingStates.{StateFits, context_fits, same_objects, owns_go_on, listed_fits}
use Rattle.log_script.proofs.Owed.FittingStates.{fits_with, fits_played}
use Rattle.log_script.proofs.Owed.FittingLogs.{state_fits}
use Rattle.log_script.proofs.Owed.FilledPlays.{play_filled, making_filled}
use Rattle.log_script.proofs.Owed.FormedPlays.{play_formed, play_runs, making_formed, making_runs}
use Rattle.log_script.proofs.Owed.SetShaders.{HasShader, HaveShaders, accepted_shaded, list_shaded}
use Rattle.log_script.proofs.Owed.StandingCalls.{accepted_stands, list_same}
use Rattle.log_script.proofs.Owed.RecordedCalls.{All}
use Rattle.log_script.proofs.Owed.ReadyStates.{Known, ReadyFor, StateReady, meets_at, known_played, known_start}
use Rattle.log_script.proofs.Owed.ReadyStates.{played_shader, start_shader, state_ready}

no_bytes_fit : (s : State) → BoundFits s []
no_bytes_fit s = record { ranges = []; named = refl; fit = tt }

-- ---- one call that may stand in a list, in objects o whose buffers are those that live when call n comes

few_bytes : (o : Objects) (res from len : ℕ) → BuffersFit o → RangesFit o (range_of res from len) → len ≤ 16777216
few_bytes o res from len live h =
    let r : ResRange = record { res = res; from = from; to = from + len } in
    elim (len == 0) as (λ b. (len == 0) ≡ b → RangesFit o (if b then [] else r ∷ []) → len ≤ 16777216) [
      | true ↦ λ e g. omega (arith, eqb-true len 0 e)
      | false ↦ λ e g. omega (arith, g.0.fits, (live res g.0.shape g.0.lives).few)
    ] refl h

module _ (s : State) (n : ℕ) (made : Option Shape) where
  -- what a predicate may skip
  command_fits : (p : Predicate) (w : Work) → PlayFits s n made (predicated s.past p w)
  command_fits p w =
      elim (skips p) as (λ b. PlayFits s n made (if b then Set_state else Command w (condition s.past p)))
      [ true ↦ tt | false ↦ tt ]

  clears_fit : (p : Predicate) (v : Option BoundView) (v0 v1 v2 v3 : ℕ)
      → PlayFits s n made (clears s.past p v v0 v1 v2 v3)
  clears_fit p None v0 v1 v2 v3 = tt
  clears_fit p (Some v) v0 v1 v2 v3 = command_fits p (clear s.past v.shape v0 v1 v2 v3)

  copies_fit : (p : Predicate) (target target_offset source source_offset len : ℕ)
      → PlayFits s n made (copies s.past p target target_offset source source_offset len)
  copies_fit p target target_offset source source_offset len =
      let w : Work = work.Copy (bytes_from s.past source source_offset len)
      (bytes_from s.past target target_offset len) in
      elim (len == 0) as (λ b. PlayFits s n made (if b then Set_state else predicated s.past p w))
      [ true ↦ tt | false ↦ command_fits p w ]

  marks_fit : (o : Objects) (query : ℕ) (begins : Bool) → PlayFits s n made (marks o query begins)
  marks_fit o query begins = elim (counts_invocations (get o.queries query)) as
      (λ b. PlayFits s n made (if b then Mark_query query begins else Set_state)) [ true ↦ tt | false ↦ tt ]

  staged_fits : (p : Predicate) (bytes : List ℕ) (target : Range) → target.to ≡ target.from + length bytes
      → length bytes ≤ 16777216 → PlayFits s n made (staged s.past p bytes target)
  staged_fits p [] target e few = tt
  staged_fits p (x ∷ xs) target e few =
      elim (skips p) as
      (λ b. PlayFits s n made (if b then Stage (x ∷ xs) None None else Stage (x ∷ xs) (Some target)
      (condition s.past p))) [
        | true ↦ (few, λ r f. absurd cc)
        | false ↦ (
          few,
          λ r f. subst (λ (q : Range). q.to ≡ q.from + length (x ∷ xs))
              (ap (λ o. unwrap_or o target) f) e,
        )
      ]

  module _ (o : Objects) (was : (id : ℕ) (shape : Shape) → buffer_of o id ≡ Some shape
      → buffer_of s.objects id ≡ Some shape) where
    maps_fit : (res mode offset : ℕ) (bytes : List ℕ) → BuffersFit o → MapFits o res mode offset (length bytes)
        → PlayFits s n made (maps s.past res mode offset bytes)
    maps_fit res mode offset bytes live h =
        let target : Range = bytes_from s.past res offset (length bytes) in
        let writes : (mode == 2) ≡ false → WriteFits s (maker s.past res) (offset + length bytes) =
        λ other. record {
          id = res;
          shape = h.shape;
          named = refl;
          lives = was res h.shape h.lives;
          fits =
              h.fits;
          dynamic = h.dynamic other;
        } in
        elim (mode == 0) as (λ b. (mode == 0) ≡ b → PlayFits s n made
        (if b then Discard (maker s.past res) offset bytes else if mode == 1 then No_overwrite
        (maker s.past res) offset bytes else staged s.past binding.Never bytes target)) [
          | true ↦ λ e. writes (ap (λ (m : ℕ). m == 2) (eqb-true mode 0 e))
          | false ↦ λ e. elim (mode == 1) as (λ b. (mode == 1) ≡ b
              → PlayFits s n made (if b then No_overwrite (maker s.past res) offset bytes else staged s.past
              binding.Never bytes target)) [
                | true ↦ λ f. writes (ap (λ (m : ℕ). m == 2) (eqb-true mode 1 f))
                | false ↦ λ f. staged_fits binding.Never bytes target refl
                    (omega (arith, h.fits, (live res h.shape h.lives).few))
              ] refl
        ] refl

    play_fits : (b : Bindings) (c : Call) → BuffersFit o → OwnFits o c → PlayFits s n made (play_of s.past o b c)
    play_fits b (calls.Dispatch x y z) live own = command_fits b.predicate (dispatch s.past o b (groups.Direct x y z))
    play_fits b (calls.DispatchIndirect res offset) live own =
        command_fits b.predicate (dispatch s.past o b (groups.Indirect (bytes_from s.past res offset 12)))
    play_fits b (calls.CopyRegion target target_offset source source_offset len) live own =
        copies_fit b.predicate target target_offset source source_offset len
    play_fits b (calls.Copy target source) live own = command_fits b.predicate
        (work.Copy (whole s.past o source) (whole s.past o target))
    play_fits b (calls.Update res offset bytes) live own =
        staged_fits b.predicate bytes (bytes_from s.past res offset (length bytes)) refl
        (few_bytes o res offset (length bytes) live own)
    play_fits b (calls.ClearUav view v0 v1 v2 v3) live own = clears_fit b.predicate (bound_view o view) v0 v1 v2 v3
    play_fits b (calls.Begin query) live own = marks_fit o query true
    play_fits b (calls.EndQuery query) live own = marks_fit o query false
    play_fits b (calls.MapWrite res mode offset bytes) live own = maps_fit res mode offset bytes live own
    play_fits b _ live own = tt

    item_fits : (call item : ℕ) (ends : Bool) (c : Call) → StateFits o → OwnFits o c → ReadyFor s.past o c
        → o.shaders ≡ s.objects.shaders → TurnFits s n made (item_of call item ends s.past o c)
    item_fits call item ends c h own ready shaders =
        let b : Bindings = bindings_of o 0 in
        let back : (r : ResRange) → LivesAndFits o r → LivesAndFits s.objects r =
        λ r f. record { has_byte = f.has_byte; shape = f.shape; lives = was r.res f.shape f.lives; fits = f.fits } in
        let set = (context_fits o 0 h).set in
        record {
          binds = record {
            ranges = binds o b c;
            named = refl;
            fit =
                all_by (LivesAndFits o) (LivesAndFits s.objects) back (binds o b c) (binds_fit o b c h.views own set);
          };
          plays = play_fits b c h.buffers own;
          filled = play_filled s.past o b c h own set;
          formed = play_formed s.past o b (meets_at s.past o h ready.known) c ready.stands;
          runs = subst (λ (m : IdMap Shader). AllByRecursion (RunsLive m) (play_shaders (play_of s.past o b c)))
              shaders (play_runs s.past o b (meets_at s.past o h ready.known) c ready.shader);
        }

  -- a list's items, each in the objects that it meets
  items_fit : (o : Objects) (cs : List Numbered) → ((id : ℕ) (shape : Shape) → buffer_of o id ≡ Some shape
      → buffer_of s.objects id ≡ Some shape) → StateFits o → OwnsFit o cs
      → Known s.past o → All (CallStands o) cs → HaveShaders (bindings_of o 0).shader cs → o.shaders ≡ s.objects.shaders
      → AllByRecursion (TurnFits s n made) (list_items n s.past o cs)
  items_fit o [] was h own known stands has shaders =
      (record { binds = no_bytes_fit s; plays = tt; filled = tt; formed = tt; runs = tt }, tt)
  items_fit o (c ∷ cs) was h own known stands has shaders =
      let next : Objects = played n o c.call in (
        item_fits o was n c.number false c.call h own.0 (record {
          known = known;
          stands = stands.0;
          shader =
              has.0;
        }) shaders,
        items_fit next cs was (fits_played n o c.call own.0 h)
            (owns_go_on o next cs (same_objects o next refl refl refl) own.1)
            (known_played s.past n o c.call known) (list_same o next cs
            (record { buffers = λ id e. refl; views = λ id e. refl }) stands.1)
            (subst (λ sh. HaveShaders sh cs) (sym (played_shader s.past n o c.call known)) has.1) shaders,
      )

  read_fits : (res flag offset len : ℕ) → not (is_live_buffer s.objects res) ≡ false
      → not (buffer_is s.objects res (λ q. is_staging q.usage)) || nat_lt 1 flag ≡ false
      → (len == 0) || passes_end s.objects res offset len ≡ false → ReadFits s (bytes_from s.past res offset len)
  read_fits res flag offset len live staging inside =
      let o : Objects = s.objects in
      let found = live_buffer o res live in
      let is_one_of : Bool = buffer_is o res (λ q. is_staging q.usage) in
      record {
        id = res;
        shape = found.shape;
        named = refl;
        lives = found.lives;
        fits = subst (λ (g : Option Shape). offset + len ≤ size_of g) found.lives
            (ltb-false (size_of (buffer_of o res)) (offset + len)
            (none_of (len == 0) (passes_end o res offset len) inside));
        has_byte = omega (arith, positive len (left_of (len == 0) (passes_end o res offset len) inside));
        staging = subst (λ (g : Option Shape). is_one g (λ q. is_staging q.usage) ≡ true) found.lives
            (not_false is_one_of (left_of (not is_one_of) (nat_lt 1 flag) staging));
      }

  asks_no_bytes : (query sort : ℕ) → AskFits s (ask_of query sort)
  asks_no_bytes query sort =
      elim (sort == 2) as (λ b. AskFits s (if b then Count query else Constant (query_value sort 0)))
      [ true ↦ tt | false ↦ tt ]

  immediate_turns_fit : (x : ℕ) (c : Call) → Passed (call_checks s.objects s.past x c) → StateFits s.objects
      → StateReady s → AllByRecursion (TurnFits s n made) (immediate_turns n s c)
  immediate_turns_fit x (calls.MapRead res flag offset len) p h r =
      (read_fits res flag offset len p.0 p.1.0 p.1.1.0, tt)
  immediate_turns_fit x (calls.GetData query flag) p h r =
      (asks_no_bytes query (sort_if (get s.objects.queries query)), tt)
  immediate_turns_fit x calls.Flush p h r = (tt, tt)
  immediate_turns_fit x (calls.ExecuteList list flag) p h r =
      let start : Objects = list_start s.objects in
      let cs = calls_of_list s.objects list in
      items_fit start cs (λ id shape e. e) (fits_with s.objects 0 default_bindings (default_fits s.objects) h)
      (owns_go_on s.objects start cs (same_objects s.objects start refl refl refl) (listed_fits s.objects list h))
      (known_start s.past s.objects r.known) (list_same s.objects start cs
      (record { buffers = λ id e. refl; views = λ id e. refl }) (r.lists list))
      (subst (λ sh. HaveShaders sh cs) (sym (start_shader s.past s.objects r.known))
      (list_shaded s.objects list r.shaded)) refl
  immediate_turns_fit x _ p h r = (tt, tt)

-- ---- calls of the device

first_bytes : (len size : ℕ) → nat_lt 0 len && not (len == size) ≡ false → len ≤ size
first_bytes len size e = elim (len == size) as (λ b. (len == size) ≡ b → nat_lt 0 len && not b ≡ false → len ≤ size) [
  | true ↦ λ f g. omega (arith, eqb-true len size f)
  | false ↦ λ f g. omega (arith, ltb-false 0 len (alone (nat_lt 0 len) g))
] refl e
  where
    alone : (b : Bool) → b && true ≡ false → b ≡ false
    alone true g = absurd cc
    alone false g = refl

destroy_fits : (t : Bool) (s : State) (n id : ℕ) (rest : List Check)
    → Passed (if t then unused_buffer s.objects id else rest)
    → PlayFits s n None (if t then Destroy (maker s.past id) else Set_state)
destroy_fits true s n id rest p = record {
  id = id;
  named = refl;
  lives =
      not_false (is_some (buffer_of s.objects id)) p.0;
}
destroy_fits false s n id rest p = tt

making_fits : (s : State) (n : ℕ) (x : ℕ) (c : Call) → Passed (call_checks s.objects s.past x c)
    → PlayFits s n (shape_by c) (making_of n s.past c)
making_fits s n x (calls.Buffer id size usage bind misc stride bytes) p =
    (refl, first_bytes (length bytes) size p.1.1.1.1.0)
making_fits s n x (calls.Destroy class id) p =
    let o : Objects = s.objects in
    destroy_fits (class == 1) s n id (if class == 2 then unused_view o id else if class == 3 then unused_shader o id
    else if class == 4 then unused_query o id else if class == 5 then known_list o id else (true, BadUsage) ∷
    []) p
making_fits s n x _ p = tt

-- ---- all calls

each_turns_fit : (s : State) (n : ℕ) (made : Option Shape) (x : ℕ) (c : Call) → StateFits s.objects
    → OwnFits s.objects c → StateReady s → CallStands s.objects c → HasShader (bindings_of s.objects x).shader c
    → AllByRecursion (TurnFits s n made) (if x == 0 then item_of n n true s.past s.objects c ∷ [] else Turn_passed n
    ∷ [])
each_turns_fit s n made x c h own r stands has = elim (x == 0) as (λ b. (x == 0) ≡ b
    → AllByRecursion (TurnFits s n made) (if b then item_of n n true s.past s.objects c ∷ [] else Turn_passed n ∷
    [])) [
      | true ↦ λ e.
          let here : HasShader (bindings_of s.objects 0).shader c =
          subst (λ k. HasShader (bindings_of s.objects k).shader c) (eqb-true x 0 e) has in (
            item_fits s n made s.objects (λ id shape e. e) n n true c h own
                (record { known = r.known; stands = stands; shader = here }) refl,
            tt,
          )
      | false ↦ λ e. (tt, tt)
    ] refl

placed_turns_fit : (p : Place) (s : State) (n x : ℕ) (c : Call) → Passed (call_checks s.objects s.past x c)
    → StateFits s.objects → StateReady s → CallStands s.objects c
    → AllByRecursion (TurnFits s n (shape_by c)) (turns_by_place p n s x c)
placed_turns_fit OnDevice s n x c p h r stands = (
  record {
    binds = no_bytes_fit s;
    plays = making_fits s n x c p;
    filled = making_filled n s.past c;
    formed =
        making_formed n s.past c;
    runs = making_runs s.objects.shaders n s.past c;
  },
  tt,
)
placed_turns_fit OnImmediate s n x c p h r stands = immediate_turns_fit s n (shape_by c) x c p h r
placed_turns_fit OnEach s n x c p h r stands = each_turns_fit s n (shape_by c) x c h
    (own_fits s.objects s.past x c h.buffers p) r stands (accepted_shaded s.objects s.past x c p)
placed_turns_fit OnDeferred s n x c p h r stands = (tt, tt)

unless_turns_fit : (s : State) (n : ℕ) (i : Issued) (v : Option Refusal) → verdict_in s i ≡ v → StateFits s.objects
    → StateReady s → AllByRecursion (TurnFits s n (shape_unless i.call v)) (turns_unless n s i v)
unless_turns_fit s n i (Some why) e h r = (tt, tt)
unless_turns_fit s n i None e h r = placed_turns_fit (place_of i.call) s n i.context i.call
    (own_checks s.objects s.past i.context i.call e) h r (accepted_stands s i e)

turns_in_fit : (s : State) (n : ℕ) (o : Option Issued) → StateFits s.objects → StateReady s
    → AllByRecursion (TurnFits s n (shape_in s o)) (turns_in n s o)
turns_in_fit s n None h r = tt
turns_in_fit s n (Some i) h r = unless_turns_fit s n i (verdict_in s i) refl h r

pub turns_fit : (log : List Issued) (n : ℕ) → AllByRecursion (TurnFits (before_call log n) n (shape_made log n))
    (turns_of log n)
turns_fit log zero = tt
turns_fit log (suc n) = turns_in_fit (after_calls log n) (suc n) (slice_get log n) (state_fits log n)
    (state_ready log n)
