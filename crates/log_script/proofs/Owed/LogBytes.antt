-- What the host writes of a script's items are bytes, where the data of the log's calls are.
use Rattle.std.proofs.Common.{◌≡◌, ℕ, zero, suc, ◌-◌, ◌+◌, ◌<◌, Bool, true, false, List, [], ◌∷◌, ◌++◌, length}
use Rattle.std.proofs.Common.{replicate, Option, Some, None, refl, subst, arith}
use Rattle.std.specs.Prelude.{◌==◌, slice_get, if◌then◌else◌}
use Rattle.std.specs.List.{AllByRecursion}
use Rattle.dx_types.specs.declared.range.Range.{Range}
use Rattle.dx_types.specs.declared.refusal.Refusal.{Refusal}
use Rattle.vk_types.specs.declared.command.Work.{Work}
use Rattle.vk_types.specs.declared.command.Work.TheVariants as work
use Rattle.vk_types.specs.declared.command.Groups.TheVariants as groups
use Rattle.call_log.specs.Call as calls
use Rattle.call_log.specs.Call.{Call, Issued}
use Rattle.base_lemmas.specs.IdMap.{get}
use Rattle.d3d_model.specs.Binding as binding
use Rattle.d3d_model.specs.Binding.{Bindings, BoundView, Predicate}
use Rattle.d3d_model.specs.D3dState.{Objects, Numbered, bindings_of, bound_view, calls_of_list}
use Rattle.d3d_model.specs.Effect.{played, list_start}
use Rattle.d3d_model.specs.Verdict.{Place, OnDevice, OnImmediate, OnEach, OnDeferred, place_of}
use Rattle.d3d_model.specs.InOrder.{State, verdict_in, after_calls}
use Rattle.d3d_model.specs.Past.{Past}
use Rattle.core_model.specs.Script.{Play, Discard, No_overwrite, Stage, Command, Destroy, Mark_query, Set_state}
use Rattle.core_model.specs.Script.{Turn, Passed, Script, padded}
use Rattle.core_model.specs.Adding.{length_of}
use Rattle.core_model.specs.HostBytes.{AreBytes, HasBytes, if_some, play_bytes, turn_bytes}
use Rattle.log_script.specs.LogBytes.{CallHasBytes, LogHasBytes}
use Rattle.log_script.specs.LogScript.{script_of}
use Rattle.log_script.specs.Makers.{maker, bytes_from}
use Rattle.log_script.specs.Plays.{skips, condition, predicated, staged, dispatch, clear, clears, copies, whole}
use Rattle.log_script.specs.Plays.{counts_invocations, marks, maps, play_of, making_of}
use Rattle.log_script.specs.Turns.{item_of, list_items, immediate_turns, turns_by_place, turns_unless, turns_in}
use Rattle.log_script.specs.Turns.{turns_of}
use Rattle.log_script.proofs.Owed.StayingFit.{all_append}
use Rattle.log_script.proofs.Owed.EachTurn.{each_turn}
use Rattle.log_script.proofs.Owed.RecordedCalls.{All, Recorded, recorded, of_list}

zeros_small : (n : ℕ) → AreBytes (replicate n 0)
zeros_small zero = tt
zeros_small (suc n) = (omega arith, zeros_small n)

padded_small : (from : ℕ) (bytes : List ℕ) (total : ℕ) → AreBytes bytes → AreBytes (padded from bytes total)
padded_small from bytes total h =
    all_append (λ b. b < 256) (replicate from 0) (bytes ++ replicate (total - (from + length bytes)) 0)
    (zeros_small from)
    (all_append (λ b. b < 256) bytes (replicate (total - (from + length bytes)) 0) h
    (zeros_small (total - (from + length bytes))))

some_small : (l : List ℕ) → AreBytes l → AllByRecursion AreBytes (if_some l)
some_small [] h = tt
some_small (x ∷ l) h = (h, tt)

module _ (script : Script) where
  abbrev PlaySmall : Play → Type 0
  PlaySmall p = AllByRecursion AreBytes (play_bytes script p)

  abbrev TurnSmall : Turn → Type 0
  TurnSmall t = AllByRecursion AreBytes (turn_bytes script t)

  module _ (past : Past) where
    predicated_small : (p : Predicate) (w : Work) → PlaySmall (predicated past p w)
    predicated_small p w = elim (skips p) as (λ b. PlaySmall (if b then Set_state else Command w (condition past p)))
        [ true ↦ tt | false ↦ tt ]

    staged_small : (p : Predicate) (bytes : List ℕ) (target : Range) → AreBytes bytes
        → PlaySmall (staged past p bytes target)
    staged_small p [] target h = tt
    staged_small p (x ∷ xs) target h =
        elim (skips p) as (λ b. PlaySmall (if b then Stage (x ∷ xs) None None else Stage (x ∷ xs) (Some target)
        (condition past p))) [ true ↦ (h, tt) | false ↦ (h, tt) ]

    copies_small : (p : Predicate) (target target_offset source source_offset len : ℕ)
        → PlaySmall (copies past p target target_offset source source_offset len)
    copies_small p target target_offset source source_offset len =
        let w : Work = work.Copy (bytes_from past source source_offset len)
        (bytes_from past target target_offset len) in
        elim (len == 0) as (λ b. PlaySmall (if b then Set_state else predicated past p w))
        [ true ↦ tt | false ↦ predicated_small p w ]

    clears_small : (p : Predicate) (v : Option BoundView) (v0 v1 v2 v3 : ℕ)
        → PlaySmall (clears past p v v0 v1 v2 v3)
    clears_small p None v0 v1 v2 v3 = tt
    clears_small p (Some v) v0 v1 v2 v3 = predicated_small p (clear past v.shape v0 v1 v2 v3)

    marks_small : (o : Objects) (query : ℕ) (begins : Bool) → PlaySmall (marks o query begins)
    marks_small o query begins = elim (counts_invocations (get o.queries query)) as
        (λ b. PlaySmall (if b then Mark_query query begins else Set_state)) [ true ↦ tt | false ↦ tt ]

    maps_small : (res mode offset : ℕ) (bytes : List ℕ) → AreBytes bytes → PlaySmall (maps past res mode offset bytes)
    maps_small res mode offset bytes h =
        let target : Range = bytes_from past res offset (length bytes) in
        elim (mode == 0) as (λ b. PlaySmall (if b then Discard (maker past res) offset bytes else if mode == 1
        then No_overwrite (maker past res) offset bytes else staged past binding.Never bytes target)) [
          | true ↦ some_small (padded offset bytes (script.size (maker past res)))
              (padded_small offset bytes (script.size (maker past res)) h)
          | false ↦ elim (mode == 1) as (λ b. PlaySmall (if b then No_overwrite (maker past res) offset bytes else
              staged past binding.Never bytes target))
              [ true ↦ some_small bytes h | false ↦ staged_small binding.Never bytes target h ]
        ]

    play_small : (o : Objects) (b : Bindings) (c : Call) → CallHasBytes c → PlaySmall (play_of past o b c)
    play_small o b (calls.Dispatch x y z) h = predicated_small b.predicate (dispatch past o b (groups.Direct x y z))
    play_small o b (calls.DispatchIndirect res offset) h =
        predicated_small b.predicate (dispatch past o b (groups.Indirect (bytes_from past res offset 12)))
    play_small o b (calls.CopyRegion target target_offset source source_offset len) h =
        copies_small b.predicate target target_offset source source_offset len
    play_small o b (calls.Copy target source) h =
        predicated_small b.predicate (work.Copy (whole past o source) (whole past o target))
    play_small o b (calls.Update res offset bytes) h =
        staged_small b.predicate bytes (bytes_from past res offset (length bytes)) h
    play_small o b (calls.ClearUav view v0 v1 v2 v3) h = clears_small b.predicate (bound_view o view) v0 v1 v2 v3
    play_small o b (calls.Begin query) h = marks_small o query true
    play_small o b (calls.EndQuery query) h = marks_small o query false
    play_small o b (calls.MapWrite res mode offset bytes) h = maps_small res mode offset bytes h
    play_small o b _ h = tt

    making_small : (n : ℕ) (c : Call) → CallHasBytes c → PlaySmall (making_of n past c)
    making_small n (calls.Buffer id size usage bind misc stride bytes) h =
        some_small (padded 0 bytes (length_of script n)) (padded_small 0 bytes (length_of script n) h)
    making_small n (calls.CreateShader id words) h = tt
    making_small n (calls.Destroy class id) h =
        elim (class == 1) as (λ b. PlaySmall (if b then Destroy (maker past id) else Set_state))
        [ true ↦ tt | false ↦ tt ]
    making_small n _ h = tt

    items_small : (n : ℕ) (o : Objects) (cs : List Numbered) → All CallHasBytes cs
        → AllByRecursion TurnSmall (list_items n past o cs)
    items_small n o [] h = (tt, tt)
    items_small n o (c ∷ cs) h =
        (play_small o (bindings_of o 0) c.call h.0, items_small n (played n o c.call) cs h.1)

  immediate_small : (n : ℕ) (s : State) (c : Call) → Recorded CallHasBytes s.objects
      → AllByRecursion TurnSmall (immediate_turns n s c)
  immediate_small n s (calls.MapRead res flag offset len) r = (tt, tt)
  immediate_small n s (calls.GetData query flag) r = (tt, tt)
  immediate_small n s calls.Flush r = (tt, tt)
  immediate_small n s (calls.ExecuteList list flag) r =
      items_small s.past n (list_start s.objects) (calls_of_list s.objects list) (of_list CallHasBytes s.objects list r)
  immediate_small n s _ r = (tt, tt)

  by_place : (place : Place) (n : ℕ) (s : State) (x : ℕ) (c : Call) → CallHasBytes c
      → Recorded CallHasBytes s.objects → AllByRecursion TurnSmall (turns_by_place place n s x c)
  by_place OnDevice n s x c h r = (making_small s.past n c h, tt)
  by_place OnImmediate n s x c h r = immediate_small n s c r
  by_place OnEach n s x c h r =
      elim (x == 0) as (λ b. AllByRecursion TurnSmall (if b then item_of n n true s.past s.objects c ∷ [] else
      Passed n ∷ []))
      [ true ↦ (play_small s.past s.objects (bindings_of s.objects 0) c h, tt) | false ↦ (tt, tt) ]
  by_place OnDeferred n s x c h r = (tt, tt)

  unless_small : (n : ℕ) (s : State) (i : Issued) (v : Option Refusal) → CallHasBytes i.call
      → Recorded CallHasBytes s.objects → AllByRecursion TurnSmall (turns_unless n s i v)
  unless_small n s i (Some why) h r = (tt, tt)
  unless_small n s i None h r = by_place (place_of i.call) n s i.context i.call h r

  in_small : (n : ℕ) (s : State) (o : Option Issued) → ((i : Issued) → o ≡ Some i → CallHasBytes i.call)
      → Recorded CallHasBytes s.objects → AllByRecursion TurnSmall (turns_in n s o)
  in_small n s None h r = tt
  in_small n s (Some i) h r = unless_small n s i (verdict_in s i) (h i refl) r

got : (P : Issued → Type 0) (log : List Issued) (n : ℕ) (i : Issued) → AllByRecursion P log
    → slice_get log n ≡ Some i → P i
got P [] n i h e = absurd (cc e)
got P (x ∷ log) zero i h e = let same : x ≡ i = cc e in subst P same h.0
got P (x ∷ log) (suc n) i h e = got P log n i h.1 e

pub scripts_have_bytes : (log : List Issued) → LogHasBytes log → HasBytes (script_of log)
scripts_have_bytes log h front t back e = (each_turn (λ n t. TurnSmall (script_of log) t) log each front t back e).1
  where
    each : (n : ℕ) → AllByRecursion (TurnSmall (script_of log)) (turns_of log n)
    each zero = tt
    each (suc n) =
        in_small (script_of log) (suc n) (after_calls log n) (slice_get log n)
        (λ i e. got (λ i. CallHasBytes i.call) log n i h e)
        (recorded CallHasBytes log (λ m i e v. got (λ i. CallHasBytes i.call) log m i h e) n)
