-- Each item of a script binds what it touches, and binds nothing where it makes no command.
use Rattle.std.proofs.Common.{◌≡◌, ℕ, suc, Bool, true, false, List, [], ◌∷◌, ◌++◌, Option, Some, None, refl}
use Rattle.std.specs.Prelude.{◌==◌, if◌then◌else◌}
use Rattle.std.specs.List.{AllByRecursion}
use Rattle.dx_types.specs.declared.refusal.Refusal.{Refusal}
use Rattle.dx_types.specs.declared.range.Range.{Range}
use Rattle.call_log.specs.Call as calls
use Rattle.call_log.specs.Call.{Call, Issued}
use Rattle.d3d_model.specs.D3dState.{Objects, Numbered, bindings_of, calls_of_list}
use Rattle.d3d_model.specs.Effect.{played, list_start}
use Rattle.d3d_model.specs.Past.{Past}
use Rattle.d3d_model.specs.Verdict.{Place, OnDevice, OnImmediate, OnEach, OnDeferred, place_of}
use Rattle.d3d_model.specs.InOrder.{State, verdict_in, before_call, call_at}
use Rattle.d3d_model.proofs.Listed.{own_checks}
use Rattle.core_model.specs.Script.{Play, Destroy, Set_state, Turn, Refused, Passed, Flushed, Asked, Item}
use Rattle.log_script.specs.Makers.{maker}
use Rattle.log_script.specs.Plays.{making_of}
use Rattle.log_script.specs.Turns.{item_of, list_items, immediate_turns, turns_by_place, turns_unless, turns_in}
use Rattle.log_script.specs.Turns.{turns_of}
use Rattle.log_script.specs.LogScript.{script_of}
use Rattle.log_script.proofs.Owed.TurnStates.{script_turn}
use Rattle.log_script.proofs.Owed.PlaysBound.{Bound, Fit, set_bound, item_bound}
use Rattle.log_script.proofs.Owed.RecordedCalls.{All}
use Rattle.log_script.proofs.Owed.MadeBuffers.{live_made}
use Rattle.log_script.proofs.Owed.CopiesAndMaps.{fit_if, listed_fit}

-- an item binds as its play does
abbrev ItemBound : ℕ → State → Turn → Type 0
ItemBound n s (Refused call) = Unit {0}
ItemBound n s (Passed call) = Unit {0}
ItemBound n s (Flushed call) = Unit {0}
ItemBound n s (Asked call ask used may_pend) = Unit {0}
ItemBound n s (Item call item ends play bound) = Bound play bound

made_bound : (n : ℕ) (past : Past) (c : Call) → Bound (making_of n past c) []
made_bound n past (calls.Buffer id size usage bind misc stride bytes) =
    record { quiet = λ e. refl; touched = λ b i e. e }
made_bound n past (calls.CreateShader id words) = record { quiet = λ e. refl; touched = λ b i e. e }
made_bound n past (calls.Destroy class id) = elim (class == 1) as
    (λ t. Bound (if t then Destroy (maker past id) else Set_state) []) [
      | true ↦ record { quiet = λ e. refl; touched = λ b i e. e }
      | false ↦ set_bound []
    ]
made_bound n past _ = set_bound []

list_bound : (n k : ℕ) (s : State) (past : Past) (o : Objects) (cs : List Numbered) → All (Fit o.buffers) cs
    → AllByRecursion (ItemBound k s) (list_items n past o cs)
list_bound n k s past o [] h = (set_bound [], tt)
list_bound n k s past o (c ∷ cs) h = (
  item_bound past o (bindings_of o 0) c.call h.0,
  list_bound n k s past (played n o c.call) cs h.1,
)

immediate_bound : (n : ℕ) (s : State) (c : Call) → ((list : ℕ)
    → All (Fit s.objects.buffers) (calls_of_list s.objects list))
    → AllByRecursion (ItemBound n s) (immediate_turns n s c)
immediate_bound n s (calls.ExecuteList list flag) listed = list_bound n n s s.past (list_start s.objects)
    (calls_of_list s.objects list) (listed list)
immediate_bound n s (calls.MapRead res flag offset len) listed = (tt, tt)
immediate_bound n s (calls.GetData query flag) listed = (tt, tt)
immediate_bound n s _ listed = (tt, tt)

place_bound : (p : Place) (n : ℕ) (s : State) (x : ℕ) (c : Call) → Fit s.objects.buffers c
    → ((list : ℕ) → All (Fit s.objects.buffers) (calls_of_list s.objects list))
    → AllByRecursion (ItemBound n s) (turns_by_place p n s x c)
place_bound OnDevice n s x c fit listed = (made_bound n s.past c, tt)
place_bound OnImmediate n s x c fit listed = immediate_bound n s c listed
place_bound OnEach n s x c fit listed =
    elim (x == 0) as
    (λ t. AllByRecursion (ItemBound n s) (if t then item_of n n true s.past s.objects c ∷ [] else Passed n ∷ [])) [
      | true ↦ (item_bound s.past s.objects (bindings_of s.objects 0) c fit, tt)
      | false ↦ (tt, tt)
    ]
place_bound OnDeferred n s x c fit listed = (tt, tt)

call_bound : (log : List Issued) (n : ℕ) → AllByRecursion (ItemBound (suc n) (before_call log (suc n)))
    (turns_of log (suc n))
call_bound log n = by_call (call_at log (suc n))
  where
    s : State
    s = before_call log (suc n)

    unless : (i : Issued) (v : Option Refusal) → verdict_in s i ≡ v
        → AllByRecursion (ItemBound (suc n) s) (turns_unless (suc n) s i v)
    unless i (Some why) e = (tt, tt)
    unless i None e =
        place_bound (place_of i.call) (suc n) s i.context i.call
        (fit_if s.objects s.past i.context i.call (own_checks s.objects s.past i.context i.call e)
        (live_made log n)) (λ list. listed_fit log n list)

    by_call : (o : Option Issued) → AllByRecursion (ItemBound (suc n) s) (turns_in (suc n) s o)
    by_call None = tt
    by_call (Some i) = unless i (verdict_in s i) refl

pub script_bound : (log : List Issued) (front : List Turn) (call item : ℕ) (ends : Bool) (play : Play)
    (bound : List Range) (back : List Turn)
    → (script_of log).turns ≡ front ++ Item call item ends play bound ∷ back → Bound play bound
script_bound log front call item ends play bound back e =
    (script_turn ItemBound log (call_bound log) front (Item call item ends play bound) back e).1
