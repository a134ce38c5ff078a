-- The items of a list, one after another: what Direct3D does as it executes the list, the items do in order.
use Rattle.std.proofs.Common.{◌≡◌, ℕ, Bool, true, false, List, [], ◌∷◌, ◌++◌, refl, sym, ◌∙◌}
use Rattle.std.specs.List.{list_any}
use Rattle.call_log.specs.Call.{Issued}
use Rattle.base_lemmas.specs.IdMap.{IdMap, get}
use Rattle.d3d_model.specs.D3dState.{Objects, Memory, Query, Numbered}
use Rattle.d3d_model.specs.Past.{Past}
use Rattle.d3d_model.specs.Stream.{begun_after, begins, begun_in_list}
use Rattle.d3d_model.specs.Effect.{played, played_all}
use Rattle.d3d_model.specs.Memory.{run, run_all}
use Rattle.d3d_model.proofs.Sized.{Sized, same_run}
use Rattle.core_model.specs.Script.{Script, InOrder, turn_in_order, in_order}
use Rattle.log_script.specs.Plays.{counts_invocations}
use Rattle.log_script.specs.Turns.{item_of, list_items}
use Rattle.log_script.specs.LogScript.{meaning_of}
use Rattle.log_script.specs.Standing.{CallStands}
use Rattle.log_script.proofs.Owed.Positions.{AtEach}
use Rattle.log_script.proofs.Owed.RecordedCalls.{All}
use Rattle.log_script.proofs.Owed.StayingFit.{OwnsFit}
use Rattle.log_script.proofs.Owed.FittingStates.{same_objects, owns_go_on}
use Rattle.log_script.proofs.Owed.StandingCalls.{list_same}
use Rattle.log_script.proofs.Owed.QueryMaps.{flag, counts_after}
use Rattle.log_script.proofs.Owed.QueryLists.{InTurn}
use Rattle.log_script.proofs.Owed.QueriesInTurn.{begun_more, flag_after, ready_now, any_parts}
use Rattle.log_script.proofs.Meant.AgreeingWrites.{Alike}
use Rattle.log_script.proofs.Meant.AgreeingPlays.{Known, known_played, play_alike}

-- from queries of which none is begun that the list begins
pub items_alike : (log : List Issued) (script : Script) (past : Past) (n : ℕ) (start : IdMap Query) (f : ℕ
    → Bool) (o : Objects) (m : Memory) (w : InOrder) (before cs : List Numbered)
    → Known log script past o → Sized o m → Alike past o.queries m w → OwnsFit o cs → All (CallStands o) cs
    → ((q : ℕ) → counts_invocations (get o.queries q) ≡ true → counts_invocations (get start q) ≡ true)
    → ((q : ℕ) → counts_invocations (get o.queries q) ≡ true → flag (get o.queries q) ≡ begun_after q (f q) before)
    → list_any f (begun_in_list cs) ≡ false → AtEach (InTurn start) before cs
    → Alike past (played_all n o cs).queries (run_all n o m cs)
    (in_order (meaning_of log) script (list_items n past o cs) w)
items_alike log script past n start f o m w before [] known sized alike own stands sorts flags none turn = alike
items_alike log script past n start f o m w before (c ∷ cs) known sized alike own stands sorts flags none turn =
    let parts = any_parts f (begins c.call) (begun_in_list cs) none in
    let next : Objects = played n o c.call in
    let done = play_alike log script past n o m w known sized alike c.call own.0 stands.0
    (ready_now start o.queries f before c.call sorts flags parts.0 turn.0) in
    items_alike log script past n start f next (run o m c.call)
    (turn_in_order (meaning_of log) script (item_of n c.number false past o c.call) w) (before ++ c ∷ []) cs
    (known_played log script past n o c.call own.0 known) (λ id. same_run o m c.call id ∙ sized id) done
    (owns_go_on o next cs (same_objects o next refl refl refl) own.1)
    (list_same o next cs (record { buffers = λ id e. refl; views = λ id e. refl }) stands.1)
    (λ q e. sorts q (sym (counts_after n o.queries c.call q) ∙ e))
    (λ q e. flag_after n c.number o.queries c.call (λ k. begun_after k (f k) before) flags q e
    ∙ sym (begun_more q (f q) before (c ∷ [])))
    parts.1 turn.1
