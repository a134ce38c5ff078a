-- The ready command of a number is one, by its place.
use Rattle.std.proofs.Common.{◌≡◌, ℕ, Bool, List, Option, Some, None, refl, sym, ap, subst, ◌∙◌}
use Rattle.std.specs.Prelude.{is_some, slice_get}
use Rattle.vk_types.specs.declared.command.Command as c
use Rattle.vk_types.specs.declared.command.Work.{Work}
use Rattle.vk_types.specs.declared.command.Work.TheVariants as work
use Rattle.device_memory.specs.Held.{Held}
use Rattle.device_memory.specs.Ranges.{CanSkip}
use Rattle.device_memory.specs.Runs.{CanRun, CanWork}
use Rattle.command_queue.specs.declared.queue.Listed.{Listed}
use Rattle.command_queue.specs.Readiness.{ready_places, step_command}
use Rattle.vk_device.specs.Running.{CanRunReady, CanWorkIf, IsDefinedIf, IsReady}
use Rattle.vk_device.specs.Modules.{Agrees, Modules, module_of}
use Rattle.vk_device.specs.State.{State, place_command, ready_command}

some_same : {A : Type 0} (x y : A) → Some x ≡ Some y → x ≡ y
some_same x y e = cc e

abbrev pub found : (d : State) (queue : List Listed) (j place : ℕ) (e : c.Command) → queue ≡ d.steps → slice_get (ready_places queue) j ≡ Some place
    → step_command (slice_get queue place) ≡ Some e → IsReady d j
found d queue j place e is at there = record {
  place = place;
  command = e;
  is_place = ap (λ l. slice_get (ready_places l) j) (sym is) ∙ at;
  is_command = ap (λ l. step_command (slice_get l place)) (sym is) ∙ there;
}

pub one_command : (d : State) (j : ℕ) (a b : IsReady d j) → a.command ≡ b.command
one_command d j a b =
    let place : a.place ≡ b.place = some_same a.place b.place (sym a.is_place ∙ b.is_place) in
    some_same a.command b.command (sym a.is_command ∙ ap (λ n. step_command (slice_get d.steps n)) place ∙ b.is_command)

-- where the place that the queue says is that of the ready command
pub place_there : (d : State) (queue : List Listed) (j place : ℕ) (r : IsReady d j) → queue ≡ d.steps → slice_get (ready_places queue) j ≡ Some place
    → step_command (slice_get queue place) ≡ Some r.command
place_there d queue j place r is at =
    let same : r.place ≡ place = some_same r.place place (sym r.is_place ∙ ap (λ l. slice_get (ready_places l) j) (sym is) ∙ at) in
    ap (λ l. step_command (slice_get l place)) is ∙ ap (λ n. step_command (slice_get d.steps n)) (sym same) ∙ r.is_command

pub can_run_it : (d : State) (queue : List Listed) (held : Held) (j place : ℕ) (e : c.Command) (words : Option (List ℕ)) (can : CanRunReady d j words) → queue ≡ d.steps
    → held ≡ d.held → slice_get (ready_places queue) j ≡ Some place → step_command (slice_get queue place) ≡ Some e → CanRun held e words
can_run_it d queue held j place e words can is same at there =
    let one : can.is.command ≡ e = one_command d j can.is (found d queue j place e is at there) in
    subst (λ h. CanRun h e words) (sym same) (subst (λ x. CanRun d.held x words) one can.can)

pub agrees_it : (d : State) (queue : List Listed) (modules : Modules) (j place : ℕ) (e : c.Command) (words : Option (List ℕ)) (can : CanRunReady d j words) → queue ≡ d.steps
    → modules ≡ d.modules → slice_get (ready_places queue) j ≡ Some place → step_command (slice_get queue place) ≡ Some e → Agrees words e.work (module_of modules)
agrees_it d queue modules j place e words can is same at there =
    let one : can.is.command ≡ e = one_command d j can.is (found d queue j place e is at there) in
    subst (λ (l : Modules). Agrees words e.work (module_of l)) (sym same) (subst (λ (x : c.Command). Agrees words x.work (module_of d.modules)) one can.agrees)

-- Tests ----------------------------------------------------------------------------------------------------------------------

pub record IsReadyAs (d : State) (j : ℕ) (e : c.Command) : Type 0 where
  pub is : IsReady d j
  pub same : is.command ≡ e

ready_as : (d : State) (j : ℕ) (e : c.Command) → ready_command d j ≡ Some e → IsReadyAs d j e
ready_as d j e is = by (slice_get (ready_places d.steps) j) refl is
  where
    by : (o : Option ℕ) → slice_get (ready_places d.steps) j ≡ o → place_command d.steps o ≡ Some e → IsReadyAs d j e
    by None at there = absurd (cc there)
    by (Some place) at there = record { is = record { place = place; command = e; is_place = at; is_command = there }; same = refl }

can_work : (held : Held) (w : Work) (words : Option (List ℕ)) → CanWorkIf held w (is_some words) → IsDefinedIf words → CanWork held w words
can_work held (work.Copy source target) None can defined = can
can_work held (work.Copy source target) (Some words) can defined = absurd can
can_work held (work.Fill target word) None can defined = can
can_work held (work.Fill target word) (Some words) can defined = absurd can
can_work held (work.Clear target values unit) None can defined = can
can_work held (work.Clear target values unit) (Some words) can defined = absurd can
can_work held (work.Dispatch shader counts slots) None can defined = absurd can
can_work held (work.Dispatch shader counts slots) (Some words) can defined = record { defined = defined; counts = can.0; bound = can.1; apart = can.2 }

-- where the command is the ready one, and the module, if one is given, has an outcome
pub can_run_ready : (d : State) (held : Held) (modules : Modules) (j : ℕ) (e : c.Command) (words : Option (List ℕ)) (t : Bool) → held ≡ d.held → modules ≡ d.modules → ready_command d j ≡ Some e → t ≡ is_some words
    → CanWorkIf held e.work t → CanSkip held e.cond → Agrees words e.work (module_of modules) → IsDefinedIf words → CanRunReady d j words
can_run_ready d held modules j e words t same kept there is can skip agrees defined =
    let r = ready_as d j e there in
    let work : CanWork held e.work words = can_work held e.work words (subst (λ b. CanWorkIf held e.work b) is can) defined in
    let run : CanRun held e words = record { work = work; condition = skip } in
    record {
      is = r.is;
      can = subst (λ (x : c.Command). CanRun d.held x words) (sym r.same) (subst (λ h. CanRun h e words) same run);
      agrees = subst (λ (x : c.Command). Agrees words x.work (module_of d.modules)) (sym r.same) (subst (λ (l : Modules). Agrees words e.work (module_of l)) kept agrees);
    }
