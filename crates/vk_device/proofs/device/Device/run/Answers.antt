use Rattle.std.proofs.Common.{◌≡◌, ◌++◌, ◌∷◌, [], ℕ, List, ap, subst, ◌∙◌}
use Rattle.std.specs.Option.{option_copied}
use Rattle.vk_types.specs.Effects.{effect, invocations}
use Rattle.query_pool.specs.Asked.{Asked, counted_more}
use Rattle.device_memory.specs.Held.{AreAlike, Held, memory_of}
use Rattle.device_memory.specs.Meant.{meaning_by}
use Rattle.command_queue.specs.Left.{marked}
use Rattle.vk_device.specs.Modules.{Modules, module_of, modules_after}
use Rattle.vk_device.specs.State.{State}
use Rattle.vk_device.proofs.Ran.{found, place_there, can_run_it, agrees_it}
use Rattle.vk_device.proofs.device.Device.run.Goals as goal

pub place_of_ready-place-requires : goal.place_of_ready-place-requires
place_of_ready-place-requires c =
    let steps : c.self.inside.queue ≡ c.args.self.now.steps = ap (λ (d : State). d.steps) c.self.view_is in
    (c.requires.is.place, rw steps c.requires.is.is_place)

pub command_at-command-requires : goal.command_at-command-requires
command_at-command-requires c =
    let steps : c.self.inside.queue ≡ c.args.self.now.steps = ap (λ (d : State). d.steps) c.self.view_is in (
      c.requires.is.command,
      place_there c.args.self.now c.self.inside.queue c.args.j c.place_of_ready-place.result c.requires.is steps c.place_of_ready-place.ensures,
    )

pub run-requires-clause-can : goal.run-requires-clause-can
run-requires-clause-can c =
    can_run_it c.args.self.now c.self.inside.queue c.self.inside.memory c.args.j c.place_of_ready-place.result c.command_at-command.result.now (option_copied c.args.module) c.requires
    (ap (λ (d : State). d.steps) c.self.view_is) (ap (λ (d : State). d.held) c.self.view_is) c.place_of_ready-place.ensures c.command_at-command.ensures

pub run-requires-clause-agrees : goal.run-requires-clause-agrees
run-requires-clause-agrees c =
    agrees_it c.args.self.now c.self.inside.queue c.self.inside.machines c.args.j c.place_of_ready-place.result c.command_at-command.result.now (option_copied c.args.module) c.requires
    (ap (λ (d : State). d.steps) c.self.view_is) (ap (λ (d : State). d.modules) c.self.view_is) c.place_of_ready-place.ensures c.command_at-command.ensures

pub returns-clause-ok : goal.returns-clause-ok
returns-clause-ok c =
    let old = c.args.self.now in
    let words = option_copied c.args.module in
    let e = c.command_at-command.result.now in
    let steps : c.self.inside.queue ≡ old.steps = ap (λ (d : State). d.steps) c.self.view_is in
    let held : c.self.inside.memory ≡ old.held = ap (λ (d : State). d.held) c.self.view_is in
    let asked : c.self.inside.queries ≡ old.asked = ap (λ (d : State). d.asked) c.self.view_is in
    record {
      is = found old c.self.inside.queue c.args.j c.place_of_ready-place.result e steps c.place_of_ready-place.ensures c.command_at-command.ensures;
      memory = c.in_ok-invocations.ensures.memory ∙ ap (λ (h : Held). effect (meaning_by words) e (memory_of h)) held;
      alike = subst (λ (h : Held). AreAlike h c.run.new.memory) held c.in_ok-invocations.ensures.alike;
      steps = c.mark.ensures ∙ ap (marked c.place_of_ready-place.result) steps;
      order = c.push_reserved.ensures.items ∙ ap (λ (l : List ℕ). l ++ e.number ∷ []) (c.reserve.ensures.items ∙ ap (λ (d : State). d.order) c.self.view_is);
      asked =
          c.in_ok-count.ensures
          ∙ ap (λ (n : ℕ). record c.self.inside.queries { counts = counted_more c.self.inside.queries.counts e.number n }) c.in_ok-invocations.ensures.count
          ∙ ap (λ (h : Held). record c.self.inside.queries { counts = counted_more c.self.inside.queries.counts e.number (invocations (meaning_by words) e (memory_of h)) }) held
          ∙ ap (λ (q : Asked). record q { counts = counted_more q.counts e.number (invocations (meaning_by words) e (memory_of old.held)) }) asked;
      batches = ap (λ (d : State). d.batches) c.self.view_is;
      newest = ap (λ (d : State). d.newest) c.self.view_is;
      marks = ap (λ (d : State). d.marks) c.self.view_is;
      modules = c.in_ok-invocations.ensures.modules ∙ ap (λ (l : Modules). modules_after words e.work (module_of l)) (ap (λ (d : State). d.modules) c.self.view_is);
    }
