use Rattle.std.proofs.Common.{◌≡◌, ◌∷◌, List, drop, take, refl, ap, sym, ◌∙◌}
use Rattle.command_queue.specs.declared.queue.Listed.{Listed}
use Rattle.vk_device.specs.Completing.{still_marked}
use Rattle.command_queue.specs.Readiness.{ops_of}
use Rattle.vk_device.specs.State.{State}
use Rattle.vk_device.proofs.Giving.{first_ran, some_batch}
use Rattle.vk_device.proofs.device.Device.complete_first.Goals as goal

pub take_first-batch-requires : goal.take_first-batch-requires
take_first-batch-requires c = λ e.
    some_batch c.args.self.now.batches c.args.self.now.steps (sym (ap (λ (d : State). d.batches) c.self.view_is) ∙ e) c.requires

pub returns-clause-done : goal.returns-clause-done
returns-clause-done c =
    let old = c.args.self.now in
    let batch = c.take_first-batch.result in
    let batches : c.self.inside.batches.items ≡ old.batches = ap (λ (d : State). d.batches) c.self.view_is in
    let steps : c.self.inside.queue ≡ old.steps = ap (λ (d : State). d.steps) c.self.view_is in
    let held : c.self.inside.memory ≡ old.held = ap (λ (d : State). d.held) c.self.view_is in
    let marks : c.self.inside.holds ≡ old.marks = ap (λ (d : State). d.marks) c.self.view_is in
    let asked : c.self.inside.queries ≡ old.asked = ap (λ (d : State). d.asked) c.self.view_is in
    let first : old.batches ≡ batch ∷ c.take_first-batch.new.batches.items = sym batches ∙ c.take_first-batch.ensures in
    record {
      batch = batch;
      batches = first;
      all_ran = first_ran old.batches old.steps batch c.take_first-batch.new.batches.items first c.requires;
      number = refl;
      upto = refl;
      placed = refl;
      ops = c.in_ok-ops.ensures.ops ∙ ap (λ (l : List Listed). ops_of (take batch.count l)) steps;
      steps = c.in_ok-ops.ensures.rest ∙ ap (drop batch.count) steps;
      snaps = cc (c.in_ok-snaps.ensures, held);
      pages = cc (c.in_ok-pages.ensures.blocks, held);
      homes = cc (c.in_ok-homes.ensures.homes, c.in_ok-pages.ensures.rest, held, marks);
      held = cc (c.in_ok-homes.ensures.rest, c.in_ok-pages.ensures.rest, held, marks);
      marks = c.in_ok-homes.ensures.marks ∙ ap (still_marked batch.number) marks;
      values = cc (c.in_ok-values.ensures.values, asked);
      asked = cc (c.in_ok-values.ensures.rest, asked);
      newest = ap (λ (d : State). d.newest) c.self.view_is;
      order = ap (λ (d : State). d.order) c.self.view_is;
      modules = ap (λ (d : State). d.modules) c.self.view_is;
    }
