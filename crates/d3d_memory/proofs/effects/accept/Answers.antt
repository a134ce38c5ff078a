use Rattle.std.proofs.Common.{sym, ap, ◌∙◌}
use Rattle.std.proofs.lemmas.Result.{on_ok_weaker}
use Rattle.call_log.specs.View.{call_view}
use Rattle.d3d_model.specs.Binding.{Bindings}
use Rattle.d3d_model.specs.Memory.{run}
use Rattle.d3d_state.specs.Meaning.{objects_of}
use Rattle.d3d_memory.specs.Commands.{seen}
use Rattle.d3d_memory.proofs.Played.{by_device, on_immediate, on_deferred}
use Rattle.d3d_memory.proofs.effects.accept.Goals as goal

pub returns-then-is_made-clause-ok : goal.returns-then-is_made-clause-ok
returns-then-is_made-clause-ok c = λ plays n.
    on_ok_weaker c.make.result
    (λ is. is ∙ sym (by_device n (objects_of c.args.objects.now) c.args.memory.now c.args.context (call_view c.args.call.now) (sym c.is_made.ensures ∙ c.if-is_made.true)))
    c.make.ensures.ok

pub returns-then-context-eq0-clause-ok : goal.returns-then-context-eq0-clause-ok
returns-then-context-eq0-clause-ok c = λ plays n.
    on_ok_weaker c.run.result
    (λ is. on_immediate n (objects_of c.args.objects.now) c.args.memory.now c.run.new.memory c.args.context (call_view c.args.call.now) plays (sym c.is_made.ensures ∙ c.if-is_made.false) c.if-context-eq0.true
    (is ∙ ap (λ (b : Bindings). run (seen (objects_of c.args.objects.now) b) c.args.memory.now (call_view c.args.call.now)) c.bindings.ensures))
    c.run.ensures.ok

pub returns-else-context-eq0-clause-ok : goal.returns-else-context-eq0-clause-ok
returns-else-context-eq0-clause-ok c = λ plays n.
    on_deferred n (objects_of c.args.objects.now) c.args.memory.now c.args.context (call_view c.args.call.now) plays (sym c.is_made.ensures ∙ c.if-is_made.false) c.if-context-eq0.false
