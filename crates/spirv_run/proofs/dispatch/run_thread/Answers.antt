use Rattle.std.proofs.Common.{◌≡◌, sym, subst, ap, ◌∙◌}
use Rattle.shader_model.specs.declared.ids.Ids.{Ids}
use Rattle.spirv_model.specs.Meaning.ModuleMeaning.{module_meaning}
use Rattle.spirv_model.specs.Meaning.ModuleDispatch.{group_of}
use Rattle.spirv_run.specs.Threads.{IsPlaced}
use Rattle.spirv_run.proofs.Walking.{is_placed, in_range, slots_fit, has_outcome}
use Rattle.spirv_run.proofs.Stepping.{read_to_end}
use Rattle.spirv_run.proofs.dispatch.run_thread.Goals as goal

pub new-thread-requires : goal.new-thread-requires
new-thread-requires c =
    subst (λ z. IsPlaced (record { group = c.args.group; thread = c.args.thread; size = z })) (sym c.group-size.ensures)
    (is_placed c.args.groups (group_of c.args.table.now) c.args.group c.args.thread c.requires.allowed c.requires.group c.requires.thread)

pub invoke-requires-clause-whole : goal.invoke-requires-clause-whole
invoke-requires-clause-whole c =
    let w = c.args.table.now in
    let s = c.args.slots.now.words in
    let ids : Ids = record { group = c.args.group; thread = c.args.thread; size = group_of w } in
    let placed = in_range c.args.groups (group_of w) c.args.group c.args.thread c.requires.allowed c.requires.group c.requires.thread c.has_three.ensures c.has_three-2.ensures in
    read_to_end w ids s (c.requires.defined ids s placed (slots_fit s c.within_limit.ensures))

pub returns-clause-words : goal.returns-clause-words
returns-clause-words c =
    let w = c.args.table.now in
    let s = c.args.slots.now.words in
    let ids : Ids = record { group = c.args.group; thread = c.args.thread; size = group_of w } in
    let placed = in_range c.args.groups (group_of w) c.args.group c.args.thread c.requires.allowed c.requires.group c.requires.thread c.has_three.ensures c.has_three-2.ensures in
    let same : c.new-thread.result ≡ ids =
    c.new-thread.ensures ∙ ap (λ z. record { group = c.args.group; thread = c.args.thread; size = z }) c.group-size.ensures in
    has_outcome c.invoke.result (module_meaning w ids s) c.invoke.new.slots.words (c.requires.defined ids s placed (slots_fit s c.within_limit.ensures))
    (ap (λ i. module_meaning w i s) (sym same) ∙ c.invoke.ensures.words)
