use Rattle.std.proofs.Common.{Option, Some, sym, ap, ◌∙◌}
use Rattle.dx_types.specs.declared.range.ResRange.{ResRange}
use Rattle.shader_slots.specs.Bound.{around_bound, words_bound}
use Rattle.shader_slots.specs.Part.{Part}
use Rattle.d3d_memory.specs.Shown.{around_one, stored_one}
use Rattle.d3d_memory.proofs.Stores.{alone_written}
use Rattle.d3d_memory.proofs.dispatch.store_one.Goals as goal

pub returns-in-Some-part : goal.returns-in-Some-part
returns-in-Some-part c =
    let m = c.args.memory.now in
    alone_written c.write_at.new.self m c.in-Some.range c.in-Some-part.part c.deref.result.now
    (sym (ap around_bound c.in-Some-part.is) ∙ c.requires ∙ ap around_one c.in-Some.is)
    (c.deref.ensures.value ∙ c.into_bytes-bytes.ensures)
    c.write_at.ensures
    ∙ ap (λ (s : Option ResRange). stored_one m s (words_bound (Some c.in-Some-part.part))) (sym c.in-Some.is)
    ∙ ap (λ (p : Option Part). stored_one m c.args.shown (words_bound p)) (sym c.in-Some-part.is)
