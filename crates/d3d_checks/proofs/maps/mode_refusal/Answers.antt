use Rattle.std.proofs.Common.{sym, ◌∙◌}
use Rattle.d3d_model.specs.Codes.{map_mode_number}
use Rattle.d3d_checks.proofs.Overwrites.{write_passes}
use Rattle.d3d_checks.proofs.maps.mode_refusal.Goals as goal

pub returns-else-passes_end : goal.returns-else-passes_end
returns-else-passes_end c = λ past o tells.
    write_passes c.args.shape.now o past c.args.context c.args.res (map_mode_number c.args.mode) c.args.offset c.args.bytes.now c.use_refusal.result
    (sym c.is_not_mappable.ensures ∙ c.if-is_not_mappable.false)
    (sym c.is_wrong_here.ensures ∙ c.if-is_wrong_here.false)
    (sym c.passes_end.ensures ∙ c.if-passes_end.false)
    (c.use_refusal.ensures past o tells)
