use Rattle.std.proofs.Common.{◌∙◌}
use Rattle.base_lemmas.proofs.Scan.{any_map}
use Rattle.core_model.specs.OtherParts.{is_among}
use Rattle.immediate_ctx.specs.Flight.{OnItsWay, view_of}
use Rattle.immediate_ctx.proofs.flight.uses_block.Goals as goal

pub returns : goal.returns
returns c = c.any_uses.ensures ∙ any_map (λ (o : OnItsWay). is_among c.args.block o.used) view_of c.args.sent.now
