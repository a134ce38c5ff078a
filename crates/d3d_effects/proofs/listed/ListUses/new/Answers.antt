use Rattle.d3d_model.specs.Past.{then_done}
use Rattle.d3d_effects.specs.Listed.{ends_from, parts_from}
use Rattle.d3d_effects.proofs.listed.ListUses.new.Goals as goal

pub returns : goal.returns
unfolding then_done ends_from parts_from
returns c = λ o. record { asked = c.new.ensures; numbers = c.new-2.ensures.items; bound = c.new-3.ensures.items; ends = c.new-4.ensures.items }
