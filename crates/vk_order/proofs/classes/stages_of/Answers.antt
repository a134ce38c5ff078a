use Rattle.vk_order.proofs.Stages.{same_stages}
use Rattle.vk_order.proofs.classes.stages_of.Goals as goal

pub returns : goal.returns
returns c = same_stages c.args.c.now c.reads_first.result c.is_computed-compute.result c.reads_first.ensures c.is_computed-compute.ensures
