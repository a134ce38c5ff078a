use Rattle.vk_types.proofs.Acts.{effect_local, invocations_read, act_local}
use Rattle.vk_types.proofs.effects_are_local.Goals as goal

pub returns : goal.returns
returns c = record { commands = effect_local; counts = invocations_read; acts = act_local }
