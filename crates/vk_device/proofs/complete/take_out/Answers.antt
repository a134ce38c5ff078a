use Rattle.vk_device.proofs.Giving.{without_one}
use Rattle.vk_device.proofs.complete.take_out.Goals as goal

pub returns-clause-rest : goal.returns-clause-rest
returns-clause-rest c = without_one c.args.memory.now c.take.new.self c.args.number c.take.ensures.rest
