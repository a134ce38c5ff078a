use Rattle.std.proofs.Common.{◌++◌, List, ap, ◌∙◌}
use Rattle.buffer_blocks.specs.declared.block.Block.{Block}
use Rattle.vk_device.specs.Completing.{home}
use Rattle.vk_device.proofs.complete.take_home.Goals as goal

pub returns-clause-homes : goal.returns-clause-homes
returns-clause-homes c =
    c.in_ok-push_some.ensures
    ∙ ap (λ (l : List Block). c.args.homes.now.items ++ l) (c.home-gone.ensures ∙ ap (home c.args.k) c.take_out-block.ensures.block)
