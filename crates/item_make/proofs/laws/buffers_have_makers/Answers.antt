use Rattle.item_make.proofs.Makers.{next_call, one_buffer}
use Rattle.item_make.proofs.laws.buffers_have_makers.Goals as goal

pub returns : goal.returns
returns c = record { next = next_call; alone = one_buffer }
