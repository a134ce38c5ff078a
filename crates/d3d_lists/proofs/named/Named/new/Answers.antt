use Rattle.d3d_lists.proofs.Unnamed.{none_named}
use Rattle.d3d_lists.proofs.named.Named.new.Goals as goal

pub returns : goal.returns
returns c = none_named c.new.result c.new-2.result c.new-3.result c.new-4.result c.new.ensures c.new-2.ensures c.new-3.ensures c.new-4.ensures
