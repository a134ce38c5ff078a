use Rattle.std.proofs.Common.{get_or}
use Rattle.std.proofs.lemmas.Option.{slice_get-get_or}
use Rattle.vk_order.proofs.Places.{get_set_other, get_set_same}
use Rattle.vk_order.proofs.layers.raise_layer.Goals as goal

pub returns-clause-raised : goal.returns-clause-raised
returns-clause-raised c =
    let layers = c.args.layers.now in let n = c.args.n in let old = c.index-layers-n.result in
    record {
      before = get_or layers n old;
      after = c.raise.new.self;
      was = slice_get-get_or layers n old c.requires.there;
      there = get_set_same layers n c.raise.new.self c.requires.there;
      raised = c.raise.ensures;
      others = λ k ne. get_set_other layers n k c.raise.new.self ne;
    }
