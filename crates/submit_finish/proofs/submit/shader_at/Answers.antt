-- The chain gives the shaders of the operations that have one, and `nth` the one at that place.
use Rattle.std.proofs.Common.{rules, tests, sym, ◌∙◌}
use Rattle.std.proofs.lemmas.Iterator.{YieldsList-from_slice}
use Rattle.std.proofs.lemmas.Iterator.Adapters.{option_map_id}
use Rattle.std.proofs.lemmas.Iterator.Consumers.{nth_from_yields_List, YieldsList-from_filter_map}
use Rattle.submit_finish.specs.Dispatched.{shader_of_op}
use Rattle.submit_finish.proofs.submit.shader_at.Goals as goal

pub returns : goal.returns
returns c =
    sym (option_map_id c.nth.result)
    ∙ nth_from_yields_List _ _ c.args.i c.nth.ensures.ran
    (YieldsList-from_filter_map _ shader_of_op (YieldsList-from_slice c.args.ops.now cc) c.filter_map.ensures.closure (λ x r q k. search (rules, tests)))
