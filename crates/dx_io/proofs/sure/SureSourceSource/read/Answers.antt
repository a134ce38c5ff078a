use Rattle.std.proofs.Common.{◌≡◌, ℕ, List, take, drop, ap, ◌∙◌}
use Rattle.dx_io.proofs.ToldLemmas.{rest_moved}
use Rattle.dx_io.proofs.sure.SureSourceSource.read.Goals as goal

pub returns-clause-moved : goal.returns-clause-moved
returns-clause-moved c =
    let from : c.tail.result.now ≡ drop c.args.self.now.at c.args.self.now.bytes.items = cc in
    rest_moved _ _ _ _ (c.copy_front-n.ensures.copied ∙ ap (λ (t : List ℕ). take c.copy_front-n.result t) from)
