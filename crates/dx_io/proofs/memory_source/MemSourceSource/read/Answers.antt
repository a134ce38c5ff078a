use Rattle.std.proofs.Common.{◌≡◌, ℕ, List, take, drop, length, ap, ◌∙◌, arith}
use Rattle.std.proofs.lemmas.List.{length-take}
use Rattle.dx_io.proofs.ToldLemmas.{front_moved}
use Rattle.dx_io.proofs.memory_source.MemSourceSource.read.Goals as goal

pub returns-clause-moved : goal.returns-clause-moved
returns-clause-moved c =
    let from : c.front.result.now ≡ take c.args.self.now.most (drop c.args.self.now.at c.args.self.now.bytes.items) = cc in
    front_moved _ _ _ _ c.args.self.now.most (omega (arith, c.copy_front-n.ensures.count, ap length from, length-take {A = ℕ}))
    (c.copy_front-n.ensures.copied ∙ ap (λ (t : List ℕ). take c.copy_front-n.result t) from)
