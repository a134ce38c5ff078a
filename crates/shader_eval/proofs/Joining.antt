-- A block from one node on.
use Rattle.std.proofs.Common.{◌≡◌, ℕ, suc, ◌+◌, ◌<◌, List, length, drop, get_or, ap, ◌∙◌, arith, drop-cons}
use Rattle.shader_model.specs.declared.tree.Node.{Node}
use Rattle.shader_model.specs.Body.{body_of, node_before}
use Rattle.shader_model.proofs.Trees.{of_more}

-- the rest of a block has its first node before what follows
pub of_here : (xs : List Node) (i : ℕ) (d : Node) → i < length xs → body_of (drop i xs) ≡ node_before (get_or xs i d) (body_of (drop (i + 1) xs))
of_here xs i d lt =
    ap body_of (drop-cons xs i d lt) ∙ of_more (get_or xs i d) (drop (suc i) xs) ∙ ap (λ k. node_before (get_or xs i d) (body_of (drop k xs))) (let z : suc i ≡ i + 1 = omega arith in z)
