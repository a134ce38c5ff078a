-- A block that is closed is the node that is added.
use Rattle.std.proofs.Common.{◌≡◌, List, [], ap, sym, ◌∙◌}
use Rattle.shader_model.specs.declared.tree.Test.{Test}
use Rattle.shader_model.specs.declared.tree.Node.{Node}
use Rattle.shader_model.specs.declared.tree.Node.TheVariants as n
use Rattle.shader_model.specs.Body.{End, If, Loop, node_before, nodes_before, body_of}
use Rattle.shader_model.specs.Nesting.{Spelled, Upto, AtElse, AtEndif, AtEndloop, put, parted}
use Rattle.shader_model.proofs.Trees.{before_if, before_loop, of_none}
use Rattle.shader_model.proofs.Putting.{put_same, nodes_at_end}
use Rattle.shader_tokens.specs.declared.levels.Open.TheVariants as open_
use Rattle.shader_tokens.specs.Levels.{closed}

pub ended_if : (t : Test) (ns : List Node) (s : Spelled) → put (node_before (n.If t ns [])) s ≡ closed (open_.If t) (put (nodes_before ns) (Upto End AtEndif s))
ended_if t ns s =
    put_same (node_before (n.If t ns [])) (If t (nodes_before ns End) End)
    (λ rest. before_if t ns [] rest ∙ ap (λ z. If t z (body_of []) rest) (sym (nodes_at_end ns)) ∙ ap (λ z. If t (nodes_before ns End) z rest) of_none) s

pub ended_else : (t : Test) (taken ns : List Node) (s : Spelled) → put (node_before (n.If t taken ns)) s ≡ closed (open_.Else t taken) (put (nodes_before ns) (Upto End AtEndif s))
ended_else t taken ns s =
    put_same (node_before (n.If t taken ns)) (If t (body_of taken) (nodes_before ns End))
    (λ rest. before_if t taken ns rest ∙ ap (λ z. If t (body_of taken) z rest) (sym (nodes_at_end ns))) s

pub ended_loop : (ns : List Node) (s : Spelled) → put (node_before (n.Loop ns)) s ≡ closed open_.Loop (put (nodes_before ns) (Upto End AtEndloop s))
ended_loop ns s = put_same (node_before (n.Loop ns)) (Loop (nodes_before ns End)) (λ rest. before_loop ns rest ∙ ap (λ z. Loop z rest) (sym (nodes_at_end ns))) s

pub parted_if : (t : Test) (ns : List Node) (s : Spelled) → closed (open_.Else t ns) s ≡ closed (open_.If t) (put (nodes_before ns) (Upto End AtElse s))
parted_if t ns s = ap (λ z. parted t z s) (sym (nodes_at_end ns))
