-- What the open blocks stand for.
use Rattle.std.specs.Prelude.{List, [], ◌∷◌, map, reverse}
use Rattle.shader_model.specs.Body.{nodes_before, body_of}
use Rattle.shader_model.specs.Nesting.{Block, InIf, InElse, InLoop, Spelled, put, branched, parted, repeated}
use Rattle.shader_tokens.specs.declared.levels.Open.{Open}
use Rattle.shader_tokens.specs.declared.levels.Open.TheVariants as open_
use Rattle.shader_tokens.specs.declared.levels.Level.{Level}
use Rattle.shader_tokens.specs.declared.levels.Levels.{Levels}

abbrev pub kind : Open → Block
kind (open_.If t) = InIf
kind (open_.Else t taken) = InElse
kind open_.Loop = InLoop

-- the open blocks, innermost first
abbrev pub blocks : Levels → List Block
blocks l = reverse (map (λ level. kind level.block) l.levels.items)

-- an open block around what its nodes and the later statements spell
abbrev pub closed : Open → Spelled → Spelled
closed (open_.If t) s = branched t s
closed (open_.Else t taken) s = parted t (body_of taken) s
closed open_.Loop s = repeated s

-- one level around what is spelled in it
abbrev pub level_around : Level → Spelled → Spelled
level_around level s = put (nodes_before level.before.items) (closed level.block s)

-- all levels around what is spelled in the innermost
abbrev pub levels_around : List Level → Spelled → Spelled
levels_around [] s = s
levels_around (level ∷ inner) s = level_around level (levels_around inner s)

-- what all statements spell, where the later ones spell s
abbrev pub seen : Levels → Spelled → Spelled
seen l s = levels_around l.levels.items (put (nodes_before l.nodes.items) s)
