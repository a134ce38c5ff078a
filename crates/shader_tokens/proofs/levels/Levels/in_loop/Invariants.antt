use Rattle.std.proofs.Common.{◌≡◌, false, take}
use Rattle.shader_model.specs.Nesting.{in_loop}
use Rattle.shader_tokens.proofs.Around.{kinds}
use Rattle.shader_tokens.proofs.levels.Levels.in_loop.Given as goal

abbrev pub invariant-loop-level : goal.invariant-loop-level
invariant-loop-level l = in_loop (kinds (take l.level-index l.self.levels.items)) ≡ false
