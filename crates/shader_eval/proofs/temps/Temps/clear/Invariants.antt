use Rattle.std.proofs.Common.{◌≡◌, ◌++◌, drop, replicate}
use Rattle.shader_eval.proofs.temps.Temps.clear.Given as goal

abbrev pub invariant-loop-word : goal.invariant-loop-word
invariant-loop-word l = l.word-items ≡ replicate l.word-index 0 ++ drop l.word-index l.initial.word-items
