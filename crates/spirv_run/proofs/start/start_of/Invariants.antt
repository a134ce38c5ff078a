use Rattle.std.proofs.Common.{◌≡◌, ℕ, List, length}
use Rattle.spirv_run.specs.Frames.{at_start}
use Rattle.spirv_run.specs.Decoding.{steps_of}
use Rattle.spirv_run.specs.Tables.{Leave}
use Rattle.spirv_run.proofs.start.start_of.Given as goal

abbrev pub invariant-steps : goal.invariant-steps
invariant-steps l = record {
  leave : (words : List ℕ) → l.steps ≡ steps_of words → Leave words l.at (at_start l.frame.begins);
  results : length l.frame.begins.results ≡ length l.initial.frame.begins.results;
  variables : l.frame.begins.variables ≡ l.initial.frame.begins.variables;
}
