use Rattle.std.proofs.Common.{◌≡◌, ◌-◌, ◌&&◌, false}
use Rattle.std.specs.Prelude.{slice_index_or}
use Rattle.std.specs.List.{list_any}
use Rattle.base_lemmas.specs.Lists.{numbers_from}
use Rattle.command_queue.specs.StageSets.{names_set, some_waits}
use Rattle.command_queue.proofs.scan.some_waits.Given as goal

abbrev pub invariant-sets : goal.invariant-sets
invariant-sets l = list_any (λ k. slice_index_or l.waiting k false && names_set l.m k) (numbers_from l.set (16 - l.set)) ≡ some_waits l.waiting l.m
