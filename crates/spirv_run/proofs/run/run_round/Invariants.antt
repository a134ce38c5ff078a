use Rattle.std.proofs.Common.{◌≡◌, ◌+◌, ◌-◌, ℕ, drop}
use Rattle.spirv_model.specs.Meaning.ModuleMeaning.{runs}
use Rattle.spirv_run.specs.Held.{memory_of}
use Rattle.spirv_run.specs.Decoding.{ops_of}
use Rattle.spirv_run.specs.Tables.{IsFor}
use Rattle.spirv_run.proofs.run.run_round.Given as goal

abbrev pub invariant-steps : goal.invariant-steps
invariant-steps l = record {
  outcome : (n : ℕ) → runs l.thread (ops_of l.table) (l.most + n) (drop l.start (ops_of l.table)) (memory_of l.initial.frame l.initial.slots.words)
      ≡ runs l.thread (ops_of l.table) (l.most - l._i + n) (drop l.place (ops_of l.table)) (memory_of l.frame l.slots.words);
  around : l.slots.around ≡ l.initial.slots.around;
  room : IsFor l.frame l.table;
}
