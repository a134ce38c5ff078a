use Rattle.std.proofs.Common.{◌≡◌, ◌*◌, ◌-◌, ◌≤◌, length, drop}
use Rattle.spirv_model.specs.Meaning.ModuleMeaning.{runs, begun}
use Rattle.spirv_run.specs.Held.{memory_of}
use Rattle.spirv_run.specs.Decoding.{ops_of}
use Rattle.spirv_run.specs.Tables.{IsFor}
use Rattle.spirv_run.proofs.run.invoke.Given as goal

abbrev pub invariant-rounds : goal.invariant-rounds
invariant-rounds l = record {
  outcome : runs l.thread (ops_of l.table) (8192 * length l.table) (ops_of l.table) (begun l.initial.slots.words)
      ≡ runs l.thread (ops_of l.table) (8192 * (length l.table - l._i) - (8192 - l.most)) (drop l.place (ops_of l.table)) (memory_of l.frame l.slots.words);
  near : l.most ≤ 8192;
  around : l.slots.around ≡ l.initial.slots.around;
  room : IsFor l.frame l.table;
}
