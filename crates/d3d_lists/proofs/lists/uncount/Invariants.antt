use Rattle.std.proofs.Common.{◌≡◌, ◌-◌, take}
use Rattle.d3d_lists.specs.declared.name.Name.{Name}
use Rattle.d3d_lists.specs.Calls.{calls_in}
use Rattle.d3d_lists.specs.Named.{count_of}
use Rattle.d3d_lists.specs.Names.{times_in}
use Rattle.d3d_lists.proofs.lists.uncount.Given as goal

abbrev pub invariant-calls : goal.invariant-calls
invariant-calls l = (k : Name) → count_of l.named k ≡ count_of l.initial.named k - times_in k (calls_in (take l.c-index l.calls))
