use Rattle.std.proofs.Common.{◌≡◌, take}
use Rattle.d3d_model.specs.D3dState.{calls_of_list}
use Rattle.d3d_model.specs.Stream.{deeds_of_list}
use Rattle.d3d_state.specs.Meaning.{objects_of}
use Rattle.d3d_uses.specs.Summary.{Records}
use Rattle.d3d_effects.specs.Listed.{cut_at, parts_of_list}
use Rattle.d3d_effects.proofs.listed.keep_list.Given as goal

abbrev pub invariant-calls : goal.invariant-calls
invariant-calls l =
    let o = objects_of l.objects in
    let calls = calls_of_list o l.list in
    cut_at 0 l.ranges l.ends ≡ parts_of_list o calls → Records l.initial.uses l.n (deeds_of_list o (take l.i calls)) l.uses
