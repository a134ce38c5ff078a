use Rattle.std.proofs.Common.{◌≡◌, take}
use Rattle.d3d_model.specs.D3dState.{calls_of_list}
use Rattle.d3d_state.specs.Meaning.{objects_of, with_queries}
use Rattle.d3d_effects.specs.Played.{queries_played}
use Rattle.d3d_effects.proofs.played.execute.Given as goal

abbrev pub invariant-calls : goal.invariant-calls
invariant-calls l =
    let o = objects_of l.initial.objects in
    objects_of l.objects ≡ with_queries o (queries_played l.n o.queries (take l.i (calls_of_list o l.list)))
