use Rattle.std.proofs.Common.{ap}
use Rattle.base_lemmas.specs.IdMap.{IdMap}
use Rattle.d3d_model.specs.D3dState.{Query}
use Rattle.d3d_state.specs.Meaning.{objects_of, with_queries}
use Rattle.d3d_effects.proofs.NoEffect.{asks_none}
use Rattle.d3d_effects.proofs.played.count.Goals as goal

pub returns-in-Begin : goal.returns-in-Begin
returns-in-Begin c = rw c.in-Begin.is c.begin.ensures

pub returns-in-EndQuery : goal.returns-in-EndQuery
returns-in-EndQuery c = rw c.in-EndQuery.is c.end.ensures

pub returns-in_default : goal.returns-in_default
returns-in_default c =
    let o = objects_of c.args.objects.now in
    ap (λ (q : IdMap Query). with_queries o q) (asks_none c.args.n o.queries c.args.call.now c.in_default.not-Begin c.in_default.not-EndQuery)
