use Rattle.std.proofs.Common.{◌≤◌, All, List, subst, sym, ap}
use Rattle.query_pool.specs.Asked.{Asked}
use Rattle.query_pool.specs.declared.queries.Ended.{Ended}
use Rattle.query_pool.proofs.Rising.{snoc_rises}
use Rattle.query_pool.proofs.queries.Queries.mark.Goals as goal

pub invariant_of-self-2 : goal.invariant_of-self-2
invariant_of-self-2 c = (
  rw c.in_ok-push_back.ensures.items (snoc_rises (λ (e : Ended). e.call) _ _ c.self.invariant.0 (subst (λ (es : List Ended). All (λ (e : Ended). e.call ≤ c.args.m.call) es) (sym (ap (λ (a : Asked). a.ended) c.self.view_is)) c.requires.order)),
  c.self.invariant.1,
  c.self.invariant.2,
  c.self.invariant.3,
)
