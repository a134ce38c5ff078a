use Rattle.std.proofs.Common.{◌≤◌, All, List, subst, sym}
use Rattle.lifetime.specs.declared.holds.Mark.{Mark}
use Rattle.lifetime.proofs.Marks.{snoc_in_order}
use Rattle.lifetime.proofs.holds.Holds.retire.Goals as goal

pub invariant_of-self-2 : goal.invariant_of-self-2
invariant_of-self-2 c =
    rw c.in_ok-push_back.ensures.items (snoc_in_order _ _ c.self.invariant (subst (λ (ms : List Mark). All (λ (m : Mark). m.chunk ≤ c.args.k) ms) (sym c.self.view_is) c.requires))
