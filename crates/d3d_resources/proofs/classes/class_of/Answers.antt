use Rattle.std.proofs.Common.{◌≤◌, sym, subst}
use Rattle.d3d_resources.proofs.LeastClass.{first_class}
use Rattle.d3d_resources.proofs.classes.class_of.Goals as goal

pub returns-then-size-class_length-clause-value : goal.returns-then-size-class_length-clause-value
returns-then-size-class_length-clause-value c =
    sym (first_class c.args.size c.classes.class c.classes-test.true c.classes.invariant (subst (λ n. c.args.size ≤ n) c.class_length.ensures c.if-size-class_length.true))
