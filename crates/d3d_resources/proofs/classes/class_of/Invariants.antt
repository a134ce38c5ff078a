use Rattle.d3d_resources.proofs.LeastClass.{NoneBelow}
use Rattle.d3d_resources.proofs.classes.class_of.Given as goal

abbrev pub invariant-classes : goal.invariant-classes
invariant-classes l = NoneBelow l.size l.class
