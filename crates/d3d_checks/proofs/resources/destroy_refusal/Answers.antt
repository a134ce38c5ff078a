use Rattle.std.proofs.Common.{◌≡◌, refl, ap, ◌∙◌, arith}
use Rattle.d3d_model.specs.Codes.{class_number}
use Rattle.d3d_checks.proofs.Classes.{other_class}
use Rattle.d3d_checks.proofs.resources.destroy_refusal.Goals as goal

pub returns-in_default : goal.returns-in_default
returns-in_default c = λ past.
    let h = c.in_default.ensures.unknown in
    let n = c.args.class in
    rw (
      other_class n 1 h (omega arith) (omega arith),
      other_class n 2 h (omega arith) (omega arith),
      other_class n 3 h (omega arith) (omega arith),
      other_class n 4 h (omega arith) (omega arith),
      other_class n 5 h (omega arith) (omega arith),
    ) refl

pub returns-in-List : goal.returns-in-List
returns-in-List c = λ past.
    let is : c.args.class ≡ 5 = c.in-Some.ensures.known ∙ ap class_number c.in-List.is in
    rw is c.known_refusal.ensures
