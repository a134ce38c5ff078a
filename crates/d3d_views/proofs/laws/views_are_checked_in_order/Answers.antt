use Rattle.d3d_views.proofs.CheckOrder.{view_order, right_unit}
use Rattle.d3d_views.proofs.laws.views_are_checked_in_order.Goals as goal

pub returns-clause-order : goal.returns-clause-order
returns-clause-order c = view_order

pub returns-clause-unit : goal.returns-clause-unit
returns-clause-unit c = right_unit
