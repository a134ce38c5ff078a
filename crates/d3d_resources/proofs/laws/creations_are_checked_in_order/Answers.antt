use Rattle.d3d_resources.proofs.CheckOrder.{whole_order, table_order}
use Rattle.d3d_resources.proofs.laws.creations_are_checked_in_order.Goals as goal

pub returns-clause-table : goal.returns-clause-table
returns-clause-table c = table_order

pub returns-clause-whole : goal.returns-clause-whole
returns-clause-whole c = whole_order
