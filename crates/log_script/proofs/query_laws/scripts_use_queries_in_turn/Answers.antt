use Rattle.core_model.specs.Script.{Mark_query, Count, Constant, Asked, Item}
use Rattle.log_script.proofs.Owed.QueriesInTurn.{script_right}
use Rattle.log_script.proofs.query_laws.scripts_use_queries_in_turn.Goals as goal

pub returns-clause-marks : goal.returns-clause-marks
returns-clause-marks c = λ log front call item ends query begins bound back e. script_right log front
    (Item call item ends (Mark_query query begins) bound) back e

pub returns-clause-count_uses : goal.returns-clause-count_uses
returns-clause-count_uses c = λ log front call query used may_pend back
    e. (script_right log front (Asked call (Count query) used may_pend) back e).0

pub returns-clause-count_asks : goal.returns-clause-count_asks
returns-clause-count_asks c = λ log front call query used may_pend back e. let r =
    script_right log front (Asked call (Count query) used may_pend) back e in (r.1, r.2)

pub returns-clause-constants : goal.returns-clause-constants
returns-clause-constants c = λ log front call value used may_pend back e. script_right log front
    (Asked call (Constant value) used may_pend) back e
