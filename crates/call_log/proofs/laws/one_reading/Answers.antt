use Rattle.call_log.proofs.OneReading.{one_log, no_fault, one_fault}
use Rattle.call_log.proofs.SomeReading.{some_reading}
use Rattle.call_log.proofs.laws.one_reading.Goals as goal

pub returns-clause-some : goal.returns-clause-some
returns-clause-some c = some_reading

pub returns-clause-records : goal.returns-clause-records
returns-clause-records c = one_log

pub returns-clause-no_fault : goal.returns-clause-no_fault
returns-clause-no_fault c = no_fault

pub returns-clause-one_fault : goal.returns-clause-one_fault
returns-clause-one_fault c = one_fault
