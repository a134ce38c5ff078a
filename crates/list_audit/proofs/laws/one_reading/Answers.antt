use Rattle.list_audit.proofs.OneReading.{one_listing, no_bad_line, one_bad_line}
use Rattle.list_audit.proofs.laws.one_reading.Goals as goal

pub returns-clause-one_listing : goal.returns-clause-one_listing
returns-clause-one_listing c = one_listing

pub returns-clause-no_bad_line : goal.returns-clause-no_bad_line
returns-clause-no_bad_line c = no_bad_line

pub returns-clause-one_bad_line : goal.returns-clause-one_bad_line
returns-clause-one_bad_line c = one_bad_line
