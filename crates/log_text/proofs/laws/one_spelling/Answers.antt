use Rattle.log_text.proofs.Spelling.{one_list, one_log_of, one_text_of, log_has_text, read_back, no_bad_line, one_bad_line}
use Rattle.log_text.proofs.laws.one_spelling.Goals as goal

pub returns-clause-records : goal.returns-clause-records
returns-clause-records c = one_list

pub returns-clause-one_log : goal.returns-clause-one_log
returns-clause-one_log c = one_log_of

pub returns-clause-one_text : goal.returns-clause-one_text
returns-clause-one_text c = one_text_of

pub returns-clause-every_log : goal.returns-clause-every_log
returns-clause-every_log c = log_has_text

pub returns-clause-read_back : goal.returns-clause-read_back
returns-clause-read_back c = read_back

pub returns-clause-no_bad_line : goal.returns-clause-no_bad_line
returns-clause-no_bad_line c = no_bad_line

pub returns-clause-one_bad_line : goal.returns-clause-one_bad_line
returns-clause-one_bad_line c = one_bad_line
