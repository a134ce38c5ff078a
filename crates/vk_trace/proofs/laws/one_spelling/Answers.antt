use Rattle.vk_trace.proofs.Spelling.{one_listing, one_text, every_listing, read_back, no_bad_line, one_bad_line}
use Rattle.vk_trace.proofs.laws.one_spelling.Goals as goal

pub returns-clause-one_listing : goal.returns-clause-one_listing
returns-clause-one_listing c = one_listing

pub returns-clause-one_text : goal.returns-clause-one_text
returns-clause-one_text c = one_text

pub returns-clause-every_listing : goal.returns-clause-every_listing
returns-clause-every_listing c = every_listing

pub returns-clause-read_back : goal.returns-clause-read_back
returns-clause-read_back c = read_back

pub returns-clause-no_bad_line : goal.returns-clause-no_bad_line
returns-clause-no_bad_line c = no_bad_line

pub returns-clause-one_bad_line : goal.returns-clause-one_bad_line
returns-clause-one_bad_line c = one_bad_line
