use Rattle.log_script.proofs.Owed.BoundLaws.{reads_its_last_use, overwrites_unbound}
use Rattle.log_script.proofs.binding.scripts_know_what_is_bound.Goals as goal

pub returns : goal.returns
returns c = record { uses = reads_its_last_use; unbound = overwrites_unbound }
