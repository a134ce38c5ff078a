use Rattle.log_script.proofs.Owed.Classes.{fits, none}
use Rattle.log_script.proofs.turn_laws.created_buffers_fit_their_classes.Goals as goal

pub returns : goal.returns
returns c = record { classes = fits; staging = none }
