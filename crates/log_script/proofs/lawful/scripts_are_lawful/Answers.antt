use Rattle.log_script.proofs.Owed.LawfulScripts.{lawful}
use Rattle.log_script.proofs.lawful.scripts_are_lawful.Goals as goal

pub returns : goal.returns
returns c = lawful
