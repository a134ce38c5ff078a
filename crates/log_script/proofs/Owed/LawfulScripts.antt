-- The script of every log is lawful: what is asked of it, part by part.
use Rattle.std.proofs.Common.{List}
use Rattle.call_log.specs.Call.{Issued}
use Rattle.core_model.specs.Script.{Item}
use Rattle.core_model.specs.Lawful.{IsLawful}
use Rattle.log_script.specs.LogScript.{meaning_of, script_of}
use Rattle.log_script.proofs.Owed.Numbering.{numbers, next, last_ends}
use Rattle.log_script.proofs.Owed.Classes.{in_limit, fits, none}
use Rattle.log_script.proofs.Owed.TurnsBound.{script_bound}
use Rattle.log_script.proofs.Owed.FewDynamic.{few_at}
use Rattle.log_script.proofs.Owed.LawfulTurns.{meets, asks_rightly, uses_rightly, plays_rightly, plays_formed}
use Rattle.log_script.proofs.Owed.LawfulTurns.{shaders_created, bound_fits}

pub lawful : (log : List Issued) → IsLawful (meaning_of log) (script_of log)
lawful log = record {
  numbers = numbers log;
  calls = next log;
  ends = last_ends log;
  uses = uses_rightly log;
  asks = asks_rightly log;
  plays = plays_rightly log;
  formed = plays_formed log;
  shaders = shaders_created log;
  fits = bound_fits log;
  filled = λ front call item ends play bound back e. (meets log front (Item call item ends play bound) back
      e).fits.filled;
  quiet = λ front call item ends play bound back e. (script_bound log front call item ends play bound back e).quiet;
  binds = λ front call item ends play bound back e. (script_bound log front call item ends play bound back e).touched;
  sizes = in_limit log;
  classes = fits log;
  staging = none log;
  few = few_at (meaning_of log) log;
}
