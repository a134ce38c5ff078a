use Rattle.log_script.proofs.Meant.Modules.{has_outcome, too_large, counts_alike, does_as}
use Rattle.log_script.proofs.Meant.SlotsOfBytes.{slots_fit}
use Rattle.log_script.proofs.modules.modules_mean_their_shaders.Goals as goal

pub returns : goal.returns
returns c = record {
  outcome = λ log shader program words spells is counts slots allowed fit.
      has_outcome log shader program words spells is counts slots allowed fit;
  too_large = λ log shader program words spells is counts slots large view there.
      too_large log shader program words spells is counts slots large view there;
  counts = λ log shader program words spells is counts. counts_alike log shader program words spells is counts;
  fit = λ memory bytes counts slots formed. slots_fit memory bytes slots formed.each;
  effects = λ log shader program words spells is memory bytes counts slots formed allowed.
      does_as log shader program words spells is memory bytes counts slots formed allowed;
}
