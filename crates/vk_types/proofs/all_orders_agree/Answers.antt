use Rattle.vk_types.specs.Before.{before}
use Rattle.vk_types.proofs.Law.{law_of_orders, law_of_covered, covered_orders, hazards_kept}
use Rattle.vk_types.proofs.all_orders_agree.Goals as goal

pub returns : goal.returns
returns c = record {
  any_relation = law_of_orders;
  covered = law_of_covered;
  kept = λ ops all order h. hazards_kept ops (before ops) (covered_orders ops all) order h.1;
}
