use Rattle.core_model.proofs.Runs.WorkedRuns.{plays_update_copy_map, plays_five_buffers}
use Rattle.core_model.proofs.Runs.WorkedQueryRun.{plays_one_query}
use Rattle.core_model.proofs.Runs.WorkedLogIsLawful.{update_copy_map_lawful}
use Rattle.core_model.proofs.Runs.WorkedQueryIsLawful.{one_query_lawful}
use Rattle.core_model.proofs.Runs.GapsAreNotLawful.{cut_list_is_not, no_shader_is_not, odd_use_is_not}
use Rattle.core_model.proofs.Runs.GapsAreNotLawful.{odd_copy_is_not, odd_slots_is_not}
use Rattle.core_model.proofs.worked.worked_logs.Goals as goal

pub returns : goal.returns
returns c = record {
  lawful = update_copy_map_lawful;
  update_copy_map = plays_update_copy_map;
  five_buffers = plays_five_buffers;
  lawful_query = one_query_lawful;
  one_query = plays_one_query;
  cut_list = cut_list_is_not;
  no_shader = no_shader_is_not;
  odd_use = odd_use_is_not;
  odd_copy = odd_copy_is_not;
  odd_slots = odd_slots_is_not;
}
