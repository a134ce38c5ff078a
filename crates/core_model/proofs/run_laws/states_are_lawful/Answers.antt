use Rattle.std.proofs.Common.{◌++◌}
use Rattle.vk_types.proofs.Law.{law_of_covered}
use Rattle.core_model.proofs.Steps.Idle.{free_is_idle}
use Rattle.core_model.proofs.Steps.OtherParts.{listing_is_run, listing_is_covered, memory_is_listed, entries_are_listed}
use Rattle.core_model.proofs.Listing.RunOrder.{same_order}
use Rattle.core_model.proofs.run_laws.states_are_lawful.Goals as goal

pub returns : goal.returns
returns c = record {
  chunks = λ meaning reading script core g. g.sound.cut;
  places = λ meaning reading script core g. (g.sound.sizes, g.sound.bounded);
  idle = free_is_idle;
  listing = listing_is_run;
  covered = listing_is_covered;
  alike = λ meaning reading script core g. same_order core.is_staging core.contents
      (core.listing ++ core.open_chunk.ops) (listing_is_run meaning reading script core g);
  entries = entries_are_listed;
  orders = λ meaning reading script core g. law_of_covered meaning core.contents
      (core.listing ++ core.open_chunk.ops) (listing_is_covered meaning reading script core g);
  each_once = λ meaning reading script core g. g.sound.whole;
  order = λ meaning reading script core g. g.sound.order;
  memory = memory_is_listed;
}
