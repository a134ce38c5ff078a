use Rattle.std.proofs.Common.{◌++◌}
use Rattle.vk_types.proofs.Law.{law_of_covered}
use Rattle.core_model.proofs.Steps.Idle.{free_is_idle}
use Rattle.core_model.proofs.Steps.OtherParts.{listing_is_covered}
use Rattle.core_model.proofs.Runs.RunsKeepAll.{reached_kept, reached_queries, reached_classes, reached_blocks}
use Rattle.core_model.proofs.Runs.RunsKeepAll.{run_kept, pending_right}
use Rattle.core_model.proofs.run_laws.runs_keep_the_invariant.Goals as goal

pub returns : goal.returns
returns c = record {
  steps = λ meaning reading script core h. reached_kept meaning reading script h.lawful h.events core h.chain;
  runs = run_kept;
  queries = λ meaning reading script core h. reached_queries meaning reading script h.lawful h.events core h.chain;
  classes = λ meaning reading script core h. reached_classes meaning reading script h.lawful h.events core h.chain;
  blocks = λ meaning reading script core h. reached_blocks meaning reading script h.lawful h.events core h.chain;
  replies = λ meaning script lawful schedule core r. (run_kept meaning script lawful schedule core r).good.replies;
  pending = λ meaning script lawful schedule core r n d e. pending_right meaning script core.replies
      (run_kept meaning script lawful schedule core r).good.replies n d e;
  idle = λ meaning reading script core h. free_is_idle meaning reading script core
      (reached_kept meaning reading script h.lawful h.events core h.chain).good;
  covered = λ meaning reading script core h. listing_is_covered meaning reading script core
      (reached_kept meaning reading script h.lawful h.events core h.chain).good;
  orders = λ meaning reading script core h.
      law_of_covered meaning core.contents (core.listing ++ core.open_chunk.ops)
      (listing_is_covered meaning reading script core (reached_kept meaning reading script h.lawful h.events
      core h.chain).good);
  ran = λ meaning reading script core h. (reached_kept meaning reading script h.lawful h.events core
      h.chain).good.sound.order;
}
