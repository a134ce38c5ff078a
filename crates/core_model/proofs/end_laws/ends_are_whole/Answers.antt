use Rattle.vk_types.proofs.Law.{law_of_covered}
use Rattle.core_model.proofs.Runs.Choices.{run_free}
use Rattle.core_model.proofs.Ends.EndsWhole.{ends_whole}
use Rattle.core_model.proofs.Ends.CoreChains.{run_ended, end_ran, end_memory, end_covered, end_listing}
use Rattle.core_model.proofs.end_laws.ends_are_whole.Goals as goal

pub returns : goal.returns
returns c = record {
  whole = λ meaning reading script core h. ends_whole meaning reading script h.lawful h.events core h.chain;
  each_once = λ meaning reading script core h. end_ran meaning reading script h.lawful h.events core h.chain;
  memory = λ meaning reading script core h. end_memory meaning reading script h.lawful h.events core h.chain;
  listing = λ meaning reading script core h. end_listing meaning reading script h.lawful h.events core h.chain;
  orders = λ meaning reading script core h e. law_of_covered meaning core.contents core.listing
      (end_covered meaning reading script h.lawful h.events core h.chain e);
  runs = λ meaning script schedule core h. (
    run_ended meaning script schedule core h,
    run_free meaning script schedule core h,
  );
}
