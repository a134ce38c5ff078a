use Rattle.core_model.proofs.Ends.ChunksFinish.{chunks_finish, blocks_return}
use Rattle.core_model.proofs.end_laws.chunks_can_finish.Goals as goal

pub returns : goal.returns
returns c = record {
  posts = λ meaning reading script core h. chunks_finish meaning reading script h.lawful h.events
      core h.chain;
  homes = λ meaning reading script core h. blocks_return meaning reading script h.lawful h.events
      core h.chain;
}
