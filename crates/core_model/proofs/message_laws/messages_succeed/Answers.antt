use Rattle.core_model.proofs.Messages.HeadsSucceed.{heads_succeed}
use Rattle.core_model.proofs.Messages.Messaging.{kept, known, stood, chunk_follows, batch_follows, completion_follows}
use Rattle.core_model.proofs.Messages.Messaging.{post_follows, is_made, listed_there, batches_listed, stands_there}
use Rattle.core_model.proofs.message_laws.messages_succeed.Goals as goal

pub returns : goal.returns
returns c = record {
  heads = λ log reading core h.
      heads_succeed log reading core (kept log.meaning reading log.script h.lawful h.events core h.chain)
      (known log.meaning reading log.script h.lawful h.events core h.chain);
  chunks = λ log reading core h front s back e m.
      chunk_follows log reading core (kept log.meaning reading log.script h.lawful h.events core h.chain)
      (known log.meaning reading log.script h.lawful h.events core h.chain) front s back e m;
  batches = λ log reading core h front s back e m.
      batch_follows log reading core (kept log.meaning reading log.script h.lawful h.events core h.chain)
      (known log.meaning reading log.script h.lawful h.events core h.chain) front s back e m;
  submissions = λ log reading core h front s back e m.
      batch_follows log reading core (kept log.meaning reading log.script h.lawful h.events core h.chain)
      (known log.meaning reading log.script h.lawful h.events core h.chain) front s back e m.batch;
  completions = λ log reading core h earlier m others e c.
      completion_follows log reading core (kept log.meaning reading log.script h.lawful h.events core h.chain)
      (known log.meaning reading log.script h.lawful h.events core h.chain) earlier m others e
      (stood log.meaning reading log.script h.lawful h.events core h.chain) c;
  posts = λ log reading core h earlier m others e p.
      post_follows log reading core (kept log.meaning reading log.script h.lawful h.events core h.chain)
      (known log.meaning reading log.script h.lawful h.events core h.chain) earlier m others e
      (stood log.meaning reading log.script h.lawful h.events core h.chain) p;
  filled = λ log reading core h front s back e.
      (is_made log reading core (kept log.meaning reading log.script h.lawful h.events core h.chain)
      (known log.meaning reading log.script h.lawful h.events core h.chain) front s back e).filled;
  listed = λ log reading core h front s back e.
      listed_there log reading core (kept log.meaning reading log.script h.lawful h.events core h.chain)
      (known log.meaning reading log.script h.lawful h.events core h.chain) front s back e;
  count = λ log reading core h. batches_listed log.script core
      (known log.meaning reading log.script h.lawful h.events core h.chain).lists;
  stands = λ log reading core h front s back e.
      stands_there log reading core (kept log.meaning reading log.script h.lawful h.events core h.chain)
      (known log.meaning reading log.script h.lawful h.events core h.chain)
      (stood log.meaning reading log.script h.lawful h.events core h.chain) front s back e;
}
