use Rattle.core_model.proofs.Runs.RunsKeepAll.{reached_kept}
use Rattle.core_model.proofs.Messages.Scenes.{reached_by_kinds}
use Rattle.core_model.proofs.Blocks.MarkedBlocks.{Sorts, sorts_kinds}
use Rattle.core_model.proofs.Blocks.HeldMarks.{Held, held_kinds}
use Rattle.core_model.proofs.Blocks.HomeComing.{homes}
use Rattle.core_model.proofs.Messages.Copies.{copy_there, copy_unbound}
use Rattle.core_model.proofs.block_laws.marked_blocks_come_home.Goals as goal

pub returns : goal.returns
returns c = record {
  marked = λ meaning reading script core h.
      (reached_by_kinds meaning reading script Sorts (sorts_kinds meaning reading script h.lawful) h.lawful h.events
      core h.chain).marked;
  homes = λ meaning reading script old h new p m ms e b.
      homes meaning reading script old m ms e new p (reached_kept meaning reading script h.lawful h.events old h.chain)
      (reached_by_kinds meaning reading script Sorts (sorts_kinds meaning reading script h.lawful) h.lawful h.events
      old h.chain)
      (reached_by_kinds meaning reading script Held (held_kinds meaning reading script h.lawful) h.lawful h.events
      old h.chain) b;
  copies = λ meaning reading script core h earlier m others e b st n.
      copy_unbound meaning reading script core (reached_kept meaning reading script h.lawful h.events core h.chain)
      earlier m others e b st n;
  needed = λ meaning reading script core h earlier m others e b st n.
      copy_there meaning reading script core (reached_kept meaning reading script h.lawful h.events core h.chain)
      earlier m others e b st n;
}
