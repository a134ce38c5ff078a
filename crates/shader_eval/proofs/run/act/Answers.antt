use Rattle.shader_eval.specs.declared.action.Action.TheVariants as does
use Rattle.shader_eval.specs.Frames.{seen}
use Rattle.shader_eval.proofs.Turns.{acts_as}
use Rattle.shader_eval.proofs.run.act.Goals as goal

pub returns-in-One-clause-state : goal.returns-in-One-clause-state
returns-in-One-clause-state c =
    acts_as c.args.declared.now c.args.thread.now c.args.instr.now (seen c.args.frame.now c.args.slots.now.words) (seen c.by_one.new.self c.args.slots.now.words) c.in-Some.action (does.One c.in-One.of) c.in-Some.ensures c.in-One.is c.by_one.ensures

pub returns-in-Two-clause-state : goal.returns-in-Two-clause-state
returns-in-Two-clause-state c =
    acts_as c.args.declared.now c.args.thread.now c.args.instr.now (seen c.args.frame.now c.args.slots.now.words) (seen c.by_two.new.self c.args.slots.now.words) c.in-Some.action (does.Two c.in-Two.of) c.in-Some.ensures c.in-Two.is c.by_two.ensures

pub returns-in-Three-clause-state : goal.returns-in-Three-clause-state
returns-in-Three-clause-state c =
    acts_as c.args.declared.now c.args.thread.now c.args.instr.now (seen c.args.frame.now c.args.slots.now.words) (seen c.by_three.new.self c.args.slots.now.words) c.in-Some.action (does.Three c.in-Three.of) c.in-Some.ensures c.in-Three.is c.by_three.ensures

pub returns-in-Insert-clause-state : goal.returns-in-Insert-clause-state
returns-in-Insert-clause-state c =
    acts_as c.args.declared.now c.args.thread.now c.args.instr.now (seen c.args.frame.now c.args.slots.now.words) (seen c.insert.new.self c.args.slots.now.words) c.in-Some.action does.Insert c.in-Some.ensures c.in-Insert.is c.insert.ensures

pub returns-in-Pair-clause-state : goal.returns-in-Pair-clause-state
returns-in-Pair-clause-state c =
    acts_as c.args.declared.now c.args.thread.now c.args.instr.now (seen c.args.frame.now c.args.slots.now.words) (seen c.by_pair.new.self c.args.slots.now.words) c.in-Some.action (does.Pair c.in-Pair.of) c.in-Some.ensures c.in-Pair.is c.by_pair.ensures

pub returns-in-Load-clause-state : goal.returns-in-Load-clause-state
returns-in-Load-clause-state c =
    acts_as c.args.declared.now c.args.thread.now c.args.instr.now (seen c.args.frame.now c.args.slots.now.words) (seen c.load.new.self c.args.slots.now.words) c.in-Some.action (does.Load c.in-Load.form) c.in-Some.ensures c.in-Load.is c.load.ensures

pub returns-in-Store-clause-state : goal.returns-in-Store-clause-state
returns-in-Store-clause-state c =
    acts_as c.args.declared.now c.args.thread.now c.args.instr.now (seen c.args.frame.now c.args.slots.now.words) (seen c.args.frame.now c.store.new.slots.words) c.in-Some.action (does.Store c.in-Store.form) c.in-Some.ensures c.in-Store.is c.store.ensures.state

pub returns-in-Change-clause-state : goal.returns-in-Change-clause-state
returns-in-Change-clause-state c =
    acts_as c.args.declared.now c.args.thread.now c.args.instr.now (seen c.args.frame.now c.args.slots.now.words) (seen c.change.new.self c.change.new.slots.words) c.in-Some.action (does.Change c.in-Change.of) c.in-Some.ensures c.in-Change.is c.change.ensures.state
