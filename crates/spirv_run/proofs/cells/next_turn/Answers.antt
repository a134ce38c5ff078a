use Rattle.std.proofs.Common.{◌∙◌}
use Rattle.spirv_run.proofs.CellLists.{fresh, until_more, until_unset}
use Rattle.spirv_run.proofs.cells.next_turn.Goals as goal

pub returns-then-turn-lt4294967295-clause-held : goal.returns-then-turn-lt4294967295-clause-held
returns-then-turn-lt4294967295-clause-held c = fresh c.args.turn c.args.cells.now c.requires

pub returns-then-turn-lt4294967295-clause-until : goal.returns-then-turn-lt4294967295-clause-until
returns-then-turn-lt4294967295-clause-until c = until_more c.args.turn c.args.cells.now c.requires

pub returns-clause-held : goal.returns-clause-held
returns-clause-held c = fresh 0 c.unset.new.cells (until_unset c.unset.new.cells c.unset.ensures.unset) ∙ c.unset.ensures.kept

pub returns-clause-until : goal.returns-clause-until
returns-clause-until c = until_more 0 c.unset.new.cells (until_unset c.unset.new.cells c.unset.ensures.unset)
