use Rattle.d3d_ref.proofs.machine.Machine.execute.Goals as goal

pub returns-clause-memory : goal.returns-clause-memory
returns-clause-memory c = c.in_ok-act.ensures c.args.n
