use Rattle.d3d_ref.proofs.machine.Machine.new.Goals as goal

pub returns : goal.returns
returns c = record { objects = c.in_ok-objects.ensures; memory = c.new-2.ensures }
