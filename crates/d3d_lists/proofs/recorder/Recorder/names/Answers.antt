use Rattle.std.proofs.Common.{ap, ◌∙◌}
use Rattle.std.specs.Prelude.{nat_lt}
use Rattle.d3d_lists.specs.Recorded.{lists_of, recorded_by}
use Rattle.d3d_lists.proofs.Times.{names_above}
use Rattle.d3d_lists.proofs.recorder.Recorder.names.Goals as goal

pub returns : goal.returns
returns c =
    let self = c.args.self.now in
    ap (nat_lt 0) (c.count.ensures ∙ self.counted c.args.name) ∙ names_above c.args.name (recorded_by self) (lists_of self)
