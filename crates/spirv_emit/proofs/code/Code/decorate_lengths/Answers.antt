use Rattle.std.proofs.Common.{ap, ◌∙◌}
use Rattle.std.specs.Prelude.{map}
use Rattle.spirv_emit.specs.Module.{offset_of}
use Rattle.spirv_emit.proofs.Words.ListedCode.{moved, finished}
use Rattle.spirv_emit.proofs.Words.Nodes.{from_front, from_done}
use Rattle.spirv_emit.proofs.code.Code.decorate_lengths.Goals as goal

pub loop-binding-preserved : goal.loop-binding-preserved
loop-binding-preserved c =
    let h = c.loop-binding.invariant in
    let s = c.in_ok-member_decorate.ensures in
    (moved _ _ _ _ _ _ h.0 (ap (map offset_of) (from_front c.loop-binding.binding 38 c.loop-binding-test.true)) s.words_are, s.next_is ∙ h.1)

pub returns : goal.returns
returns c =
    let h = c.loop-binding.invariant in
    record { words_are = finished _ _ _ _ h.0 (ap (map offset_of) (from_done c.loop-binding.binding 38 c.loop-binding-test.false)); next_is = h.1 }
