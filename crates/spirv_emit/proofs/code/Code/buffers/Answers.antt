use Rattle.std.proofs.Common.{ap, ◌∙◌}
use Rattle.std.specs.Prelude.{map}
use Rattle.spirv_emit.specs.Module.{buffer_variable}
use Rattle.spirv_emit.proofs.Words.ListedCode.{moved, finished}
use Rattle.spirv_emit.proofs.Words.Nodes.{from_front, from_done}
use Rattle.spirv_emit.proofs.code.Code.buffers.Goals as goal

pub loop-buffer-preserved : goal.loop-buffer-preserved
loop-buffer-preserved c =
    let h = c.loop-buffer.invariant in
    let s = c.in_ok-variable.ensures in
    (moved _ _ _ _ _ _ h.0 (ap (map buffer_variable) (from_front c.loop-buffer.buffer 60 c.loop-buffer-test.true)) s.words_are, s.next_is ∙ h.1)

pub returns : goal.returns
returns c =
    let h = c.loop-buffer.invariant in
    record { words_are = finished _ _ _ _ h.0 (ap (map buffer_variable) (from_done c.loop-buffer.buffer 60 c.loop-buffer-test.false)); next_is = h.1 }
