use Rattle.std.proofs.Common.{◌≡◌, ℕ, ◌<◌, Some, slice_get}
use Rattle.vk_types.specs.declared.touch.Touch.{Touch}
use Rattle.vk_types.specs.Hazards.{touches}
use Rattle.vk_order.specs.Index.{HasTouch, IndexGrew, IsSound}
use Rattle.vk_order.proofs.index.Index.note_command.Given as goal

abbrev pub invariant-loop-i : goal.invariant-loop-i
invariant-loop-i l = record {
  sound : IsSound l.self;
  grew : IndexGrew l.initial.self l.self;
  noted : (j : ℕ) (t : Touch) → j < l.i → slice_get (touches l.c) j ≡ Some t → HasTouch l.self l.stages t l.past l.finish;
}
