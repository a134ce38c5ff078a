use Rattle.std.proofs.Common.{rules, ◌+◌, ◌*◌, ◌≤◌, length, arith}
use Rattle.shader_slots.proofs.Spelling.{room, word_written}
use Rattle.shader_slots.proofs.words.set_word.Goals as goal

pub returns : goal.returns
returns c = rw c.write_u32.ensures (word_written c.args.bytes.now c.args.i c.args.value c.requires (omega arith))

pub overflow_mul-i : goal.overflow_mul-i
overflow_mul-i c = let h : 4 * c.args.i + 4 ≤ length c.args.bytes.now = room c.args.bytes.now c.args.i c.requires in search rules

pub slice_bounds-write_u32-count : goal.slice_bounds-write_u32-count
slice_bounds-write_u32-count c = let h : 4 * c.args.i + 4 ≤ length c.args.bytes.now = room c.args.bytes.now c.args.i c.requires in search rules

pub slice_bounds-write_u32-start : goal.slice_bounds-write_u32-start
slice_bounds-write_u32-start c = let h : 4 * c.args.i + 4 ≤ length c.args.bytes.now = room c.args.bytes.now c.args.i c.requires in search rules

pub write_u32-requires : goal.write_u32-requires
write_u32-requires c = let h : 4 * c.args.i + 4 ≤ length c.args.bytes.now = room c.args.bytes.now c.args.i c.requires in search rules
