use Rattle.std.proofs.Common.{rules, ◌+◌, ◌*◌, ◌≤◌, length, ◌∙◌}
use Rattle.shader_slots.proofs.Spelling.{room, word_read}
use Rattle.shader_slots.proofs.words.word.Goals as goal

pub returns : goal.returns
returns c = c.read_u32.ensures ∙ word_read c.args.bytes.now c.args.i c.requires

pub overflow_mul-i : goal.overflow_mul-i
overflow_mul-i c = let h : 4 * c.args.i + 4 ≤ length c.args.bytes.now = room c.args.bytes.now c.args.i c.requires in search rules

pub slice_bounds-read_u32-count : goal.slice_bounds-read_u32-count
slice_bounds-read_u32-count c = let h : 4 * c.args.i + 4 ≤ length c.args.bytes.now = room c.args.bytes.now c.args.i c.requires in search rules

pub slice_bounds-read_u32-start : goal.slice_bounds-read_u32-start
slice_bounds-read_u32-start c = let h : 4 * c.args.i + 4 ≤ length c.args.bytes.now = room c.args.bytes.now c.args.i c.requires in search rules

pub read_u32-requires : goal.read_u32-requires
read_u32-requires c = let h : 4 * c.args.i + 4 ≤ length c.args.bytes.now = room c.args.bytes.now c.args.i c.requires in search rules
