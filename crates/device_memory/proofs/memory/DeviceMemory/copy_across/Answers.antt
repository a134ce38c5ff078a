use Rattle.std.proofs.Common.{List, ℕ, length, ap, ◌∙◌}
use Rattle.std.proofs.lemmas.List.{with_items_is}
use Rattle.device_memory.specs.Writes.{exchanged}
use Rattle.device_memory.proofs.Moves.{source_held, across_memory, across_alike}
use Rattle.device_memory.proofs.RangeBytes.{range_long}
use Rattle.device_memory.proofs.memory.DeviceMemory.copy_across.Goals as goal

pub part-piece-requires : goal.part-piece-requires
part-piece-requires c =
    source_held c.args.self.now c.take_bytes-bytes.new.self c.args.self.now c.args.source.now c.args.target.now c.take_bytes-bytes.result.items c.take_bytes-bytes.result.items c.take_bytes-bytes.result.items
    c.requires.blocks c.requires.source c.requires.target c.take_bytes-bytes.ensures.rest c.take_bytes-bytes.ensures.bytes

pub put_piece-requires-clause-size : goal.put_piece-requires-clause-size
put_piece-requires-clause-size c =
    ap length c.part-piece.ensures
    ∙ range_long c.args.source.now c.take_bytes-bytes.new.self
    (source_held c.args.self.now c.take_bytes-bytes.new.self c.args.self.now c.args.source.now c.args.target.now c.take_bytes-bytes.result.items c.take_bytes-bytes.result.items c.take_bytes-bytes.result.items
    c.requires.blocks c.requires.source c.requires.target c.take_bytes-bytes.ensures.rest c.take_bytes-bytes.ensures.bytes)
    ∙ c.requires.size

pub returns-clause-memory : goal.returns-clause-memory
returns-clause-memory c =
    across_memory c.args.self.now c.take_bytes-bytes.new.self c.put_bytes.new.self c.args.source.now c.args.target.now c.deref_mut.result.now c.part-piece.result.now c.put_piece.new.bytes
    c.requires.blocks c.requires.source c.requires.target c.take_bytes-bytes.ensures.rest (c.deref_mut.ensures.value ∙ c.take_bytes-bytes.ensures.bytes)
    c.part-piece.ensures c.put_piece.ensures
    (c.put_bytes.ensures ∙ ap (λ (bs : List ℕ). exchanged c.args.target.now.block bs c.take_bytes-bytes.new.self) (with_items_is c.take_bytes-bytes.result c.put_piece.new.bytes (c.put_piece.auto.bytes ∙ c.deref_mut.ensures.len)))

pub returns-clause-alike : goal.returns-clause-alike
returns-clause-alike c =
    across_alike c.args.self.now c.take_bytes-bytes.new.self c.put_bytes.new.self c.args.source.now c.args.target.now c.deref_mut.result.now c.part-piece.result.now c.put_piece.new.bytes
    c.requires.blocks c.requires.source c.requires.target c.take_bytes-bytes.ensures.rest (c.deref_mut.ensures.value ∙ c.take_bytes-bytes.ensures.bytes)
    c.part-piece.ensures c.put_piece.ensures
    (c.put_bytes.ensures ∙ ap (λ (bs : List ℕ). exchanged c.args.target.now.block bs c.take_bytes-bytes.new.self) (with_items_is c.take_bytes-bytes.result c.put_piece.new.bytes (c.put_piece.auto.bytes ∙ c.deref_mut.ensures.len)))
