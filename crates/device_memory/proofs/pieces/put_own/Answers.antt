use Rattle.std.proofs.Common.{◌+◌, ◌-◌, ◌∙◌, sym, arith}
use Rattle.vk_types.specs.Memory.{number_at}
use Rattle.device_memory.proofs.Puts.{number_get, put_by_index}
use Rattle.device_memory.proofs.pieces.put_own.Goals as goal

pub returns : goal.returns
returns c =
    let old = c.args.bytes.now in
    let size = c.args.to - c.args.from in
    put_by_index c.args.from c.args.to (λ k. number_at old (c.args.source + k)) old c.copy_within.new.self c.copy_within.ensures.len
    (λ k ge lt. c.copy_within.ensures.by_index.0 k 0 ge (omega arith) ∙ sym (number_get old (c.args.source + (k - c.args.from))))
    (λ k lt. c.copy_within.ensures.by_index.1 k 0 lt)
    (λ k ge. c.copy_within.ensures.by_index.2 k 0 (omega arith))
