use Rattle.std.proofs.Common.{ℕ, ◌-◌, ◌/◌, ◌%◌, sym, ap, ◌∙◌, arith}
use Rattle.vk_types.specs.Memory.{byte_in, number_at}
use Rattle.device_memory.proofs.Puts.{number_get, put_more}
use Rattle.device_memory.proofs.pieces.put_words.Goals as goal

pub bytes-preserved : goal.bytes-preserved
bytes-preserved c =
    let k = c.bytes.at - c.args.from in
    put_more c.args.from c.bytes.at c.byte_in.result (λ k. byte_in (number_at c.args.words.now (k / 4 % c.args.unit)) (k % 4)) c.args.bytes.now c.bytes.bytes (omega arith) (omega arith)
    (c.byte_in.ensures ∙ ap (λ (w : ℕ). byte_in w (k % 4)) (sym (number_get c.args.words.now (k / 4 % c.args.unit)))) c.bytes.invariant
