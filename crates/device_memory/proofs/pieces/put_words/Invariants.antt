use Rattle.std.proofs.Common.{◌/◌, ◌%◌}
use Rattle.vk_types.specs.Memory.{byte_in, number_at}
use Rattle.device_memory.specs.Writes.{IsPut}
use Rattle.device_memory.proofs.pieces.put_words.Given as goal

abbrev pub invariant-bytes : goal.invariant-bytes
invariant-bytes l = IsPut l.fn.from l.at (λ k. byte_in (number_at l.words (k / 4 % l.unit)) (k % 4)) l.initial.bytes l.bytes
