use Rattle.std.proofs.Common.{◌+◌, List, drop, ap, sym, subst, ◌∙◌, arith}
use Rattle.std.specs.List.{AllByRecursion}
use Rattle.std.proofs.lemmas.List.{drop_more, drop_all}
use Rattle.vk_types.specs.declared.message.HostPart.{HostPart}
use Rattle.device_memory.specs.Held.{block_of, memory_of}
use Rattle.vk_device.specs.Accepting.{CanWrite, written}
use Rattle.vk_device.proofs.Alike.{can_write_still}
use Rattle.vk_device.proofs.accept.write_parts.Goals as goal

abbrev no_part : HostPart
no_part = record { range = record { block = 0; from = 0; to = 0 }; span = record { start = 0; len = 0 } }

pub write_part-requires : goal.write_part-requires
write_part-requires c =
    (subst (AllByRecursion (CanWrite c.args.log.now.bytes (block_of c.each.memory))) (drop_more c.args.parts.now c.each.part-index no_part (omega arith)) c.each.invariant.0).0

pub each-preserved : goal.each-preserved
each-preserved c =
    let log = c.args.log.now.bytes in
    let cut = drop_more c.args.parts.now c.each.part-index no_part (omega arith) in
    let all = subst (AllByRecursion (CanWrite log (block_of c.each.memory))) cut c.each.invariant.0 in (
      can_write_still log c.each.memory c.write_part.new.memory c.write_part.ensures.alike (drop (c.each.part-index + 1) c.args.parts.now) all.1,
      ap (written log (drop (c.each.part-index + 1) c.args.parts.now)) c.write_part.ensures.memory
          ∙ ap (λ (l : List HostPart). written log l (memory_of c.each.memory)) (sym cut) ∙ c.each.invariant.1,
      c.each.invariant.2 ∙ c.write_part.ensures.alike,
    )

pub returns-clause-memory : goal.returns-clause-memory
returns-clause-memory c =
    ap (λ (l : List HostPart). written c.args.log.now.bytes l (memory_of c.each.memory)) (sym (drop_all c.each.part-index c.args.parts.now (omega arith))) ∙ c.each.invariant.1

pub returns-clause-alike : goal.returns-clause-alike
returns-clause-alike c = c.each.invariant.2
