use Rattle.std.proofs.Common.{◌≡◌, ◌++◌, drop}
use Rattle.std.specs.List.{AllByRecursion}
use Rattle.std.specs.String.{string_bytes}
use Rattle.vk_trace.specs.ListText.{IsListed, text_of}
use Rattle.vk_trace.proofs.write.print_ops.Given as goal

abbrev pub invariant-lines : goal.invariant-lines
invariant-lines l = (string_bytes l.text ++ text_of (drop l.op-index l.ops) ≡ text_of l.ops) × AllByRecursion IsListed (drop l.op-index l.ops)
