use Rattle.std.proofs.Common.{◌+◌, drop}
use Rattle.base_lemmas.specs.ByteWords.{words_of}
use Rattle.shader_model.specs.Faults.{first_broken}
use Rattle.shader_tokens.specs.Decoding.{said, rules_of, parts_at}
use Rattle.shader_tokens.proofs.Judging.{Left}
use Rattle.shader_tokens.proofs.reader.Reader.operands_fault.Given as goal

abbrev pub invariant-loop-kind : goal.invariant-loop-kind
invariant-loop-kind l =
    Left (said l.self) l.row.access l.at (drop l.kind-index l.kind-items) (words_of l.rest)
    (first_broken (rules_of (said l.self) l.row.access (parts_at (l.item.at + 1) l.kind-items (words_of l.item.more.now))))
