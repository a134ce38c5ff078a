use Rattle.std.proofs.Common.{ℕ, List, ◌+◌, ◌-◌, ◌++◌, drop, ap, ◌∙◌, arith}
use Rattle.std.proofs.lemmas.List.{drop_all, length-take}
use Rattle.byteorder.specs.Endian.{little_bytes}
use borrow.Rule.Slice.PartMut.{mid_of}
use Rattle.call_log.proofs.Records.{written}
use Rattle.call_log.proofs.put.write_length.Goals as goal

pub returns : goal.returns
returns c =
    let part : List ℕ = mid_of c.args.at (c.args.at + 4 - c.args.at) c.args.bytes.now in
    written c.args.at (c.args.at + 4 - c.args.at) c.args.bytes.now c.write_u32.new.buf (little_bytes 4 c.args.len) (omega arith)
    (c.write_u32.ensures ∙ ap (λ (l : List ℕ). little_bytes 4 c.args.len ++ l) (drop_all 4 part (omega (arith, length-take (c.args.at + 4 - c.args.at) (drop c.args.at c.args.bytes.now)))))
