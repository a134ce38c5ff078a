use Rattle.std.proofs.Common.{false, subst}
use Rattle.barrier_track.specs.Bytes.{Blocks, has_byte, Meets}
use Rattle.barrier_track.proofs.PerBlock.{meets_found, meets_none}
use Rattle.barrier_track.proofs.blocks.Blocks.meets.Goals as goal

pub returns-in-Some : goal.returns-in-Some
returns-in-Some c =
    subst
    (λ (bs : Blocks). Meets (has_byte bs c.args.range.now.block) c.args.range.now.from c.args.range.now.to c.meets.result)
    c.self.view_is
    (meets_found c.self.inside.ranges.entries c.args.range.now c.in-Some.ranges.now c.meets.result
    c.in-Some.ensures.value c.meets.ensures)

pub returns-in-None : goal.returns-in-None
returns-in-None c =
    subst (λ (bs : Blocks). Meets (has_byte bs c.args.range.now.block) c.args.range.now.from c.args.range.now.to false)
    c.self.view_is
    (meets_none c.self.inside.ranges.entries c.args.range.now c.in-None.ensures.value)
