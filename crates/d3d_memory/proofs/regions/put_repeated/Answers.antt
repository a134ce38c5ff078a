use Rattle.std.proofs.Common.{◌≡◌, ◌+◌, ◌*◌, length, sym, ◌∙◌, arith}
use Rattle.std.proofs.lemmas.Bool.{eqb-true, le-leb, lt-leb}
use Rattle.d3d_model.specs.Regions.{repeated}
use Rattle.d3d_memory.proofs.Puts.{put_empty, put_is_mid, put_passes, length-repeated}
use Rattle.d3d_memory.proofs.regions.put_repeated.Goals as goal
use Rattle.d3d_memory.proofs.regions.put_repeated.Goals.{then-is_empty-via-then-is_empty, then-is_empty-via-else-is_empty+then-end-bytes}

pub returns-then-is_empty : goal.returns-then-is_empty
returns-then-is_empty c =
    let piece = repeated c.args.times c.args.element.now in
    elim c.then-is_empty.branch [
      | then-is_empty-via-then-is_empty w ↦ put_empty c.args.bytes.now c.args.from c.args.times c.args.element.now (eqb-true (length c.args.element.now) 0 (sym c.is_empty.ensures ∙ w.if-is_empty.true))
      | then-is_empty-via-else-is_empty+then-end-bytes w ↦
          sym (put_passes c.args.bytes.now c.args.from piece (lt-leb (c.args.from + length piece) (length c.args.bytes.now) (omega (arith, length-repeated c.args.times c.args.element.now))))
    ]

pub returns : goal.returns
returns c =
    let piece = repeated c.args.times c.args.element.now in
    let long : length piece ≡ c.args.times * length c.args.element.now = length-repeated c.args.times c.args.element.now in
    put_is_mid c.args.bytes.now c.repeat.new.bytes piece c.args.from _ (le-leb (c.args.from + length piece) (length c.args.bytes.now) (omega arith)) c.repeat.ensures (omega arith)
