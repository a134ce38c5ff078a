use Rattle.std.proofs.Common.{arith}
use Rattle.call_log.specs.Grammar.{Frame}
use Rattle.d3d_plan.proofs.Places.{are_bytes, body_is_long}
use Rattle.d3d_plan.proofs.make.says_its_length.Goals as goal

pub returns : goal.returns
returns c =
    let f : Frame = record { kind = c.args.kind; context = 0; body = c.args.body.now } in
    body_is_long f (record { kind_fits = omega arith; context_fits = omega arith; body_fits = c.requires.small; whole = c.requires.whole })
    (are_bytes c.args.body.now (λ i. omega (arith, c.type_inv.body i)))
