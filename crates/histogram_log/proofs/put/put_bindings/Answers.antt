use Rattle.std.proofs.Common.{refl, arith}
use Rattle.histogram_log.proofs.Calls.{shader_puttable}
use Rattle.histogram_log.proofs.put.put_bindings.Goals as goal

pub put_calls-requires : goal.put_calls-requires
put_calls-requires c = (
  shader_puttable c.args.tokens.now c.requires,
  (
    record { small = omega arith; fits = refl },
    (
      record { small = omega arith; fits = refl },
      (record { small = omega arith; fits = refl }, (record { small = omega arith; fits = refl }, tt)),
    ),
  ),
)
