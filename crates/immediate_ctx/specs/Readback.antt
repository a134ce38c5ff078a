-- What a call that asks for bytes or a count is told, by the calls that are finished.
use Rattle.std.specs.Prelude.{ℕ, Bool, true, false, cond, Option, Some, None}
use Rattle.core_model.specs.AppActs.{is_finished, used_or_zero}
use Rattle.immediate_ctx.specs.declared.readback.Readback.{Readback}
use Rattle.immediate_ctx.specs.declared.readback.Readback.TheVariants.{Ready, Waits, Still}

-- it is answered where its last use is finished or it has none; else it is pending, if it may be, or waits
abbrev pub readback_of : Option ℕ → Bool → ℕ → Readback
readback_of used may_pend done =
    cond (is_finished used done) Ready
    (cond may_pend (Still (used_or_zero used) done) (Waits (used_or_zero used)))
