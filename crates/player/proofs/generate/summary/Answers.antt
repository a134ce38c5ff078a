use Rattle.std.proofs.Common.{◌≤◌, ℕ, List, length, sym, ap, subst, ◌∙◌, arith}
use Rattle.std.specs.Prelude.{Err, IfErr}
use Rattle.dx_types.specs.declared.limits.TheConstants.{MAX_INPUT}
use Rattle.call_log.specs.Grammar.{BadOnly, IsLog}
use Rattle.call_log.proofs.OneReading.{one_log, no_fault}
use Rattle.histogram_log.specs.Histogram.{histogram}
use Rattle.histogram_log.specs.Logged.{frames}
use Rattle.histogram_log.proofs.Calls.{histogram_spelt}
use Rattle.histogram_log.proofs.Lengths.{short_log}
use Rattle.histogram_log.proofs.Logs.{is_log}
use Rattle.player.proofs.generate.summary.Goals as goal

pub read_log-requires : goal.read_log-requires
read_log-requires c =
    subst (λ (l : List ℕ). length l ≤ MAX_INPUT) (sym (c.deref.ensures.value ∙ c.in_ok-bytes.ensures))
    (short_log c.args.rounds (omega arith))

pub summary_of-requires : goal.summary_of-requires
summary_of-requires c =
    let calls = histogram c.args.rounds in
    one_log c.deref.result.now _ (frames calls) c.in-Ok.ensures.found
    (subst (λ (l : List ℕ). IsLog l (frames calls)) (sym (c.deref.ensures.value ∙ c.in_ok-bytes.ensures))
    (is_log calls (histogram_spelt c.args.rounds)))

pub unreachable-requires : goal.unreachable-requires
unreachable-requires c =
    let calls = histogram c.args.rounds in
    let bad = subst (λ r. IfErr r (λ e. BadOnly c.deref.result.now e))
    (c.in-Err-Bad.is ∙ ap Err c.in-Err-Bad.field-0-is) c.read_log.ensures.fault in
    no_fault c.deref.result.now (frames calls) c.in-Err-Bad.field-0-0
    (subst (λ (l : List ℕ). IsLog l (frames calls)) (sym (c.deref.ensures.value ∙ c.in_ok-bytes.ensures))
    (is_log calls (histogram_spelt c.args.rounds)))
    bad
