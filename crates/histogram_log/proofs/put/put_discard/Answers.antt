use Rattle.std.proofs.Common.{◌%◌, length, ap, ◌∙◌, List, ℕ, arith}
use Rattle.std.specs.Prelude.{[], ◌∷◌, ◌==◌}
use Rattle.std.proofs.lemmas.Bool.{ne_eqb}
use Rattle.call_log.specs.Call.{MapWrite}
use Rattle.call_log.specs.Put.{spell_words}
use Rattle.histogram_log.specs.Histogram.{input_words}
use Rattle.histogram_log.proofs.Calls.{length_values}
use Rattle.histogram_log.proofs.Spelled.{put_skipped}
use Rattle.histogram_log.proofs.put.put_discard.Goals as goal

pub returns-then-i-ne1 : goal.returns-then-i-ne1
returns-then-i-ne1 c =
    put_skipped c.args.log.now.items (c.args.i % 4 == 1)
    (MapWrite 2 0 0 (spell_words (input_words c.args.i 64)) ∷ []) (ne_eqb (c.args.i % 4) 1 c.if-i-ne1.true)

pub put_values-requires : goal.put_values-requires
put_values-requires c =
    omega (arith, ap (λ (l : List ℕ). length l) (c.deref.ensures.value ∙ c.in_ok-bytes.ensures), length_values c.args.i)
