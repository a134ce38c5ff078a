use Rattle.std.proofs.Common.{◌%◌, length, ap, ◌∙◌, List, ℕ, arith}
use Rattle.std.specs.Prelude.{[], ◌∷◌, ◌==◌}
use Rattle.std.proofs.lemmas.Bool.{ne_eqb}
use Rattle.call_log.specs.Call.{Update}
use Rattle.call_log.specs.Put.{spell_words}
use Rattle.histogram_log.proofs.Calls.{length_constant}
use Rattle.histogram_log.proofs.Spelled.{put_skipped}
use Rattle.histogram_log.proofs.put.put_update.Goals as goal

pub returns-then-i-ne0 : goal.returns-then-i-ne0
returns-then-i-ne0 c =
    put_skipped c.args.log.now.items (c.args.i % 3 == 0) (Update 4 0 (spell_words (c.args.i ∷ 0 ∷ 0 ∷ 0 ∷ [])) ∷ [])
    (ne_eqb (c.args.i % 3) 0 c.if-i-ne0.true)

pub put_constant-requires : goal.put_constant-requires
put_constant-requires c =
    omega (
      arith,
      ap (λ (l : List ℕ). length l)
          (c.deref.ensures.value ∙ c.in_ok-bytes.ensures),
      length_constant c.args.i,
    )
