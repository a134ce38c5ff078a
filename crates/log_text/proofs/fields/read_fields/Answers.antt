use Rattle.std.proofs.Common.{ℕ, List}
use Rattle.log_text.specs.Reading.{HasLayout}
use Rattle.call_log.specs.declared.kinds.Layout.TheVariants.{Free}
use Rattle.log_text.proofs.Results.{on_ok, if_bad}
use Rattle.log_text.proofs.Shapes.{body_text, body_put}
use Rattle.log_text.proofs.fields.read_fields.Goals as goal

pub returns-in-Free-clause-found : goal.returns-in-Free-clause-found
returns-in-Free-clause-found c =
    rw c.in-Free.is (on_ok c.read_bytes.result _ _ (λ b. body_put _ _ _ c.requires.small b) c.read_bytes.ensures.found)

pub returns-in-Free-clause-bad : goal.returns-in-Free-clause-bad
returns-in-Free-clause-bad c =
    rw c.in-Free.is (
    if_bad c.read_bytes.result _ _ (λ none (b : List ℕ) (h : HasLayout Free b) is. none b h.bytes (body_text _ b is)) c.read_bytes.ensures.bad
    )
