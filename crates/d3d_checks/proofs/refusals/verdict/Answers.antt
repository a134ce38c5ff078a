use Rattle.std.proofs.Common.{◌≡◌, true, false, sym, ap, ◌∙◌}
use Rattle.call_log.specs.View.{call_view}
use Rattle.d3d_model.specs.Verdict.{Place, is_too_long, is_wrong_at, place_of}
use Rattle.d3d_state.specs.Meaning.{objects_of}
use Rattle.d3d_checks.proofs.Passes.{stands_on, verdict_last, verdict_own, verdict_wrong}
use Rattle.d3d_checks.proofs.refusals.verdict.Goals as goal

pub call_refusal-requires-clause-context : goal.call_refusal-requires-clause-context
call_refusal-requires-clause-context c =
    let x = c.args.context in
    stands_on (place_of (call_view c.args.call.now)) x
    (sym (c.is_wrong_at.ensures ∙ ap (λ (p : Place). is_wrong_at p x) c.place_of-place.ensures) ∙ c.if-is_wrong_at.false)

pub is_too_long-requires : goal.is_too_long-requires
is_too_long-requires c =
    let x = c.args.context in
    stands_on (place_of (call_view c.args.call.now)) x
    (sym (c.is_wrong_at.ensures ∙ ap (λ (p : Place). is_wrong_at p x) c.place_of-place.ensures) ∙ c.if-is_wrong_at.false)

pub returns-then-is_wrong_at : goal.returns-then-is_wrong_at
returns-then-is_wrong_at c = λ past tells.
    let x = c.args.context in
    verdict_wrong (objects_of c.args.objects.now) past x (call_view c.args.call.now)
    (sym (c.is_wrong_at.ensures ∙ ap (λ (p : Place). is_wrong_at p x) c.place_of-place.ensures) ∙ c.if-is_wrong_at.true)

pub returns-in-Some : goal.returns-in-Some
returns-in-Some c = λ past tells.
    let x = c.args.context in
    let call = call_view c.args.call.now in
    let right : is_wrong_at (place_of call) x ≡ false = sym (c.is_wrong_at.ensures ∙ ap (λ (p : Place). is_wrong_at p x) c.place_of-place.ensures) ∙ c.if-is_wrong_at.false in
    verdict_own (objects_of c.args.objects.now) past x call c.in-Some.why right (c.in-Some.ensures past (tells right))

pub returns-then-is_too_long : goal.returns-then-is_too_long
returns-then-is_too_long c = λ past tells.
    let o = objects_of c.args.objects.now in
    let x = c.args.context in
    let call = call_view c.args.call.now in
    let right : is_wrong_at (place_of call) x ≡ false = sym (c.is_wrong_at.ensures ∙ ap (λ (p : Place). is_wrong_at p x) c.place_of-place.ensures) ∙ c.if-is_wrong_at.false in
    verdict_last o past x call true right (c.in_default.ensures past (tells right))
    (sym c.if-is_too_long.true ∙ c.is_too_long.ensures ∙ ap (λ (p : Place). is_too_long o x p) c.place_of-place.ensures)

pub returns-else-is_too_long : goal.returns-else-is_too_long
returns-else-is_too_long c = λ past tells.
    let o = objects_of c.args.objects.now in
    let x = c.args.context in
    let call = call_view c.args.call.now in
    let right : is_wrong_at (place_of call) x ≡ false = sym (c.is_wrong_at.ensures ∙ ap (λ (p : Place). is_wrong_at p x) c.place_of-place.ensures) ∙ c.if-is_wrong_at.false in
    verdict_last o past x call false right (c.in_default.ensures past (tells right))
    (sym c.if-is_too_long.false ∙ c.is_too_long.ensures ∙ ap (λ (p : Place). is_too_long o x p) c.place_of-place.ensures)
