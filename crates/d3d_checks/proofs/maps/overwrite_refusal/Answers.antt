use Rattle.std.proofs.Common.{sym, subst, ◌∙◌}
use Rattle.d3d_model.specs.D3dState.{context_of}
use Rattle.d3d_model.specs.Past.{Past}
use Rattle.d3d_model.specs.Stream.{past_of_list}
use Rattle.d3d_uses.specs.Summary.{Summarises}
use Rattle.d3d_checks.proofs.Overwrites.{asked_here, asked_there, checks_discarded, checks_first, checks_here, list_made_none}
use Rattle.d3d_checks.proofs.maps.overwrite_refusal.Goals as goal

pub returns-then-context-eq0 : goal.returns-then-context-eq0
returns-then-context-eq0 c = λ past o tells.
    let x = c.args.context in
    let e = c.if-context-eq0.true in
    let own = subst (λ (p : Past). Summarises p c.args.uses.now c.args.res) (asked_here past o x e) tells in
    checks_here o past x c.args.res c.args.offset c.args.bytes.now c.in_use_refusal.result e (c.in_use_refusal.ensures past own)

pub returns-then-was_discarded : goal.returns-then-was_discarded
returns-then-was_discarded c = λ past o tells.
    let x = c.args.context in
    let list = past_of_list o (context_of o x).recorded in
    let e = c.if-context-eq0.false in
    let own = subst (λ (p : Past). Summarises p c.args.uses.now c.args.res) (asked_there past o x e) tells in
    checks_discarded o past x c.args.res c.args.offset c.args.bytes.now c.in_use_refusal-then-was_discarded.result e
    (sym (c.was_discarded.ensures list own (list_made_none o x c.args.res)) ∙ c.if-was_discarded.true)
    (c.in_use_refusal-then-was_discarded.ensures list own)

pub returns : goal.returns
returns c = λ past o tells.
    let x = c.args.context in
    let list = past_of_list o (context_of o x).recorded in
    let e = c.if-context-eq0.false in
    let own = subst (λ (p : Past). Summarises p c.args.uses.now c.args.res) (asked_there past o x e) tells in
    checks_first o past x c.args.res c.args.offset c.args.bytes.now e (sym (c.was_discarded.ensures list own (list_made_none o x c.args.res)) ∙ c.if-was_discarded.false)
