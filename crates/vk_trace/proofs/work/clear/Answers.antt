use Rattle.std.proofs.Common.{sym, ap, drop, ◌∙◌}
use Rattle.vk_trace.proofs.Works.{no_work, clear_of, clear_behind, clear_rules}
use Rattle.vk_trace.proofs.work.clear.Goals as goal

pub returns-in_err-memory : goal.returns-in_err-memory
returns-in_err-memory c = no_work _ _ _ _ c.from_residual.ensures (λ w more l f n s e. let p = clear_of w _ more l f n e in c.in_err-memory.ensures p.memory _ p.four p.spelled)

pub returns-in_err-unit : goal.returns-in_err-unit
returns-in_err-unit c =
    no_work _ _ _ _ c.from_residual-in_err-unit.ensures
    (λ w more l f n s e. let p = clear_of w _ more l f n e in c.in_err-unit.ensures p.unit _ p.small (clear_behind w _ _ more _ c.in_ok-memory.ensures.0 c.in_ok-memory.ensures.1 p))

pub returns-in_err-key : goal.returns-in_err-key
returns-in_err-key c =
    no_work _ _ _ _ c.from_residual-in_err-key.ensures
    (λ w more l f n s e.
    let p = clear_of w _ more l f n e in
    c.in_err-key.ensures _ (ap (drop 1) (sym c.in_ok-unit.ensures.1 ∙ clear_behind w _ _ more _ c.in_ok-memory.ensures.0 c.in_ok-memory.ensures.1 p)))

pub returns-in_err-target : goal.returns-in_err-target
returns-in_err-target c =
    no_work _ _ _ _ c.from_residual-in_err-target.ensures
    (λ w more l f n s e.
    let p = clear_of w _ more l f n e in
    c.in_err-target.ensures p.target _ p.to (ap (drop 1) (sym c.in_ok-key.ensures ∙ ap (drop 1) (sym c.in_ok-unit.ensures.1 ∙ clear_behind w _ _ more _ c.in_ok-memory.ensures.0 c.in_ok-memory.ensures.1 p))))

pub returns-then-not-has_elements : goal.returns-then-not-has_elements
returns-then-not-has_elements c = λ w more l f n s e.
    let p = clear_of w _ more l f n e in
    c.if-not-has_elements.ensures
    (clear_rules w _ _ _ _ _ more _ _ _ c.in_ok-memory.ensures.0 c.in_ok-memory.ensures.1 c.in_ok-unit.ensures.0 c.in_ok-unit.ensures.1 c.in_ok-key.ensures c.in_ok-target.ensures.0 c.in_ok-target.ensures.1 p)
