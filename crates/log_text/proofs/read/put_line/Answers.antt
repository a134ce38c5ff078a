use Rattle.std.proofs.Common.{drop, refl, sym, ap, subst, ◌∙◌}
use Rattle.call_log.specs.Grammar.{Frame}
use Rattle.call_log.specs.declared.kinds.Layout.{Layout}
use Rattle.log_text.specs.LogText.{fields, IsRecord}
use Rattle.log_text.specs.Reading.{HasLayout}
use Rattle.call_log.specs.Kinds.{kind_view}
use Rattle.log_text.proofs.Results.{on_ok, if_bad}
use Rattle.log_text.proofs.LineParts.{parts_of, behind_context, name_word, layout_word, record_read}
use Rattle.log_text.proofs.read.put_line.Goals as goal

pub returns-in_default-clause-bad : goal.returns-in_default-clause-bad
returns-in_default-clause-bad c =
    λ (f : Frame) (r : IsRecord f) is. c.in_default.ensures f.context _ r.frame.context_fits refl (is ∙ (parts_of f r).spelled)

pub returns-in_default-behind-clause-bad : goal.returns-in_default-behind-clause-bad
returns-in_default-behind-clause-bad c =
    λ (f : Frame) (r : IsRecord f) is.
    let s = c.in-Some.ensures in
    c.in_default-behind.ensures _ (behind_context f (parts_of f r) c.in-Some.context _ _ r s.0 s.1 s.2 is)

pub returns-in_default-kind_named-clause-bad : goal.returns-in_default-kind_named-clause-bad
returns-in_default-kind_named-clause-bad c =
    λ (f : Frame) (r : IsRecord f) is.
    let p = parts_of f r in
    let s = c.in-Some.ensures in
    let rest = behind_context f p c.in-Some.context _ _ r s.0 s.1 s.2 is in
    let name = name_word f p _ _ _ c.cut.ensures (ap (drop 1) (sym c.in-Some-behind.ensures ∙ rest)) in
    c.in_default-kind_named.ensures f.kind p.kind_is p.is (sym name.0)

pub returns-clause-bad : goal.returns-clause-bad
returns-clause-bad c =
    if_bad c.put_record.result _ _
    (λ none (f : Frame) (r : IsRecord f) is.
    let p = parts_of f r in
    let s = c.in-Some.ensures in
    let rest = behind_context f p c.in-Some.context _ _ r s.0 s.1 s.2 is in
    let name = name_word f p _ _ _ c.cut.ensures (ap (drop 1) (sym c.in-Some-behind.ensures ∙ rest)) in
    let layout = layout_word f p (kind_view c.in-Some-kind_named.kind) c.in-Some-kind_named.ensures.0 (c.in-Some-kind_named.ensures.1 ∙ name.0) in
    none f.body (subst (λ (s : Layout). HasLayout s f.body) layout p.shaped) (name.1 ∙ ap (λ (s : Layout). fields s f.body) layout))
    c.put_record.ensures.bad

pub returns-clause-found : goal.returns-clause-found
returns-clause-found c =
    on_ok c.put_record.result _ _
    (λ p.
    record_read (kind_view c.in-Some-kind_named.kind) c.in-Some.context p.body c.args.text.now c.in-Some.rest.now c.in-Some-behind.rest.now c.cut.result.0.now
    c.cut.result.1.now c.args.log.now.items c.put_record.new.log.items c.in-Some.ensures.0
    c.in-Some.ensures.2 c.in-Some-behind.ensures c.cut.ensures c.in-Some-kind_named.ensures.0 c.in-Some-kind_named.ensures.1 p.reads p.put)
    c.put_record.ensures.found
