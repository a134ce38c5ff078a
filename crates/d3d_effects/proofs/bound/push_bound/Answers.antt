use Rattle.std.proofs.Common.{◌++◌, List, append-nil, sym, ap, append_assoc, ◌∙◌}
use Rattle.std.proofs.lemmas.Result.{on_ok_weaker}
use Rattle.dx_types.specs.declared.range.ResRange.{ResRange}
use Rattle.d3d_model.specs.Binding.{Bindings}
use Rattle.d3d_model.specs.D3dState.{bindings_of}
use Rattle.d3d_model.specs.Stream.{dispatch_ranges, range_of}
use Rattle.d3d_state.specs.Meaning.{objects_of}
use Rattle.d3d_effects.proofs.BoundRanges.{binds_none}
use Rattle.d3d_effects.proofs.bound.push_bound.Goals as goal

pub returns-in_default : goal.returns-in_default
returns-in_default c =
    let o = objects_of c.args.objects.now in
    let d = c.in_default in
    let none = binds_none o (bindings_of o c.args.context) c.args.call.now
    (record { dispatch = d.not-Dispatch; indirect = d.not-DispatchIndirect; region = d.not-CopyRegion; copy = d.not-Copy; update = d.not-Update; clear = d.not-ClearUav; write = d.not-MapWrite }) in
    rw none (sym (append-nil c.args.ranges.now.items))

pub returns-in-Dispatch : goal.returns-in-Dispatch
returns-in-Dispatch c =
    let o = objects_of c.args.objects.now in
    let before = c.args.ranges.now.items in
    on_ok_weaker c.push_dispatch.result
    (λ pushed. rw c.in-Dispatch.is (pushed ∙ ap (λ (b : Bindings). before ++ dispatch_ranges o b) c.bindings-bindings.ensures))
    c.push_dispatch.ensures

pub returns-in_ok-push_some-in-DispatchIndirect : goal.returns-in_ok-push_some-in-DispatchIndirect
returns-in_ok-push_some-in-DispatchIndirect c =
    let o = objects_of c.args.objects.now in
    let w = c.in-DispatchIndirect in
    let before = c.args.ranges.now.items in
    let b = c.bindings-bindings.result.now in
    let rs = dispatch_ranges o b in
    let counts = range_of w.res w.offset 12 in
    on_ok_weaker c.push_dispatch-in-DispatchIndirect.result
    (λ pushed. rw w.is
    (pushed ∙ ap (λ (l : List ResRange). l ++ rs) (c.in_ok-push_some-in-DispatchIndirect.ensures ∙ ap (λ (l : List ResRange). before ++ l) (c.range_of.ensures ∙ ap (λ n. range_of w.res n 12) c.from.ensures))
    ∙ append_assoc before counts rs ∙ ap (λ (k : Bindings). before ++ (counts ++ dispatch_ranges o k)) c.bindings-bindings.ensures))
    c.push_dispatch-in-DispatchIndirect.ensures
