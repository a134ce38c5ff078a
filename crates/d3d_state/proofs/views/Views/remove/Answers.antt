use Rattle.std.proofs.Common.{◌≡◌, ◌+◌, ◌-◌, ◌≤◌, ap, sym, subst, rules, ◌∙◌, arith}
use Rattle.std.specs.BTreeMap.{is_at}
use Rattle.std.specs.Map.{lookup}
use Rattle.std.specs.Ordering.{nat_cmp}
use Rattle.std.specs.Prelude.{unwrap_or}
use Rattle.dx_types.specs.declared.shape.ViewShape.{ViewShape}
use Rattle.base_lemmas.specs.CodeMap.{map_of}
use Rattle.base_lemmas.specs.IdMap.{get, remove}
use Rattle.base_lemmas.proofs.CodeMaps.{map_of-remove}
use Rattle.d3d_state.specs.Codes.{Views}
use Rattle.d3d_state.specs.Counted.{Counted}
use Rattle.d3d_state.specs.declared.views.Views.TheInside.{Inside}
use Rattle.d3d_state.proofs.Found.{found}
use Rattle.d3d_state.proofs.Counts.{counted_live, counted-remove}
use Rattle.d3d_state.proofs.views.Views.remove.Goals as goal
use Rattle.d3d_state.proofs.views.Views.remove.Goals.{in-Some, in_default}

pub returns-in_err-shape-clause-value : goal.returns-in_err-shape-clause-value
returns-in_err-shape-clause-value c =
    rw c.from_residual.ensures (c.in_err-shape.ensures.value ∙ sym (found c.self.inside.shapes.entries c.args.id) ∙ ap (λ (m : Views). get m c.args.id) c.self.view_is)

pub returns-in_err-shape-clause-removed : goal.returns-in_err-shape-clause-removed
returns-in_err-shape-clause-removed c =
    map_of-remove (λ (s : ViewShape). s) c.self.inside.shapes.entries c.remove.new.self.entries c.args.id c.remove.ensures.updates.0
    ∙ ap (λ (m : Views). remove m c.args.id) c.self.view_is

pub overflow_sub-count : goal.overflow_sub-count
overflow_sub-count c =
    let es = c.self.inside.shapes.entries in
    let live = found es c.args.id ∙ sym c.in_ok-shape.ensures.value in
    omega (arith, counted_live (map_of (λ (s : ViewShape). s) es) c.self.inside.counts.entries c.args.id c.in_ok-shape.shape c.self.invariant live, ap (λ o. unwrap_or o 0) c.in-Some.ensures.value)

pub invariant_of-self-2 : goal.invariant_of-self-2
invariant_of-self-2 c =
    let es = c.self.inside.shapes.entries in
    let counts = c.self.inside.counts.entries in
    let views = map_of (λ (s : ViewShape). s) es in
    let id = c.args.id in
    let shape = c.in_ok-shape.shape in
    let live = found es id ∙ sym c.in_ok-shape.ensures.value in
    let less = map_of-remove (λ (s : ViewShape). s) es c.remove.new.self.entries id c.remove.ensures.updates.0 in
    let counted : 1 ≤ unwrap_or (lookup (is_at (nat_cmp shape.res)) counts) 0 = counted_live views counts id shape c.self.invariant live in
    elim c.match-get_mut.branch [
      | in-Some w ↦
          let n = w.in-Some.count.now - 1 in
          let is : n + 1 ≡ unwrap_or (lookup (is_at (nat_cmp shape.res)) counts) 0 = omega (arith, counted, ap (λ o. unwrap_or o 0) w.in-Some.ensures.value) in
          subst (λ (i : Inside). Counted (map_of (λ s. s) i.shapes.entries) i.counts.entries) (sym w.self-inside-is)
          (rw less (counted-remove views counts (c.get_mut.follows.lender n).entries id shape n c.self.invariant live is ((c.get_mut.follows.holds n).3 (search rules)).0))
      | in_default w ↦ absurd (omega (arith, counted, ap (λ o. unwrap_or o 0) w.in_default.ensures.value))
    ]

pub returns-clause-value : goal.returns-clause-value
returns-clause-value c =
    c.in_ok-shape.ensures.value ∙ sym (found c.self.inside.shapes.entries c.args.id) ∙ ap (λ (m : Views). get m c.args.id) c.self.view_is

pub returns-clause-removed : goal.returns-clause-removed
returns-clause-removed c =
    let less = map_of-remove (λ (s : ViewShape). s) c.self.inside.shapes.entries c.remove.new.self.entries c.args.id c.remove.ensures.updates.0 in
    elim c.match-get_mut.branch [
      | in-Some w ↦ ap (λ (i : Inside). map_of (λ (s : ViewShape). s) i.shapes.entries) w.self-inside-is ∙ less ∙ ap (λ (m : Views). remove m c.args.id) c.self.view_is
      | in_default w ↦ ap (λ (i : Inside). map_of (λ (s : ViewShape). s) i.shapes.entries) w.self-inside-is ∙ less ∙ ap (λ (m : Views). remove m c.args.id) c.self.view_is
    ]
