use Rattle.std.proofs.Common.{◌≡◌, ℕ, refl, List, [], length, Some, sym, ap, ◌∙◌, inl, inr}
use Rattle.std.specs.Prelude.{slice_index_or}
use Rattle.std.specs.Option.{option_map}
use Rattle.std.proofs.lemmas.Bool.{eq-eqb, eqb-true}
use Rattle.dx_types.specs.declared.range.ResRange.{ResRange}
use Rattle.d3d_effects.specs.Listed.{cut_at}
use Rattle.d3d_plan.specs.Planned.{Planned, part_of}
use Rattle.d3d_plan.specs.Shown.{bound_in, ends_in, shown_entry}
use Rattle.d3d_plan.proofs.Pieces.{entry_shown, part_item, part_whole}
use Rattle.d3d_plan.proofs.plan.Plan.bound_by.Goals as goal

pub returns-then-item-eq0 : goal.returns-then-item-eq0
returns-then-item-eq0 c =
    let t = c.self.inside.tables in
    let e = c.index.result.now in
    let p = shown_entry t e in
    let none : length (ends_in t e.piece) ≡ 0 = ap (λ (l : List ℕ). length l) (sym c.ends_of-ends.ensures) ∙ eqb-true (length c.ends_of-ends.result.now) 0 (sym c.if-is_empty.ensures) in
    ap Some (c.ranges_of-bound.ensures ∙ part_whole p (ends_in t e.piece) c.args.item refl none c.if-item-eq0.true)
    ∙ sym (ap (option_map (λ (q : Planned). part_of q c.args.item)) (entry_shown c.args.self.now t c.self.inside.entries.items c.args.n e c.self.view_is c.requires.first c.requires.last c.index.ensures))

pub returns : goal.returns
returns c =
    let t = c.self.inside.tables in
    let e = c.index.result.now in
    let p = shown_entry t e in
    let ends = ends_in t e.piece in
    let apart : length ends ≡ 0 → c.args.item ≡ 0 → ⊥ = λ none first. elim c.else-is_empty.either [
      | inl h ↦ h.1 first
      | inr f ↦ let long = sym f ∙ c.is_empty.ensures ∙ eq-eqb (length c.ends_of-ends.result.now) 0 (ap (λ (l : List ℕ). length l) c.ends_of-ends.ensures ∙ none) in absurd cc
    ] in
    ap Some (c.part.ensures ∙ ap (λ (rs : List ResRange). slice_index_or (cut_at 0 rs c.ends_of-ends.result.now) c.args.item []) c.ranges_of-bound.ensures
    ∙ ap (λ (ms : List ℕ). slice_index_or (cut_at 0 (bound_in t e.piece) ms) c.args.item []) c.ends_of-ends.ensures ∙ part_item p ends c.args.item refl apart)
    ∙ sym (ap (option_map (λ (q : Planned). part_of q c.args.item)) (entry_shown c.args.self.now t c.self.inside.entries.items c.args.n e c.self.view_is c.requires.first c.requires.last c.index.ensures))
