use Rattle.std.proofs.Common.{ℕ, BTreeMap, Option, ap, sym, rules, ◌∙◌}
use Rattle.base_lemmas.specs.CodeMap.{map_of}
use Rattle.base_lemmas.specs.IdMap.{insert}
use Rattle.base_lemmas.proofs.CodeMaps.{map_of-insert}
use Rattle.d3d_lists.specs.Counts.{Counts, set_if}
use Rattle.d3d_lists.specs.declared.counts.Counts.TheInside.{Inside}
use Rattle.d3d_lists.proofs.Numbers.{found}
use Rattle.d3d_lists.proofs.counts.Counts.set.Goals as goal
use Rattle.d3d_lists.proofs.counts.Counts.set.Goals.{in-Some, in_default}

pub returns : goal.returns
returns c = elim c.match-get_mut.branch [
  | in-Some w ↦
      let es = c.self.inside.counts.entries in
      let self = c.args.self.now in
      ap (λ (i : Inside). map_of (λ (n : ℕ). n) i.counts.entries) w.self-inside-is
      ∙ map_of-insert (λ (n : ℕ). n) es (c.get_mut.follows.lender c.args.count).entries c.args.id c.args.count ((c.get_mut.follows.holds c.args.count).3 (search rules)).0
      ∙ ap (λ (m : Counts). insert m c.args.id c.args.count) c.self.view_is
      ∙ sym (ap (λ (o : Option ℕ). set_if o self c.args.id c.args.count) (found es self c.args.id _ c.self.view_is w.in-Some.ensures.value))
  | in_default w ↦
      let self = c.args.self.now in
      ap (λ (i : Inside). map_of (λ (n : ℕ). n) i.counts.entries) w.self-inside-is
      ∙ ap (λ (m : BTreeMap ℕ ℕ). map_of (λ (n : ℕ). n) m.entries) c.get_mut.follows.holds-at-none
      ∙ c.self.view_is
      ∙ sym (ap (λ (o : Option ℕ). set_if o self c.args.id c.args.count) (found c.self.inside.counts.entries self c.args.id _ c.self.view_is w.in_default.ensures.value))
]
