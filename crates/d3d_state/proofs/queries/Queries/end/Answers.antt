use Rattle.std.proofs.Common.{ℕ, BTreeMap, false, Some, Option, ap, sym, rules, ◌∙◌}
use Rattle.base_lemmas.specs.CodeMap.{map_of}
use Rattle.d3d_model.specs.D3dState.{Query}
use Rattle.d3d_model.specs.Effect.{ended_query}
use Rattle.base_lemmas.specs.IdMap.{get, insert}
use Rattle.base_lemmas.proofs.CodeMaps.{map_of-insert}
use Rattle.d3d_state.specs.Codes.{Queries}
use Rattle.d3d_state.specs.Sorts.{sort_number}
use Rattle.d3d_state.specs.declared.queries.Queries.TheInside.{Inside}
use Rattle.d3d_state.proofs.Found.{found}
use Rattle.d3d_state.proofs.queries.Queries.end.Goals as goal
use Rattle.d3d_state.proofs.queries.Queries.end.Goals.{in-Some, in_default}

pub returns : goal.returns
returns c = elim c.match-get_mut.branch [
  | in-Some w ↦
      let es = c.self.inside.queries.entries in
      let self = c.args.self.now in
      let new : Query = record { sort = sort_number w.query.inside.sort; begun = false; ended = Some c.args.n } in
      let live = ap (λ (m : Queries). get m c.args.id) (sym c.self.view_is) ∙ found es c.args.id ∙ sym w.in-Some.ensures.value in
      ap (λ (i : Inside). map_of (λ (s : Query). s) i.queries.entries) w.self-inside-is
      ∙ map_of-insert (λ (s : Query). s) es (c.get_mut.follows.lender new).entries c.args.id new ((c.get_mut.follows.holds new).3 (search rules)).0
      ∙ ap (λ (m : Queries). insert m c.args.id new) c.self.view_is
      ∙ ap (λ (q : Query). insert self c.args.id (record q { begun = false; ended = Some c.args.n })) w.query.view_is
      ∙ sym (ap (λ (o : Option Query). ended_query c.args.n o self c.args.id) live)
  | in_default w ↦
      let self = c.args.self.now in
      let none = ap (λ (m : Queries). get m c.args.id) (sym c.self.view_is) ∙ found c.self.inside.queries.entries c.args.id ∙ sym w.in_default.ensures.value in
      ap (λ (i : Inside). map_of (λ (s : Query). s) i.queries.entries) w.self-inside-is
      ∙ ap (λ (m : BTreeMap ℕ Query). map_of (λ (s : Query). s) m.entries) c.get_mut.follows.holds-at-none
      ∙ c.self.view_is
      ∙ sym (ap (λ (o : Option Query). ended_query c.args.n o self c.args.id) none)
]
