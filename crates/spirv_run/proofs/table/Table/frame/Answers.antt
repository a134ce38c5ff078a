use Rattle.std.proofs.Common.{◌≡◌, ◌≤◌, ℕ, List, length, sym, ap, ◌∙◌, subst}
use Rattle.std.proofs.lemmas.List.{length-replicate}
use Rattle.spirv_run.specs.Frames.{Frame}
use Rattle.spirv_run.specs.Steps.{end_of_all}
use Rattle.spirv_run.specs.Decoding.{steps_of}
use Rattle.spirv_run.specs.Tables.{ids_of, IsFor}
use Rattle.spirv_run.proofs.Stepping.{within_all}
use Rattle.spirv_run.proofs.table.Table.frame.Goals as goal

pub returns : goal.returns
unfolding ids_of
returns c =
    let w = c.self.inside.words.items in
    let start = c.start_of-start.result in
    let g = c.start_of-start.new.frame in
    let started : c.deref-2.result.now ≡ steps_of w = c.deref-2.ensures.value ∙ c.self.invariant.steps_are in
    let room = c.end_of_ids.ensures ∙ ap end_of_all (c.deref.ensures.value ∙ c.self.invariant.steps_are) in
    let none = c.in_ok-frame.ensures in
    subst (λ w. IsFor c.start_at.new.self w) c.self.view_is
    (subst (λ (f : Frame). IsFor f w) (sym c.start_at.ensures) (record {
      results = c.start_of-start.ensures.results ∙ ap (λ (f : Frame). length f.begins.results) none ∙ length-replicate _ _ ∙ room;
      variables = ap length c.start_of-start.ensures.variables ∙ ap (λ (f : Frame). length f.begins.variables) none ∙ length-replicate _ _ ∙ room;
      near = c.start_of-start.ensures.near;
      within = within_all w start c.start_of-start.ensures.near (subst (λ z. start ≤ length z) started c.start_of-start.ensures.within);
      leave = c.start_of-start.ensures.leave w started;
    }))
