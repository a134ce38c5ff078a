use Rattle.std.proofs.Common.{◌≡◌, ℕ, List, map, length, sym, ap, subst, ◌∙◌}
use Rattle.spirv_model.specs.FirstBad.{reading}
use Rattle.spirv_model.specs.View.{shown}
use Rattle.spirv_model.specs.Meaning.ModuleDispatch.{local_size}
use Rattle.spirv_run.specs.Decoding.{ops_of, steps_from, steps_of}
use Rattle.spirv_run.specs.Tables.{IsTable}
use Rattle.spirv_run.proofs.Decoded.{table_steps, table_group}
use Rattle.spirv_run.proofs.table.Table.new.Goals as goal

pub invariant_of-result : goal.invariant_of-result
invariant_of-result c =
    let w = c.args.words.now in
    let ops = map shown c.in_ok-ops.ops.items in
    let steps = c.in_ok-steps.steps.items in
    let read : ops ≡ ops_of w = c.in_ok-ops.ensures ∙ ap (λ b. (reading (length b) b).ops) c.behind_header.ensures in
    subst (λ (words : List ℕ). IsTable words steps c.local_size-group.result) (sym (c.in_ok-to_vec.ensures.items_if_clones_equal (λ x y e. e)))
    (record {
      steps_are = table_steps w ops steps read (c.in_ok-steps.ensures ∙ ap (λ z. steps_from (map shown z) 0 (map shown z)) c.deref-2.ensures.value);
      group_is = table_group w ops c.local_size-group.result read (c.local_size-group.ensures ∙ ap (λ z. local_size (map shown z)) c.deref-3.ensures.value);
    })
