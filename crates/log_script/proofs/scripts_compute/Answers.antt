use Rattle.std.proofs.Common.{refl}
use Rattle.shader_model.specs.Opcodes.{row_of}
use Rattle.base_lemmas.specs.IdMap.{empty, get, insert, remove, values}
use Rattle.d3d_model.specs.Regions.{put, filled, words_of, spelled}
use Rattle.d3d_model.specs.Resource.{live_bytes, live_dynamic}
use Rattle.d3d_model.specs.Binding.{constant_ranges, view_ranges}
use Rattle.d3d_model.specs.Shader.{decodes, group_of, declared_by, ran_dispatch}
use Rattle.d3d_model.specs.Past.{then_done, is_bound, last_binding, was_discarded}
use Rattle.d3d_model.specs.InOrder.{after_calls}
use Rattle.d3d_model.specs.WorkedLogs.{update_copy_map_log, no_overwrite_meets_a_view_log, list_discards_anew_log}
use Rattle.d3d_model.specs.WorkedLogs.{statistics_of_indirect_dispatches_log, word_predicate_skips_a_copy_log}
use Rattle.d3d_model.specs.WorkedLogs.{udiv_shift_bitfield_log}
use Rattle.log_script.specs.Makers.{maker}
use Rattle.log_script.specs.LogScript.{turns_upto}
use Rattle.log_script.specs.Worked.{five_buffers_log, reused_ids_log}
use Rattle.log_script.proofs.scripts_compute.Goals as goal

pub returns-clause-update_copy_map : goal.returns-clause-update_copy_map
unfolding row_of decodes group_of declared_by ran_dispatch empty get insert remove values put filled words_of
    spelled live_bytes live_dynamic constant_ranges view_ranges then_done is_bound last_binding was_discarded
    after_calls maker turns_upto update_copy_map_log
returns-clause-update_copy_map c = refl

pub returns-clause-five_buffers : goal.returns-clause-five_buffers
unfolding row_of decodes group_of declared_by ran_dispatch empty get insert remove values put filled words_of
    spelled live_bytes live_dynamic constant_ranges view_ranges then_done is_bound last_binding was_discarded
    after_calls maker turns_upto five_buffers_log
returns-clause-five_buffers c = refl

pub returns-clause-no_overwrite : goal.returns-clause-no_overwrite
unfolding row_of decodes group_of declared_by ran_dispatch empty get insert remove values put filled words_of
    spelled live_bytes live_dynamic constant_ranges view_ranges then_done is_bound last_binding was_discarded
    after_calls maker turns_upto no_overwrite_meets_a_view_log
returns-clause-no_overwrite c = refl

pub returns-clause-list : goal.returns-clause-list
unfolding row_of decodes group_of declared_by ran_dispatch empty get insert remove values put filled words_of
    spelled live_bytes live_dynamic constant_ranges view_ranges then_done is_bound last_binding was_discarded
    after_calls maker turns_upto list_discards_anew_log
returns-clause-list c = refl

pub returns-clause-list_buffers : goal.returns-clause-list_buffers
unfolding row_of decodes group_of declared_by ran_dispatch empty get insert remove values put filled words_of
    spelled live_bytes live_dynamic constant_ranges view_ranges then_done is_bound last_binding was_discarded
    after_calls maker turns_upto list_discards_anew_log
returns-clause-list_buffers c = (refl, refl, refl, refl, refl, refl, refl, refl, refl, refl)

pub returns-clause-statistics : goal.returns-clause-statistics
unfolding row_of decodes group_of declared_by ran_dispatch empty get insert remove values put filled words_of
    spelled live_bytes live_dynamic constant_ranges view_ranges then_done is_bound last_binding was_discarded
    after_calls maker turns_upto statistics_of_indirect_dispatches_log
returns-clause-statistics c = refl

pub returns-clause-predicate : goal.returns-clause-predicate
unfolding row_of decodes group_of declared_by ran_dispatch empty get insert remove values put filled words_of
    spelled live_bytes live_dynamic constant_ranges view_ranges then_done is_bound last_binding was_discarded
    after_calls maker turns_upto word_predicate_skips_a_copy_log
returns-clause-predicate c = refl

pub returns-clause-store : goal.returns-clause-store
unfolding row_of decodes group_of declared_by ran_dispatch empty get insert remove values put filled words_of
    spelled live_bytes live_dynamic constant_ranges view_ranges then_done is_bound last_binding was_discarded
    after_calls maker turns_upto udiv_shift_bitfield_log
returns-clause-store c = refl

pub returns-clause-reused_ids : goal.returns-clause-reused_ids
unfolding row_of decodes group_of declared_by ran_dispatch empty get insert remove values put filled words_of
    spelled live_bytes live_dynamic constant_ranges view_ranges then_done is_bound last_binding was_discarded
    after_calls maker turns_upto reused_ids_log
returns-clause-reused_ids c = refl
