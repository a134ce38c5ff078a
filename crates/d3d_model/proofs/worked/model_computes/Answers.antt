use Rattle.std.proofs.Common.{refl}
use Rattle.shader_model.specs.Opcodes.{row_of}
use Rattle.base_lemmas.specs.IdMap.{empty, get, insert, remove, values}
use Rattle.d3d_model.specs.Regions.{put, filled, words_of, spelled}
use Rattle.d3d_model.specs.Resource.{live_bytes, live_dynamic}
use Rattle.d3d_model.specs.Binding.{constant_ranges, view_ranges}
use Rattle.d3d_model.specs.Shader.{decodes, group_of, declared_by, ran_dispatch}
use Rattle.d3d_model.specs.Past.{then_done, is_bound, last_binding, was_discarded}
use Rattle.d3d_model.specs.InOrder.{after_calls}
use Rattle.d3d_model.specs.ReplyText.{replies_upto}
use Rattle.d3d_model.specs.WorkedLogs.{empty_log, empty_replies, no_overwrite_meets_a_view_log, no_overwrite_meets_a_view_replies, list_discards_anew_log, list_discards_anew_replies, statistics_of_indirect_dispatches_log, statistics_of_indirect_dispatches_replies, word_predicate_skips_a_copy_log, word_predicate_skips_a_copy_replies, first_refusals_log, first_refusals_replies, no_overwrite_meets_a_copy_log, no_overwrite_meets_a_copy_replies, execute_list_restores_log, execute_list_restores_replies, update_copy_map_log, update_copy_map_replies, udiv_shift_bitfield_log, udiv_shift_bitfield_replies, store_out_of_range_log, store_out_of_range_replies}
use Rattle.d3d_model.proofs.worked.model_computes.Goals as goal

pub returns-clause-empty : goal.returns-clause-empty
unfolding row_of decodes group_of declared_by ran_dispatch empty get insert remove values put filled words_of spelled live_bytes live_dynamic constant_ranges view_ranges then_done is_bound last_binding was_discarded after_calls replies_upto empty_log empty_replies
returns-clause-empty c = refl

pub returns-clause-no_overwrite_meets_a_view : goal.returns-clause-no_overwrite_meets_a_view
unfolding row_of decodes group_of declared_by ran_dispatch empty get insert remove values put filled words_of spelled live_bytes live_dynamic constant_ranges view_ranges then_done is_bound last_binding was_discarded after_calls replies_upto no_overwrite_meets_a_view_log no_overwrite_meets_a_view_replies
returns-clause-no_overwrite_meets_a_view c = refl

pub returns-clause-list_discards_anew : goal.returns-clause-list_discards_anew
unfolding row_of decodes group_of declared_by ran_dispatch empty get insert remove values put filled words_of spelled live_bytes live_dynamic constant_ranges view_ranges then_done is_bound last_binding was_discarded after_calls replies_upto list_discards_anew_log list_discards_anew_replies
returns-clause-list_discards_anew c = refl

pub returns-clause-statistics_of_indirect_dispatches : goal.returns-clause-statistics_of_indirect_dispatches
unfolding row_of decodes group_of declared_by ran_dispatch empty get insert remove values put filled words_of spelled live_bytes live_dynamic constant_ranges view_ranges then_done is_bound last_binding was_discarded after_calls replies_upto statistics_of_indirect_dispatches_log statistics_of_indirect_dispatches_replies
returns-clause-statistics_of_indirect_dispatches c = refl

pub returns-clause-word_predicate_skips_a_copy : goal.returns-clause-word_predicate_skips_a_copy
unfolding row_of decodes group_of declared_by ran_dispatch empty get insert remove values put filled words_of spelled live_bytes live_dynamic constant_ranges view_ranges then_done is_bound last_binding was_discarded after_calls replies_upto word_predicate_skips_a_copy_log word_predicate_skips_a_copy_replies
returns-clause-word_predicate_skips_a_copy c = refl

pub returns-clause-first_refusals : goal.returns-clause-first_refusals
unfolding row_of decodes group_of declared_by ran_dispatch empty get insert remove values put filled words_of spelled live_bytes live_dynamic constant_ranges view_ranges then_done is_bound last_binding was_discarded after_calls replies_upto first_refusals_log first_refusals_replies
returns-clause-first_refusals c = refl

pub returns-clause-no_overwrite_meets_a_copy : goal.returns-clause-no_overwrite_meets_a_copy
unfolding row_of decodes group_of declared_by ran_dispatch empty get insert remove values put filled words_of spelled live_bytes live_dynamic constant_ranges view_ranges then_done is_bound last_binding was_discarded after_calls replies_upto no_overwrite_meets_a_copy_log no_overwrite_meets_a_copy_replies
returns-clause-no_overwrite_meets_a_copy c = refl

pub returns-clause-execute_list_restores : goal.returns-clause-execute_list_restores
unfolding row_of decodes group_of declared_by ran_dispatch empty get insert remove values put filled words_of spelled live_bytes live_dynamic constant_ranges view_ranges then_done is_bound last_binding was_discarded after_calls replies_upto execute_list_restores_log execute_list_restores_replies
returns-clause-execute_list_restores c = refl

pub returns-clause-update_copy_map : goal.returns-clause-update_copy_map
unfolding row_of decodes group_of declared_by ran_dispatch empty get insert remove values put filled words_of spelled live_bytes live_dynamic constant_ranges view_ranges then_done is_bound last_binding was_discarded after_calls replies_upto update_copy_map_log update_copy_map_replies
returns-clause-update_copy_map c = refl

pub returns-clause-udiv_shift_bitfield : goal.returns-clause-udiv_shift_bitfield
unfolding row_of decodes group_of declared_by ran_dispatch empty get insert remove values put filled words_of spelled live_bytes live_dynamic constant_ranges view_ranges then_done is_bound last_binding was_discarded after_calls replies_upto udiv_shift_bitfield_log udiv_shift_bitfield_replies
returns-clause-udiv_shift_bitfield c = refl

pub returns-clause-store_out_of_range : goal.returns-clause-store_out_of_range
unfolding row_of decodes group_of declared_by ran_dispatch empty get insert remove values put filled words_of spelled live_bytes live_dynamic constant_ranges view_ranges then_done is_bound last_binding was_discarded after_calls replies_upto store_out_of_range_log store_out_of_range_replies
returns-clause-store_out_of_range c = refl
