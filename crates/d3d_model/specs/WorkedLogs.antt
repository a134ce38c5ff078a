-- Worked logs and the replies that they give, worked out by hand.
use Rattle.std.specs.Prelude.{ℕ, List, [], ◌∷◌, ◌++◌}
use Rattle.call_log.specs.Call as call
use Rattle.call_log.specs.Call.{Call, Issued}
use Rattle.d3d_model.specs.Regions.{spelled}
use Rattle.dx_types.specs.declared.reply.Reply as reply
use Rattle.dx_types.specs.declared.reply.Reply.TheVariants.{Bytes, Value, Refused, Finished}
use Rattle.dx_types.specs.declared.refusal.Refusal.TheVariants as why

abbrev at : ℕ → Call → Issued
at x c = record { context = x; call = c }

-- the tokens of the shader of one thread without an instruction
abbrev minimal : List ℕ
minimal = 1 ∷ 0 ∷ 0 ∷ 0 ∷ 6 ∷ 0 ∷ 0 ∷ 0 ∷ 1 ∷ 4 ∷ 0 ∷ 0 ∷ 1 ∷ 0 ∷ 0 ∷ 0 ∷ 1 ∷ 0 ∷ 0 ∷ 0 ∷ 1 ∷ 0 ∷ 0 ∷ 0 ∷ []

-- a division by 0, a shift by 33 and a bit field to the end of the word, stored
abbrev udiv_shift_bitfield : List ℕ
udiv_shift_bitfield =
    (0x1 ∷ 0x3e ∷ [])
    ++ (0x401 ∷ 0x1 ∷ 0x1 ∷ 0x1 ∷ [])
    ++ (0x202 ∷ 0x1 ∷ [])
    ++ (0x405 ∷ 0x0 ∷ 0x0 ∷ 0x0 ∷ [])
    ++ (0xd17 ∷ 0x10 ∷ 0x20 ∷ 0xe41 ∷ 0x7 ∷ 0x7 ∷ 0x7 ∷ 0x7 ∷ 0xe41 ∷ 0x0 ∷ 0x0 ∷ 0x0 ∷ 0x0 ∷ [])
    ++ (0xc20 ∷ 0x40 ∷ 0xe41 ∷ 0x5 ∷ 0x5 ∷ 0x5 ∷ 0x5 ∷ 0xe41 ∷ 0x21 ∷ 0x21 ∷ 0x21 ∷ 0x21 ∷ [])
    ++ (0x1129 ∷ 0x80 ∷ 0xe41 ∷ 0x14 ∷ 0x14 ∷ 0x14 ∷ 0x14 ∷ 0xe41 ∷ 0x14 ∷ 0x14 ∷ 0x14 ∷ 0x14 ∷ 0xe41 ∷ 0xabcdef12 ∷ 0xabcdef12 ∷ 0xabcdef12 ∷ 0xabcdef12 ∷ [])
    ++ (0xf0831 ∷ 0x100 ∷ 0xe41 ∷ 0x0 ∷ 0x0 ∷ 0x0 ∷ 0x0 ∷ 0xe40 ∷ [])

-- stores at byte 12, at 16 and at the last word of all addresses
abbrev store_out_of_range : List ℕ
store_out_of_range =
    (0x1 ∷ 0x2e ∷ [])
    ++ (0x401 ∷ 0x1 ∷ 0x1 ∷ 0x1 ∷ [])
    ++ (0x405 ∷ 0x0 ∷ 0x0 ∷ 0x0 ∷ [])
    ++ (0x10c31 ∷ 0x100 ∷ 0xe41 ∷ 0xc ∷ 0xc ∷ 0xc ∷ 0xc ∷ 0xe41 ∷ 0x1 ∷ 0x1 ∷ 0x1 ∷ 0x1 ∷ [])
    ++ (0x10c31 ∷ 0x100 ∷ 0xe41 ∷ 0x10 ∷ 0x10 ∷ 0x10 ∷ 0x10 ∷ 0xe41 ∷ 0x2 ∷ 0x2 ∷ 0x2 ∷ 0x2 ∷ [])
    ++ (0x10c31 ∷ 0x100 ∷ 0xe41 ∷ 0xfffffffc ∷ 0xfffffffc ∷ 0xfffffffc ∷ 0xfffffffc ∷ 0xe41 ∷ 0x3 ∷ 0x3 ∷ 0x3 ∷ 0x3 ∷ [])

-- no call
unfoldable pub empty_log : List Issued
empty_log =
    []

unfoldable pub empty_replies : List reply.Reply
empty_replies = Finished 0 ∷ []

-- a no-overwrite beside the bytes of a bound view goes, and one that meets them is refused
unfoldable pub no_overwrite_meets_a_view_log : List Issued
no_overwrite_meets_a_view_log =
    at 0 (call.Buffer 1 32 2 2 1 0 []) ∷
    at 0 (call.View 1 1 0 0 0 0 4) ∷
    at 0 (call.CreateShader 1 minimal) ∷
    at 0 (call.SetShader 1) ∷
    at 0 (call.SetSrv 0 1) ∷
    at 0 (call.Dispatch 1 1 1) ∷
    at 0 (call.MapWrite 1 1 16 (255 ∷ 255 ∷ 255 ∷ 255 ∷ 255 ∷ 255 ∷ 255 ∷ 255 ∷ 255 ∷ 255 ∷ 255 ∷ 255 ∷ 255 ∷ 255 ∷ 255 ∷ 255 ∷ [])) ∷
    at 0 (call.MapWrite 1 1 15 (170 ∷ 187 ∷ [])) ∷
    []

unfoldable pub no_overwrite_meets_a_view_replies : List reply.Reply
no_overwrite_meets_a_view_replies = Refused 8 why.InUse ∷ Finished 8 ∷ []

-- each execution of a list discards anew
unfoldable pub list_discards_anew_log : List Issued
list_discards_anew_log =
    at 0 (call.Buffer 1 8 2 2 0 0 []) ∷
    at 0 (call.Buffer 2 8 3 0 0 0 []) ∷
    at 1 (call.MapWrite 1 0 0 (17 ∷ 17 ∷ 17 ∷ 17 ∷ [])) ∷
    at 1 (call.CopyRegion 2 0 1 0 4) ∷
    at 1 (call.FinishList 1) ∷
    at 0 (call.ExecuteList 1 0) ∷
    at 0 (call.MapWrite 1 1 4 (34 ∷ 34 ∷ 34 ∷ 34 ∷ [])) ∷
    at 0 (call.CopyRegion 2 4 1 4 4) ∷
    at 0 (call.MapRead 2 0 0 8) ∷
    at 0 (call.ExecuteList 1 0) ∷
    at 0 (call.CopyRegion 2 0 1 0 8) ∷
    at 0 (call.MapRead 2 0 0 8) ∷
    []

unfoldable pub list_discards_anew_replies : List reply.Reply
list_discards_anew_replies = Bytes 9 (17 ∷ 17 ∷ 17 ∷ 17 ∷ 34 ∷ 34 ∷ 34 ∷ 34 ∷ []) ∷ Bytes 12 (17 ∷ 17 ∷ 17 ∷ 17 ∷ 0 ∷ 0 ∷ 0 ∷ 0 ∷ []) ∷ Finished 12 ∷ []

-- pipeline statistics of dispatches with counts 0, too many and 2
unfoldable pub statistics_of_indirect_dispatches_log : List Issued
statistics_of_indirect_dispatches_log =
    at 0 (call.Buffer 1 24 0 0 4 0 (0 ∷ 0 ∷ 0 ∷ 0 ∷ 1 ∷ 0 ∷ 0 ∷ 0 ∷ 1 ∷ 0 ∷ 0 ∷ 0 ∷ 0 ∷ 0 ∷ 1 ∷ 0 ∷ 1 ∷ 0 ∷ 0 ∷ 0 ∷ 1 ∷ 0 ∷ 0 ∷ 0 ∷ [])) ∷
    at 0 (call.CreateShader 1 minimal) ∷
    at 0 (call.SetShader 1) ∷
    at 0 (call.Query 1 2) ∷
    at 0 (call.Begin 1) ∷
    at 0 (call.DispatchIndirect 1 0) ∷
    at 0 (call.DispatchIndirect 1 12) ∷
    at 0 (call.Dispatch 2 1 1) ∷
    at 0 (call.EndQuery 1) ∷
    at 0 (call.GetData 1 0) ∷
    []

unfoldable pub statistics_of_indirect_dispatches_replies : List reply.Reply
statistics_of_indirect_dispatches_replies = Value 10 2 ∷ Finished 10 ∷ []

-- a word predicate skips a copy
unfoldable pub word_predicate_skips_a_copy_log : List Issued
word_predicate_skips_a_copy_log =
    at 0 (call.Buffer 1 4 0 4 5 0 []) ∷
    at 0 (call.View 1 1 1 0 0 0 1) ∷
    at 0 (call.Buffer 2 4 0 0 0 0 (170 ∷ 170 ∷ 170 ∷ 170 ∷ [])) ∷
    at 0 (call.Buffer 3 4 3 0 0 0 []) ∷
    at 0 (call.ClearUav 1 1 0 0 0) ∷
    at 0 (call.SetPredication 2 1 0 1) ∷
    at 0 (call.Copy 3 2) ∷
    at 0 (call.MapRead 3 0 0 4) ∷
    []

unfoldable pub word_predicate_skips_a_copy_replies : List reply.Reply
word_predicate_skips_a_copy_replies = Bytes 8 (0 ∷ 0 ∷ 0 ∷ 0 ∷ []) ∷ Finished 8 ∷ []

-- the first refusals of three calls
unfoldable pub first_refusals_log : List Issued
first_refusals_log =
    at 0 (call.MapRead 7 0 0 4) ∷
    at 1 (call.MapRead 7 0 0 4) ∷
    at 0 (call.Dispatch 1 1 1) ∷
    []

unfoldable pub first_refusals_replies : List reply.Reply
first_refusals_replies = Refused 1 why.UnknownId ∷ Refused 2 why.WrongContext ∷ Refused 3 why.BadShader ∷ Finished 3 ∷ []

-- a no-overwrite that meets the bytes of a copy is refused
unfoldable pub no_overwrite_meets_a_copy_log : List Issued
no_overwrite_meets_a_copy_log =
    at 0 (call.Buffer 1 32 2 2 0 0 []) ∷
    at 0 (call.Buffer 2 32 3 0 0 0 []) ∷
    at 0 (call.CopyRegion 2 0 1 0 16) ∷
    at 0 (call.MapWrite 1 1 16 (1 ∷ [])) ∷
    at 0 (call.MapWrite 1 1 15 (170 ∷ 187 ∷ [])) ∷
    at 0 (call.MapRead 2 0 0 4) ∷
    []

unfoldable pub no_overwrite_meets_a_copy_replies : List reply.Reply
no_overwrite_meets_a_copy_replies = Refused 5 why.InUse ∷ Bytes 6 (0 ∷ 0 ∷ 0 ∷ 0 ∷ []) ∷ Finished 6 ∷ []

-- flag 1 restores the state after a list, flag 0 leaves the default
unfoldable pub execute_list_restores_log : List Issued
execute_list_restores_log =
    at 0 (call.CreateShader 1 minimal) ∷
    at 0 (call.SetShader 1) ∷
    at 1 (call.ClearState) ∷
    at 1 (call.FinishList 1) ∷
    at 0 (call.ExecuteList 1 1) ∷
    at 0 (call.Dispatch 1 1 1) ∷
    at 0 (call.ExecuteList 1 0) ∷
    at 0 (call.Dispatch 1 1 1) ∷
    []

unfoldable pub execute_list_restores_replies : List reply.Reply
execute_list_restores_replies = Refused 8 why.BadShader ∷ Finished 8 ∷ []

-- an update, a copy and a readback
unfoldable pub update_copy_map_log : List Issued
update_copy_map_log =
    at 0 (call.Buffer 1 16 0 0 0 0 []) ∷
    at 0 (call.Buffer 2 16 3 0 0 0 []) ∷
    at 0 (call.Update 1 0 (0 ∷ 1 ∷ 2 ∷ 3 ∷ 4 ∷ 5 ∷ 6 ∷ 7 ∷ 8 ∷ 9 ∷ 10 ∷ 11 ∷ 12 ∷ 13 ∷ 14 ∷ 15 ∷ [])) ∷
    at 0 (call.Copy 2 1) ∷
    at 0 (call.MapRead 2 0 0 16) ∷
    []

unfoldable pub update_copy_map_replies : List reply.Reply
update_copy_map_replies = Bytes 5 (0 ∷ 1 ∷ 2 ∷ 3 ∷ 4 ∷ 5 ∷ 6 ∷ 7 ∷ 8 ∷ 9 ∷ 10 ∷ 11 ∷ 12 ∷ 13 ∷ 14 ∷ 15 ∷ []) ∷ Finished 5 ∷ []

-- a division by 0, a shift by 33 and a bit field to the end of the word
unfoldable pub udiv_shift_bitfield_log : List Issued
udiv_shift_bitfield_log =
    at 0 (call.Buffer 1 16 0 4 1 0 []) ∷
    at 0 (call.Buffer 2 16 3 0 0 0 []) ∷
    at 0 (call.View 1 1 1 0 0 0 4) ∷
    at 0 (call.CreateShader 1 (spelled udiv_shift_bitfield)) ∷
    at 0 (call.SetShader 1) ∷
    at 0 (call.SetUav 0 1) ∷
    at 0 (call.Dispatch 1 1 1) ∷
    at 0 (call.Copy 2 1) ∷
    at 0 (call.MapRead 2 0 0 16) ∷
    []

unfoldable pub udiv_shift_bitfield_replies : List reply.Reply
udiv_shift_bitfield_replies = Bytes 9 (255 ∷ 255 ∷ 255 ∷ 255 ∷ 255 ∷ 255 ∷ 255 ∷ 255 ∷ 10 ∷ 0 ∷ 0 ∷ 0 ∷ 188 ∷ 10 ∷ 0 ∷ 0 ∷ []) ∷ Finished 9 ∷ []

-- stores inside the view, behind it and at the end of all addresses
unfoldable pub store_out_of_range_log : List Issued
store_out_of_range_log =
    at 0 (call.Buffer 1 16 0 4 1 0 []) ∷
    at 0 (call.Buffer 2 16 3 0 0 0 []) ∷
    at 0 (call.View 1 1 1 0 0 0 4) ∷
    at 0 (call.CreateShader 1 (spelled store_out_of_range)) ∷
    at 0 (call.SetShader 1) ∷
    at 0 (call.SetUav 0 1) ∷
    at 0 (call.Dispatch 1 1 1) ∷
    at 0 (call.Copy 2 1) ∷
    at 0 (call.MapRead 2 0 0 16) ∷
    []

unfoldable pub store_out_of_range_replies : List reply.Reply
store_out_of_range_replies = Bytes 9 (0 ∷ 0 ∷ 0 ∷ 0 ∷ 0 ∷ 0 ∷ 0 ∷ 0 ∷ 0 ∷ 0 ∷ 0 ∷ 0 ∷ 1 ∷ 0 ∷ 0 ∷ 0 ∷ []) ∷ Finished 9 ∷ []
