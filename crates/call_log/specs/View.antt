-- A call and a record without where their bytes lie in memory.
use Rattle.call_log.specs.declared.call.Call as code
use Rattle.call_log.specs.declared.call.Call.TheVariants as codes
use Rattle.call_log.specs.declared.item.Item.{Item}
use Rattle.call_log.specs.Grammar.{Frame}
use Rattle.call_log.specs.Call.{Call, Buffer, View, CreateShader, Query, Destroy, SetShader, SetConstant, SetSrv, SetUav, ClearState, Dispatch, DispatchIndirect, CopyRegion, Copy, Update, ClearUav, SetPredication, Begin, EndQuery, MapWrite, MapRead, GetData, Flush, FinishList, ExecuteList, Draw}

-- A call without where its bytes lie in memory.
abbrev pub call_view : code.Call → Call
call_view (codes.Buffer id size usage bind misc stride bytes) = Buffer id size usage bind misc stride bytes.now
call_view (codes.View view res kind form components first count) = View view res kind form components first count
call_view (codes.CreateShader id words) = CreateShader id words.now
call_view (codes.Query id sort) = Query id sort
call_view (codes.Destroy class id) = Destroy class id
call_view (codes.SetShader id) = SetShader id
call_view (codes.SetConstant slot res) = SetConstant slot res
call_view (codes.SetSrv slot view) = SetSrv slot view
call_view (codes.SetUav slot view) = SetUav slot view
call_view codes.ClearState = ClearState
call_view (codes.Dispatch x y z) = Dispatch x y z
call_view (codes.DispatchIndirect res offset) = DispatchIndirect res offset
call_view (codes.CopyRegion target target_offset source source_offset len) = CopyRegion target target_offset source source_offset len
call_view (codes.Copy target source) = Copy target source
call_view (codes.Update res offset bytes) = Update res offset bytes.now
call_view (codes.ClearUav view v0 v1 v2 v3) = ClearUav view v0 v1 v2 v3
call_view (codes.SetPredication kind id offset value) = SetPredication kind id offset value
call_view (codes.Begin query) = Begin query
call_view (codes.EndQuery query) = EndQuery query
call_view (codes.MapWrite res mode offset bytes) = MapWrite res mode offset bytes.now
call_view (codes.MapRead res flag offset len) = MapRead res flag offset len
call_view (codes.GetData query flag) = GetData query flag
call_view codes.Flush = Flush
call_view (codes.FinishList list) = FinishList list
call_view (codes.ExecuteList list flag) = ExecuteList list flag
call_view (codes.Draw kind body) = Draw kind body.now

-- A record without where it lies in memory, or in the input.
abbrev pub frame_view : Item → Frame
frame_view i = record { kind = i.kind; context = i.context; body = i.body.now }
