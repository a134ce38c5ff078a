use Rattle.d3d_state.specs.Meaning.{objects_of}
use Rattle.d3d_checks.proofs.Unasked.{unasked}
use Rattle.d3d_checks.proofs.refusals.work_refusal.Goals as goal

pub returns-in-Dispatch : goal.returns-in-Dispatch
returns-in-Dispatch c = λ past tells. rw c.in-Dispatch.is (c.dispatch_refusal.ensures past)

pub returns-in-DispatchIndirect : goal.returns-in-DispatchIndirect
returns-in-DispatchIndirect c = λ past tells. rw c.in-DispatchIndirect.is (c.indirect_refusal.ensures past)

pub returns-in-CopyRegion : goal.returns-in-CopyRegion
returns-in-CopyRegion c = λ past tells. rw c.in-CopyRegion.is (c.copy_region_refusal.ensures past)

pub returns-in-Copy : goal.returns-in-Copy
returns-in-Copy c = λ past tells. rw c.in-Copy.is (c.copy_refusal.ensures past)

pub returns-in-Update : goal.returns-in-Update
returns-in-Update c = λ past tells. rw c.in-Update.is (c.update_refusal.ensures past)

pub returns-in-MapRead : goal.returns-in-MapRead
returns-in-MapRead c = λ past tells. rw c.in-MapRead.is (c.map_read_refusal.ensures past)

pub returns-in-FinishList : goal.returns-in-FinishList
returns-in-FinishList c = λ past tells. rw c.in-FinishList.is (c.finish_refusal.ensures past)

pub returns-in-ExecuteList : goal.returns-in-ExecuteList
returns-in-ExecuteList c = λ past tells. rw c.in-ExecuteList.is (c.execute_refusal.ensures past)

pub returns-in-ClearUav : goal.returns-in-ClearUav
returns-in-ClearUav c = λ past tells.
    let w = c.in-ClearUav in
    rw w.is (c.clear_refusal.ensures past w.v0 w.v1 w.v2 w.v3)

pub returns-in-MapWrite : goal.returns-in-MapWrite
returns-in-MapWrite c = λ past tells. rw c.in-MapWrite.is (c.map_write_refusal.ensures past tells)

pub returns-in_default : goal.returns-in_default
returns-in_default c = λ past tells.
    let d = c.in_default in
    unasked (objects_of c.args.objects.now) past c.args.context c.args.call.now c.requires.makes_none c.requires.sets_none
    (record {
      dispatch = d.not-Dispatch;
      indirect = d.not-DispatchIndirect;
      region = d.not-CopyRegion;
      copy = d.not-Copy;
      update = d.not-Update;
      clear = d.not-ClearUav;
      write = d.not-MapWrite;
      read = d.not-MapRead;
      finish = d.not-FinishList;
      execute = d.not-ExecuteList;
    })
