use Rattle.call_log.proofs.FrameBack.{frame_of-call_of}
use Rattle.call_log.proofs.ReadBack.{length-body_of_call, frame_back, call_back}
use Rattle.call_log.proofs.laws.puts_read_back.Goals as goal

pub returns-clause-length : goal.returns-clause-length
returns-clause-length c = length-body_of_call

pub returns-clause-record : goal.returns-clause-record
returns-clause-record c = frame_back

pub returns-clause-call : goal.returns-clause-call
returns-clause-call c = call_back

pub returns-clause-only : goal.returns-clause-only
returns-clause-only c = frame_of-call_of
