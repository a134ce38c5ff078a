-- Which calls a run says something of, and of which in-order Direct3D does.
use Rattle.std.specs.Prelude.{ℕ, zero, suc, List, [], ◌∷◌, ◌++◌, Option, None, Some}
use Rattle.dx_types.specs.declared.reply.Reply.{Reply}
use Rattle.call_log.specs.Call.{Issued}
use Rattle.d3d_model.specs.ReplyText.{none_pending, reply_at}
use Rattle.core_model.specs.Script.{Turn, Refused, Passed, Flushed, Asked, Item}
use Rattle.core_model.specs.CoreState.{Said, Bytes_said, Value_said, Still_said, Refused_said, End_said}

-- the call of a reply; the end has none
abbrev pub said_call : Said → List ℕ
said_call (Bytes_said call bytes) = call ∷ []
said_call (Value_said call value) = call ∷ []
said_call (Still_said call used done) = call ∷ []
said_call (Refused_said call) = call ∷ []
said_call End_said = []

-- the calls among turns that are answered with a line: those that are refused, and those that ask; in order
abbrev pub answering : List Turn → List ℕ
answering [] = []
answering (Refused call ∷ turns) = call ∷ answering turns
answering (Passed call ∷ turns) = answering turns
answering (Flushed call ∷ turns) = answering turns
answering (Asked call ask used may_pend ∷ turns) = call ∷ answering turns
answering (Item call item ends play bound ∷ turns) = answering turns

-- the call, if there is a reply to it
abbrev pub replied : ℕ → Option Reply → List ℕ
replied n None = []
replied n (Some r) = n ∷ []

-- the calls among the first so many of a log to which in-order Direct3D says something, in order
unfoldable pub replying : List Issued → ℕ → List ℕ
replying log zero = []
replying log (suc n) = replying log n ++ replied (suc n) (reply_at log none_pending (suc n))
