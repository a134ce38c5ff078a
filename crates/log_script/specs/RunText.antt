-- What the core's lines say, as replies of Direct3D, and the calls that they leave pending.
use Rattle.std.specs.Prelude.{List, [], ◌∷◌, length}
use Rattle.std.specs.Option.{option_to_list}
use Rattle.dx_types.specs.declared.reply.Reply.{Reply}
use Rattle.dx_types.specs.declared.reply.Reply.TheVariants as said
use Rattle.call_log.specs.Call.{Issued}
use Rattle.base_lemmas.specs.IdMap.{insert}
use Rattle.d3d_model.specs.ReplyText.{Pending, none_pending, reply_at}
use Rattle.core_model.specs.CoreState.{Said, Bytes_said, Value_said, Still_said, Refused_said, End_said}

-- the reply that the core's line is; of a refused call Direct3D has the reason
abbrev pub reply_said : List Issued → Said → List Reply
reply_said log (Bytes_said call bytes) = said.Bytes call bytes ∷ []
reply_said log (Value_said call value) = said.Value call value ∷ []
reply_said log (Still_said call used finished) = said.Still call used finished ∷ []
reply_said log (Refused_said call) = option_to_list (reply_at log none_pending call)
reply_said log End_said = said.Finished (length log) ∷ []

-- the calls that were answered as pending, each with what was done then
abbrev pub pending_map : List Said → Pending
pending_map [] = none_pending
pending_map (Bytes_said call bytes ∷ rs) = pending_map rs
pending_map (Value_said call value ∷ rs) = pending_map rs
pending_map (Still_said call used finished ∷ rs) = insert (pending_map rs) call finished
pending_map (Refused_said call ∷ rs) = pending_map rs
pending_map (End_said ∷ rs) = pending_map rs
