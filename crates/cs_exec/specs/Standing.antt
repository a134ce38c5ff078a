-- What the command stream keeps between chunks.
use Rattle.std.specs.Prelude.{◌≡◌, ℕ, List, ◌++◌, length}
use Rattle.call_log.specs.Call.{Issued}
use Rattle.d3d_model.specs.D3dState.{Objects, bindings_of}
use Rattle.d3d_model.specs.InOrder.{after_calls}
use Rattle.d3d_state.specs.Meaning.{objects_of}
use Rattle.core_model.specs.OtherParts.{created}
use Rattle.core_model.specs.Spine.{made_of}
use Rattle.core_model.specs.Succession.{Head, Log, turns_upto}
use Rattle.batch_make.specs.Making.{Continues}
use Rattle.item_work.specs.Placed.{NamesBlocks}
use Rattle.cs_exec.specs.Position.{Position, objects_at, set_before}
use Rattle.cs_exec.specs.declared.part.CsPart.{CsPart}

-- the same is live, and the same is set on the immediate context. What deferred contexts record, and which lists live,
-- is no matter of the stream
pub record LivesAlike (o other : Objects) : Type 0 where
  pub buffers : o.buffers ≡ other.buffers
  pub views : o.views ≡ other.views
  pub shaders : o.shaders ≡ other.shaders
  pub queries : o.queries ≡ other.queries
  pub set : bindings_of o 0 ≡ bindings_of other 0

-- the requested shaders that were not taken yet, in the order of their creations
abbrev pub requests_of : CsPart → List ℕ
requests_of cs = cs.requests.items

-- the stream stands behind chunks with these heads: its position in the log is behind their items, it numbers commands
-- and puts barriers from there on, it has the block of each live buffer, and the objects that the next item meets
pub record CsStands (calls : List Issued) (log : Log) (hs : List Head) (cs : CsPart) : Type 0 where
  pub position : Position calls (turns_upto log.script (length hs))
  pub goes_on : Continues (made_of log hs) cs.stream
  pub named : NamesBlocks (after_calls calls position.before).past cs.blocks (made_of log hs).blocks
  pub live : LivesAlike (objects_of cs.objects) (objects_at calls position.before position.inside)
  pub before_list : cs.set_before ≡ set_before calls position.before position.inside
  pub requested : (taken : List ℕ) × (created (turns_upto log.script (length hs)) ≡ taken ++ requests_of cs)
