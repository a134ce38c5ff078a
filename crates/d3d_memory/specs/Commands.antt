-- What a call does once no predicate skips it.
use Rattle.std.specs.Prelude.{[], ◌∷◌, Bool, true, false}
use Rattle.call_log.specs.Call as calls
use Rattle.call_log.specs.Call.{Call}
use Rattle.d3d_model.specs.Binding.{Bindings}
use Rattle.d3d_model.specs.D3dState.{Objects, Memory, bound_view, bytes_of}
use Rattle.d3d_model.specs.Memory.{copied, write, cleared, dispatched, counts_at}

-- these objects, with these bindings set on the immediate context alone
abbrev pub seen : Objects → Bindings → Objects
seen o b = record o { contexts = record { bindings = b; recorded = [] } ∷ [] }

-- a call of the kinds that a predicate may skip, where these bindings are set; another does nothing
abbrev pub commanded : Objects → Bindings → Memory → Call → Memory
commanded o b m (calls.Dispatch x y z) = dispatched o b (x ∷ y ∷ z ∷ []) m
commanded o b m (calls.DispatchIndirect res offset) = dispatched o b (counts_at m res offset) m
commanded o b m (calls.CopyRegion target target_offset source source_offset len) = copied m target target_offset source source_offset len
commanded o b m (calls.Copy target source) = write m target 0 (bytes_of m source)
commanded o b m (calls.Update res offset bytes) = write m res offset bytes
commanded o b m (calls.ClearUav view v0 v1 v2 v3) = cleared m (bound_view o view) (v0 ∷ v1 ∷ v2 ∷ v3 ∷ [])
commanded o b m _ = m

-- a call of the device that changes the memory
abbrev pub is_made : Call → Bool
is_made (calls.Buffer id size usage bind misc stride bytes) = true
is_made (calls.Query id sort) = true
is_made (calls.Destroy class id) = true
is_made _ = false

-- the call executes a list, whose calls do what it does
abbrev pub executes : Call → Bool
executes (calls.ExecuteList list flag) = true
executes _ = false
