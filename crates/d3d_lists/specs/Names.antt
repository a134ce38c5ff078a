-- The objects that calls name.
use Rattle.std.specs.Prelude.{ℕ, Bool, true, false, List, count_by, sum_by}
use Rattle.call_log.specs.Call as calls
use Rattle.call_log.specs.Call.{Call}
use Rattle.d3d_model.specs.declared.codes.TheConstants.{BUFFER_CLASS, QUERY_CLASS, SHADER_CLASS, VIEW_CLASS}
use Rattle.d3d_model.specs.D3dState.{Numbered}
use Rattle.d3d_model.specs.Stream as model
use Rattle.d3d_model.specs.Stream.{is_name, names}
use Rattle.d3d_lists.specs.declared.name.Name.{Name}
use Rattle.d3d_lists.specs.declared.name.Name.TheVariants.{Buffer, View, Shader, Query}

abbrev pub name_view : Name → model.Name
name_view (Buffer id) = record { class = BUFFER_CLASS; id = id }
name_view (View id) = record { class = VIEW_CLASS; id = id }
name_view (Shader id) = record { class = SHADER_CLASS; id = id }
name_view (Query id) = record { class = QUERY_CLASS; id = id }

-- the call copies buffers, and so names two of them
abbrev pub is_copy : Call → Bool
is_copy (calls.CopyRegion target target_offset source source_offset len) = true
is_copy (calls.Copy target source) = true
is_copy _ = false

-- this is the object
abbrev pub is_this : Name → model.Name → Bool
is_this n other = is_name (name_view n).class (name_view n).id other

-- how often the object is among these
abbrev pub times_among : Name → List model.Name → ℕ
times_among n others = count_by (is_this n) others

-- how often the calls of a list name the object
unfoldable pub times_in : Name → List Numbered → ℕ
times_in n cs = sum_by (λ c. times_among n (names c.call)) cs
