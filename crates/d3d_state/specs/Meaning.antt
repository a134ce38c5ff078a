-- The Direct3D state that the kept objects stand for.
use Rattle.std.specs.Prelude.{ℕ, List, [], ◌∷◌, ◌++◌}
use Rattle.dx_types.specs.declared.shape.Shape.{Shape}
use Rattle.dx_types.specs.declared.shape.ViewShape.{ViewShape}
use Rattle.call_log.specs.Call.{Call}
use Rattle.base_lemmas.specs.IdMap as ids
use Rattle.d3d_model.specs.Resource.{Buffers}
use Rattle.d3d_model.specs.D3dState as model
use Rattle.d3d_model.specs.D3dState.{bindings_of, context_of}
use Rattle.d3d_model.specs.Effect.{with_context}
use Rattle.d3d_lists.specs.Lists.{Lists}
use Rattle.d3d_lists.specs.Recorded.{lists_of, recorded_by}
use Rattle.d3d_state.specs.Codes.{Views, Queries}
use Rattle.d3d_state.specs.Contexts.{contexts_of}
use Rattle.d3d_state.specs.Shaders.{Shaders}
use Rattle.d3d_state.specs.declared.objects.Objects as code

-- these buffers, views, shaders, queries and lists are live, and these are the contexts
abbrev pub objects_from : Buffers → Views → Shaders → Queries → Lists → List model.Context → model.Objects
objects_from buffers views shaders queries lists contexts =
    record { buffers = buffers; views = views; shaders = shaders; queries = queries; lists = lists; contexts = contexts }

abbrev pub objects_of : code.Objects → model.Objects
objects_of o = objects_from o.buffers o.views o.shaders o.queries (lists_of o.recorder) (contexts_of o.settings.bindings (recorded_by o.recorder))

-- ---- one more object

abbrev pub with_buffer : model.Objects → ℕ → Shape → model.Objects
with_buffer o id shape = record o { buffers = ids.insert o.buffers id shape }

abbrev pub with_view : model.Objects → ℕ → ViewShape → model.Objects
with_view o id shape = record o { views = ids.insert o.views id shape }

abbrev pub with_shader : model.Objects → ℕ → model.Shader → model.Objects
with_shader o id shader = record o { shaders = ids.insert o.shaders id shader }

abbrev pub with_query : model.Objects → ℕ → model.Query → model.Objects
with_query o id query = record o { queries = ids.insert o.queries id query }

-- ---- a change of the queries, or of an open list

abbrev pub with_queries : model.Objects → Queries → model.Objects
with_queries o queries = record o { queries = queries }

-- call n in the open list of a context
abbrev pub with_recorded : model.Objects → ℕ → ℕ → Call → model.Objects
with_recorded o x n c =
    with_context o x (record { bindings = bindings_of o x; recorded = (context_of o x).recorded ++ record { number = n; call = c } ∷ [] })
