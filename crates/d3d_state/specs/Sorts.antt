-- The numbers of the sorts of queries.
use Rattle.std.specs.Prelude.{◌≡◌, refl, ℕ, ◌==◌, false, None, if◌then◌else◌}
use Rattle.d3d_model.specs.declared.codes.TheConstants.{EVENT_QUERY, OCCLUSION_QUERY, STATISTICS_QUERY, PREDICATE_QUERY}
use Rattle.d3d_model.specs.D3dState as model
use Rattle.d3d_state.specs.declared.query.Sort.{Sort}
use Rattle.d3d_state.specs.declared.query.Sort.TheVariants.{Event, Occlusion, PipelineStatistics, OcclusionPredicate}

abbrev pub sort_number : Sort → ℕ
sort_number Event = EVENT_QUERY
sort_number Occlusion = OCCLUSION_QUERY
sort_number PipelineStatistics = STATISTICS_QUERY
sort_number OcclusionPredicate = PREDICATE_QUERY

-- the sort of a number from 0 to 3
abbrev pub sort_from : ℕ → Sort
sort_from n = if n == EVENT_QUERY then Event else if n == OCCLUSION_QUERY then Occlusion else if n == STATISTICS_QUERY then PipelineStatistics else OcclusionPredicate

pub sort_back : (s : Sort) → sort_from (sort_number s) ≡ s
sort_back Event = refl
sort_back Occlusion = refl
sort_back PipelineStatistics = refl
sort_back OcclusionPredicate = refl

-- a query of this sort that was never begun
abbrev pub new_query : ℕ → model.Query
new_query sort = record { sort = sort; begun = false; ended = None }
