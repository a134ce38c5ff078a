-- A predicate of the code, as the model has it.
use Rattle.d3d_model.specs.Binding as model
use Rattle.d3d_views.specs.declared.predicate.Predicate.{Predicate}
use Rattle.d3d_views.specs.declared.predicate.Predicate.TheVariants.{Never, Query, Word}

abbrev pub meaning : Predicate → model.Predicate
meaning Never = model.Never
meaning (Query id value) = model.Query id value
meaning (Word res offset value) = model.Word res offset value

-- the predicate that means this
abbrev pub meant_by : model.Predicate → Predicate
meant_by model.Never = Never
meant_by (model.Query id value) = Query id value
meant_by (model.Word res offset value) = Word res offset value
