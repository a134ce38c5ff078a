-- The numbers of modes, classes and kinds, as a call says them.
use Rattle.std.specs.Prelude.{ℕ}
use Rattle.d3d_model.specs.declared.codes.TheConstants.{MAP_DISCARD, MAP_NO_OVERWRITE, MAP_WRITE, BUFFER_CLASS, VIEW_CLASS, SHADER_CLASS, QUERY_CLASS, LIST_CLASS, NO_PREDICATE, QUERY_PREDICATE, WORD_PREDICATE}
use Rattle.d3d_model.specs.declared.codes.MapMode.{MapMode}
use Rattle.d3d_model.specs.declared.codes.MapMode.TheVariants as modes
use Rattle.d3d_model.specs.declared.codes.ObjectClass.{ObjectClass}
use Rattle.d3d_model.specs.declared.codes.ObjectClass.TheVariants as classes
use Rattle.d3d_model.specs.declared.codes.PredicateKind.{PredicateKind}
use Rattle.d3d_model.specs.declared.codes.PredicateKind.TheVariants as kinds

abbrev pub map_mode_number : MapMode → ℕ
map_mode_number modes.Discard = MAP_DISCARD
map_mode_number modes.NoOverwrite = MAP_NO_OVERWRITE
map_mode_number modes.Write = MAP_WRITE

abbrev pub class_number : ObjectClass → ℕ
class_number classes.Buffer = BUFFER_CLASS
class_number classes.View = VIEW_CLASS
class_number classes.Shader = SHADER_CLASS
class_number classes.Query = QUERY_CLASS
class_number classes.List = LIST_CLASS

abbrev pub predicate_kind_number : PredicateKind → ℕ
predicate_kind_number kinds.Never = NO_PREDICATE
predicate_kind_number kinds.Query = QUERY_PREDICATE
predicate_kind_number kinds.Word = WORD_PREDICATE
