-- The view that an access names, and its words written.
use Rattle.std.specs.Prelude.{ℕ, List, if◌then◌else◌}
use Rattle.shader_model.specs.declared.tree.SlotUse.{SlotUse}
use Rattle.shader_model.specs.Invocation as model
use Rattle.shader_slots.specs.Bound.{Bound, with_written}
use Rattle.shader_eval.specs.declared.access.View.{View}

abbrev pub view_as : View → model.View
view_as v = record { name = v.name; declared = v.declared }

-- other words of the view that an access names, where it can be written
abbrev pub with_named : SlotUse → List ℕ → Bound → Bound
with_named u words b = if u.writable then with_written u.slot words b else b
