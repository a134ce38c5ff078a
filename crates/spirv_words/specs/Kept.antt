-- What the program keeps of the instructions so far, beside the table of the ids.
use Rattle.std.specs.Prelude.{◌≡◌, ℕ, List, [], map, Option, option_map}
use Rattle.std.specs.Ordering.{nat_cmp}
use Rattle.std.specs.BTreeSet.{contains}
use Rattle.std.specs.List.{list_any}
use Rattle.spirv_words.specs.declared.branches.Branches.{Branches}
use Rattle.spirv_words.specs.declared.once.Once.{Once}
use Rattle.spirv_words.specs.declared.place.Place.{Place}
use Rattle.spirv_model.specs.declared.op.Op.{Op as View}
use Rattle.spirv_model.specs.Op.{Op}
use Rattle.spirv_model.specs.History.{is_branched_to, is_id, is_entry, in_function, block_is_open, after}
use Rattle.spirv_model.specs.Types.{same_type, is_declared}
use Rattle.spirv_words.specs.Latest.{latest}
use Rattle.spirv_model.specs.Sections.{takes_variable}
use Rattle.spirv_model.specs.View.{shown}

-- the labels are those that a branch names
abbrev pub NamesLabels : Branches → List Op → Type 0
NamesLabels branches h = (x : ℕ) → contains nat_cmp branches.labels x ≡ is_branched_to x h

-- a type is among these where it is declared
abbrev pub HasTypes : Once → List Op → Type 0
HasTypes once h = (o : Op) → list_any (λ v. same_type o (shown v)) once.types.items ≡ is_declared o h

-- it is the function of the latest entry point
abbrev pub HasEntry : Option ℕ → List Op → Type 0
HasEntry entry h = (f : ℕ) → is_id f entry ≡ is_entry f h

-- the place behind these instructions
pub record IsPlace (place : Place) (h : List Op) : Type 0 where
  pub latest_op : option_map shown place.latest ≡ latest h
  pub begun : place.in_function ≡ in_function h
  pub block : place.in_block ≡ block_is_open h
  pub variables : place.takes_variable ≡ takes_variable h

-- instructions as the program has them, the latest first
abbrev pub so_far : List View → List Op
so_far ops = after (map shown ops) []
