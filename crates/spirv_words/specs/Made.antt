-- What the program knows of the instructions so far.
use Rattle.std.specs.Prelude.{◌≡◌, ℕ, List, option_map}
use Rattle.std.specs.Ordering.{nat_cmp}
use Rattle.std.specs.BTreeMap.{get}
use Rattle.spirv_words.specs.declared.made.Made.{Made}
use Rattle.spirv_model.specs.Op.{Op}
use Rattle.spirv_model.specs.History.{maker}
use Rattle.spirv_model.specs.View.{shown}

-- the table has the maker of each id
abbrev pub Records : Made → List Op → Type 0
Records made h = (x : ℕ) → option_map shown (get nat_cmp made.by_id x) ≡ maker x h
