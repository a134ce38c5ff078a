-- The instructions inside of blocks, beside those that begin and end them.
use Rattle.std.specs.Prelude.{if◌then◌else◌, Bool, true, ◌&&◌, List}
use Rattle.spirv_model.specs.Op.{Op}
use Rattle.spirv_model.specs.History.{in_function, block_is_open}
use Rattle.spirv_model.specs.Sections.{section, is_body}
use Rattle.spirv_model.specs.Blocks.{pending, takes}

-- An instruction that begins and ends no block stands in one, where it is one of the function.
abbrev pub inside_block : List Op → Op → Bool
inside_block h o = (if is_body (section (in_function h) o) then block_is_open h else true) && takes (pending h) o
