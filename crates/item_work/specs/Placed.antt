-- The blocks of live buffers, by the buffers' ids: the model has them by the calls that created the buffers.
use Rattle.std.specs.Prelude.{◌≡◌, ℕ}
use Rattle.std.specs.Coded.{Coded, coded_ℕ}
use Rattle.dx_types.specs.declared.range.Range.{Range}
use Rattle.dx_types.specs.declared.range.ResRange.{ResRange}
use Rattle.base_lemmas.specs.IdMap as ids
use Rattle.base_lemmas.specs.IdMap.{IdMap}
use Rattle.vk_types.specs.Memory.{range, or_zero}
use Rattle.d3d_model.specs.Past.{Past}
use Rattle.core_model.specs.Renaming.{BlockMap}
use Rattle.log_script.specs.Makers.{maker}

abbrev pub IdBlocks : Type 0
IdBlocks = IdMap ℕ

abbrev pub blocks_code : Coded IdBlocks
blocks_code = ids.code coded_ℕ

-- each id has the block of the buffer that it names
abbrev pub NamesBlocks : Past → IdBlocks → BlockMap → Type 0
NamesBlocks past named blocks = (id : ℕ) → ids.get named id ≡ blocks (maker past id)

-- bytes of a buffer, as bytes of its block
abbrev pub range_at : IdBlocks → ResRange → Range
range_at named r = range (or_zero (ids.get named r.res)) r.from r.to
