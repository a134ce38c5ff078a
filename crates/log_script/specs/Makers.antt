-- Buffers by the calls that created them: an id that is used again names another buffer.
use Rattle.std.specs.Prelude.{ℕ, ◌+◌, List, [], ◌∷◌, map, if◌then◌else◌}
use Rattle.dx_types.specs.declared.range.Range.{Range}
use Rattle.dx_types.specs.declared.range.ResRange.{ResRange}
use Rattle.vk_types.specs.Memory.{range}
use Rattle.d3d_model.specs.Past.{Past, makes}

-- the call that created the buffer that has the id: the latest one that made a buffer of it, and 0 where none did
unfoldable pub maker : Past → ℕ → ℕ
maker [] res = 0
maker (d ∷ before) res = if makes res d.deed then d.call else maker before res

-- bytes of the buffer that has the id, as bytes of the buffer that a call created
abbrev pub bytes_from : Past → ℕ → ℕ → ℕ → Range
bytes_from past res from len = range (maker past res) from (from + len)

abbrev pub of_maker : Past → ResRange → Range
of_maker past r = range (maker past r.res) r.from r.to

abbrev pub of_makers : Past → List ResRange → List Range
of_makers past rs = map (of_maker past) rs
