-- What a clear writes.
use Rattle.std.specs.Prelude.{ℕ, ◌/◌, min}
use Rattle.dx_types.specs.declared.shape.Form.{Form}
use Rattle.dx_types.specs.declared.shape.Form.TheVariants.{Raw, Structured, Typed}

-- how many of the four values make one element
abbrev pub element_words : Form → ℕ → ℕ
element_words Raw unit = 1
element_words Structured unit = 1
element_words Typed unit = min (unit / 4) 4
