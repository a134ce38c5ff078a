-- What an item makes, in the code.
use Rattle.std.specs.Prelude.{◌≡◌, ℕ, List}
use Rattle.dx_types.specs.declared.range.Span.{Span}
use Rattle.core_model.specs.Batching.{Made}
use Rattle.d3d_model.specs.Past.{Past}
use Rattle.log_script.specs.Makers.{maker}
use Rattle.batch_make.specs.declared.stream.Stream.{Stream}
use Rattle.batch_make.specs.declared.parts.Parts.{Parts}
use Rattle.batch_make.specs.Making.{Continues, Has}

-- the stream and the parts of the open batch are at what was made so far
abbrev pub Makes : (Span → List ℕ) → Made → Stream → Parts → Type 0
Makes part m stream parts = Continues m stream × Has part m parts

-- no buffer was made by this call
abbrev pub NeverMade : Past → ℕ → Type 0
NeverMade past call = (id : ℕ) → maker past id ≡ call → ⊥

-- the call that made the buffer of this id made that of no other
abbrev pub MakesAlone : Past → ℕ → Type 0
MakesAlone past id = (other : ℕ) → maker past other ≡ maker past id → other ≡ id
