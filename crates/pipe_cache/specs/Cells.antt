-- The cells of a cache, and what a note knows of them.
use Rattle.std.specs.Prelude.{◌≡◌, ℕ, suc, ◌<◌, ◌==◌, Bool, true, false, List, [], ◌∷◌, length, map, Option, Some, None, slice_index_or, if◌then◌else◌}
use Rattle.std.specs.Option.{option_map}
use Rattle.d3d_model.specs.D3dState.{Shader}

-- a cell: the call that creates its shader, the shader's token bytes, and the cell's name
pub record Cell : Type 0 where
  pub call : ℕ
  pub words : List ℕ
  pub name : ℕ

-- a module that was seen in a cell: the token bytes that it was emitted from, and its words
pub record Seen : Type 0 where
  pub tokens : List ℕ
  pub made : List ℕ

-- what is noted of a cell: its name, the module that was seen in it, and whether that was found to be one of the
-- cell's shader
pub record Noted : Type 0 where
  pub name : ℕ
  pub seen : Option Seen
  pub checked : Bool

abbrev pub shader_of : Cell → Shader
shader_of c = record { call = c.call; words = c.words }

-- the shaders of a cache, in order of the calls that create them
abbrev pub shaders_in : List Cell → List Shader
shaders_in cells = map shader_of cells

abbrev pub call_of_cell : Cell → ℕ
call_of_cell c = c.call

-- those calls
abbrev pub calls_in : List Cell → List ℕ
calls_in cells = map call_of_cell cells

-- each number is below all behind it
abbrev pub IsRising : List ℕ → Type 0
IsRising xs = (j k : ℕ) → j < k → k < length xs → slice_index_or xs j 0 < slice_index_or xs k 0

-- the place of the cell of the shader that call n creates; the count of the cells where there is none
abbrev pub place_in : List Cell → ℕ → ℕ
place_in [] n = 0
place_in (c ∷ cs) n = if c.call == n then 0 else suc (place_in cs n)

-- call n creates a shader of the cache
abbrev pub HasShader : List Cell → ℕ → Type 0
HasShader cells n = place_in cells n < length cells

abbrev pub no_cell : Cell
no_cell = record { call = 0; words = []; name = 0 }

-- the token bytes of the shader that call n creates
abbrev pub tokens_at : List Cell → ℕ → List ℕ
tokens_at cells n = (slice_index_or cells (place_in cells n) no_cell).words

-- nothing is noted of a cell
abbrev pub unnoted : ℕ → Noted
unnoted name = record { name = name; seen = None; checked = false }

abbrev pub unnoted_of : Cell → Noted
unnoted_of c = unnoted c.name

-- the words of the module that is known of a cell
abbrev pub known_of : Noted → Option (List ℕ)
known_of n = if n.checked then option_map (λ s. s.made) n.seen else None

-- the words of the module that a note knows of the shader that call n creates
abbrev pub known_by : List Cell → List Noted → ℕ → Option (List ℕ)
known_by cells notes n = known_of (slice_index_or notes (place_in cells n) (unnoted 0))

-- this is noted of the cell, and where it was checked, a module of the cell's shader was seen
pub record IsNoteOf (c : Cell) (n : Noted) : Type 0 where
  pub cell : n.name ≡ c.name
  pub right : n.checked ≡ true → ((s : Seen) × (n.seen ≡ Some s) × (s.tokens ≡ c.words))

-- this is a note of a cache with these cells
pub record AreNotesOf (cells : List Cell) (notes : List Noted) : Type 0 where
  pub count : length notes ≡ length cells
  pub each : (k : ℕ) (c : Cell) (n : Noted) → k < length cells
      → IsNoteOf (slice_index_or cells k c) (slice_index_or notes k n)
