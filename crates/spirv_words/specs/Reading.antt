-- What the program says of the words that it reads.
use Rattle.std.specs.Prelude.{◌≡◌, ℕ, ◌+◌, List, [], ◌∷◌, length, Option, None, Some, Result, Ok, Err}
use Rattle.spirv_words.specs.declared.end.ModuleEnd.{ModuleEnd}
use Rattle.spirv_words.specs.declared.end.ModuleEnd.TheVariants.{Bad, NoMemory}
use Rattle.spirv_model.specs.declared.fault.ModuleFault.{ModuleFault}
use Rattle.spirv_words.specs.declared.known.Known.{Known}
use Rattle.spirv_model.specs.Op.{Op}
use Rattle.spirv_model.specs.History.{after}
use Rattle.spirv_model.specs.Operands.{or_else, operands}
use Rattle.spirv_model.specs.FirstBad.{Reading, reading, ops_fault, first_fault, first_word_rule, fault_at, total_words}
use Rattle.spirv_words.specs.Known.{history}

-- the instructions of these words
abbrev pub reading_of : List ℕ → Reading
reading_of ws = reading (length ws) ws

-- what holds of the bad word, where the end is one
abbrev pub IfFault : ModuleEnd → (ModuleFault → Type 0) → Type 0
IfFault (Bad f) P = P f
IfFault NoMemory P = Unit {0}

module _ {A : Type 0} where
  -- what holds of the bad word, where the answer is one
  abbrev pub IfBad : Result A ModuleEnd → (ModuleFault → Type 0) → Type 0
  IfBad (Ok x) P = Unit {0}
  IfBad (Err e) P = IfFault e P

-- the first word of an instruction that is refused, where it stands at a place
unfoldable pub instruction_fault : (bound : ℕ) → List Op → (at : ℕ) → Op → Option ModuleFault
instruction_fault bound h at o = first_fault at (first_word_rule h o ∷ operands bound h o)

-- the first of these instructions that is refused, or the word that begins none
abbrev pub read_fault : (bound : ℕ) → Reading → Option ModuleFault
read_fault bound r = or_else (ops_fault bound [] 5 r.ops) (fault_at (5 + total_words r.ops) r.stop)

-- all the words are instructions of which none is refused, and all of them are known
pub record IsRead (bound count : ℕ) (r : Reading) (known : Known) : Type 0 where
  pub passes : ops_fault bound [] 5 r.ops ≡ None
  pub to_the_end : r.stop ≡ None
  pub words : total_words r.ops ≡ count
  pub instructions : history known ≡ after r.ops []
