-- Words and instructions, both ways (SPIR-V 1.6, section 2.3).
use Rattle.std.specs.Prelude.{ℕ, suc, ◌+◌, ◌-◌, ◌*◌, ◌/◌, ◌%◌, ◌==◌, if◌then◌else◌, ◌||◌, nat_lt, List, [], ◌∷◌, ◌++◌, length, take, drop, Option, Some, None}
use Rattle.spirv_model.specs.declared.header.TheConstants.{MAGIC_NUMBER, VERSION, GENERATOR, SCHEMA, WORD_COUNT_UNIT}
use Rattle.spirv_model.specs.declared.code.Opcode.{Opcode}
use Rattle.spirv_model.specs.Op.{Op}
use Rattle.spirv_model.specs.Table.{opcode_of, made_by, code_of, operands_of}

-- the words of an instruction: the first has the number of words, itself included, and the opcode
abbrev pub spelled : (code : ℕ) → (operands : List ℕ) → List ℕ
spelled code operands = (suc (length operands) * WORD_COUNT_UNIT + code) ∷ operands

abbrev pub op_words : Op → List ℕ
op_words o = spelled (code_of o) (operands_of o)

abbrev pub words_of : List Op → List ℕ
words_of [] = []
words_of (o ∷ os) = op_words o ++ words_of os

-- what stands first in a list of words
pub data Front : Type 0 where
  -- an instruction, and the words behind it
  Instruction : (o : Op) (rest : List ℕ) → Front
  -- a word count that is 0, passes the end, or is wrong for the opcode
  BadCount : Front
  -- an opcode that the table doesn't have
  BadOpcode : Front

abbrev pub front_of_made : Option Op → List ℕ → Front
front_of_made (Some o) rest = Instruction o rest
front_of_made None rest = BadCount

abbrev pub front_of_opcode : Option Opcode → List ℕ → List ℕ → Front
front_of_opcode (Some o) operands rest = front_of_made (made_by o operands) rest
front_of_opcode None operands rest = BadOpcode

-- A count of 0, or one that passes the end, is wrong whatever the opcode is.
abbrev pub front_of_count : (count code : ℕ) → List ℕ → Front
front_of_count count code ws =
    if (count == 0) || nat_lt (length ws + 1) count
    then BadCount
    else front_of_opcode (opcode_of code) (take (count - 1) ws) (drop (count - 1) ws)

-- the first instruction of the words that begin with this one
unfoldable pub front : ℕ → List ℕ → Front
front w ws = front_of_count (w / WORD_COUNT_UNIT) (w % WORD_COUNT_UNIT) ws

-- The header (SPIR-V 1.6, section 2.3): magic number, version, generator, bound, schema.
abbrev pub header : ℕ → List ℕ
header bound = MAGIC_NUMBER ∷ VERSION ∷ GENERATOR ∷ bound ∷ SCHEMA ∷ []

-- a whole module
abbrev pub module_words : ℕ → List Op → List ℕ
module_words bound ops = header bound ++ words_of ops
