-- The rules of whole instructions and of lists of operands, of what is known before a place.
use Rattle.std.specs.Prelude.{ℕ, ◌==◌, ◌&&◌, true, List, Option}
use Rattle.spirv_words.specs.declared.known.Known.{Known}
use Rattle.spirv_words.specs.declared.each.Each.{Each}
use Rattle.spirv_words.specs.declared.each.Each.TheVariants as each
use Rattle.spirv_model.specs.declared.fault.ModuleFault.{ModuleFault}
use Rattle.spirv_model.specs.Op.{Op}
use Rattle.spirv_model.specs.declared.storage_classes.TheConstants as class
use Rattle.spirv_model.specs.Decoration.{takes_value, is_offset_of}
use Rattle.spirv_model.specs.History.{value_type, maker}
use Rattle.spirv_model.specs.Types.{is_word}
use Rattle.spirv_model.specs.Values.{is_type, is_constant, pointee}
use Rattle.spirv_model.specs.Operands.{Verdict, literal, later, made, word, operands}
use Rattle.spirv_model.specs.FirstBad as first_bad
use Rattle.spirv_model.specs.FirstBad.{first_fault, late_operands}
use Rattle.spirv_words.specs.Known.{history}

-- the rule of each word of a list
unfoldable pub rule_of : Known → Each → ℕ → Verdict
rule_of known each.Later x = later known.bound (history known) x
rule_of known (each.DecorationValue d) v = literal known.bound (history known) (takes_value d v)
rule_of known (each.Offset m) v = literal known.bound (history known) (is_offset_of m v)
rule_of known each.Member x = made known.bound (history known) is_word x
rule_of known (each.FirstValue t c) x = made known.bound (history known) (λ o. (c == class.FUNCTION) && is_constant (λ v. true) o && is_type (value_type o) (pointee (maker t (history known)))) x
rule_of known each.Word x = word known.bound (history known) x
rule_of known each.MadeAtAll x = first_bad.id (history known) x

-- the first operand of an instruction that is refused, where its first operand stands at a place
unfoldable pub operand_fault : Known → (at : ℕ) → Op → Option ModuleFault
operand_fault known at o = first_fault at (operands known.bound (history known) o)

-- the same, of what is never made, where all instructions are known
unfoldable pub late_operand_fault : Known → (at : ℕ) → Op → Option ModuleFault
late_operand_fault known at o = first_fault at (late_operands (history known) o)
