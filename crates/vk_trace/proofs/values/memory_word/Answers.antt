use Rattle.std.proofs.Common.{ap, sym, ◌∙◌}
use Rattle.vk_trace.specs.ListText.{IsSmall, hex_word}
use Rattle.text_words.specs.Words.{lower}
use Rattle.vk_trace.proofs.Spelled.{none_read, lower_hex, hex_decodes, hex_read, ok_value, no_value}
use Rattle.vk_trace.proofs.values.memory_word.Goals as goal

pub returns-then-not-is_lower : goal.returns-then-not-is_lower
returns-then-not-is_lower c =
    λ n lt e.
    let low = lower_hex n in
    let same = ap lower e in
    cc

pub returns-in_err-bytes : goal.returns-in_err-bytes
returns-in_err-bytes c =
    none_read IsSmall hex_word _ _ c.from_residual.ensures
    (λ n lt e. no_value c.from_hex.result _ (c.from_hex.ensures ∙ hex_decodes n _ e) c.in_err-bytes.ensures.value)

pub returns : goal.returns
returns c = hex_read _ _ c.in_ok-bytes.bytes (sym c.from_hex.ensures ∙ ok_value c.from_hex.result _ c.in_ok-bytes.ensures.value) (sym c.is_lower.ensures ∙ c.if-not-is_lower.false) c.from_be_bytes.ensures
