use Rattle.std.proofs.Common.{sym, subst}
use Rattle.std.specs.Str.{IsUtf8}
use Rattle.text_words.proofs.Hex.{IsUtf8-encode_lower}
use Rattle.vk_trace.proofs.Results.{not_err}
use Rattle.vk_trace.proofs.write.push_memory_word.Goals as goal

pub unwrap-requires-2 : goal.unwrap-requires-2
unwrap-requires-2 c =
    let digits = rw c.unwrap.ensures at c.encode_to_slice.ensures.written in
    not_err c.from_utf8.result (IsUtf8 c.encode_to_slice.new.output) _ _ c.from_utf8.ensures.cases (subst IsUtf8 (sym digits) (IsUtf8-encode_lower c.to_be_bytes.result))
