use Rattle.std.proofs.Common.{Some, ap, sym, ◌∙◌}
use Rattle.shader_tokens.proofs.Finishing.{header-long, header-torn, header-other, header-uncounted, header-two, header-none}
use Rattle.shader_tokens.proofs.decoding.header_fault.Goals as goal

pub returns-then-len-gt-MAX_SHADER_WORDS : goal.returns-then-len-gt-MAX_SHADER_WORDS
returns-then-len-gt-MAX_SHADER_WORDS c = ap (λ z. Some z) c.fault.ensures ∙ header-long c.args.bytes.now c.len.result c.len.ensures c.if-len-gt-MAX_SHADER_WORDS.true

pub returns-then-is_torn : goal.returns-then-is_torn
returns-then-is_torn c = ap (λ z. Some z) c.fault-then-is_torn.ensures ∙ header-torn c.args.bytes.now c.len.result c.is_torn.result c.len.ensures c.if-len-gt-MAX_SHADER_WORDS.false c.is_torn.ensures c.if-is_torn.true

pub returns-then-word-ne1 : goal.returns-then-word-ne1
returns-then-word-ne1 c = ap (λ z. Some z) c.fault-then-word-ne1.ensures ∙ header-other c.args.bytes.now c.len.result c.word.result c.len.ensures c.if-len-gt-MAX_SHADER_WORDS.false c.word.ensures c.if-word-ne1.true

pub returns-then-word-len : goal.returns-then-word-len
returns-then-word-len c =
    ap (λ z. Some z) c.fault-then-word-len.ensures
    ∙ header-uncounted c.args.bytes.now c.len.result c.word.result c.word-else-word-ne1.result c.is_torn.result c.len.ensures c.if-len-gt-MAX_SHADER_WORDS.false c.is_torn.ensures c.if-is_torn.false c.word.ensures c.if-word-ne1.false
    c.word-else-word-ne1.ensures (λ e. c.if-word-len.true (e ∙ c.len.ensures ∙ sym c.len-else-word-ne1.ensures))

pub returns-then-len-eq2 : goal.returns-then-len-eq2
returns-then-len-eq2 c =
    ap (λ z. Some z) c.fault-then-len-eq2.ensures
    ∙ header-two c.args.bytes.now c.len.result c.word.result c.word-else-word-ne1.result c.is_torn.result c.len.ensures c.if-len-gt-MAX_SHADER_WORDS.false c.is_torn.ensures c.if-is_torn.false c.word.ensures c.if-word-ne1.false
    c.word-else-word-ne1.ensures (c.if-word-len.false ∙ c.len-else-word-ne1.ensures ∙ sym c.len.ensures) (c.len.ensures ∙ sym c.len-else-word-len.ensures ∙ c.if-len-eq2.true)

pub returns-else-len-eq2 : goal.returns-else-len-eq2
returns-else-len-eq2 c =
    header-none c.args.bytes.now c.len.result c.word.result c.word-else-word-ne1.result c.is_torn.result c.len.ensures c.if-len-gt-MAX_SHADER_WORDS.false c.is_torn.ensures c.if-is_torn.false c.word.ensures c.if-word-ne1.false
    c.word-else-word-ne1.ensures (c.if-word-len.false ∙ c.len-else-word-ne1.ensures ∙ sym c.len.ensures) (λ e. c.if-len-eq2.false (c.len-else-word-len.ensures ∙ sym c.len.ensures ∙ e))
