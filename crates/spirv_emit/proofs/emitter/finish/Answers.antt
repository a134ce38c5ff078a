use Rattle.std.proofs.Common.{◌≡◌, ◌++◌, Some, Err, ap, ◌∙◌, subst}
use Rattle.shader_model.specs.Shader.{program_of}
use Rattle.spirv_model.specs.Words.{header}
use Rattle.spirv_model.specs.FirstBad.{first_bad}
use Rattle.spirv_words.specs.Reading.{IfBad}
use Rattle.spirv_emit.proofs.Emitted.{module_is, words_few, none_bad}
use Rattle.spirv_emit.proofs.emitter.finish.Goals as goal

pub finish-requires : goal.finish-requires
finish-requires c = words_few (program_of c.args.shader.now) c.body-body.ensures.good c.args.code.words c.requires.words

pub unreachable-requires : goal.unreachable-requires
unreachable-requires c =
    let code = c.args.code in
    let bad = subst (λ r. IfBad r (λ f. first_bad (header code.next ++ code.words) ≡ Some f)) (c.in-Err-Bad.is ∙ ap Err c.in-Err-Bad.field-0-is) c.finish.ensures.first_bad_word in
    none_bad (program_of c.args.shader.now) c.body-body.ensures.good code.next code.words c.requires.bound c.requires.words c.in-Err-Bad.field-0-0 bad

pub returns-in-Ok : goal.returns-in-Ok
returns-in-Ok c = c.in-Ok.ensures.words ∙ module_is (program_of c.args.shader.now) c.args.code.next c.args.code.words c.requires.bound c.requires.words
