use Rattle.std.proofs.Common.{◌≡◌, [], Some, length, ap, sym, ◌∙◌, arith, length-drop}
use Rattle.base_lemmas.specs.ByteWords.{words_of}
use Rattle.shader_model.specs.Items.{items_from}
use Rattle.shader_model.specs.Faults.{items_fault, first_bad_of_bytes}
use Rattle.shader_tokens.proofs.Judging.{end-bad}
use Rattle.shader_tokens.proofs.Finishing.{header-bad, header-good, header-count}
use Rattle.shader_tokens.proofs.decoding.decode.Goals as goal

pub read_items-requires : goal.read_items-requires
read_items-requires c =
    let ws = words_of c.args.bytes.now in
    let count = header-count c.args.bytes.now (sym c.header_fault.ensures ∙ c.in_default.is) in
    omega (arith, ap length c.behind.ensures, length-drop 2 ws, count.0)

pub returns-in-Some-clause-bad : goal.returns-in-Some-clause-bad
returns-in-Some-clause-bad c = header-bad c.args.bytes.now c.in-Some.fault (sym c.header_fault.ensures ∙ c.in-Some.is)

pub returns-in-Err-clause-bad : goal.returns-in-Err-clause-bad
returns-in-Err-clause-bad c =
    let bytes = c.args.bytes.now in
    let fine = sym c.header_fault.ensures ∙ c.in_default.is in
    end-bad c.in-Err.end (λ f. items_fault [] (items_from 2 0 (words_of c.behind.result.now)) ≡ Some f) (λ f. first_bad_of_bytes bytes ≡ Some f)
    (λ f e. header-good bytes fine ∙ ap (λ z. items_fault [] (items_from 2 0 z)) (sym c.behind.ensures) ∙ e) c.in-Err.ensures.bad
