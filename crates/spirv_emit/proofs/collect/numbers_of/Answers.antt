use Rattle.std.proofs.Common.{◌≡◌, [], ◌∷◌, refl, sym, ap, ◌∙◌}
use Rattle.std.specs.Prelude.{flat_map}
use Rattle.shader_model.specs.Body.{body_of}
use Rattle.spirv_emit.specs.Numbers.{from_on, with_numbers, own_numbers, declared_numbers, body_numbers}
use Rattle.spirv_emit.proofs.Words.Nodes.{with_append}
use Rattle.spirv_emit.proofs.collect.numbers_of.Goals as goal

own_is : with_numbers (with_numbers [] (from_on 0 38)) (4096 ∷ 0xffff_ffff ∷ []) ≡ own_numbers
own_is = refl

pub returns : goal.returns
returns c =
    let ds = c.args.shader.now.declared in
    let b = body_of c.args.shader.now.nodes in
    let h1 = c.in_ok-add_below.ensures ∙ ap (λ z. with_numbers z (from_on 0 38)) c.new-numbers.ensures in
    let h2 = c.in_ok-add_all.ensures ∙ ap (λ z. with_numbers z (4096 ∷ 0xffff_ffff ∷ [])) h1 ∙ own_is in
    let h3 = c.in_ok-add_declared.ensures ∙ ap (λ z. with_numbers c.add_all.new.numbers (flat_map declared_numbers z)) c.declared.ensures ∙ ap (λ z. with_numbers z (flat_map declared_numbers ds)) h2 in
    let h4 = c.in_ok-add_nodes.ensures ∙ ap (λ z. with_numbers c.add_declared.new.numbers (body_numbers (body_of z))) c.body.ensures.value ∙ ap (λ z. with_numbers z (body_numbers b)) h3 in
    h4 ∙ sym (with_append (flat_map declared_numbers ds) (body_numbers b) own_numbers)
