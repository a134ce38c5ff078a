use Rattle.std.proofs.Common.{Some, ap, ◌∙◌, List, ℕ}
use Rattle.shader_model.specs.Shader.{program_of}
use Rattle.d3d_state.specs.Shaders.{program_by}
use Rattle.d3d_state.proofs.Spelled.{good_words, none_made, shader_made}
use Rattle.d3d_state.proofs.shaders.LiveShader.decode.Goals as goal

pub invariant_of-result : goal.invariant_of-result
invariant_of-result c =
    rw c.in_ok-tokens-in-Ok.ensures.ok
    (ap program_by (c.in_ok-words-in-Ok.ensures.items_if_clones_equal (λ x y same. same))
    ∙ good_words c.args.words.now (program_of c.in-Ok.tree) c.in-Ok.ensures.good)

pub returns-in_ok-tokens-in-Ok : goal.returns-in_ok-tokens-in-Ok
returns-in_ok-tokens-in-Ok c =
    rw c.in_ok-tokens-in-Ok.ensures.ok
    (ap (λ (w : List ℕ). Some (record { call = c.args.call; words = w })) (c.in_ok-words-in-Ok.ensures.items_if_clones_equal (λ x y same. same))
    ∙ shader_made c.args.call c.args.words.now (program_of c.in-Ok.tree) (good_words c.args.words.now (program_of c.in-Ok.tree) c.in-Ok.ensures.good))

pub returns-in-Err-Bad : goal.returns-in-Err-Bad
returns-in-Err-Bad c = none_made c.args.call c.args.words.now c.in-Err-Bad.field-0-0 (rw c.in-Err-Bad.field-0-is at c.in-Err-Bad.ensures.bad)
