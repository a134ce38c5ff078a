-- What stands after an invocation.
use Rattle.std.proofs.Common.{◌≡◌, ℕ, List, length, refl, sym, ap, ◌∙◌}
use Rattle.std.specs.Prelude.{◌*◌, replicate}
use Rattle.std.proofs.lemmas.List.{length-replicate}
use Rattle.shader_model.specs.Shader.{Tree}
use Rattle.shader_model.specs.Invocation.{Slots, State, Flow, state_of}
use Rattle.shader_eval.specs.declared.frame.Frame.{Frame}
use Rattle.shader_eval.specs.declared.way.Way.{Way}
use Rattle.shader_eval.specs.declared.way.Way.TheVariants as way
use Rattle.shader_eval.specs.Frames.{IsFor, seen, flow_of}
use Rattle.shader_eval.proofs.Turns.{Keeps}

state_at : (w : Way) (s : State) → state_of (flow_of w s) ≡ s
state_at way.Falls s = refl
state_at way.Breaks s = refl
state_at way.Continues s = refl
state_at way.Ends s = refl

-- the frame still has the words that its shader's temporaries ask
pub still_for : (way : Way) (tree : Tree) (old : List ℕ) (f : Frame) (after : Slots) (flow : Flow) (s : State) → length old ≡ 4 * tree.temps → s.temps ≡ replicate (length old) 0 → Keeps s (state_of flow) → flow_of way (seen f after) ≡ flow → IsFor f tree
still_for way tree old f after flow s e begins kept h =
    let ends : seen f after ≡ state_of flow = sym (state_at way (seen f after)) ∙ ap state_of h in
    ap (λ z. length z.temps) ends ∙ kept.temps ∙ ap length begins ∙ length-replicate (length old) 0 ∙ e
