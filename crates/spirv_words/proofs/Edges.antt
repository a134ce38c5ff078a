-- Instructions that are no edge of a block or of the function.
use Rattle.std.proofs.Common.{◌≡◌, ℕ, List, refl}
use Rattle.spirv_model.specs.declared.op.Op.{Op as View}
use Rattle.spirv_model.specs.declared.op.Op.TheVariants as view
use Rattle.spirv_model.specs.Op.{Op}
use Rattle.spirv_model.specs.View.{shown}
use Rattle.spirv_model.specs.Blocks.{in_block}
use Rattle.spirv_words.specs.Edges.{inside_block}

pub in_block_inside : (h : List Op) (v : View) → ((a b c d : ℕ) → v ≡ view.Function a b c d → ⊥) → (v ≡ view.FunctionEnd → ⊥) → ((a : ℕ) → v ≡ view.Label a → ⊥) → inside_block h (shown v) ≡ in_block h (shown v)
in_block_inside h (view.Function a b c d) f g l = absurd (f a b c d refl)
in_block_inside h view.FunctionEnd f g l = absurd (g refl)
in_block_inside h (view.Label a) f g l = absurd (l a refl)
in_block_inside h _ f g l = refl
