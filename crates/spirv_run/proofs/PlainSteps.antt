-- The steps of instructions that need no other to be known.
use Rattle.std.proofs.Common.{◌≡◌, ℕ, Bool, List, refl}
use Rattle.std.specs.Borrow.{Bor}
use Rattle.spirv_model.specs.declared.op.Op.{Op as View}
use Rattle.spirv_model.specs.declared.op.Op.TheVariants as view
use Rattle.spirv_model.specs.Op.{Op}
use Rattle.spirv_model.specs.View.{shown}
use Rattle.spirv_run.specs.Decoding.{plain_step, step_of}

pub plain_is : (o : View) (all : List Op) (label_next : Bool) (next : ℕ)
    → ((t r c : ℕ) (vs : Bor (List ℕ)) → o ≡ view.Variable t r c vs → ⊥)
    → ((t r c f : ℕ) → o ≡ view.Function t r c f → ⊥)
    → (o ≡ view.FunctionEnd → ⊥)
    → ((r : ℕ) → o ≡ view.Label r → ⊥)
    → ((l : ℕ) → o ≡ view.Branch l → ⊥)
    → ((c a b : ℕ) → o ≡ view.BranchConditional c a b → ⊥)
    → (o ≡ view.Return → ⊥)
    → plain_step (shown o) ≡ step_of all (shown o) label_next next
plain_is (view.Variable t r c vs) all l k variable function end label branch choice return = absurd (variable t r c vs refl)
plain_is (view.Function t r c f) all l k variable function end label branch choice return = absurd (function t r c f refl)
plain_is view.FunctionEnd all l k variable function end label branch choice return = absurd (end refl)
plain_is (view.Label r) all l k variable function end label branch choice return = absurd (label r refl)
plain_is (view.Branch x) all l k variable function end label branch choice return = absurd (branch x refl)
plain_is (view.BranchConditional c a b) all l k variable function end label branch choice return = absurd (choice c a b refl)
plain_is view.Return all l k variable function end label branch choice return = absurd (return refl)
plain_is o all l k variable function end label branch choice return = refl
