-- What is known of the words that were emitted for a shader.
use Rattle.std.proofs.Common.{◌≡◌, ℕ, ◌+◌, ◌<◌, ◌^◌, List, ◌++◌, length, Result, Ok, Err, Some, None, sym, ap, ◌∙◌, arith}
use Rattle.std.specs.Prelude.{IfOk}
use Rattle.shader_model.specs.Shader.{Program}
use Rattle.shader_model.specs.Good.{IsGood}
use Rattle.spirv_model.specs.declared.fault.ModuleFault.{ModuleFault}
use Rattle.spirv_model.specs.Words.{words_of, header}
use Rattle.spirv_model.specs.FirstBad.{first_bad}
use Rattle.spirv_emit.specs.Module.{module_ops, module_bound, module_of}
use Rattle.spirv_emit.proofs.Size.Bounds.{words_fit}
use Rattle.spirv_emit.proofs.Profile.ModulePasses.{accepted}

-- the words behind their header are the module
pub module_is : (p : Program) (n : ℕ) (ws : List ℕ) → n ≡ module_bound p → ws ≡ words_of (module_ops p) → header n ++ ws ≡ module_of p
unfolding module_of
module_is p n ws en ew = ap (λ k. header k ++ ws) en ∙ ap (λ xs. header (module_bound p) ++ xs) ew

pub words_few : (p : Program) → IsGood p → (ws : List ℕ) → ws ≡ words_of (module_ops p) → 5 + length ws < 2 ^ 32
unfolding module_of
words_few p good ws e = let fit = words_fit p good in let same = ap length e in omega (arith, fit, same)

-- none of them is refused
pub none_bad : (p : Program) → IsGood p → (n : ℕ) (ws : List ℕ) → n ≡ module_bound p → ws ≡ words_of (module_ops p) → (f : ModuleFault) → first_bad (header n ++ ws) ≡ Some f → ⊥
none_bad p good n ws en ew f bad = let none : None ≡ Some f = sym (accepted p good) ∙ sym (ap first_bad (module_is p n ws en ew)) ∙ bad in cc

pub if_made : {A B : Type 0} (r : Result A B) (P Q : A → Type 0) → ((x : A) → P x → Q x) → IfOk r P → IfOk r Q
if_made (Ok x) P Q f h = f x h
if_made (Err e) P Q f h = tt
