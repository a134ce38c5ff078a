-- The operands of an access chain with indexes.
use Rattle.std.proofs.Common.{◌≡◌, ℕ, suc, ◌-◌, ◌≤◌, List, [], ◌∷◌, length, map, take, drop, get_or, ap, arith}
use Rattle.std.specs.Prelude.{◌||◌, nat_lt}
use Rattle.std.proofs.lemmas.List.{take_all}
use Rattle.spirv_model.specs.Op.{Op}
use Rattle.spirv_model.specs.Op as op
use Rattle.spirv_model.specs.declared.storage_classes.TheConstants as class
use Rattle.spirv_model.specs.History.{maker}
use Rattle.spirv_model.specs.Types.{is_word, is_pointer}
use Rattle.spirv_model.specs.Values.{block_of, member_count}
use Rattle.spirv_model.specs.Operands.{Verdict, made, result, base, constant, word, operands}
use Rattle.spirv_model.specs.FirstBad.{first_fault}

pub chain_faults : (b : ℕ) (h : List Op) (at t r x : ℕ) (is : List ℕ) (v1 v2 v3 v4 : Verdict) → 1 ≤ length is
    → v1 ≡ made b h (λ o. is_pointer h class.PUSH_CONSTANT is_word o || is_pointer h class.STORAGE_BUFFER is_word o) t
    → v2 ≡ result b h r
    → v3 ≡ base b h t (length is) x
    → v4 ≡ constant b h (λ v. nat_lt v (member_count (block_of h (maker x h)))) (get_or is 0 0)
    → first_fault at (v1 ∷ v2 ∷ v3 ∷ v4 ∷ map (word b h) (take (length is - 1) (drop 1 is))) ≡ first_fault at (operands b h (op.AccessChain t r x is))
chain_faults b h at t r x [] v1 v2 v3 v4 len e1 e2 e3 e4 = absurd (omega arith)
chain_faults b h at t r x (i ∷ is) v1 v2 v3 v4 len e1 e2 e3 e4 =
    let places : take (suc (length is) - 1) is ≡ is = take_all (suc (length is) - 1) is (omega arith) in
    let same : (v1 ∷ v2 ∷ v3 ∷ v4 ∷ map (word b h) (take (suc (length is) - 1) is)) ≡ operands b h (op.AccessChain t r x (i ∷ is)) = cc in
    ap (first_fault at) same
