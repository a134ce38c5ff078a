-- Bytes in zeros.
use Rattle.std.proofs.Common.{◌≡◌, ℕ, zero, suc, ◌+◌, ◌-◌, ◌≤◌, List, [], ◌∷◌, ◌++◌, length, replicate, refl, arith}
use Rattle.std.proofs.Common.{length-append}
use Rattle.std.proofs.lemmas.List.{length-replicate}
use Rattle.vk_types.specs.Memory.{number_at}
use Rattle.core_model.specs.Script.{padded}

pub padded_long : (from : ℕ) (bytes : List ℕ) (total : ℕ) → from + length bytes ≤ total
    → length (padded from bytes total) ≡ total
padded_long from bytes total l =
    let a = length-append (replicate from 0) (bytes ++ replicate (total - (from + length bytes)) 0) in
    let b = length-append bytes (replicate (total - (from + length bytes)) 0) in
    let c = length-replicate {A = ℕ} from 0 in
    let d = length-replicate {A = ℕ} (total - (from + length bytes)) 0 in
    omega (arith, a, b, c, d, l)

pub zeros_at : (n i : ℕ) → number_at (replicate n 0) i ≡ 0
zeros_at zero i = refl
zeros_at (suc n) zero = refl
zeros_at (suc n) (suc i) = zeros_at n i

-- zeros behind bytes are as nothing behind them
pub padded_at : (bytes : List ℕ) (n i : ℕ) → number_at (bytes ++ replicate n 0) i ≡ number_at bytes i
padded_at [] n i = zeros_at n i
padded_at (b ∷ bs) n zero = refl
padded_at (b ∷ bs) n (suc i) = padded_at bs n i

pub past_end : (bytes : List ℕ) (i : ℕ) → length bytes ≤ i → number_at bytes i ≡ 0
past_end [] i l = refl
past_end (b ∷ bs) zero l = absurd (let z : ⊥ = omega (arith, l) in z)
past_end (b ∷ bs) (suc i) l = past_end bs i (omega (arith, l))
