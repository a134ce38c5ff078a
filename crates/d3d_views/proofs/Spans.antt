-- The places of a view in its buffer are below the view's end.
use Rattle.std.proofs.Common.{◌≡◌, ℕ, ◌+◌, ◌*◌, ◌<◌, ◌≤◌, ◌^◌, Bool, true, false, ◌||◌, arith}
use Rattle.std.specs.Prelude.{nat_lt, ◌==◌}
use Rattle.std.proofs.lemmas.Bool.{ltb-false}
use Rattle.std.proofs.lemmas.Nat.{mul-le}

second_fails : (a b : Bool) → a || b ≡ false → b ≡ false
second_fails true b e = absurd cc
second_fails false b e = e

-- a view that isn't outside its buffer ends in it
pub ends_inside : (first count unit size : ℕ) → (count == 0) || nat_lt size ((first + count) * unit) ≡ false → (first + count) * unit ≤ size
ends_inside first count unit size e = ltb-false _ _ (second_fails (count == 0) _ e)

pub start_fits : (first count unit size : ℕ) → (count == 0) || nat_lt size ((first + count) * unit) ≡ false → size < 2 ^ 64 → first * unit < 2 ^ 64
start_fits first count unit size e fits =
    let start : first * unit ≤ (first + count) * unit = mul-le first unit (first + count) unit (omega arith) (omega arith) in
    omega (arith, start, ends_inside first count unit size e)

pub len_fits : (first count unit size : ℕ) → (count == 0) || nat_lt size ((first + count) * unit) ≡ false → size < 2 ^ 64 → count * unit < 2 ^ 64
len_fits first count unit size e fits =
    let len : count * unit ≤ (first + count) * unit = mul-le count unit (first + count) unit (omega arith) (omega arith) in
    omega (arith, len, ends_inside first count unit size e)
