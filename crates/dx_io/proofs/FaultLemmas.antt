-- One span of time after another: a count rose in the whole where it rose in a part.
use Rattle.std.proofs.Common.{ℕ, ◌≤◌, ◌<◌, ◌≡◌, arith}
use Rattle.dx_io.specs.Faults.{Rose, IsSteady, one_more}

pub rose_later : (a b c : ℕ) → a ≤ b → Rose b c → Rose a c
rose_later a b c le rose = omega arith

pub rose_earlier : (a b c : ℕ) → Rose a b → b ≤ c → Rose a c
rose_earlier a b c rose le = omega arith

pub rose_one_more : (a : ℕ) → Rose a (one_more a)
rose_one_more a = omega arith

pub rose_above : (a b : ℕ) → a < b → Rose a b
rose_above a b lt = omega arith

-- no fault in the whole, so none in a part
pub steady_first : (a b c : ℕ) → b ≤ c → IsSteady a c → IsSteady a b
steady_first a b c le steady = λ rose. steady (rose_earlier a b c rose le)

pub steady_last : (a b c : ℕ) → a ≤ b → IsSteady a c → IsSteady b c
steady_last a b c le steady = λ rose. steady (rose_later a b c le rose)

-- a count that never falls stands still where it is steady
pub steady_same : (a b : ℕ) → a ≤ b → IsSteady a b → b ≡ a
steady_same a b le steady = omega arith

-- a constant count below the end is steady
pub steady_zero : IsSteady 0 0
steady_zero = λ rose. omega arith
