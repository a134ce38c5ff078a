-- The least class whose blocks hold so many bytes.
use Rattle.std.proofs.Common.{◌≡◌, cond, ℕ, zero, suc, ◌<◌, ◌≤◌, ◌^◌, ◌∙◌, sym, arith}
use Rattle.std.specs.Prelude.{nat_le}
use Rattle.std.proofs.lemmas.Bool.{cond-true, cond-false, le-leb, lt-leb}
use Rattle.std.proofs.Math.Nat.{pow-le-pow_right}
use Rattle.dx_types.specs.Classes.{class_length}
use Rattle.d3d_model.specs.Resource.{class_of}

-- no class passes this power of four
pub power_small : (class : ℕ) → class < 8 → 4 ^ class ≤ 16384
power_small class lt = pow-le-pow_right {n = 4} (omega arith) {i = class} {j = 7} (omega arith)

-- no block of the classes below a class holds so many bytes
abbrev pub NoneBelow : (size class : ℕ) → Type 0
NoneBelow size class = (k : ℕ) → k < class → class_length k < size

here : (size held x others : ℕ) → size ≤ held → cond (nat_le size held) x others ≡ x
here size held x others fits = cond-true _ x others (le-leb size held fits)

past : (size held x others : ℕ) → held < size → cond (nat_le size held) x others ≡ others
past size held x others small = cond-false _ x others (lt-leb size held small)

-- the first that holds them is the least
pub first_class : (size class : ℕ) → class < 7 → NoneBelow size class → size ≤ class_length class → class_of size ≡ class
first_class size zero lt below fits =
    here size 256 0 _ fits
first_class size (suc zero) lt below fits =
    past size 256 0 _ (below 0 (omega arith))
    ∙ here size 1024 1 _ fits
first_class size (suc (suc zero)) lt below fits =
    past size 256 0 _ (below 0 (omega arith))
    ∙ past size 1024 1 _ (below 1 (omega arith))
    ∙ here size 4096 2 _ fits
first_class size (suc (suc (suc zero))) lt below fits =
    past size 256 0 _ (below 0 (omega arith))
    ∙ past size 1024 1 _ (below 1 (omega arith))
    ∙ past size 4096 2 _ (below 2 (omega arith))
    ∙ here size 16384 3 _ fits
first_class size (suc (suc (suc (suc zero)))) lt below fits =
    past size 256 0 _ (below 0 (omega arith))
    ∙ past size 1024 1 _ (below 1 (omega arith))
    ∙ past size 4096 2 _ (below 2 (omega arith))
    ∙ past size 16384 3 _ (below 3 (omega arith))
    ∙ here size 65536 4 _ fits
first_class size (suc (suc (suc (suc (suc zero))))) lt below fits =
    past size 256 0 _ (below 0 (omega arith))
    ∙ past size 1024 1 _ (below 1 (omega arith))
    ∙ past size 4096 2 _ (below 2 (omega arith))
    ∙ past size 16384 3 _ (below 3 (omega arith))
    ∙ past size 65536 4 _ (below 4 (omega arith))
    ∙ here size 262144 5 _ fits
first_class size (suc (suc (suc (suc (suc (suc zero)))))) lt below fits =
    past size 256 0 _ (below 0 (omega arith))
    ∙ past size 1024 1 _ (below 1 (omega arith))
    ∙ past size 4096 2 _ (below 2 (omega arith))
    ∙ past size 16384 3 _ (below 3 (omega arith))
    ∙ past size 65536 4 _ (below 4 (omega arith))
    ∙ past size 262144 5 _ (below 5 (omega arith))
    ∙ here size 1048576 6 _ fits
first_class size (suc (suc (suc (suc (suc (suc (suc c))))))) lt below fits = absurd (omega arith)
