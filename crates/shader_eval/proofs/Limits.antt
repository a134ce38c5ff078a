-- The ids of a dispatch are small.
use Rattle.std.proofs.Common.{◌≡◌, ◌≤◌, ◌<◌, ℕ, zero, suc, ◌&&◌, true, nat_le, List, sym, subst, arith}
use Rattle.std.specs.Prelude.{slice_index, ◌+◌, ◌*◌}
use Rattle.std.proofs.lemmas.Bool.Decides.{nat_tests}
use Rattle.shader_model.specs.declared.ids.Ids.{Ids}
use Rattle.shader_model.specs.Dispatch.{volume}
use Rattle.shader_model.specs.Faults.{is_group, is_size}
use Rattle.shader_model.specs.PlacesLeft.{IsBelow}
use Rattle.shader_eval.specs.Threads.{AllBelow, IsThread}

three_sizes : (x y z : ℕ) → is_size 1024 x && is_size 1024 y && is_size 64 z && nat_le (x * y * z) 1024 ≡ true → (x < 1025) × (y < 1025) × (z < 1025)
three_sizes x y z h = (grind (arith, nat_tests), grind (arith, nat_tests), grind (arith, nat_tests))

size_below : (sizes : List ℕ) → is_group sizes ≡ true → AllBelow 1025 sizes
size_below sizes h zero lt = (three_sizes (slice_index sizes 0) (slice_index sizes 1) (slice_index sizes 2) h).0
size_below sizes h (suc zero) lt = (three_sizes (slice_index sizes 0) (slice_index sizes 1) (slice_index sizes 2) h).1
size_below sizes h (suc (suc zero)) lt = (three_sizes (slice_index sizes 0) (slice_index sizes 1) (slice_index sizes 2) h).2
size_below sizes h (suc (suc (suc c))) lt = absurd (omega arith)

-- the ids of an invocation of a shader whose group is in its limits
pub is_thread : (ids : Ids) (group : List ℕ) → is_group group ≡ true → ids.size ≡ group → IsBelow ids.thread ids.size → AllBelow 65535 ids.group → IsThread ids
is_thread ids group h e below groups =
    let size : AllBelow 1025 ids.size = subst (AllBelow 1025) (sym e) (size_below group h) in
    record {
      size = size;
      thread = λ c lt. (let a = below c lt in let b = size c lt in omega arith);
      group = groups;
    }

product_below : (a b m n : ℕ) → a ≤ m → b ≤ n → a * b ≤ m * n
product_below a b m n h k = grind arith

-- the place of a thread in its group, counted through all, is small
pub place_below : (w h y z : ℕ) → w < 1025 → h < 1025 → y < 1024 → z < 1024 → w * (y + h * z) ≤ 1074790400
place_below w h y z lw lh ly lz =
    let rows : h * z ≤ 1024 * 1024 = product_below h z 1024 1024 (omega arith) (omega arith) in
    product_below w (y + h * z) 1024 1049600 (omega arith) (omega arith)

small_product : (x y z : ℕ) → is_size 1024 x && is_size 1024 y && is_size 64 z && nat_le (x * y * z) 1024 ≡ true → x * y * z ≤ 1024
small_product x y z h = grind (arith, nat_tests)

-- a group has at most 1,024 threads
pub group_volume : (sizes : List ℕ) → is_group sizes ≡ true → volume sizes ≤ 1024
group_volume sizes h = small_product (slice_index sizes 0) (slice_index sizes 1) (slice_index sizes 2) h
