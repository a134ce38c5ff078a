-- Buffers that are all short are short where a look-up finds them.
use Rattle.std.proofs.Common.{◌≡◌, ℕ, ◌≤◌, Bool, true, false, ◌&&◌, cond, List, [], ◌∷◌, map, length, Option, Some, refl, arith}
use Rattle.std.specs.Prelude.{nat_le}
use Rattle.std.specs.Global.{Vec}
use Rattle.std.specs.List.{list_all}
use Rattle.std.specs.Option.{option_map}
use Rattle.std.specs.Map.{lookup}
use Rattle.std.proofs.lemmas.Bool.{leb-true}
use Rattle.d3d_model.specs.D3dState.{bytes_if}
use Rattle.d3d_memory.proofs.Kept.{items_of}

first_true : (a b : Bool) → a && b ≡ true → a ≡ true
first_true true b e = refl
first_true false b e = e

second_true : (a b : Bool) → a && b ≡ true → b ≡ true
second_true true b e = e
second_true false b e = absurd cc

by_key : (b : Bool) (v : Vec ℕ) (o : Option (Vec ℕ)) → v.len ≤ 16777216 → length (bytes_if (option_map items_of o)) ≤ 16777216
    → length (bytes_if (option_map items_of (cond b (Some v) o))) ≤ 16777216
by_key true v o h k = omega (arith, h, v.ok.0)
by_key false v o h k = k

pub short_lookup : (test : ℕ → Bool) (es : List (ℕ × Vec ℕ)) → list_all (λ (v : Vec ℕ). nat_le v.len 16777216) (map (λ e. e.1) es) ≡ true
    → length (bytes_if (option_map items_of (lookup test es))) ≤ 16777216
short_lookup test [] e = omega arith
short_lookup test (x ∷ es) e =
    by_key (test x.0) x.1 (lookup test es) (leb-true x.1.len 16777216 (first_true (nat_le x.1.len 16777216) _ e)) (short_lookup test es (second_true (nat_le x.1.len 16777216) _ e))
