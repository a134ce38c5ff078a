-- Blocks that are alike have the same parts.
use Rattle.std.proofs.Common.{◌≡◌, ℕ, Bool, true, false, cond, List, [], ◌∷◌, length, map, Option, Some, sym, ap, subst, arith}
use Rattle.std.specs.List.{AllByRecursion}
use Rattle.std.specs.Ordering.{nat_cmp}
use Rattle.std.specs.BTreeMap.{is_at}
use Rattle.buffer_blocks.specs.declared.block.Block.{Block}
use Rattle.buffer_blocks.specs.Block.{bytes_of}
use Rattle.vk_types.specs.declared.message.HostPart.{HostPart}
use Rattle.device_memory.specs.Held.{AreAlike, HasPart, Held, Outline, outline, block_of}
use Rattle.vk_device.specs.Accepting.{CanWrite}

abbrev PartsStay : Option Block → Option Block → Type 0
PartsStay o p = (from to : ℕ) → HasPart o from to → HasPart p from to

head_same : (x y : Outline) (xs ys : List Outline) → x ∷ xs ≡ y ∷ ys → x ≡ y
head_same x y xs ys e = cc e

tail_same : (x y : Outline) (xs ys : List Outline) → x ∷ xs ≡ y ∷ ys → xs ≡ ys
tail_same x y xs ys e = cc e

none_some : (y : Outline) (ys : List Outline) → [] ≡ y ∷ ys → ⊥
none_some y ys e = cc e

one_part : (a b : Block) → length (bytes_of a) ≡ length (bytes_of b) → PartsStay (Some a) (Some b)
one_part a b e from to h = (h.0, omega (arith, e, h.1))

pub parts_stay : (xs ys : Held) → map outline xs ≡ map outline ys → (n : ℕ) → PartsStay (block_of xs n) (block_of ys n)
parts_stay [] [] e n = λ from to h. h
parts_stay [] (y ∷ ys) e n = absurd (none_some (outline y) (map outline ys) e)
parts_stay (x ∷ xs) [] e n = absurd (none_some (outline x) (map outline xs) (sym e))
parts_stay (x ∷ xs) (y ∷ ys) e n =
    let first = head_same (outline x) (outline y) (map outline xs) (map outline ys) e in
    let key : x.0 ≡ y.0 = ap (λ (o : Outline). o.key) first in
    let size : length (bytes_of x.1) ≡ length (bytes_of y.1) = ap (λ (o : Outline). o.size) first in
    let later : PartsStay (block_of xs n) (block_of ys n) = parts_stay xs ys (tail_same (outline x) (outline y) (map outline xs) (map outline ys) e) n in
    let here : PartsStay (Some x.1) (Some y.1) = one_part x.1 y.1 size in
    subst (λ k. PartsStay (block_of (x ∷ xs) n) (cond (is_at (nat_cmp n) k) (Some y.1) (block_of ys n))) key
    (both (is_at (nat_cmp n) x.0) here later)
  where
    both : (b : Bool) → PartsStay (Some x.1) (Some y.1) → PartsStay (block_of xs n) (block_of ys n)
        → PartsStay (cond b (Some x.1) (block_of xs n)) (cond b (Some y.1) (block_of ys n))
    both true here later = here
    both false here later = later

pub can_write_still : (log : List ℕ) (xs ys : Held) → AreAlike xs ys → (hs : List HostPart) → AllByRecursion (CanWrite log (block_of xs)) hs → AllByRecursion (CanWrite log (block_of ys)) hs
can_write_still log xs ys alike [] all = tt
can_write_still log xs ys alike (h ∷ hs) all =
    ((parts_stay xs ys alike h.range.block h.range.from h.range.to all.0.0, all.0.1), can_write_still log xs ys alike hs all.1)
