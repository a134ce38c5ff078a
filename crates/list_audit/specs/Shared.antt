-- Which bytes two acts share.
use Rattle.std.specs.Prelude.{◌≡◌, ℕ, ◌<◌, ◌||◌, max, min, true, cond, List, [], ◌∷◌, Option, None, Some}
use Rattle.dx_types.specs.declared.range.Range.{Range}
use Rattle.vk_types.specs.declared.touch.Touch.{Touch}
use Rattle.vk_types.specs.declared.op.VkOp.{VkOp}
use Rattle.base_lemmas.specs.Lists.{first_some}
use Rattle.vk_types.specs.Memory.{range, covers}
use Rattle.vk_types.specs.Hazards.{touches_conflict, is_touched, is_written}
use Rattle.vk_types.specs.Listing.{touches_at}

-- the bytes that two ranges of one block share
abbrev pub overlap : Range → Range → Range
overlap r s = range r.block (max r.from s.from) (min r.to s.to)

-- the bytes that a touch shares with the first of these that it conflicts with
abbrev pub shared_with : Touch → List Touch → Option Range
shared_with t [] = None
shared_with t (u ∷ us) = cond (touches_conflict t u) (Some (overlap t.range u.range)) (shared_with t us)

-- the bytes that the first touches that conflict share: the first by the first list, and then by the second
abbrev pub shared_bytes : List Touch → List Touch → Option Range
shared_bytes [] us = None
shared_bytes (t ∷ ts) us = first_some (shared_with t us) (shared_bytes ts us)

-- there are such bytes, each is touched by the acts at both places, and written by one of them
pub record ShareBytes (ops : List VkOp) (first second : ℕ) (r : Range) : Type 0 where
  pub some : r.from < r.to
  pub by_first : (at : ℕ) → covers r r.block at ≡ true → is_touched (touches_at ops first) r.block at ≡ true
  pub by_second : (at : ℕ) → covers r r.block at ≡ true → is_touched (touches_at ops second) r.block at ≡ true
  pub written : (at : ℕ) → covers r r.block at ≡ true → is_written (touches_at ops first) r.block at || is_written (touches_at ops second) r.block at ≡ true
