-- The chunks on their way: what the recorder keeps of each that it handed over, until it takes that chunk's Post.
use Rattle.std.specs.Prelude.{◌≡◌, ℕ, suc, ◌+◌, ◌-◌, Bool, true, cond, ◌&&◌, ◌||◌, ◌==◌, nat_lt, List, [], ◌∷◌}
use Rattle.std.specs.Prelude.{◌++◌, length, map}
use Rattle.std.specs.Prelude.{Option, None, slice_get}
use Rattle.std.specs.List.{list_any, list_all}
use Rattle.vk_types.specs.declared.message.Placed.{Placed}
use Rattle.vk_types.specs.declared.message.Post.{Post}
use Rattle.core_model.specs.OtherParts.{is_among}
use Rattle.immediate_ctx.specs.declared.flight.Sent.{Sent}

-- of a chunk that was handed over: its last call, where its items stand, and the blocks of staging buffers that it
-- uses, and among
-- them those that it names, since it does not destroy them
pub record OnItsWay : Type 0 where
  pub upto : ℕ
  pub placed : List Placed
  pub used : List ℕ
  pub named : List ℕ

abbrev pub view_of : Sent → OnItsWay
view_of s = record { upto = s.upto; placed = s.placed.items; used = s.used.items; named = s.named.items }

-- how many Posts were taken, the last call that the last of them finished, and the chunks whose Posts were not taken
pub record OnTheirWay : Type 0 where
  pub taken : ℕ
  pub done : ℕ
  pub kept : List OnItsWay

-- some of these chunks uses the block
abbrev pub uses_block : List OnItsWay → ℕ → Bool
uses_block cs b = list_any (λ c. is_among b c.used) cs

-- the Post has a copy of the block
abbrev pub is_snapped : Post → ℕ → Bool
is_snapped p b = list_any (λ s. s.block == b) p.snaps.items

-- the Post is that of this chunk: it has its number and its places, and a copy of each staging buffer that the
-- chunk uses and does
-- not destroy, and that no later chunk uses
pub record IsPostOf (number : ℕ) (c : OnItsWay) (later : List OnItsWay) (p : Post) : Type 0 where
  pub next : p.number ≡ number
  pub same : p.placed.items ≡ c.placed
  pub copied : list_all (λ b. uses_block later b || is_snapped p b) c.named ≡ true

-- the Post is that of the first of these chunks
abbrev pub IsPostOfFirst : ℕ → List OnItsWay → Post → Type 0
IsPostOfFirst number [] p = ⊥
IsPostOfFirst number (c ∷ later) p = IsPostOf number c later p

abbrev pub Fits : OnTheirWay → Post → Type 0
Fits f p = IsPostOfFirst (suc f.taken) f.kept p

-- the number of the open chunk, which is the next to be handed over
abbrev pub open_number : OnTheirWay → ℕ
open_number f = suc (f.taken + length f.kept)

-- the last call of chunk k, which is on its way
abbrev pub upto_of : OnTheirWay → ℕ → Option ℕ
upto_of f k = slice_get (map (λ c. c.upto) f.kept) (k - suc f.taken)

-- where the open chunk's number k is above 32, and no Post of k - 32 or more was taken, it waits for the last call
-- of chunk k - 32
abbrev pub awaited : OnTheirWay → Option ℕ
awaited f = cond (nat_lt 32 (open_number f) && nat_lt f.taken (open_number f - 32)) (upto_of f (open_number f - 32))
    None

-- the last call of the last of these chunks, or of what came before them
abbrev pub last_of : ℕ → List OnItsWay → ℕ
last_of done [] = done
last_of done (c ∷ cs) = last_of c.upto cs

-- the last call of the chunk that was handed over last
abbrev pub last_upto : OnTheirWay → ℕ
last_upto f = last_of f.done f.kept

-- one more chunk was handed over
abbrev pub with_sent : OnItsWay → OnTheirWay → OnTheirWay
with_sent c f = record f { kept = f.kept ++ c ∷ [] }

-- the Post of the first chunk was taken
pub record TakesFirst (old new : OnTheirWay) : Type 0 where
  pub first : OnItsWay
  pub later : List OnItsWay
  pub kept : old.kept ≡ first ∷ later
  pub taken : new ≡ record { taken = suc old.taken; done = first.upto; kept = later }
