-- Blocks that may be taken, and the fence before one is.
use Rattle.std.proofs.Common.{◌≡◌, ℕ, suc, ◌+◌, ◌*◌, ◌<◌, ◌≤◌, max, List, [], ◌∷◌}
use Rattle.std.proofs.Common.{◌++◌, refl, sym, ◌∙◌, subst, Some, None, slice_get, arith}
use Rattle.vk_types.specs.declared.op.VkOp.{VkOp}
use Rattle.vk_types.specs.Effects.{Meaning}
use Rattle.core_model.specs.Script.{Script}
use Rattle.core_model.specs.CoreState.{Owner, Unmade, Home, Returning, Spare, Live, Retired, Paged, Dropped}
use Rattle.core_model.specs.CoreState.{Board, Pool, Core, finished_count, open_number}
use Rattle.core_model.specs.Readings.{Reading}
use Rattle.core_model.specs.Placing.{BlockChoice, Takes, From_home, New_made}
use Rattle.core_model.specs.Adding.{retired_by}
use Rattle.core_model.specs.Playing.{HasBlock, Own, Of_class}
use Rattle.core_model.specs.Listed.{IsListed, IsCounted}
use Rattle.core_model.specs.Lawful.{ClassFits}
use Rattle.core_model.specs.Invariant.{Allows, IsSince, IsLive, Good, listed_acts}
use Rattle.core_model.specs.Kept.{IsOfBuffer, PlacesRight}
use Rattle.core_model.proofs.Listing.CoreListing.{fence_listed, fence_counted}
use Rattle.vk_types.specs.declared.op.VkOp.TheVariants as op

-- Blocks that may be taken ------------------------------------------------------------------------------------------

-- not made, or at home
abbrev pub IsVacant : Owner → Type 0
IsVacant Unmade = Unit {0}
IsVacant (Home k) = Unit {0}
IsVacant (Returning k) = ⊥
IsVacant Spare = ⊥
IsVacant (Live buffer since bound) = ⊥
IsVacant (Retired k since bound) = ⊥
IsVacant (Paged k since bound) = ⊥
IsVacant Dropped = ⊥

-- chunks up to the one that retired it may have touched it
pub vacant_allows : (t f i chunk : ℕ) (o : Owner) → IsVacant o → Allows t f o i chunk → chunk ≤ retired_by o
vacant_allows t f i chunk Unmade v a = absurd a
vacant_allows t f i chunk (Home k) v a = a
vacant_allows t f i chunk (Returning k) v a = absurd v
vacant_allows t f i chunk Spare v a = absurd v
vacant_allows t f i chunk (Live buffer since bound) v a = absurd v
vacant_allows t f i chunk (Retired k since bound) v a = absurd v
vacant_allows t f i chunk (Paged k since bound) v a = absurd v
vacant_allows t f i chunk Dropped v a = absurd v

-- and that one is finished
pub vacant_since : (f : ℕ) (o : Owner) → IsVacant o → IsSince f o → retired_by o ≤ f
vacant_since f Unmade v s = omega arith
vacant_since f (Home k) v s = s
vacant_since f (Returning k) v s = absurd v
vacant_since f Spare v s = absurd v
vacant_since f (Live buffer since bound) v s = absurd v
vacant_since f (Retired k since bound) v s = absurd v
vacant_since f (Paged k since bound) v s = absurd v
vacant_since f Dropped v s = absurd v

pub vacant_lives : (r : ℕ) (o : Owner) → IsVacant o → IsLive r o → ⊥
vacant_lives r Unmade v l = l
vacant_lives r (Home k) v l = l
vacant_lives r (Returning k) v l = v
vacant_lives r Spare v l = v
vacant_lives r (Live buffer since bound) v l = v
vacant_lives r (Retired k since bound) v l = v
vacant_lives r (Paged k since bound) v l = v
vacant_lives r Dropped v l = v

pub vacant_buffer : (o : Owner) → IsVacant o → IsOfBuffer o → ⊥
vacant_buffer Unmade v l = l
vacant_buffer (Home k) v l = l
vacant_buffer (Returning k) v l = v
vacant_buffer Spare v l = v
vacant_buffer (Live buffer since bound) v l = v
vacant_buffer (Retired k since bound) v l = v
vacant_buffer (Paged k since bound) v l = v
vacant_buffer Dropped v l = v

-- what is at home and what is not made yet, as the owners have it
pub record Stocked (board : Board) (pool : Pool) (owner : ℕ → Owner) : Type 0 where
  pub home : (class place b : ℕ) → slice_get (board.places class) place ≡ Some (Some b) → (n : ℕ) × (owner b ≡ Home n)
  pub unmade : (class k : ℕ) → class < 8 → board.made class ≤ k → k < 64 → owner (class * 64 + k) ≡ Unmade
  pub fresh : owner pool.next ≡ Unmade

pub stocked : (core : Core) → PlacesRight core.board core.pool core.owner core.fence
    → Stocked core.board core.pool core.owner
stocked core p = record {
  home = λ class place b h. let x = p.home class place b h in (x.2, x.3);
  unmade = p.unmade;
  fresh = p.fresh core.pool.next (omega arith);
}

pub taken_vacant : (choice : BlockChoice) (class block : ℕ) (board after : Board) (pool : Pool) (owner : ℕ → Owner)
    → Takes choice class block board after → Stocked board pool owner → class < 8
    → IsVacant (owner block)
taken_vacant choice class block board after pool owner (From_home _ _ place _ e) s l =
    subst IsVacant (sym (s.home class place block e).1) tt
taken_vacant choice class block board after pool owner (New_made _ _ less) s l =
    subst IsVacant (sym (s.unmade class (board.made class) l (omega arith) less)) tt

pub vacant : (reading : Reading) (script : Script) (buffer block : ℕ) (core mid : Core)
    → HasBlock reading script buffer block core mid → ((r : ℕ) → ClassFits script r (script.class r))
    → Stocked core.board core.pool core.owner → IsVacant (core.owner block)
vacant reading script buffer block core mid (Own _ _ _ _ is) classes s = subst IsVacant (sym s.fresh) tt
vacant reading script buffer block core mid (Of_class _ _ _ class _ _ board is t) classes s =
    taken_vacant t.0 class block core.board board core.pool core.owner t.1 s
    (let z : ClassFits script buffer (Some class) = subst (ClassFits script buffer) is (classes buffer) in z).0

pub own_unmade : (reading : Reading) (script : Script) (buffer block : ℕ) (core mid : Core)
    → HasBlock reading script buffer block core mid → script.class buffer ≡ None
    → Stocked core.board core.pool core.owner → core.owner block ≡ Unmade
own_unmade reading script buffer block core mid (Own _ _ _ _ is) none s = s.fresh
own_unmade reading script buffer block core mid (Of_class _ _ _ class _ _ board is t) none s =
    absurd (let z : Some class ≡ None = sym is ∙ none in cc z)

pub has_parts : (reading : Reading) (script : Script) (buffer block : ℕ) (core mid : Core)
    → HasBlock reading script buffer block core mid
    → (board : Board) × (pool : Pool) × (mid ≡ record core { board = board; pool = pool })
has_parts reading script buffer block core mid (Own _ _ _ _ is) =
    (core.board, record core.pool { next = suc core.pool.next }, refl)
has_parts reading script buffer block core mid (Of_class _ _ _ class _ _ board is t) = (board, core.pool, refl)

-- a listing with a fence before the host write, where it needs one
pub record Fenced (core : Core) (listing : List VkOp) (fence : ℕ) : Type 0 where
  pub listed : IsListed core.is_staging listing core.open_chunk.ops core.contents core.recent
      core.open_chunk.commands (open_number core) (listed_acts core)
  pub counted : IsCounted listing core.open_chunk.ops fence core.host_acts core.epoch
  pub below : fence ≤ finished_count core
  pub from : core.fence ≤ fence

pub same_fence : (meaning : Meaning) (reading : Reading) (script : Script) (core : Core)
    → Good meaning reading script core → Fenced core core.listing core.fence
same_fence meaning reading script core g = record {
  listed = g.sound.grows;
  counted = g.sound.counted;
  below =
      g.sound.fence;
  from = omega arith;
}

pub more_fence : (meaning : Meaning) (reading : Reading) (script : Script) (core : Core)
    → Good meaning reading script core → (k : ℕ) → k ≤ finished_count core
    → Fenced core (core.listing ++ op.Fence k ∷ []) (max core.fence k)
more_fence meaning reading script core g k l = record {
  listed = fence_listed core.is_staging core.listing core.open_chunk.ops core.contents core.recent
      core.open_chunk.commands (open_number core) (listed_acts core) g.sound.grows k (omega (arith, l));
  counted = fence_counted k core.listing core.open_chunk.ops core.fence core.host_acts core.epoch g.sound.counted;
  below = let b = g.sound.fence in omega (arith, b, l);
  from = omega arith;
}
