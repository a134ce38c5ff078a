-- App takes posts.
use Rattle.std.specs.Prelude.{◌≡◌, ℕ, zero, suc, max, List, [], ◌∷◌, ◌++◌, Option, Some, None}
use Rattle.vk_types.specs.declared.message.QueryValue.{QueryValue}
use Rattle.core_model.specs.Script.{updated}
use Rattle.core_model.specs.CoreState.{Message, Core, taken_count}
use Rattle.core_model.specs.Owners.{return_owner}
use Rattle.vk_types.specs.declared.op.VkOp.TheVariants as op

abbrev pub newest_copy : Option (ℕ → ℕ) → (ℕ → ℕ) → ℕ → ℕ
newest_copy None bytes = bytes
newest_copy (Some newer) bytes = newer

abbrev pub newest_values : List QueryValue → (ℕ → ℕ) → ℕ → ℕ
newest_values [] values = values
newest_values (v ∷ vs) values = newest_values vs (updated v.query v.value values)

abbrev pub with_post : Message → List Message → Core → Core
with_post m ms old = record old {
  taken = old.taken ++ m.segment ∷ [];
  posts = ms;
  copies = λ b. newest_copy (m.snaps b) (old.copies b);
  values = newest_values m.values old.values;
  owner = λ b. return_owner (suc (taken_count old)) (old.owner b);
  pool = record old.pool { spare = old.pool.spare ++ m.segment.pages };
}

-- the next n posts are taken, one after another
abbrev pub TakesPosts : ℕ → Core → Core → Type 0
TakesPosts zero old new = new ≡ old
TakesPosts (suc n) old new = (m : Message) × (ms : List Message) × (old.posts ≡ m ∷ ms)
    × TakesPosts n (with_post m ms old) new

-- a fence of the newest post stands in the listing, if one was taken
abbrev pub with_fence : ℕ → Core → Core
with_fence zero core = core
with_fence (suc n) core = record core {
  listing = core.listing ++ op.Fence (taken_count core) ∷ [];
  fence =
      max core.fence (taken_count core);
}
