-- An item is played: the block that it needs, and all that it adds.
use Rattle.std.specs.Prelude.{◌≡◌, ℕ, suc, ◌+◌, List, [], ◌∷◌, ◌++◌, length, map, Some, None}
use Rattle.dx_types.specs.declared.range.Range.{Range}
use Rattle.vk_types.specs.Memory.{range, number_at}
use Rattle.core_model.specs.Script.{Play, Create, Discard, No_overwrite, Stage, Command, Destroy, Create_shader}
use Rattle.core_model.specs.Script.{Mark_query, Set_state, Script, updated, padded}
use Rattle.core_model.specs.Renaming.{block_of, range_on, work_on, cond_on}
use Rattle.core_model.specs.CoreState.{Board, Pool, Core, open_number}
use Rattle.core_model.specs.Readings.{Reading}
use Rattle.core_model.specs.Owners.{retired}
use Rattle.core_model.specs.Placing.{TakesBlock, Staged, StagesBytes}
use Rattle.core_model.specs.Adding.{with_write, fenced, plays_command, with_placed, placed_at, with_bound}
use Rattle.core_model.specs.Adding.{with_staging, without_block, gives_block, with_page, staged_range, staged_command}
use Rattle.core_model.specs.Adding.{length_of, retired_by}
use Rattle.vk_types.specs.declared.op.VkOp.TheVariants as op

-- how a buffer's block is had: one of its own, or one of its class. In the core that is stepped the chunk that
-- retired it is never above the posts taken, so that the fence before its host write comes in threads alone
pub data HasBlock : Reading → Script → ℕ → ℕ → Core → Core → Type 0 where
  Own : (reading : Reading) (script : Script) (buffer : ℕ) (old : Core) → (script.class buffer ≡ None)
      → HasBlock reading script buffer old.pool.next old (record old {
        pool =
            record old.pool { next = suc old.pool.next };
      })
  Of_class : (reading : Reading) (script : Script) (buffer class block : ℕ) (old : Core) (board : Board)
      → (script.class buffer ≡ Some class) → TakesBlock reading class block old.board board
      → HasBlock reading script buffer block old (record old { board = board })

-- An item is played: the state that it leaves, with its turn already taken
abbrev pub Plays : Reading → Script → ℕ → ℕ → Play → List Range → Core → Core → Type 0
Plays reading script call item (Create buffer bytes) bound old new =
    (block : ℕ) × (mid : Core) × HasBlock reading script buffer block old mid
    × (new ≡ with_placed (placed_at call item (Some block) None None)
    (record (with_write call (range block 0 (length_of script buffer)) (padded 0 bytes (length_of script buffer))
    (gives_block buffer block (fenced (retired_by (old.owner block)) mid))) {
      copies = updated block (number_at bytes) mid.copies;
      is_staging =
          updated block (script.is_staging buffer) mid.is_staging;
    }))
Plays reading script call item (Discard buffer from bytes) bound old new =
    (block : ℕ) × (mid : Core) × HasBlock reading script buffer block old mid
    × (new ≡ with_placed (placed_at call item (Some block) (old.blocks buffer) None)
    (with_write call (range block 0 (script.size buffer)) (padded from bytes (script.size buffer))
    (gives_block buffer block (fenced (retired_by (old.owner block))
    (record mid { owner = retired (old.blocks buffer) (open_number old) mid.owner })))))
Plays reading script call item (No_overwrite buffer from bytes) bound old new =
    new ≡ with_placed (placed_at call item None None None)
    (with_write call (range (block_of old.blocks buffer) from (from + length bytes)) bytes old)
Plays reading script call item (Stage [] target skip) bound old new =
    new ≡ with_placed (placed_at call item None None None) old
Plays reading script call item (Stage (b ∷ bs) target skip) bound old new =
    (s : Staged) × (pool : Pool) × StagesBytes reading (length (b ∷ bs)) s old.pool pool
    × (new ≡ with_placed (placed_at call item None None (Some (staged_range s (length (b ∷ bs)))))
    (with_staging script bound
    (with_bound (staged_range s (length (b ∷ bs)) ∷ map (range_on old.blocks) bound)
    (staged_command call (staged_range s (length (b ∷ bs))) target skip
    (with_write call (staged_range s (length (b ∷ bs))) (b ∷ bs) (with_page s pool old))))))
Plays reading script call item (Command w skip) bound old new =
    new ≡ with_placed (placed_at call item None None None)
    (with_staging script bound (with_bound (map (range_on old.blocks) bound)
    (plays_command call (work_on old.blocks w) (cond_on old.blocks skip) old)))
Plays reading script call item (Destroy buffer) bound old new =
    new ≡ with_placed (placed_at call item None (old.blocks buffer) None)
    (record old {
      blocks = updated buffer None old.blocks;
      owner = retired (old.blocks buffer) (open_number old) old.owner;
      open_chunk = record old.open_chunk { staging = without_block (old.blocks buffer) old.open_chunk.staging };
    })
Plays reading script call item Create_shader bound old new =
    new ≡ with_placed (placed_at call item None None None) (record old {
      listing =
          old.listing ++ op.Pipeline call ∷ [];
    })
Plays reading script call item (Mark_query query begins) bound old new =
    new ≡ with_placed (placed_at call item None None None)
    (record old {
      open_chunk = record old.open_chunk {
        queries =
            old.open_chunk.queries ++ record { call = call; query = query; begins = begins; before = suc old.commands }
            ∷ [];
      };
    })
Plays reading script call item Set_state bound old new =
    new ≡ with_placed (placed_at call item None None None) (with_staging script bound
    (with_bound (map (range_on old.blocks) bound) old))
