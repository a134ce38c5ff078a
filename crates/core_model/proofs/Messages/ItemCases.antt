-- Each item, by what it makes of a state.
use Rattle.std.proofs.Common.{◌≡◌, ℕ, suc, ◌+◌, List, [], ◌∷◌, ◌++◌, map, length, refl, ap, ◌∙◌, Option, Some, None}
use Rattle.std.proofs.Common.{arith}
use Rattle.dx_types.specs.declared.range.Range.{Range}
use Rattle.vk_types.specs.declared.command.Cond.{Cond}
use Rattle.vk_types.specs.declared.command.Work.TheVariants as work
use Rattle.vk_types.specs.declared.op.VkOp.{VkOp}
use Rattle.vk_types.specs.declared.op.VkOp.TheVariants as op
use Rattle.vk_types.specs.Memory.{range, number_at}
use Rattle.core_model.specs.Script.{Play, Create, Discard, No_overwrite, Stage, Command, Destroy, Create_shader}
use Rattle.core_model.specs.Script.{Mark_query, Set_state, Script, updated, padded}
use Rattle.core_model.specs.Renaming.{block_of, range_on, work_on, cond_on}
use Rattle.core_model.specs.CoreState.{Live, Pool, Core, open_number}
use Rattle.core_model.specs.Readings.{Reading}
use Rattle.core_model.specs.Owners.{nothing_bound, bind_owner, retired}
use Rattle.core_model.specs.Placing.{Staged}
use Rattle.core_model.specs.Adding.{with_write, fenced, gives_block, with_placed, placed_at, staged_range, length_of}
use Rattle.core_model.specs.Adding.{retired_by, page_owner, add_staging, without_block, staged_command, with_bound}
use Rattle.core_model.specs.Adding.{with_staging, with_page}
use Rattle.core_model.specs.Playing.{HasBlock, Plays}
use Rattle.core_model.proofs.Messages.ItemResults.{Result, applied, only_placed, more_writes, commanded, with_written}
use Rattle.core_model.proofs.Messages.ItemResults.{write_parts, fence_parts, block_parts, Placement, Nowhere}
use Rattle.core_model.proofs.Messages.ItemResults.{Bound_alone, Taken_new, Taken_for, Given_up, Staged_there}

-- a buffer takes a block, and the host writes it
module _ (reading : Reading) (script : Script) (call item buffer block : ℕ) (old mid : Core)
    (has : HasBlock reading script buffer block old mid) where
  abbrev pub on_board : Core
  on_board = record old { board = mid.board; pool = mid.pool }

  abbrev pub retired_at : ℕ
  retired_at = retired_by (old.owner block)

  -- a created buffer's
  module _ (bytes : List ℕ) where
    abbrev fence_c : (listing : List VkOp) × (fence : ℕ)
        × (fenced retired_at on_board ≡ record on_board { listing = listing; fence = fence })
    fence_c = fence_parts retired_at on_board

    abbrev pub given_c : Core
    given_c = gives_block buffer block (record on_board { listing = fence_c.0; fence = fence_c.1 })

    abbrev pub range_c : Range
    range_c = range block 0 (length_of script buffer)

    abbrev pub bytes_c : List ℕ
    bytes_c = padded 0 bytes (length_of script buffer)

    abbrev written_c : (listing : List VkOp) × (contents : List (List ℕ)) × (acts : ℕ)
        × (with_write call range_c bytes_c given_c ≡ with_written
        (more_writes range_c bytes_c given_c given_c.open_chunk.writes) listing contents acts given_c)
    written_c = write_parts call range_c bytes_c given_c

    abbrev pub created_result : Result
    created_result = record (only_placed (placed_at call item (Some block) None None) old) {
      writes = more_writes range_c bytes_c given_c old.open_chunk.writes;
      blocks = updated buffer (Some block) old.blocks;
      owner = updated block (Live buffer fence_c.1 nothing_bound) old.owner;
      board = mid.board;
      pool = mid.pool;
      is_staging = updated block (script.is_staging buffer) old.is_staging;
      listing = written_c.0;
      contents = written_c.1;
      fence = fence_c.1;
      host_acts = written_c.2;
      copies = updated block (number_at bytes) old.copies;
    }

    abbrev around : Core → Core → Core
    around m c = with_placed (placed_at call item (Some block) None None)
        (record c {
          copies = updated block (number_at bytes) m.copies;
          is_staging =
              updated block (script.is_staging buffer) m.is_staging;
        })

    pub created_is : around mid (with_write call range_c bytes_c (gives_block buffer block (fenced retired_at mid)))
        ≡ applied created_result old
    created_is =
        ap (λ m. around m (with_write call range_c bytes_c (gives_block buffer block (fenced retired_at m))))
        (block_parts reading script buffer block old mid has)
        ∙ ap (λ c. around on_board (with_write call range_c bytes_c (gives_block buffer block c))) fence_c.2
        ∙ ap (around on_board) written_c.3

  -- a discarded buffer's
  module _ (from : ℕ) (bytes : List ℕ) where
    abbrev pub out_of : Core → Core
    out_of m = record m { owner = retired (old.blocks buffer) (open_number old) m.owner }

    abbrev fence_d : (listing : List VkOp) × (fence : ℕ)
        × (fenced retired_at (out_of on_board) ≡ record (out_of on_board) { listing = listing; fence = fence })
    fence_d = fence_parts retired_at (out_of on_board)

    abbrev pub given_d : Core
    given_d = gives_block buffer block (record (out_of on_board) { listing = fence_d.0; fence = fence_d.1 })

    abbrev pub range_d : Range
    range_d = range block 0 (script.size buffer)

    abbrev pub bytes_d : List ℕ
    bytes_d = padded from bytes (script.size buffer)

    abbrev written_d : (listing : List VkOp) × (contents : List (List ℕ)) × (acts : ℕ)
        × (with_write call range_d bytes_d given_d ≡ with_written
        (more_writes range_d bytes_d given_d given_d.open_chunk.writes) listing contents acts given_d)
    written_d = write_parts call range_d bytes_d given_d

    abbrev pub discarded_result : Result
    discarded_result = record (only_placed (placed_at call item (Some block) (old.blocks buffer) None) old) {
      writes = more_writes range_d bytes_d given_d old.open_chunk.writes;
      blocks = updated buffer (Some block) old.blocks;
      owner = updated block (Live buffer fence_d.1 nothing_bound)
          (retired (old.blocks buffer) (open_number old) old.owner);
      board = mid.board;
      pool = mid.pool;
      listing = written_d.0;
      contents = written_d.1;
      fence = fence_d.1;
      host_acts = written_d.2;
    }

    abbrev placed_d : Core → Core
    placed_d c = with_placed (placed_at call item (Some block) (old.blocks buffer) None) c

    pub discarded_is : placed_d (with_write call range_d bytes_d
        (gives_block buffer block (fenced retired_at (out_of mid)))) ≡ applied discarded_result old
    discarded_is =
        ap (λ m. placed_d
        (with_write call range_d bytes_d (gives_block buffer block (fenced retired_at (out_of m)))))
        (block_parts reading script buffer block old mid has)
        ∙ ap (λ c. placed_d (with_write call range_d bytes_d (gives_block buffer block c))) fence_d.2
        ∙ ap placed_d written_d.3

-- the host writes into a block that a buffer has
module _ (call item : ℕ) (r : Range) (bytes : List ℕ) (old : Core) where
  abbrev written_o : (listing : List VkOp) × (contents : List (List ℕ)) × (acts : ℕ)
      × (with_write call r bytes old ≡ with_written (more_writes r bytes old old.open_chunk.writes) listing contents
      acts old)
  written_o = write_parts call r bytes old

  abbrev pub overwritten_result : Result
  overwritten_result = record (only_placed (placed_at call item None None None) old) {
    writes = more_writes r bytes old old.open_chunk.writes;
    listing = written_o.0;
    contents = written_o.1;
    host_acts = written_o.2;
  }

  pub overwritten_is : with_placed (placed_at call item None None None) (with_write call r bytes old)
      ≡ applied overwritten_result old
  overwritten_is = ap (with_placed (placed_at call item None None None)) written_o.3

-- bytes are staged, and a command may copy them
module _ (script : Script) (call item : ℕ) (b : ℕ) (bs : List ℕ) (bound : List Range) (old : Core) (s : Staged)
    (pool : Pool) where
  abbrev pub source : Range
  source = staged_range s (length (b ∷ bs))

  abbrev pub binds : List Range
  binds = source ∷ map (range_on old.blocks) bound

  abbrev pub put_result : Result
  put_result = record (only_placed (placed_at call item None None (Some source)) old) {
    writes = more_writes source (b ∷ bs) (with_page s pool old) old.open_chunk.writes;
    bound = old.open_chunk.bound ++ binds;
    staging = add_staging script old.blocks bound old.open_chunk.staging;
    pages = old.open_chunk.pages ++ s.added;
    owner = λ c. bind_owner binds c
        (updated s.block (page_owner (open_number old) old.fence s.added (old.owner s.block)) old.owner c);
    pool = pool;
    listing = old.listing ++ op.HostWrite source call ∷ [];
    contents = old.contents ++ (b ∷ bs) ∷ [];
    host_acts = suc old.host_acts;
  }

  abbrev pub staged_result : Option Range → Option Cond → Result
  staged_result None skip = put_result
  staged_result (Some target) skip = commanded call (work.Copy source (range_on old.blocks target))
      (cond_on old.blocks skip) (open_number old) put_result

  pub staged_is : (target : Option Range) (skip : Option Cond)
      → with_placed (placed_at call item None None (Some source))
      (with_staging script bound
      (with_bound binds (staged_command call source target skip
      (with_write call source (b ∷ bs) (with_page s pool old)))))
      ≡ applied (staged_result target skip) old
  staged_is None skip = refl
  staged_is (Some target) skip = refl

abbrev pub result_of : (reading : Reading) (script : Script) (call item : ℕ) (play : Play) (bound : List Range)
    (old new : Core) → Plays reading script call item play bound old new → Result
result_of reading script call item (Create buffer bytes) bound old new n =
    created_result reading script call item buffer n.0 old n.1 n.2 bytes
result_of reading script call item (Discard buffer from bytes) bound old new n =
    discarded_result reading script call item buffer n.0 old n.1 n.2 from bytes
result_of reading script call item (No_overwrite buffer from bytes) bound old new n =
    overwritten_result call item (range (block_of old.blocks buffer) from (from + length bytes)) bytes old
result_of reading script call item (Stage [] target skip) bound old new n =
    only_placed (placed_at call item None None None) old
result_of reading script call item (Stage (b ∷ bs) target skip) bound old new n =
    staged_result script call item b bs bound old n.0 n.1 target skip
result_of reading script call item (Command w skip) bound old new n =
    let x = commanded call (work_on old.blocks w) (cond_on old.blocks skip) (open_number old)
    (only_placed (placed_at call item None None None) old) in
    record x {
      bound = old.open_chunk.bound ++ map (range_on old.blocks) bound;
      staging = add_staging script old.blocks bound old.open_chunk.staging;
      owner = λ c. bind_owner (map (range_on old.blocks) bound) c (old.owner c);
    }
result_of reading script call item (Destroy buffer) bound old new n =
    record (only_placed (placed_at call item None (old.blocks buffer) None) old) {
      blocks = updated buffer None old.blocks;
      owner = retired (old.blocks buffer) (open_number old) old.owner;
      staging = without_block (old.blocks buffer) old.open_chunk.staging;
    }
result_of reading script call item Create_shader bound old new n =
    record (only_placed (placed_at call item None None None) old) { listing = old.listing ++ op.Pipeline call ∷ [] }
result_of reading script call item (Mark_query query begins) bound old new n =
    record (only_placed (placed_at call item None None None) old) {
      queries = old.open_chunk.queries ++ record {
        call = call;
        query = query;
        begins = begins;
        before =
            suc old.commands;
      } ∷ [];
    }
result_of reading script call item Set_state bound old new n =
    record (only_placed (placed_at call item None None None) old) {
      bound = old.open_chunk.bound ++ map (range_on old.blocks) bound;
      staging = add_staging script old.blocks bound old.open_chunk.staging;
      owner = λ c. bind_owner (map (range_on old.blocks) bound) c (old.owner c);
    }

pub result_is : (reading : Reading) (script : Script) (call item : ℕ) (play : Play) (bound : List Range)
    (old new : Core) (n : Plays reading script call item play bound old new)
    → new ≡ applied (result_of reading script call item play bound old new n) old
result_is reading script call item (Create buffer bytes) bound old new n = n.3
    ∙ created_is reading script call item buffer n.0 old n.1 n.2 bytes
result_is reading script call item (Discard buffer from bytes) bound old new n = n.3
    ∙ discarded_is reading script call item buffer n.0 old n.1 n.2 from bytes
result_is reading script call item (No_overwrite buffer from bytes) bound old new n = n
    ∙ overwritten_is call item (range (block_of old.blocks buffer) from (from + length bytes)) bytes old
result_is reading script call item (Stage [] target skip) bound old new n = n
result_is reading script call item (Stage (b ∷ bs) target skip) bound old new n = n.3
    ∙ staged_is script call item b bs bound old n.0 n.1 target skip
result_is reading script call item (Command w skip) bound old new n = n
result_is reading script call item (Destroy buffer) bound old new n = n
result_is reading script call item Create_shader bound old new n = n
result_is reading script call item (Mark_query query begins) bound old new n = n
result_is reading script call item Set_state bound old new n = n

pub result_call : (reading : Reading) (script : Script) (call item : ℕ) (play : Play) (bound : List Range)
    (old new : Core) (n : Plays reading script call item play bound old new)
    → (let p = (result_of reading script call item play bound old new n).placed in (p.call ≡ call) × (p.item ≡ item))
result_call reading script call item (Create buffer bytes) bound old new n = (refl, refl)
result_call reading script call item (Discard buffer from bytes) bound old new n = (refl, refl)
result_call reading script call item (No_overwrite buffer from bytes) bound old new n = (refl, refl)
result_call reading script call item (Stage [] target skip) bound old new n = (refl, refl)
result_call reading script call item (Stage (b ∷ bs) None skip) bound old new n = (refl, refl)
result_call reading script call item (Stage (b ∷ bs) (Some target) skip) bound old new n = (refl, refl)
result_call reading script call item (Command w skip) bound old new n = (refl, refl)
result_call reading script call item (Destroy buffer) bound old new n = (refl, refl)
result_call reading script call item Create_shader bound old new n = (refl, refl)
result_call reading script call item (Mark_query query begins) bound old new n = (refl, refl)
result_call reading script call item Set_state bound old new n = (refl, refl)

pub result_placed : (reading : Reading) (script : Script) (call item : ℕ) (play : Play) (bound : List Range)
    (old new : Core) (n : Plays reading script call item play bound old new)
    → (let x = result_of reading script call item play bound old new n in
    Placement reading script old x.placed x.owner x.pages x.pool)
result_placed reading script call item (Create buffer bytes) bound old new n = Taken_new call item buffer n.0 _ n.1 n.2
result_placed reading script call item (Discard buffer from bytes) bound old new n =
    Taken_for call item buffer n.0 _ n.1 n.2
result_placed reading script call item (No_overwrite buffer from bytes) bound old new n = Nowhere call item
result_placed reading script call item (Stage [] target skip) bound old new n = Nowhere call item
result_placed reading script call item (Stage (b ∷ bs) None skip) bound old new n =
    Staged_there call item (length (b ∷ bs)) n.0 n.1 n.2.0 (staged_range n.0 (length (b ∷ bs)) ∷ map
    (range_on old.blocks) bound) n.2.1 (omega arith)
result_placed reading script call item (Stage (b ∷ bs) (Some target) skip) bound old new n =
    Staged_there call item (length (b ∷ bs)) n.0 n.1 n.2.0 (staged_range n.0 (length (b ∷ bs)) ∷ map
    (range_on old.blocks) bound) n.2.1 (omega arith)
result_placed reading script call item (Command w skip) bound old new n =
    Bound_alone call item (map (range_on old.blocks) bound)
result_placed reading script call item (Destroy buffer) bound old new n = Given_up call item buffer
result_placed reading script call item Create_shader bound old new n = Nowhere call item
result_placed reading script call item (Mark_query query begins) bound old new n = Nowhere call item
result_placed reading script call item Set_state bound old new n =
    Bound_alone call item (map (range_on old.blocks) bound)
