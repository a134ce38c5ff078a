-- A turn leaves the invocations of the commands before it as they were: the acts of the host that it adds, and its
-- command, have none of their numbers.
use Rattle.std.proofs.Common.{◌≡◌, ℕ, suc, ◌+◌, ◌<◌, ◌≤◌, Bool, true, false, cond, max, nat_le, List, [], ◌∷◌, ◌++◌}
use Rattle.std.proofs.Common.{length, refl, sym, ap, ◌∙◌, inl, inr, Option, Some, None, arith}
use Rattle.std.proofs.lemmas.Bool.{leb-true}
use Rattle.dx_types.specs.declared.range.Range.{Range}
use Rattle.vk_types.specs.declared.message.Placed.{Placed}
use Rattle.vk_types.specs.declared.command.Work.{Work}
use Rattle.vk_types.specs.declared.command.Cond.{Cond}
use Rattle.vk_types.specs.declared.op.VkOp.{VkOp}
use Rattle.vk_types.specs.Memory.{range}
use Rattle.vk_types.specs.Effects.{Meaning, Device}
use Rattle.vk_types.specs.Entries.{Entry}
use Rattle.core_model.specs.Worlds.{World, world_step}
use Rattle.vk_types.specs.BarrierCauses.{least_conflict, caused}
use Rattle.core_model.specs.Script.{Play, Create, Discard, No_overwrite, Stage, Command, Destroy, Create_shader}
use Rattle.core_model.specs.Script.{Mark_query, Set_state, Bytes, Count, Constant, Turn, Refused, Passed, Flushed}
use Rattle.core_model.specs.Script.{Asked, Item, Script, padded}
use Rattle.core_model.specs.Chunking.{is_due}
use Rattle.core_model.specs.CoreState.{Owner, Board, Pool, Core, taken_count, finished_count, open_number}
use Rattle.core_model.specs.Readings.{Reading}
use Rattle.core_model.specs.Owners.{retired}
use Rattle.core_model.specs.Adding.{with_turn, with_write, fenced, gives_block, length_of, retired_by, new_command}
use Rattle.core_model.specs.Adding.{staged_range, epoch_after}
use Rattle.core_model.specs.Renaming.{range_on, work_on, cond_on}
use Rattle.core_model.specs.OtherParts.{counted}
use Rattle.core_model.specs.AppActs.{TakesTurn}
use Rattle.core_model.specs.Lawful.{PlaysRightly, IsLawful}
use Rattle.core_model.specs.Invariant.{Allows, IsSince}
use Rattle.core_model.specs.Kept.{Kept}
use Rattle.core_model.proofs.Steps.Padding.{padded_long}
use Rattle.core_model.proofs.Steps.Destroying.{retired_allows, retired_since}
use Rattle.core_model.proofs.Steps.Giving.{IsVacant, vacant_since, stocked, vacant, has_parts, Fenced, same_fence}
use Rattle.core_model.proofs.Steps.Giving.{more_fence, given, fills_bytes}
use Rattle.core_model.proofs.Steps.Creating.{size_fits}
use Rattle.core_model.proofs.Steps.StagedPages.{page_ready}
use Rattle.core_model.proofs.Listing.MoreListed.{command_entry}
use Rattle.core_model.proofs.Steps.Taking.{left_by}
use Rattle.core_model.proofs.Queries.QueryMoves.{count_stays}
use Rattle.core_model.proofs.Steps.Working as working
use Rattle.core_model.proofs.Steps.Staging as staging
use Rattle.core_model.proofs.Steps.Overwriting as overwriting
use Rattle.core_model.proofs.Steps.Discarding as discarding
use Rattle.core_model.proofs.Steps.ReadingBack as reading_bytes
use Rattle.vk_types.specs.declared.op.VkOp.TheVariants as op
use Rattle.vk_types.specs.declared.command.Work.TheVariants as work
use Rattle.vk_types.specs.declared.command.Command as c

abbrev pub CountsStay : Meaning → Core → Core → Type 0
CountsStay meaning old new = (n : ℕ) → n ≤ old.commands → (left_by meaning new).counts n
    ≡ (left_by meaning old).counts n

-- the entry of the next command
abbrev next_entry : Core → c.Command → Entry
next_entry old d =
    command_entry d (open_number old) (epoch_after (caused old.recent d (least_conflict old.recent d)) old.epoch)

-- the next command leaves what those before it ran
next_stays : (meaning : Meaning) (commands n : ℕ) (d : c.Command) (x : Entry) (v w : World)
    → w ≡ world_step meaning x v → x.act ≡ Device d → d.number ≡ suc commands → n ≤ commands → w.counts n ≡ v.counts n
next_stays meaning commands n d x v w is act e l =
    ap (λ w. w.counts n) is ∙ ap (λ a. counted meaning a v.memory v.counts n) act
    ∙ count_stays meaning commands n (Device d) v.memory v.counts (omega (arith, e)) l

-- A buffer takes a block --------------------------------------------------------------------------------------------

module _ (meaning : Meaning) (reading : Reading) (script : Script) (old : Core)
    (k : Kept meaning reading script old) (t : Turn) (turns : List Turn) (placed : List Placed) (buffer block : ℕ)
    (board : Board) (pool : Pool) (own : ℕ → Owner)
    (keep : (b i chunk : ℕ) → chunk ≤ open_number old → Allows (taken_count old) (finished_count old) (old.owner b)
    i chunk → Allows (taken_count old) (finished_count old) (own b) i chunk)
    (since : (b : ℕ) → IsSince (finished_count old) (own b)) (empty_block : IsVacant (old.owner block))
    (same_owner : own block ≡ old.owner block) (call L : ℕ) where
  -- its bytes are written
  filled_counts : (listing : List VkOp) (fence : ℕ) (fences : Fenced old listing fence)
      (finished : retired_by (old.owner block) ≤ fence) (l : List ℕ) → length l ≡ L
      → (left_by meaning (with_write call (range block 0 L) l
      (given meaning reading script old k t turns placed buffer block board pool own listing fence keep since
      fences empty_block same_owner finished))).counts
      ≡ (left_by meaning old).counts
  filled_counts listing fence fences finished [] long = refl
  filled_counts listing fence fences finished (x ∷ xs) long =
      (fills_bytes meaning reading script old k t turns placed buffer block board pool own listing fence keep since
      fences empty_block same_owner finished call L (x ∷ xs) long (let z : 0 < L = omega (arith, long) in
      z)).counts

  -- with a fence before them where the block needs one
  given_counts : (l : List ℕ) → length l ≡ L → (c : Bool) → nat_le (retired_by (old.owner block)) (taken_count old) ≡ c
      → (left_by meaning (with_write call (range block 0 L) l
      (gives_block buffer block
      (cond c (record (with_turn t turns old) { board = board; pool = pool; owner = own })
      (record (with_turn t turns old) {
        board = board;
        pool = pool;
        owner = own;
        listing =
            old.listing ++ op.Fence (retired_by (old.owner block)) ∷ [];
        fence =
            max old.fence (retired_by (old.owner block));
      }))))).counts
      ≡ (left_by meaning old).counts
  given_counts [] long true d = refl
  given_counts [] long false d = refl
  given_counts (x ∷ xs) long true d =
      let le = leb-true (retired_by (old.owner block)) (taken_count old) d in
      let f = k.fenced in
      filled_counts old.listing old.fence (same_fence meaning reading script old k.good) (omega (arith, le, f))
      (x ∷ xs) long
  given_counts (x ∷ xs) long false d =
      let n = retired_by (old.owner block) in
      filled_counts (old.listing ++ op.Fence n ∷ []) (max old.fence n)
      (more_fence meaning reading script old k.good n (vacant_since (finished_count old) (old.owner block)
      empty_block (k.good.sound.since block)))
      (omega arith) (x ∷ xs) long

-- The items ---------------------------------------------------------------------------------------------------------

module _ (meaning : Meaning) (reading : Reading) (script : Script) (lawful : IsLawful meaning script) (old : Core)
    (k : Kept meaning reading script old) (call item : ℕ) (ends : Bool) (bound : List Range)
    (turns : List Turn) (new : Core) where
  -- the place of an item in the script
  at_item : (play : Play) → old.future ≡ Item call item ends play bound ∷ turns
      → script.turns ≡ old.past ++ Item call item ends play bound ∷ turns
  at_item play e = sym (ap (λ l. old.past ++ l) (sym e) ∙ k.good.sound.position)

  create_counts : (buffer : ℕ) (bytes : List ℕ) → old.future
      ≡ Item call item ends (Create buffer bytes) bound ∷ turns
      → TakesTurn reading script (Item call item ends (Create buffer bytes) bound) turns old new
      → CountsStay meaning old new
  create_counts buffer bytes e p n l =
      let t = Item call item ends (Create buffer bytes) bound in
      let block = p.0 in
      let parts = has_parts reading script buffer block (with_turn t turns old) p.1 p.2 in
      let L = length_of script buffer in
      let rightly : PlaysRightly meaning script old.past call (Create buffer bytes) =
      lawful.plays old.past call item ends (Create buffer bytes) bound turns (at_item (Create buffer bytes) e) in
      let enough : 0 + length bytes ≤ L = let a = rightly.1 in let b =
      size_fits script buffer (lawful.classes buffer) in omega (arith, a, b) in
      let empty_block = vacant reading script buffer block (with_turn t turns old) p.1 p.2 lawful.classes
      (stocked old k.beside.places) in
      ap (λ c. (left_by meaning c).counts n) p.3
      ∙ ap (λ mid. (left_by meaning (with_write call (range block 0 L) (padded 0 bytes L)
      (gives_block buffer block (fenced (retired_by (old.owner block)) mid)))).counts n) parts.2
      ∙ ap (λ f. f n)
      (given_counts meaning reading script old k t turns old.open_chunk.placed buffer block parts.0 parts.1
      old.owner (λ b i chunk l a. a) k.good.sound.since empty_block refl call L (padded 0 bytes L)
      (padded_long 0 bytes L enough) (nat_le (retired_by (old.owner block)) (taken_count old)) refl)

  discard_counts : (buffer from : ℕ) (bytes : List ℕ) → old.future
      ≡ Item call item ends (Discard buffer from bytes) bound ∷ turns
      → is_due script old.open_chunk.turns old.future ≡ false
      → TakesTurn reading script (Item call item ends (Discard buffer from bytes) bound) turns old new
      → CountsStay meaning old new
  discard_counts buffer from bytes e due p n l =
      let t = Item call item ends (Discard buffer from bytes) bound in
      let block = p.0 in
      let parts = has_parts reading script buffer block (with_turn t turns old) p.1 p.2 in
      let size = script.size buffer in
      let own = retired (old.blocks buffer) (open_number old) old.owner in
      let rightly : PlaysRightly meaning script old.past call (Discard buffer from bytes) =
      lawful.plays old.past call item ends (Discard buffer from bytes) bound turns
      (at_item (Discard buffer from bytes) e) in
      let empty_block = vacant reading script buffer block (with_turn t turns old) p.1 p.2 lawful.classes
      (stocked old k.beside.places) in
      ap (λ c. (left_by meaning c).counts n) p.3
      ∙ ap (λ mid. (left_by meaning (with_write call (range block 0 size) (padded from bytes size)
      (gives_block buffer block (fenced (retired_by (old.owner block))
      (record mid { owner = retired (old.blocks buffer) (open_number old) mid.owner }))))).counts n) parts.2
      ∙ ap (λ f. f n)
      (given_counts meaning reading script old k t turns old.open_chunk.placed buffer block parts.0 parts.1 own
      (λ b i chunk l. retired_allows (old.blocks buffer) (taken_count old) (finished_count old) (open_number old) i
      chunk old.owner b l)
      (λ b. retired_since (old.blocks buffer) (finished_count old) (open_number old) old.owner b
      (k.good.sound.since b)) empty_block
      (discarding.own_here meaning reading script lawful old call item ends buffer from bytes bound turns e due k
      block parts.0 parts.1 empty_block) call size (padded from bytes size)
      (padded_long from bytes size rightly.0.1) (nat_le (retired_by (old.owner block)) (taken_count old)) refl)

  overwrite_counts : (buffer from : ℕ) (bytes : List ℕ) → old.future
      ≡ Item call item ends (No_overwrite buffer from bytes) bound ∷ turns
      → is_due script old.open_chunk.turns old.future ≡ false
      → TakesTurn reading script (Item call item ends (No_overwrite buffer from bytes) bound) turns old new
      → CountsStay meaning old new
  overwrite_counts buffer from [] e due p n l = ap (λ c. (left_by meaning c).counts n) p
  overwrite_counts buffer from (b ∷ bs) e due p n l =
      ap (λ c. (left_by meaning c).counts n) p
      ∙ ap (λ w. w.counts n) (overwriting.left_now meaning reading script lawful old call item ends buffer from
      bound turns due k b bs e)

  stage_counts : (bytes : List ℕ) (target : Option Range) (skip : Option Cond)
      → old.future ≡ Item call item ends (Stage bytes target skip) bound ∷ turns
      → is_due script old.open_chunk.turns old.future ≡ false
      → TakesTurn reading script (Item call item ends (Stage bytes target skip) bound) turns old new
      → CountsStay meaning old new
  stage_counts [] target skip e due p n l = ap (λ c. (left_by meaning c).counts n) p
  stage_counts (b ∷ bs) None skip e due p n l =
      ap (λ c. (left_by meaning c).counts n) p.3
      ∙ ap (λ w. w.counts n)
      (staging.left_written meaning reading script lawful old call item ends b bs None skip bound turns e due k p.0
      p.1 (page_ready p.2.0 (length (b ∷ bs)) p.0 old.pool p.1 p.2.1 (taken_count old) (finished_count old)
      (open_number old) old.fence old.owner k.good.sound.fence k.fenced k.beside.pages.newest k.beside.places.spare
      (k.beside.places.fresh old.pool.next (omega arith)) (k.good.sound.since p.0.block)
      (k.beside.places.taken p.0.block)))
  stage_counts (b ∷ bs) (Some target) skip e due p n l =
      ap (λ c. (left_by meaning c).counts n) p.3
      ∙ next_stays meaning old.commands n (new_command old call
      (work.Copy (staged_range p.0 (length (b ∷ bs))) (range_on old.blocks target)) (cond_on old.blocks skip))
      (next_entry old
      (new_command old call (work.Copy (staged_range p.0 (length (b ∷ bs))) (range_on old.blocks target))
      (cond_on old.blocks skip))) _ _
      (staging.left_now meaning reading script lawful old call item ends b bs (Some target) skip bound turns e due k
      p.0 p.1 (page_ready p.2.0 (length (b ∷ bs)) p.0 old.pool p.1 p.2.1 (taken_count old) (finished_count old)
      (open_number old) old.fence old.owner k.good.sound.fence k.fenced k.beside.pages.newest k.beside.places.spare
      (k.beside.places.fresh old.pool.next (omega arith)) (k.good.sound.since p.0.block)
      (k.beside.places.taken p.0.block)) target refl)
      refl refl l

  command_counts : (w : Work) (skip : Option Cond) → old.future ≡ Item call item ends (Command w skip) bound ∷ turns
      → is_due script old.open_chunk.turns old.future ≡ false
      → TakesTurn reading script (Item call item ends (Command w skip) bound) turns old new → CountsStay meaning old new
  command_counts w skip e due p n l =
      ap (λ c. (left_by meaning c).counts n) p
      ∙ next_stays meaning old.commands n (new_command old call (work_on old.blocks w) (cond_on old.blocks skip))
      (next_entry old (new_command old call (work_on old.blocks w) (cond_on old.blocks skip))) _ _
      (working.left_now meaning reading script lawful old call item ends w skip bound turns e due k.good) refl refl l

  item_counts : (play : Play) → old.future ≡ Item call item ends play bound ∷ turns
      → is_due script old.open_chunk.turns old.future ≡ false
      → TakesTurn reading script (Item call item ends play bound) turns old new
      → CountsStay meaning old new
  item_counts (Create buffer bytes) e due p n l = create_counts buffer bytes e p n l
  item_counts (Discard buffer from bytes) e due p n l = discard_counts buffer from bytes e due p n l
  item_counts (No_overwrite buffer from bytes) e due p n l = overwrite_counts buffer from bytes e due p n l
  item_counts (Stage bytes target skip) e due p n l = stage_counts bytes target skip e due p n l
  item_counts (Command w skip) e due p n l = command_counts w skip e due p n l
  item_counts (Destroy buffer) e due p n l = ap (λ c. (left_by meaning c).counts n) p
  item_counts Create_shader e due p n l = ap (λ c. (left_by meaning c).counts n) p
  item_counts (Mark_query query begins) e due p n l = ap (λ c. (left_by meaning c).counts n) p
  item_counts Set_state e due p n l = ap (λ c. (left_by meaning c).counts n) p

-- each turn
pub counts_kept : (meaning : Meaning) (reading : Reading) (script : Script) → IsLawful meaning script
    → (old : Core) (t : Turn) (turns : List Turn) (new : Core) → old.future ≡ t ∷ turns
    → is_due script old.open_chunk.turns old.future ≡ false → TakesTurn reading script t turns old new
    → Kept meaning reading script old → CountsStay meaning old new
counts_kept meaning reading script lawful old (Refused call) turns new e due p k n l =
    ap (λ c. (left_by meaning c).counts n) p
counts_kept meaning reading script lawful old (Passed call) turns new e due p k n l =
    ap (λ c. (left_by meaning c).counts n) p
counts_kept meaning reading script lawful old (Flushed call) turns new e due p k n l =
    ap (λ c. (left_by meaning c).counts n) p
counts_kept meaning reading script lawful old (Asked call (Bytes source) used may_pend) turns new e due (inl h) k n l =
    ap (λ c. (left_by meaning c).counts n) h.1 ∙ ap (λ w. w.counts n)
    (reading_bytes.left_now meaning reading script lawful old call source used may_pend turns e due k h.0 used)
counts_kept meaning reading script lawful old (Asked call (Count query) used may_pend) turns new e due (inl h) k n l
    = ap (λ c. (left_by meaning c).counts n) h.1
counts_kept meaning reading script lawful old (Asked call (Constant value) used may_pend) turns new e due (inl h) k
    n l = ap (λ c. (left_by meaning c).counts n) h.1
counts_kept meaning reading script lawful old (Asked call ask used may_pend) turns new e due (inr h) k n l =
    ap (λ c. (left_by meaning c).counts n) h.2
counts_kept meaning reading script lawful old (Item call item ends play bound) turns new e due p k n l =
    item_counts meaning reading script lawful old k call item ends bound turns new play e due p n l
