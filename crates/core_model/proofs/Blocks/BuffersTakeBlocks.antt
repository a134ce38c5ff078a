-- A buffer that is created or discarded takes a block: what holds beside the invariant is kept.
use Rattle.std.proofs.Common.{◌≡◌, ℕ, ◌≤◌, Bool, true, false, cond, max, ◌==◌, nat_le, List, [], ◌∷◌, ◌++◌, refl, sym}
use Rattle.std.proofs.Common.{ap, ◌∙◌, subst, inl, inr, Some, None, arith}
use Rattle.std.proofs.lemmas.Bool.{both_ways, cases_Bool, eqb-true}
use Rattle.dx_types.specs.declared.range.Range.{Range}
use Rattle.vk_types.specs.declared.op.VkOp.{VkOp}
use Rattle.vk_types.specs.Memory.{range, number_at}
use Rattle.vk_types.specs.Effects.{Meaning}
use Rattle.core_model.specs.Script.{Create, Discard, Turn, Item, Script, padded, updated}
use Rattle.core_model.specs.CoreState.{Owner, Board, Pool, Core, later, taken_count}
use Rattle.core_model.specs.CoreState.{open_number}
use Rattle.core_model.specs.Readings.{Reading}
use Rattle.core_model.specs.Owners.{retire_owner, retired}
use Rattle.core_model.specs.Adding.{with_turn, with_write, with_placed, placed_at, fenced, gives_block, length_of}
use Rattle.core_model.specs.Adding.{retired_by}
use Rattle.core_model.specs.AppActs.{TakesTurn}
use Rattle.core_model.specs.Playing.{HasBlock}
use Rattle.core_model.specs.Lawful.{PlaysRightly, IsLawful}
use Rattle.core_model.specs.Kept.{Beside, IsTraced, Kept}
use Rattle.core_model.proofs.Steps.Discarding.{not_retired}
use Rattle.core_model.proofs.Runs.Tracing.{traced_blocks}
use Rattle.core_model.proofs.Runs.TurnsKeepAll.{BesideAnd}
use Rattle.core_model.proofs.Blocks.BoundRanges.{retired_beside}
use Rattle.vk_types.specs.declared.op.VkOp.TheVariants as op
pub use Rattle.core_model.proofs.Blocks.BlocksBeside.{write_beside, placed_beside, write_traced, has_entry}
use Rattle.core_model.proofs.Blocks.BlocksBeside.{has_beside, others_go_on, strange, was_not, parts, by_fence}

pub create_kept : (meaning : Meaning) (reading : Reading) (script : Script) → IsLawful meaning script
    → (old : Core) (call item : ℕ) (ends : Bool) (buffer : ℕ) (bytes : List ℕ) (bound : List Range)
    (turns : List Turn) (new : Core) → TakesTurn reading script (Item call item ends (Create buffer bytes) bound)
    turns old new → Kept meaning reading script old
    → BesideAnd script new
create_kept meaning reading script lawful old call item ends buffer bytes bound turns new n k =
    let block = n.0 in
    let p = parts meaning reading script lawful old call item ends buffer (Create buffer bytes) bound turns k
    (λ r n. others_go_on r buffer n) block n.1 n.2 in
    subst (BesideAnd script)
    (sym (n.3 ∙ ap (λ mid. with_placed (placed_at call item (Some block) None None)
    (record (with_write call (range block 0 (length_of script buffer)) (padded 0 bytes (length_of script buffer))
    (gives_block buffer block (fenced (retired_by (old.owner block)) mid))) {
      copies = updated block (number_at bytes) mid.copies;
      is_staging =
          updated block (script.is_staging buffer) mid.is_staging;
    })) p.2))
    (by_fence meaning reading script lawful old call item ends buffer bytes bound turns k block n.1 n.2
    (nat_le (retired_by (old.owner block)) (taken_count old)))

-- a buffer is discarded
module _ (meaning : Meaning) (reading : Reading) (script : Script) (lawful : IsLawful meaning script) (old : Core)
    (call item : ℕ) (ends : Bool) (buffer from : ℕ) (bytes : List ℕ) (bound : List Range)
    (turns : List Turn) (e : old.future ≡ Item call item ends (Discard buffer from bytes) bound ∷ turns)
    (k : Kept meaning reading script old) (block : ℕ) (mid : Core)
    (h : HasBlock reading script buffer block (with_turn (Item call item ends (Discard buffer from bytes) bound)
    turns old) mid) where
  abbrev its_turn : Turn
  its_turn = Item call item ends (Discard buffer from bytes) bound

  abbrev own : ℕ → Owner
  own = retired (old.blocks buffer) (open_number old) old.owner

  rightly : PlaysRightly meaning script old.past call (Discard buffer from bytes)
  rightly = lawful.plays old.past call item ends (Discard buffer from bytes) bound turns
      (sym (ap (λ l. old.past ++ l) (sym e) ∙ k.good.sound.position))

  apart : (r c : ℕ) → old.blocks r ≡ Some c → block ≡ c → ⊥
  apart = strange meaning reading script lawful old call item ends buffer (Discard buffer from bytes) bound turns k
      (λ r n. others_go_on r buffer n) block mid h

  own_here : own block ≡ old.owner block
  own_here =
      let b = k.good.stands.has_block buffer rightly.0.0 in
      ap (λ c. cond c (retire_owner (open_number old) (old.owner block)) (old.owner block))
      (not_retired (old.blocks buffer) b.0 block b.1 (apart buffer b.0 b.1))

  not_staging : script.is_staging buffer ≡ false
  not_staging = elim (cases_Bool (script.is_staging buffer)) [
    | inl x ↦ let c = rightly.1 in
        absurd (let z : None ≡ Some c.0 = sym (lawful.staging buffer x) ∙ c.1 in cc z)
    | inr f ↦ f
  ]

  abbrev its_board : Board
  its_board = (parts meaning reading script lawful old call item ends buffer (Discard buffer from bytes) bound turns
      k (λ r n. others_go_on r buffer n) block mid h).0

  abbrev its_pool : Pool
  its_pool = (parts meaning reading script lawful old call item ends buffer (Discard buffer from bytes) bound turns
      k (λ r n. others_go_on r buffer n) block mid h).1

  abbrev discarded : Core → Core
  discarded core =
      with_placed (placed_at call item (Some block) (old.blocks buffer) None)
      (with_write call (range block 0 (script.size buffer)) (padded from bytes (script.size buffer))
      (gives_block buffer block core))

  discard_fence : (listing : List VkOp) (fence : ℕ) → old.fence ≤ fence
      → Beside script
      (discarded (record (with_turn its_turn turns old) {
        board = its_board;
        pool = its_pool;
        owner =
            own;
        listing = listing;
        fence = fence;
      }))
  discard_fence listing fence le =
      placed_beside script (placed_at call item (Some block) (old.blocks buffer) None) _
      (write_beside script call (range block 0 (script.size buffer)) (padded from bytes (script.size buffer)) _
      (has_beside meaning reading script lawful old call item ends buffer (Discard buffer from bytes) bound turns k
      (λ r n. others_go_on r buffer n) block mid h own own_here (retired_beside script old buffer k.beside)
      listing fence le
      old.is_staging old.copies
      (was_not meaning reading script lawful old call item ends buffer (Discard buffer from bytes) bound turns k
      (λ r n. others_go_on r buffer n) block mid h ∙ sym not_staging) (λ c n. refl)))

  discard_traced : (listing : List VkOp) (fence : ℕ) → IsTraced script
      (discarded (record (with_turn its_turn turns old) {
        board = its_board;
        pool = its_pool;
        owner = own;
        listing =
            listing;
        fence = fence;
      }))
  discard_traced listing fence =
      write_traced script call (range block 0 (script.size buffer)) (padded from bytes (script.size buffer))
      (gives_block buffer block (record (with_turn its_turn turns old) {
        board = its_board;
        pool = its_pool;
        owner =
            own;
        listing = listing;
        fence = fence;
      })) (has_entry old.open_chunk.turns its_turn refl)
      (traced_blocks script old.blocks old.past (old.taken ++ later old) old.open_chunk.turns old.open_chunk.bound
      old.open_chunk.writes old.open_chunk.commands k.traced its_turn refl old.is_staging old.owner
      old.open_chunk.staging (updated buffer (Some block) old.blocks) old.open_chunk.writes old.open_chunk.commands
      (λ r b st is.
      elim (cases_Bool (r == buffer)) [
        | inl x ↦ absurd (both_ways (script.is_staging buffer) not_staging
            (ap script.is_staging (sym (eqb-true r buffer x)) ∙ st))
        | inr f ↦ inl (sym (ap (λ c. cond c (Some block) (old.blocks r)) f) ∙ is)
      ])
      k.beside.named k.beside.named_open)

  write_fence : (l : List ℕ) (r : Range) (core : Core) → taken_count core ≤ core.fence
      → (let c = with_write call r l core in taken_count c ≤ c.fence)
  write_fence [] r core f = f
  write_fence (x ∷ xs) r core f = f

  discard_by_fence : (c : Bool) → let n = retired_by (old.owner block) in let core =
      record (with_turn its_turn turns old) { board = its_board; pool = its_pool; owner = own } in
      let new = discarded
      (cond c core (record core { listing = old.listing ++ op.Fence n ∷ []; fence = max old.fence n })) in
      BesideAnd script new
  discard_by_fence true = (
    discard_fence old.listing old.fence (omega arith),
    write_fence (padded from bytes (script.size buffer)) (range block 0 (script.size buffer))
        (gives_block buffer block (record (with_turn its_turn turns old) {
          board = its_board;
          pool =
              its_pool;
          owner = own;
        })) k.fenced,
    discard_traced old.listing old.fence,
  )
  discard_by_fence false = (
    discard_fence (old.listing ++ op.Fence (retired_by (old.owner block)) ∷ [])
        (max old.fence (retired_by (old.owner block))) (omega arith),
    write_fence (padded from bytes (script.size buffer)) (range block 0 (script.size buffer))
        (gives_block buffer block (record (with_turn its_turn turns old) {
          board = its_board;
          pool = its_pool;
          owner = own;
          listing = old.listing ++ op.Fence (retired_by (old.owner block)) ∷ [];
          fence = max old.fence (retired_by (old.owner block));
        })) (let f = k.fenced in let z : taken_count old ≤ max old.fence (retired_by (old.owner block)) =
        omega (arith, f) in z),
    discard_traced (old.listing ++ op.Fence (retired_by (old.owner block)) ∷ [])
        (max old.fence (retired_by (old.owner block))),
  )

pub discard_kept : (meaning : Meaning) (reading : Reading) (script : Script) → IsLawful meaning script
    → (old : Core) (call item : ℕ) (ends : Bool) (buffer from : ℕ) (bytes : List ℕ) (bound : List Range)
    (turns : List Turn) (new : Core) → old.future ≡ Item call item ends (Discard buffer from bytes) bound ∷ turns
    → TakesTurn reading script (Item call item ends (Discard buffer from bytes) bound) turns old new
    → Kept meaning reading script old → BesideAnd script new
discard_kept meaning reading script lawful old call item ends buffer from bytes bound turns new e n k =
    let block = n.0 in
    let p = parts meaning reading script lawful old call item ends buffer (Discard buffer from bytes) bound turns k
    (λ r n. others_go_on r buffer n) block n.1 n.2 in
    subst (BesideAnd script)
    (sym (n.3 ∙ ap (λ mid. with_placed (placed_at call item (Some block) (old.blocks buffer) None)
    (with_write call (range block 0 (script.size buffer)) (padded from bytes (script.size buffer))
    (gives_block buffer block (fenced (retired_by (old.owner block))
    (record mid { owner = retired (old.blocks buffer) (open_number old) mid.owner }))))) p.2))
    (discard_by_fence meaning reading script lawful old call item ends buffer from bytes bound turns e k block n.1
    n.2 (nat_le (retired_by (old.owner block)) (taken_count old)))
