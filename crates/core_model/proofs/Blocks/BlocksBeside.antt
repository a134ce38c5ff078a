-- What holds beside the invariant as bytes are written and an item is placed.
use Rattle.std.proofs.Common.{◌≡◌, ℕ, ◌≤◌, Bool, true, false, cond, max, ◌==◌, List, [], ◌∷◌, ◌++◌, refl, sym}
use Rattle.std.proofs.Common.{ap, ◌∙◌, subst, inl, inr, Some, None, arith}
use Rattle.std.proofs.lemmas.Bool.{both_ways, cases_Bool, eqb-true, eq-eqb}
use Rattle.dx_types.specs.declared.range.Range.{Range}
use Rattle.vk_types.specs.declared.message.Placed.{Placed}
use Rattle.vk_types.specs.declared.op.VkOp.{VkOp}
use Rattle.vk_types.specs.Memory.{range, number_at}
use Rattle.vk_types.specs.Effects.{Meaning}
use Rattle.core_model.specs.Script.{Play, Create, Turn, Item, Script, padded, updated}
use Rattle.core_model.specs.Chunking.{is_entry, entry_count}
use Rattle.core_model.specs.CoreState.{Owner, Unmade, Live, has_class, Board, Pool, Core, later, taken_count}
use Rattle.core_model.specs.Readings.{Reading}
use Rattle.core_model.specs.Owners.{nothing_bound}
use Rattle.core_model.specs.Adding.{with_turn, with_write, with_placed, placed_at, gives_block, length_of}
use Rattle.core_model.specs.Adding.{retired_by}
use Rattle.core_model.specs.Playing.{HasBlock}
use Rattle.core_model.specs.Lawful.{resets, IsLawful}
use Rattle.core_model.specs.Invariant.{IsLive}
use Rattle.core_model.specs.Kept.{IsMade, PlacesRight, Beside, IsTraced, Kept}
use Rattle.core_model.proofs.Steps.Giving.{IsVacant, vacant_lives, vacant_buffer, stocked, vacant, own_unmade}
use Rattle.core_model.proofs.Steps.Giving.{has_parts}
use Rattle.core_model.proofs.Runs.Tracing.{entries_last, one_entry, traced_blocks}
use Rattle.core_model.proofs.Runs.StepsKeepAll.{places_later}
use Rattle.core_model.proofs.Runs.TurnsKeepAll.{BesideAnd}
use Rattle.core_model.proofs.Blocks.BoundRanges.{unconcerned}
use Rattle.core_model.proofs.Blocks.TakenBlocks.{had_places, had_newest, own_classless, given_beside}
use Rattle.vk_types.specs.declared.op.VkOp.TheVariants as op

-- a host write and a place change nothing of it
pub write_beside : (script : Script) (call : ℕ) (r : Range) (l : List ℕ) (core : Core) → Beside script core
    → Beside script (with_write call r l core)
write_beside script call r [] core b = b
write_beside script call r (x ∷ xs) core b = unconcerned script core (with_write call r (x ∷ xs) core) b

pub placed_beside : (script : Script) (p : Placed) (core : Core) → Beside script core
    → Beside script (with_placed p core)
placed_beside script p core b = unconcerned script core (with_placed p core) b

-- nor of the turns that the chunks have, once the open chunk has an item
pub write_traced : (script : Script) (call : ℕ) (r : Range) (l : List ℕ) (core : Core)
    → (entry_count core.open_chunk.turns ≡ 0 → ⊥) → IsTraced script core → IsTraced script (with_write call r l core)
write_traced script call r [] core some h = h
write_traced script call r (x ∷ xs) core some h = record {
  past = h.past;
  used = h.used;
  used_open =
      h.used_open;
  quiet = λ none. absurd (some none);
}

-- an item is an entry
pub has_entry : (ts : List Turn) (t : Turn) → is_entry t ≡ true → entry_count (ts ++ t ∷ []) ≡ 0 → ⊥
has_entry ts t entry none =
    let l = entries_last ts t in
    let one = one_entry t entry in
    let z : ⊥ = omega (arith, none, l, one) in
    z

-- A block is taken --------------------------------------------------------------------------------------------------

-- another buffer's bytes go on
pub others_go_on : (r buffer : ℕ) → (r == buffer) ≡ false → (buffer == r) ≡ false
others_go_on r buffer n =
    elim (cases_Bool (buffer == r))
    [ inl t ↦ absurd (both_ways (r == buffer) n (eq-eqb r buffer (sym (eqb-true buffer r t)))) | inr f ↦ f ]

module _ (meaning : Meaning) (reading : Reading) (script : Script) (lawful : IsLawful meaning script) (old : Core)
    (call item : ℕ) (ends : Bool) (buffer : ℕ) (play : Play) (bound : List Range) (turns : List Turn)
    (k : Kept meaning reading script old) (quiet : (r : ℕ) → (r == buffer) ≡ false
    → resets r (Item call item ends play bound) ≡ false) (block : ℕ) (mid : Core)
    (h : HasBlock reading script buffer block (with_turn (Item call item ends play bound) turns old) mid) where
  abbrev pub t : Turn
  t = Item call item ends play bound

  pub vacant_block : IsVacant (old.owner block)
  vacant_block = vacant reading script buffer block (with_turn t turns old) mid h lawful.classes
      (stocked old k.beside.places)

  -- it is no live buffer's
  pub strange : (r c : ℕ) → old.blocks r ≡ Some c → block ≡ c → ⊥
  strange r c is same = vacant_lives r (old.owner block) vacant_block
      (subst (λ c. IsLive r (old.owner c)) (sym same) (k.good.live r c is))

  pub was_not : old.is_staging block ≡ false
  was_not = elim (cases_Bool (old.is_staging block)) [
    | inl x ↦ absurd
        (vacant_buffer (old.owner block) vacant_block (k.beside.blocks.held block x).0)
    | inr f ↦ f
  ]

  pub parts : (board : Board) × (pool : Pool) × (mid ≡ record (with_turn t turns old) { board = board; pool = pool })
  parts = has_parts reading script buffer block (with_turn t turns old) mid h

  pub classless : script.is_staging buffer ≡ true → has_class block ≡ false
  classless st = own_classless reading script buffer block (with_turn t turns old) mid h (lawful.staging buffer st)
      k.beside.places.next

  -- by owners that leave the block as it was
  module _ (own : ℕ → Owner) (same : own block ≡ old.owner block) (b : Beside script (record old { owner = own }))
      (listing : List VkOp) (fence : ℕ) (le : old.fence ≤ fence) (is_staging : ℕ → Bool) (copies : ℕ → ℕ → ℕ)
      (st_here : is_staging block ≡ script.is_staging buffer) (st_other : (c : ℕ) → (block ≡ c → ⊥)
      → is_staging c ≡ old.is_staging c) where
    abbrev taken : Core
    taken = record (with_turn t turns old) {
      board = parts.0;
      pool = parts.1;
      owner = own;
      listing =
          listing;
      fence = fence;
    }

    pub has_beside : Beside script
        (record (gives_block buffer block taken) { is_staging = is_staging; copies = copies })
    has_beside =
        let places : PlacesRight parts.0 parts.1 (updated block (Live buffer fence nothing_bound) own) fence =
        subst (λ c. PlacesRight c.board c.pool (updated block (Live buffer fence nothing_bound) own) fence) parts.2
        (had_places own fence fence buffer (omega arith) reading script buffer block (with_turn t turns old) mid h
        lawful.classes (places_later old.board old.pool own old.fence fence le b.places)) in
        unconcerned script _ (record (gives_block buffer block taken) { is_staging = is_staging; copies = copies })
        (given_beside script (record old { owner = own }) b buffer block fence fence parts.0 parts.1 is_staging t
        (subst IsVacant (sym same) vacant_block) strange places
        (ap (λ c. c.pool.newest) (sym parts.2) ∙ had_newest reading script buffer block (with_turn t turns old) mid
        h) st_here st_other classless quiet)

-- a buffer is created
module _ (meaning : Meaning) (reading : Reading) (script : Script) (lawful : IsLawful meaning script) (old : Core)
    (call item : ℕ) (ends : Bool) (buffer : ℕ) (bytes : List ℕ) (bound : List Range) (turns : List Turn)
    (k : Kept meaning reading script old) (block : ℕ) (mid : Core)
    (h : HasBlock reading script buffer block (with_turn (Item call item ends (Create buffer bytes) bound) turns
    old) mid) where
  abbrev pub turn : Turn
  turn = Item call item ends (Create buffer bytes) bound

  abbrev pub new_board : Board
  new_board = (parts meaning reading script lawful old call item ends buffer (Create buffer bytes) bound turns k
      (λ r n. others_go_on r buffer n) block mid h).0

  abbrev pub new_pool : Pool
  new_pool = (parts meaning reading script lawful old call item ends buffer (Create buffer bytes) bound turns k
      (λ r n. others_go_on r buffer n) block mid h).1

  abbrev pub staging : ℕ → Bool
  staging = updated block (script.is_staging buffer) old.is_staging

  abbrev pub whole : Core → Core
  whole core =
      with_placed (placed_at call item (Some block) None None)
      (record (with_write call (range block 0 (length_of script buffer)) (padded 0 bytes (length_of script buffer))
      (gives_block buffer block core))
      { copies = updated block (number_at bytes) old.copies; is_staging = staging })

  pub with_fence : (listing : List VkOp) (fence : ℕ) → old.fence ≤ fence
      → Beside script
      (whole (record (with_turn turn turns old) {
        board = new_board;
        pool = new_pool;
        listing = listing;
        fence =
            fence;
      }))
  with_fence listing fence le =
      let b = has_beside meaning reading script lawful old call item ends buffer (Create buffer bytes) bound turns k
      (λ r n. others_go_on r buffer n) block mid h old.owner refl k.beside listing fence le staging
      (updated block (number_at bytes) old.copies)
      (ap (λ c. cond c (script.is_staging buffer) (old.is_staging block)) (eq-eqb block block refl))
      (λ c n.
      let d : (c == block) ≡ false = elim (cases_Bool (c == block))
      [ inl x ↦ absurd (n (sym (eqb-true c block x))) | inr f ↦ f ] in
      ap (λ x. cond x (script.is_staging buffer) (old.is_staging c)) d) in
      by (padded 0 bytes (length_of script buffer)) b
    where
      by : (l : List ℕ)
          → Beside script
          (record (gives_block buffer block (record (with_turn turn turns old) {
            board = new_board;
            pool =
                new_pool;
            listing = listing;
            fence = fence;
          })) {
            is_staging = staging;
            copies =
                updated block (number_at bytes) old.copies;
          })
          → Beside script (with_placed (placed_at call item (Some block) None None)
          (record (with_write call (range block 0 (length_of script buffer)) l
          (gives_block buffer block (record (with_turn turn turns old) {
            board = new_board;
            pool =
                new_pool;
            listing = listing;
            fence = fence;
          })))
          { copies = updated block (number_at bytes) old.copies; is_staging = staging }))
      by [] b = placed_beside script (placed_at call item (Some block) None None) _ b
      by (x ∷ xs) b = placed_beside script (placed_at call item (Some block) None None) _
          (write_beside script call (range block 0 (length_of script buffer)) (x ∷ xs) _ b)

  pub with_traced : (listing : List VkOp) (fence : ℕ) → IsTraced script
      (whole (record (with_turn turn turns old) {
        board = new_board;
        pool = new_pool;
        listing = listing;
        fence =
            fence;
      }))
  with_traced listing fence =
      write_traced script call (range block 0 (length_of script buffer)) (padded 0 bytes (length_of script buffer))
      (gives_block buffer block (record (with_turn turn turns old) {
        board = new_board;
        pool = new_pool;
        listing =
            listing;
        fence = fence;
      })) (has_entry old.open_chunk.turns turn refl)
      (traced_blocks script old.blocks old.past (old.taken ++ later old) old.open_chunk.turns old.open_chunk.bound
      old.open_chunk.writes old.open_chunk.commands k.traced turn refl old.is_staging old.owner
      old.open_chunk.staging
      (updated buffer (Some block) old.blocks) old.open_chunk.writes old.open_chunk.commands
      (λ r b st is.
      elim (cases_Bool (r == buffer)) [
        | inl x ↦
            let there : Some block ≡ Some b = sym (ap (λ c. cond c (Some block) (old.blocks r)) x) ∙ is in
            let same : block ≡ b = cc there in
            let un = own_unmade reading script buffer block (with_turn turn turns old) mid h
            (lawful.staging buffer (ap script.is_staging (sym (eqb-true r buffer x)) ∙ st))
            (stocked old k.beside.places) in
            inr (λ made. let z : IsMade Unmade = subst IsMade un (subst (λ b. IsMade (old.owner b)) (sym same) made)
            in z)
        | inr f ↦ inl (sym (ap (λ c. cond c (Some block) (old.blocks r)) f) ∙ is)
      ])
      k.beside.named k.beside.named_open)

  pub by_fence : (c : Bool) → let n = retired_by (old.owner block) in let core =
      record (with_turn turn turns old) { board = new_board; pool = new_pool } in
      let new = whole
      (cond c core (record core { listing = old.listing ++ op.Fence n ∷ []; fence = max old.fence n })) in
      BesideAnd script new
  by_fence true = (
    with_fence old.listing old.fence (omega arith),
    by (padded 0 bytes (length_of script buffer)),
    with_traced old.listing old.fence,
  )
    where
      by : (l : List ℕ)
          → (let c = with_write call (range block 0 (length_of script buffer)) l
          (gives_block buffer block (record (with_turn turn turns old) { board = new_board; pool = new_pool })) in
          taken_count c ≤ c.fence)
      by [] = k.fenced
      by (x ∷ xs) = k.fenced
  by_fence false = (
    with_fence (old.listing ++ op.Fence (retired_by (old.owner block)) ∷ [])
        (max old.fence (retired_by (old.owner block))) (omega arith),
    by (padded 0 bytes (length_of script buffer)),
    with_traced (old.listing ++ op.Fence (retired_by (old.owner block)) ∷ [])
        (max old.fence (retired_by (old.owner block))),
  )
    where
      more : taken_count old ≤ max old.fence (retired_by (old.owner block))
      more = let f = k.fenced in omega (arith, f)

      by : (l : List ℕ)
          → (let n = retired_by (old.owner block) in
          let c = with_write call (range block 0 (length_of script buffer)) l
          (gives_block buffer block (record (with_turn turn turns old) {
            board = new_board;
            pool =
                new_pool;
            listing = old.listing ++ op.Fence n ∷ [];
            fence = max old.fence n;
          })) in
          taken_count c ≤ c.fence)
      by [] = more
      by (x ∷ xs) = more
