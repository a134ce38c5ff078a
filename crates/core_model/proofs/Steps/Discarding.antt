-- A map that discards: the buffer takes another block, and the open chunk retires the one that it had.
use Rattle.std.proofs.Common.{◌≡◌, ℕ, suc, ◌-◌, ◌<◌, ◌≤◌, Bool, true, false, cond, max, ◌&&◌, ◌==◌, nat_le, nat_lt}
use Rattle.std.proofs.Common.{List, [], ◌∷◌, ◌++◌, length, refl, sym, ap, ◌∙◌, subst, inl, inr, Option, Some, None}
use Rattle.std.proofs.Common.{arith}
use Rattle.std.proofs.lemmas.Bool.{both_ways, cases_Bool, eqb-true, eq-eqb, leb-true}
use Rattle.dx_types.specs.declared.range.Range.{Range}
use Rattle.vk_types.specs.declared.message.Placed.{Placed}
use Rattle.vk_types.specs.declared.op.VkOp.{VkOp}
use Rattle.vk_types.specs.Entries.{Entry}
use Rattle.vk_types.specs.Memory.{covers, range, number_at}
use Rattle.vk_types.specs.Effects.{Meaning, Host_write}
use Rattle.vk_types.proofs.Local.{covered}
use Rattle.core_model.specs.Script.{Discard, Turn, Item, Script, InOrder, padded, at_start, turn_in_order, in_order}
use Rattle.core_model.specs.Chunking.{is_due}
use Rattle.core_model.specs.CoreState.{Owner, Board, Pool, Core, taken_count, finished_count, open_number}
use Rattle.core_model.specs.Readings.{Reading}
use Rattle.core_model.specs.Owners.{retire_owner, is_block, retired}
use Rattle.core_model.specs.Adding.{with_turn, with_write, new_entry, with_placed, placed_at, fenced, gives_block}
use Rattle.core_model.specs.Adding.{retired_by}
use Rattle.core_model.specs.AppActs.{TakesTurn}
use Rattle.core_model.specs.Lawful.{PlaysRightly, IsLawful}
use Rattle.core_model.specs.Invariant.{Allows, IsSince, IsLive, Good}
use Rattle.core_model.specs.Kept.{Kept}
use Rattle.core_model.proofs.Steps.Destroying.{retired_allows, retired_since}
use Rattle.core_model.proofs.Steps.Padding.{padded_long}
use Rattle.core_model.proofs.Steps.Giving.{IsVacant, vacant_since, vacant_lives, stocked, vacant, has_parts, Fenced}
use Rattle.core_model.proofs.Steps.Giving.{same_fence, more_fence, given, filled, Fills, fills_none, fills_bytes, had}
use Rattle.core_model.proofs.Steps.Giving.{had_opened, had_meets}
use Rattle.core_model.proofs.Steps.Opened.{Opened}
use Rattle.core_model.proofs.Steps.Taking.{Meets, met, taken_good}
use Rattle.vk_types.specs.declared.op.VkOp.TheVariants as op

-- a buffer has no byte of another's range
pub elsewhere : (buffer to r i : ℕ) → (r == buffer) ≡ false → covers (range buffer 0 to) r i ≡ false
elsewhere buffer to r i n =
    let other : (buffer == r) ≡ false = elim (cases_Bool (buffer == r))
    [ inl t ↦ absurd (both_ways (r == buffer) n (eq-eqb r buffer (sym (eqb-true buffer r t)))) | inr f ↦ f ] in
    ap (λ c. c && (nat_le 0 i && nat_lt i to)) other

-- a block that is not the buffer's is not retired with it
pub not_retired : (o : Option ℕ) (c b : ℕ) → o ≡ Some c → (b ≡ c → ⊥) → is_block o b ≡ false
not_retired o c b e n = ap (λ o. is_block o b) e ∙ (let d : (b == c) ≡ false =
    elim (cases_Bool (b == c)) [ inl t ↦ absurd (n (eqb-true b c t)) | inr f ↦ f ] in d)

module _ (meaning : Meaning) (reading : Reading) (script : Script) (lawful : IsLawful meaning script) (old : Core)
    (call item : ℕ) (ends : Bool) (buffer from : ℕ) (bytes : List ℕ) (bound : List Range)
    (turns : List Turn) (e : old.future ≡ Item call item ends (Discard buffer from bytes) bound ∷ turns)
    (due : is_due script old.open_chunk.turns old.future ≡ false) (k : Kept meaning reading script old)
    (block : ℕ) (board : Board) (pool : Pool) (empty_block : IsVacant (old.owner block)) where
  abbrev turn : Turn
  turn = Item call item ends (Discard buffer from bytes) bound

  abbrev before : InOrder
  before = in_order meaning script old.past at_start

  abbrev size : ℕ
  size = script.size buffer

  abbrev own : ℕ → Owner
  own = retired (old.blocks buffer) (open_number old) old.owner

  rightly : PlaysRightly meaning script old.past call (Discard buffer from bytes)
  rightly = lawful.plays old.past call item ends (Discard buffer from bytes) bound turns
      (sym (ap (λ l. old.past ++ l) (sym e) ∙ k.good.sound.position))

  m : Meets meaning script old before
  m = met meaning reading script old k.good

  -- the block that it had
  had_block : (b : ℕ) × (old.blocks buffer ≡ Some b)
  had_block = k.good.stands.has_block buffer rightly.0.0

  other : block ≡ had_block.0 → ⊥
  other same = vacant_lives buffer (old.owner block) empty_block
      (subst (λ b. IsLive buffer (old.owner b)) (sym same) (k.good.live buffer had_block.0 had_block.1))

  pub own_here : own block ≡ old.owner block
  own_here = ap (λ c. cond c (retire_owner (open_number old) (old.owner block)) (old.owner block))
      (not_retired (old.blocks buffer) had_block.0 block had_block.1 other)

  live_own : (r b : ℕ) → old.blocks r ≡ Some b → (r == buffer) ≡ false → IsLive r (own b)
  live_own r b is n =
      subst (λ c. IsLive r (cond c (retire_owner (open_number old) (old.owner b)) (old.owner b)))
      (sym (not_retired (old.blocks buffer) had_block.0 b had_block.1
      (λ same. both_ways (r == buffer) n (eq-eqb r buffer
      (k.good.stands.own r buffer b is (had_block.1 ∙ ap Some (sym same)))))))
      (k.good.live r b is)

  not_staging : script.is_staging buffer ≡ true → ⊥
  not_staging t = let c = rightly.1 in let z : None ≡ Some c.0 = sym (lawful.staging buffer t) ∙ c.1 in cc z

  -- the state, with a fence or none, and these bytes
  abbrev stands_with : List VkOp → ℕ → List ℕ → Core
  stands_with listing fence l =
      with_placed (placed_at call item (Some block) (old.blocks buffer) None)
      (with_write call (range block 0 size) l
      (gives_block buffer block (record (with_turn turn turns old) {
        board = board;
        pool = pool;
        owner =
            own;
        listing = listing;
        fence = fence;
      })))

  module _ (listing : List VkOp) (fence : ℕ) (fences : Fenced old listing fence)
      (finished : retired_by (old.owner block) ≤ fence) where
    abbrev placed : List Placed
    placed = old.open_chunk.placed ++ placed_at call item (Some block) (old.blocks buffer) None ∷ []

    keep : (b i chunk : ℕ) → chunk ≤ open_number old → Allows (taken_count old) (finished_count old) (old.owner b) i
        chunk → Allows (taken_count old) (finished_count old) (own b) i chunk
    keep b i chunk l = retired_allows (old.blocks buffer) (taken_count old) (finished_count old) (open_number old) i
        chunk old.owner b l

    since : (b : ℕ) → IsSince (finished_count old) (own b)
    since b = retired_since (old.blocks buffer) (finished_count old) (open_number old) old.owner b
        (k.good.sound.since b)

    -- once its block is filled
    module _ (l : List ℕ) (q : padded from bytes size ≡ l) (writes : List Entry) (listing' : List VkOp)
        (contents : List (List ℕ)) (host_acts : ℕ)
        (f : Fills meaning reading script old k turn turns placed buffer block board pool own listing fence keep
        since fences empty_block own_here finished size l
        (filled meaning reading script old k turn turns placed buffer block board pool own listing fence keep since
        fences empty_block own_here finished writes listing' contents host_acts size l)) where
      abbrev done : Core
      done =
          had meaning reading script old k turn turns placed buffer block board pool own listing fence keep since
          fences empty_block own_here finished writes listing' contents host_acts size l f
          old.copies old.is_staging f.opened.grows (λ b n. refl) (λ t. absurd (not_staging t))
          (λ t. absurd (not_staging t))

      done_opened : Opened meaning script done
      done_opened =
          had_opened meaning reading script old k turn turns placed buffer block board pool own listing fence keep
          since fences empty_block own_here finished writes listing' contents host_acts size l f
          old.copies old.is_staging f.opened.grows (λ b n. refl) (λ t. absurd (not_staging t))
          (λ t. absurd (not_staging t))

      done_meets : Meets meaning script done (turn_in_order meaning script turn before)
      done_meets =
          had_meets meaning reading script old k turn turns placed buffer block board pool own listing fence keep
          since fences empty_block own_here finished writes listing' contents host_acts size l f
          old.copies old.is_staging f.opened.grows (λ b n. refl) (λ t. absurd (not_staging t))
          (λ t. absurd (not_staging t))
          (turn_in_order meaning script turn before) m rightly.0.0 (λ r n. refl)
          (λ i u.
          f.here i u ∙ ap (λ l. number_at l i) (sym q)
          ∙ sym (ap (λ c. cond c (number_at (padded from bytes size) (i - 0)) (before.bytes buffer i))
          (covered (range buffer 0 size) buffer i refl (omega arith) u)
          ∙ ap (number_at (padded from bytes size)) (omega arith)))
          (λ r i n. ap (λ c. cond c (number_at (padded from bytes size) (i - 0)) (before.bytes r i))
          (elsewhere buffer size r i n))
          refl live_own

      done_good : Good meaning reading script done
      done_good = taken_good meaning reading script old done turn turns e due refl refl refl refl k.good done_opened
          done_meets

    by_bytes : (l : List ℕ) → padded from bytes size ≡ l → Good meaning reading script (stands_with listing fence l)
    by_bytes [] q =
        let long = padded_long from bytes size rightly.0.1 in
        let none : 0 ≡ size = ap length (sym q) ∙ long in
        done_good [] q old.open_chunk.writes listing old.contents old.host_acts
        (subst (λ n. Fills meaning reading script old k turn turns placed buffer block board pool own listing fence
        keep since fences empty_block own_here finished n []
        (given meaning reading script old k turn turns placed buffer block board pool own listing fence keep since
        fences empty_block own_here finished)) none
        (fills_none meaning reading script old k turn turns placed buffer block board pool own listing fence keep
        since fences empty_block own_here finished []))
    by_bytes (x ∷ xs) q =
        let long = padded_long from bytes size rightly.0.1 in
        let same : length (x ∷ xs) ≡ size = ap length (sym q) ∙ long in
        let c = given meaning reading script old k turn turns placed buffer block board pool own listing fence keep
        since fences empty_block own_here finished in
        done_good (x ∷ xs) q (old.open_chunk.writes ++ new_entry c (Host_write (range block 0 size) (x ∷ xs)) ∷ [])
        (listing ++ op.HostWrite (range block 0 size) call ∷ [])
        (old.contents ++ (x ∷ xs) ∷ []) (suc old.host_acts)
        (fills_bytes meaning reading script old k turn turns placed buffer block board pool own listing fence keep
        since fences empty_block own_here finished call size (x ∷ xs) same
        (let z : 0 < size = omega (arith, same) in z))

  -- with a fence where the block's last chunk is above the posts taken
  discarded_good : (c : Bool) → nat_le (retired_by (old.owner block)) (taken_count old) ≡ c
      → Good meaning reading script (with_placed (placed_at call item (Some block) (old.blocks buffer) None)
      (with_write call (range block 0 size) (padded from bytes size)
      (gives_block buffer block (cond c (record (with_turn turn turns old) { board = board; pool = pool; owner = own })
      (record (with_turn turn turns old) {
        board = board;
        pool = pool;
        owner = own;
        listing = old.listing ++ op.Fence (retired_by (old.owner block)) ∷ [];
        fence = max old.fence (retired_by (old.owner block));
      })))))
  discarded_good true d =
      let l = leb-true (retired_by (old.owner block)) (taken_count old) d in
      let f = k.fenced in
      by_bytes old.listing old.fence (same_fence meaning reading script old k.good) (omega (arith, l, f))
      (padded from bytes size) refl
  discarded_good false d =
      let n = retired_by (old.owner block) in
      by_bytes (old.listing ++ op.Fence n ∷ []) (max old.fence n)
      (more_fence meaning reading script old k.good n (vacant_since (finished_count old) (old.owner block)
      empty_block (k.good.sound.since block)))
      (omega arith) (padded from bytes size) refl

pub discard_good : (meaning : Meaning) (reading : Reading) (script : Script) → IsLawful meaning script
    → (old : Core) (call item : ℕ) (ends : Bool) (buffer from : ℕ) (bytes : List ℕ) (bound : List Range)
    (turns : List Turn) (new : Core) → old.future ≡ Item call item ends (Discard buffer from bytes) bound ∷ turns
    → is_due script old.open_chunk.turns old.future ≡ false
    → TakesTurn reading script (Item call item ends (Discard buffer from bytes) bound) turns old new
    → Kept meaning reading script old → Good meaning reading script new
discard_good meaning reading script lawful old call item ends buffer from bytes bound turns new e due n k =
    let t = Item call item ends (Discard buffer from bytes) bound in
    let block = n.0 in
    let parts = has_parts reading script buffer block (with_turn t turns old) n.1 n.2 in
    let size = script.size buffer in
    let empty_block = vacant reading script buffer block (with_turn t turns old) n.1 n.2 lawful.classes
    (stocked old k.beside.places) in
    subst (Good meaning reading script)
    (sym (n.3
    ∙ ap (λ mid. with_placed (placed_at call item (Some block) (old.blocks buffer) None)
    (with_write call (range block 0 size) (padded from bytes size)
    (gives_block buffer block (fenced (retired_by (old.owner block))
    (record mid { owner = retired (old.blocks buffer) (open_number old) mid.owner }))))) parts.2))
    (discarded_good meaning reading script lawful old call item ends buffer from bytes bound turns e due k block
    parts.0 parts.1 empty_block (nat_le (retired_by (old.owner block)) (taken_count old)) refl)
