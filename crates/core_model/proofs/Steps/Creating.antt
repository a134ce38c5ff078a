-- A buffer is created: it takes a block, of its class or of its own, and the host writes the whole of it.
use Rattle.std.proofs.Common.{◌≡◌, ℕ, suc, ◌+◌, ◌-◌, ◌<◌, ◌≤◌, Bool, true, false, cond, max, ◌==◌, nat_le, List, []}
use Rattle.std.proofs.Common.{◌∷◌, ◌++◌, length, refl, sym, ap, ◌∙◌, subst, inl, inr, Option, Some, None, arith}
use Rattle.std.proofs.Common.{append-nil}
use mathlib.Core.Path.{fun_ext}
use Rattle.std.specs.List.{AllByRecursion}
use Rattle.std.proofs.lemmas.Bool.{cases_Bool, eqb-true, eq-eqb, leb-true}
use Rattle.dx_types.specs.declared.range.Range.{Range}
use Rattle.vk_types.specs.declared.message.Placed.{Placed}
use Rattle.vk_types.specs.declared.op.VkOp.{VkOp}
use Rattle.vk_types.specs.Memory.{range, number_at}
use Rattle.vk_types.specs.Effects.{Meaning, Host_write, act_touches, is_host}
use Rattle.vk_types.specs.Entries.{Entry}
use Rattle.base_lemmas.proofs.Lists.{all_front, all_back, all_append, all_map, all_both}
use Rattle.vk_types.proofs.Local.{covered}
use Rattle.core_model.specs.Script.{Create, Turn, Item, Script, InOrder, padded, updated, at_start, turn_in_order}
use Rattle.core_model.specs.Script.{in_order}
use Rattle.core_model.specs.Chunking.{is_due}
use Rattle.core_model.specs.CoreState.{Segment, entries, flat, Unmade, Board, Pool, Core, taken_count, finished_count}
use Rattle.core_model.specs.CoreState.{open_number}
use Rattle.core_model.specs.Readings.{Reading}
use Rattle.core_model.specs.Adding.{has_block, with_turn, with_write, new_entry, with_placed, placed_at, fenced}
use Rattle.core_model.specs.Adding.{gives_block, length_by, length_of, retired_by}
use Rattle.core_model.specs.AppActs.{TakesTurn}
use Rattle.core_model.specs.Listed.{IsListed}
use Rattle.core_model.specs.Stands.{touches_block}
use Rattle.core_model.specs.Lawful.{ClassFits, PlaysRightly, IsLawful}
use Rattle.core_model.specs.Invariant.{Allows, KnownIn, IsFilled, Good, listed_acts}
use Rattle.core_model.specs.Kept.{IsMade, Names, Kept}
use Rattle.core_model.proofs.Steps.Idle.{touches_byte}
use Rattle.core_model.proofs.Steps.Padding.{padded_long, padded_at}
use Rattle.core_model.proofs.Steps.Restaging.{SparesEntry, restaged}
use Rattle.core_model.proofs.Steps.Giving.{IsVacant, vacant_since, vacant_buffer, stocked, vacant, own_unmade}
use Rattle.core_model.proofs.Steps.Giving.{has_parts, Fenced, same_fence, more_fence, given, filled, Fills}
use Rattle.core_model.proofs.Steps.Giving.{fills_none, fills_bytes, had, had_opened, had_meets}
use Rattle.core_model.proofs.Steps.Discarding.{elsewhere}
use Rattle.core_model.proofs.Steps.Opened.{before_open, Opened, opened}
use Rattle.core_model.proofs.Steps.Taking.{left_by, Meets, met, taken_good}
use Rattle.vk_types.specs.declared.op.VkOp.TheVariants as op

-- the buffer fits its block
pub size_fits : (script : Script) (buffer : ℕ) → ClassFits script buffer (script.class buffer)
    → script.size buffer ≤ length_of script buffer
size_fits script buffer h = by (script.class buffer) h
  where
    by : (o : Option ℕ) → ClassFits script buffer o → script.size buffer ≤ length_by script buffer o
    by None h = omega (arith)
    by (Some class) h = h.1

module _ (meaning : Meaning) (reading : Reading) (script : Script) (lawful : IsLawful meaning script) (old : Core)
    (call item : ℕ) (ends : Bool) (buffer : ℕ) (bytes : List ℕ) (bound : List Range)
    (turns : List Turn) (e : old.future ≡ Item call item ends (Create buffer bytes) bound ∷ turns)
    (due : is_due script old.open_chunk.turns old.future ≡ false) (k : Kept meaning reading script old)
    (block : ℕ) (board : Board) (pool : Pool) (empty_block : IsVacant (old.owner block))
    (unmade : script.class buffer ≡ None → old.owner block ≡ Unmade) where
  abbrev turn : Turn
  turn = Item call item ends (Create buffer bytes) bound

  abbrev before : InOrder
  before = in_order meaning script old.past at_start

  abbrev L : ℕ
  L = length_of script buffer

  abbrev staging : ℕ → Bool
  staging = updated block (script.is_staging buffer) old.is_staging

  abbrev copies : ℕ → ℕ → ℕ
  copies = updated block (number_at bytes) old.copies

  rightly : PlaysRightly meaning script old.past call (Create buffer bytes)
  rightly = lawful.plays old.past call item ends (Create buffer bytes) bound turns
      (sym (ap (λ l. old.past ++ l) (sym e) ∙ k.good.sound.position))

  m : Meets meaning script old before
  m = met meaning reading script old k.good

  fits : script.size buffer ≤ L
  fits = size_fits script buffer (lawful.classes buffer)

  enough : 0 + length bytes ≤ L
  enough = let a = rightly.1 in let b = fits in omega (arith, a, b)

  -- no chunk binds or touches the block of a staging buffer before
  new_block : script.is_staging buffer ≡ true → old.owner block ≡ Unmade
  new_block st = unmade (lawful.staging buffer st)

  unbound : script.is_staging buffer ≡ true → AllByRecursion (λ s. has_block block s.bound ≡ false)
      (before_open old ++ old.open_chunk ∷ [])
  unbound st =
      let P : Segment → Type 0 = λ s. Names old.is_staging old.owner s.staging s.bound in
      all_map P (λ s. has_block block s.bound ≡ false)
      (λ s made. elim (cases_Bool (has_block block s.bound))
      [ inl t ↦ absurd (let z : IsMade Unmade = subst IsMade (new_block st) (made.1 block t) in z) | inr f ↦ f ])
      (before_open old ++ old.open_chunk ∷ []) (all_append P (before_open old) (old.open_chunk ∷ []) k.beside.named
      (k.beside.named_open, tt))

  spares : old.owner block ≡ Unmade → (x : Entry) → KnownIn old x × IsFilled x
      → SparesEntry block (script.is_staging buffer) old.is_staging x
  spares un x h dev =
      elim (cases_Bool (touches_block x.act block)) [
        | inl t ↦
            let byte = touches_byte block (act_touches x.act) h.1 t in
            absurd (let z : Allows (taken_count old) (finished_count old) Unmade byte.0 x.chunk =
            subst (λ o. Allows (taken_count old) (finished_count old) o byte.0 x.chunk) un
            (h.0.owned dev block byte.0 byte.1) in z)
        | inr f ↦ f
      ]

  was_not : old.is_staging block ≡ false
  was_not = elim (cases_Bool (old.is_staging block)) [
    | inl t ↦ absurd
        (vacant_buffer (old.owner block) empty_block (k.beside.blocks.held block t).0)
    | inr f ↦ f
  ]

  -- the block may be a staging block from now on
  relisted : (listing : List VkOp) (contents : List (List ℕ)) (acts : List Entry)
      → (old.owner block ≡ Unmade → AllByRecursion (SparesEntry block (script.is_staging buffer) old.is_staging) acts)
      → IsListed old.is_staging listing old.open_chunk.ops contents old.recent old.open_chunk.commands
      (open_number old) acts
      → IsListed staging listing old.open_chunk.ops contents old.recent old.open_chunk.commands (open_number old) acts
  relisted listing contents acts free h =
      elim (cases_Bool (script.is_staging buffer)) [
        | inl t ↦
            let un = new_block t in
            let o = opened meaning reading script old k.good.sound in
            restaged block (script.is_staging buffer) old.is_staging listing old.open_chunk.ops contents old.recent
            old.open_chunk.commands (open_number old) acts was_not (free un)
            (let P = SparesEntry block (script.is_staging buffer) old.is_staging in
            let all : AllByRecursion P (entries old.open_chunk) =
            all_map (λ x. KnownIn old x × IsFilled x) P (spares un) (entries old.open_chunk)
            (all_both (KnownIn old) IsFilled (entries old.open_chunk) o.known_open o.filled_open) in
            all_back P old.open_chunk.writes old.open_chunk.commands
            (all_back P old.open_chunk.reads (old.open_chunk.writes ++ old.open_chunk.commands) all))
            h
        | inr f ↦
            subst (λ s. IsListed s listing old.open_chunk.ops contents old.recent old.open_chunk.commands
            (open_number old) acts)
            (fun_ext (λ b.
            elim (cases_Bool (b == block)) [
              | inl t ↦ ap old.is_staging (eqb-true b block t) ∙ was_not ∙ sym f
                  ∙ ap (λ c. cond c (script.is_staging buffer) (old.is_staging b)) (sym t)
              | inr n ↦ ap (λ c. cond c (script.is_staging buffer) (old.is_staging b)) (sym n)
            ]))
            h
      ]

  -- the host acts of the open chunk, and all before it
  spared_acts : (ws : List Entry) → AllByRecursion (λ x. is_host x.act ≡ true) ws → old.owner block ≡ Unmade
      → AllByRecursion (SparesEntry block (script.is_staging buffer) old.is_staging)
      (flat (before_open old) ++ (old.open_chunk.reads ++ (old.open_chunk.writes ++ ws)))
  spared_acts ws host un =
      let o = opened meaning reading script old k.good.sound in
      let P = SparesEntry block (script.is_staging buffer) old.is_staging in
      let Q : Entry → Type 0 = λ x. KnownIn old x × IsFilled x in
      let opens : AllByRecursion P (entries old.open_chunk) =
      all_map Q P (spares un) (entries old.open_chunk) (all_both (KnownIn old) IsFilled (entries old.open_chunk)
      o.known_open o.filled_open) in
      all_append P (flat (before_open old)) (old.open_chunk.reads ++ (old.open_chunk.writes ++ ws))
      (all_map Q P (spares un) (flat (before_open old)) (all_both (KnownIn old) IsFilled (flat (before_open old))
      o.known o.filled))
      (all_append P old.open_chunk.reads (old.open_chunk.writes ++ ws)
      (all_front P old.open_chunk.reads (old.open_chunk.writes ++ old.open_chunk.commands) opens)
      (all_append P old.open_chunk.writes ws (all_front P old.open_chunk.writes old.open_chunk.commands
      (all_back P old.open_chunk.reads (old.open_chunk.writes ++ old.open_chunk.commands) opens))
      (all_map (λ x. is_host x.act ≡ true) P (λ x h d. absurd (let z : true ≡ false = sym h ∙ d in cc z)) ws host)))

  -- the state, with a fence or none, and these bytes
  abbrev stands_with : List VkOp → ℕ → List ℕ → Core
  stands_with listing fence l =
      with_placed (placed_at call item (Some block) None None)
      (record (with_write call (range block 0 L) l
      (gives_block buffer block (record (with_turn turn turns old) {
        board = board;
        pool = pool;
        listing =
            listing;
        fence = fence;
      })))
      { copies = copies; is_staging = staging })

  module _ (listing : List VkOp) (fence : ℕ) (fences : Fenced old listing fence)
      (finished : retired_by (old.owner block) ≤ fence) where
    abbrev placed : List Placed
    placed = old.open_chunk.placed ++ placed_at call item (Some block) None None ∷ []

    keep : (b i chunk : ℕ) → chunk ≤ open_number old → Allows (taken_count old) (finished_count old) (old.owner b) i
        chunk → Allows (taken_count old) (finished_count old) (old.owner b) i chunk
    keep b i chunk l a = a

    -- once its block is filled
    module _ (l : List ℕ) (q : padded 0 bytes L ≡ l) (writes : List Entry) (listing' : List VkOp)
        (contents : List (List ℕ)) (host_acts : ℕ)
        (f : Fills meaning reading script old k turn turns placed buffer block board pool old.owner listing fence
        keep k.good.sound.since fences empty_block refl finished L l
        (filled meaning reading script old k turn turns placed buffer block board pool old.owner listing fence keep
        k.good.sound.since fences empty_block refl finished writes listing' contents host_acts L l))
        (relists : IsListed staging listing' old.open_chunk.ops contents old.recent old.open_chunk.commands
        (open_number old) (flat (before_open old) ++ (old.open_chunk.reads ++ writes))) where
      -- the block begins with the bytes, and 0 behind them
      begins : (i : ℕ) → i < script.size buffer → number_at bytes i ≡ number_at l i
      begins i u = sym (padded_at bytes (L - (0 + length bytes)) i) ∙ ap (λ l. number_at l i) q

      copies_other : (b : ℕ) → (block ≡ b → ⊥) → copies b ≡ old.copies b
      copies_other b n =
          let d : (b == block) ≡ false = elim (cases_Bool (b == block))
          [ inl t ↦ absurd (n (sym (eqb-true b block t))) | inr f ↦ f ] in
          ap (λ c. cond c (number_at bytes) (old.copies b)) d

      copied : script.is_staging buffer ≡ true → (i : ℕ) → i < script.size buffer
          → copies block i
          ≡ (left_by meaning (filled meaning reading script old k turn turns placed buffer block board pool
          old.owner listing fence keep k.good.sound.since fences empty_block refl finished writes listing'
          contents host_acts L l)).memory block i
      copied st i u =
          ap (λ c. cond c (number_at bytes) (old.copies block) i) (eq-eqb block block refl) ∙ begins i u
          ∙ sym (f.here i (let z = fits in omega (arith, u, z)))

      abbrev done : Core
      done =
          had meaning reading script old k turn turns placed buffer block board pool old.owner listing fence keep
          k.good.sound.since fences empty_block refl finished writes listing' contents host_acts L l f
          copies staging relists copies_other copied unbound

      done_opened : Opened meaning script done
      done_opened =
          had_opened meaning reading script old k turn turns placed buffer block board pool old.owner listing fence
          keep k.good.sound.since fences empty_block refl finished writes listing' contents host_acts L l f
          copies staging relists copies_other copied unbound

      done_meets : Meets meaning script done (turn_in_order meaning script turn before)
      done_meets =
          had_meets meaning reading script old k turn turns placed buffer block board pool old.owner listing fence
          keep k.good.sound.since fences empty_block refl finished writes listing' contents host_acts L l f
          copies staging relists copies_other copied unbound
          (turn_in_order meaning script turn before) m
          (ap (λ c. cond c true (before.live buffer)) (eq-eqb buffer buffer refl))
          (λ r n. ap (λ c. cond c true (before.live r)) n)
          (λ i u.
          f.here i (let z = fits in omega (arith, u, z)) ∙ sym (begins i u)
          ∙ sym (ap (λ c. cond c (number_at bytes (i - 0)) (before.bytes buffer i))
          (covered (range buffer 0 (script.size buffer)) buffer i refl (omega arith) u)
          ∙ ap (number_at bytes) (omega arith)))
          (λ r i n. ap (λ c. cond c (number_at bytes (i - 0)) (before.bytes r i))
          (elsewhere buffer (script.size buffer) r i n))
          refl (λ r b is n. k.good.live r b is)

      done_good : Good meaning reading script done
      done_good = taken_good meaning reading script old done turn turns e due refl refl refl refl k.good done_opened
          done_meets

    by_bytes : (l : List ℕ) → padded 0 bytes L ≡ l → Good meaning reading script (stands_with listing fence l)
    by_bytes [] q =
        let long = padded_long 0 bytes L enough in
        let none : 0 ≡ L = ap length (sym q) ∙ long in
        done_good [] q old.open_chunk.writes listing old.contents old.host_acts
        (subst (λ n. Fills meaning reading script old k turn turns placed buffer block board pool old.owner listing
        fence keep k.good.sound.since fences empty_block refl finished n []
        (given meaning reading script old k turn turns placed buffer block board pool old.owner listing fence keep
        k.good.sound.since fences empty_block refl finished)) none
        (fills_none meaning reading script old k turn turns placed buffer block board pool old.owner listing fence
        keep k.good.sound.since fences empty_block refl finished []))
        (relisted listing old.contents (listed_acts old)
        (λ un. subst (λ l. AllByRecursion (SparesEntry block (script.is_staging buffer) old.is_staging)
        (flat (before_open old) ++ (old.open_chunk.reads ++ l))) (append-nil old.open_chunk.writes)
        (spared_acts [] tt un))
        fences.listed)
    by_bytes (x ∷ xs) q =
        let long = padded_long 0 bytes L enough in
        let same : length (x ∷ xs) ≡ L = ap length (sym q) ∙ long in
        let c = given meaning reading script old k turn turns placed buffer block board pool old.owner listing fence
        keep k.good.sound.since fences empty_block refl finished in
        let w = new_entry c (Host_write (range block 0 L) (x ∷ xs)) in
        let f = fills_bytes meaning reading script old k turn turns placed buffer block board pool old.owner listing
        fence keep k.good.sound.since fences empty_block refl finished call L (x ∷ xs) same
        (let z : 0 < L = omega (arith, same) in z) in
        done_good (x ∷ xs) q (old.open_chunk.writes ++ w ∷ []) (listing ++ op.HostWrite (range block 0 L) call ∷ [])
        (old.contents ++ (x ∷ xs) ∷ []) (suc old.host_acts) f
        (relisted (listing ++ op.HostWrite (range block 0 L) call ∷ []) (old.contents ++ (x ∷ xs) ∷ [])
        (flat (before_open old) ++ (old.open_chunk.reads ++ (old.open_chunk.writes ++ w ∷ [])))
        (spared_acts (w ∷ []) (refl, tt)) f.opened.grows)

  created_good : (c : Bool) → nat_le (retired_by (old.owner block)) (taken_count old) ≡ c
      → Good meaning reading script (with_placed (placed_at call item (Some block) None None)
      (record (with_write call (range block 0 L) (padded 0 bytes L)
      (gives_block buffer block (cond c (record (with_turn turn turns old) { board = board; pool = pool })
      (record (with_turn turn turns old) {
        board = board;
        pool = pool;
        listing = old.listing ++ op.Fence (retired_by (old.owner block)) ∷ [];
        fence = max old.fence (retired_by (old.owner block));
      }))))
      { copies = copies; is_staging = staging }))
  created_good true d =
      let l = leb-true (retired_by (old.owner block)) (taken_count old) d in
      let f = k.fenced in
      by_bytes old.listing old.fence (same_fence meaning reading script old k.good) (omega (arith, l, f))
      (padded 0 bytes L) refl
  created_good false d =
      let n = retired_by (old.owner block) in
      by_bytes (old.listing ++ op.Fence n ∷ []) (max old.fence n)
      (more_fence meaning reading script old k.good n (vacant_since (finished_count old) (old.owner block)
      empty_block (k.good.sound.since block)))
      (omega arith) (padded 0 bytes L) refl

pub create_good : (meaning : Meaning) (reading : Reading) (script : Script) → IsLawful meaning script
    → (old : Core) (call item : ℕ) (ends : Bool) (buffer : ℕ) (bytes : List ℕ) (bound : List Range)
    (turns : List Turn) (new : Core) → old.future ≡ Item call item ends (Create buffer bytes) bound ∷ turns
    → is_due script old.open_chunk.turns old.future ≡ false
    → TakesTurn reading script (Item call item ends (Create buffer bytes) bound) turns old new
    → Kept meaning reading script old → Good meaning reading script new
create_good meaning reading script lawful old call item ends buffer bytes bound turns new e due n k =
    let t = Item call item ends (Create buffer bytes) bound in
    let block = n.0 in
    let parts = has_parts reading script buffer block (with_turn t turns old) n.1 n.2 in
    let L = length_of script buffer in
    let s = stocked old k.beside.places in
    subst (Good meaning reading script)
    (sym (n.3
    ∙ ap (λ mid. with_placed (placed_at call item (Some block) None None)
    (record (with_write call (range block 0 L) (padded 0 bytes L)
    (gives_block buffer block (fenced (retired_by (old.owner block)) mid))) {
      copies = updated block (number_at bytes) mid.copies;
      is_staging =
          updated block (script.is_staging buffer) mid.is_staging;
    })) parts.2))
    (created_good meaning reading script lawful old call item ends buffer bytes bound turns e due k block parts.0
    parts.1
    (vacant reading script buffer block (with_turn t turns old) n.1 n.2 lawful.classes s)
    (λ none. own_unmade reading script buffer block (with_turn t turns old) n.1 n.2 none s)
    (nat_le (retired_by (old.owner block)) (taken_count old)) refl)
