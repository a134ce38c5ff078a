-- What messages that stand behind one another use and hold, by their heads alone.
use Rattle.std.specs.Prelude.{◌≡◌, ℕ, suc, ◌≤◌, Bool, true, false, not, ◌&&◌, ◌||◌, List, [], ◌∷◌, ◌++◌, length, map}
use Rattle.std.specs.Prelude.{take, drop, Some, ◌⊎◌}
use Rattle.std.specs.List.{list_any}
use Rattle.vk_types.specs.declared.message.Placed.{Placed}
use Rattle.dx_types.specs.declared.range.Range.{Range}
use Rattle.core_model.specs.Script.{Script}
use Rattle.core_model.specs.Chunking.{chunk_turns}
use Rattle.core_model.specs.CoreState.{somes}
use Rattle.core_model.specs.Owners.{is_block}
use Rattle.core_model.specs.Batching.{Made, made}
use Rattle.core_model.specs.Succession.{Head, Log, FollowsHead, takes, stages_in, all_places, staged_ranges}
use Rattle.core_model.specs.Succession.{taken_lengths, places_in}

-- each message may stand behind those before it
abbrev pub Succeeds : Log → List Head → Type 0
Succeeds log hs = (front : List Head) (h : Head) (back : List Head) → hs ≡ front ++ h ∷ back → FollowsHead log front h

-- what the last of these messages makes, behind the others
abbrev pub made_of : Log → List Head → Made
made_of log hs = made log.script (places_in hs)

-- an item among these gave the block up
abbrev pub gives_up : ℕ → List Placed → Bool
gives_up b ps = list_any (λ p. is_block p.mark b) ps

-- a block that a message may use: one that it took, one where it staged bytes, or that of a buffer which lived before
-- it
abbrev pub MayUse : Log → List Head → Head → ℕ → Type 0
MayUse log front h b =
    (takes b h.placed ≡ true) ⊎ ((stages_in b h.placed ≡ true) ⊎ ((r : ℕ) × ((made_of log front).blocks r ≡ Some b)))

-- the block is held: an item took it, and since then none took it again and none gave it up
pub record IsHeldBy (places : List Placed) (b : ℕ) : Type 0 where
  pub front : List Placed
  pub place : Placed
  pub back : List Placed
  pub split : places ≡ front ++ place ∷ back
  pub took : place.block ≡ Some b
  pub once : takes b back ≡ false
  pub kept : gives_up b back ≡ false

-- How far uses go --------------------------------------------------------------------------------------------------

-- the block stands in the one list where the length stands in the other
abbrev pub IsAsLong : ℕ → ℕ → List ℕ → List ℕ → Type 0
IsAsLong b n [] ns = ⊥
IsAsLong b n (c ∷ bs) [] = ⊥
IsAsLong b n (c ∷ bs) (m ∷ ns) = ((c ≡ b) × (m ≡ n)) ⊎ IsAsLong b n bs ns

-- an item of message k took the block, with this length
abbrev pub TakesWith : Script → ℕ → Head → ℕ → ℕ → Type 0
TakesWith script k h b n = IsAsLong b n (somes (map (λ p. p.block) h.placed))
    (taken_lengths script (chunk_turns script k))

-- the range ends inside what the message may use: a page, as far as a range goes that it staged there, a block that it
-- took, or the block of a buffer that lived before it
abbrev pub IsInside : Log → List Head → Head → Range → Type 0
IsInside log front h r =
    ((before : List Range) × (q : Range) × (after : List Range) × (staged_ranges h.placed ≡ before ++ q ∷ after)
    × (q.block ≡ r.block) × (r.to ≤ q.to))
    ⊎ (((n : ℕ) × TakesWith log.script (suc (length front)) h r.block n × (r.to ≤ n))
    ⊎ ((buffer : ℕ) × ((made_of log front).blocks buffer ≡ Some r.block) × (r.to ≤ log.script.size buffer)))

-- the block has this length behind the messages: an item of one of them took it so, and no later one took it
pub record IsLong (log : Log) (hs : List Head) (b n : ℕ) : Type 0 where
  pub before : List Head
  pub at : Head
  pub behind : List Head
  pub split : hs ≡ before ++ at ∷ behind
  pub taken : TakesWith log.script (suc (length before)) at b n
  pub once : takes b (all_places (places_in behind)) ≡ false

-- Blocks that a device holds ------------------------------------------------------------------------------------------

-- an item of the message took the block, or staged bytes in it
abbrev pub has_place : ℕ → List Placed → Bool
has_place b ps = takes b ps || stages_in b ps

-- the block is held behind messages that were completed, if it was before them or not: one of them took it, and none
-- then gave it up
abbrev pub held_done : ℕ → List (List Placed) → Bool → Bool
held_done b [] held = held
held_done b (ps ∷ pss) held = held_done b pss ((held || takes b ps) && not (gives_up b ps))

-- a device that accepted these messages, and completed the first n of them, holds the block: of those that were
-- completed it has what none gave up, of the others all that they took and their pages
abbrev pub holds_block : ℕ → List (List Placed) → ℕ → Bool
holds_block n pss b = held_done b (take n pss) false || list_any (has_place b) (drop n pss)

-- what a message takes, or stages bytes in, a device didn't hold that accepted those before it and completed so many
abbrev pub TakesUnheld : ℕ → List (List Placed) → Type 0
TakesUnheld completed pss =
    (front : List (List Placed)) (here : List Placed) (back : List (List Placed)) → pss ≡ front ++ here ∷ back
    → (b : ℕ) → has_place b here ≡ true → holds_block completed front b ≡ false

-- the range ends inside its block: a page, as far as a message with these places staged bytes there, or a block as long
-- as it was when one of the messages took it that took it last
abbrev pub EndsInBlock : Log → List Head → List Placed → Range → Type 0
EndsInBlock log hs here r =
    ((before : List Range) × (q : Range) × (after : List Range) × (staged_ranges here ≡ before ++ q ∷ after)
    × (q.block ≡ r.block) × (r.to ≤ q.to))
    ⊎ ((n : ℕ) × IsLong log hs r.block n × (r.to ≤ n))
