-- Messages that stand for chunks follow those before them: their numbers, items, places, pages and blocks.
use Rattle.std.proofs.Common.{◌≡◌, ℕ, zero, suc, ◌+◌, ◌-◌, ◌*◌, ◌<◌, ◌≤◌, false, cond, nat_lt, List, [], ◌∷◌, ◌++◌}
use Rattle.std.proofs.Common.{length, map, take, refl, sym, ap, ◌∙◌, subst, inl, inr, Option, Some, None, slice_get}
use Rattle.std.proofs.Common.{arith, append_assoc, length-append}
use Rattle.std.specs.List.{AllByRecursion}
use Rattle.std.proofs.lemmas.Bool.{cases_Bool, ltb-true, lt-ltb}
use Rattle.dx_types.specs.Classes.{class_length}
use Rattle.buffer_blocks.specs.declared.block.Block.{Block}
use Rattle.buffer_blocks.specs.Block.{bytes_of}
use Rattle.vk_types.specs.declared.message.Placed.{Placed}
use Rattle.core_model.specs.Script.{Create, Discard, No_overwrite, Stage, Command, Destroy, Create_shader, Mark_query}
use Rattle.core_model.specs.Script.{Set_state, Turn, Refused, Passed, Flushed, Asked, Item, Script}
use Rattle.core_model.specs.Chunking.{chunks, chunk_turns, last_call, items, joined}
use Rattle.core_model.specs.Renaming.{BlockMap}
use Rattle.core_model.specs.CoreState.{Page, Segment, somes}
use Rattle.core_model.specs.Batching.{Made, nothing_made, made, batch_ops}
use Rattle.core_model.specs.Invariant.{turns_of}
use Rattle.core_model.specs.Messages.{head_behind, heads_behind, heads, page_of, block_length, takers, AreAsLong}
use Rattle.core_model.specs.Messages.{AreTaken}
use Rattle.core_model.specs.Adding.{length_by}
use Rattle.core_model.specs.Succession.{Head, IsOfClass, IsOfChunk, FollowsHead, GivesBlocks, TakesLawfully}
use Rattle.core_model.specs.Succession.{StagesApart, HasPages, HasBlocks, Log, all_places, class_of, taken_lengths}
use Rattle.core_model.specs.Succession.{staged_ranges, turns_upto}
use Rattle.core_model.proofs.Steps.Segments.{turns_of-append, turns_length}
use Rattle.core_model.proofs.Messages.ScriptChunks.{turns_there, upto_there}
use Rattle.core_model.proofs.Messages.Placements.{GivesTo, gives_blocks, gives_items, GivesLine, line_parts}
use Rattle.core_model.proofs.Messages.Placements.{line_append, line_gives, places_of, places_last}
use Rattle.core_model.proofs.Messages.Succeeding.{no_blocks}
use Rattle.core_model.proofs.Messages.MadeLines.{chunk_made, line_made, AreMadeOf, are_there, IsMadeOf, made_there}
use Rattle.core_model.proofs.Messages.ListedBatches.{line_batches}
use Rattle.core_model.proofs.Messages.PlacedPages.{PlacedRight}
use Rattle.core_model.proofs.Messages.PlacedLines.{ChunkPlaced, LinePlaced, line_there}

-- Heads -------------------------------------------------------------------------------------------------------------

pub heads_placed : (front ss : List Segment) → map (λ h. h.placed) (heads_behind front ss) ≡ places_of ss
heads_placed front [] = refl
heads_placed front (s ∷ ss) = ap (λ l. s.placed ∷ l) (heads_placed (front ++ s ∷ []) ss)

pub heads_length : (front ss : List Segment) → length (heads_behind front ss) ≡ length ss
heads_length front [] = refl
heads_length front (s ∷ ss) = ap suc (heads_length (front ++ s ∷ []) ss)

-- what is known of the chunks that were handed over
pub record Line (script : Script) (ss : List Segment) : Type 0 where
  pub rest : List (List Turn)
  pub chunks : chunks script ≡ turns_of ss ++ rest
  pub blocks : BlockMap
  pub gives : GivesLine script no_blocks ss blocks
  pub made : AreMadeOf script nothing_made ss
  pub placed : LinePlaced [] ss

module _ (script : Script) (front : List Segment) (s : Segment) (back : List Segment)
    (l : Line script (front ++ s ∷ back)) where
  -- the chunk's turns are the log's
  cuts : chunks script ≡ turns_of (front ++ s ∷ []) ++ (turns_of back ++ l.rest)
  cuts =
      l.chunks ∙ ap (λ ts. ts ++ l.rest) (ap turns_of (sym (append_assoc front (s ∷ []) back))
      ∙ turns_of-append (front ++ s ∷ []) back)
      ∙ append_assoc (turns_of (front ++ s ∷ [])) (turns_of back) l.rest

  pub turns_here : chunk_turns script (suc (length front)) ≡ s.turns
  turns_here = turns_there script front s back l.rest l.chunks

  pub made_here : made script (places_of (front ++ s ∷ [])) ≡ chunk_made script s (line_made script front nothing_made)
  made_here = made_there script front s back l.rest l.chunks

  pub is_made_here : IsMadeOf (made script (places_of (front ++ s ∷ []))) s
  is_made_here = subst (λ m. IsMadeOf m s) (sym made_here) (are_there script front s back nothing_made l.made)

  pub placed_here : ChunkPlaced (places_of front) s
  placed_here = line_there [] front s back l.placed

  pub gives_parts : (mid : BlockMap) × GivesLine script no_blocks front mid × GivesLine script mid (s ∷ back) l.blocks
  gives_parts = line_parts script no_blocks l.blocks front (s ∷ back) l.gives

  pub gives_here : GivesTo script s.turns s.placed gives_parts.0 gives_parts.2.0
  gives_here = gives_parts.2.1

  gives_all : GivesTo script (joined (turns_of (front ++ s ∷ []))) (all_places (places_of (front ++ s ∷ [])))
      no_blocks gives_parts.2.0
  gives_all = line_gives script no_blocks gives_parts.2.0 (front ++ s ∷ [])
      (line_append script no_blocks gives_parts.0 gives_parts.2.0 front (s ∷ []) gives_parts.1
      (gives_parts.2.0, gives_parts.2.1, refl))

  there : suc (length front) ≤ length (chunks script)
  there =
      let a : length (chunks script) ≡ length (turns_of (front ++ s ∷ back) ++ l.rest) = ap length l.chunks in
      let b = length-append (turns_of (front ++ s ∷ back)) l.rest in
      let c = turns_length (front ++ s ∷ back) in
      let d = length-append front (s ∷ back) in
      omega (arith, a, b, c, d)

  -- the points of every kind of message
  pub follows_head : (log : Log) → log.script ≡ script → (before : List Head) → before ≡ heads front
      → FollowsHead log before (head_behind front s)
  follows_head log same before e =
      let long : length before ≡ length front = ap length e ∙ heads_length [] front in
      let number : suc (length front) ≡ suc (length before) = ap suc (sym long) in
      let places : map (λ h. h.placed) before ≡ places_of front = ap (map (λ h. h.placed)) e ∙ heads_placed [] front in
      let chunk : IsOfChunk script (suc (length front)) (head_behind front s) = record {
        there = there;
        number = refl;
        upto = ap last_call (sym turns_here);
        items = gives_items script s.turns s.placed gives_parts.0 gives_parts.2.0 gives_here
            ∙ ap items (sym turns_here);
      } in
      record {
        of_chunk = subst (λ z. IsOfChunk z (suc (length before)) (head_behind front s)) (sym same)
            (subst (λ n. IsOfChunk script n (head_behind front s)) number chunk);
        gives_blocks =
            subst (λ z. GivesBlocks z (turns_upto z (suc (length before)))
            (all_places (map (λ h. h.placed) before) ++ s.placed) no_blocks) (sym same)
            (subst (λ n. GivesBlocks script (turns_upto script n)
            (all_places (map (λ h. h.placed) before) ++ s.placed) no_blocks) number
            (subst (λ l. GivesBlocks script (turns_upto script (suc (length front))) (all_places l ++ s.placed)
            no_blocks) (sym places)
            (subst (λ t. GivesBlocks script t (all_places (places_of front) ++ s.placed) no_blocks)
            (sym (upto_there script front s (turns_of back ++ l.rest) cuts))
            (subst (λ l. GivesBlocks script (joined (turns_of (front ++ s ∷ []))) l no_blocks) (places_last front s)
            (gives_blocks script (joined (turns_of (front ++ s ∷ []))) (all_places (places_of (front ++ s ∷ [])))
            no_blocks gives_parts.2.0 gives_all)))));
        takes_lawfully = subst (λ l. TakesLawfully l s.placed) (sym places) placed_here.right.takes;
        stages_apart = subst (λ l. StagesApart l s.placed) (sym places)
            (record { apart = placed_here.right.apart; outside = placed_here.outside });
      }

-- Pages -------------------------------------------------------------------------------------------------------------

page_numbers : (bs : List Block) → map (λ b. b.number) bs ≡ map (λ p. p.block) (map page_of bs)
page_numbers [] = refl
page_numbers (b ∷ bs) = ap (λ l. b.number ∷ l) (page_numbers bs)

all_pages : (P : Page → Type 0) (bs : List Block) → AllByRecursion P (map page_of bs)
    → AllByRecursion (λ b. P (page_of b)) bs
all_pages P [] h = tt
all_pages P (b ∷ bs) h = (h.0, all_pages P bs h.1)

pub has_pages : (earlier : List (List Placed)) (s : Segment) (pages : List Block) → map page_of pages ≡ s.pages
    → PlacedRight earlier s.pages s.placed → HasPages pages s.placed
has_pages earlier s pages e h = record {
  numbers = page_numbers pages ∙ ap (map (λ p. p.block)) e ∙ h.numbers;
  long =
      all_pages (λ p. AllByRecursion (λ r. p.block ≡ r.block → r.to ≤ p.len) (staged_ranges s.placed)) pages
      (subst (AllByRecursion (λ p. AllByRecursion (λ r. p.block ≡ r.block → r.to ≤ p.len) (staged_ranges s.placed)))
      (sym e) h.long);
}

-- Blocks ------------------------------------------------------------------------------------------------------------

class_there : (fuel class b : ℕ) → class < fuel → class * 64 ≤ b → b < class * 64 + 64 → class_of fuel b ≡ class
class_there zero class b l low high = absurd (let z : ⊥ = omega (arith, l) in z)
class_there (suc fuel) zero b l low high = ap (λ c. cond c 0 (suc (class_of fuel (b - 64))))
    (lt-ltb b 64 (omega (arith, high)))
class_there (suc fuel) (suc class) b l low high =
    let far : nat_lt b 64 ≡ false = elim (cases_Bool (nat_lt b 64))
    [ inl t ↦ absurd (let z = ltb-true b 64 t in let w : ⊥ = omega (arith, z, low) in w) | inr f ↦ f ] in
    ap (λ c. cond c 0 (suc (class_of fuel (b - 64)))) far ∙ ap suc
    (class_there fuel class (b - 64) (omega (arith, l)) (omega (arith, low)) (omega (arith, low, high)))

length_there : (script : Script) (buffer b : ℕ) (o : Option ℕ) → IsOfClass o b
    → block_length script buffer b ≡ length_by script buffer o
length_there script buffer b None h = ap (λ c. cond c (class_length (class_of 8 b)) (script.size buffer)) h
length_there script buffer b (Some class) h =
    let low = h.0 in
    let below = ltb-true b 512 h.2 in
    ap (λ c. cond c (class_length (class_of 8 b)) (script.size buffer)) h.2
    ∙ ap class_length (class_there 8 class b (omega (arith, low, below)) h.0 h.1)

-- the blocks that a play takes, and their lengths
abbrev LongAs : Script → List Turn → List Placed → List Block → Type 0
LongAs script ts ps bs = map (λ b. b.number) bs ≡ somes (map (λ p. p.block) ps) → AreAsLong script (takers ts) bs
    → map (λ b. length (bytes_of b)) bs ≡ taken_lengths script ts

none_taken : (script : Script) (ts : List Turn) (p : Placed) (ps : List Placed) (bs : List Block) → p.block ≡ None
    → LongAs script ts ps bs
    → map (λ b. b.number) bs ≡ somes (map (λ p. p.block) (p ∷ ps)) → AreAsLong script (takers ts) bs
    → map (λ b. length (bytes_of b)) bs ≡ taken_lengths script ts
none_taken script ts p ps bs none rec e h = rec (e ∙ ap (λ o. somes (o ∷ map (λ p. p.block) ps)) none) h

one_taken : (script : Script) (ts : List Turn) (p : Placed) (ps : List Placed) (buffer b : ℕ) (bs : List Block)
    → p.block ≡ Some b → IsOfClass (script.class buffer) b → ((bs : List Block) → LongAs script ts ps bs)
    → map (λ b. b.number) bs ≡ somes (map (λ p. p.block) (p ∷ ps)) → AreAsLong script (buffer ∷ takers ts) bs
    → map (λ b. length (bytes_of b)) bs ≡ length_by script buffer (script.class buffer) ∷ taken_lengths script ts
one_taken script ts p ps buffer b bs is class rec e h =
    let x = h.0 in
    let split : x.number ∷ map (λ b. b.number) h.1 ≡ b ∷ somes (map (λ p. p.block) ps) =
    sym (ap (map (λ b. b.number)) h.2) ∙ e ∙ ap (λ o. somes (o ∷ map (λ p. p.block) ps)) is in
    let first : x.number ≡ b = cc split in
    let others : map (λ b. b.number) h.1 ≡ somes (map (λ p. p.block) ps) = cc split in
    ap (map (λ b. length (bytes_of b))) h.2
    ∙ ap (λ n. n ∷ map (λ b. length (bytes_of b)) h.1) (h.3 ∙ ap (block_length script buffer) first
    ∙ length_there script buffer b (script.class buffer) class)
    ∙ ap (λ l. length_by script buffer (script.class buffer) ∷ l) (rec h.1 others h.4)

long_as : (script : Script) (ts : List Turn) (ps : List Placed) (old new : BlockMap) (bs : List Block)
    → GivesTo script ts ps old new → LongAs script ts ps bs
long_as script [] ps old new bs g e h = ap (map (λ b. length (bytes_of b))) h
long_as script (Refused call ∷ ts) ps old new bs g e h = long_as script ts ps old new bs g e h
long_as script (Passed call ∷ ts) ps old new bs g e h = long_as script ts ps old new bs g e h
long_as script (Flushed call ∷ ts) ps old new bs g e h = long_as script ts ps old new bs g e h
long_as script (Asked call ask used may_pend ∷ ts) ps old new bs g e h = long_as script ts ps old new bs g e h
long_as script (Item call item ends (Create buffer bytes) bound ∷ ts) ps old new bs g e h =
    one_taken script ts g.0 g.1 buffer g.4.0 bs g.4.1 g.4.4 (λ bs. long_as script ts g.1 g.3 new bs g.7) (e
    ∙ ap (λ l. somes (map (λ p. p.block) l)) g.2) h
long_as script (Item call item ends (Discard buffer from bytes) bound ∷ ts) ps old new bs g e h =
    one_taken script ts g.0 g.1 buffer g.4.0 bs g.4.1 g.4.4 (λ bs. long_as script ts g.1 g.3 new bs g.7) (e
    ∙ ap (λ l. somes (map (λ p. p.block) l)) g.2) h
long_as script (Item call item ends (No_overwrite buffer from bytes) bound ∷ ts) ps old new bs g e h =
    none_taken script ts g.0 g.1 bs g.4.0.0 (long_as script ts g.1 g.3 new bs g.7) (e
    ∙ ap (λ l. somes (map (λ p. p.block) l)) g.2) h
long_as script (Item call item ends (Stage bytes target skip) bound ∷ ts) ps old new bs g e h =
    none_taken script ts g.0 g.1 bs g.4.0 (long_as script ts g.1 g.3 new bs g.7) (e
    ∙ ap (λ l. somes (map (λ p. p.block) l)) g.2) h
long_as script (Item call item ends (Command w skip) bound ∷ ts) ps old new bs g e h =
    none_taken script ts g.0 g.1 bs g.4.0.0 (long_as script ts g.1 g.3 new bs g.7) (e
    ∙ ap (λ l. somes (map (λ p. p.block) l)) g.2) h
long_as script (Item call item ends (Destroy buffer) bound ∷ ts) ps old new bs g e h =
    none_taken script ts g.0 g.1 bs g.4.0 (long_as script ts g.1 g.3 new bs g.7) (e
    ∙ ap (λ l. somes (map (λ p. p.block) l)) g.2) h
long_as script (Item call item ends Create_shader bound ∷ ts) ps old new bs g e h =
    none_taken script ts g.0 g.1 bs g.4.0.0 (long_as script ts g.1 g.3 new bs g.7) (e
    ∙ ap (λ l. somes (map (λ p. p.block) l)) g.2) h
long_as script (Item call item ends (Mark_query query begins) bound ∷ ts) ps old new bs g e h =
    none_taken script ts g.0 g.1 bs g.4.0.0 (long_as script ts g.1 g.3 new bs g.7) (e
    ∙ ap (λ l. somes (map (λ p. p.block) l)) g.2) h
long_as script (Item call item ends Set_state bound ∷ ts) ps old new bs g e h =
    none_taken script ts g.0 g.1 bs g.4.0.0 (long_as script ts g.1 g.3 new bs g.7) (e
    ∙ ap (λ l. somes (map (λ p. p.block) l)) g.2) h

pub has_blocks : (script : Script) (front : List Segment) (s : Segment) (back : List Segment)
    (l : Line script (front ++ s ∷ back)) (blocks : List Block) (n : ℕ) → n ≡ suc (length front)
    → AreTaken script s blocks
    → HasBlocks script n blocks s.placed
has_blocks script front s back l blocks n e h = record {
  numbers = h.numbers;
  lengths = long_as script s.turns s.placed _ _ blocks (gives_here script front s back l) h.numbers h.lengths
      ∙ ap (taken_lengths script) (sym (turns_here script front s back l))
      ∙ ap (λ n. taken_lengths script (chunk_turns script n)) (sym e);
}

-- Operations --------------------------------------------------------------------------------------------------------

pub batch_there : (script : Script) (k : ℕ) (front : List Segment) (s : Segment) (back : List Segment) (m : Made)
    → slice_get (line_batches script k (front ++ s ∷ back) m) (length front)
    ≡ Some (batch_ops (chunk_made script s (line_made script front m)) (k + length front))
batch_there script k [] s back m = let z : k ≡ k + 0 = omega arith in
    ap (λ n. Some (batch_ops (chunk_made script s m) n)) z
batch_there script k (x ∷ front) s back m =
    let z : suc k + length front ≡ k + suc (length front) = omega arith in
    batch_there script (suc k) front s back (chunk_made script x m)
    ∙ ap (λ n. Some (batch_ops (chunk_made script s (line_made script front (chunk_made script x m))) n)) z

-- the first chunks of the log
pub taken_turns : (xs : List (List Turn)) (t : List Turn) (ys : List (List Turn))
    → take (suc (length xs)) (xs ++ t ∷ ys) ≡ xs ++ t ∷ []
taken_turns [] t ys = refl
taken_turns (x ∷ xs) t ys = ap (λ l. x ∷ l) (taken_turns xs t ys)
