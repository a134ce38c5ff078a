-- Messages that stand for the chunks of a state that steps reach follow those before them.
use Rattle.std.proofs.Common.{◌≡◌, ℕ, suc, ◌+◌, ◌-◌, List, [], ◌∷◌, ◌++◌, length, map, take, refl, sym, ap, ◌∙◌}
use Rattle.std.proofs.Common.{subst, Some, slice_get, arith, append_assoc, append-nil, length-append}
use Rattle.std.specs.List.{AllByRecursion}
use Rattle.buffer_blocks.specs.declared.block.Block.{Block}
use Rattle.vk_types.specs.declared.message.Snap.{Snap}
use Rattle.vk_types.specs.declared.message.Batch.{Batch}
use Rattle.vk_types.specs.declared.message.Completion.{Completion}
use Rattle.vk_types.specs.declared.message.Post.{Post}
use Rattle.vk_types.specs.declared.op.VkOp.{VkOp}
use Rattle.base_lemmas.specs.Lists.{numbers_from}
use Rattle.vk_types.specs.Memory.{zeros}
use Rattle.vk_types.specs.Effects.{Meaning}
use Rattle.vk_types.specs.Entries.{Entry, run_entries}
use Rattle.base_lemmas.proofs.Lists.{all_back, all_map}
use Rattle.core_model.specs.Script.{Turn, Script, at_start, in_order}
use Rattle.core_model.specs.Chunking.{chunks, cut, joined, after_chunk}
use Rattle.core_model.specs.CoreState.{Segment, Message, entries, flat, Core, start, somes, of_messages, of_running}
use Rattle.core_model.specs.Readings.{Reading}
use Rattle.core_model.specs.CoreStep.{Event, Chain}
use Rattle.core_model.specs.Stands.{Stands}
use Rattle.core_model.specs.Batching.{Made, nothing_made, made, batch_ops}
use Rattle.core_model.specs.Batches.{batches}
use Rattle.core_model.specs.Lawful.{IsLawful}
use Rattle.core_model.specs.Invariant.{SnapRight, SnapsRight, turns_of, handed}
use Rattle.core_model.specs.Kept.{Kept}
use Rattle.core_model.specs.Queries.{QueriesRight}
use Rattle.core_model.specs.Messages.{head_behind, heads, page_of, AreTaken, IsChunk, IsBatch, IsCopy, IsCompletion}
use Rattle.core_model.specs.Messages.{IsPost}
use Rattle.core_model.specs.Succession.{Head, Log, ChunkView, FollowsHead, ChunkBy, BatchBy, CompletionBy, PostBy}
use Rattle.core_model.specs.Succession.{HasPages, HasBlocks, IsSnap, batch_head, completion_head, post_head}
use Rattle.core_model.specs.Succession.{values_after, only_class}
use Rattle.core_model.proofs.Listing.Worlds.{flat-append, of_messages-append}
use Rattle.core_model.proofs.Steps.Segments.{messages_length, turns_of-append}
use Rattle.core_model.proofs.Steps.ReadingBack.{map_numbers}
use Rattle.core_model.proofs.Runs.RunsKeepAll.{reached_kept, reached_queries}
use Rattle.core_model.proofs.Messages.Placements.{places_of, places_of_append}
use Rattle.core_model.proofs.Messages.Scenes.{reached_by_kinds, scene, scene_kinds}
use Rattle.core_model.proofs.Messages.MadeLines.{IsMadeOf, chunk_made, line_made}
use Rattle.core_model.proofs.Messages.ListedBatches.{ListsBatches, lists_kinds, line_batches}
use Rattle.core_model.proofs.Messages.PlacedLines.{PlacedCore, placed_kinds}
use Rattle.core_model.proofs.Messages.StoodLines.{IsWhole, blocks_after, LineStood, Stood, stood_kinds, stood_there}
use Rattle.core_model.proofs.Queries.EndValues.{message_values}
use Rattle.core_model.proofs.Messages.Following.{heads_placed, heads_length, Line, made_here, is_made_here}
use Rattle.core_model.proofs.Messages.Following.{placed_here, follows_head, has_pages, has_blocks, batch_there}
use Rattle.core_model.proofs.Messages.Following.{taken_turns}

-- What is known of a state that steps reach -------------------------------------------------------------------------

pub record Facts (meaning : Meaning) (script : Script) (core : Core) : Type 0 where
  pub lists : ListsBatches script core
  pub placed : PlacedCore core
  pub queries : QueriesRight meaning script core

module _ (meaning : Meaning) (reading : Reading) (script : Script) (lawful : IsLawful meaning script)
    (events : List Event) (core : Core)
    (h : Chain meaning reading script (start script) events core) where
  pub kept : Kept meaning reading script core
  kept = reached_kept meaning reading script lawful events core h

  pub known : Facts meaning script core
  known = record {
    lists = reached_by_kinds meaning reading script (ListsBatches script)
        (lists_kinds meaning reading script lawful) lawful events core h;
    placed = reached_by_kinds meaning reading script PlacedCore (placed_kinds meaning reading script lawful) lawful
        events core h;
    queries = reached_queries meaning reading script lawful events core h;
  }

  pub stood : Stood meaning script (scene core)
  stood = reached_by_kinds meaning reading script _ (scene_kinds meaning reading script (Stood meaning script)
      (stood_kinds meaning reading script lawful)) lawful events core h

length_mapped : {A B : Type 0} (f : A → B) (xs : List A) → length (map f xs) ≡ length xs
length_mapped f [] = refl
length_mapped f (x ∷ xs) = ap suc (length_mapped f xs)

module _ (log : Log) (reading : Reading) (core : Core) (k : Kept log.meaning reading log.script core)
    (known : Facts log.meaning log.script core)
    (front : List Segment) (s : Segment) (back : List Segment) (e : handed core ≡ front ++ s ∷ back) where
  line : Line log.script (front ++ s ∷ back)
  line =
      subst (Line log.script) e (record {
        rest = cut log.script core.open_chunk.turns core.future;
        chunks = k.good.sound.cut;
        blocks = known.lists.makes.gives.0;
        gives = known.lists.makes.gives.1;
        made = known.lists.makes.handed;
        placed = known.placed.line;
      })

  abbrev pub number : ℕ
  number = suc (length front)

  long_before : (before : List Head) → before ≡ heads front → suc (length before) ≡ number
  long_before before h = ap suc (ap length h ∙ heads_length [] front)

  -- the places of all messages up to this one
  all_placed : (before : List Head) (m : Head) → before ≡ heads front → m ≡ head_behind front s
      → map (λ h. h.placed) before ++ m.placed ∷ [] ≡ places_of (front ++ s ∷ [])
  all_placed before m h g =
      ap (λ l. l ++ m.placed ∷ []) (ap (map (λ h. h.placed)) h ∙ heads_placed [] front)
      ∙ ap (λ p. places_of front ++ p ∷ []) (ap (λ m. m.placed) g) ∙ sym (places_of_append front (s ∷ []))

  pub follows : (before : List Head) (m : Head) → before ≡ heads front → m ≡ head_behind front s
      → FollowsHead log before m
  follows before m h g = subst (FollowsHead log before) (sym g)
      (follows_head log.script front s back line log refl before h)

  pages_follow : (pages : List Block) (m : Head) → map page_of pages ≡ s.pages → m ≡ head_behind front s
      → HasPages pages m.placed
  pages_follow pages m h g = subst (HasPages pages) (sym (ap (λ m. m.placed) g))
      (has_pages (places_of front) s pages h (placed_here log.script front s back line).right)

  blocks_follow : (blocks : List Block) (before : List Head) (m : Head) → before ≡ heads front
      → m ≡ head_behind front s → AreTaken log.script s blocks
      → HasBlocks log.script (suc (length before)) blocks m.placed
  blocks_follow blocks before m h g t = subst (HasBlocks log.script (suc (length before)) blocks)
      (sym (ap (λ m. m.placed) g)) (has_blocks log.script front s back line blocks (suc (length before))
      (long_before before h) t)

  -- the batch of the listing is the one that is made
  pub listed_there : slice_get (batches core.listing) (length front)
      ≡ Some (batch_ops (made log.script (places_of (front ++ s ∷ []))) number)
  listed_there =
      let one : 1 + length front ≡ number = omega arith in
      ap (λ l. slice_get l (length front)) (known.lists.listed
      ∙ ap (λ l. line_batches log.script 1 l nothing_made) e) ∙ batch_there log.script 1 front s back nothing_made
      ∙ ap (λ n. Some (batch_ops (chunk_made log.script s (line_made log.script front nothing_made)) n)) one
      ∙ ap (λ m. Some (batch_ops m number)) (sym (made_here log.script front s back line))

  ops_follow : (ops : List VkOp) (before : List Head) (m : Head) → before ≡ heads front → m ≡ head_behind front s
      → slice_get (batches core.listing) (length front) ≡ Some ops
      → ops ≡ batch_ops (made log.script (map (λ h. h.placed) before ++ m.placed ∷ [])) m.number
  ops_follow ops before m h g there =
      let is : Some ops ≡ Some (batch_ops (made log.script (places_of (front ++ s ∷ []))) number) = sym there
      ∙ listed_there in
      (let z : ops ≡ batch_ops (made log.script (places_of (front ++ s ∷ []))) number = cc is in z)
      ∙ ap (λ ps. batch_ops (made log.script ps) number) (sym (all_placed before m h g))
      ∙ ap (batch_ops (made log.script (map (λ h. h.placed) before ++ m.placed ∷ []))) (sym (ap (λ m. m.number) g))

  -- the turns of the first chunks
  pub turns_taken : take number (chunks log.script) ≡ turns_of (front ++ s ∷ [])
  turns_taken =
      let more : List (List Turn) = turns_of back ++ line.rest in
      let split : chunks log.script ≡ turns_of front ++ s.turns ∷ more = line.chunks
      ∙ ap (λ l. l ++ line.rest) (turns_of-append front (s ∷ back))
      ∙ append_assoc (turns_of front) (s.turns ∷ turns_of back) line.rest in
      let long : number ≡ suc (length (turns_of front)) = ap suc (sym (length_mapped (λ s. s.turns) front)) in
      ap (λ n. take n (chunks log.script)) long ∙ ap (take (suc (length (turns_of front)))) split
      ∙ taken_turns (turns_of front) s.turns more ∙ sym (turns_of-append front (s ∷ []))

  pub is_made : IsMadeOf (made log.script (places_of (front ++ s ∷ []))) s
  is_made = is_made_here log.script front s back line

  pub chunk_follows : (m : ChunkView) → IsChunk log.script front s m → ChunkBy log (heads front) m
  chunk_follows m c = record {
    head = follows (heads front) m.head refl c.head;
    pages = pages_follow m.pages m.head c.pages c.head;
    blocks = blocks_follow m.blocks (heads front) m.head refl c.head c.blocks;
  }

  pub batch_follows : (m : Batch) → IsBatch log core.listing front s m → BatchBy log (heads front) m
  batch_follows m b =
      let places = all_placed (heads front) (batch_head m) refl b.head in
      record {
        head = follows (heads front) (batch_head m) refl b.head;
        pages = pages_follow m.pages.items (batch_head m) b.pages b.head;
        blocks = blocks_follow m.blocks.items (heads front) (batch_head m) refl b.head b.blocks;
        does = record {
          writes = b.writes ∙ ap (λ ps. (made log.script ps).writes) (sym places);
          ops = ops_follow m.ops.items (heads front) (batch_head m) refl b.head b.ops;
          marks = b.marks ∙ ap (λ ps. somes (map (λ p. p.mark) ps)) (sym (ap (λ m. m.placed) b.head));
          staging = b.staging ∙ sym is_made.staging ∙ ap (λ ps. (made log.script ps).staging) (sym places);
          queries = b.queries ∙ sym is_made.queries ∙ ap (λ ps. (made log.script ps).queries) (sym places);
        };
      }

-- Completions and posts ---------------------------------------------------------------------------------------------

pub snaps_there : (meaning : Meaning) (earlier : List Entry) (before : List Message) (m : Message)
    (others : List Message) (after : List Segment) → SnapsRight meaning earlier (before ++ m ∷ others) after
    → SnapRight meaning ((earlier ++ flat (of_messages before)) ++ entries m.segment) m (of_messages others ++ after)
snaps_there meaning earlier [] m others after h =
    subst (λ l. SnapRight meaning (l ++ entries m.segment) m (of_messages others ++ after))
    (sym (append-nil earlier)) h.0
snaps_there meaning earlier (x ∷ before) m others after h =
    subst (λ l. SnapRight meaning (l ++ entries m.segment) m (of_messages others ++ after))
    (append_assoc earlier (entries x.segment) (flat (of_messages before)))
    (snaps_there meaning (earlier ++ entries x.segment) before m others after h.1)

module _ (log : Log) (reading : Reading) (core : Core) (k : Kept log.meaning reading log.script core)
    (known : Facts log.meaning log.script core)
    (earlier : List Message) (m : Message) (others : List Message)
    (e : core.posts ++ core.completions ≡ earlier ++ m ∷ others) where
  abbrev pub before_message : List Segment
  before_message = core.taken ++ of_messages earlier

  abbrev pub behind_message : List Segment
  behind_message =
      of_messages others ++ (of_running core.accepted ++ (core.submissions ++ (core.batches ++ core.chunks)))

  -- the message's chunk in the line
  pub message_there : handed core ≡ before_message ++ m.segment ∷ behind_message
  message_there =
      let rest = of_running core.accepted ++ (core.submissions ++ (core.batches ++ core.chunks)) in
      ap (λ l. core.taken ++ l)
      (sym (append_assoc (of_messages core.posts) (of_messages core.completions) rest)
      ∙ ap (λ l. l ++ rest) (sym (of_messages-append core.posts core.completions) ∙ ap of_messages e
      ∙ of_messages-append earlier (m ∷ others))
      ∙ append_assoc (of_messages earlier) (m.segment ∷ of_messages others) rest)
      ∙ sym (append_assoc core.taken (of_messages earlier) (m.segment ∷ behind_message))

  in_line : Line log.script (before_message ++ m.segment ∷ behind_message)
  in_line = line log reading core k known before_message m.segment behind_message message_there

  -- what the listing leaves after the message's chunk
  snap_right : SnapRight log.meaning (flat (before_message ++ m.segment ∷ [])) m
      (of_messages others ++ of_running core.accepted)
  snap_right =
      subst (λ l. SnapRight log.meaning l m (of_messages others ++ of_running core.accepted))
      (sym (flat-append before_message (m.segment ∷ []) ∙ ap (λ l. flat before_message ++ l)
      (append-nil (entries m.segment)) ∙ ap (λ l. l ++ entries m.segment)
      (flat-append core.taken (of_messages earlier))))
      (snaps_there log.meaning (flat core.taken) earlier m others (of_running core.accepted)
      (subst (λ l. SnapsRight log.meaning (flat core.taken) l (of_running core.accepted)) e k.good.sound.snaps))

  -- the turns of the chunks up to it
  pub turns_to : joined (take (suc (length before_message)) (chunks log.script))
      ≡ joined (turns_of (before_message ++ m.segment ∷ []))
  turns_to = ap joined (turns_taken log reading core k known before_message m.segment behind_message message_there)

  snap_is : Stood log.meaning log.script (scene core) → (n : ℕ) → n ≡ suc (length before_message) → (s : Snap)
      → IsCopy m s
      → IsSnap log.meaning log.script n (made log.script (places_of (before_message ++ m.segment ∷ []))).blocks s
  snap_is st n number s c =
      let chunk = stood_there log.meaning log.script before_message m.segment behind_message
      (subst (λ l. LineStood log.meaning log.script [] l) message_there st.line) in
      let blocks : blocks_after log.script before_message m.segment
      ≡ (made log.script (places_of (before_message ++ m.segment ∷ []))).blocks =
      ap (λ m. m.blocks) (sym (made_here log.script before_message m.segment behind_message in_line)) in
      let B = blocks_after log.script before_message m.segment in
      let all : AllByRecursion (IsWhole log.script B) (c.1 ∷ c.2) =
      all_back (IsWhole log.script B) c.0 (c.1 ∷ c.2) (subst (AllByRecursion (IsWhole log.script B)) c.3
      chunk.whole) in
      let w = all.0 in
      let r = w.0 in
      let size = log.script.size r in
      let here : B r ≡ Some s.block = w.1 ∙ ap Some c.4 in
      let after : in_order log.meaning log.script (joined (turns_of (before_message ++ m.segment ∷ []))) at_start
      ≡ after_chunk log.meaning log.script n =
      ap (λ ts. in_order log.meaning log.script ts at_start) (sym turns_to)
      ∙ ap (after_chunk log.meaning log.script) (sym number) in
      let whole : numbers_from c.1.from (c.1.to - c.1.from) ≡ numbers_from 0 size =
      ap (λ x. numbers_from x.from (x.to - x.from)) w.3 ∙ (let z : size - 0 ≡ size = omega arith in
      ap (numbers_from 0) z) in (
        r,
        sym (ap (λ b. b r) blocks) ∙ here,
        w.2,
        c.7 ∙ ap (map c.5) whole
            ∙ map_numbers c.5
            ((in_order log.meaning log.script (joined (turns_of (before_message ++ m.segment ∷ [])))
            at_start).bytes r) 0 size
            (λ i l u. snap_right.right s.block c.5 c.6 i ∙ chunk.stands.bytes r s.block i here (omega (arith, u)))
            ∙ ap (λ o. map (o.bytes r) (numbers_from 0 size)) after,
      )

  snaps_are : Stood log.meaning log.script (scene core) → (before : List Head) (head : Head)
      → before ≡ heads before_message → head ≡ head_behind before_message m.segment → (snaps : List Snap)
      → AllByRecursion (IsCopy m) snaps
      → AllByRecursion (IsSnap log.meaning log.script (suc (length before))
      (made log.script (map (λ h. h.placed) before ++ head.placed ∷ [])).blocks) snaps
  snaps_are st before head h g snaps c =
      let number : suc (length before) ≡ suc (length before_message) =
      long_before log reading core k known before_message m.segment behind_message message_there before h in
      let places : map (λ h. h.placed) before ++ head.placed ∷ [] ≡ places_of (before_message ++ m.segment ∷ []) =
      all_placed log reading core k known before_message m.segment behind_message message_there before head h g in
      all_map (IsCopy m) (IsSnap log.meaning log.script (suc (length before))
      (made log.script (map (λ h. h.placed) before ++ head.placed ∷ [])).blocks)
      (λ s c. subst (λ ps. IsSnap log.meaning log.script (suc (length before)) (made log.script ps).blocks s)
      (sym places) (snap_is st (suc (length before)) number s c)) snaps c

  -- the message's values are those that the log's Ends leave
  values_there : (before : List Head) → before ≡ heads before_message
      → m.values ≡ values_after log.meaning log.script (suc (length before))
  values_there before h =
      let number : suc (length before) ≡ suc (length before_message) =
      long_before log reading core k known before_message m.segment behind_message message_there before h in
      let long = length-append core.taken (of_messages earlier) in
      let messages = messages_length earlier in
      let count : suc (length core.taken + length earlier) ≡ suc (length before) =
      omega (arith, number, long, messages) in
      message_values log.meaning reading log.script core k known.queries earlier m others e
      ∙ ap (values_after log.meaning log.script) count

  pub completion_follows : Stood log.meaning log.script (scene core) → (c : Completion)
      → IsCompletion core.listing before_message m c → CompletionBy log (heads before_message) c
  completion_follows st c i =
      let hs = heads before_message in
      let number : suc (length hs) ≡ suc (length before_message) =
      long_before log reading core k known before_message m.segment behind_message message_there hs refl in
      record {
        head = follows log reading core k known before_message m.segment behind_message message_there hs
            (completion_head c) refl i.head;
        pages = pages_follow log reading core k known before_message m.segment behind_message message_there
            c.pages.items (completion_head c) i.pages i.head;
        ops = ops_follow log reading core k known before_message m.segment behind_message message_there c.ops.items
            hs (completion_head c) refl i.head i.ops;
        homes = record {
          numbers = i.homes.numbers ∙ ap (λ ps. only_class (somes (map (λ p. p.mark) ps)))
              (sym (ap (λ m. m.placed) i.head));
          lengths = i.homes.lengths;
          retired = subst (λ n. AllByRecursion (λ b. b.retired ≡ n) c.homes.items) (sym number) i.homes.retired;
        };
        snaps = snaps_are st hs (completion_head c) refl i.head c.snaps.items i.snaps;
        values = i.values ∙ values_there hs refl;
      }

  pub post_follows : Stood log.meaning log.script (scene core) → (p : Post) → IsPost core.listing before_message m p
      → PostBy log (heads before_message) p
  post_follows st p i =
      let hs = heads before_message in
      record {
        head = follows log reading core k known before_message m.segment behind_message message_there hs
            (post_head p) refl i.head;
        pages = pages_follow log reading core k known before_message m.segment behind_message message_there
            p.pages.items (post_head p) i.pages i.head;
        ops = ops_follow log reading core k known before_message m.segment behind_message message_there p.ops.items
            hs (post_head p) refl i.head i.ops;
        snaps = snaps_are st hs (post_head p) refl i.head p.snaps.items i.snaps;
        values = i.values ∙ values_there hs refl;
      }

-- after each chunk the listing's blocks stand for the buffers
pub stands_there : (log : Log) (reading : Reading) (core : Core) (k : Kept log.meaning reading log.script core)
    (known : Facts log.meaning log.script core) → Stood log.meaning log.script (scene core)
    → (front : List Segment) (s : Segment) (back : List Segment) (e : handed core ≡ front ++ s ∷ back)
    → Stands log.script (run_entries log.meaning (flat (front ++ s ∷ [])) zeros)
    (made log.script (places_of (front ++ s ∷ []))).blocks
    (after_chunk log.meaning log.script (suc (length front)))
stands_there log reading core k known st front s back e =
    let chunk = stood_there log.meaning log.script front s back
    (subst (λ l. LineStood log.meaning log.script [] l) e st.line) in
    let blocks = ap (λ m. m.blocks)
    (sym (made_here log.script front s back (line log reading core k known front s back e))) in
    let turns = ap joined (sym (turns_taken log reading core k known front s back e)) in
    let memory = run_entries log.meaning (flat (front ++ s ∷ [])) zeros in
    subst (λ b. Stands log.script memory b (after_chunk log.meaning log.script (suc (length front)))) blocks
    (subst (λ ts. Stands log.script memory (blocks_after log.script front s)
    (in_order log.meaning log.script ts at_start)) turns chunk.stands)

-- as many batches are listed as chunks were handed over
pub batches_listed : (script : Script) (core : Core) → ListsBatches script core
    → length (batches core.listing) ≡ length (handed core)
batches_listed script core h = ap length h.listed ∙ long 1 (handed core) nothing_made
  where
    long : (k : ℕ) (ss : List Segment) (m : Made) → length (line_batches script k ss m) ≡ length ss
    long k [] m = refl
    long k (s ∷ ss) m = ap suc (long (suc k) ss (chunk_made script s m))
