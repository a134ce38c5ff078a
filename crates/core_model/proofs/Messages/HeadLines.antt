-- Messages that succeed each other, by their heads: the turns of their chunks, the blocks that their places give,
-- what they make.
use Rattle.std.proofs.Common.{◌≡◌, ℕ, suc, ◌+◌, ◌≤◌, Bool, true, false, cond, List, [], ◌∷◌, ◌++◌, map, length, refl}
use Rattle.std.proofs.Common.{sym, ap, ◌∙◌, subst, arith, append_assoc, append-nil, length-append}
use Rattle.std.specs.List.{AllByRecursion}
use Rattle.vk_types.specs.declared.message.Placed.{Placed}
use Rattle.base_lemmas.specs.Lists.{numbers_from}
use Rattle.core_model.specs.Script.{Turn, Refused, Passed, Flushed, Asked, Item, Script}
use Rattle.core_model.specs.Chunking.{items, is_due, cut, chunks, chunk_turns, joined}
use Rattle.core_model.specs.Renaming.{BlockMap}
use Rattle.core_model.specs.CoreState.{Segment, empty_segment}
use Rattle.core_model.specs.Batching.{Made, nothing_made, next_chunk, make_turns, make_chunks}
use Rattle.core_model.specs.Invariant.{turns_of}
use Rattle.core_model.specs.Succession.{Head, Log, FollowsHead, item_of, PlacesPlay, GivesBlocks, turns_upto}
use Rattle.core_model.specs.Succession.{all_places, places_in}
use Rattle.core_model.specs.Spine.{Succeeds, made_of}
use Rattle.core_model.proofs.Steps.Segments.{turns_of-append}
use Rattle.core_model.proofs.Steps.Uses.{map_append}
use Rattle.core_model.proofs.Messages.ScriptChunks.{chunk_is}
use Rattle.core_model.proofs.Messages.Placements.{GivesTo, GivesLine, line_parts, places_of, all_places_append}
use Rattle.core_model.proofs.Messages.Succeeding.{no_blocks}
use Rattle.core_model.proofs.Messages.MadeLines.{made_blocks}
use Rattle.core_model.proofs.Messages.BatchesInTurn.{chunks_append}

-- The chunks of a script are its first turns ------------------------------------------------------------------------

cut_joined : (script : Script) (ts begun : List Turn) → (rest : List Turn)
    × (begun ++ ts ≡ joined (cut script begun ts) ++ rest)
cut_joined script [] begun = by (is_due script begun [])
  where
    by : (due : Bool) → (rest : List Turn) × (begun ++ [] ≡ joined (cond due (begun ∷ []) []) ++ rest)
    by true = ([], sym (append-nil (begun ++ [])))
    by false = (begun ++ [], refl)
cut_joined script (t ∷ ts) begun =
    by (is_due script begun (t ∷ ts)) (cut_joined script ts (t ∷ [])) (cut_joined script ts (begun ++ t ∷ []))
  where
    by : (due : Bool) → ((rest : List Turn) × (t ∷ ts ≡ joined (cut script (t ∷ []) ts) ++ rest))
        → ((rest : List Turn) × ((begun ++ t ∷ []) ++ ts ≡ joined (cut script (begun ++ t ∷ []) ts) ++ rest))
        → (rest : List Turn)
        × (begun ++ t ∷ ts ≡ joined (cond due (begun ∷ cut script (t ∷ []) ts) (cut script (begun ++ t ∷ []) ts))
        ++ rest)
    by true r s = (r.0, ap (λ l. begun ++ l) r.1 ∙ sym (append_assoc begun (joined (cut script (t ∷ []) ts)) r.0))
    by false r s = (s.0, sym (append_assoc begun (t ∷ []) ts) ∙ s.1)

-- Heads as chunks ---------------------------------------------------------------------------------------------------

abbrev pub chunk_of : Script → ℕ → Head → Segment
chunk_of script k h = record empty_segment { turns = chunk_turns script k; placed = h.placed }

-- the first of them is chunk k
abbrev pub chunks_of : Script → ℕ → List Head → List Segment
chunks_of script k [] = []
chunks_of script k (h ∷ hs) = chunk_of script k h ∷ chunks_of script (suc k) hs

pub places_there : (script : Script) (k : ℕ) (hs : List Head) → places_of (chunks_of script k hs) ≡ places_in hs
places_there script k [] = refl
places_there script k (h ∷ hs) = ap (λ l. h.placed ∷ l) (places_there script (suc k) hs)

pub turns_numbered : (script : Script) (k : ℕ) (hs : List Head)
    → map (chunk_turns script) (numbers_from k (length hs)) ≡ turns_of (chunks_of script k hs)
turns_numbered script k [] = refl
turns_numbered script k (h ∷ hs) = ap (λ l. chunk_turns script k ∷ l) (turns_numbered script (suc k) hs)

pub heads_append : (script : Script) (k : ℕ) (xs ys : List Head)
    → chunks_of script k (xs ++ ys) ≡ chunks_of script k xs ++ chunks_of script (k + length xs) ys
heads_append script k [] ys = ap (λ n. chunks_of script n ys) (let z : k ≡ k + 0 = omega arith in z)
heads_append script k (x ∷ xs) ys =
    ap (λ l. chunk_of script k x ∷ l)
    (heads_append script (suc k) xs ys
    ∙ ap (λ n. chunks_of script (suc k) xs ++ chunks_of script n ys)
    (let z : suc k + length xs ≡ k + length (x ∷ xs) = omega arith in z))

pub one_longer : {A : Type 0} (xs : List A) (x : A) → length (xs ++ x ∷ []) ≡ suc (length xs)
one_longer xs x = let l = length-append xs (x ∷ []) in omega (arith, l)

pub heads_last : (script : Script) (front : List Head) (h : Head)
    → chunks_of script 1 (front ++ h ∷ []) ≡ chunks_of script 1 front ++ chunk_of script (suc (length front)) h ∷ []
heads_last script front h =
    heads_append script 1 front (h ∷ [])
    ∙ ap (λ n. chunks_of script 1 front ++ chunk_of script n h ∷ [])
    (let z : 1 + length front ≡ suc (length front) = omega arith in z)

chunks_split : (script : Script) (pre ys : List (List Turn)) (hs : List Head) → chunks script ≡ pre ++ ys
    → length hs ≤ length ys
    → (rest : List (List Turn)) × (ys ≡ turns_of (chunks_of script (suc (length pre)) hs) ++ rest)
chunks_split script pre ys [] e l = (ys, refl)
chunks_split script pre [] (x ∷ hs) e l = absurd (let z : ⊥ = omega (arith, l) in z)
chunks_split script pre (y ∷ ys) (x ∷ hs) e l =
    let r = chunks_split script (pre ++ y ∷ []) ys hs (e ∙ sym (append_assoc pre (y ∷ []) ys)) (omega (arith, l)) in (
      r.0,
      ap (λ t. t ∷ ys) (sym (chunk_is script pre y ys e))
          ∙ ap (λ l. chunk_turns script (suc (length pre)) ∷ l)
          (r.1 ∙ ap (λ n. turns_of (chunks_of script (suc n) hs) ++ r.0) (one_longer pre y)),
    )

pub places_of_last : (front : List Head) (h : Head)
    → all_places (places_in (front ++ h ∷ [])) ≡ all_places (places_in front) ++ h.placed
places_of_last front h =
    ap all_places (map_append (λ h. h.placed) front (h ∷ []))
    ∙ all_places_append (places_in front) (h.placed ∷ [])
    ∙ ap (λ l. all_places (places_in front) ++ l) (append-nil h.placed)

-- The places give blocks, chunk by chunk ----------------------------------------------------------------------------

gives_parts : (script : Script) (ts us : List Turn) (ps qs : List Placed) (old : BlockMap)
    → GivesBlocks script (ts ++ us) (ps ++ qs) old → map item_of ps ≡ items ts
    → (mid : BlockMap) × GivesTo script ts ps old mid × GivesBlocks script us qs mid
gives_parts script [] us [] qs old g e = (old, (refl, refl), g)
gives_parts script [] us (p ∷ ps) qs old g e = absurd (cc e)
gives_parts script (Refused call ∷ ts) us ps qs old g e = gives_parts script ts us ps qs old g e
gives_parts script (Passed call ∷ ts) us ps qs old g e = gives_parts script ts us ps qs old g e
gives_parts script (Flushed call ∷ ts) us ps qs old g e = gives_parts script ts us ps qs old g e
gives_parts script (Asked call ask used may_pend ∷ ts) us ps qs old g e = gives_parts script ts us ps qs old g e
gives_parts script (Item call item ends play bound ∷ ts) us [] qs old g e = absurd (cc e)
gives_parts script (Item call item ends play bound ∷ ts) us (p ∷ ps) qs old g e =
    let split = g.2 in
    let first : g.0 ≡ p = cc split in
    let others : g.1 ≡ ps ++ qs = cc split in
    let number : item_of p ≡ record { call = call; item = item } = cc e in
    let more : map item_of ps ≡ items ts = cc e in
    let r = gives_parts script ts us ps qs g.3 (subst (λ l. GivesBlocks script (ts ++ us) l g.3) others g.5) more in (
      r.0,
      (
        p,
        ps,
        refl,
        g.3,
        subst (λ p. PlacesPlay script play p old g.3) first g.4,
        ap (λ n. n.call) number,
        ap (λ n. n.item) number,
        r.1,
      ),
      r.2,
    )

gives_line : (script : Script) (ss : List Segment) (ts : List Turn) (qs : List Placed) (old : BlockMap)
    → GivesBlocks script (joined (turns_of ss) ++ ts) (all_places (places_of ss) ++ qs) old
    → AllByRecursion (λ s. map item_of s.placed ≡ items s.turns) ss
    → (mid : BlockMap) × GivesLine script old ss mid × GivesBlocks script ts qs mid
gives_line script [] ts qs old g h = (old, refl, g)
gives_line script (s ∷ ss) ts qs old g h =
    let a = gives_parts script s.turns (joined (turns_of ss) ++ ts) s.placed (all_places (places_of ss) ++ qs) old
    (subst (λ l. GivesBlocks script l (s.placed ++ (all_places (places_of ss) ++ qs)) old)
    (append_assoc s.turns (joined (turns_of ss)) ts)
    (subst (λ l. GivesBlocks script ((s.turns ++ joined (turns_of ss)) ++ ts) l old)
    (append_assoc s.placed (all_places (places_of ss)) qs) g)) h.0 in
    let r = gives_line script ss ts qs a.0 a.2 h.1 in
    (r.0, (a.0, a.1, r.1), r.2)

all_items : (log : Log) (pre hs : List Head) → Succeeds log (pre ++ hs)
    → AllByRecursion (λ s. map item_of s.placed ≡ items s.turns) (chunks_of log.script (suc (length pre)) hs)
all_items log pre [] h = tt
all_items log pre (x ∷ hs) h = (
  (h pre x hs refl).of_chunk.items,
  subst (λ n. AllByRecursion (λ s. map item_of s.placed ≡ items s.turns) (chunks_of log.script (suc n) hs))
      (one_longer pre x)
      (all_items log (pre ++ x ∷ []) hs (subst (Succeeds log) (sym (append_assoc pre (x ∷ []) hs)) h)),
)

pub line_blocks : (script : Script) (k : ℕ) (hs : List Head) (m : Made) (old new : BlockMap)
    → GivesLine script old (chunks_of script k hs) new → m.blocks ≡ old
    → (make_chunks script k (places_in hs) m).blocks ≡ new
line_blocks script k [] m old new g e = e ∙ sym g
line_blocks script k (h ∷ hs) m old new g e =
    line_blocks script (suc k) hs (make_turns script (chunk_turns script k) h.placed (next_chunk m)) g.0 new g.2
    (made_blocks script (chunk_turns script k) h.placed old g.0 (next_chunk m) g.1 e)

-- The last message --------------------------------------------------------------------------------------------------

pub record LastOf (log : Log) (front : List Head) (h : Head) : Type 0 where
  pub before : BlockMap
  pub after : BlockMap
  pub line : GivesLine log.script no_blocks (chunks_of log.script 1 front) before
  pub gives : GivesTo log.script (chunk_turns log.script (suc (length front))) h.placed before after
  pub back : List Turn
  pub turns : log.script.turns
      ≡ joined (turns_of (chunks_of log.script 1 front)) ++ (chunk_turns log.script (suc (length front)) ++ back)
  pub rest : List (List Turn)
  pub cut : chunks log.script ≡ turns_of (chunks_of log.script 1 front)
      ++ chunk_turns log.script (suc (length front)) ∷ rest
  pub made_before : (made_of log front).blocks ≡ before
  pub made_here : made_of log (front ++ h ∷ [])
      ≡ make_turns log.script (chunk_turns log.script (suc (length front))) h.placed (next_chunk (made_of log front))
  pub follows : FollowsHead log front h

pub joined_last : (xs : List Segment) (s : Segment) → joined (turns_of (xs ++ s ∷ [])) ≡ joined (turns_of xs) ++ s.turns
joined_last [] s = append-nil s.turns
joined_last (x ∷ xs) s = ap (λ l. x.turns ++ l) (joined_last xs s)
    ∙ sym (append_assoc x.turns (joined (turns_of xs)) s.turns)

pub last_of : (log : Log) (front : List Head) (h : Head) → Succeeds log (front ++ h ∷ []) → LastOf log front h
last_of log front h s =
    let script = log.script in
    let here = s front h [] refl in
    let all = chunks_of script 1 (front ++ h ∷ []) in
    let n = suc (length front) in
    let turns : turns_upto script n ≡ joined (turns_of all) =
    ap (λ k. joined (map (chunk_turns script) (numbers_from 1 k))) (sym (one_longer front h))
    ∙ ap joined (turns_numbered script 1 (front ++ h ∷ [])) in
    let places : all_places (places_in front) ++ h.placed ≡ all_places (places_of all) =
    sym (ap all_places (places_there script 1 (front ++ h ∷ [])) ∙ places_of_last front h) in
    let given : GivesBlocks script (joined (turns_of all) ++ []) (all_places (places_of all) ++ []) no_blocks =
    subst (λ t. GivesBlocks script t (all_places (places_of all) ++ []) no_blocks) (turns
    ∙ sym (append-nil (joined (turns_of all))))
    (subst (λ p. GivesBlocks script (turns_upto script n) p no_blocks) (places
    ∙ sym (append-nil (all_places (places_of all)))) here.gives_blocks) in
    let whole = gives_line script all [] [] no_blocks given (all_items log [] (front ++ h ∷ []) s) in
    let parts = line_parts script no_blocks whole.0 (chunks_of script 1 front) (chunk_of script n h ∷ [])
    (subst (λ l. GivesLine script no_blocks l whole.0) (heads_last script front h) whole.1) in
    let few : length (front ++ h ∷ []) ≤ length (chunks script) = let t = here.of_chunk.there in let l =
    one_longer front h in omega (arith, t, l) in
    let split = chunks_split script [] (chunks script) (front ++ h ∷ []) refl few in
    let cuts = cut_joined script script.turns [] in
    let first = chunks_of script 1 front in
    record {
      before = parts.0;
      after = parts.2.0;
      line = parts.1;
      gives = parts.2.1;
      back = joined split.0 ++ cuts.0;
      turns =
          cuts.1 ∙ ap (λ l. joined l ++ cuts.0) split.1
          ∙ ap (λ l. l ++ cuts.0) (joined_both (turns_of all) split.0)
          ∙ append_assoc (joined (turns_of all)) (joined split.0) cuts.0
          ∙ ap (λ l. joined (turns_of l) ++ (joined split.0 ++ cuts.0)) (heads_last script front h)
          ∙ ap (λ l. l ++ (joined split.0 ++ cuts.0)) (joined_last first (chunk_of script n h))
          ∙ append_assoc (joined (turns_of first)) (chunk_turns script n) (joined split.0 ++ cuts.0);
      rest = split.0;
      cut =
          split.1 ∙ ap (λ l. turns_of l ++ split.0) (heads_last script front h)
          ∙ ap (λ l. l ++ split.0) (turns_of-append first (chunk_of script n h ∷ []))
          ∙ append_assoc (turns_of first) (chunk_turns script n ∷ []) split.0;
      made_before = line_blocks script 1 front nothing_made no_blocks parts.0 parts.1 refl;
      made_here =
          ap (λ l. make_chunks script 1 l nothing_made) (map_append (λ h. h.placed) front (h ∷ []))
          ∙ chunks_append script 1 (places_in front) (h.placed ∷ []) nothing_made
          ∙ ap (λ k. make_turns script (chunk_turns script k) h.placed (next_chunk (made_of log front)))
          (let l = length_map front in let z : 1 + length (places_in front) ≡ n = omega (arith, l) in z);
      follows = here;
    }
  where
    joined_both : (xs ys : List (List Turn)) → joined (xs ++ ys) ≡ joined xs ++ joined ys
    joined_both [] ys = refl
    joined_both (x ∷ xs) ys = ap (λ l. x ++ l) (joined_both xs ys) ∙ sym (append_assoc x (joined xs) (joined ys))

    length_map : (hs : List Head) → length (places_in hs) ≡ length hs
    length_map [] = refl
    length_map (h ∷ hs) = ap suc (length_map hs)
