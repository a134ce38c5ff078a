-- The places of items, as turns are taken one behind another: which block each buffer has, and what is made of the
-- blocks.
use Rattle.std.proofs.Common.{◌≡◌, ℕ, suc, List, [], ◌∷◌, ◌++◌, map, length, refl, sym, ap, ◌∙◌, subst, append_assoc}
use Rattle.std.proofs.Common.{append-nil}
use Rattle.vk_types.specs.declared.message.Placed.{Placed}
use Rattle.core_model.specs.Script.{Turn, Refused, Passed, Flushed, Asked, Item, Script}
use Rattle.core_model.specs.Chunking.{ItemNo, items, joined}
use Rattle.core_model.specs.Renaming.{BlockMap}
use Rattle.core_model.specs.CoreState.{Segment}
use Rattle.core_model.specs.Invariant.{turns_of}
use Rattle.core_model.specs.Batching.{Made, make_turns, make_play}
use Rattle.core_model.specs.Succession.{item_of, PlacesPlay, GivesBlocks, all_places}

-- The places give each buffer its block after each item, and after all these blocks ---------------------------------

abbrev pub GivesTo : Script → List Turn → List Placed → BlockMap → BlockMap → Type 0
GivesTo script [] ps old new = (ps ≡ []) × (new ≡ old)
GivesTo script (Refused call ∷ ts) ps old new = GivesTo script ts ps old new
GivesTo script (Passed call ∷ ts) ps old new = GivesTo script ts ps old new
GivesTo script (Flushed call ∷ ts) ps old new = GivesTo script ts ps old new
GivesTo script (Asked call ask used may_pend ∷ ts) ps old new = GivesTo script ts ps old new
GivesTo script (Item call item ends play bound ∷ ts) ps old new =
    (p : Placed) × (others : List Placed) × (ps ≡ p ∷ others) × (after : BlockMap)
    × PlacesPlay script play p old after × (p.call ≡ call) × (p.item ≡ item)
    × GivesTo script ts others after new

pub gives_append : (script : Script) (ts us : List Turn) (ps qs : List Placed) (old mid new : BlockMap)
    → GivesTo script ts ps old mid → GivesTo script us qs mid new → GivesTo script (ts ++ us) (ps ++ qs) old new
gives_append script [] us ps qs old mid new h k = subst (λ ps. GivesTo script us (ps ++ qs) old new) (sym h.0)
    (subst (λ b. GivesTo script us qs b new) h.1 k)
gives_append script (Refused call ∷ ts) us ps qs old mid new h k = gives_append script ts us ps qs old mid new h k
gives_append script (Passed call ∷ ts) us ps qs old mid new h k = gives_append script ts us ps qs old mid new h k
gives_append script (Flushed call ∷ ts) us ps qs old mid new h k = gives_append script ts us ps qs old mid new h k
gives_append script (Asked call ask used may_pend ∷ ts) us ps qs old mid new h k =
    gives_append script ts us ps qs old mid new h k
gives_append script (Item call item ends play bound ∷ ts) us ps qs old mid new h k =
    (h.0, h.1 ++ qs, ap (λ l. l ++ qs) h.2, h.3, h.4, h.5, h.6, gives_append script ts us h.1 qs h.3 mid new h.7 k)

pub gives_blocks : (script : Script) (ts : List Turn) (ps : List Placed) (old new : BlockMap)
    → GivesTo script ts ps old new → GivesBlocks script ts ps old
gives_blocks script [] ps old new h = h.0
gives_blocks script (Refused call ∷ ts) ps old new h = gives_blocks script ts ps old new h
gives_blocks script (Passed call ∷ ts) ps old new h = gives_blocks script ts ps old new h
gives_blocks script (Flushed call ∷ ts) ps old new h = gives_blocks script ts ps old new h
gives_blocks script (Asked call ask used may_pend ∷ ts) ps old new h = gives_blocks script ts ps old new h
gives_blocks script (Item call item ends play bound ∷ ts) ps old new h =
    (h.0, h.1, h.2, h.3, h.4, gives_blocks script ts h.1 h.3 new h.7)

item_path : (p : Placed) (call item : ℕ) → p.call ≡ call → p.item ≡ item
    → let i : ItemNo = record { call = call; item = item } in item_of p ≡ i
item_path p call item e f = λ i. record { call = e i; item = f i }

pub gives_items : (script : Script) (ts : List Turn) (ps : List Placed) (old new : BlockMap)
    → GivesTo script ts ps old new → map item_of ps ≡ items ts
gives_items script [] ps old new h = ap (map item_of) h.0
gives_items script (Refused call ∷ ts) ps old new h = gives_items script ts ps old new h
gives_items script (Passed call ∷ ts) ps old new h = gives_items script ts ps old new h
gives_items script (Flushed call ∷ ts) ps old new h = gives_items script ts ps old new h
gives_items script (Asked call ask used may_pend ∷ ts) ps old new h = gives_items script ts ps old new h
gives_items script (Item call item ends play bound ∷ ts) ps old new h =
    ap (map item_of) h.2 ∙ ap (λ i. i ∷ map item_of h.1) (item_path h.0 call item h.5 h.6)
    ∙ ap (λ l. turn_item ∷ l) (gives_items script ts h.1 h.3 new h.7)
  where
    turn_item : ItemNo
    turn_item = record { call = call; item = item }

-- what is made of the places goes on behind them
pub made_append : (script : Script) (ts us : List Turn) (ps qs : List Placed) (old new : BlockMap) (m : Made)
    → GivesTo script ts ps old new
    → make_turns script (ts ++ us) (ps ++ qs) m ≡ make_turns script us qs (make_turns script ts ps m)
made_append script [] us ps qs old new m h = ap (λ l. make_turns script us (l ++ qs) m) h.0
made_append script (Refused call ∷ ts) us ps qs old new m h = made_append script ts us ps qs old new m h
made_append script (Passed call ∷ ts) us ps qs old new m h = made_append script ts us ps qs old new m h
made_append script (Flushed call ∷ ts) us ps qs old new m h = made_append script ts us ps qs old new m h
made_append script (Asked call ask used may_pend ∷ ts) us ps qs old new m h = made_append script ts us ps qs old new m h
made_append script (Item call item ends play bound ∷ ts) us ps qs old new m h =
    ap (λ l. make_turns script (Item call item ends play bound ∷ (ts ++ us)) (l ++ qs) m) h.2
    ∙ made_append script ts us h.1 qs h.3 new (make_play script call play bound h.0 m) h.7
    ∙ sym (ap (λ l. make_turns script us qs (make_turns script (Item call item ends play bound ∷ ts) l m)) h.2)

-- Chunk by chunk ----------------------------------------------------------------------------------------------------

abbrev pub GivesLine : Script → BlockMap → List Segment → BlockMap → Type 0
GivesLine script old [] new = new ≡ old
GivesLine script old (s ∷ ss) new = (mid : BlockMap) × GivesTo script s.turns s.placed old mid
    × GivesLine script mid ss new

pub line_append : (script : Script) (old mid new : BlockMap) (xs ys : List Segment) → GivesLine script old xs mid
    → GivesLine script mid ys new → GivesLine script old (xs ++ ys) new
line_append script old mid new [] ys h k = subst (λ b. GivesLine script b ys new) h k
line_append script old mid new (x ∷ xs) ys h k = (h.0, h.1, line_append script h.0 mid new xs ys h.2 k)

pub line_parts : (script : Script) (old new : BlockMap) (xs ys : List Segment) → GivesLine script old (xs ++ ys) new
    → (mid : BlockMap) × GivesLine script old xs mid × GivesLine script mid ys new
line_parts script old new [] ys h = (old, refl, h)
line_parts script old new (x ∷ xs) ys h = let r = line_parts script h.0 new xs ys h.2 in (r.0, (h.0, h.1, r.1), r.2)

abbrev pub places_of : List Segment → List (List Placed)
places_of ss = map (λ s. s.placed) ss

pub line_gives : (script : Script) (old new : BlockMap) (ss : List Segment) → GivesLine script old ss new
    → GivesTo script (joined (turns_of ss)) (all_places (places_of ss)) old new
line_gives script old new [] h = (refl, h)
line_gives script old new (s ∷ ss) h = gives_append script s.turns (joined (turns_of ss)) s.placed
    (all_places (places_of ss)) old h.0 new h.1 (line_gives script h.0 new ss h.2)

pub all_places_append : (xs ys : List (List Placed)) → all_places (xs ++ ys) ≡ all_places xs ++ all_places ys
all_places_append [] ys = refl
all_places_append (x ∷ xs) ys = ap (λ l. x ++ l) (all_places_append xs ys)
    ∙ sym (append_assoc x (all_places xs) (all_places ys))

pub length_places : (ss : List Segment) → length (places_of ss) ≡ length ss
length_places [] = refl
length_places (x ∷ ss) = ap suc (length_places ss)

pub places_of_append : (xs ys : List Segment) → places_of (xs ++ ys) ≡ places_of xs ++ places_of ys
places_of_append [] ys = refl
places_of_append (x ∷ xs) ys = ap (λ l. x.placed ∷ l) (places_of_append xs ys)

pub places_last : (front : List Segment) (s : Segment) → all_places (places_of (front ++ s ∷ []))
    ≡ all_places (places_of front) ++ s.placed
places_last front s = ap all_places (places_of_append front (s ∷ []))
    ∙ all_places_append (places_of front) (s.placed ∷ []) ∙ ap (λ l. all_places (places_of front) ++ l)
    (append-nil s.placed)
