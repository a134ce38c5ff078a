-- A part of a batch shares no byte with commands of messages before it, where no message since then took the block.
use Rattle.std.proofs.Common.{◌≡◌, ℕ, suc, ◌+◌, Bool, true, false, cond, ◌==◌, List, [], ◌∷◌, ◌++◌, length}
use Rattle.std.proofs.Common.{refl, sym, ap, ◌∙◌, subst, inl, inr, Option, Some, None, append_assoc, append-nil}
use Rattle.std.specs.List.{AllByRecursion}
use Rattle.std.proofs.lemmas.Bool.{cases_Bool, eqb-true, eq-eqb, both_ways}
use Rattle.std.proofs.lemmas.List.Folds.{list_any-append}
use Rattle.dx_types.specs.declared.range.Range.{Range}
use Rattle.vk_types.specs.declared.command.Cond.{Cond}
use Rattle.vk_types.specs.declared.command.Command as c
use Rattle.vk_types.specs.declared.message.Placed.{Placed}
use Rattle.vk_types.specs.Memory.{range, or_zero}
use Rattle.vk_types.specs.Hazards.{touches, is_touched}
use Rattle.vk_types.proofs.Local.{covered_block, covered_from, covered_to}
use Rattle.base_lemmas.proofs.Lists.{all_append, all_map}
use Rattle.core_model.specs.Script.{Play, Create, Discard, No_overwrite, Stage, Command, Destroy, Create_shader}
use Rattle.core_model.specs.Script.{Mark_query, Set_state, Turn, Refused, Passed, Flushed, Asked, Item, Script}
use Rattle.core_model.specs.Script.{at_start, in_order, turn_in_order, play_in_order, updated}
use Rattle.core_model.specs.Chunking.{chunk_turns, joined}
use Rattle.core_model.specs.Renaming.{BlockMap, block_of}
use Rattle.core_model.specs.Owners.{is_block, in_ranges}
use Rattle.core_model.specs.Batching.{Made, nothing_made, next_chunk, make_write, make_copy, make_play, make_turns}
use Rattle.core_model.specs.Batching.{make_staged, give_block, block_range}
use Rattle.core_model.specs.Invariant.{turns_of}
use Rattle.core_model.specs.Lawful.{IsLawful, resets, bound_by, is_bound}
use Rattle.core_model.specs.Succession.{Head, Log, PlacesPlay, takes, stages_in, is_staged_in, all_places, places_in}
use Rattle.core_model.specs.Spine.{Succeeds, made_of}
use Rattle.core_model.proofs.Steps.Binding.{or_left, or_right}
use Rattle.core_model.proofs.Steps.Destroying.{found}
use Rattle.core_model.proofs.Steps.Segments.{turns_of-append}
use Rattle.core_model.proofs.Blocks.BoundRanges.{stays_bound}
use Rattle.core_model.proofs.Messages.Placements.{GivesTo, GivesLine, line_parts}
use Rattle.core_model.proofs.Messages.Succeeding.{no_blocks}
use Rattle.core_model.proofs.Messages.MadeLines.{made_blocks}
use Rattle.core_model.proofs.Messages.HeadLines.{chunks_of, heads_append, line_blocks, last_of}
use Rattle.core_model.proofs.Messages.UsedBlocks.{Lives, item_lives, next_state, next_place, lives_before}
use Rattle.core_model.proofs.Messages.HeldBlocks.{takes_more, none_front}
use Rattle.core_model.proofs.Messages.BatchMemory.{Spares, spared}
use Rattle.core_model.proofs.Messages.StandingBatches.{batch_bound}

-- Bytes that a command touches, and that stay bound -----------------------------------------------------------------

-- where no item since took the block, each byte of a live buffer's block that the command touches is bound
abbrev BoundSince : c.Command → List Placed → List Turn → BlockMap → Type 0
BoundSince d since past blocks =
    (r b i : ℕ) → blocks r ≡ Some b → takes b since ≡ false → is_touched (touches d) b i ≡ true
    → is_bound r past false i ≡ true

plain_since : (d : c.Command) (since : List Placed) (past : List Turn) (t : Turn) (blocks : BlockMap)
    → ((r : ℕ) → resets r t ≡ false)
    → BoundSince d since past blocks → BoundSince d since (past ++ t ∷ []) blocks
plain_since d since past t blocks n h r b i e k u =
    stays_bound r past t i (n r) (or_left (is_bound r past false i) (in_ranges (bound_by t) r i) (h r b i e k u))

module _ (d : c.Command) (since : List Placed) (past : List Turn) (p : Placed) (t : Turn) (old new : BlockMap)
    (h : BoundSince d since past old) where
  fewer : (b : ℕ) → takes b (since ++ p ∷ []) ≡ false → takes b since ≡ false
  fewer b n = none_front (λ q. is_block q.block b) since (p ∷ []) n

  same_since : ((r : ℕ) → resets r t ≡ false) → new ≡ old → BoundSince d (since ++ p ∷ []) (past ++ t ∷ []) new
  same_since n same r b i e k u =
      stays_bound r past t i (n r)
      (or_left (is_bound r past false i) (in_ranges (bound_by t) r i)
      (h r b i (sym (ap (λ f. f r) same) ∙ e) (fewer b k) u))

  taken_since : (buffer taken : ℕ) → p.block ≡ Some taken → new ≡ updated buffer (Some taken) old
      → ((r : ℕ) → (r == buffer) ≡ false → resets r t ≡ false) → BoundSince d (since ++ p ∷ []) (past ++ t ∷ []) new
  taken_since buffer taken took same n r b i e k u =
      let now : updated buffer (Some taken) old r ≡ Some b = sym (ap (λ f. f r) same) ∙ e in
      elim (cases_Bool (r == buffer)) [
        | inl y ↦
            let own : Some taken ≡ Some b = sym (ap (λ x. cond x (Some taken) (old r)) y) ∙ now in
            absurd (both_ways (takes b (since ++ p ∷ [])) k (takes_more b since p [] (took ∙ own)))
        | inr f ↦
            stays_bound r past t i (n r f) (or_left (is_bound r past false i) (in_ranges (bound_by t) r i)
            (h r b i (sym (ap (λ x. cond x (Some taken) (old r)) f) ∙ now) (fewer b k) u))
      ]

  gone_since : (buffer : ℕ) → new ≡ updated buffer None old → ((r : ℕ) → resets r t ≡ false)
      → BoundSince d (since ++ p ∷ []) (past ++ t ∷ []) new
  gone_since buffer same n r b i e k u =
      stays_bound r past t i (n r) (or_left (is_bound r past false i) (in_ranges (bound_by t) r i)
      (h r b i (found buffer old r b (sym (ap (λ f. f r) same) ∙ e)).0 (fewer b k) u))

other_buffer : (buffer r : ℕ) → (r == buffer) ≡ false → (buffer == r) ≡ false
other_buffer buffer r n =
    elim (cases_Bool (buffer == r))
    [ inl t ↦ absurd (both_ways (r == buffer) n (eq-eqb r buffer (sym (eqb-true buffer r t)))) | inr f ↦ f ]

item_since : (script : Script) (d : c.Command) (since : List Placed) (past : List Turn) (call item : ℕ)
    (ends : Bool) (play : Play) (bound : List Range)
    (p : Placed) (old new : BlockMap) → PlacesPlay script play p old new → BoundSince d since past old
    → BoundSince d (since ++ p ∷ []) (past ++ Item call item ends play bound ∷ []) new
item_since script d since past call item ends (Create buffer bytes) bound p old new k h =
    taken_since d since past p (Item call item ends (Create buffer bytes) bound) old new h buffer k.0 k.1 k.5
    (λ r n. other_buffer buffer r n)
item_since script d since past call item ends (Discard buffer from bytes) bound p old new k h =
    taken_since d since past p (Item call item ends (Discard buffer from bytes) bound) old new h buffer k.0 k.1 k.5
    (λ r n. other_buffer buffer r n)
item_since script d since past call item ends (No_overwrite buffer from bytes) bound p old new k h =
    same_since d since past p (Item call item ends (No_overwrite buffer from bytes) bound) old new h (λ r. refl) k.1
item_since script d since past call item ends (Stage bytes target skip) bound p old new k h =
    same_since d since past p (Item call item ends (Stage bytes target skip) bound) old new h (λ r. refl) k.3
item_since script d since past call item ends (Command w skip) bound p old new k h =
    same_since d since past p (Item call item ends (Command w skip) bound) old new h (λ r. refl) k.1
item_since script d since past call item ends (Destroy buffer) bound p old new k h =
    gone_since d since past p (Item call item ends (Destroy buffer) bound) old new h buffer k.3 (λ r. refl)
item_since script d since past call item ends Create_shader bound p old new k h =
    same_since d since past p (Item call item ends Create_shader bound) old new h (λ r. refl) k.1
item_since script d since past call item ends (Mark_query query begins) bound p old new k h =
    same_since d since past p (Item call item ends (Mark_query query begins) bound) old new h (λ r. refl) k.1
item_since script d since past call item ends Set_state bound p old new k h =
    same_since d since past p (Item call item ends Set_state bound) old new h (λ r. refl) k.1

-- Over turns, and over messages -------------------------------------------------------------------------------------

turn_on : (d : c.Command) (since : List Placed) (past : List Turn) (t : Turn) (ts : List Turn) (new : BlockMap)
    → BoundSince d since ((past ++ t ∷ []) ++ ts) new → BoundSince d since (past ++ t ∷ ts) new
turn_on d since past t ts new h = subst (λ l. BoundSince d since l new) (append_assoc past (t ∷ []) ts) h

turns_since : (script : Script) (d : c.Command) (ts past : List Turn) (ps : List Placed) (old new : BlockMap)
    (since : List Placed)
    → GivesTo script ts ps old new → BoundSince d since past old → BoundSince d (since ++ ps) (past ++ ts) new
turns_since script d [] past ps old new since g h =
    subst (λ l. BoundSince d (since ++ ps) l new) (sym (append-nil past))
    (subst (λ l. BoundSince d (since ++ l) past new) (sym g.0)
    (subst (λ l. BoundSince d l past new) (sym (append-nil since)) (subst (BoundSince d since past) (sym g.1) h)))
turns_since script d (Refused call ∷ ts) past ps old new since g h =
    turn_on d (since ++ ps) past (Refused call) ts new
    (turns_since script d ts (past ++ Refused call ∷ []) ps old new since g
    (plain_since d since past (Refused call) old (λ r. refl) h))
turns_since script d (Passed call ∷ ts) past ps old new since g h =
    turn_on d (since ++ ps) past (Passed call) ts new
    (turns_since script d ts (past ++ Passed call ∷ []) ps old new since g
    (plain_since d since past (Passed call) old (λ r. refl) h))
turns_since script d (Flushed call ∷ ts) past ps old new since g h =
    turn_on d (since ++ ps) past (Flushed call) ts new
    (turns_since script d ts (past ++ Flushed call ∷ []) ps old new since g
    (plain_since d since past (Flushed call) old (λ r. refl) h))
turns_since script d (Asked call ask used may_pend ∷ ts) past ps old new since g h =
    let t = Asked call ask used may_pend in
    turn_on d (since ++ ps) past t ts new
    (turns_since script d ts (past ++ t ∷ []) ps old new since g (plain_since d since past t old (λ r. refl) h))
turns_since script d (Item call item ends play bound ∷ ts) past ps old new since g h =
    let t = Item call item ends play bound in
    turn_on d (since ++ ps) past t ts new
    (subst (λ l. BoundSince d (since ++ l) ((past ++ t ∷ []) ++ ts) new) (sym g.2)
    (subst (λ l. BoundSince d l ((past ++ t ∷ []) ++ ts) new) (append_assoc since (g.0 ∷ []) g.1)
    (turns_since script d ts (past ++ t ∷ []) g.1 g.3 new (since ++ g.0 ∷ []) g.7
    (item_since script d since past call item ends play bound g.0 old g.3 g.4 h))))

line_since : (script : Script) (d : c.Command) (k : ℕ) (hs : List Head) (past : List Turn) (old new : BlockMap)
    (since : List Placed)
    → GivesLine script old (chunks_of script k hs) new → BoundSince d since past old
    → BoundSince d (since ++ all_places (places_in hs)) (past ++ joined (turns_of (chunks_of script k hs))) new
line_since script d k [] past old new since g h =
    subst (λ l. BoundSince d (since ++ []) l new) (sym (append-nil past))
    (subst (λ l. BoundSince d l past new) (sym (append-nil since)) (subst (BoundSince d since past) (sym g) h))
line_since script d k (x ∷ hs) past old new since g h =
    let more = joined (turns_of (chunks_of script (suc k) hs)) in
    subst (λ l. BoundSince d (since ++ (x.placed ++ all_places (places_in hs))) l new)
    (append_assoc past (chunk_turns script k) more)
    (subst (λ l. BoundSince d l ((past ++ chunk_turns script k) ++ more) new)
    (append_assoc since x.placed (all_places (places_in hs)))
    (line_since script d (suc k) hs (past ++ chunk_turns script k) g.0 new (since ++ x.placed) g.2
    (turns_since script d (chunk_turns script k) past x.placed old g.0 since g.1 h)))

-- The parts of a message --------------------------------------------------------------------------------------------

module _ (log : Log) (lawful : IsLawful log.meaning log.script) (ds : List c.Command) (since : List Placed)
    (h : Head) where
  -- no command meets the range, where no item since took its block and it is no page of the message
  abbrev IsClear : Range → Type 0
  IsClear r = takes r.block (since ++ h.placed) ≡ false → stages_in r.block h.placed ≡ false
      → AllByRecursion (Spares r) ds

  abbrev AreClear : Made → Type 0
  AreClear m = AllByRecursion (λ w. IsClear w.range) m.writes

  abbrev StayBound : List Placed → List Turn → BlockMap → Type 0
  StayBound here past blocks = AllByRecursion (λ d. BoundSince d (since ++ here) past blocks) ds

  write_clear : (r : Range) (bytes : List ℕ) (m : Made) → IsClear r → AreClear m → AreClear (make_write r bytes m)
  write_clear r [] m u a = a
  write_clear r (b ∷ bs) m u a = all_append (λ w. IsClear w.range) m.writes
      (record { range = r; bytes = b ∷ bs } ∷ []) a (u, tt)

  copy_clear : (call : ℕ) (source : Range) (target : Option Range) (skip : Option Cond) (m : Made) → AreClear m
      → AreClear (make_copy call source target skip m)
  copy_clear call source None skip m a = a
  copy_clear call source (Some target) skip m a = a

  module _ (here : List Placed) (p : Placed) (others : List Placed) (e : h.placed ≡ here ++ p ∷ others) where
    own_clear : (b from to : ℕ) → p.block ≡ Some b → IsClear (range b from to)
    own_clear b from to took n s =
        absurd (both_ways (takes b (since ++ h.placed)) n (ap (λ l. takes b (since ++ l)) e
        ∙ ap (takes b) (sym (append_assoc since here (p ∷ others))) ∙ takes_more b (since ++ here) p others took))

    page_clear : (q : Range) → p.staged ≡ Some q → IsClear q
    page_clear q is n s =
        absurd (both_ways (stages_in q.block h.placed) s (ap (stages_in q.block) e
        ∙ list_any-append (λ x. is_staged_in q.block x.staged) here (p ∷ others)
        ∙ or_right (stages_in q.block here) (stages_in q.block (p ∷ others))
        (or_left (is_staged_in q.block p.staged) (stages_in q.block others)
        (ap (is_staged_in q.block) is ∙ eq-eqb q.block q.block refl))))

    item_clear : (past : List Turn) (call item : ℕ) (ends : Bool) (play : Play) (bound : List Range) (back : List Turn)
        → log.script.turns ≡ past ++ Item call item ends play bound ∷ back → (m : Made) (new : BlockMap)
        → PlacesPlay log.script play p m.blocks new → Lives (in_order log.meaning log.script past at_start).live
        m.blocks
        → StayBound here past m.blocks → AreClear m → AreClear (make_play log.script call play bound p m)
    item_clear past call item ends (Create buffer bytes) bound back at m new k lives f a =
        subst (λ o. AreClear (make_write (block_range o 0 (length bytes)) bytes (give_block log.script buffer o m)))
        (sym k.1)
        (write_clear (range k.0 0 (length bytes)) bytes (give_block log.script buffer (Some k.0) m)
        (own_clear k.0 0 (length bytes) k.1) a)
    item_clear past call item ends (Discard buffer from bytes) bound back at m new k lives f a =
        subst (λ o. AreClear (make_write (block_range o from (from + length bytes)) bytes
        (give_block log.script buffer o m))) (sym k.1)
        (write_clear (range k.0 from (from + length bytes)) bytes (give_block log.script buffer (Some k.0) m)
        (own_clear k.0 from (from + length bytes) k.1) a)
    item_clear past call item ends (No_overwrite buffer from bytes) bound back at m new k lives f a =
        let right = lawful.plays past call item ends (No_overwrite buffer from bytes) bound back at in
        let on = lives.has_block buffer right.0.0 in
        let r = range (block_of m.blocks buffer) from (from + length bytes) in
        let same : block_of m.blocks buffer ≡ on.0 = ap or_zero on.1 in
        write_clear r bytes m
        (λ n s. all_map (λ d. BoundSince d (since ++ here) past m.blocks) (Spares r)
        (λ d g. spared r d (λ b i t u.
        let block : on.0 ≡ b = sym same ∙ covered_block r b i u in
        let free : takes b (since ++ here) ≡ false =
        none_front (λ q. is_block q.block b) (since ++ here) (p ∷ others)
        (ap (takes b) (append_assoc since here (p ∷ others)) ∙ ap (λ l. takes b (since ++ l)) (sym e)
        ∙ ap (λ b. takes b (since ++ h.placed)) (sym (covered_block r b i u)) ∙ n) in
        both_ways (is_bound buffer past false i) (right.2 i (covered_from r b i u) (covered_to r b i u))
        (g buffer b i (on.1 ∙ ap Some block) free t))) ds f) a
    item_clear past call item ends (Stage [] target skip) bound back at m new k lives f a =
        subst (λ o. AreClear (make_staged log.script call [] target skip bound o m)) (sym k.2) a
    item_clear past call item ends (Stage (x ∷ bytes) target skip) bound back at m new k lives f a =
        let q = k.2 in
        subst (λ o. AreClear (make_staged log.script call (x ∷ bytes) target skip bound o m)) (sym q.1)
        (copy_clear call q.0 target skip (make_write q.0 (x ∷ bytes) m)
        (write_clear q.0 (x ∷ bytes) m (page_clear q.0 q.1) a))
    item_clear past call item ends (Command w skip) bound back at m new k lives f a = a
    item_clear past call item ends (Destroy buffer) bound back at m new k lives f a = a
    item_clear past call item ends Create_shader bound back at m new k lives f a = a
    item_clear past call item ends (Mark_query query begins) bound back at m new k lives f a = a
    item_clear past call item ends Set_state bound back at m new k lives f a = a

  abbrev ClearOn : List Turn → List Turn → Type 0
  ClearOn ts back =
      (past : List Turn) (here ps : List Placed) (m : Made) (new : BlockMap)
      → log.script.turns ≡ past ++ (ts ++ back) → h.placed ≡ here ++ ps
      → GivesTo log.script ts ps m.blocks new → Lives (in_order log.meaning log.script past at_start).live m.blocks
      → StayBound here past m.blocks
      → AreClear m → AreClear (make_turns log.script ts ps m)

  plain_clear : (t : Turn) (ts back : List Turn) → ClearOn ts back → ((r : ℕ) → resets r t ≡ false)
      → (past : List Turn) (here ps : List Placed) (m : Made) (new : BlockMap)
      → log.script.turns ≡ past ++ (t ∷ ts ++ back)
      → h.placed ≡ here ++ ps → GivesTo log.script ts ps m.blocks new
      → Lives (turn_in_order log.meaning log.script t (in_order log.meaning log.script past at_start)).live m.blocks
      → StayBound here past m.blocks → AreClear m → AreClear (make_turns log.script ts ps m)
  plain_clear t ts back rec n past here ps m new at e g lives f a =
      rec (past ++ t ∷ []) here ps m new (next_place log.meaning log.script lawful past t ts back at) e g
      (subst (λ x. Lives x.live m.blocks) (sym (next_state log.meaning log.script lawful past t)) lives)
      (all_map (λ d. BoundSince d (since ++ here) past m.blocks)
      (λ d. BoundSince d (since ++ here) (past ++ t ∷ []) m.blocks)
      (λ d k. plain_since d (since ++ here) past t m.blocks n k) ds f) a

  turn_clear : (t : Turn) (ts back : List Turn) → ClearOn ts back → ClearOn (t ∷ ts) back
  turn_clear (Refused call) ts back rec past here ps m new at e g lives f a =
      plain_clear (Refused call) ts back rec (λ r. refl) past here ps m new at e g lives f a
  turn_clear (Passed call) ts back rec past here ps m new at e g lives f a =
      plain_clear (Passed call) ts back rec (λ r. refl) past here ps m new at e g lives f a
  turn_clear (Flushed call) ts back rec past here ps m new at e g lives f a =
      plain_clear (Flushed call) ts back rec (λ r. refl) past here ps m new at e g lives f a
  turn_clear (Asked call ask used may_pend) ts back rec past here ps m new at e g lives f a =
      plain_clear (Asked call ask used may_pend) ts back rec (λ r. refl) past here ps m new at e g lives f a
  turn_clear (Item call item ends play bound) ts back rec past here ps m new at e g lives f a =
      let t = Item call item ends play bound in
      let p = g.0 in
      let n = make_play log.script call play bound p m in
      let split = e ∙ ap (λ l. here ++ l) g.2 in
      let blocks : n.blocks ≡ g.3 = made_blocks log.script (t ∷ []) (p ∷ []) m.blocks g.3 m
      (p, [], refl, g.3, g.4, g.5, g.6, (refl, refl)) refl in
      let next : StayBound (here ++ p ∷ []) (past ++ t ∷ []) n.blocks =
      all_map (λ d. BoundSince d (since ++ here) past m.blocks)
      (λ d. BoundSince d (since ++ (here ++ p ∷ [])) (past ++ t ∷ []) n.blocks)
      (λ d k. subst (λ o. BoundSince d (since ++ (here ++ p ∷ [])) (past ++ t ∷ []) o) (sym blocks)
      (subst (λ l. BoundSince d l (past ++ t ∷ []) g.3) (append_assoc since here (p ∷ []))
      (item_since log.script d (since ++ here) past call item ends play bound p m.blocks g.3 g.4 k))) ds f in
      subst (λ l. AreClear (make_turns log.script (t ∷ ts) l m)) (sym g.2)
      (rec (past ++ t ∷ []) (here ++ p ∷ []) g.1 n new (next_place log.meaning log.script lawful past t ts back at)
      (split ∙ sym (append_assoc here (p ∷ []) g.1)) (subst (λ o. GivesTo log.script ts g.1 o new) (sym blocks) g.7)
      (subst (λ x. Lives x.live n.blocks) (sym (next_state log.meaning log.script lawful past t))
      (subst (Lives (play_in_order log.meaning log.script play
      (in_order log.meaning log.script past at_start)).live) (sym blocks)
      (item_lives log.meaning log.script lawful past call item ends play bound (ts ++ back) at p m.blocks g.3 g.4
      lives)))
      next (item_clear here p g.1 split past call item ends play bound (ts ++ back) at m g.3 g.4 lives f a))

  turns_clear : (ts back : List Turn) → ClearOn ts back
  turns_clear [] back past here ps m new at e g lives f a = a
  turns_clear (t ∷ ts) back past here ps m new at e g lives f a =
      turn_clear t ts back (turns_clear ts back) past here ps m new at e g lives f a

joined_both : (xs ys : List (List Turn)) → joined (xs ++ ys) ≡ joined xs ++ joined ys
joined_both [] ys = refl
joined_both (x ∷ xs) ys = ap (λ l. x ++ l) (joined_both xs ys) ∙ sym (append_assoc x (joined xs) (joined ys))

pub parts_clear : (log : Log) → IsLawful log.meaning log.script
    → (front : List Head) (x : Head) (mid : List Head) (h : Head)
    → Succeeds log ((front ++ x ∷ mid) ++ h ∷ [])
    → AllByRecursion (λ w. takes w.range.block (all_places (places_in mid) ++ h.placed) ≡ false
    → stages_in w.range.block h.placed ≡ false
    → AllByRecursion (Spares w.range) (made_of log (front ++ x ∷ [])).listed)
    (made_of log ((front ++ x ∷ mid) ++ h ∷ [])).writes
parts_clear log lawful front x mid h s =
    let script = log.script in
    let full = front ++ x ∷ mid in
    let first = front ++ x ∷ [] in
    let n = suc (length full) in
    let split : full ≡ first ++ mid = sym (append_assoc front (x ∷ []) mid) in
    let sx : Succeeds log (front ++ x ∷ []) = λ f y g e. s f y (g ++ (mid ++ h ∷ []))
    (ap (λ l. l ++ h ∷ []) (split ∙ ap (λ l. l ++ mid) e ∙ append_assoc f (y ∷ g) mid)
    ∙ append_assoc f (y ∷ (g ++ mid)) (h ∷ [])
    ∙ ap (λ l. f ++ y ∷ l) (append_assoc g mid (h ∷ []))) in
    let l = last_of log full h s in
    let ds = (made_of log first).listed in
    let k = 1 + length first in
    let cuts : chunks_of script 1 full ≡ chunks_of script 1 first ++ chunks_of script k mid =
    ap (chunks_of script 1) split ∙ heads_append script 1 first mid in
    let parts = line_parts script no_blocks l.before (chunks_of script 1 first) (chunks_of script k mid)
    (subst (λ c. GivesLine script no_blocks c l.before) cuts l.line) in
    let there : (made_of log first).blocks ≡ parts.0 = line_blocks script 1 first nothing_made no_blocks parts.0
    parts.1 refl in
    let past = joined (turns_of (chunks_of script 1 first)) in
    let more = joined (turns_of (chunks_of script k mid)) in
    let whole : past ++ more ≡ joined (turns_of (chunks_of script 1 full)) =
    sym (ap (λ c. joined (turns_of c)) cuts
    ∙ ap joined (turns_of-append (chunks_of script 1 first) (chunks_of script k mid))
    ∙ joined_both (turns_of (chunks_of script 1 first)) (turns_of (chunks_of script k mid))) in
    let begun = batch_bound log lawful front x sx in
    let stay : AllByRecursion (λ d. BoundSince d (all_places (places_in mid) ++ [])
    (joined (turns_of (chunks_of script 1 full))) l.before) ds =
    all_map (λ d. (r b i : ℕ) → (made_of log first).blocks r ≡ Some b → is_touched (touches d) b i ≡ true
    → is_bound r past false i ≡ true)
    (λ d. BoundSince d (all_places (places_in mid) ++ []) (joined (turns_of (chunks_of script 1 full))) l.before)
    (λ d f. subst (λ t. BoundSince d (all_places (places_in mid) ++ []) t l.before) whole
    (subst (λ q. BoundSince d q (past ++ more) l.before) (sym (append-nil (all_places (places_in mid))))
    (line_since script d k mid past parts.0 l.before [] parts.2
    (λ r b i e none u. f r b i (ap (λ g. g r) there ∙ e) u)))) ds begun in
    let m = next_chunk (made_of log full) in
    let here = chunk_turns script n in
    subst (λ made. AllByRecursion (λ w. takes w.range.block (all_places (places_in mid) ++ h.placed) ≡ false
    → stages_in w.range.block h.placed ≡ false
    → AllByRecursion (Spares w.range) ds) made.writes) (sym l.made_here)
    (turns_clear log lawful ds (all_places (places_in mid)) h here l.back
    (joined (turns_of (chunks_of script 1 full))) [] h.placed m l.after l.turns refl
    (subst (λ o. GivesTo script here h.placed o l.after) (sym l.made_before) l.gives)
    (subst (Lives (in_order log.meaning script (joined (turns_of (chunks_of script 1 full))) at_start).live)
    (sym l.made_before) (lives_before log lawful full h l))
    (subst (λ o. AllByRecursion (λ d. BoundSince d (all_places (places_in mid) ++ [])
    (joined (turns_of (chunks_of script 1 full))) o) ds) (sym l.made_before) stay) tt)
