-- What the items of a message touch: blocks that it took, where it staged bytes, and those of buffers that lived
-- before.
use Rattle.std.proofs.Common.{◌≡◌, ℕ, suc, ◌+◌, ◌<◌, Bool, true, false, cond, ◌==◌, List, [], ◌∷◌, ◌++◌, map, length}
use Rattle.std.proofs.Common.{refl, sym, ap, ◌∙◌, subst, inl, inr, Option, Some, None, arith, append_assoc}
use Rattle.std.proofs.Common.{append-nil}
use Rattle.std.specs.List.{AllByRecursion}
use Rattle.std.proofs.lemmas.Bool.{cases_Bool, eq-eqb}
use Rattle.std.proofs.lemmas.List.Folds.{list_any-append}
use Rattle.dx_types.specs.declared.range.Range.{Range}
use Rattle.vk_types.specs.declared.command.Work.TheVariants as work
use Rattle.vk_types.specs.declared.command.Command as c
use Rattle.vk_types.specs.declared.message.Placed.{Placed}
use Rattle.vk_types.specs.declared.op.Barrier.{Barrier}
use Rattle.vk_types.specs.declared.touch.Touch.{Touch}
use Rattle.vk_types.specs.Memory.{covers, or_zero}
use Rattle.vk_types.specs.Hazards.{touches, work_touches, cond_touches, is_touched}
use Rattle.vk_types.specs.Effects.{Meaning}
use Rattle.vk_types.proofs.Local.{covered}
use Rattle.base_lemmas.proofs.Lists.{all_append}
use Rattle.core_model.specs.Script.{Play, Create, Discard, No_overwrite, Stage, Command, Destroy, Create_shader}
use Rattle.core_model.specs.Script.{Mark_query, Set_state, Turn, Refused, Passed, Flushed, Asked, Item, Script}
use Rattle.core_model.specs.Script.{InOrder, at_start, in_order, turn_in_order, play_in_order, updated}
use Rattle.core_model.specs.Chunking.{chunk_turns, joined}
use Rattle.core_model.specs.Renaming.{BlockMap, cond_on, range_on}
use Rattle.core_model.specs.CoreState.{Segment}
use Rattle.core_model.specs.Owners.{is_block}
use Rattle.core_model.specs.Batching.{Made, next_chunk, add_command, give_block, make_write, make_staged, block_range}
use Rattle.core_model.specs.Batching.{make_play, make_turns}
use Rattle.core_model.specs.Lawful.{IsLawful, play_touches, target_touches}
use Rattle.core_model.specs.Succession.{Head, Log, PlacesPlay, takes, stages_in, is_staged_in}
use Rattle.core_model.specs.Spine.{Succeeds, made_of, MayUse}
use Rattle.core_model.proofs.Steps.Binding.{or_left, or_right}
use Rattle.core_model.proofs.Steps.Turning.{in_order-append}
use Rattle.core_model.proofs.Steps.Uses.{touch_on, touches_on, conds_on, bound_fits}
use Rattle.core_model.proofs.Listing.Touched.{touched_back}
use Rattle.core_model.proofs.Messages.Placements.{GivesTo, GivesLine}
use Rattle.core_model.proofs.Messages.Succeeding.{no_blocks}
use Rattle.core_model.proofs.Messages.MadeLines.{made_blocks}
use Rattle.core_model.proofs.Messages.HeadLines.{chunks_of, LastOf, last_of}
use Rattle.core_model.specs.Invariant.{turns_of}
pub use Rattle.core_model.proofs.Messages.LiveBlocks.{Lives}
use Rattle.core_model.proofs.Messages.LiveBlocks.{created_lives, renamed_lives, destroyed_lives}

-- the place's blocks are of the kind
abbrev pub IsAllowed : (ℕ → Type 0) → Placed → Type 0
IsAllowed U p = ((b : ℕ) → p.block ≡ Some b → U b) × ((r : Range) → p.staged ≡ Some r → U r.block)

-- so are those that the command touches
abbrev pub TouchesUsed : (ℕ → Type 0) → c.Command → Type 0
TouchesUsed U d = AllByRecursion (λ t. U t.range.block) (touches d)

-- what is made uses blocks of the kind alone
pub record UsesAll (U : ℕ → Type 0) (m : Made) : Type 0 where
  pub owned : (r b : ℕ) → m.blocks r ≡ Some b → U b
  pub listed : AllByRecursion (λ d. AllByRecursion (λ t. U t.range.block) (touches d)) m.listed
  pub writes : AllByRecursion (λ w. U w.range.block) m.writes

module _ (meaning : Meaning) (script : Script) (lawful : IsLawful meaning script) where
  -- the state behind these turns
  abbrev pub state : List Turn → InOrder
  state past = in_order meaning script past at_start

  pub item_lives : (past : List Turn) (call item : ℕ) (ends : Bool) (play : Play) (bound : List Range)
      (back : List Turn)
      → script.turns ≡ past ++ Item call item ends play bound ∷ back → (p : Placed) (old new : BlockMap)
      → PlacesPlay script play p old new → Lives (state past).live old
      → Lives (play_in_order meaning script play (state past)).live new
  item_lives past call item ends (Create buffer bytes) bound back at p old new k h =
      subst (Lives (updated buffer true (state past).live)) (sym k.5) (created_lives (state past).live old h buffer k.0)
  item_lives past call item ends (Discard buffer from bytes) bound back at p old new k h =
      let right = lawful.plays past call item ends (Discard buffer from bytes) bound back at in
      subst (Lives (state past).live) (sym k.5) (renamed_lives (state past).live old h buffer k.0 right.0.0)
  item_lives past call item ends (No_overwrite buffer from bytes) bound back at p old new k h =
      subst (Lives (state past).live) (sym k.1) h
  item_lives past call item ends (Stage bytes target skip) bound back at p old new k h =
      subst (Lives (state past).live) (sym k.3) h
  item_lives past call item ends (Command w skip) bound back at p old new k h =
      subst (Lives (state past).live) (sym k.1) h
  item_lives past call item ends (Destroy buffer) bound back at p old new k h =
      subst (Lives (updated buffer false (state past).live)) (sym k.3) (destroyed_lives (state past).live old h buffer)
  item_lives past call item ends Create_shader bound back at p old new k h = subst (Lives (state past).live) (sym k.1) h
  item_lives past call item ends (Mark_query query true) bound back at p old new k h =
      subst (Lives (state past).live) (sym k.1) h
  item_lives past call item ends (Mark_query query false) bound back at p old new k h =
      subst (Lives (state past).live) (sym k.1) h
  item_lives past call item ends Set_state bound back at p old new k h = subst (Lives (state past).live) (sym k.1) h

  -- one turn on
  pub next_state : (past : List Turn) (t : Turn) → state (past ++ t ∷ []) ≡ turn_in_order meaning script t (state past)
  next_state past t = in_order-append meaning script past (t ∷ []) at_start

  pub next_place : (past : List Turn) (t : Turn) (ts back : List Turn) → script.turns ≡ past ++ (t ∷ ts ++ back)
      → script.turns ≡ (past ++ t ∷ []) ++ (ts ++ back)
  next_place past t ts back at = at ∙ sym (append_assoc past (t ∷ []) (ts ++ back))

  -- the rest of the turns, behind one of them
  abbrev LivesOn : List Turn → List Turn → List Turn → BlockMap → Type 0
  LivesOn ts past back new =
      (t : Turn) → script.turns ≡ (past ++ t ∷ []) ++ (ts ++ back) → (ps : List Placed) (mid : BlockMap)
      → GivesTo script ts ps mid new
      → Lives (state (past ++ t ∷ [])).live mid → Lives (state ((past ++ t ∷ []) ++ ts)).live new

  turn_lives : (t : Turn) (ts past back : List Turn) → script.turns ≡ past ++ (t ∷ ts ++ back)
      → (ps : List Placed) (old new : BlockMap)
      → LivesOn ts past back new → GivesTo script (t ∷ ts) ps old new → Lives (state past).live old
      → Lives (state ((past ++ t ∷ []) ++ ts)).live new
  turn_lives t ts past back at ps old new rec = by t at
    where
      on : (t : Turn) → script.turns ≡ past ++ (t ∷ ts ++ back) → (qs : List Placed) (mid : BlockMap)
          → GivesTo script ts qs mid new
          → Lives (turn_in_order meaning script t (state past)).live mid
          → Lives (state ((past ++ t ∷ []) ++ ts)).live new
      on t at qs mid g h =
          rec t (next_place past t ts back at) qs mid g (subst (λ s. Lives s.live mid) (sym (next_state past t)) h)

      by : (t : Turn) → script.turns ≡ past ++ (t ∷ ts ++ back) → GivesTo script (t ∷ ts) ps old new
          → Lives (state past).live old
          → Lives (state ((past ++ t ∷ []) ++ ts)).live new
      by (Refused call) at g h = on (Refused call) at ps old g h
      by (Passed call) at g h = on (Passed call) at ps old g h
      by (Flushed call) at g h = on (Flushed call) at ps old g h
      by (Asked call ask used may_pend) at g h = on (Asked call ask used may_pend) at ps old g h
      by (Item call item ends play bound) at g h =
          on (Item call item ends play bound) at g.1 g.3 g.7
          (item_lives past call item ends play bound (ts ++ back) at g.0 old g.3 g.4 h)

  pub turns_live : (ts past back : List Turn) → script.turns ≡ past ++ (ts ++ back)
      → (ps : List Placed) (old new : BlockMap)
      → GivesTo script ts ps old new → Lives (state past).live old → Lives (state (past ++ ts)).live new
  turns_live [] past back at ps old new g h =
      subst (λ l. Lives (state l).live new) (sym (append-nil past)) (subst (Lives (state past).live) (sym g.1) h)
  turns_live (t ∷ ts) past back at ps old new g h =
      subst (λ l. Lives (state l).live new) (append_assoc past (t ∷ []) ts)
      (turn_lives t ts past back at ps old new
      (λ q here qs mid g h. turns_live ts (past ++ q ∷ []) back here qs mid new g h) g h)

  -- behind the chunks of the first messages
  pub line_lives : (ss : List Segment) (past back : List Turn) → script.turns ≡ past ++ (joined (turns_of ss) ++ back)
      → (old new : BlockMap) → GivesLine script old ss new → Lives (state past).live old
      → Lives (state (past ++ joined (turns_of ss))).live new
  line_lives [] past back at old new g h =
      subst (λ l. Lives (state l).live new) (sym (append-nil past)) (subst (Lives (state past).live) (sym g) h)
  line_lives (s ∷ ss) past back at old new g h =
      let here = at ∙ ap (λ l. past ++ l) (append_assoc s.turns (joined (turns_of ss)) back) in
      subst (λ l. Lives (state l).live new) (append_assoc past s.turns (joined (turns_of ss)))
      (line_lives ss (past ++ s.turns) back (here ∙ sym (append_assoc past s.turns (joined (turns_of ss) ++ back)))
      g.0 new g.2
      (turns_live s.turns past (joined (turns_of ss) ++ back) here s.placed old g.0 g.1 h))

  -- What a command touches is live ----------------------------------------------------------------------------------

  all_touched : (P : ℕ → Type 0) (pre ts : List Touch) → AllByRecursion (λ t. t.range.from < t.range.to) ts
      → ((b i : ℕ) → is_touched (pre ++ ts) b i ≡ true → P b) → AllByRecursion (λ t. P t.range.block) ts
  all_touched P pre [] h f = tt
  all_touched P pre (t ∷ ts) h f =
      let r = t.range in
      let here : covers r r.block r.from ≡ true = covered r r.block r.from refl (omega arith) h.0 in (
        f r.block r.from (touched_back pre (t ∷ ts) r.block r.from
            (or_left (covers r r.block r.from) (is_touched ts r.block r.from) here)),
        all_touched P (pre ++ t ∷ []) ts h.1
            (λ b i k. f b i (subst (λ l. is_touched l b i ≡ true) (append_assoc pre (t ∷ []) ts) k)),
      )

  pub live_touches : (past : List Turn) (call item : ℕ) (ends : Bool) (play : Play) (bound : List Range)
      (back : List Turn)
      → script.turns ≡ past ++ Item call item ends play bound ∷ back
      → AllByRecursion (λ t. (state past).live t.range.block ≡ true) (play_touches play)
  live_touches past call item ends play bound back at =
      all_touched (λ b. (state past).live b ≡ true) [] (play_touches play)
      (lawful.filled past call item ends play bound back at)
      (λ b i k. (bound_fits meaning script past bound (lawful.fits past call item ends play bound back at) b i
      (lawful.binds past call item ends play bound back at b i k)).0)

  -- What is made uses blocks of a kind ------------------------------------------------------------------------------

  module _ (U : ℕ → Type 0) where
    pub on_blocks : (live : ℕ → Bool) (blocks : BlockMap) (ts : List Touch) → Lives live blocks
        → ((r b : ℕ) → blocks r ≡ Some b → U b)
        → AllByRecursion (λ t. live t.range.block ≡ true) ts
        → AllByRecursion (λ t. U t.range.block) (map (touch_on blocks) ts)
    on_blocks live blocks [] h f k = tt
    on_blocks live blocks (t ∷ ts) h f k =
        let has = h.has_block t.range.block k.0 in
        (subst U (sym (ap or_zero has.1)) (f t.range.block has.0 has.1), on_blocks live blocks ts h f k.1)

    more_command : (d : c.Command) (barrier : Option Barrier) (m : Made) → TouchesUsed U d → UsesAll U m
        → UsesAll U (add_command d barrier m)
    more_command d barrier m t h = record {
      owned = h.owned;
      listed = all_append (TouchesUsed U) m.listed (d ∷ []) h.listed (t, tt);
      writes = h.writes;
    }

    same_parts : (m : Made) (rs : List Range) → UsesAll U m → UsesAll U (record m { staging = rs })
    same_parts m rs h = record { owned = h.owned; listed = h.listed; writes = h.writes }

    more_write : (r : Range) (bytes : List ℕ) (m : Made) → U r.block → UsesAll U m → UsesAll U (make_write r bytes m)
    more_write r [] m u h = h
    more_write r (b ∷ bs) m u h = record {
      owned = h.owned;
      listed = h.listed;
      writes = all_append (λ w. U w.range.block) m.writes (record { range = r; bytes = b ∷ bs } ∷ []) h.writes (u, tt);
    }

    given_block : (buffer b : ℕ) (o : Option ℕ) (m : Made) → o ≡ Some b → U b → UsesAll U m
        → UsesAll U (give_block script buffer o m)
    given_block buffer b None m e u h = absurd (cc e)
    given_block buffer b (Some c) m e u h = record {
      owned = λ r q k. elim (cases_Bool (r == buffer)) [
        | inl t ↦
            let same : Some c ≡ Some q = sym (ap (λ x. cond x (Some c) (m.blocks r)) t) ∙ k in
            let there : b ≡ q = cc (e, same) in
            subst U there u
        | inr f ↦ h.owned r q (sym (ap (λ x. cond x (Some c) (m.blocks r)) f) ∙ k)
      ];
      listed = h.listed;
      writes = h.writes;
    }

    written_there : (o : Option ℕ) (b from to : ℕ) → o ≡ Some b → U b → U (block_range o from to).block
    written_there o b from to e u = subst (λ o. U (block_range o from to).block) (sym e) u

    pub play_uses : (past : List Turn) (call item : ℕ) (ends : Bool) (play : Play) (bound : List Range)
        (back : List Turn)
        → script.turns ≡ past ++ Item call item ends play bound ∷ back → (p : Placed) (m : Made) (new : BlockMap)
        → PlacesPlay script play p m.blocks new → IsAllowed U p → Lives (state past).live m.blocks → UsesAll U m
        → UsesAll U (make_play script call play bound p m)
    play_uses past call item ends (Create buffer bytes) bound back at p m new k u lives h =
        more_write _ bytes _ (written_there p.block k.0 0 (length bytes) k.1 (u.0 k.0 k.1))
        (given_block buffer k.0 p.block m k.1 (u.0 k.0 k.1) h)
    play_uses past call item ends (Discard buffer from bytes) bound back at p m new k u lives h =
        more_write _ bytes _ (written_there p.block k.0 from (from + length bytes) k.1 (u.0 k.0 k.1))
        (given_block buffer k.0 p.block m k.1 (u.0 k.0 k.1) h)
    play_uses past call item ends (No_overwrite buffer from bytes) bound back at p m new k u lives h =
        let right = lawful.plays past call item ends (No_overwrite buffer from bytes) bound back at in
        let has = lives.has_block buffer right.0.0 in
        more_write _ bytes m (subst U (sym (ap or_zero has.1)) (h.owned buffer has.0 has.1)) h
    play_uses past call item ends (Stage [] target skip) bound back at p m new k u lives h =
        subst (λ s. UsesAll U (make_staged script call [] target skip bound s m)) (sym k.2) h
    play_uses past call item ends (Stage (b ∷ bs) None skip) bound back at p m new k u lives h =
        let s = k.2 in
        subst (λ s. UsesAll U (make_staged script call (b ∷ bs) None skip bound s m)) (sym s.1)
        (same_parts _ _ (more_write s.0 (b ∷ bs) m (u.1 s.0 s.1) h))
    play_uses past call item ends (Stage (b ∷ bs) (Some target) skip) bound back at p m new k u lives h =
        let s = k.2 in
        let live = live_touches past call item ends (Stage (b ∷ bs) (Some target) skip) bound back at in
        let on = on_blocks (state past).live m.blocks (target_touches (Some target) ++ cond_touches skip) lives
        h.owned live in
        let touched : AllByRecursion (λ t. U t.range.block)
        (work_touches (work.Copy s.0 (range_on m.blocks target)) ++ cond_touches (cond_on m.blocks skip)) = (
          u.1 s.0 s.1,
          (on.0, subst (AllByRecursion (λ t. U t.range.block)) (sym (conds_on m.blocks skip)) on.1),
        ) in
        subst (λ s. UsesAll U (make_staged script call (b ∷ bs) (Some target) skip bound s m)) (sym s.1)
        (same_parts _ _ (more_command _ _ (make_write s.0 (b ∷ bs) m) touched
        (more_write s.0 (b ∷ bs) m (u.1 s.0 s.1) h)))
    play_uses past call item ends (Command w skip) bound back at p m new k u lives h =
        let live = live_touches past call item ends (Command w skip) bound back at in
        let on = on_blocks (state past).live m.blocks (work_touches w ++ cond_touches skip) lives h.owned live in
        same_parts _ _ (more_command _ _ m
        (subst (AllByRecursion (λ t. U t.range.block)) (sym (touches_on m.blocks w skip)) on) h)
    play_uses past call item ends (Destroy buffer) bound back at p m new k u lives h = record {
      owned = λ r q e. elim (cases_Bool (r == buffer)) [
        | inl t ↦ absurd (let z : None ≡ Some q = sym (ap (λ x. cond x None (m.blocks r)) t) ∙ e in cc z)
        | inr f ↦ h.owned r q (sym (ap (λ x. cond x None (m.blocks r)) f) ∙ e)
      ];
      listed = h.listed;
      writes = h.writes;
    }
    play_uses past call item ends Create_shader bound back at p m new k u lives h = h
    play_uses past call item ends (Mark_query query begins) bound back at p m new k u lives h =
        record { owned = h.owned; listed = h.listed; writes = h.writes }
    play_uses past call item ends Set_state bound back at p m new k u lives h = same_parts m _ h

    -- the rest of the turns, behind one of them
    abbrev UsesOn : List Turn → List Turn → List Turn → BlockMap → Type 0
    UsesOn ts past back new =
        (t : Turn) → script.turns ≡ (past ++ t ∷ []) ++ (ts ++ back) → (ps : List Placed) (mid : BlockMap) (m : Made)
        → GivesTo script ts ps mid new → AllByRecursion (IsAllowed U) ps → m.blocks ≡ mid
        → Lives (state (past ++ t ∷ [])).live mid
        → UsesAll U m → UsesAll U (make_turns script ts ps m)

    turn_uses : (t : Turn) (ts past back : List Turn) → script.turns ≡ past ++ (t ∷ ts ++ back)
        → (ps : List Placed) (old new : BlockMap)
        (m : Made) → UsesOn ts past back new → GivesTo script (t ∷ ts) ps old new → AllByRecursion (IsAllowed U) ps
        → m.blocks ≡ old
        → Lives (state past).live old → UsesAll U m → UsesAll U (make_turns script (t ∷ ts) ps m)
    turn_uses t ts past back at ps old new m rec = by t at
      where
        on : (t : Turn) → script.turns ≡ past ++ (t ∷ ts ++ back) → (qs : List Placed) (mid : BlockMap) (n : Made)
            → GivesTo script ts qs mid new → AllByRecursion (IsAllowed U) qs → n.blocks ≡ mid
            → Lives (turn_in_order meaning script t (state past)).live mid → UsesAll U n
            → UsesAll U (make_turns script ts qs n)
        on t at qs mid n g u e lives h =
            rec t (next_place past t ts back at) qs mid n g u e
            (subst (λ s. Lives s.live mid) (sym (next_state past t)) lives) h

        by : (t : Turn) → script.turns ≡ past ++ (t ∷ ts ++ back) → GivesTo script (t ∷ ts) ps old new
            → AllByRecursion (IsAllowed U) ps → m.blocks ≡ old → Lives (state past).live old → UsesAll U m
            → UsesAll U (make_turns script (t ∷ ts) ps m)
        by (Refused call) at g u e lives h = on (Refused call) at ps old m g u e lives h
        by (Passed call) at g u e lives h = on (Passed call) at ps old m g u e lives h
        by (Flushed call) at g u e lives h = on (Flushed call) at ps old m g u e lives h
        by (Asked call ask used may_pend) at g u e lives h = on (Asked call ask used may_pend) at ps old m g u e lives h
        by (Item call item ends play bound) at g u e lives h =
            let t = Item call item ends play bound in
            let v = subst (AllByRecursion (IsAllowed U)) g.2 u in
            let n = make_play script call play bound g.0 m in
            subst (λ l. UsesAll U (make_turns script (t ∷ ts) l m)) (sym g.2)
            (on t at g.1 g.3 n g.7 v.1
            (made_blocks script (t ∷ []) (g.0 ∷ []) old g.3 m (g.0, [], refl, g.3, g.4, g.5, g.6, (refl, refl)) e)
            (item_lives past call item ends play bound (ts ++ back) at g.0 old g.3 g.4 lives)
            (play_uses past call item ends play bound (ts ++ back) at g.0 m g.3
            (subst (λ o. PlacesPlay script play g.0 o g.3) (sym e) g.4) v.0
            (subst (Lives (state past).live) (sym e) lives) h))

    turns_use : (ts past back : List Turn) → script.turns ≡ past ++ (ts ++ back)
        → (ps : List Placed) (old new : BlockMap) (m : Made)
        → GivesTo script ts ps old new → AllByRecursion (IsAllowed U) ps → m.blocks ≡ old
        → Lives (state past).live old → UsesAll U m
        → UsesAll U (make_turns script ts ps m)
    turns_use [] past back at ps old new m g u e lives h = h
    turns_use (t ∷ ts) past back at ps old new m g u e lives h =
        turn_uses t ts past back at ps old new m
        (λ q here qs mid n g u e lives h. turns_use ts (past ++ q ∷ []) back here qs mid new n g u e lives h) g u e
        lives h

-- A message ---------------------------------------------------------------------------------------------------------

none_lives : Lives (λ r. false) no_blocks
none_lives = record { has_block = λ r l. absurd (cc l); is_live = λ r b e. absurd (cc e) }

-- before a message the live buffers are those that have a block
pub lives_before : (log : Log) → IsLawful log.meaning log.script
    → (front : List Head) (h : Head) (l : LastOf log front h)
    → Lives (in_order log.meaning log.script (joined (turns_of (chunks_of log.script 1 front))) at_start).live l.before
lives_before log lawful front h l =
    line_lives log.meaning log.script lawful (chunks_of log.script 1 front) []
    (chunk_turns log.script (suc (length front)) ++ l.back) l.turns no_blocks l.before l.line none_lives

-- the message's own places
module _ (log : Log) (front : List Head) (h : Head) where
  allowed : (pre ps : List Placed) → h.placed ≡ pre ++ ps → AllByRecursion (IsAllowed (MayUse log front h)) ps
  allowed pre [] e = tt
  allowed pre (p ∷ ps) e = (
    (
      λ b is. inl (ap (takes b) e ∙ list_any-append (λ p. is_block p.block b) pre (p ∷ ps)
          ∙ or_right (takes b pre) (takes b (p ∷ ps)) (or_left (is_block p.block b) (takes b ps)
          (ap (λ o. is_block o b) is ∙ eq-eqb b b refl))),
      λ r is. inr (inl (ap (stages_in r.block) e ∙ list_any-append (λ p. is_staged_in r.block p.staged) pre (p ∷ ps)
          ∙ or_right (stages_in r.block pre) (stages_in r.block (p ∷ ps))
          (or_left (is_staged_in r.block p.staged) (stages_in r.block ps)
          (ap (is_staged_in r.block) is ∙ eq-eqb r.block r.block refl)))),
    ),
    allowed (pre ++ p ∷ []) ps (e ∙ sym (append_assoc pre (p ∷ []) ps)),
  )

pub message_uses : (log : Log) → IsLawful log.meaning log.script → (front : List Head) (h : Head)
    → Succeeds log (front ++ h ∷ [])
    → UsesAll (MayUse log front h) (made_of log (front ++ h ∷ []))
message_uses log lawful front h s =
    let l = last_of log front h s in
    let script = log.script in
    let past = joined (turns_of (chunks_of script 1 front)) in
    let begun : UsesAll (MayUse log front h) (next_chunk (made_of log front)) =
    record { owned = λ r b e. inr (inr (r, e)); listed = tt; writes = tt } in
    subst (UsesAll (MayUse log front h)) (sym l.made_here)
    (turns_use log.meaning script lawful (MayUse log front h) (chunk_turns script (suc (length front))) past l.back
    l.turns h.placed
    l.before l.after (next_chunk (made_of log front)) l.gives (allowed log front h [] h.placed refl) l.made_before
    (lives_before log lawful front h l) begun)
