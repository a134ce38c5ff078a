-- A batch's acts in order keep what stands for the buffers: over its items, and from message to message.
use Rattle.std.proofs.Common.{◌≡◌, ℕ, suc, Bool, true, false, List, [], ◌∷◌, ◌++◌}
use Rattle.std.proofs.Common.{map, length, take, refl, sym, ap, ◌∙◌, subst, inl, inr, Option, Some, None, arith}
use Rattle.std.proofs.Common.{append_assoc, append-nil, length-append}
use Rattle.std.specs.List.{AllByRecursion}
use Rattle.std.proofs.lemmas.Bool.{eq-eqb}
use Rattle.std.proofs.lemmas.List.Folds.{list_any-append}
use Rattle.dx_types.specs.declared.range.Range.{Range}
use Rattle.vk_types.specs.declared.message.Placed.{Placed}
use Rattle.vk_types.specs.Memory.{Memory, zeros, meets}
use Rattle.vk_types.specs.Hazards.{touches, is_touched}
use Rattle.base_lemmas.specs.Lists.{Pairwise}
use Rattle.base_lemmas.proofs.Lists.{all_map}
use Rattle.core_model.specs.Script.{Play, Turn, Refused, Passed, Flushed, Asked, Item, InOrder, at_start}
use Rattle.core_model.specs.Script.{in_order, turn_in_order, play_in_order}
use Rattle.core_model.specs.Chunking.{chunks, chunk_turns, joined, after_chunk}
use Rattle.core_model.specs.Renaming.{BlockMap}
use Rattle.core_model.specs.CoreState.{somes}
use Rattle.core_model.specs.Owners.{is_block, in_ranges}
use Rattle.core_model.specs.Batching.{Made, next_chunk, make_play, make_turns}
use Rattle.core_model.specs.BatchActs.{zeroed, part_acts, command_acts, batch_acts, run_acts}
use Rattle.core_model.specs.Invariant.{turns_of}
use Rattle.core_model.specs.Lawful.{IsLawful, resets, bound_by, is_bound}
use Rattle.core_model.specs.Spine.{Succeeds, made_of}
use Rattle.core_model.specs.Stands.{Stands}
use Rattle.core_model.specs.Succession.{Head, Log, PlacesPlay, takes, stages_in, is_staged_in, all_places}
use Rattle.core_model.specs.Succession.{staged_range_of, staged_ranges, taken_lengths, places_in}
use Rattle.core_model.proofs.Steps.Binding.{or_left, or_right}
use Rattle.core_model.proofs.Blocks.BoundRanges.{stays_bound}
use Rattle.core_model.proofs.Messages.Placements.{GivesTo}
use Rattle.core_model.proofs.Messages.MadeLines.{made_blocks}
use Rattle.core_model.proofs.Messages.HeadLines.{chunk_of, chunks_of, heads_last, joined_last, LastOf, last_of}
use Rattle.core_model.proofs.Messages.UsedBlocks.{Lives, UsesAll, item_lives, next_state, next_place, play_uses}
use Rattle.core_model.proofs.Messages.UsedBlocks.{lives_before}
use Rattle.core_model.proofs.Messages.HeldBlocks.{Holds, takes_more, offered_all, play_holds, taken_strange}
use Rattle.core_model.proofs.Messages.HeldBlocks.{holds_before}
use Rattle.core_model.proofs.Messages.BatchMemory.{run_append, all_zero, others_stay, left_in}
use Rattle.core_model.proofs.Messages.StandingItems.{drop_staged, memory, Own, so_far, IsBoundIn, Runs}
use Rattle.core_model.proofs.Messages.StandingItems.{ToCome}
use Rattle.core_model.proofs.Messages.StandingStages.{item_done}
use Rattle.core_model.proofs.Messages.HeadStates.{take_first, take_more, length_of_chunks, joined_more}

drop_pairs : (R : Range → Range → Type 0) (o : Option Range) (qs : List Range)
    → Pairwise R (staged_range_of o ++ qs) → Pairwise R qs
drop_pairs R None qs h = h
drop_pairs R (Some q) qs h = h.1

module _ (log : Log) (lawful : IsLawful log.meaning log.script) (front : List Head) (h : Head)
    (s : Succeeds log (front ++ h ∷ [])) (base : Memory) where
  abbrev RunsAt : List Turn → List Placed → Made → Type 0
  RunsAt past here m = Runs log lawful front h s base past here m

  abbrev Comes : List Turn → List Placed → Made → Type 0
  Comes ts ps m = ToCome log lawful front h s base ts ps m

  -- A turn without an item ------------------------------------------------------------------------------------------

  plain_runs : (past : List Turn) (here : List Placed) (t : Turn) (m : Made) → ((r : ℕ) → resets r t ≡ false)
      → ((x : InOrder) → turn_in_order log.meaning log.script t x ≡ x) → RunsAt past here m
      → RunsAt (past ++ t ∷ []) here m
  plain_runs past here t m n is r =
      let same : in_order log.meaning log.script (past ++ t ∷ []) at_start
      ≡ in_order log.meaning log.script past at_start =
      next_state log.meaning log.script lawful past t ∙ is (in_order log.meaning log.script past at_start) in
      record {
        uses = r.uses;
        bytes = λ q b i k l. r.bytes q b i k l ∙ ap (λ x. x.bytes q i) (sym same);
        bound =
            all_map (IsBoundIn log lawful front h s base past m.blocks)
            (IsBoundIn log lawful front h s base (past ++ t ∷ []) m.blocks)
            (λ d f q b i k u. stays_bound q past t i (n q) (or_left (is_bound q past false i)
            (in_ranges (bound_by t) q i) (f q b i k u))) m.listed r.bound;
        lives = subst (λ x. Lives x.live m.blocks) (sym same) r.lives;
        holds = r.holds;
      }

  -- An item ---------------------------------------------------------------------------------------------------------

  wider : (here : List Placed) (p : Placed) (b : ℕ) → Own log lawful front h s base here b
      → Own log lawful front h s base (here ++ p ∷ []) b
  wider here p b (inl t) =
      inl (list_any-append (λ q. is_block q.block b) here (p ∷ []) ∙ or_left (takes b here) (takes b (p ∷ [])) t)
  wider here p b (inr (inl t)) =
      inr (inl (list_any-append (λ q. is_staged_in b q.staged) here (p ∷ [])
      ∙ or_left (stages_in b here) (stages_in b (p ∷ [])) t))
  wider here p b (inr (inr x)) = inr (inr x)

  staged_more : (here : List Placed) (p : Placed) (q : Range) → p.staged ≡ Some q
      → stages_in q.block (here ++ p ∷ []) ≡ true
  staged_more here p q is =
      list_any-append (λ x. is_staged_in q.block x.staged) here (p ∷ [])
      ∙ or_right (stages_in q.block here) (stages_in q.block (p ∷ [])) (or_left (is_staged_in q.block p.staged) false
      (ap (is_staged_in q.block) is ∙ eq-eqb q.block q.block refl))

  uses_wider : (here : List Placed) (p : Placed) (m : Made) → UsesAll (Own log lawful front h s base here) m
      → UsesAll (Own log lawful front h s base (here ++ p ∷ [])) m
  uses_wider here p m u =
      let U = Own log lawful front h s base here in
      let V = Own log lawful front h s base (here ++ p ∷ []) in
      record {
        owned = λ r b e. wider here p b (u.owned r b e);
        listed = all_map (λ d. AllByRecursion (λ t. U t.range.block) (touches d))
            (λ d. AllByRecursion (λ t. V t.range.block) (touches d))
            (λ d f. all_map (λ t. U t.range.block) (λ t. V t.range.block) (λ t. wider here p t.range.block)
            (touches d) f) m.listed u.listed;
        writes = all_map (λ w. U w.range.block) (λ w. V w.range.block) (λ w. wider here p w.range.block) m.writes
            u.writes;
      }

  item_runs : (past : List Turn) (call item : ℕ) (ends : Bool) (play : Play) (bound : List Range) (back : List Turn)
      → log.script.turns ≡ past ++ Item call item ends play bound ∷ back
      → (here : List Placed) (p : Placed) (others : List Placed) → h.placed ≡ here ++ p ∷ others
      → (ts : List Turn) (m : Made) (new : BlockMap)
      → PlacesPlay log.script play p m.blocks new → p.call ≡ call → p.item ≡ item
      → RunsAt past here m → Comes (Item call item ends play bound ∷ ts) (p ∷ others) m
      → ((make_play log.script call play bound p m).blocks ≡ new)
      × RunsAt (past ++ Item call item ends play bound ∷ []) (here ++ p ∷ []) (make_play log.script call play bound p m)
      × Comes ts others (make_play log.script call play bound p m)
  item_runs past call item ends play bound back at here p others e ts m new k pc pi r t =
      let turn = Item call item ends play bound in
      let n = make_play log.script call play bound p m in
      let d = item_done log lawful front h s base past call item ends bound back here p others e ts m r play new at
      k t in
      let blocks : n.blocks ≡ new = made_blocks log.script (turn ∷ []) (p ∷ []) m.blocks new m
      (p, [], refl, new, k, pc, pi, (refl, refl)) refl in
      let offered = λ (b : ℕ) (is : p.block ≡ Some b).
      offered_all (places_in front) here b ((s front h [] refl).takes_lawfully here p others b e is) in
      let next = next_state log.meaning log.script lawful past turn in (
        blocks,
        record {
          uses = play_uses log.meaning log.script lawful (Own log lawful front h s base (here ++ p ∷ [])) past call
              item ends play bound back at p m new k
              ((λ b is. inl (takes_more b here p [] is)), (λ q is. inr (inl (staged_more here p q is)))) r.lives
              (uses_wider here p m r.uses);
          bytes = λ q b i x l. d.bytes q b i x l ∙ ap (λ x. x.bytes q i) (sym next);
          bound = d.now;
          lives = subst (λ x. Lives x.live n.blocks) (sym next)
              (subst (Lives (play_in_order log.meaning log.script play
              (in_order log.meaning log.script past at_start)).live) (sym blocks)
              (item_lives log.meaning log.script lawful past call item ends play bound back at p m.blocks new k
              r.lives));
          holds = subst (λ l. Holds l n.blocks) (append_assoc (all_places (places_in front)) here (p ∷ []))
              (subst (Holds ((all_places (places_in front) ++ here) ++ p ∷ [])) (sym blocks)
              (play_holds log.script (all_places (places_in front) ++ here) play p m.blocks new k offered r.holds));
        },
        record {
          apart = drop_pairs (λ r s. meets r s ≡ false) p.staged (staged_ranges others) t.apart;
          outside = drop_staged (λ q. takes q.block (so_far log lawful front h s base h.placed) ≡ false) p.staged
              (staged_ranges others) t.outside;
          zeros = d.zeros;
          clear = d.clear;
        },
      )

  -- All items -------------------------------------------------------------------------------------------------------

  abbrev RunsOn : List Turn → List Turn → Type 0
  RunsOn ts back =
      (past : List Turn) (here ps : List Placed) (m : Made) (new : BlockMap)
      → log.script.turns ≡ past ++ (ts ++ back) → h.placed ≡ here ++ ps
      → GivesTo log.script ts ps m.blocks new → RunsAt past here m → Comes ts ps m
      → RunsAt (past ++ ts) h.placed (make_turns log.script ts ps m)

  regroup : (past : List Turn) (t : Turn) (ts : List Turn) (m : Made) → RunsAt ((past ++ t ∷ []) ++ ts) h.placed m
      → RunsAt (past ++ t ∷ ts) h.placed m
  regroup past t ts m r = subst (λ l. RunsAt l h.placed m) (append_assoc past (t ∷ []) ts) r

  turn_runs : (t : Turn) (ts back : List Turn) → RunsOn ts back → RunsOn (t ∷ ts) back
  turn_runs (Refused call) ts back rec past here ps m new at e g r u =
      let t = Refused call in
      regroup past t ts _ (rec (past ++ t ∷ []) here ps m new
      (next_place log.meaning log.script lawful past t ts back at) e g
      (plain_runs past here t m (λ q. refl) (λ x. refl) r) (record {
        apart = u.apart;
        outside = u.outside;
        zeros =
            u.zeros;
        clear = u.clear;
      }))
  turn_runs (Passed call) ts back rec past here ps m new at e g r u =
      let t = Passed call in
      regroup past t ts _ (rec (past ++ t ∷ []) here ps m new
      (next_place log.meaning log.script lawful past t ts back at) e g
      (plain_runs past here t m (λ q. refl) (λ x. refl) r) (record {
        apart = u.apart;
        outside = u.outside;
        zeros =
            u.zeros;
        clear = u.clear;
      }))
  turn_runs (Flushed call) ts back rec past here ps m new at e g r u =
      let t = Flushed call in
      regroup past t ts _ (rec (past ++ t ∷ []) here ps m new
      (next_place log.meaning log.script lawful past t ts back at) e g
      (plain_runs past here t m (λ q. refl) (λ x. refl) r) (record {
        apart = u.apart;
        outside = u.outside;
        zeros =
            u.zeros;
        clear = u.clear;
      }))
  turn_runs (Asked call ask used may_pend) ts back rec past here ps m new at e g r u =
      let t = Asked call ask used may_pend in
      regroup past t ts _ (rec (past ++ t ∷ []) here ps m new
      (next_place log.meaning log.script lawful past t ts back at) e g
      (plain_runs past here t m (λ q. refl) (λ x. refl) r) (record {
        apart = u.apart;
        outside = u.outside;
        zeros =
            u.zeros;
        clear = u.clear;
      }))
  turn_runs (Item call item ends play bound) ts back rec past here ps m new at e g r u =
      let t = Item call item ends play bound in
      let split = e ∙ ap (λ l. here ++ l) g.2 in
      let x = item_runs past call item ends play bound (ts ++ back) at here g.0 g.1 split ts m g.3 g.4 g.5 g.6 r
      (subst (λ l. Comes (t ∷ ts) l m) g.2 u) in
      subst (λ l. RunsAt (past ++ t ∷ ts) h.placed (make_turns log.script (t ∷ ts) l m)) (sym g.2)
      (regroup past t ts _ (rec (past ++ t ∷ []) (here ++ g.0 ∷ []) g.1 (make_play log.script call play bound g.0 m) new
      (next_place log.meaning log.script lawful past t ts back at) (split ∙ sym (append_assoc here (g.0 ∷ []) g.1))
      (subst (λ o. GivesTo log.script ts g.1 o new) (sym x.0) g.7) x.1 x.2))

  turns_run : (ts back : List Turn) → RunsOn ts back
  turns_run [] back past here ps m new at e g r u =
      subst (λ l. RunsAt l h.placed m) (sym (append-nil past))
      (subst (λ l. RunsAt past l m) (sym (e ∙ ap (λ l. here ++ l) g.0 ∙ append-nil here)) r)
  turns_run (t ∷ ts) back past here ps m new at e g r u = turn_runs t ts back (turns_run ts back) past here ps m new
      at e g r u

-- A message ---------------------------------------------------------------------------------------------------------

-- a block of a buffer that lived before is none that the message takes
strange_all : (log : Log) (front : List Head) (h : Head) → Succeeds log (front ++ h ∷ []) → (r b : ℕ)
    → (made_of log front).blocks r ≡ Some b
    → (pre ps : List Placed) → h.placed ≡ pre ++ ps → AllByRecursion (λ c. c ≡ b → ⊥) (somes (map (λ p. p.block) ps))
strange_all log front h s r b is pre [] e = tt
strange_all log front h s r b is pre (p ∷ ps) e =
    by p.block refl (strange_all log front h s r b is (pre ++ p ∷ []) ps (e ∙ sym (append_assoc pre (p ∷ []) ps)))
  where
    by : (o : Option ℕ) → p.block ≡ o → AllByRecursion (λ c. c ≡ b → ⊥) (somes (map (λ p. p.block) ps))
        → AllByRecursion (λ c. c ≡ b → ⊥) (somes (o ∷ map (λ p. p.block) ps))
    by None took rec = rec
    by (Some c) took rec = ((λ same. taken_strange log front h s pre p ps c e took r (is ∙ ap Some (sym same))), rec)

-- the memory once what the message takes was set to 0
abbrev zeroed_first : Log → List Head → Head → Memory → Memory
zeroed_first log front h memory =
    run_acts log.meaning (zeroed (somes (map (λ p. p.block) h.placed))
    (taken_lengths log.script (chunk_turns log.script (suc (length front))))) memory

abbrev turns_before : Log → List Head → List Turn
turns_before log front = joined (turns_of (chunks_of log.script 1 front))

abbrev turns_here : Log → List Head → List Turn
turns_here log front = chunk_turns log.script (suc (length front))

before_is : (log : Log) (front : List Head) (h : Head) → LastOf log front h
    → after_chunk log.meaning log.script (length front) ≡ in_order log.meaning log.script (turns_before log front)
    at_start
before_is log front h l =
    let script = log.script in
    let meaning = log.meaning in
    let first = turns_of (chunks_of script 1 front) in
    ap (λ k. in_order meaning script (joined (take k (chunks script))) at_start) (sym (length_of_chunks script 1 front))
    ∙ ap (λ c. in_order meaning script (joined (take (length first) c)) at_start) l.cut
    ∙ ap (λ c. in_order meaning script (joined c) at_start) (take_first first (turns_here log front ∷ l.rest))

after_is : (log : Log) (front : List Head) (h : Head) → LastOf log front h
    → in_order log.meaning log.script (turns_before log front ++ turns_here log front) at_start
    ≡ after_chunk log.meaning log.script (suc (length front))
after_is log front h l =
    let script = log.script in
    let meaning = log.meaning in
    let first = turns_of (chunks_of script 1 front) in
    let here = turns_here log front in
    sym (ap (λ k. in_order meaning script (joined (take (suc k) (chunks script))) at_start)
    (sym (length_of_chunks script 1 front))
    ∙ ap (λ c. in_order meaning script (joined (take (suc (length first)) c)) at_start) l.cut
    ∙ ap (λ c. in_order meaning script (joined c) at_start) (take_more first here l.rest)
    ∙ ap (λ t. in_order meaning script t at_start) (joined_more first here))

batch_runs : (log : Log) (lawful : IsLawful log.meaning log.script) (front : List Head) (h : Head)
    (s : Succeeds log (front ++ h ∷ []))
    (memory : Memory) → Stands log.script memory (made_of log front).blocks
    (after_chunk log.meaning log.script (length front))
    → Runs log lawful front h s (zeroed_first log front h memory) (turns_before log front ++ turns_here log front)
    h.placed
    (made_of log (front ++ h ∷ []))
batch_runs log lawful front h s memory st =
    let script = log.script in
    let meaning = log.meaning in
    let l = last_of log front h s in
    let past = turns_before log front in
    let here = turns_here log front in
    let bs = somes (map (λ p. p.block) h.placed) in
    let ns = taken_lengths script here in
    let base = zeroed_first log front h memory in
    let m = next_chunk (made_of log front) in
    let follows = s front h [] refl in
    let begun : Runs log lawful front h s base past [] m = record {
      uses = record { owned = λ r b e. inr (inr (r, e)); listed = tt; writes = tt };
      bytes = λ r b i e k.
          others_stay meaning bs ns memory b i (strange_all log front h s r b e [] h.placed refl)
          ∙ st.bytes r b i e k ∙ ap (λ x. x.bytes r i) (before_is log front h l);
      bound = tt;
      lives = subst (Lives (in_order meaning script past at_start).live) (sym l.made_before)
          (lives_before log lawful front h l);
      holds = subst (λ l. Holds l m.blocks) (sym (append-nil (all_places (places_in front))))
          (holds_before log front h s);
    } in
    let comes : ToCome log lawful front h s base here h.placed m = record {
      apart = follows.stages_apart.apart;
      outside = follows.stages_apart.outside;
      zeros = all_zero meaning bs ns memory;
      clear = tt;
    } in
    subst (Runs log lawful front h s base (past ++ here) h.placed) (sym l.made_here)
    (turns_run log lawful front h s base here l.back past [] h.placed m l.after l.turns refl
    (subst (λ o. GivesTo script here h.placed o l.after) (sym l.made_before) l.gives) begun comes)

pub batch_stands : (log : Log) → IsLawful log.meaning log.script → (front : List Head) (h : Head)
    → Succeeds log (front ++ h ∷ []) → (memory : Memory)
    → Stands log.script memory (made_of log front).blocks (after_chunk log.meaning log.script (length front))
    → Stands log.script (run_acts log.meaning (batch_acts log front h) memory) (made_of log (front ++ h ∷ [])).blocks
    (after_chunk log.meaning log.script (suc (length front)))
batch_stands log lawful front h s memory st =
    let meaning = log.meaning in
    let l = last_of log front h s in
    let now = made_of log (front ++ h ∷ []) in
    let base = zeroed_first log front h memory in
    let done = batch_runs log lawful front h s memory st in
    let after = after_is log front h l in
    let ns = taken_lengths log.script (turns_here log front) in
    let acts : run_acts meaning (batch_acts log front h) memory ≡ left_in meaning base now =
    run_append meaning (zeroed (somes (map (λ p. p.block) h.placed)) ns)
    (part_acts now.writes ++ command_acts now.listed) memory
    ∙ run_append meaning (part_acts now.writes) (command_acts now.listed) base in
    record {
      has_block = λ r e. done.lives.has_block r (ap (λ x. x.live r) after ∙ e);
      is_live = λ r b e. sym (ap (λ x. x.live r) after) ∙ done.lives.is_live r b e;
      own = done.holds.own;
      bytes = λ r b i e k. ap (λ f. f b i) acts ∙ done.bytes r b i e k ∙ ap (λ x. x.bytes r i) after;
    }

-- Memory that stands, behind any messages ---------------------------------------------------------------------------

pub stands_first : (log : Log) (memory : Memory) → Stands log.script memory (made_of log []).blocks
    (after_chunk log.meaning log.script 0)
stands_first log memory = record {
  has_block = λ r e. absurd (cc e);
  is_live = λ r b e. absurd (cc e);
  own = λ r q b e f. absurd (cc e);
  bytes = λ r b i e l. absurd (cc e);
}

abbrev StandsFor : Log → List Head → Type 0
StandsFor log hs = (memory : Memory) × Stands log.script memory (made_of log hs).blocks
    (after_chunk log.meaning log.script (length hs))

stands_behind : (log : Log) → IsLawful log.meaning log.script → (pre hs : List Head) → Succeeds log (pre ++ hs)
    → StandsFor log pre → StandsFor log (pre ++ hs)
stands_behind log lawful pre [] s st = subst (StandsFor log) (sym (append-nil pre)) st
stands_behind log lawful pre (x ∷ hs) s st =
    let again : Succeeds log ((pre ++ x ∷ []) ++ hs) = subst (Succeeds log) (sym (append_assoc pre (x ∷ []) hs)) s in
    let here : Succeeds log (pre ++ x ∷ []) = λ f y g e. again f y (g ++ hs) (ap (λ l. l ++ hs) e
    ∙ append_assoc f (y ∷ g) hs) in
    let long : suc (length pre) ≡ length (pre ++ x ∷ []) = let l = length-append pre (x ∷ []) in omega (arith, l) in
    let next : StandsFor log (pre ++ x ∷ []) = (
      run_acts log.meaning (batch_acts log pre x) st.0,
      subst (λ n. Stands log.script (run_acts log.meaning (batch_acts log pre x) st.0)
          (made_of log (pre ++ x ∷ [])).blocks
          (after_chunk log.meaning log.script n)) long (batch_stands log lawful pre x here st.0 st.1),
    ) in
    subst (StandsFor log) (append_assoc pre (x ∷ []) hs) (stands_behind log lawful (pre ++ x ∷ []) hs again next)

-- each byte of a live buffer's block that the message's commands touch is bound by the turns up to it
pub batch_bound : (log : Log) → IsLawful log.meaning log.script → (front : List Head) (h : Head)
    → Succeeds log (front ++ h ∷ [])
    → AllByRecursion (λ d. (r b i : ℕ) → (made_of log (front ++ h ∷ [])).blocks r ≡ Some b
    → is_touched (touches d) b i ≡ true
    → is_bound r (joined (turns_of (chunks_of log.script 1 (front ++ h ∷ [])))) false i ≡ true)
    (made_of log (front ++ h ∷ [])).listed
batch_bound log lawful front h s =
    let before : Succeeds log front = λ f y g e. s f y (g ++ h ∷ []) (ap (λ l. l ++ h ∷ []) e
    ∙ append_assoc f (y ∷ g) (h ∷ [])) in
    let st = stands_behind log lawful [] front before (zeros, stands_first log zeros) in
    let done = batch_runs log lawful front h s st.0 st.1 in
    let turns : turns_before log front ++ turns_here log front
    ≡ joined (turns_of (chunks_of log.script 1 (front ++ h ∷ []))) =
    sym (ap (λ c. joined (turns_of c)) (heads_last log.script front h)
    ∙ joined_last (chunks_of log.script 1 front) (chunk_of log.script (suc (length front)) h)) in
    subst (λ t. AllByRecursion (λ d. (r b i : ℕ) → (made_of log (front ++ h ∷ [])).blocks r ≡ Some b
    → is_touched (touches d) b i ≡ true
    → is_bound r t false i ≡ true) (made_of log (front ++ h ∷ [])).listed) turns done.bound
