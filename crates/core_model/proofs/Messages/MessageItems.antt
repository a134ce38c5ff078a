-- What each item of a message keeps, where buffers live that have blocks and each has its own, holds behind all its
-- items.
use Rattle.std.proofs.Common.{◌≡◌, ℕ, suc, Bool, false, List, [], ◌∷◌, ◌++◌, length, refl, sym, ap, ◌∙◌, subst}
use Rattle.std.proofs.Common.{append_assoc, append-nil}
use Rattle.dx_types.specs.declared.range.Range.{Range}
use Rattle.vk_types.specs.declared.message.Placed.{Placed}
use Rattle.core_model.specs.Script.{Play, Turn, Refused, Passed, Flushed, Asked, Item}
use Rattle.core_model.specs.Chunking.{chunk_turns, is_entry, joined}
use Rattle.core_model.specs.Renaming.{BlockMap}
use Rattle.core_model.specs.Invariant.{turns_of}
use Rattle.core_model.specs.Batching.{Made, next_chunk, make_play, make_turns}
use Rattle.core_model.specs.Lawful.{IsLawful}
use Rattle.core_model.specs.Succession.{Head, Log, PlacesPlay, TakesLawfully, all_places, places_in}
use Rattle.core_model.specs.Spine.{Succeeds, made_of}
use Rattle.core_model.proofs.Messages.Placements.{GivesTo}
use Rattle.core_model.proofs.Messages.MadeLines.{made_blocks}
use Rattle.core_model.proofs.Messages.HeadLines.{chunks_of, last_of}
use Rattle.core_model.proofs.Messages.UsedBlocks.{Lives, state, item_lives, next_state, next_place, lives_before}
use Rattle.core_model.proofs.Messages.HeldBlocks.{Holds, offered_all, play_holds, holds_before}

module _ (log : Log) (lawful : IsLawful log.meaning log.script) (front : List Head) (h : Head)
    (s : Succeeds log (front ++ h ∷ [])) where
  abbrev pub turns : List Turn
  turns = chunk_turns log.script (suc (length front))

  abbrev pub live : List Turn → ℕ → Bool
  live past = (state log.meaning log.script lawful past).live

  -- an item of the message, behind those that were played
  pub record AtItem : Type 0 where
    pub done : List Turn
    pub here : List Placed
    pub made : Made
    pub past : List Turn
    pub call : ℕ
    pub item : ℕ
    pub ends : Bool
    pub play : Play
    pub bound : List Range
    pub rest : List Turn
    pub back : List Turn
    pub place : Placed
    pub others : List Placed
    pub after : BlockMap
    pub script : log.script.turns ≡ past ++ Item call item ends play bound ∷ (rest ++ back)
    pub chunk : turns ≡ done ++ Item call item ends play bound ∷ rest
    pub placed : h.placed ≡ here ++ place ∷ others
    pub places : PlacesPlay log.script play place made.blocks after
    pub lives : Lives (live past) made.blocks
    pub holds : Holds (all_places (places_in front) ++ here) made.blocks

  abbrev pub turn_at : AtItem → Turn
  turn_at x = Item x.call x.item x.ends x.play x.bound

  module _ (Q : List Turn → List Placed → Made → Type 0)
      (plain : (done : List Turn) (here : List Placed) (m : Made) (t : Turn) → is_entry t ≡ false → Q done here m
      → Q (done ++ t ∷ []) here m)
      (step : (x : AtItem) → Q x.done x.here x.made
      → Q (x.done ++ turn_at x ∷ []) (x.here ++ x.place ∷ [])
      (make_play log.script x.call x.play x.bound x.place x.made)) where
    record Now (ts past back done : List Turn) (here ps : List Placed) (m : Made) (new : BlockMap) : Type 0 where
      script : log.script.turns ≡ past ++ (ts ++ back)
      chunk : turns ≡ done ++ ts
      placed : h.placed ≡ here ++ ps
      gives : GivesTo log.script ts ps m.blocks new
      lives : Lives (live past) m.blocks
      holds : Holds (all_places (places_in front) ++ here) m.blocks
      known : Q done here m

    -- the rest of the turns, behind one of them
    abbrev Goes : List Turn → Type 0
    Goes ts = (past back done : List Turn) (here ps : List Placed) (m : Made) (new : BlockMap)
        → Now ts past back done here ps m new → Q (done ++ ts) (here ++ ps) (make_turns log.script ts ps m)

    goes_on : (t : Turn) (ts past back done : List Turn) (here ps : List Placed) (m : Made) (new : BlockMap)
        → is_entry t ≡ false
        → ((past : List Turn) → live (past ++ t ∷ []) ≡ live past)
        → GivesTo log.script ts ps m.blocks new → Now (t ∷ ts) past back done here ps m new
        → Now ts (past ++ t ∷ []) back (done ++ t ∷ []) here ps m new
    goes_on t ts past back done here ps m new n same g x = record {
      script = next_place log.meaning log.script lawful past t ts back x.script;
      chunk = x.chunk ∙ sym (append_assoc done (t ∷ []) ts);
      placed = x.placed;
      gives = g;
      lives = subst (λ l. Lives l m.blocks) (sym (same past)) x.lives;
      holds = x.holds;
      known = plain done here m t n x.known;
    }

    turned : (t : Turn) (ts done : List Turn) (here ps : List Placed) (m : Made)
        → Q ((done ++ t ∷ []) ++ ts) (here ++ ps) m → Q (done ++ t ∷ ts) (here ++ ps) m
    turned t ts done here ps m q = subst (λ l. Q l (here ++ ps) m) (append_assoc done (t ∷ []) ts) q

    item_now : (call item : ℕ) (ends : Bool) (play : Play) (bound : List Range) (ts past back done : List Turn)
        (here ps : List Placed) (m : Made) (new : BlockMap)
        → Now (Item call item ends play bound ∷ ts) past back done here ps m new
        → (p : Placed) × (others : List Placed) × (ps ≡ p ∷ others)
        × Now ts (past ++ Item call item ends play bound ∷ []) back (done ++ Item call item ends play bound ∷ [])
        (here ++ p ∷ []) others (make_play log.script call play bound p m) new
    item_now call item ends play bound ts past back done here ps m new x =
        let t = Item call item ends play bound in
        let g = x.gives in
        let p = g.0 in
        let at : h.placed ≡ here ++ p ∷ g.1 = x.placed ∙ ap (λ l. here ++ l) g.2 in
        let lawfully : TakesLawfully (places_in front) h.placed = (s front h [] refl).takes_lawfully in
        let n = make_play log.script call play bound p m in
        let blocks : n.blocks ≡ g.3 =
        made_blocks log.script (t ∷ []) (p ∷ []) m.blocks g.3 m
        (p, [], refl, g.3, g.4, g.5, g.6, (refl, refl)) refl in
        let lives : Lives (live (past ++ t ∷ [])) g.3 =
        subst (λ s. Lives s.live g.3) (sym (next_state log.meaning log.script lawful past t))
        (item_lives log.meaning log.script lawful past call item ends play bound (ts ++ back) x.script p m.blocks g.3
        g.4 x.lives) in
        let holds : Holds (all_places (places_in front) ++ (here ++ p ∷ [])) g.3 =
        subst (λ l. Holds l g.3) (append_assoc (all_places (places_in front)) here (p ∷ []))
        (play_holds log.script (all_places (places_in front) ++ here) play p m.blocks g.3 g.4
        (λ b e. offered_all (places_in front) here b (lawfully here p g.1 b at e)) x.holds) in (
          p,
          g.1,
          g.2,
          record {
            script = next_place log.meaning log.script lawful past t ts back x.script;
            chunk = x.chunk ∙ sym (append_assoc done (t ∷ []) ts);
            placed = at ∙ sym (append_assoc here (p ∷ []) g.1);
            gives = subst (λ b. GivesTo log.script ts g.1 b new) (sym blocks) g.7;
            lives = subst (Lives (live (past ++ t ∷ []))) (sym blocks) lives;
            holds = subst (Holds (all_places (places_in front) ++ (here ++ p ∷ []))) (sym blocks) holds;
            known = step (record {
              done = done;
              here = here;
              made = m;
              past = past;
              call = call;
              item = item;
              ends = ends;
              play = play;
              bound = bound;
              rest = ts;
              back = back;
              place = p;
              others = g.1;
              after = g.3;
              script = x.script;
              chunk = x.chunk;
              placed = at;
              places = g.4;
              lives = x.lives;
              holds = x.holds;
            }) x.known;
          },
        )

    go : (ts : List Turn) → Goes ts
    go [] past back done here ps m new x =
        subst (λ l. Q l (here ++ ps) m) (sym (append-nil done))
        (subst (λ l. Q done l m) (sym (append-nil here) ∙ ap (λ l. here ++ l) (sym x.gives.0)) x.known)
    go (Refused call ∷ ts) past back done here ps m new x =
        turned (Refused call) ts done here ps _ (go ts _ back _ here ps m new
        (goes_on (Refused call) ts past back done here ps m new refl
        (λ past. ap (λ s. s.live) (next_state log.meaning log.script lawful past (Refused call))) x.gives x))
    go (Passed call ∷ ts) past back done here ps m new x =
        turned (Passed call) ts done here ps _ (go ts _ back _ here ps m new
        (goes_on (Passed call) ts past back done here ps m new refl
        (λ past. ap (λ s. s.live) (next_state log.meaning log.script lawful past (Passed call))) x.gives x))
    go (Flushed call ∷ ts) past back done here ps m new x =
        turned (Flushed call) ts done here ps _ (go ts _ back _ here ps m new
        (goes_on (Flushed call) ts past back done here ps m new refl
        (λ past. ap (λ s. s.live) (next_state log.meaning log.script lawful past (Flushed call))) x.gives x))
    go (Asked call ask used may_pend ∷ ts) past back done here ps m new x =
        let t = Asked call ask used may_pend in
        turned t ts done here ps _ (go ts _ back _ here ps m new
        (goes_on t ts past back done here ps m new refl
        (λ past. ap (λ s. s.live) (next_state log.meaning log.script lawful past t)) x.gives x))
    go (Item call item ends play bound ∷ ts) past back done here ps m new x =
        let t = Item call item ends play bound in
        let n = item_now call item ends play bound ts past back done here ps m new x in
        let made = make_play log.script call play bound n.0 m in
        subst (λ qs. Q (done ++ t ∷ ts) (here ++ qs) (make_turns log.script (t ∷ ts) qs m)) (sym n.2)
        (subst (λ l. Q l (here ++ n.0 ∷ n.1) (make_turns log.script ts n.1 made)) (append_assoc done (t ∷ []) ts)
        (subst (λ l. Q ((done ++ t ∷ []) ++ ts) l (make_turns log.script ts n.1 made))
        (append_assoc here (n.0 ∷ []) n.1)
        (go ts (past ++ t ∷ []) back (done ++ t ∷ []) (here ++ n.0 ∷ []) n.1 made new n.3)))

    pub behind_all : Q [] [] (next_chunk (made_of log front)) → Q turns h.placed (made_of log (front ++ h ∷ []))
    behind_all q =
        let l = last_of log front h s in
        subst (Q turns h.placed) (sym l.made_here)
        (go turns (joined (turns_of (chunks_of log.script 1 front))) l.back [] [] h.placed
        (next_chunk (made_of log front)) l.after (record {
          script = l.turns;
          chunk = refl;
          placed = refl;
          gives = subst (λ b. GivesTo log.script turns h.placed b l.after) (sym l.made_before) l.gives;
          lives = subst (Lives (live (joined (turns_of (chunks_of log.script 1 front))))) (sym l.made_before)
              (lives_before log lawful front h l);
          holds = subst (λ l. Holds l (made_of log front).blocks) (sym (append-nil (all_places (places_in front))))
              (holds_before log front h s);
          known = q;
        }))
