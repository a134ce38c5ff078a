-- How far what a message makes goes: what is touched and written ends inside its pages and blocks, and commands are
-- formed on blocks as they are on buffers.
use Rattle.std.proofs.Common.{◌≡◌, ℕ, suc, ◌+◌, ◌-◌, ◌<◌, ◌≤◌, Bool, true, false, cond, ◌==◌, List, [], ◌∷◌, ◌++◌, map}
use Rattle.std.proofs.Common.{length, refl, sym, ap, ◌∙◌, subst, ◌⊎◌, inl, inr, Option, Some, None, arith, append_assoc}
use Rattle.std.proofs.Common.{length-append, append-nil}
use Rattle.std.specs.List.{AllByRecursion}
use Rattle.std.proofs.lemmas.Bool.{cases_Bool, eqb-true}
use Rattle.dx_types.specs.declared.range.Range.{Range}
use Rattle.vk_types.specs.declared.command.Work.{Work}
use Rattle.vk_types.specs.declared.command.Work.TheVariants as work
use Rattle.vk_types.specs.declared.command.Cond.{Cond}
use Rattle.vk_types.specs.declared.command.Command as c
use Rattle.vk_types.specs.declared.message.Placed.{Placed}
use Rattle.vk_types.specs.declared.op.Barrier.{Barrier}
use Rattle.vk_types.specs.declared.touch.Touch.{Touch}
use Rattle.vk_types.specs.Memory.{covers, or_zero}
use Rattle.vk_types.specs.Hazards.{touches, work_touches, cond_touches, is_touched}
use Rattle.vk_types.proofs.Local.{covered}
use Rattle.base_lemmas.proofs.Lists.{all_append, all_map}
use Rattle.core_model.specs.Script.{Play, Create, Discard, No_overwrite, Stage, Command, Destroy, Create_shader}
use Rattle.core_model.specs.Script.{Mark_query, Set_state, Turn, Refused, Passed, Flushed, Asked, Item}
use Rattle.core_model.specs.Chunking.{is_entry}
use Rattle.core_model.specs.Renaming.{BlockMap, range_on, work_on, cond_on}
use Rattle.core_model.specs.CoreState.{somes}
use Rattle.core_model.specs.Adding.{length_of}
use Rattle.core_model.specs.Batching.{Made, add_command, give_block, make_write, make_staged, block_range}
use Rattle.core_model.specs.Batching.{make_play}
use Rattle.core_model.specs.Formed.{WorkIsFormed, CondIsFormed}
use Rattle.core_model.specs.Lawful.{IsLawful, play_touches, target_touches}
use Rattle.core_model.specs.Succession.{Head, Log, PlacesPlay, staged_range_of, staged_ranges, lengths_of}
use Rattle.core_model.specs.Succession.{taken_lengths}
use Rattle.core_model.specs.Spine.{Succeeds, made_of, IsAsLong, TakesWith, IsInside}
use Rattle.core_model.proofs.Steps.Binding.{or_left}
use Rattle.core_model.proofs.Steps.Creating.{size_fits}
use Rattle.core_model.proofs.Steps.Uses.{touch_on, touches_on, conds_on, bound_fits}
use Rattle.core_model.proofs.Listing.Touched.{touched_back}
use Rattle.core_model.proofs.Messages.UsedBlocks.{Lives}
use Rattle.core_model.proofs.Messages.MessageItems.{AtItem, turn_at, turns, live, behind_all}
use Rattle.core_model.proofs.Messages.WorkOnBlocks.{cond_formed, work_formed}
use Rattle.core_model.proofs.Messages.TakenLengths.{blocks_in, blocks_append, lengths_append, staged_append, as_long}

module _ (log : Log) (lawful : IsLawful log.meaning log.script) (front : List Head) (h : Head)
    (s : Succeeds log (front ++ h ∷ [])) where
  -- a use of a block up to there
  abbrev pub Ends : ℕ → ℕ → Type 0
  Ends b to = IsInside log front h (record { block = b; from = 0; to = to })

  abbrev pub EndsInside : Touch → Type 0
  EndsInside t = Ends t.range.block t.range.to

  -- where a live buffer has its block from
  abbrev pub IsOwned : ℕ → ℕ → Type 0
  IsOwned r b = ((made_of log front).blocks r ≡ Some b)
      ⊎ TakesWith log.script (suc (length front)) h b (length_of log.script r)

  abbrev pub CommandIsFormed : c.Command → Type 0
  CommandIsFormed d = WorkIsFormed d.work × CondIsFormed d.cond

  pub record Inside (done : List Turn) (here : List Placed) (m : Made) : Type 0 where
    pub aligned : length (blocks_in here) ≡ length (taken_lengths log.script done)
    pub owned : (r b : ℕ) → m.blocks r ≡ Some b → IsOwned r b
    pub listed : AllByRecursion (λ d. AllByRecursion EndsInside (touches d)) m.listed
    pub formed : AllByRecursion CommandIsFormed m.listed
    pub writes : AllByRecursion (λ w. Ends w.range.block w.range.to) m.writes

  owned_ends : (r b to : ℕ) → IsOwned r b → to ≤ log.script.size r → Ends b to
  owned_ends r b to (inl e) l = inr (inr (r, e, l))
  owned_ends r b to (inr t) l =
      let f = size_fits log.script r (lawful.classes r) in
      inr (inl (length_of log.script r, t, omega (arith, l, f)))

  module _ (done : List Turn) (here : List Placed) where
    more_write : (r : Range) (bytes : List ℕ) (m : Made) → Ends r.block r.to → Inside done here m
        → Inside done here (make_write r bytes m)
    more_write r [] m u i = i
    more_write r (b ∷ bs) m u i = record {
      aligned = i.aligned;
      owned = i.owned;
      listed = i.listed;
      formed = i.formed;
      writes = all_append (λ w. Ends w.range.block w.range.to) m.writes (record { range = r; bytes = b ∷ bs } ∷ [])
          i.writes (u, tt);
    }

    more_command : (d : c.Command) (barrier : Option Barrier) (m : Made) → AllByRecursion EndsInside (touches d)
        → CommandIsFormed d → Inside done here m → Inside done here (add_command d barrier m)
    more_command d barrier m u f i = record {
      aligned = i.aligned;
      owned = i.owned;
      listed = all_append (λ d. AllByRecursion EndsInside (touches d)) m.listed (d ∷ []) i.listed (u, tt);
      formed = all_append CommandIsFormed m.listed (d ∷ []) i.formed (f, tt);
      writes = i.writes;
    }

    same_staging : (m : Made) (rs : List Range) → Inside done here m → Inside done here (record m { staging = rs })
    same_staging m rs i = record {
      aligned = i.aligned;
      owned = i.owned;
      listed = i.listed;
      formed = i.formed;
      writes = i.writes;
    }

    given_block : (buffer b : ℕ) (o : Option ℕ) (m : Made) → o ≡ Some b → IsOwned buffer b → Inside done here m
        → Inside done here (give_block log.script buffer o m)
    given_block buffer b None m e u i = absurd (cc e)
    given_block buffer b (Some x) m e u i = record {
      aligned = i.aligned;
      owned = λ r q k. elim (cases_Bool (r == buffer)) [
        | inl t ↦
            let same : Some x ≡ Some q = sym (ap (λ y. cond y (Some x) (m.blocks r)) t) ∙ k in
            let there : b ≡ q = cc (e, same) in
            subst (IsOwned r) there (subst (λ r. IsOwned r b) (sym (eqb-true r buffer t)) u)
        | inr f ↦ i.owned r q (sym (ap (λ y. cond y (Some x) (m.blocks r)) f) ∙ k)
      ];
      listed = i.listed;
      formed = i.formed;
      writes = i.writes;
    }

  -- An item -----------------------------------------------------------------------------------------------------------

  module _ (done : List Turn) (here : List Placed) (m : Made) (past : List Turn) (call item : ℕ) (ends : Bool)
      (bound : List Range) (rest back : List Turn) (p : Placed) (others : List Placed) (after : BlockMap)
      (placed : h.placed ≡ here ++ p ∷ others)
      (lives : Lives (live log lawful front h s past) m.blocks)
      (own : (r q b : ℕ) → m.blocks r ≡ Some b → m.blocks q ≡ Some b → r ≡ q) where
    abbrev turn : Play → Turn
    turn play = Item call item ends play bound

    abbrev There : Play → Type 0
    There play = log.script.turns ≡ past ++ turn play ∷ (rest ++ back)

    -- the touches of a play are of live buffers, and end inside them
    abbrev Fits : Touch → Type 0
    Fits t = (live log lawful front h s past t.range.block ≡ true) × (t.range.to ≤ log.script.size t.range.block)

    all_ends : (P : ℕ → ℕ → Type 0) (pre ts : List Touch) → AllByRecursion (λ t. t.range.from < t.range.to) ts
        → ((b i : ℕ) → is_touched (pre ++ ts) b i ≡ true → P b i)
        → AllByRecursion (λ t. (t.range.from < t.range.to) × P t.range.block (t.range.to - 1)) ts
    all_ends P pre [] f g = tt
    all_ends P pre (t ∷ ts) f g =
        let r = t.range in
        let some = f.0 in
        let last : covers r r.block (r.to - 1) ≡ true =
        covered r r.block (r.to - 1) refl (omega (arith, some)) (omega (arith, some)) in (
          (
            f.0,
            g r.block (r.to - 1) (touched_back pre (t ∷ ts) r.block (r.to - 1)
                (or_left (covers r r.block (r.to - 1)) (is_touched ts r.block (r.to - 1)) last)),
          ),
          all_ends P (pre ++ t ∷ []) ts f.1
              (λ b i k. g b i (subst (λ l. is_touched l b i ≡ true) (append_assoc pre (t ∷ []) ts) k)),
        )

    fitting : (play : Play) → There play → AllByRecursion Fits (play_touches play)
    fitting play at =
        all_map (λ t. (t.range.from < t.range.to) × ((live log lawful front h s past t.range.block ≡ true)
        × (t.range.to - 1 < log.script.size t.range.block))) Fits
        (λ t f. (f.1.0, (let a = f.0 in let b = f.1.1 in omega (arith, a, b)))) (play_touches play)
        (all_ends (λ b i. (live log lawful front h s past b ≡ true) × (i < log.script.size b)) [] (play_touches play)
        (lawful.filled past call item ends play bound (rest ++ back) at)
        (λ b i k. bound_fits log.meaning log.script past bound
        (lawful.fits past call item ends play bound (rest ++ back) at) b i
        (lawful.binds past call item ends play bound (rest ++ back) at b i k)))

    are_live : (ts : List Touch) → AllByRecursion Fits ts
        → AllByRecursion (λ t. live log lawful front h s past t.range.block ≡ true) ts
    are_live ts f = all_map Fits (λ t. live log lawful front h s past t.range.block ≡ true) (λ t k. k.0) ts f

    on_ends : (ts : List Touch) → ((r b : ℕ) → m.blocks r ≡ Some b → IsOwned r b) → AllByRecursion Fits ts
        → AllByRecursion EndsInside (map (touch_on m.blocks) ts)
    on_ends [] o f = tt
    on_ends (t ∷ ts) o f =
        let has = lives.has_block t.range.block f.0.0 in (
          subst (λ b. Ends b t.range.to) (sym (ap or_zero has.1))
              (owned_ends t.range.block has.0 t.range.to (o t.range.block has.0 has.1) f.0.1),
          on_ends ts o f.1,
        )

    -- what the item takes has its length, and what it stages is a page's
    takes_with : (play : Play) → turns log lawful front h s ≡ done ++ turn play ∷ rest → (b n : ℕ)
        → p.block ≡ Some b → lengths_of log.script (turn play) ≡ n ∷ []
        → length (blocks_in here) ≡ length (taken_lengths log.script done)
        → TakesWith log.script (suc (length front)) h b n
    takes_with play chunk b n took long aligned =
        let blocks : blocks_in h.placed ≡ blocks_in here ++ b ∷ blocks_in others =
        ap blocks_in placed ∙ blocks_append here (p ∷ others)
        ∙ ap (λ o. blocks_in here ++ somes (o ∷ map (λ p. p.block) others)) took in
        let lengths : taken_lengths log.script (turns log lawful front h s)
        ≡ taken_lengths log.script done ++ n ∷ taken_lengths log.script rest =
        ap (taken_lengths log.script) chunk ∙ lengths_append log.script done (turn play ∷ rest)
        ∙ ap (λ l. taken_lengths log.script done ++ (l ++ taken_lengths log.script rest)) long in
        subst (IsAsLong b n (blocks_in h.placed)) (sym lengths)
        (subst (λ l. IsAsLong b n l (taken_lengths log.script done ++ n ∷ taken_lengths log.script rest)) (sym blocks)
        (as_long b n (blocks_in here) (blocks_in others) (taken_lengths log.script done)
        (taken_lengths log.script rest) aligned))

    in_page : (q : Range) → p.staged ≡ Some q → Ends q.block q.to
    in_page q e =
        inl (
          staged_ranges here,
          q,
          staged_ranges others,
          ap staged_ranges placed ∙ staged_append here (p ∷ others)
              ∙ ap (λ o. staged_ranges here ++ (staged_range_of o ++ staged_ranges others)) e,
          refl,
          omega arith,
        )

    -- one turn and one place more
    abbrev Next : Play → Made → Type 0
    Next play n = Inside (done ++ turn play ∷ []) (here ++ p ∷ []) n

    more_placed : (play : Play) (xs ns : List ℕ) → somes (p.block ∷ []) ≡ xs → lengths_of log.script (turn play) ≡ ns
        → length xs ≡ length ns → Inside done here m → Next play m
    more_placed play xs ns e f long i =
        let one : length (blocks_in (here ++ p ∷ [])) ≡ length (blocks_in here) + length xs =
        ap length (blocks_append here (p ∷ []) ∙ ap (λ l. blocks_in here ++ l) e) ∙ length-append (blocks_in here) xs in
        let lengths : taken_lengths log.script (turn play ∷ []) ≡ ns =
        append-nil (lengths_of log.script (turn play)) ∙ f in
        let two : length (taken_lengths log.script (done ++ turn play ∷ []))
        ≡ length (taken_lengths log.script done) + length ns =
        ap length (lengths_append log.script done (turn play ∷ [])
        ∙ ap (λ l. taken_lengths log.script done ++ l) lengths) ∙ length-append (taken_lengths log.script done) ns in
        let was = i.aligned in
        record {
          aligned = omega (arith, one, two, was, long);
          owned = i.owned;
          listed = i.listed;
          formed = i.formed;
          writes = i.writes;
        }

    same_queries : (play : Play) (n o : Made) → o.blocks ≡ n.blocks → o.listed ≡ n.listed → o.writes ≡ n.writes
        → Next play n → Next play o
    same_queries play n o e f g i = record {
      aligned = i.aligned;
      owned = λ r b is. i.owned r b (sym (ap (λ m. m r) e) ∙ is);
      listed = subst (λ l. AllByRecursion (λ d. AllByRecursion EndsInside (touches d)) l) (sym f) i.listed;
      formed = subst (AllByRecursion CommandIsFormed) (sym f) i.formed;
      writes = subst (AllByRecursion (λ w. Ends w.range.block w.range.to)) (sym g) i.writes;
    }

    quiet : (play : Play) → p.block ≡ None → lengths_of log.script (turn play) ≡ [] → Inside done here m → Next play m
    quiet play none long i = more_placed play [] [] (ap (λ o. somes (o ∷ [])) none) long refl i

    formed_command : (play : Play) → There play → (w : Work) (skip : Option Cond)
        → AllByRecursion (λ t. live log lawful front h s past t.range.block ≡ true) (work_touches w) → WorkIsFormed w
        → CondIsFormed skip
        → WorkIsFormed (work_on m.blocks w) × CondIsFormed (cond_on m.blocks skip)
    formed_command play at w skip alive f g = (
      work_formed (live log lawful front h s past) m.blocks lives own w alive f,
      cond_formed m.blocks skip g,
    )

    play_inside : (play : Play) → There play → turns log lawful front h s ≡ done ++ turn play ∷ rest
        → PlacesPlay log.script play p m.blocks after
        → Inside done here m → Next play (make_play log.script call play bound p m)
    play_inside (Create buffer bytes) at chunk k i =
        let play = Create buffer bytes in
        let right = lawful.plays past call item ends play bound (rest ++ back) at in
        let took = takes_with play chunk k.0 (length_of log.script buffer) k.1 refl i.aligned in
        more_write _ _ _ bytes _
        (subst (λ o. Ends (block_range o 0 (length bytes)).block (block_range o 0 (length bytes)).to) (sym k.1)
        (owned_ends buffer k.0 (length bytes) (inr took) right.1))
        (given_block _ _ buffer k.0 p.block m k.1 (inr took)
        (more_placed play (k.0 ∷ []) (length_of log.script buffer ∷ []) (ap (λ o. somes (o ∷ [])) k.1) refl refl i))
    play_inside (Discard buffer from bytes) at chunk k i =
        let play = Discard buffer from bytes in
        let right = lawful.plays past call item ends play bound (rest ++ back) at in
        let took = takes_with play chunk k.0 (length_of log.script buffer) k.1 refl i.aligned in
        more_write _ _ _ bytes _
        (subst (λ o. Ends (block_range o from (from + length bytes)).block
        (block_range o from (from + length bytes)).to) (sym k.1)
        (owned_ends buffer k.0 (from + length bytes) (inr took) right.0.1))
        (given_block _ _ buffer k.0 p.block m k.1 (inr took)
        (more_placed play (k.0 ∷ []) (length_of log.script buffer ∷ []) (ap (λ o. somes (o ∷ [])) k.1) refl refl i))
    play_inside (No_overwrite buffer from bytes) at chunk k i =
        let play = No_overwrite buffer from bytes in
        let right = lawful.plays past call item ends play bound (rest ++ back) at in
        let has = lives.has_block buffer right.0.0 in
        more_write _ _ _ bytes m
        (subst (λ b. Ends b (from + length bytes)) (sym (ap or_zero has.1))
        (owned_ends buffer has.0 (from + length bytes) (i.owned buffer has.0 has.1) right.0.1))
        (quiet play k.0.0 refl i)
    play_inside (Stage [] target skip) at chunk k i =
        let play = Stage [] target skip in
        subst (λ o. Next play (make_staged log.script call [] target skip bound o m)) (sym k.2) (quiet play k.0 refl i)
    play_inside (Stage (b ∷ bs) None skip) at chunk k i =
        let play = Stage (b ∷ bs) None skip in
        let q = k.2 in
        subst (λ o. Next play (make_staged log.script call (b ∷ bs) None skip bound o m)) (sym q.1)
        (same_staging _ _ _ _ (more_write _ _ q.0 (b ∷ bs) m (in_page q.0 q.1) (quiet play k.0 refl i)))
    play_inside (Stage (b ∷ bs) (Some target) skip) at chunk k i =
        let play = Stage (b ∷ bs) (Some target) skip in
        let q = k.2 in
        let right = lawful.plays past call item ends play bound (rest ++ back) at in
        let formed = lawful.formed past call item ends play bound (rest ++ back) at in
        let on = on_ends (target_touches (Some target) ++ cond_touches skip) i.owned (fitting play at) in
        let touched : AllByRecursion EndsInside
        (work_touches (work.Copy q.0 (range_on m.blocks target)) ++ cond_touches (cond_on m.blocks skip)) = (
          in_page q.0 q.1,
          (on.0, subst (AllByRecursion EndsInside) (sym (conds_on m.blocks skip)) on.1),
        ) in
        let long : target.to ≡ target.from + length (b ∷ bs) = right.1 target refl in
        let here_long = q.2 in
        subst (λ o. Next play (make_staged log.script call (b ∷ bs) (Some target) skip bound o m)) (sym q.1)
        (same_staging _ _ _ _ (more_command _ _ _ _ (make_write q.0 (b ∷ bs) m) touched
        (omega (arith, long, here_long), cond_formed m.blocks skip formed)
        (more_write _ _ q.0 (b ∷ bs) m (in_page q.0 q.1) (quiet play k.0 refl i))))
    play_inside (Command w skip) at chunk k i =
        let play = Command w skip in
        let formed = lawful.formed past call item ends play bound (rest ++ back) at in
        let fits = fitting play at in
        let alive = all_front (λ t. live log lawful front h s past t.range.block ≡ true) (work_touches w)
        (cond_touches skip) (are_live (work_touches w ++ cond_touches skip) fits) in
        same_staging _ _ _ _ (more_command _ _ _ _ m
        (subst (AllByRecursion EndsInside) (sym (touches_on m.blocks w skip))
        (on_ends (work_touches w ++ cond_touches skip) i.owned fits))
        (formed_command play at w skip alive formed.0 formed.1) (quiet play k.0.0 refl i))
      where
        all_front : (P : Touch → Type 0) (xs ys : List Touch) → AllByRecursion P (xs ++ ys) → AllByRecursion P xs
        all_front P [] ys f = tt
        all_front P (x ∷ xs) ys f = (f.0, all_front P xs ys f.1)
    play_inside (Destroy buffer) at chunk k i =
        let q = quiet (Destroy buffer) k.0 refl i in
        record {
          aligned = q.aligned;
          owned = λ r b e. elim (cases_Bool (r == buffer)) [
            | inl t ↦ absurd (let z : None ≡ Some b = sym (ap (λ x. cond x None (m.blocks r)) t) ∙ e in cc z)
            | inr f ↦ q.owned r b (sym (ap (λ x. cond x None (m.blocks r)) f) ∙ e)
          ];
          listed = q.listed;
          formed = q.formed;
          writes = q.writes;
        }
    play_inside Create_shader at chunk k i = quiet Create_shader k.0.0 refl i
    play_inside (Mark_query query begins) at chunk k i =
        same_queries (Mark_query query begins) m _ refl refl refl (quiet (Mark_query query begins) k.0.0 refl i)
    play_inside Set_state at chunk k i = same_staging _ _ m _ (quiet Set_state k.0.0 refl i)

  -- The message -------------------------------------------------------------------------------------------------------

  plain : (done : List Turn) (here : List Placed) (m : Made) (t : Turn) → is_entry t ≡ false → Inside done here m
      → Inside (done ++ t ∷ []) here m
  plain done here m t n i =
      let lengths : taken_lengths log.script (done ++ t ∷ []) ≡ taken_lengths log.script done ++ [] =
      lengths_append log.script done (t ∷ [])
      ∙ ap (λ l. taken_lengths log.script done ++ (l ++ [])) (nothing t n) in
      let long : length (taken_lengths log.script (done ++ t ∷ [])) ≡ length (taken_lengths log.script done) + 0 =
      ap length lengths ∙ length-append (taken_lengths log.script done) [] in
      let was = i.aligned in
      record {
        aligned = omega (arith, long, was);
        owned = i.owned;
        listed = i.listed;
        formed = i.formed;
        writes = i.writes;
      }
    where
      nothing : (t : Turn) → is_entry t ≡ false → lengths_of log.script t ≡ []
      nothing (Refused call) n = refl
      nothing (Passed call) n = refl
      nothing (Flushed call) n = refl
      nothing (Asked call ask used may_pend) n = refl
      nothing (Item call item ends play bound) n = absurd (cc n)

  item_inside : (x : AtItem log lawful front h s) → Inside x.done x.here x.made
      → Inside (x.done ++ turn_at log lawful front h s x ∷ []) (x.here ++ x.place ∷ [])
      (make_play log.script x.call x.play x.bound x.place x.made)
  item_inside x i =
      play_inside x.done x.here x.made x.past x.call x.item x.ends x.bound x.rest x.back x.place x.others x.after
      x.placed x.lives x.holds.own x.play x.script x.chunk x.places i

  pub message_inside : Inside (turns log lawful front h s) h.placed (made_of log (front ++ h ∷ []))
  message_inside =
      behind_all log lawful front h s Inside plain item_inside (record {
        aligned = refl;
        owned = λ r b e. inl e;
        listed = tt;
        formed = tt;
        writes = tt;
      })
