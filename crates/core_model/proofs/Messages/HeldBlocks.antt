-- Blocks that messages hold: a live buffer's block was taken, and since then none took it again and none gave it up;
-- and what a message takes is no live buffer's.
use Rattle.std.proofs.Common.{◌≡◌, ℕ, suc, Bool, true, false, cond, ◌||◌, ◌==◌, List, [], ◌∷◌, ◌++◌, length, refl}
use Rattle.std.proofs.Common.{sym, ap, ◌∙◌, subst, inl, inr, ◌⊎◌, Option, Some, None, append_assoc, append-nil}
use Rattle.std.specs.List.{list_any, AllByRecursion}
use Rattle.std.proofs.lemmas.Bool.{cases_Bool, eqb-true, eq-eqb, both_ways}
use Rattle.std.proofs.lemmas.List.Folds.{list_any-append}
use Rattle.vk_types.specs.declared.message.Placed.{Placed}
use Rattle.base_lemmas.proofs.Lists.{all_append}
use Rattle.core_model.specs.Script.{Play, Create, Discard, No_overwrite, Stage, Command, Destroy, Create_shader}
use Rattle.core_model.specs.Script.{Mark_query, Set_state, Turn, Refused, Passed, Flushed, Asked, Item, Script}
use Rattle.core_model.specs.Script.{updated}
use Rattle.core_model.specs.Chunking.{chunk_turns}
use Rattle.core_model.specs.Renaming.{BlockMap}
use Rattle.core_model.specs.Owners.{is_block}
use Rattle.core_model.specs.Succession.{Head, Log, PlacesPlay, MayTake, TakesLawfully, takes, all_places, places_in}
use Rattle.core_model.specs.Spine.{Succeeds, made_of, gives_up, IsHeldBy}
use Rattle.core_model.proofs.Steps.Binding.{or_left, or_right}
use Rattle.core_model.proofs.Messages.Placements.{GivesTo, GivesLine}
use Rattle.core_model.proofs.Messages.Succeeding.{no_blocks}
use Rattle.core_model.specs.Batching.{next_chunk}
use Rattle.core_model.proofs.Messages.MadeLines.{made_blocks}
use Rattle.core_model.proofs.Messages.HeadLines.{chunks_of, places_of_last, last_of}

-- Places of a block -------------------------------------------------------------------------------------------------

abbrev pub IsApart : Placed → Type 0
IsApart p = (b : ℕ) → p.block ≡ Some b → p.mark ≡ Some b → ⊥

is_own : (b : ℕ) (o : Option ℕ) → o ≡ Some b → is_block o b ≡ true
is_own b o e = ap (λ o. is_block o b) e ∙ eq-eqb b b refl

pub takes_more : (b : ℕ) (xs : List Placed) (p : Placed) (ys : List Placed) → p.block ≡ Some b
    → takes b (xs ++ p ∷ ys) ≡ true
takes_more b xs p ys e =
    list_any-append (λ p. is_block p.block b) xs (p ∷ ys)
    ∙ or_right (takes b xs) (takes b (p ∷ ys)) (or_left (is_block p.block b) (takes b ys) (is_own b p.block e))

gives_more : (b : ℕ) (xs : List Placed) (p : Placed) (ys : List Placed) → p.mark ≡ Some b
    → gives_up b (xs ++ p ∷ ys) ≡ true
gives_more b xs p ys e =
    list_any-append (λ p. is_block p.mark b) xs (p ∷ ys)
    ∙ or_right (gives_up b xs) (gives_up b (p ∷ ys)) (or_left (is_block p.mark b) (gives_up b ys) (is_own b p.mark e))

-- no item of the one part passes, and none of the other
none_both : (f : Placed → Bool) (xs ys : List Placed) → list_any f xs ≡ false → list_any f ys ≡ false
    → list_any f (xs ++ ys) ≡ false
none_both f xs ys h k = list_any-append f xs ys ∙ ap (λ x. x || list_any f ys) h ∙ k

pub none_front : (f : Placed → Bool) (xs ys : List Placed) → list_any f (xs ++ ys) ≡ false → list_any f xs ≡ false
none_front f xs ys h =
    elim (cases_Bool (list_any f xs)) [
      | inl t ↦ absurd (both_ways (list_any f (xs ++ ys)) h (list_any-append f xs ys
          ∙ or_left (list_any f xs) (list_any f ys) t))
      | inr e ↦ e
    ]

-- where one item that took the block, and one that gave it up, stand in a list
compare : (b : ℕ) (pre : List Placed) (p : Placed) (post front : List Placed) (q : Placed) (back : List Placed)
    → pre ++ p ∷ post ≡ front ++ q ∷ back → p.block ≡ Some b → q.mark ≡ Some b
    → (takes b back ≡ true) ⊎ ((p ≡ q) ⊎ (gives_up b post ≡ true))
compare b [] p post [] q back e took gave = inr (inl (cc e))
compare b [] p post (x ∷ front) q back e took gave =
    let rest : post ≡ front ++ q ∷ back = cc e in
    inr (inr (ap (gives_up b) rest ∙ gives_more b front q back gave))
compare b (y ∷ pre) p post [] q back e took gave =
    let rest : back ≡ pre ++ p ∷ post = cc e in
    inl (ap (takes b) rest ∙ takes_more b pre p post took)
compare b (y ∷ pre) p post (x ∷ front) q back e took gave =
    let rest : pre ++ p ∷ post ≡ front ++ q ∷ back = cc e in compare b pre p post front q back rest took gave

at_middle : (P : Placed → Type 0) (xs : List Placed) (p : Placed) (ys : List Placed)
    → AllByRecursion P (xs ++ p ∷ ys) → P p
at_middle P [] p ys h = h.0
at_middle P (x ∷ xs) p ys h = at_middle P xs p ys h.1

-- What is known of the places so far --------------------------------------------------------------------------------

pub record Holds (places : List Placed) (blocks : BlockMap) : Type 0 where
  pub held : (r b : ℕ) → blocks r ≡ Some b → IsHeldBy places b
  pub own : (r q b : ℕ) → blocks r ≡ Some b → blocks q ≡ Some b → r ≡ q
  pub apart : AllByRecursion IsApart places

-- none of these items took the block, or one gave it up and none took it since
abbrev pub IsOffered : List Placed → ℕ → Type 0
IsOffered places b =
    (takes b places ≡ false)
    ⊎ ((front : List Placed) × (q : Placed) × (back : List Placed) × (places ≡ front ++ q ∷ back)
    × (q.mark ≡ Some b) × (takes b back ≡ false))

-- such a block is no live buffer's
strange : (places : List Placed) (blocks : BlockMap) → Holds places blocks → (b r : ℕ) → IsOffered places b
    → blocks r ≡ Some b → ⊥
strange places blocks h b r (inl none) e =
    let x = h.held r b e in
    both_ways (takes b places) none (ap (takes b) x.split ∙ takes_more b x.front x.place x.back x.took)
strange places blocks h b r (inr o) e =
    let x = h.held r b e in
    elim (compare b x.front x.place x.back o.0 o.1 o.2 (sym x.split ∙ o.3) x.took o.4) [
      | inl t ↦ both_ways (takes b o.2) o.5 t
      | inr rest ↦ elim rest [
        | inl same ↦
            at_middle IsApart x.front x.place x.back (subst (AllByRecursion IsApart) x.split h.apart) b x.took
            (ap (λ p. p.mark) same ∙ o.4)
        | inr g ↦ both_ways (gives_up b x.back) x.kept g
      ]
    ]

-- what may be taken behind these messages and items is offered by all of them, and by the messages alone
pub offered_all : (earlier : List (List Placed)) (here : List Placed) (b : ℕ) → MayTake earlier here b
    → IsOffered (all_places earlier ++ here) b
offered_all earlier here b (inl n) = inl n.0
offered_all earlier here b (inr o) =
    inr (o.0, o.1, o.2 ++ here, ap (λ l. l ++ here) o.3 ∙ append_assoc o.0 (o.1 ∷ o.2) here, o.4, o.5)

offered_before : (earlier : List (List Placed)) (here : List Placed) (b : ℕ) → MayTake earlier here b
    → IsOffered (all_places earlier) b
offered_before earlier here b (inl n) = inl (none_front (λ p. is_block p.block b) (all_places earlier) here n.0)
offered_before earlier here b (inr o) = inr (o.0, o.1, o.2, o.3, o.4, none_front (λ p. is_block p.block b) o.2 here o.5)

-- it was not taken by the items before it of its own message
taken_once : (earlier : List (List Placed)) (here : List Placed) (b : ℕ) → MayTake earlier here b → takes b here ≡ false
taken_once earlier here b m = none_back (by m)
  where
    none_back : (xs : List Placed) × (takes b (xs ++ here) ≡ false) → takes b here ≡ false
    none_back h =
        elim (cases_Bool (takes b here)) [
          | inl t ↦ absurd (both_ways (takes b (h.0 ++ here)) h.1
              (list_any-append (λ p. is_block p.block b) h.0 here ∙ or_right (takes b h.0) (takes b here) t))
          | inr e ↦ e
        ]

    by : MayTake earlier here b → (xs : List Placed) × (takes b (xs ++ here) ≡ false)
    by (inl n) = (all_places earlier, n.0)
    by (inr o) = (o.2, o.5)

-- One item more -----------------------------------------------------------------------------------------------------

held_still : (places : List Placed) (p : Placed) (b : ℕ) → is_block p.block b ≡ false → is_block p.mark b ≡ false
    → IsHeldBy places b
    → IsHeldBy (places ++ p ∷ []) b
held_still places p b t g h = record {
  front = h.front;
  place = h.place;
  back = h.back ++ p ∷ [];
  split = ap (λ l. l ++ p ∷ []) h.split ∙ append_assoc h.front (h.place ∷ h.back) (p ∷ []);
  took = h.took;
  once = none_both (λ p. is_block p.block b) h.back (p ∷ []) h.once (ap (λ x. x || false) t);
  kept = none_both (λ p. is_block p.mark b) h.back (p ∷ []) h.kept (ap (λ x. x || false) g);
}

not_block : (o : Option ℕ) (b : ℕ) → (o ≡ Some b → ⊥) → is_block o b ≡ false
not_block None b n = refl
not_block (Some c) b n =
    elim (cases_Bool (b == c)) [ inl t ↦ absurd (n (ap Some (sym (eqb-true b c t)))) | inr f ↦ f ]

module _ (places : List Placed) (blocks : BlockMap) (h : Holds places blocks) (p : Placed) where
  -- the item takes no block and gives up none
  none_placed : p.block ≡ None → p.mark ≡ None → Holds (places ++ p ∷ []) blocks
  none_placed t g = record {
    held = λ r b e. held_still places p b (ap (λ o. is_block o b) t) (ap (λ o. is_block o b) g) (h.held r b e);
    own = h.own;
    apart = all_append IsApart places (p ∷ []) h.apart ((λ b x y. let z : None ≡ Some b = sym t ∙ x in cc z), tt);
  }

  -- a buffer's block is given up, if it has one
  one_off : (buffer : ℕ) → p.block ≡ None → p.mark ≡ blocks buffer
      → Holds (places ++ p ∷ []) (updated buffer None blocks)
  one_off buffer t g = record {
    held = λ r b e. elim (cases_Bool (r == buffer)) [
      | inl y ↦ absurd (let z : None ≡ Some b = sym (ap (λ c. cond c None (blocks r)) y) ∙ e in cc z)
      | inr n ↦
          let old : blocks r ≡ Some b = sym (ap (λ c. cond c None (blocks r)) n) ∙ e in
          held_still places p b (ap (λ o. is_block o b) t)
          (not_block p.mark b (λ x. both_ways (r == buffer) n (eq-eqb r buffer (h.own r buffer b old (sym g ∙ x)))))
          (h.held r b old)
    ];
    own = λ r q b e f. elim (cases_Bool (r == buffer)) [
      | inl y ↦ absurd (let z : None ≡ Some b = sym (ap (λ c. cond c None (blocks r)) y) ∙ e in cc z)
      | inr n ↦ elim (cases_Bool (q == buffer)) [
        | inl y ↦ absurd (let z : None ≡ Some b = sym (ap (λ c. cond c None (blocks q)) y) ∙ f in cc z)
        | inr m ↦ h.own r q b (sym (ap (λ c. cond c None (blocks r)) n)
            ∙ e) (sym (ap (λ c. cond c None (blocks q)) m) ∙ f)
      ]
    ];
    apart = all_append IsApart places (p ∷ []) h.apart ((λ b x y. let z : None ≡ Some b = sym t ∙ x in cc z), tt);
  }

  -- a buffer takes a block that is no live buffer's, and gives up its own, if it has one and the item says so
  one_taken : (buffer b : ℕ) → p.block ≡ Some b → (p.mark ≡ None) ⊎ (p.mark ≡ blocks buffer)
      → ((r : ℕ) → blocks r ≡ Some b → ⊥) → Holds (places ++ p ∷ []) (updated buffer (Some b) blocks)
  one_taken buffer b t g new = record {
    held = λ r q e. elim (cases_Bool (r == buffer)) [
      | inl y ↦
          let same : Some b ≡ Some q = sym (ap (λ c. cond c (Some b) (blocks r)) y) ∙ e in
          record { front = places; place = p; back = []; split = refl; took = t ∙ same; once = refl; kept = refl }
      | inr n ↦
          let old : blocks r ≡ Some q = sym (ap (λ c. cond c (Some b) (blocks r)) n) ∙ e in
          held_still places p q
          (not_block p.block q (λ x. let z : Some b ≡ Some q = sym t ∙ x in new r (old ∙ sym z)))
          (not_block p.mark q (λ x. elim g [
            | inl none ↦ let z : None ≡ Some q = sym none ∙ x in absurd (cc z)
            | inr own ↦ both_ways (r == buffer) n (eq-eqb r buffer (h.own r buffer q old (sym own ∙ x)))
          ]))
          (h.held r q old)
    ];
    own = λ r q d e f. elim (cases_Bool (r == buffer)) [
      | inl y ↦ elim (cases_Bool (q == buffer)) [
        | inl x ↦ eqb-true r buffer y ∙ sym (eqb-true q buffer x)
        | inr m ↦
            let same : Some b ≡ Some d = sym (ap (λ c. cond c (Some b) (blocks r)) y) ∙ e in
            absurd (new q (sym (ap (λ c. cond c (Some b) (blocks q)) m) ∙ f ∙ sym same))
      ]
      | inr n ↦ elim (cases_Bool (q == buffer)) [
        | inl x ↦
            let same : Some b ≡ Some d = sym (ap (λ c. cond c (Some b) (blocks q)) x) ∙ f in
            absurd (new r (sym (ap (λ c. cond c (Some b) (blocks r)) n) ∙ e ∙ sym same))
        | inr m ↦ h.own r q d (sym (ap (λ c. cond c (Some b) (blocks r)) n)
            ∙ e) (sym (ap (λ c. cond c (Some b) (blocks q)) m) ∙ f)
      ]
    ];
    apart = all_append IsApart places (p ∷ []) h.apart (
      (λ c x y. let z : Some b ≡ Some c = sym t ∙ x in elim g [
        | inl none ↦ let w : None ≡ Some c = sym none ∙ y in absurd (cc w)
        | inr own ↦ new buffer (sym own ∙ y ∙ sym z)
      ]),
      tt,
    );
  }

pub play_holds : (script : Script) (places : List Placed) (play : Play) (p : Placed) (old new : BlockMap)
    → PlacesPlay script play p old new
    → ((b : ℕ) → p.block ≡ Some b → IsOffered places b) → Holds places old → Holds (places ++ p ∷ []) new
play_holds script places (Create buffer bytes) p old new k o h =
    subst (Holds (places ++ p ∷ [])) (sym k.5)
    (one_taken places old h p buffer k.0 k.1 (inl k.2) (λ r. strange places old h k.0 r (o k.0 k.1)))
play_holds script places (Discard buffer from bytes) p old new k o h =
    subst (Holds (places ++ p ∷ [])) (sym k.5)
    (one_taken places old h p buffer k.0 k.1 (inr k.2) (λ r. strange places old h k.0 r (o k.0 k.1)))
play_holds script places (No_overwrite buffer from bytes) p old new k o h =
    subst (Holds (places ++ p ∷ [])) (sym k.1) (none_placed places old h p k.0.0 k.0.1)
play_holds script places (Stage bytes target skip) p old new k o h =
    subst (Holds (places ++ p ∷ [])) (sym k.3) (none_placed places old h p k.0 k.1)
play_holds script places (Command w skip) p old new k o h =
    subst (Holds (places ++ p ∷ [])) (sym k.1) (none_placed places old h p k.0.0 k.0.1)
play_holds script places (Destroy buffer) p old new k o h =
    subst (Holds (places ++ p ∷ [])) (sym k.3) (one_off places old h p buffer k.0 k.1)
play_holds script places Create_shader p old new k o h =
    subst (Holds (places ++ p ∷ [])) (sym k.1) (none_placed places old h p k.0.0 k.0.1)
play_holds script places (Mark_query query begins) p old new k o h =
    subst (Holds (places ++ p ∷ [])) (sym k.1) (none_placed places old h p k.0.0 k.0.1)
play_holds script places Set_state p old new k o h =
    subst (Holds (places ++ p ∷ [])) (sym k.1) (none_placed places old h p k.0.0 k.0.1)

-- The items of a message, and the messages --------------------------------------------------------------------------

turns_hold : (script : Script) (earlier : List (List Placed)) (ts : List Turn) (here ps : List Placed)
    (old new : BlockMap)
    → GivesTo script ts ps old new → TakesLawfully earlier (here ++ ps) → Holds (all_places earlier ++ here) old
    → Holds (all_places earlier ++ (here ++ ps)) new
turns_hold script earlier [] here ps old new g l h =
    subst (λ ps. Holds (all_places earlier ++ (here ++ ps)) new) (sym g.0)
    (subst (λ l. Holds (all_places earlier ++ l) new) (sym (append-nil here))
    (subst (Holds (all_places earlier ++ here)) (sym g.1) h))
turns_hold script earlier (Refused call ∷ ts) here ps old new g l h = turns_hold script earlier ts here ps old new g l h
turns_hold script earlier (Passed call ∷ ts) here ps old new g l h = turns_hold script earlier ts here ps old new g l h
turns_hold script earlier (Flushed call ∷ ts) here ps old new g l h = turns_hold script earlier ts here ps old new g l h
turns_hold script earlier (Asked call ask used may_pend ∷ ts) here ps old new g l h =
    turns_hold script earlier ts here ps old new g l h
turns_hold script earlier (Item call item ends play bound ∷ ts) here ps old new g l h =
    let p = g.0 in
    let lawful : TakesLawfully earlier (here ++ p ∷ g.1) = subst (λ ps. TakesLawfully earlier (here ++ ps)) g.2 l in
    let offered = λ (b : ℕ) (e : p.block ≡ Some b). offered_all earlier here b (lawful here p g.1 b refl e) in
    let next : Holds (all_places earlier ++ (here ++ p ∷ [])) g.3 =
    subst (λ l. Holds l g.3) (append_assoc (all_places earlier) here (p ∷ []))
    (play_holds script (all_places earlier ++ here) play p old g.3 g.4 offered h) in
    let more = turns_hold script earlier ts (here ++ p ∷ []) g.1 g.3 new g.7
    (subst (TakesLawfully earlier) (sym (append_assoc here (p ∷ []) g.1)) lawful) next in
    subst (λ ps. Holds (all_places earlier ++ (here ++ ps)) new) (sym g.2)
    (subst (λ l. Holds (all_places earlier ++ l) new) (append_assoc here (p ∷ []) g.1) more)

-- one message on
message_holds : (log : Log) (pre : List Head) (x : Head) (k : ℕ) (old new : BlockMap)
    → GivesTo log.script (chunk_turns log.script k) x.placed old new
    → TakesLawfully (places_in pre) x.placed → Holds (all_places (places_in pre)) old
    → Holds (all_places (places_in (pre ++ x ∷ []))) new
message_holds log pre x k old new g l h =
    subst (λ l. Holds l new) (sym (places_of_last pre x))
    (turns_hold log.script (places_in pre) (chunk_turns log.script k) [] x.placed old new g l
    (subst (λ l. Holds l old) (sym (append-nil (all_places (places_in pre)))) h))

line_holds : (log : Log) (pre hs : List Head) (k : ℕ) (old new : BlockMap) → Succeeds log (pre ++ hs)
    → GivesLine log.script old (chunks_of log.script k hs) new
    → Holds (all_places (places_in pre)) old → Holds (all_places (places_in (pre ++ hs))) new
line_holds log pre [] k old new s g h =
    subst (λ l. Holds (all_places (places_in l)) new) (sym (append-nil pre))
    (subst (Holds (all_places (places_in pre))) (sym g) h)
line_holds log pre (x ∷ hs) k old new s g h =
    subst (λ l. Holds (all_places (places_in l)) new) (append_assoc pre (x ∷ []) hs)
    (line_holds log (pre ++ x ∷ []) hs (suc k) g.0 new (subst (Succeeds log) (sym (append_assoc pre (x ∷ []) hs)) s) g.2
    (message_holds log pre x k old g.0 g.1 (s pre x hs refl).takes_lawfully h))

none_held : Holds [] no_blocks
none_held = record { held = λ r b e. absurd (cc e); own = λ r q b e f. absurd (cc e); apart = tt }

-- the messages before the last succeed each other too
fewer : (log : Log) (front : List Head) (h : Head) → Succeeds log (front ++ h ∷ []) → Succeeds log front
fewer log front h s pre x back e = s pre x (back ++ h ∷ []) (ap (λ l. l ++ h ∷ []) e
    ∙ append_assoc pre (x ∷ back) (h ∷ []))

pub holds_before : (log : Log) (front : List Head) (h : Head) → Succeeds log (front ++ h ∷ [])
    → Holds (all_places (places_in front)) (made_of log front).blocks
holds_before log front h s =
    let l = last_of log front h s in
    subst (Holds (all_places (places_in front))) (sym l.made_before)
    (line_holds log [] front 1 no_blocks l.before (fewer log front h s) l.line none_held)

-- what a message takes is no block of a buffer that lived before it, and it takes it once
pub taken_strange : (log : Log) (front : List Head) (h : Head) → Succeeds log (front ++ h ∷ [])
    → (before : List Placed) (p : Placed) (after : List Placed) (b : ℕ) → h.placed ≡ before ++ p ∷ after
    → p.block ≡ Some b
    → (r : ℕ) → (made_of log front).blocks r ≡ Some b → ⊥
taken_strange log front h s before p after b e t r =
    strange (all_places (places_in front)) (made_of log front).blocks (holds_before log front h s) b r
    (offered_before (places_in front) before b ((s front h [] refl).takes_lawfully before p after b e t))

pub taken_anew : (log : Log) (front : List Head) (h : Head) → Succeeds log (front ++ h ∷ [])
    → (before : List Placed) (p : Placed) (after : List Placed) (b : ℕ) → h.placed ≡ before ++ p ∷ after
    → p.block ≡ Some b
    → takes b before ≡ false
taken_anew log front h s before p after b e t =
    taken_once (places_in front) before b ((s front h [] refl).takes_lawfully before p after b e t)

-- behind the last message
pub holds_behind : (log : Log) (front : List Head) (h : Head) → Succeeds log (front ++ h ∷ [])
    → Holds (all_places (places_in (front ++ h ∷ []))) (made_of log (front ++ h ∷ [])).blocks
holds_behind log front h s =
    let l = last_of log front h s in
    let old = subst (Holds (all_places (places_in front))) l.made_before (holds_before log front h s) in
    let made : (made_of log (front ++ h ∷ [])).blocks ≡ l.after =
    ap (λ m. m.blocks) l.made_here
    ∙ made_blocks log.script (chunk_turns log.script (suc (length front))) h.placed l.before l.after
    (next_chunk (made_of log front)) l.gives l.made_before in
    subst (Holds (all_places (places_in (front ++ h ∷ [])))) (sym made)
    (message_holds log front h (suc (length front)) l.before l.after l.gives (s front h [] refl).takes_lawfully old)
