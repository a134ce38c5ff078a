-- A device holds a block from the message that takes it to the one that gives it up, and a page for its one message;
-- so it has what messages use that it did not complete.
use Rattle.std.proofs.Common.{◌≡◌, ℕ, zero, suc, ◌≤◌, Bool, true, false, not, ◌&&◌, ◌||◌, List, []}
use Rattle.std.proofs.Common.{◌∷◌}
use Rattle.std.proofs.Common.{◌++◌, length, take, drop, refl, sym, ap, ◌∙◌, subst, inl, inr, ◌⊎◌, Option, Some, None}
use Rattle.std.proofs.Common.{arith}
use Rattle.std.proofs.Common.{append_assoc, append-nil}
use Rattle.std.specs.List.{list_any, AllByRecursion}
use Rattle.std.proofs.lemmas.Bool.{cases_Bool, both_ways, eqb-true}
use Rattle.std.proofs.lemmas.List.Folds.{list_any-append}
use Rattle.vk_types.specs.declared.message.Placed.{Placed}
use Rattle.vk_types.specs.Hazards.{touches}
use Rattle.base_lemmas.proofs.Lists.{all_map}
use Rattle.core_model.specs.Owners.{is_block}
use Rattle.core_model.specs.Lawful.{IsLawful}
use Rattle.core_model.specs.Succession.{Head, Log, takes, stages_in, all_places, places_in}
use Rattle.core_model.specs.Spine.{Succeeds, made_of, gives_up, MayUse, IsHeldBy, has_place, held_done}
use Rattle.core_model.specs.Spine.{holds_block}
use Rattle.core_model.proofs.Steps.Binding.{or_left, or_right}
use Rattle.core_model.proofs.Messages.UsedBlocks.{message_uses}
use Rattle.core_model.proofs.Messages.GivenUp.{gave_known, not_before}
use Rattle.core_model.proofs.Messages.HeldBlocks.{IsApart, takes_more, holds_before}

-- The message of an item --------------------------------------------------------------------------------------------

record InMessage (hs : List Head) (front : List Placed) (p : Placed) (back : List Placed) : Type 0 where
  before : List Head
  at : Head
  behind : List Head
  split : hs ≡ before ++ at ∷ behind
  first : List Placed
  rest : List Placed
  placed : at.placed ≡ first ++ p ∷ rest
  others : back ≡ rest ++ all_places (places_in behind)

-- where one item of two lists stands
two_lists : (xs ys front : List Placed) (p : Placed) (back : List Placed) → xs ++ ys ≡ front ++ p ∷ back
    → ((rest : List Placed) × (xs ≡ front ++ p ∷ rest) × (back ≡ rest ++ ys))
    ⊎ ((more : List Placed) × (ys ≡ more ++ p ∷ back))
two_lists [] ys front p back e = inr (front, e)
two_lists (x ∷ xs) ys [] p back e =
    let first : x ≡ p = cc e in
    let rest : xs ++ ys ≡ back = cc e in
    inl (xs, ap (λ q. q ∷ xs) first, sym rest)
two_lists (x ∷ xs) ys (y ∷ front) p back e =
    let first : x ≡ y = cc e in
    let rest : xs ++ ys ≡ front ++ p ∷ back = cc e in
    elim (two_lists xs ys front p back rest) [
      | inl h ↦ inl (h.0, (λ i. first i ∷ h.1 i), h.2)
      | inr h ↦ inr h
    ]

in_message : (hs : List Head) (front : List Placed) (p : Placed) (back : List Placed)
    → all_places (places_in hs) ≡ front ++ p ∷ back
    → InMessage hs front p back
in_message [] [] p back e = absurd (cc e)
in_message [] (x ∷ front) p back e = absurd (cc e)
in_message (h ∷ hs) front p back e =
    elim (two_lists h.placed (all_places (places_in hs)) front p back e) [
      | inl x ↦ record {
        before = [];
        at = h;
        behind = hs;
        split = refl;
        first = front;
        rest = x.0;
        placed = x.1;
        others = x.2;
      }
      | inr x ↦
          let m = in_message hs x.0 p back x.1 in
          record {
            before = h ∷ m.before;
            at = m.at;
            behind = m.behind;
            split = ap (λ l. h ∷ l) m.split;
            first = m.first;
            rest = m.rest;
            placed = m.placed;
            others = m.others;
          }
    ]

-- What the device holds ---------------------------------------------------------------------------------------------

-- messages that don't give up the block keep it
kept_done : (b : ℕ) (n : ℕ) (hs : List Head) → gives_up b (all_places (places_in hs)) ≡ false
    → held_done b (take n (places_in hs)) true ≡ true
kept_done b zero hs h = refl
kept_done b (suc n) [] h = refl
kept_done b (suc n) (x ∷ hs) h =
    let split = list_any-append (λ q. is_block q.mark b) x.placed (all_places (places_in hs)) in
    let here : gives_up b x.placed ≡ false = elim (cases_Bool (gives_up b x.placed)) [
      | inl t ↦ absurd (both_ways (gives_up b (all_places (places_in (x ∷ hs)))) h (split
          ∙ or_left (gives_up b x.placed) (gives_up b (all_places (places_in hs))) t))
      | inr f ↦ f
    ] in
    let later : gives_up b (all_places (places_in hs)) ≡ false =
    elim (cases_Bool (gives_up b (all_places (places_in hs)))) [
      | inl t ↦ absurd (both_ways (gives_up b (all_places (places_in (x ∷ hs)))) h (split
          ∙ or_right (gives_up b x.placed) (gives_up b (all_places (places_in hs))) t))
      | inr f ↦ f
    ] in
    ap (λ c. held_done b (take n (places_in hs)) (true && not c)) here ∙ kept_done b n hs later

-- a message with the block, and messages behind it that don't give it up, whichever were completed
kept_there : (b : ℕ) (pre : List Head) (x : Head) (post back : List Head) (n : ℕ) (was : Bool)
    → takes b x.placed ≡ true → gives_up b x.placed ≡ false
    → gives_up b (all_places (places_in post)) ≡ false → n ≤ length (pre ++ x ∷ post)
    → (held_done b (take n (places_in ((pre ++ x ∷ post) ++ back))) was
    || list_any (has_place b) (drop n (places_in ((pre ++ x ∷ post) ++ back)))) ≡ true
kept_there b [] x post back zero was t g h l =
    or_right was (list_any (has_place b) (places_in ((x ∷ post) ++ back)))
    (or_left (has_place b x.placed) (list_any (has_place b) (places_in (post ++ back)))
    (or_left (takes b x.placed) (stages_in b x.placed) t))
kept_there b [] x post back (suc n) was t g h l =
    or_left (held_done b (take (suc n) (places_in ((x ∷ post) ++ back))) was)
    (list_any (has_place b) (drop n (places_in (post ++ back))))
    (ap (λ c. held_done b (take n (places_in (post ++ back))) ((was || c) && not (gives_up b x.placed))) t
    ∙ ap (λ c. held_done b (take n (places_in (post ++ back))) ((was || true) && not c)) g
    ∙ ap (held_done b (take n (places_in (post ++ back)))) (always was)
    ∙ ap (λ l. held_done b l true) (take_short n post back (omega (arith, l)))
    ∙ kept_done b n post h)
  where
    always : (c : Bool) → ((c || true) && true) ≡ true
    always true = refl
    always false = refl

    take_short : (n : ℕ) (xs ys : List Head) → n ≤ length xs → take n (places_in (xs ++ ys)) ≡ take n (places_in xs)
    take_short zero xs ys l = refl
    take_short (suc n) [] ys l = absurd (let z : ⊥ = omega (arith, l) in z)
    take_short (suc n) (x ∷ xs) ys l = ap (λ l. x.placed ∷ l) (take_short n xs ys (omega (arith, l)))
kept_there b (y ∷ pre) x post back zero was t g h l =
    or_right was (list_any (has_place b) (places_in (((y ∷ pre) ++ x ∷ post) ++ back)))
    (or_right (has_place b y.placed) (list_any (has_place b) (places_in ((pre ++ x ∷ post) ++ back))) (found_in pre))
  where
    found_in : (pre : List Head) → list_any (has_place b) (places_in ((pre ++ x ∷ post) ++ back)) ≡ true
    found_in [] = or_left (has_place b x.placed) (list_any (has_place b) (places_in (post ++ back)))
        (or_left (takes b x.placed) (stages_in b x.placed) t)
    found_in (z ∷ zs) =
        or_right (has_place b z.placed) (list_any (has_place b) (places_in ((zs ++ x ∷ post) ++ back))) (found_in zs)
kept_there b (y ∷ pre) x post back (suc n) was t g h l =
    kept_there b pre x post back n ((was || takes b y.placed) && not (gives_up b y.placed)) t g h (omega (arith, l))

-- a block that a message in the list has, and that isn't completed
behind_done : (b : ℕ) (front : List Head) (x : Head) (back : List Head) (n : ℕ) (was : Bool)
    → has_place b x.placed ≡ true → n ≤ length front
    → (held_done b (take n (places_in (front ++ x ∷ back))) was
    || list_any (has_place b) (drop n (places_in (front ++ x ∷ back)))) ≡ true
behind_done b [] x back zero was h l =
    or_right was (list_any (has_place b) (places_in (x ∷ back)))
    (or_left (has_place b x.placed) (list_any (has_place b) (places_in back)) h)
behind_done b [] x back (suc n) was h l = absurd (let z : ⊥ = omega (arith, l) in z)
behind_done b (y ∷ front) x back zero was h l =
    or_right was (list_any (has_place b) (places_in ((y ∷ front) ++ x ∷ back)))
    (or_right (has_place b y.placed) (list_any (has_place b) (places_in (front ++ x ∷ back))) (there front))
  where
    there : (zs : List Head) → list_any (has_place b) (places_in (zs ++ x ∷ back)) ≡ true
    there [] = or_left (has_place b x.placed) (list_any (has_place b) (places_in back)) h
    there (z ∷ zs) = or_right (has_place b z.placed) (list_any (has_place b) (places_in (zs ++ x ∷ back))) (there zs)
behind_done b (y ∷ front) x back (suc n) was h l = behind_done b front x back n
    ((was || takes b y.placed) && not (gives_up b y.placed)) h (omega (arith, l))

pub fewer_heads : (log : Log) (front back : List Head) → Succeeds log (front ++ back) → Succeeds log front
fewer_heads log front back s f y g e = s f y (g ++ back) (ap (λ l. l ++ back) e ∙ append_assoc f (y ∷ g) back)

-- the message that took a held block: it gives it up no more, nor does one behind it
pub record HeldMessage (hs : List Head) (b : ℕ) : Type 0 where
  pub before : List Head
  pub at : Head
  pub behind : List Head
  pub split : hs ≡ before ++ at ∷ behind
  pub took : takes b at.placed ≡ true
  pub kept : gives_up b at.placed ≡ false
  pub later : gives_up b (all_places (places_in behind)) ≡ false

pub held_message : (log : Log) (hs : List Head) → Succeeds log hs → (b : ℕ)
    → AllByRecursion IsApart (all_places (places_in hs)) → IsHeldBy (all_places (places_in hs)) b → HeldMessage hs b
held_message log hs s b apart y =
    let m = in_message hs y.front y.place y.back y.split in
    let own : Succeeds log (m.before ++ m.at ∷ []) =
    fewer_heads log (m.before ++ m.at ∷ []) m.behind
    (subst (Succeeds log) (m.split ∙ sym (append_assoc m.before (m.at ∷ []) m.behind)) s) in
    let clean = not_before log m.before m.at own m.first y.place m.rest b m.placed y.took in
    let parts : (gives_up b m.rest || gives_up b (all_places (places_in m.behind))) ≡ false =
    sym (list_any-append (λ q. is_block q.mark b) m.rest (all_places (places_in m.behind)))
    ∙ ap (gives_up b) (sym m.others) ∙ y.kept in
    let rest : gives_up b m.rest ≡ false = neither_left (gives_up b m.rest)
    (gives_up b (all_places (places_in m.behind))) parts in
    let own_mark : is_block y.place.mark b ≡ false = elim (cases_Bool (is_block y.place.mark b)) [
      | inl t ↦ absurd (at_place y.front y.place y.back (subst (AllByRecursion IsApart) y.split apart) b y.took
          (marked y.place.mark t))
      | inr f ↦ f
    ] in
    record {
      before = m.before;
      at = m.at;
      behind = m.behind;
      split = m.split;
      took = ap (takes b) m.placed ∙ takes_more b m.first y.place m.rest y.took;
      kept =
          ap (gives_up b) m.placed ∙ list_any-append (λ q. is_block q.mark b) m.first (y.place ∷ m.rest)
          ∙ ap (λ c. c || (is_block y.place.mark b || gives_up b m.rest)) clean
          ∙ ap (λ c. c || gives_up b m.rest) own_mark ∙ rest;
      later = neither_right (gives_up b m.rest) (gives_up b (all_places (places_in m.behind))) parts;
    }
  where
    neither_left : (x y : Bool) → (x || y) ≡ false → x ≡ false
    neither_left true y h = h
    neither_left false y h = refl

    neither_right : (x y : Bool) → (x || y) ≡ false → y ≡ false
    neither_right true y h = absurd (cc h)
    neither_right false y h = h

    at_place : (xs : List Placed) (p : Placed) (ys : List Placed) → AllByRecursion IsApart (xs ++ p ∷ ys) → IsApart p
    at_place [] p ys h = h.0
    at_place (x ∷ xs) p ys h = at_place xs p ys h.1

    marked : (o : Option ℕ) → is_block o b ≡ true → o ≡ Some b
    marked None h = absurd (cc h)
    marked (Some c) h = ap Some (sym (eqb-true b c h))

pub used_held : (log : Log) (front : List Head) (h : Head) (back : List Head) → Succeeds log (front ++ h ∷ back)
    → (n : ℕ) → n ≤ length front
    → (b : ℕ) → MayUse log front h b → holds_block n (places_in (front ++ h ∷ back)) b ≡ true
used_held log front h back s n l b (inl t) = behind_done b front h back n false
    (or_left (takes b h.placed) (stages_in b h.placed) t) l
used_held log front h back s n l b (inr (inl t)) = behind_done b front h back n false
    (or_right (takes b h.placed) (stages_in b h.placed) t) l
used_held log front h back s n l b (inr (inr x)) =
    let here : Succeeds log (front ++ h ∷ []) =
    fewer_heads log (front ++ h ∷ []) back (subst (Succeeds log) (sym (append_assoc front (h ∷ []) back)) s) in
    let holds = holds_before log front h here in
    let m = held_message log front (fewer_heads log front (h ∷ back) s) b holds.apart (holds.held x.0 b x.1) in
    subst (λ f. holds_block n (places_in (f ++ h ∷ back)) b ≡ true) (sym m.split)
    (kept_there b m.before m.at m.behind (h ∷ back) n false m.took m.kept m.later (subst (λ f. n ≤ length f) m.split l))

pub commands_held : (log : Log) → IsLawful log.meaning log.script → (front : List Head) (h : Head) (back : List Head)
    → Succeeds log (front ++ h ∷ back) → (n : ℕ) → n ≤ length front
    → AllByRecursion (λ d. AllByRecursion (λ t. holds_block n (places_in (front ++ h ∷ back)) t.range.block ≡ true)
    (touches d))
    (made_of log (front ++ h ∷ [])).listed
commands_held log lawful front h back s n l =
    let here : Succeeds log (front ++ h ∷ []) =
    fewer_heads log (front ++ h ∷ []) back (subst (Succeeds log) (sym (append_assoc front (h ∷ []) back)) s) in
    all_map (λ d. AllByRecursion (λ t. MayUse log front h t.range.block) (touches d))
    (λ d. AllByRecursion (λ t. holds_block n (places_in (front ++ h ∷ back)) t.range.block ≡ true) (touches d))
    (λ d f. all_map (λ t. MayUse log front h t.range.block) (λ t. holds_block n (places_in (front ++ h ∷ back))
    t.range.block ≡ true)
    (λ t u. used_held log front h back s n l t.range.block u) (touches d) f)
    (made_of log (front ++ h ∷ [])).listed (message_uses log lawful front h here).listed

pub writes_held : (log : Log) → IsLawful log.meaning log.script → (front : List Head) (h : Head) (back : List Head)
    → Succeeds log (front ++ h ∷ back) → (n : ℕ) → n ≤ length front
    → AllByRecursion (λ w. holds_block n (places_in (front ++ h ∷ back)) w.range.block ≡ true)
    (made_of log (front ++ h ∷ [])).writes
writes_held log lawful front h back s n l =
    let here : Succeeds log (front ++ h ∷ []) =
    fewer_heads log (front ++ h ∷ []) back (subst (Succeeds log) (sym (append_assoc front (h ∷ []) back)) s) in
    all_map (λ w. MayUse log front h w.range.block) (λ w. holds_block n (places_in (front ++ h ∷ back))
    w.range.block ≡ true)
    (λ w u. used_held log front h back s n l w.range.block u) (made_of log (front ++ h ∷ [])).writes
    (message_uses log lawful front h here).writes

-- what a message gives up, it may use; so a device holds it that accepted the message and did not complete it
pub given_used : (log : Log) (front : List Head) (h : Head) → Succeeds log (front ++ h ∷ []) → (b : ℕ)
    → gives_up b h.placed ≡ true → MayUse log front h b
given_used log front h s b g =
    elim (gave_known log front h s h.placed [] (sym (append-nil h.placed)) b g) [
      | inl t ↦ inl t
      | inr x ↦ inr (inr x)
    ]

pub marks_held : (log : Log) (front : List Head) (h : Head) (back : List Head) → Succeeds log (front ++ h ∷ back)
    → (n : ℕ) → n ≤ length front → (b : ℕ) → gives_up b h.placed ≡ true
    → holds_block n (places_in (front ++ h ∷ back)) b ≡ true
marks_held log front h back s n l b g =
    used_held log front h back s n l b
    (given_used log front h
    (fewer_heads log (front ++ h ∷ []) back (subst (Succeeds log) (sym (append_assoc front (h ∷ []) back)) s)) b g)
