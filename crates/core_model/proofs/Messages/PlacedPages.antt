-- Where the items of a chunk stage bytes: in pages that are named in order, in ranges that share no byte.
use Rattle.std.proofs.Common.{◌≡◌, ℕ, ◌+◌, ◌≤◌, Bool, true, false, cond, ◌&&◌, ◌||◌, ◌==◌, nat_lt, List, [], ◌∷◌}
use Rattle.std.proofs.Common.{◌++◌, map, refl, sym, ap, ◌∙◌, subst, inl, inr, Option, Some, None, arith, append_assoc}
use Rattle.std.proofs.Common.{append-nil}
use Rattle.std.specs.List.{AllByRecursion}
use Rattle.std.proofs.lemmas.Bool.{cases_Bool, or_cases, eqb-true, eq-eqb, ltb-true}
use Rattle.std.proofs.lemmas.List.Folds.{list_any-append}
use Rattle.dx_types.specs.declared.range.Range.{Range}
use Rattle.vk_types.specs.declared.message.Placed.{Placed}
use Rattle.base_lemmas.specs.Lists.{Pairwise}
use Rattle.vk_types.specs.Memory.{meets, range}
use Rattle.base_lemmas.proofs.Lists.{all_append, all_map, all_both, pairs_append}
use Rattle.core_model.specs.CoreState.{Page, Newest}
use Rattle.core_model.specs.OtherParts.{is_among}
use Rattle.core_model.specs.Succession.{MayTake, TakesLawfully, staged_range_of, staged_ranges, once}
use Rattle.core_model.proofs.Steps.Uses.{map_append}
use Rattle.core_model.proofs.Listing.Growing.{all_to_map}
use Rattle.core_model.proofs.Blocks.MarkedBlocks.{ends_in}

-- Each number once --------------------------------------------------------------------------------------------------

among_append : (n : ℕ) (xs ys : List ℕ) → is_among n (xs ++ ys) ≡ (is_among n xs || is_among n ys)
among_append n xs ys = list_any-append (λ m. m == n) xs ys

-- one that came before is named no more
once_old : (seen xs : List ℕ) (x : ℕ) → (is_among x xs || is_among x seen) ≡ true
    → once seen (xs ++ x ∷ []) ≡ once seen xs
once_old seen [] x h = ap (λ c. cond c [] (x ∷ [])) h
once_old seen (y ∷ xs) x h = by (λ k. once_old seen xs x k) (λ k. once_old (y ∷ seen) xs x k) (is_among y seen) refl
  where
    or_swap : (a b c : Bool) → ((a || b) || c) ≡ true → (b || (a || c)) ≡ true
    or_swap true true c e = refl
    or_swap true false c e = refl
    or_swap false true c e = refl
    or_swap false false c e = e

    -- what was seen already
    seen_too : (a b c : Bool) → (a ≡ true → c ≡ true) → ((a || b) || c) ≡ true → (b || c) ≡ true
    seen_too true true c f e = refl
    seen_too true false c f e = f refl
    seen_too false true c f e = refl
    seen_too false false c f e = e

    by : ((is_among x xs || is_among x seen) ≡ true → once seen (xs ++ x ∷ []) ≡ once seen xs)
        → ((is_among x xs || is_among x (y ∷ seen)) ≡ true → once (y ∷ seen) (xs ++ x ∷ []) ≡ once (y ∷ seen) xs)
        → (b : Bool) → is_among y seen ≡ b → cond b (once seen (xs ++ x ∷ [])) (y ∷ once (y ∷ seen) (xs ++ x ∷ []))
        ≡ cond b (once seen xs) (y ∷ once (y ∷ seen) xs)
    by old new true e =
        old (seen_too (y == x) (is_among x xs) (is_among x seen)
        (λ t. ap (λ n. is_among n seen) (sym (eqb-true y x t)) ∙ e) h)
    by old new false e = ap (λ l. y ∷ l) (new (or_swap (y == x) (is_among x xs) (is_among x seen) h))

-- a new one is named behind the others
once_new : (seen xs : List ℕ) (x : ℕ) → is_among x xs ≡ false → is_among x seen ≡ false
    → once seen (xs ++ x ∷ []) ≡ once seen xs ++ x ∷ []
once_new seen [] x h k = ap (λ c. cond c [] (x ∷ [])) k
once_new seen (y ∷ xs) x h k =
    by (once_new seen xs x (right (y == x) (is_among x xs) h) k)
    (once_new (y ∷ seen) xs x (right (y == x) (is_among x xs) h)
    (ap (λ c. c || is_among x seen) (left (y == x) (is_among x xs) h) ∙ k)) (is_among y seen)
  where
    left : (a b : Bool) → (a || b) ≡ false → a ≡ false
    left true b e = e
    left false b e = refl

    right : (a b : Bool) → (a || b) ≡ false → b ≡ false
    right true b e = absurd (cc e)
    right false b e = e

    by : once seen (xs ++ x ∷ []) ≡ once seen xs ++ x ∷ [] → once (y ∷ seen) (xs ++ x ∷ [])
        ≡ once (y ∷ seen) xs ++ x ∷ [] → (b : Bool)
        → cond b (once seen (xs ++ x ∷ [])) (y ∷ once (y ∷ seen) (xs ++ x ∷ []))
        ≡ cond b (once seen xs) (y ∷ once (y ∷ seen) xs) ++ x ∷ []
    by old new true = old
    by old new false = ap (λ l. y ∷ l) new

among_all : (P : ℕ → Type 0) (n : ℕ) (xs : List ℕ) → AllByRecursion P xs → is_among n xs ≡ true → P n
among_all P n [] h e = absurd (cc e)
among_all P n (x ∷ xs) h e = elim (or_cases (x == n) (is_among n xs) e)
    [ inl t ↦ subst P (eqb-true x n t) h.0 | inr t ↦ among_all P n xs h.1 t ]

-- what holds of those that are named holds of all
pub once_all : (P : ℕ → Type 0) (seen xs : List ℕ) → AllByRecursion P seen → AllByRecursion P (once seen xs)
    → AllByRecursion P xs
once_all P seen [] h k = tt
once_all P seen (x ∷ xs) h k = by (λ k. once_all P seen xs h k) (λ y k. once_all P (x ∷ seen) xs (y, h) k)
    (is_among x seen) refl k
  where
    by : (AllByRecursion P (once seen xs) → AllByRecursion P xs)
        → (P x → AllByRecursion P (once (x ∷ seen) xs) → AllByRecursion P xs) → (b : Bool) → is_among x seen ≡ b
        → AllByRecursion P (cond b (once seen xs) (x ∷ once (x ∷ seen) xs)) → P x × AllByRecursion P xs
    by old new true e k = (among_all P x seen h e, old k)
    by old new false e k = (k.0, new k.0 k.1)

pub all_of_map : {A B : Type 0} (f : A → B) (P : B → Type 0) (xs : List A) → AllByRecursion P (map f xs)
    → AllByRecursion (λ x. P (f x)) xs
all_of_map f P [] h = tt
all_of_map f P (x ∷ xs) h = (h.0, all_of_map f P xs h.1)

-- The places of a chunk's items -------------------------------------------------------------------------------------

pub record PlacedRight (earlier : List (List Placed)) (pages : List Page) (here : List Placed) : Type 0 where
  pub takes : TakesLawfully earlier here
  pub apart : Pairwise (λ r s. meets r s ≡ false) (staged_ranges here)
  pub numbers : map (λ p. p.block) pages ≡ once [] (map (λ r. r.block) (staged_ranges here))
  pub long : AllByRecursion (λ p. AllByRecursion (λ r. p.block ≡ r.block → r.to ≤ p.len) (staged_ranges here)) pages

-- bytes were staged in the newest page, and its ranges end where its used bytes do
abbrev pub TopRight : Option Newest → List Page → List Placed → Type 0
TopRight None pages here = Unit {0}
TopRight (Some n) pages here =
    (is_among n.page.block (map (λ r. r.block) (staged_ranges here)) ≡ true)
    × AllByRecursion (λ r. r.block ≡ n.page.block → r.to ≤ n.used) (staged_ranges here)
    × AllByRecursion (λ p. p.block ≡ n.page.block → n.page.len ≤ p.len) pages

staged_last : (ps : List Placed) (p : Placed) → staged_ranges (ps ++ p ∷ [])
    ≡ staged_ranges ps ++ staged_range_of p.staged
staged_last [] p = append-nil (staged_range_of p.staged)
staged_last (q ∷ ps) p = ap (λ l. staged_range_of q.staged ++ l) (staged_last ps p)
    ∙ sym (append_assoc (staged_range_of q.staged) (staged_ranges ps) (staged_range_of p.staged))

takes_last : (earlier : List (List Placed)) (here : List Placed) (p : Placed) → TakesLawfully earlier here
    → ((b : ℕ) → p.block ≡ Some b → MayTake earlier here b) → TakesLawfully earlier (here ++ p ∷ [])
takes_last earlier here p h k front q back b e f =
    elim (ends_in here p front q back e) [
      | inl w ↦ subst (λ l. MayTake earlier l b) (sym w.0) (k b (ap (λ p. p.block) (sym w.1) ∙ f))
      | inr w ↦ h front q w.0 b w.1 f
    ]

-- an item that stages nothing
module _ (earlier : List (List Placed)) (pages : List Page) (here : List Placed) (p : Placed)
    (none : p.staged ≡ None) where
  same_ranges : staged_ranges (here ++ p ∷ []) ≡ staged_ranges here
  same_ranges = staged_last here p ∙ ap (λ o. staged_ranges here ++ staged_range_of o) none
      ∙ append-nil (staged_ranges here)

  pub quiet_placed : ((b : ℕ) → p.block ≡ Some b → MayTake earlier here b) → PlacedRight earlier pages here
      → PlacedRight earlier pages (here ++ p ∷ [])
  quiet_placed k h = record {
    takes = takes_last earlier here p h.takes k;
    apart = subst (Pairwise (λ r s. meets r s ≡ false)) (sym same_ranges) h.apart;
    numbers = h.numbers ∙ ap (λ rs. once [] (map (λ r. r.block) rs)) (sym same_ranges);
    long = subst (λ rs. AllByRecursion (λ p. AllByRecursion (λ r. p.block ≡ r.block → r.to ≤ p.len) rs) pages)
        (sym same_ranges) h.long;
  }

  pub quiet_top : (top : Option Newest) → TopRight top pages here → TopRight top pages (here ++ p ∷ [])
  quiet_top None h = tt
  quiet_top (Some n) h = (
    ap (λ rs. is_among n.page.block (map (λ r. r.block) rs)) same_ranges ∙ h.0,
    subst (AllByRecursion (λ r. r.block ≡ n.page.block → r.to ≤ n.used)) (sym same_ranges) h.1,
    h.2,
  )

-- Bytes are staged --------------------------------------------------------------------------------------------------

-- ranges of other blocks, or that end where the other begins, share no byte
no_meeting : (q r : Range) → (q.block ≡ r.block → q.to ≤ r.from) → meets q r ≡ false
no_meeting q r h = by (q.block == r.block) refl
  where
    last_false : (a : Bool) (b : Bool) → ((a && false) && b) ≡ false
    last_false true b = refl
    last_false false b = refl

    by : (c : Bool) → (q.block == r.block) ≡ c
        → (c && ((nat_lt q.from r.to && nat_lt r.from q.to) && (nat_lt q.from q.to && nat_lt r.from r.to))) ≡ false
    by false e = refl
    by true e =
        let l : q.to ≤ r.from = h (eqb-true q.block r.block e) in
        let f : nat_lt r.from q.to ≡ false = elim (cases_Bool (nat_lt r.from q.to))
        [ inl t ↦ absurd (let z = ltb-true r.from q.to t in let w : ⊥ = omega (arith, z, l) in w) | inr f ↦ f ] in
        ap (λ c. (nat_lt q.from r.to && c) && (nat_lt q.from q.to && nat_lt r.from r.to)) f
        ∙ last_false (nat_lt q.from r.to) (nat_lt q.from q.to && nat_lt r.from r.to)

module _ (earlier : List (List Placed)) (pages : List Page) (here : List Placed) (p : Placed) (r : Range)
    (is : p.staged ≡ Some r) (untaken : p.block ≡ None) where
  more_ranges : staged_ranges (here ++ p ∷ []) ≡ staged_ranges here ++ r ∷ []
  more_ranges = staged_last here p ∙ ap (λ o. staged_ranges here ++ staged_range_of o) is

  more_blocks : map (λ r. r.block) (staged_ranges (here ++ p ∷ []))
      ≡ map (λ r. r.block) (staged_ranges here) ++ r.block ∷ []
  more_blocks = ap (map (λ r. r.block)) more_ranges ∙ map_append (λ r. r.block) (staged_ranges here) (r ∷ [])

  takes_still : TakesLawfully earlier here → TakesLawfully earlier (here ++ p ∷ [])
  takes_still h = takes_last earlier here p h (λ b e. absurd (let z : None ≡ Some b = sym untaken ∙ e in cc z))

  apart_more : AllByRecursion (λ q. q.block ≡ r.block → q.to ≤ r.from) (staged_ranges here)
      → Pairwise (λ r s. meets r s ≡ false) (staged_ranges here)
      → Pairwise (λ r s. meets r s ≡ false) (staged_ranges (here ++ p ∷ []))
  apart_more ends h =
      subst (Pairwise (λ r s. meets r s ≡ false)) (sym more_ranges)
      (pairs_append (λ r s. meets r s ≡ false) (staged_ranges here) (r ∷ []) h (tt, tt)
      (all_map (λ q. q.block ≡ r.block → q.to ≤ r.from) (λ q. AllByRecursion (λ s. meets q s ≡ false) (r ∷ []))
      (λ q l. (no_meeting q r l, tt)) (staged_ranges here) ends))

  -- behind what is used of the newest page
  pub on_newest_placed : (n : Newest) (len : ℕ) → r ≡ range n.page.block n.used (n.used + len)
      → n.used + len ≤ n.page.len → TopRight (Some n) pages here → PlacedRight earlier pages here
      → PlacedRight earlier pages (here ++ p ∷ []) × TopRight (Some (record n { used = n.used + len })) pages
      (here ++ p ∷ [])
  on_newest_placed n len at fits top h =
      let block : r.block ≡ n.page.block = ap (λ r. r.block) at in
      let from : r.from ≡ n.used = ap (λ r. r.from) at in
      let to : r.to ≡ n.used + len = ap (λ r. r.to) at in
      let blocks = map (λ r. r.block) (staged_ranges here) in
      let named : is_among r.block blocks ≡ true = ap (λ b. is_among b blocks) block ∙ top.0 in (
        record {
          takes = takes_still h.takes;
          apart = apart_more (all_map (λ q. q.block ≡ n.page.block → q.to ≤ n.used) (λ q. q.block ≡ r.block
              → q.to ≤ r.from) (λ q l e. let z = l (e ∙ block) in omega (arith, z, from)) (staged_ranges here)
              top.1) h.apart;
          numbers = h.numbers ∙ sym (ap (once []) more_blocks
              ∙ once_old [] blocks r.block (ap (λ c. c || false) named));
          long =
              subst (λ rs. AllByRecursion (λ p. AllByRecursion (λ r. p.block ≡ r.block → r.to ≤ p.len) rs) pages)
              (sym more_ranges)
              (all_map (λ p. (p.block ≡ n.page.block → n.page.len ≤ p.len)
              × AllByRecursion (λ r. p.block ≡ r.block → r.to ≤ p.len) (staged_ranges here))
              (λ p. AllByRecursion (λ r. p.block ≡ r.block → r.to ≤ p.len) (staged_ranges here ++ r ∷ []))
              (λ p x. all_append (λ r. p.block ≡ r.block → r.to ≤ p.len) (staged_ranges here) (r ∷ []) x.1
              ((λ e. let z = x.0 (e ∙ block) in omega (arith, z, to, fits)), tt)) pages
              (all_both (λ p. p.block ≡ n.page.block → n.page.len ≤ p.len)
              (λ p. AllByRecursion (λ r. p.block ≡ r.block → r.to ≤ p.len) (staged_ranges here)) pages top.2
              h.long));
        },
        (
          ap (is_among n.page.block) more_blocks ∙ among_append n.page.block blocks (r.block ∷ [])
              ∙ ap (λ c. c || is_among n.page.block (r.block ∷ [])) top.0,
          subst (AllByRecursion (λ r. r.block ≡ n.page.block → r.to ≤ n.used + len)) (sym more_ranges)
              (all_append (λ r. r.block ≡ n.page.block → r.to ≤ n.used + len) (staged_ranges here) (r ∷ [])
              (all_map (λ q. q.block ≡ n.page.block → q.to ≤ n.used) (λ q. q.block ≡ n.page.block
              → q.to ≤ n.used + len) (λ q l e. let z = l e in omega (arith, z)) (staged_ranges here) top.1)
              ((λ e. omega (arith, to)), tt)),
          top.2,
        ),
      )

  -- at the front of a page that is none of the chunk's yet
  pub on_other_placed : (q : Page) (len : ℕ) → r ≡ range q.block 0 len → len ≤ q.len
      → AllByRecursion (λ x. x.block ≡ q.block → ⊥) pages → PlacedRight earlier pages here
      → PlacedRight earlier (pages ++ q ∷ []) (here ++ p ∷ [])
      × TopRight (Some (record { page = q; used = len })) (pages ++ q ∷ []) (here ++ p ∷ [])
  on_other_placed q len at fits other h =
      let block : r.block ≡ q.block = ap (λ r. r.block) at in
      let to : r.to ≡ len = ap (λ r. r.to) at in
      let blocks = map (λ r. r.block) (staged_ranges here) in
      let others : AllByRecursion (λ x. x.block ≡ q.block → ⊥) (staged_ranges here) =
      all_of_map (λ r. r.block) (λ b. b ≡ q.block → ⊥) (staged_ranges here)
      (once_all (λ b. b ≡ q.block → ⊥) [] blocks tt (subst (AllByRecursion (λ b. b ≡ q.block → ⊥)) h.numbers
      (all_to_map (λ p. p.block) (λ b. b ≡ q.block → ⊥) pages other))) in
      let unnamed : is_among r.block blocks ≡ false =
      elim (cases_Bool (is_among r.block blocks)) [
        | inl t ↦ absurd (among_all (λ b. b ≡ q.block → ⊥) r.block blocks
            (all_to_map (λ r. r.block) (λ b. b ≡ q.block → ⊥) (staged_ranges here) others) t block)
        | inr f ↦ f
      ] in (
        record {
          takes = takes_still h.takes;
          apart = apart_more (all_map (λ x. x.block ≡ q.block → ⊥) (λ x. x.block ≡ r.block
              → x.to ≤ r.from) (λ x l e. absurd (l (e ∙ block))) (staged_ranges here) others) h.apart;
          numbers =
              map_append (λ p. p.block) pages (q ∷ []) ∙ ap (λ l. l ++ q.block ∷ []) h.numbers
              ∙ ap (λ b. once [] blocks ++ b ∷ []) (sym block)
              ∙ sym (ap (once []) more_blocks ∙ once_new [] blocks r.block unnamed refl);
          long =
              subst (λ rs. AllByRecursion (λ p. AllByRecursion (λ r. p.block ≡ r.block → r.to ≤ p.len) rs)
              (pages ++ q ∷ [])) (sym more_ranges)
              (all_append (λ p. AllByRecursion (λ r. p.block ≡ r.block
              → r.to ≤ p.len) (staged_ranges here ++ r ∷ [])) pages (q ∷ [])
              (all_map (λ p. (p.block ≡ q.block → ⊥) × AllByRecursion (λ r. p.block ≡ r.block
              → r.to ≤ p.len) (staged_ranges here))
              (λ p. AllByRecursion (λ r. p.block ≡ r.block → r.to ≤ p.len) (staged_ranges here ++ r ∷ []))
              (λ p x. all_append (λ r. p.block ≡ r.block → r.to ≤ p.len) (staged_ranges here) (r ∷ []) x.1
              ((λ e. absurd (x.0 (e ∙ block))), tt)) pages
              (all_both (λ p. p.block ≡ q.block → ⊥) (λ p. AllByRecursion (λ r. p.block ≡ r.block
              → r.to ≤ p.len) (staged_ranges here)) pages other h.long)) (
                all_append (λ r. q.block ≡ r.block → r.to ≤ q.len) (staged_ranges here) (r ∷ [])
                    (all_map (λ x. x.block ≡ q.block → ⊥) (λ x. q.block ≡ x.block
                    → x.to ≤ q.len) (λ x l e. absurd (l (sym e))) (staged_ranges here) others)
                    ((λ e. omega (arith, to, fits)), tt),
                tt,
              ));
        },
        (
          ap (is_among q.block) more_blocks ∙ among_append q.block blocks (r.block ∷ [])
              ∙ or_last (is_among q.block blocks) (r.block == q.block) (eq-eqb r.block q.block block),
          subst (AllByRecursion (λ r. r.block ≡ q.block → r.to ≤ len)) (sym more_ranges)
              (all_append (λ r. r.block ≡ q.block → r.to ≤ len) (staged_ranges here) (r ∷ [])
              (all_map (λ x. x.block ≡ q.block → ⊥) (λ x. x.block ≡ q.block
              → x.to ≤ len) (λ x l e. absurd (l e)) (staged_ranges here) others)
              ((λ e. omega (arith, to)), tt)),
          all_append (λ p. p.block ≡ q.block → q.len ≤ p.len) pages (q ∷ [])
              (all_map (λ x. x.block ≡ q.block → ⊥) (λ x. x.block ≡ q.block
              → q.len ≤ x.len) (λ x l e. absurd (l e)) pages other)
              ((λ e. omega arith), tt),
        ),
      )
    where
      or_last : (a b : Bool) → b ≡ true → (a || (b || false)) ≡ true
      or_last true b e = refl
      or_last false b e = ap (λ c. c || false) e
