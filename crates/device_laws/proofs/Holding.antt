-- A device holds what its batches brought and did not give up.
use Rattle.std.proofs.Common.{◌≡◌, ℕ, zero, suc, ◌<◌, ◌≤◌, Bool, true, false, cond, not, ◌&&◌, ◌||◌, nat_le, List, [], ◌∷◌, ◌++◌, length, map, take, drop, Option, Some, None, inl, inr, refl, sym, ap, subst, ◌∙◌, append-nil, arith}
use Rattle.std.specs.Prelude.{◌==◌, is_some, nat_lt}
use Rattle.std.specs.List.{AllByRecursion, list_any}
use Rattle.std.specs.BTreeMap.{is_at}
use Rattle.std.specs.Ordering.{nat_cmp}
use Rattle.std.proofs.lemmas.Bool.{and_parts, cases_Bool, cond-true, cond-false, or_parts}
use Rattle.std.proofs.lemmas.Bool.Decides.{nat_tests}
use Rattle.std.proofs.lemmas.List.{drop-append-le, take-append-le}
use Rattle.buffer_blocks.specs.declared.block.Block.{Block}
use Rattle.lifetime.specs.declared.holds.Mark.{Mark}
use Rattle.vk_types.specs.declared.message.Batch.{Batch}
use Rattle.vk_types.specs.declared.message.Completion.{Completion}
use Rattle.device_memory.specs.Held.{AreAlike, Held, Outline, block_of, outline}
use Rattle.vk_device.specs.Accepting.{Accepts, AreApart, Blocks, IsKept, IsNext, brought, can_accept, holds_any, marks_by, with_block, with_blocks, zeroed}
use Rattle.vk_device.specs.Completing.{Completes, released, without, without_all}
use Rattle.vk_device.specs.Running.{Runs}
use Rattle.vk_device.specs.State.{State, no_state}
use Rattle.device_laws.specs.Holding.{BringNew, GiveUpTaken, Holds, MayGiveUp, brings, gives_up, held_by, is_among, left_by, names, none_held, taken_by}
use Rattle.device_laws.specs.Standing.{AreKept, AreNumbered, Stands, marks_in}
use Rattle.device_laws.proofs.Lists.{drop_next, head_same, not_empty, numbered_dropped, tail_same}

-- Blocks with others, and without --------------------------------------------------------------------------------------------

some_cond : (t : Bool) (b : Block) (o : Option Block) → is_some (cond t (Some b) o) ≡ (is_some o || t)
some_cond true b None = refl
some_cond true b (Some x) = refl
some_cond false b None = refl
some_cond false b (Some x) = refl

none_cond : (t : Bool) (o : Option Block) → is_some (cond t None o) ≡ (is_some o && not t)
none_cond true None = refl
none_cond true (Some x) = refl
none_cond false None = refl
none_cond false (Some x) = refl

or_assoc : (a b c : Bool) → ((a || b) || c) ≡ (a || (b || c))
or_assoc true b c = refl
or_assoc false b c = refl

and_assoc : (a b c : Bool) → ((a && not b) && not c) ≡ (a && not (b || c))
and_assoc true true c = refl
and_assoc true false c = refl
and_assoc false true c = refl
and_assoc false false c = refl

with_some : (bs : List Block) (f : Blocks) (n : ℕ) → is_some (with_blocks bs f n) ≡ (is_some (f n) || names n bs)
with_some [] f n = by (is_some (f n))
  where
    by : (t : Bool) → t ≡ (t || false)
    by true = refl
    by false = refl
with_some (b ∷ bs) f n =
    with_some bs (with_block b f) n ∙ ap (λ t. t || names n bs) (some_cond (n == b.number) b (f n)) ∙ or_assoc (is_some (f n)) (n == b.number) (names n bs)

zeroed_names : (bs : List Block) (n : ℕ) → names n (map zeroed bs) ≡ names n bs
zeroed_names [] n = refl
zeroed_names (b ∷ bs) n = ap (λ t. (n == b.number) || t) (zeroed_names bs n)

brought_some : (blocks pages : List Block) (f : Blocks) (n : ℕ) → is_some (brought blocks pages f n) ≡ (is_some (f n) || (names n blocks || names n pages))
brought_some blocks pages f n =
    with_some pages (with_blocks (map zeroed blocks) f) n ∙ ap (λ t. t || names n pages) (with_some (map zeroed blocks) f n)
    ∙ ap (λ t. (is_some (f n) || t) || names n pages) (zeroed_names blocks n) ∙ or_assoc (is_some (f n)) (names n blocks) (names n pages)

without_some : (ns : List ℕ) (f : Blocks) (n : ℕ) → is_some (without_all ns f n) ≡ (is_some (f n) && not (is_among n ns))
without_some [] f n = by (is_some (f n))
  where
    by : (t : Bool) → t ≡ (t && true)
    by true = refl
    by false = refl
without_some (m ∷ ms) f n =
    without_some ms (without m f) n ∙ ap (λ t. t && not (is_among n ms)) (none_cond (n == m) (f n)) ∙ and_assoc (is_some (f n)) (n == m) (is_among n ms)

among_names : (bs : List Block) (n : ℕ) → is_among n (map (λ (b : Block). b.number) bs) ≡ names n bs
among_names [] n = refl
among_names (b ∷ bs) n = ap (λ t. (n == b.number) || t) (among_names bs n)

-- blocks that are alike are held under the same numbers
alike_some : (xs ys : Held) (n : ℕ) → AreAlike xs ys → is_some (block_of xs n) ≡ is_some (block_of ys n)
alike_some [] [] n e = refl
alike_some [] (y ∷ ys) n e = absurd (not_empty (outline y) (map outline ys) e)
alike_some (x ∷ xs) [] n e = absurd (not_empty (outline x) (map outline xs) (sym e))
alike_some (x ∷ xs) (y ∷ ys) n e =
    let key : x.0 ≡ y.0 = ap (λ (o : Outline). o.key) (head_same (outline x) (outline y) (map outline xs) (map outline ys) e) in
    let rest = alike_some xs ys n (tail_same (outline x) (outline y) (map outline xs) (map outline ys) e) in
    by (is_at (nat_cmp n) x.0) (is_at (nat_cmp n) y.0) (ap (λ (k : ℕ). is_at (nat_cmp n) k) key) rest
  where
    by : (t u : Bool) → t ≡ u → is_some (block_of xs n) ≡ is_some (block_of ys n) → is_some (cond t (Some x.1) (block_of xs n)) ≡ is_some (cond u (Some y.1) (block_of ys n))
    by true true same rest = refl
    by true false same rest = absurd (cc same)
    by false true same rest = absurd (cc same)
    by false false same rest = rest

-- What batches hold ----------------------------------------------------------------------------------------------------------

held_push : (completed : ℕ) (bs : List Batch) (b : Batch) (held : ℕ → Bool) → completed ≤ length bs
    → held_by completed (bs ++ b ∷ []) held ≡ (λ n. held_by completed bs held n || brings n b)
held_push zero [] b held le = refl
held_push (suc completed) [] b held le = absurd (omega arith)
held_push zero (x ∷ xs) b held le = held_push zero xs b (λ n. held n || brings n x) (omega arith)
held_push (suc completed) (x ∷ xs) b held le = held_push completed xs b (λ n. (held n || names n x.blocks.items) && not (gives_up n x)) (omega (arith, le))

held_split : (completed : ℕ) (bs : List Batch) (held : ℕ → Bool) → held_by completed bs held ≡ held_by zero (drop completed bs) (held_by completed (take completed bs) held)
held_split zero bs held = refl
held_split (suc completed) [] held = refl
held_split (suc completed) (b ∷ bs) held = held_split completed bs (λ n. (held n || names n b.blocks.items) && not (gives_up n b))

-- one more is completed
left_more : (completed : ℕ) (bs : List Batch) (b : Batch) (rest : List Batch) (held : ℕ → Bool) → drop completed bs ≡ b ∷ rest
    → held_by (suc completed) (take (suc completed) bs) held ≡ (λ n. (held_by completed (take completed bs) held n || names n b.blocks.items) && not (gives_up n b))
left_more zero [] b rest held e = absurd (not_empty b rest e)
left_more zero (x ∷ xs) b rest held e = (let same = head_same x b xs rest e in ap (λ (y : Batch). λ (n : ℕ). (held n || names n y.blocks.items) && not (gives_up n y)) same)
left_more (suc completed) [] b rest held e = absurd (not_empty b rest e)
left_more (suc completed) (x ∷ xs) b rest held e = left_more completed xs b rest (λ n. (held n || names n x.blocks.items) && not (gives_up n x)) e

abbrev later : ℕ → List Batch → Bool
later n bs = list_any (brings n) bs

held_later : (bs : List Batch) (held : ℕ → Bool) (n : ℕ) → held_by zero bs held n ≡ (held n || later n bs)
held_later [] held n = by (held n)
  where
    by : (t : Bool) → t ≡ (t || false)
    by true = refl
    by false = refl
held_later (b ∷ bs) held n = held_later bs (λ n. held n || brings n b) n ∙ or_assoc (held n) (brings n b) (later n bs)

-- Batches that bring what is new ---------------------------------------------------------------------------------------------

false_if : (t : Bool) → (t ≡ true → ⊥) → t ≡ false
false_if true no_way = absurd (no_way refl)
false_if false no_way = refl

or_false : (a b : Bool) → a ≡ false → b ≡ false → (a || b) ≡ false
or_false true b e f = absurd (cc e)
or_false false true e f = absurd (cc f)
or_false false false e f = refl

or_left : (a b : Bool) → a ≡ true → (a || b) ≡ true
or_left true b e = refl
or_left false b e = absurd (cc e)

or_right : (a b : Bool) → b ≡ true → (a || b) ≡ true
or_right true b e = refl
or_right false true e = refl
or_right false false e = absurd (cc e)

or_more : (a b c : Bool) → (a ≡ true → b ≡ true) → (a || c) ≡ true → (b || c) ≡ true
or_more true b c f e = or_left b c (f refl)
or_more false true c f e = refl
or_more false false c f e = e

new_less : (held fewer : ℕ → Bool) (bs : List Batch) → ((n : ℕ) → fewer n ≡ true → held n ≡ true) → BringNew held bs → BringNew fewer bs
new_less held fewer [] less new = tt
new_less held fewer (b ∷ bs) less new = (
  (λ n t. false_if (fewer n) (λ f. (let h = less n f in let e = new.0 n t in absurd (cc (h, e))))),
  new.1,
  new_less (λ n. held n || brings n b) (λ n. fewer n || brings n b) bs (λ n f. or_more (fewer n) (held n) (brings n b) (less n) f) new.2,
)

new_push : (held : ℕ → Bool) (bs : List Batch) (b : Batch) → BringNew held bs → ((n : ℕ) → brings n b ≡ true → held_by zero bs held n ≡ false)
    → ((n : ℕ) → names n b.pages.items ≡ true → names n b.blocks.items ≡ false) → BringNew held (bs ++ b ∷ [])
new_push held [] b new free apart = (free, apart, tt)
new_push held (x ∷ xs) b new free apart = (new.0, new.1, new_push (λ n. held n || brings n x) xs b new.2 free apart)

-- none of the later ones brings a number that is held
not_later : (held : ℕ → Bool) (bs : List Batch) (n : ℕ) → BringNew held bs → held n ≡ true → later n bs ≡ false
not_later held [] n new h = refl
not_later held (b ∷ bs) n new h =
    or_false (brings n b) (later n bs) (false_if (brings n b) (λ t. (let e = new.0 n t in absurd (cc (h, e)))))
    (not_later (λ n. held n || brings n b) bs n new.2 (or_left (held n) (brings n b) h))

-- Batches that give up what was taken ----------------------------------------------------------------------------------------

taken_as : (taken others : ℕ → Bool) (bs : List Batch) → ((n : ℕ) → list_any (gives_up n) bs ≡ true → taken n ≡ true → others n ≡ true) → GiveUpTaken taken bs → GiveUpTaken others bs
taken_as taken others [] same g = tt
taken_as taken others (b ∷ bs) same g = (
  (λ n t. (or_more (taken n) (others n) (names n b.blocks.items) (same n (or_left (gives_up n b) (list_any (gives_up n) bs) t)) (g.0 n t).0, (g.0 n t).1)),
  taken_as (λ n. taken n || names n b.blocks.items) (λ n. others n || names n b.blocks.items) bs
      (λ n t h. or_more (taken n) (others n) (names n b.blocks.items) (same n (or_right (gives_up n b) (list_any (gives_up n) bs) t)) h) g.1,
)

any_push : (p : Batch → Bool) (bs : List Batch) (b : Batch) → list_any p bs ≡ false → p b ≡ false → list_any p (bs ++ b ∷ []) ≡ false
any_push p [] b e f = or_false (p b) false f refl
any_push p (x ∷ xs) b e f = (let two = or_parts (p x) (list_any p xs) e in or_false (p x) (list_any p (xs ++ b ∷ [])) two.0 (any_push p xs b two.1 f))

taken_push : (taken : ℕ → Bool) (bs : List Batch) (b : Batch) → GiveUpTaken taken bs
    → ((n : ℕ) → gives_up n b ≡ true → ((taken_by bs taken n || names n b.blocks.items) ≡ true) × (list_any (gives_up n) bs ≡ false)) → GiveUpTaken taken (bs ++ b ∷ [])
taken_push taken [] b g may = ((λ n t. ((may n t).0, refl)), tt)
taken_push taken (x ∷ xs) b g may = (
  (λ n t. (
    (g.0 n t).0,
    any_push (gives_up n) xs b (g.0 n t).1
        (false_if (gives_up n b) (λ u. (let two = or_parts (gives_up n x) (list_any (gives_up n) xs) (may n u).1 in let e = two.0 in absurd (cc (t, e))))),
  )),
  taken_push (λ n. taken n || names n x.blocks.items) xs b g.1
      (λ n u. ((may n u).0, (or_parts (gives_up n x) (list_any (gives_up n) xs) (may n u).1).1)),
)

-- What the device tests ------------------------------------------------------------------------------------------------------

no_truth : false ≡ true → ⊥
no_truth e = cc e

same_number : (n m : ℕ) → (n == m) ≡ true → n ≡ m
same_number n m t = grind (arith, nat_tests)

free_named : (held : Held) (bs : List Block) (n : ℕ) → holds_any held bs ≡ false → names n bs ≡ true → is_some (block_of held n) ≡ false
free_named held [] n e t = absurd (no_truth t)
free_named held (b ∷ bs) n e t =
    let two = or_parts (is_some (block_of held b.number)) (holds_any held bs) e in
    elim (cases_Bool (n == b.number)) [
      | inl here ↦ ap (λ (m : ℕ). is_some (block_of held m)) (same_number n b.number here) ∙ two.0
      | inr other ↦ free_named held bs n two.1 (sym (ap (λ u. u || names n bs) other) ∙ t)
    ]

apart_named : (b : Block) (bs : List Block) → AllByRecursion (λ (x : Block). b.number ≡ x.number → ⊥) bs → names b.number bs ≡ false
apart_named b [] all = refl
apart_named b (x ∷ xs) all =
    or_false (b.number == x.number) (names b.number xs) (false_if (b.number == x.number) (λ t. all.0 (same_number b.number x.number t))) (apart_named b xs all.1)

back_all : (P : Block → Type 0) (xs ys : List Block) → AllByRecursion P (xs ++ ys) → AllByRecursion P ys
back_all P [] ys all = all
back_all P (x ∷ xs) ys all = back_all P xs ys all.1

apart_pages : (blocks pages : List Block) (n : ℕ) → AreApart (blocks ++ pages) → names n pages ≡ true → names n blocks ≡ false
apart_pages [] pages n apart t = refl
apart_pages (b ∷ bs) pages n apart t =
    or_false (n == b.number) (names n bs)
    (false_if (n == b.number) (λ u. (let e = same_number n b.number u in
    let out = apart_named b pages (back_all (λ (x : Block). b.number ≡ x.number → ⊥) bs pages apart.0) in
    absurd (cc (ap (λ (m : ℕ). names m pages) e, t, out)))))
    (apart_pages bs pages n apart.1 t)

not_or : (a b : Bool) → (not a && not b) ≡ true → (a ≡ false) × (b ≡ false)
not_or true b e = absurd (cc e)
not_or false true e = absurd (cc e)
not_or false false e = (refl, refl)

-- The calls ------------------------------------------------------------------------------------------------------------------

pub holds_first : Holds [] 0 no_state
holds_first = record { held = λ n. refl; new = tt; taken = tt }

module _ (log : List ℕ) (batches : List Batch) (completed : ℕ) (b : Batch) (old new : State) (s : Stands batches completed old) (h : Holds batches completed old)
    (can : can_accept old b.blocks.items b.pages.items ≡ true) (is : IsNext log b old) (a : Accepts log b old new) (may : MayGiveUp batches completed b) where
  free : (holds_any old.held b.blocks.items ≡ false) × (holds_any old.held b.pages.items ≡ false)
  free = not_or (holds_any old.held b.blocks.items) (holds_any old.held b.pages.items)
      (and_parts (nat_lt (length old.batches) 4) (not (holds_any old.held b.blocks.items) && not (holds_any old.held b.pages.items)) can).1

  not_held : (n : ℕ) → brings n b ≡ true → is_some (block_of old.held n) ≡ false
  not_held n t = elim (cases_Bool (names n b.blocks.items)) [
    | inl here ↦ free_named old.held b.blocks.items n free.0 here
    | inr other ↦ free_named old.held b.pages.items n free.1 (sym (ap (λ u. u || names n b.pages.items) other) ∙ t)
  ]

  dropped : drop completed (batches ++ b ∷ []) ≡ drop completed batches ++ b ∷ []
  dropped = drop-append-le completed batches (b ∷ []) s.within

  left : left_by completed (batches ++ b ∷ []) ≡ left_by completed batches
  left = ap (λ l. held_by completed l none_held) (take-append-le completed batches (b ∷ []) s.within)

  pub holds_accepted : Holds (batches ++ b ∷ []) completed new
  holds_accepted = record {
    held = λ n.
        sym (alike_some a.before new.held n a.alike) ∙ ap (λ (f : Blocks). is_some (f n)) a.blocks ∙ brought_some b.blocks.items b.pages.items (block_of old.held) n
        ∙ ap (λ t. t || brings n b) (h.held n) ∙ sym (ap (λ (f : ℕ → Bool). f n) (held_push completed batches b none_held s.within));
    new = subst (λ l. BringNew (left_by completed (batches ++ b ∷ [])) l) (sym dropped) (subst (λ (f : ℕ → Bool). BringNew f (drop completed batches ++ b ∷ [])) (sym left)
        (new_push (left_by completed batches) (drop completed batches) b h.new
        (λ n t. sym (ap (λ (f : ℕ → Bool). f n) (held_split completed batches none_held)) ∙ sym (h.held n) ∙ not_held n t)
        (λ n t. apart_pages b.blocks.items b.pages.items n is.apart t)));
    taken = subst (λ l. GiveUpTaken (left_by completed (batches ++ b ∷ [])) l) (sym dropped) (subst (λ (f : ℕ → Bool). GiveUpTaken f (drop completed batches ++ b ∷ [])) (sym left)
        (taken_push (left_by completed batches) (drop completed batches) b h.taken may));
  }

pub holds_run : (batches : List Batch) (completed j : ℕ) (words : Option (List ℕ)) (old new : State) → Holds batches completed old → Runs j words old new → Holds batches completed new
holds_run batches completed j words old new h r =
    record { held = λ n. sym (alike_some old.held new.held n r.alike) ∙ h.held n; new = h.new; taken = h.taken }

-- what a batch gives up is released
own_released : (k : ℕ) (blocks : List ℕ) (more : List Mark) → released k (marks_by k blocks ++ more) ≡ blocks ++ released k more
own_released k [] more = refl
own_released k (b ∷ bs) more =
    let t : nat_le k k ≡ true = grind (arith, nat_tests) in
    cond-true (nat_le k k) (b ∷ released k (marks_by k bs ++ more)) [] t ∙ ap (λ l. b ∷ l) (own_released k bs more)

later_unreleased : (k n : ℕ) (bs : List Batch) → AreNumbered n bs → k < n → released k (marks_in bs) ≡ []
later_unreleased k n [] all lt = refl
later_unreleased k n (x ∷ xs) all lt = by x.marks.items (later_unreleased k (suc n) xs all.1 (omega (arith, lt)))
  where
    by : (blocks : List ℕ) → released k (marks_in xs) ≡ [] → released k (marks_by x.number blocks ++ marks_in xs) ≡ []
    by [] rest = rest
    by (b ∷ bs) rest =
        let same = all.0 in
        let past : n ≡ x.number = sym same in
        let t : nat_le x.number k ≡ false = grind (arith, nat_tests) in
        cond-false (nat_le x.number k) (b ∷ released k (marks_by x.number bs ++ marks_in xs)) [] t

released_own : (b : Batch) (bs : List Batch) (n : ℕ) → AreNumbered n (b ∷ bs) → released b.number (marks_in (b ∷ bs)) ≡ b.marks.items
released_own b bs n all =
    let same = all.0 in
    own_released b.number b.marks.items (marks_in bs) ∙ ap (λ l. b.marks.items ++ l) (later_unreleased b.number (suc n) bs all.1 (omega (arith, same))) ∙ append-nil b.marks.items

-- what stays, of those held before, the batch's own blocks, its pages and later ones
stays : (h b p l m : Bool) → (p ≡ true → (h || b) ≡ false) → (p ≡ true → l ≡ false) → (m ≡ true → l ≡ false)
    → ((((h || (b || p)) || l) && not p) && not m) ≡ (((h || b) && not m) || l)
stays true b true l m f g k = (let e = f refl in absurd (cc e))
stays false true true l m f g k = (let e = f refl in absurd (cc e))
stays false false true true m f g k = (let e = g refl in absurd (cc e))
stays false false true false true f g k = refl
stays false false true false false f g k = refl
stays true b false true true f g k = (let e = k refl in absurd (cc e))
stays true b false true false f g k = refl
stays true b false false true f g k = refl
stays true b false false false f g k = refl
stays false true false true true f g k = (let e = k refl in absurd (cc e))
stays false true false true false f g k = refl
stays false true false false true f g k = refl
stays false true false false false f g k = refl
stays false false false true true f g k = (let e = k refl in absurd (cc e))
stays false false false true false f g k = refl
stays false false false false true f g k = refl
stays false false false false false f g k = refl

and_true : (a b : Bool) → (a && not b) ≡ true → (a ≡ true) × (b ≡ false)
and_true true true e = absurd (cc e)
and_true true false e = (refl, refl)
and_true false b e = absurd (cc e)

and_not : (a b : Bool) → a ≡ true → b ≡ false → (a && not b) ≡ true
and_not true true e f = absurd (cc f)
and_not true false e f = refl
and_not false b e f = absurd (cc e)

module _ (batches : List Batch) (completed : ℕ) (done : Completion) (old new : State) (s : Stands batches completed old) (h : Holds batches completed old) (c : Completes old done new) where
  abbrev base : ℕ → Bool
  base = left_by completed batches

  oldest : (b : Batch) (rest : List Batch) → drop completed batches ≡ b ∷ rest → IsKept b c.batch → BringNew base (b ∷ rest) → GiveUpTaken base (b ∷ rest) → Holds batches (suc completed) new
  oldest b rest here kept fresh given =
      let next = drop_next completed batches b rest here in
      let numbered : AreNumbered (suc completed) (b ∷ rest) = subst (λ l. AreNumbered (suc completed) l) here (numbered_dropped completed 1 (suc completed) batches (omega arith) s.numbered) in
      let gone : released c.batch.number old.marks ≡ b.marks.items =
      ap (λ k. released k old.marks) kept.number ∙ ap (λ l. released b.number l) (s.marks ∙ ap marks_in here) ∙ released_own b rest (suc completed) numbered in
      let left : left_by (suc completed) batches ≡ (λ n. (base n || names n b.blocks.items) && not (gives_up n b)) = left_more completed batches b rest none_held here in
      record {
        held = λ n.
            ap (λ (f : Blocks). is_some (f n)) c.held
            ∙ ap (λ ms. is_some (without_all ms (without_all c.batch.pages.items (block_of old.held)) n)) gone
            ∙ without_some b.marks.items (without_all c.batch.pages.items (block_of old.held)) n
            ∙ ap (λ t. t && not (gives_up n b)) (without_some c.batch.pages.items (block_of old.held) n)
            ∙ ap (λ ps. (is_some (block_of old.held n) && not (is_among n ps)) && not (gives_up n b)) kept.pages
            ∙ ap (λ t. (is_some (block_of old.held n) && not t) && not (gives_up n b)) (among_names b.pages.items n)
            ∙ ap (λ t. (t && not (names n b.pages.items)) && not (gives_up n b))
            (h.held n ∙ ap (λ (f : ℕ → Bool). f n) (held_split completed batches none_held) ∙ ap (λ l. held_by zero l base n) here
            ∙ held_later rest (λ n. base n || brings n b) n)
            ∙ stays (base n) (names n b.blocks.items) (names n b.pages.items) (later n rest) (gives_up n b)
            (λ p. or_false (base n) (names n b.blocks.items) (fresh.0 n (or_right (names n b.blocks.items) (names n b.pages.items) p)) (fresh.1 n p))
            (λ p. not_later (λ n. base n || brings n b) rest n fresh.2 (or_right (base n) (brings n b) (or_right (names n b.blocks.items) (names n b.pages.items) p)))
            (λ m. not_later (λ n. base n || brings n b) rest n fresh.2
            (widen (base n) (names n b.blocks.items) (names n b.pages.items) (given.0 n m).0))
            ∙ sym (held_later rest (λ n. (base n || names n b.blocks.items) && not (gives_up n b)) n)
            ∙ sym (ap (λ (f : ℕ → Bool). f n) (held_split (suc completed) batches none_held ∙ ap (λ l. held_by zero l (left_by (suc completed) batches)) next
            ∙ ap (λ (f : ℕ → Bool). held_by zero rest f) left));
        new = subst (λ l. BringNew (left_by (suc completed) batches) l) (sym next) (subst (λ (f : ℕ → Bool). BringNew f rest) (sym left)
            (new_less (λ n. base n || brings n b) (λ n. (base n || names n b.blocks.items) && not (gives_up n b)) rest
            (λ n t. widen (base n) (names n b.blocks.items) (names n b.pages.items) (and_true (base n || names n b.blocks.items) (gives_up n b) t).0) fresh.2));
        taken = subst (λ l. GiveUpTaken (left_by (suc completed) batches) l) (sym next) (subst (λ (f : ℕ → Bool). GiveUpTaken f rest) (sym left)
            (taken_as (λ n. base n || names n b.blocks.items) (λ n. (base n || names n b.blocks.items) && not (gives_up n b)) rest
            (λ n t k. and_not (base n || names n b.blocks.items) (gives_up n b) k (false_if (gives_up n b) (λ u. (let e = (given.0 n u).1 in absurd (cc (e, t)))))) given.1));
      }
    where
      widen : (h b p : Bool) → (h || b) ≡ true → (h || (b || p)) ≡ true
      widen true b p e = refl
      widen false true p e = refl
      widen false false p e = absurd (cc e)

  pub holds_completed : Holds batches (suc completed) new
  holds_completed = by (drop completed batches) refl s.batches h.new h.taken
    where
      by : (held : List Batch) → drop completed batches ≡ held → AreKept held old.batches → BringNew base held → GiveUpTaken base held → Holds batches (suc completed) new
      by [] here kept fresh given = absurd (not_empty c.batch new.batches (sym kept ∙ c.batches))
      by (b ∷ rest) here kept fresh given =
          let same = sym kept.2 ∙ c.batches in
          let first = head_same kept.0 c.batch kept.1 new.batches same in
          oldest b rest here (subst (λ a. IsKept b a) first kept.3) fresh given
