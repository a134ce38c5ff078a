-- The listing of a run covers its hazards, where the counts order each conflicting pair.
use Rattle.std.proofs.Common.{◌≡◌, ℕ, zero, suc, ◌+◌, ◌-◌, ◌<◌, Bool, true, false, not, ◌&&◌, ◌||◌, nat_lt, ◌==◌}
use Rattle.std.proofs.Common.{List, [], ◌∷◌, ◌++◌, map, take, drop, slice_get, Option, Some, None, refl, sym, ap, ◌∙◌}
use Rattle.std.proofs.Common.{subst, inl, inr, arith}
use Rattle.std.specs.List.{list_any, AllByRecursion}
use Rattle.std.proofs.lemmas.Bool.{and_parts, and_from, both_ways, cases_Bool, eqb-true, ltb-true}
use Rattle.vk_types.specs.declared.access.Stage.{Stage}
use Rattle.vk_types.specs.declared.touch.Touch.{Touch}
use Rattle.vk_types.specs.declared.command.Command.{Command}
use Rattle.vk_types.specs.declared.op.VkOp.{VkOp}
use Rattle.dx_types.specs.declared.range.Range.{Range}
use Rattle.base_lemmas.specs.Lists.{Pairwise, all_pass}
use Rattle.vk_types.specs.Memory.{meets}
use Rattle.vk_types.specs.Hazards.{touches, same_stage, has_write, is_dispatch, touches_conflict, lists_conflict}
use Rattle.vk_types.specs.Hazards.{host_read_touch, write_access}
use Rattle.vk_types.specs.Effects.{act_touches}
use Rattle.vk_types.specs.Listing.{is_act, op_touches, touches_if, touches_at, between}
use Rattle.vk_types.specs.Before.{access_at, before}
use Rattle.vk_types.specs.Covered.{writes_named, makes_host_visible, op_barrier, host_visible, visible, visible_if}
use Rattle.vk_types.specs.Covered.{visible_at, is_hazard, Covered}
use Rattle.vk_types.specs.BarrierCauses.{all_device, host_reads}
use Rattle.vk_types.specs.Entries.{Placed, entry_before, entries_conflict, EntriesCovered, start_counts, placed_entries}
use Rattle.vk_types.specs.RunListing.{IsWhole, IsRunListing}
use Rattle.base_lemmas.proofs.Lists.{all_map, all_both}
use Rattle.vk_types.proofs.Order.{no_host_stage}
use Rattle.barrier_track.proofs.Covers.{commands_covered}
use Rattle.core_model.specs.RunReads.{ReadsStaging, listed_entries}
use Rattle.core_model.proofs.Listing.RunOrder.{Alike, same_order}
use Rattle.core_model.proofs.Listing.ActsAt.{from_zero, pair_at}
use Rattle.core_model.proofs.Listing.HostBarriers.{behind}
use Rattle.vk_types.specs.declared.access.Stage.TheVariants as stage
use Rattle.vk_types.specs.declared.op.VkOp.TheVariants as op

-- What a host read sees ---------------------------------------------------------------------------------------------

-- each element passes a test only where the list has one that does
all_within : {A : Type 0} (test : A → Bool) (xs : List A) → AllByRecursion (λ x. test x ≡ true
    → list_any test xs ≡ true) xs
all_within test [] = tt
all_within test (x ∷ xs) = (
  (λ h. ap (λ b. b || list_any test xs) h),
  all_map (λ y. test y ≡ true → list_any test xs ≡ true) (λ y. test y ≡ true
      → list_any test (x ∷ xs) ≡ true) (λ y k h. right (test x) (list_any test xs) (k h)) xs (all_within test xs),
)
  where
    right : (a b : Bool) → b ≡ true → (a || b) ≡ true
    right true b e = refl
    right false b e = e

all_none : {A : Type 0} (test : A → Bool) (xs : List A) → list_any test xs ≡ false
    → AllByRecursion (λ x. test x ≡ false) xs
all_none test [] h = tt
all_none test (x ∷ xs) h = (
  first (test x) (list_any test xs) h,
  all_none test xs (second (test x) (list_any test xs) h),
)
  where
    first : (a b : Bool) → (a || b) ≡ false → a ≡ false
    first true b e = absurd (cc e)
    first false b e = refl

    second : (a b : Bool) → (a || b) ≡ false → b ≡ false
    second true b e = absurd (cc e)
    second false b e = e

-- no touch of a command is at the host's stage
device_touches : (c : Command) → AllByRecursion (λ t. same_stage t.stage stage.Host ≡ false) (touches c)
device_touches c =
    all_none (λ t. same_stage t.stage stage.Host) (touches c)
    (first (list_any (λ t. same_stage t.stage stage.Host) (touches c))
    (is_dispatch c.work && same_stage stage.Compute stage.Host) (no_host_stage c))
  where
    first : (a b : Bool) → (a || b) ≡ false → a ≡ false
    first true b e = absurd (cc e)
    first false b e = refl

-- a barrier to the host makes visible what a touch of the device writes
shows_host : (t : Touch) → same_stage t.stage stage.Host ≡ false → (first : ℕ)
    → makes_host_visible t (record {
      source = all_device write_access;
      dest = host_reads;
      first = first;
      second =
          None;
    }) ≡ true
shows_host t h first = ap (λ b. b && true) (by_stage t.stage h)
  where
    by_stage : (s : Stage) → same_stage s stage.Host ≡ false
        → writes_named (access_at (all_device write_access) s) ≡ true
    by_stage stage.Indirect h = refl
    by_stage stage.Compute h = refl
    by_stage stage.Transfer h = refl
    by_stage stage.Host h = absurd (cc h)

-- a touch that conflicts with a read of a range writes its block
writes_it : (staging : ℕ → Bool) (t : Touch) (r : Range) → touches_conflict t (host_read_touch r) ≡ true
    → staging r.block ≡ true → (has_write t.access && staging t.range.block) ≡ true
writes_it staging t r h st =
    let parts = and_parts (has_write t.access || has_write (host_read_touch r).access) (meets t.range r) h in
    let same : t.range.block ≡ r.block = eqb-true t.range.block r.block
    (and_parts (t.range.block == r.block) _ parts.1).0 in
    and_from (has_write t.access) (staging t.range.block) (or_false (has_write t.access) parts.0) (ap staging same ∙ st)
  where
    or_false : (b : Bool) → (b || false) ≡ true → b ≡ true
    or_false true e = refl
    or_false false e = absurd (cc e)

pass_each : {A : Type 0} (test : A → Bool) (xs : List A) → AllByRecursion (λ x. test x ≡ true) xs
    → all_pass test xs ≡ true
pass_each test [] h = refl
pass_each test (x ∷ xs) h = ap (λ b. b && all_pass test xs) h.0 ∙ pass_each test xs h.1

-- the touch writes a staging block
abbrev writes_staging : (ℕ → Bool) → Touch → Bool
writes_staging staging t = has_write t.access && staging t.range.block

-- the touch is the device's, and where it writes a staging block its command does
abbrev DeviceTouch : (ℕ → Bool) → Command → Touch → Type 0
DeviceTouch staging c t = (same_stage t.stage stage.Host ≡ false)
    × (writes_staging staging t ≡ true → list_any (writes_staging staging) (touches c) ≡ true)

-- a host read of a staging block sees what each command before it wrote
read_sees : (staging : ℕ → Bool) (ops : List VkOp) → IsRunListing staging ops
    → (front : List VkOp) (c : Command) (mid : List VkOp) (r : Range) (call : ℕ) (rest : List VkOp)
    → ops ≡ front ++ op.Command c ∷ (mid ++ op.HostRead r call ∷ rest) → staging r.block ≡ true
    → visible mid (op.Command c) (op.HostRead r call) ≡ true
read_sees staging ops run front c mid r call rest e st =
    pass_each (λ t. all_pass (host_visible mid t) (host_read_touch r ∷ [])) (touches c)
    (all_map (DeviceTouch staging c) (λ t. all_pass (host_visible mid t) (host_read_touch r ∷ []) ≡ true)
    (λ t h. ap (λ b. b && true) (each t h)) (touches c)
    (all_both (λ t. same_stage t.stage stage.Host ≡ false) (λ t. writes_staging staging t ≡ true
    → list_any (writes_staging staging) (touches c) ≡ true) (touches c)
    (device_touches c) (all_within (writes_staging staging) (touches c))))
  where
    each : (t : Touch) → DeviceTouch staging c t → host_visible mid t (host_read_touch r) ≡ true
    each t h =
        elim (cases_Bool (touches_conflict t (host_read_touch r))) [
          | inl k ↦ or_right (not (touches_conflict t (host_read_touch r)))
              (list_any (op_barrier (makes_host_visible t)) mid)
              (behind staging (makes_host_visible t) (shows_host t h.0) ops false [] []
              (subst (IsWhole false) run.barriers run.whole)
              front c mid r call rest (sym run.barriers ∙ e) (h.1 (writes_it staging t r k st)))
          | inr k ↦ ap (λ b. not b || list_any (op_barrier (makes_host_visible t)) mid) k
        ]
      where
        or_right : (a b : Bool) → b ≡ true → (a || b) ≡ true
        or_right true b e = refl
        or_right false b e = e

-- The listing -------------------------------------------------------------------------------------------------------

split_there : (ops : List VkOp) (n : ℕ) (o : VkOp) → slice_get ops n ≡ Some o → ops ≡ take n ops ++ o ∷ drop (suc n) ops
split_there [] n o e = absurd (cc e)
split_there (p ∷ ops) zero o e = let is : p ≡ o = cc e in ap (λ q. q ∷ ops) is
split_there (p ∷ ops) (suc n) o e = ap (λ l. p ∷ l) (split_there ops n o e)

get_later : (ops : List VkOp) (n k m : ℕ) → n + k ≡ m → slice_get (drop n ops) k ≡ slice_get ops m
get_later ops zero k m e = let is : k ≡ m = omega (arith, e) in ap (slice_get ops) is
get_later [] (suc n) k m e = refl
get_later (p ∷ ops) (suc n) k zero e = absurd (omega (arith, e))
get_later (p ∷ ops) (suc n) k (suc m) e = get_later ops n k m (omega (arith, e))

pairs_both : {A : Type 0} (Q R : A → A → Type 0) (xs : List A) → Pairwise Q xs → Pairwise R xs
    → Pairwise (λ x y. Q x y × R x y) xs
pairs_both Q R [] h k = tt
pairs_both Q R (x ∷ xs) h k = (all_both (Q x) (R x) xs h.0 k.0, pairs_both Q R xs h.1 k.1)

all_mapped : {A B : Type 0} (f : A → B) (P : B → Type 0) (xs : List A) → AllByRecursion P (map f xs)
    → AllByRecursion (λ x. P (f x)) xs
all_mapped f P [] h = tt
all_mapped f P (x ∷ xs) h = (h.0, all_mapped f P xs h.1)

pub pairs_mapped : {A B : Type 0} (f : A → B) (R : B → B → Type 0) (xs : List A) → Pairwise R (map f xs)
    → Pairwise (λ x y. R (f x) (f y)) xs
pairs_mapped f R [] h = tt
pairs_mapped f R (x ∷ xs) h = (all_mapped f (R (f x)) xs h.0, pairs_mapped f R xs h.1)

reads_there : (staging : ℕ → Bool) (ops : List VkOp) (n : ℕ) (r : Range) (call : ℕ) → ReadsStaging staging ops
    → slice_get ops n ≡ Some (op.HostRead r call) → staging r.block ≡ true
reads_there staging [] n r call h e = absurd (cc e)
reads_there staging (op.HostWrite q m ∷ ops) zero r call h e = absurd (cc e)
reads_there staging (op.Pipeline shader ∷ ops) zero r call h e = absurd (cc e)
reads_there staging (op.Barrier barrier ∷ ops) zero r call h e = absurd (cc e)
reads_there staging (op.Command command ∷ ops) zero r call h e = absurd (cc e)
reads_there staging (op.Submit k ∷ ops) zero r call h e = absurd (cc e)
reads_there staging (op.Fence k ∷ ops) zero r call h e = absurd (cc e)
reads_there staging (op.HostRead q m ∷ ops) zero r call h e = let is : q ≡ r = cc e in
    ap (λ q. staging q.block) (sym is) ∙ h.0
reads_there staging (op.HostWrite q m ∷ ops) (suc n) r call h e = reads_there staging ops n r call h e
reads_there staging (op.Pipeline shader ∷ ops) (suc n) r call h e = reads_there staging ops n r call h e
reads_there staging (op.Barrier barrier ∷ ops) (suc n) r call h e = reads_there staging ops n r call h e
reads_there staging (op.Command command ∷ ops) (suc n) r call h e = reads_there staging ops n r call h e
reads_there staging (op.Submit k ∷ ops) (suc n) r call h e = reads_there staging ops n r call h e
reads_there staging (op.Fence k ∷ ops) (suc n) r call h e = reads_there staging ops n r call h e
reads_there staging (op.HostRead q m ∷ ops) (suc n) r call h e = reads_there staging ops n r call h.1 e

and_false : (b : Bool) → (b && false) ≡ false
and_false true = refl
and_false false = refl

no_touches : (ts : List Touch) → lists_conflict ts [] ≡ false
no_touches [] = refl
no_touches (t ∷ ts) = no_touches ts

-- what conflicts is an act
first_act : (o p : VkOp) → lists_conflict (op_touches o) (op_touches p) ≡ true → is_act o ≡ true
first_act (op.HostWrite r call) p h = refl
first_act (op.Pipeline shader) p h = absurd (cc h)
first_act (op.Barrier barrier) p h = absurd (cc h)
first_act (op.Command command) p h = refl
first_act (op.Submit k) p h = absurd (cc h)
first_act (op.Fence k) p h = absurd (cc h)
first_act (op.HostRead r call) p h = refl

second_act : (o p : VkOp) → lists_conflict (op_touches o) (op_touches p) ≡ true → is_act p ≡ true
second_act o (op.HostWrite r call) h = refl
second_act o (op.Pipeline shader) h =
    absurd (both_ways (lists_conflict (op_touches o) []) (no_touches (op_touches o)) h)
second_act o (op.Barrier barrier) h =
    absurd (both_ways (lists_conflict (op_touches o) []) (no_touches (op_touches o)) h)
second_act o (op.Command command) h = refl
second_act o (op.Submit k) h = absurd (both_ways (lists_conflict (op_touches o) []) (no_touches (op_touches o)) h)
second_act o (op.Fence k) h = absurd (both_ways (lists_conflict (op_touches o) []) (no_touches (op_touches o)) h)
second_act o (op.HostRead r call) h = refl

module _ (staging : ℕ → Bool) (contents : List (List ℕ)) (ops : List VkOp) (run : IsRunListing staging ops)
    (reads : ReadsStaging staging ops) (covered : EntriesCovered (listed_entries contents ops)) where
  -- what the counts and the masks say of a pair
  abbrev Pair : Placed → Placed → Type 0
  Pair x y = (entries_conflict x.entry y.entry ≡ true → entry_before x.entry y.entry ≡ true) × Alike ops x y

  all_pairs : Pairwise Pair (placed_entries contents ops)
  all_pairs =
      pairs_both (λ x y. entries_conflict x.entry y.entry ≡ true
      → entry_before x.entry y.entry ≡ true) (Alike ops) (placed_entries contents ops)
      (pairs_mapped (λ p. p.entry) (λ x y. entries_conflict x y ≡ true
      → entry_before x y ≡ true) (placed_entries contents ops) covered)
      (same_order staging contents ops run)

  ordered : (x y : ℕ) (o p : VkOp) → x < y → slice_get ops x ≡ Some o → slice_get ops y ≡ Some p → is_act o ≡ true
      → is_act p ≡ true
      → lists_conflict (op_touches o) (op_touches p) ≡ true → before ops x y ≡ true
  ordered x y o p l e f s t h =
      let both = pair_at Pair ops start_counts contents x y o p l e f s t all_pairs in
      let q = both.0 in
      let r = both.3.0 in
      let px : q.place ≡ x = both.1 ∙ from_zero x in
      let py : r.place ≡ y = both.3.1 ∙ from_zero y in
      let clash : entries_conflict q.entry r.entry ≡ true =
      ap (λ l. lists_conflict l (act_touches r.entry.act)) both.2 ∙ ap (lists_conflict (op_touches o)) both.3.2 ∙ h in
      ap (λ a. before ops a y) (sym px) ∙ ap (before ops q.place) (sym py) ∙ both.3.3.1.0 ∙ both.3.3.0 clash

  -- what is seen beside the order
  sees : (x y : ℕ) (o p : VkOp) → x < y → slice_get ops x ≡ Some o → slice_get ops y ≡ Some p
      → is_hazard ops x y ≡ true → visible (between ops x y) o p ≡ true
  sees x y (op.HostWrite r call) p l e f h = refl
  sees x y (op.Pipeline shader) p l e f h = refl
  sees x y (op.Barrier barrier) p l e f h = refl
  sees x y (op.Submit k) p l e f h = refl
  sees x y (op.Fence k) p l e f h = refl
  sees x y (op.HostRead r call) p l e f h = refl
  sees x y (op.Command c) (op.HostWrite r call) l e f h = refl
  sees x y (op.Command c) (op.Pipeline shader) l e f h = refl
  sees x y (op.Command c) (op.Barrier barrier) l e f h = refl
  sees x y (op.Command c) (op.Submit k) l e f h = refl
  sees x y (op.Command c) (op.Fence k) l e f h = refl
  sees x y (op.Command c) (op.Command d) l e f h =
      let none = commands_covered staging ops run.barriers x y c d e f in
      let both = not_false (is_hazard ops x y) (before ops x y && visible_at ops x y) h none in
      sym (ap (λ o. visible_if (between ops x y) o (slice_get ops y)) e
      ∙ ap (visible_if (between ops x y) (Some (op.Command c))) f)
      ∙ (and_parts (before ops x y) (visible_at ops x y) both).1
    where
      not_false : (a b : Bool) → a ≡ true → (a && not b) ≡ false → b ≡ true
      not_false true true e k = refl
      not_false true false e k = absurd (cc k)
      not_false false b e k = absurd (cc e)
  sees x y (op.Command c) (op.HostRead r call) l e f h =
      let place : suc x + (y - suc x) ≡ y = omega (arith, l) in
      let later : slice_get (drop (suc x) ops) (y - suc x) ≡ Some (op.HostRead r call) =
      get_later ops (suc x) (y - suc x) y place ∙ f in
      let whole : ops ≡ take x ops ++ op.Command c ∷ (between ops x y
      ++ op.HostRead r call ∷ drop (suc (y - suc x)) (drop (suc x) ops)) =
      split_there ops x (op.Command c) e ∙ ap (λ l. take x ops ++ op.Command c ∷ l)
      (split_there (drop (suc x) ops) (y - suc x) (op.HostRead r call) later) in
      read_sees staging ops run (take x ops) c (between ops x y) r call (drop (suc (y - suc x)) (drop (suc x) ops))
      whole (reads_there staging ops y r call reads f)

  -- a pair that is a hazard is ordered, and seen
  hazard_covered : (x y : ℕ) (o p : Option VkOp) → slice_get ops x ≡ o → slice_get ops y ≡ p
      → is_hazard ops x y ≡ true → (before ops x y && visible_at ops x y) ≡ true
  hazard_covered x y None p e f h =
      absurd (both_ways (is_hazard ops x y)
      (ap (λ o. nat_lt x y && lists_conflict (touches_if o) (touches_at ops y)) e ∙ and_false (nat_lt x y)) h)
  hazard_covered x y (Some o) None e f h =
      absurd (both_ways (is_hazard ops x y)
      (ap (λ o. nat_lt x y && lists_conflict (touches_at ops x) (touches_if o)) f
      ∙ ap (λ b. nat_lt x y && b) (no_touches (touches_at ops x)) ∙ and_false (nat_lt x y)) h)
  hazard_covered x y (Some o) (Some p) e f h =
      let parts = and_parts (nat_lt x y) (lists_conflict (touches_at ops x) (touches_at ops y)) h in
      let lt : x < y = ltb-true x y parts.0 in
      let clash : lists_conflict (op_touches o) (op_touches p) ≡ true =
      sym (ap (λ o. lists_conflict (touches_if o) (touches_at ops y)) e
      ∙ ap (λ p. lists_conflict (op_touches o) (touches_if p)) f) ∙ parts.1 in
      and_from (before ops x y) (visible_at ops x y) (ordered x y o p lt e f (first_act o p clash)
      (second_act o p clash) clash)
      (ap (λ o. visible_if (between ops x y) o (slice_get ops y)) e ∙ ap (visible_if (between ops x y) (Some o)) f
      ∙ sees x y o p lt e f h)

  -- the listing is covered
  pub run_covered : Covered ops
  run_covered x y =
      elim (cases_Bool (is_hazard ops x y)) [
        | inl t ↦ ap (λ b. b && not (before ops x y && visible_at ops x y)) t
            ∙ ap not (hazard_covered x y (slice_get ops x) (slice_get ops y) refl refl t)
        | inr f ↦ ap (λ b. b && not (before ops x y && visible_at ops x y)) f
      ]
