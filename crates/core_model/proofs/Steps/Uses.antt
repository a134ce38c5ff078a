-- What an item binds, on buffers and on the blocks that stand for them.
use Rattle.std.proofs.Common.{◌≡◌, ℕ, ◌<◌, ◌≤◌, true, false, ◌||◌, ◌==◌, List, [], ◌∷◌, ◌++◌, map, refl, sym, ap, ◌∙◌}
use Rattle.std.proofs.Common.{inl, inr, Option, Some, None, arith}
use Rattle.std.specs.List.{AllByRecursion}
use Rattle.std.proofs.lemmas.Bool.{or_cases, eq-eqb}
use Rattle.std.proofs.lemmas.List.Folds.{list_any-append}
use Rattle.dx_types.specs.declared.range.Range.{Range}
use Rattle.vk_types.specs.declared.touch.Touch.{Touch}
use Rattle.vk_types.specs.declared.command.SlotRange.{SlotRange}
use Rattle.vk_types.specs.declared.command.Groups.{Groups}
use Rattle.vk_types.specs.declared.command.Groups.TheVariants as groups
use Rattle.vk_types.specs.declared.command.Work.{Work}
use Rattle.vk_types.specs.declared.command.Work.TheVariants as work
use Rattle.vk_types.specs.declared.command.Cond.{Cond}
use Rattle.vk_types.specs.Memory.{covers, or_zero}
use Rattle.vk_types.specs.Hazards.{groups_touches, slot_touch, work_touches, cond_touches, is_touched}
use Rattle.vk_types.specs.Effects.{Meaning}
use Rattle.vk_types.proofs.Local.{covered, covered_block, covered_from, covered_to}
use Rattle.base_lemmas.proofs.Lists.{all_map}
use Rattle.core_model.specs.Script.{Turn, Script, at_start, in_order}
use Rattle.core_model.specs.Renaming.{BlockMap, block_of, range_on, slot_on, groups_on, work_on, cond_on}
use Rattle.core_model.specs.CoreState.{Segment, Owner, Unmade, Home, Returning, Spare, Live, Retired, Paged, Dropped}
use Rattle.core_model.specs.Owners.{in_ranges, bind_owner}
use Rattle.core_model.specs.Adding.{has_block, add_staging}
use Rattle.core_model.specs.Stands.{Stands}
use Rattle.core_model.specs.Lawful.{Fits}
use Rattle.core_model.specs.Invariant.{Allows, IsLive, NamesStaging}
use Rattle.core_model.proofs.Steps.Alike.{Has}
use Rattle.core_model.proofs.Steps.Binding.{or_left, or_right, staging_kept, staging_added}

-- Touches on blocks -------------------------------------------------------------------------------------------------

abbrev pub touch_on : BlockMap → Touch → Touch
touch_on blocks t = record t { range = range_on blocks t.range }

pub map_append : {A B : Type 0} (f : A → B) (xs ys : List A) → map f (xs ++ ys) ≡ map f xs ++ map f ys
map_append f [] ys = refl
map_append f (x ∷ xs) ys = ap (λ l. f x ∷ l) (map_append f xs ys)

slots_on : (blocks : BlockMap) (ss : List SlotRange) → map slot_touch (map (slot_on blocks) ss)
    ≡ map (touch_on blocks) (map slot_touch ss)
slots_on blocks [] = refl
slots_on blocks (s ∷ ss) = ap (λ l. slot_touch (slot_on blocks s) ∷ l) (slots_on blocks ss)

counts_on : (blocks : BlockMap) (g : Groups) → groups_touches (groups_on blocks g)
    ≡ map (touch_on blocks) (groups_touches g)
counts_on blocks (groups.Direct x y z) = refl
counts_on blocks (groups.Indirect at) = refl

works_on : (blocks : BlockMap) (w : Work) → work_touches (work_on blocks w) ≡ map (touch_on blocks) (work_touches w)
works_on blocks (work.Copy source target) = refl
works_on blocks (work.Fill target word) = refl
works_on blocks (work.Clear target words unit) = refl
works_on blocks (work.Dispatch shader counts slots) =
    ap (λ l. l ++ map slot_touch (map (slot_on blocks) slots)) (counts_on blocks counts)
    ∙ ap (λ l. map (touch_on blocks) (groups_touches counts) ++ l) (slots_on blocks slots)
    ∙ sym (map_append (touch_on blocks) (groups_touches counts) (map slot_touch slots))

pub conds_on : (blocks : BlockMap) (c : Option Cond) → cond_touches (cond_on blocks c)
    ≡ map (touch_on blocks) (cond_touches c)
conds_on blocks None = refl
conds_on blocks (Some c) = refl

pub touches_on : (blocks : BlockMap) (w : Work) (c : Option Cond)
    → work_touches (work_on blocks w) ++ cond_touches (cond_on blocks c)
    ≡ map (touch_on blocks) (work_touches w ++ cond_touches c)
touches_on blocks w c =
    ap (λ l. l ++ cond_touches (cond_on blocks c)) (works_on blocks w)
    ∙ ap (λ l. map (touch_on blocks) (work_touches w) ++ l) (conds_on blocks c)
    ∙ sym (map_append (touch_on blocks) (work_touches w) (cond_touches c))

pub filled_on : (blocks : BlockMap) (ts : List Touch) → AllByRecursion (λ t. t.range.from < t.range.to) ts
    → AllByRecursion (λ t. t.range.from < t.range.to) (map (touch_on blocks) ts)
filled_on blocks [] h = tt
filled_on blocks (t ∷ ts) h = (h.0, filled_on blocks ts h.1)

-- a block's byte that is touched is a buffer's that is
pub touched_buffer : (size : ℕ → ℕ) (blocks : BlockMap) (own : (r s b : ℕ) → blocks r ≡ Some b → blocks s ≡ Some b
    → r ≡ s) (ts : List Touch)
    → ((r i : ℕ) → is_touched ts r i ≡ true → Has size blocks own r i) → (b i : ℕ)
    → is_touched (map (touch_on blocks) ts) b i ≡ true
    → (r : ℕ) × (blocks r ≡ Some b) × (is_touched ts r i ≡ true)
touched_buffer size blocks own [] has b i h = absurd (cc h)
touched_buffer size blocks own (t ∷ ts) has b i h =
    elim (or_cases (covers (range_on blocks t.range) b i) (is_touched (map (touch_on blocks) ts) b i) h) [
      | inl here ↦
          let q = range_on blocks t.range in
          let there : is_touched (t ∷ ts) t.range.block i ≡ true =
          or_left (covers t.range t.range.block i) (is_touched ts t.range.block i)
          (covered t.range t.range.block i refl (covered_from q b i here) (covered_to q b i here)) in
          let stands = has t.range.block i there in
          let same : stands.0 ≡ b = sym (ap or_zero stands.1) ∙ covered_block q b i here in
          (t.range.block, stands.1 ∙ ap Some same, there)
      | inr later ↦
          let f = touched_buffer size blocks own ts (λ r i k. has r i
          (or_right (covers t.range r i) (is_touched ts r i) k)) b i later in
          (f.0, f.1, or_right (covers t.range f.0 i) (is_touched ts f.0 i) f.2)
    ]

-- Ranges that are bound ---------------------------------------------------------------------------------------------

-- a byte that is bound is one of a live buffer
pub bound_fits : (meaning : Meaning) (script : Script) (front : List Turn) (bound : List Range)
    → AllByRecursion (λ r. Fits meaning script front r × (r.from < r.to)) bound
    → (r i : ℕ) → in_ranges bound r i ≡ true → ((in_order meaning script front at_start).live r ≡ true)
    × (i < script.size r)
bound_fits meaning script front [] h r i k = absurd (cc k)
bound_fits meaning script front (q ∷ qs) h r i k =
    elim (or_cases (covers q r i) (in_ranges qs r i) k) [
      | inl here ↦
          let same = covered_block q r i here in
          let to = covered_to q r i here in
          let fits = h.0.0 in
          let long : q.to ≤ script.size q.block = fits.1 in
          let sized : script.size q.block ≡ script.size r = ap script.size same in
          (ap (in_order meaning script front at_start).live (sym same) ∙ fits.0, omega (arith, to, long, sized))
      | inr later ↦ bound_fits meaning script front qs h.1 r i later
    ]

-- a buffer's byte that is bound is one of its block that is
pub bound_on : (blocks : BlockMap) (bound : List Range) (r b i : ℕ) → blocks r ≡ Some b → in_ranges bound r i ≡ true
    → in_ranges (map (range_on blocks) bound) b i ≡ true
bound_on blocks [] r b i e h = absurd (cc h)
bound_on blocks (q ∷ qs) r b i e h =
    elim (or_cases (covers q r i) (in_ranges qs r i) h) [
      | inl here ↦
          or_left (covers (range_on blocks q) b i) (in_ranges (map (range_on blocks) qs) b i)
          (covered (range_on blocks q) b i (ap (λ r. or_zero (blocks r)) (covered_block q r i here)
          ∙ ap or_zero e) (covered_from q r i here) (covered_to q r i here))
      | inr later ↦ or_right (covers (range_on blocks q) b i) (in_ranges (map (range_on blocks) qs) b i)
          (bound_on blocks qs r b i e later)
    ]

-- a block with a byte that is bound is named
pub bound_named : (rs : List Range) (b i : ℕ) → in_ranges rs b i ≡ true → has_block b rs ≡ true
bound_named [] b i h = absurd (cc h)
bound_named (r ∷ rs) b i h =
    elim (or_cases (covers r b i) (in_ranges rs b i) h) [
      | inl here ↦ or_left (r.block == b) (has_block b rs) (eq-eqb r.block b (covered_block r b i here))
      | inr later ↦ or_right (r.block == b) (has_block b rs) (bound_named rs b i later)
    ]

-- a live block may be touched where it was bound
pub live_allows : (t f r b i chunk : ℕ) (rs : List Range) (o : Owner) → IsLive r o → in_ranges rs b i ≡ true
    → Allows t f (bind_owner rs b o) i chunk
live_allows t f r b i chunk rs Unmade l h = absurd l
live_allows t f r b i chunk rs (Home k) l h = absurd l
live_allows t f r b i chunk rs (Returning k) l h = absurd l
live_allows t f r b i chunk rs Spare l h = absurd l
live_allows t f r b i chunk rs (Live buffer since bound) l h = inr (or_right (bound i) (in_ranges rs b i) h)
live_allows t f r b i chunk rs (Retired k since bound) l h = absurd l
live_allows t f r b i chunk rs (Paged k since bound) l h = absurd l
live_allows t f r b i chunk rs Dropped l h = absurd l

-- Staging blocks that are named -------------------------------------------------------------------------------------

-- a chunk that binds these ranges, and others of no buffer, names the live staging blocks that it binds
pub names_more : (meaning : Meaning) (script : Script) (memory : ℕ → ℕ → ℕ) (blocks : BlockMap) (front : List Turn)
    → Stands script memory blocks (in_order meaning script front at_start) → (o : Segment)
    → NamesStaging script blocks o
    → (others bound : List Range) → ((r b : ℕ) → blocks r ≡ Some b → has_block b others ≡ false)
    → AllByRecursion (λ r. Fits meaning script front r × (r.from < r.to)) bound
    → (r b : ℕ) → script.is_staging r ≡ true → blocks r ≡ Some b
    → has_block b (o.bound ++ (others ++ map (range_on blocks) bound)) ≡ true
    → has_block b (add_staging script blocks bound o.staging) ≡ true
names_more meaning script memory blocks front stands o names others bound none fits r b st is h =
    elim (or_cases (has_block b o.bound) (has_block b (others ++ map (range_on blocks) bound))
    (sym (list_any-append (λ r. r.block == b) o.bound (others ++ map (range_on blocks) bound)) ∙ h)) [
      | inl t ↦ staging_kept script blocks bound o.staging b (names r b st is t)
      | inr t ↦
          staging_added script blocks bound o.staging b
          (all_map (λ q. Fits meaning script front q × (q.from < q.to)) (λ q. block_of blocks q.block ≡ b
          → script.is_staging q.block ≡ true) (λ q f at. same_buffer q f.0 at) bound fits)
          (sym (ap (λ c. c || has_block b (map (range_on blocks) bound)) (none r b is))
          ∙ sym (list_any-append (λ r. r.block == b) others (map (range_on blocks) bound)) ∙ t)
    ]
  where
    same_buffer : (q : Range) → Fits meaning script front q → block_of blocks q.block ≡ b
        → script.is_staging q.block ≡ true
    same_buffer q fits at =
        let has = stands.has_block q.block fits.0 in
        let here : has.0 ≡ b = sym (ap or_zero has.1) ∙ at in
        ap script.is_staging (stands.own q.block r b (has.1 ∙ ap Some here) is) ∙ st
