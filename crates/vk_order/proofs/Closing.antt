-- Where each hazard of touches is covered between two places, the pair of acts is.
use Rattle.std.proofs.Common.{◌≡◌, ℕ, suc, ◌-◌, ◌<◌, Bool, true, false, not, cond, ◌&&◌, ◌||◌, List, [], ◌∷◌, Some, None, slice_get, refl, sym, ap, ◌∙◌, inl, inr}
use Rattle.std.specs.List.{list_any}
use Rattle.std.proofs.lemmas.Bool.{and_parts, cases_Bool, or_cases}
use Rattle.vk_types.specs.declared.touch.Touch.{Touch}
use Rattle.vk_types.specs.declared.command.Command.{Command}
use Rattle.vk_types.specs.declared.op.Barrier.{Barrier}
use Rattle.vk_types.specs.declared.op.VkOp.{VkOp}
use Rattle.vk_types.specs.declared.op.VkOp.TheVariants as op
use Rattle.base_lemmas.specs.Lists.{all_pass}
use Rattle.base_lemmas.proofs.Scan.{scan_hit}
use Rattle.vk_types.specs.Hazards.{has_write, touches_conflict, lists_conflict}
use Rattle.vk_types.specs.Listing.{between}
use Rattle.vk_types.specs.Before.{op_orders, barrier_orders}
use Rattle.vk_types.specs.Covered.{each_pair, commands_visible, makes_visible, makes_host_visible, host_visible, op_barrier}
use Rattle.vk_order.specs.Classes.{covers, first_of, second_of, shows_at, shows_host, host_shown, stages_of, written_stage}
use Rattle.vk_order.proofs.Served.{get_between}

-- Lists ------------------------------------------------------------------------------------------------------------------

pub record Conflicting (ts us : List Touch) : Type 0 where
  pub i : ℕ
  pub j : ℕ
  pub t : Touch
  pub u : Touch
  pub first : slice_get ts i ≡ Some t
  pub second : slice_get us j ≡ Some u
  pub conflict : touches_conflict t u ≡ true

pub record Hit {A : Type 0} (test : A → Bool) (xs : List A) : Type 0 where
  pub i : ℕ
  pub x : A
  pub there : slice_get xs i ≡ Some x
  pub passes : test x ≡ true

pub any_hit : {A : Type 0} (test : A → Bool) (xs : List A) → list_any test xs ≡ true → Hit test xs
any_hit test [] e = absurd (cc e)
any_hit test (x ∷ xs) e =
    elim (or_cases (test x) (list_any test xs) e) [
      | inl here ↦ record { i = 0; x = x; there = refl; passes = here }
      | inr later ↦ let h = any_hit test xs later in record { i = suc h.i; x = h.x; there = h.there; passes = h.passes }
    ]

pub conflicting : (ts us : List Touch) → lists_conflict ts us ≡ true → Conflicting ts us
conflicting [] us e = absurd (cc e)
conflicting (t ∷ ts) us e =
    elim (or_cases (list_any (touches_conflict t) us) (lists_conflict ts us) e) [
      | inl here ↦ let h = any_hit (touches_conflict t) us here in record { i = 0; j = h.i; t = t; u = h.x; first = refl; second = h.there; conflict = h.passes }
      | inr later ↦ let h = conflicting ts us later in record { i = suc h.i; j = h.j; t = h.t; u = h.u; first = h.first; second = h.second; conflict = h.conflict }
    ]

pub pass_all : {A : Type 0} (test : A → Bool) (xs : List A) → ((i : ℕ) (x : A) → slice_get xs i ≡ Some x → test x ≡ true) → all_pass test xs ≡ true
pass_all test [] h = refl
pass_all test (x ∷ xs) h = ap (λ b. b && all_pass test xs) (h 0 x refl) ∙ pass_all test xs (λ i y e. h (suc i) y e)

pub pass_pairs : (test : Touch → Touch → Bool) (ts us : List Touch)
    → ((i j : ℕ) (t u : Touch) → slice_get ts i ≡ Some t → slice_get us j ≡ Some u → test t u ≡ true) → each_pair test ts us ≡ true
pass_pairs test ts us h = pass_all (λ t. all_pass (test t) us) ts (λ i t e. pass_all (test t) us (λ j u f. h i j t u e f))

-- an operation between two places
pub any_between : (test : VkOp → Bool) (ops : List VkOp) (x p y : ℕ) (o : VkOp) → x < p → p < y → slice_get ops p ≡ Some o → test o ≡ true → list_any test (between ops x y) ≡ true
any_between test ops x p y o l m e t = scan_hit test (between ops x y) (p - suc x) o (get_between ops x p y l m ∙ e) t

-- Two commands -----------------------------------------------------------------------------------------------------------

-- a barrier between the two places covers the hazard of these touches
pub record CoveredBetween (ops : List VkOp) (x y : ℕ) (c d : Command) (t u : Touch) : Type 0 where
  pub place : ℕ
  pub barrier : Barrier
  pub behind : x < place
  pub before : place < y
  pub there : slice_get ops place ≡ Some (op.Barrier barrier)
  pub covers_it : covers (first_of (stages_of c) t) (second_of (stages_of d) u) barrier ≡ true

orders_of : (c d : Command) (t u : Touch) (b : Barrier) → covers (first_of (stages_of c) t) (second_of (stages_of d) u) b ≡ true → barrier_orders c d b ≡ true
orders_of c d t u b e = (and_parts (barrier_orders c d b) (shows_at (written_stage t) (second_of (stages_of d) u) b) e).0

shows_of : (c d : Command) (t u : Touch) (b : Barrier) → has_write t.access ≡ true → covers (first_of (stages_of c) t) (second_of (stages_of d) u) b ≡ true → makes_visible t u b ≡ true
shows_of c d t u b w e =
    let s = (and_parts (barrier_orders c d b) (shows_at (written_stage t) (second_of (stages_of d) u) b) e).1 in
    sym (ap (λ (v : Bool). shows_at (cond v (Some t.stage) None) (second_of (stages_of d) u) b) w) ∙ s

both_true : (x y : Bool) → x ≡ true → y ≡ true → (x && y) ≡ true
both_true x y e f = ap (λ b. b && y) e ∙ f

pub orders_between : (ops : List VkOp) (x y : ℕ) (c d : Command) (t u : Touch) → CoveredBetween ops x y c d t u → list_any (op_orders c d) (between ops x y) ≡ true
orders_between ops x y c d t u h = any_between (op_orders c d) ops x h.place y (op.Barrier h.barrier) h.behind h.before h.there (orders_of c d t u h.barrier h.covers_it)

pub visible_between : (ops : List VkOp) (x y : ℕ) (c d : Command) (t u : Touch) → (touches_conflict t u ≡ true → CoveredBetween ops x y c d t u)
    → commands_visible (between ops x y) c d t u ≡ true
visible_between ops x y c d t u h =
    elim (cases_Bool (has_write t.access && touches_conflict t u)) [
      | inr miss ↦ ap (λ b. not b || list_any (op_barrier (λ b. barrier_orders c d b && makes_visible t u b)) (between ops x y)) miss
      | inl hit ↦
          let p = and_parts (has_write t.access) (touches_conflict t u) hit in
          let k = h p.1 in
          let shown = any_between (op_barrier (λ b. barrier_orders c d b && makes_visible t u b)) ops x k.place y (op.Barrier k.barrier) k.behind k.before k.there
          (both_true (barrier_orders c d k.barrier) (makes_visible t u k.barrier) (orders_of c d t u k.barrier k.covers_it) (shows_of c d t u k.barrier p.0 k.covers_it)) in
          right (not (has_write t.access && touches_conflict t u)) (list_any (op_barrier (λ b. barrier_orders c d b && makes_visible t u b)) (between ops x y)) shown
    ]
  where
    right : (x y : Bool) → y ≡ true → (x || y) ≡ true
    right true y e = refl
    right false y e = e

-- A command and a read of the host ----------------------------------------------------------------------------------------

-- a barrier between the two places shows the host what the touch writes
pub record ShownBetween (ops : List VkOp) (x y : ℕ) (c : Command) (t : Touch) : Type 0 where
  pub place : ℕ
  pub barrier : Barrier
  pub behind : x < place
  pub before : place < y
  pub there : slice_get ops place ≡ Some (op.Barrier barrier)
  pub shows_it : shows_host (first_of (stages_of c) t) barrier ≡ true

host_shows : (c : Command) (t : Touch) (b : Barrier) → shows_host (first_of (stages_of c) t) b ≡ true → makes_host_visible t b ≡ true
host_shows c t b e =
    elim (cases_Bool (has_write t.access)) [
      | inl w ↦ sym (ap (λ (v : Bool). host_shown (cond v (Some t.stage) None) b) w) ∙ e
      | inr n ↦ let f : false ≡ true = sym (ap (λ (v : Bool). host_shown (cond v (Some t.stage) None) b) n) ∙ e in absurd (cc f)
    ]

pub host_visible_between : (ops : List VkOp) (x y : ℕ) (c : Command) (t u : Touch) → (touches_conflict t u ≡ true → ShownBetween ops x y c t) → host_visible (between ops x y) t u ≡ true
host_visible_between ops x y c t u h =
    elim (cases_Bool (touches_conflict t u)) [
      | inr miss ↦ ap (λ b. not b || list_any (op_barrier (makes_host_visible t)) (between ops x y)) miss
      | inl hit ↦
          let k = h hit in
          right (not (touches_conflict t u)) (list_any (op_barrier (makes_host_visible t)) (between ops x y))
          (any_between (op_barrier (makes_host_visible t)) ops x k.place y (op.Barrier k.barrier) k.behind k.before k.there (host_shows c t k.barrier k.shows_it))
    ]
  where
    right : (x y : Bool) → y ≡ true → (x || y) ≡ true
    right true y e = refl
    right false y e = e
