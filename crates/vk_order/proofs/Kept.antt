-- Where an order keeps what is noted before an act, no pair of it is broken.
use Rattle.std.proofs.Common.{◌≡◌, ℕ, zero, suc, ◌+◌, ◌-◌, ◌<◌, ◌≤◌, Bool, true, false, cond, ◌&&◌, ◌||◌, ◌==◌, nat_lt, List, [], ◌∷◌, length, take, drop, refl, sym, ap, subst, ◌∙◌, inl, inr, Option, Some, None, slice_get, slice_index, arith}
use Rattle.std.specs.List.{list_any}
use Rattle.std.proofs.lemmas.Option.{slice_get_within}
use Rattle.std.proofs.lemmas.Bool.{cases_Bool, cases_lt, ltb-true, le-ltb, eqb-true}
use Rattle.vk_types.specs.declared.command.Command.{Command}
use Rattle.vk_types.specs.declared.op.Barrier.{Barrier}
use Rattle.vk_types.specs.declared.op.VkOp.{VkOp}
use Rattle.vk_types.specs.declared.op.VkOp.TheVariants as op
use Rattle.vk_types.specs.Listing.{between, submission_of}
use Rattle.vk_types.specs.Before.{Side, On_host, On_device, No_act, barrier_orders, op_orders, op_finishes, is_fenced, side, side_of, side_at, sides_ordered, before}
use Rattle.vk_order.specs.declared.classes.Stages.{Stages}
use Rattle.vk_order.specs.declared.turns.Row.{Row}
use Rattle.vk_order.specs.declared.turns.Turns.{Turns}
use Rattle.vk_order.specs.Classes.{stages_of, names}
use Rattle.vk_order.specs.Order.{late_of, stands_in, stands_before, is_broken}
use Rattle.vk_order.specs.Turns.{AreRanks, HasRow, RowsGrew, IsReadied, IsReadyBy, IsKept, IsNotedTurn, TurnsHold}
use Rattle.vk_order.proofs.Closing.{any_hit}

-- ---- what stands between

get_undrop : {A : Type 0} (xs : List A) (n i : ℕ) (x : A) → slice_get (drop n xs) i ≡ Some x → slice_get xs (n + i) ≡ Some x
get_undrop xs zero i x e = subst (λ (k : ℕ). slice_get xs k ≡ Some x) (omega arith) e
get_undrop [] (suc n) i x e = absurd (none i e)
  where
    none : {A : Type 0} {x : A} (k : ℕ) → slice_get [] k ≡ Some x → ⊥
    none zero e = cc e
    none (suc k) e = cc e
get_undrop (y ∷ xs) (suc n) i x e = let same : suc (n + i) ≡ suc n + i = omega arith in subst (λ (k : ℕ). slice_get (y ∷ xs) k ≡ Some x) same (get_undrop xs n i x e)

get_untake : {A : Type 0} (xs : List A) (n i : ℕ) (x : A) → slice_get (take n xs) i ≡ Some x → (i < n) × (slice_get xs i ≡ Some x)
get_untake xs zero zero x e = absurd (cc e)
get_untake xs zero (suc i) x e = absurd (cc e)
get_untake [] (suc n) zero x e = absurd (cc e)
get_untake [] (suc n) (suc i) x e = absurd (cc e)
get_untake (y ∷ xs) (suc n) zero x e = (omega arith, e)
get_untake (y ∷ xs) (suc n) (suc i) x e = let l = get_untake xs n i x e in (omega (arith, l.0), l.1)

pub record FoundBetween (test : VkOp → Bool) (ops : List VkOp) (x y : ℕ) : Type 0 where
  place : ℕ
  element : VkOp
  behind : x < place
  before : place < y
  there : slice_get ops place ≡ Some element
  passes : test element ≡ true

found_between : (test : VkOp → Bool) (ops : List VkOp) (x y : ℕ) → list_any test (between ops x y) ≡ true → FoundBetween test ops x y
found_between test ops x y e =
    let f = any_hit test (between ops x y) e in
    let t = get_untake (drop (suc x) ops) (y - suc x) f.i f.x f.there in
    record {
      place = suc x + f.i;
      element = f.x;
      behind = omega arith;
      before = omega (arith, t.0);
      there = get_undrop ops (suc x) f.i f.x t.1;
      passes = f.passes;
    }

-- ---- ranks

stands_at : (order : List ℕ) (p : ℕ) → stands_in order p ≡ true → (j : ℕ) × (slice_get order j ≡ Some p)
stands_at [] p e = absurd (cc e)
stands_at (o ∷ order) p e =
    elim (cases_Bool (o == p)) [
      | inl hit ↦ (0, ap (λ (n : ℕ). Some n) (eqb-true o p hit))
      | inr miss ↦ let later = stands_at order p (sym (ap (λ b. b || stands_in order p) miss) ∙ e) in (suc later.0, later.1)
    ]

stands_late : (order : List ℕ) (q p : ℕ) → stands_before order q p ≡ true → (i : ℕ) × (j : ℕ) × (i < j) × (slice_get order i ≡ Some q) × (slice_get order j ≡ Some p)
stands_late [] q p e = absurd (cc e)
stands_late (o ∷ order) q p e =
    elim (cases_Bool (o == q)) [
      | inl hit ↦
          let later = stands_at order p (sym (ap (λ b. stands_in (cond b order (late_of order q)) p) hit) ∙ e) in
          (0, suc later.0, omega arith, ap (λ (n : ℕ). Some n) (eqb-true o q hit), later.1)
      | inr miss ↦
          let later = stands_late order q p (sym (ap (λ b. stands_in (cond b order (late_of order q)) p) miss) ∙ e) in
          (suc later.0, suc later.1, omega (arith, later.2), later.3, later.4)
    ]

not_true : (b : Bool) → (b ≡ true → ⊥) → b ≡ false
not_true true h = absurd (h refl)
not_true false h = refl

-- what has no greater rank doesn't stand behind
kept_in : (order ranks : List ℕ) (x y : ℕ) → AreRanks order ranks → slice_index ranks x ≤ slice_index ranks y → stands_before order y x ≡ false
kept_in order ranks x y are le =
    not_true (stands_before order y x) (λ e.
    let s = stands_late order y x e in
    let first = are s.0 y s.3 in
    let second = are s.1 x s.4 in
    omega (arith, first, second, le, s.2))

-- ---- the acts before one

command_there : (ops : List VkOp) (x : ℕ) (c : Command) → side_at ops x ≡ On_device c → slice_get ops x ≡ Some (op.Command c)
command_there ops x c e = by_op (slice_get ops x) e
  where
    by_op : (o : Option VkOp) → side_of o ≡ On_device c → o ≡ Some (op.Command c)
    by_op None e = absurd (cc e)
    by_op (Some (op.HostWrite r call)) e = absurd (cc e)
    by_op (Some (op.Pipeline shader)) e = absurd (cc e)
    by_op (Some (op.Barrier barrier)) e = absurd (cc e)
    by_op (Some (op.Command d)) e = let same : d ≡ c = cc e in ap (λ (q : Command). Some (op.Command q)) same
    by_op (Some (op.Submit k)) e = absurd (cc e)
    by_op (Some (op.Fence k)) e = absurd (cc e)
    by_op (Some (op.HostRead r call)) e = absurd (cc e)

fence_is : (k : ℕ) (o : VkOp) → op_finishes k o ≡ true → (j : ℕ) × (o ≡ op.Fence j)
fence_is k (op.HostWrite r call) e = absurd (cc e)
fence_is k (op.Pipeline shader) e = absurd (cc e)
fence_is k (op.Barrier barrier) e = absurd (cc e)
fence_is k (op.Command command) e = absurd (cc e)
fence_is k (op.Submit j) e = absurd (cc e)
fence_is k (op.Fence j) e = (j, refl)
fence_is k (op.HostRead r call) e = absurd (cc e)

barrier_is : (c d : Command) (o : VkOp) → op_orders c d o ≡ true → (b : Barrier) × (o ≡ op.Barrier b) × (barrier_orders c d b ≡ true)
barrier_is c d (op.HostWrite r call) e = absurd (cc e)
barrier_is c d (op.Pipeline shader) e = absurd (cc e)
barrier_is c d (op.Barrier barrier) e = (barrier, refl, e)
barrier_is c d (op.Command command) e = absurd (cc e)
barrier_is c d (op.Submit j) e = absurd (cc e)
barrier_is c d (op.Fence j) e = absurd (cc e)
barrier_is c d (op.HostRead r call) e = absurd (cc e)

fenced_rank : (ops : List VkOp) (ranks : List ℕ) (turns : Turns) (x y : ℕ) → TurnsHold ops ranks turns y → (s : Option ℕ) → is_fenced s (between ops x y) ≡ true → slice_index ranks x ≤ turns.fenced
fenced_rank ops ranks turns x y h None e = absurd (cc e)
fenced_rank ops ranks turns x y h (Some k) e =
    let f = found_between (op_finishes k) ops x y e in
    let fence = fence_is k f.element f.passes in
    h.fenced x f.place fence.0 f.behind f.before (f.there ∙ ap (λ (o : VkOp). Some o) fence.1)

both_of : (a b : Bool) → (a && b) ≡ true → (a ≡ true) × (b ≡ true)
both_of true true e = (refl, refl)
both_of true false e = absurd (cc e)
both_of false b e = absurd (cc e)

ordered_rank : (ops : List VkOp) (ranks : List ℕ) (turns : Turns) (x y : ℕ) (c d : Command) → TurnsHold ops ranks turns y → turns.lost ≡ false → slice_get ops x ≡ Some (op.Command c)
    → IsReadyBy turns.rows.items (stages_of d) (slice_index ranks y) → list_any (op_orders c d) (between ops x y) ≡ true → slice_index ranks x ≤ slice_index ranks y
ordered_rank ops ranks turns x y c d h kept there r e =
    let f = found_between (op_orders c d) ops x y e in
    let b = barrier_is c d f.element f.passes in
    let parts = both_of (names b.0.source (stages_of c)) (names b.0.dest (stages_of d)) b.2 in
    let named : names b.0.dest r.row.stages ≡ true = subst (λ (s : Stages). names b.0.dest s ≡ true) (sym r.same) parts.1 in
    let ready = h.ready kept x f.place c b.0 f.behind f.before there (f.there ∙ ap (λ (o : VkOp). Some o) b.1) parts.0 r.number r.row r.there named in
    let by = r.ready in
    omega (arith, ready, by)

-- by the parts of the two
rank_by : (ops : List VkOp) (ranks : List ℕ) (turns : Turns) (x y : ℕ) (p : VkOp) (s : Side) → TurnsHold ops ranks turns y → x < y → side_at ops x ≡ s → IsKept turns (slice_index ranks y) p
    → sides_ordered ops x y s (side p) ≡ true → slice_index ranks x ≤ slice_index ranks y
rank_by ops ranks turns x y (op.HostWrite r call) On_host h l e k o = omega (arith, h.host x l e, k.0)
rank_by ops ranks turns x y (op.HostRead r call) On_host h l e k o = omega (arith, h.host x l e, k.0)
rank_by ops ranks turns x y (op.Command d) On_host h l e k o = omega (arith, h.host x l e, k.0)
rank_by ops ranks turns x y (op.Pipeline shader) On_host h l e k o = absurd (cc o)
rank_by ops ranks turns x y (op.Barrier barrier) On_host h l e k o = absurd (cc o)
rank_by ops ranks turns x y (op.Submit j) On_host h l e k o = absurd (cc o)
rank_by ops ranks turns x y (op.Fence j) On_host h l e k o = absurd (cc o)
rank_by ops ranks turns x y (op.HostWrite r call) (On_device c) h l e k o = omega (arith, fenced_rank ops ranks turns x y h (submission_of ops x) o, k.1)
rank_by ops ranks turns x y (op.HostRead r call) (On_device c) h l e k o = omega (arith, fenced_rank ops ranks turns x y h (submission_of ops x) o, k.1)
rank_by ops ranks turns x y (op.Command d) (On_device c) h l e k o = ordered_rank ops ranks turns x y c d h k.1 (command_there ops x c e) k.2 o
rank_by ops ranks turns x y (op.Pipeline shader) (On_device c) h l e k o = absurd (cc o)
rank_by ops ranks turns x y (op.Barrier barrier) (On_device c) h l e k o = absurd (cc o)
rank_by ops ranks turns x y (op.Submit j) (On_device c) h l e k o = absurd (cc o)
rank_by ops ranks turns x y (op.Fence j) (On_device c) h l e k o = absurd (cc o)
rank_by ops ranks turns x y p No_act h l e k o = absurd (cc o)

closed_by : (a b : Bool) → (a ≡ true → b ≡ false) → (a && b) ≡ false
closed_by true b h = h refl
closed_by false b h = refl

pub kept_closes : (ops : List VkOp) (order ranks : List ℕ) (turns : Turns) (y : ℕ) (p : VkOp) → TurnsHold ops ranks turns y → AreRanks order ranks → slice_get ops y ≡ Some p
    → IsKept turns (slice_index ranks y) p → (x : ℕ) → is_broken ops order x y ≡ false
kept_closes ops order ranks turns y p h are there kept x =
    closed_by (before ops x y) (stands_before order y x) (λ e.
    let parts = both_of (nat_lt x y) (sides_ordered ops x y (side_at ops x) (side_at ops y)) e in
    let ordered : sides_ordered ops x y (side_at ops x) (side p) ≡ true = sym (ap (λ (o : Option VkOp). sides_ordered ops x y (side_at ops x) (side_of o)) there) ∙ parts.1 in
    kept_in order ranks x y are (rank_by ops ranks turns x y p (side_at ops x) h (ltb-true x y parts.0) refl kept ordered))

-- nothing is broken with what stands before it
pub broken_backward : (ops : List VkOp) (order : List ℕ) (x y : ℕ) → y ≤ x → is_broken ops order x y ≡ false
broken_backward ops order x y le = ap (λ b. (b && sides_ordered ops x y (side_at ops x) (side_at ops y)) && stands_before order y x) (le-ltb x y le)

-- ---- one more operation

row_forward : (old new : List Row) (i : ℕ) (row : Row) → RowsGrew old new → slice_get old i ≡ Some row → (next : Row) × (slice_get new i ≡ Some next) × (next.stages ≡ row.stages) × (row.latest ≤ next.latest)
row_forward old new i row g e = by_new (slice_get new i) refl
  where
    missing : (xs : List Row) (i : ℕ) → i < length xs → slice_get xs i ≡ None → ⊥
    missing [] i l e = omega (arith, l)
    missing (x ∷ xs) zero l e = cc e
    missing (x ∷ xs) (suc i) l e = missing xs i (omega (arith, l)) e

    by_new : (o : Option Row) → slice_get new i ≡ o → (next : Row) × (slice_get new i ≡ Some next) × (next.stages ≡ row.stages) × (row.latest ≤ next.latest)
    by_new None f = absurd (missing new i (let l = slice_get_within old i row e in let n = g.len in omega (arith, l, n)) f)
    by_new (Some next) f =
        let r = g.each i next f in
        let both : Some r.before ≡ Some row = sym r.there ∙ e in
        let same : r.before ≡ row = cc both in
        (next, f, r.same ∙ ap (λ (q : Row). q.stages) same, subst (λ (q : Row). q.latest ≤ next.latest) same r.latest)

has_row_more : (old new : List Row) (stages : Stages) (rank : ℕ) → RowsGrew old new → HasRow old stages rank → HasRow new stages rank
has_row_more old new stages rank g h =
    let next = row_forward old new h.number h.row g h.there in
    let latest = h.latest in
    record { number = h.number; row = next.0; there = next.1; same = next.2 ∙ h.same; latest = omega (arith, latest, next.3) }

readied_more : (old new : List Row) (b : Barrier) (rank : ℕ) → RowsGrew old new → IsReadied old b rank → IsReadied new b rank
readied_more old new b rank g r i row e named =
    let was = g.each i row e in
    let ready = r i was.before was.there (subst (λ (s : Stages). names b.dest s ≡ true) was.same named) in
    let grew = was.ready in
    omega (arith, ready, grew)

pub turns_more : (ops : List VkOp) (ranks : List ℕ) (old new : Turns) (x : ℕ) (o : VkOp) → TurnsHold ops ranks old x → slice_get ops x ≡ Some o → IsNotedTurn old new (slice_index ranks x) o
    → TurnsHold ops ranks new (x + 1)
turns_more ops ranks old new x o h there n = record {
  all = λ z l. elim (cases_lt z x) [
    | inl less ↦ omega (arith, h.all z less, n.all)
    | inr ge ↦ let same : x ≡ z = omega (arith, l, ge) in subst (λ (k : ℕ). slice_index ranks k ≤ new.all) same n.this
  ];
  host = λ z l e. elim (cases_lt z x) [
    | inl less ↦ omega (arith, h.host z less e, n.host)
    | inr ge ↦
        let same : z ≡ x = omega (arith, l, ge) in
        let here : side o ≡ On_host = sym (ap side_of there) ∙ ap (side_at ops) (sym same) ∙ e in
        subst (λ (k : ℕ). slice_index ranks k ≤ new.host) (sym same) (n.by_host here)
  ];
  fenced = λ z p k l m e. elim (cases_lt p x) [
    | inl less ↦ omega (arith, h.fenced z p k l less e, n.fenced)
    | inr ge ↦
        let same : p ≡ x = omega (arith, m, ge) in
        let here : Some o ≡ Some (op.Fence k) = sym there ∙ ap (slice_get ops) (sym same) ∙ e in
        omega (arith, h.all z (omega (arith, l, same)), n.by_fence k (cc here))
  ];
  latest = λ kept z c l e. elim (cases_lt z x) [
    | inl less ↦ has_row_more old.rows.items new.rows.items (stages_of c) (slice_index ranks z) n.rows (h.latest (n.lost kept) z c less e)
    | inr ge ↦
        let same : z ≡ x = omega (arith, l, ge) in
        let here : Some o ≡ Some (op.Command c) = sym there ∙ ap (slice_get ops) (sym same) ∙ e in
        subst (λ (k : ℕ). HasRow new.rows.items (stages_of c) (slice_index ranks k)) (sym same) (n.by_command c (cc here) kept)
  ];
  ready = λ kept z p c b l m e f named. elim (cases_lt p x) [
    | inl less ↦ readied_more old.rows.items new.rows.items b (slice_index ranks z) n.rows (h.ready (n.lost kept) z p c b l less e f named)
    | inr ge ↦
        let same : p ≡ x = omega (arith, m, ge) in
        let here : Some o ≡ Some (op.Barrier b) = sym there ∙ ap (slice_get ops) (sym same) ∙ f in
        let row = h.latest (n.lost kept) z c (omega (arith, l, same)) e in
        let source : names b.source row.row.stages ≡ true = subst (λ (s : Stages). names b.source s ≡ true) (sym row.same) named in
        let all = n.by_barrier b (cc here) row.number row.row row.there source in
        let latest = row.latest in
        (λ i r g d. let ready = all i r g d in omega (arith, ready, latest))
  ];
}

pub turns_none : (ops : List VkOp) (ranks : List ℕ) (turns : Turns) → TurnsHold ops ranks turns 0
turns_none ops ranks turns = record {
  all = λ x l. absurd (omega (arith, l));
  host = λ x l. absurd (omega (arith, l));
  fenced = λ x p k l m. absurd (omega (arith, m));
  latest = λ kept x c l. absurd (omega (arith, l));
  ready = λ kept x p c b l m. absurd (omega (arith, m));
}
