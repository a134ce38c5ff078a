-- An operation that an index finds clear has no hazard with an earlier one that isn't covered.
use Rattle.std.proofs.Common.{◌≡◌, ℕ, zero, suc, ◌+◌, ◌<◌, ◌≤◌, ◌^◌, Bool, true, false, not, cond, ◌&&◌, ◌||◌, List, [], ◌∷◌, length, Option, Some, None, is_some, IsSome, IfSome, get_or, slice_get, slice_index, refl, sym, ap, subst, ◌∙◌, ◌⊎◌, inl, inr, arith}
use Rattle.std.specs.List.{list_any}
use Rattle.std.proofs.lemmas.Bool.{and_parts, cases_lt, or_cases, le-leb}
use Rattle.std.proofs.lemmas.Option.{slice_get_within, slice_get-get_or}
use Rattle.dx_types.specs.declared.range.Range.{Range}
use Rattle.vk_types.specs.declared.access.Stage.{Stage}
use Rattle.vk_types.specs.declared.touch.Touch.{Touch}
use Rattle.vk_types.specs.declared.command.Command.{Command}
use Rattle.vk_types.specs.declared.op.Barrier.{Barrier}
use Rattle.vk_types.specs.declared.op.VkOp.{VkOp}
use Rattle.vk_types.specs.declared.op.VkOp.TheVariants as op
use Rattle.vk_types.specs.Memory.{meets}
use Rattle.vk_types.specs.Hazards.{has_write, touches, touches_conflict, lists_conflict, host_read_touch, host_write_touch}
use Rattle.vk_types.specs.Listing.{between, submission_of}
use Rattle.vk_types.specs.Before.{op_finishes, op_orders, is_fenced, side, sides_ordered}
use Rattle.vk_types.specs.Covered.{each_pair, commands_visible, host_visible, uncovered}
use Rattle.vk_order.specs.declared.layers.Layer.{Layer}
use Rattle.vk_order.specs.declared.index.Index.{Index}
use Rattle.vk_order.specs.Classes.{asks, covers, first_of, second_of, shows_host, stages_of}
use Rattle.vk_order.specs.Finish.{AreFinished, IsFinishedBy}
use Rattle.vk_order.specs.Layers.{HasBarrier, IsLast, last_of}
use Rattle.vk_order.specs.Index.{AreClear, HasTouch, IndexHolds, IsClear, IsReadClear, IsTouchClear, IsWriteClear}
use Rattle.vk_order.specs.Tree.{HasMark}
use Rattle.vk_order.proofs.Closing.{conflicting, pass_pairs, any_between, CoveredBetween, orders_between, visible_between, ShownBetween, host_visible_between}
use Rattle.vk_order.proofs.CutOrder.{reaches_meet}
use Rattle.vk_order.proofs.Open.{backward, open_pair, others_closed, uncovered_at}

asks_of : (c : Command) (t u : Touch) → touches_conflict t u ≡ true → asks (first_of (stages_of c) t) u ≡ true
asks_of c t u e = by (has_write t.access) refl (and_parts (has_write t.access || has_write u.access) (meets t.range u.range) e).0
  where
    by : (w : Bool) → has_write t.access ≡ w → (has_write t.access || has_write u.access) ≡ true → asks (first_of (stages_of c) t) u ≡ true
    by true is o = ap (λ (v : Bool). is_some (cond v (Some t.stage) None) || has_write u.access) is
    by false is o =
        ap (λ (v : Bool). is_some (cond v (Some t.stage) None) || has_write u.access) is ∙ (sym (ap (λ (v : Bool). v || has_write u.access) is) ∙ o)

meets_of : (t u : Touch) → touches_conflict t u ≡ true → meets t.range u.range ≡ true
meets_of t u e = (and_parts (has_write t.access || has_write u.access) (meets t.range u.range) e).1

-- a barrier that stands no earlier than a command stands behind it
barrier_behind : (test : Barrier → Bool) (ops : List VkOp) (x y past : ℕ) (c : Command) → slice_get ops x ≡ Some (op.Command c) → x + 1 ≤ past → past ≤ y
    → (h : HasBarrier test ops past) → (x < h.place) × (h.place < y)
barrier_behind test ops x y past c there le below h =
    let is = h.past_is in
    elim (cases_lt x h.place) [
      | inl l ↦ (l, omega (arith, is, below))
      | inr ge ↦
          let same : x ≡ h.place = omega (arith, ge, is, le) in
          let k : Some (op.Command c) ≡ Some (op.Barrier h.barrier) = sym there ∙ (ap (slice_get ops) same ∙ h.there) in
          absurd (cc k)
    ]

latest : (test : Barrier → Bool) (ops : List VkOp) (x y past : ℕ) → x + 1 ≤ past → IsLast test ops y past → HasBarrier test ops past
latest test ops x y past le l = by l.barrier
  where
    by : (past ≡ 0) ⊎ HasBarrier test ops past → HasBarrier test ops past
    by (inl none) = absurd (omega (arith, none, le))
    by (inr h) = h

-- Two commands -----------------------------------------------------------------------------------------------------------

pair_covered : (ops : List VkOp) (places : List ℕ) (index : Index) (x y i j : ℕ) (c d : Command) (t u : Touch) → IndexHolds ops places y index → AreClear index d
    → x < y → slice_get ops x ≡ Some (op.Command c) → slice_get (touches c) i ≡ Some t → slice_get (touches d) j ≡ Some u → touches_conflict t u ≡ true → CoveredBetween ops x y c d t u
pair_covered ops places index x y i j c d t u holds clear lt there first second e =
    let noted : HasTouch index (stages_of c) t (x + 1) (slice_index places x) = holds.noted x c lt there i t first in
    let k : IsTouchClear index (stages_of d) u = clear j u second in
    let s = reaches_meet index.cuts.items t.range u.range noted.reach k.reach noted.reaches k.reaches (meets_of t u e) in
    let wide = (holds.sound.layers noted.number noted.layer noted.there).width in
    let w = s.within in
    let mark : HasMark noted.layer.marks s.place (x + 1) = noted.marked s.place s.from_a s.to_a (omega (arith, wide, w)) in
    let asked = ap (λ f. asks f u) noted.first ∙ asks_of c t u e in
    let below = k.layers noted.number noted.layer noted.there asked s.place (x + 1) s.from_b s.to_b (omega (arith, wide, w)) mark in
    by k.second k.class noted.number noted.layer noted.there noted.first below
  where
    at : (l : Layer) (n : ℕ) → l.first ≡ first_of (stages_of c) t → slice_get index.seconds.items n ≡ Some (second_of (stages_of d) u)
        → x + 1 ≤ slice_index l.lasts.items n → IsLast (covers l.first (second_of (stages_of d) u)) ops y (slice_index l.lasts.items n) → CoveredBetween ops x y c d t u
    at l n is class le last =
        let test = covers l.first (second_of (stages_of d) u) in
        let h = latest test ops x y (slice_index l.lasts.items n) le last in
        let b = barrier_behind test ops x y (slice_index l.lasts.items n) c there le last.below h in
        record {
          place = h.place;
          barrier = h.barrier;
          behind = b.0;
          before = b.1;
          there = h.there;
          covers_it = sym (ap (λ f. covers f (second_of (stages_of d) u) h.barrier) is) ∙ h.passes;
        }

    by : (second : Option ℕ) → IfSome second (λ n. slice_get index.seconds.items n ≡ Some (second_of (stages_of d) u)) → (number : ℕ) (l : Layer) → slice_get index.layers.items number ≡ Some l
        → l.first ≡ first_of (stages_of c) t → x + 1 ≤ last_of l second → CoveredBetween ops x y c d t u
    by None class number l e is le = absurd (omega (arith, le))
    by (Some n) class number l e is le = at l n is class le ((holds.lasts number l e).lasts n (second_of (stages_of d) u) class)

false_of : (a b : Bool) → (a ≡ true → b ≡ true) → (a && not b) ≡ false
false_of false b h = refl
false_of true b h = ap not (h refl)

both_true : (x y : Bool) → x ≡ true → y ≡ true → (x && y) ≡ true
both_true x y e f = ap (λ b. b && y) e ∙ f

commands_closed : (ops : List VkOp) (places : List ℕ) (index : Index) (x y : ℕ) (c d : Command) → IndexHolds ops places y index → AreClear index d → x < y
    → slice_get ops x ≡ Some (op.Command c) → open_pair ops x y (op.Command c) (op.Command d) ≡ false
commands_closed ops places index x y c d holds clear lt there =
    false_of (lists_conflict (touches c) (touches d)) (list_any (op_orders c d) (between ops x y) && each_pair (commands_visible (between ops x y) c d) (touches c) (touches d))
    (λ e.
    let k = conflicting (touches c) (touches d) e in
    let covered = pair_covered ops places index x y k.i k.j c d k.t k.u holds clear lt there k.first k.second k.conflict in
    both_true (list_any (op_orders c d) (between ops x y)) (each_pair (commands_visible (between ops x y) c d) (touches c) (touches d))
    (orders_between ops x y c d k.t k.u covered)
    (pass_pairs (commands_visible (between ops x y) c d) (touches c) (touches d)
    (λ i j t u first second. visible_between ops x y c d t u (pair_covered ops places index x y i j c d t u holds clear lt there first second))))

-- A command and the host ---------------------------------------------------------------------------------------------------

-- the command is finished by a fence before y
fenced_before : (ops : List VkOp) (x y place : ℕ) → y < 2 ^ 32 → place < y → IsFinishedBy ops x place → is_fenced (submission_of ops x) (between ops x y) ≡ true
fenced_before ops x y place few lt (inl never) = absurd (omega (arith, never, lt, few))
fenced_before ops x y place few lt (inr f) =
    ap (λ s. is_fenced s (between ops x y)) f.submitted
    ∙ any_between (op_finishes f.submission) ops x place y (op.Fence f.number) f.behind lt f.fence (le-leb f.submission f.number f.enough)

one_touch : (r : Touch) (j : ℕ) (u : Touch) → slice_get (r ∷ []) j ≡ Some u → r ≡ u
one_touch r zero u e = cc e
one_touch r (suc j) u e = absurd (none j e)
  where
    none : (j : ℕ) → slice_get [] j ≡ Some u → ⊥
    none zero e = cc e
    none (suc j) e = cc e

write_closed : (ops : List VkOp) (places : List ℕ) (index : Index) (x y : ℕ) (c : Command) (r : Range) (call : ℕ) → AreFinished ops places → y < 2 ^ 32 → IndexHolds ops places y index
    → IsWriteClear index y r → x < y → slice_get ops x ≡ Some (op.Command c) → open_pair ops x y (op.Command c) (op.HostWrite r call) ≡ false
write_closed ops places index x y c r call finished few holds clear lt there =
    false_of (lists_conflict (touches c) (host_write_touch r ∷ [])) (is_fenced (submission_of ops x) (between ops x y) && true)
    (λ e.
    let k = conflicting (touches c) (host_write_touch r ∷ []) e in
    let noted : HasTouch index (stages_of c) k.t (x + 1) (slice_index places x) = holds.noted x c lt there k.i k.t k.first in
    let u_is : host_write_touch r ≡ k.u = one_touch (host_write_touch r) k.j k.u k.second in
    let meet : meets k.t.range r ≡ true = ap (λ (u : Touch). meets k.t.range u.range) u_is ∙ meets_of k.t k.u k.conflict in
    let s = reaches_meet index.cuts.items k.t.range r noted.reach clear.reach noted.reaches clear.reaches meet in
    let wide = holds.sound.touched.width in
    let w = s.within in
    let mark = noted.touched clear.hosted s.place s.from_a s.to_a (omega (arith, wide, w)) in
    let below = clear.finished s.place (slice_index places x) s.from_b s.to_b (omega (arith, wide, w)) mark in
    both_true (is_fenced (submission_of ops x) (between ops x y)) true (fenced_before ops x y (slice_index places x) few below (finished.each x c there)) refl)

-- what the host reads and the touch conflicts with, the touch writes
writes_of_read : (t : Touch) (r : Range) → touches_conflict t (host_read_touch r) ≡ true → has_write t.access ≡ true
writes_of_read t r e =
    elim (or_cases (has_write t.access) (has_write (host_read_touch r).access) (and_parts (has_write t.access || has_write (host_read_touch r).access) (meets t.range r) e).0) [
      | inl w ↦ w
      | inr miss ↦ let k : false ≡ true = miss in absurd (cc k)
    ]

read_shown : (ops : List VkOp) (places : List ℕ) (index : Index) (x y i : ℕ) (c : Command) (t : Touch) (r : Range) → IndexHolds ops places y index → IsReadClear index y r → x < y
    → slice_get ops x ≡ Some (op.Command c) → slice_get (touches c) i ≡ Some t → touches_conflict t (host_read_touch r) ≡ true → ShownBetween ops x y c t
read_shown ops places index x y i c t r holds clear lt there first e =
    let noted : HasTouch index (stages_of c) t (x + 1) (slice_index places x) = holds.noted x c lt there i t first in
    let s = reaches_meet index.cuts.items t.range r noted.reach clear.reach noted.reaches clear.reaches (meets_of t (host_read_touch r) e) in
    let wide = (holds.sound.layers noted.number noted.layer noted.there).width in
    let w = s.within in
    let l = noted.layer in
    let mark : HasMark l.marks s.place (x + 1) = noted.marked s.place s.from_a s.to_a (omega (arith, wide, w)) in
    let written : IsSome l.first.written = subst (λ (o : Option Stage). IsSome o) (sym (ap (λ f. f.written) noted.first ∙ ap (λ (v : Bool). cond v (Some t.stage) None) (writes_of_read t r e))) refl in
    let below : x + 1 ≤ l.to_host = clear.layers noted.number l noted.there written s.place (x + 1) s.from_b s.to_b (omega (arith, wide, w)) mark in
    let last = (holds.lasts noted.number l noted.there).host in
    let h = latest (shows_host l.first) ops x y l.to_host below last in
    let b = barrier_behind (shows_host l.first) ops x y l.to_host c there below last.below h in
    record {
      place = h.place;
      barrier = h.barrier;
      behind = b.0;
      before = b.1;
      there = h.there;
      shows_it = sym (ap (λ f. shows_host f h.barrier) noted.first) ∙ h.passes;
    }

read_closed : (ops : List VkOp) (places : List ℕ) (index : Index) (x y : ℕ) (c : Command) (r : Range) (call : ℕ) → AreFinished ops places → y < 2 ^ 32 → IndexHolds ops places y index
    → IsReadClear index y r → x < y → slice_get ops x ≡ Some (op.Command c) → open_pair ops x y (op.Command c) (op.HostRead r call) ≡ false
read_closed ops places index x y c r call finished few holds clear lt there =
    false_of (lists_conflict (touches c) (host_read_touch r ∷ []))
    (is_fenced (submission_of ops x) (between ops x y) && each_pair (host_visible (between ops x y)) (touches c) (host_read_touch r ∷ []))
    (λ e.
    let k = conflicting (touches c) (host_read_touch r ∷ []) e in
    let noted : HasTouch index (stages_of c) k.t (x + 1) (slice_index places x) = holds.noted x c lt there k.i k.t k.first in
    let u_is : host_read_touch r ≡ k.u = one_touch (host_read_touch r) k.j k.u k.second in
    let conflict : touches_conflict k.t (host_read_touch r) ≡ true = ap (touches_conflict k.t) u_is ∙ k.conflict in
    let s = reaches_meet index.cuts.items k.t.range r noted.reach clear.reach noted.reaches clear.reaches (meets_of k.t (host_read_touch r) conflict) in
    let wide = holds.sound.written.width in
    let w = s.within in
    let mark = noted.written clear.hosted (writes_of_read k.t r conflict) s.place s.from_a s.to_a (omega (arith, wide, w)) in
    let below = clear.finished s.place (slice_index places x) s.from_b s.to_b (omega (arith, wide, w)) mark in
    both_true (is_fenced (submission_of ops x) (between ops x y)) (each_pair (host_visible (between ops x y)) (touches c) (host_read_touch r ∷ []))
    (fenced_before ops x y (slice_index places x) few below (finished.each x c there))
    (pass_pairs (host_visible (between ops x y)) (touches c) (host_read_touch r ∷ [])
    (λ i j t u first second.
    let is : host_read_touch r ≡ u = one_touch (host_read_touch r) j u second in
    host_visible_between ops x y c t u (λ z. read_shown ops places index x y i c t r holds clear lt there first (ap (touches_conflict t) is ∙ z)))))

no_touch : (ts : List Touch) (b : Bool) → (lists_conflict ts [] && b) ≡ false
no_touch [] b = refl
no_touch (t ∷ ts) b = no_touch ts b

-- Each earlier operation ---------------------------------------------------------------------------------------------------

closed : (ops : List VkOp) (places : List ℕ) (index : Index) (x y : ℕ) (c : Command) (p : VkOp) → AreFinished ops places → y < 2 ^ 32 → IndexHolds ops places y index → IsClear index y p
    → x < y → slice_get ops x ≡ Some (op.Command c) → open_pair ops x y (op.Command c) p ≡ false
closed ops places index x y c (op.HostWrite r call) f few h k lt e = write_closed ops places index x y c r call f few h k lt e
closed ops places index x y c (op.Pipeline shader) f few h k lt e = no_touch (touches c) (not (sides_ordered ops x y (side (op.Command c)) (side (op.Pipeline shader)) && true))
closed ops places index x y c (op.Barrier barrier) f few h k lt e = no_touch (touches c) (not (sides_ordered ops x y (side (op.Command c)) (side (op.Barrier barrier)) && true))
closed ops places index x y c (op.Command d) f few h k lt e = commands_closed ops places index x y c d h k lt e
closed ops places index x y c (op.Submit j) f few h k lt e = no_touch (touches c) (not (sides_ordered ops x y (side (op.Command c)) (side (op.Submit j)) && true))
closed ops places index x y c (op.Fence j) f few h k lt e = no_touch (touches c) (not (sides_ordered ops x y (side (op.Command c)) (side (op.Fence j)) && true))
closed ops places index x y c (op.HostRead r call) f few h k lt e = read_closed ops places index x y c r call f few h k lt e

by_first : (ops : List VkOp) (places : List ℕ) (index : Index) (x y : ℕ) (o p : VkOp) → AreFinished ops places → y < 2 ^ 32 → IndexHolds ops places y index → IsClear index y p
    → slice_get ops y ≡ Some p → x < y → slice_get ops x ≡ Some o → uncovered ops x y ≡ false
by_first ops places index x y (op.HostWrite r call) p f few h k there lt e = others_closed ops x y (op.HostWrite r call) e (λ c z. absurd (cc z))
by_first ops places index x y (op.Pipeline shader) p f few h k there lt e = others_closed ops x y (op.Pipeline shader) e (λ c z. absurd (cc z))
by_first ops places index x y (op.Barrier barrier) p f few h k there lt e = others_closed ops x y (op.Barrier barrier) e (λ c z. absurd (cc z))
by_first ops places index x y (op.Command c) p f few h k there lt e = uncovered_at ops x y (op.Command c) p lt e there ∙ closed ops places index x y c p f few h k lt e
by_first ops places index x y (op.Submit j) p f few h k there lt e = others_closed ops x y (op.Submit j) e (λ c z. absurd (cc z))
by_first ops places index x y (op.Fence j) p f few h k there lt e = others_closed ops x y (op.Fence j) e (λ c z. absurd (cc z))
by_first ops places index x y (op.HostRead r call) p f few h k there lt e = others_closed ops x y (op.HostRead r call) e (λ c z. absurd (cc z))

pub all_closed : (ops : List VkOp) (places : List ℕ) (index : Index) (y : ℕ) (p : VkOp) → length ops < 2 ^ 32 → AreFinished ops places → IndexHolds ops places y index → IsClear index y p
    → slice_get ops y ≡ Some p → (x : ℕ) → uncovered ops x y ≡ false
all_closed ops places index y p few finished holds clear there x =
    let w = slice_get_within ops y p there in
    elim (cases_lt x y) [
      | inr ge ↦ backward ops x y ge
      | inl lt ↦
          let o = get_or ops x p in
          by_first ops places index x y o p finished (omega (arith, w, few)) holds clear there lt (slice_get-get_or ops x p (omega (arith, lt, w)))
    ]
