-- A pair that is open by what stands between its operations is an uncovered hazard of the listing.
use Rattle.std.proofs.Common.{◌≡◌, ℕ, suc, ◌+◌, ◌-◌, ◌<◌, ◌≤◌, Bool, true, false, not, ◌&&◌, ◌||◌, ◌==◌, nat_lt, List, [], ◌∷◌, length, take, drop, refl, sym, ap, ◌∙◌, inl, inr, Some, slice_get, get_or, add-one, arith}
use Rattle.std.specs.List.{list_any}
use Rattle.std.proofs.lemmas.Bool.{lt-ltb, cases_lt, le-ltb}
use Rattle.std.proofs.lemmas.Option.{slice_get_past, slice_get-get_or}
use Rattle.dx_types.specs.declared.range.Range.{Range}
use Rattle.vk_types.specs.declared.touch.Touch.{Touch}
use Rattle.vk_types.specs.declared.command.Command.{Command}
use Rattle.vk_types.specs.declared.op.VkOp.{VkOp}
use Rattle.vk_types.specs.declared.op.VkOp.TheVariants as op
use Rattle.base_lemmas.specs.Lists.{all_pass}
use Rattle.vk_types.specs.Memory.{meets}
use Rattle.vk_types.specs.Hazards.{touches, has_write, touches_conflict, lists_conflict, host_write_touch, host_read_touch}
use Rattle.vk_types.specs.Listing.{between, op_touches, touches_if, touches_at, submission_of}
use Rattle.vk_types.specs.Before.{is_fenced, side, side_of, side_at, sides_ordered, before}
use Rattle.vk_types.specs.Covered.{visible, visible_at, visible_if, host_visible, each_pair, uncovered, Covered}
use Rattle.vk_order.specs.Asks.{is_pair_open, is_command_open}

pub and_false : (x : Bool) → (x && false) ≡ false
and_false true = refl
and_false false = refl

and_true : (x : Bool) → (x && true) ≡ x
and_true true = refl
and_true false = refl

or_false : (x : Bool) → (x || false) ≡ x
or_false true = refl
or_false false = refl

or_swap : (x y : Bool) → (x || y) ≡ (y || x)
or_swap true true = refl
or_swap true false = refl
or_swap false true = refl
or_swap false false = refl

and_swap : (x y : Bool) → (x && y) ≡ (y && x)
and_swap true true = refl
and_swap true false = refl
and_swap false true = refl
and_swap false false = refl

eq_swap : (m n : ℕ) → (m == n) ≡ (n == m)
eq_swap m n = grind arith

meets_swap : (r s : Range) → meets r s ≡ meets s r
meets_swap r s =
    ap (λ b. b && ((nat_lt r.from s.to && nat_lt s.from r.to) && (nat_lt r.from r.to && nat_lt s.from s.to))) (eq_swap r.block s.block)
    ∙ (ap (λ b. (s.block == r.block) && (b && (nat_lt r.from r.to && nat_lt s.from s.to))) (and_swap (nat_lt r.from s.to) (nat_lt s.from r.to))
    ∙ ap (λ b. (s.block == r.block) && ((nat_lt s.from r.to && nat_lt r.from s.to) && b)) (and_swap (nat_lt r.from r.to) (nat_lt s.from s.to)))

conflict_swap : (t u : Touch) → touches_conflict t u ≡ touches_conflict u t
conflict_swap t u =
    ap (λ b. b && meets t.range u.range) (or_swap (has_write t.access) (has_write u.access))
    ∙ ap (λ b. (has_write u.access || has_write t.access) && b) (meets_swap t.range u.range)

-- against one touch
conflict_one : (ts : List Touch) (u : Touch) → lists_conflict ts (u ∷ []) ≡ list_any (touches_conflict u) ts
conflict_one [] u = refl
conflict_one (t ∷ ts) u =
    ap (λ b. b || lists_conflict ts (u ∷ [])) (or_false (touches_conflict t u) ∙ conflict_swap t u) ∙ ap (λ b. touches_conflict u t || b) (conflict_one ts u)

conflict_none : (ts : List Touch) → lists_conflict ts [] ≡ false
conflict_none [] = refl
conflict_none (t ∷ ts) = conflict_none ts

visible_one : (mid : List VkOp) (u : Touch) (ts : List Touch) → each_pair (host_visible mid) ts (u ∷ []) ≡ all_pass (λ t. host_visible mid t u) ts
visible_one mid u [] = refl
visible_one mid u (t ∷ ts) =
    ap (λ b. b && each_pair (host_visible mid) ts (u ∷ [])) (and_true (host_visible mid t u)) ∙ ap (λ b. host_visible mid t u && b) (visible_one mid u ts)

-- a hazard that is not covered, of the operations at two places
abbrev pub open_pair : List VkOp → ℕ → ℕ → VkOp → VkOp → Bool
open_pair ops x y o p = lists_conflict (op_touches o) (op_touches p) && not (sides_ordered ops x y (side o) (side p) && visible (between ops x y) o p)

of_command : (ops : List VkOp) (x y : ℕ) (c : Command) (p : VkOp) → is_command_open (drop (suc x) ops) (between ops x y) c p ≡ open_pair ops x y (op.Command c) p
of_command ops x y c (op.HostWrite r call) =
    sym (ap (λ b. b && not (is_fenced (submission_of ops x) (between ops x y) && true)) (conflict_one (touches c) (host_write_touch r))
    ∙ ap (λ b. list_any (touches_conflict (host_write_touch r)) (touches c) && not b) (and_true (is_fenced (submission_of ops x) (between ops x y))))
of_command ops x y c (op.Pipeline shader) = sym (ap (λ b. b && not (false && true)) (conflict_none (touches c)))
of_command ops x y c (op.Barrier barrier) = sym (ap (λ b. b && not (false && true)) (conflict_none (touches c)))
of_command ops x y c (op.Command d) = refl
of_command ops x y c (op.Submit k) = sym (ap (λ b. b && not (false && true)) (conflict_none (touches c)))
of_command ops x y c (op.Fence k) = sym (ap (λ b. b && not (false && true)) (conflict_none (touches c)))
of_command ops x y c (op.HostRead r call) =
    sym (ap (λ b. b && not (is_fenced (submission_of ops x) (between ops x y) && each_pair (host_visible (between ops x y)) (touches c) (host_read_touch r ∷ []))) (conflict_one (touches c) (host_read_touch r))
    ∙ ap (λ b. list_any (touches_conflict (host_read_touch r)) (touches c) && not (is_fenced (submission_of ops x) (between ops x y) && b)) (visible_one (between ops x y) (host_read_touch r) (touches c)))

of_pair : (ops : List VkOp) (x y : ℕ) (o p : VkOp) → is_pair_open (drop (suc x) ops) (between ops x y) o p ≡ open_pair ops x y o p
of_pair ops x y (op.HostWrite r call) (op.HostWrite s d) = sym (and_false (lists_conflict (op_touches (op.HostWrite r call)) (op_touches (op.HostWrite s d))))
of_pair ops x y (op.HostWrite r call) (op.Pipeline shader) = refl
of_pair ops x y (op.HostWrite r call) (op.Barrier barrier) = refl
of_pair ops x y (op.HostWrite r call) (op.Command d) = sym (and_false (lists_conflict (op_touches (op.HostWrite r call)) (touches d)))
of_pair ops x y (op.HostWrite r call) (op.Submit k) = refl
of_pair ops x y (op.HostWrite r call) (op.Fence k) = refl
of_pair ops x y (op.HostWrite r call) (op.HostRead s d) = sym (and_false (lists_conflict (op_touches (op.HostWrite r call)) (op_touches (op.HostRead s d))))
of_pair ops x y (op.Pipeline shader) p = refl
of_pair ops x y (op.Barrier barrier) p = refl
of_pair ops x y (op.Command c) p = of_command ops x y c p
of_pair ops x y (op.Submit k) p = refl
of_pair ops x y (op.Fence k) p = refl
of_pair ops x y (op.HostRead r call) (op.HostWrite s d) = sym (and_false (lists_conflict (op_touches (op.HostRead r call)) (op_touches (op.HostWrite s d))))
of_pair ops x y (op.HostRead r call) (op.Pipeline shader) = refl
of_pair ops x y (op.HostRead r call) (op.Barrier barrier) = refl
of_pair ops x y (op.HostRead r call) (op.Command d) = sym (and_false (lists_conflict (op_touches (op.HostRead r call)) (touches d)))
of_pair ops x y (op.HostRead r call) (op.Submit k) = refl
of_pair ops x y (op.HostRead r call) (op.Fence k) = refl
of_pair ops x y (op.HostRead r call) (op.HostRead s d) = sym (and_false (lists_conflict (op_touches (op.HostRead r call)) (op_touches (op.HostRead s d))))

pub uncovered_at : (ops : List VkOp) (x y : ℕ) (o p : VkOp) → x < y → slice_get ops x ≡ Some o → slice_get ops y ≡ Some p → uncovered ops x y ≡ open_pair ops x y o p
uncovered_at ops x y o p lt e f =
    let there = lt-ltb x y lt in
    ap (λ b. (b && lists_conflict (touches_at ops x) (touches_at ops y)) && not ((b && sides_ordered ops x y (side_at ops x) (side_at ops y)) && visible_at ops x y)) there
    ∙ (ap (λ a. lists_conflict (touches_if a) (touches_at ops y) && not (sides_ordered ops x y (side_of a) (side_at ops y) && visible_if (between ops x y) a (slice_get ops y))) e
    ∙ ap (λ a. lists_conflict (op_touches o) (touches_if a) && not (sides_ordered ops x y (side o) (side_of a) && visible_if (between ops x y) (Some o) a)) f)

pub open_is : (ops : List VkOp) (x y : ℕ) (o p : VkOp) → x < y → slice_get ops x ≡ Some o → slice_get ops y ≡ Some p
    → is_pair_open (drop (x + 1) ops) (take (y - (x + 1)) (drop (x + 1) ops)) o p ≡ uncovered ops x y
open_is ops x y o p lt e f =
    let one : x + 1 ≡ suc x = add-one x in
    ap (λ n. is_pair_open (drop n ops) (take (y - n) (drop n ops)) o p) one ∙ of_pair ops x y o p ∙ sym (uncovered_at ops x y o p lt e f)

-- a pair is open only where the first stands before the second, and the second is there
pub backward : (ops : List VkOp) (x y : ℕ) → y ≤ x → uncovered ops x y ≡ false
backward ops x y le = ap (λ b. (b && lists_conflict (touches_at ops x) (touches_at ops y)) && not (before ops x y && visible_at ops x y)) (le-ltb x y le)

pub past_end : (ops : List VkOp) (x y : ℕ) → length ops ≤ y → uncovered ops x y ≡ false
past_end ops x y le =
    let none = slice_get_past ops y le in
    ap (λ b. b && not (before ops x y && visible_at ops x y))
    (ap (λ a. nat_lt x y && lists_conflict (touches_at ops x) (touches_if a)) none ∙ (ap (λ b. nat_lt x y && b) (conflict_none (touches_at ops x)) ∙ and_false (nat_lt x y)))

pub all_seconds : (ops : List VkOp) (n : ℕ) → length ops ≤ n → ((x y : ℕ) → y < n → uncovered ops x y ≡ false) → Covered ops
all_seconds ops n le h x y = elim (cases_lt y n) [ inl l ↦ h x y l | inr g ↦ past_end ops x y (omega (arith, le, g)) ]

-- only a command is open to what stands behind it
pub others_closed : (ops : List VkOp) (x y : ℕ) (o : VkOp) → slice_get ops x ≡ Some o → ((c : Command) → o ≡ op.Command c → ⊥) → uncovered ops x y ≡ false
others_closed ops x y o e n =
    elim (cases_lt x y) [
      | inr ge ↦ backward ops x y ge
      | inl l ↦ elim (cases_lt y (length ops)) [
        | inr past ↦ past_end ops x y past
        | inl within ↦
            let p = get_or ops y o in
            sym (open_is ops x y o p l e (slice_get-get_or ops y o within)) ∙ closed (drop (x + 1) ops) (take (y - (x + 1)) (drop (x + 1) ops)) o p n
      ]
    ]
  where
    closed : (rest mid : List VkOp) (o p : VkOp) → ((c : Command) → o ≡ op.Command c → ⊥) → is_pair_open rest mid o p ≡ false
    closed rest mid (op.HostWrite r call) p n = refl
    closed rest mid (op.Pipeline shader) p n = refl
    closed rest mid (op.Barrier barrier) p n = refl
    closed rest mid (op.Command c) p n = absurd (n c refl)
    closed rest mid (op.Submit k) p n = refl
    closed rest mid (op.Fence k) p n = refl
    closed rest mid (op.HostRead r call) p n = refl
