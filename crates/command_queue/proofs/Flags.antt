-- What the flags are once one operation more was seen.
use Rattle.std.proofs.Common.{◌≡◌, ℕ, zero, suc, ◌+◌, ◌-◌, ◌<◌, ◌≤◌, Bool, true, false, cond, not, ◌&&◌, ◌||◌, List, [], ◌∷◌, ◌++◌, length, get_or, set, replicate, Some, None, refl, sym, ap, subst, ◌∙◌, inl, inr, arith}
use Rattle.std.specs.Prelude.{◌==◌, nat_lt}
use Rattle.std.specs.List.{list_any}
use Rattle.std.proofs.lemmas.Bool.{cases_eq, cases_lt, eq-eqb, ne_eqb, lt-ltb, le-ltb, or_parts}
use Rattle.std.proofs.lemmas.List.{get_or-set_same, get_or-set_other, get_or-replicate, length-replicate, length-set}
use Rattle.base_lemmas.specs.Lists.{numbers_from}
use Rattle.vk_types.specs.declared.access.Mask.{Mask}
use Rattle.vk_types.specs.declared.command.Command as c
use Rattle.vk_types.specs.declared.op.Barrier.{Barrier}
use Rattle.vk_types.specs.declared.op.VkOp.{VkOp}
use Rattle.vk_types.specs.declared.op.VkOp.TheVariants as op
use Rattle.command_queue.specs.declared.queue.Listed.{Listed}
use Rattle.command_queue.specs.Readiness.{barrier_of, command_of, is_command, is_held_back, is_left, is_ready, is_ready_op, left_command}
use Rattle.command_queue.specs.StageSets.{stage_set, names_set, is_left_set_op, waits, op_orders_sets, op_holds_set, holds_set, some_waits, Stands}
use Rattle.command_queue.proofs.Sets.{any_same, set_small, held_is, not_ready_op}

-- One more in a list --------------------------------------------------------------------------------------------------------

or_assoc : (x y z : Bool) → ((x || y) || z) ≡ (x || (y || z))
or_assoc true y z = refl
or_assoc false y z = refl

or_none : (x : Bool) → (x || false) ≡ x
or_none true = refl
or_none false = refl

and_none : (x : Bool) → (x && false) ≡ false
and_none true = refl
and_none false = refl

pub any_push : {A : Type 0} (p : A → Bool) (xs : List A) (y : A) → list_any p (xs ++ y ∷ []) ≡ (list_any p xs || p y)
any_push p [] y = or_none (p y)
any_push p (x ∷ xs) y = ap (λ v. p x || v) (any_push p xs y) ∙ sym (or_assoc (p x) (list_any p xs) (p y))

waits_push : (front : List Listed) (s : Listed) (set : ℕ) → waits (front ++ s ∷ []) set ≡ (waits front set || (not s.ran && is_left_set_op s.op set))
waits_push front s set = any_push (λ (t : Listed). not t.ran && is_left_set_op t.op set) front s

-- the command, if it is one, is ordered before this set by the operation
abbrev op_then : VkOp → VkOp → ℕ → Bool
op_then (op.HostWrite r call) o set = false
op_then (op.Pipeline shader) o set = false
op_then (op.Barrier barrier) o set = false
op_then (op.Command command) o set = op_orders_sets (stage_set command) set o
op_then (op.Submit k) o set = false
op_then (op.Fence k) o set = false
op_then (op.HostRead r call) o set = false

abbrev holds_then : List Listed → VkOp → ℕ → Bool
holds_then front o set = list_any (λ (t : Listed). not t.ran && op_then t.op o set) front

op_push : (o : VkOp) (between : List Listed) (s : Listed) (set : ℕ) → op_holds_set o (between ++ s ∷ []) set ≡ (op_holds_set o between set || op_then o s.op set)
op_push (op.HostWrite r call) between s set = refl
op_push (op.Pipeline shader) between s set = refl
op_push (op.Barrier barrier) between s set = refl
op_push (op.Command command) between s set = any_push (λ (t : Listed). op_orders_sets (stage_set command) set t.op) between s
op_push (op.Submit k) between s set = refl
op_push (op.Fence k) between s set = refl
op_push (op.HostRead r call) between s set = refl

op_alone : (o : VkOp) (set : ℕ) → op_holds_set o [] set ≡ false
op_alone (op.HostWrite r call) set = refl
op_alone (op.Pipeline shader) set = refl
op_alone (op.Barrier barrier) set = refl
op_alone (op.Command command) set = refl
op_alone (op.Submit k) set = refl
op_alone (op.Fence k) set = refl
op_alone (op.HostRead r call) set = refl

spread : (r x y h n : Bool) → ((r && (x || y)) || (h || n)) ≡ (((r && x) || h) || ((r && y) || n))
spread true true y h n = refl
spread true false true true n = refl
spread true false true false n = refl
spread true false false h n = refl
spread false x y h n = refl

holds_push : (front : List Listed) (s : Listed) (set : ℕ) → holds_set (front ++ s ∷ []) set ≡ (holds_set front set || holds_then front s.op set)
holds_push [] s set = or_none (not s.ran && op_holds_set s.op [] set) ∙ ap (λ v. not s.ran && v) (op_alone s.op set) ∙ and_none (not s.ran)
holds_push (t ∷ ts) s set =
    ap (λ v. (not t.ran && v) || holds_set (ts ++ s ∷ []) set) (op_push t.op ts s set)
    ∙ ap (λ v. (not t.ran && (op_holds_set t.op ts set || op_then t.op s.op set)) || v) (holds_push ts s set)
    ∙ spread (not t.ran) (op_holds_set t.op ts set) (op_then t.op s.op set) (holds_set ts set) (holds_then ts s.op set)

-- What is no barrier holds nothing back --------------------------------------------------------------------------------------

then_none : (o p : VkOp) (set : ℕ) → ((first : ℕ) → op_orders_sets first set p ≡ false) → op_then o p set ≡ false
then_none (op.HostWrite r call) p set none = refl
then_none (op.Pipeline shader) p set none = refl
then_none (op.Barrier barrier) p set none = refl
then_none (op.Command command) p set none = none (stage_set command)
then_none (op.Submit k) p set none = refl
then_none (op.Fence k) p set none = refl
then_none (op.HostRead r call) p set none = refl

holds_none : (front : List Listed) (p : VkOp) (set : ℕ) → ((first : ℕ) → op_orders_sets first set p ≡ false) → holds_then front p set ≡ false
holds_none [] p set none = refl
holds_none (t ∷ ts) p set none =
    ap (λ v. (not t.ran && v) || holds_then ts p set) (then_none t.op p set none) ∙ ap (λ v. v || holds_then ts p set) (and_none (not t.ran)) ∙ holds_none ts p set none

-- neither a command that is left nor a barrier
pub stands_other : (front : List Listed) (s : Listed) (waiting held : List Bool) → ((set : ℕ) → (not s.ran && is_left_set_op s.op set) ≡ false)
    → ((first set : ℕ) → op_orders_sets first set s.op ≡ false) → Stands front waiting held → Stands (front ++ s ∷ []) waiting held
stands_other front s waiting held no_command no_barrier h = record {
  wide = h.wide;
  waiting = λ set lt. h.waiting set lt ∙ sym (waits_push front s set ∙ ap (λ v. waits front set || v) (no_command set) ∙ or_none (waits front set));
  held = λ set lt. h.held set lt
      ∙ sym (holds_push front s set ∙ ap (λ v. holds_set front set || v) (holds_none front s.op set (λ first. no_barrier first set)) ∙ or_none (holds_set front set));
}

pub stands_new : Stands [] (replicate 16 false) (replicate 16 false)
stands_new = record {
  wide = (length-replicate 16 false, length-replicate 16 false);
  waiting = λ set lt. get_or-replicate 16 set false false lt;
  held = λ set lt. get_or-replicate 16 set false false lt;
}

-- operations of which none is left
pub no_set : (o : VkOp) (ran : Bool) (set : ℕ) → (is_command o && not ran) ≡ false → (not ran && is_left_set_op o set) ≡ false
no_set (op.HostWrite r call) ran set e = and_none (not ran)
no_set (op.Pipeline shader) ran set e = and_none (not ran)
no_set (op.Barrier barrier) ran set e = and_none (not ran)
no_set (op.Command command) true set e = refl
no_set (op.Command command) false set e = absurd (cc e)
no_set (op.Submit k) ran set e = and_none (not ran)
no_set (op.Fence k) ran set e = and_none (not ran)
no_set (op.HostRead r call) ran set e = and_none (not ran)

none_waits : (xs : List Listed) (set : ℕ) → list_any is_left xs ≡ false → waits xs set ≡ false
none_waits [] set e = refl
none_waits (x ∷ xs) set e =
    let p = or_parts (is_left x) (list_any is_left xs) e in
    ap (λ v. v || waits xs set) (no_set x.op x.ran set p.0) ∙ none_waits xs set p.1

no_hold : (o : VkOp) (ran : Bool) (between : List Listed) (set : ℕ) → (is_command o && not ran) ≡ false → (not ran && op_holds_set o between set) ≡ false
no_hold (op.HostWrite r call) ran between set e = and_none (not ran)
no_hold (op.Pipeline shader) ran between set e = and_none (not ran)
no_hold (op.Barrier barrier) ran between set e = and_none (not ran)
no_hold (op.Command command) true between set e = refl
no_hold (op.Command command) false between set e = absurd (cc e)
no_hold (op.Submit k) ran between set e = and_none (not ran)
no_hold (op.Fence k) ran between set e = and_none (not ran)
no_hold (op.HostRead r call) ran between set e = and_none (not ran)

none_holds : (xs : List Listed) (set : ℕ) → list_any is_left xs ≡ false → holds_set xs set ≡ false
none_holds [] set e = refl
none_holds (x ∷ xs) set e =
    let p = or_parts (is_left x) (list_any is_left xs) e in
    ap (λ v. v || holds_set xs set) (no_hold x.op x.ran xs set p.0) ∙ none_holds xs set p.1

pub stands_none : (xs : List Listed) (waiting held : List Bool) → list_any is_left xs ≡ false → Stands [] waiting held → Stands xs waiting held
stands_none xs waiting held e h = record {
  wide = h.wide;
  waiting = λ set lt. h.waiting set lt ∙ sym (none_waits xs set e);
  held = λ set lt. h.held set lt ∙ sym (none_holds xs set e);
}

-- A command that is left ------------------------------------------------------------------------------------------------------

-- a flag that is set
pub get_set : (ws : List Bool) (i k : ℕ) → i < length ws → get_or (set ws i true) k false ≡ (get_or ws k false || (i == k))
get_set ws i k lt =
    elim (cases_eq k i) [
      | inl e ↦
          ap (λ n. get_or (set ws i true) n false) e ∙ get_or-set_same ws i true false lt
          ∙ sym (ap (λ v. get_or ws k false || v) (eq-eqb i k (sym e)) ∙ or_true (get_or ws k false))
      | inr ne ↦
          get_or-set_other ws i k true false ne
          ∙ sym (ap (λ v. get_or ws k false || v) (ne_eqb i k (λ e. ne (sym e))) ∙ or_none (get_or ws k false))
    ]
  where
    or_true : (b : Bool) → (b || true) ≡ true
    or_true true = refl
    or_true false = refl

pub stands_command : (front : List Listed) (s : Listed) (d : c.Command) (waiting held : List Bool) → s.op ≡ op.Command d → s.ran ≡ false → Stands front waiting held → Stands (front ++ s ∷ []) (set waiting (stage_set d) true) held
stands_command front s d waiting held is ran h = record {
  wide = (length-set waiting (stage_set d) true ∙ h.wide.0, h.wide.1);
  waiting = λ k lt. get_set waiting (stage_set d) k (let small = set_small d in let wide = h.wide.0 in omega (arith, wide, small)) ∙ ap (λ v. v || (stage_set d == k)) (h.waiting k lt)
      ∙ ap (λ v. waits front k || v) (sym (ap (λ r. not r && is_left_set_op s.op k) ran ∙ ap (λ o. is_left_set_op o k) is)) ∙ sym (waits_push front s k);
  held = λ k lt. h.held k lt ∙ sym (holds_push front s k
      ∙ ap (λ v. holds_set front k || v) (ap (λ o. holds_then front o k) is ∙ holds_none front (op.Command d) k (λ first. refl)) ∙ or_none (holds_set front k));
}

-- A barrier --------------------------------------------------------------------------------------------------------------------

-- a command of these that is left has each of its stages in the mask
abbrev op_named : VkOp → Mask → Bool
op_named (op.HostWrite r call) m = false
op_named (op.Pipeline shader) m = false
op_named (op.Barrier barrier) m = false
op_named (op.Command command) m = names_set m (stage_set command)
op_named (op.Submit k) m = false
op_named (op.Fence k) m = false
op_named (op.HostRead r call) m = false

abbrev named_left : List Listed → Mask → Bool
named_left steps m = list_any (λ (t : Listed). not t.ran && op_named t.op m) steps

none_named : (p : ℕ → Bool) (x first n : ℕ) → x < first → list_any (λ k. (x == k) && p k) (numbers_from first n) ≡ false
none_named p x first zero lt = refl
none_named p x first (suc n) lt =
    ap (λ v. (v && p first) || list_any (λ k. (x == k) && p k) (numbers_from (suc first) n)) (ne_eqb x first (λ e. omega (arith, e, lt)))
    ∙ none_named p x (suc first) n (omega (arith, lt))

one_named : (p : ℕ → Bool) (x first n : ℕ) → first ≤ x → x < first + n → list_any (λ k. (x == k) && p k) (numbers_from first n) ≡ p x
one_named p x first zero le lt = absurd (omega (arith, le, lt))
one_named p x first (suc n) le lt =
    elim (cases_eq x first) [
      | inl e ↦
          ap (λ v. (v && p first) || list_any (λ k. (x == k) && p k) (numbers_from (suc first) n)) (eq-eqb x first e)
          ∙ ap (λ v. p first || v) (none_named p x (suc first) n (omega (arith, e))) ∙ or_none (p first) ∙ ap p (sym e)
      | inr ne ↦
          ap (λ v. (v && p first) || list_any (λ k. (x == k) && p k) (numbers_from (suc first) n)) (ne_eqb x first ne)
          ∙ one_named p x (suc first) n (let apart : x ≡ first → ⊥ = ne in above x first le apart) (omega (arith, lt))
    ]
  where
    above : (a b : ℕ) → b ≤ a → (a ≡ b → ⊥) → suc b ≤ a
    above a b le ne = elim (cases_lt b a) [ inl lt ↦ omega (arith, lt) | inr ge ↦ absurd (ne (omega (arith, le, ge))) ]

share : (a b n : Bool) → ((a || b) && n) ≡ ((a && n) || (b && n))
share true true true = refl
share true false true = refl
share true true false = refl
share true false false = refl
share false b n = refl

any_or : (p q : ℕ → Bool) (ks : List ℕ) → list_any (λ k. p k || q k) ks ≡ (list_any p ks || list_any q ks)
any_or p q [] = refl
any_or p q (k ∷ ks) = ap (λ v. (p k || q k) || v) (any_or p q ks) ∙ mix (p k) (q k) (list_any p ks) (list_any q ks)
  where
    mix : (a b x y : Bool) → ((a || b) || (x || y)) ≡ ((a || x) || (b || y))
    mix true b x y = refl
    mix false true true y = refl
    mix false true false y = refl
    mix false false x y = refl

any_none : (ks : List ℕ) → list_any (λ k. false) ks ≡ false
any_none [] = refl
any_none (k ∷ ks) = any_none ks

op_among : (o : VkOp) (ran : Bool) (m : Mask) → list_any (λ k. (not ran && is_left_set_op o k) && names_set m k) (numbers_from 0 16) ≡ (not ran && op_named o m)
op_among o true m = any_none (numbers_from 0 16)
op_among (op.HostWrite r call) false m = any_none (numbers_from 0 16)
op_among (op.Pipeline shader) false m = any_none (numbers_from 0 16)
op_among (op.Barrier barrier) false m = any_none (numbers_from 0 16)
op_among (op.Command command) false m = one_named (names_set m) (stage_set command) 0 16 (omega arith) (let small = set_small command in omega (arith, small))
op_among (op.Submit k) false m = any_none (numbers_from 0 16)
op_among (op.Fence k) false m = any_none (numbers_from 0 16)
op_among (op.HostRead r call) false m = any_none (numbers_from 0 16)

among_left : (front : List Listed) (m : Mask) → list_any (λ k. waits front k && names_set m k) (numbers_from 0 16) ≡ named_left front m
among_left [] m = any_none (numbers_from 0 16)
among_left (t ∷ ts) m =
    any_same (λ k. waits (t ∷ ts) k && names_set m k) (λ k. ((not t.ran && is_left_set_op t.op k) && names_set m k) || (waits ts k && names_set m k))
    (λ k. share (not t.ran && is_left_set_op t.op k) (waits ts k) (names_set m k)) (numbers_from 0 16)
    ∙ any_or (λ k. (not t.ran && is_left_set_op t.op k) && names_set m k) (λ k. waits ts k && names_set m k) (numbers_from 0 16)
    ∙ ap (λ v. v || list_any (λ k. waits ts k && names_set m k) (numbers_from 0 16)) (op_among t.op t.ran m)
    ∙ ap (λ v. (not t.ran && op_named t.op m) || v) (among_left ts m)

-- only the numbers below sixteen are asked
any_below : (p q : ℕ → Bool) (first n : ℕ) → ((k : ℕ) → k < first + n → p k ≡ q k) → list_any p (numbers_from first n) ≡ list_any q (numbers_from first n)
any_below p q first zero same = refl
any_below p q first (suc n) same =
    ap (λ v. v || list_any p (numbers_from (suc first) n)) (same first (omega arith))
    ∙ ap (λ v. q first || v) (any_below p q (suc first) n (λ k lt. same k (omega (arith, lt))))

waits_named : (front : List Listed) (waiting : List Bool) (m : Mask) → ((k : ℕ) → k < 16 → get_or waiting k false ≡ waits front k) → some_waits waiting m ≡ named_left front m
waits_named front waiting m same =
    any_below (λ k. get_or waiting k false && names_set m k) (λ k. waits front k && names_set m k) 0 16 (λ k lt. ap (λ v. v && names_set m k) (same k (omega (arith, lt))))
    ∙ among_left front m

barrier_then : (o : VkOp) (b : Barrier) (set : ℕ) → op_then o (op.Barrier b) set ≡ (op_named o b.source && names_set b.dest set)
barrier_then (op.HostWrite r call) b set = refl
barrier_then (op.Pipeline shader) b set = refl
barrier_then (op.Barrier barrier) b set = refl
barrier_then (op.Command command) b set = refl
barrier_then (op.Submit k) b set = refl
barrier_then (op.Fence k) b set = refl
barrier_then (op.HostRead r call) b set = refl

together : (r n d w : Bool) → ((r && (n && d)) || (w && d)) ≡ (((r && n) || w) && d)
together true true true w = refl
together true true false true = refl
together true true false false = refl
together true false d w = refl
together false n d w = refl

holds_barrier : (front : List Listed) (b : Barrier) (set : ℕ) → holds_then front (op.Barrier b) set ≡ (named_left front b.source && names_set b.dest set)
holds_barrier [] b set = refl
holds_barrier (t ∷ ts) b set =
    ap (λ v. (not t.ran && v) || holds_then ts (op.Barrier b) set) (barrier_then t.op b set)
    ∙ ap (λ v. (not t.ran && (op_named t.op b.source && names_set b.dest set)) || v) (holds_barrier ts b set)
    ∙ together (not t.ran) (op_named t.op b.source) (names_set b.dest set) (named_left ts b.source)

pub stands_barrier : (front : List Listed) (s : Listed) (b : Barrier) (waiting held after : List Bool) → s.op ≡ op.Barrier b → length after ≡ 16
    → ((set : ℕ) → set < 16 → get_or after set false ≡ (get_or held set false || (some_waits waiting b.source && names_set b.dest set)))
    → Stands front waiting held → Stands (front ++ s ∷ []) waiting after
stands_barrier front s b waiting held after is wide now h = record {
  wide = (h.wide.0, wide);
  waiting = λ k lt. h.waiting k lt ∙ sym (waits_push front s k
      ∙ ap (λ v. waits front k || v) (ap (λ o. not s.ran && is_left_set_op o k) is ∙ and_none (not s.ran)) ∙ or_none (waits front k));
  held = λ k lt. now k lt ∙ ap (λ v. v || (some_waits waiting b.source && names_set b.dest k)) (h.held k lt)
      ∙ ap (λ v. holds_set front k || (v && names_set b.dest k)) (waits_named front waiting b.source h.waiting)
      ∙ ap (λ v. holds_set front k || v) (sym (holds_barrier front b k)) ∙ ap (λ o. holds_set front k || holds_then front o k) (sym is) ∙ sym (holds_push front s k);
}
