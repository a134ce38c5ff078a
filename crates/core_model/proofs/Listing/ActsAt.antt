-- The acts of a listing by their places, and what holds of each pair of them.
use Rattle.std.proofs.Common.{◌≡◌, ℕ, zero, suc, ◌+◌, ◌<◌, true, false, List, [], ◌∷◌, slice_get, Some, refl, sym, ap}
use Rattle.std.proofs.Common.{◌∙◌, arith}
use Rattle.std.specs.List.{AllByRecursion}
use Rattle.std.proofs.lemmas.Bool.{both_ways}
use Rattle.vk_types.specs.declared.op.VkOp.{VkOp}
use Rattle.base_lemmas.specs.Lists.{Pairwise}
use Rattle.vk_types.specs.Effects.{Host_write, Device, Host_read, act_touches}
use Rattle.vk_types.specs.Listing.{is_act, op_touches}
use Rattle.vk_types.specs.Entries.{Counts, Placed, counted, next, after_host, after_barrier, after_submit}
use Rattle.vk_types.specs.Entries.{after_fence, first_of, rest_of, entries_from}
use Rattle.vk_types.specs.declared.op.VkOp.TheVariants as op

-- Acts by their places ----------------------------------------------------------------------------------------------

-- what holds of the act at a place
abbrev Holds : (Placed → Type 0) → ℕ → VkOp → Type 0
Holds P place o = (q : Placed) × (q.place ≡ place) × (act_touches q.entry.act ≡ op_touches o) × P q

pub from_zero : (n : ℕ) → 0 + n ≡ n
from_zero n = omega arith

moved_place : (P : Placed → Type 0) (m n : ℕ) (o : VkOp) → m ≡ n → Holds P m o → Holds P n o
moved_place P m n o e h = (h.0, h.1 ∙ e, h.2, h.3)

later_place : (m x : ℕ) → suc m + x ≡ m + suc x
later_place m x = omega arith

here_place : (m : ℕ) → m ≡ m + 0
here_place m = omega arith

no_act : (p o : VkOp) → Some p ≡ Some o → is_act p ≡ false → is_act o ≡ true → ⊥
no_act p o e f t = let s : p ≡ o = cc e in both_ways (is_act o) (sym (ap is_act s) ∙ f) t

act_here : (P : Placed → Type 0) (q : Placed) (m : ℕ) (p o : VkOp) → Some p ≡ Some o → q.place ≡ m
    → act_touches q.entry.act ≡ op_touches p → P q → Holds P (m + 0) o
act_here P q m p o e f g h = let s : p ≡ o = cc e in (q, f ∙ here_place m, g ∙ ap op_touches s, h)

entry_at : (P : Placed → Type 0) (ops : List VkOp) (c : Counts) (contents : List (List ℕ)) (x : ℕ) (o : VkOp)
    → slice_get ops x ≡ Some o → is_act o ≡ true
    → AllByRecursion P (entries_from c contents ops) → Holds P (c.place + x) o
entry_at P [] c contents x o e t h = absurd (cc e)
entry_at P (op.HostWrite r call ∷ ops) c contents zero o e t h =
    act_here P (counted c (Host_write r (first_of contents))) c.place (op.HostWrite r call) o e refl refl h.0
entry_at P (op.Pipeline shader ∷ ops) c contents zero o e t h = absurd (no_act (op.Pipeline shader) o e refl t)
entry_at P (op.Barrier barrier ∷ ops) c contents zero o e t h = absurd (no_act (op.Barrier barrier) o e refl t)
entry_at P (op.Command command ∷ ops) c contents zero o e t h =
    act_here P (counted c (Device command)) c.place (op.Command command) o e refl refl h.0
entry_at P (op.Submit k ∷ ops) c contents zero o e t h = absurd (no_act (op.Submit k) o e refl t)
entry_at P (op.Fence k ∷ ops) c contents zero o e t h = absurd (no_act (op.Fence k) o e refl t)
entry_at P (op.HostRead r call ∷ ops) c contents zero o e t h =
    act_here P (counted c (Host_read r)) c.place (op.HostRead r call) o e refl refl h.0
entry_at P (op.HostWrite r call ∷ ops) c contents (suc x) o e t h =
    moved_place P _ _ o (later_place c.place x) (entry_at P ops (after_host c) (rest_of contents) x o e t h.1)
entry_at P (op.Pipeline shader ∷ ops) c contents (suc x) o e t h =
    moved_place P _ _ o (later_place c.place x) (entry_at P ops (next c) contents x o e t h)
entry_at P (op.Barrier barrier ∷ ops) c contents (suc x) o e t h =
    moved_place P _ _ o (later_place c.place x) (entry_at P ops (after_barrier c barrier) contents x o e t h)
entry_at P (op.Command command ∷ ops) c contents (suc x) o e t h =
    moved_place P _ _ o (later_place c.place x) (entry_at P ops (next c) contents x o e t h.1)
entry_at P (op.Submit k ∷ ops) c contents (suc x) o e t h = moved_place P _ _ o (later_place c.place x)
    (entry_at P ops (after_submit c k) contents x o e t h)
entry_at P (op.Fence k ∷ ops) c contents (suc x) o e t h = moved_place P _ _ o (later_place c.place x)
    (entry_at P ops (after_fence c k) contents x o e t h)
entry_at P (op.HostRead r call ∷ ops) c contents (suc x) o e t h =
    moved_place P _ _ o (later_place c.place x) (entry_at P ops (after_host c) contents x o e t h.1)

-- what holds of the acts at two places
abbrev HoldsBoth : (Placed → Placed → Type 0) → ℕ → ℕ → VkOp → VkOp → Type 0
HoldsBoth Q m n o p = Holds (λ q. Holds (Q q) n p) m o

moved_both : (Q : Placed → Placed → Type 0) (c : ℕ) (x y : ℕ) (o p : VkOp) → HoldsBoth Q (suc c + x) (suc c + y) o p
    → HoldsBoth Q (c + suc x) (c + suc y) o p
moved_both Q c x y o p h = (h.0, h.1 ∙ later_place c x, h.2, moved_place (Q h.0) _ _ p (later_place c y) h.3)

act_with : (Q : Placed → Placed → Type 0) (q : Placed) (c : ℕ) (y : ℕ) (d o p : VkOp) → Some d ≡ Some o
    → q.place ≡ c → act_touches q.entry.act ≡ op_touches d
    → Holds (Q q) (suc c + y) p → HoldsBoth Q (c + 0) (c + suc y) o p
act_with Q q c y d o p e f g h = let s : d ≡ o = cc e in (
  q,
  f ∙ here_place c,
  g
      ∙ ap op_touches s,
  moved_place (Q q) _ _ p (later_place c y) h,
)

pub pair_at : (Q : Placed → Placed → Type 0) (ops : List VkOp) (c : Counts) (contents : List (List ℕ)) (x y : ℕ)
    (o p : VkOp) → x < y
    → slice_get ops x ≡ Some o → slice_get ops y ≡ Some p → is_act o ≡ true → is_act p ≡ true
    → Pairwise Q (entries_from c contents ops) → HoldsBoth Q (c.place + x) (c.place + y) o p
pair_at Q [] c contents x y o p l e f s t h = absurd (cc e)
pair_at Q (d ∷ ops) c contents x zero o p l e f s t h = absurd (let z : ⊥ = omega (arith, l) in z)
pair_at Q (op.HostWrite r call ∷ ops) c contents zero (suc y) o p l e f s t h =
    let q = counted c (Host_write r (first_of contents)) in
    act_with Q q c.place y (op.HostWrite r call) o p e refl refl
    (entry_at (Q q) ops (after_host c) (rest_of contents) y p f t h.0)
pair_at Q (op.Pipeline shader ∷ ops) c contents zero (suc y) o p l e f s t h =
    absurd (no_act (op.Pipeline shader) o e refl s)
pair_at Q (op.Barrier barrier ∷ ops) c contents zero (suc y) o p l e f s t h =
    absurd (no_act (op.Barrier barrier) o e refl s)
pair_at Q (op.Command command ∷ ops) c contents zero (suc y) o p l e f s t h =
    let q = counted c (Device command) in
    act_with Q q c.place y (op.Command command) o p e refl refl (entry_at (Q q) ops (next c) contents y p f t h.0)
pair_at Q (op.Submit k ∷ ops) c contents zero (suc y) o p l e f s t h = absurd (no_act (op.Submit k) o e refl s)
pair_at Q (op.Fence k ∷ ops) c contents zero (suc y) o p l e f s t h = absurd (no_act (op.Fence k) o e refl s)
pair_at Q (op.HostRead r call ∷ ops) c contents zero (suc y) o p l e f s t h =
    let q = counted c (Host_read r) in
    act_with Q q c.place y (op.HostRead r call) o p e refl refl (entry_at (Q q) ops (after_host c) contents y p f t h.0)
pair_at Q (op.HostWrite r call ∷ ops) c contents (suc x) (suc y) o p l e f s t h =
    moved_both Q c.place x y o p (pair_at Q ops (after_host c) (rest_of contents) x y o p (omega (arith, l)) e f s t
    h.1)
pair_at Q (op.Pipeline shader ∷ ops) c contents (suc x) (suc y) o p l e f s t h =
    moved_both Q c.place x y o p (pair_at Q ops (next c) contents x y o p (omega (arith, l)) e f s t h)
pair_at Q (op.Barrier barrier ∷ ops) c contents (suc x) (suc y) o p l e f s t h =
    moved_both Q c.place x y o p (pair_at Q ops (after_barrier c barrier) contents x y o p (omega (arith, l)) e f s
    t h)
pair_at Q (op.Command command ∷ ops) c contents (suc x) (suc y) o p l e f s t h =
    moved_both Q c.place x y o p (pair_at Q ops (next c) contents x y o p (omega (arith, l)) e f s t h.1)
pair_at Q (op.Submit k ∷ ops) c contents (suc x) (suc y) o p l e f s t h =
    moved_both Q c.place x y o p (pair_at Q ops (after_submit c k) contents x y o p (omega (arith, l)) e f s t h)
pair_at Q (op.Fence k ∷ ops) c contents (suc x) (suc y) o p l e f s t h =
    moved_both Q c.place x y o p (pair_at Q ops (after_fence c k) contents x y o p (omega (arith, l)) e f s t h)
pair_at Q (op.HostRead r call ∷ ops) c contents (suc x) (suc y) o p l e f s t h =
    moved_both Q c.place x y o p (pair_at Q ops (after_host c) contents x y o p (omega (arith, l)) e f s t h.1)
