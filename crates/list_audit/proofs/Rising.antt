-- Command numbers that rise, as a listing goes on.
use Rattle.std.proofs.Common.{◌≡◌, ℕ, ◌+◌, Bool, true, false, List, [], ◌∷◌, ◌++◌, refl, sym, ap, subst}
use Rattle.std.specs.List.{AllByRecursion}
use Rattle.std.specs.Bool.{MatchBool}
use Rattle.vk_types.specs.declared.op.VkOp.{VkOp}
use Rattle.vk_types.specs.declared.op.VkOp.TheVariants as op
use Rattle.vk_trace.specs.ListText.{IsOp}
use Rattle.list_audit.specs.AuditText.{numbers, Rise, IsListing}
use Rattle.list_audit.specs.Numbers.{least_after}

pub numbers-append : (a b : List VkOp) → numbers (a ++ b) ≡ numbers a ++ numbers b
numbers-append [] b = refl
numbers-append (op.HostWrite r call ∷ a) b = numbers-append a b
numbers-append (op.Pipeline shader ∷ a) b = numbers-append a b
numbers-append (op.Barrier barrier ∷ a) b = numbers-append a b
numbers-append (op.Command command ∷ a) b = ap (λ (ns : List ℕ). command.number ∷ ns) (numbers-append a b)
numbers-append (op.Submit k ∷ a) b = numbers-append a b
numbers-append (op.Fence k ∷ a) b = numbers-append a b
numbers-append (op.HostRead r call ∷ a) b = numbers-append a b

rise_append : (least : ℕ) (ns ms : List ℕ) → Rise least ns → Rise (least_after least ns) ms → Rise least (ns ++ ms)
rise_append least [] ms p q = q
rise_append least (n ∷ ns) ms p q = (p.0, rise_append (n + 1) ns ms p.1 q)

rise_front : (least : ℕ) (ns ms : List ℕ) → Rise least (ns ++ ms) → Rise least ns
rise_front least [] ms p = tt
rise_front least (n ∷ ns) ms p = (p.0, rise_front (n + 1) ns ms p.1)

rise_behind : (least : ℕ) (ns ms : List ℕ) → Rise least (ns ++ ms) → Rise (least_after least ns) ms
rise_behind least [] ms p = p
rise_behind least (n ∷ ns) ms p = rise_behind (n + 1) ns ms p.1

pub least_after-append : (least : ℕ) (ns ms : List ℕ) → least_after least (ns ++ ms) ≡ least_after (least_after least ns) ms
least_after-append least [] ms = refl
least_after-append least (n ∷ ns) ms = least_after-append (n + 1) ns ms

all_append : (a b : List VkOp) → AllByRecursion IsOp a → AllByRecursion IsOp b → AllByRecursion IsOp (a ++ b)
all_append [] b p q = q
all_append (o ∷ a) b p q = (p.0, all_append a b p.1 q)

all_front : (a b : List VkOp) → AllByRecursion IsOp (a ++ b) → AllByRecursion IsOp a
all_front [] b p = tt
all_front (o ∷ a) b p = (p.0, all_front a b p.1)

all_behind : (a b : List VkOp) → AllByRecursion IsOp (a ++ b) → AllByRecursion IsOp b
all_behind [] b p = p
all_behind (o ∷ a) b p = all_behind a b p.1

-- a listing goes on with an operation
pub listing_more : (ops : List VkOp) (o : VkOp) → IsListing ops → IsOp o → Rise (least_after 0 (numbers ops)) (numbers (o ∷ [])) → IsListing (ops ++ o ∷ [])
listing_more ops o l g r = record {
  each = all_append ops (o ∷ []) l.each (g, tt);
  rise = subst (Rise 0) (sym (numbers-append ops (o ∷ []))) (rise_append 0 (numbers ops) (numbers (o ∷ [])) l.rise r);
}

-- what an operation with which a listing goes on keeps
pub listing_last : (ops : List VkOp) (o : VkOp) → IsListing (ops ++ o ∷ []) → IsOp o
listing_last ops o l = (all_behind ops (o ∷ []) l.each).0

pub listing_rises : (ops : List VkOp) (o : VkOp) → IsListing (ops ++ o ∷ []) → Rise (least_after 0 (numbers ops)) (numbers (o ∷ []))
listing_rises ops o l = rise_behind 0 (numbers ops) (numbers (o ∷ [])) (subst (Rise 0) (numbers-append ops (o ∷ [])) l.rise)

-- the front of a listing is one
pub listing_front : (a b : List VkOp) → IsListing (a ++ b) → IsListing a
listing_front a b l = record {
  each = all_front a b l.each;
  rise = rise_front 0 (numbers a) (numbers b) (subst (Rise 0) (numbers-append a b) l.rise);
}

pub listing_none : IsListing []
listing_none = record { each = tt; rise = tt }

-- what a test says
pub passed : (b : Bool) (P Q : Type 0) → MatchBool b P Q → b ≡ true → P
passed true P Q h e = h
passed false P Q h e = absurd (cc e)

pub failed : (b : Bool) (P Q : Type 0) → MatchBool b P Q → b ≡ false → Q
failed true P Q h e = absurd (cc e)
failed false P Q h e = h
