-- What is reported of a listing.
use Rattle.std.proofs.Common.{◌≡◌, ℕ, ◌<◌, ◌≤◌, Bool, true, false, not, ◌&&◌, nat_lt, List, length, Option, None, Some, refl, sym, ap, subst, ◌∙◌, inl, inr, arith, slice_get, Result, Ok, Err}
use Rattle.std.specs.Prelude.{MatchOption, ◌↔◌, IsOk, IfErr}
use Rattle.std.specs.Result.{result_err}
use Rattle.std.proofs.lemmas.List.{length-append}
use Rattle.std.proofs.lemmas.Bool.{both_ways, cases_lt}
use Rattle.dx_types.specs.declared.range.Range.{Range}
use Rattle.vk_types.specs.declared.op.VkOp.{VkOp}
use Rattle.vk_types.specs.Hazards.{lists_conflict}
use Rattle.vk_types.specs.Listing.{touches_at, touches_if, op_touches}
use Rattle.vk_types.specs.Before.{before}
use Rattle.vk_types.specs.Covered.{Covered, IsFirstBreak, is_hazard, uncovered, visible_at}
use Rattle.vk_types.proofs.Law.{law_of_covered}
use Rattle.vk_order.specs.declared.hazards.Uncovered.{Uncovered}
use Rattle.vk_order.proofs.Open.{backward, past_end}
use Rattle.vk_trace.specs.ListText.{text_of}
use Rattle.list_audit.specs.AuditText.{IsAuditText}
use Rattle.list_audit.specs.Shared.{shared_bytes}
use Rattle.list_audit.specs.Reading.{IsFront}
use Rattle.list_audit.specs.Reports.{AreShared, IsHazardIf, OrdersAgree}
use Rattle.list_audit.proofs.Lines.{text_long}
use Rattle.list_audit.proofs.OneReading.{one_listing}
use Rattle.list_audit.proofs.Shares.{share_bytes, conflict_shares}

-- a break names two places of the listing
pub break_inside : (ops : List VkOp) (first second : ℕ) → IsFirstBreak ops first second → (first < second) × (second < length ops)
break_inside ops first second b = (
  elim (cases_lt first second) [ inl l ↦ l | inr g ↦ absurd (both_ways (uncovered ops first second) (backward ops first second g) b.here) ],
  elim (cases_lt second (length ops)) [ inl l ↦ l | inr g ↦ absurd (both_ways (uncovered ops first second) (past_end ops first second g) b.here) ],
)

hazard_of : (ops : List VkOp) (x y : ℕ) → uncovered ops x y ≡ true → lists_conflict (touches_at ops x) (touches_at ops y) ≡ true
hazard_of ops x y e = second_of (nat_lt x y) _ (first_of (is_hazard ops x y) (not (before ops x y && visible_at ops x y)) e)
  where
    first_of : (a b : Bool) → (a && b) ≡ true → a ≡ true
    first_of true b e = refl
    first_of false b e = absurd (cc e)

    second_of : (a b : Bool) → (a && b) ≡ true → b ≡ true
    second_of true b e = e
    second_of false b e = absurd (cc e)

-- the acts of a break share bytes
pub break_shares : (ops : List VkOp) (u : Uncovered) (shared : Option Range) → IsFirstBreak ops u.first u.second → shared ≡ shared_bytes (touches_at ops u.first) (touches_at ops u.second)
    → AreShared ops (Some u) shared
break_shares ops u (Some r) b e = share_bytes ops u.first u.second r (sym e)
break_shares ops u None b e = conflict_shares (touches_at ops u.first) (touches_at ops u.second) (hazard_of ops u.first u.second b.here) (sym e)

pub shared_there : (ops : List VkOp) (x y : ℕ) (o p : VkOp) (shared : Option Range) → slice_get ops x ≡ Some o → slice_get ops y ≡ Some p → shared ≡ shared_bytes (op_touches o) (op_touches p)
    → shared ≡ shared_bytes (touches_at ops x) (touches_at ops y)
shared_there ops x y o p shared e f is = is ∙ ap (λ a. shared_bytes (touches_if a) (op_touches p)) (sym e) ∙ ap (λ a. shared_bytes (touches_at ops x) (touches_if a)) (sym f)

-- a text has as many bytes as operations
pub few : (text rest : List ℕ) (ops : List VkOp) → IsFront text ops rest → length ops ≤ length text
few text rest ops f = omega (arith, ap length f.spelled, length-append (text_of ops) rest, text_long ops)

pub agree : (text : List ℕ) (ops : List VkOp) (order : Option (List ℕ)) → IsAuditText text ops order → Covered ops → OrdersAgree text
agree text ops order r all = λ others other s meaning contents places allowed.
    let same = (one_listing text ops others order other r s).0 in
    law_of_covered meaning contents others (subst Covered same all) places allowed

pub covered_if : (ops : List VkOp) (pair : Option Uncovered) → MatchOption pair (Covered ops) (λ u. IsFirstBreak ops u.first u.second) → pair ≡ None → Covered ops
covered_if ops None h e = h
covered_if ops (Some u) h e = absurd (cc e)

pub hazard_if : (ops : List VkOp) (end : Result Unit Uncovered) → IsOk end ↔ Covered ops → IfErr end (λ u. IsFirstBreak ops u.first u.second) → IsHazardIf ops (result_err end)
hazard_if ops (Ok u) ok err = ok.0 refl
hazard_if ops (Err u) ok err = err
