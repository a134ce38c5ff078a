-- What a report says of a listing and an order.
use Rattle.std.specs.Prelude.{◌≡◌, ℕ, List, Option, None, Some, Result, MatchResult, MatchOption}
use Rattle.dx_types.specs.declared.range.Range.{Range}
use Rattle.vk_types.specs.declared.op.VkOp.{VkOp}
use Rattle.vk_types.specs.Effects.{Meaning}
use Rattle.vk_types.specs.Listing.{acts, touches_at}
use Rattle.vk_types.specs.Covered.{Covered, IsFirstBreak}
use Rattle.vk_types.specs.Allowed.{IsAllowed, outcome}
use Rattle.vk_order.specs.declared.hazards.Uncovered.{Uncovered}
use Rattle.vk_order.specs.declared.order.OrderEnd.{OrderEnd}
use Rattle.vk_order.specs.Ends.{IsOrderEnd}
use Rattle.list_audit.specs.declared.report.Report.{Report}
use Rattle.list_audit.specs.AuditText.{IsAuditText}
use Rattle.list_audit.specs.Shared.{shared_bytes, ShareBytes}

-- the bytes that a pair's first conflicting touches share
abbrev pub shared_of : List VkOp → Option Uncovered → Option Range
shared_of ops None = None
shared_of ops (Some u) = shared_bytes (touches_at ops u.first) (touches_at ops u.second)

-- a pair has bytes that both its acts touch and one of them writes; where there is no pair, no bytes are named
abbrev pub AreShared : List VkOp → Option Uncovered → Option Range → Type 0
AreShared ops None bytes = bytes ≡ None
AreShared ops (Some u) None = ⊥
AreShared ops (Some u) (Some bytes) = ShareBytes ops u.first u.second bytes

-- none where the listing is covered, and else its first hazard that isn't
abbrev pub IsHazardIf : List VkOp → Option Uncovered → Type 0
IsHazardIf ops hazard = MatchOption hazard (Covered ops) (λ u. IsFirstBreak ops u.first u.second)

-- whether an order is allowed
abbrev pub IsVerdict : List VkOp → List ℕ → Result Unit OrderEnd → Type 0
IsVerdict ops places verdict = MatchResult verdict (λ _. IsAllowed ops places) (IsOrderEnd ops places)

-- the same, exactly where there is an order
abbrev pub IsVerdictIf : List VkOp → Option (List ℕ) → Option (Result Unit OrderEnd) → Type 0
IsVerdictIf ops None verdict = verdict ≡ None
IsVerdictIf ops (Some places) None = ⊥
IsVerdictIf ops (Some places) (Some verdict) = IsVerdict ops places verdict

-- no pair exactly where the listing is covered, and else the first pair that isn't, with its bytes
pub record Reports (ops : List VkOp) (order : Option (List ℕ)) (report : Report) : Type 0 where
  pub pair : IsHazardIf ops report.pair
  pub shared : report.shared ≡ shared_of ops report.pair
  pub bytes : AreShared ops report.pair report.shared
  pub verdict : IsVerdictIf ops order report.order

-- the report on a text
pub record IsReport (text : List ℕ) (report : Report) : Type 0 where
  pub ops : List VkOp
  pub order : Option (List ℕ)
  pub read : IsAuditText text ops order
  pub says : Reports ops order report

-- all orders that the text's listing allows have one outcome, whatever its shaders mean and the host writes
abbrev pub OrdersAgree : List ℕ → Type 0
OrdersAgree text =
    (ops : List VkOp) (order : Option (List ℕ)) → IsAuditText text ops order
    → (meaning : Meaning) (contents : List (List ℕ)) (places : List ℕ) → IsAllowed ops places → outcome meaning contents ops places ≡ outcome meaning contents ops (acts ops)
