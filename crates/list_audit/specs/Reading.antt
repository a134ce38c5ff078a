-- What the pieces of the reader promise of each other.
use Rattle.std.specs.Prelude.{◌≡◌, ℕ, ◌+◌, ◌<◌, ⊤, Option, None, List, ◌++◌, length}
use Rattle.vk_types.specs.declared.op.VkOp.{VkOp}
use Rattle.vk_trace.specs.ListText.{IsOp, line, text_of}
use Rattle.vk_trace.specs.OrderLine.{IsOrder, order_line}
use Rattle.list_audit.specs.declared.audit_end.AuditEnd.{AuditEnd}
use Rattle.list_audit.specs.declared.audit_end.AuditEnd.TheVariants.{Bad, NoMemory}
use Rattle.list_audit.specs.AuditText.{IsListing, IsOrderIf, order_text, order_lines}

-- the listing stands in front, and no operation's line behind it
pub record IsFront (text : List ℕ) (ops : List VkOp) (rest : List ℕ) : Type 0 where
  pub spelled : text ≡ text_of ops ++ rest
  pub listing : IsListing ops
  pub ended : (o : VkOp) (behind : List ℕ) → IsOp o → rest ≡ line o ++ behind → ⊥

-- an order's line is all that is left, or nothing is
pub record IsLast (rest : List ℕ) (order : Option (List ℕ)) : Type 0 where
  pub spelled : rest ≡ order_text order
  pub good : IsOrderIf order

-- the first line that is neither, where the rest begins with this line
pub record IsBadLast (rest : List ℕ) (from n : ℕ) : Type 0 where
  pub order : Option (List ℕ)
  pub behind : List ℕ
  pub spelled : rest ≡ order_text order ++ behind
  pub good : IsOrderIf order
  pub more : 0 < length behind
  pub no_order : order ≡ None → (places later : List ℕ) → IsOrder places → behind ≡ order_line places ++ later → ⊥
  pub number : n ≡ from + order_lines order

abbrev pub BadLast : List ℕ → ℕ → AuditEnd → Type 0
BadLast rest from (Bad n) = IsBadLast rest from n
BadLast rest from NoMemory = ⊤
