-- Which texts are audited: the lines of a listing whose command numbers rise, and behind them the line of an order or none.
use Rattle.std.specs.Prelude.{◌≡◌, ℕ, ◌+◌, ◌<◌, ◌≤◌, ⊤, Option, None, Some, List, [], ◌∷◌, ◌++◌, length}
use Rattle.std.specs.List.{AllByRecursion}
use Rattle.vk_types.specs.declared.op.VkOp.{VkOp}
use Rattle.vk_types.specs.declared.op.VkOp.TheVariants as op
use Rattle.vk_trace.specs.ListText.{IsOp, line, text_of}
use Rattle.vk_trace.specs.OrderLine.{IsOrder, order_line}
use Rattle.list_audit.specs.declared.audit_end.AuditEnd.{AuditEnd}
use Rattle.list_audit.specs.declared.audit_end.AuditEnd.TheVariants.{Bad, NoMemory}

-- the numbers of the commands, in the order of the listing
abbrev pub numbers : List VkOp → List ℕ
numbers [] = []
numbers (op.HostWrite r call ∷ ops) = numbers ops
numbers (op.Pipeline shader ∷ ops) = numbers ops
numbers (op.Barrier barrier ∷ ops) = numbers ops
numbers (op.Command command ∷ ops) = command.number ∷ numbers ops
numbers (op.Submit k ∷ ops) = numbers ops
numbers (op.Fence k ∷ ops) = numbers ops
numbers (op.HostRead r call ∷ ops) = numbers ops

-- each number is greater than those before it, and the first is at least this
abbrev pub Rise : ℕ → List ℕ → Type 0
Rise least [] = ⊤
Rise least (n ∷ ns) = (least ≤ n) × Rise (n + 1) ns

-- operations that the grammar has, with command numbers that rise
pub record IsListing (ops : List VkOp) : Type 0 where
  pub each : AllByRecursion IsOp ops
  pub rise : Rise 0 (numbers ops)

-- an order, if there is one
abbrev pub IsOrderIf : Option (List ℕ) → Type 0
IsOrderIf None = ⊤
IsOrderIf (Some places) = IsOrder places

-- its line
abbrev pub order_text : Option (List ℕ) → List ℕ
order_text None = []
order_text (Some places) = order_line places

-- how many lines it has
abbrev pub order_lines : Option (List ℕ) → ℕ
order_lines None = 0
order_lines (Some places) = 1

-- a text is that of a listing, with an order behind it or none
pub record IsAuditText (text : List ℕ) (ops : List VkOp) (order : Option (List ℕ)) : Type 0 where
  pub spelled : text ≡ text_of ops ++ order_text order
  pub listing : IsListing ops
  pub order_good : IsOrderIf order

-- line n, from 1, is the first bad line of a text: behind the lines of a listing, or of a listing and an order, stands
-- something. Where no order stands before it, it is neither the line of an operation with which the listing goes on, nor
-- that of an order
pub record IsFirstBad (text : List ℕ) (n : ℕ) : Type 0 where
  pub ops : List VkOp
  pub order : Option (List ℕ)
  pub rest : List ℕ
  pub spelled : text ≡ text_of ops ++ (order_text order ++ rest)
  pub listing : IsListing ops
  pub order_good : IsOrderIf order
  pub more : 0 < length rest
  pub no_operation : order ≡ None → (o : VkOp) (behind : List ℕ) → IsListing (ops ++ o ∷ []) → rest ≡ line o ++ behind → ⊥
  pub no_order : order ≡ None → (places behind : List ℕ) → IsOrder places → rest ≡ order_line places ++ behind → ⊥
  pub number : n ≡ 1 + (length ops + order_lines order)

-- what an audit ends in, where it gives no report: the first bad line, or want of memory
abbrev pub BadOnly : List ℕ → AuditEnd → Type 0
BadOnly text (Bad n) = IsFirstBad text n
BadOnly text NoMemory = ⊤
