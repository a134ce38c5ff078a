-- What an audit prints.
use Rattle.std.specs.Prelude.{ℕ, List, [], ◌∷◌, ◌++◌, codes, decimal, Option, None, Some, Result, Ok, Err}
use Rattle.dx_types.specs.declared.range.Range.{Range}
use Rattle.vk_order.specs.declared.hazards.Uncovered.{Uncovered}
use Rattle.vk_order.specs.declared.order.OrderEnd.{OrderEnd}
use Rattle.vk_order.specs.declared.order.OrderEnd.TheVariants.{NotAll, Broken}
use Rattle.vk_trace.specs.ListText.{range_word}
use Rattle.list_audit.specs.declared.report.Report.{Report}

-- `covered`, or the pair that isn't with the bytes that its acts share: a pair has such bytes
abbrev pub hazard_line : Option Uncovered → Option Range → List ℕ
hazard_line None shared = codes "covered" ++ 10 ∷ []
hazard_line (Some u) None = []
hazard_line (Some u) (Some r) = codes "uncovered " ++ (decimal u.first ++ (32 ∷ (decimal u.second ++ (32 ∷ (range_word r ++ 10 ∷ [])))))

abbrev pub order_end_line : OrderEnd → List ℕ
order_end_line (NotAll at) = codes "not-all " ++ (decimal at ++ 10 ∷ [])
order_end_line (Broken first second) = codes "broken " ++ (decimal first ++ (32 ∷ (decimal second ++ 10 ∷ [])))

-- `allowed`, or why the order isn't, where there is an order
abbrev pub verdict_line : Option (Result Unit OrderEnd) → List ℕ
verdict_line None = []
verdict_line (Some (Ok u)) = codes "allowed" ++ 10 ∷ []
verdict_line (Some (Err end)) = order_end_line end

-- the lines of a report
abbrev pub report_text : Report → List ℕ
report_text report = hazard_line report.pair report.shared ++ verdict_line report.order
