use Rattle.std.proofs.Common.{◌≡◌, ◌+◌, List, get_or, Some, slice_get, refl, sym, subst, ◌∙◌, arith}
use Rattle.std.proofs.lemmas.Option.{slice_get-get_or, slice_get_within}
use Rattle.vk_order.specs.declared.turns.Row.{Row}
use Rattle.vk_order.specs.Turns.{RowsGrew}
use Rattle.vk_order.proofs.Rows.{ReadyBelow, no_row, ready_next, ready_set, rows_same, rows_set}
use Rattle.vk_order.proofs.turns.make_ready.Goals as goal
use Rattle.vk_order.proofs.turns.make_ready.Goals.{then-names, else-names}

pub loop-i-init : goal.loop-i-init
loop-i-init c = record { grew = rows_same c.args.rows.now; ready = λ j row l. absurd (omega (arith, l)) }

pub loop-i-preserved : goal.loop-i-preserved
loop-i-preserved c =
    let old = c.args.rows.now in let rows = c.loop-i.rows in let b = c.args.b.now in let rank = c.args.rank in let i = c.loop-i.i in let row = get_or rows i no_row in
    let test = c.loop-i-test.true in let len = c.loop-i.auto.rows in let inv = c.loop-i.invariant in
    let there : slice_get rows i ≡ Some row = slice_get-get_or rows i no_row (omega (arith, test, len)) in
    elim c.if-names.branch [
      | then-names w ↦
          let m = w.max.ensures in
          let next : Row = record { stages = row.stages; latest = row.latest; ready = w.max.result } in
          subst (λ (rs : List Row). record { grew : RowsGrew old rs; ready : ReadyBelow rs b rank (i + 1) }) (sym w.rows-is)
          (record {
            grew = rows_set old rows i row next inv.grew there refl (omega arith) (omega (arith, m));
            ready = ready_set rows b rank i row next inv.ready there (omega (arith, m));
          })
      | else-names w ↦
          subst (λ (rs : List Row). record { grew : RowsGrew old rs; ready : ReadyBelow rs b rank (i + 1) }) (sym w.rows-is)
          (record { grew = inv.grew; ready = ready_next rows b rank i row inv.ready there (sym c.names.ensures ∙ w.if-names.false) })
    ]

pub returns-clause-ready : goal.returns-clause-ready
returns-clause-ready c = λ i row e n.
    let w = slice_get_within c.loop-i.rows i row e in let end = c.loop-i-test.false in let len = c.loop-i.auto.rows in
    c.loop-i.invariant.ready i row (omega (arith, w, end, len)) e n
