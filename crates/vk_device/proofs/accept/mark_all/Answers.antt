use Rattle.std.proofs.Common.{◌+◌, drop, get_or, arith, false}
use Rattle.std.proofs.lemmas.List.{drop_more, drop_all}
use Rattle.vk_types.specs.declared.message.QueryMark.{QueryMark}
use Rattle.vk_device.proofs.Taking.{marks_begin, marks_more, marks_can, marks_end}
use Rattle.vk_device.proofs.accept.mark_all.Goals as goal

abbrev no_mark : QueryMark
no_mark = record { call = 0; query = 0; begins = false; before = 0 }

pub each-init : goal.each-init
each-init c = marks_begin c.args.marks.now c.args.queries.now c.requires

pub mark-requires : goal.mark-requires
mark-requires c =
    let i = c.each.mark-index in
    let can = marks_can c.args.marks.now (drop i c.args.marks.now) (drop (i + 1) c.args.marks.now) (get_or c.args.marks.now i no_mark) c.args.queries.now c.each.queries
    (drop_more c.args.marks.now i no_mark (omega arith)) c.each.invariant in
    record { turn = can.0; order = can.1 }

pub each-preserved : goal.each-preserved
each-preserved c =
    let i = c.each.mark-index in
    marks_more c.args.marks.now (drop i c.args.marks.now) (drop (i + 1) c.args.marks.now) (get_or c.args.marks.now i no_mark) c.args.queries.now c.each.queries c.mark.new.self
    (drop_more c.args.marks.now i no_mark (omega arith)) c.in_ok-mark.ensures.ok c.each.invariant

pub returns : goal.returns
returns c =
    marks_end c.args.marks.now (drop c.each.mark-index c.args.marks.now) c.args.queries.now c.each.queries
    (drop_all c.each.mark-index c.args.marks.now (omega arith)) c.each.invariant
