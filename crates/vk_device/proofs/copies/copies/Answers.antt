use Rattle.std.proofs.Common.{◌+◌, ◌++◌, List, drop, get_or, ap, sym, ◌∙◌, append-nil, arith}
use Rattle.std.specs.List.{filter_map}
use Rattle.std.proofs.lemmas.List.{drop_more, drop_all}
use Rattle.dx_types.specs.declared.range.Range.{Range}
use Rattle.vk_types.specs.declared.message.Snap.{Snap}
use Rattle.device_memory.specs.Held.{block_of}
use Rattle.vk_device.specs.Completing.{snap_of}
use Rattle.vk_device.proofs.Giving.{copies_more}
use Rattle.vk_device.proofs.copies.copies.Goals as goal

abbrev no_range : Range
no_range = record { block = 0; from = 0; to = 0 }

pub each-init : goal.each-init
each-init c = ap (λ (l : List Snap). l ++ filter_map (snap_of (block_of c.args.memory.now) c.args.later.now.items c.args.queue.now) c.args.staging.now) c.new-snaps.ensures.items

pub each-preserved : goal.each-preserved
each-preserved c =
    let i = c.each.r-index in
    copies_more (snap_of (block_of c.args.memory.now) c.args.later.now.items c.args.queue.now) c.args.staging.now (drop i c.args.staging.now) (drop (i + 1) c.args.staging.now)
    (get_or c.args.staging.now i no_range) c.each.snaps.items c.push_some.new.values.items c.in_ok-snap.snap (drop_more c.args.staging.now i no_range (omega arith))
    c.in_ok-snap.ensures c.in_ok-push_some.ensures c.each.invariant

pub returns : goal.returns
returns c =
    let f = snap_of (block_of c.args.memory.now) c.args.later.now.items c.args.queue.now in
    sym (append-nil c.each.snaps.items)
    ∙ ap (λ (l : List Range). c.each.snaps.items ++ filter_map f l) (sym (drop_all c.each.r-index c.args.staging.now (omega arith))) ∙ c.each.invariant
