use Rattle.std.proofs.Common.{◌∙◌}
use Rattle.device_memory.specs.Held.{block_of}
use Rattle.vk_device.proofs.Giving.{homes_begin, homes_more, homes_end, marks_tail}
use Rattle.vk_device.proofs.complete.take_homes.Goals as goal

pub marks-init : goal.marks-init
marks-init c = (homes_begin c.args.k (block_of c.args.memory.now) c.args.holds.now c.new-homes.result.items c.new-homes.ensures.items, λ n h. h)

pub marks-preserved : goal.marks-preserved
marks-preserved c =
    let first = c.in-Some.ensures in (
      homes_more c.args.k (block_of c.args.memory.now) c.args.holds.now c.marks.holds c.released.new.self c.marks.homes.items c.take_home.new.homes.items first.0 c.in-Some.number
          c.marks.memory c.take_home.new.memory first.1 first.2 c.in_ok-take_home.ensures.homes c.in_ok-take_home.ensures.rest c.marks.invariant.0,
      λ n h. marks_tail n (record { chunk = first.0; block = c.in-Some.number }) c.released.new.self c.marks.holds first.2 (c.marks.invariant.1 n h),
    )

pub returns-in_err-take_home-clause-below : goal.returns-in_err-take_home-clause-below
returns-in_err-take_home-clause-below c =
    let first = c.in-Some.ensures in
    λ n h. marks_tail n (record { chunk = first.0; block = c.in-Some.number }) c.released.new.self c.marks.holds first.2 (c.marks.invariant.1 n h)

pub returns : goal.returns
returns c =
    let end = rw c.in_default.is at c.released.ensures in
    let all = homes_end c.args.k (block_of c.args.memory.now) c.args.holds.now c.marks.holds c.marks.homes.items (block_of c.marks.memory) end.1 c.marks.invariant.0 in
    record { homes = all.0; rest = all.1; marks = end.0 ∙ all.2; below = λ n h. rw end.0 (c.marks.invariant.1 n h) }
