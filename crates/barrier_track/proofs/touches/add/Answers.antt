use Rattle.std.proofs.Common.{◌<◌, ◌++◌, [], ◌∷◌, length, take, ap, sym, ◌∙◌, append_assoc, arith, vec_len}
use Rattle.std.proofs.Common.{vec_capacity, vec_items}
use Rattle.vk_types.specs.Hazards.{touches}
use Rattle.barrier_track.specs.Since.{seen_by}
use Rattle.barrier_track.proofs.Since.{at, take_more, some_touch}
use Rattle.barrier_track.proofs.touches.add.Goals as goal
use Rattle.barrier_track.proofs.touches.add.Goals.{in-Some, in_default}

pub loop-i-preserved : goal.loop-i-preserved
loop-i-preserved c =
    let inside : c.loop-i.i < length (touches c.args.c.now) = omega arith in
    elim c.match-touch_at.branch [
      | in-Some w ↦
          let len = ap vec_len w.seen-is in let cap = ap vec_capacity w.seen-is in let longer = w.push_reserved.ensures.len in let grown = w.push_reserved.ensures.capacity in
          record {
            room = omega arith;
            items =
                ap vec_items w.seen-is ∙ w.push_reserved.ensures.items
                ∙ ap (λ l. l ++ at c.args.c.now w.in-Some.touch ∷ []) c.loop-i.invariant.items
                ∙ append_assoc c.args.seen.now.items (take c.loop-i.i (seen_by c.args.c.now))
                (at c.args.c.now w.in-Some.touch ∷ [])
                ∙ ap (λ l. c.args.seen.now.items ++ l)
                (sym (take_more c.args.c.now c.loop-i.i w.in-Some.touch (sym c.touch_at.ensures ∙ w.in-Some.is)));
          }
      | in_default w ↦ absurd (some_touch c.args.c.now c.loop-i.i inside (sym c.touch_at.ensures ∙ w.in_default.is))
    ]
