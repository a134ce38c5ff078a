use Rattle.std.proofs.Common.{◌<◌, List, length, slice_get, sym, ap, ◌∙◌, arith}
use Rattle.std.proofs.lemmas.Option.{slice_get_within}
use Rattle.barrier_track.specs.declared.touches.Seen.{Seen}
use Rattle.barrier_track.proofs.Touched.{bytes_part, bytes_more}
use Rattle.barrier_track.proofs.touches.Touches.settle.Goals as goal

pub invariant_of-self : goal.invariant_of-self
invariant_of-self c =
    let i = c.walk.self-inside in
    bytes_part i.seen.items i.settled c.in-Some.s i.touched i.written c.put.new.touched c.put.new.written
    (ap (λ (l : List Seen). slice_get l i.settled) (sym c.deref.ensures.value) ∙ sym c.touch_at.ensures ∙ c.in-Some.is)
    c.walk.invariant.bytes c.put.ensures.part_touched c.put.ensures.part_written

pub walk-smaller : goal.walk-smaller
walk-smaller c =
    let i = c.walk.self-inside in
    let within : i.settled < length i.seen.items =
    slice_get_within i.seen.items i.settled c.in-Some.s (ap (λ (l : List Seen). slice_get l i.settled) (sym c.deref.ensures.value) ∙ sym c.touch_at.ensures ∙ c.in-Some.is) in
    omega arith

pub walk-preserved : goal.walk-preserved
walk-preserved c =
    let i = c.walk.self-inside in
    record {
      seen = c.walk.invariant.seen;
      bytes =
          bytes_more i.seen.items i.settled c.in-Some.s i.touched i.written c.put.new.touched c.put.new.written
          (ap (λ (l : List Seen). slice_get l i.settled) (sym c.deref.ensures.value) ∙ sym c.touch_at.ensures ∙ c.in-Some.is)
          c.walk.invariant.bytes c.in_ok-put.ensures.touched c.in_ok-put.ensures.written;
    }
