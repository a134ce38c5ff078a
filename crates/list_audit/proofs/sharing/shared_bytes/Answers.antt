use Rattle.std.proofs.Common.{sym, ◌∙◌}
use Rattle.vk_types.specs.Listing.{op_touches}
use Rattle.list_audit.proofs.Shares.{bytes_hit, bytes_miss, bytes_skip}
use Rattle.list_audit.proofs.sharing.shared_bytes.Goals as goal
use Rattle.list_audit.proofs.sharing.shared_bytes.Goals.{in-Some+else-is_some, in_default}

pub returns-then-is_some : goal.returns-then-is_some
returns-then-is_some c =
    sym (c.loop-i.invariant
    ∙ bytes_hit (op_touches c.args.first.now) (op_touches c.args.second.now) c.loop-i.i c.in-Some.t c.shared_with-shared.result (sym c.touch_of.ensures ∙ c.in-Some.is) c.shared_with-shared.ensures (sym c.is_some.ensures ∙ c.if-is_some.true))

pub loop-i-preserved : goal.loop-i-preserved
loop-i-preserved c =
    elim c.match-touch_of.branch [
      | in-Some+else-is_some w ↦
          c.loop-i.invariant
          ∙ bytes_miss (op_touches c.args.first.now) (op_touches c.args.second.now) c.loop-i.i w.in-Some.t w.shared_with-shared.result (sym c.touch_of.ensures ∙ w.in-Some.is) w.shared_with-shared.ensures (sym w.is_some.ensures ∙ w.if-is_some.false)
      | in_default w ↦ c.loop-i.invariant ∙ bytes_skip (op_touches c.args.first.now) (op_touches c.args.second.now) c.loop-i.i (sym c.touch_of.ensures ∙ w.in_default.is)
    ]
