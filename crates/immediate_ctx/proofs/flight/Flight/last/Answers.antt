use Rattle.std.proofs.Common.{◌≡◌, ◌-◌, List, length, Some, slice_get, sym, ap, ◌∙◌}
use Rattle.std.specs.Option.{option_copied}
use Rattle.immediate_ctx.specs.declared.flight.Sent.{Sent}
use Rattle.immediate_ctx.specs.Flight.{OnTheirWay, last_upto}
use Rattle.immediate_ctx.proofs.OnTheWay.{last_of-some}
use Rattle.immediate_ctx.proofs.flight.Flight.last.Goals as goal

pub returns-in-Some : goal.returns-in-Some
returns-in-Some c =
    let xs = c.self.inside.kept.items in
    let is : slice_get xs (length xs - 1) ≡ Some c.in-Some.sent.now =
    sym (ap (λ (ys : List Sent). slice_get ys (length ys - 1)) c.deref.ensures.value) ∙ sym c.last.ensures.value
    ∙ ap (λ o. option_copied o) c.in-Some.is in
    last_of-some c.self.inside.done xs c.in-Some.sent.now is ∙ ap (λ (f : OnTheirWay). last_upto f) c.self.view_is
