use Rattle.std.proofs.Common.{◌≡◌, ◌-◌, Some, slice_get, sym, ap, ◌∙◌, arith, rules, length, vec_len}
use Rattle.std.proofs.lemmas.Option.{slice_get_read}
use Rattle.immediate_ctx.specs.Flight.{OnTheirWay, awaited}
use Rattle.immediate_ctx.proofs.OnTheWay.{awaited-at}
use Rattle.immediate_ctx.proofs.flight.Flight.awaited.Goals as goal

pub returns : goal.returns
returns c =
    let xs = c.self.inside.kept.items in
    let i = c.len-count.result - 32 in
    let s = c.index.result.now in
    let vec_len_is : vec_len c.self.inside.kept ≡ length xs = search rules in
    let is : slice_get xs i ≡ Some s =
    slice_get_read xs c.len-count.result i s (c.len-count.ensures ∙ vec_len_is) (omega arith) c.index.ensures in
    sym (awaited-at c.self.inside.taken c.self.inside.done xs i s (omega arith) is)
    ∙ ap (λ (f : OnTheirWay). awaited f) c.self.view_is
