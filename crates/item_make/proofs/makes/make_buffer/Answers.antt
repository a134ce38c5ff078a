use Rattle.std.proofs.Common.{sym, ◌∙◌}
use Rattle.std.proofs.lemmas.Result.{on_ok_weaker}
use Rattle.item_make.proofs.makes.make_buffer.Goals as goal

pub returns-clause-made : goal.returns-clause-made
returns-clause-made c =
    on_ok_weaker c.create.result
    (λ made. λ part script past after m size bind misc stride bytes spells long staging places h.
    let place = c.args.place.now in
    made part script place.call place.call bytes place m c.in-Some.is (staging ∙ sym c.is_staging.ensures) spells long h)
    c.create.ensures.made
