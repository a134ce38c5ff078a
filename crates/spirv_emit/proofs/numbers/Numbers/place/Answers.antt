use Rattle.std.proofs.Common.{sym, ◌∙◌, ap, arith}
use Rattle.spirv_emit.specs.Numbers.{place}
use Rattle.spirv_emit.proofs.Words.NumberPlaces.{found_place, missing_place, place_most}
use Rattle.spirv_emit.proofs.numbers.Numbers.place.Goals as goal

pub returns-in-Some : goal.returns-in-Some
returns-in-Some c =
    let is = found_place c.args.number c.self.inside.seen.keys c.in-Some.place (sym c.get_index_of.ensures.index ∙ c.in-Some.is) ∙ ap (place c.args.number) c.self.view_is in
    let most = place_most c.args.number c.args.self.now in
    record { value = is; within = omega (arith, is, most) }

pub returns-in-None : goal.returns-in-None
returns-in-None c =
    let is = missing_place c.args.number c.self.inside.seen.keys (sym c.get_index_of.ensures.index ∙ c.in-None.is) in
    let len = c.len.ensures.len ∙ is ∙ ap (place c.args.number) c.self.view_is in
    let most = place_most c.args.number c.args.self.now in
    record { value = len; within = omega (arith, len, most) }
