use Rattle.std.proofs.Common.{◌≡◌, take_all, None, sym, ◌∙◌, arith, rules, refl}
use Rattle.std.proofs.lemmas.List.{take_more_same}
use Rattle.vk_types.specs.declared.message.Placed.{Placed}
use Rattle.immediate_ctx.proofs.same_places.same_places.Goals as goal

abbrev nothing : Placed
nothing = record { call = 0; item = 0; block = None; mark = None; staged = None }

pub places-preserved : goal.places-preserved
places-preserved c =
    let same = c.same_place.ensures.0 (search rules) in
    take_more_same c.args.a.now c.args.b.now c.places.i nothing (omega arith) (omega arith) c.places.invariant same

pub returns : goal.returns
returns c =
    let all : c.args.a.now ≡ c.args.b.now =
    sym (take_all c.places.i c.args.a.now (omega arith)) ∙ c.places.invariant
    ∙ take_all c.places.i c.args.b.now (omega arith) in
    (λ _. all, λ _. refl)
