use Rattle.std.proofs.Common.{ap, sym, ◌∙◌, take, arith}
use Rattle.std.proofs.lemmas.List.{take_more}
use Rattle.std.specs.Prelude.{slice_index_or}
use Rattle.base_lemmas.specs.IdMap.{insert}
use Rattle.vk_types.specs.declared.message.QueryValue.{QueryValue}
use Rattle.immediate_ctx.specs.Tables.{Numbers, with_values}
use Rattle.immediate_ctx.proofs.Held.{with_values-last}
use Rattle.immediate_ctx.proofs.values.Values.bring.Goals as goal

abbrev nothing : QueryValue
nothing = record { call = 0; query = 0; value = 0 }

pub each-preserved : goal.each-preserved
each-preserved c =
    let vs = c.args.values.now in
    let i = c.each.v-index in
    let v = slice_index_or vs i nothing in
    c.in_ok-set.ensures ∙ ap (λ (m : Numbers). insert m v.query v.value) c.each.invariant
    ∙ sym (ap (with_values c.args.self.now) (take_more vs i nothing (omega arith))
    ∙ with_values-last c.args.self.now (take i vs) v)
