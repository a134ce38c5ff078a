use Rattle.std.proofs.Common.{◌∷◌, [], length, List, subst, sym, ap, arith}
use Rattle.std.specs.List.{All}
use Rattle.std.proofs.lemmas.List.{length-append}
use Rattle.d3d_model.specs.D3dState.{Objects}
use Rattle.d3d_effects.specs.Listed.{KeepsList}
use Rattle.d3d_effects.specs.declared.listed.ListUses.{ListUses}
use Rattle.d3d_plan.proofs.Keeping.{keeps_nothing, none_opened, one_opened}
use Rattle.d3d_plan.proofs.kept.Kept.new.Goals as goal

abbrev NoneIn : List ListUses → Type 0
NoneIn ls = All (λ (d : ListUses). (o : Objects) → KeepsList o [] d) ls

pub contexts-init : goal.contexts-init
contexts-init c = record {
  many = ap (λ (ls : List ListUses). length ls) c.new-opened.ensures.items;
  none = subst NoneIn (sym c.new-opened.ensures.items) none_opened;
}

pub contexts-preserved : goal.contexts-preserved
contexts-preserved c = record {
  many = omega (arith, ap (λ (ls : List ListUses). length ls) c.in_ok-push.ensures.items, length-append c.contexts.opened.items (c.new.result ∷ []), c.contexts.invariant.many);
  none = subst NoneIn (sym c.in_ok-push.ensures.items) (one_opened c.contexts.opened.items c.new.result c.new.ensures c.contexts.invariant.none);
}

pub returns : goal.returns
returns c = keeps_nothing _ c.new-2.ensures (omega (arith, c.contexts.invariant.many, c.contexts-test.false, c.contexts.auto._i-end)) c.contexts.invariant.none c.new-4.ensures.calls c.new-4.ensures.ends
