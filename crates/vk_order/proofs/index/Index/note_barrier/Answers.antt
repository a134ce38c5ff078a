use Rattle.std.proofs.Common.{◌≡◌, List, length, refl, sym, ap, subst, ◌∙◌}
use Rattle.std.specs.Vec.{with_items}
use Rattle.std.proofs.lemmas.List.{with_items_is}
use Rattle.vk_order.specs.declared.classes.Second.{Second}
use Rattle.vk_order.specs.declared.layers.Layer.{Layer}
use Rattle.vk_order.specs.Layers.{ArePassed}
use Rattle.vk_order.proofs.Touching.{AllOver, over_passed}
use Rattle.vk_order.proofs.index.Index.note_barrier.Goals as goal

pub returns-clause-sound : goal.returns-clause-sound
returns-clause-sound c =
    let old = c.args.self.now in let new = c.pass_layers.new.layers in let b = c.args.b.now in let past = c.args.past in
    let is : (with_items old.layers new).items ≡ new = with_items_is old.layers new (c.pass_layers.ensures.len ∙ c.deref_mut.ensures.len) in
    let passed : ArePassed c.deref.result.now b past old.layers.items new = subst (λ (ls : List Layer). ArePassed c.deref.result.now b past ls new) c.deref_mut.ensures.value c.pass_layers.ensures.passed in
    record {
      rising = c.requires.rising;
      layers = subst (λ (ls : List Layer). AllOver old.cuts.items ls) (sym is) (over_passed old.cuts.items c.deref.result.now b past old.layers.items new passed c.requires.layers);
      touched = c.requires.touched;
      written = c.requires.written;
    }

pub returns-clause-passed : goal.returns-clause-passed
returns-clause-passed c =
    let old = c.args.self.now in let new = c.pass_layers.new.layers in let b = c.args.b.now in let past = c.args.past in
    let is : (with_items old.layers new).items ≡ new = with_items_is old.layers new (c.pass_layers.ensures.len ∙ c.deref_mut.ensures.len) in
    let passed : ArePassed old.seconds.items b past old.layers.items new =
    subst (λ (ss : List Second). ArePassed ss b past old.layers.items new) c.deref.ensures.value
    (subst (λ (ls : List Layer). ArePassed c.deref.result.now b past ls new) c.deref_mut.ensures.value c.pass_layers.ensures.passed) in
    record {
      cuts = refl;
      seconds = refl;
      len = ap length is ∙ (c.pass_layers.ensures.len ∙ ap length c.deref_mut.ensures.value);
      layers = subst (λ (ls : List Layer). ArePassed old.seconds.items b past old.layers.items ls) (sym is) passed;
      hosted = refl;
      touched = refl;
      written = refl;
    }
