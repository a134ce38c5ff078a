use Rattle.std.proofs.Common.{◌≡◌, ℕ, List, slice_get, refl, sym, ap, subst, ◌∙◌}
use Rattle.std.specs.Vec.{with_items}
use Rattle.std.proofs.lemmas.List.{with_items_is}
use Rattle.vk_order.specs.declared.cuts.Cut.{Cut}
use Rattle.vk_order.specs.declared.layers.Layer.{Layer}
use Rattle.vk_order.specs.Cuts.{IsReach}
use Rattle.vk_order.specs.Layers.{AreRaisedAt, PushedFresh}
use Rattle.vk_order.specs.Index.{IsStillThere, width_of}
use Rattle.vk_order.proofs.Touching.{AllOver, HasLayer, layer_raised, over_grew, over_pushed, over_raised, still_there, was_there}
use Rattle.vk_order.proofs.index.Index.note_touch.Goals as goal
use Rattle.vk_order.proofs.index.Index.note_touch.Goals.{then-hosted, else-hosted}

pub raise_layer-requires-clause-sound : goal.raise_layer-requires-clause-sound
raise_layer-requires-clause-sound c = λ n l e.
    let index = c.args.self.now in let mid = c.layer_for.new.layers.items in
    let width : c.width_of-width.result ≡ width_of index.cuts.items = c.width_of-width.ensures ∙ ap width_of c.deref-2.ensures.value in
    let pushed : PushedFresh c.first_of.result (width_of index.cuts.items) index.layers.items mid =
    subst (λ (w : ℕ). PushedFresh c.first_of.result w index.layers.items mid) width c.in_ok-n.ensures.pushed in
    (over_pushed index.cuts.items c.first_of.result index.layers.items mid pushed c.requires.layers n l (ap (λ ls. slice_get ls n) (sym c.deref_mut.ensures.value) ∙ e)).tree

pub returns-clause-sound : goal.returns-clause-sound
returns-clause-sound c =
    let index = c.args.self.now in let mid = c.layer_for.new.layers in let new = c.raise_layer.new.layers in let reach = c.reach_of-reach.result in let n = c.in_ok-n.n in
    let width : c.width_of-width.result ≡ width_of index.cuts.items = c.width_of-width.ensures ∙ ap width_of c.deref-2.ensures.value in
    let pushed : PushedFresh c.first_of.result (width_of index.cuts.items) index.layers.items mid.items =
    subst (λ (w : ℕ). PushedFresh c.first_of.result w index.layers.items mid.items) width c.in_ok-n.ensures.pushed in
    let raised : AreRaisedAt n reach c.args.past mid.items new = subst (λ (ls : List Layer). AreRaisedAt n reach c.args.past ls new) c.deref_mut.ensures.value c.raise_layer.ensures.raised in
    let is : (with_items mid new).items ≡ new = with_items_is mid new (c.raise_layer.ensures.len ∙ c.deref_mut.ensures.len) in
    record {
      rising = c.requires.rising;
      layers = subst (λ (ls : List Layer). AllOver index.cuts.items ls) (sym is)
          (over_raised index.cuts.items n reach c.args.past mid.items new raised (over_pushed index.cuts.items c.first_of.result index.layers.items mid.items pushed c.requires.layers));
      touched = over_grew index.cuts.items index.touched c.raise_if.new.tree c.raise_if.ensures.tree c.raise_if.ensures.grew c.requires.touched;
      written = over_grew index.cuts.items index.written c.raise_if-2.new.tree c.raise_if-2.ensures.tree c.raise_if-2.ensures.grew c.requires.written;
    }

pub returns-clause-grew : goal.returns-clause-grew
returns-clause-grew c =
    let index = c.args.self.now in let mid = c.layer_for.new.layers in let new = c.raise_layer.new.layers in let reach = c.reach_of-reach.result in let n = c.in_ok-n.n in
    let raised : AreRaisedAt n reach c.args.past mid.items new = subst (λ (ls : List Layer). AreRaisedAt n reach c.args.past ls new) c.deref_mut.ensures.value c.raise_layer.ensures.raised in
    let is : (with_items mid new).items ≡ new = with_items_is mid new (c.raise_layer.ensures.len ∙ c.deref_mut.ensures.len) in
    record {
      cuts = refl;
      seconds = refl;
      layers = λ k l e. subst (λ (ls : List Layer). IsStillThere ls k l) (sym is)
          (still_there c.first_of.result c.width_of-width.result n reach c.args.past index.layers.items mid.items new c.in_ok-n.ensures.pushed raised k l e);
      lasts = λ k l e.
          was_there c.first_of.result c.width_of-width.result n reach c.args.past index.layers.items mid.items new c.in_ok-n.ensures.pushed raised k l (ap (λ ls. slice_get ls k) (sym is) ∙ e);
      hosted = refl;
      touched = c.raise_if.ensures.grew;
      written = c.raise_if-2.ensures.grew;
    }

pub returns-clause-noted : goal.returns-clause-noted
returns-clause-noted c =
    let index = c.args.self.now in let mid = c.layer_for.new.layers in let new = c.raise_layer.new.layers in let reach = c.reach_of-reach.result in let n = c.in_ok-n.n in
    let raised : AreRaisedAt n reach c.args.past mid.items new = subst (λ (ls : List Layer). AreRaisedAt n reach c.args.past ls new) c.deref_mut.ensures.value c.raise_layer.ensures.raised in
    let is : (with_items mid new).items ≡ new = with_items_is mid new (c.raise_layer.ensures.len ∙ c.deref_mut.ensures.len) in
    let layer : HasLayer new n c.first_of.result reach c.args.past = layer_raised c.first_of.result n reach c.args.past mid.items new c.in_ok-n.ensures.there raised in
    record {
      number = n;
      layer = layer.layer;
      there = ap (λ ls. slice_get ls n) is ∙ layer.there;
      first = layer.first_is ∙ c.first_of.ensures;
      reach = reach;
      reaches = subst (λ (cuts : List Cut). IsReach cuts c.args.t.now.range reach) c.deref.ensures.value c.reach_of-reach.ensures;
      marked = layer.noted;
      touched = λ on. c.raise_if.ensures.noted on;
      written = λ on w. c.raise_if-2.ensures.noted (elim c.if-hosted.branch [
        | then-hosted b ↦ b.raise_if-is ∙ (b.writes.ensures ∙ w)
        | else-hosted b ↦ cc (on, b.if-hosted.false)
      ]);
    }
