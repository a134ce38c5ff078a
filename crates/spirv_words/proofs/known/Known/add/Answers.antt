use Rattle.std.proofs.Common.{◌≡◌, List, ◌∷◌, subst, sym, ap, ◌∙◌}
use Rattle.spirv_model.specs.Op.{Op}
use Rattle.spirv_words.specs.Kept.{IsPlace, so_far}
use Rattle.spirv_model.specs.View.{shown}
use Rattle.spirv_model.specs.History.{maker, is_branched_to, is_entry}
use Rattle.spirv_model.specs.Types.{is_declared}
use Rattle.spirv_words.proofs.Lists.{so_far_pushed}
use Rattle.spirv_words.proofs.known.Known.add.Goals as goal

pub invariant_of-result : goal.invariant_of-result
invariant_of-result c =
    let before = c.args.self.ops.items in
    let h : List Op = so_far before in
    let pushed : so_far c.push.new.self.items ≡ shown c.args.op ∷ h = ap so_far c.in_ok-push.ensures.items ∙ so_far_pushed before c.args.op in
    record {
      records = λ x. c.in_ok-add.ensures h c.args.self.records x ∙ ap (maker x) (sym pushed);
      names_labels = λ x. c.in_ok-add-2.ensures h c.args.self.names_labels x ∙ ap (is_branched_to x) (sym pushed);
      has_types = λ o. c.in_ok-add-3.ensures h c.args.self.has_types o ∙ ap (is_declared o) (sym pushed);
      has_entry = λ f. c.entry_after.ensures h c.args.self.has_entry f ∙ ap (is_entry f) (sym pushed);
      is_place = subst (λ (l : List Op). IsPlace c.after.result l) (sym pushed) (c.after.ensures h c.args.self.is_place);
    }
