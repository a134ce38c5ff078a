use Rattle.std.proofs.Common.{List, ℕ, ◌++◌, length, ap, sym, ◌∙◌, arith}
use Rattle.std.proofs.lemmas.List.{take_all, length-drop}
use Rattle.std.proofs.lemmas.Bool.Decides.{Decides-eqb}
use Rattle.std.proofs.lemmas.Slice.Eq.{starts_is}
use Rattle.vk_trace.proofs.mask.after.Goals as goal

pub returns : goal.returns
returns c = λ rest e. let h = (starts_is Decides-eqb c.args.text.now c.args.front.now c.starts_with.result c.starts_with.ensures.value).1 rest e in cc

pub returns-then-starts_with : goal.returns-then-starts_with
returns-then-starts_with c =
    let h = (starts_is Decides-eqb c.args.text.now c.args.front.now c.starts_with.result c.starts_with.ensures.value).0 c.if-starts_with.true in
    h ∙ ap (λ (l : List ℕ). c.args.front.now ++ l) (sym (take_all _ _ (omega (arith, length-drop (length c.args.front.now) c.args.text.now))))
