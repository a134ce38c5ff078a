use Rattle.std.proofs.Common.{◌∷◌, ℕ, List, drop, sym, ap, ◌∙◌}
use Rattle.log_text.proofs.Numbers.{one_number}
use Rattle.log_text.proofs.fields.read_number.Goals as goal

pub returns-in_default-u32_to-clause-bad : goal.returns-in_default-u32_to-clause-bad
returns-in_default-u32_to-clause-bad c =
    λ (w : ℕ) (rest : List ℕ) lt stops is. c.in_default-u32_to.ensures w rest lt stops (ap (drop 1) (sym c.in-Some.ensures ∙ is))

pub returns-clause-found : goal.returns-clause-found
returns-clause-found c =
    let f = c.in-Some-u32_to.ensures in (
      one_number c.args.text.now c.in-Some-u32_to.rest.now c.args.log.now.items c.put_word.new.log.items c.in-Some-u32_to.number f.0
          (c.in-Some.ensures ∙ ap (λ (l : List ℕ). 32 ∷ l) f.2)
          c.in_ok-put_word.ensures.put,
      f.1,
    )
