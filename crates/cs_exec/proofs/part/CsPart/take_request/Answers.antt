use Rattle.std.proofs.Common.{List, ℕ, ◌++◌, ap, sym, ◌∙◌, append_assoc}
use Rattle.std.specs.Option.{option_to_list}
use Rattle.cs_exec.proofs.part.CsPart.take_request.Goals as goal

pub returns-clause-stands : goal.returns-clause-stands
returns-clause-stands c = λ calls log hs h. record {
  position = h.position;
  goes_on = h.goes_on;
  named = h.named;
  live = h.live;
  before_list = h.before_list;
  requested = (
    h.requested.0 ++ option_to_list c.pop_front.result,
    h.requested.1 ∙ ap (λ (l : List ℕ). h.requested.0 ++ l) c.pop_front.ensures.items
        ∙ sym (append_assoc h.requested.0 (option_to_list c.pop_front.result) c.pop_front.new.self.items),
  );
}
