use Rattle.std.proofs.Common.{map, ap, ◌∙◌}
use Rattle.std.proofs.lemmas.List.{map-set}
use Rattle.shader_slots.specs.Bound.{seen, with_constant}
use Rattle.shader_slots.proofs.Seen.{lent, lent_fits, limit_put, fit_put}
use Rattle.shader_slots.proofs.slots.Slots.bind_constant.Goals as goal

pub invariant_of-self : goal.invariant_of-self
invariant_of-self c =
    let s = c.self.inside in
    record {
      constants = limit_put 4194304 (map lent s.constants) _ c.args.slot (lent c.args.part) (map-set lent s.constants c.args.slot c.args.part) c.self.invariant.constants (lent_fits c.args.part c.requires.limit);
      reads = c.self.invariant.reads;
      writes = c.self.invariant.writes;
      constant_words = fit_put (map lent s.constants) _ c.args.slot (lent c.args.part) (map-set lent s.constants c.args.slot c.args.part) c.self.invariant.constant_words c.have_bits.ensures;
      read_words = c.self.invariant.read_words;
      write_words = c.self.invariant.write_words;
    }

pub returns : goal.returns
returns c =
    let s = c.self.inside in
    ap (λ cs. seen cs (map lent s.reads) s.writes.parts) (map-set lent s.constants c.args.slot c.args.part) ∙ ap (with_constant c.args.slot (lent c.args.part)) c.self.view_is
