use Rattle.std.proofs.Common.{map, ap, ◌∙◌}
use Rattle.std.proofs.lemmas.List.{map-set}
use Rattle.shader_slots.specs.Bound.{seen, with_read}
use Rattle.shader_slots.proofs.Seen.{lent, lent_fits, limit_put, fit_put}
use Rattle.shader_slots.proofs.slots.Slots.bind_read.Goals as goal

pub invariant_of-self : goal.invariant_of-self
invariant_of-self c =
    let s = c.self.inside in
    record {
      reads = limit_put 4194304 (map lent s.reads) _ c.args.slot (lent c.args.part) (map-set lent s.reads c.args.slot c.args.part) c.self.invariant.reads (lent_fits c.args.part c.requires.limit);
      constants = c.self.invariant.constants;
      writes = c.self.invariant.writes;
      read_words = fit_put (map lent s.reads) _ c.args.slot (lent c.args.part) (map-set lent s.reads c.args.slot c.args.part) c.self.invariant.read_words c.have_bits.ensures;
      constant_words = c.self.invariant.constant_words;
      write_words = c.self.invariant.write_words;
    }

pub returns : goal.returns
returns c =
    let s = c.self.inside in
    ap (λ rs. seen (map lent s.constants) rs s.writes.parts) (map-set lent s.reads c.args.slot c.args.part) ∙ ap (with_read c.args.slot (lent c.args.part)) c.self.view_is
