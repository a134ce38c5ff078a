use Rattle.std.proofs.Common.{[], None, map, ap, ◌∙◌, arith}
use Rattle.std.proofs.lemmas.List.{map-set}
use Rattle.shader_slots.specs.Bound.{seen, words_bound, with_write}
use Rattle.shader_slots.proofs.Seen.{lent, limit_put, fit_put, fit_none, seen_put}
use Rattle.shader_slots.proofs.slots.Slots.take_write.Goals as goal

pub invariant_of-self : goal.invariant_of-self
invariant_of-self c =
    let parts = c.self.inside.writes.parts in
    record {
      constants = c.self.invariant.constants;
      reads = c.self.invariant.reads;
      writes = limit_put 4194304 (map words_bound parts) _ c.args.slot [] (ap (map words_bound) c.take.ensures.empty ∙ map-set words_bound parts c.args.slot None) c.self.invariant.writes (omega arith);
      constant_words = c.self.invariant.constant_words;
      read_words = c.self.invariant.read_words;
      write_words = fit_put (map words_bound parts) _ c.args.slot [] (ap (map words_bound) c.take.ensures.empty ∙ map-set words_bound parts c.args.slot None) c.self.invariant.write_words fit_none;
    }

pub returns-clause-empty : goal.returns-clause-empty
returns-clause-empty c =
    let s = c.self.inside in
    ap (seen (map lent s.constants) (map lent s.reads)) c.take.ensures.empty
    ∙ seen_put (map lent s.constants) (map lent s.reads) s.writes.parts c.args.slot None
    ∙ ap (with_write c.args.slot None) c.self.view_is
