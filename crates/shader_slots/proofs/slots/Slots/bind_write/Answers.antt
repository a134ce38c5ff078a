use Rattle.std.proofs.Common.{Some, map, ap, ◌∙◌}
use Rattle.std.proofs.lemmas.List.{map-set}
use Rattle.shader_slots.specs.Bound.{seen, words_bound, with_write}
use Rattle.shader_slots.proofs.Seen.{lent, limit_put, fit_put, seen_put}
use Rattle.shader_slots.proofs.slots.Slots.bind_write.Goals as goal

pub invariant_of-self : goal.invariant_of-self
invariant_of-self c =
    let parts = c.self.inside.writes.parts in
    record {
      constants = c.self.invariant.constants;
      reads = c.self.invariant.reads;
      writes = limit_put 4194304 (map words_bound parts) _ c.args.slot c.args.part.words (ap (map words_bound) c.put.ensures.put ∙ map-set words_bound parts c.args.slot (Some c.args.part)) c.self.invariant.writes c.put.ensures.limit;
      constant_words = c.self.invariant.constant_words;
      read_words = c.self.invariant.read_words;
      write_words = fit_put (map words_bound parts) _ c.args.slot c.args.part.words (ap (map words_bound) c.put.ensures.put ∙ map-set words_bound parts c.args.slot (Some c.args.part)) c.self.invariant.write_words c.put.ensures.words;
    }

pub returns : goal.returns
returns c =
    let s = c.self.inside in
    ap (seen (map lent s.constants) (map lent s.reads)) c.put.ensures.put
    ∙ seen_put (map lent s.constants) (map lent s.reads) s.writes.parts c.args.slot (Some c.args.part)
    ∙ ap (with_write c.args.slot (Some c.args.part)) c.self.view_is
