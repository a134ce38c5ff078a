use Rattle.std.proofs.Common.{map, ap, ◌∙◌, arith}
use Rattle.std.proofs.Math.ListN.{set}
use Rattle.std.proofs.lemmas.List.{length-set}
use Rattle.shader_model.specs.Invocation.{words_in}
use Rattle.shader_slots.specs.Bound.{Bound, seen, words_bound, with_written}
use Rattle.shader_slots.proofs.Seen.{lent, limit_put, fit_put, fit_word, words_put, seen_word}
use Rattle.shader_slots.proofs.slots.Slots.set_word.Goals as goal

pub invariant_of-self : goal.invariant_of-self
invariant_of-self c =
    let s = c.self.inside in
    let parts = s.writes.parts in
    let words = words_in (map words_bound parts) c.args.slot in
    record {
      constants = c.self.invariant.constants;
      reads = c.self.invariant.reads;
      writes = limit_put 4194304 (map words_bound parts) _ c.args.slot (set words c.args.i c.args.value)
          (ap (map words_bound) c.set_word.ensures ∙ words_put (map lent s.constants) (map lent s.reads) parts c.args.slot c.args.i c.args.value)
          c.self.invariant.writes (omega (arith, length-set words c.args.i c.args.value, c.self.invariant.writes c.args.slot));
      constant_words = c.self.invariant.constant_words;
      read_words = c.self.invariant.read_words;
      write_words = fit_put (map words_bound parts) _ c.args.slot (set words c.args.i c.args.value)
          (ap (map words_bound) c.set_word.ensures ∙ words_put (map lent s.constants) (map lent s.reads) parts c.args.slot c.args.i c.args.value)
          c.self.invariant.write_words (fit_word words c.args.i c.args.value (omega arith) (c.self.invariant.write_words c.args.slot));
    }

pub returns : goal.returns
returns c =
    let s = c.self.inside in
    ap (seen (map lent s.constants) (map lent s.reads)) c.set_word.ensures
    ∙ seen_word (map lent s.constants) (map lent s.reads) s.writes.parts c.args.slot c.args.i c.args.value
    ∙ ap (λ (b : Bound). with_written c.args.slot (set (words_in b.words.writes c.args.slot) c.args.i c.args.value) b) c.self.view_is
