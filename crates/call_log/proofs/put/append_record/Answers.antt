use Rattle.std.proofs.Common.{ℕ, List, ◌++◌, length, take, sym, ap, ◌∙◌, arith}
use Rattle.std.proofs.lemmas.List.{length-append}
use Rattle.call_log.specs.Put.{spell_words}
use Rattle.call_log.proofs.Words.{length-spell_words, front_kept}
use Rattle.call_log.proofs.Records.{closed, opened, length-opened, whole}
use Rattle.call_log.proofs.put.append_record.Goals as goal

pub returns-in_err-append_words-clause-front : goal.returns-in_err-append_words-clause-front
returns-in_err-append_words-clause-front c =
    front_kept c.args.buf.now.items _ _ (ap (λ (l : List ℕ). take (length l) c.append_words.new.buf.items) (sym c.in_ok-from.ensures.appended) ∙ c.in_err-append_words.ensures.front ∙ c.in_ok-from.ensures.appended)

pub close_record-requires-clause-small : goal.close_record-requires-clause-small
close_record-requires-clause-small c =
    let body : List ℕ = spell_words c.args.words.now ++ c.args.rest.now in
    omega (
      arith,
      c.in_ok-from.ensures.place,
      ap length (whole c.args.buf.now.items _ _ _ _ _ _ c.in_ok-from.ensures.appended c.in_ok-append_words.ensures.appended c.in_ok-extend_from_slice.ensures.items),
      length-append (c.args.buf.now.items ++ opened c.args.kind c.args.context 0) body,
      length-append c.args.buf.now.items (opened c.args.kind c.args.context 0),
      length-opened c.args.kind c.args.context 0,
      length-append (spell_words c.args.words.now) c.args.rest.now,
      length-spell_words c.args.words.now,
    )

pub returns-clause-appended : goal.returns-clause-appended
returns-clause-appended c =
    closed c.args.buf.now.items (spell_words c.args.words.now ++ c.args.rest.now) _ _ c.args.kind c.args.context c.in_ok-from.from
    (whole c.args.buf.now.items _ _ _ _ _ _ c.in_ok-from.ensures.appended c.in_ok-append_words.ensures.appended c.in_ok-extend_from_slice.ensures.items)
    c.in_ok-from.ensures.place c.close_record.ensures
