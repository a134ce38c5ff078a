use Rattle.std.proofs.Common.{ℕ, List, ◌++◌, length, ap, ◌∙◌, arith}
use Rattle.std.proofs.lemmas.List.{length-append}
use Rattle.call_log.proofs.Records.{closed, opened, length-opened}
use Rattle.log_text.proofs.read.put_record.Goals as goal

pub close_record-requires-clause-small : goal.close_record-requires-clause-small
close_record-requires-clause-small c =
    let p = c.in_ok-read_fields.ensures.found in
    omega (
      arith,
      p.reads.shaped.small,
      c.in_ok-from.ensures.place,
      ap length p.put,
      ap length c.in_ok-from.ensures.appended,
      length-append c.open_record.new.buf.items p.body,
      length-append c.args.log.now.items (opened c.args.kind c.args.context 0),
      length-opened c.args.kind c.args.context 0,
    )

pub returns-clause-found : goal.returns-clause-found
returns-clause-found c =
    let p = c.in_ok-read_fields.ensures.found in
    record {
      body = p.body;
      reads = p.reads;
      put =
          closed c.args.log.now.items p.body _ _ c.args.kind c.args.context c.in_ok-from.from
          (p.put ∙ ap (λ (l : List ℕ). l ++ p.body) c.in_ok-from.ensures.appended) c.in_ok-from.ensures.place c.close_record.ensures;
    }
