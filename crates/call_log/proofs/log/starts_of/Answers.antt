use Rattle.std.proofs.Common.{ℕ, List, drop, length, sym, ap, subst, ◌≡◌, ◌∙◌, arith}
use Rattle.std.proofs.lemmas.List.{length-drop}
use Rattle.call_log.specs.Grammar.{IsWhole, head_at, end_record}
use Rattle.call_log.proofs.Frames.{whole_of, end_of}
use Rattle.call_log.proofs.Index.{reads_fault, reads_end, reads_more}
use Rattle.call_log.proofs.Header.{reads_none}
use Rattle.call_log.proofs.log.starts_of.Goals as goal

pub records-init : goal.records-init
records-init c = reads_none c.args.bytes.now c.new-starts.result.items c.new-starts.ensures.items (λ i. omega (arith, c.type_inv.bytes i)) c.requires.header

pub returns-in-Broken-clause-fault : goal.returns-in-Broken-clause-fault
returns-in-Broken-clause-fault c =
    reads_fault _ c.records.starts.items c.records.at _ c.records.invariant (sym (c.in-Broken.ensures ∙ ap (λ (r : List ℕ). head_at c.records.at r) c.tail-rest.ensures))

pub returns-in-End-clause-found : goal.returns-in-End-clause-found
returns-in-End-clause-found c =
    let r = c.records.invariant in
    let ends : drop c.records.at c.args.bytes.now ≡ end_record = sym c.tail-rest.ensures ∙ end_of c.records.at _ (sym c.in-End.ensures) in
    record {
      small = c.requires.small;
      few = omega (arith, r.count, r.within, ap length ends, length-drop c.records.at c.args.bytes.now);
      within = r.places;
      whole = r.whole;
      placed = r.placed;
      log = reads_end _ c.records.starts.items c.records.at r ends;
    }

pub body_len-requires : goal.body_len-requires
body_len-requires c = whole_of c.records.at _ (sym c.in-Whole.ensures)

pub records-smaller : goal.records-smaller
records-smaller c =
    let w : IsWhole (drop c.records.at c.args.bytes.now) = subst IsWhole c.tail-rest.ensures (whole_of c.records.at _ (sym c.in-Whole.ensures)) in
    omega (arith, w.long, length-drop c.records.at c.args.bytes.now)

pub records-preserved : goal.records-preserved
records-preserved c =
    let w : IsWhole (drop c.records.at c.args.bytes.now) = subst IsWhole c.tail-rest.ensures (whole_of c.records.at _ (sym c.in-Whole.ensures)) in
    rw (c.in_ok-push-in-Whole.ensures.items, c.body_len.ensures.equals, c.tail-rest.ensures) (
    reads_more c.args.bytes.now c.records.starts.items c.records.at (λ i. omega (arith, c.type_inv.bytes i)) c.records.invariant w
    )
