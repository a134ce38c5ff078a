use Rattle.std.proofs.Common.{◌≡◌, ◌++◌, ◌∷◌, ℕ, [], List, refl, map, ap, sym, subst, ◌∙◌, arith}
use Rattle.lifetime.specs.declared.holds.Mark.{Mark}
use Rattle.query_pool.specs.Asked.{Asked}
use Rattle.device_memory.specs.Held.{Held, block_of, memory_of}
use Rattle.buffer_blocks.specs.declared.block.Block.{Block}
use Rattle.vk_types.specs.declared.message.HostPart.{HostPart}
use Rattle.vk_types.specs.declared.message.QueryMark.{QueryMark}
use Rattle.command_queue.specs.Readiness.{fresh}
use Rattle.command_queue.specs.declared.queue.Listed.{Listed}
use Rattle.vk_device.specs.declared.accepted.Accepted.{Accepted}
use Rattle.vk_device.specs.Accepting.{CanMark, MarksAll, brought, marks_by, with_blocks, written}
use Rattle.vk_device.specs.State.{State}
use Rattle.vk_device.proofs.Taking.{blocks_free, others_free, below_raised}
use Rattle.vk_device.proofs.device.Device.accept.Goals as goal

pub hold_zeroed-requires : goal.hold_zeroed-requires
hold_zeroed-requires c =
    let b = c.args.s.batch in
    let held : c.self.inside.memory ≡ c.args.self.now.held = ap (λ (d : State). d.held) c.self.view_is in
    rw held (blocks_free c.args.self.now b.blocks.items b.pages.items c.requires.room c.requires.next.apart)

pub hold-requires : goal.hold-requires
hold-requires c =
    let b = c.args.s.batch in
    let held : c.self.inside.memory ≡ c.args.self.now.held = ap (λ (d : State). d.held) c.self.view_is in
    rw (c.in_ok-hold_zeroed.ensures, held) (others_free c.args.self.now b.blocks.items b.pages.items c.requires.room c.requires.next.apart)

pub write_parts-requires : goal.write_parts-requires
write_parts-requires c =
    let b = c.args.s.batch in
    let held : c.self.inside.memory ≡ c.args.self.now.held = ap (λ (d : State). d.held) c.self.view_is in
    rw (c.deref-2.ensures.value, c.in_ok-hold.ensures, c.in_ok-hold_zeroed.ensures, held) c.requires.next.writes

pub mark_all-requires : goal.mark_all-requires
mark_all-requires c =
    subst (λ (l : List QueryMark). CanMark l c.self.inside.queries) (sym c.deref-3.ensures.value)
    (subst (CanMark c.args.s.batch.queries.items) (sym (ap (λ (d : State). d.asked) c.self.view_is)) c.requires.marks)

pub retire_all-requires : goal.retire_all-requires
retire_all-requires c =
    below_raised c.self.inside.newest c.args.s.batch.number c.self.inside.holds (omega (arith, c.requires.next.number, ap (λ (d : State). d.newest) c.self.view_is)) c.self.invariant

pub returns-clause-ok : goal.returns-clause-ok
returns-clause-ok c =
    let old = c.args.self.now in
    let b = c.args.s.batch in
    let held : c.self.inside.memory ≡ old.held = ap (λ (d : State). d.held) c.self.view_is in
    let kept : Accepted = record {
      number = b.number;
      upto = b.upto;
      placed = b.placed;
      pages = c.in_ok-numbers.numbers;
      writes = b.writes;
      staging = b.staging;
      count = c.len-count.result;
    } in
    record {
      before = c.hold.new.memory;
      blocks = c.in_ok-hold.ensures ∙ ap (with_blocks b.pages.items) c.in_ok-hold_zeroed.ensures
          ∙ ap (λ (h : Held). brought b.blocks.items b.pages.items (block_of h)) held;
      memory = c.write_parts.ensures.memory
          ∙ ap (λ (l : List HostPart). written c.args.log.now.bytes l (memory_of c.hold.new.memory)) c.deref-2.ensures.value;
      alike = c.write_parts.ensures.alike;
      kept = kept;
      is_kept = record {
        number = refl;
        upto = refl;
        placed = refl;
        pages = c.in_ok-numbers.ensures ∙ ap (λ (l : List Block). map (λ (p : Block). p.number) l) c.deref.ensures.value;
        writes = refl;
        staging = refl;
        count = omega (arith, c.len-count.ensures, b.ops.ok.0);
      };
      batches = c.in_ok-push_back.ensures.items ∙ ap (λ (l : List Accepted). l ++ kept ∷ []) (ap (λ (d : State). d.batches) c.self.view_is);
      steps = c.in_ok-push_all.ensures ∙ ap (λ (l : List Listed). l ++ map fresh b.ops.items) (ap (λ (d : State). d.steps) c.self.view_is);
      newest = refl;
      modules = ap (λ (d : State). d.modules) c.self.view_is;
      order = ap (λ (d : State). d.order) c.self.view_is;
      marks = c.in_ok-retire_all.ensures.ok ∙ ap (λ (l : List ℕ). c.self.inside.holds ++ marks_by b.number l) c.deref-4.ensures.value
          ∙ ap (λ (l : List Mark). l ++ marks_by b.number b.marks.items) (ap (λ (d : State). d.marks) c.self.view_is);
      asked = subst (λ (q : Asked). MarksAll b.queries.items q c.mark_all.new.queries) (ap (λ (d : State). d.asked) c.self.view_is)
          (subst (λ (l : List QueryMark). MarksAll l c.self.inside.queries c.mark_all.new.queries) c.deref-3.ensures.value c.in_ok-mark_all.ensures);
    }
