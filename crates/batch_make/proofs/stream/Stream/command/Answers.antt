use Rattle.std.proofs.Common.{◌≡◌, ◌++◌, [], ◌∷◌, ℕ, suc, ap, ◌∙◌}
use Rattle.vk_types.specs.declared.op.VkOp.TheVariants as op
use Rattle.vk_types.specs.BarrierCauses.{barrier_before, maybe_barrier}
use Rattle.batch_make.proofs.Listed.{listed_more}
use Rattle.batch_make.proofs.stream.Stream.command.Goals as goal

pub returns-clause-parts : goal.returns-clause-parts
returns-clause-parts c = λ part m goes has.
    let number : c.in_ok-number.number ≡ suc m.commands = c.in_ok-number.ensures ∙ ap (λ n. suc n) goes.count in
    let old = c.args.parts.now.ops.items in
    record {
      written = has.written;
      operations =
          c.in_ok-list.ensures.ops m.recent goes.since
          ∙ ap (λ (n : ℕ). old ++ (maybe_barrier (barrier_before m.recent (record { number = n; call = c.args.call; work = c.args.work; cond = c.args.cond })) ++ op.Command (record { number = n; call = c.args.call; work = c.args.work; cond = c.args.cond }) ∷ [])) number
          ∙ ap (λ l. l ++ (maybe_barrier (barrier_before m.recent (record { number = suc m.commands; call = c.args.call; work = c.args.work; cond = c.args.cond })) ++ op.Command (record { number = suc m.commands; call = c.args.call; work = c.args.work; cond = c.args.cond }) ∷ [])) has.operations;
      commands = listed_more m.ops m.listed _ _ has.commands;
      ranges = has.ranges;
      marks = has.marks;
    }
