use Rattle.std.proofs.Common.{rules}
use Rattle.immediate_ctx.proofs.Turning.{taken_fits}
use Rattle.immediate_ctx.proofs.staging.Staging.turn_page.Goals as goal

pub returns-clause-turned : goal.returns-clause-turned
returns-clause-turned c = (
  c.in_ok-page.page,
  record {
    takes = search rules;
    newest = search rules;
    next = search rules;
    put = search rules;
  },
  taken_fits _ _ _ _ _ c.in_ok-page.ensures.ok,
)
