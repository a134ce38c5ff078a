use Rattle.std.proofs.Common.{sym, ap, drop, ◌∙◌}
use Rattle.vk_trace.specs.ListText.{size}
use Rattle.vk_trace.specs.Reading.{BadCond, IsCondRead}
use Rattle.vk_trace.proofs.Ops.{none_match}
use Rattle.vk_trace.proofs.Spelled.{same_range}
use Rattle.vk_trace.proofs.Works.{heads}
use Rattle.vk_trace.proofs.read.condition.Goals as goal

pub returns-in_err-at : goal.returns-in_err-at
returns-in_err-at c =
    none_match (BadCond c.args.words.now) (IsCondRead c.args.words.now c.range.new.self) _ c.from_residual.ensures (record {
      more = c.skip.new.self;
      is = c.if-not-skip.ensures;
      none = λ d rest listed fits e. c.in_err-at.ensures d.at _ (record { listed = listed.0; fits = fits.0 }) e;
    })

pub returns-in_err-value : goal.returns-in_err-value
returns-in_err-value c =
    none_match (BadCond c.args.words.now) (IsCondRead c.args.words.now c.small.new.self) _ c.from_residual-in_err-value.ensures (record {
      more = c.skip.new.self;
      is = c.if-not-skip.ensures;
      none = λ d rest listed fits e. c.in_err-value.ensures d.value _ fits.1 (ap (drop 1) (sym c.in_ok-at.ensures.1 ∙ e));
    })

pub returns-then-at-ne4 : goal.returns-then-at-ne4
returns-then-at-ne4 c = record {
  more = c.skip.new.self;
  is = c.if-not-skip.ensures;
  none = λ d rest listed fits e.
      let same = same_range c.in_ok-at.at d.at c.in_ok-at.ensures.0.fits fits.0 (heads _ _ _ _ (sym c.in_ok-at.ensures.1 ∙ e)) in
      c.if-at-ne4.true (ap size same ∙ listed.1);
}
