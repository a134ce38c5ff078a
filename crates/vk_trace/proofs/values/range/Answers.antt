use Rattle.std.proofs.Common.{drop, sym, ap, ◌∙◌, arith}
use Rattle.vk_trace.specs.ListText.{range_word}
use Rattle.vk_trace.specs.Reading.{IsReadRange}
use Rattle.vk_trace.proofs.Spelled.{none_read, range_front, range_cut, range_read, same_number}
use Rattle.vk_trace.proofs.values.range.Goals as goal

pub returns-in_err-behind : goal.returns-in_err-behind
returns-in_err-behind c = none_read IsReadRange range_word _ _ c.from_residual.ensures (λ r good e. c.in_err-behind.ensures _ (range_front r _ _ _ good.fits c.cut.ensures e).1)

pub returns-in_err-block : goal.returns-in_err-block
returns-in_err-block c = none_read IsReadRange range_word _ _ c.from_residual-in_err-block.ensures (λ r good e. c.in_err-block.ensures r.block good.fits.block (range_front r _ _ _ good.fits c.cut.ensures e).0)

pub returns-in_err-read_u64 : goal.returns-in_err-read_u64
returns-in_err-read_u64 c =
    none_read IsReadRange range_word _ _ c.from_residual-in_err-read_u64.ensures
    (λ r good e. c.in_err-read_u64.ensures r.from good.fits.from (range_cut r _ _ _ _ _ _ good.fits c.cut.ensures c.in_ok-behind.ensures c.cut-2.ensures e).from)

pub returns-in_err-behind-2 : goal.returns-in_err-behind-2
returns-in_err-behind-2 c =
    none_read IsReadRange range_word _ _ c.from_residual-in_err-behind-2.ensures
    (λ r good e. c.in_err-behind-2.ensures _ (range_cut r _ _ _ _ _ _ good.fits c.cut.ensures c.in_ok-behind.ensures c.cut-2.ensures e).to)

pub returns-in_err-read_u64-2 : goal.returns-in_err-read_u64-2
returns-in_err-read_u64-2 c =
    none_read IsReadRange range_word _ _ c.from_residual-in_err-read_u64-2.ensures
    (λ r good e. c.in_err-read_u64-2.ensures r.to good.fits.to (ap (drop 1) (sym c.in_ok-behind-2.ensures ∙ (range_cut r _ _ _ _ _ _ good.fits c.cut.ensures c.in_ok-behind.ensures c.cut-2.ensures e).to)))

pub returns-then-range : goal.returns-then-range
returns-then-range c =
    λ r good e.
    let cut = range_cut r _ _ _ _ _ _ good.fits c.cut.ensures c.in_ok-behind.ensures c.cut-2.ensures e in
    let from = same_number _ r.from c.in_ok-read_u64.ensures.0 good.fits.from (sym c.in_ok-read_u64.ensures.1 ∙ cut.from) in
    let to = same_number _ r.to c.in_ok-read_u64-2.ensures.0 good.fits.to (sym c.in_ok-read_u64-2.ensures.1 ∙ ap (drop 1) (sym c.in_ok-behind-2.ensures ∙ cut.to)) in
    let some = good.listed in
    absurd (omega arith)

pub returns : goal.returns
returns c = (
  record { listed = omega arith; fits = record { block = c.in_ok-block.ensures.0; from = c.in_ok-read_u64.ensures.0; to = c.in_ok-read_u64-2.ensures.0 } },
  range_read _ _ _ _ _ _ _ _ c.cut.ensures c.in_ok-behind.ensures c.cut-2.ensures c.in_ok-behind-2.ensures c.in_ok-block.ensures.1 c.in_ok-read_u64.ensures.1 c.in_ok-read_u64-2.ensures.1,
)
