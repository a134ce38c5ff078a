-- A page that is taken for so many bytes has them.
use Rattle.std.proofs.Common.{◌≡◌, ℕ, ◌≤◌, max, List, length, Option, Some, None, refl, sym, ap, subst, arith}
use Rattle.std.proofs.Common.{position}
use Rattle.std.specs.Prelude.{slice_index_or}
use Rattle.std.proofs.lemmas.Bool.{leb-true}
use Rattle.std.proofs.lemmas.List.{length-replicate}
use Rattle.std.proofs.lemmas.List.Quantifiers.{position-Some}
use Rattle.dx_types.specs.declared.limits.TheConstants.{PAGE_BYTES}
use Rattle.buffer_blocks.specs.declared.block.Block.{Block}
use Rattle.buffer_blocks.specs.Block.{bytes_of}
use Rattle.staging_pages.specs.PageState.{PageState}
use Rattle.staging_pages.specs.Pages.{TakesPage, TakesPageAt, is_long_enough, unused}
use Rattle.immediate_ctx.specs.Staging.{Fits}

fits_at : (old : List Block) (number len : ℕ) (page : PageState) (new : List Block) (o : Option ℕ)
    → position (is_long_enough len) old ≡ o
    → TakesPageAt old number len page new o → Fits len page
fits_at old number len page new (Some at) e t =
    let there = slice_index_or old at page.block in
    let long : len ≤ length (bytes_of there) =
    leb-true len (length (bytes_of there)) (position-Some (is_long_enough len) old at page.block e).1 in
    let whole : Fits len (unused there) = omega (arith, long) in
    subst (λ (p : PageState). Fits len p) (sym t.0) whole
fits_at old number len page new None e t =
    let count = ap length t.0.zeros in
    omega (arith, count, length-replicate {A = ℕ} (max len PAGE_BYTES) 0, t.0.nothing_used)

pub taken_fits : (old : List Block) (number len : ℕ) (page : PageState) (new : List Block)
    → TakesPage old number len page new → Fits len page
taken_fits old number len page new t = fits_at old number len page new (position (is_long_enough len) old) refl t
