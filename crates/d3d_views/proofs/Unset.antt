-- Slots that are emptied still end where they may.
use Rattle.std.proofs.Common.{Bool, true, false, cond, List, Option, None}
use Rattle.std.specs.List.{All}
use Rattle.std.proofs.lemmas.List.Elements.{All-map, All-weaker}
use Rattle.d3d_model.specs.Binding.{BoundView, is_beside, without}
use Rattle.d3d_views.specs.Limits.{EndFits}

kept_or_none : (b : Bool) (slot : Option BoundView) → EndFits slot → EndFits (cond b None slot)
kept_or_none true slot fits = tt
kept_or_none false slot fits = fits

pub fits_without : (v : Option BoundView) (slots : List (Option BoundView)) → All EndFits slots → All EndFits (without v slots)
fits_without v slots fits =
    All-map EndFits (λ s. cond (is_beside v s) None s) slots (All-weaker EndFits (λ s. EndFits (cond (is_beside v s) None s)) (λ s f. kept_or_none (is_beside v s) s f) slots fits)
