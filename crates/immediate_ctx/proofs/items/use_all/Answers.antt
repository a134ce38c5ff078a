use Rattle.std.proofs.Common.{◌≡◌, ℕ, List, [], ◌∷◌, ◌++◌, refl, ap, sym, ◌∙◌, take, arith, Option}
use Rattle.std.proofs.lemmas.List.{take_more}
use Rattle.std.specs.Prelude.{slice_index_or}
use Rattle.base_lemmas.specs.IdMap.{get}
use Rattle.dx_types.specs.declared.range.ResRange.{ResRange}
use Rattle.immediate_ctx.specs.declared.buffers.Buffer.{Buffer}
use Rattle.immediate_ctx.specs.Buffers.{Live}
use Rattle.immediate_ctx.specs.Items.{use_of, uses_in, with_use_of, with_uses}
use Rattle.immediate_ctx.specs.OpenChunk.{Filled}
use Rattle.immediate_ctx.proofs.items.use_all.Goals as goal

abbrev nothing : ResRange
nothing = record { res = 0; from = 0; to = 0 }

uses_in-last : (live : Live) (rs : List ResRange) (r : ResRange) (bs : List ℕ)
    → uses_in live (rs ++ r ∷ []) bs ≡ use_of (get live r.res) (uses_in live rs bs)
uses_in-last live [] r bs = refl
uses_in-last live (x ∷ rs) r bs = uses_in-last live rs r (use_of (get live x.res) bs)

with_uses-last : (live : Live) (rs : List ResRange) (r : ResRange) (f : Filled)
    → with_uses live (rs ++ r ∷ []) f ≡ with_use_of (get live r.res) (with_uses live rs f)
with_uses-last live rs r f = λ i. record f {
  used = uses_in-last live rs r f.used i;
  named = uses_in-last live rs r f.named i;
}

pub each-preserved : goal.each-preserved
each-preserved c =
    let rs = c.args.bound.now in
    let live = c.args.buffers.now in
    let i = c.each.r-index in
    let r = slice_index_or rs i nothing in
    c.in_ok-use_one.ensures ∙ ap (λ (b : Option Buffer). with_use_of b c.each.chunk) c.get.ensures
    ∙ ap (with_use_of (get live r.res)) c.each.invariant
    ∙ sym (ap (λ (xs : List ResRange). with_uses live xs c.args.chunk.now) (take_more rs i nothing (omega arith))
    ∙ with_uses-last live (take i rs) r c.args.chunk.now)
