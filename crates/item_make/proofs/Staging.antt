-- Which staging ranges a batch has once ranges are bound.
use Rattle.std.proofs.Common.{◌≡◌, ℕ, ◌+◌, ◌<◌, Bool, true, false, cond, not, ◌&&◌, List, [], ◌∷◌, ◌++◌, length, take, get_or}
use Rattle.std.proofs.Common.{Option, Some, None, refl, sym, ap, ◌∙◌}
use Rattle.std.specs.Prelude.{IsSome}
use Rattle.std.proofs.lemmas.List.{take_more}
use Rattle.dx_types.specs.declared.range.Range.{Range}
use Rattle.dx_types.specs.declared.range.ResRange.{ResRange}
use Rattle.dx_types.specs.declared.shape.Shape.{Shape}
use Rattle.base_lemmas.specs.IdMap as ids
use Rattle.vk_types.specs.Memory.{range, or_zero}
use Rattle.core_model.specs.Adding.{has_block, add_staging}
use Rattle.core_model.specs.Renaming.{BlockMap, block_of}
use Rattle.core_model.specs.Script.{Script}
use Rattle.d3d_model.specs.D3dState.{Objects, buffer_of}
use Rattle.d3d_model.specs.Past.{Past}
use Rattle.d3d_model.specs.Resource.{is_staging}
use Rattle.log_script.specs.Makers.{maker, of_makers}
use Rattle.batch_make.specs.Making.{with_whole}
use Rattle.item_work.specs.Placed.{IdBlocks, NamesBlocks}
use Rattle.item_make.specs.Bound.{with_buffer, with_range, with_ranges, Sized, AllLive}

-- one more range
ranges_behind : (named : IdBlocks) (o : Objects) (rs : List ResRange) (r : ResRange) (staging : List Range)
    → with_ranges named o (rs ++ r ∷ []) staging ≡ with_range named o (with_ranges named o rs staging) r
ranges_behind named o [] r staging = refl
ranges_behind named o (x ∷ rs) r staging = ranges_behind named o rs r (with_range named o staging x)

pub ranges_more : (named : IdBlocks) (o : Objects) (rs : List ResRange) (i : ℕ) (d : ResRange) (staging : List Range) → i < length rs
    → with_range named o (with_ranges named o (take i rs) staging) (get_or rs i d) ≡ with_ranges named o (take (i + 1) rs) staging
ranges_more named o rs i d staging below =
    sym (ap (λ (l : List ResRange). with_ranges named o l staging) (take_more rs i d below) ∙ ranges_behind named o (take i rs) (get_or rs i d) staging)

both : {A : Type 0} (a h : Bool) (x y : A) → cond a (cond h y x) y ≡ cond (a && not h) x y
both true true x y = refl
both true false x y = refl
both false h x y = refl

module _ (script : Script) (past : Past) (o : Objects) (sized : Sized script past o) (named : IdBlocks) (of : BlockMap) (names : NamesBlocks past named of) where
  live_range : (id : ℕ) (shape : Option Shape) → buffer_of o id ≡ shape → IsSome shape → (staging : List Range)
      → with_buffer (or_zero (ids.get named id)) shape staging
      ≡ cond (script.is_staging (maker past id) && not (has_block (block_of of (maker past id)) staging))
      (staging ++ range (block_of of (maker past id)) 0 (script.size (maker past id)) ∷ []) staging
  live_range id None e h staging = absurd cc
  live_range id (Some shape) e h staging =
      let block = block_of of (maker past id) in
      ap (λ (b : Option ℕ). cond (is_staging shape.usage) (with_whole (or_zero b) shape.size staging) staging) (names id)
      ∙ both (is_staging shape.usage) (has_block block staging) (staging ++ range block 0 shape.size ∷ []) staging
      ∙ ap (λ (n : ℕ). cond (is_staging shape.usage && not (has_block block staging)) (staging ++ range block 0 n ∷ []) staging) (sym (sized.size id shape e))
      ∙ ap (λ (t : Bool). cond (t && not (has_block block staging)) (staging ++ range block 0 (script.size (maker past id)) ∷ []) staging) (sym (sized.staging id shape e))

  pub ranges_are : (rs : List ResRange) (staging : List Range) → AllLive o rs
      → with_ranges named o rs staging ≡ add_staging script of (of_makers past rs) staging
  ranges_are [] staging live = refl
  ranges_are (r ∷ rs) staging live =
      ap (with_ranges named o rs) (live_range r.res (buffer_of o r.res) refl live.0 staging)
      ∙ ranges_are rs (cond (script.is_staging (maker past r.res) && not (has_block (block_of of (maker past r.res)) staging))
      (staging ++ range (block_of of (maker past r.res)) 0 (script.size (maker past r.res)) ∷ []) staging) live.1
