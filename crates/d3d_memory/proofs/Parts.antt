-- The memory by its parts: a change of one part as the definitions have it.
use Rattle.std.proofs.Common.{◌≡◌, ℕ, ◌+◌, ◌-◌, ◌*◌, List, [], length, Option, Some, None, refl, sym, ap, ◌∙◌, arith}
use Rattle.std.specs.Prelude.{unwrap_or}
use Rattle.std.specs.Option.{option_map}
use Rattle.std.specs.Ordering.{nat_cmp}
use Rattle.std.specs.Map.{lookup}
use Rattle.std.specs.BTreeMap.{is_at}
use Rattle.std.proofs.lemmas.List.{take_all}
use Rattle.base_lemmas.specs.IdMap.{IdMap, get, insert, remove}
use Rattle.base_lemmas.specs.CodeMap.{map_of}
use Rattle.d3d_model.specs.Regions.{put, filled, slice}
use Rattle.d3d_model.specs.Binding.{BoundView}
use Rattle.d3d_model.specs.D3dState.{Memory, bytes_of}
use Rattle.d3d_model.specs.Memory as model
use Rattle.base_lemmas.proofs.CodeMaps.{get-map_of}
use Rattle.d3d_model.proofs.Sized.{length-filled}
use Rattle.d3d_memory.specs.Contents.{Contents, changed_if, changed, write, zeroed, copied}
use Rattle.d3d_memory.specs.Effects.{with_bytes}
use Rattle.d3d_memory.proofs.Puts.{put_whole}
use Rattle.d3d_memory.proofs.Kept.{same_change}

write_if_is : (o : Option (List ℕ)) (m : Memory) (res from : ℕ) (piece : List ℕ) → with_bytes m (changed_if o (λ old. put old from piece) m.bytes res) ≡ model.write_if o m res from piece
write_if_is None m res from piece = refl
write_if_is (Some old) m res from piece = refl

write_is : (m : Memory) (res from : ℕ) (piece : List ℕ) → with_bytes m (write m.bytes res from piece) ≡ model.write m res from piece
unfolding changed
write_is m res from piece = write_if_is (get m.bytes res) m res from piece

-- v is the memory as its fields show it, m the same as a clause sees it
module _ (v m : Memory) (b : Contents) (view : v ≡ m) where
  pub written : (res from : ℕ) (piece : List ℕ) → b ≡ write v.bytes res from piece → with_bytes v b ≡ model.write m res from piece
  written res from piece is = ap (with_bytes v) is ∙ write_is v res from piece ∙ ap (λ (n : Memory). model.write n res from piece) view

  pub copied_whole : (target source : ℕ) → b ≡ copied v.bytes target 0 source 0 (length (bytes_of v source)) → with_bytes v b ≡ model.write m target 0 (bytes_of m source)
  copied_whole target source is =
      written target 0 _ is
      ∙ ap (λ (l : List ℕ). model.write m target 0 l) (take_all (0 + length (bytes_of v source) - 0) (bytes_of v source) (omega arith))
      ∙ ap (λ (n : Memory). model.write m target 0 (bytes_of n source)) view

  pub copied_range : (target to source from len : ℕ) → b ≡ copied v.bytes target to source from len → with_bytes v b ≡ model.copied m target to source from len
  copied_range target to source from len is =
      written target to _ is ∙ ap (λ (n : Memory). model.write m target to (slice (bytes_of n source) from (from + len))) view

  pub cleared : (shown : BoundView) (values : List ℕ) → b ≡ write v.bytes shown.shape.res (shown.shape.first * shown.shape.unit) (model.pattern shown.shape values) → with_bytes v b ≡ model.cleared m (Some shown) values
  cleared shown values is = written shown.shape.res (shown.shape.first * shown.shape.unit) (model.pattern shown.shape values) is

zeroed_is : (m : Memory) (res : ℕ) → with_bytes m (zeroed m.bytes res) ≡ model.write m res 0 (filled (length (bytes_of m res)) [])
zeroed_is m res =
    ap (with_bytes m) (same_change (λ old. filled (length old) []) (λ old. put old 0 (filled (length (bytes_of m res)) [])) m.bytes res (sym (put_whole (bytes_of m res) (filled (length (bytes_of m res)) []) (length-filled (length (bytes_of m res)) []))))
    ∙ write_is m res 0 (filled (length (bytes_of m res)) [])

pub discarded : (v m : Memory) (z b : Contents) (res offset : ℕ) (piece : List ℕ) → v ≡ m → z ≡ zeroed v.bytes res → b ≡ write z res offset piece → with_bytes v b ≡ model.discarded m res offset piece
discarded v m z b res offset piece view zeros is =
    written (with_bytes v z) (model.write m res 0 (filled (length (bytes_of m res)) [])) b
    (ap (with_bytes v) zeros ∙ zeroed_is v res ∙ ap (λ (n : Memory). model.write n res 0 (filled (length (bytes_of n res)) [])) view)
    res offset piece is

-- ---- the counts

same_value : {X : Type 0} (o : Option X) → option_map (λ x. x) o ≡ o
same_value None = refl
same_value (Some x) = refl

pub value_at : (es : List (ℕ × ℕ)) (id : ℕ) (o : Option ℕ) → o ≡ lookup (is_at (nat_cmp id)) es → o ≡ get (map_of (λ n. n) es) id
value_at es id o found = found ∙ sym (get-map_of (λ n. n) es id ∙ same_value (lookup (is_at (nat_cmp id)) es))

pub begun : (v m : Memory) (b : IdMap ℕ) (query : ℕ) → v ≡ m → b ≡ insert v.begun_at query v.ran → record v { begun_at = b } ≡ model.begun_count m query
begun v m b query view is = ap (λ (n : IdMap ℕ). record v { begun_at = n }) is ∙ ap (λ (n : Memory). model.begun_count n query) view

pub ended : (v m : Memory) (b : IdMap ℕ) (query at : ℕ) → v ≡ m → at ≡ unwrap_or (get v.begun_at query) v.ran → b ≡ insert v.counts query (v.ran - at) → record v { counts = b } ≡ model.ended_count m query
ended v m b query at view begin is =
    ap (λ (n : IdMap ℕ). record v { counts = n }) (is ∙ ap (λ (k : ℕ). insert v.counts query (v.ran - k)) begin) ∙ ap (λ (n : Memory). model.ended_count n query) view

pub forgotten : (v m : Memory) (a b : IdMap ℕ) (query : ℕ) → v ≡ m → a ≡ remove v.begun_at query → b ≡ remove v.counts query → record v { begun_at = a; counts = b } ≡ model.no_counts m query
forgotten v m a b query view p q =
    ap (λ (n : IdMap ℕ). record v { begun_at = n; counts = b }) p ∙ ap (λ (n : IdMap ℕ). record v { begun_at = remove v.begun_at query; counts = n }) q ∙ ap (λ (n : Memory). model.no_counts n query) view
