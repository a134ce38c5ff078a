-- What an ordered map of the code holds, as a map from ids has it; and what Posts bring, one more behind the others.
use Rattle.std.proofs.Common.{◌≡◌, ℕ, List, [], ◌∷◌, ◌++◌, refl, ◌∙◌, Option, Some, None}
use Rattle.std.specs.Option.{option_map}
use Rattle.std.specs.Ordering.{nat_cmp}
use Rattle.std.specs.Map.{lookup}
use Rattle.std.specs.BTreeMap.{is_at}
use Rattle.base_lemmas.specs.IdMap.{get, insert}
use Rattle.base_lemmas.specs.CodeMap.{map_of}
use Rattle.base_lemmas.proofs.CodeMaps.{get-map_of}
use Rattle.vk_types.specs.declared.message.Snap.{Snap}
use Rattle.vk_types.specs.declared.message.QueryValue.{QueryValue}
use Rattle.immediate_ctx.specs.Tables.{Numbers, Bytes, with_snaps, with_values}

same : {X : Type 0} (o : Option X) → option_map (λ (x : X). x) o ≡ o
same None = refl
same (Some x) = refl

pub held : {X : Type 0} (es : List (ℕ × X)) (id : ℕ)
    → get (map_of (λ (x : X). x) es) id ≡ lookup (is_at (nat_cmp id)) es
held {X} es id = get-map_of (λ (x : X). x) es id ∙ same (lookup (is_at (nat_cmp id)) es)

pub with_snaps-last : (m : Bytes) (ss : List Snap) (s : Snap)
    → with_snaps m (ss ++ s ∷ []) ≡ insert (with_snaps m ss) s.block s.bytes
with_snaps-last m [] s = refl
with_snaps-last m (x ∷ ss) s = with_snaps-last (insert m x.block x.bytes) ss s

pub with_values-last : (m : Numbers) (vs : List QueryValue) (v : QueryValue)
    → with_values m (vs ++ v ∷ []) ≡ insert (with_values m vs) v.query v.value
with_values-last m [] v = refl
with_values-last m (x ∷ vs) v = with_values-last (insert m x.query x.value) vs v
