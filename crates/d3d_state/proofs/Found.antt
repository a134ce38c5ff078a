-- What is live under an id, by the entries of the code.
use Rattle.std.proofs.Common.{◌≡◌, ℕ, Bool, true, false, cond, List, Option, Some, None, Result, Ok, Err, OnOk, OnErr, inl, inr, refl, sym, ap, ◌∙◌}
use Rattle.std.specs.Option.{option_map, ok_or}
use Rattle.dx_types.specs.declared.refusal.Refusal.{Refusal}
use Rattle.dx_types.specs.declared.refusal.Refusal.TheVariants.{UnknownId}
use Rattle.dx_types.specs.declared.shape.Shape.{Shape}
use Rattle.d3d_model.specs.Resource.{Buffers}
use Rattle.std.specs.Ordering.{nat_cmp, eq_by_cmp}
use Rattle.std.specs.Map.{lookup}
use Rattle.std.specs.BTreeMap.{is_at}
use Rattle.std.proofs.lemmas.Bool.{cases_eq}
use Rattle.base_lemmas.specs.IdMap.{IdMap, empty, get, remove}
use Rattle.base_lemmas.specs.CodeMap.{map_of}
use Rattle.base_lemmas.proofs.Maps.{get-empty, get-remove, other_key, same_map}
use Rattle.base_lemmas.proofs.CodeMaps.{get-map_of}

same_value : {X : Type 0} (o : Option X) → option_map (λ x. x) o ≡ o
same_value None = refl
same_value (Some x) = refl

pub found : {X : Type 0} (es : List (ℕ × X)) (id : ℕ) → get (map_of (λ s. s) es) id ≡ lookup (is_at (nat_cmp id)) es
found es id = get-map_of (λ s. s) es id ∙ same_value _

none_both : {X : Type 0} (b : Bool) (o : Option X) → o ≡ None → cond b None o ≡ None
none_both true o e = refl
none_both false o e = e

-- nothing is removed from what has nothing
pub remove-empty : {X : Type 0} (id : ℕ) → remove (empty {X = X}) id ≡ empty
remove-empty {X} id = same_map _ _ (λ q. get-remove (empty {X = X}) id q ∙ none_both (eq_by_cmp nat_cmp q id) (get empty q) (get-empty X q) ∙ sym (get-empty X q))

absent_at : {X : Type 0} (q k : ℕ) (m : IdMap X) → get m k ≡ None → cond (eq_by_cmp nat_cmp q k) None (get m q) ≡ get m q
absent_at q k m none = elim (cases_eq q k) [
  | inl e ↦ rw e (if_none (eq_by_cmp nat_cmp k k) (get m k) none)
  | inr apart ↦ ap (λ b. cond b None (get m q)) (other_key q k apart)
]
  where
    if_none : {X : Type 0} (b : Bool) (o : Option X) → o ≡ None → cond b None o ≡ o
    if_none true o e = sym e
    if_none false o e = refl

-- nothing is removed where nothing is
pub remove-absent : {X : Type 0} (m : IdMap X) (k : ℕ) → get m k ≡ None → remove m k ≡ m
remove-absent m k none = same_map _ _ (λ q. get-remove m k q ∙ absent_at q k m none)

-- a table's removal, whatever it answers
pub removed_anyway : (old new : Buffers) (id : ℕ) (r : Result Shape Refusal) → r ≡ ok_or (get old id) UnknownId → OnOk r (new ≡ remove old id) → OnErr r (new ≡ old) → new ≡ remove old id
removed_anyway old new id (Ok s) e gone same = gone
removed_anyway old new id (Err why) e gone same = same ∙ sym (remove-absent old id (was_none (get old id) e))
  where
    was_none : (o : Option Shape) → Err why ≡ ok_or o UnknownId → o ≡ None
    was_none None e = refl
    was_none (Some s) e = absurd cc
