-- A change of what is kept of one buffer, against a past of one more deed.
use Rattle.std.proofs.Common.{◌≡◌, ◌≢◌, ℕ, true, cond, List, [], ◌∷◌, inl, inr, Option, Some, None, refl, sym, ap, subst, ◌∙◌}
use Rattle.std.specs.Ordering.{nat_cmp, eq_by_cmp}
use Rattle.std.specs.Map.{lookup, set_value}
use Rattle.std.specs.Prelude.{IsSome}
use Rattle.std.specs.BTreeMap.{BTreeMap, is_at}
use Rattle.std.proofs.lemmas.Map.Steps.{set_value_same}
use Rattle.std.specs.Option.{option_map}
use Rattle.std.proofs.lemmas.Bool.{cases_eq}
use Rattle.dx_types.specs.declared.range.ResRange.{ResRange}
use Rattle.base_lemmas.specs.IdMap.{get, insert, remove}
use Rattle.base_lemmas.specs.CodeMap.{map_of}
use Rattle.d3d_model.specs.Past.{Past, Deed, then_done, Makes, Discards, Binds}
use Rattle.base_lemmas.proofs.Maps.{get-empty, get-remove, get_same, get_other, other_key}
use Rattle.base_lemmas.proofs.CodeMaps.{get-map_of, map_of-nil, map_of-insert, map_of-remove}
use Rattle.d3d_uses.specs.Summary.{Uses, Stands, Summarises, BindsAt, held_if, held_at, untouched}
use Rattle.d3d_uses.specs.declared.held.Held.{Held}
use Rattle.d3d_uses.proofs.Bytes.{same_place}
use Rattle.d3d_uses.proofs.Deeds.{of_buffer, stands_empty, stands_made, stands_discarded, stands_bound, stands_beside}

same_value : {X : Type 0} (o : Option X) → option_map (λ x. x) o ≡ o
same_value None = refl
same_value (Some x) = refl

-- what is kept under an id, by the entries of the code
pub kept_at : (es : List (ℕ × Held)) (u : Uses) (id : ℕ) → map_of (λ h. h) es ≡ u → get u id ≡ lookup (is_at (nat_cmp id)) es
kept_at es u id view = sym (ap (λ (m : Uses). get m id) view) ∙ get-map_of (λ h. h) es id ∙ same_value _

pub found_some : (es : List (ℕ × Held)) (u : Uses) (id : ℕ) (h : Held) → map_of (λ h. h) es ≡ u → Some h ≡ lookup (is_at (nat_cmp id)) es → h ≡ held_at u id
found_some es u id h view found = ap held_if (found ∙ sym (kept_at es u id view))

pub found_none : (es : List (ℕ × Held)) (u : Uses) (id : ℕ) → map_of (λ h. h) es ≡ u → None ≡ lookup (is_at (nat_cmp id)) es → untouched ≡ held_at u id
found_none es u id view found = ap held_if (found ∙ sym (kept_at es u id view))

pub put_in : (es fs : List (ℕ × Held)) (u : Uses) (id : ℕ) (h : Held) → map_of (λ h. h) es ≡ u
    → ((q : ℕ) → lookup (is_at (nat_cmp q)) fs ≡ cond (is_at (nat_cmp id) q) (Some h) (lookup (is_at (nat_cmp q)) es)) → map_of (λ h. h) fs ≡ insert u id h
put_in es fs u id h view changes = map_of-insert (λ h. h) es fs id h changes ∙ ap (λ (m : Uses). insert m id h) view

pub taken_out : (es fs : List (ℕ × Held)) (u : Uses) (id : ℕ) → map_of (λ h. h) es ≡ u
    → ((q : ℕ) → lookup (is_at (nat_cmp q)) fs ≡ cond (is_at (nat_cmp id) q) None (lookup (is_at (nat_cmp q)) es)) → map_of (λ h. h) fs ≡ remove u id
taken_out es fs u id view changes = map_of-remove (λ h. h) es fs id changes ∙ ap (λ (m : Uses). remove m id) view

-- ---- another past

-- of another buffer the same is kept
abbrev pub KeepsOthers : Uses → ℕ → Uses → Type 0
KeepsOthers old id new = (res : ℕ) → res ≢ id → held_at new res ≡ held_at old res

others-insert : (u : Uses) (id : ℕ) (h : Held) → KeepsOthers u id (insert u id h)
others-insert u id h res other = ap held_if (get_other u id h res other)

others-remove : (u : Uses) (id : ℕ) → KeepsOthers u id (remove u id)
others-remove u id res other = ap held_if (get-remove u id res ∙ ap (λ b. cond b None (get u res)) (other_key res id other))

-- one more deed, of a buffer of which then something else may be kept
after : (n : ℕ) (past : Past) (d : Deed) (old new : Uses) (res : ℕ) → KeepsOthers old (of_buffer d) new
    → (res ≡ of_buffer d → Stands (record { call = n; deed = d } ∷ past) res (held_at new res))
    → (res ≢ of_buffer d → Summarises past old res) → Summarises (record { call = n; deed = d } ∷ past) new res
after n past d old new res others own before = elim (cases_eq res (of_buffer d)) [
  | inl same ↦ own same
  | inr other ↦
      subst (Stands (record { call = n; deed = d } ∷ past) res) (sym (others res other))
      (stands_beside n past d res (held_at old res) (λ e. other (sym e)) (before other))
]

now_held : (u : Uses) (id res : ℕ) (h : Held) → res ≡ id → held_at (insert u id h) res ≡ h
now_held u id res h is = ap (λ (q : ℕ). held_at (insert u id h) q) is ∙ ap held_if (get_same u id h)

pub summarises-made : (n : ℕ) (past : Past) (old : Uses) (id res : ℕ) → (res ≢ id → Summarises past old res)
    → Summarises (then_done n past (Makes id ∷ [])) (remove old id) res
unfolding then_done
summarises-made n past old id res before =
    after n past (Makes id) old (remove old id) res (others-remove old id)
    (λ is. subst (Stands (record { call = n; deed = Makes id } ∷ past) res) (sym (none res is)) (subst (λ (q : ℕ). Stands (record { call = n; deed = Makes q } ∷ past) res untouched) is (stands_made n past res)))
    before
  where
    none : (res : ℕ) → res ≡ id → held_at (remove old id) res ≡ untouched
    none res is = ap held_if (get-remove old id res ∙ ap (λ b. cond b None (get old res)) (ap (λ q. eq_by_cmp nat_cmp res q) (sym is) ∙ same_place res))

pub summarises-removed : (past : Past) (old : Uses) (id res : ℕ) → res ≢ id → Summarises past old res → Summarises past (remove old id) res
summarises-removed past old id res other s = subst (Stands past res) (sym (others-remove old id res other)) s

pub summarises-discarded : (n : ℕ) (past : Past) (old : Uses) (id res : ℕ) → Summarises past old res
    → Summarises (then_done n past (Discards id ∷ [])) (insert old id (record (held_at old id) { discarded = true; bound = [] })) res
unfolding then_done
summarises-discarded n past old id res s =
    after n past (Discards id) old (insert old id (record (held_at old id) { discarded = true; bound = [] })) res (others-insert old id _)
    (λ is. subst (Stands (record { call = n; deed = Discards id } ∷ past) res) (sym (now_held old id res _ is)) (own is))
    (λ other. s)
  where
    own : res ≡ id → Stands (record { call = n; deed = Discards id } ∷ past) res (record (held_at old id) { discarded = true; bound = [] })
    own is = subst (λ (q : ℕ). Stands (record { call = n; deed = Discards q } ∷ past) res (record (held_at old q) { discarded = true; bound = [] })) is (stands_discarded n past res (held_at old res) s)

pub summarises-bound : (n : ℕ) (past : Past) (old : Uses) (r : ResRange) (new : Uses) (res : ℕ) → BindsAt old n r new → Summarises past old res
    → Summarises (then_done n past (Binds r ∷ [])) new res
unfolding then_done
summarises-bound n past old r new res binds s =
    subst (λ (u : Uses). Summarises (record { call = n; deed = Binds r } ∷ past) u res) (sym binds.1) (
    after n past (Binds r) old (insert old r.res binds.0) res (others-insert old r.res binds.0)
    (λ is. subst (Stands (record { call = n; deed = Binds r } ∷ past) res) (sym (now_held old r.res res binds.0 is)) (own is))
    (λ other. s)
    )
  where
    own : res ≡ r.res → Stands (record { call = n; deed = Binds r } ∷ past) res binds.0
    own is = subst (λ (q : ℕ). Stands (record { call = n; deed = Binds r } ∷ past) q binds.0) (sym is) (
        stands_bound n past r (held_at old r.res) binds.0 (subst (λ (q : ℕ). Stands past q (held_at old q)) is s) binds.2
        )

pub summarises-nothing : (es : List (ℕ × Held)) (res : ℕ) → es ≡ [] → Summarises [] (map_of (λ h. h) es) res
summarises-nothing es res none =
    subst (Stands [] res) (sym (ap held_if (ap (λ (fs : List (ℕ × Held)). get (map_of (λ h. h) fs) res) none ∙ ap (λ (u : Uses). get u res) (map_of-nil (λ (h : Held). h)) ∙ get-empty Held res))) (stands_empty res)

-- ---- a summary that is written through what a map lends

pub is_found : (es : List (ℕ × Held)) (id : ℕ) (h : Held) → Some h ≡ lookup (is_at (nat_cmp id)) es → IsSome (lookup (is_at (nat_cmp id)) es)
is_found es id h found = subst IsSome found refl

-- what was found there, written back, changes nothing
pub kept_back : (es fs : List (ℕ × Held)) (u : Uses) (id : ℕ) (h : Held) → map_of (λ h. h) es ≡ u → Some h ≡ lookup (is_at (nat_cmp id)) es
    → fs ≡ set_value (is_at (nat_cmp id)) es h → map_of (λ h. h) fs ≡ u
kept_back es fs u id h view found is = ap (λ (gs : List (ℕ × Held)). map_of (λ h. h) gs) (is ∙ set_value_same (is_at (nat_cmp id)) es h (sym found)) ∙ view

-- where nothing was found, the map is as it was
pub not_lent : (m n : BTreeMap ℕ Held) (u : Uses) → map_of (λ h. h) m.entries ≡ u → n ≡ m → map_of (λ h. h) n.entries ≡ u
not_lent m n u view is = ap (λ (k : BTreeMap ℕ Held). map_of (λ h. h) k.entries) is ∙ view
