-- Bytes of buffers as the code keeps them.
use Rattle.std.proofs.Common.{◌≡◌, ℕ, ◌+◌, Bool, false, true, cond, List, [], length, Option, Some, None, refl, sym, ap, subst, ◌∙◌}
use Rattle.std.specs.Prelude.{IsSome}
use Rattle.std.specs.Global.{Vec}
use Rattle.std.specs.Vec.{with_items}
use Rattle.std.proofs.lemmas.List.{with_items_is}
use Rattle.std.specs.Option.{option_map}
use Rattle.std.specs.Ordering.{nat_cmp, eq_by_cmp}
use Rattle.d3d_model.specs.Regions.{put, slice}
use Rattle.base_lemmas.proofs.Maps.{get-insert, get_same, get_other, same_map}
use Rattle.std.specs.Map.{lookup}
use Rattle.std.specs.BTreeMap.{is_at}
use Rattle.base_lemmas.specs.IdMap.{get, insert}
use Rattle.base_lemmas.specs.CodeMap.{map_of}
use Rattle.base_lemmas.proofs.CodeMaps.{get-map_of, map_of-insert}
use Rattle.d3d_model.specs.D3dState.{bytes_if}
use Rattle.d3d_memory.specs.Contents.{Contents, bytes_at, changed_if, changed, copied}

abbrev pub items_of : Vec ℕ → List ℕ
items_of v = v.items

-- what stands at an id
pub at_id : (es : List (ℕ × Vec ℕ)) (m : Contents) (id : ℕ) (o : Option (Vec ℕ)) → map_of items_of es ≡ m → o ≡ lookup (is_at (nat_cmp id)) es → option_map items_of o ≡ get m id
at_id es m id o view found = ap (option_map items_of) found ∙ sym (get-map_of items_of es id) ∙ ap (λ (n : Contents). get n id) view

pub found_some : (es : List (ℕ × Vec ℕ)) (id : ℕ) (v : Vec ℕ) → Some v ≡ lookup (is_at (nat_cmp id)) es → IsSome (lookup (is_at (nat_cmp id)) es)
found_some es id v found = subst IsSome found refl

-- other bytes in a buffer's place
pub changed_at : (es fs : List (ℕ × Vec ℕ)) (m : Contents) (id : ℕ) (f : List ℕ → List ℕ) (v w : Vec ℕ) → map_of items_of es ≡ m → Some v ≡ lookup (is_at (nat_cmp id)) es
    → ((q : ℕ) → lookup (is_at (nat_cmp q)) fs ≡ cond (is_at (nat_cmp id) q) (Some w) (lookup (is_at (nat_cmp q)) es))
    → w.items ≡ f v.items → map_of items_of fs ≡ changed f m id
unfolding changed
changed_at es fs m id f v w view found changes is =
    map_of-insert items_of es fs id w changes
    ∙ ap (λ (n : Contents). insert n id w.items) view
    ∙ ap (λ (b : List ℕ). insert m id b) is
    ∙ ap (λ (o : Option (List ℕ)). changed_if o f m id) (at_id es m id (Some v) view found)

-- where no buffer is, nothing changes
pub unchanged_at : (es : List (ℕ × Vec ℕ)) (m : Contents) (id : ℕ) (f : List ℕ → List ℕ) → map_of items_of es ≡ m → None ≡ lookup (is_at (nat_cmp id)) es → m ≡ changed f m id
unfolding changed
unchanged_at es m id f view found = ap (λ (o : Option (List ℕ)). changed_if o f m id) (at_id es m id None view found)

-- the bytes that were written in a buffer's place
pub written_at : (es fs : List (ℕ × Vec ℕ)) (m : Contents) (id : ℕ) (f : List ℕ → List ℕ) (v : Vec ℕ) (old new : List ℕ) → map_of items_of es ≡ m → Some v ≡ lookup (is_at (nat_cmp id)) es
    → ((q : ℕ) → lookup (is_at (nat_cmp q)) fs ≡ cond (is_at (nat_cmp id) q) (Some (with_items v new)) (lookup (is_at (nat_cmp q)) es))
    → old ≡ v.items → length new ≡ v.len → new ≡ f old → map_of items_of fs ≡ changed f m id
written_at es fs m id f v old new view found changes same len is =
    changed_at es fs m id f v (with_items v new) view found changes (with_items_is v new len ∙ is ∙ ap f same)

same_if : (o : Option (List ℕ)) (f g : List ℕ → List ℕ) (m : Contents) (id : ℕ) → f (bytes_if o) ≡ g (bytes_if o) → changed_if o f m id ≡ changed_if o g m id
same_if None f g m id e = refl
same_if (Some old) f g m id e = ap (λ (b : List ℕ). insert m id b) e

-- a change is what it makes of the bytes that are there
pub same_change : (f g : List ℕ → List ℕ) (m : Contents) (id : ℕ) → f (bytes_at m id) ≡ g (bytes_at m id) → changed f m id ≡ changed g m id
unfolding changed
same_change f g m id e = same_if (get m id) f g m id e

-- ---- changes after one another

cond_cond : {X : Type 0} (b : Bool) (x y z : X) → cond b x (cond b y z) ≡ cond b x z
cond_cond true x y z = refl
cond_cond false x y z = refl

pub insert-insert : (m : Contents) (id : ℕ) (x y : List ℕ) → insert (insert m id x) id y ≡ insert m id y
insert-insert m id x y = same_map _ _ (λ q.
    get-insert (insert m id x) id y q
    ∙ ap (cond (eq_by_cmp nat_cmp q id) (Some y)) (get-insert m id x q)
    ∙ cond_cond (eq_by_cmp nat_cmp q id) (Some y) (Some x) (get m q)
    ∙ sym (get-insert m id y q))

twice_if : (o : Option (List ℕ)) (f g : List ℕ → List ℕ) (m : Contents) (id : ℕ) → get m id ≡ o → changed_if (get (changed_if o f m id) id) g (changed_if o f m id) id ≡ changed_if o (λ b. g (f b)) m id
twice_if None f g m id e = ap (λ (o : Option (List ℕ)). changed_if o g m id) e
twice_if (Some old) f g m id e =
    ap (λ (o : Option (List ℕ)). changed_if o g (insert m id (f old)) id) (get_same m id (f old))
    ∙ insert-insert m id (f old) (g (f old))

pub changed-changed : (f g : List ℕ → List ℕ) (m : Contents) (id : ℕ) → changed g (changed f m id) id ≡ changed (λ b. g (f b)) m id
unfolding changed
changed-changed f g m id = twice_if (get m id) f g m id refl

other_if : (o : Option (List ℕ)) (f : List ℕ → List ℕ) (m : Contents) (id q : ℕ) → (q ≡ id → ⊥) → get (changed_if o f m id) q ≡ get m q
other_if None f m id q apart = refl
other_if (Some old) f m id q apart = get_other m id (f old) q apart

-- a change of one buffer leaves the others
pub changed_other : (f : List ℕ → List ℕ) (m : Contents) (id q : ℕ) → (q ≡ id → ⊥) → bytes_at (changed f m id) q ≡ bytes_at m q
unfolding changed
changed_other f m id q apart = ap bytes_if (other_if (get m id) f m id q apart)

-- a buffer whose bytes were lent out while another's were read, and that got them back with a range written
pub copied_back : (m m1 m2 : Contents) (t s to from len : ℕ) (bytes piece now : List ℕ) → (s ≡ t → ⊥) → m1 ≡ changed (λ old. []) m t → bytes ≡ bytes_at m t
    → piece ≡ slice (bytes_at m1 s) from (from + len) → now ≡ put bytes to piece → m2 ≡ changed (λ old. now) m1 t → m2 ≡ copied m t to s from len
copied_back m m1 m2 t s to from len bytes piece now apart lent had read written back =
    let source : bytes_at m1 s ≡ bytes_at m s = ap (λ (n : Contents). bytes_at n s) lent ∙ changed_other (λ old. []) m t s apart in
    back
    ∙ ap (λ (n : Contents). changed (λ old. now) n t) lent
    ∙ changed-changed (λ old. []) (λ old. now) m t
    ∙ same_change (λ old. now) (λ old. put old to (slice (bytes_at m s) from (from + len))) m t
    (written ∙ ap (λ (b : List ℕ). put b to piece) had ∙ ap (put (bytes_at m t) to) (read ∙ ap (λ (b : List ℕ). slice b from (from + len)) source))
