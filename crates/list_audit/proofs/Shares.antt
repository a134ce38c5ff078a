-- The bytes that two acts share.
use Rattle.std.proofs.Common.{◌≡◌, ℕ, zero, suc, ◌+◌, ◌<◌, ◌≤◌, Bool, true, false, cond, ◌&&◌, ◌||◌, nat_lt, nat_le, ◌==◌, max, min, List, [], ◌∷◌, drop, Option, Some, None, slice_get, is_some, refl, sym, ap, subst, ◌∙◌, inl, inr, arith}
use Rattle.std.specs.List.{list_any}
use Rattle.std.proofs.lemmas.Bool.{cases_Bool, ltb-true, lt-ltb, leb-true, le-leb, eqb-true, eq-eqb}
use Rattle.dx_types.specs.declared.range.Range.{Range}
use Rattle.vk_types.specs.declared.touch.Touch.{Touch}
use Rattle.vk_types.specs.declared.op.VkOp.{VkOp}
use Rattle.base_lemmas.specs.Lists.{first_some}
use Rattle.vk_types.specs.Memory.{covers, meets}
use Rattle.vk_types.specs.Hazards.{has_write, touches_conflict, lists_conflict, is_touched, is_written}
use Rattle.vk_types.specs.Listing.{touches_at}
use Rattle.list_audit.specs.Shared.{overlap, shared_with, shared_bytes, ShareBytes}

-- ---- a scan of a list

-- where a list goes on at a place
pub drop_at : {A : Type 0} (xs : List A) (i : ℕ) (x : A) → slice_get xs i ≡ Some x → drop i xs ≡ x ∷ drop (i + 1) xs
drop_at [] zero x e = absurd (cc e)
drop_at [] (suc i) x e = absurd (cc e)
drop_at (y ∷ xs) zero x e = let first : y ≡ x = cc e in ap (λ z. z ∷ xs) first
drop_at (y ∷ xs) (suc i) x e = let same : suc (i + 1) ≡ suc i + 1 = omega arith in drop_at xs i x e ∙ ap (λ (n : ℕ). x ∷ drop n (y ∷ xs)) same

pub with_hit : (t : Touch) (us : List Touch) (i : ℕ) (u : Touch) → slice_get us i ≡ Some u → touches_conflict t u ≡ true → shared_with t (drop i us) ≡ Some (overlap t.range u.range)
with_hit t us i u e hit = ap (shared_with t) (drop_at us i u e) ∙ ap (λ b. cond b (Some (overlap t.range u.range)) (shared_with t (drop (i + 1) us))) hit

pub with_miss : (t : Touch) (us : List Touch) (i : ℕ) (u : Touch) → slice_get us i ≡ Some u → touches_conflict t u ≡ false → shared_with t (drop i us) ≡ shared_with t (drop (i + 1) us)
with_miss t us i u e miss = ap (shared_with t) (drop_at us i u e) ∙ ap (λ b. cond b (Some (overlap t.range u.range)) (shared_with t (drop (i + 1) us))) miss

-- past the end
past : {A : Type 0} (xs : List A) (i : ℕ) → slice_get xs i ≡ None → drop i xs ≡ drop (i + 1) xs
past [] zero e = refl
past [] (suc i) e = let same : suc (i + 1) ≡ suc i + 1 = omega arith in ap (λ (n : ℕ). drop n ([])) same
past (y ∷ xs) zero e = absurd (cc e)
past (y ∷ xs) (suc i) e = let same : suc (i + 1) ≡ suc i + 1 = omega arith in past xs i e ∙ ap (λ (n : ℕ). drop n (y ∷ xs)) same

pub with_skip : (t : Touch) (us : List Touch) (i : ℕ) → slice_get us i ≡ None → shared_with t (drop i us) ≡ shared_with t (drop (i + 1) us)
with_skip t us i e = ap (shared_with t) (past us i e)

pub bytes_hit : (ts us : List Touch) (i : ℕ) (t : Touch) (o : Option Range) → slice_get ts i ≡ Some t → o ≡ shared_with t us → is_some o ≡ true → shared_bytes (drop i ts) us ≡ o
bytes_hit ts us i t o e is some = ap (λ l. shared_bytes l us) (drop_at ts i t e) ∙ ap (λ a. first_some a (shared_bytes (drop (i + 1) ts) us)) (sym is) ∙ found o (shared_bytes (drop (i + 1) ts) us) some
  where
    found : (o p : Option Range) → is_some o ≡ true → first_some o p ≡ o
    found (Some r) p e = refl
    found None p e = absurd (cc e)

pub bytes_miss : (ts us : List Touch) (i : ℕ) (t : Touch) (o : Option Range) → slice_get ts i ≡ Some t → o ≡ shared_with t us → is_some o ≡ false → shared_bytes (drop i ts) us ≡ shared_bytes (drop (i + 1) ts) us
bytes_miss ts us i t o e is none = ap (λ l. shared_bytes l us) (drop_at ts i t e) ∙ ap (λ a. first_some a (shared_bytes (drop (i + 1) ts) us)) (sym is) ∙ found o (shared_bytes (drop (i + 1) ts) us) none
  where
    found : (o p : Option Range) → is_some o ≡ false → first_some o p ≡ p
    found (Some r) p e = absurd (cc e)
    found None p e = refl

pub bytes_skip : (ts us : List Touch) (i : ℕ) → slice_get ts i ≡ None → shared_bytes (drop i ts) us ≡ shared_bytes (drop (i + 1) ts) us
bytes_skip ts us i e = ap (λ l. shared_bytes l us) (past ts i e)

-- ---- which touches they are of

-- two touches of the lists, by the tests that they pass
record Found (ts us : List Touch) (r : Range) : Type 0 where
  t : Touch
  u : Touch
  among_first : (p : Touch → Bool) → p t ≡ true → list_any p ts ≡ true
  among_second : (p : Touch → Bool) → p u ≡ true → list_any p us ≡ true
  conflicts : touches_conflict t u ≡ true
  is : r ≡ overlap t.range u.range

or_left : (a b : Bool) → a ≡ true → (a || b) ≡ true
or_left true b e = refl
or_left false b e = absurd (cc e)

or_right : (a b : Bool) → b ≡ true → (a || b) ≡ true
or_right true b e = refl
or_right false b e = e

with_found : (t : Touch) (us : List Touch) (r : Range) → shared_with t us ≡ Some r → Found (t ∷ []) us r
with_found t [] r e = absurd (cc e)
with_found t (u ∷ us) r e =
    elim (cases_Bool (touches_conflict t u)) [
      | inl hit ↦
          let taken : Some (overlap t.range u.range) ≡ Some r = sym (ap (λ b. cond b (Some (overlap t.range u.range)) (shared_with t us)) hit) ∙ e in
          record {
            t = t;
            u = u;
            among_first = λ p h. or_left (p t) false h;
            among_second = λ p h. or_left (p u) (list_any p us) h;
            conflicts = hit;
            is = cc taken;
          }
      | inr miss ↦
          let later = with_found t us r (sym (ap (λ b. cond b (Some (overlap t.range u.range)) (shared_with t us)) miss) ∙ e) in
          record {
            t = later.t;
            u = later.u;
            among_first = later.among_first;
            among_second = λ p h. or_right (p u) (list_any p us) (later.among_second p h);
            conflicts = later.conflicts;
            is = later.is;
          }
    ]

found_first : (t : Touch) (ts us : List Touch) (r : Range) → Found (t ∷ []) us r → Found (t ∷ ts) us r
found_first t ts us r f = record {
  t = f.t;
  u = f.u;
  among_first = λ p h. one_of (p t) (list_any p ts) (f.among_first p h);
  among_second = f.among_second;
  conflicts = f.conflicts;
  is = f.is;
}
  where
    one_of : (a b : Bool) → (a || false) ≡ true → (a || b) ≡ true
    one_of true b e = refl
    one_of false b e = absurd (cc e)

found_later : (t : Touch) (ts us : List Touch) (r : Range) → Found ts us r → Found (t ∷ ts) us r
found_later t ts us r f = record {
  t = f.t;
  u = f.u;
  among_first = λ p h. or_right (p t) (list_any p ts) (f.among_first p h);
  among_second = f.among_second;
  conflicts = f.conflicts;
  is = f.is;
}

found_of : (t : Touch) (ts us : List Touch) (r : Range) (o : Option Range) → shared_with t us ≡ o → (shared_bytes ts us ≡ Some r → Found ts us r) → first_some o (shared_bytes ts us) ≡ Some r → Found (t ∷ ts) us r
found_of t ts us r (Some s) is later f = found_first t ts us r (with_found t us r (is ∙ f))
found_of t ts us r None is later f = found_later t ts us r (later f)

bytes_found : (ts us : List Touch) (r : Range) → shared_bytes ts us ≡ Some r → Found ts us r
bytes_found [] us r e = absurd (cc e)
bytes_found (t ∷ ts) us r e = found_of t ts us r (shared_with t us) refl (bytes_found ts us r) e

-- ---- what holds of the bytes

both_of : (a b : Bool) → (a && b) ≡ true → (a ≡ true) × (b ≡ true)
both_of true true e = (refl, refl)
both_of true false e = absurd (cc e)
both_of false b e = absurd (cc e)

and_of : (a b : Bool) → a ≡ true → b ≡ true → (a && b) ≡ true
and_of true b p q = q
and_of false b p q = absurd (cc p)

-- two ranges of one block that share bytes
record Meet (r s : Range) : Type 0 where
  block : r.block ≡ s.block
  first : r.from < s.to
  second : s.from < r.to
  some_first : r.from < r.to
  some_second : s.from < s.to

meet_of : (r s : Range) → meets r s ≡ true → Meet r s
meet_of r s e =
    let a = both_of (r.block == s.block) _ e in
    let b = both_of (nat_lt r.from s.to && nat_lt s.from r.to) _ a.1 in
    let c = both_of (nat_lt r.from s.to) _ b.0 in
    let d = both_of (nat_lt r.from r.to) _ b.1 in
    record {
      block = eqb-true r.block s.block a.0;
      first = ltb-true r.from s.to c.0;
      second = ltb-true s.from r.to c.1;
      some_first = ltb-true r.from r.to d.0;
      some_second = ltb-true s.from s.to d.1;
    }

overlap_some : (r s : Range) → Meet r s → max r.from s.from < min r.to s.to
overlap_some r s m = omega (arith, m.first, m.second, m.some_first, m.some_second)

covered_by : (r s : Range) (at : ℕ) → r.block ≡ s.block → (max r.from s.from ≤ at) × (at < min r.to s.to) → (covers r r.block at ≡ true) × (covers s r.block at ≡ true)
covered_by r s at same in_both = (
  and_of (r.block == r.block) _ (eq-eqb r.block r.block refl) (and_of (nat_le r.from at) _ (le-leb r.from at (omega (arith, in_both.0))) (lt-ltb at r.to (omega (arith, in_both.1)))),
  and_of (s.block == r.block) _ (eq-eqb s.block r.block (sym same)) (and_of (nat_le s.from at) _ (le-leb s.from at (omega (arith, in_both.0))) (lt-ltb at s.to (omega (arith, in_both.1)))),
)

covers_overlap : (r s : Range) (at : ℕ) → Meet r s → covers (overlap r s) r.block at ≡ true → (covers r r.block at ≡ true) × (covers s r.block at ≡ true)
covers_overlap r s at m e =
    let inside = both_of (nat_le (max r.from s.from) at) _ (both_of (r.block == r.block) _ e).1 in
    covered_by r s at m.block (leb-true (max r.from s.from) at inside.0, ltb-true at (min r.to s.to) inside.1)

written_by : (a b p q : Bool) → (a || b) ≡ true → (a ≡ true → p ≡ true) → (b ≡ true → q ≡ true) → (p || q) ≡ true
written_by true b p q e f g = or_left p q (f refl)
written_by false b p q e f g = or_right p q (g e)

shares_of : (ts us : List Touch) (r : Range) → Found ts us r → (r.from < r.to)
    × ((at : ℕ) → covers r r.block at ≡ true → is_touched ts r.block at ≡ true)
    × ((at : ℕ) → covers r r.block at ≡ true → is_touched us r.block at ≡ true)
    × ((at : ℕ) → covers r r.block at ≡ true → is_written ts r.block at || is_written us r.block at ≡ true)
shares_of ts us r f =
    let hit = both_of (has_write f.t.access || has_write f.u.access) (meets f.t.range f.u.range) f.conflicts in
    let m = meet_of f.t.range f.u.range hit.1 in
    subst
    (λ (s : Range).
    (s.from < s.to) × ((at : ℕ) → covers s s.block at ≡ true → is_touched ts s.block at ≡ true) × ((at : ℕ) → covers s s.block at ≡ true → is_touched us s.block at ≡ true)
    × ((at : ℕ) → covers s s.block at ≡ true → is_written ts s.block at || is_written us s.block at ≡ true))
    (sym f.is) (
      overlap_some f.t.range f.u.range m,
      (λ at e. f.among_first (λ t. covers t.range f.t.range.block at) (covers_overlap f.t.range f.u.range at m e).0),
      (λ at e. f.among_second (λ t. covers t.range f.t.range.block at) (covers_overlap f.t.range f.u.range at m e).1),
      (λ at e.
          written_by (has_write f.t.access) (has_write f.u.access) _ _ hit.0
          (λ w. f.among_first (λ t. has_write t.access && covers t.range f.t.range.block at) (and_of (has_write f.t.access) _ w (covers_overlap f.t.range f.u.range at m e).0))
          (λ w. f.among_second (λ t. has_write t.access && covers t.range f.t.range.block at) (and_of (has_write f.u.access) _ w (covers_overlap f.t.range f.u.range at m e).1))),
    )

pub share_bytes : (ops : List VkOp) (first second : ℕ) (r : Range) → shared_bytes (touches_at ops first) (touches_at ops second) ≡ Some r → ShareBytes ops first second r
share_bytes ops first second r e =
    let s = shares_of (touches_at ops first) (touches_at ops second) r (bytes_found (touches_at ops first) (touches_at ops second) r e) in
    record { some = s.0; by_first = s.1; by_second = s.2; written = s.3 }

quiet_with : (t : Touch) (us : List Touch) → shared_with t us ≡ None → list_any (touches_conflict t) us ≡ false
quiet_with t [] e = refl
quiet_with t (u ∷ us) e =
    elim (cases_Bool (touches_conflict t u)) [
      | inl hit ↦ let some : Some (overlap t.range u.range) ≡ None = sym (ap (λ b. cond b (Some (overlap t.range u.range)) (shared_with t us)) hit) ∙ e in absurd (cc some)
      | inr miss ↦
          let later = quiet_with t us (sym (ap (λ b. cond b (Some (overlap t.range u.range)) (shared_with t us)) miss) ∙ e) in
          ap (λ b. b || list_any (touches_conflict t) us) miss ∙ later
    ]

conflict_of : (t : Touch) (ts us : List Touch) (o : Option Range) → shared_with t us ≡ o → lists_conflict (t ∷ ts) us ≡ true → first_some o (shared_bytes ts us) ≡ None
    → (lists_conflict ts us ≡ true → shared_bytes ts us ≡ None → ⊥) → ⊥
conflict_of t ts us (Some s) is e none later = cc none
conflict_of t ts us None is e none later = later (sym (ap (λ b. b || lists_conflict ts us) (quiet_with t us is)) ∙ e) none

-- acts that conflict share bytes
pub conflict_shares : (ts us : List Touch) → lists_conflict ts us ≡ true → shared_bytes ts us ≡ None → ⊥
conflict_shares [] us e none = cc e
conflict_shares (t ∷ ts) us e none = conflict_of t ts us (shared_with t us) refl e none (conflict_shares ts us)
