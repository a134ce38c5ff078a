-- What places say of each byte.
use Rattle.std.proofs.Common.{◌≡◌, ℕ, zero, suc, ◌+◌, ◌-◌, ◌<◌, ◌≤◌, inl, inr, Bool, true, false, cond, ◌||◌, Option}
use Rattle.std.proofs.Common.{Some, None, refl, sym, ap, ◌∙◌, subst, arith}
use Rattle.std.specs.Prelude.{IsSome}
use Rattle.std.specs.Ordering.{nat_cmp, is_gt}
use Rattle.std.specs.declared.cmp.Ordering.TheVariants.{Less}
use Rattle.std.specs.BTreeMap.{is_at}
use Rattle.std.proofs.lemmas.Bool.{cases_eq, cases_lt, cond-true, cond-false}
use Rattle.std.proofs.lemmas.Bool.Decides.{nat_tests}
use Rattle.barrier_track.specs.Bytes.{Ranges, start_of, or_else, byte_by, byte_at, is_within, Adds, IsSame, IsLast}
use Rattle.barrier_track.specs.Bytes.{Forgets}

-- ---- tests of places

pub same_place : (a : ℕ) → is_at (nat_cmp a) a ≡ true
same_place a = grind (arith, nat_tests)

pub other_place : (a b : ℕ) → (b ≡ a → ⊥) → is_at (nat_cmp a) b ≡ false
other_place a b e = grind (arith, nat_tests)

pub not_gt_from_le : (a b : ℕ) → a ≤ b → is_gt (nat_cmp a b) ≡ false
not_gt_from_le a b le = grind (arith, nat_tests)

pub within : (from to at : ℕ) → from ≤ at → at < to → is_within from to at ≡ true
within from to at le lt = grind (arith, nat_tests)

pub below : (from to at : ℕ) → at < from → is_within from to at ≡ false
below from to at lt = grind (arith, nat_tests)

pub above : (from to at : ℕ) → to ≤ at → is_within from to at ≡ false
above from to at le = grind (arith, nat_tests)

some_here : (o : Option Bool) → IsSome o → (b : Bool) × (o ≡ Some b)
some_here None s = absurd (cc s)
some_here (Some b) s = (b, refl)

-- ---- a byte

byte_here : (starts : ℕ → Option Bool) (at : ℕ) (b : Bool) → starts at ≡ Some b → byte_by starts at ≡ b
byte_here starts zero b e = ap (λ o. or_else o false) e
byte_here starts (suc at) b e = ap (λ o. or_else o (byte_by starts at)) e

byte_before : (starts : ℕ → Option Bool) (at : ℕ) → starts (suc at) ≡ None → byte_by starts (suc at) ≡ byte_by starts at
byte_before starts at e = ap (λ o. or_else o (byte_by starts at)) e

pub byte_none : (starts : ℕ → Option Bool) (at : ℕ) → ((a : ℕ) → a ≤ at → starts a ≡ None) → byte_by starts at ≡ false
byte_none starts zero none = ap (λ o. or_else o false) (none zero (omega arith))
byte_none starts (suc at) none =
    byte_before starts at (none (suc at) (omega arith)) ∙ byte_none starts at (λ a le. none a (omega arith))

-- there is no place after a byte up to another
pub byte_steady : (starts : ℕ → Option Bool) (from at : ℕ) → from ≤ at → ((a : ℕ) → from < a → a ≤ at → starts a ≡ None)
    → byte_by starts at ≡ byte_by starts from
byte_steady starts from zero le none = let same : zero ≡ from = omega arith in ap (byte_by starts) same
byte_steady starts from (suc at) le none =
    elim (cases_lt at from) [
      | inl lt ↦ let same : suc at ≡ from = omega arith in ap (byte_by starts) same
      | inr ge ↦
          byte_before starts at (none (suc at) (omega arith) (omega arith))
          ∙ byte_steady starts from at ge (λ a lo hi. none a lo (omega arith))
    ]

-- the places up to a byte are the same
byte_alike : (f g : ℕ → Option Bool) (at : ℕ) → ((a : ℕ) → a ≤ at → f a ≡ g a) → byte_by f at ≡ byte_by g at
byte_alike f g zero same = ap (λ o. or_else o false) (same zero (omega arith))
byte_alike f g (suc at) same =
    ap (λ o. or_else o (byte_by f at)) (same (suc at) (omega arith))
    ∙ ap (or_else (g (suc at))) (byte_alike f g at (λ a le. same a (omega arith)))

-- a place is there, and from it on the places are the same
byte_from : (f g : ℕ → Option Bool) (start : ℕ) (b : Bool) (at : ℕ) → g start ≡ Some b → start ≤ at
    → ((a : ℕ) → start ≤ a → f a ≡ g a) → byte_by f at ≡ byte_by g at
byte_from f g start b zero some le same = ap (λ o. or_else o false) (same zero le)
byte_from f g start b (suc at) some le same =
    elim (cases_eq (suc at) start) [
      | inl is ↦
          let there : g (suc at) ≡ Some b = ap g is ∙ some in
          byte_here f (suc at) b (same (suc at) le ∙ there) ∙ sym (byte_here g (suc at) b there)
      | inr other ↦
          ap (λ o. or_else o (byte_by f at)) (same (suc at) le)
          ∙ ap (or_else (g (suc at))) (byte_from f g start b at some (omega arith) same)
    ]

pub byte_last : (rs : Ranges) (at start : ℕ) (b : Bool) → IsLast rs at (Some (start, b)) → b ≡ byte_at rs at
byte_last rs at start b h = sym (byte_steady (start_of rs) start at h.0 h.2 ∙ byte_here (start_of rs) start b h.1)

-- a place says what its byte is
pub byte_start : (rs : Ranges) (at : ℕ) (b : Bool) → start_of rs at ≡ Some b → byte_at rs at ≡ b
byte_start rs at b e = byte_here (start_of rs) at b e

-- ---- a place more

-- a place says what the byte was, and all others are where they were
pub same_split : (old new : Ranges) (at : ℕ) (b : Bool) → b ≡ byte_at old at
    → ((a : ℕ) → start_of new a ≡ cond (is_at (nat_cmp at) a) (Some b) (start_of old a)) → IsSame old new
same_split old new at b is puts = go
  where
    kept : (a : ℕ) → (a ≡ at → ⊥) → start_of new a ≡ start_of old a
    kept a other = puts a ∙ cond-false (is_at (nat_cmp at) a) (Some b) (start_of old a) (other_place at a other)

    here : (a : ℕ) → a ≡ at → byte_at new a ≡ byte_at old a
    here a same = subst (λ (a : ℕ). byte_at new a ≡ byte_at old a) (sym same)
        (byte_here (start_of new) at b (puts at ∙ cond-true (is_at (nat_cmp at) at) (Some b) (start_of old at) (same_place at)) ∙ is)

    go : (a : ℕ) → byte_at new a ≡ byte_at old a
    go zero = elim (cases_eq zero at) [ inl same ↦ here zero same | inr other ↦ ap (λ o. or_else o false) (kept zero other) ]
    go (suc a) = elim (cases_eq (suc a) at) [
      | inl same ↦ here (suc a) same
      | inr other ↦
          ap (λ o. or_else o (byte_at new a)) (kept (suc a) other) ∙ ap (or_else (start_of old (suc a))) (go a)
    ]

pub same_both : (old mid new : Ranges) → IsSame old mid → IsSame mid new → IsSame old new
same_both old mid new first second at = second at ∙ first at

-- ---- places are forgotten

pub forgets_none : (rs : Ranges) (from : ℕ) → Forgets rs from from rs
forgets_none rs from a = sym (cond-false (is_within from from a) None (start_of rs a) (none a))
  where
    none : (a : ℕ) → is_within from from a ≡ false
    none a = grind (arith, nat_tests)

-- there is no place from the one so far to another
pub forgets_on : (old cur : Ranges) (from at end : ℕ) → from ≤ at → at ≤ end → Forgets old from at cur
    → ((a : ℕ) → at ≤ a → a < end → start_of cur a ≡ None) → Forgets old from end cur
forgets_on old cur from at end lo hi forgets none a =
    elim (cases_lt a at) [
      | inl before ↦ forgets a ∙ ap (λ b. cond b None (start_of old a)) (alike a before)
      | inr from_at ↦ elim (cases_lt a end) [
        | inl inside ↦
            none a from_at inside
            ∙ sym (cond-true (is_within from end a) None (start_of old a) (within from end a (omega arith) inside))
        | inr past ↦
            forgets a ∙ cond-false (is_within from at a) None (start_of old a) (above from at a from_at)
            ∙ sym (cond-false (is_within from end a) None (start_of old a) (above from end a past))
      ]
    ]
  where
    alike : (a : ℕ) → a < at → is_within from at a ≡ is_within from end a
    alike a before = grind (arith, nat_tests)

-- the place so far is forgotten
pub forgets_one : (old cur new : Ranges) (from at : ℕ) → from ≤ at → Forgets old from at cur
    → ((a : ℕ) → start_of new a ≡ cond (is_at (nat_cmp at) a) None (start_of cur a)) → Forgets old from (at + 1) new
forgets_one old cur new from at lo forgets puts a =
    elim (cases_eq a at) [
      | inl same ↦
          puts a ∙ cond-true (is_at (nat_cmp at) a) None (start_of cur a) (ap (is_at (nat_cmp at)) same ∙ same_place at)
          ∙ sym (cond-true (is_within from (at + 1) a) None (start_of old a)
          (within from (at + 1) a (omega arith) (omega arith)))
      | inr other ↦
          puts a ∙ cond-false (is_at (nat_cmp at) a) None (start_of cur a) (other_place at a other)
          ∙ forgets a ∙ ap (λ b. cond b None (start_of old a)) (alike a other)
    ]
  where
    alike : (a : ℕ) → (a ≡ at → ⊥) → is_within from at a ≡ is_within from (at + 1) a
    alike a other = grind (arith, nat_tests)

-- ---- bytes are added

-- a place is there at the end, a place of bytes in the set is put at the first byte, and those between are forgotten
pub added_bytes : (old mid new : Ranges) (from to : ℕ) → from < to → IsSome (start_of old to)
    → ((a : ℕ) → start_of mid a ≡ cond (is_at (nat_cmp from) a) (Some true) (start_of old a))
    → Forgets mid (from + 1) to new → Adds old from to new
added_bytes old mid new from to lt some puts forgets at =
    elim (cases_lt at from) [
      | inl before ↦
          byte_alike (start_of new) (start_of old) at
          (λ a le. kept a (omega arith) (below (from + 1) to a (omega arith)))
          ∙ ap (λ b. b || byte_at old at) (sym (below from to at before))
      | inr from_at ↦ elim (cases_lt at to) [
        | inl inside ↦
            byte_steady (start_of new) from at from_at (λ a lo hi. gone a lo (omega arith))
            ∙ byte_here (start_of new) from true first
            ∙ ap (λ b. b || byte_at old at) (sym (within from to at from_at inside))
        | inr past ↦
            let last = some_here (start_of old to) some in
            byte_from (start_of new) (start_of old) to last.0 at last.1 past
            (λ a le. kept a (omega arith) (above (from + 1) to a le))
            ∙ ap (λ b. b || byte_at old at) (sym (above from to at past))
      ]
    ]
  where
    kept : (a : ℕ) → (a ≡ from → ⊥) → is_within (from + 1) to a ≡ false → start_of new a ≡ start_of old a
    kept a other out =
        forgets a ∙ cond-false (is_within (from + 1) to a) None (start_of mid a) out
        ∙ puts a ∙ cond-false (is_at (nat_cmp from) a) (Some true) (start_of old a) (other_place from a other)

    gone : (a : ℕ) → from < a → a < to → start_of new a ≡ None
    gone a lo hi =
        forgets a
        ∙ cond-true (is_within (from + 1) to a) None (start_of mid a) (within (from + 1) to a (omega arith) hi)

    first : start_of new from ≡ Some true
    first =
        forgets from
        ∙ cond-false (is_within (from + 1) to from) None (start_of mid from) (below (from + 1) to from (omega arith))
        ∙ puts from ∙ cond-true (is_at (nat_cmp from) from) (Some true) (start_of old from) (same_place from)

-- the same, where the bytes before are those of other places
pub adds_same : (old mid new : Ranges) (from to : ℕ) → IsSame old mid → Adds mid from to new → Adds old from to new
adds_same old mid new from to same adds at = adds at ∙ ap (λ b. is_within from to at || b) (same at)

-- ---- a question

-- no byte from the first to just before this one is in the set
abbrev pub NoneUntil : Ranges → ℕ → ℕ → Type 0
NoneUntil rs from end = (a : ℕ) → from ≤ a → a < end → byte_at rs a ≡ false

pub none_begun : (rs : Ranges) (from : ℕ) → byte_at rs from ≡ false → NoneUntil rs from (from + 1)
none_begun rs from e a lo hi = let same : a ≡ from = omega arith in ap (byte_at rs) same ∙ e

-- there is no place from the one so far to another
pub none_on : (rs : Ranges) (from at end : ℕ) → from < at → NoneUntil rs from at
    → ((a : ℕ) → at ≤ a → a < end → start_of rs a ≡ None) → NoneUntil rs from end
none_on rs from at end lt none gap a lo hi =
    elim (cases_lt a at) [
      | inl before ↦ none a lo before
      | inr from_at ↦
          byte_steady (start_of rs) (at - 1) a (omega arith) (λ b l h. gap b (omega arith) (omega arith))
          ∙ none (at - 1) (omega arith) (omega arith)
    ]

pub none_one : (rs : Ranges) (from at : ℕ) → NoneUntil rs from at → byte_at rs at ≡ false → NoneUntil rs from (at + 1)
none_one rs from at none e a lo hi =
    elim (cases_lt a at) [
      | inl before ↦ none a lo before
      | inr from_at ↦ let same : a ≡ at = omega arith in ap (byte_at rs) same ∙ e
    ]

-- ---- what a map's clauses say at numbers

pub none_unless : (o : Option Bool) → (IsSome o → ⊥) → o ≡ None
none_unless None never = refl
none_unless (Some b) never = absurd (never refl)

pub less_from_lt : (a b : ℕ) → a < b → nat_cmp a b ≡ Less
less_from_lt a b lt = grind (arith, nat_tests)

pub lt_from_less : (a b : ℕ) → nat_cmp a b ≡ Less → a < b
lt_from_less a b e = grind (arith, nat_tests)
