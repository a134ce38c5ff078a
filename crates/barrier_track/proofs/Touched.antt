-- What the sets of bytes tell of the touches.
use Rattle.std.proofs.Common.{◌≡◌, ℕ, zero, suc, ◌+◌, ◌<◌, ◌≤◌, ◌⊎◌, inl, inr, Bool, true, false, cond, ◌&&◌, ◌||◌}
use Rattle.std.proofs.Common.{List, [], ◌∷◌, ◌++◌, length, slice_get, Option, Some, None, refl, sym, ap, ◌∙◌, subst}
use Rattle.std.proofs.Common.{arith}
use Rattle.std.specs.List.{list_any}
use Rattle.std.proofs.lemmas.Bool.{and_parts, or_cases, cases_Bool, cases_lt, both_ways, false_from_ne_true}
use Rattle.std.proofs.lemmas.Option.{slice_get_within}
use Rattle.dx_types.specs.declared.range.Range.{Range}
use Rattle.vk_types.specs.declared.access.Access.{Access}
use Rattle.vk_types.specs.declared.touch.Touch.{Touch}
use Rattle.vk_types.specs.declared.command.Command.{Command}
use Rattle.vk_types.specs.Memory.{covers, meets}
use Rattle.vk_types.specs.Hazards.{touches, touches_conflict, has_write}
use Rattle.vk_types.specs.BarrierCauses.{lesser}
use Rattle.vk_types.proofs.Local.{covered_block, covered_from, covered_to, shared}
use Rattle.barrier_track.specs.declared.touches.Seen.{Seen}
use Rattle.barrier_track.specs.Bytes.{Blocks, has_byte, AddsIf, KeepsBytes, Grows, Meets}
use Rattle.barrier_track.specs.Touched.{any_access, IsSet, HaveBytes, Misses, AllMiss, NoneClashes}
use Rattle.barrier_track.specs.Since.{least_seen}

-- ---- places of a list

same_some : {X : Type 0} {o : Option X} {a b : X} → o ≡ Some a → o ≡ Some b → a ≡ b
same_some e f = cc

get_more : {X : Type 0} (xs ys : List X) (i : ℕ) (x : X) → slice_get xs i ≡ Some x → slice_get (xs ++ ys) i ≡ Some x
get_more [] ys i x e = absurd (cc e)
get_more (y ∷ xs) ys zero x e = e
get_more (y ∷ xs) ys (suc i) x e = get_more xs ys i x e

get_back : {X : Type 0} (xs ys : List X) (i : ℕ) (x : X) → i < length xs → slice_get (xs ++ ys) i ≡ Some x
    → slice_get xs i ≡ Some x
get_back [] ys i x lt e = absurd (omega (arith, lt))
get_back (y ∷ xs) ys zero x lt e = e
get_back (y ∷ xs) ys (suc i) x lt e = get_back xs ys i x (omega (arith, lt)) e

-- an element that passes a test has a place
any_place : {X : Type 0} (test : X → Bool) (xs : List X) → list_any test xs ≡ true
    → (i : ℕ) × (x : X) × (slice_get xs i ≡ Some x) × (test x ≡ true)
any_place test [] e = absurd (cc e)
any_place test (x ∷ xs) e = elim (or_cases (test x) (list_any test xs) e) [
  | inl here ↦ (zero, x, refl, here)
  | inr there ↦ let r = any_place test xs there in (suc r.0, r.1, r.2, r.3)
]

-- ---- the sets

or_true : (b : Bool) → (b || true) ≡ true
or_true true = refl
or_true false = refl

pub none_set : (does : Access → Bool) (bytes : Blocks) → bytes ≡ [] → ((block at : ℕ) → has_byte [] block at ≡ false)
    → IsSet does [] 0 bytes
none_set does bytes is none = record {
  has = λ i s lt e. absurd (cc e);
  only = λ block at h. absurd (both_ways (has_byte bytes block at) (ap (λ (bs : Blocks). has_byte bs block at) is ∙ none block at) h);
}

-- more touches, that aren't in the set
pub set_push : (does : Access → Bool) (seen more : List Seen) (settled : ℕ) (bytes : Blocks) → settled ≤ length seen
    → IsSet does seen settled bytes → IsSet does (seen ++ more) settled bytes
set_push does seen more settled bytes le is = record {
  has = λ i s lt e. is.has i s lt (get_back seen more i s (omega (arith, lt, le)) e);
  only = λ block at h. let o = is.only block at h in (o.0, o.1, get_more seen more o.0 o.1 o.2, o.3, o.4);
}

-- bytes of the next touch are in the set, or some of them
pub set_grows : (does : Access → Bool) (seen : List Seen) (settled : ℕ) (s : Seen) (old new : Blocks)
    → slice_get seen settled ≡ Some s
    → Grows (does s.touch.access) old s.touch.range new → IsSet does seen settled old → IsSet does seen settled new
set_grows does seen settled s old new here grows is = record {
  has = λ i t lt e d block at c. grows.keeps block at (is.has i t lt e d block at c);
  only = λ block at h. elim (or_cases (does s.touch.access && covers s.touch.range block at) (has_byte old block at) (grows.only block at h)) [
    | inl mine ↦ let p = and_parts (does s.touch.access) (covers s.touch.range block at) mine in (settled, s, here, p.0, p.1)
    | inr was ↦ is.only block at was
  ];
}

pub set_more : (does : Access → Bool) (seen : List Seen) (settled : ℕ) (s : Seen) (old new : Blocks)
    → slice_get seen settled ≡ Some s
    → AddsIf (does s.touch.access) old s.touch.range new → IsSet does seen settled old
    → IsSet does seen (settled + 1) new
set_more does seen settled s old new here adds is = record {
  has = λ i t lt e d block at c. elim (cases_lt i settled) [
    | inl before ↦
        adds block at
        ∙ ap (λ b. (does s.touch.access && covers s.touch.range block at) || b) (is.has i t before e d block at c)
        ∙ or_true (does s.touch.access && covers s.touch.range block at)
    | inr from ↦
        let place : i ≡ settled = omega arith in
        let same : t ≡ s = same_some e (ap (slice_get seen) place ∙ here) in
        let access : does s.touch.access ≡ true = ap (λ (u : Seen). does u.touch.access) (sym same) ∙ d in
        let byte : covers s.touch.range block at ≡ true = ap (λ (u : Seen). covers u.touch.range block at) (sym same) ∙ c in
        adds block at
        ∙ ap (λ b. b || has_byte old block at) (both (does s.touch.access) (covers s.touch.range block at) access byte)
  ];
  only = λ block at h. elim (or_cases (does s.touch.access && covers s.touch.range block at) (has_byte old block at) (sym (adds block at) ∙ h)) [
    | inl mine ↦ let p = and_parts (does s.touch.access) (covers s.touch.range block at) mine in (settled, s, here, p.0, p.1)
    | inr was ↦ is.only block at was
  ];
}
  where
    both : (a b : Bool) → a ≡ true → b ≡ true → (a && b) ≡ true
    both a b d c = ap (λ x. x && b) d ∙ c

longer : (xs ys : List Seen) → length xs ≤ length (xs ++ ys)
longer [] ys = omega arith
longer (x ∷ xs) ys = omega (arith, longer xs ys)

pub bytes_push : (seen more : List Seen) (settled : ℕ) (touched written : Blocks)
    → HaveBytes seen settled touched written → HaveBytes (seen ++ more) settled touched written
bytes_push seen more settled touched written h = record {
  within = omega (arith, h.within, longer seen more);
  accessed = set_push any_access seen more settled touched h.within h.accessed;
  changed = set_push has_write seen more settled written h.within h.changed;
}

pub bytes_none : (settled : ℕ) (seen : List Seen) (touched written : Blocks) → seen ≡ [] → settled ≡ 0 → touched ≡ []
    → written ≡ [] → ((block at : ℕ) → has_byte [] block at ≡ false)
    → HaveBytes seen settled touched written
bytes_none settled seen touched written s z t w none =
    subst (λ (n : ℕ). HaveBytes seen n touched written) (sym z)
    (subst (λ (l : List Seen). HaveBytes l 0 touched written) (sym s)
    (record {
      within = omega arith;
      accessed = none_set any_access touched t none;
      changed = none_set has_write written w none;
    }))

pub bytes_part : (seen : List Seen) (settled : ℕ) (s : Seen) (t w touched written : Blocks)
    → slice_get seen settled ≡ Some s → HaveBytes seen settled t w
    → Grows true t s.touch.range touched → Grows (has_write s.touch.access) w s.touch.range written
    → HaveBytes seen settled touched written
bytes_part seen settled s t w touched written here h a b = record {
  within = h.within;
  accessed = set_grows any_access seen settled s t touched here a h.accessed;
  changed = set_grows has_write seen settled s w written here b h.changed;
}

pub bytes_more : (seen : List Seen) (settled : ℕ) (s : Seen) (t w touched written : Blocks)
    → slice_get seen settled ≡ Some s → HaveBytes seen settled t w
    → AddsIf true t s.touch.range touched → AddsIf (has_write s.touch.access) w s.touch.range written
    → HaveBytes seen (settled + 1) touched written
bytes_more seen settled s t w touched written here h a b = record {
  within = let lt = slice_get_within seen settled s here in omega arith;
  accessed = set_more any_access seen settled s t touched here a h.accessed;
  changed = set_more has_write seen settled s w written here b h.changed;
}

-- ---- what a step does to a set

pub grows_from_adds : (so : Bool) (old : Blocks) (r : Range) (new : Blocks) → AddsIf so old r new → Grows so old r new
grows_from_adds so old r new adds = record {
  keeps = λ block at h. adds block at ∙ ap (λ b. (so && covers r block at) || b) h ∙ or_true (so && covers r block at);
  only = λ block at h. sym (adds block at) ∙ h;
}

pub grows_from_keeps : (so : Bool) (old : Blocks) (r : Range) (new : Blocks) → KeepsBytes old new → Grows so old r new
grows_from_keeps so old r new keeps = record {
  keeps = λ block at h. keeps block at ∙ h;
  only = λ block at h. ap (λ b. (so && covers r block at) || b) (sym (keeps block at) ∙ h) ∙ or_true (so && covers r block at);
}

pub adds_none : (so : Bool) (bytes : Blocks) (r : Range) → so ≡ false → AddsIf so bytes r bytes
adds_none so bytes r never block at = ap (λ b. (b && covers r block at) || has_byte bytes block at) (sym never)

pub adds_so : (so : Bool) (old : Blocks) (r : Range) (new : Blocks) → so ≡ true → AddsIf true old r new
    → AddsIf so old r new
adds_so so old r new does adds = subst (λ (b : Bool). AddsIf b old r new) (sym does) adds

-- ---- a question

-- no byte of a range is in the set, so no byte that the range covers is
pub none_covered : (bytes : Blocks) (r : Range) (met : Bool) → met ≡ false
    → Meets (has_byte bytes r.block) r.from r.to met → (block at : ℕ) → covers r block at ≡ true
    → has_byte bytes block at ≡ false
none_covered bytes r met miss h block at c =
    let none = subst (λ (b : Bool). Meets (has_byte bytes r.block) r.from r.to b) miss h in
    ap (λ (b : ℕ). has_byte bytes b at) (sym (covered_block r block at c))
    ∙ none at (covered_from r block at c) (covered_to r block at c)

pub misses_write : (touched written : Blocks) (t : Touch) (met : Bool) → has_write t.access ≡ true → met ≡ false
    → Meets (has_byte touched t.range.block) t.range.from t.range.to met → Misses touched written t
misses_write touched written t met w miss h block at c =
    ap (λ (b : Bool). has_byte (cond b touched written) block at) w ∙ none_covered touched t.range met miss h block at c

pub misses_read : (touched written : Blocks) (t : Touch) (met : Bool) → has_write t.access ≡ false → met ≡ false
    → Meets (has_byte written t.range.block) t.range.from t.range.to met → Misses touched written t
misses_read touched written t met w miss h block at c =
    ap (λ (b : Bool). has_byte (cond b touched written) block at) w ∙ none_covered written t.range met miss h block at c

pub miss_none : (touched written : Blocks) (c : Command) → AllMiss touched written c 0
miss_none touched written c i t lt e = absurd (omega (arith, lt))

pub miss_more : (touched written : Blocks) (c : Command) (i : ℕ) (t : Touch) → slice_get (touches c) i ≡ Some t
    → Misses touched written t → AllMiss touched written c i → AllMiss touched written c (i + 1)
miss_more touched written c i t here misses all k u lt e =
    elim (cases_lt k i) [
      | inl before ↦ all k u before e
      | inr from ↦
          let place : k ≡ i = omega arith in
          let same : t ≡ u = same_some here (ap (slice_get (touches c)) (sym place) ∙ e) in
          subst (Misses touched written) same misses
    ]

pub miss_past : (touched written : Blocks) (c : Command) (i : ℕ) → slice_get (touches c) i ≡ None
    → AllMiss touched written c i → AllMiss touched written c (i + 1)
miss_past touched written c i here all k u lt e =
    elim (cases_lt k i) [
      | inl before ↦ all k u before e
      | inr from ↦
          let place : k ≡ i = omega arith in
          absurd (different (sym here ∙ (ap (slice_get (touches c)) (sym place) ∙ e)))
    ]
  where
    different : None ≡ Some u → ⊥
    different e = cc e

-- the sets have the bytes of a touch, and no byte of the command's touches is where it would conflict
pub no_clash : (seen : List Seen) (settled : ℕ) (touched written : Blocks) (c : Command)
    → HaveBytes seen settled touched written
    → AllMiss touched written c (length (touches c)) → NoneClashes c seen 0 settled
no_clash seen settled touched written c have misses i s lo hi e =
    false_from_ne_true (list_any (touches_conflict s.touch) (touches c))
    (λ any. clash (any_place (touches_conflict s.touch) (touches c) any))
  where
    at_byte : (u : Touch) (at : ℕ) → Misses touched written u → (has_write s.touch.access || has_write u.access) ≡ true
        → covers s.touch.range s.touch.range.block at ≡ true → covers u.range s.touch.range.block at ≡ true → ⊥
    at_byte u at misses one mine its =
        let block = s.touch.range.block in
        let free = misses block at its in
        let in_touched = have.accessed.has i s hi e refl block at mine in
        elim (cases_Bool (has_write u.access)) [
          | inl w ↦
              both_ways (has_byte touched block at)
              (sym (ap (λ (b : Bool). has_byte (cond b touched written) block at) w) ∙ free) in_touched
          | inr r ↦ elim (or_cases (has_write s.touch.access) (has_write u.access) one) [
            | inl w ↦
                both_ways (has_byte written block at)
                (sym (ap (λ (b : Bool). has_byte (cond b touched written) block at) r) ∙ free)
                (have.changed.has i s hi e w block at mine)
            | inr w ↦ both_ways (has_write u.access) r w
          ]
        ]

    clash : (k : ℕ) × (u : Touch) × (slice_get (touches c) k ≡ Some u) × (touches_conflict s.touch u ≡ true) → ⊥
    clash h =
        let u = h.1 in
        let parts = and_parts (has_write s.touch.access || has_write u.access) (meets s.touch.range u.range) h.3 in
        let byte = shared s.touch.range u.range parts.1 in
        at_byte u byte.0 (misses h.0 u (slice_get_within (touches c) h.0 u h.2) h.2) parts.0 byte.1 byte.2

pub clash_none : (c : Command) (seen : List Seen) (from : ℕ) → NoneClashes c seen from from
clash_none c seen from i s lo hi e = absurd (omega (arith, lo, hi))

pub clash_more : (c : Command) (seen : List Seen) (from at : ℕ) (s : Seen) → slice_get seen at ≡ Some s
    → list_any (touches_conflict s.touch) (touches c) ≡ false
    → NoneClashes c seen from at → NoneClashes c seen from (at + 1)
clash_more c seen from at s here apart none i t lo hi e =
    elim (cases_lt i at) [
      | inl before ↦ none i t lo before e
      | inr from_at ↦
          let place : i ≡ at = omega arith in
          let same : s ≡ t = same_some here (ap (slice_get seen) (sym place) ∙ e) in
          subst (λ (u : Seen). list_any (touches_conflict u.touch) (touches c) ≡ false) same apart
    ]

-- nothing stands at the place so far, so the list ends at it
pub clash_end : (c : Command) (seen : List Seen) (from at : ℕ) → slice_get seen at ≡ None → NoneClashes c seen from at
    → NoneClashes c seen from (length seen)
clash_end c seen from at past none i s lo hi e = none i s lo (early (cases_lt i at)) e
  where
    gone : (xs : List Seen) (n k : ℕ) (x : Seen) → slice_get xs n ≡ None → n ≤ k → slice_get xs k ≡ Some x → ⊥
    gone [] n k x p le f = cc f
    gone (y ∷ xs) zero k x p le f = cc p
    gone (y ∷ xs) (suc n) zero x p le f = omega (arith, le)
    gone (y ∷ xs) (suc n) (suc k) x p le f = gone xs n k x p (omega (arith, le)) f

    early : (i < at) ⊎ (at ≤ i) → i < at
    early (inl lt) = lt
    early (inr le) = absurd (gone seen at i s past le e)

-- no touch conflicts
none_clash : (c : Command) (seen : List Seen)
    → ((i : ℕ) (s : Seen) → slice_get seen i ≡ Some s → list_any (touches_conflict s.touch) (touches c) ≡ false)
    → least_seen c seen ≡ None
none_clash c [] none = refl
none_clash c (s ∷ seen) none =
    ap (λ b. lesser (cond b (Some s.number) None) (least_seen c seen)) (none zero s refl)
    ∙ none_clash c seen (λ i t e. none (suc i) t e)

pub none_of_both : (c : Command) (seen : List Seen) (settled : ℕ) → NoneClashes c seen 0 settled
    → NoneClashes c seen settled (length seen) → least_seen c seen ≡ None
none_of_both c seen settled first last =
    none_clash c seen (λ i s e. elim (cases_lt i settled) [
      | inl before ↦ first i s (omega arith) before e
      | inr from ↦ last i s from (slice_get_within seen i s e) e
    ])
