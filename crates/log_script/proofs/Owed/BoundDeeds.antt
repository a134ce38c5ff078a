-- Turns that do what the deeds of their call are: they bind the same bytes, and renew the same buffers.
use Rattle.std.proofs.Common.{◌≡◌, ℕ, ◌+◌, ◌<◌, ◌≤◌, min, max, Bool, true, false, ◌&&◌, ◌||◌, cond, List, [], ◌∷◌}
use Rattle.std.proofs.Common.{◌++◌, map, Option, Some, refl, sym, ap, ◌∙◌, inl, inr, ◌⊎◌, arith}
use Rattle.std.specs.Prelude.{◌==◌, is_some, nat_lt, nat_le, if◌then◌else◌}
use Rattle.std.specs.List.{list_any, AllByRecursion}
use Rattle.std.proofs.lemmas.Bool.{and_from, or_parts, or_from, false_from_ne_true, both_ways, eq-eqb, eqb-true}
use Rattle.std.proofs.lemmas.Bool.{ne_eqb, ltb-true, leb-true, lt-ltb, le-leb}
use Rattle.dx_types.specs.declared.range.Range.{Range}
use Rattle.dx_types.specs.declared.range.ResRange.{ResRange}
use Rattle.vk_types.specs.Memory.{covers}
use Rattle.base_lemmas.specs.IdMap.{get}
use Rattle.d3d_model.specs.Resource.{Buffers}
use Rattle.d3d_model.specs.Past.{Past, Deed, Makes, Discards, Binds, then_done, meets, renews, binds_byte_of}
use Rattle.d3d_model.specs.Past.{binds_some_of, is_bound}
use Rattle.core_model.specs.Script.{Turn}
use Rattle.core_model.specs.Chunking.{call_of}
use Rattle.core_model.specs.Owners.{in_ranges}
use Rattle.core_model.specs.Lawful as lawful
use Rattle.core_model.specs.Lawful.{resets, bound_by, binds_buffer}
use Rattle.log_script.specs.Makers.{maker, of_maker, of_makers}

-- bytes of a live buffer
abbrev pub Lives : Buffers → ResRange → Type 0
Lives b r = (r.from < r.to) × (is_some (get b r.res) ≡ true)

-- a turn of call n binds ranges of live buffers, and renews none
pub record BindsAll (n : ℕ) (b : Buffers) (past : Past) (t : Turn) (ds : List Deed) : Type 0 where
  pub ranges : List ResRange
  pub live : AllByRecursion (Lives b) ranges
  pub deeds : ds ≡ map Binds ranges
  pub call : call_of t ≡ n
  pub takes : bound_by t ≡ of_makers past ranges
  pub keeps : (name : ℕ) → resets name t ≡ false

-- a turn of call n discards a live buffer, and binds nothing
pub record DiscardsOne (n : ℕ) (b : Buffers) (past : Past) (t : Turn) (ds : List Deed) : Type 0 where
  pub res : ℕ
  pub live : is_some (get b res) ≡ true
  pub deeds : ds ≡ Discards res ∷ []
  pub call : call_of t ≡ n
  pub takes : bound_by t ≡ []
  pub renewed : (name : ℕ) → resets name t ≡ (maker past res == name)

abbrev pub Does : ℕ → Buffers → Past → Turn → List Deed → Type 0
Does n b past t ds = BindsAll n b past t ds ⊎ DiscardsOne n b past t ds

-- turns of call n that do these deeds, in order
abbrev pub DoAll : ℕ → Buffers → Past → List Turn → List Deed → Type 0
DoAll n b past [] ds = ds ≡ []
DoAll n b past (t ∷ ts) ds = (own : List Deed) × ((rest : List Deed)
    × ((ds ≡ own ++ rest) × (Does n b past t own × DoAll n b past ts rest)))

-- live buffers are told apart by their makers, which are no later than call k
abbrev pub TellApart : Buffers → Past → Type 0
TellApart b past = (res id : ℕ) → is_some (get b res) ≡ true → is_some (get b id) ≡ true
    → (maker past res == maker past id) ≡ (res == id)

abbrev pub MadeBy : ℕ → Buffers → Past → Type 0
MadeBy k b past = (id : ℕ) → is_some (get b id) ≡ true → maker past id ≤ k

-- ---- tests

same_truth : (a b : Bool) → (a ≡ true → b ≡ true) → (b ≡ true → a ≡ true) → a ≡ b
same_truth true b f g = sym (f refl)
same_truth false true f g = g refl
same_truth false false f g = refl

both_true : (a b : Bool) → a && b ≡ true → (a ≡ true) × (b ≡ true)
both_true true b e = (refl, e)
both_true false b e = absurd cc

and_true : (a : Bool) → a && true ≡ a
and_true true = refl
and_true false = refl

or_false : (a : Bool) → a || false ≡ a
or_false true = refl
or_false false = refl

or_assoc : (a b c : Bool) → (a || (b || c)) ≡ ((a || b) || c)
or_assoc true b c = refl
or_assoc false b c = refl

or_turned : (f c g : Bool) → (f || (c || g)) ≡ ((c || f) || g)
or_turned true true g = refl
or_turned true false g = refl
or_turned false c g = ap (λ t. t || g) (sym (or_false c))

turned : (a b : ℕ) → (a == b) ≡ (b == a)
turned a b = same_truth (a == b) (b == a) (λ e. eq-eqb b a (sym (eqb-true a b e)))
    (λ e. eq-eqb a b (sym (eqb-true b a e)))

any_append : {X : Type 0} (test : X → Bool) (xs ys : List X)
    → list_any test (xs ++ ys) ≡ (list_any test xs || list_any test ys)
any_append test [] ys = refl
any_append test (x ∷ xs) ys = ap (λ t. test x || t) (any_append test xs ys)
    ∙ or_assoc (test x) (list_any test xs) (list_any test ys)

pub done_append : (n : ℕ) (past : Past) (ds es : List Deed) → then_done n (then_done n past ds) es
    ≡ then_done n past (ds ++ es)
unfolding then_done
done_append n past [] es = refl
done_append n past (d ∷ ds) es = done_append n (record { call = n; deed = d } ∷ past) ds es

-- ---- last uses

does_call : (n : ℕ) (b : Buffers) (past : Past) (t : Turn) (ds : List Deed) → Does n b past t ds → call_of t ≡ n
does_call n b past t ds (inl h) = h.call
does_call n b past t ds (inr h) = h.call

module _ (n : ℕ) (b : Buffers) (past : Past) (apart : TellApart b past) (id : ℕ) (lives : is_some (get b id) ≡ true)
  where
    binds_same : (rs : List ResRange) → AllByRecursion (Lives b) rs
        → binds_buffer (maker past id) (of_makers past rs) ≡ list_any (binds_some_of id) (map Binds rs)
    binds_same [] h = refl
    binds_same (r ∷ rs) h =
        ap (λ t. (t && nat_lt r.from r.to) || binds_buffer (maker past id) (of_makers past rs))
        (apart r.res id h.0.1 lives)
        ∙ ap (λ t. ((r.res == id) && t) || binds_buffer (maker past id) (of_makers past rs)) (lt-ltb r.from r.to h.0.0)
        ∙ ap (λ t. t || binds_buffer (maker past id) (of_makers past rs)) (and_true (r.res == id))
        ∙ ap (λ t. (r.res == id) || t) (binds_same rs h.1)

    does_last : (t : Turn) (ds : List Deed) → Does n b past t ds
        → binds_buffer (maker past id) (bound_by t) ≡ list_any (binds_some_of id) ds
    does_last t ds (inl h) = ap (binds_buffer (maker past id)) h.takes ∙ binds_same h.ranges h.live
        ∙ ap (list_any (binds_some_of id)) (sym h.deeds)
    does_last t ds (inr h) = ap (binds_buffer (maker past id)) h.takes ∙ ap (list_any (binds_some_of id)) (sym h.deeds)

    later_wins : (x y : Bool) (found : Option ℕ) → (if y then Some n else cond x (Some n) found)
        ≡ (if x || y then Some n else found)
    later_wins true true found = refl
    later_wins true false found = refl
    later_wins false y found = refl

    -- the last use behind the turns
    pub turns_last : (ts : List Turn) (ds : List Deed) → DoAll n b past ts ds → (found : Option ℕ)
        → lawful.last_binding (maker past id) ts found ≡ (if list_any (binds_some_of id) ds then Some n else found)
    turns_last [] ds h found = ap (λ (l : List Deed). if list_any (binds_some_of id) l then Some n else found) (sym h)
    turns_last (t ∷ ts) ds h found =
        let own : List Deed = h.0 in
        let rest : List Deed = h.1.0 in
        let does : Does n b past t own = h.1.1.1.0 in
        ap (λ (x : Bool). lawful.last_binding (maker past id) ts (cond x (Some (call_of t)) found))
        (does_last t own does)
        ∙ ap (λ (k : ℕ). lawful.last_binding (maker past id) ts
        (cond (list_any (binds_some_of id) own) (Some k) found)) (does_call n b past t own does)
        ∙ turns_last ts rest h.1.1.1.1 (cond (list_any (binds_some_of id) own) (Some n) found)
        ∙ later_wins (list_any (binds_some_of id) own) (list_any (binds_some_of id) rest) found
        ∙ ap (λ (x : Bool). if x then Some n else found) (sym (any_append (binds_some_of id) own rest)
        ∙ ap (list_any (binds_some_of id)) (sym h.1.1.0))

-- ---- bound bytes

abbrev pub byte : ℕ → ℕ → ResRange
byte id i = record { res = id; from = i; to = i + 1 }

has_byte : (from to i : ℕ) → (nat_le from i && nat_lt i to) ≡ nat_lt (max i from) (min (i + 1) to)
has_byte from to i = same_truth (nat_le from i && nat_lt i to) (nat_lt (max i from) (min (i + 1) to))
    (λ e.
    let h = both_true (nat_le from i) (nat_lt i to) e in
    lt-ltb (max i from) (min (i + 1) to) (omega (arith, leb-true from i h.0, ltb-true i to h.1)))
    (λ e.
    let h = ltb-true (max i from) (min (i + 1) to) e in
    and_from (nat_le from i) (nat_lt i to) (le-leb from i (omega (arith, h))) (lt-ltb i to (omega (arith, h))))

module _ (n : ℕ) (b : Buffers) (past : Past) (apart : TellApart b past) (id : ℕ) (lives : is_some (get b id) ≡ true)
    (i : ℕ) where
  covers_same : (r : ResRange) → is_some (get b r.res) ≡ true
      → covers (of_maker past r) (maker past id) i ≡ meets (byte id i) r
  covers_same r e =
      ap (λ t. t && (nat_le r.from i && nat_lt i r.to)) (apart r.res id e lives ∙ turned r.res id)
      ∙ ap (λ t. (id == r.res) && t) (has_byte r.from r.to i)

  binds_bytes : (rs : List ResRange) → AllByRecursion (Lives b) rs → (p : Past) (found : Bool)
      → found ≡ is_bound p (byte id i)
      → (found || in_ranges (of_makers past rs) (maker past id) i) ≡ is_bound (then_done n p (map Binds rs)) (byte id i)
  unfolding is_bound then_done
  binds_bytes [] h p found e = or_false found ∙ e
  binds_bytes (r ∷ rs) h p found e =
      let c : Bool = covers (of_maker past r) (maker past id) i in
      or_turned found c (in_ranges (of_makers past rs) (maker past id) i)
      ∙ binds_bytes rs h.1 (record { call = n; deed = Binds r } ∷ p) (c || found)
      (ap (λ t. t || found) (covers_same r h.0.1) ∙ ap (λ t. meets (byte id i) r || t) e)

  discard_byte : (res : ℕ) (p : Past) (found : Bool) → found ≡ is_bound p (byte id i)
      → cond (res == id) false (found || false) ≡ is_bound (then_done n p (Discards res ∷ [])) (byte id i)
  unfolding is_bound then_done
  discard_byte res p found e = ap (λ t. cond (res == id) false t) (or_false found ∙ e)

  does_bytes : (t : Turn) (ds : List Deed) → Does n b past t ds → (p : Past) (found : Bool)
      → found ≡ is_bound p (byte id i)
      → cond (resets (maker past id) t) false (found || in_ranges (bound_by t) (maker past id) i)
      ≡ is_bound (then_done n p ds) (byte id i)
  does_bytes t ds (inl h) p found e =
      ap (λ x. cond x false (found || in_ranges (bound_by t) (maker past id) i)) (h.keeps (maker past id))
      ∙ ap (λ (rs : List Range). found || in_ranges rs (maker past id) i) h.takes
      ∙ binds_bytes h.ranges h.live p found e
      ∙ ap (λ (l : List Deed). is_bound (then_done n p l) (byte id i)) (sym h.deeds)
  does_bytes t ds (inr h) p found e =
      ap (λ x. cond x false (found || in_ranges (bound_by t) (maker past id) i)) (h.renewed (maker past id)
      ∙ apart h.res id h.live lives)
      ∙ ap (λ (rs : List Range). cond (h.res == id) false (found || in_ranges rs (maker past id) i)) h.takes
      ∙ discard_byte h.res p found e
      ∙ ap (λ (l : List Deed). is_bound (then_done n p l) (byte id i)) (sym h.deeds)

  nothing_done : (p : Past) (found : Bool) → found ≡ is_bound p (byte id i)
      → found ≡ is_bound (then_done n p []) (byte id i)
  unfolding then_done
  nothing_done p found e = e

  -- the bound bytes behind the turns
  pub turns_bytes : (ts : List Turn) (ds : List Deed) → DoAll n b past ts ds → (p : Past) (found : Bool)
      → found ≡ is_bound p (byte id i)
      → lawful.is_bound (maker past id) ts found i ≡ is_bound (then_done n p ds) (byte id i)
  turns_bytes [] ds h p found e = nothing_done p found e ∙ ap
      (λ (l : List Deed). is_bound (then_done n p l) (byte id i)) (sym h)
  turns_bytes (t ∷ ts) ds h p found e =
      let own : List Deed = h.0 in
      let rest : List Deed = h.1.0 in
      turns_bytes ts rest h.1.1.1.1 (then_done n p own) (cond (resets (maker past id) t) false
      (found || in_ranges (bound_by t) (maker past id) i)) (does_bytes t own h.1.1.1.0 p found e)
      ∙ ap (λ (q : Past). is_bound q (byte id i)) (done_append n p own rest)
      ∙ ap (λ (l : List Deed). is_bound (then_done n p l) (byte id i)) (sym h.1.1.0)

-- each byte of a range of which none is bound
no_byte : (r s : ResRange) (i : ℕ) → r.from ≤ i → i < r.to → meets r s ≡ false → meets (byte r.res i) s ≡ false
no_byte r s i low high e = false_from_ne_true (meets (byte r.res i) s) bound_one
  where
    bound_one : meets (byte r.res i) s ≡ true → ⊥
    bound_one f =
        let h = both_true (r.res == s.res) (nat_lt (max i s.from) (min (i + 1) s.to)) f in
        let inside = ltb-true (max i s.from) (min (i + 1) s.to) h.1 in
        both_ways (meets r s) e (and_from (r.res == s.res) (nat_lt (max r.from s.from) (min r.to s.to)) h.0
        (lt-ltb (max r.from s.from) (min r.to s.to) (omega (arith, inside, low, high))))

no_byte_of : (r : ResRange) (d : Deed) (i : ℕ) → r.from ≤ i → i < r.to → binds_byte_of r d ≡ false
    → binds_byte_of (byte r.res i) d ≡ false
no_byte_of r (Makes res) i low high e = refl
no_byte_of r (Discards res) i low high e = refl
no_byte_of r (Binds s) i low high e = no_byte r s i low high e

pub unbound_byte : (p : Past) (r : ResRange) (i : ℕ) → r.from ≤ i → i < r.to → is_bound p r ≡ false
    → is_bound p (byte r.res i) ≡ false
unfolding is_bound
unbound_byte [] r i low high e = refl
unbound_byte (d ∷ p) r i low high e =
    elim (renews r.res d.deed) as (λ t. (if t then false else binds_byte_of r d.deed || is_bound p r) ≡ false
    → (if t then false else binds_byte_of (byte r.res i) d.deed || is_bound p (byte r.res i)) ≡ false) [
      | true ↦ λ f. refl
      | false ↦ λ f.
          let h = or_parts (binds_byte_of r d.deed) (is_bound p r) f in
          or_from (binds_byte_of (byte r.res i) d.deed) (is_bound p (byte r.res i))
          (no_byte_of r d.deed i low high h.0) (unbound_byte p r i low high h.1)
    ] e

-- ---- buffers to come

module _ (n k : ℕ) (b : Buffers) (past : Past) (made : MadeBy k b past) (name : ℕ) (later : k < name) where
  none_later : (rs : List ResRange) → AllByRecursion (Lives b) rs → binds_buffer name (of_makers past rs) ≡ false
  none_later [] h = refl
  none_later (r ∷ rs) h =
      or_from ((maker past r.res == name) && nat_lt r.from r.to) (binds_buffer name (of_makers past rs))
      (ap (λ t. t && nat_lt r.from r.to) (ne_eqb (maker past r.res) name
      (λ same. absurd (omega (arith, same, made r.res h.0.1, later)))))
      (none_later rs h.1)

  does_not : (t : Turn) (ds : List Deed) → Does n b past t ds → binds_buffer name (bound_by t) ≡ false
  does_not t ds (inl h) = ap (binds_buffer name) h.takes ∙ none_later h.ranges h.live
  does_not t ds (inr h) = ap (binds_buffer name) h.takes

  -- no turn binds a buffer that is made later
  pub turns_later : (ts : List Turn) (ds : List Deed) → DoAll n b past ts ds → (found : Option ℕ)
      → lawful.last_binding name ts found ≡ found
  turns_later [] ds h found = refl
  turns_later (t ∷ ts) ds h found =
      ap (λ (x : Bool). lawful.last_binding name ts (cond x (Some (call_of t)) found)) (does_not t h.0 h.1.1.1.0)
      ∙ turns_later ts h.1.0 h.1.1.1.1 found
