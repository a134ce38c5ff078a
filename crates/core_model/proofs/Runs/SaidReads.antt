-- Host reads and answers, as more is listed, written and said.
use Rattle.std.proofs.Common.{◌≡◌, ℕ, suc, ◌-◌, ◌<◌, ◌≤◌, false, List, [], ◌∷◌, ◌++◌, map, length, refl}
use Rattle.std.proofs.Common.{sym, ap, ◌∙◌, subst, ◌⊎◌, inl, inr, Option, Some, None, arith, append_assoc}
use Rattle.std.proofs.Common.{length-append}
use Rattle.std.specs.List.{AllByRecursion}
use Rattle.dx_types.specs.declared.range.Range.{Range}
use Rattle.vk_types.specs.declared.op.VkOp.{VkOp}
use Rattle.vk_types.specs.declared.op.VkOp.TheVariants as op
use Rattle.base_lemmas.specs.Lists.{numbers_from}
use Rattle.vk_types.specs.Memory.{zeros, range}
use Rattle.vk_types.specs.Effects.{Meaning, Host_write, Device, Host_read}
use Rattle.vk_types.specs.Entries.{Entry, run_entries, Counts, counted, next, after_host, after_barrier, after_submit}
use Rattle.vk_types.specs.Entries.{after_fence, first_of, rest_of, start_counts}
use Rattle.vk_types.specs.Listing.{written_ranges}
use Rattle.base_lemmas.proofs.Lists.{all_append, all_map, all_back}
use Rattle.core_model.specs.Script.{Bytes, Script}
use Rattle.core_model.specs.CoreState.{Core, Said, Bytes_said, Value_said, Still_said}
use Rattle.core_model.specs.CoreState.{Refused_said, End_said}
use Rattle.core_model.specs.Listed.{plain, plain_entries}
use Rattle.core_model.specs.HostReads.{bytes_in_order}
use Rattle.core_model.specs.Invariant.{IsAsked}
use Rattle.core_model.proofs.Runs.HostReading.{is_read, is_answer, Grown}

-- The entries of a front of the listing leave the bytes of a range, and the host's bytes for it are there
pub record Leaves (meaning : Meaning) (contents : List (List ℕ)) (front : List VkOp) (r : Range) (bytes : List ℕ) :
    Type 0 where
  pub filled : r.from < r.to
  pub given : length (written_ranges front) ≤ length contents
  pub left : map (run_entries meaning (plain_entries start_counts contents front) zeros r.block)
      (numbers_from r.from (r.to - r.from)) ≡ bytes

-- a host read, and its reply
pub record ReadRight (meaning : Meaning) (script : Script) (contents : List (List ℕ)) (replies : List Said)
    (front : List VkOp) (r : Range) (call : ℕ) : Type 0 where
  pub source : Range
  pub used : ℕ
  pub at : IsAsked script call (Bytes source) (Some used)
  pub is : r ≡ range r.block source.from source.to
  pub before : List Said
  pub after : List Said
  pub said : replies ≡ before ++ Bytes_said call (bytes_in_order meaning script at.front source) ∷ after
  pub leaves : Leaves meaning contents front r (bytes_in_order meaning script at.front source)

-- a reply, and its host read
abbrev pub ReadOf : Meaning → List VkOp → List (List ℕ) → ℕ → Range → List ℕ → Option ℕ → Type 0
ReadOf meaning listing contents call source bytes None = Unit {0}
ReadOf meaning listing contents call source bytes (Some used) =
    (block : ℕ) × (front : List VkOp) × (back : List VkOp) ×
    (listing ≡ front ++ op.HostRead (range block source.from source.to) call ∷ back)
    × Leaves meaning contents front (range block source.from source.to) bytes

abbrev pub SaidRight : Meaning → Script → List VkOp → List (List ℕ) → Said → Type 0
SaidRight meaning script listing contents (Bytes_said call bytes) =
    (source : Range) × (used : Option ℕ) × (at : IsAsked script call (Bytes source) used)
    × (bytes ≡ bytes_in_order meaning script at.front source)
    × ReadOf meaning listing contents call source bytes used
SaidRight meaning script listing contents (Value_said call value) = Unit {0}
SaidRight meaning script listing contents (Still_said call used finished) = Unit {0}
SaidRight meaning script listing contents (Refused_said call) = Unit {0}
SaidRight meaning script listing contents End_said = Unit {0}

pub record Answered (meaning : Meaning) (script : Script) (core : Core) : Type 0 where
  pub reads : (front : List VkOp) (r : Range) (call : ℕ) (back : List VkOp)
      → core.listing ≡ front ++ op.HostRead r call ∷ back
      → ReadRight meaning script core.contents core.replies front r call
  pub said : AllByRecursion (SaidRight meaning script core.listing core.contents) core.replies

-- More is listed, written and said ----------------------------------------------------------------------------------

pub first_more : (contents more : List (List ℕ)) → 0 < length contents → first_of (contents ++ more) ≡ first_of contents
first_more [] more l = absurd (let z : ⊥ = omega (arith, l) in z)
first_more (b ∷ bs) more l = refl

pub rest_more : (contents more : List (List ℕ)) → 0 < length contents
    → (rest_of (contents ++ more) ≡ rest_of contents ++ more) × (suc (length (rest_of contents)) ≡ length contents)
rest_more [] more l = absurd (let z : ⊥ = omega (arith, l) in z)
rest_more (b ∷ bs) more l = (refl, refl)

abbrev pub written_entry : Counts → Range → List ℕ → Entry
written_entry c r bs = record { act = Host_write r bs; chunk = c.chunk; epoch = 0; fence = c.fence; number = c.number }

pub entries_more : (c : Counts) (contents more : List (List ℕ)) (ops : List VkOp)
    → length (written_ranges ops) ≤ length contents → plain_entries c (contents ++ more) ops
    ≡ plain_entries c contents ops
entries_more c contents more [] l = refl
entries_more c contents more (op.HostWrite r call ∷ ops) l =
    let some : 0 < length contents = omega (arith, l) in
    let rest = rest_more contents more some in
    let length_is = rest.1 in
    let a : plain_entries c (contents ++ more) (op.HostWrite r call ∷ ops)
    ≡ written_entry c r (first_of contents) ∷ plain_entries (after_host c) (rest_of (contents ++ more)) ops =
    ap (λ bs. written_entry c r bs ∷ plain_entries (after_host c) (rest_of (contents ++ more)) ops)
    (first_more contents more some) in
    let b : plain_entries (after_host c) (rest_of (contents ++ more)) ops
    ≡ plain_entries (after_host c) (rest_of contents) ops =
    ap (λ l. plain_entries (after_host c) l ops) rest.0 ∙ entries_more (after_host c) (rest_of contents) more ops
    (omega (arith, l, length_is)) in
    a ∙ ap (λ l. written_entry c r (first_of contents) ∷ l) b
entries_more c contents more (op.Pipeline shader ∷ ops) l = entries_more (next c) contents more ops l
entries_more c contents more (op.Barrier barrier ∷ ops) l = entries_more (after_barrier c barrier) contents more ops l
entries_more c contents more (op.Command d ∷ ops) l = ap (λ l. plain (counted c (Device d)).entry ∷ l)
    (entries_more (next c) contents more ops l)
entries_more c contents more (op.Submit k ∷ ops) l = entries_more (after_submit c k) contents more ops l
entries_more c contents more (op.Fence k ∷ ops) l = entries_more (after_fence c k) contents more ops l
entries_more c contents more (op.HostRead r call ∷ ops) l = ap (λ l. plain (counted c (Host_read r)).entry ∷ l)
    (entries_more (after_host c) contents more ops l)

pub leaves_more : (meaning : Meaning) (contents more now : List (List ℕ)) (front : List VkOp) (r : Range)
    (bytes : List ℕ) → now ≡ contents ++ more → Leaves meaning contents front r bytes
    → Leaves meaning now front r bytes
leaves_more meaning contents more now front r bytes e h = record {
  filled = h.filled;
  given = let a = h.given in let b = length-append contents more in let c : length now ≡ length (contents ++ more) =
      ap length e in omega (arith, a, b, c);
  left = ap (λ es. map (run_entries meaning es zeros r.block) (numbers_from r.from (r.to - r.from)))
      (ap (λ c. plain_entries start_counts c front) e ∙ entries_more start_counts contents more front h.given)
      ∙ h.left;
}

-- a host read in the first of two lists, if the second has none
pub read_within : (xs ys front : List VkOp) (r : Range) (call : ℕ) (back : List VkOp)
    → AllByRecursion (λ o. is_read o ≡ false) ys → xs ++ ys ≡ front ++ op.HostRead r call ∷ back
    → (rest : List VkOp) × (xs ≡ front ++ op.HostRead r call ∷ rest)
read_within [] ys front r call back h e =
    let k : AllByRecursion (λ o. is_read o ≡ false) (op.HostRead r call ∷ back) =
    all_back (λ o. is_read o ≡ false) front (op.HostRead r call ∷ back)
    (subst (AllByRecursion (λ o. is_read o ≡ false)) e h) in
    absurd (let z = k.0 in cc z)
read_within (x ∷ xs) ys [] r call back h e = let s : x ≡ op.HostRead r call = cc e in (xs, ap (λ o. o ∷ xs) s)
read_within (x ∷ xs) ys (f ∷ front) r call back h e =
    let s : x ≡ f = cc e in
    let t : xs ++ ys ≡ front ++ op.HostRead r call ∷ back = cc e in
    let w = read_within xs ys front r call back h t in
    (w.0, ap (λ o. o ∷ xs) s ∙ ap (λ l. f ∷ l) w.1)

-- it is in the list, or the one that was put behind it
pub read_last : (xs : List VkOp) (q : Range) (c : ℕ) (front : List VkOp) (r : Range) (call : ℕ) (back : List VkOp)
    → xs ++ op.HostRead q c ∷ [] ≡ front ++ op.HostRead r call ∷ back
    → ((rest : List VkOp) × (xs ≡ front ++ op.HostRead r call ∷ rest)) ⊎ ((front ≡ xs) × (r ≡ q) × (call ≡ c))
read_last [] q c [] r call back e =
    let s : op.HostRead q c ≡ op.HostRead r call = cc e in
    let a : q ≡ r = cc s in
    let b : c ≡ call = cc s in
    inr (refl, sym a, sym b)
read_last [] q c (f ∷ []) r call back e = absurd (cc e)
read_last [] q c (f ∷ g ∷ front) r call back e = absurd (cc e)
read_last (x ∷ xs) q c [] r call back e = let s : x ≡ op.HostRead r call = cc e in inl (xs, ap (λ o. o ∷ xs) s)
read_last (x ∷ xs) q c (f ∷ front) r call back e =
    let s : x ≡ f = cc e in
    let t : xs ++ op.HostRead q c ∷ [] ≡ front ++ op.HostRead r call ∷ back = cc e in
    elim (read_last xs q c front r call back t) [
      | inl w ↦ inl (w.0, ap (λ o. o ∷ xs) s ∙ ap (λ l. f ∷ l) w.1)
      | inr w ↦ inr (ap (λ l. f ∷ l) w.0 ∙ ap (λ o. o ∷ xs) (sym s), w.1, w.2)
    ]

module _ (meaning : Meaning) (script : Script) where
  -- what is known of a reply still is
  pub read_of_more : (listing more now : List VkOp) (contents written after : List (List ℕ)) (call : ℕ) (source : Range)
      (bytes : List ℕ) (used : Option ℕ) → now ≡ listing ++ more → after ≡ contents ++ written
      → ReadOf meaning listing contents call source bytes used → ReadOf meaning now after call source bytes used
  read_of_more listing more now contents written after call source bytes None e f h = tt
  read_of_more listing more now contents written after call source bytes (Some used) e f h =
      let r = range h.0 source.from source.to in (
        h.0,
        h.1,
        h.2 ++ more,
        e ∙ ap (λ l. l ++ more) h.3 ∙ append_assoc h.1 (op.HostRead r call ∷ h.2) more,
        leaves_more meaning contents written after h.1 r bytes f h.4,
      )

  pub said_more : (listing more now : List VkOp) (contents written after : List (List ℕ)) → now ≡ listing ++ more
      → after ≡ contents ++ written → (s : Said)
      → SaidRight meaning script listing contents s → SaidRight meaning script now after s
  said_more listing more now contents written after e f (Bytes_said call bytes) h =
      (h.0, h.1, h.2, h.3, read_of_more listing more now contents written after call h.0 bytes h.1 e f h.4)
  said_more listing more now contents written after e f (Value_said call value) h = tt
  said_more listing more now contents written after e f (Still_said call used finished) h = tt
  said_more listing more now contents written after e f (Refused_said call) h = tt
  said_more listing more now contents written after e f End_said h = tt

  pub said_mute : (listing : List VkOp) (contents : List (List ℕ)) (s : Said) → is_answer s ≡ false
      → SaidRight meaning script listing contents s
  said_mute listing contents (Bytes_said call bytes) h = absurd (cc h)
  said_mute listing contents (Value_said call value) h = tt
  said_mute listing contents (Still_said call used finished) h = tt
  said_mute listing contents (Refused_said call) h = tt
  said_mute listing contents End_said h = tt

  -- a host read that was there has its reply
  pub right_more : (contents written now : List (List ℕ)) (replies said after : List Said) (front : List VkOp)
      (r : Range) (call : ℕ) → now ≡ contents ++ written → after ≡ replies ++ said
      → ReadRight meaning script contents replies front r call → ReadRight meaning script now after front r call
  right_more contents written now replies said after front r call e f h = record {
    source = h.source;
    used = h.used;
    at = h.at;
    is = h.is;
    before = h.before;
    after = h.after ++ said;
    said = f ∙ ap (λ l. l ++ said) h.said ∙ append_assoc h.before
        (Bytes_said call (bytes_in_order meaning script h.at.front h.source) ∷ h.after) said;
    leaves = leaves_more meaning contents written now front r (bytes_in_order meaning script h.at.front h.source) e
        h.leaves;
  }

  pub grown_answered : (old new : Core) → Grown old new → Answered meaning script old → Answered meaning script new
  grown_answered old new g h = record {
    reads = λ front r call back e.
        let w = read_within old.listing g.more front r call back g.unread (sym g.listing ∙ e) in
        right_more old.contents g.written new.contents old.replies g.said new.replies front r call g.contents
        g.replies (h.reads front r call w.0 w.1);
    said =
        subst (AllByRecursion (SaidRight meaning script new.listing new.contents)) (sym g.replies)
        (all_append (SaidRight meaning script new.listing new.contents) old.replies g.said
        (all_map (SaidRight meaning script old.listing old.contents)
        (SaidRight meaning script new.listing new.contents)
        (λ s k. said_more old.listing g.more new.listing old.contents g.written new.contents g.listing
        g.contents s k) old.replies h.said)
        (all_map (λ s. is_answer s ≡ false) (SaidRight meaning script new.listing new.contents)
        (λ s k. said_mute new.listing new.contents s k) g.said g.mute));
  }
