-- Lists of operations behind one another, their barriers, numbers, counts and entries.
use Rattle.std.proofs.Common.{◌≡◌, ℕ, suc, ◌-◌, Bool, true, false, cond, nat_lt, nat_le, List, [], ◌∷◌, ◌++◌, map}
use Rattle.std.proofs.Common.{refl, sym, ap, ◌∙◌, is_some, append_assoc, append-nil}
use Rattle.std.specs.List.{AllByRecursion}
use Rattle.vk_types.specs.declared.op.VkOp.{VkOp}
use Rattle.base_lemmas.specs.Lists.{Pairwise}
use Rattle.vk_types.specs.Effects.{Host_write, Device, Host_read, is_host}
use Rattle.vk_types.specs.BarrierCauses.{barrier_before, least_writer, host_barrier, maybe_barrier, barriers_from}
use Rattle.vk_types.specs.Entries.{Entry, entry_before, Counts, counted, next, after_host, after_barrier}
use Rattle.vk_types.specs.Entries.{after_submit, after_fence, first_of, rest_of}
use Rattle.vk_types.specs.Listing.{written_ranges, AreContents}
use Rattle.vk_types.specs.RunListing.{IsNumbered, IsWhole}
use Rattle.base_lemmas.proofs.Lists.{all_map}
use Rattle.core_model.specs.RunReads.{ReadsStaging}
use Rattle.core_model.specs.Listed.{ListState, after_op, after_ops, GoesOn, plain, plain_entries, is_of_device}
use Rattle.core_model.specs.Listed.{after_counts, contents_after}
use Rattle.vk_types.specs.declared.op.VkOp.TheVariants as op

pub all_to_map : {A B : Type 0} (f : A → B) (P : B → Type 0) (xs : List A) → AllByRecursion (λ x. P (f x)) xs
    → AllByRecursion P (map f xs)
all_to_map f P [] h = tt
all_to_map f P (x ∷ xs) h = (h.0, all_to_map f P xs h.1)

pub pairs_to_map : {A B : Type 0} (f : A → B) (R : B → B → Type 0) (xs : List A)
    → Pairwise (λ x y. R (f x) (f y)) xs → Pairwise R (map f xs)
pairs_to_map f R [] h = tt
pairs_to_map f R (x ∷ xs) h = (all_to_map f (R (f x)) xs h.0, pairs_to_map f R xs h.1)

pub pairs_map : {A : Type 0} (Q R : A → A → Type 0) → ((x y : A) → Q x y → R x y) → (xs : List A) → Pairwise Q xs
    → Pairwise R xs
pairs_map Q R f [] h = tt
pairs_map Q R f (x ∷ xs) h = (all_map (Q x) (R x) (f x) xs h.0, pairs_map Q R f xs h.1)

-- One list behind another -------------------------------------------------------------------------------------------

pub after_append : (s : ListState) (xs ys : List VkOp) → after_ops s (xs ++ ys) ≡ after_ops (after_ops s xs) ys
after_append s [] ys = refl
after_append s (x ∷ xs) ys = after_append (after_op s x) xs ys

barriers_append : (staging : ℕ → Bool) (s : ListState) (xs ys : List VkOp)
    → barriers_from staging s.recent s.batch (xs ++ ys) ≡ barriers_from staging s.recent s.batch xs
    ++ barriers_from staging (after_ops s xs).recent (after_ops s xs).batch ys
barriers_append staging s [] ys = refl
barriers_append staging s (op.HostWrite r call ∷ xs) ys = ap (λ l. op.HostWrite r call ∷ l)
    (barriers_append staging s xs ys)
barriers_append staging s (op.Pipeline shader ∷ xs) ys = ap (λ l. op.Pipeline shader ∷ l)
    (barriers_append staging s xs ys)
barriers_append staging s (op.Barrier barrier ∷ xs) ys = barriers_append staging s xs ys
barriers_append staging s (op.Command d ∷ xs) ys =
    let t = after_op s (op.Command d) in
    let l = barriers_from staging t.recent t.batch xs in
    let m = barriers_from staging (after_ops t xs).recent (after_ops t xs).batch ys in
    ap (λ l. maybe_barrier (barrier_before s.recent d) ++ op.Command d ∷ l) (barriers_append staging t xs ys)
    ∙ sym (append_assoc (maybe_barrier (barrier_before s.recent d)) (op.Command d ∷ l) m)
barriers_append staging s (op.Submit k ∷ xs) ys =
    let t = after_op s (op.Submit k) in
    let l = barriers_from staging t.recent t.batch xs in
    let m = barriers_from staging (after_ops t xs).recent (after_ops t xs).batch ys in
    ap (λ l. host_barrier (least_writer staging s.batch) ++ op.Submit k ∷ l) (barriers_append staging t xs ys)
    ∙ sym (append_assoc (host_barrier (least_writer staging s.batch)) (op.Submit k ∷ l) m)
barriers_append staging s (op.Fence k ∷ xs) ys = ap (λ l. op.Fence k ∷ l) (barriers_append staging s xs ys)
barriers_append staging s (op.HostRead r call ∷ xs) ys = ap (λ l. op.HostRead r call ∷ l)
    (barriers_append staging s xs ys)

pub numbers_append : (s : ListState) (xs ys : List VkOp) → IsNumbered s.chunk xs
    → IsNumbered (after_ops s xs).chunk ys → IsNumbered s.chunk (xs ++ ys)
numbers_append s [] ys h k = k
numbers_append s (op.HostWrite r call ∷ xs) ys h k = numbers_append s xs ys h k
numbers_append s (op.Pipeline shader ∷ xs) ys h k = numbers_append s xs ys h k
numbers_append s (op.Barrier barrier ∷ xs) ys h k = numbers_append s xs ys h k
numbers_append s (op.Command d ∷ xs) ys h k = numbers_append (after_op s (op.Command d)) xs ys h k
numbers_append s (op.Submit j ∷ xs) ys h k = (h.0, numbers_append (after_op s (op.Submit j)) xs ys h.1 k)
numbers_append s (op.Fence j ∷ xs) ys h k = (h.0, numbers_append s xs ys h.1 k)
numbers_append s (op.HostRead r call ∷ xs) ys h k = numbers_append s xs ys h k

pub whole_append : (s : ListState) (xs ys : List VkOp) → IsWhole s.inside xs → IsWhole (after_ops s xs).inside ys
    → IsWhole s.inside (xs ++ ys)
whole_append s [] ys h k = k
whole_append s (op.HostWrite r call ∷ xs) ys h k = (h.0, whole_append s xs ys h.1 k)
whole_append s (op.Pipeline shader ∷ xs) ys h k = whole_append s xs ys h k
whole_append s (op.Barrier barrier ∷ xs) ys h k = whole_append s xs ys h k
whole_append s (op.Command d ∷ xs) ys h k = whole_append (after_op s (op.Command d)) xs ys h k
whole_append s (op.Submit j ∷ xs) ys h k = whole_append (after_op s (op.Submit j)) xs ys h k
whole_append s (op.Fence j ∷ xs) ys h k = whole_append s xs ys h k
whole_append s (op.HostRead r call ∷ xs) ys h k = (h.0, whole_append s xs ys h.1 k)

pub goes_on : (staging : ℕ → Bool) (s : ListState) (xs ys : List VkOp) → GoesOn staging s xs
    → GoesOn staging (after_ops s xs) ys → GoesOn staging s (xs ++ ys)
goes_on staging s xs ys h k = record {
  barriers =
      ap (λ l. l ++ ys) h.barriers ∙ ap (λ l. barriers_from staging s.recent s.batch xs ++ l) k.barriers
      ∙ sym (barriers_append staging s xs ys);
  numbers = numbers_append s xs ys h.numbers k.numbers;
  whole = whole_append s xs ys h.whole k.whole;
}

pub reads_append : (staging : ℕ → Bool) (xs ys : List VkOp) → ReadsStaging staging xs → ReadsStaging staging ys
    → ReadsStaging staging (xs ++ ys)
reads_append staging [] ys h k = k
reads_append staging (op.HostWrite r call ∷ xs) ys h k = reads_append staging xs ys h k
reads_append staging (op.Pipeline shader ∷ xs) ys h k = reads_append staging xs ys h k
reads_append staging (op.Barrier barrier ∷ xs) ys h k = reads_append staging xs ys h k
reads_append staging (op.Command d ∷ xs) ys h k = reads_append staging xs ys h k
reads_append staging (op.Submit j ∷ xs) ys h k = reads_append staging xs ys h k
reads_append staging (op.Fence j ∷ xs) ys h k = reads_append staging xs ys h k
reads_append staging (op.HostRead r call ∷ xs) ys h k = (h.0, reads_append staging xs ys h.1 k)

-- operations of the device read nothing to the host
pub device_reads : (staging : ℕ → Bool) (xs : List VkOp) → AllByRecursion (λ o. is_of_device o ≡ true) xs
    → ReadsStaging staging xs
device_reads staging [] h = tt
device_reads staging (op.HostWrite r call ∷ xs) h = device_reads staging xs h.1
device_reads staging (op.Pipeline shader ∷ xs) h = device_reads staging xs h.1
device_reads staging (op.Barrier barrier ∷ xs) h = device_reads staging xs h.1
device_reads staging (op.Command d ∷ xs) h = device_reads staging xs h.1
device_reads staging (op.Submit j ∷ xs) h = device_reads staging xs h.1
device_reads staging (op.Fence j ∷ xs) h = device_reads staging xs h.1
device_reads staging (op.HostRead r call ∷ xs) h = let z = h.0 in absurd (cc z)

-- Plain entries -----------------------------------------------------------------------------------------------------

-- the counts that are left out order nothing
pub plain_before : (x y : Entry) → entry_before (plain x) (plain y) ≡ entry_before x y
plain_before x y = by_sides (is_host x.act) (is_host y.act)
  where
    by_sides : (a b : Bool)
        → cond a (cond b (nat_lt (cond a x.number 0) (cond b y.number 0)) (nat_le x.chunk y.chunk))
        (cond b (nat_le x.chunk (cond b y.fence 0)) (nat_lt (cond a 0 x.epoch) (cond b 0 y.epoch)))
        ≡ cond a (cond b (nat_lt x.number y.number) (nat_le x.chunk y.chunk))
        (cond b (nat_le x.chunk y.fence) (nat_lt x.epoch y.epoch))
    by_sides true true = refl
    by_sides true false = refl
    by_sides false true = refl
    by_sides false false = refl

-- what the device's operations add does not hang on fences and acts of the host
pub device_plain : (ops : List VkOp) → AllByRecursion (λ o. is_of_device o ≡ true) ops
    → (x y : Counts) (contents contents' : List (List ℕ)) → x.chunk ≡ y.chunk → x.epoch ≡ y.epoch
    → plain_entries x contents ops ≡ plain_entries y contents' ops
device_plain [] h x y contents contents' e f = refl
device_plain (op.HostWrite r call ∷ ops) h x y contents contents' e f = let z = h.0 in absurd (cc z)
device_plain (op.Pipeline shader ∷ ops) h x y contents contents' e f = let z = h.0 in absurd (cc z)
device_plain (op.Barrier barrier ∷ ops) h x y contents contents' e f =
    device_plain ops h.1 (after_barrier x barrier) (after_barrier y barrier) contents contents' e
    (ap (λ n. cond (is_some barrier.second) (suc n) n) f)
device_plain (op.Command d ∷ ops) h x y contents contents' e f =
    λ i. record { act = Device d; chunk = e i; epoch = f i; fence = 0; number = 0 } ∷ device_plain ops h.1 (next x)
    (next y) contents contents' e f i
device_plain (op.Submit k ∷ ops) h x y contents contents' e f = let z = h.0 in absurd (cc z)
device_plain (op.Fence k ∷ ops) h x y contents contents' e f = let z = h.0 in absurd (cc z)
device_plain (op.HostRead r call ∷ ops) h x y contents contents' e f = let z = h.0 in absurd (cc z)

-- the entries of one list behind another
pub entries_append : (c : Counts) (contents : List (List ℕ)) (xs ys : List VkOp)
    → plain_entries c contents (xs ++ ys) ≡ plain_entries c contents xs
    ++ plain_entries (after_counts c xs) (contents_after contents xs) ys
entries_append c contents [] ys = refl
entries_append c contents (op.HostWrite r call ∷ xs) ys =
    ap (λ l. plain (counted c (Host_write r (first_of contents))).entry ∷ l)
    (entries_append (after_host c) (rest_of contents) xs ys)
entries_append c contents (op.Pipeline shader ∷ xs) ys = entries_append (next c) contents xs ys
entries_append c contents (op.Barrier barrier ∷ xs) ys = entries_append (after_barrier c barrier) contents xs ys
entries_append c contents (op.Command d ∷ xs) ys = ap (λ l. plain (counted c (Device d)).entry ∷ l)
    (entries_append (next c) contents xs ys)
entries_append c contents (op.Submit k ∷ xs) ys = entries_append (after_submit c k) contents xs ys
entries_append c contents (op.Fence k ∷ xs) ys = entries_append (after_fence c k) contents xs ys
entries_append c contents (op.HostRead r call ∷ xs) ys = ap (λ l. plain (counted c (Host_read r)).entry ∷ l)
    (entries_append (after_host c) contents xs ys)

-- the ranges that the host writes, of one list behind another
pub ranges_append : (xs ys : List VkOp) → written_ranges (xs ++ ys) ≡ written_ranges xs ++ written_ranges ys
ranges_append [] ys = refl
ranges_append (op.HostWrite r call ∷ xs) ys = ap (λ l. r ∷ l) (ranges_append xs ys)
ranges_append (op.Pipeline shader ∷ xs) ys = ranges_append xs ys
ranges_append (op.Barrier barrier ∷ xs) ys = ranges_append xs ys
ranges_append (op.Command d ∷ xs) ys = ranges_append xs ys
ranges_append (op.Submit k ∷ xs) ys = ranges_append xs ys
ranges_append (op.Fence k ∷ xs) ys = ranges_append xs ys
ranges_append (op.HostRead r call ∷ xs) ys = ranges_append xs ys

-- operations of the device write no range of the host
pub device_ranges : (ops : List VkOp) → AllByRecursion (λ o. is_of_device o ≡ true) ops → written_ranges ops ≡ []
device_ranges [] h = refl
device_ranges (op.HostWrite r call ∷ ops) h = let z = h.0 in absurd (cc z)
device_ranges (op.Pipeline shader ∷ ops) h = let z = h.0 in absurd (cc z)
device_ranges (op.Barrier barrier ∷ ops) h = device_ranges ops h.1
device_ranges (op.Command d ∷ ops) h = device_ranges ops h.1
device_ranges (op.Submit k ∷ ops) h = let z = h.0 in absurd (cc z)
device_ranges (op.Fence k ∷ ops) h = let z = h.0 in absurd (cc z)
device_ranges (op.HostRead r call ∷ ops) h = let z = h.0 in absurd (cc z)

-- the bytes are those of a longer listing that writes no range more
pub contents_kept : (xs ys : List VkOp) (contents : List (List ℕ)) → written_ranges ys ≡ []
    → AreContents xs contents → AreContents (xs ++ ys) contents
contents_kept xs ys contents e h = h ∙ ap (map (λ r. r.to - r.from))
    (sym (ranges_append xs ys ∙ ap (λ l. written_ranges xs ++ l) e ∙ append-nil (written_ranges xs)))

pub contents_append : (contents : List (List ℕ)) (xs ys : List VkOp)
    → contents_after contents (xs ++ ys) ≡ contents_after (contents_after contents xs) ys
contents_append contents [] ys = refl
contents_append contents (op.HostWrite r call ∷ xs) ys = contents_append (rest_of contents) xs ys
contents_append contents (op.Pipeline shader ∷ xs) ys = contents_append contents xs ys
contents_append contents (op.Barrier barrier ∷ xs) ys = contents_append contents xs ys
contents_append contents (op.Command d ∷ xs) ys = contents_append contents xs ys
contents_append contents (op.Submit k ∷ xs) ys = contents_append contents xs ys
contents_append contents (op.Fence k ∷ xs) ys = contents_append contents xs ys
contents_append contents (op.HostRead r call ∷ xs) ys = contents_append contents xs ys

-- operations of the device write no bytes of the host
pub device_contents : (ops : List VkOp) → AllByRecursion (λ o. is_of_device o ≡ true) ops
    → (contents : List (List ℕ)) → contents_after contents ops ≡ contents
device_contents [] h contents = refl
device_contents (op.HostWrite r call ∷ ops) h contents = let z = h.0 in absurd (cc z)
device_contents (op.Pipeline shader ∷ ops) h contents = let z = h.0 in absurd (cc z)
device_contents (op.Barrier barrier ∷ ops) h contents = device_contents ops h.1 contents
device_contents (op.Command d ∷ ops) h contents = device_contents ops h.1 contents
device_contents (op.Submit k ∷ ops) h contents = let z = h.0 in absurd (cc z)
device_contents (op.Fence k ∷ ops) h contents = let z = h.0 in absurd (cc z)
device_contents (op.HostRead r call ∷ ops) h contents = let z = h.0 in absurd (cc z)
