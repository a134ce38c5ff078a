-- The chunks of a core as one list of segments, and what is known of each part of it.
use Rattle.std.proofs.Common.{◌≡◌, ℕ, suc, ◌+◌, ◌<◌, ◌≤◌, List, [], ◌∷◌, ◌++◌, length, refl, sym, ap, ◌∙◌, subst}
use Rattle.std.proofs.Common.{Some, slice_get, arith, append_assoc, append-nil, length-append}
use Rattle.std.specs.List.{AllByRecursion}
use Rattle.base_lemmas.specs.Lists.{Sublist, ended}
use Rattle.vk_types.specs.Entries.{Entry}
use Rattle.base_lemmas.proofs.Lists.{all_front, all_back, all_append, all_map, all_sublist, sublist_append}
use Rattle.base_lemmas.proofs.Lists.{sublist_none}
use Rattle.core_model.specs.CoreState.{Segment, entries, flat, Running, Message, Core, of_messages, of_running, rests}
use Rattle.core_model.specs.CoreState.{waiting, segments, later, listed, on_device, handed_count, taken_count}
use Rattle.core_model.specs.Invariant.{Numbered, turns_of, commands_of, listed_acts}
use Rattle.core_model.proofs.Listing.Worlds.{flat-append}

-- one list behind six others
pub behind_six : (a b c d e f z : List Segment) → a ++ (b ++ (c ++ (d ++ (e ++ (f ++ z)))))
    ≡ (a ++ (b ++ (c ++ (d ++ (e ++ f))))) ++ z
behind_six a b c d e f z =
    ap (λ l. a ++ (b ++ (c ++ (d ++ l)))) (sym (append_assoc e f z))
    ∙ ap (λ l. a ++ (b ++ (c ++ l))) (sym (append_assoc d (e ++ f) z))
    ∙ ap (λ l. a ++ (b ++ l)) (sym (append_assoc c (d ++ (e ++ f)) z))
    ∙ ap (λ l. a ++ l) (sym (append_assoc b (c ++ (d ++ (e ++ f))) z))
    ∙ sym (append_assoc a (b ++ (c ++ (d ++ (e ++ f)))) z)

-- the open chunk stands behind those that were handed over
pub segments_later : (core : Core) → segments core ≡ core.taken ++ (later core ++ core.open_chunk ∷ [])
segments_later core =
    ap (λ l. core.taken ++ l)
    (behind_six (of_messages core.posts) (of_messages core.completions) (of_running core.accepted) core.submissions
    core.batches core.chunks (core.open_chunk ∷ []))

-- all entries: the acts of the listing, and the open chunk's commands
pub listed_split : (core : Core) → listed core ≡ listed_acts core ++ core.open_chunk.commands
listed_split core =
    let o = core.open_chunk in
    let f = flat (core.taken ++ later core) in
    ap flat (segments_later core ∙ sym (append_assoc core.taken (later core) (o ∷ [])))
    ∙ flat-append (core.taken ++ later core) (o ∷ [])
    ∙ ap (λ l. f ++ l) (append-nil (entries o) ∙ sym (append_assoc o.reads o.writes o.commands))
    ∙ sym (append_assoc f (o.reads ++ o.writes) o.commands)

-- the chunks whose commands were all run
abbrev pub run_out : Core → List Segment
run_out core = core.taken ++ (of_messages core.posts ++ of_messages core.completions)

in_three : (a b c z : List Segment) → a ++ (b ++ (c ++ z)) ≡ (a ++ (b ++ c)) ++ z
in_three a b c z = ap (λ l. a ++ l) (sym (append_assoc b c z)) ∙ sym (append_assoc a (b ++ c) z)

pub segments_parts : (core : Core) → segments core ≡ run_out core ++ (of_running core.accepted ++ waiting core)
segments_parts core = in_three core.taken (of_messages core.posts) (of_messages core.completions)
    (of_running core.accepted ++ waiting core)

pub device_parts : (core : Core) → on_device core ≡ run_out core ++ of_running core.accepted
device_parts core = in_three core.taken (of_messages core.posts) (of_messages core.completions)
    (of_running core.accepted)

-- Lengths -----------------------------------------------------------------------------------------------------------

pub messages_length : (ms : List Message) → length (of_messages ms) ≡ length ms
messages_length [] = refl
messages_length (m ∷ ms) = ap suc (messages_length ms)

pub running_length : (rs : List Running) → length (of_running rs) ≡ length rs
running_length [] = refl
running_length (r ∷ rs) = ap suc (running_length rs)

pub later_length : (core : Core) → length (later core)
    ≡ length core.posts +
    (length core.completions +
    (length core.accepted + (length core.submissions + (length core.batches + length core.chunks))))
later_length core =
    let a = length-append (of_messages core.posts) (of_messages core.completions
    ++ (of_running core.accepted ++ (core.submissions ++ (core.batches ++ core.chunks)))) in
    let b = length-append (of_messages core.completions) (of_running core.accepted
    ++ (core.submissions ++ (core.batches ++ core.chunks))) in
    let c = length-append (of_running core.accepted) (core.submissions ++ (core.batches ++ core.chunks)) in
    let d = length-append core.submissions (core.batches ++ core.chunks) in
    let e = length-append core.batches core.chunks in
    let f = messages_length core.posts in
    let g = messages_length core.completions in
    let h = running_length core.accepted in
    omega (arith, a, b, c, d, e, f, g, h)

pub handed_length : (core : Core) → handed_count core ≡ taken_count core + length (later core)
handed_length core = let l = later_length core in omega (arith, l)

-- Parts of what holds of all ----------------------------------------------------------------------------------------

pub turns_of-append : (xs ys : List Segment) → turns_of (xs ++ ys) ≡ turns_of xs ++ turns_of ys
turns_of-append [] ys = refl
turns_of-append (x ∷ xs) ys = ap (λ l. x.turns ∷ l) (turns_of-append xs ys)

pub commands_of-append : (xs ys : List Segment) → commands_of (xs ++ ys) ≡ commands_of xs ++ commands_of ys
commands_of-append [] ys = refl
commands_of-append (x ∷ xs) ys = ap (λ l. x.commands ++ l) (commands_of-append xs ys)
    ∙ sym (append_assoc x.commands (commands_of xs) (commands_of ys))

pub numbered_append : (k n : ℕ) (xs ys : List Segment) → k + length xs ≡ n → Numbered k xs → Numbered n ys
    → Numbered k (xs ++ ys)
numbered_append k n [] ys e h g = subst (λ j. Numbered j ys) (sym (let z : k ≡ n = omega (arith, e) in z)) g
numbered_append k n (x ∷ xs) ys e h g =
    (h.0, numbered_append (suc k) n xs ys (let z : suc k + length xs ≡ n = omega (arith, e) in z) h.1 g)

pub numbered_back : (k n : ℕ) (xs ys : List Segment) → k + length xs ≡ n → Numbered k (xs ++ ys) → Numbered n ys
numbered_back k n [] ys e h = subst (λ j. Numbered j ys) (let z : k ≡ n = omega (arith, e) in z) h
numbered_back k n (x ∷ xs) ys e h = numbered_back (suc k) n xs ys (let z : suc k + length xs ≡ n =
    omega (arith, e) in z) h.1

pub numbered_front : (k : ℕ) (xs ys : List Segment) → Numbered k (xs ++ ys) → Numbered k xs
numbered_front k [] ys h = tt
numbered_front k (x ∷ xs) ys h = (h.0, numbered_front (suc k) xs ys h.1)

-- the entries of segments behind number k have greater numbers
pub numbered_above : (k : ℕ) (ss : List Segment) → Numbered k ss → AllByRecursion (λ x. k < x.chunk) (flat ss)
numbered_above k [] h = tt
numbered_above k (s ∷ ss) h =
    all_append (λ x. k < x.chunk) (entries s) (flat ss) (all_map (λ x. x.chunk ≡ suc k) (λ x. k < x.chunk)
    (λ x e. omega (arith, e)) (entries s) h.0)
    (all_map (λ x. suc k < x.chunk) (λ x. k < x.chunk) (λ x l. omega (arith, l)) (flat ss)
    (numbered_above (suc k) ss h.1))

-- the entries of so many segments have at most so great numbers
pub numbered_below : (k n : ℕ) (ss : List Segment) → k + length ss ≤ n → Numbered k ss
    → AllByRecursion (λ x. x.chunk ≤ n) (flat ss)
numbered_below k n [] l h = tt
numbered_below k n (s ∷ ss) l h =
    all_append (λ x. x.chunk ≤ n) (entries s) (flat ss) (all_map (λ x. x.chunk ≡ suc k) (λ x. x.chunk ≤ n)
    (λ x e. omega (arith, e, l)) (entries s) h.0)
    (numbered_below (suc k) n ss (let z : suc k + length ss ≤ n = omega (arith, l) in z) h.1)

pub rests_within : (rs : List Running) → AllByRecursion (λ r. Sublist r.rest r.segment.commands) rs
    → Sublist (rests rs) (flat (of_running rs))
rests_within [] h = ended
rests_within (r ∷ rs) h =
    sublist_append (sublist_append (sublist_none r.segment.reads)
    (sublist_append (sublist_none r.segment.writes) h.0)) (rests_within rs h.1)

-- what holds of each command of these segments holds of those that were not run
pub rests_have : (P : Entry → Type 0) (rs : List Running) → AllByRecursion (λ r. Sublist r.rest r.segment.commands) rs
    → AllByRecursion (λ s. AllByRecursion P s.commands) (of_running rs) → AllByRecursion P (rests rs)
rests_have P [] w h = tt
rests_have P (r ∷ rs) w h = all_append P r.rest (rests rs) (all_sublist P w.0 h.0) (rests_have P rs w.1 h.1)

pub commands_have : (P : Entry → Type 0) (ss : List Segment) → AllByRecursion P (flat ss)
    → AllByRecursion P (commands_of ss)
commands_have P [] h = tt
commands_have P (s ∷ ss) h =
    let here = all_front P (entries s) (flat ss) h in
    all_append P s.commands (commands_of ss) (all_back P s.writes s.commands
    (all_back P s.reads (s.writes ++ s.commands) here))
    (commands_have P ss (all_back P (entries s) (flat ss) h))

-- the parts of a segment's entries
pub writes_have : (P : Entry → Type 0) (s : Segment) → AllByRecursion P (entries s) → AllByRecursion P s.writes
writes_have P s h = all_front P s.writes s.commands (all_back P s.reads (s.writes ++ s.commands) h)

-- the element that stands behind so many others
pub get_middle : {A : Type 0} (front : List A) (x : A) (back : List A)
    → slice_get (front ++ x ∷ back) (length front) ≡ Some x
get_middle [] x back = refl
get_middle (y ∷ front) x back = get_middle front x back

pub turns_length : (ss : List Segment) → length (turns_of ss) ≡ length ss
turns_length [] = refl
turns_length (s ∷ ss) = ap suc (turns_length ss)
