-- The marks of queries that turns make: of several turns, of chunks, and what is known of their calls and numbers.
use Rattle.std.proofs.Common.{◌≡◌, ℕ, suc, ◌+◌, ◌<◌, ◌≤◌, List, [], ◌∷◌, ◌++◌, refl, sym, ap, ◌∙◌, subst, arith}
use Rattle.std.proofs.Common.{append_assoc}
use Rattle.std.specs.List.{AllByRecursion}
use Rattle.vk_types.specs.declared.message.QueryMark.{QueryMark}
use Rattle.base_lemmas.specs.Lists.{Pairwise}
use Rattle.vk_types.specs.Effects.{Act, Host_write, Device, Host_read}
use Rattle.base_lemmas.proofs.Lists.{all_append, all_map, pairs_append}
use Rattle.core_model.specs.Script.{Create, Discard, No_overwrite, Stage, Command, Destroy, Create_shader, Mark_query}
use Rattle.core_model.specs.Script.{Set_state, Turn, Refused, Passed, Flushed, Asked, Item}
use Rattle.core_model.specs.Chunking.{call_of, joined}
use Rattle.core_model.specs.CoreState.{Segment, entries, flat}
use Rattle.core_model.specs.OtherParts.{all_marks}
use Rattle.core_model.specs.Invariant.{turns_of}
use Rattle.core_model.specs.Queries.{commands_by, commands_in, turn_marks, marks_from, act_is_above, AreMarked}
use Rattle.core_model.proofs.Queries.InOrderCounts.{commands_append}

pub marks_append : (n : ℕ) (xs ys : List Turn) → marks_from n (xs ++ ys)
    ≡ marks_from n xs ++ marks_from (n + commands_in xs) ys
marks_append n [] ys = let e : n ≡ n + 0 = omega arith in ap (λ k. marks_from k ys) e
marks_append n (x ∷ xs) ys =
    let e : n + commands_by x + commands_in xs ≡ n + (commands_by x + commands_in xs) = omega arith in
    ap (λ l. turn_marks n x ++ l) (marks_append (n + commands_by x) xs ys
    ∙ ap (λ k. marks_from (n + commands_by x) xs ++ marks_from k ys) e)
    ∙ sym (append_assoc (turn_marks n x) (marks_from (n + commands_by x) xs) (marks_from (n + commands_in (x ∷ xs)) ys))

pub all_marks_append : (xs ys : List Segment) → all_marks (xs ++ ys) ≡ all_marks xs ++ all_marks ys
all_marks_append [] ys = refl
all_marks_append (x ∷ xs) ys = ap (λ l. x.queries ++ l) (all_marks_append xs ys)
    ∙ sym (append_assoc x.queries (all_marks xs) (all_marks ys))

-- Chunks ------------------------------------------------------------------------------------------------------------

pub marked_marks : (n : ℕ) (ss : List Segment) → AreMarked n ss → all_marks ss ≡ marks_from n (joined (turns_of ss))
marked_marks n [] h = refl
marked_marks n (s ∷ ss) h =
    ap (λ l. l ++ all_marks ss) h.0.queries ∙ ap (λ l. marks_from n s.turns ++ l)
    (marked_marks (n + commands_in s.turns) ss h.1)
    ∙ sym (marks_append n s.turns (joined (turns_of ss)))

pub marked_front : (n : ℕ) (xs ys : List Segment) → AreMarked n (xs ++ ys) → AreMarked n xs
marked_front n [] ys h = tt
marked_front n (x ∷ xs) ys h = (h.0, marked_front (n + commands_in x.turns) xs ys h.1)

pub marked_back : (n : ℕ) (xs ys : List Segment) → AreMarked n (xs ++ ys)
    → AreMarked (n + commands_in (joined (turns_of xs))) ys
marked_back n [] ys h = subst (λ k. AreMarked k ys) (let e : n ≡ n + 0 = omega arith in e) h
marked_back n (x ∷ xs) ys h =
    let c = commands_append x.turns (joined (turns_of xs)) in
    let e : n + commands_in x.turns + commands_in (joined (turns_of xs))
    ≡ n + commands_in (joined (turns_of (x ∷ xs))) = omega (arith, c) in
    subst (λ k. AreMarked k ys) e (marked_back (n + commands_in x.turns) xs ys h.1)

pub marked_append : (n : ℕ) (xs ys : List Segment) → AreMarked n xs
    → AreMarked (n + commands_in (joined (turns_of xs))) ys → AreMarked n (xs ++ ys)
marked_append n [] ys h k = subst (λ k. AreMarked k ys) (let e : n + 0 ≡ n = omega arith in e) k
marked_append n (x ∷ xs) ys h k =
    let c = commands_append x.turns (joined (turns_of xs)) in
    let e : n + commands_in (joined (turns_of (x ∷ xs))) ≡ n + commands_in x.turns + commands_in
    (joined (turns_of xs)) = omega (arith, c) in
    (h.0, marked_append (n + commands_in x.turns) xs ys h.1 (subst (λ k. AreMarked k ys) e k))

act_above : (m n : ℕ) (a : Act) → m ≤ n → act_is_above n a → act_is_above m a
act_above m n (Host_write target bytes) l h = tt
act_above m n (Device d) l h = omega (arith, l, h)
act_above m n (Host_read source) l h = tt

-- the commands of chunks behind so many commands have greater numbers
pub marked_above : (n : ℕ) (ss : List Segment) → AreMarked n ss → AllByRecursion (λ x. act_is_above n x.act) (flat ss)
marked_above n [] h = tt
marked_above n (s ∷ ss) h =
    all_append (λ x. act_is_above n x.act) (entries s) (flat ss) h.0.above
    (all_map (λ x. act_is_above (n + commands_in s.turns) x.act) (λ x. act_is_above n x.act)
    (λ x k. act_above n (n + commands_in s.turns) x.act (omega arith) k) (flat ss)
    (marked_above (n + commands_in s.turns) ss h.1))

-- What is known of marks --------------------------------------------------------------------------------------------

-- of a turn's marks, where it holds of those that its call may make
turn_has : (P : QueryMark → Type 0) (n : ℕ) (t : Turn) → ((m : QueryMark) → m.call ≡ call_of t → m.before ≡ suc n
    → P m) → AllByRecursion P (turn_marks n t)
turn_has P n (Refused call) f = tt
turn_has P n (Passed call) f = tt
turn_has P n (Flushed call) f = tt
turn_has P n (Asked call ask used may_pend) f = tt
turn_has P n (Item call item ends (Create buffer bytes) bound) f = tt
turn_has P n (Item call item ends (Discard buffer from bytes) bound) f = tt
turn_has P n (Item call item ends (No_overwrite buffer from bytes) bound) f = tt
turn_has P n (Item call item ends (Stage bytes target skip) bound) f = tt
turn_has P n (Item call item ends (Command w skip) bound) f = tt
turn_has P n (Item call item ends (Destroy buffer) bound) f = tt
turn_has P n (Item call item ends Create_shader bound) f = tt
turn_has P n (Item call item ends (Mark_query query begins) bound) f = (f _ refl refl, tt)
turn_has P n (Item call item ends Set_state bound) f = tt

-- what holds of the calls of turns holds of those of their marks
pub marks_have : (P : ℕ → Type 0) (n : ℕ) (ts : List Turn) → AllByRecursion (λ t. P (call_of t)) ts
    → AllByRecursion (λ m. P m.call) (marks_from n ts)
marks_have P n [] h = tt
marks_have P n (t ∷ ts) h =
    all_append (λ m. P m.call) (turn_marks n t) (marks_from (n + commands_by t) ts)
    (turn_has (λ m. P m.call) n t (λ m c b. subst P (sym c) h.0)) (marks_have P (n + commands_by t) ts h.1)

-- a mark names no later command than the next one behind its turns
pub marks_before : (n : ℕ) (ts : List Turn) → AllByRecursion (λ m. m.before ≤ suc (n + commands_in ts))
    (marks_from n ts)
marks_before n [] = tt
marks_before n (t ∷ ts) =
    let P : QueryMark → Type 0 = λ m. m.before ≤ suc (n + commands_in (t ∷ ts)) in
    all_append P (turn_marks n t) (marks_from (n + commands_by t) ts) (turn_has P n t (λ m c b. omega (arith, b)))
    (all_map (λ m. m.before ≤ suc (n + commands_by t + commands_in ts)) P (λ m l. omega (arith, l))
    (marks_from (n + commands_by t) ts) (marks_before (n + commands_by t) ts))

-- it names the next command behind them or a later one
pub marks_behind : (n : ℕ) (ts : List Turn) → AllByRecursion (λ m. n < m.before) (marks_from n ts)
marks_behind n [] = tt
marks_behind n (t ∷ ts) =
    let P : QueryMark → Type 0 = λ m. n < m.before in
    all_append P (turn_marks n t) (marks_from (n + commands_by t) ts) (turn_has P n t (λ m c b. omega (arith, b)))
    (all_map (λ m. n + commands_by t < m.before) P (λ m l. omega (arith, l)) (marks_from (n + commands_by t) ts)
    (marks_behind (n + commands_by t) ts))

-- a turn has one mark at most
one_mark : (R : QueryMark → QueryMark → Type 0) (n : ℕ) (t : Turn) → Pairwise R (turn_marks n t)
one_mark R n (Refused call) = tt
one_mark R n (Passed call) = tt
one_mark R n (Flushed call) = tt
one_mark R n (Asked call ask used may_pend) = tt
one_mark R n (Item call item ends (Create buffer bytes) bound) = tt
one_mark R n (Item call item ends (Discard buffer from bytes) bound) = tt
one_mark R n (Item call item ends (No_overwrite buffer from bytes) bound) = tt
one_mark R n (Item call item ends (Stage bytes target skip) bound) = tt
one_mark R n (Item call item ends (Command w skip) bound) = tt
one_mark R n (Item call item ends (Destroy buffer) bound) = tt
one_mark R n (Item call item ends Create_shader bound) = tt
one_mark R n (Item call item ends (Mark_query query begins) bound) = (tt, tt)
one_mark R n (Item call item ends Set_state bound) = tt

-- where calls rise, those of marks do
pub marks_rise : (n : ℕ) (ts : List Turn) → Pairwise (λ t u. call_of t ≤ call_of u) ts
    → Pairwise (λ m k. m.call ≤ k.call) (marks_from n ts)
marks_rise n [] h = tt
marks_rise n (t ∷ ts) h =
    let R : QueryMark → QueryMark → Type 0 = λ m k. m.call ≤ k.call in
    let later = marks_have (λ c. call_of t ≤ c) (n + commands_by t) ts h.0 in
    pairs_append R (turn_marks n t) (marks_from (n + commands_by t) ts) (one_mark R n t)
    (marks_rise (n + commands_by t) ts h.1)
    (turn_has (λ m. AllByRecursion (R m) (marks_from (n + commands_by t) ts)) n t
    (λ m c b. all_map (λ k. call_of t ≤ k.call) (R m) (λ k l. omega (arith, l, c))
    (marks_from (n + commands_by t) ts) later))

-- nor do the numbers of the commands fall that marks name
pub numbers_rise : (n : ℕ) (ts : List Turn) → Pairwise (λ m k. m.before ≤ k.before) (marks_from n ts)
numbers_rise n [] = tt
numbers_rise n (t ∷ ts) =
    let R : QueryMark → QueryMark → Type 0 = λ m k. m.before ≤ k.before in
    let k = n + commands_by t in
    pairs_append R (turn_marks n t) (marks_from k ts) (one_mark R n t) (numbers_rise k ts)
    (turn_has (λ m. AllByRecursion (R m) (marks_from k ts)) n t
    (λ m c b. all_map (λ j. k < j.before) (R m) (λ j l. omega (arith, l, b)) (marks_from k ts) (marks_behind k ts)))
