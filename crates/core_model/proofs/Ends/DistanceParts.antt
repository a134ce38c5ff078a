-- The parts of the distance to the end.
use Rattle.std.proofs.Common.{◌≡◌, ℕ, zero, suc, ◌+◌, ◌<◌, ◌≤◌, Bool, true, false, cond, ◌||◌, ◌&&◌, not, nat_lt}
use Rattle.std.proofs.Common.{nat_le, List, [], ◌∷◌, ◌++◌, length, refl, sym, ap, ◌∙◌, subst}
use Rattle.std.proofs.Common.{arith, length-append}
use Rattle.std.proofs.lemmas.Bool.{lt-ltb}
use Rattle.core_model.specs.Script.{Create, Discard, No_overwrite, Stage, Command, Destroy, Create_shader}
use Rattle.core_model.specs.Script.{Mark_query, Set_state, Turn, Refused, Passed}
use Rattle.core_model.specs.Script.{Flushed, Asked, Item, Script}
use Rattle.core_model.specs.Chunking.{is_entry, entry_count, mark_count, staged_count, is_full, in_list, stops_next}
use Rattle.core_model.specs.Chunking.{is_due}
use Rattle.core_model.specs.CoreState.{Segment, Running, Core, rests}
use Rattle.core_model.specs.OtherParts.{created_by, created}
use Rattle.core_model.specs.Ends.{sum_of, to_come}

-- Sums --------------------------------------------------------------------------------------------------------------

pub sum_append : {A : Type 0} (f : A → ℕ) (xs ys : List A) → sum_of f (xs ++ ys) ≡ sum_of f xs + sum_of f ys
sum_append f [] ys = omega arith
sum_append f (x ∷ xs) ys = let r = sum_append f xs ys in omega (arith, r)

abbrev pub commands_in : List Segment → ℕ
commands_in ss = sum_of (λ s. length s.commands) ss

abbrev pub created_in : List Segment → ℕ
created_in ss = sum_of (λ s. length (created s.turns)) ss

-- the commands to come, part by part
pub commands_parts : (core : Core) → commands_in (to_come core) ≡ commands_in core.submissions +
    (commands_in core.batches + (commands_in core.chunks + length core.open_chunk.commands))
commands_parts core =
    let f : Segment → ℕ = λ s. length s.commands in
    let a = sum_append f core.submissions (core.batches ++ (core.chunks ++ core.open_chunk ∷ [])) in
    let b = sum_append f core.batches (core.chunks ++ core.open_chunk ∷ []) in
    let c = sum_append f core.chunks (core.open_chunk ∷ []) in
    omega (arith, a, b, c)

pub created_parts : (ss : List Segment) (s : Segment) → created_in (ss ++ s ∷ [])
    ≡ created_in ss + length (created s.turns)
created_parts ss s = let a = sum_append (λ s. length (created s.turns)) ss (s ∷ []) in omega (arith, a)

pub commands_last : (ss : List Segment) (s : Segment) → commands_in (ss ++ s ∷ []) ≡ commands_in ss + length s.commands
commands_last ss s = let a = sum_append (λ s. length s.commands) ss (s ∷ []) in omega (arith, a)

pub rests_append : (xs ys : List Running) → length (rests (xs ++ ys)) ≡ length (rests xs) + length (rests ys)
rests_append [] ys = omega arith
rests_append (x ∷ xs) ys =
    let r = rests_append xs ys in
    let a = length-append x.rest (rests (xs ++ ys)) in
    let b = length-append x.rest (rests xs) in
    omega (arith, r, a, b)

-- The open chunk ----------------------------------------------------------------------------------------------------

pub created_last : (ts : List Turn) (t : Turn) → length (created (ts ++ t ∷ []))
    ≡ length (created ts) + length (created_by t)
created_last [] t = let a = length-append (created_by t) [] in omega (arith, a)
created_last (u ∷ ts) t =
    let r = created_last ts t in
    let a = length-append (created_by u) (created (ts ++ t ∷ [])) in
    let b = length-append (created_by u) (created ts) in
    omega (arith, r, a, b)

pub one_created : (t : Turn) → length (created_by t) ≤ 1
one_created (Refused call) = omega arith
one_created (Passed call) = omega arith
one_created (Flushed call) = omega arith
one_created (Asked call ask used may_pend) = omega arith
one_created (Item call item ends (Create buffer bytes) bound) = omega arith
one_created (Item call item ends (Discard buffer from bytes) bound) = omega arith
one_created (Item call item ends (No_overwrite buffer from bytes) bound) = omega arith
one_created (Item call item ends (Stage bytes target skip) bound) = omega arith
one_created (Item call item ends (Command w skip) bound) = omega arith
one_created (Item call item ends (Destroy buffer) bound) = omega arith
one_created (Item call item ends Create_shader bound) = omega arith
one_created (Item call item ends (Mark_query query begins) bound) = omega arith
one_created (Item call item ends Set_state bound) = omega arith

pub none_created : (t : Turn) → is_entry t ≡ false → length (created_by t) ≡ 0
none_created (Refused call) e = refl
none_created (Passed call) e = refl
none_created (Flushed call) e = refl
none_created (Asked call ask used may_pend) e = refl
none_created (Item call item ends play bound) e = absurd (cc e)

pub add_none : (m s : ℕ) → (m ≡ 0) × (s ≡ 0) → (0 + m ≡ 0) × (0 + s ≡ 0)
add_none m s h = let a = h.0 in let b = h.1 in (omega (arith, a), omega (arith, b))

-- without entries there are no marks and no staged bytes
pub none_marked : (script : Script) (ts : List Turn) → entry_count ts ≡ 0 → (mark_count script ts ≡ 0)
    × (staged_count ts ≡ 0)
none_marked script [] e = (refl, refl)
none_marked script (Refused call ∷ ts) e = add_none (mark_count script ts) (staged_count ts)
    (none_marked script ts (let z : 0 + entry_count ts ≡ 0 = e in omega (arith, z)))
none_marked script (Passed call ∷ ts) e = add_none (mark_count script ts) (staged_count ts)
    (none_marked script ts (let z : 0 + entry_count ts ≡ 0 = e in omega (arith, z)))
none_marked script (Flushed call ∷ ts) e = add_none (mark_count script ts) (staged_count ts)
    (none_marked script ts (let z : 0 + entry_count ts ≡ 0 = e in omega (arith, z)))
none_marked script (Asked call ask used may_pend ∷ ts) e = add_none (mark_count script ts) (staged_count ts)
    (none_marked script ts (let z : 0 + entry_count ts ≡ 0 = e in omega (arith, z)))
none_marked script (Item call item ends play bound ∷ ts) e =
    absurd (let z : 1 + entry_count ts ≡ 0 = e in omega (arith, z))

-- a chunk that is due has an entry
pub due_entry : (script : Script) (ts future : List Turn) → is_due script ts future ≡ true → 0 < entry_count ts
due_entry script ts future due = by (entry_count ts) refl
  where
    by : (n : ℕ) → entry_count ts ≡ n → 0 < entry_count ts
    by (suc n) e = omega (arith, e)
    by zero e =
        let none = none_marked script ts e in
        let a : nat_le 64 (entry_count ts) ≡ false = ap (nat_le 64) e in
        let b : nat_le 16 (mark_count script ts) ≡ false = ap (nat_le 16) none.0 in
        let c : nat_le 4194304 (staged_count ts) ≡ false = ap (nat_le 4194304) none.1 in
        let d : nat_le 1 (entry_count ts) ≡ false = ap (nat_le 1) e in
        let full : is_full script ts ≡ false =
        ap (λ x. x || (nat_le 16 (mark_count script ts) || nat_le 4194304 (staged_count ts))) a
        ∙ ap (λ x. x || nat_le 4194304 (staged_count ts)) b ∙ c in
        let z : false ≡ true =
        sym (ap (λ x. x || (nat_le 1 (entry_count ts) && (not (in_list ts) && stops_next future))) full
        ∙ ap (λ x. x && (not (in_list ts) && stops_next future)) d) ∙ due in
        absurd (cc z)

pub eight : (n : ℕ) → cond (nat_lt 0 n) 8 0 ≤ 8
eight n = by (nat_lt 0 n)
  where
    by : (c : Bool) → cond c 8 0 ≤ 8
    by true = omega arith
    by false = omega arith

pub eight_is : (n : ℕ) → 0 < n → 8 ≤ cond (nat_lt 0 n) 8 0
eight_is n l = by (nat_lt 0 n) (lt-ltb 0 n l)
  where
    by : (c : Bool) → c ≡ true → 8 ≤ cond c 8 0
    by true e = omega arith
    by false e = absurd (cc e)

pub same_eight : (m n : ℕ) → m ≡ n → cond (nat_lt 0 m) 8 0 ≤ cond (nat_lt 0 n) 8 0
same_eight m n e = subst (λ k. cond (nat_lt 0 m) 8 0 ≤ cond (nat_lt 0 k) 8 0) e (omega arith)

pub one_left : (b : Bool) → b ≡ false → 1 ≤ cond b 0 1
one_left true e = absurd (cc e)
one_left false e = omega arith
