-- Entries that are not ordered may be exchanged: in what they leave in memory, and in the invocations that they run.
use Rattle.std.proofs.Common.{◌≡◌, ℕ, ◌+◌, true, false, cond, ◌==◌, List, [], ◌∷◌, ◌++◌, refl, sym, ap, ◌∙◌, inl, inr}
use Rattle.std.proofs.Common.{append_assoc, arith}
use mathlib.Core.Path.{fun_ext}
use Rattle.std.proofs.lemmas.Bool.{cases_Bool, both_ways}
use Rattle.vk_types.specs.declared.command.Command as c
use Rattle.vk_types.specs.Memory.{Memory}
use Rattle.vk_types.specs.Hazards.{lists_conflict, touches}
use Rattle.vk_types.specs.Effects.{Meaning, Act, Host_write, Device, Host_read, act_touches, act_effect, invocations}
use Rattle.vk_types.specs.Entries.{Entry, entry_before, entries_conflict, run_entries}
use Rattle.vk_types.proofs.Local.{not_written, not_written_back}
use Rattle.vk_types.proofs.Acts.{act_local, acts_exchange, invocations_local}
use Rattle.vk_types.proofs.Reorder.{run_steps, Commute}
use Rattle.core_model.specs.CoreState.{Segment, entries, flat, Running, Message, of_messages, of_running, rests}
use Rattle.core_model.specs.OtherParts.{counted}
use Rattle.core_model.specs.Worlds.{World, world_step, run_world}

pub run_world_is : (meaning : Meaning) (xs : List Entry) (w : World)
    → run_world meaning xs w ≡ run_steps (world_step meaning) xs w
run_world_is meaning [] w = refl
run_world_is meaning (x ∷ xs) w = run_world_is meaning xs (world_step meaning x w)

pub run_world-append : (meaning : Meaning) (xs ys : List Entry) (w : World)
    → run_world meaning (xs ++ ys) w ≡ run_world meaning ys (run_world meaning xs w)
run_world-append meaning [] ys w = refl
run_world-append meaning (x ∷ xs) ys w = run_world-append meaning xs ys (world_step meaning x w)

-- the memory of a world is what the entries leave
pub world_memory : (meaning : Meaning) (xs : List Entry) (w : World)
    → (run_world meaning xs w).memory ≡ run_entries meaning xs w.memory
world_memory meaning [] w = refl
world_memory meaning (x ∷ xs) w = world_memory meaning xs (world_step meaning x w)

-- how many invocations a command runs, an act that does not conflict leaves
count_kept : (meaning : Meaning) (d : c.Command) (a : Act) → lists_conflict (touches d) (act_touches a) ≡ false
    → (m : Memory)
    → invocations meaning d (act_effect meaning a m) ≡ invocations meaning d m
count_kept meaning d a free m = invocations_local meaning d (act_effect meaning a m) m
    (λ b i t. (act_local meaning a).keeps m b i (not_written (touches d) (act_touches a) free b i t))

count_kept_back : (meaning : Meaning) (a : Act) (d : c.Command) → lists_conflict (act_touches a) (touches d) ≡ false
    → (m : Memory)
    → invocations meaning d (act_effect meaning a m) ≡ invocations meaning d m
count_kept_back meaning a d free m = invocations_local meaning d (act_effect meaning a m) m
    (λ b i t. (act_local meaning a).keeps m b i (not_written_back (act_touches a) (touches d) free b i t))

either_sum : (k a b : ℕ) → k + b + a ≡ k + a + b
either_sum k a b = omega arith

counts_exchange : (meaning : Meaning) (a b : Act) → lists_conflict (act_touches a) (act_touches b) ≡ false
    → (m : Memory) (counts : ℕ → ℕ)
    → counted meaning a (act_effect meaning b m) (counted meaning b m counts)
    ≡ counted meaning b (act_effect meaning a m) (counted meaning a m counts)
counts_exchange meaning (Host_write r bs) (Host_write s cs) free m counts = refl
counts_exchange meaning (Host_write r bs) (Host_read s) free m counts = refl
counts_exchange meaning (Host_read r) (Host_write s cs) free m counts = refl
counts_exchange meaning (Host_read r) (Host_read s) free m counts = refl
counts_exchange meaning (Host_read r) (Device e) free m counts = refl
counts_exchange meaning (Device d) (Host_read s) free m counts = refl
counts_exchange meaning (Host_write r bs) (Device e) free m counts =
    fun_ext (λ n. ap (λ v. counts n + cond (n == e.number) v 0)
    (sym (count_kept_back meaning (Host_write r bs) e free m)))
counts_exchange meaning (Device d) (Host_write s cs) free m counts =
    fun_ext (λ n. ap (λ v. counts n + cond (n == d.number) v 0) (count_kept meaning d (Host_write s cs) free m))
counts_exchange meaning (Device d) (Device e) free m counts = fun_ext (λ n.
    ap (λ v. counts n + cond (n == e.number) (invocations meaning e m) 0 + cond (n == d.number) v 0)
    (count_kept meaning d (Device e) free m)
    ∙ either_sum (counts n) (cond (n == d.number) (invocations meaning d m) 0)
    (cond (n == e.number) (invocations meaning e m) 0)
    ∙ ap (λ v. counts n + cond (n == d.number) (invocations meaning d m) 0 + cond (n == e.number) v 0)
    (sym (count_kept_back meaning (Device d) e free m)))

pub world_path : (m n : Memory) (x y : ℕ → ℕ) → m ≡ n → x ≡ y
    → let v : World = record { memory = m; counts = x } in let w : World = record { memory = n; counts = y } in v ≡ w
world_path m n x y e f = λ i. record { memory = e i; counts = f i }

-- two that do not conflict may be exchanged
pub may_exchange : (meaning : Meaning) (x y : Entry) → entries_conflict x y ≡ false → Commute (world_step meaning) x y
may_exchange meaning x y free w = world_path _ _ _ _ (acts_exchange meaning x.act y.act free w.memory)
    (counts_exchange meaning x.act y.act free w.memory w.counts)

-- of a covered pair that is not ordered
pub not_ordered : (meaning : Meaning) (x y : Entry) → (entries_conflict x y ≡ true → entry_before x y ≡ true)
    → entry_before x y ≡ false → Commute (world_step meaning) x y
not_ordered meaning x y ordered n =
    elim (cases_Bool (entries_conflict x y)) [
      | inl h ↦ absurd (both_ways (entry_before x y) n (ordered h))
      | inr free ↦ may_exchange meaning x y free
    ]

-- Lists of chunks -------------------------------------------------------------------------------------------------

pub flat-append : (xs ys : List Segment) → flat (xs ++ ys) ≡ flat xs ++ flat ys
flat-append [] ys = refl
flat-append (x ∷ xs) ys = ap (λ l. entries x ++ l) (flat-append xs ys)
    ∙ sym (append_assoc (entries x) (flat xs) (flat ys))

pub of_messages-append : (xs ys : List Message) → of_messages (xs ++ ys) ≡ of_messages xs ++ of_messages ys
of_messages-append [] ys = refl
of_messages-append (x ∷ xs) ys = ap (λ l. x.segment ∷ l) (of_messages-append xs ys)

pub of_running-append : (xs ys : List Running) → of_running (xs ++ ys) ≡ of_running xs ++ of_running ys
of_running-append [] ys = refl
of_running-append (x ∷ xs) ys = ap (λ l. x.segment ∷ l) (of_running-append xs ys)

pub rests-append : (xs ys : List Running) → rests (xs ++ ys) ≡ rests xs ++ rests ys
rests-append [] ys = refl
rests-append (x ∷ xs) ys = ap (λ l. x.rest ++ l) (rests-append xs ys) ∙ sym (append_assoc x.rest (rests xs) (rests ys))
