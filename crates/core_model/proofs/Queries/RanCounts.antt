-- The commands of a listing are numbered one after another, and the device counted for each command that it ran what
-- the command runs in order.
use Rattle.std.proofs.Common.{◌≡◌, ℕ, zero, suc, ◌+◌, ◌<◌, ◌≤◌, false, cond, ◌==◌, List, [], ◌∷◌, ◌++◌, map, refl}
use Rattle.std.proofs.Common.{sym, ap, ◌∙◌, subst, inl, inr, arith, append_assoc}
use Rattle.std.specs.List.{AllByRecursion}
use Rattle.std.proofs.lemmas.Bool.{cases_Bool, eqb-true}
use Rattle.vk_types.specs.declared.command.Command as c
use Rattle.base_lemmas.specs.Lists.{Pairwise, IsReordering, numbers_from}
use Rattle.vk_types.specs.Memory.{Memory}
use Rattle.vk_types.specs.Effects.{Meaning, Act, Host_write, Device, Host_read, invocations}
use Rattle.vk_types.specs.Entries.{Entry}
use Rattle.base_lemmas.proofs.Lists.{all_front, all_back, all_map, all_both, all_across, all_reordered, pairs_with}
use Rattle.core_model.specs.Script.{Script}
use Rattle.core_model.specs.Chunking.{joined}
use Rattle.core_model.specs.CoreState.{Segment, flat, Core, of_running, rests, waiting, segments, later, on_device}
use Rattle.core_model.specs.Readings.{Reading}
use Rattle.core_model.specs.AppActs.{act_commands, device_commands}
use Rattle.core_model.specs.OtherParts.{counted}
use Rattle.core_model.specs.Worlds.{World, empty, world_step, run_world}
use Rattle.core_model.specs.Invariant.{turns_of, commands_of}
use Rattle.core_model.specs.Kept.{Kept}
use Rattle.core_model.specs.Queries.{count_in_order, commands_in, command_numbers, act_is_above, AreMarked}
use Rattle.core_model.specs.Queries.{QueriesRight}
use Rattle.core_model.proofs.Listing.Worlds.{flat-append, run_world-append}
use Rattle.core_model.proofs.Steps.Segments.{segments_parts, device_parts, run_out}
use Rattle.core_model.proofs.Runs.Tracing.{joined_last}
use Rattle.core_model.proofs.Steps.Turning.{segments_handed}
use Rattle.core_model.proofs.Runs.LastUses.{joined_append}
use Rattle.core_model.proofs.Queries.InOrderCounts.{numbers_more, commands_append}
use Rattle.core_model.proofs.Queries.QueryMarks.{marked_front, marked_back, marked_above}
use Rattle.core_model.proofs.Queries.QueryMoves.{counts_stay}

-- Numbers -----------------------------------------------------------------------------------------------------------

numbers_append : (xs ys : List Entry) → command_numbers (xs ++ ys) ≡ command_numbers xs ++ command_numbers ys
numbers_append [] ys = refl
numbers_append (x ∷ xs) ys = by x.act (numbers_append xs ys)
  where
    by : (a : Act) → command_numbers (xs ++ ys) ≡ command_numbers xs ++ command_numbers ys
        → map (λ d. d.number) (act_commands a ++ device_commands (xs ++ ys))
        ≡ map (λ d. d.number) (act_commands a ++ device_commands xs) ++ command_numbers ys
    by (Host_write target bytes) h = h
    by (Device e) h = ap (λ l. e.number ∷ l) h
    by (Host_read source) h = h

-- chunks behind so many commands have the next ones
marked_numbers : (n : ℕ) (ss : List Segment) → AreMarked n ss
    → command_numbers (commands_of ss) ≡ numbers_from (suc n) (commands_in (joined (turns_of ss)))
marked_numbers n [] h = refl
marked_numbers n (s ∷ ss) h =
    let e : suc (n + commands_in s.turns) ≡ suc n + commands_in s.turns = omega arith in
    numbers_append s.commands (commands_of ss)
    ∙ ap (λ l. l ++ command_numbers (commands_of ss)) h.0.numbered
    ∙ ap (λ l. numbers_from (suc n) (commands_in s.turns) ++ l) (marked_numbers (n + commands_in s.turns) ss h.1
    ∙ ap (λ k. numbers_from k (commands_in (joined (turns_of ss)))) e)
    ∙ sym (numbers_more (commands_in s.turns) (suc n) (commands_in (joined (turns_of ss))))
    ∙ ap (numbers_from (suc n)) (sym (commands_append s.turns (joined (turns_of ss))))

-- two commands have two numbers
abbrev Apart : Entry → Entry → Type 0
Apart x y = (d e : c.Command) → x.act ≡ Device d → y.act ≡ Device e → d.number ≡ e.number → ⊥

abbrev From : ℕ → ℕ → Entry → Type 0
From first last x = (d : c.Command) → x.act ≡ Device d → (first ≤ d.number) × (d.number < last)

all_apart : (first n : ℕ) (xs : List Entry) → command_numbers xs ≡ numbers_from first n → Pairwise Apart xs
    × AllByRecursion (From first (first + n)) xs
all_apart first n [] h = (tt, tt)
all_apart first n (x ∷ xs) h = by x.act refl n h (λ f k e. all_apart f k xs e)
  where
    by : (a : Act) → x.act ≡ a → (n : ℕ) → map (λ d. d.number) (act_commands a ++ device_commands xs)
        ≡ numbers_from first n
        → ((f k : ℕ) → command_numbers xs ≡ numbers_from f k → Pairwise Apart xs × AllByRecursion (From f (f + k)) xs)
        → Pairwise Apart (x ∷ xs) × AllByRecursion (From first (first + n)) (x ∷ xs)
    by (Host_write target bytes) is n h rec =
        let r = rec first n h in (
          (
            all_map (From first (first + n)) (Apart x) (λ y f d e i. absurd
                (let z : Host_write target bytes ≡ Device d = sym is ∙ i in cc z)) xs r.1,
            r.0,
          ),
          ((λ d i. absurd (let z : Host_write target bytes ≡ Device d = sym is ∙ i in cc z)), r.1),
        )
    by (Host_read source) is n h rec =
        let r = rec first n h in (
          (
            all_map (From first (first + n)) (Apart x) (λ y f d e i. absurd (let z : Host_read source ≡ Device d =
                sym is ∙ i in cc z)) xs r.1,
            r.0,
          ),
          ((λ d i. absurd (let z : Host_read source ≡ Device d = sym is ∙ i in cc z)), r.1),
        )
    by (Device g) is zero h rec = absurd (cc h)
    by (Device g) is (suc m) h rec =
        let here : g.number ≡ first = cc h in
        let rest : command_numbers xs ≡ numbers_from (suc first) m = cc h in
        let r = rec (suc first) m rest in (
          (
            all_map (From (suc first) (suc first + m)) (Apart x)
                (λ y f d e i j same.
                let k : Device g ≡ Device d = sym is ∙ i in
                let s : g ≡ d = cc k in
                let t = ap (λ d. d.number) s in
                let l = (f e j).0 in
                let z : ⊥ = omega (arith, here, same, t, l) in z) xs r.1,
            r.0,
          ),
          (
            (λ d i.
                let k : Device g ≡ Device d = sym is ∙ i in
                let s : g ≡ d = cc k in
                let t = ap (λ d. d.number) s in
                (omega (arith, here, t), omega (arith, here, t))),
            all_map (From (suc first) (suc first + m)) (From first (first + suc m)) (λ y f e j. let l = f e j in
                let a = l.0 in let b = l.1 in (omega (arith, a), omega (arith, b))) xs r.1,
          ),
        )

apart_swap : (x y : Entry) → Apart x y → Apart y x
apart_swap x y h d e i j same = h e d j i (sym same)

-- in any order
apart_reordered : (xs ys : List Entry) → IsReordering xs ys → Pairwise Apart xs → Pairwise Apart ys
apart_reordered [] ys r h = subst (Pairwise Apart) (sym r) tt
apart_reordered (x ∷ xs) ys r h =
    let rest = apart_reordered xs (r.0 ++ r.1) r.3 h.1 in
    let all = all_reordered (Apart x) xs (r.0 ++ r.1) r.3 h.0 in
    subst (Pairwise Apart) (sym r.2)
    (pairs_with Apart x r.0 r.1 rest (all_map (Apart x) (λ y. Apart y x) (λ y k. apart_swap x y k) r.0
    (all_front (Apart x) r.0 r.1 all)) (all_back (Apart x) r.0 r.1 all))

-- Counts ------------------------------------------------------------------------------------------------------------

-- what a command ran, commands with other numbers leave
other_stays : (meaning : Meaning) (n : ℕ) (a : Act) (memory : Memory) (counts : ℕ → ℕ)
    → ((e : c.Command) → a ≡ Device e → n ≡ e.number → ⊥) → counted meaning a memory counts n ≡ counts n
other_stays meaning n (Host_write target bytes) memory counts h = refl
other_stays meaning n (Device d) memory counts h =
    let other : (n == d.number) ≡ false = elim (cases_Bool (n == d.number))
    [ inl t ↦ absurd (h d refl (eqb-true n d.number t)) | inr f ↦ f ] in
    ap (λ c. counts n + cond c (invocations meaning d memory) 0) other
    ∙ (let z : counts n + 0 ≡ counts n = omega arith in z)
other_stays meaning n (Host_read source) memory counts h = refl

others_stay : (meaning : Meaning) (x : Entry) (d : c.Command) → x.act ≡ Device d → (xs : List Entry) (w : World)
    → AllByRecursion (Apart x) xs → (run_world meaning xs w).counts d.number ≡ w.counts d.number
others_stay meaning x d is [] w h = refl
others_stay meaning x d is (y ∷ ys) w h =
    others_stay meaning x d is ys (world_step meaning y w) h.1
    ∙ other_stays meaning d.number y.act w.memory w.counts (λ e i same. h.0 d e is i same)

module _ (meaning : Meaning) (reading : Reading) (script : Script) (core : Core)
    (k : Kept meaning reading script core) (q : QueriesRight meaning script core) where
  abbrev f : ℕ → ℕ
  f = count_in_order meaning script

  -- the commands of the listing are numbered 1, 2, 3, ..
  pub listing_numbers : command_numbers (commands_of (segments core)) ≡ numbers_from 1 core.commands
  listing_numbers =
      marked_numbers 0 (segments core) q.marked
      ∙ ap (λ l. numbers_from 1 (commands_in l)) (ap (λ l. joined (turns_of l)) (segments_handed core)
      ∙ joined_last (core.taken ++ later core) core.open_chunk ∙ sym k.traced.past)
      ∙ ap (numbers_from 1) (sym q.commands)

  abbrev upto : ℕ
  upto = commands_in (joined (turns_of (on_device core)))

  split : segments core ≡ on_device core ++ waiting core
  split =
      segments_parts core ∙ sym (append_assoc (run_out core) (of_running core.accepted) (waiting core))
      ∙ ap (λ l. l ++ waiting core) (sym (device_parts core))

  marked : AreMarked 0 (on_device core ++ waiting core)
  marked = subst (AreMarked 0) split q.marked

  device_numbers : command_numbers (commands_of (on_device core)) ≡ numbers_from 1 upto
  device_numbers = marked_numbers 0 (on_device core) (marked_front 0 (on_device core) (waiting core) marked)

  few : upto ≤ core.commands
  few =
      let past : core.past ≡ joined (turns_of (segments core)) = k.traced.past
      ∙ sym (ap (λ l. joined (turns_of l)) (segments_handed core)
      ∙ joined_last (core.taken ++ later core) core.open_chunk) in
      let all = ap commands_in (past ∙ ap (λ l. joined (turns_of l)) split
      ∙ joined_append (on_device core) (waiting core)) ∙ commands_append (joined (turns_of (on_device core)))
      (joined (turns_of (waiting core))) in
      let n = q.commands in
      omega (arith, all, n)

  -- what the device's commands run in the listing's order
  device_counts : (n : ℕ) → n ≤ upto → (run_world meaning (flat (on_device core)) empty).counts n ≡ f n
  device_counts n l =
      let z : 0 + upto ≡ upto = omega arith in
      let above : AllByRecursion (λ x. act_is_above upto x.act) (flat (waiting core)) =
      marked_above upto (waiting core) (subst (λ n. AreMarked n (waiting core)) z
      (marked_back 0 (on_device core) (waiting core) marked)) in
      sym (counts_stay meaning upto n (flat (waiting core)) (run_world meaning (flat (on_device core)) empty) above l)
      ∙ ap (λ w. w.counts n) (sym (run_world-append meaning (flat (on_device core)) (flat (waiting core)) empty))
      ∙ ap (λ l. (run_world meaning l empty).counts n) (sym (ap flat split
      ∙ flat-append (on_device core) (waiting core)))
      ∙ q.counts n (let c = few in omega (arith, l, c))

  -- each command that was run
  pub ran_counts : AllByRecursion (λ x. (d : c.Command) → x.act ≡ Device d
      → core.counts d.number ≡ count_in_order meaning script d.number) core.ran
  ran_counts =
      let apart = all_apart 1 upto (commands_of (on_device core)) device_numbers in
      let pairs : Pairwise Apart (core.ran ++ rests core.accepted) =
      apart_reordered (commands_of (on_device core)) (core.ran ++ rests core.accepted) k.good.sound.whole
      apart.0 in
      let froms = all_front (From 1 (1 + upto)) core.ran (rests core.accepted)
      (all_reordered (From 1 (1 + upto)) (commands_of (on_device core)) (core.ran ++ rests core.accepted)
      k.good.sound.whole apart.1) in
      all_map (λ x. AllByRecursion (Apart x) (rests core.accepted) × From 1 (1 + upto) x) (λ x. (d : c.Command)
      → x.act ≡ Device d → core.counts d.number ≡ count_in_order meaning script d.number)
      (λ x h d is.
      let l = (h.1 d is).1 in
      sym (others_stay meaning x d is (rests core.accepted) (record { memory = core.memory; counts = core.counts }) h.0)
      ∙ ap (λ w. w.counts d.number) k.good.sound.device ∙ device_counts d.number (omega (arith, l)))
      core.ran (all_both _ _ core.ran (all_across Apart core.ran (rests core.accepted) pairs) froms)
