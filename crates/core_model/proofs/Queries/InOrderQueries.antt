-- The counts of queries in order, as the marks of the turns give them.
use Rattle.std.proofs.Common.{◌≡◌, ℕ, suc, ◌+◌, ◌-◌, Bool, true, false, cond, not, ◌&&◌, ◌==◌, List, [], ◌∷◌, ◌++◌}
use Rattle.std.proofs.Common.{refl, sym, ap, ◌∙◌, ◌⊎◌, inl, inr, arith, append_assoc, append-nil}
use Rattle.std.proofs.lemmas.Bool.{both_ways, cases_Bool, eqb-true, eq-eqb}
use Rattle.vk_types.specs.declared.message.QueryMark.{QueryMark}
use Rattle.vk_types.specs.Effects.{Meaning}
use Rattle.core_model.specs.Script.{Create, Discard, No_overwrite, Stage, Command, Destroy, Create_shader, Mark_query}
use Rattle.core_model.specs.Script.{Set_state, Turn, Refused, Passed, Flushed, Asked, Item, Script, InOrder, at_start}
use Rattle.core_model.specs.Script.{turn_in_order, in_order}
use Rattle.core_model.specs.OtherParts.{last_begin, sum_from, value_at}
use Rattle.core_model.specs.Queries.{count_in_order, commands_by, commands_in, turn_marks, marks_from, is_end}
use Rattle.core_model.specs.Queries.{newest_of}
use Rattle.core_model.proofs.Queries.InOrderCounts.{sum_between, sums, commands_append}
use Rattle.core_model.proofs.Steps.Turning.{in_order-append}

eqb_swap : (a b : ℕ) → (a == b) ≡ (b == a)
eqb_swap a b =
    elim (cases_Bool (a == b)) [
      | inl t ↦ t ∙ sym (eq-eqb b a (sym (eqb-true a b t)))
      | inr n ↦ elim (cases_Bool (b == a)) [
        | inl t ↦ absurd (both_ways (a == b) n (eq-eqb a b (sym (eqb-true b a t))))
        | inr k ↦ n ∙ sym k
      ]
    ]

last_begin_append : (q : ℕ) (ms : List QueryMark) (m : QueryMark) (found : ℕ)
    → last_begin q (ms ++ m ∷ []) found ≡ cond ((m.query == q) && m.begins) m.before (last_begin q ms found)
last_begin_append q [] m found = refl
last_begin_append q (k ∷ ms) m found = last_begin_append q ms m (cond ((k.query == q) && k.begins) k.before found)

-- Turns and their marks ---------------------------------------------------------------------------------------------

-- A turn that makes no mark changes neither what was begun nor a count
abbrev pub Unmarked : Meaning → Script → ℕ → Turn → InOrder → Type 0
Unmarked meaning script n t s = (turn_marks n t ≡ []) × ((turn_in_order meaning script t s).begun ≡ s.begun)
    × ((turn_in_order meaning script t s).count ≡ s.count)

-- it begins a query
abbrev pub Begins : Meaning → Script → ℕ → Turn → InOrder → Type 0
Begins meaning script n t s =
    (m : QueryMark) × (turn_marks n t ≡ m ∷ []) × (m.begins ≡ true) × (m.before ≡ suc n)
    × ((q : ℕ) → (turn_in_order meaning script t s).begun q ≡ cond (q == m.query) s.total (s.begun q))
    × ((turn_in_order meaning script t s).count ≡ s.count)

-- or ends it
abbrev pub Ends : Meaning → Script → ℕ → Turn → InOrder → Type 0
Ends meaning script n t s =
    (m : QueryMark) × (turn_marks n t ≡ m ∷ []) × (m.begins ≡ false) × (m.before ≡ suc n)
    × ((turn_in_order meaning script t s).begun ≡ s.begun)
    × ((q : ℕ) → (turn_in_order meaning script t s).count q ≡ cond (q == m.query) (s.total - s.begun m.query)
    (s.count q))

pub mark_cases : (meaning : Meaning) (script : Script) (n : ℕ) (t : Turn) (s : InOrder)
    → Unmarked meaning script n t s ⊎ (Begins meaning script n t s ⊎ Ends meaning script n t s)
mark_cases meaning script n (Refused call) s = inl (refl, refl, refl)
mark_cases meaning script n (Passed call) s = inl (refl, refl, refl)
mark_cases meaning script n (Flushed call) s = inl (refl, refl, refl)
mark_cases meaning script n (Asked call ask used may_pend) s = inl (refl, refl, refl)
mark_cases meaning script n (Item call item last (Create buffer bytes) bound) s = inl (refl, refl, refl)
mark_cases meaning script n (Item call item last (Discard buffer from bytes) bound) s = inl (refl, refl, refl)
mark_cases meaning script n (Item call item last (No_overwrite buffer from bytes) bound) s = inl (refl, refl, refl)
mark_cases meaning script n (Item call item last (Stage bytes target skip) bound) s = inl (refl, refl, refl)
mark_cases meaning script n (Item call item last (Command w skip) bound) s = inl (refl, refl, refl)
mark_cases meaning script n (Item call item last (Destroy buffer) bound) s = inl (refl, refl, refl)
mark_cases meaning script n (Item call item last Create_shader bound) s = inl (refl, refl, refl)
mark_cases meaning script n (Item call item last (Mark_query query true) bound) s =
    inr (inl (_, refl, refl, refl, (λ q. refl), refl))
mark_cases meaning script n (Item call item last (Mark_query query false) bound) s =
    inr (inr (_, refl, refl, refl, refl, (λ q. refl)))
mark_cases meaning script n (Item call item last Set_state bound) s = inl (refl, refl, refl)

module _ (meaning : Meaning) (script : Script) where
  abbrev f : ℕ → ℕ
  f = count_in_order meaning script

  -- behind a front of the script, with its marks: the invocations so far, and those before each query's last Begin
  pub record Reached (n : ℕ) (earlier : List QueryMark) (s : InOrder) : Type 0 where
    pub total : s.total ≡ sum_from f 0 (suc n)
    pub begun : (q : ℕ) → s.begun q ≡ sum_from f 0 (last_begin q earlier 0)

  total_at : (front back : List Turn) → script.turns ≡ front ++ back
      → (in_order meaning script front at_start).total ≡ sum_from f 0 (suc (commands_in front))
  total_at front back e = let s = sums meaning script front back e in let z : f 0 ≡ 0 = refl in omega (arith, s, z)

  begins_more : (n : ℕ) (t : Turn) (earlier : List QueryMark) (s : InOrder) (b : Begins meaning script n t s)
      → Reached n earlier s
      → (q : ℕ) → (turn_in_order meaning script t s).begun q ≡ sum_from f 0 (last_begin q (earlier ++ b.0 ∷ []) 0)
  begins_more n t earlier s b r q =
      let m = b.0 in
      let old = last_begin q earlier 0 in
      let last : last_begin q (earlier ++ m ∷ []) 0 ≡ cond (q == m.query) (suc n) old =
      last_begin_append q earlier m 0 ∙ ap (λ c. cond ((m.query == q) && c) m.before old) b.2
      ∙ just (m.query == q) m.before old
      ∙ ap (λ c. cond c m.before old) (eqb_swap m.query q) ∙ ap (λ k. cond (q == m.query) k old) b.3 in
      b.4 q ∙ by (q == m.query) old ∙ ap (sum_from f 0) (sym last)
    where
      just : (c : Bool) (x y : ℕ) → cond (c && true) x y ≡ cond c x y
      just true x y = refl
      just false x y = refl

      by : (c : Bool) (old : ℕ) → cond c s.total (s.begun q) ≡ sum_from f 0 (cond c (suc n) (last_begin q earlier 0))
      by true old = r.total
      by false old = r.begun q

  ends_more : (n : ℕ) (t : Turn) (earlier : List QueryMark) (s : InOrder) (b : Ends meaning script n t s)
      → Reached n earlier s
      → (q : ℕ) → (turn_in_order meaning script t s).begun q ≡ sum_from f 0 (last_begin q (earlier ++ b.0 ∷ []) 0)
  ends_more n t earlier s b r q =
      let m = b.0 in
      let old = last_begin q earlier 0 in
      let last : last_begin q (earlier ++ m ∷ []) 0 ≡ old = last_begin_append q earlier m 0
      ∙ ap (λ c. cond ((m.query == q) && c) m.before old) b.2 ∙ never (m.query == q) m.before old in
      ap (λ g. g q) b.4 ∙ r.begun q ∙ ap (sum_from f 0) (sym last)
    where
      never : (c : Bool) (x y : ℕ) → cond (c && false) x y ≡ y
      never true x y = refl
      never false x y = refl

  -- an End leaves its value
  pub ended : (n : ℕ) (t : Turn) (earlier : List QueryMark) (s : InOrder) (b : Ends meaning script n t s)
      → Reached n earlier s → s.total - s.begun b.0.query ≡ (value_at f earlier b.0).value
  ended n t earlier s b r =
      let m = b.0 in
      let lb = last_begin m.query earlier 0 in
      let x = r.total in
      let y = r.begun m.query in
      let z = sum_between f lb (suc n) in
      let w = ap (λ k. sum_from f lb (k - lb)) b.3 in
      omega (arith, x, y, z, w)

  -- behind one turn more, with its marks
  pub reached_next : (front : List Turn) (t : Turn) (back : List Turn) (earlier : List QueryMark)
      → script.turns ≡ front ++ t ∷ back
      → Reached (commands_in front) earlier (in_order meaning script front at_start)
      → Reached (commands_in (front ++ t ∷ [])) (earlier ++ turn_marks (commands_in front) t)
      (in_order meaning script (front ++ t ∷ []) at_start)
  reached_next front t back earlier e r =
      let n = commands_in front in
      let s = in_order meaning script front at_start in
      let same : in_order meaning script (front ++ t ∷ []) at_start ≡ turn_in_order meaning script t s =
      in_order-append meaning script front (t ∷ []) at_start in
      record {
        total = total_at (front ++ t ∷ []) back (e ∙ sym (append_assoc front (t ∷ []) back));
        begun = λ q.
            ap (λ s. s.begun q) same
            ∙ elim (mark_cases meaning script n t s) [
              | inl u ↦ ap (λ g. g q) u.1 ∙ r.begun q ∙ ap (λ l. sum_from f 0 (last_begin q l 0))
                  (sym (append-nil earlier)) ∙ ap (λ l. sum_from f 0 (last_begin q (earlier ++ l) 0)) (sym u.0)
              | inr o ↦ elim o [
                | inl b ↦ begins_more n t earlier s b r q ∙ ap (λ l. sum_from f 0 (last_begin q (earlier ++ l) 0))
                    (sym b.1)
                | inr b ↦ ends_more n t earlier s b r q ∙ ap (λ l. sum_from f 0 (last_begin q (earlier ++ l) 0))
                    (sym b.1)
              ]
            ];
      }

  pub reached_start : Reached 0 [] at_start
  reached_start = record { total = (let z : f 0 ≡ 0 = refl in omega (arith, z)); begun = λ q. refl }

  counts_from : (ts front back : List Turn) (earlier : List QueryMark) → script.turns ≡ front ++ (ts ++ back)
      → Reached (commands_in front) earlier (in_order meaning script front at_start) → (q : ℕ)
      → (in_order meaning script ts (in_order meaning script front at_start)).count q
      ≡ newest_of is_end f earlier (marks_from (commands_in front) ts) q
      ((in_order meaning script front at_start).count q)
  counts_from [] front back earlier e r q = refl
  counts_from (t ∷ ts) front back earlier e r q = elim (mark_cases meaning script n t s) [
    | inl u ↦
        let next : Reached (commands_in front') earlier (in_order meaning script front' at_start) =
        record {
          total = total_at front' (ts ++ back) e';
          begun = λ q. ap (λ s. s.begun q) same ∙ ap (λ g. g q) u.1
              ∙ r.begun q;
        } in
        ap (λ s. (in_order meaning script ts s).count q) (sym same) ∙ counts_from ts front' back earlier e' next q
        ∙ ap (λ s. newest_of is_end f earlier (marks_from (commands_in front') ts) q (s.count q)) same
        ∙ ap (λ g. newest_of is_end f earlier (marks_from (commands_in front') ts) q (g q)) u.2
        ∙ ap (λ k. newest_of is_end f earlier (marks_from k ts) q (s.count q)) numbers
        ∙ ap (λ l. newest_of is_end f earlier (l ++ marks_from (n + commands_by t) ts) q (s.count q)) (sym u.0)
    | inr o ↦ elim o [
      | inl b ↦
          let next : Reached (commands_in front') (earlier ++ b.0 ∷ []) (in_order meaning script front' at_start) =
          record {
            total = total_at front' (ts ++ back) e';
            begun = λ q. ap (λ s. s.begun q) same
                ∙ begins_more n t earlier s b r q;
          } in
          ap (λ s. (in_order meaning script ts s).count q) (sym same)
          ∙ counts_from ts front' back (earlier ++ b.0 ∷ []) e' next q
          ∙ ap (λ s. newest_of is_end f (earlier ++ b.0 ∷ []) (marks_from (commands_in front') ts) q (s.count q)) same
          ∙ ap (λ g. newest_of is_end f (earlier ++ b.0 ∷ []) (marks_from (commands_in front') ts) q (g q)) b.5
          ∙ ap (λ k. newest_of is_end f (earlier ++ b.0 ∷ []) (marks_from k ts) q (s.count q)) numbers
          ∙ ap (λ c. newest_of is_end f (earlier ++ b.0 ∷ []) (marks_from (n + commands_by t) ts) q
          (cond (not c && (q == b.0.query)) (value_at f earlier b.0).value (s.count q))) (sym b.2)
          ∙ ap (λ l. newest_of is_end f earlier (l ++ marks_from (n + commands_by t) ts) q (s.count q)) (sym b.1)
      | inr b ↦
          let next : Reached (commands_in front') (earlier ++ b.0 ∷ []) (in_order meaning script front' at_start) =
          record {
            total = total_at front' (ts ++ back) e';
            begun = λ q. ap (λ s. s.begun q) same
                ∙ ends_more n t earlier s b r q;
          } in
          ap (λ s. (in_order meaning script ts s).count q) (sym same)
          ∙ counts_from ts front' back (earlier ++ b.0 ∷ []) e' next q
          ∙ ap (λ s. newest_of is_end f (earlier ++ b.0 ∷ []) (marks_from (commands_in front') ts) q (s.count q)) same
          ∙ ap (newest_of is_end f (earlier ++ b.0 ∷ []) (marks_from (commands_in front') ts) q) (b.5 q)
          ∙ ap (λ v. newest_of is_end f (earlier ++ b.0 ∷ []) (marks_from (commands_in front') ts) q
          (cond (q == b.0.query) v (s.count q))) (ended n t earlier s b r)
          ∙ ap (λ k. newest_of is_end f (earlier ++ b.0 ∷ []) (marks_from k ts) q
          (cond (q == b.0.query) (value_at f earlier b.0).value (s.count q))) numbers
          ∙ ap (λ c. newest_of is_end f (earlier ++ b.0 ∷ []) (marks_from (n + commands_by t) ts) q
          (cond (not c && (q == b.0.query)) (value_at f earlier b.0).value (s.count q))) (sym b.2)
          ∙ ap (λ l. newest_of is_end f earlier (l ++ marks_from (n + commands_by t) ts) q (s.count q)) (sym b.1)
    ]
  ]
    where
      n : ℕ
      n = commands_in front

      s : InOrder
      s = in_order meaning script front at_start

      front' : List Turn
      front' = front ++ t ∷ []

      e' : script.turns ≡ front' ++ (ts ++ back)
      e' = e ∙ sym (append_assoc front (t ∷ []) (ts ++ back))

      same : in_order meaning script front' at_start ≡ turn_in_order meaning script t s
      same = in_order-append meaning script front (t ∷ []) at_start

      numbers : commands_in front' ≡ n + commands_by t
      numbers = let c = commands_append front (t ∷ []) in omega (arith, c)

  -- the count of a query behind a front of the script is what the last of its Ends left there
  pub counts_right : (front back : List Turn) → script.turns ≡ front ++ back → (q : ℕ)
      → (in_order meaning script front at_start).count q ≡ newest_of is_end f [] (marks_from 0 front) q 0
  counts_right front back e q =
      counts_from front [] back [] e reached_start q
