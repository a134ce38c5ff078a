-- The value that the last End of a query leaves: of marks one after another, of a part of them, and by messages.
use Rattle.std.proofs.Common.{◌≡◌, ℕ, zero, suc, ◌-◌, ◌<◌, ◌≤◌, Bool, true, false, cond, not, ◌&&◌, ◌==◌, nat_lt}
use Rattle.std.proofs.Common.{nat_le, List, [], ◌∷◌, ◌++◌, refl, sym, ap, ◌∙◌, ◌⊎◌, inl, inr, arith, append_assoc}
use Rattle.std.proofs.Common.{append-nil}
use Rattle.std.specs.List.{AllByRecursion}
use Rattle.std.proofs.lemmas.Bool.{both_ways, cases_Bool, leb-true, le-leb, lt-ltb, ltb-true}
use Rattle.vk_types.specs.declared.message.QueryMark.{QueryMark}
use Rattle.vk_types.specs.declared.message.QueryValue.{QueryValue}
use Rattle.base_lemmas.specs.Lists.{Pairwise}
use Rattle.core_model.specs.TakingPosts.{newest_values}
use Rattle.core_model.specs.OtherParts.{last_begin, sum_from, value_at, values_between}
use Rattle.core_model.specs.Queries.{newest_of, ends_by}
use Rattle.core_model.proofs.Queries.InOrderCounts.{sum_same}

pub newest_append : (p : QueryMark → Bool) (f : ℕ → ℕ) (earlier xs ys : List QueryMark) (q found : ℕ)
    → newest_of p f earlier (xs ++ ys) q found ≡ newest_of p f (earlier ++ xs) ys q (newest_of p f earlier xs q found)
newest_append p f earlier [] ys q found = ap (λ l. newest_of p f l ys q found) (sym (append-nil earlier))
newest_append p f earlier (x ∷ xs) ys q found =
    newest_append p f (earlier ++ x ∷ []) xs ys q (cond (p x && (q == x.query)) (value_at f earlier x).value found)
    ∙ ap (λ l. newest_of p f l ys q (newest_of p f earlier (x ∷ xs) q found)) (append_assoc earlier (x ∷ []) xs)

-- where none is picked the value stays
pub newest_none : (p : QueryMark → Bool) (f : ℕ → ℕ) (earlier ms : List QueryMark) (q found : ℕ)
    → AllByRecursion (λ m. (p m && (q == m.query)) ≡ false) ms
    → newest_of p f earlier ms q found ≡ found
newest_none p f earlier [] q found h = refl
newest_none p f earlier (m ∷ ms) q found h =
    ap (λ c. newest_of p f (earlier ++ m ∷ []) ms q (cond c (value_at f earlier m).value found)) h.0
    ∙ newest_none p f (earlier ++ m ∷ []) ms q found h.1

-- where the same are picked it is the same
pub newest_same : (p r : QueryMark → Bool) (f : ℕ → ℕ) (earlier ms : List QueryMark) (q found : ℕ)
    → AllByRecursion (λ m. (p m && (q == m.query)) ≡ (r m && (q == m.query))) ms
    → newest_of p f earlier ms q found ≡ newest_of r f earlier ms q found
newest_same p r f earlier [] q found h = refl
newest_same p r f earlier (m ∷ ms) q found h =
    newest_same p r f (earlier ++ m ∷ []) ms q (cond (p m && (q == m.query)) (value_at f earlier m).value found) h.1
    ∙ ap (λ c. newest_of r f (earlier ++ m ∷ []) ms q (cond c (value_at f earlier m).value found)) h.0

-- Messages ----------------------------------------------------------------------------------------------------------

-- an End, by a call above one and up to another
abbrev pub ends_between : ℕ → ℕ → QueryMark → Bool
ends_between low high m = not m.begins && (nat_lt low m.call && nat_le m.call high)

-- the values of a message are taken one after another
pub newest_message : (f : ℕ → ℕ) (low high : ℕ) (earlier ms : List QueryMark) (values : ℕ → ℕ) (q : ℕ)
    → newest_values (values_between f low high earlier ms) values q
    ≡ newest_of (ends_between low high) f earlier ms q (values q)
newest_message f low high earlier [] values q = refl
newest_message f low high earlier (m ∷ ms) values q = by (λ v. newest_message f low high (earlier ++ m ∷ []) ms v q)
    (ends_between low high m)
  where
    by : ((v : ℕ → ℕ) → newest_values (values_between f low high (earlier ++ m ∷ []) ms) v q
        ≡ newest_of (ends_between low high) f (earlier ++ m ∷ []) ms q (v q)) → (c : Bool)
        → newest_values (cond c (value_at f earlier m ∷ values_between f low high (earlier ++ m ∷ []) ms)
        (values_between f low high (earlier ++ m ∷ []) ms)) values q
        ≡ newest_of (ends_between low high) f (earlier ++ m ∷ []) ms q
        (cond (c && (q == m.query)) (value_at f earlier m).value (values q))
    by rec true = rec (λ k. cond (k == m.query) (value_at f earlier m).value (values k))
    by rec false = rec values

-- a mark that no earlier message had, a mark that one had
not_up_to : (low : ℕ) (m : QueryMark) (q : ℕ) → low < m.call → (ends_by low m && (q == m.query)) ≡ false
not_up_to low m q l = ap (λ c. (not m.begins && c) && (q == m.query)) (above m.call low l)
    ∙ none m.begins (q == m.query)
  where
    above : (a b : ℕ) → b < a → nat_le a b ≡ false
    above a b l = elim (cases_Bool (nat_le a b)) [
      | inl t ↦ let z = leb-true a b t in
          absurd (let x : ⊥ = omega (arith, l, z) in x)
      | inr n ↦ n
    ]

    none : (a b : Bool) → ((not a && false) && b) ≡ false
    none true b = refl
    none false b = refl

between_above : (low high : ℕ) (m : QueryMark) (q : ℕ) → low < m.call
    → (ends_between low high m && (q == m.query)) ≡ (ends_by high m && (q == m.query))
between_above low high m q l = ap (λ c. (not m.begins && (c && nat_le m.call high)) && (q == m.query))
    (lt-ltb low m.call l)

not_between : (low high : ℕ) (m : QueryMark) (q : ℕ) → m.call ≤ low
    → (ends_between low high m && (q == m.query)) ≡ false
not_between low high m q l = ap (λ c. (not m.begins && (c && nat_le m.call high)) && (q == m.query))
    (below low m.call l) ∙ none m.begins (q == m.query)
  where
    below : (a b : ℕ) → b ≤ a → nat_lt a b ≡ false
    below a b l = elim (cases_Bool (nat_lt a b)) [
      | inl t ↦ let z = ltb-true a b t in
          absurd (let x : ⊥ = omega (arith, l, z) in x)
      | inr n ↦ n
    ]

    none : (a b : Bool) → ((not a && false) && b) ≡ false
    none true b = refl
    none false b = refl

both_up_to : (low high : ℕ) (m : QueryMark) (q : ℕ) → m.call ≤ low → low ≤ high
    → (ends_by low m && (q == m.query)) ≡ (ends_by high m && (q == m.query))
both_up_to low high m q l h =
    let a = le-leb m.call low l in
    let b = le-leb m.call high (omega (arith, l, h)) in
    ap (λ c. (not m.begins && c) && (q == m.query)) (a ∙ sym b)

-- a message's values behind those of the messages before it are those of all marks up to its last call
pub newest_joined : (f : ℕ → ℕ) (low high : ℕ) → low ≤ high → (earlier ms : List QueryMark) (q found : ℕ)
    → Pairwise (λ m k. m.call ≤ k.call) ms
    → newest_of (ends_between low high) f earlier ms q (newest_of (ends_by low) f earlier ms q found)
    ≡ newest_of (ends_by high) f earlier ms q found
newest_joined f low high l earlier [] q found h = refl
newest_joined f low high l earlier (m ∷ ms) q found h =
    by (λ v. newest_joined f low high l (earlier ++ m ∷ []) ms q v h.1) (order m.call low)
  where
    order : (a b : ℕ) → (a ≤ b) ⊎ (b < a)
    order a b = elim (cases_Bool (nat_le a b)) [
      | inl t ↦ inl (leb-true a b t)
      | inr n ↦ inr
          (elim (cases_Bool (nat_lt b a)) [
            | inl t ↦ ltb-true b a t
            | inr k ↦ absurd
                (both_ways (nat_le a b) n (below a b k))
          ])
    ]
      where
        below : (a b : ℕ) → nat_lt b a ≡ false → nat_le a b ≡ true
        below zero b k = le-leb 0 b (omega arith)
        below (suc a) zero k = absurd (both_ways (nat_lt 0 (suc a)) k (lt-ltb 0 (suc a) (omega arith)))
        below (suc a) (suc b) k =
            elim (cases_Bool (nat_lt b a)) [
              | inl t ↦ let u = ltb-true b a t in
                  absurd (both_ways (nat_lt (suc b) (suc a)) k (lt-ltb (suc b) (suc a) (omega (arith, u))))
              | inr n ↦ let u = leb-true a b (below a b n) in le-leb (suc a) (suc b) (omega (arith, u))
            ]

    by : ((v : ℕ) → newest_of (ends_between low high) f (earlier ++ m ∷ []) ms q
        (newest_of (ends_by low) f (earlier ++ m ∷ []) ms q v)
        ≡ newest_of (ends_by high) f (earlier ++ m ∷ []) ms q v)
        → (m.call ≤ low) ⊎ (low < m.call)
        → newest_of (ends_between low high) f earlier (m ∷ ms) q
        (newest_of (ends_by low) f earlier (m ∷ ms) q found) ≡ newest_of (ends_by high) f earlier (m ∷ ms) q found
    by rec (inl a) =
        let v = (value_at f earlier m).value in
        let rest = earlier ++ m ∷ [] in
        let low_found = cond (ends_by low m && (q == m.query)) v found in
        ap (λ c. newest_of (ends_between low high) f rest ms q
        (cond c v (newest_of (ends_by low) f rest ms q low_found))) (not_between low high m q a)
        ∙ rec low_found
        ∙ ap (λ c. newest_of (ends_by high) f rest ms q (cond c v found)) (both_up_to low high m q a l)
    by rec (inr a) =
        let all : AllByRecursion (λ k. low < k.call) (m ∷ ms) = (a, later ms h.0) in
        ap (newest_of (ends_between low high) f earlier (m ∷ ms) q)
        (newest_none (ends_by low) f earlier (m ∷ ms) q found (none (m ∷ ms) all))
        ∙ newest_same (ends_between low high) (ends_by high) f earlier (m ∷ ms) q found (alike (m ∷ ms) all)
      where
        later : (ks : List QueryMark) → AllByRecursion (λ k. m.call ≤ k.call) ks → AllByRecursion (λ k. low < k.call) ks
        later [] g = tt
        later (k ∷ ks) g = (let c = g.0 in omega (arith, a, c), later ks g.1)

        none : (ks : List QueryMark) → AllByRecursion (λ k. low < k.call) ks
            → AllByRecursion (λ k. (ends_by low k && (q == k.query)) ≡ false) ks
        none [] g = tt
        none (k ∷ ks) g = (not_up_to low k q g.0, none ks g.1)

        alike : (ks : List QueryMark) → AllByRecursion (λ k. low < k.call) ks
            → AllByRecursion (λ k. (ends_between low high k && (q == k.query)) ≡ (ends_by high k && (q == k.query)))
            ks
        alike [] g = tt
        alike (k ∷ ks) g = (between_above low high k q g.0, alike ks g.1)

-- marks of later calls change nothing
pub newest_later : (f : ℕ → ℕ) (low : ℕ) (earlier ms : List QueryMark) (q found : ℕ)
    → AllByRecursion (λ m. low < m.call) ms → newest_of (ends_by low) f earlier ms q found ≡ found
newest_later f low earlier ms q found h = newest_none (ends_by low) f earlier ms q found (none ms h)
  where
    none : (ks : List QueryMark) → AllByRecursion (λ k. low < k.call) ks
        → AllByRecursion (λ k. (ends_by low k && (q == k.query)) ≡ false) ks
    none [] g = tt
    none (k ∷ ks) g = (not_up_to low k q g.0, none ks g.1)

-- Counts that agree -------------------------------------------------------------------------------------------------

-- by counts that agree up to a command the values of marks are the same that name no later command than the next
pub values_same : (f g : ℕ → ℕ) (n low high : ℕ) → ((k : ℕ) → k ≤ n → f k ≡ g k) → (earlier ms : List QueryMark)
    → AllByRecursion (λ m. m.before ≤ suc n) ms
    → values_between f low high earlier ms ≡ values_between g low high earlier ms
values_same f g n low high h earlier [] b = refl
values_same f g n low high h earlier (m ∷ ms) b =
    let begin = last_begin m.query earlier 0 in
    let same : sum_from f begin (m.before - begin) ≡ sum_from g begin (m.before - begin) =
    sum_same f g (m.before - begin) begin (λ k l u. let c = b.0 in h k (omega (arith, l, u, c))) in
    ap (λ l. cond (ends_between low high m) (value_at f earlier m ∷ l) l)
    (values_same f g n low high h (earlier ++ m ∷ []) ms b.1)
    ∙ ap (λ v. let x : QueryValue = record { call = m.call; query = m.query; value = v } in
    cond (ends_between low high m) (x ∷ values_between g low high (earlier ++ m ∷ []) ms)
    (values_between g low high (earlier ++ m ∷ []) ms)) same
