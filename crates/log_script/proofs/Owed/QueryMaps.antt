-- What calls that may stand in a list do to the queries: a Begin and an End turn one query, and no call turns a sort.
use Rattle.std.proofs.Common.{◌≡◌, ℕ, Bool, true, false, Option, Some, None, refl, sym, subst, inl, inr}
use Rattle.std.proofs.lemmas.Bool.{cases_eq}
use Rattle.call_log.specs.Call as calls
use Rattle.call_log.specs.Call.{Call}
use Rattle.base_lemmas.specs.IdMap.{IdMap, get}
use Rattle.d3d_model.specs.D3dState.{Query}
use Rattle.d3d_model.specs.Verdict.{query_is_one}
use Rattle.d3d_model.specs.Effect.{begun_query, ended_query, queries_after}
use Rattle.base_lemmas.proofs.Maps.{get_same, get_other}
use Rattle.log_script.specs.Plays.{counts_invocations}

-- the query is begun
abbrev pub flag : Option Query → Bool
flag o = query_is_one o (λ q. q.begun)

-- what a Begin makes of it, and an End by call n
abbrev pub started : Option Query → Option Query
started None = None
started (Some q) = Some (record q { begun = true })

abbrev pub stopped : ℕ → Option Query → Option Query
stopped n None = None
stopped n (Some q) = Some (record q { begun = false; ended = Some n })

pub begin_same : (o : Option Query) (qs : IdMap Query) (p : ℕ) → o ≡ get qs p → get (begun_query o qs p) p ≡ started o
begin_same None qs p e = sym e
begin_same (Some q) qs p e = get_same qs p (record q { begun = true })

pub begin_other : (o : Option Query) (qs : IdMap Query) (p q : ℕ) → (q ≡ p → ⊥) → get (begun_query o qs p) q ≡ get qs q
begin_other None qs p q apart = refl
begin_other (Some x) qs p q apart = get_other qs p (record x { begun = true }) q apart

pub end_same : (n : ℕ) (o : Option Query) (qs : IdMap Query) (p : ℕ) → o ≡ get qs p
    → get (ended_query n o qs p) p ≡ stopped n o
end_same n None qs p e = sym e
end_same n (Some q) qs p e = get_same qs p (record q { begun = false; ended = Some n })

pub end_other : (n : ℕ) (o : Option Query) (qs : IdMap Query) (p q : ℕ) → (q ≡ p → ⊥)
    → get (ended_query n o qs p) q ≡ get qs q
end_other n None qs p q apart = refl
end_other n (Some x) qs p q apart = get_other qs p (record x { begun = false; ended = Some n }) q apart

-- what holds of each query holds after a Begin, and after an End
pub after_begin : (P : ℕ → Option Query → Type 0) (qs : IdMap Query) (p : ℕ) → P p (started (get qs p))
    → ((q : ℕ) → (q ≡ p → ⊥) → P q (get qs q)) → (q : ℕ) → P q (get (begun_query (get qs p) qs p) q)
after_begin P qs p here others q = elim (cases_eq q p) [
  | inl e ↦ subst (λ k. P k (get (begun_query (get qs p) qs p) k)) (sym e)
      (subst (P p) (sym (begin_same (get qs p) qs p refl)) here)
  | inr apart ↦ subst (P q) (sym (begin_other (get qs p) qs p q apart)) (others q apart)
]

pub after_end : (P : ℕ → Option Query → Type 0) (n : ℕ) (qs : IdMap Query) (p : ℕ) → P p (stopped n (get qs p))
    → ((q : ℕ) → (q ≡ p → ⊥) → P q (get qs q)) → (q : ℕ) → P q (get (ended_query n (get qs p) qs p) q)
after_end P n qs p here others q = elim (cases_eq q p) [
  | inl e ↦ subst (λ k. P k (get (ended_query n (get qs p) qs p) k)) (sym e)
      (subst (P p) (sym (end_same n (get qs p) qs p refl)) here)
  | inr apart ↦ subst (P q) (sym (end_other n (get qs p) qs p q apart)) (others q apart)
]

-- ---- sorts

pub started_counts : (o : Option Query) → counts_invocations (started o) ≡ counts_invocations o
started_counts None = refl
started_counts (Some q) = refl

pub stopped_counts : (n : ℕ) (o : Option Query) → counts_invocations (stopped n o) ≡ counts_invocations o
stopped_counts n None = refl
stopped_counts n (Some q) = refl

pub counts_after : (n : ℕ) (qs : IdMap Query) (c : Call) (q : ℕ)
    → counts_invocations (get (queries_after n qs c) q) ≡ counts_invocations (get qs q)
counts_after n qs (calls.Begin p) q = after_begin (λ k o. counts_invocations o ≡ counts_invocations (get qs k)) qs p
    (started_counts (get qs p)) (λ k apart. refl) q
counts_after n qs (calls.EndQuery p) q = after_end (λ k o. counts_invocations o ≡ counts_invocations (get qs k)) n
    qs p (stopped_counts n (get qs p)) (λ k apart. refl) q
counts_after n qs _ q = refl

pub counted_begun : (o : Option Query) → counts_invocations o ≡ true → flag (started o) ≡ true
counted_begun None e = absurd cc
counted_begun (Some q) e = refl

pub counted_ended : (n : ℕ) (o : Option Query) → flag (stopped n o) ≡ false
counted_ended n None = refl
counted_ended n (Some q) = refl
