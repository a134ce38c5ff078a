-- The counts of names are those of the open and the live lists, after each change.
use Rattle.std.proofs.Common.{◌≡◌, ℕ, ◌+◌, ◌-◌, ◌<◌, List, [], ◌∷◌, ◌++◌, length, set, get_or, replicate, sum_by, zero, suc, Option, Some, None, refl, sym, ap, ◌∙◌, arith}
use Rattle.std.specs.Prelude.{slice_set, slice_index_or}
use Rattle.std.proofs.lemmas.List.Sums.{sum_by-cons, sum_by-set}
use Rattle.base_lemmas.specs.IdMap.{empty, get, insert, remove, values}
use Rattle.base_lemmas.proofs.Maps.{total-empty, total-insert, total-remove-exactly}
use Rattle.d3d_model.specs.D3dState.{Numbered}
use Rattle.d3d_model.specs.Stream.{names}
use Rattle.d3d_lists.specs.declared.name.Name.{Name}
use Rattle.d3d_lists.specs.declared.named.Named.{Named}
use Rattle.d3d_lists.specs.Lists.{CountsNames, Lists, times_of}
use Rattle.d3d_lists.specs.Named.{count_of, times_for}
use Rattle.d3d_lists.specs.Names.{times_among, times_in}
use Rattle.d3d_lists.proofs.Times.{times_in-more, times_in-nil}

none_in : (k : Name) (n : ℕ) → sum_by (times_in k) (replicate n []) ≡ 0
none_in k zero = refl
none_in k (suc n) = sum_by-cons (times_in k) [] (replicate n []) ∙ omega (arith, times_in-nil k, none_in k n)

-- before the first call
pub counts_none : (named : Named) (opened : List (List Numbered)) (lists : Lists) (n : ℕ) → ((k : Name) → count_of named k ≡ 0) → opened ≡ replicate n [] → lists ≡ empty → CountsNames named opened lists
counts_none named opened lists n none o l = λ k.
    none k ∙ sym (ap (λ (x : List (List Numbered)). sum_by (times_in k) x + sum_by (times_in k) (values lists)) o
    ∙ ap (λ (x : Lists). sum_by (times_in k) (replicate n []) + sum_by (times_in k) (values x)) l
    ∙ omega (arith, none_in k n, total-empty (times_in k)))

-- one more call in an open list
pub counts_recorded : (old new : Named) (opened : List (List Numbered)) (lists : Lists) (x : ℕ) (c : Numbered) → x < length opened → CountsNames old opened lists
    → ((k : Name) → count_of new k ≡ count_of old k + times_among k (names c.call))
    → CountsNames new (slice_set opened x (slice_index_or opened x [] ++ c ∷ [])) lists
counts_recorded old new opened lists x c below counts more = λ k.
    omega (
      arith,
      more k,
      counts k,
      sum_by-set (times_in k) opened x (slice_index_or opened x [] ++ c ∷ []) [] below,
      times_in-more k (slice_index_or opened x []) c,
    )

-- an open list becomes a live one
pub counts_finished : (named : Named) (opened : List (List Numbered)) (lists : Lists) (x list : ℕ) → x < length opened → get lists list ≡ None → CountsNames named opened lists
    → CountsNames named (slice_set opened x []) (insert lists list (slice_index_or opened x []))
counts_finished named opened lists x list below free counts = λ k.
    omega (
      arith,
      counts k,
      sum_by-set (times_in k) opened x [] [] below,
      times_in-nil k,
      total-insert (times_in k) lists list (slice_index_or opened x []) free,
    )

-- a list is live no more
pub counts_removed : (old new : Named) (opened : List (List Numbered)) (lists : Lists) (list : ℕ) (cs : List Numbered) → get lists list ≡ Some cs → CountsNames old opened lists
    → ((k : Name) → count_of new k ≡ count_of old k - times_in k cs)
    → CountsNames new opened (remove lists list)
counts_removed old new opened lists list cs live counts less = λ k. omega (arith, less k, counts k, total-remove-exactly (times_in k) lists list cs live)

-- ---- by what the code has after each change

pub after_recording : (old new : Named) (opened after : List (List Numbered)) (lists : Lists) (x : ℕ) (c : Numbered) → x < length opened → CountsNames old opened lists
    → ((k : Name) → count_of new k ≡ count_of old k + times_among k (names c.call)) → after ≡ slice_set opened x (slice_index_or opened x [] ++ c ∷ [])
    → CountsNames new after lists
after_recording old new opened after lists x c below counts more e = λ k. counts_recorded old new opened lists x c below counts more k ∙ sym (ap (λ (o : List (List Numbered)). times_of k o lists) e)

pub after_finishing : (named : Named) (opened after : List (List Numbered)) (lists more : Lists) (x list : ℕ) → x < length opened → get lists list ≡ None → CountsNames named opened lists
    → after ≡ slice_set opened x [] → more ≡ insert lists list (slice_index_or opened x []) → CountsNames named after more
after_finishing named opened after lists more x list below free counts e f = λ k. counts_finished named opened lists x list below free counts k ∙ sym (λ i. times_of k (e i) (f i))

pub after_removing : (old new : Named) (opened : List (List Numbered)) (lists less : Lists) (list : ℕ) (cs : List Numbered) → get lists list ≡ Some cs → CountsNames old opened lists
    → ((k : Name) → count_of new k ≡ count_of old k - times_in k cs) → less ≡ remove lists list → CountsNames new opened less
after_removing old new opened lists less list cs live counts fewer e = λ k. counts_removed old new opened lists list cs live counts fewer k ∙ sym (ap (λ (l : Lists). times_of k opened l) e)
