-- A kind is found by its number and by its name.
use Rattle.std.proofs.Common.{◌≡◌, ◌<◌, ◌≤◌, ◌-◌, ◌⊎◌, ◌==◌, ℕ, zero, suc, Bool, true, false, ◌&&◌, nat_lt, if◌then◌else◌, List, [], ◌∷◌, length, Option, Some, None, slice_get, get_or, unwrap_or, refl, ap, sym, subst, ◌∙◌, inl, inr, arith}
use Rattle.std.specs.Prelude.{⊤}
use Rattle.std.proofs.lemmas.Bool.{eqb-true, eq-eqb, ne_eqb, ltb-true}
use Rattle.call_log.specs.Kinds.{Kind, kinds, kind_among, kind_numbered, before, numbers_of_length}

both_true : (a b : Bool) → a && b ≡ true → (a ≡ true) × (b ≡ true)
both_true true true e = (refl, refl)
both_true true false e = absurd cc
both_true false b e = absurd cc

-- ---- facts about each number below another

unfoldable pub AllBelow : (ℕ → Type 0) → ℕ → Type 0
AllBelow P zero = ⊤
AllBelow P (suc n) = P n × AllBelow P n

last_or_below : (k n : ℕ) → k < suc n → (k < n) ⊎ (k ≡ n)
last_or_below k n lt = grind arith

pub at_below : (P : ℕ → Type 0) (n k : ℕ) → AllBelow P n → k < n → P k
unfolding AllBelow
at_below P zero k all lt = absurd (omega arith)
at_below P (suc n) k all lt =
    elim (last_or_below k n lt) [
      | inl below ↦ at_below P n k all.1 below
      | inr last ↦ subst P (sym last) all.0
    ]

unfoldable pub all_below : (ℕ → Bool) → ℕ → Bool
all_below test zero = true
all_below test (suc n) = test n && all_below test n

pub test_below : (test : ℕ → Bool) (n k : ℕ) → all_below test n ≡ true → k < n → test k ≡ true
unfolding all_below
test_below test zero k all lt = absurd (omega arith)
test_below test (suc n) k all lt =
    let b = both_true (test n) (all_below test n) all in
    elim (last_or_below k n lt) [
      | inl below ↦ test_below test n k b.1 below
      | inr last ↦ ap test last ∙ b.0
    ]

-- ---- by its number

-- the kind that was found at a place, if it has the number that is looked for
checked : ℕ → Option Kind → Option Kind
checked n None = None
checked n (Some k) = if k.number == n then Some k else None

small_numbers : List Kind → Bool
small_numbers [] = true
small_numbers (k ∷ ks) = nat_lt k.number 80 && small_numbers ks

passed : (k : Kind) (n : ℕ) (o : Option Kind) → nat_lt k.number 80 ≡ true → 80 ≤ n → (if k.number == n then Some k else o) ≡ o
passed k n o small past = ap (λ (b : Bool). if b then Some k else o) (ne_eqb k.number n (λ e. let lt : k.number < 80 = ltb-true _ _ small in absurd (omega arith)))

none_past : (n : ℕ) (ks : List Kind) → small_numbers ks ≡ true → 80 ≤ n → kind_among n ks ≡ None
unfolding small_numbers
none_past n [] small past = refl
none_past n (k ∷ ks) small past =
    let b = both_true (nat_lt k.number 80) (small_numbers ks) small in
    passed k n (kind_among n ks) b.0 past ∙ none_past n ks b.1 past

checked_past : (n i : ℕ) (ks : List Kind) → small_numbers ks ≡ true → 80 ≤ n → checked n (slice_get ks i) ≡ None
unfolding small_numbers checked
checked_past n i [] small past = refl
checked_past n zero (k ∷ ks) small past = passed k n None (both_true (nat_lt k.number 80) (small_numbers ks) small).0 past
checked_past n (suc i) (k ∷ ks) small past = checked_past n i ks (both_true (nat_lt k.number 80) (small_numbers ks) small).1 past

IsFound : ℕ → Type 0
IsFound n = checked n (slice_get kinds (n - before n)) ≡ kind_numbered n

all_found : AllBelow IsFound 80
unfolding AllBelow IsFound checked kind_numbered
all_found = (
  refl,
  (
    refl,
    (
      refl,
      (
        refl,
        (
          refl,
          (
            refl,
            (
              refl,
              (
                refl,
                (
                  refl,
                  (
                    refl,
                    (
                      refl,
                      (
                        refl,
                        (
                          refl,
                          (
                            refl,
                            (
                              refl,
                              (
                                refl,
                                (
                                  refl,
                                  (
                                    refl,
                                    (
                                      refl,
                                      (
                                        refl,
                                        (
                                          refl,
                                          (
                                            refl,
                                            (
                                              refl,
                                              (
                                                refl,
                                                (
                                                  refl,
                                                  (
                                                    refl,
                                                    (
                                                      refl,
                                                      (
                                                        refl,
                                                        (
                                                          refl,
                                                          (
                                                            refl,
                                                            (
                                                              refl,
                                                              (
                                                                refl,
                                                                (
                                                                  refl,
                                                                  (
                                                                    refl,
                                                                    (
                                                                      refl,
                                                                      (
                                                                        refl,
                                                                        (
                                                                          refl,
                                                                          (
                                                                            refl,
                                                                            (
                                                                              refl,
                                                                              (
                                                                                refl,
                                                                                (
                                                                                  refl,
                                                                                  (
                                                                                    refl,
                                                                                    (
                                                                                      refl,
                                                                                      (
                                                                                        refl,
                                                                                        (
                                                                                          refl,
                                                                                          (
                                                                                            refl,
                                                                                            (
                                                                                              refl,
                                                                                              (
                                                                                                refl,
                                                                                                (
                                                                                                  refl,
                                                                                                  (
                                                                                                    refl,
                                                                                                    (
                                                                                                      refl,
                                                                                                      (
                                                                                                        refl,
                                                                                                        (
                                                                                                          refl,
                                                                                                          (
                                                                                                            refl,
                                                                                                            (
                                                                                                              refl,
                                                                                                              (
                                                                                                                refl,
                                                                                                                (
                                                                                                                  refl,
                                                                                                                  (
                                                                                                                    refl,
                                                                                                                    (
                                                                                                                      refl,
                                                                                                                      (
                                                                                                                        refl,
                                                                                                                        (
                                                                                                                          refl,
                                                                                                                          (
                                                                                                                            refl,
                                                                                                                            (
                                                                                                                              refl,
                                                                                                                              (
                                                                                                                                refl,
                                                                                                                                (
                                                                                                                                  refl,
                                                                                                                                  (
                                                                                                                                    refl,
                                                                                                                                    (
                                                                                                                                      refl,
                                                                                                                                      (
                                                                                                                                        refl,
                                                                                                                                        (
                                                                                                                                          refl,
                                                                                                                                          (
                                                                                                                                            refl,
                                                                                                                                            (
                                                                                                                                              refl,
                                                                                                                                              (
                                                                                                                                                refl,
                                                                                                                                                (
                                                                                                                                                  refl,
                                                                                                                                                  (
                                                                                                                                                    refl,
                                                                                                                                                    (
                                                                                                                                                      refl,
                                                                                                                                                      (
                                                                                                                                                        refl,
                                                                                                                                                        (
                                                                                                                                                          refl,
                                                                                                                                                          (
                                                                                                                                                            refl,
                                                                                                                                                            (
                                                                                                                                                              refl,
                                                                                                                                                              (
                                                                                                                                                                refl,
                                                                                                                                                                tt,
                                                                                                                                                              ),
                                                                                                                                                            ),
                                                                                                                                                          ),
                                                                                                                                                        ),
                                                                                                                                                      ),
                                                                                                                                                    ),
                                                                                                                                                  ),
                                                                                                                                                ),
                                                                                                                                              ),
                                                                                                                                            ),
                                                                                                                                          ),
                                                                                                                                        ),
                                                                                                                                      ),
                                                                                                                                    ),
                                                                                                                                  ),
                                                                                                                                ),
                                                                                                                              ),
                                                                                                                            ),
                                                                                                                          ),
                                                                                                                        ),
                                                                                                                      ),
                                                                                                                    ),
                                                                                                                  ),
                                                                                                                ),
                                                                                                              ),
                                                                                                            ),
                                                                                                          ),
                                                                                                        ),
                                                                                                      ),
                                                                                                    ),
                                                                                                  ),
                                                                                                ),
                                                                                              ),
                                                                                            ),
                                                                                          ),
                                                                                        ),
                                                                                      ),
                                                                                    ),
                                                                                  ),
                                                                                ),
                                                                              ),
                                                                            ),
                                                                          ),
                                                                        ),
                                                                      ),
                                                                    ),
                                                                  ),
                                                                ),
                                                              ),
                                                            ),
                                                          ),
                                                        ),
                                                      ),
                                                    ),
                                                  ),
                                                ),
                                              ),
                                            ),
                                          ),
                                        ),
                                      ),
                                    ),
                                  ),
                                ),
                              ),
                            ),
                          ),
                        ),
                      ),
                    ),
                  ),
                ),
              ),
            ),
          ),
        ),
      ),
    ),
  ),
)

side : (n : ℕ) → (n < 80) ⊎ (80 ≤ n)
side n = grind arith

found_at : (n : ℕ) → checked n (slice_get kinds (n - before n)) ≡ kind_numbered n
unfolding IsFound small_numbers kind_numbered
found_at n =
    elim (side n) [
      | inl below ↦ at_below IsFound 80 n all_found below
      | inr past ↦ checked_past n (n - before n) kinds refl past ∙ sym (none_past n kinds refl past)
    ]

-- no kind stands at the place of a number
pub found_none : (n : ℕ) → slice_get kinds (n - before n) ≡ None → kind_numbered n ≡ None
unfolding checked
found_none n e = sym (found_at n) ∙ ap (checked n) e

-- the kind at the place of a number has another
pub found_other : (n : ℕ) (k : Kind) → slice_get kinds (n - before n) ≡ Some k → (k.number ≡ n → ⊥) → kind_numbered n ≡ None
unfolding checked
found_other n k e other = sym (found_at n) ∙ ap (checked n) e ∙ ap (λ (b : Bool). if b then Some k else None) (ne_eqb k.number n other)

-- the kind at the place of a number has it
pub found_there : (n : ℕ) (k : Kind) → slice_get kinds (n - before n) ≡ Some k → k.number ≡ n → kind_numbered n ≡ Some k
unfolding checked
found_there n k e is = sym (found_at n) ∙ ap (checked n) e ∙ ap (λ (b : Bool). if b then Some k else None) (eq-eqb k.number n is)

some_same : (j k : Kind) → Some j ≡ Some k → j ≡ k
some_same j k e = ap (λ (o : Option Kind). unwrap_or o j) e

none_some : (k : Kind) → None ≡ Some k → ⊥
none_some k e = cc

-- kinds have small numbers
pub kind_small : (n : ℕ) (k : Kind) → kind_numbered n ≡ Some k → n < 80
unfolding small_numbers kind_numbered
kind_small n k e =
    elim (side n) [
      | inl below ↦ below
      | inr past ↦ absurd (none_some k (sym (none_past n kinds refl past) ∙ e))
    ]

among_number : (n : ℕ) (j k : Kind) (ks : List Kind) (b : Bool) → (j.number == n) ≡ b → (kind_among n ks ≡ Some k → k.number ≡ n) → (if b then Some j else kind_among n ks) ≡ Some k → k.number ≡ n
among_number n j k ks true is others e = ap (λ (x : Kind). x.number) (sym (some_same j k e)) ∙ eqb-true _ _ is
among_number n j k ks false is others e = others e

number_among : (n : ℕ) (k : Kind) (ks : List Kind) → kind_among n ks ≡ Some k → k.number ≡ n
number_among n k [] e = absurd (none_some k e)
number_among n k (j ∷ ks) e = among_number n j k ks (j.number == n) refl (number_among n k ks) e

-- the kind of a number has it
pub has_number : (n : ℕ) (k : Kind) → kind_numbered n ≡ Some k → k.number ≡ n
unfolding kind_numbered
has_number n k e = number_among n k kinds e

-- ---- by its name

-- where a number stands among these
number_place : ℕ → List ℕ → ℕ
number_place n [] = 0
number_place n (m ∷ ms) = if m == n then 0 else suc (number_place n ms)

is_among : ℕ → List ℕ → Bool
is_among n ms = nat_lt (number_place n ms) (length ms) && (get_or ms (number_place n ms) 0 == n)

is_listed : ℕ → Option Kind → Bool
is_listed n None = true
is_listed n (Some k) = is_among n (numbers_of_length (length k.name))

all_listed : all_below (λ n. is_listed n (kind_numbered n)) 80 ≡ true
unfolding all_below is_listed is_among number_place kind_numbered
all_listed = refl

-- a kind is among those whose names have as many letters as its own
pub record IsListed (n : ℕ) (ms : List ℕ) : Type 0 where
  pub place : ℕ
  pub inside : place < length ms
  pub is : get_or ms place 0 ≡ n

pub listed : (n : ℕ) (k : Kind) → kind_numbered n ≡ Some k → IsListed n (numbers_of_length (length k.name))
unfolding is_listed is_among
listed n k e =
    let ms : List ℕ = numbers_of_length (length k.name) in
    let all : is_among n ms ≡ true = ap (is_listed n) (sym e) ∙ test_below (λ m. is_listed m (kind_numbered m)) 80 n all_listed (kind_small n k e) in
    let b = both_true (nat_lt (number_place n ms) (length ms)) (get_or ms (number_place n ms) 0 == n) all in
    record { place = number_place n ms; inside = ltb-true _ _ b.0; is = eqb-true _ _ b.1 }
