-- What the steps of one call come to.
use Rattle.std.proofs.Common.{◌≡◌, ◌≢◌, ℕ, ◌+◌, ◌%◌, ◌<◌, ◌==◌, max, Bool, List, [], ◌∷◌, ◌++◌, length, Option, Some, None, IsSome, MatchBool, MatchOption, sym, ap, ◌∙◌, subst, arith, eq-eqb, ne_eqb, append_assoc, length-append, below_more}
use Rattle.std.proofs.Math.Nat.{le-max_left, le-max_right}
use Rattle.std.specs.Option.{option_map}
use Rattle.atomic_table.specs.Table.{rest}
use Rattle.buffer_blocks.specs.declared.block.Block.{Block}
use Rattle.slice_board.specs.declared.rule.Pool.{Pool}
use Rattle.slice_board.specs.declared.rule.Hand.{Hand}
use Rattle.slice_board.specs.Hands.{home_of, pool_set, looked, passed, released, with_read, having_taken}
use Rattle.slice_board.specs.Steps.{Mine, Takes, Reserves, KnowsDone}
use Rattle.slice_board.specs.Calls.{AreNotFree, AreNotVacant, FoundNone, FoundFull, NotTakenAt, TakenAt, NotGivenAt, GivenAt}

pub first_of_two : (n m : ℕ) (P Q : Type 0) → MatchBool (n == m) P Q → n ≡ m → P
first_of_two n m P Q x e = subst (λ (b : Bool). MatchBool b P Q) (eq-eqb n m e) x

pub second_of_two : (n m : ℕ) (P Q : Type 0) → MatchBool (n == m) P Q → n ≢ m → Q
second_of_two n m P Q x ne = subst (λ (b : Bool). MatchBool b P Q) (ne_eqb n m ne) x

-- what lies in the slot that was taken last is one thing
pub same_slot : (k j : ℕ) (a b : Option Block) (xs ys : List (ℕ × Option Block)) → (k, a) ∷ xs ≡ (j, b) ∷ ys → a ≡ b
same_slot k j a b xs ys e = let pair : (k, a) ≡ (j, b) = cc in ap (λ (y : ℕ × Option Block). y.1) pair

-- the slot that was taken last, before and after it is exchanged
pub slot_there : (k : ℕ) (x : Option Block) (old new : List (ℕ × Option Block)) → new ≡ (k, x) ∷ old → new ≡ (k, x) ∷ rest new
slot_there k x old new e = e ∙ ap (λ l. (k, x) ∷ l) (sym (ap rest e))

pub took : (k n d : ℕ) (v : Hand) (me0 me1 me2 me3 me4 : Mine) (r : Option Block) → me0.0 ≡ v → me0.1 ≡ [] → Takes k n me0 me1 → me1.1 ≡ (k, r) ∷ rest me1.1
    → me2 ≡ (me1.0, (k, None) ∷ rest me1.1) → (me3.1 ≡ rest me2.1) × (me3.0 ≡ released me2.0 k None) → (me4.1 ≡ me3.1) × (me4.0 ≡ with_read me3.0 d) × KnowsDone d me3.0
    → (me4.1 ≡ []) × (me4.0.held ≡ None) × MatchOption r (NotTakenAt k v me4.0) (λ b. TakenAt k b v me4.0)
took k n d v me0 me1 me2 me3 me4 r is idle t slot swapped cleared seen =
    let none_left : me4.1 ≡ [] = seen.0 ∙ (cleared.0 ∙ (ap (λ (m : Mine). rest m.1) swapped ∙ (ap rest t.slot ∙ idle))) in
    let what : Some t.block ≡ r = same_slot k k (Some t.block) r me0.1 (rest me1.1) (sym t.slot ∙ slot) in
    let h2 : me2.0 ≡ me1.0 = ap (λ (m : Mine). m.0) swapped in
    let hand : me4.0 ≡ having_taken me0.0 k t.block.retired d = seen.1 ∙ (ap (λ (u : Hand). with_read u d) cleared.1 ∙ ap (λ (u : Hand). with_read (released u k None) d) (h2 ∙ t.hand)) in
    let most : me3.0.most ≡ max me0.0.most t.block.retired = ap (λ (u : Hand). u.most) cleared.1 ∙ (ap (λ (u : Hand). u.most) h2 ∙ ap (λ (u : Hand). u.most) t.hand) in
    let read : me3.0.read ≡ me0.0.read = ap (λ (u : Hand). u.read) cleared.1 ∙ (ap (λ (u : Hand). u.read) h2 ∙ ap (λ (u : Hand). u.read) t.hand) in
    let pool : me3.0.pool ≡ option_map (λ p. pool_set p k None) me0.0.pool = ap (λ (u : Hand). u.pool) cleared.1 ∙ ap (λ (u : Hand). option_map (λ p. pool_set p k None) u.pool) (h2 ∙ t.hand) in
    let left = le-max_left me0.0.most t.block.retired in
    let right = le-max_right me0.0.most t.block.retired in (
      none_left,
      ap (λ (u : Hand). u.held) (seen.1) ∙ ap (λ (u : Hand). u.held) cleared.1,
      subst (λ (x : Option Block). MatchOption x (NotTakenAt k v me4.0) (λ b. TakenAt k b v me4.0)) what (subst (λ (u : Hand). TakenAt k t.block u me4.0) is (record {
        read = d;
        hand = hand;
        len = t.len;
        retired = omega (arith, seen.2.most);
        done = record {
          small = seen.2.small;
          read = omega (arith, seen.2.read);
          most = omega (arith, seen.2.most);
          pool = λ p e. seen.2.pool (pool_set p k None) (pool ∙ ap (λ (o : Option Pool). option_map (λ p. pool_set p k None) o) e);
        };
        home = t.pool;
      })),
    )

pub gave : (k n : ℕ) (v : Hand) (b : Block) (me0 me1 me2 me3 : Mine) → me0.0 ≡ v → me0.1 ≡ [] → Reserves k n me0 me1
    → me2 ≡ (me1.0, (k, Some b) ∷ rest me1.1) → (me3.1 ≡ rest me2.1) × (me3.0 ≡ released me2.0 k (Some b))
    → (me3.1 ≡ []) × (me3.0.held ≡ None) × GivenAt k b v me3.0
gave k n v b me0 me1 me2 me3 is idle t swapped filled =
    let h2 : me2.0 ≡ me1.0 = ap (λ (m : Mine). m.0) swapped in (
      filled.0 ∙ (ap (λ (m : Mine). rest m.1) swapped ∙ (ap rest t.slot ∙ idle)),
      ap (λ (u : Hand). u.held) filled.1,
      subst (λ (u : Hand). GivenAt k b u me3.0) is (record { hand = filled.1 ∙ ap (λ (u : Hand). released u k (Some b)) (h2 ∙ t.hand); home = t.pool }),
    )

not_free_more : (first : ℕ) (xs : List (ℕ × ℕ)) (x : ℕ × ℕ) → AreNotFree first xs → x.0 ≡ first + length xs → x.1 % 4 ≢ 3 → AreNotFree first (xs ++ x ∷ [])
not_free_more first [] x all at word = (omega arith, word, tt)
not_free_more first (y ∷ ys) x all at word = (all.0, all.1, not_free_more (first + 1) ys x all.2 (omega arith) word)

not_vacant_more : (first : ℕ) (xs : List (ℕ × ℕ)) (x : ℕ × ℕ) → AreNotVacant first xs → x.0 ≡ first + length xs → x.1 ≢ 0 → AreNotVacant first (xs ++ x ∷ [])
not_vacant_more first [] x all at word = (omega arith, word, tt)
not_vacant_more first (y ∷ ys) x all at word = (all.0, all.1, not_vacant_more (first + 1) ys x all.2 (omega arith) word)

more_looks : (u v w : Hand) (xs : List (ℕ × ℕ)) (k n : ℕ) → v ≡ passed u xs → w ≡ looked v k n → w ≡ passed u (xs ++ (k, n) ∷ [])
more_looks u v w xs k n before after = after ∙ (ap (λ (y : Hand). looked y k n) before ∙ ap (λ l. record u { looks = l }) (append_assoc u.looks xs ((k, n) ∷ [])))

-- what held of each place before n, and of n, holds of each before n + 1
each_more : (P : ℕ → Type 0) (n : ℕ) → ((j : ℕ) → j < n → P j) → P n → (j : ℕ) → j < n + 1 → P j
each_more P n below here = below_more P n below here

pub none_more : (first n k : ℕ) (u v w : Hand) → FoundNone first n u v → k ≡ first + n → NotTakenAt k v w → FoundNone first (n + 1) u w
none_more first n k u v w so is at = record {
  looks = so.looks ++ (k, at.found) ∷ [];
  count = length-append so.looks ((k, at.found) ∷ []) ∙ ap (λ m. m + 1) so.count;
  words = not_free_more first so.looks (k, at.found) so.words (is ∙ ap (λ m. first + m) (sym so.count)) at.word;
  hand = more_looks u v w so.looks k at.found so.hand at.hand;
  pool = λ p e. each_more (λ j. home_of p (first + j) ≡ None) n (so.pool p e) (subst (λ (j : ℕ). home_of p j ≡ None) is (at.pool p (ap (λ (y : Hand). y.pool) so.hand ∙ e)));
}

pub full_more : (first n k : ℕ) (u v w : Hand) → FoundFull first n u v → k ≡ first + n → NotGivenAt k v w → FoundFull first (n + 1) u w
full_more first n k u v w so is at = record {
  looks = so.looks ++ (k, at.found) ∷ [];
  count = length-append so.looks ((k, at.found) ∷ []) ∙ ap (λ m. m + 1) so.count;
  words = not_vacant_more first so.looks (k, at.found) so.words (is ∙ ap (λ m. first + m) (sym so.count)) at.word;
  hand = more_looks u v w so.looks k at.found so.hand at.hand;
  pool = λ p e. each_more (λ j. IsSome (home_of p (first + j))) n (so.pool p e) (subst (λ (j : ℕ). IsSome (home_of p j)) is (at.pool p (ap (λ (y : Hand). y.pool) so.hand ∙ e)));
}

pub found_low : (d : ℕ) (v w : Hand) → w ≡ with_read v d → KnowsDone d v → w.read < 4611686018427387904
found_low d v w is knows = rw (ap (λ (u : Hand). u.read) is) knows.small
