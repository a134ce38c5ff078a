-- What each step of the board asks of the rule.
use Rattle.std.proofs.Common.{◌≡◌, ◌≢◌, ℕ, ◌+◌, ◌*◌, ◌/◌, ◌%◌, ◌<◌, ◌≤◌, ◌==◌, max, Bool, bit_and, List, ◌∷◌, length, get_or, set, Option, Some, None, IsSome, MatchBool, sym, refl, ap, ◌∙◌, subst, arith, eq-eqb, ne_eqb}
use Rattle.std.proofs.Math.Nat.{le-max_left, max-le}
use mathlib.Core.Option.{Option as Maybe, none, some, some-injective, some-ne-none}
use lib.ListN.{get_elem?}
use prog.Atomic.{either}
use Rattle.atomic_table.specs.Table.{step, Act, keeps, takes, gives, Allows, Splits, Joins, carried_after, stepped, Valid, rest, put_back}
use Rattle.atomic_table.proofs.Lists.{set_again}
use Rattle.buffer_blocks.specs.declared.block.Block.{Block}
use Rattle.buffer_blocks.specs.Block.{bytes_of}
use Rattle.slice_board.specs.declared.rule.Hand.{Hand}
use Rattle.dx_types.specs.Classes.{class_length}
use Rattle.slice_board.specs.Hands.{home_of, looked, holding, holding_taken, released, with_read, with_done, newcomer}
use Rattle.slice_board.specs.Rule.{Cells, done_of, home_at, IsPlace, vacant, busy, free, IsSeated, IsSound}
use Rattle.slice_board.specs.Steps.{Mine, PoolHas, PoolHasSome, Takes, Finds, TriesTake, Reserves, TriesGive, Empties, Fills, KnowsDone, Reads, Raises}
use Rattle.slice_board.proofs.Words.{cleared_free, cleared_else}
use Rattle.slice_board.proofs.Keeps.{acquires, releases, looks, raises, splits, spends}

chosen : (n m : ℕ) (P Q : Type 0) → n ≡ m → P → MatchBool (n == m) P Q
chosen n m P Q e p = subst (λ (b : Bool). MatchBool b P Q) (sym (eq-eqb n m e)) p

other : (n m : ℕ) (P Q : Type 0) → n ≢ m → Q → MatchBool (n == m) P Q
other n m P Q ne q = subst (λ (b : Bool). MatchBool b P Q) (sym (ne_eqb n m ne)) q

same_place : (k j : ℕ) → k + 1 ≡ j + 1 → k ≡ j
same_place k j e = omega arith

abbrev NOT_FREE : ℕ
NOT_FREE = 18446744073709551613

abbrev CanTake : ℕ → ℕ → Mine → ℕ → Cells → Type 0
CanTake slots id me k s = (w : Hand) × (a : Act (Option Block)) × Valid s.homes me.1 a × IsSound (stepped s (k + 1) (bit_and (get_or s.words (k + 1) 0) NOT_FREE) id me.1 w a)
    × TriesTake (step slots (k + 1) NOT_FREE 0 none) me (get_or s.words (k + 1) 0) (w, carried_after me.1 a)

-- nothing is taken where no block is at home
not_taken : (slots id k : ℕ) (me : Mine) (s : Cells) → IsSound s → get_elem? s.views id ≡ some me.0 → get_or s.words (k + 1) 0 < 18446744073709551616
    → get_or s.words (k + 1) 0 % 4 < 2 → PoolHas me.0 k None → CanTake slots id me k s
not_taken slots id k me s ok at fits low empty = let n = get_or s.words (k + 1) 0 in let v = me.0 in let old = ok.seats id v at in (
  looked v k n,
  keeps,
  tt,
  looks s (k + 1) _ id v (looked v k n) ok at (cleared_else n fits low) refl refl old.read old.most,
  λ j e. subst (λ (i : ℕ). MatchBool (n % 4 == 3) (Takes i n me (looked v k n, me.1)) (Finds i n me (looked v k n, me.1) × PoolHas v i None)) (same_place k j e)
      (other (n % 4) 3 (Takes k n me (looked v k n, me.1)) (Finds k n me (looked v k n, me.1) × PoolHas v k None) (λ x. omega arith) (record { slot = refl; hand = refl }, empty)),
)

can_take : (slots id k : ℕ) (me : Mine) → k < 512 → me.0.held ≡ None → (s : Cells) → IsSound s → get_elem? s.views id ≡ some me.0 → get_or s.words (k + 1) 0 < 18446744073709551616
    → IsPlace (done_of s) k (get_or s.words (k + 1) 0) (home_at s k) → CanTake slots id me k s
can_take slots id k me kb idle s ok at fits (vacant z h) = not_taken slots id k me s ok at fits (omega arith) (λ p e. ((ok.seats id me.0 at).pooled p e).vacant k kb h)
can_take slots id k me kb idle s ok at fits (busy z h) = not_taken slots id k me s ok at fits (omega arith) (λ p e. absurd (let x : None ≡ Some k = sym idle ∙ ((ok.seats id me.0 at).pooled p e).out k kb h in cc))
can_take slots id k me kb idle s ok at fits (free b z h fit) = let n = get_or s.words (k + 1) 0 in let v = me.0 in let old = ok.seats id v at in let w = holding_taken v k b.retired in
    let three : n % 4 ≡ 3 = omega arith in let less = cleared_free n fits three in
    let told : Takes k n me (w, (k, Some b) ∷ me.1) = record { block = b; slot = refl; hand = refl; len = fit.len; pool = λ p e. (old.pooled p e).home k b kb h } in (
      w,
      takes k (Some b),
      h,
      acquires s k _ id v w ok kb at (omega arith) (λ x. some-ne-none _ (some-injective _ _ (sym h ∙ x))) idle refl refl old.read (max-le old.most fit.retired),
      λ j e. subst (λ (i : ℕ). MatchBool (n % 4 == 3) (Takes i n me (w, (k, Some b) ∷ me.1)) (Finds i n me (w, (k, Some b) ∷ me.1) × PoolHas v i None)) (same_place k j e)
          (chosen (n % 4) 3 (Takes k n me (w, (k, Some b) ∷ me.1)) (Finds k n me (w, (k, Some b) ∷ me.1) × PoolHas v k None) three told),
    )

pub tries_take : (slots id k : ℕ) (me : Mine) → k < 512 → me.0.held ≡ None → Allows IsSound slots id me (k + 1) (λ n. bit_and n NOT_FREE) (TriesTake (step slots (k + 1) NOT_FREE 0 none) me)
tries_take slots id k me kb idle s ok _ at fits = can_take slots id k me kb idle s ok at fits (ok.places k kb)

pub empties : (slots id k x : ℕ) (me : Mine) → k < 512 → me.0.held ≡ Some k → me.1 ≡ (k, None) ∷ rest me.1 → Allows IsSound slots id me (k + 1) (λ _. 0) (Empties (step slots (k + 1) x 0 none) me)
empties slots id k x me kb holds slot s ok _ at fits = let v = me.0 in (
  released v k None,
  gives,
  tt,
  subst (λ (hs : List (Maybe (Option Block))). IsSound (record { words = set s.words (k + 1) 0; homes = hs; views = set s.views id (released v k None) })) (ap (λ (c : List (ℕ × Option Block)). put_back s.homes c) (sym slot))
      (releases s k 0 None id v ok kb at holds (vacant refl refl)),
  λ j e. (refl, ap (λ (i : ℕ). released v i None) (same_place k j e)),
)

pub fills : (slots id k x : ℕ) (me : Mine) (b : Block) → k < 512 → me.0.held ≡ Some k → me.1 ≡ (k, Some b) ∷ rest me.1 → x ≡ 3 + 4 * b.retired → b.retired ≤ me.0.read → length (bytes_of b) ≡ class_length (k / 64)
    → Allows IsSound slots id me (k + 1) (λ _. x) (Fills (step slots (k + 1) x 0 none) me)
fills slots id k x me b kb holds slot is low len s ok _ at fits = let v = me.0 in let old = ok.seats id v at in (
  released v k (Some b),
  gives,
  tt,
  subst (λ (hs : List (Maybe (Option Block))). IsSound (record { words = set s.words (k + 1) x; homes = hs; views = set s.views id (released v k (Some b)) })) (ap (λ (c : List (ℕ × Option Block)). put_back s.homes c) (sym slot))
      (releases s k x (Some b) id v ok kb at holds (free b is refl (record { retired = omega (arith, old.read); len = len }))),
  λ j b' e slot'. (
    refl,
    let both : (k, Some b) ∷ rest me.1 ≡ (j, Some b') ∷ rest me.1 = sym slot ∙ slot' in
        let pair : (k, Some b) ≡ (j, Some b') = cc in
        let what : Some b ≡ Some b' = ap (λ (y : ℕ × Option Block). y.1) pair in λ i. released v (same_place k j e i) (what i),
  ),
)

abbrev CanGive : ℕ → ℕ → Mine → ℕ → Cells → Type 0
CanGive slots id me k s = (w : Hand) × (a : Act (Option Block)) × Valid s.homes me.1 a × IsSound (stepped s (k + 1) (either (get_or s.words (k + 1) 0 == 0) 1 (get_or s.words (k + 1) 0)) id me.1 w a)
    × TriesGive (step slots (k + 1) 0 1 none) me (get_or s.words (k + 1) 0) (w, carried_after me.1 a)

not_given : (slots id k : ℕ) (me : Mine) (s : Cells) → IsSound s → get_elem? s.views id ≡ some me.0 → get_or s.words (k + 1) 0 ≢ 0 → PoolHasSome me.0 k → CanGive slots id me k s
not_given slots id k me s ok at taken full = let n = get_or s.words (k + 1) 0 in let v = me.0 in let old = ok.seats id v at in (
  looked v k n,
  keeps,
  tt,
  looks s (k + 1) _ id v (looked v k n) ok at (ap (λ (b : Bool). either b 1 n) (ne_eqb n 0 taken)) refl refl old.read old.most,
  λ j e. subst (λ (i : ℕ). MatchBool (n == 0) (Reserves i n me (looked v k n, me.1)) (Finds i n me (looked v k n, me.1) × PoolHasSome v i)) (same_place k j e)
      (other n 0 (Reserves k n me (looked v k n, me.1)) (Finds k n me (looked v k n, me.1) × PoolHasSome v k) taken (record { slot = refl; hand = refl }, full)),
)

is_some_of : (o : Option Block) (b : Block) → o ≡ Some b → IsSome o
is_some_of o b e = subst (λ (x : Option Block). IsSome x) (sym e) refl

can_give : (slots id k : ℕ) (me : Mine) → k < 512 → me.0.held ≡ None → (s : Cells) → IsSound s → get_elem? s.views id ≡ some me.0
    → IsPlace (done_of s) k (get_or s.words (k + 1) 0) (home_at s k) → CanGive slots id me k s
can_give slots id k me kb idle s ok at (busy z h) = not_given slots id k me s ok at (λ x. omega arith) (λ p e. absurd (let x : None ≡ Some k = sym idle ∙ ((ok.seats id me.0 at).pooled p e).out k kb h in cc))
can_give slots id k me kb idle s ok at (free b z h fit) = not_given slots id k me s ok at (λ x. omega arith) (λ p e. is_some_of (home_of p k) b (((ok.seats id me.0 at).pooled p e).home k b kb h))
can_give slots id k me kb idle s ok at (vacant z h) = let n = get_or s.words (k + 1) 0 in let v = me.0 in let old = ok.seats id v at in let w = holding v k in
    let told : Reserves k n me (w, (k, None) ∷ me.1) = record { slot = refl; hand = refl; pool = λ p e. (old.pooled p e).vacant k kb h } in (
      w,
      takes k None,
      h,
      acquires s k _ id v w ok kb at (ap (λ (b : Bool). either b 1 n % 4) (eq-eqb n 0 z)) (λ x. some-ne-none _ (some-injective _ _ (sym h ∙ x))) idle refl refl old.read old.most,
      λ j e. subst (λ (i : ℕ). MatchBool (n == 0) (Reserves i n me (w, (k, None) ∷ me.1)) (Finds i n me (w, (k, None) ∷ me.1) × PoolHasSome v i)) (same_place k j e)
          (chosen n 0 (Reserves k n me (w, (k, None) ∷ me.1)) (Finds k n me (w, (k, None) ∷ me.1) × PoolHasSome v k) z told),
    )

pub tries_give : (slots id k : ℕ) (me : Mine) → k < 512 → me.0.held ≡ None → Allows IsSound slots id me (k + 1) (λ n. either (n == 0) 1 n) (TriesGive (step slots (k + 1) 0 1 none) me)
tries_give slots id k me kb idle s ok _ at fits = can_give slots id k me kb idle s ok at (ok.places k kb)

knows : (s : Cells) (v : Hand) → done_of s < 4611686018427387904 → IsSeated s v → KnowsDone (done_of s) v
knows s v small old = record { small = small; read = old.read; most = old.most; pool = λ p e. (old.pooled p e).done }

pub reads : (slots id : ℕ) (me : Mine) → Allows IsSound slots id me 513 (λ n. n) (Reads (step slots 513 0 0 none) me)
reads slots id me s ok _ at fits = let v = me.0 in let old = ok.seats id v at in (with_read v (done_of s), keeps, tt, looks s 513 _ id v (with_read v (done_of s)) ok at refl refl refl (omega arith) old.most, (refl, refl, knows s v ok.small old))

pub raises_to : (slots id k : ℕ) (me : Mine) → k < 4611686018427387904 → Allows IsSound slots id me 513 (λ n. max n k) (Raises (step slots 513 k 0 none) me)
raises_to slots id k me small s ok _ at fits = let v = me.0 in let old = ok.seats id v at in let d = done_of s in
    (with_done v (max d k), keeps, tt, raises s (max d k) id v ok at (le-max_left d k) (omega (arith, ok.small)), (refl, refl, knows s v ok.small old))

pub forks : (id : ℕ) (v : Hand) → Splits IsSound id v (record v { pool = None }) (newcomer None)
forks id v s ok at = splits s id v ok at

pub merges : (id : ℕ) (v : Hand) (second : ℕ) (w : Hand) → w.held ≡ None → Joins IsSound id v second w v (newcomer None)
merges id v second w idle s ok at two there = let again = set_again s.views id v at in
    subst (λ (vs : List Hand). IsSound (record { words = s.words; homes = s.homes; views = set vs second (newcomer None) })) (sym again)
    (spends s id second v w ok at two (subst (λ (vs : List Hand). get_elem? vs second ≡ some w) again there) idle)
