-- The rule holds at the start.
use Rattle.std.proofs.Common.{◌≡◌, ℕ, zero, suc, ◌+◌, ◌<◌, List, [], ◌∷◌, length, get_or, replicate, map, Option, Some, None, sym, refl, ap, ◌∙◌, subst, arith}
use Rattle.std.proofs.lemmas.List.{length-replicate, length-map}
use mathlib.Core.Option.{some, some-injective, some-ne-none}
use lib.ListN.{get_elem?}
use Rattle.atomic_table.specs.Table.{opening}
use Rattle.buffer_blocks.specs.declared.block.Block.{Block}
use Rattle.slice_board.specs.declared.rule.Pool.{Pool}
use Rattle.slice_board.specs.declared.rule.Hand.{Hand}
use Rattle.slice_board.specs.Hands.{newcomer, empty_pool}
use Rattle.slice_board.specs.Rule.{Cells, home_at, vacant, IsPooled, IsSeated, IsSound}

zeros_at : (n k : ℕ) → get_or {A = ℕ} (replicate n 0) k 0 ≡ zero
zeros_at zero k = refl
zeros_at (suc n) zero = refl
zeros_at (suc n) (suc k) = zeros_at n k

none_at : (n k : ℕ) → get_or {A = Option Block} (replicate n None) k None ≡ None
none_at zero k = refl
none_at (suc n) zero = refl
none_at (suc n) (suc k) = none_at n k

homes_at : {A : Type 0} → (n k : ℕ) (a : A) → k < n → get_elem? (map some (replicate n a)) k ≡ some (some a)
homes_at zero k a h = absurd (omega arith)
homes_at (suc n) zero a h = refl
homes_at (suc n) (suc k) a h = homes_at n k a (omega arith)

only : (v w : Hand) (i : ℕ) → get_elem? (v ∷ []) i ≡ some w → v ≡ w
only v w zero e = some-injective v w e
only v w (suc i) e = absurd (some-ne-none w (sym e))

opens : (n : ℕ) (ws : List ℕ) (p : Pool) → n ≡ 512 → ws ≡ replicate 514 0 → p.done ≡ 0 → p.homes ≡ replicate n None → IsSound (opening ws (replicate n None) (newcomer (Some p)))
opens n ws p is e unraised homes = let v = newcomer (Some p) in let s : Cells = opening ws (replicate n None) v in
    let word : (k : ℕ) → get_or ws k 0 ≡ 0 = λ k. ap (λ l. get_or l k 0) e ∙ zeros_at 514 k in
    let at : (k : ℕ) → k < 512 → home_at s k ≡ some (some None) = λ k kb. homes_at n k None (omega arith) in
    let held : (k : ℕ) → None ≡ Some k → ⊥ = λ k x. cc in
    let mine : IsSeated s v = record {
      read = omega arith;
      most = omega arith;
      held = λ k x. absurd (held k x);
      pooled = λ q x. let same : p ≡ q = let y : Some p ≡ Some q = x in cc in subst (λ (y : Pool). IsPooled s v y) same (record {
        alone = refl;
        done = word 513 ∙ sym unraised;
        count = ap length homes ∙ (length-replicate n None ∙ is);
        vacant = λ k kb h. ap (λ l. get_or l k None) homes ∙ none_at n k;
        home = λ k b kb h. absurd (let y : None ≡ Some b = some-injective _ _ (some-injective _ _ (sym (at k kb) ∙ h)) in cc);
        out = λ k kb h. absurd (some-ne-none None (some-injective _ _ (sym (at k kb) ∙ h)));
      });
    } in record {
      words = ap length e ∙ length-replicate {A = ℕ} 514 0;
      slots = length-map (replicate n None) some ∙ (length-replicate n None ∙ is);
      small = rw (word 513) (omega arith);
      places = λ k kb. vacant (word (k + 1)) (at k kb);
      owned = λ k kb h. absurd (some-ne-none None (some-injective _ _ (sym (at k kb) ∙ h)));
      seats = λ i w x. subst (λ (y : Hand). IsSeated s y) (only v w i x) mine;
      apart = λ i j a b k ea eb ha hb. absurd (held k (ap (λ (y : Hand). y.held) (only v a i ea) ∙ ha));
    }

pub starts : (ws : List ℕ) → ws ≡ replicate 514 0 → IsSound (opening ws (replicate 512 None) (newcomer (Some empty_pool)))
unfolding empty_pool
starts ws e = opens 512 ws empty_pool refl e refl refl
