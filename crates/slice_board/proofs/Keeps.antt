-- Each kind of change keeps the rule.
use Rattle.std.proofs.Common.{◌≡◌, ◌≢◌, ℕ, zero, suc, ◌+◌, ◌%◌, ◌<◌, ◌≤◌, List, [], ◌∷◌, ◌++◌, length, get_or, set, Option, Some, None, sym, refl, ap, ◌∙◌, subst, ⊎_elim, arith}
use Rattle.std.proofs.lemmas.List.{length-set, get_or-set_same, get_or-set_other, set-get_or}
use Rattle.std.specs.Option.{option_map}
use mathlib.Core.Option.{Option as Maybe, none, some, some-injective, some-ne-none}
use native.Mathlib.Decide.{ℕ_discrete}
use lib.ListN.{get_elem?}
use Rattle.atomic_table.proofs.Lists.{at_set, set_here, set_else, at_snoc, at_longer}
use Rattle.buffer_blocks.specs.declared.block.Block.{Block}
use Rattle.slice_board.specs.declared.rule.Pool.{Pool}
use Rattle.slice_board.specs.declared.rule.Hand.{Hand}
use Rattle.slice_board.specs.Hands.{pool_set, released, with_done, newcomer}
use Rattle.slice_board.specs.Rule.{Cells, done_of, home_at, IsPlace, vacant, busy, free, IsPooled, IsSeated, HasHolder, IsSound}

-- a list of one element has it at 0
at_one : {A : Type 0} → (l : List A) (i : ℕ) (a : A) → length l ≡ 1 → get_elem? l i ≡ some a → i ≡ 0
at_one [] i a h e = absurd (omega arith)
at_one (x ∷ []) zero a h e = refl
at_one (x ∷ []) (suc i) a h e = absurd (some-ne-none a (sym e))
at_one (x ∷ y ∷ ys) i a h e = absurd (omega arith)

some_below : {A : Type 0} → (l : List A) (i : ℕ) (a : A) → get_elem? l i ≡ some a → i < length l
some_below [] i a e = absurd (some-ne-none a (sym e))
some_below (x ∷ xs) zero a e = omega arith
some_below (x ∷ xs) (suc i) a e = let h = some_below xs i a e in omega arith

-- a place is still held after a seat's view has changed, if that seat still holds it or did not hold it
holder_after : (views : List Hand) (id q : ℕ) (v w : Hand) → get_elem? views id ≡ some v → (v.held ≡ Some q → w.held ≡ Some q) → HasHolder views q → HasHolder (set views id w) q
holder_after views id q v w at same h = holder_case views id q v w at same h (ℕ_discrete h.0 id) where
  holder_case : (views : List Hand) (id q : ℕ) (v w : Hand) → get_elem? views id ≡ some v → (v.held ≡ Some q → w.held ≡ Some q) → (h : HasHolder views q) → Dec (h.0 ≡ id) → HasHolder (set views id w) q
  holder_case views id q v w at same h (yes e) =
      let is : h.1 ≡ v = some-injective h.1 v (sym h.2 ∙ (ap (λ (i : ℕ). get_elem? views i) e ∙ at)) in
      (id, w, set_here views id w (some_below views id v at), same (sym (ap (λ (u : Hand). u.held) is) ∙ h.3))
  holder_case views id q v w at same h (no ne) = (h.0, h.1, set_else views id h.0 w ne ∙ h.2, h.3)

-- a place read off equal numbers and slots
abbrev placed : (d d' k w w' : ℕ) (h h' : Maybe (Maybe (Option Block))) → d ≡ d' → w ≡ w' → h ≡ h' → IsPlace d k w h → IsPlace d' k w' h'
placed d d' k w w' h h' a b c p = subst (λ (y : ℕ × ℕ × Maybe (Maybe (Option Block))). IsPlace y.0 k y.1 y.2) (λ i. (a i, b i, c i)) p

-- the word and the slot of the place k change, and what the seat id knows
abbrev pub moved : Cells → ℕ → ℕ → Maybe (Option Block) → ℕ → Hand → Cells
moved s k n h id w = record { words = set s.words (k + 1) n; homes = set s.homes k h; views = set s.views id w }

moved_done : (s : Cells) (k n : ℕ) (h : Maybe (Option Block)) (id : ℕ) (w : Hand) → k < 512 → done_of (moved s k n h id w) ≡ done_of s
moved_done s k n h id w kb = get_or-set_other s.words (k + 1) 513 n 0 (λ e. omega arith)

moved_place : (s : Cells) (k n : ℕ) (h : Maybe (Option Block)) (id : ℕ) (w : Hand) → IsSound s → k < 512 → IsPlace (done_of s) k n (some h)
    → (q : ℕ) → q < 512 → Dec (q ≡ k) → IsPlace (done_of s) q (get_or (set s.words (k + 1) n) (q + 1) 0) (get_elem? (set s.homes k h) q)
moved_place s k n h id w ok kb place q qb (yes e) = subst (λ (j : ℕ). IsPlace (done_of s) j (get_or (set s.words (k + 1) n) (j + 1) 0) (get_elem? (set s.homes k h) j)) (sym e)
    (let a : k + 1 < length s.words = omega (arith, ok.words) in let b : k < length s.homes = omega (arith, ok.slots) in
    placed (done_of s) (done_of s) k n _ (some h) _ refl (sym (get_or-set_same s.words (k + 1) n 0 a)) (sym (set_here s.homes k h b)) place)
moved_place s k n h id w ok kb place q qb (no ne) =
    placed (done_of s) (done_of s) q (get_or s.words (q + 1) 0) _ (home_at s q) _ refl (sym (get_or-set_other s.words (k + 1) (q + 1) n 0 (λ e. ne (omega arith)))) (sym (set_else s.homes k q h ne)) (ok.places q qb)

moved_seat : (s : Cells) (k n : ℕ) (h : Maybe (Option Block)) (id : ℕ) (v w : Hand) → k < 512 → get_elem? s.views id ≡ some v
    → (j : ℕ) (u : Hand) → j ≢ id → get_elem? s.views j ≡ some u → IsSeated s u → (u.held ≡ Some k → ⊥) → IsSeated (moved s k n h id w) u
moved_seat s k n h id v w kb at j u other there old apart = let d = moved_done s k n h id w kb in record {
  read = rw d old.read;
  most = rw d old.most;
  held = λ q e. let r = old.held q e in (r.0, set_else s.homes k q h (λ (x : q ≡ k). apart (e ∙ ap Some x)) ∙ r.1);
  pooled = λ p e. let alone = (old.pooled p e).alone in absurd (other (at_one s.views j u alone there ∙ sym (at_one s.views id v alone at)));
}

pub moves : (s : Cells) (k n : ℕ) (h : Maybe (Option Block)) (id : ℕ) (v w : Hand) → IsSound s → k < 512 → get_elem? s.views id ≡ some v
    → IsPlace (done_of s) k n (some h)
    → ((j : ℕ) (u : Hand) → j ≢ id → get_elem? s.views j ≡ some u → u.held ≡ Some k → ⊥)
    → ((q : ℕ) → w.held ≡ Some q → q ≡ k)
    → ((q : ℕ) → q ≢ k → v.held ≡ Some q → ⊥) → (h ≡ none → w.held ≡ Some k)
    → IsSeated (moved s k n h id w) w → IsSound (moved s k n h id w)
moves s k n h id v w ok kb at place others only idle out mine = let d = moved_done s k n h id w kb in record {
  words = length-set s.words (k + 1) n ∙ ok.words;
  slots = length-set s.homes k h ∙ ok.slots;
  small = rw d ok.small;
  places = λ q qb. placed (done_of s) _ q _ _ _ _ (sym d) refl refl (moved_place s k n h id w ok kb place q qb (ℕ_discrete q k));
  owned = λ q qb e. ⊎_elim (λ (x : (q ≡ k) × (h ≡ none)). (id, w, set_here s.views id w (some_below s.views id v at), out x.1 ∙ ap Some (sym x.0)))
      (λ (x : (q ≢ k) × (home_at s q ≡ some none)). holder_after s.views id q v w at (λ holds. absurd (idle q x.0 holds)) (ok.owned q qb x.1)) (at_set s.homes k q h none e);
  seats = λ j u e. ⊎_elim (λ (x : (j ≡ id) × (w ≡ u)). subst (λ (y : Hand). IsSeated (moved s k n h id w) y) x.1 mine)
      (λ (x : (j ≢ id) × (get_elem? s.views j ≡ some u)). moved_seat s k n h id v w kb at j u x.0 x.1 (ok.seats j u x.1) (others j u x.0 x.1)) (at_set s.views id j w u e);
  apart = λ i j a b q ea eb ha hb. ⊎_elim
      (λ (x : (i ≡ id) × (w ≡ a)). ⊎_elim (λ (y : (j ≡ id) × (w ≡ b)). x.0 ∙ sym y.0)
      (λ (y : (j ≢ id) × (get_elem? s.views j ≡ some b)). absurd (others j b y.0 y.1 (hb ∙ ap Some (only q (ap (λ (u : Hand). u.held) x.1 ∙ ha))))) (at_set s.views id j w b eb))
      (λ (x : (i ≢ id) × (get_elem? s.views i ≡ some a)). ⊎_elim (λ (y : (j ≡ id) × (w ≡ b)). absurd (others i a x.0 x.1 (ha ∙ ap Some (only q (ap (λ (u : Hand). u.held) y.1 ∙ hb)))))
      (λ (y : (j ≢ id) × (get_elem? s.views j ≡ some b)). ok.apart i j a b q x.1 y.1 ha hb) (at_set s.views id j w b eb)) (at_set s.views id i w a ea);
}

Some_injective : {A : Type 0} → (a b : A) → Some a ≡ Some b → a ≡ b
Some_injective a b e = cc

-- a place that was not held is held from now on
pub acquires : (s : Cells) (k n : ℕ) (id : ℕ) (v w : Hand) → IsSound s → k < 512 → get_elem? s.views id ≡ some v → n % 4 ≡ 1
    → home_at s k ≢ some none → v.held ≡ None → w.held ≡ Some k → w.pool ≡ v.pool → w.read ≤ done_of s → w.most ≤ done_of s → IsSound (moved s k n none id w)
acquires s k n id v w ok kb at n1 home idle held pool read most = let s' = moved s k n none id w in let d = moved_done s k n none id w kb in
    let mine : IsSeated s' w = record {
      read = rw d read;
      most = rw d most;
      held = λ q e. let is : k ≡ q = Some_injective k q (sym held ∙ e) in subst (λ (j : ℕ). (j < 512) × (home_at s' j ≡ some none)) is (kb, set_here s.homes k none (omega (arith, ok.slots)));
      pooled = λ p e. let old = (ok.seats id v at).pooled p (sym pool ∙ e) in record {
        alone = length-set s.views id w ∙ old.alone;
        done = d ∙ old.done;
        count = old.count;
        vacant = λ q qb x. ⊎_elim (λ (t : (q ≡ k) × (none ≡ some None)). absurd (some-ne-none _ (sym t.1))) (λ (t : (q ≢ k) × (home_at s q ≡ some (some None))). old.vacant q qb t.1) (at_set s.homes k q none (some None) x);
        home = λ q b qb x. ⊎_elim (λ (t : (q ≡ k) × (none ≡ some (Some b))). absurd (some-ne-none _ (sym t.1))) (λ (t : (q ≢ k) × (home_at s q ≡ some (some (Some b)))). old.home q b qb t.1) (at_set s.homes k q none (some (Some b)) x);
        out = λ q qb x. ⊎_elim (λ (t : (q ≡ k) × (none ≡ none)). held ∙ ap Some (sym t.0)) (λ (t : (q ≢ k) × (home_at s q ≡ some none)). absurd (let a : Some q ≡ None = sym (old.out q qb t.1) ∙ idle in cc)) (at_set s.homes k q none none x);
      };
    } in
    moves s k n none id v w ok kb at (busy n1 refl) (λ j u _ there holds. home ((ok.seats j u there).held k holds).1) (λ q e. Some_injective q k (sym e ∙ held)) (λ q ne e. let a : None ≡ Some q = sym idle ∙ e in cc) (λ _. held) mine

mapped : (o : Option Pool) (f : Pool → Pool) (p' : Pool) → option_map f o ≡ Some p' → (p : Pool) × (o ≡ Some p) × (f p ≡ p')
mapped None f p' e = absurd (let x : None ≡ Some p' = e in cc)
mapped (Some p) f p' e = (p, refl, Some_injective (f p) p' e)

-- the held place is given up, with x at home
pub releases : (s : Cells) (k n : ℕ) (x : Option Block) (id : ℕ) (v : Hand) → IsSound s → k < 512 → get_elem? s.views id ≡ some v → v.held ≡ Some k
    → IsPlace (done_of s) k n (some (some x)) → IsSound (moved s k n (some x) id (released v k x))
releases s k n x id v ok kb at holds place = let w = released v k x in let s' = moved s k n (some x) id w in let d = moved_done s k n (some x) id w kb in let old = ok.seats id v at in
    let mine : IsSeated s' w = record {
      read = rw d old.read;
      most = rw d old.most;
      held = λ q e. absurd (let a : None ≡ Some q = e in cc);
      pooled = λ p' e. let m = mapped v.pool (λ p. pool_set p k x) p' e in let was = old.pooled m.0 m.1 in subst (λ (y : Pool). IsPooled s' w y) m.2 (let p = m.0 in let kp : k < length p.homes = omega (arith, was.count) in record {
        alone = length-set s.views id w ∙ was.alone;
        done = d ∙ was.done;
        count = length-set p.homes k x ∙ was.count;
        vacant = λ q qb y. ⊎_elim (λ (t : (q ≡ k) × (some x ≡ some None)). subst (λ (j : ℕ). get_or (set p.homes k x) j None ≡ None) (sym t.0) (get_or-set_same p.homes k x None kp ∙ some-injective x None t.1))
            (λ (t : (q ≢ k) × (home_at s q ≡ some (some None))). get_or-set_other p.homes k q x None t.0 ∙ was.vacant q qb t.1) (at_set s.homes k q (some x) (some None) y);
        home = λ q b qb y. ⊎_elim (λ (t : (q ≡ k) × (some x ≡ some (Some b))). subst (λ (j : ℕ). get_or (set p.homes k x) j None ≡ Some b) (sym t.0) (get_or-set_same p.homes k x None kp ∙ some-injective x (Some b) t.1))
            (λ (t : (q ≢ k) × (home_at s q ≡ some (some (Some b)))). get_or-set_other p.homes k q x None t.0 ∙ was.home q b qb t.1) (at_set s.homes k q (some x) (some (Some b)) y);
        out = λ q qb y. ⊎_elim (λ (t : (q ≡ k) × (some x ≡ none)). absurd (some-ne-none _ t.1))
            (λ (t : (q ≢ k) × (home_at s q ≡ some none)). absurd (t.0 (Some_injective q k (sym (was.out q qb t.1) ∙ holds)))) (at_set s.homes k q (some x) none y);
      });
    } in
    moves s k n (some x) id v w ok kb at place (λ j u other there e. other (ok.apart j id u v k there at e holds)) (λ q e. absurd (let a : None ≡ Some q = e in cc)) (λ q ne e. ne (Some_injective q k (sym e ∙ holds))) (λ e. absurd (some-ne-none x e)) mine

-- only what the seat id knows changes, and no place that it holds
abbrev pub looked_on : Cells → ℕ → ℕ → ℕ → Hand → Cells
looked_on s i n id w = record { words = set s.words i n; homes = s.homes; views = set s.views id w }

stays_seat : (s : Cells) (id : ℕ) (v w : Hand) → IsSeated s v → w.held ≡ v.held → w.pool ≡ v.pool → w.read ≤ done_of s → w.most ≤ done_of s
    → IsSeated (record { words = s.words; homes = s.homes; views = set s.views id w }) w
stays_seat s id v w old held pool read most = record {
  read = read;
  most = most;
  held = λ q e. old.held q (sym held ∙ e);
  pooled = λ p e. let was = old.pooled p (sym pool ∙ e) in record {
    alone = length-set s.views id w ∙ was.alone;
    done = was.done;
    count = was.count;
    vacant = was.vacant;
    home = was.home;
    out = λ q qb x. held ∙ was.out q qb x;
  };
}

else_seat : (s : Cells) (id : ℕ) (v w : Hand) → get_elem? s.views id ≡ some v → (j : ℕ) (u : Hand) → j ≢ id → get_elem? s.views j ≡ some u → IsSeated s u
    → IsSeated (record { words = s.words; homes = s.homes; views = set s.views id w }) u
else_seat s id v w at j u other there old = record {
  read = old.read;
  most = old.most;
  held = old.held;
  pooled = λ p e. let alone = (old.pooled p e).alone in absurd (other (at_one s.views j u alone there ∙ sym (at_one s.views id v alone at)));
}

kept : (s : Cells) (id : ℕ) (v w : Hand) → IsSound s → get_elem? s.views id ≡ some v → w.held ≡ v.held → w.pool ≡ v.pool → w.read ≤ done_of s → w.most ≤ done_of s
    → IsSound (record { words = s.words; homes = s.homes; views = set s.views id w })
kept s id v w ok at held pool read most = record {
  words = ok.words;
  slots = ok.slots;
  small = ok.small;
  places = ok.places;
  owned = λ q qb e. holder_after s.views id q v w at (λ holds. held ∙ holds) (ok.owned q qb e);
  seats = λ j u e. ⊎_elim (λ (x : (j ≡ id) × (w ≡ u)). subst (λ (y : Hand). IsSeated (record { words = s.words; homes = s.homes; views = set s.views id w }) y) x.1 (stays_seat s id v w (ok.seats id v at) held pool read most))
      (λ (x : (j ≢ id) × (get_elem? s.views j ≡ some u)). else_seat s id v w at j u x.0 x.1 (ok.seats j u x.1)) (at_set s.views id j w u e);
  apart = λ i j a b q ea eb ha hb. ⊎_elim
      (λ (x : (i ≡ id) × (w ≡ a)). ⊎_elim (λ (y : (j ≡ id) × (w ≡ b)). x.0 ∙ sym y.0)
      (λ (y : (j ≢ id) × (get_elem? s.views j ≡ some b)). x.0 ∙ ok.apart id j v b q at y.1 (sym held ∙ (ap (λ (u : Hand). u.held) x.1 ∙ ha)) hb) (at_set s.views id j w b eb))
      (λ (x : (i ≢ id) × (get_elem? s.views i ≡ some a)). ⊎_elim (λ (y : (j ≡ id) × (w ≡ b)). ok.apart i id a v q x.1 at ha (sym held ∙ (ap (λ (u : Hand). u.held) y.1 ∙ hb)) ∙ sym y.0)
      (λ (y : (j ≢ id) × (get_elem? s.views j ≡ some b)). ok.apart i j a b q x.1 y.1 ha hb) (at_set s.views id j w b eb)) (at_set s.views id i w a ea);
}

pub looks : (s : Cells) (i n : ℕ) (id : ℕ) (v w : Hand) → IsSound s → get_elem? s.views id ≡ some v → n ≡ get_or s.words i 0 → w.held ≡ v.held → w.pool ≡ v.pool → w.read ≤ done_of s → w.most ≤ done_of s
    → IsSound (looked_on s i n id w)
looks s i n id v w ok at same held pool read most = subst (λ (ws : List ℕ). IsSound (record { words = ws; homes = s.homes; views = set s.views id w })) (sym (ap (λ (x : ℕ). set s.words i x) same ∙ set-get_or s.words i 0)) (kept s id v w ok at held pool read most)

place_up : (d d' k w : ℕ) (h : Maybe (Maybe (Option Block))) → d ≤ d' → IsPlace d k w h → IsPlace d' k w h
place_up d d' k w h le (vacant z e) = vacant z e
place_up d d' k w h le (busy z e) = busy z e
place_up d d' k w h le (free b z e fits) = free b z e (record { retired = omega (arith, fits.retired); len = fits.len })

-- the greatest number grows
pub raises : (s : Cells) (n : ℕ) (id : ℕ) (v : Hand) → IsSound s → get_elem? s.views id ≡ some v → done_of s ≤ n → n < 4611686018427387904 → IsSound (looked_on s 513 n id (with_done v n))
raises s n id v ok at up small = let w = with_done v n in let s' = looked_on s 513 n id w in
    let d : done_of s' ≡ n = get_or-set_same s.words 513 n 0 (omega (arith, ok.words)) in let old = ok.seats id v at in
    let mine : IsSeated s' w = record {
      read = rw d (omega arith);
      most = rw d (omega (arith, old.most));
      held = old.held;
      pooled = λ p' e. let m = mapped v.pool (λ (p : Pool). record p { done = n }) p' e in let was = old.pooled m.0 m.1 in subst (λ (y : Pool). IsPooled s' w y) m.2 (record {
        alone = length-set s.views id w ∙ was.alone;
        done = d;
        count = was.count;
        vacant = was.vacant;
        home = was.home;
        out = was.out;
      });
    } in record {
      words = length-set s.words 513 n ∙ ok.words;
      slots = ok.slots;
      small = rw d small;
      places = λ q qb. placed n _ q (get_or s.words (q + 1) 0) _ (home_at s q) _ (sym d) (sym (get_or-set_other s.words 513 (q + 1) n 0 (λ e. omega arith))) refl (place_up (done_of s) n q _ _ up (ok.places q qb));
      owned = λ q qb e. holder_after s.views id q v w at (λ holds. holds) (ok.owned q qb e);
      seats = λ j u e. ⊎_elim (λ (x : (j ≡ id) × (w ≡ u)). subst (λ (y : Hand). IsSeated s' y) x.1 mine)
          (λ (x : (j ≢ id) × (get_elem? s.views j ≡ some u)). let its = ok.seats j u x.1 in record {
            read = rw d (omega (arith, its.read));
            most = rw d (omega (arith, its.most));
            held = its.held;
            pooled = λ p y. let alone = (its.pooled p y).alone in absurd (x.0 (at_one s.views j u alone x.1 ∙ sym (at_one s.views id v alone at)));
          }) (at_set s.views id j w u e);
      apart = λ i j a b q ea eb ha hb. ⊎_elim
          (λ (x : (i ≡ id) × (w ≡ a)). ⊎_elim (λ (y : (j ≡ id) × (w ≡ b)). x.0 ∙ sym y.0)
          (λ (y : (j ≢ id) × (get_elem? s.views j ≡ some b)). x.0 ∙ ok.apart id j v b q at y.1 (ap (λ (u : Hand). u.held) x.1 ∙ ha) hb) (at_set s.views id j w b eb))
          (λ (x : (i ≢ id) × (get_elem? s.views i ≡ some a)). ⊎_elim (λ (y : (j ≡ id) × (w ≡ b)). ok.apart i id a v q x.1 at ha (ap (λ (u : Hand). u.held) y.1 ∙ hb) ∙ sym y.0)
          (λ (y : (j ≢ id) × (get_elem? s.views j ≡ some b)). ok.apart i j a b q x.1 y.1 ha hb) (at_set s.views id j w b eb)) (at_set s.views id i w a ea);
    }

abbrev seated_by : Cells → List Hand → Cells
seated_by s vs = record { words = s.words; homes = s.homes; views = vs }

-- a seat with no pool goes on among other seats
seat_among : (s : Cells) (vs : List Hand) (v : Hand) (o : Option Pool) → IsSeated s v → o ≡ None → IsSeated (seated_by s vs) (record v { pool = o })
seat_among s vs v o old none_left = record {
  read = old.read;
  most = old.most;
  held = old.held;
  pooled = λ p e. absurd (let x : Some p ≡ None = sym e ∙ none_left in cc);
}

new_seat : (s : Cells) → IsSeated s (newcomer None)
new_seat s = record {
  read = omega arith;
  most = omega arith;
  held = λ q e. absurd (let x : None ≡ Some q = e in cc);
  pooled = λ p e. absurd (let x : None ≡ Some p = e in cc);
}

-- another seat is made
pub splits : (s : Cells) (id : ℕ) (v : Hand) → IsSound s → get_elem? s.views id ≡ some v → IsSound (seated_by s (set s.views id (record v { pool = None }) ++ newcomer None ∷ []))
splits s id v ok at = let w : Hand = record v { pool = None } in let vs = set s.views id w in let s' = seated_by s (vs ++ newcomer None ∷ []) in
    let old : (j : ℕ) (u : Hand) → get_elem? vs j ≡ some u → (IsSeated s' u) × ((x : Hand) × (get_elem? s.views j ≡ some x) × (x.held ≡ u.held)) =
    λ j u e. ⊎_elim (λ (x : (j ≡ id) × (w ≡ u)). (subst (λ (y : Hand). IsSeated s' y) x.1 (seat_among s (vs ++ newcomer None ∷ []) v None (ok.seats id v at) refl), (v, subst (λ (i : ℕ). get_elem? s.views i ≡ some v) (sym x.0) at, ap (λ (y : Hand). y.held) x.1)))
    (λ (x : (j ≢ id) × (get_elem? s.views j ≡ some u)). let its = ok.seats j u x.1 in (
      record {
        read = its.read;
        most = its.most;
        held = its.held;
        pooled = λ p y. let alone = (its.pooled p y).alone in absurd (x.0 (at_one s.views j u alone x.1 ∙ sym (at_one s.views id v alone at)));
      },
      (u, x.1, refl),
    )) (at_set s.views id j w u e) in record {
      words = ok.words;
      slots = ok.slots;
      small = ok.small;
      places = ok.places;
      owned = λ q qb e. let h = holder_after s.views id q v w at (λ holds. holds) (ok.owned q qb e) in (h.0, h.1, at_longer vs (newcomer None ∷ []) h.0 h.1 h.2, h.3);
      seats = λ j u e. ⊎_elim (λ (x : get_elem? vs j ≡ some u). (old j u x).0) (λ (x : newcomer None ≡ u). subst (λ (y : Hand). IsSeated s' y) x (new_seat s')) (at_snoc vs (newcomer None) u j e);
      apart = λ i j a b q ea eb ha hb. ⊎_elim
          (λ (x : get_elem? vs i ≡ some a). ⊎_elim (λ (y : get_elem? vs j ≡ some b). let l = (old i a x).1 in let r = (old j b y).1 in ok.apart i j l.0 r.0 q l.1 r.1 (l.2 ∙ ha) (r.2 ∙ hb))
          (λ (y : newcomer None ≡ b). absurd (let z : None ≡ Some q = ap (λ (u : Hand). u.held) y ∙ hb in cc)) (at_snoc vs (newcomer None) b j eb))
          (λ (x : newcomer None ≡ a). absurd (let z : None ≡ Some q = ap (λ (u : Hand). u.held) x ∙ ha in cc)) (at_snoc vs (newcomer None) a i ea);
    }

-- a seat is spent, beside another
pub spends : (s : Cells) (id other : ℕ) (v w : Hand) → IsSound s → get_elem? s.views id ≡ some v → other ≢ id → get_elem? s.views other ≡ some w → w.held ≡ None → IsSound (seated_by s (set s.views other (newcomer None)))
spends s id other v w ok at two there idle = let vs = set s.views other (newcomer None) in let s' = seated_by s vs in record {
  words = ok.words;
  slots = ok.slots;
  small = ok.small;
  places = ok.places;
  owned = λ q qb e. holder_after s.views other q w (newcomer None) there (λ holds. let x : None ≡ Some q = sym idle ∙ holds in cc) (ok.owned q qb e);
  seats = λ j u e. ⊎_elim (λ (x : (j ≡ other) × (newcomer None ≡ u)). subst (λ (y : Hand). IsSeated s' y) x.1 (new_seat s'))
      (λ (x : (j ≢ other) × (get_elem? s.views j ≡ some u)). let its = ok.seats j u x.1 in record {
        read = its.read;
        most = its.most;
        held = its.held;
        pooled = λ p y. let alone = (its.pooled p y).alone in absurd (two (at_one s.views other w alone there ∙ sym (at_one s.views id v alone at)));
      }) (at_set s.views other j (newcomer None) u e);
  apart = λ i j a b q ea eb ha hb. ⊎_elim
      (λ (x : (i ≡ other) × (newcomer None ≡ a)). absurd (let z : None ≡ Some q = ap (λ (u : Hand). u.held) x.1 ∙ ha in cc))
      (λ (x : (i ≢ other) × (get_elem? s.views i ≡ some a)). ⊎_elim (λ (y : (j ≡ other) × (newcomer None ≡ b)). absurd (let z : None ≡ Some q = ap (λ (u : Hand). u.held) y.1 ∙ hb in cc))
      (λ (y : (j ≢ other) × (get_elem? s.views j ≡ some b)). ok.apart i j a b q x.1 y.1 ha hb) (at_set s.views other j (newcomer None) b eb)) (at_set s.views other i (newcomer None) a ea);
}
