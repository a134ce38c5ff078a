-- Where the blocks of a class are, as one is taken, retired, finished or comes home.
use Rattle.std.proofs.Common.{◌≡◌, ℕ, zero, suc, ◌+◌, ◌*◌, ◌<◌, ◌≤◌, Bool, true, false, cond, ◌==◌, List, [], ◌∷◌}
use Rattle.std.proofs.Common.{◌++◌, length, refl, sym, ap, ◌∙◌, subst, ◌⊎◌, inl, inr, Option, Some, None, slice_get}
use Rattle.std.proofs.Common.{slice_set, arith}
use Rattle.std.proofs.lemmas.Bool.{both_ways, cases_Bool, eqb-true, eq-eqb, lt-ltb, cases_lt}
use Rattle.std.proofs.lemmas.List.Folds.{list_any-append}
use Rattle.core_model.specs.Script.{Turn, Script, updated}
use Rattle.core_model.specs.Chunking.{marks_of, mark_count}
use Rattle.core_model.specs.CoreState.{has_class, Board}
use Rattle.core_model.specs.Placing.{BlockChoice, Takes, From_home, New_made}
use Rattle.core_model.specs.OtherParts.{is_among}
use Rattle.core_model.specs.Succession.{only_class}
use Rattle.core_model.specs.ClassBlocks.{Stand, Apart, At_home, On_way, Held, Gone, IsInClass, IsFor, ClassRight}
use Rattle.core_model.proofs.Steps.Binding.{or_left, or_right}
use Rattle.core_model.proofs.Blocks.OwnerChanges.{set_other}

-- two classes have no block in common
pub one_class : (c d b : ℕ) → IsInClass c b → IsInClass d b → c ≡ d
one_class c d b h k = let a = h.0 in let e = h.1 in let f = k.0 in let g = k.1 in omega (arith, a, e, f, g)

pub of_class : (class b : ℕ) → class < 8 → IsInClass class b → has_class b ≡ true
of_class class b l h = let e = h.1 in lt-ltb b 512 (omega (arith, l, e))

mark_last : (script : Script) (ts : List Turn) (t : Turn) → mark_count script (ts ++ t ∷ [])
    ≡ mark_count script ts + marks_of script t
mark_last script [] t = omega arith
mark_last script (x ∷ ts) t = let r = mark_last script ts t in omega (arith, r)

only_last : (bs : List ℕ) (b : ℕ) → length (only_class (bs ++ b ∷ [])) ≡ length (only_class bs) + cond (has_class b) 1 0
only_last [] b = by (has_class b)
  where
    by : (c : Bool) → (let none : List ℕ = [] in length (cond c (b ∷ none) none)) ≡ 0 + cond c 1 0
    by true = omega arith
    by false = omega arith
only_last (x ∷ bs) b = by (has_class x) (only_last bs b)
  where
    by : (c : Bool) → length (only_class (bs ++ b ∷ [])) ≡ length (only_class bs) + cond (has_class b) 1 0
        → length (cond c (x ∷ only_class (bs ++ b ∷ [])) (only_class (bs ++ b ∷ [])))
        ≡ length (cond c (x ∷ only_class bs) (only_class bs)) + cond (has_class b) 1 0
    by true h = omega (arith, h)
    by false h = h

module _ (script : Script) (board : Board) (at : ℕ → Stand) (blocks : ℕ
    → Option ℕ) (number : ℕ) (marked : List ℕ) (turns : List Turn)
    (h : ClassRight script board at blocks number marked turns) where
  -- a turn more that marks nothing
  pub turned_class : (t : Turn) → ClassRight script board at blocks number marked (turns ++ t ∷ [])
  turned_class t = record {
    made = h.made;
    home = h.home;
    held = h.held;
    gone = h.gone;
    retired = h.retired;
    few =
        let f = h.few in let m = mark_last script turns t in omega (arith, f, m);
  }

  pub same_class : (now : ℕ → Stand) → ((b : ℕ) → now b ≡ at b) → ClassRight script board now blocks number marked turns
  same_class now same = record {
    made = λ class i l m n z. h.made class i l m n (sym (same (class * 64 + i)) ∙ z);
    home = λ class b l o z. h.home class b l o (sym (same b) ∙ z);
    held = λ b r z. h.held b r (sym (same b) ∙ z);
    gone = λ b k z. h.gone b k (sym (same b) ∙ z);
    retired = λ b z. h.retired b (sym (same b) ∙ z);
    few = h.few;
  }

  -- the open chunk is another
  pub opened_class : ClassRight script board at blocks (suc number) [] []
  opened_class = record {
    made = h.made;
    home = h.home;
    held = h.held;
    gone = λ b k z. let l = h.gone b k z in omega (arith, l);
    retired = λ b z. let l = h.gone b (suc number) z in absurd (let x : ⊥ = omega (arith, l) in x);
    few = omega arith;
  }

  -- A block is taken ------------------------------------------------------------------------------------------------

  module _ (buffer block : ℕ) (after : Board) (is_for : IsFor (script.class buffer) block) (none : (b : ℕ)
      → at b ≡ Held buffer → ⊥)
      (still_made : (class i : ℕ) → class < 8 → i < 64 → i < after.made class → (class * 64 + i ≡ block)
      ⊎ (i < board.made class))
      (still_home : (class b place : ℕ) → class < 8 → IsInClass class b → (b ≡ block → ⊥)
      → slice_get (board.places class) place ≡ Some (Some b) → (p : ℕ)
      × (slice_get (after.places class) p ≡ Some (Some b))) where
    abbrev now : ℕ → Stand
    now = updated block (Held buffer) at

    at_other : (b : ℕ) → (b ≡ block → ⊥) → now b ≡ at b
    at_other b n = let d : (b == block) ≡ false = elim (cases_Bool (b == block))
        [ inl t ↦ absurd (n (eqb-true b block t)) | inr f ↦ f ] in ap (λ c. cond c (Held buffer) (at b)) d

    -- what is not held is as it was, and another block
    was : (b : ℕ) (s : Stand) → (Held buffer ≡ s → ⊥) → now b ≡ s → (at b ≡ s) × (b ≡ block → ⊥)
    was b s n e = elim (cases_Bool (b == block)) [
      | inl t ↦ absurd (n (sym (ap (λ c. cond c (Held buffer) (at b)) t) ∙ e))
      | inr f ↦ (sym (ap (λ c. cond c (Held buffer) (at b)) f) ∙ e, (λ s. both_ways (b == block) f (eq-eqb b block s)))
    ]

    pub taken_class : ClassRight script after now (updated buffer (Some block) blocks) number marked turns
    taken_class = record {
      made = λ class i l m n z.
          let w = was (class * 64 + i) Apart (λ x. cc x) z in
          elim (still_made class i l n m) [ inl e ↦ w.1 e | inr k ↦ h.made class i l k n w.0 ];
      home = λ class b l o z.
          let w = was b At_home (λ x. cc x) z in
          let p = h.home class b l o w.0 in
          still_home class b p.0 l o w.1 p.1;
      held = λ b r z.
          elim (cases_Bool (b == block)) [
            | inl t ↦
                let there : Held buffer ≡ Held r = sym (ap (λ c. cond c (Held buffer) (at b)) t) ∙ z in
                let same : buffer ≡ r = cc there in (
                  ap (λ c. cond c (Some block) (blocks r)) (eq-eqb r buffer (sym same))
                      ∙ ap Some (sym (eqb-true b block t)),
                  subst (λ r. IsFor (script.class r) b) same
                      (subst (IsFor (script.class buffer)) (sym (eqb-true b block t)) is_for),
                )
            | inr f ↦
                let there : at b ≡ Held r = sym (ap (λ c. cond c (Held buffer) (at b)) f) ∙ z in
                let x = h.held b r there in
                let other : (r == buffer) ≡ false = elim (cases_Bool (r == buffer))
                [ inl t ↦ absurd (none b (there ∙ ap Held (eqb-true r buffer t))) | inr g ↦ g ] in
                (ap (λ c. cond c (Some block) (blocks r)) other ∙ x.0, x.1)
          ];
      gone = λ b k z. h.gone b k (was b (Gone k) (λ x. cc x) z).0;
      retired = λ b z. h.retired b (was b (Gone number) (λ x. cc x) z).0;
      few = h.few;
    }

  -- A buffer's block is retired -------------------------------------------------------------------------------------

  module _ (buffer block : ℕ) (t : Turn) (blocks' : ℕ → Option ℕ) (was_held : at block ≡ Held buffer)
      (one : has_class block ≡ true → marks_of script t ≡ 1)
      (others : (r b : ℕ) → (r ≡ buffer → ⊥) → blocks r ≡ Some b → blocks' r ≡ Some b) where
    abbrev left : ℕ → Stand
    left = updated block (Gone number) at

    old_at : (b : ℕ) (s : Stand) → (Gone number ≡ s → ⊥) → left b ≡ s → (at b ≡ s) × (b ≡ block → ⊥)
    old_at b s n e = elim (cases_Bool (b == block)) [
      | inl t ↦ absurd (n (sym (ap (λ c. cond c (Gone number) (at b)) t) ∙ e))
      | inr f ↦ (sym (ap (λ c. cond c (Gone number) (at b)) f) ∙ e, (λ s. both_ways (b == block) f (eq-eqb b block s)))
    ]

    -- no block is the buffer's any more
    pub none_held : (b : ℕ) → left b ≡ Held buffer → ⊥
    none_held b e =
        let x = old_at b (Held buffer) (λ x. cc x) e in
        let a : blocks buffer ≡ Some b = (h.held b buffer x.0).0 in
        let c : blocks buffer ≡ Some block = (h.held block buffer was_held).0 in
        let s : Some b ≡ Some block = sym a ∙ c in
        x.1 (let z : b ≡ block = cc s in z)

    pub retired_class : ClassRight script board left blocks' number (marked ++ block ∷ []) (turns ++ t ∷ [])
    retired_class = record {
      made = λ class i l m n z. h.made class i l m n (old_at (class * 64 + i) Apart (λ x. cc x) z).0;
      home = λ class b l o z. h.home class b l o (old_at b At_home (λ x. cc x) z).0;
      held = λ b r z.
          let x = old_at b (Held r) (λ x. cc x) z in
          let y = h.held b r x.0 in
          (others r b (λ s. none_held b (z ∙ ap Held s)) y.0, y.1);
      gone = λ b k z.
          elim (cases_Bool (b == block)) [
            | inl t ↦ let e : Gone number ≡ Gone k = sym (ap (λ c. cond c (Gone number) (at b)) t)
                ∙ z in let s : number ≡ k = cc e in omega (arith, s)
            | inr f ↦ h.gone b k (sym (ap (λ c. cond c (Gone number) (at b)) f) ∙ z)
          ];
      retired = λ b z k.
          list_any-append (λ m. m == b) marked (block ∷ [])
          ∙ elim (cases_Bool (b == block)) [
            | inl t ↦ or_right (is_among b marked) (is_among b (block ∷ []))
                (or_left (block == b) false (eq-eqb block b (sym (eqb-true b block t))))
            | inr f ↦ or_left (is_among b marked) (is_among b (block ∷ []))
                (h.retired b (sym (ap (λ c. cond c (Gone number) (at b)) f) ∙ z) k)
          ];
      few =
          let f = h.few in
          let m = mark_last script turns t in
          let o = only_last marked block in
          let l = by (has_class block) one in
          omega (arith, f, m, o, l);
    }
      where
        by : (c : Bool) → (c ≡ true → marks_of script t ≡ 1) → cond c 1 0 ≤ marks_of script t
        by true k = let e = k refl in omega (arith, e)
        by false k = omega arith

  -- A chunk is finished ---------------------------------------------------------------------------------------------

  pub finished_class : (now : ℕ → Stand) (n : ℕ) → ((b : ℕ) → (now b ≡ at b)
      ⊎ ((at b ≡ Gone n) × (now b ≡ cond (has_class b) On_way Apart)))
      → ClassRight script board now blocks number marked turns
  finished_class now n moves = record {
    made = λ class i l m k z.
        elim (moves (class * 64 + i)) [
          | inl s ↦ h.made class i l m k (sym s ∙ z)
          | inr s ↦
              let c : has_class (class * 64 + i) ≡ true = lt-ltb (class * 64 + i) 512 (omega (arith, l, k)) in
              let e : On_way ≡ Apart = sym (s.1 ∙ ap (λ c. cond c On_way Apart) c) ∙ z in cc e
        ];
    home = λ class b l o z. h.home class b l o (old b At_home (λ x. cc x) (λ x. cc x) z);
    held = λ b r z. h.held b r (old b (Held r) (λ x. cc x) (λ x. cc x) z);
    gone = λ b k z. h.gone b k (old b (Gone k) (λ x. cc x) (λ x. cc x) z);
    retired = λ b z. h.retired b (old b (Gone number) (λ x. cc x) (λ x. cc x) z);
    few = h.few;
  }
    where
      old : (b : ℕ) (s : Stand) → (On_way ≡ s → ⊥) → (Apart ≡ s → ⊥) → now b ≡ s → at b ≡ s
      old b s n m z = elim (moves b) [
        | inl e ↦ sym e ∙ z
        | inr e ↦ elim (cases_Bool (has_class b)) [
          | inl t ↦ absurd (n (sym (e.1 ∙ ap (λ c. cond c On_way Apart) t) ∙ z))
          | inr f ↦ absurd (m (sym (e.1 ∙ ap (λ c. cond c On_way Apart) f) ∙ z))
        ]
      ]

  -- A block comes home ----------------------------------------------------------------------------------------------

  pub homed_class : (block place class : ℕ) → IsInClass class block → at block ≡ On_way
      → slice_get (board.places class) place ≡ Some None
      → ClassRight script
      (record board { places = updated class (slice_set (board.places class) place (Some block)) board.places })
      (updated block At_home at) blocks number marked turns
  homed_class block place class o way vacant = record {
    made = λ c i l m k z. h.made c i l m k (old (c * 64 + i) Apart (λ x. cc x) z);
    home = λ c b l q z.
        elim (cases_Bool (b == block)) [
          | inl t ↦
              let same : c ≡ class = one_class c class b q (subst (IsInClass class) (sym (eqb-true b block t)) o) in (
                place,
                ap (λ x. slice_get (cond x (slice_set (board.places class) place (Some block)) (board.places c))
                    place) (eq-eqb c class same)
                    ∙ set_at (board.places class) place (Some block) None vacant
                    ∙ ap (λ b. Some (Some b)) (sym (eqb-true b block t)),
              )
          | inr f ↦
              let p = h.home c b l q (sym (ap (λ x. cond x At_home (at b)) f) ∙ z) in (
                p.0,
                elim (cases_Bool (c == class)) [
                  | inr g ↦ ap (λ x. slice_get (cond x (slice_set (board.places class) place (Some block))
                      (board.places c)) p.0) g ∙ p.1
                  | inl g ↦
                      let there : slice_get (board.places class) p.0 ≡ Some (Some b) =
                      ap (λ c. slice_get (board.places c) p.0) (sym (eqb-true c class g)) ∙ p.1 in
                      ap (λ x. slice_get (cond x (slice_set (board.places class) place (Some block))
                      (board.places c)) p.0) g
                      ∙ set_other (board.places class) place p.0 (Some block)
                      (λ s. let e : Some None ≡ Some (Some b) = sym vacant
                      ∙ ap (slice_get (board.places class)) (sym s)
                      ∙ there in let d : None ≡ Some b = cc e in cc d)
                      ∙ there
                ],
              )
        ];
    held = λ b r z. h.held b r (old b (Held r) (λ x. cc x) z);
    gone = λ b k z. h.gone b k (old b (Gone k) (λ x. cc x) z);
    retired = λ b z. h.retired b (old b (Gone number) (λ x. cc x) z);
    few = h.few;
  }
    where
      old : (b : ℕ) (s : Stand) → (At_home ≡ s → ⊥) → updated block At_home at b ≡ s → at b ≡ s
      old b s n z = elim (cases_Bool (b == block)) [
        | inl t ↦ absurd (n (sym (ap (λ x. cond x At_home (at b)) t) ∙ z))
        | inr f ↦ sym (ap (λ x. cond x At_home (at b)) f) ∙ z
      ]

      set_at : {A : Type 0} (xs : List A) (i : ℕ) (x y : A) → slice_get xs i ≡ Some y
          → slice_get (slice_set xs i x) i ≡ Some x
      set_at [] i x y e = absurd (cc e)
      set_at (z ∷ xs) zero x y e = refl
      set_at (z ∷ xs) (suc i) x y e = set_at xs i x y e

-- How a block of a class is taken -----------------------------------------------------------------------------------

pub takes_made : (choice : BlockChoice) (class block : ℕ) (board after : Board)
    → Takes choice class block board after → (c i : ℕ) → i < after.made c → (c * 64 + i ≡ block) ⊎ (i < board.made c)
takes_made choice class block board after (From_home _ _ place _ e) c i l = inr l
takes_made choice class block board after (New_made _ _ less) c i l =
    elim (cases_Bool (c == class)) [
      | inr f ↦ inr (subst (λ n. i < n) (ap (λ x. cond x (suc (board.made class)) (board.made c)) f) l)
      | inl t ↦
          let low : i < suc (board.made class) = subst (λ n. i < n)
          (ap (λ x. cond x (suc (board.made class)) (board.made c)) t) l in
          let same = eqb-true c class t in
          let there = ap board.made same in
          elim (cases_lt i (board.made class)) [
            | inl k ↦ inr (omega (arith, k, there))
            | inr k ↦ inl (omega (arith, k, low, same))
          ]
    ]

pub takes_home : (choice : BlockChoice) (class block : ℕ) (board after : Board)
    → Takes choice class block board after → (c b place : ℕ) → (b ≡ block → ⊥)
    → slice_get (board.places c) place ≡ Some (Some b)
    → (p : ℕ) × (slice_get (after.places c) p ≡ Some (Some b))
takes_home choice class block board after (New_made _ _ less) c b place n e = (place, e)
takes_home choice class block board after (From_home _ _ q _ is) c b place n e = (
  place,
  elim (cases_Bool (c == class)) [
    | inr f ↦ ap (λ x. slice_get (cond x (slice_set (board.places class) q None) (board.places c)) place) f ∙ e
    | inl t ↦
        let there : slice_get (board.places class) place ≡ Some (Some b) =
        ap (λ c. slice_get (board.places c) place) (sym (eqb-true c class t)) ∙ e in
        ap (λ x. slice_get (cond x (slice_set (board.places class) q None) (board.places c)) place) t
        ∙ set_other (board.places class) q place None
        (λ s. let d : Some (Some b) ≡ Some (Some block) = sym there ∙ ap (slice_get (board.places class)) s
        ∙ is in let f : Some b ≡ Some block = cc d in n (let z : b ≡ block = cc f in z))
        ∙ there
  ],
)
