-- Whether App can act is decided, and what it leaves.
use Rattle.std.proofs.Common.{◌≡◌, ℕ, zero, suc, ◌+◌, ◌*◌, ◌≤◌, true, false, cond, nat_le, List, [], ◌∷◌, ◌++◌}
use Rattle.std.proofs.Common.{length, refl, sym, ap, ◌∙◌, subst, inl, inr, ◌⊎◌, Option, Some, None, slice_get}
use Rattle.std.proofs.Common.{slice_set, arith, length-append, append_assoc, append-nil}
use Rattle.std.proofs.lemmas.Bool.{cases_Bool, leb-true, le-leb, cases_lt}
use Rattle.dx_types.specs.declared.range.Range.{Range}
use Rattle.vk_types.specs.Effects.{Meaning}
use Rattle.core_model.specs.Script.{Play, Create, Discard, No_overwrite, Stage, Command, Destroy, Create_shader}
use Rattle.core_model.specs.Script.{Mark_query, Set_state, Turn, Refused, Passed, Flushed, Asked, Item, Script}
use Rattle.core_model.specs.Script.{updated}
use Rattle.core_model.specs.Chunking.{is_due}
use Rattle.core_model.specs.CoreState.{Page, Newest, Pool, Board, Message, Core, of_messages, of_running}
use Rattle.core_model.specs.CoreState.{last_finished, done, End_said}
use Rattle.core_model.specs.Readings.{First_choices, may_hand_over}
use Rattle.core_model.specs.Placing.{BlockChoice, At_home, New_block, Takes, From_home, New_made, first_home}
use Rattle.core_model.specs.Placing.{TakesBlock, Staged, Newest_page, Spare_page, New_page, newest_fits, On_newest}
use Rattle.core_model.specs.Placing.{On_spare, On_new, first_long, first_page, StagesBytes}
use Rattle.core_model.specs.Adding.{with_turn, with_reply}
use Rattle.core_model.specs.Playing.{HasBlock, Own, Of_class, Plays}
use Rattle.core_model.specs.AppActs.{is_finished, TakesTurn, handed_over, Acts}
use Rattle.core_model.specs.TakingPosts.{TakesPosts, with_post, with_fence}
use Rattle.core_model.specs.Runs.{App_acts, IsEnabled}
use Rattle.core_model.proofs.Ends.Deciding.{Decided}
use Rattle.core_model.proofs.Steps.Segments.{get_middle}

-- Blocks and pages --------------------------------------------------------------------------------------------------

home_or_none : (at : ℕ) (ps : List (Option ℕ)) → ((j : ℕ) × (b : ℕ) × (first_home at ps ≡ At_home (at + j))
    × (slice_get ps j ≡ Some (Some b))) ⊎ (first_home at ps ≡ New_block)
home_or_none at [] = inr refl
home_or_none at (Some b ∷ ps) = inl (0, b, (let z : at ≡ at + 0 = omega arith in ap At_home z), refl)
home_or_none at (None ∷ ps) = elim (home_or_none (suc at) ps) [
  | inl x ↦ inl (suc x.0, x.1, x.2 ∙ (let z : suc at + x.0 ≡ at + suc x.0 = omega arith in ap At_home z), x.3)
  | inr x ↦ inr x
]

-- a block of the class, by the choice of the core
pub class_block : (board : Board) (class : ℕ) → ((block : ℕ) × (new : Board)
    × TakesBlock First_choices class block board new)
    ⊎ ((first_home 0 (board.places class) ≡ New_block) × (64 ≤ board.made class))
class_block board class = elim (home_or_none 0 (board.places class)) [
  | inl x ↦
      let same : first_home 0 (board.places class) ≡ At_home x.0 = x.2
      ∙ (let z : 0 + x.0 ≡ x.0 = omega arith in ap At_home z) in
      inl (
        x.1,
        record board { places = updated class (slice_set (board.places class) x.0 None) board.places },
        (At_home x.0, From_home class x.1 x.0 board x.3, λ h. sym same),
      )
  | inr x ↦ elim (cases_lt (board.made class) 64) [
    | inl l ↦ inl (
      class * 64 + board.made class,
      record board {
        made =
            updated class (suc (board.made class)) board.made;
      },
      (New_block, New_made class board l, λ h. sym x),
    )
    | inr l ↦ inr (x, l)
  ]
]

no_takes : (choice : BlockChoice) (class block : ℕ) (old new : Board) → choice ≡ New_block → 64 ≤ old.made class
    → Takes choice class block old new → ⊥
no_takes choice class block old new e l (From_home _ _ place _ h) = cc e
no_takes choice class block old new e l (New_made _ _ less) = omega (arith, l, less)

no_class_block : (class block : ℕ) (old new : Board) → first_home 0 (old.places class) ≡ New_block
    → 64 ≤ old.made class → TakesBlock First_choices class block old new → ⊥
no_class_block class block old new e l t = no_takes t.0 class block old new (t.2 refl ∙ e) l t.1

long_page : (at len : ℕ) (front ps : List Page) → length front ≡ at
    → ((more : List Page) × (p : Page) × (back : List Page) × (front ++ ps ≡ (front ++ more) ++ p ∷ back)
    × (nat_le len p.len ≡ true) × (first_long at len ps ≡ Spare_page (length (front ++ more))))
    ⊎ (first_long at len ps ≡ New_page)
long_page at len front [] e = inr refl
long_page at len front (p ∷ ps) e = elim (cases_Bool (nat_le len p.len)) [
  | inl t ↦
      let same : at ≡ length (front ++ []) = sym e ∙ ap length (sym (append-nil front)) in
      inl (
        [],
        p,
        ps,
        ap (λ l. l ++ p ∷ ps) (sym (append-nil front)),
        t,
        ap (λ c. cond c (Spare_page at) (first_long (suc at) len ps)) t ∙ ap Spare_page same,
      )
  | inr f ↦
      let long : length (front ++ p ∷ []) ≡ suc at = let z = length-append front (p ∷ []) in omega (arith, z, e) in
      elim (long_page (suc at) len (front ++ p ∷ []) ps long) [
        | inl x ↦ inl (
          p ∷ x.0,
          x.1,
          x.2,
          sym (append_assoc front (p ∷ []) ps) ∙ x.3 ∙ ap (λ l. l ++ x.1 ∷ x.2) (append_assoc front (p ∷ []) x.0),
          x.4,
          ap (λ c. cond c (Spare_page at) (first_long (suc at) len ps)) f ∙ x.5
              ∙ ap (λ l. Spare_page (length l)) (append_assoc front (p ∷ []) x.0),
        )
        | inr x ↦ inr (ap (λ c. cond c (Spare_page at) (first_long (suc at) len ps)) f ∙ x)
      ]
]

-- bytes are staged somewhere
pub page_for : (len : ℕ) (pool : Pool) → (s : Staged) × (new : Pool) × StagesBytes First_choices len s pool new
page_for len pool = by pool.newest refl
  where
    not_newest : newest_fits len pool.newest ≡ false → (s : Staged) × (new : Pool)
        × StagesBytes First_choices len s pool new
    not_newest f = elim (long_page 0 len [] pool.spare refl) [
      | inl x ↦
          let same : first_page len pool ≡ Spare_page (length x.0) =
          ap (λ c. cond c Newest_page (first_long 0 len pool.spare)) f ∙ x.5 in (
            _,
            _,
            (
              Spare_page (length x.0),
              On_spare len pool x.0 x.1 x.2 x.1.len x.3 x.4 f,
              (λ h. sym same),
              λ h. (
                ap (λ l. slice_get l (length x.0)) x.3 ∙ get_middle x.0 x.1 x.2,
                tt,
              ),
            ),
          )
      | inr x ↦
          let same : first_page len pool ≡ New_page = ap (λ c. cond c Newest_page (first_long 0 len pool.spare)) f
          ∙ x in
          (_, _, (New_page, On_new len pool f, (λ h. sym same), λ h. tt))
    ]

    by : (o : Option Newest) → pool.newest ≡ o → (s : Staged) × (new : Pool) × StagesBytes First_choices len s pool new
    by None e = not_newest (ap (newest_fits len) e)
    by (Some n) e = elim (cases_Bool (newest_fits len (Some n))) [
      | inl t ↦
          let same : first_page len pool ≡ Newest_page = ap (λ c. cond c Newest_page (first_long 0 len pool.spare))
          (ap (newest_fits len) e ∙ t) in
          (_, _, (Newest_page, On_newest len pool n e t, (λ h. sym same), λ h. tt))
      | inr f ↦ not_newest (ap (newest_fits len) e ∙ f)
    ]

-- A turn ------------------------------------------------------------------------------------------------------------

module _ (script : Script) where
  abbrev Has : ℕ → Core → Type 0
  Has buffer old = (block : ℕ) × (mid : Core) × HasBlock First_choices script buffer block old mid

  -- why a block for the buffer can't be had
  abbrev pub Lacks : ℕ → Core → Type 0
  Lacks buffer old = (class : ℕ) × (script.class buffer ≡ Some class)
      × (first_home 0 (old.board.places class) ≡ New_block) × (64 ≤ old.board.made class)

  block_for : (buffer : ℕ) (old : Core) → Has buffer old ⊎ Lacks buffer old
  block_for buffer old = by (script.class buffer) refl
    where
      by : (o : Option ℕ) → script.class buffer ≡ o → Has buffer old ⊎ Lacks buffer old
      by None e = inl (
        old.pool.next,
        record old { pool = record old.pool { next = suc old.pool.next } },
        Own First_choices script buffer old e,
      )
      by (Some class) e = elim (class_block old.board class) [
        | inl x ↦ inl (x.0, record old { board = x.1 }, Of_class First_choices script buffer class x.0 old x.1 e x.2)
        | inr x ↦ inr (class, e, x.0, x.1)
      ]

  no_block : (buffer block : ℕ) (old mid : Core) → Lacks buffer old
      → HasBlock First_choices script buffer block old mid → ⊥
  no_block buffer block old mid l (Own _ _ _ _ e) = let z : None ≡ Some l.0 = sym e ∙ l.1 in cc z
  no_block buffer block old mid l (Of_class _ _ _ class _ _ board e t) =
      let z : Some class ≡ Some l.0 = sym e ∙ l.1 in
      let same : class ≡ l.0 = cc z in
      no_class_block class block old.board board (ap (λ c. first_home 0 (old.board.places c)) same
      ∙ l.2) (subst (λ c. 64 ≤ old.board.made c) (sym same) l.3) t

  abbrev pub CanPlay : ℕ → ℕ → Play → List Range → Core → Type 0
  CanPlay call item play bound old = (new : Core) × Plays First_choices script call item play bound old new

  -- a play that needs no block of a class can be played, and one that has it
  pub play_goes : (call item : ℕ) (play : Play) (bound : List Range) (old : Core)
      → ((buffer : ℕ) → Lacks buffer old → ⊥) → CanPlay call item play bound old
  play_goes call item (Create buffer bytes) bound old has = elim (block_for buffer old)
      [ inl x ↦ (_, (x.0, x.1, x.2, refl)) | inr x ↦ absurd (has buffer x) ]
  play_goes call item (Discard buffer from bytes) bound old has =
      elim (block_for buffer old) [ inl x ↦ (_, (x.0, x.1, x.2, refl)) | inr x ↦ absurd (has buffer x) ]
  play_goes call item (No_overwrite buffer from bytes) bound old has = (_, refl)
  play_goes call item (Stage [] target skip) bound old has = (_, refl)
  play_goes call item (Stage (b ∷ bs) target skip) bound old has = let p = page_for (length (b ∷ bs)) old.pool in
      (_, (p.0, p.1, p.2, refl))
  play_goes call item (Command w skip) bound old has = (_, refl)
  play_goes call item (Destroy buffer) bound old has = (_, refl)
  play_goes call item Create_shader bound old has = (_, refl)
  play_goes call item (Mark_query query begins) bound old has = (_, refl)
  play_goes call item Set_state bound old has = (_, refl)

  decide_play : (call item : ℕ) (play : Play) (bound : List Range) (old : Core) → CanPlay call item play bound old
      ⊎ (CanPlay call item play bound old → ⊥)
  decide_play call item (Create buffer bytes) bound old = elim (block_for buffer old)
      [ inl x ↦ inl (_, (x.0, x.1, x.2, refl)) | inr x ↦ inr (λ p. no_block buffer p.1.0 old p.1.1 x p.1.2) ]
  decide_play call item (Discard buffer from bytes) bound old =
      elim (block_for buffer old) [
        | inl x ↦ inl (_, (x.0, x.1, x.2, refl))
        | inr x ↦ inr
            (λ p. no_block buffer p.1.0 old p.1.1 x p.1.2)
      ]
  decide_play call item (No_overwrite buffer from bytes) bound old = inl (_, refl)
  decide_play call item (Stage [] target skip) bound old = inl (_, refl)
  decide_play call item (Stage (b ∷ bs) target skip) bound old = let p = page_for (length (b ∷ bs)) old.pool in
      inl (_, (p.0, p.1, p.2, refl))
  decide_play call item (Command w skip) bound old = inl (_, refl)
  decide_play call item (Destroy buffer) bound old = inl (_, refl)
  decide_play call item Create_shader bound old = inl (_, refl)
  decide_play call item (Mark_query query begins) bound old = inl (_, refl)
  decide_play call item Set_state bound old = inl (_, refl)

  abbrev CanTake : Turn → List Turn → Core → Type 0
  CanTake t turns old = (new : Core) × TakesTurn First_choices script t turns old new

  decide_turn : (t : Turn) (turns : List Turn) (old : Core) → CanTake t turns old ⊎ (CanTake t turns old → ⊥)
  decide_turn (Refused call) turns old = inl (_, refl)
  decide_turn (Passed call) turns old = inl (_, refl)
  decide_turn (Flushed call) turns old = inl (_, refl)
  decide_turn (Asked call ask used may_pend) turns old = elim (cases_Bool (is_finished used (done old))) [
    | inl t ↦ inl (_, inl (t, refl))
    | inr f ↦ elim (cases_Bool may_pend) [
      | inl m ↦ inl (_, inr (f, m, refl))
      | inr m ↦ inr (λ p. elim p.1 [
        | inl x ↦ let z : true ≡ false = sym x.0 ∙ f in cc z
        | inr x ↦ let z : true ≡ false = sym x.1 ∙ m in cc z
      ])
    ]
  ]
  decide_turn (Item call item ends play bound) turns old = decide_play call item play bound
      (with_turn (Item call item ends play bound) turns old)

  abbrev pub CanAct : Core → Type 0
  CanAct old = (new : Core) × Acts First_choices script old new

  pub decide_act : (old : Core) → old.ended ≡ false → CanAct old ⊎ (CanAct old → ⊥)
  decide_act old goes_on = elim (cases_Bool (is_due script old.open_chunk.turns old.future)) [
    | inl due ↦ elim (cases_Bool (may_hand_over First_choices old)) [
      | inl m ↦ inl (handed_over old, (goes_on, inl (due, m, refl)))
      | inr m ↦ inr (λ p. elim p.1.1 [
        | inl x ↦ let z : true ≡ false = sym x.1 ∙ m in cc z
        | inr x ↦ elim x [
          | inl y ↦ (let z : true ≡ false = sym due
              ∙ y.0 in cc z)
          | inr y ↦ (let z : true ≡ false = sym due ∙ y.0 in cc z)
        ]
      ])
    ]
    | inr due ↦ by old.future refl due
  ]
    where
      by : (future : List Turn) → old.future ≡ future → is_due script old.open_chunk.turns old.future ≡ false
          → CanAct old ⊎ (CanAct old → ⊥)
      by [] e due =
          elim (cases_Bool
          (nat_le (last_finished
          (old.taken ++
          (of_messages old.posts ++ (of_messages old.completions
          ++ (of_running old.accepted ++ (old.submissions ++ (old.batches ++ old.chunks))))))) (done old))) [
            | inl t ↦ inl (
              with_reply End_said (record old { ended = true }),
              (goes_on, inr (inr (due, e, leb-true _ (done old) t, refl))),
            )
            | inr f ↦ inr (λ p. elim p.1.1 [
              | inl x ↦ let z : true ≡ false = sym x.0 ∙ due in cc z
              | inr x ↦ elim x [
                | inl y ↦ let z : [] ≡ y.1 ∷ y.2 = sym e ∙ y.3 in cc z
                | inr y ↦ let z : true ≡ false = sym (le-leb _ (done old) y.2) ∙ f in cc z
              ]
            ])
          ]
      by (t ∷ turns) e due = elim (decide_turn t turns old) [
        | inl n ↦ inl (n.0, (goes_on, inr (inl (due, t, turns, e, n.1))))
        | inr n ↦ inr (λ p. elim p.1.1 [
          | inl x ↦ let z : true ≡ false = sym x.0 ∙ due in cc z
          | inr x ↦ elim x [
            | inr y ↦ let z : t ∷ turns ≡ [] = sym e ∙ y.1 in cc z
            | inl y ↦
                let s : t ∷ turns ≡ y.1 ∷ y.2 = sym e ∙ y.3 in
                let first : t ≡ y.1 = cc s in
                let others : turns ≡ y.2 = cc s in
                n (
                  p.0,
                  subst (λ u. TakesTurn First_choices script u turns old p.0) (sym first)
                      (subst (λ us. TakesTurn First_choices script y.1 us old p.0) (sym others) y.4),
                )
          ]
        ])
      ]

-- App ---------------------------------------------------------------------------------------------------------------

-- all posts are taken
pub take_all : (ps : List Message) (old : Core) → old.posts ≡ ps → (mid : Core) × TakesPosts (length ps) old mid
    × (mid.ended ≡ old.ended)
take_all [] old e = (old, refl, refl)
take_all (m ∷ ms) old e = let r = take_all ms (with_post m ms old) refl in (r.0, (m, ms, e, r.1), r.2)

pub posts_unique : (n : ℕ) (old a b : Core) → TakesPosts n old a → TakesPosts n old b → a ≡ b
posts_unique zero old a b p q = p ∙ sym q
posts_unique (suc n) old a b p q =
    let z : p.0 ∷ p.1 ≡ q.0 ∷ q.1 = sym p.2 ∙ q.2 in
    let m : p.0 ≡ q.0 = cc z in
    let ms : p.1 ≡ q.1 = cc z in
    posts_unique n (with_post p.0 p.1 old) a b p.3 (subst (λ x. TakesPosts n (with_post x p.1 old) b) (sym m)
    (subst (λ xs. TakesPosts n (with_post q.0 xs old) b) (sym ms) q.3))

fence_ended : (n : ℕ) (core : Core) → (with_fence n core).ended ≡ core.ended
fence_ended zero core = refl
fence_ended (suc n) core = refl

module _ (meaning : Meaning) (script : Script) (old : Core) (goes_on : old.ended ≡ false) where
  pub decide_app : Decided meaning script old App_acts
  decide_app =
      let n = length old.posts in
      let r = take_all old.posts old refl in
      let core = with_fence n r.0 in
      let still : core.ended ≡ false = fence_ended n r.0 ∙ r.2 ∙ goes_on in
      elim (decide_act script core still) [
        | inl a ↦ inl (a.0, (goes_on, (goes_on, (λ h. refl), r.0, r.1, inl a.1)))
        | inr f ↦ elim (cases_lt 0 n) [
          | inl l ↦ inl (core, (goes_on, (goes_on, (λ h. refl), r.0, r.1, inr (l, (λ other a. f (other, a)), refl))))
          | inr l ↦ inr (λ p.
              let same : p.1.1.2 ≡ r.0 = posts_unique n old p.1.1.2 r.0 p.1.1.3 r.1 in
              elim p.1.1.4 [
                | inl a ↦ f (p.0, subst (λ m. Acts First_choices script (with_fence n m) p.0) same a)
                | inr a ↦ let s = a.0 in omega (arith, l, s)
              ])
        ]
      ]

  -- with a post App is enabled
  pub app_with_posts : (m : Message) (ms : List Message) → old.posts ≡ m ∷ ms → IsEnabled meaning script old App_acts
  app_with_posts m ms e = elim decide_app [
    | inl x ↦ x
    | inr f ↦
        let n = length old.posts in
        let r = take_all old.posts old refl in
        let core = with_fence n r.0 in
        let still : core.ended ≡ false = fence_ended n r.0 ∙ r.2 ∙ goes_on in
        let some : n ≡ suc (length ms) = ap length e in
        elim (decide_act script core still) [
          | inl a ↦ (a.0, (goes_on, (goes_on, (λ h. refl), r.0, r.1, inl a.1)))
          | inr g ↦ (
            core,
            (goes_on, (goes_on, (λ h. refl), r.0, r.1, inr (omega (arith, some), (λ other a. g (other, a)), refl))),
          )
        ]
  ]
