-- The code of a loop follows the loop.
use Rattle.std.proofs.Common.{◌≡◌, ℕ, zero, suc, ◌+◌, ◌-◌, ◌*◌, ◌%◌, ◌^◌, ◌<◌, ◌≤◌, true, false, if◌then◌else◌, ◌⊎◌, inl, inr, List, [], ◌∷◌, ◌++◌, length, Option, Some, None, refl, ap, ◌∙◌, subst, arith, append_assoc, length-append}
use Rattle.std.specs.Prelude.{◌==◌}
use Rattle.std.proofs.lemmas.Bool.{ne_eqb}
use Rattle.shader_model.specs.declared.ids.Ids.{Ids}
use Rattle.shader_model.specs.Invocation.{Slots, State, Flow, Falls, Breaks, Continues, Ends, next_turn, entered, looped}
use Rattle.spirv_model.specs.declared.settings.TheConstants as setting
use Rattle.spirv_model.specs.Op.{Op}
use Rattle.spirv_model.specs.Op as op
use Rattle.spirv_model.specs.Meaning.Values.{Word, Truth}
use Rattle.spirv_model.specs.Meaning.Memory.{Memory}
use Rattle.spirv_model.specs.Meaning.ModuleMeaning.{after_label, goes_to, jumps, runs}
use Rattle.spirv_emit.specs.Lower.{turns, temporary}
use Rattle.spirv_emit.specs.Layout.{Layout, first_code}
use Rattle.spirv_emit.specs.Code.{calculation_size, calculation_ops, choice_ops, choice_end, assign_ops, turns_are_out, one_turn_less, inner_start, loop_ops}
use Rattle.spirv_emit.specs.Frames.{Frame, with_variable, calculated}
use Rattle.spirv_emit.proofs.Meaning.LabelPlaces.{after_append, after_other, Within, within_append, within_more, At, at_after, at_behind, at_same, found}
use Rattle.spirv_emit.proofs.Words.LabelRanges.{assign_free, choice_within}
use Rattle.spirv_emit.proofs.Meaning.HeldFrames.{Pool, holds_same}
use Rattle.spirv_emit.proofs.Meaning.Calculations.{CalculationFits, assign_runs}
use Rattle.spirv_emit.proofs.Meaning.Choices.{ChoicePlaced, choice_placed, choice_length, choice_runs}
use Rattle.spirv_emit.proofs.Meaning.CodeStretches.{Shows, Stands, Finishes, Follows, follows_after, follows_more, from_label, ends_at, choice_follows}

-- ## No run gains turns

abbrev pub Fewer : ℕ → Flow → Type 0
Fewer t (Falls s) = s.turns ≤ t
Fewer t (Breaks s) = s.turns ≤ t
Fewer t (Continues s) = s.turns ≤ t
Fewer t (Ends s) = s.turns ≤ t

suc_not_zero : (n : ℕ) → (suc n == 0) ≡ false
suc_not_zero n = ne_eqb (suc n) 0 (λ e. absurd (omega arith))

-- ## The turns in a frame

less_turn : (t : ℕ) → suc t < 2 ^ 32 → (suc t + (2 ^ 32 - 1) % 2 ^ 32) % 2 ^ 32 ≡ t
less_turn t lt = omega arith

out_value : (ids : Ids) (f : Frame) (t : ℕ) → f.variables turns ≡ t → calculated ids f turns_are_out ≡ Some (Truth (t == 0))
out_value ids f t e = ap (λ k. Some (Truth (k == 0))) e

less_value : (ids : Ids) (f : Frame) (t : ℕ) → f.variables turns ≡ suc t → suc t < 2 ^ 32 → calculated ids f one_turn_less ≡ Some (Word t)
less_value ids f t e lt = ap (λ k. Some (Word ((k + (2 ^ 32 - 1) % 2 ^ 32) % 2 ^ 32))) e ∙ ap (λ k. Some (Word k)) (less_turn t lt)

shows_turn : (temps : ℕ) (f : Frame) (s : State) (t : ℕ) → t < 2 ^ 32 → Shows temps f s → Shows temps (with_variable turns t f) (record s { turns = t })
shows_turn temps f s t lt h = record {
  slots = h.slots;
  turns_left = refl;
  few = lt;
  long = h.long;
  limited = h.limited;
  words = λ r c lr lc. ap (λ b. if b then t else f.variables (temporary r c)) (ne_eqb (temporary r c) turns (λ e. absurd (omega arith))) ∙ h.words r c lr lc;
}

module _ (at : Layout) (Has : ℕ → Type 0) (pool : Pool at Has) (ids : Ids) (temps : ℕ) (all : List Op) (longest : ℕ) where
  -- the calculations of the turns are there
  has_turns : 0 < at.variables → CalculationFits at Has pool ids turns_are_out
  has_turns lt =
      let zero_has = pool.bindings_have 0 (omega arith) in
      record { five = refl; leaves_fit = (lt, (zero_has, (zero_has, (zero_has, (zero_has, tt))))); steps_fit = ((let z : 0 < 5 = omega arith in z, zero_has), tt) }

  has_less : 0 < at.variables → CalculationFits at Has pool ids one_turn_less
  has_less lt =
      let zero_has = pool.bindings_have 0 (omega arith) in
      let one_has = pool.bindings_have 1 (omega arith) in
      record { five = refl; leaves_fit = (lt, (zero_has, (zero_has, (zero_has, (zero_has, tt))))); steps_fit = ((let z : 0 < 5 = omega arith in z, one_has), tt) }

  -- ## The loop's parts, each up to the end of the code

  abbrev loop_test : ℕ → List Op
  loop_test n = choice_ops at (n + 4) turns_are_out (op.Return ∷ []) (op.Branch (n + 4 + calculation_size turns_are_out + 2) ∷ [])

  abbrev loop_count : ℕ → List Op
  loop_count n = assign_ops at (choice_end (n + 4) turns_are_out) turns one_turn_less

  abbrev from_again : ℕ → List Op → List Op
  from_again n rest = op.Branch n ∷ op.Label (n + 1) ∷ rest

  abbrev pub from_inner : ℕ → List Op → List Op → List Op
  from_inner n inner rest = inner ++ (op.Label (n + 2) ∷ from_again n rest)

  abbrev from_test : ℕ → List Op → List Op → List Op
  from_test n inner rest = loop_test n ++ (loop_count n ++ from_inner n inner rest)

  abbrev from_header : ℕ → List Op → List Op → List Op
  from_header n inner rest = op.LoopMerge (n + 1) (n + 2) setting.NO_CONTROL ∷ op.Branch (n + 3) ∷ op.Label (n + 3) ∷ from_test n inner rest

  pub record LoopPlaced (n hi : ℕ) (inner rest : List Op) : Type 0 where
    pub header : after_label n all ≡ Some (from_header n inner rest)
    pub test : after_label (n + 3) all ≡ Some (from_test n inner rest)
    pub again : after_label (n + 2) all ≡ Some (from_again n rest)
    pub behind : after_label (n + 1) all ≡ Some rest
    pub choice : ChoicePlaced at all (n + 4 + calculation_size turns_are_out) (choice_end (n + 4) turns_are_out) (choice_end (n + 4) turns_are_out) (op.Return ∷ []) (op.Branch (n + 4 + calculation_size turns_are_out + 2) ∷ []) (loop_count n ++ from_inner n inner rest)
    pub at_inner : At all (inner_start n) (from_inner n inner rest)
    pub at_rest : At all hi rest

  pub loop_placed : (n hi : ℕ) (inner rest : List Op) → inner_start n ≤ hi → Within (inner_start n) hi inner → At all n (loop_ops at n inner ++ rest) → LoopPlaced n hi inner rest
  loop_placed n hi inner rest le w h =
      let t = turns_are_out in
      let l = n + 4 + calculation_size t in
      let body = loop_test n ++ (loop_count n ++ inner) in
      let f1 = op.Branch n ∷ [] in
      let f2 = op.Branch n ∷ op.Label n ∷ op.LoopMerge (n + 1) (n + 2) setting.NO_CONTROL ∷ op.Branch (n + 3) ∷ [] in
      let f3 = op.Branch n ∷ op.Label n ∷ op.LoopMerge (n + 1) (n + 2) setting.NO_CONTROL ∷ op.Branch (n + 3) ∷ op.Label (n + 3) ∷ body in
      let f4 = f3 ++ (op.Label (n + 2) ∷ op.Branch n ∷ []) in
      let count_in : (lo top : ℕ) → Within lo top (loop_count n) = λ lo top. record { out = λ k z. assign_free at one_turn_less (choice_end (n + 4) turns_are_out) turns k } in
      let test_in : Within (n + 4) hi (loop_test n) = choice_within at (n + 4) t (op.Return ∷ []) (op.Branch (l + 2) ∷ []) hi (omega arith) (record { out = λ k z. refl }) (record { out = λ k z. refl }) in
      let body_in : Within (n + 4) hi body = within_append (n + 4) hi (loop_test n) _ test_in (within_append (n + 4) hi (loop_count n) inner (count_in (n + 4) hi) (within_more (inner_start n) hi (n + 4) hi inner (omega arith) (omega arith) w)) in
      let free2 : (k : ℕ) → (n ≡ k → ⊥) → after_label k f2 ≡ None = λ k ne. after_other k n (op.LoopMerge (n + 1) (n + 2) setting.NO_CONTROL ∷ op.Branch (n + 3) ∷ []) ne in
      let free3 : (k : ℕ) → (n ≡ k → ⊥) → (n + 3 ≡ k → ⊥) → (k < n + 4) ⊎ (hi ≤ k) → after_label k f3 ≡ None =
      λ k ne ne' z. after_other k n (op.LoopMerge (n + 1) (n + 2) setting.NO_CONTROL ∷ op.Branch (n + 3) ∷ op.Label (n + 3) ∷ body) ne ∙ after_other k (n + 3) body ne' ∙ body_in.out k z in
      let free4 : (k : ℕ) → (n ≡ k → ⊥) → (n + 3 ≡ k → ⊥) → (n + 2 ≡ k → ⊥) → (k < n + 4) ⊎ (hi ≤ k) → after_label k f4 ≡ None =
      λ k ne ne' ne'' z. after_append k f3 _ (free3 k ne ne' z) ∙ after_other k (n + 2) (op.Branch n ∷ []) ne'' in
      let e3 : loop_ops at n inner ++ rest ≡ f3 ++ (op.Label (n + 2) ∷ from_again n rest) = simp append_assoc in
      let e1 : loop_ops at n inner ++ rest ≡ f1 ++ (op.Label n ∷ from_header n inner rest) = simp append_assoc in
      let e2 : loop_ops at n inner ++ rest ≡ f2 ++ (op.Label (n + 3) ∷ from_test n inner rest) = simp append_assoc in
      let e4 : loop_ops at n inner ++ rest ≡ f4 ++ (op.Label (n + 1) ∷ rest) = simp append_assoc in
      let h1 = at_same all n _ _ e1 h in
      let h2 = at_same all n _ _ e2 h in
      let h3 = at_same all n _ _ e3 h in
      let h4 = at_same all n _ _ e4 h in
      let at_test = at_behind all n (n + 3) (n + 4) f2 (from_test n inner rest) (omega arith) (omega arith) (λ k z. free2 k (λ e. absurd (omega arith))) h2 in
      let placed = choice_placed at all (n + 4) t (op.Return ∷ []) (op.Branch (l + 2) ∷ []) (loop_count n ++ from_inner n inner rest) (l + 3) (l + 3) (omega arith) (omega arith) (record { out = λ k z. refl }) (record { out = λ k z. refl }) at_test in
      record {
        header = found all n n f1 _ (omega arith) refl h1;
        test = found all n (n + 3) f2 _ (omega arith) (free2 (n + 3) (λ e. absurd (omega arith))) h2;
        again = found all n (n + 2) f3 _ (omega arith) (free3 (n + 2) (λ e. absurd (omega arith)) (λ e. absurd (omega arith)) (inl (omega arith))) h3;
        behind = found all n (n + 1) f4 _ (omega arith) (free4 (n + 1) (λ e. absurd (omega arith)) (λ e. absurd (omega arith)) (λ e. absurd (omega arith)) (inl (omega arith))) h4;
        choice = placed;
        at_inner = at_after all (l + 3) (l + 3) (inner_start n) (loop_count n) (from_inner n inner rest) (omega arith) (count_in (l + 3) (inner_start n)) placed.at_rest;
        at_rest = at_behind all n (n + 1) hi f4 rest (omega arith) (omega arith) (λ k z. free4 k (λ e. absurd (omega arith)) (λ e. absurd (omega arith)) (λ e. absurd (omega arith)) (inr z)) h4;
      }

  -- what one turn costs, beside the turns in it
  abbrev pub turn_cost : ℕ → List Op → ℕ
  turn_cost n inner = 2 + length (loop_test n) + length (loop_count n) + length inner + 1

  pub loop_length : (n : ℕ) (inner : List Op) → 1 + turn_cost n inner ≤ length (loop_ops at n inner)
  loop_length n inner =
      omega (arith, length-append (loop_test n) (loop_count n ++ (inner ++ (op.Label (n + 2) ∷ op.Branch n ∷ op.Label (n + 1) ∷ []))), length-append (loop_count n) (inner ++ (op.Label (n + 2) ∷ op.Branch n ∷ op.Label (n + 1) ∷ [])), length-append inner (op.Label (n + 2) ∷ op.Branch n ∷ op.Label (n + 1) ∷ []))

  abbrev pub Looks : ℕ → ℕ → Memory → Option Slots
  Looks n j m = jumps all n (runs ids all j) m

  -- from the label of the header to the test of the turns
  to_test : (n hi : ℕ) (inner rest : List Op) (m : Memory) (j : ℕ) → LoopPlaced n hi inner rest → Looks n (2 + j) m ≡ runs ids all j (from_test n inner rest) m
  to_test n hi inner rest m j p =
      ap (λ o. goes_to o (runs ids all (2 + j)) m) p.header
      ∙ ap (λ k. runs ids all k (from_header n inner rest) m) (let z : 2 + j ≡ suc (suc j) = omega arith in z)
      ∙ ap (λ o. goes_to o (runs ids all j) m) p.test

  module _ (n hi : ℕ) (inner : State → Flow) (code rest : List Op) (le : first_code at ≤ n) (some : 0 < at.variables) (p : LoopPlaced n hi code rest) (short : turn_cost n code ≤ longest) (fewer : (s : State) → Fewer s.turns (inner s)) (follows : (s : State) (m : Memory) → Stands at Has pool ids temps all longest s m → Follows at Has pool ids temps all longest (λ j. runs ids all j (from_inner n code rest) m) (length code + s.turns * longest) (n + 2) (n + 1) (n + 2) (inner s)) where
    -- no turn is left
    turn_ends : (s : State) (m : Memory) → s.turns ≡ 0 → Stands at Has pool ids temps all longest s m → Finishes at Has pool ids temps all longest (λ j. Looks n j m) (turn_cost n code + s.turns * longest) s
    turn_ends s m e st =
        let r = choice_follows at Has pool ids temps all longest (n + 4) turns_are_out (op.Return ∷ []) (op.Branch (n + 4 + calculation_size turns_are_out + 2) ∷ []) (loop_count n ++ from_inner n code rest) _ _ 0 0 0 s m true (Ends s) (Ends s) st (omega arith) p.choice (has_turns some) (out_value ids st.frame 0 (st.shows.turns_left ∙ e))
        (λ x m' st'. ends_at at Has pool ids temps all longest _ s m' st')
        (λ x. absurd (cc)) in
        follows_after at Has pool ids temps all longest (λ j. Looks n j m) (λ j. runs ids all j (from_test n code rest) m) 2 _ _ 0 0 0 (Ends s) (omega arith) (λ j. to_test n hi code rest m j p) r

    record Entered (t : ℕ) (s : State) (m : Memory) : Type 0 where
      memory : Memory
      stands : Stands at Has pool ids temps all longest (record s { turns = t }) memory
      by : (j : ℕ) → Looks n (2 + length (calculation_ops at (n + 4) turns_are_out) + 3 + length (loop_count n) + j) m ≡ runs ids all j (from_inner n code rest) memory

    -- a turn is taken
    turn_entered : (t : ℕ) (s : State) (m : Memory) → s.turns ≡ suc t → Stands at Has pool ids temps all longest s m → Entered t s m
    turn_entered t s m e st =
        let l = n + 4 + calculation_size turns_are_out in
        let second = op.Branch (l + 2) ∷ [] in
        let more = loop_count n ++ from_inner n code rest in
        let here = st.shows.turns_left ∙ e in
        let r = choice_runs at all Has pool ids (n + 4) turns_are_out st.frame m false (op.Return ∷ []) second more (l + 3) (l + 3) (omega arith) p.choice (has_turns some) st.holds (out_value ids st.frame (suc t) here ∙ ap (λ b. Some (Truth b)) (suc_not_zero t)) in
        let m1 = r.memory in
        let h1 = holds_same at Has pool ids st.frame (n + 4) m m1 (omega arith) r.same st.holds in
        let few : suc t < 2 ^ 32 = subst (λ k. k < 2 ^ 32) e st.shows.few in
        let a = assign_runs at Has pool ids all (l + 3) turns one_turn_less st.frame m1 t (from_inner n code rest) (omega arith) some (has_less some) h1 (less_value ids st.frame t here few) in
        let c = length (calculation_ops at (n + 4) turns_are_out) in
        record {
          memory = a.memory;
          stands = record { frame = with_variable turns t st.frame; holds = a.holds; shows = shows_turn temps st.frame s t (omega (arith, few)) st.shows };
          by = λ j.
              ap (λ k. Looks n k m) (let z : 2 + c + 3 + length (loop_count n) + j ≡ 2 + (c + 2 + suc (length (loop_count n) + j)) = omega arith in z)
              ∙ to_test n hi code rest m (c + 2 + suc (length (loop_count n) + j)) p
              ∙ r.by (suc (length (loop_count n) + j))
              ∙ ap (λ o. goes_to o (runs ids all (length (loop_count n) + j)) m1) p.choice.behind
              ∙ a.by j;
        }

    again_follows : (x y : ℕ) (s : State) (flow : Flow) → ((m : Memory) → Stands at Has pool ids temps all longest s m → Follows at Has pool ids temps all longest (λ j. Looks n j m) (turn_cost n code + s.turns * longest) (n + 1) x y flow) → (m : Memory) → Stands at Has pool ids temps all longest s m → Follows at Has pool ids temps all longest (λ j. runs ids all j (from_again n rest) m) (1 + turn_cost n code + s.turns * longest) (n + 1) x y flow
    again_follows x y s flow next m st =
        follows_after at Has pool ids temps all longest _ (λ j. Looks n j m) 1 _ _ (n + 1) x y flow (omega arith) (λ j. ap (λ k. runs ids all k (from_again n rest) m) (let z : 1 + j ≡ suc j = omega arith in z)) (next m st)

    turn_next : (x y bound t : ℕ) (start : ℕ → Option Slots) (flow : Flow) (go : State → Flow) → Fewer t flow → ((s : State) (m : Memory) → s.turns ≤ t → Stands at Has pool ids temps all longest s m → Follows at Has pool ids temps all longest (λ j. Looks n j m) (turn_cost n code + s.turns * longest) (n + 1) x y (go s)) → Follows at Has pool ids temps all longest start bound (n + 2) (n + 1) (n + 2) flow → Follows at Has pool ids temps all longest start (bound + (1 + turn_cost n code)) (n + 1) x y (next_turn flow go)
    turn_next x y bound t start (Falls s) go h next r = from_label at Has pool ids temps all longest start bound (1 + turn_cost n code) (n + 2) (n + 1) x y (from_again n rest) s (go s) p.again (again_follows x y s (go s) (λ m st. next s m h st)) r
    turn_next x y bound t start (Continues s) go h next r = from_label at Has pool ids temps all longest start bound (1 + turn_cost n code) (n + 2) (n + 1) x y (from_again n rest) s (go s) p.again (again_follows x y s (go s) (λ m st. next s m h st)) r
    turn_next x y bound t start (Breaks s) go h next r = follows_more at Has pool ids temps all longest start _ bound (n + 1) x y (Falls s) (omega arith) r
    turn_next x y bound t start (Ends s) go h next r = follows_more at Has pool ids temps all longest start _ bound (n + 1) x y (Ends s) (omega arith) r

    turn_follows : (x y : ℕ) (t : ℕ) (s : State) (m : Memory) (go : State → Flow) → s.turns ≡ t → ((s : State) (m : Memory) → s.turns < t → Stands at Has pool ids temps all longest s m → Follows at Has pool ids temps all longest (λ j. Looks n j m) (turn_cost n code + s.turns * longest) (n + 1) x y (go s)) → Stands at Has pool ids temps all longest s m → Follows at Has pool ids temps all longest (λ j. Looks n j m) (turn_cost n code + s.turns * longest) (n + 1) x y (entered t s (λ s'. next_turn (inner s') go))
    turn_follows x y zero s m go e next st = turn_ends s m e st
    turn_follows x y (suc t) s m go e next st =
        let s' = record s { turns = t } in
        let en = turn_entered t s m e st in
        let ri = follows s' en.memory en.stands in
        let r = turn_next x y _ t _ (inner s') go (fewer s') (λ s2 m2 lt st2. next s2 m2 (omega arith) st2) ri in
        let pays : s.turns * longest ≡ t * longest + longest = ap (λ k. k * longest) e ∙ (let z : suc t * longest ≡ t * longest + longest = omega arith in z) in
        follows_after at Has pool ids temps all longest (λ j. Looks n j m) (λ j. runs ids all j (from_inner n code rest) en.memory) _ _ _ (n + 1) x y (next_turn (inner s') go) (omega (arith, pays, short, choice_length at all (n + 4) turns_are_out (op.Return ∷ []) (op.Branch (n + 4 + calculation_size turns_are_out + 2) ∷ []))) en.by r

    pub looped_follows : (x y : ℕ) (k : ℕ) (s : State) (m : Memory) → s.turns ≤ k → Stands at Has pool ids temps all longest s m → Follows at Has pool ids temps all longest (λ j. Looks n j m) (turn_cost n code + s.turns * longest) (n + 1) x y (looped k inner s)
    looped_follows x y zero s m few st = turn_ends s m (omega arith) st
    looped_follows x y (suc k) s m few st = turn_follows x y s.turns s m (looped k inner) refl (λ s2 m2 lt st2. looped_follows x y k s2 m2 (omega arith) st2) st
