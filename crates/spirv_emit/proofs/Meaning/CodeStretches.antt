-- Stretches of code, from where they start to where they lead.
use Rattle.std.proofs.Common.{◌≡◌, ℕ, suc, ◌+◌, ◌*◌, ◌^◌, ◌<◌, ◌≤◌, Bool, true, false, if◌then◌else◌, List, ◌∷◌, ◌++◌, length, Option, Some, refl, ap, ◌∙◌, arith, add_assoc}
use Rattle.std.specs.Prelude.{slice_index}
use Rattle.shader_model.specs.declared.ids.Ids.{Ids}
use Rattle.shader_model.specs.Invocation.{Slots, State, Flow, Falls, Breaks, Continues, Ends, then_do}
use Rattle.spirv_model.specs.Op.{Op}
use Rattle.spirv_model.specs.Op as op
use Rattle.spirv_model.specs.Meaning.Values.{Truth}
use Rattle.spirv_model.specs.Meaning.Bindings.{words_at}
use Rattle.spirv_model.specs.Meaning.Memory.{Memory}
use Rattle.spirv_model.specs.Meaning.ModuleMeaning.{after_label, goes_to, jumps, runs}
use Rattle.spirv_emit.specs.declared.piece.Calculation.{Calculation}
use Rattle.spirv_emit.specs.Lower.{turns, temporary}
use Rattle.spirv_emit.specs.Layout.{Layout, first_code}
use Rattle.spirv_emit.specs.Code.{calculation_size, calculation_ops, choice_ops}
use Rattle.spirv_emit.specs.Frames.{Frame, calculated}
use Rattle.spirv_emit.proofs.Meaning.ValueTables.{Same}
use Rattle.spirv_emit.proofs.Meaning.HeldFrames.{Pool, Holds, holds_same}
use Rattle.spirv_emit.proofs.Meaning.Calculations.{CalculationFits}
use Rattle.spirv_emit.proofs.Meaning.Choices.{ChoicePlaced, choice_length, choice_runs, from_first, from_second}

-- a frame has the state of an invocation: its turns, its temporaries and the slots
pub record Shows (temps : ℕ) (f : Frame) (s : State) : Type 0 where
  pub slots : f.slots ≡ s.slots
  pub turns_left : f.variables turns ≡ s.turns
  pub few : s.turns < 2 ^ 32
  pub long : length s.temps ≡ 4 * temps
  pub limited : (b : ℕ) → length (words_at s.slots b) ≤ 4194304
  pub words : (r c : ℕ) → r < temps → c < 4 → f.variables (temporary r c) ≡ slice_index s.temps (4 * r + c)

module _ (at : Layout) (Has : ℕ → Type 0) (pool : Pool at Has) (ids : Ids) (temps : ℕ) (all : List Op) (longest : ℕ) where
  -- a memory stands for a state
  pub record Stands (s : State) (m : Memory) : Type 0 where
    pub frame : Frame
    pub holds : Holds at Has pool ids frame m
    pub shows : Shows temps frame s

  pub stands_same : (s : State) (n : ℕ) (m m' : Memory) → first_code at ≤ n → Same n m m' → Stands s m → Stands s m'
  stands_same s n m m' le e h = record { frame = h.frame; holds = holds_same at Has pool ids h.frame n m m' le e h.holds; shows = h.shows }

  -- from a start, in so many instructions, to a label
  pub record Reaches (start : ℕ → Option Slots) (bound l : ℕ) (s : State) : Type 0 where
    pub memory : Memory
    pub cost : ℕ
    pub stands : Stands s memory
    pub within : cost + s.turns * longest ≤ bound
    pub by : (k : ℕ) → start (cost + k) ≡ jumps all l (runs ids all k) memory

  -- from a start to the end of the run
  pub record Finishes (start : ℕ → Option Slots) (bound : ℕ) (s : State) : Type 0 where
    pub cost : ℕ
    pub within : cost + s.turns * longest ≤ bound
    pub by : (k : ℕ) → start (cost + k) ≡ Some s.slots

  -- A start leads where the flow says. Each turn pays for one pass over the longest code.
  abbrev pub Follows : (ℕ → Option Slots) → (bound k b c : ℕ) → Flow → Type 0
  Follows start bound k b c (Falls s) = Reaches start bound k s
  Follows start bound k b c (Breaks s) = Reaches start bound b s
  Follows start bound k b c (Continues s) = Reaches start bound c s
  Follows start bound k b c (Ends s) = Finishes start bound s

  reaches_after : (start start' : ℕ → Option Slots) (c bound bound' l : ℕ) (s : State) → c + bound' ≤ bound → ((k : ℕ) → start (c + k) ≡ start' k) → Reaches start' bound' l s → Reaches start bound l s
  reaches_after start start' c bound bound' l s le st r = record {
    memory = r.memory;
    cost = c + r.cost;
    stands = r.stands;
    within = omega (arith, r.within);
    by = λ k. ap start (add_assoc c r.cost k) ∙ st (r.cost + k) ∙ r.by k;
  }

  finishes_after : (start start' : ℕ → Option Slots) (c bound bound' : ℕ) (s : State) → c + bound' ≤ bound → ((k : ℕ) → start (c + k) ≡ start' k) → Finishes start' bound' s → Finishes start bound s
  finishes_after start start' c bound bound' s le st r = record {
    cost = c + r.cost;
    within = omega (arith, r.within);
    by = λ k. ap start (add_assoc c r.cost k) ∙ st (r.cost + k) ∙ r.by k;
  }

  -- a stretch before
  pub follows_after : (start start' : ℕ → Option Slots) (c bound bound' k x y : ℕ) (flow : Flow) → c + bound' ≤ bound → ((j : ℕ) → start (c + j) ≡ start' j) → Follows start' bound' k x y flow → Follows start bound k x y flow
  follows_after start start' c bound bound' k x y (Falls s) le st r = reaches_after start start' c bound bound' k s le st r
  follows_after start start' c bound bound' k x y (Breaks s) le st r = reaches_after start start' c bound bound' x s le st r
  follows_after start start' c bound bound' k x y (Continues s) le st r = reaches_after start start' c bound bound' y s le st r
  follows_after start start' c bound bound' k x y (Ends s) le st r = finishes_after start start' c bound bound' s le st r

  -- a higher bound
  pub follows_more : (start : ℕ → Option Slots) (bound bound' k x y : ℕ) (flow : Flow) → bound' ≤ bound → Follows start bound' k x y flow → Follows start bound k x y flow
  follows_more start bound bound' k x y flow le r = follows_after start start 0 bound bound' k x y flow (omega arith) (λ j. ap start (let z : 0 + j ≡ j = omega arith in z)) r

  -- what follows a stretch that leads to a label
  pub from_label : (start : ℕ → Option Slots) (bound extra l k x y : ℕ) (rest : List Op) (s : State) (flow : Flow) → after_label l all ≡ Some rest → ((m : Memory) → Stands s m → Follows (λ j. runs ids all j rest m) (extra + s.turns * longest) k x y flow) → Reaches start bound l s → Follows start (bound + extra) k x y flow
  from_label start bound extra l k x y rest s flow here next r =
      follows_after start (λ j. runs ids all j rest r.memory) r.cost (bound + extra) (extra + s.turns * longest) k x y flow (omega (arith, r.within))
      (λ j. r.by j ∙ ap (λ o. goes_to o (runs ids all j) r.memory) here) (next r.memory r.stands)

  pub follows_then : (start : ℕ → Option Slots) (bound extra l k x y : ℕ) (rest : List Op) (flow : Flow) (go : State → Flow) → after_label l all ≡ Some rest → ((s : State) (m : Memory) → Stands s m → Follows (λ j. runs ids all j rest m) (extra + s.turns * longest) k x y (go s)) → Follows start bound l x y flow → Follows start (bound + extra) k x y (then_do flow go)
  follows_then start bound extra l k x y rest (Falls s) go here next r = from_label start bound extra l k x y rest s (go s) here (next s) r
  follows_then start bound extra l k x y rest (Breaks s) go here next r = follows_more start (bound + extra) bound k x y (Breaks s) (omega arith) r
  follows_then start bound extra l k x y rest (Continues s) go here next r = follows_more start (bound + extra) bound k x y (Continues s) (omega arith) r
  follows_then start bound extra l k x y rest (Ends s) go here next r = follows_more start (bound + extra) bound k x y (Ends s) (omega arith) r

  -- ## The ends of blocks

  pub branch_reaches : (l bound : ℕ) (rest : List Op) (s : State) (m : Memory) → 1 + s.turns * longest ≤ bound → Stands s m → Reaches (λ j. runs ids all j (op.Branch l ∷ rest) m) bound l s
  branch_reaches l bound rest s m le st = record {
    memory = m;
    cost = 1;
    stands = st;
    within = le;
    by = λ j. ap (λ k. runs ids all k (op.Branch l ∷ rest) m) (let z : 1 + j ≡ suc j = omega arith in z);
  }

  pub ends_at : (rest : List Op) (s : State) (m : Memory) → Stands s m → Finishes (λ j. runs ids all j (op.Return ∷ rest) m) (1 + s.turns * longest) s
  ends_at rest s m st = record {
    cost = 1;
    within = omega arith;
    by = λ j. ap (λ k. runs ids all k (op.Return ∷ rest) m) (let z : 1 + j ≡ suc j = omega arith in z) ∙ ap Some (st.holds.slots ∙ st.shows.slots);
  }

  -- ## Choices

  -- a choice leads where the chosen side leads
  pub choice_follows : (n : ℕ) (c : Calculation) (a b rest : List Op) (na nb k x y : ℕ) (s : State) (m : Memory) (chosen : Bool) (fa fb : Flow) (st : Stands s m) → first_code at ≤ n → ChoicePlaced at all (n + calculation_size c) na nb a b rest → CalculationFits at Has pool ids c → calculated ids st.frame c ≡ Some (Truth chosen) → (chosen ≡ true → (m' : Memory) → Stands s m' → Follows (λ j. runs ids all j (from_first at all (n + calculation_size c) a b rest) m') (length a + s.turns * longest) k x y fa) → (chosen ≡ false → (m' : Memory) → Stands s m' → Follows (λ j. runs ids all j (from_second at all (n + calculation_size c) b rest) m') (length b + s.turns * longest) k x y fb) → Follows (λ j. runs ids all j (choice_ops at n c a b ++ rest) m) (length (choice_ops at n c a b) + s.turns * longest) k x y (if chosen then fa else fb)
  choice_follows n c a b rest na nb k x y s m chosen fa fb st le p ok e ga gb =
      let r = choice_runs at all Has pool ids n c st.frame m chosen a b rest na nb le p ok st.holds e in
      side chosen r.memory (stands_same s n m r.memory le r.same st) ga gb r.by
    where
      len : length (choice_ops at n c a b) ≡ length (calculation_ops at n c) + 5 + length a + length b
      len = choice_length at all n c a b

      side : (chosen : Bool) (m' : Memory) → Stands s m' → (chosen ≡ true → (m' : Memory) → Stands s m' → Follows (λ j. runs ids all j (from_first at all (n + calculation_size c) a b rest) m') (length a + s.turns * longest) k x y fa) → (chosen ≡ false → (m' : Memory) → Stands s m' → Follows (λ j. runs ids all j (from_second at all (n + calculation_size c) b rest) m') (length b + s.turns * longest) k x y fb) → ((j : ℕ) → runs ids all (length (calculation_ops at n c) + 2 + j) (choice_ops at n c a b ++ rest) m ≡ runs ids all j (if chosen then from_first at all (n + calculation_size c) a b rest else from_second at all (n + calculation_size c) b rest) m') → Follows (λ j. runs ids all j (choice_ops at n c a b ++ rest) m) (length (choice_ops at n c a b) + s.turns * longest) k x y (if chosen then fa else fb)
      side true m' st ga gb go = follows_after _ (λ j. runs ids all j (from_first at all (n + calculation_size c) a b rest) m') (length (calculation_ops at n c) + 2) _ (length a + s.turns * longest) k x y fa (omega (arith, len)) go (ga refl m' st)
      side false m' st ga gb go = follows_after _ (λ j. runs ids all j (from_second at all (n + calculation_size c) b rest) m') (length (calculation_ops at n c) + 2) _ (length b + s.turns * longest) k x y fb (omega (arith, len)) go (gb refl m' st)
