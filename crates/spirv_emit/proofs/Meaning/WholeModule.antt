-- A whole module does what the shader does, where the pieces of its instructions and tests do what these do.
use Rattle.std.proofs.Common.{◌≡◌, ◌≢◌, ℕ, zero, suc, ◌+◌, ◌-◌, ◌*◌, ◌<◌, ◌≤◌, Bool, true, false, if◌then◌else◌, ◌⊎◌, inl, inr, ⊎_elim, List, [], ◌∷◌, ◌++◌, map, length, replicate, Option, Some, None, refl, sym, ap, ◌∙◌, subst, arith, append_assoc, length-append, lit<}
use Rattle.std.specs.Prelude.{◌==◌, slice_index, flat_map}
use Rattle.std.proofs.Math.Dec.{eqb}
use Rattle.std.proofs.lemmas.Bool.Decides.{eqb_tells}
use Rattle.std.proofs.lemmas.Bool.{ne_eqb}
use Rattle.std.proofs.lemmas.List.{length-replicate}
use Rattle.shader_model.specs.declared.ids.Ids.{Ids}
use Rattle.shader_model.specs.Shader.{Program}
use Rattle.shader_model.specs.Invocation.{Slots, State, Flow, Falls, Breaks, Continues, Ends, meaning, state_of, begun, invoked}
use Rattle.spirv_model.specs.Op.{Op}
use Rattle.spirv_model.specs.Op as op
use Rattle.spirv_model.specs.declared.storage_classes.TheConstants as class
use Rattle.spirv_model.specs.declared.settings.TheConstants as setting
use Rattle.spirv_model.specs.Meaning.Values.{Word, At as Points, ToVariable, ToBuffer, ToLengths, ToInput}
use Rattle.spirv_model.specs.Meaning.Bindings.{words_at}
use Rattle.spirv_model.specs.Meaning.Memory.{Memory, with_result, with_variable, outer_variable}
use Rattle.spirv_model.specs.Meaning.ModuleMeaning.{after_label, goes_to, runs, begun as started}
use Rattle.spirv_emit.specs.Lower.{temporary}
use Rattle.spirv_emit.specs.Layout as id
use Rattle.spirv_emit.specs.Layout.{Layout, variable, first_code, buffer_at, bindings, first_number, vector_id}
use Rattle.spirv_emit.specs.declared.piece.Vector.{Vector}
use Rattle.spirv_emit.specs.declared.piece.Vector.TheVariants.{Group, Thread, Global}
use Rattle.spirv_emit.specs.Numbers.{place, has, with_number, with_numbers, own_numbers, declared_numbers, body_numbers, most_turns, numbers_of, layout_of}
use Rattle.spirv_emit.specs.Code.{body_ops}
use Rattle.spirv_emit.specs.Module.{settings, decorations, type_declarations, inputs, preamble, buffers, buffer_variable, constants, local, zero_variables, first_label, last_label, body_start}
use Rattle.spirv_emit.specs.Frames.{Frame}
use Rattle.spirv_emit.proofs.Meaning.ValueTables.{with_same, with_other}
use Rattle.spirv_emit.proofs.Meaning.LabelPlaces.{after_append, after_other, At, found}
use Rattle.spirv_emit.proofs.Words.LabelRanges.{body_within}
use Rattle.spirv_emit.proofs.Meaning.HeldFrames.{Pool, Holds, vector_number}
use Rattle.spirv_emit.proofs.Meaning.CodeStretches.{Shows, Stands, Reaches, Follows}
use Rattle.spirv_emit.proofs.Meaning.Blocks.{BodyDoes, body_follows}
use Rattle.spirv_emit.proofs.Meaning.Prologue.{all_quiet, quiet_runs, buffers_run, constants_run, variables_run, local_step, constants_free, zero_variables_free, constants_length, zero_variables_length}

-- ## Facts on each number below a bound

abbrev pub EachBelow : (ℕ → Type 0) → ℕ → Type 0
EachBelow P zero = Unit {0}
EachBelow P (suc n) = EachBelow P n × P n

pub same_or_not : (i j : ℕ) → (i ≡ j) ⊎ (i ≢ j)
same_or_not i j = ⊎_elim (λ (x : (eqb i j ≡ true) × (i ≡ j)). inl x.1) (λ (x : (eqb i j ≡ false) × (i ≢ j)). inr x.1) (eqb_tells i j)

pub each_below : (P : ℕ → Type 0) (n : ℕ) → EachBelow P n → (i : ℕ) → i < n → P i
each_below P zero h i lt = absurd (omega arith)
each_below P (suc n) h i lt = ⊎_elim (λ (e : i ≡ n). subst P (sym e) h.1) (λ (ne : i ≢ n). each_below P n h.0 i (omega arith)) (same_or_not i n)

-- ## Numbers

unfoldable pub Has : List ℕ → ℕ → Type 0
Has numbers v = has numbers v ≡ true

pub has_id : (numbers : List ℕ) (v : ℕ) → has numbers v ≡ true → Has numbers v
unfolding Has
has_id numbers v h = h

pub place_below : (v : ℕ) (xs : List ℕ) → has xs v ≡ true → place v xs < length xs
place_below v [] h = cc
place_below v (x ∷ xs) h =
    ⊎_elim
    (λ (e : (eqb x v ≡ true) × (x ≡ v)). let z : place v (x ∷ xs) ≡ 0 = ap (λ (t : Bool). if t then 0 else suc (place v xs)) e.0 in omega arith)
    (λ (e : (eqb x v ≡ false) × (x ≢ v)).
    let z : place v (x ∷ xs) ≡ suc (place v xs) = ap (λ (t : Bool). if t then 0 else suc (place v xs)) e.0 in
    let k = place_below v xs (sym (ap (λ (t : Bool). if t then true else has xs v) e.0) ∙ h) in
    omega arith)
    (eqb_tells x v)

pub placed : (v : ℕ) (xs : List ℕ) → has xs v ≡ true → slice_index xs (place v xs) ≡ v
placed v [] h = cc
placed v (x ∷ xs) h =
    ⊎_elim
    (λ (e : (eqb x v ≡ true) × (x ≡ v)). ap (λ (t : Bool). slice_index (x ∷ xs) (if t then 0 else suc (place v xs))) e.0 ∙ e.1)
    (λ (e : (eqb x v ≡ false) × (x ≢ v)).
    ap (λ (t : Bool). slice_index (x ∷ xs) (if t then 0 else suc (place v xs))) e.0
    ∙ placed v xs (sym (ap (λ (t : Bool). if t then true else has xs v) e.0) ∙ h))
    (eqb_tells x v)

pub has_append : (xs ys : List ℕ) (v : ℕ) → has xs v ≡ true → has (xs ++ ys) v ≡ true
has_append [] ys v h = cc
has_append (x ∷ xs) ys v h =
    ⊎_elim
    (λ (e : (eqb x v ≡ true) × (x ≡ v)). ap (λ (t : Bool). if t then true else has (xs ++ ys) v) e.0)
    (λ (e : (eqb x v ≡ false) × (x ≢ v)).
    ap (λ (t : Bool). if t then true else has (xs ++ ys) v) e.0
    ∙ has_append xs ys v (sym (ap (λ (t : Bool). if t then true else has xs v) e.0) ∙ h))
    (eqb_tells x v)

has_one_more : (t : Bool) (seen : List ℕ) (w v : ℕ) → has seen v ≡ true → has (if t then seen else seen ++ w ∷ []) v ≡ true
has_one_more true seen w v h = h
has_one_more false seen w v h = has_append seen (w ∷ []) v h

pub has_more : (ws seen : List ℕ) (v : ℕ) → has seen v ≡ true → has (with_numbers seen ws) v ≡ true
has_more [] seen v h = h
has_more (w ∷ ws) seen v h = has_more ws (with_number seen w) v (has_one_more (has seen w) seen w v h)

own_has : (b : ℕ) → b < bindings → has own_numbers b ≡ true
own_has = each_below (λ b. has own_numbers b ≡ true) 38 ((((((((((((((((((((((((((((((((((((((tt, refl), refl), refl), refl), refl), refl), refl), refl), refl), refl), refl), refl), refl), refl), refl), refl), refl), refl), refl), refl), refl), refl), refl), refl), refl), refl), refl), refl), refl), refl), refl), refl), refl), refl), refl), refl), refl), refl)

-- those of every module are those of each
pub own_in : (p : Program) (v : ℕ) → has own_numbers v ≡ true → has (numbers_of p) v ≡ true
own_in p v h = has_more (flat_map declared_numbers p.declared ++ body_numbers p.body) own_numbers v h

pub pool_of : (p : Program) → Pool (layout_of p) (Has (numbers_of p))
unfolding Has
pool_of p = record {
  behind = omega arith;
  below = λ v h. let k = place_below v (numbers_of p) h in omega arith;
  bindings_have = λ b lt. own_in p b (own_has b lt);
  has_ones = own_in p 0xffff_ffff refl;
}

-- ## The preamble

abbrev quiet : List ℕ → List Op
quiet g = settings g ++ (decorations ++ type_declarations)

abbrev named : List Op → List Op
named rest = inputs ++ (map buffer_variable buffers ++ rest)

preamble_is : (g : List ℕ) (rest : List Op) → preamble g ++ rest ≡ quiet g ++ named rest
preamble_is g rest = refl

quiet_is : (g : List ℕ) → all_quiet (quiet g) ≡ true
quiet_is g = refl

buffer_found : (g : List ℕ) (rest : List Op) (i : ℕ) → i < bindings → outer_variable class.STORAGE_BUFFER (buffer_at i) (preamble g ++ rest) ≡ Some (Points (ToBuffer i))
buffer_found g rest = each_below (λ i. outer_variable class.STORAGE_BUFFER (buffer_at i) (preamble g ++ rest) ≡ Some (Points (ToBuffer i))) 38 ((((((((((((((((((((((((((((((((((((((tt, refl), refl), refl), refl), refl), refl), refl), refl), refl), refl), refl), refl), refl), refl), refl), refl), refl), refl), refl), refl), refl), refl), refl), refl), refl), refl), refl), refl), refl), refl), refl), refl), refl), refl), refl), refl), refl), refl)

-- the memory once the module's named variables have their pointers
abbrev named_memory : Slots → Memory
named_memory slots =
    with_result 21 (Points ToLengths)
    (with_result 20 (Points (ToInput 29))
    (with_result 19 (Points (ToInput 28))
    (with_result 18 (Points (ToInput 27))
    (with_result 17 (Points (ToInput 26)) (started slots)))))

named_runs : (ids : Ids) (g : List ℕ) (rest more : List Op) (m : Memory) (k : ℕ) →
    runs ids (preamble g ++ more) (suc (suc (suc (suc (suc k))))) (named rest) m
    ≡ runs ids (preamble g ++ more) k (map buffer_variable buffers ++ rest)
    (with_result 21 (Points ToLengths) (with_result 20 (Points (ToInput 29)) (with_result 19 (Points (ToInput 28)) (with_result 18 (Points (ToInput 27)) (with_result 17 (Points (ToInput 26)) m)))))
named_runs ids g rest more m k = refl

preamble_free : (g : List ℕ) (k : ℕ) → after_label k (preamble g) ≡ None
preamble_free g k = refl

replicate_index : (n i : ℕ) → slice_index (replicate n 0) i ≡ 0
replicate_index zero i = refl
replicate_index (suc n) zero = refl
replicate_index (suc n) (suc i) = replicate_index n i

-- ## The end of the code

module _ (p : Program) (ids : Ids) (all : List Op) (longest : ℕ) (start : ℕ → Option Slots) (bound l : ℕ) where
  Reached : Slots → Type 0
  Reached slots = (c : ℕ) × (c ≤ bound + 1) × ((k : ℕ) → start (c + k) ≡ Some slots)

  reached_end : (s : State) → after_label l all ≡ Some (op.Return ∷ op.FunctionEnd ∷ []) → Reaches (layout_of p) (Has (numbers_of p)) (pool_of p) ids p.temps all longest start bound l s → Reached s.slots
  unfolding Reached
  reached_end s last r = (
    r.cost + 1,
    omega (arith, r.within),
    λ k.
        ap start (let z : r.cost + 1 + k ≡ r.cost + suc k = omega arith in z)
        ∙ r.by (suc k)
        ∙ ap (λ o. goes_to o (runs ids all (suc k)) r.memory) last
        ∙ ap Some (r.stands.holds.slots ∙ r.stands.shows.slots),
  )

  all_end : (flow : Flow) → after_label l all ≡ Some (op.Return ∷ op.FunctionEnd ∷ []) → Follows (layout_of p) (Has (numbers_of p)) (pool_of p) ids p.temps all longest start bound l l l flow → Reached (state_of flow).slots
  unfolding Reached
  all_end (Falls s) last r = reached_end s last r
  all_end (Breaks s) last r = reached_end s last r
  all_end (Continues s) last r = reached_end s last r
  all_end (Ends s) last r = (r.cost, omega (arith, r.within), r.by)

-- ## The whole

module _ (p : Program) (ids : Ids) (slots : Slots) (small : (b : ℕ) → length (words_at slots b) ≤ 4194304) (ok : BodyDoes (layout_of p) (Has (numbers_of p)) (pool_of p) ids p.temps p.declared p.body) where
  abbrev numbers : List ℕ
  numbers = numbers_of p

  abbrev at : Layout
  at = layout_of p

  abbrev code : List Op
  code = body_ops p.declared at p.body (body_start at) (last_label at) (last_label at) (last_label at)

  abbrev tail : List Op
  tail = op.Label (last_label at) ∷ op.Return ∷ op.FunctionEnd ∷ []

  abbrev zeros : List Op
  zeros = zero_variables at (at.first_variable + 1) (at.variables - 1)

  abbrev turn : Op
  turn = local at at.first_variable most_turns

  abbrev function : List Op
  function = op.Function id.void_type id.main setting.NO_CONTROL id.main_type ∷ op.Label (first_label at) ∷ turn ∷ (zeros ++ (code ++ tail))

  abbrev behind : List Op
  behind = constants first_number numbers ++ function

  abbrev all : List Op
  all = preamble p.group ++ behind

  number_in : (v : ℕ) → has numbers v ≡ true → (m : Memory) → ((i : ℕ) → i < length numbers → m.results (first_number + i) ≡ Some (Word (slice_index numbers i))) → m.results (at.number v) ≡ Some (Word v)
  number_in v h m made = made (place v numbers) (place_below v numbers h) ∙ ap (λ x. Some (Word x)) (placed v numbers h)

  -- the frame at the begin of the code
  frame : Frame
  frame = record { variables = λ x. if x == 0 then most_turns else 0; slots = slots }

  -- a memory at the begin of the code, and how many instructions lead there
  record Started : Type 0 where
    memory : Memory
    holds : Holds at (Has numbers) (pool_of p) ids frame memory
    cost : ℕ
    within : cost + length code + 1 ≤ length all
    by : (k : ℕ) → runs ids all (cost + k) all (started slots) ≡ runs ids all k (code ++ tail) memory

  prologue_runs : Started
  unfolding Has frame
  prologue_runs =
      let m0 = started slots in
      let m5 = named_memory slots in
      let r6 = buffers_run ids all 38 0 m5 behind (λ i lt. let z : 0 + i ≡ i = omega arith in ap (λ j. outer_variable class.STORAGE_BUFFER (buffer_at j) all) z ∙ buffer_found p.group behind i lt ∙ ap (λ j. Some (Points (ToBuffer j))) (sym z)) in
      let m6 = r6.memory in
      let r7 = constants_run ids all numbers first_number m6 function in
      let m7 = r7.memory in
      let zero_in = own_in p 0 refl in
      let turns_in = own_in p most_turns refl in
      let zero_below = place_below 0 numbers zero_in in
      let fv = at.first_variable in
      let to_turns = Points (ToVariable fv) in
      let m8 = with_result fv to_turns (with_variable fv (Word most_turns) m7) in
      let turns_at = number_in most_turns turns_in m7 r7.made in
      let zero_at : m8.results (at.number 0) ≡ Some (Word 0) = with_other m7.results fv (at.number 0) to_turns (λ e. absurd (omega arith)) ∙ number_in 0 zero_in m7 r7.made in
      let r9 = variables_run ids all at (at.variables - 1) (fv + 1) m8 (code ++ tail) (omega arith) zero_at in
      let m9 = r9.memory in
      let old : (x : ℕ) → x < fv → m9.results x ≡ m7.results x = λ x lt. r9.before x (omega arith) ∙ with_other m7.results fv x to_turns (λ e. absurd (omega arith)) in
      let older : (x : ℕ) → x < first_number → m9.results x ≡ m6.results x = λ x lt. old x (omega arith) ∙ r7.before x lt in
      let oldest : (x : ℕ) → x < 22 → m9.results x ≡ m5.results x = λ x lt. older x (omega arith) ∙ r6.before x (omega arith) in
      let lq = length-append (quiet p.group) (named behind) in
      let lb = length-append (map buffer_variable buffers) behind in
      let lc = length-append (constants first_number numbers) function in
      let lcc = constants_length numbers first_number in
      let lz = length-append zeros (code ++ tail) in
      let lzz = zero_variables_length at (at.variables - 1) (fv + 1) in
      let lt = length-append code tail in
      record {
        memory = m9;
        holds = record {
          slots = r9.slots ∙ r7.slots ∙ r6.slots;
          words = λ x lt. variable_words m9 x lt (r9.others fv (omega arith) ∙ with_same m7.variables fv (Word most_turns)) r9.set;
          variable_at = λ x lt. variables_at m9 x lt (r9.before fv (omega arith) ∙ with_same m7.results fv to_turns) r9.made;
          number_at = λ v h. let k = place_below v numbers h in old (at.number v) (omega arith) ∙ number_in v h m7 r7.made;
          buffers_at = λ b lt. let z : 0 + b ≡ b = omega arith in older (buffer_at b) (omega arith) ∙ ap (λ j. m6.results (buffer_at j)) (sym z) ∙ r6.made b lt ∙ ap (λ j. Some (Points (ToBuffer j))) z;
          lengths_at = oldest id.lengths (omega arith);
          vector_at = vectors_at m9 oldest;
          index_at = oldest id.thread_index (omega arith);
        };
        cost = length (quiet p.group) + 5 + 38 + length numbers + 2 + (at.variables - 1);
        within = omega arith;
        by = λ k.
            ap (λ j. runs ids all j all m0) (let z : length (quiet p.group) + 5 + 38 + length numbers + 2 + (at.variables - 1) + k ≡ length (quiet p.group) + suc (suc (suc (suc (suc (38 + (length numbers + suc (suc ((at.variables - 1) + k)))))))) = omega arith in z)
            ∙ ap (λ c. runs ids all (length (quiet p.group) + suc (suc (suc (suc (suc (38 + (length numbers + suc (suc ((at.variables - 1) + k))))))))) c m0) (preamble_is p.group behind)
            ∙ quiet_runs ids all (quiet p.group) (named behind) m0 (suc (suc (suc (suc (suc (38 + (length numbers + suc (suc ((at.variables - 1) + k))))))))) (quiet_is p.group)
            ∙ named_runs ids p.group behind behind m0 (38 + (length numbers + suc (suc ((at.variables - 1) + k))))
            ∙ r6.by (length numbers + suc (suc ((at.variables - 1) + k)))
            ∙ r7.by (suc (suc ((at.variables - 1) + k)))
            ∙ local_step ids all at fv most_turns (zeros ++ (code ++ tail)) m7 ((at.variables - 1) + k) turns_at
            ∙ r9.by k;
      }
    where
      variable_words : (m : Memory) (x : ℕ) → x < at.variables → m.variables at.first_variable ≡ Some (Word most_turns) → ((i : ℕ) → i < at.variables - 1 → m.variables (at.first_variable + 1 + i) ≡ Some (Word 0)) → m.variables (variable at x) ≡ Some (Word (if x == 0 then most_turns else 0))
      variable_words m zero lt first others = ap m.variables (let z : at.first_variable + 0 ≡ at.first_variable = omega arith in z) ∙ first
      variable_words m (suc i) lt first others =
          ap m.variables (let z : at.first_variable + suc i ≡ at.first_variable + 1 + i = omega arith in z)
          ∙ others i (omega arith)
          ∙ ap (λ t. Some (Word (if t then most_turns else 0))) (sym (ne_eqb (suc i) 0 (λ e. absurd (omega arith))))

      variables_at : (m : Memory) (x : ℕ) → x < at.variables → m.results at.first_variable ≡ Some (Points (ToVariable at.first_variable)) → ((i : ℕ) → i < at.variables - 1 → m.results (at.first_variable + 1 + i) ≡ Some (Points (ToVariable (at.first_variable + 1 + i)))) → m.results (variable at x) ≡ Some (Points (ToVariable (variable at x)))
      variables_at m zero lt first others = let z : at.first_variable + 0 ≡ at.first_variable = omega arith in ap m.results z ∙ first ∙ ap (λ j. Some (Points (ToVariable j))) (sym z)
      variables_at m (suc i) lt first others = let z : at.first_variable + suc i ≡ at.first_variable + 1 + i = omega arith in ap m.results z ∙ others i (omega arith) ∙ ap (λ j. Some (Points (ToVariable j))) (sym z)

      vectors_at : (m : Memory) → ((x : ℕ) → x < 22 → m.results x ≡ (named_memory slots).results x) → (v : Vector) → m.results (vector_id v) ≡ Some (Points (ToInput (vector_number v)))
      vectors_at m h Group = h 17 (omega arith)
      vectors_at m h Thread = h 18 (omega arith)
      vectors_at m h Global = h 19 (omega arith)

  frame_shows : Shows p.temps frame (begun p slots)
  unfolding frame
  frame_shows = record {
    slots = refl;
    turns_left = refl;
    few = lit< tt;
    long = length-replicate (4 * p.temps) 0;
    limited = small;
    words = λ r c lr lc. ap (λ t. if t then most_turns else 0) (ne_eqb (temporary r c) 0 (λ e. absurd (omega arith))) ∙ sym (replicate_index (4 * p.temps) (4 * r + c));
  }

  pub whole_runs : (limit : ℕ) → 8192 * length all ≤ limit → runs ids all limit all (started slots) ≡ Some (invoked p ids slots)
  unfolding Reached
  whole_runs limit enough =
      let st = prologue_runs in
      let l = last_label at in
      let n = body_start at in
      let pool = pool_of p in
      let front = op.Function id.void_type id.main setting.NO_CONTROL id.main_type ∷ op.Label (first_label at) ∷ turn ∷ zeros in
      let pre = preamble p.group ++ (constants first_number numbers ++ front) in
      let pre_free : (k : ℕ) → (first_label at ≡ k → ⊥) → after_label k pre ≡ None =
      λ k ne. after_append k (preamble p.group) (constants first_number numbers ++ front) (preamble_free p.group k) ∙ after_append k (constants first_number numbers) front (constants_free numbers first_number k) ∙ after_other k (first_label at) (turn ∷ zeros) ne ∙ zero_variables_free at (at.variables - 1) (at.first_variable + 1) k in
      let here : At all n (code ++ tail) = record { pre = pre; is = simp append_assoc; below = λ k h. pre_free k (λ e. absurd (omega arith)) } in
      let last : after_label l all ≡ Some (op.Return ∷ op.FunctionEnd ∷ []) =
      found all 0 l (pre ++ code) (op.Return ∷ op.FunctionEnd ∷ []) (omega arith) (after_append l pre code (pre_free l (λ e. absurd (omega arith))) ∙ (body_within at p.declared p.body n l l l).out l (inl (omega arith))) (record { pre = []; is = simp append_assoc; below = λ k h. refl }) in
      let stands : Stands at (Has numbers) pool ids p.temps all (length code) (begun p slots) st.memory = record { frame = frame; holds = st.holds; shows = frame_shows } in
      let flow = body_follows at (Has numbers) pool ids p.temps p.declared all (length code) (omega arith) p.body n l l l (begun p slots) st.memory tail (omega arith) ok (omega arith) stands here in
      let end = all_end p ids all (length code) (λ k. runs ids all k (code ++ tail) st.memory) (length code + 4096 * length code) l (meaning p.declared ids p.body (begun p slots)) last flow in
      let w = st.within in
      let c = st.cost + end.0 in
      let le : c ≤ limit = omega (arith, end.1) in
      ap (λ k. runs ids all k all (started slots)) (let z : limit ≡ st.cost + (end.0 + (limit - c)) = omega arith in z)
      ∙ st.by (end.0 + (limit - c))
      ∙ end.2 (limit - c)
