-- The profile takes every module that is emitted.
use Rattle.std.proofs.Common.{◌≡◌, ℕ, zero, suc, ◌+◌, ◌-◌, ◌<◌, ◌≤◌, Bool, true, false, if◌then◌else◌, inl, inr, List, [], ◌∷◌, ◌++◌, length, Option, Some, None, is_some, refl, sym, ap, ◌∙◌, subst, arith}
use Rattle.std.specs.Prelude.{nat_lt, not, ◌&&◌, option_map}
use Rattle.std.proofs.lemmas.Bool.{lt-ltb}
use Rattle.shader_model.specs.declared.ids.Ids.{Ids}
use Rattle.shader_model.specs.Shader.{Program}
use Rattle.shader_model.specs.Good.{IsGood}
use Rattle.spirv_model.specs.declared.fault.ModuleFault.{ModuleFault}
use Rattle.spirv_model.specs.declared.fault.ModuleKind.TheVariants as kind
use Rattle.spirv_model.specs.Op.{Op}
use Rattle.spirv_model.specs.Op as op
use Rattle.spirv_model.specs.History.{maker, after}
use Rattle.spirv_model.specs.Operands.{or_else, unless, operands}
use Rattle.spirv_model.specs.Words.{words_of, header}
use Rattle.spirv_model.specs.FirstBad as first_bad
use Rattle.spirv_model.specs.FirstBad.{fault_at, first_word_rule, late_fault, total_words, ends_function, body_fault, header_fault}
use Rattle.spirv_emit.specs.Layout as id
use Rattle.spirv_emit.specs.Layout.{Layout, variable, first_code, first_number}
use Rattle.spirv_emit.specs.Numbers.{place, most_turns, numbers_of, layout_of}
use Rattle.spirv_emit.specs.Code.{body_ops}
use Rattle.spirv_emit.specs.Module.{preamble, constants, local, zero_variables, first_label, last_label, body_start, module_ops, module_bound, module_of}
use Rattle.spirv_emit.proofs.Words.LabelRanges.{body_grows}
use Rattle.spirv_emit.proofs.Words.ReadBack.{reads_back, whole}
use Rattle.spirv_emit.proofs.Words.CanBeSpelled.{module_spelled}
use Rattle.spirv_emit.proofs.Meaning.WholeModule.{Has, place_below, placed, own_in, pool_of}
use Rattle.spirv_emit.proofs.Profile.InstructionsPass.{Fine, Passes, passes_fault, passes_append, after_append, maker_here, maker_other, result_fine}
use Rattle.spirv_emit.proofs.Profile.StraightCode.{behind_order, first_fine}
use Rattle.spirv_emit.proofs.Profile.TypedOperands.{Typed}
use Rattle.spirv_emit.proofs.Profile.CodePlaces.{Standing, Runs, runs_label, runs_return}
use Rattle.spirv_emit.proofs.Profile.LabelsMade.{stays, HasLabel, has_left, has_right, IsBlock, label_made, Settles, settles_append, settles_fault, id_fine}
use Rattle.spirv_emit.proofs.Profile.Scope.{Setting, Scope, setting_kept}
use Rattle.spirv_emit.proofs.Profile.BlocksPass.{body_runs}
use Rattle.spirv_emit.proofs.Profile.BlockLabels.{body_settles}
use Rattle.spirv_emit.proofs.Profile.GoodNames.{program_proper}
use Rattle.spirv_emit.proofs.Profile.PreamblePasses.{before, before_fresh, before_outside, before_calm, before_entry, before_constant, before_function, before_setting, preamble_passes, preamble_settles}
use Rattle.spirv_emit.proofs.Profile.FunctionOpens.{Outside, ConstantsPass, constants_pass, function_op, function_fine, Within, VariablesPass, local_passes, behind_local, variables_pass}

-- what an emitted module means does not matter to what the profile takes
abbrev no_ids : Ids
no_ids = record { group = []; thread = []; size = [] }

constants_settle : (all : List Op) (vs : List ℕ) (r : ℕ) → Settles all (constants r vs)
constants_settle all [] r = tt
constants_settle all (v ∷ vs) r = (tt, constants_settle all vs (r + 1))

zeros_settle : (all : List Op) (at : Layout) (count r : ℕ) → Settles all (zero_variables at r count)
zeros_settle all at zero r = tt
zeros_settle all at (suc count) r = (tt, zeros_settle all at count (r + 1))

some_of : {A : Type 0} (q : Option A) → is_some q ≡ true → (x : A) × (q ≡ Some x)
some_of (Some x) e = (x, refl)
some_of None e = cc

module _ (p : Program) (good : IsGood p) where
  abbrev at : Layout
  at = layout_of p

  abbrev Have : ℕ → Type 0
  Have = Has (numbers_of p)

  abbrev bound : ℕ
  bound = module_bound p

  abbrev first : ℕ
  first = at.first_variable

  -- the labels of the first block and of the last
  abbrev enter : ℕ
  enter = first_label at

  abbrev leave : ℕ
  leave = last_label at

  abbrev numbers : List Op
  numbers = constants first_number (numbers_of p)

  abbrev turn : Op
  turn = local at first most_turns

  abbrev zeros : List Op
  zeros = zero_variables at (first + 1) (at.variables - 1)

  abbrev code : List Op
  code = body_ops p.declared at p.body (body_start at) leave leave leave

  abbrev tail : List Op
  tail = op.Label leave ∷ op.Return ∷ op.FunctionEnd ∷ []

  roomy : body_start at ≤ bound
  roomy = body_grows at p.declared p.body (body_start at)

  -- ## The numbers

  abbrev with_numbers : List Op
  with_numbers = after numbers (before p.group)

  outside : Outside p.group first_number (before p.group)
  outside = record {
    outside = before_outside p.group;
    calm = before_calm p.group;
    takes_constant = before_constant p.group;
    takes_function = before_function p.group;
    entry = before_entry p.group;
    fresh = before_fresh p.group;
    agrees = λ x lt. refl;
  }

  numbers_pass : ConstantsPass p.group bound first_number (numbers_of p) (before p.group)
  numbers_pass = let r = roomy in constants_pass p.group bound (numbers_of p) first_number (before p.group) (omega arith) (omega (arith, r)) outside

  number_below : (v : ℕ) → Have v → at.number v < first
  unfolding Has
  number_below v h = let k = place_below v (numbers_of p) h in omega (arith, k)

  number_made : (v : ℕ) → Have v → maker (at.number v) with_numbers ≡ Some (op.Constant id.word_type (at.number v) v)
  unfolding Has
  number_made v h = numbers_pass.made (place v (numbers_of p)) (place_below v (numbers_of p) h) ∙ ap (λ w. Some (op.Constant id.word_type (at.number v) w)) (placed v (numbers_of p) h)

  has_0 : Have 0
  unfolding Has
  has_0 = own_in p 0 refl

  has_turns : Have most_turns
  unfolding Has
  has_turns = own_in p most_turns refl

  -- ## The function and its variables

  abbrev begun : List Op
  begun = function_op p.group bound ∷ with_numbers

  begun_same : (x : ℕ) → (x ≡ id.main → ⊥) → maker x begun ≡ maker x with_numbers
  begun_same x ne = maker_other x id.main (function_op p.group bound) with_numbers refl (λ e. ne (sym e))

  number_begun : (v : ℕ) → Have v → maker (at.number v) begun ≡ Some (op.Constant id.word_type (at.number v) v)
  number_begun v h = begun_same (at.number v) (λ e. absurd (omega (arith, e))) ∙ number_made v h

  base : Setting begun
  base = setting_kept (before p.group) begun (λ x lt. begun_same x (λ e. absurd (omega (arith, e))) ∙ numbers_pass.kept x (omega arith)) (before_setting p.group)

  abbrev entered : List Op
  entered = op.Label enter ∷ begun

  at_first : Within enter first begun first entered
  at_first = record {
    inside = refl;
    block = refl;
    calm = refl;
    takes_variable = λ t r c vs. refl;
    takes_plain = λ o e. behind_order begun (op.Label enter) o refl refl refl e;
    fresh = λ x k ne. maker_other x enter (op.Label enter) begun refl (λ e. ne (sym e)) ∙ begun_same x (λ e. absurd (omega (arith, e, k))) ∙ numbers_pass.stands.fresh x (omega (arith, k));
    agrees = λ x k. maker_other x enter (op.Label enter) begun refl (λ e. absurd (omega (arith, e, k)));
  }

  enter_below : enter < bound
  enter_below = let r = roomy in omega (arith, r)

  first_low : first_number ≤ first
  first_low = omega arith

  first_high : first ≤ enter
  first_high = omega arith

  abbrev with_turn : List Op
  with_turn = turn ∷ entered

  turn_passes : Fine (first_word_rule entered turn ∷ operands bound entered turn)
  turn_passes = local_passes at bound enter first begun base first_low first_high enter_below first most_turns first entered (omega arith) (omega arith) at_first (number_below most_turns has_turns) (number_begun most_turns has_turns)

  behind_turn : Within enter first begun (first + 1) with_turn
  behind_turn = behind_local at bound enter first begun base first_low first_high enter_below first most_turns entered (omega arith) (omega arith) at_first

  zeros_pass : VariablesPass at bound enter first begun base first_low first_high enter_below (first + 1) (at.variables - 1) with_turn
  zeros_pass = variables_pass at bound enter first begun base first_low first_high enter_below (number_below 0 has_0) (number_begun 0 has_0) (at.variables - 1) (first + 1) with_turn (omega arith) (omega arith) behind_turn

  -- ## The code

  abbrev start : List Op
  start = after zeros with_turn

  variable_typed : (x : ℕ) → x < at.variables → Typed start (variable at x) id.to_variable
  variable_typed zero lt =
      let e : first ≡ variable at zero = omega arith in
      subst (λ z. Typed start z id.to_variable) e (record { by = turn; is = zeros_pass.kept first (omega arith) ∙ maker_here first turn entered refl; type_is = refl })
  variable_typed (suc i) lt =
      let e : first + 1 + i ≡ variable at (suc i) = omega arith in
      subst (λ z. Typed start z id.to_variable) e (record { by = local at (first + 1 + i) 0; is = zeros_pass.made i (omega (arith, lt)); type_is = refl })

  scope : Scope at Have start
  scope = record {
    setting = setting_kept begun start (λ x lt. zeros_pass.stands.agrees x (omega (arith, lt))) base;
    numbers = λ v h. zeros_pass.stands.agrees (at.number v) (number_below v h) ∙ number_begun v h;
    variables = variable_typed;
  }

  standing : Standing bound (first_code at) start true (body_start at) start
  standing = let s = zeros_pass.stands in record {
    inside = s.inside;
    block = s.block;
    calm = s.calm;
    order = s.takes_plain;
    fresh = λ x k. s.fresh x (omega (arith, k)) (λ e. absurd (omega (arith, k, e)));
    agrees = λ x k. refl;
  }

  leave_free : maker leave start ≡ None
  leave_free = zeros_pass.stands.fresh leave (omega arith) (λ e. absurd (omega (arith, e)))

  code_below : first_code at ≤ bound
  code_below = let r = roomy in omega (arith, r)

  code_runs : Runs bound (first_code at) start (body_start at) start false bound code
  code_runs =
      body_runs at Have (pool_of p) no_ids bound start scope code_below p.declared (omega arith) p.body (body_start at) leave leave leave start (program_proper p good no_ids)
      (omega arith) (omega arith) (omega arith) (omega arith) (omega arith) leave_free leave_free leave_free standing

  abbrev ended : List Op
  ended = after code start

  leave_runs : Runs bound (first_code at) start leave ended true bound (op.Label leave ∷ [])
  leave_runs = let r = roomy in runs_label bound (first_code at) start leave bound bound ended (omega (arith, r)) (code_runs.kept leave (omega arith) ∙ leave_free) (omega arith) (omega (arith, r)) (omega arith) code_runs.stands

  return_runs : Runs bound (first_code at) start leave (op.Label leave ∷ ended) false bound (op.Return ∷ [])
  return_runs = runs_return bound (first_code at) start leave bound (op.Label leave ∷ ended) leave_runs.stands

  tail_passes : Passes bound ended tail
  tail_passes = (leave_runs.passes.0, (return_runs.passes.0, ((first_fine (op.Return ∷ op.Label leave ∷ ended) op.FunctionEnd leave_runs.stands.inside refl, tt), tt)))

  -- ## The whole

  abbrev inner : List Op
  inner = turn ∷ (zeros ++ (code ++ tail))

  abbrev function : List Op
  function = function_op p.group bound ∷ op.Label enter ∷ inner

  abbrev behind : List Op
  behind = numbers ++ function

  abbrev ops : List Op
  ops = preamble p.group ++ behind

  enter_fine : Fine (first_word_rule begun (op.Label enter) ∷ operands bound begun (op.Label enter))
  enter_fine = (refl, (result_fine bound begun enter enter_below (begun_same enter (λ e. absurd (omega (arith, e))) ∙ numbers_pass.stands.fresh enter (omega arith)), tt))

  begun_fine : Fine (first_word_rule with_numbers (function_op p.group bound) ∷ operands bound with_numbers (function_op p.group bound))
  begun_fine = let r = roomy in function_fine p.group bound (first_number + length (numbers_of p)) with_numbers (omega (arith, r)) numbers_pass.stands

  inner_passes : Passes bound entered inner
  inner_passes = (turn_passes, passes_append bound with_turn zeros (code ++ tail) zeros_pass.passes (passes_append bound start code tail code_runs.passes tail_passes))

  function_passes : Passes bound with_numbers function
  function_passes = (begun_fine, (enter_fine, inner_passes))

  behind_passes : Passes bound (before p.group) behind
  behind_passes = passes_append bound (before p.group) numbers function numbers_pass.passes function_passes

  ops_pass : Passes bound [] ops
  ops_pass = let r = roomy in passes_append bound [] (preamble p.group) behind (preamble_passes p.group bound (omega (arith, r))) behind_passes

  -- ## What is made in the end

  abbrev all : List Op
  all = after ops []

  all_is : all ≡ after behind (before p.group)
  all_is = after_append (preamble p.group) behind []

  made_early : (x : ℕ) → is_some (maker x (before p.group)) ≡ true → first_bad.id all x ≡ None
  made_early x e =
      let w = some_of (maker x (before p.group)) e in
      id_fine all x w.0 (ap (maker x) all_is ∙ stays bound (before p.group) behind x w.0 behind_passes w.1)

  made_main : first_bad.id all id.main ≡ None
  made_main =
      let o = function_op p.group bound in
      id_fine all id.main o (ap (maker id.main) (all_is ∙ after_append numbers function (before p.group)) ∙ stays bound begun (op.Label enter ∷ inner) id.main o (enter_fine, inner_passes) (maker_here id.main o with_numbers refl))

  labels_made : (l : ℕ) → HasLabel l (code ++ tail) → IsBlock all l
  labels_made l h = label_made bound [] ops l ops_pass (has_right l (preamble p.group) behind (has_right l numbers function (inr (has_right l zeros (code ++ tail) h))))

  leave_made : IsBlock all leave
  leave_made = labels_made leave (has_right leave code tail (inl refl))

  code_settles : Settles all code
  code_settles = body_settles at all p.declared p.body (body_start at) leave leave leave (λ l h. labels_made l (has_left l code tail h)) leave_made leave_made leave_made

  ops_settle : Settles all ops
  ops_settle =
      settles_append all (preamble p.group) behind (preamble_settles p.group all made_early made_main)
      (settles_append all numbers function (constants_settle all (numbers_of p) first_number)
      (tt, (tt, (tt, settles_append all zeros (code ++ tail) (zeros_settle all at (at.variables - 1) (first + 1)) (settles_append all code tail code_settles (tt, (tt, (tt, tt))))))))

  abbrev before_end : List Op
  before_end = op.Return ∷ op.Label leave ∷ ended

  all_ends : ends_function all ≡ true
  all_ends = ap ends_function (all_is ∙ after_append numbers function (before p.group) ∙ after_append zeros (code ++ tail) with_turn ∙ after_append code tail start)

  body_right : body_fault bound (whole ops) ≡ None
  body_right =
      let end = 5 + total_words ops in
      ap (λ f. or_else f (or_else (fault_at (end - 1) (unless (ends_function all) kind.Flow)) (late_fault all 5 ops))) (passes_fault bound [] ops 5 ops_pass)
      ∙ ap (λ t. or_else (fault_at (end - 1) (unless t kind.Flow)) (late_fault all 5 ops)) all_ends
      ∙ settles_fault all ops 5 ops_settle

-- ## The words

abbrev first_missing : (a b c d e : Bool) → Option ModuleFault
first_missing a b c d e =
    option_map (λ at. record { word = at; kind = kind.Header })
    (if not (a && true) then Some 0 else if not (b && true) then Some 1 else if not (c && true) then Some 2 else if not (d && true) then Some 3 else if not (e && true) then Some 4 else None)

none_missing : (a b c d e : Bool) → a ≡ true → b ≡ true → c ≡ true → d ≡ true → e ≡ true → first_missing a b c d e ≡ None
none_missing true true true true true ea eb ec ed ee = refl
none_missing false b c d e ea eb ec ed ee = cc
none_missing true false c d e ea eb ec ed ee = cc
none_missing true true false d e ea eb ec ed ee = cc
none_missing true true true false e ea eb ec ed ee = cc
none_missing true true true true false ea eb ec ed ee = cc

header_right : (limit : ℕ) (ws : List ℕ) → header_fault (header limit ++ ws) ≡ None
unfolding header_fault
header_right limit ws =
    let n = length (header limit ++ ws) in
    none_missing (nat_lt 0 n) (nat_lt 1 n) (nat_lt 2 n) (nat_lt 3 n) (nat_lt 4 n) (lt-ltb 0 n (omega arith)) (lt-ltb 1 n (omega arith)) (lt-ltb 2 n (omega arith)) (lt-ltb 3 n (omega arith)) (lt-ltb 4 n (omega arith))

-- the module of a good shader has no word that is refused
pub accepted : (p : Program) → IsGood p → first_bad.first_bad (module_of p) ≡ None
unfolding first_bad.first_bad module_of module_ops
accepted p good =
    let ops = module_ops p in
    let ws = words_of ops in
    ap (λ f. or_else f (first_bad.behind_header (module_of p))) (header_right (module_bound p) ws)
    ∙ ap (body_fault (module_bound p)) (reads_back ops (length ws) (omega arith) (module_spelled p))
    ∙ body_right p good
