-- The numbers, the function and its variables are taken, and then the code begins.
use Rattle.std.proofs.Common.{◌≡◌, ℕ, zero, suc, ◌+◌, ◌<◌, ◌≤◌, ◌≢◌, Bool, true, false, if◌then◌else◌, List, [], ◌∷◌, length, Some, None, refl, ap, ◌∙◌, subst, arith}
use Rattle.std.specs.Prelude.{◌&&◌, not, slice_index}
use Rattle.spirv_model.specs.declared.fault.ModuleKind.TheVariants as kind
use Rattle.spirv_model.specs.declared.merge.Merge.TheVariants.{NoMerge}
use Rattle.spirv_model.specs.Op.{Op}
use Rattle.spirv_model.specs.Op as op
use Rattle.spirv_model.specs.declared.storage_classes.TheConstants as class
use Rattle.spirv_model.specs.declared.settings.TheConstants as setting
use Rattle.spirv_model.specs.History.{maker, in_function, block_is_open, is_entry, after}
use Rattle.spirv_model.specs.Types.{made_as, is_word, is_void, is_function_type, may_hold}
use Rattle.spirv_model.specs.Values.{is_type, pointee, variable_class, is_variable_type}
use Rattle.spirv_model.specs.Operands.{Verdict, or_else, unless, operands}
use Rattle.spirv_model.specs.Sections.{section, is_body, follows, in_order}
use Rattle.spirv_model.specs.Blocks.{pending, takes}
use Rattle.spirv_model.specs.FirstBad.{first_word_rule}
use Rattle.spirv_emit.specs.Layout as id
use Rattle.spirv_emit.specs.Layout.{Layout, variable, first_number}
use Rattle.spirv_emit.specs.Module.{constants, local, zero_variables}
use Rattle.spirv_emit.proofs.Profile.InstructionsPass.{Fine, Passes, maker_here, maker_other, result_fine, made_fine}
use Rattle.spirv_emit.proofs.Profile.StraightCode.{plain, behind_order, first_fine}
use Rattle.spirv_emit.proofs.Profile.Scope.{Setting, setting_kept}
use Rattle.spirv_emit.proofs.Profile.PreamblePasses.{before, before_setting, before_main, before_void, before_main_type}

-- ## Numbers

-- behind the types, before the function: from which id on all are free
pub record Outside (g : List ℕ) (n : ℕ) (h : List Op) : Type 0 where
  pub outside : in_function h ≡ false
  pub calm : pending h ≡ NoMerge
  pub takes_constant : (t r v : ℕ) → in_order h (op.Constant t r v) ≡ true
  pub takes_function : (t r c f : ℕ) → in_order h (op.Function t r c f) ≡ true
  pub entry : is_entry id.main h ≡ true
  pub fresh : (x : ℕ) → n ≤ x → maker x h ≡ None
  pub agrees : (x : ℕ) → x < first_number → maker x h ≡ maker x (before g)

module _ (g : List ℕ) (bound : ℕ) where
  pub record ConstantsPass (r : ℕ) (vs : List ℕ) (h : List Op) : Type 0 where
    pub passes : Passes bound h (constants r vs)
    pub stands : Outside g (r + length vs) (after (constants r vs) h)
    pub made : (i : ℕ) → i < length vs → maker (r + i) (after (constants r vs) h) ≡ Some (op.Constant id.word_type (r + i) (slice_index vs i))
    pub kept : (x : ℕ) → x < r → maker x (after (constants r vs) h) ≡ maker x h

  constant_first : (r v n : ℕ) (h : List Op) → Outside g n h → first_word_rule h (op.Constant id.word_type r v) ≡ None
  constant_first r v n h s = let o = op.Constant id.word_type r v in first_fine h o (s.takes_constant id.word_type r v) (ap (λ m. takes m o) s.calm)

  constant_fine : (r v n : ℕ) (h : List Op) → first_number ≤ r → r < bound → n ≤ r → Outside g n h → Fine (operands bound h (op.Constant id.word_type r v))
  constant_fine r v n h le lt nr s =
      (made_fine bound h is_word id.word_type (op.TypeInt id.word_type setting.WORD_WIDTH setting.UNSIGNED) (omega arith) (s.agrees id.word_type (omega arith) ∙ (before_setting g).word) refl, (result_fine bound h r lt (s.fresh r nr), (refl, tt)))

  outside_more : (r v : ℕ) (h : List Op) → first_number ≤ r → Outside g r h → Outside g (r + 1) (op.Constant id.word_type r v ∷ h)
  outside_more r v h le s =
      let o = op.Constant id.word_type r v in
      record {
        outside = s.outside;
        calm = refl;
        takes_constant = λ t q w. refl;
        takes_function = λ t q c f. ap not s.outside;
        entry = s.entry;
        fresh = λ x k. maker_other x r o h refl (λ e. absurd (omega arith)) ∙ s.fresh x (omega arith);
        agrees = λ x k. maker_other x r o h refl (λ e. absurd (omega arith)) ∙ s.agrees x k;
      }

  outside_same : (n m : ℕ) (h : List Op) → n ≡ m → Outside g n h → Outside g m h
  outside_same n m h e s = subst (λ k. Outside g k h) e s

  pub constants_pass : (vs : List ℕ) (r : ℕ) (h : List Op) → first_number ≤ r → r + length vs ≤ bound → Outside g r h → ConstantsPass r vs h
  constants_pass [] r h le lb s = record { passes = tt; stands = outside_same r (r + 0) h (omega arith) s; made = λ i lt. absurd (omega arith); kept = λ x lt. refl }
  constants_pass (v ∷ vs) r h le lb s =
      let o = op.Constant id.word_type r v in
      let h1 = o ∷ h in
      let more = constants_pass vs (r + 1) h1 (omega arith) (omega (arith, lb)) (outside_more r v h le s) in
      record {
        passes = ((constant_first r v r h s, constant_fine r v r h le (omega (arith, lb)) (omega arith) s), more.passes);
        stands = outside_same (r + 1 + length vs) (r + length (v ∷ vs)) (after (constants (r + 1) vs) h1) (omega arith) more.stands;
        made = made_at more.kept more.made;
        kept = λ x lt. more.kept x (omega arith) ∙ maker_other x r o h refl (λ e. absurd (omega arith));
      }
    where
      made_at : ((x : ℕ) → x < r + 1 → maker x (after (constants (r + 1) vs) (op.Constant id.word_type r v ∷ h)) ≡ maker x (op.Constant id.word_type r v ∷ h)) → ((i : ℕ) → i < length vs → maker (r + 1 + i) (after (constants (r + 1) vs) (op.Constant id.word_type r v ∷ h)) ≡ Some (op.Constant id.word_type (r + 1 + i) (slice_index vs i))) → (i : ℕ) → i < length (v ∷ vs) → maker (r + i) (after (constants r (v ∷ vs)) h) ≡ Some (op.Constant id.word_type (r + i) (slice_index (v ∷ vs) i))
      made_at kept more zero lt =
          let e : r ≡ r + 0 = omega arith in
          subst (λ z. maker z (after (constants r (v ∷ vs)) h) ≡ Some (op.Constant id.word_type z v)) e (kept r (omega arith) ∙ maker_here r (op.Constant id.word_type r v) h refl)
      made_at kept more (suc i) lt =
          let e : r + 1 + i ≡ r + suc i = omega arith in
          subst (λ z. maker z (after (constants r (v ∷ vs)) h) ≡ Some (op.Constant id.word_type z (slice_index vs i))) e (more i (omega (arith, lt)))

  -- ## The function

  abbrev pub function_op : Op
  function_op = op.Function id.void_type id.main setting.NO_CONTROL id.main_type

  pub function_fine : (n : ℕ) (h : List Op) → first_number ≤ bound → Outside g n h → Fine (first_word_rule h function_op ∷ operands bound h function_op)
  function_fine n h le s = (
    first_fine h function_op (s.takes_function id.void_type id.main setting.NO_CONTROL id.main_type) refl,
    (
      made_fine bound h is_void id.void_type (op.TypeVoid id.void_type) (omega arith) (s.agrees id.void_type (omega arith) ∙ before_void g) refl,
      (
        ap (λ (q : Verdict). or_else q (unless (is_entry id.main h) kind.Shape)) (result_fine bound h id.main (omega arith) (s.agrees id.main (omega arith) ∙ before_main g)) ∙ ap (λ t. unless t kind.Shape) s.entry,
        (refl, (made_fine bound h is_function_type id.main_type (op.TypeFunction id.main_type id.void_type) (omega arith) (s.agrees id.main_type (omega arith) ∙ before_main_type g) refl, tt)),
      ),
    ),
  )

-- ## Variables

-- in the function's first block, behind its label l: from which id on all others are free, where those below first
-- have the makers that they had before the function
pub record Within (l first : ℕ) (start : List Op) (n : ℕ) (h : List Op) : Type 0 where
  pub inside : in_function h ≡ true
  pub block : block_is_open h ≡ true
  pub calm : pending h ≡ NoMerge
  pub takes_variable : (t r c : ℕ) (vs : List ℕ) → in_order h (op.Variable t r c vs) ≡ true
  pub takes_plain : (o : Op) → plain o ≡ true → in_order h o ≡ true
  pub fresh : (x : ℕ) → n ≤ x → x ≢ l → maker x h ≡ None
  pub agrees : (x : ℕ) → x < first → maker x h ≡ maker x start

module _ (at : Layout) (bound l first : ℕ) (start : List Op) (base : Setting start) (low : first_number ≤ first) (high : first ≤ l) (roomy : l < bound) where
  abbrev Stays : ℕ → List Op → Type 0
  Stays n h = Within l first start n h

  setting_here : (n : ℕ) (h : List Op) → Stays n h → Setting h
  setting_here n h s = setting_kept start h (λ x lt. s.agrees x (omega arith)) base

  local_first : (r v n : ℕ) (h : List Op) → Stays n h → first_word_rule h (local at r v) ≡ None
  local_first r v n h s =
      let o = local at r v in
      first_fine h o (s.takes_variable id.to_variable r class.FUNCTION (at.number v ∷ []))
      (ap (λ t. (if is_body (section t o) then block_is_open h else true) && takes (pending h) o) s.inside ∙ ap (λ t. t && takes (pending h) o) s.block ∙ ap (λ m. takes m o) s.calm)

  -- a variable that begins with a number
  local_fine : (r v n : ℕ) (h : List Op) → r < l → n ≤ r → Stays n h → at.number v < first → maker (at.number v) start ≡ Some (op.Constant id.word_type (at.number v) v) → Fine (operands bound h (local at r v))
  local_fine r v n h rl nr s lv number =
      let sc = setting_here n h s in
      let x = at.number v in (
        made_fine bound h (is_variable_type h) id.to_variable (op.TypePointer id.to_variable class.FUNCTION id.word_type) (omega arith) sc.local_word (ap (λ u. made_as (may_hold h class.FUNCTION) u) sc.word),
        (
          result_fine bound h r (omega arith) (s.fresh r nr (λ e. absurd (omega arith))),
          (
            ap (λ u. unless (variable_class h class.FUNCTION u) kind.Shape) sc.local_word ∙ ap (λ (t : Bool). unless (if t then true else false) kind.Shape) s.inside,
            (
              made_fine bound h _ x (op.Constant id.word_type x v) (omega arith) (s.agrees x lv ∙ number) (ap (λ u. is_type (Some id.word_type) (pointee u)) sc.local_word),
              tt,
            ),
          ),
        ),
      )

  within_more : (r v : ℕ) (h : List Op) → r < l → first ≤ r → Stays r h → Stays (r + 1) (local at r v ∷ h)
  within_more r v h rl fr s =
      let o = local at r v in
      record {
        inside = s.inside;
        block = s.block;
        calm = refl;
        takes_variable = λ t q c vs. ap (λ b. follows (section b o) (section b (op.Variable t q c vs)) && (if is_body (section b (op.Variable t q c vs)) then true else true)) s.inside;
        takes_plain = λ o' e. behind_order h o o' refl (ap (λ t. section t o) s.inside) s.inside e;
        fresh = λ x k ne. maker_other x r o h refl (λ e. absurd (omega arith)) ∙ s.fresh x (omega arith) ne;
        agrees = λ x k. maker_other x r o h refl (λ e. absurd (omega arith)) ∙ s.agrees x k;
      }

  within_same : (n m : ℕ) (h : List Op) → n ≡ m → Stays n h → Stays m h
  within_same n m h e s = subst (λ k. Stays k h) e s

  pub record VariablesPass (r count : ℕ) (h : List Op) : Type 0 where
    pub passes : Passes bound h (zero_variables at r count)
    pub stands : Within l first start (r + count) (after (zero_variables at r count) h)
    pub made : (i : ℕ) → i < count → maker (r + i) (after (zero_variables at r count) h) ≡ Some (local at (r + i) 0)
    pub kept : (x : ℕ) → x < r → maker x (after (zero_variables at r count) h) ≡ maker x h

  -- one variable, of which the number has an id
  pub local_passes : (r v n : ℕ) (h : List Op) → r < l → n ≤ r → Within l first start n h → at.number v < first → maker (at.number v) start ≡ Some (op.Constant id.word_type (at.number v) v) → Fine (first_word_rule h (local at r v) ∷ operands bound h (local at r v))
  local_passes r v n h rl nr s lv number = (local_first r v n h s, local_fine r v n h rl nr s lv number)

  pub behind_local : (r v : ℕ) (h : List Op) → r < l → first ≤ r → Within l first start r h → Within l first start (r + 1) (local at r v ∷ h)
  behind_local r v h rl fr s = within_more r v h rl fr s

  pub variables_pass : at.number 0 < first → maker (at.number 0) start ≡ Some (op.Constant id.word_type (at.number 0) 0) → (count r : ℕ) (h : List Op) → first ≤ r → r + count ≤ l → Within l first start r h → VariablesPass r count h
  variables_pass lv number zero r h fr rl s = record { passes = tt; stands = within_same r (r + 0) h (omega arith) s; made = λ i lt. absurd (omega arith); kept = λ x lt. refl }
  variables_pass lv number (suc count) r h fr rl s =
      let o = local at r 0 in
      let more = variables_pass lv number count (r + 1) (o ∷ h) (omega arith) (omega (arith, rl)) (within_more r 0 h (omega (arith, rl)) fr s) in
      record {
        passes = (local_passes r 0 r h (omega (arith, rl)) (omega arith) s lv number, more.passes);
        stands = within_same (r + 1 + count) (r + suc count) (after (zero_variables at (r + 1) count) (o ∷ h)) (omega arith) more.stands;
        made = made_at more.kept more.made;
        kept = λ x lt. more.kept x (omega arith) ∙ maker_other x r o h refl (λ e. absurd (omega arith));
      }
    where
      made_at : ((x : ℕ) → x < r + 1 → maker x (after (zero_variables at (r + 1) count) (local at r 0 ∷ h)) ≡ maker x (local at r 0 ∷ h)) → ((i : ℕ) → i < count → maker (r + 1 + i) (after (zero_variables at (r + 1) count) (local at r 0 ∷ h)) ≡ Some (local at (r + 1 + i) 0)) → (i : ℕ) → i < suc count → maker (r + i) (after (zero_variables at r (suc count)) h) ≡ Some (local at (r + i) 0)
      made_at kept more zero lt =
          let e : r ≡ r + 0 = omega arith in
          subst (λ z. maker z (after (zero_variables at r (suc count)) h) ≡ Some (local at z 0)) e (kept r (omega arith) ∙ maker_here r (local at r 0) h refl)
      made_at kept more (suc i) lt =
          let e : r + 1 + i ≡ r + suc i = omega arith in
          subst (λ z. maker z (after (zero_variables at r (suc count)) h) ≡ Some (local at z 0)) e (more i (omega (arith, lt)))
