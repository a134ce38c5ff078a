-- The rules of the operands of emitted instructions, where the types and the module's variables are made.
use Rattle.std.proofs.Common.{◌≡◌, ◌⊎◌, inl, inr, ⊎_elim, if◌then◌else◌, ℕ, ◌<◌, ◌≤◌, true, List, [], ◌∷◌, Some, None, refl, ap, ◌∙◌, arith}
use Rattle.std.specs.Prelude.{◌||◌, ◌&&◌, ◌==◌, nat_lt}
use Rattle.std.proofs.lemmas.Bool.{lt-ltb}
use Rattle.spirv_model.specs.declared.settings.TheConstants.{WORD_WIDTH, UNSIGNED}
use Rattle.spirv_model.specs.declared.fault.ModuleKind.TheVariants as kind
use Rattle.spirv_model.specs.declared.code.UnaryCode.{UnaryCode}
use Rattle.spirv_model.specs.declared.code.UnaryCode.TheVariants as unary
use Rattle.spirv_model.specs.declared.code.BinaryCode.{BinaryCode}
use Rattle.spirv_model.specs.declared.code.BinaryCode.TheVariants as binary
use Rattle.spirv_model.specs.Op.{Op}
use Rattle.spirv_model.specs.Op as op
use Rattle.spirv_model.specs.History.{maker}
use Rattle.spirv_model.specs.Types.{made_as, is_word, is_truth, is_vector, is_array, is_pair, is_pointer}
use Rattle.spirv_model.specs.Values.{type_named, type_given, type_pointed, is_type, component, component_count, depth, block_of, member_count, class_is}
use Rattle.spirv_model.specs.Operands.{made, unless, operands}
use Rattle.spirv_emit.specs.Layout as id
use Rattle.spirv_emit.specs.Layout.{bindings}
use Rattle.spirv_emit.specs.Code.{one_type, two_type}
use Rattle.spirv_emit.proofs.Profile.InstructionsPass.{Fine, made_fine, result_fine}
use Rattle.spirv_emit.proofs.Profile.TypedOperands.{Typed, value_fine, word_fine, truth_fine, pointer_fine, constant_fine}
use Rattle.spirv_emit.proofs.Profile.Scope.{Setting}
use Rattle.spirv_emit.proofs.Profile.StepTypes.{one_takes, two_takes}

module _ (bound : ℕ) (h : List Op) (setting : Setting h) (wide : 61 ≤ bound) where
  pub word_type_fine : made bound h is_word id.word_type ≡ None
  word_type_fine = made_fine bound h is_word id.word_type (op.TypeInt id.word_type WORD_WIDTH UNSIGNED) (omega arith) setting.word refl

  truth_type_fine : made bound h is_truth id.truth_type ≡ None
  truth_type_fine = made_fine bound h is_truth id.truth_type (op.TypeBool id.truth_type) (omega arith) setting.truth refl

  pair_type_fine : made bound h (is_pair h) id.pair_type ≡ None
  pair_type_fine =
      made_fine bound h (is_pair h) id.pair_type (op.TypeStruct id.pair_type (id.word_type ∷ id.word_type ∷ [])) (omega arith) setting.pair
      (ap (λ u. made_as is_word u && made_as is_word u) setting.word)

  pub unary_fine : (o : UnaryCode) (r a : ℕ) → r < bound → a < bound → maker r h ≡ None → Typed h a (one_takes o) → Fine (operands bound h (op.Unary o (one_type o) r a))
  unary_fine unary.LogicalNot r a lr la e y = (truth_type_fine, (result_fine bound h r lr e, (truth_fine bound h a id.truth_type la y setting.truth, tt)))
  unary_fine unary.Negate r a lr la e y = (word_type_fine, (result_fine bound h r lr e, (word_fine bound h a id.word_type la y setting.word, tt)))
  unary_fine unary.Complement r a lr la e y = (word_type_fine, (result_fine bound h r lr e, (word_fine bound h a id.word_type la y setting.word, tt)))
  unary_fine unary.BitReverse r a lr la e y = (word_type_fine, (result_fine bound h r lr e, (word_fine bound h a id.word_type la y setting.word, tt)))
  unary_fine unary.BitCount r a lr la e y = (word_type_fine, (result_fine bound h r lr e, (word_fine bound h a id.word_type la y setting.word, tt)))

  computed : (a b r : ℕ) → r < bound → a < bound → b < bound → maker r h ≡ None → Typed h a id.word_type → Typed h b id.word_type → Fine (operands bound h (op.Binary binary.Add id.word_type r a b))
  computed a b r lr la lb e ya yb = (word_type_fine, (result_fine bound h r lr e, (word_fine bound h a id.word_type la ya setting.word, (word_fine bound h b id.word_type lb yb setting.word, tt))))

  compared : (a b r : ℕ) → r < bound → a < bound → b < bound → maker r h ≡ None → Typed h a id.word_type → Typed h b id.word_type → Fine (operands bound h (op.Binary binary.Less id.truth_type r a b))
  compared a b r lr la lb e ya yb = (truth_type_fine, (result_fine bound h r lr e, (word_fine bound h a id.word_type la ya setting.word, (word_fine bound h b id.word_type lb yb setting.word, tt))))

  multiplied : (a b r : ℕ) → r < bound → a < bound → b < bound → maker r h ≡ None → Typed h a id.word_type → Typed h b id.word_type → Fine (operands bound h (op.Binary binary.WideMultiply id.pair_type r a b))
  multiplied a b r lr la lb e ya yb = (pair_type_fine, (result_fine bound h r lr e, (word_fine bound h a id.word_type la ya setting.word, (word_fine bound h b id.word_type lb yb setting.word, tt))))

  pub binary_fine : (o : BinaryCode) (r a b : ℕ) → r < bound → a < bound → b < bound → maker r h ≡ None → Typed h a (two_takes o) → Typed h b (two_takes o) → Fine (operands bound h (op.Binary o (two_type o) r a b))
  binary_fine binary.Add r a b lr la lb e ya yb = computed a b r lr la lb e ya yb
  binary_fine binary.Subtract r a b lr la lb e ya yb = computed a b r lr la lb e ya yb
  binary_fine binary.Multiply r a b lr la lb e ya yb = computed a b r lr la lb e ya yb
  binary_fine binary.Divide r a b lr la lb e ya yb = computed a b r lr la lb e ya yb
  binary_fine binary.Modulo r a b lr la lb e ya yb = computed a b r lr la lb e ya yb
  binary_fine binary.ShiftRight r a b lr la lb e ya yb = computed a b r lr la lb e ya yb
  binary_fine binary.SignedShiftRight r a b lr la lb e ya yb = computed a b r lr la lb e ya yb
  binary_fine binary.ShiftLeft r a b lr la lb e ya yb = computed a b r lr la lb e ya yb
  binary_fine binary.BitOr r a b lr la lb e ya yb = computed a b r lr la lb e ya yb
  binary_fine binary.BitXor r a b lr la lb e ya yb = computed a b r lr la lb e ya yb
  binary_fine binary.BitAnd r a b lr la lb e ya yb = computed a b r lr la lb e ya yb
  binary_fine binary.Equal r a b lr la lb e ya yb = compared a b r lr la lb e ya yb
  binary_fine binary.NotEqual r a b lr la lb e ya yb = compared a b r lr la lb e ya yb
  binary_fine binary.GreaterEqual r a b lr la lb e ya yb = compared a b r lr la lb e ya yb
  binary_fine binary.SignedGreaterEqual r a b lr la lb e ya yb = compared a b r lr la lb e ya yb
  binary_fine binary.Less r a b lr la lb e ya yb = compared a b r lr la lb e ya yb
  binary_fine binary.SignedLess r a b lr la lb e ya yb = compared a b r lr la lb e ya yb
  binary_fine binary.LogicalAnd r a b lr la lb e ya yb = (truth_type_fine, (result_fine bound h r lr e, (truth_fine bound h a id.truth_type la ya setting.truth, (truth_fine bound h b id.truth_type lb yb setting.truth, tt))))
  binary_fine binary.WideMultiply r a b lr la lb e ya yb = multiplied a b r lr la lb e ya yb
  binary_fine binary.SignedWideMultiply r a b lr la lb e ya yb = multiplied a b r lr la lb e ya yb

  loaded_type : made bound h (λ o. is_word o || is_vector o) id.word_type ≡ None
  loaded_type = made_fine bound h _ id.word_type (op.TypeInt id.word_type WORD_WIDTH UNSIGNED) (omega arith) setting.word refl

  -- a word that is loaded through a pointer
  pub load_fine : (r x p class : ℕ) → r < bound → x < bound → maker r h ≡ None → Typed h x p → maker p h ≡ Some (op.TypePointer p class id.word_type) → Fine (operands bound h (op.Load id.word_type r x))
  load_fine r x p class lr lx e y k = (loaded_type, (result_fine bound h r lr e, (pointer_fine bound h x p class id.word_type lx y k, tt)))

  loaded_vector : made bound h (λ o. is_word o || is_vector o) id.vector_type ≡ None
  loaded_vector = made_fine bound h _ id.vector_type (op.TypeVector id.vector_type id.word_type 3) (omega arith) setting.vector refl

  pub load_vector_fine : (r x : ℕ) → r < bound → x < bound → maker r h ≡ None → Typed h x id.to_input_vector → Fine (operands bound h (op.Load id.vector_type r x))
  load_vector_fine r x lr lx e y = (loaded_vector, (result_fine bound h r lr e, (pointer_fine bound h x id.to_input_vector 1 id.vector_type lx y setting.input_vector, tt)))

  -- a type of words that a choice takes
  choice_type : made bound h (λ o. is_word o || is_truth o) id.word_type ≡ None
  choice_type = made_fine bound h _ id.word_type (op.TypeInt id.word_type WORD_WIDTH UNSIGNED) (omega arith) setting.word refl

  pub select_fine : (r c a b : ℕ) → r < bound → c < bound → a < bound → b < bound → maker r h ≡ None → Typed h c id.truth_type → Typed h a id.word_type → Typed h b id.word_type → Fine (operands bound h (op.Select id.word_type r c a b))
  select_fine r c a b lr lc la lb e yc ya yb =
      (choice_type, (result_fine bound h r lr e, (truth_fine bound h c id.truth_type lc yc setting.truth, (value_fine bound h a id.word_type la ya, (value_fine bound h b id.word_type lb yb, tt)))))

  -- a component of a vector, and the high half of a product
  pub part_fine : (r x i : ℕ) → r < bound → x < bound → maker r h ≡ None → i < 3 → Typed h x id.vector_type → Fine (operands bound h (op.CompositeExtract id.word_type r x i))
  part_fine r x i lr lx e li y = (
    word_type_fine,
    (
      result_fine bound h r lr e,
      (
        made_fine bound h _ x y.by lx y.is (ap (λ u. is_type (component (type_named h u)) (Some id.word_type)) y.type_is ∙ ap (λ u. is_type (component u) (Some id.word_type)) setting.vector),
        (
          ap (λ u. unless (nat_lt i (component_count (type_given h u))) kind.Shape) y.is
              ∙ ap (λ u. unless (nat_lt i (component_count (type_named h u))) kind.Shape) y.type_is
              ∙ ap (λ u. unless (nat_lt i (component_count u)) kind.Shape) setting.vector
              ∙ ap (λ t. unless t kind.Shape) (lt-ltb i 3 li),
          tt,
        ),
      ),
    ),
  )

  pub half_fine : (r x : ℕ) → r < bound → x < bound → maker r h ≡ None → Typed h x id.pair_type → Fine (operands bound h (op.CompositeExtract id.word_type r x 1))
  half_fine r x lr lx e y = (
    word_type_fine,
    (
      result_fine bound h r lr e,
      (
        made_fine bound h _ x y.by lx y.is (ap (λ u. is_type (component (type_named h u)) (Some id.word_type)) y.type_is ∙ ap (λ u. is_type (component u) (Some id.word_type)) setting.pair),
        (
          ap (λ u. unless (nat_lt 1 (component_count (type_given h u))) kind.Shape) y.is
              ∙ ap (λ u. unless (nat_lt 1 (component_count (type_named h u))) kind.Shape) y.type_is
              ∙ ap (λ u. unless (nat_lt 1 (component_count u)) kind.Shape) setting.pair,
          tt,
        ),
      ),
    ),
  )

  -- pointers that access chains make
  reached_type : (class p : ℕ) → p < bound → maker p h ≡ Some (op.TypePointer p class id.word_type) → (class ≡ 9) ⊎ (class ≡ 12) → made bound h (λ o. is_pointer h 9 is_word o || is_pointer h 12 is_word o) p ≡ None
  reached_type class p lt e w = made_fine bound h _ p (op.TypePointer p class id.word_type) lt e (ap (λ u. ((class == 9) && made_as is_word u) || ((class == 12) && made_as is_word u)) setting.word ∙ ⊎_elim (λ (q : class ≡ 9). ap (λ c. ((c == 9) && true) || ((c == 12) && true)) q) (λ (q : class ≡ 12). ap (λ c. ((c == 9) && true) || ((c == 12) && true)) q) w)

  -- to the length of a buffer
  pub length_fine : (r b x : ℕ) → r < bound → x < bound → maker r h ≡ None → b < bindings → maker x h ≡ Some (op.Constant id.word_type x b) → Fine (operands bound h (op.AccessChain id.to_length r id.lengths (x ∷ [])))
  length_fine r b x lr ln e lb number = (
    reached_type 9 id.to_length (omega arith) setting.length_word (inl refl),
    (
      result_fine bound h r lr e,
      (
        made_fine bound h _ id.lengths (op.Variable id.to_lengths id.lengths 9 []) (omega arith) setting.lengths
            (ap (λ u. made_as (class_is 9) u && (depth h (type_pointed h (maker id.to_lengths h)) == 1)) setting.length_word
            ∙ ap (λ u. depth h (type_pointed h u) == 1) setting.to_lengths
            ∙ ap (λ u. depth h u == 1) setting.lengths_block),
        (
          constant_fine bound h _ x id.word_type b ln number
              (ap (λ u. nat_lt b (member_count (block_of h u))) setting.lengths
              ∙ ap (λ u. nat_lt b (member_count (type_pointed h u))) setting.to_lengths
              ∙ ap (λ u. nat_lt b (member_count u)) setting.lengths_block
              ∙ lt-ltb b 38 lb),
          tt,
        ),
      ),
    ),
  )

  -- to a word of a buffer
  pub element_fine : (r b x i : ℕ) → r < bound → x < bound → i < bound → maker r h ≡ None → b < bindings → maker x h ≡ Some (op.Constant id.word_type x 0) → Typed h i id.word_type → Fine (operands bound h (op.AccessChain id.to_word r (id.buffer_at b) (x ∷ i ∷ [])))
  element_fine r b x i lr ln li e lb number y = (
    reached_type 12 id.to_word (omega arith) setting.buffer_word (inr refl),
    (
      result_fine bound h r lr e,
      (
        made_fine bound h _ (id.buffer_at b) (op.Variable id.to_buffer (id.buffer_at b) 12 []) (omega arith) (setting.buffers b lb)
            (ap (λ u. made_as (class_is 12) u && (depth h (type_pointed h (maker id.to_buffer h)) == 2)) setting.buffer_word
            ∙ ap (λ u. depth h (type_pointed h u) == 2) setting.to_buffer
            ∙ ap (λ u. depth h u == 2) setting.buffer_block
            ∙ ap (λ u. (if made_as is_array u then 2 else 1) == 2) setting.array),
        (
          constant_fine bound h _ x id.word_type 0 ln number
              (ap (λ u. nat_lt 0 (member_count (block_of h u))) (setting.buffers b lb)
              ∙ ap (λ u. nat_lt 0 (member_count (type_pointed h u))) setting.to_buffer
              ∙ ap (λ u. nat_lt 0 (member_count u)) setting.buffer_block),
          (word_fine bound h i id.word_type li y setting.word, tt),
        ),
      ),
    ),
  )
