-- What stands before the code: the types, the numbers and the variables.
use Rattle.std.proofs.Common.{◌≡◌, ℕ, ◌<◌, Bool, List, [], ◌∷◌, Some, ◌∙◌, arith, replicate}
use Rattle.spirv_model.specs.declared.settings.TheConstants as setting
use Rattle.spirv_model.specs.Op.{Op}
use Rattle.spirv_model.specs.Op as op
use Rattle.spirv_model.specs.declared.storage_classes.TheConstants as class
use Rattle.spirv_model.specs.History.{maker}
use Rattle.spirv_emit.specs.declared.piece.Vector.{Vector}
use Rattle.spirv_emit.specs.declared.piece.Vector.TheVariants.{Group, Thread, Global}
use Rattle.spirv_emit.specs.Layout as id
use Rattle.spirv_emit.specs.Layout.{Layout, variable, first_code, buffer_at, bindings, vector_id}
use Rattle.spirv_emit.proofs.Meaning.HeldFrames.{Pool}
use Rattle.spirv_emit.proofs.Profile.TypedOperands.{Typed}
use Rattle.spirv_emit.proofs.Profile.CodePlaces.{Standing}

abbrev pub Pointer : List Op → (p class t : ℕ) → Type 0
Pointer h p class t = maker p h ≡ Some (op.TypePointer p class t)

-- the makers of the types, and of the module's variables
pub record Setting (h : List Op) : Type 0 where
  pub word : maker id.word_type h ≡ Some (op.TypeInt id.word_type setting.WORD_WIDTH setting.UNSIGNED)
  pub truth : maker id.truth_type h ≡ Some (op.TypeBool id.truth_type)
  pub vector : maker id.vector_type h ≡ Some (op.TypeVector id.vector_type id.word_type 3)
  pub pair : maker id.pair_type h ≡ Some (op.TypeStruct id.pair_type (id.word_type ∷ id.word_type ∷ []))
  pub array : maker id.array_type h ≡ Some (op.TypeRuntimeArray id.array_type id.word_type)
  pub buffer_block : maker id.buffer_block h ≡ Some (op.TypeStruct id.buffer_block (id.array_type ∷ []))
  pub lengths_block : maker id.lengths_block h ≡ Some (op.TypeStruct id.lengths_block (replicate bindings id.word_type))
  pub input_vector : Pointer h id.to_input_vector class.INPUT id.vector_type
  pub input_word : Pointer h id.to_input_word class.INPUT id.word_type
  pub local_word : Pointer h id.to_variable class.FUNCTION id.word_type
  pub to_lengths : Pointer h id.to_lengths class.PUSH_CONSTANT id.lengths_block
  pub length_word : Pointer h id.to_length class.PUSH_CONSTANT id.word_type
  pub to_buffer : Pointer h id.to_buffer class.STORAGE_BUFFER id.buffer_block
  pub buffer_word : Pointer h id.to_word class.STORAGE_BUFFER id.word_type
  pub vectors : (k : Vector) → maker (vector_id k) h ≡ Some (op.Variable id.to_input_vector (vector_id k) class.INPUT [])
  pub index : maker id.thread_index h ≡ Some (op.Variable id.to_input_word id.thread_index class.INPUT [])
  pub lengths : maker id.lengths h ≡ Some (op.Variable id.to_lengths id.lengths class.PUSH_CONSTANT [])
  pub buffers : (b : ℕ) → b < bindings → maker (buffer_at b) h ≡ Some (op.Variable id.to_buffer (buffer_at b) class.STORAGE_BUFFER [])

pub vector_less : (k : Vector) → vector_id k < id.main
vector_less Group = omega arith
vector_less Thread = omega arith
vector_less Global = omega arith

-- it is the same wherever the ids below that of main have the makers that they had
pub setting_kept : (h h' : List Op) → ((x : ℕ) → x < id.main → maker x h' ≡ maker x h) → Setting h → Setting h'
setting_kept h h' same s = record {
  word = same id.word_type (omega arith) ∙ s.word;
  truth = same id.truth_type (omega arith) ∙ s.truth;
  vector = same id.vector_type (omega arith) ∙ s.vector;
  pair = same id.pair_type (omega arith) ∙ s.pair;
  array = same id.array_type (omega arith) ∙ s.array;
  buffer_block = same id.buffer_block (omega arith) ∙ s.buffer_block;
  lengths_block = same id.lengths_block (omega arith) ∙ s.lengths_block;
  input_vector = same id.to_input_vector (omega arith) ∙ s.input_vector;
  input_word = same id.to_input_word (omega arith) ∙ s.input_word;
  local_word = same id.to_variable (omega arith) ∙ s.local_word;
  to_lengths = same id.to_lengths (omega arith) ∙ s.to_lengths;
  length_word = same id.to_length (omega arith) ∙ s.length_word;
  to_buffer = same id.to_buffer (omega arith) ∙ s.to_buffer;
  buffer_word = same id.to_word (omega arith) ∙ s.buffer_word;
  vectors = λ k. same (vector_id k) (vector_less k) ∙ s.vectors k;
  index = same id.thread_index (omega arith) ∙ s.index;
  lengths = same id.lengths (omega arith) ∙ s.lengths;
  buffers = λ b lt. same (buffer_at b) (omega arith) ∙ s.buffers b lt;
}

pub typed_kept : (h h' : List Op) (x t : ℕ) → maker x h' ≡ maker x h → Typed h x t → Typed h' x t
typed_kept h h' x t e y = record { by = y.by; is = e ∙ y.is; type_is = y.type_is }

module _ (at : Layout) (Has : ℕ → Type 0) where
  -- the numbers and the function's variables too
  pub record Scope (h : List Op) : Type 0 where
    pub setting : Setting h
    pub numbers : (v : ℕ) → Has v → maker (at.number v) h ≡ Some (op.Constant id.word_type (at.number v) v)
    pub variables : (x : ℕ) → x < at.variables → Typed h (variable at x) id.to_variable

  -- it is the same wherever the code stands
  pub scope_here : (bound n : ℕ) (start h : List Op) (opened : Bool) → Pool at Has → Scope start → Standing bound (first_code at) start opened n h → Scope h
  scope_here bound n start h opened pool s st =
      let r = pool.behind in
      record {
        setting = setting_kept start h (λ x lt. st.agrees x (omega arith)) s.setting;
        numbers = λ v has. let lt = pool.below v has in st.agrees (at.number v) (omega arith) ∙ s.numbers v has;
        variables = λ x lt. typed_kept start h (variable at x) id.to_variable (st.agrees (variable at x) (omega arith)) (s.variables x lt);
      }
