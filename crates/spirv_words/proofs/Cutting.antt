-- Cutting words into instructions.
use Rattle.std.proofs.Common.{◌≡◌, ℕ, suc, zero, ◌+◌, ◌-◌, ◌/◌, ◌%◌, ◌==◌, ◌≤◌, Bool, true, false, if◌then◌else◌, List, [], ◌∷◌, ◌++◌, length, take, drop, Option, Some, None, refl, ap, sym, ◌∙◌, arith}
use Rattle.std.specs.Prelude.{◌||◌, ◌&&◌, nat_lt, nat_le}
use Rattle.std.proofs.lemmas.List.{length-append, take-append-drop}
use Rattle.spirv_model.specs.declared.code.Opcode.{Opcode}
use Rattle.spirv_model.specs.declared.code.Opcode.TheVariants as opcode
use Rattle.spirv_model.specs.declared.fault.ModuleKind.TheVariants as kind
use Rattle.spirv_model.specs.Op.{Op}
use Rattle.spirv_model.specs.Op as op
use Rattle.spirv_model.specs.Decoration.{values_of}
use Rattle.spirv_model.specs.Table.{opcode_of, made_by, operands_of, from_0, from_1, from_2, from_3, from_4, from_5, from_6, from_8, from_1_and, from_4_and, is_counted, decorate_from, member_decorate_from, chain_from, variable_from}
use Rattle.spirv_model.specs.Words.{Front, Instruction, BadCount, BadOpcode, front_of_made, front_of_opcode, front}
use Rattle.spirv_model.specs.FirstBad.{Reading, read_more, read_front, reading, word_count}
use Rattle.spirv_words.specs.Reading.{reading_of}

-- ## An instruction has the operands that it is made of

of_0 : (f : Op) → (operands_of f ≡ []) → (ws : List ℕ) (o : Op) → from_0 f ws ≡ Some o → operands_of o ≡ ws
of_0 f s [] o e = let made : f ≡ o = cc in ap operands_of (sym made) ∙ s
of_0 f s (z ∷ ws) o e = cc

of_1 : (f : ℕ → Op) → ((a : ℕ) → operands_of (f a) ≡ a ∷ []) → (ws : List ℕ) (o : Op) → from_1 f ws ≡ Some o → operands_of o ≡ ws
of_1 f s [] o e = cc
of_1 f s (a ∷ []) o e = let made : f a ≡ o = cc in ap operands_of (sym made) ∙ s a
of_1 f s (a ∷ z ∷ ws) o e = cc

of_2 : (f : ℕ → ℕ → Op) → ((a b : ℕ) → operands_of (f a b) ≡ a ∷ b ∷ []) → (ws : List ℕ) (o : Op) → from_2 f ws ≡ Some o → operands_of o ≡ ws
of_2 f s [] o e = cc
of_2 f s (a ∷ []) o e = cc
of_2 f s (a ∷ b ∷ []) o e = let made : f a b ≡ o = cc in ap operands_of (sym made) ∙ s a b
of_2 f s (a ∷ b ∷ z ∷ ws) o e = cc

of_3 : (f : ℕ → ℕ → ℕ → Op) → ((a b c : ℕ) → operands_of (f a b c) ≡ a ∷ b ∷ c ∷ []) → (ws : List ℕ) (o : Op) → from_3 f ws ≡ Some o → operands_of o ≡ ws
of_3 f s [] o e = cc
of_3 f s (a ∷ []) o e = cc
of_3 f s (a ∷ b ∷ []) o e = cc
of_3 f s (a ∷ b ∷ c ∷ []) o e = let made : f a b c ≡ o = cc in ap operands_of (sym made) ∙ s a b c
of_3 f s (a ∷ b ∷ c ∷ z ∷ ws) o e = cc

of_4 : (f : ℕ → ℕ → ℕ → ℕ → Op) → ((a b c d : ℕ) → operands_of (f a b c d) ≡ a ∷ b ∷ c ∷ d ∷ []) → (ws : List ℕ) (o : Op) → from_4 f ws ≡ Some o → operands_of o ≡ ws
of_4 f s [] o e = cc
of_4 f s (a ∷ []) o e = cc
of_4 f s (a ∷ b ∷ []) o e = cc
of_4 f s (a ∷ b ∷ c ∷ []) o e = cc
of_4 f s (a ∷ b ∷ c ∷ d ∷ []) o e = let made : f a b c d ≡ o = cc in ap operands_of (sym made) ∙ s a b c d
of_4 f s (a ∷ b ∷ c ∷ d ∷ z ∷ ws) o e = cc

of_5 : (f : ℕ → ℕ → ℕ → ℕ → ℕ → Op) → ((a b c d i : ℕ) → operands_of (f a b c d i) ≡ a ∷ b ∷ c ∷ d ∷ i ∷ []) → (ws : List ℕ) (o : Op) → from_5 f ws ≡ Some o → operands_of o ≡ ws
of_5 f s [] o e = cc
of_5 f s (a ∷ []) o e = cc
of_5 f s (a ∷ b ∷ []) o e = cc
of_5 f s (a ∷ b ∷ c ∷ []) o e = cc
of_5 f s (a ∷ b ∷ c ∷ d ∷ []) o e = cc
of_5 f s (a ∷ b ∷ c ∷ d ∷ i ∷ []) o e = let made : f a b c d i ≡ o = cc in ap operands_of (sym made) ∙ s a b c d i
of_5 f s (a ∷ b ∷ c ∷ d ∷ i ∷ z ∷ ws) o e = cc

of_6 : (f : ℕ → ℕ → ℕ → ℕ → ℕ → ℕ → Op) → ((a b c d i j : ℕ) → operands_of (f a b c d i j) ≡ a ∷ b ∷ c ∷ d ∷ i ∷ j ∷ []) → (ws : List ℕ) (o : Op) → from_6 f ws ≡ Some o → operands_of o ≡ ws
of_6 f s [] o e = cc
of_6 f s (a ∷ []) o e = cc
of_6 f s (a ∷ b ∷ []) o e = cc
of_6 f s (a ∷ b ∷ c ∷ []) o e = cc
of_6 f s (a ∷ b ∷ c ∷ d ∷ []) o e = cc
of_6 f s (a ∷ b ∷ c ∷ d ∷ i ∷ []) o e = cc
of_6 f s (a ∷ b ∷ c ∷ d ∷ i ∷ j ∷ []) o e = let made : f a b c d i j ≡ o = cc in ap operands_of (sym made) ∙ s a b c d i j
of_6 f s (a ∷ b ∷ c ∷ d ∷ i ∷ j ∷ z ∷ ws) o e = cc

of_8 : (f : ℕ → ℕ → ℕ → ℕ → ℕ → ℕ → ℕ → ℕ → Op) → ((a b c d i j k l : ℕ) → operands_of (f a b c d i j k l) ≡ a ∷ b ∷ c ∷ d ∷ i ∷ j ∷ k ∷ l ∷ []) → (ws : List ℕ) (o : Op) → from_8 f ws ≡ Some o → operands_of o ≡ ws
of_8 f s [] o e = cc
of_8 f s (a ∷ []) o e = cc
of_8 f s (a ∷ b ∷ []) o e = cc
of_8 f s (a ∷ b ∷ c ∷ []) o e = cc
of_8 f s (a ∷ b ∷ c ∷ d ∷ []) o e = cc
of_8 f s (a ∷ b ∷ c ∷ d ∷ i ∷ []) o e = cc
of_8 f s (a ∷ b ∷ c ∷ d ∷ i ∷ j ∷ []) o e = cc
of_8 f s (a ∷ b ∷ c ∷ d ∷ i ∷ j ∷ k ∷ []) o e = cc
of_8 f s (a ∷ b ∷ c ∷ d ∷ i ∷ j ∷ k ∷ l ∷ []) o e = let made : f a b c d i j k l ≡ o = cc in ap operands_of (sym made) ∙ s a b c d i j k l
of_8 f s (a ∷ b ∷ c ∷ d ∷ i ∷ j ∷ k ∷ l ∷ z ∷ ws) o e = cc

of_1_and : (f : ℕ → List ℕ → Op) → ((a : ℕ) (ws : List ℕ) → operands_of (f a ws) ≡ a ∷ ws) → (ws : List ℕ) (o : Op) → from_1_and f ws ≡ Some o → operands_of o ≡ ws
of_1_and f s [] o e = cc
of_1_and f s (a ∷ ws) o e = let made : f a ws ≡ o = cc in ap operands_of (sym made) ∙ s a ws

of_4_and : (f : ℕ → ℕ → ℕ → ℕ → List ℕ → Op) → ((a b c d : ℕ) (ws : List ℕ) → operands_of (f a b c d ws) ≡ a ∷ b ∷ c ∷ d ∷ ws) → (ws : List ℕ) (o : Op) → from_4_and f ws ≡ Some o → operands_of o ≡ ws
of_4_and f s [] o e = cc
of_4_and f s (a ∷ []) o e = cc
of_4_and f s (a ∷ b ∷ []) o e = cc
of_4_and f s (a ∷ b ∷ c ∷ []) o e = cc
of_4_and f s (a ∷ b ∷ c ∷ d ∷ ws) o e = let made : f a b c d ws ≡ o = cc in ap operands_of (sym made) ∙ s a b c d ws

of_if : (b : Bool) (x o : Op) → (if b then Some x else None) ≡ Some o → x ≡ o
of_if true x o e = cc
of_if false x o e = cc

of_decorate : (ws : List ℕ) (o : Op) → decorate_from ws ≡ Some o → operands_of o ≡ ws
of_decorate [] o e = cc
of_decorate (a ∷ []) o e = cc
of_decorate (a ∷ b ∷ ws) o e = ap operands_of (sym (of_if (is_counted (values_of b) (length ws)) (op.Decorate a b ws) o e))

of_member_decorate : (ws : List ℕ) (o : Op) → member_decorate_from ws ≡ Some o → operands_of o ≡ ws
of_member_decorate [] o e = cc
of_member_decorate (a ∷ []) o e = cc
of_member_decorate (a ∷ b ∷ []) o e = cc
of_member_decorate (a ∷ b ∷ c ∷ ws) o e = ap operands_of (sym (of_if (is_counted (values_of c) (length ws)) (op.MemberDecorate a b c ws) o e))

of_chain : (ws : List ℕ) (o : Op) → chain_from ws ≡ Some o → operands_of o ≡ ws
of_chain [] o e = cc
of_chain (a ∷ []) o e = cc
of_chain (a ∷ b ∷ []) o e = cc
of_chain (a ∷ b ∷ c ∷ ws) o e = ap operands_of (sym (of_if (nat_le 1 (length ws) && nat_le (length ws) 2) (op.AccessChain a b c ws) o e))

of_variable : (ws : List ℕ) (o : Op) → variable_from ws ≡ Some o → operands_of o ≡ ws
of_variable [] o e = cc
of_variable (a ∷ []) o e = cc
of_variable (a ∷ b ∷ []) o e = cc
of_variable (a ∷ b ∷ c ∷ ws) o e = ap operands_of (sym (of_if (nat_le (length ws) 1) (op.Variable a b c ws) o e))

made_operands : (c : Opcode) (ws : List ℕ) (o : Op) → made_by c ws ≡ Some o → operands_of o ≡ ws
made_operands opcode.MemoryModel ws o e = of_2 op.MemoryModel (λ a b. refl) ws o e
made_operands opcode.EntryPoint ws o e = of_4_and op.EntryPoint (λ a b c d xs. refl) ws o e
made_operands opcode.ExecutionMode ws o e = of_5 op.ExecutionMode (λ a b c d i. refl) ws o e
made_operands opcode.Capability ws o e = of_1 op.Capability (λ a. refl) ws o e
made_operands opcode.TypeVoid ws o e = of_1 op.TypeVoid (λ a. refl) ws o e
made_operands opcode.TypeBool ws o e = of_1 op.TypeBool (λ a. refl) ws o e
made_operands opcode.TypeInt ws o e = of_3 op.TypeInt (λ a b c. refl) ws o e
made_operands opcode.TypeVector ws o e = of_3 op.TypeVector (λ a b c. refl) ws o e
made_operands opcode.TypeRuntimeArray ws o e = of_2 op.TypeRuntimeArray (λ a b. refl) ws o e
made_operands opcode.TypeStruct ws o e = of_1_and op.TypeStruct (λ a xs. refl) ws o e
made_operands opcode.TypePointer ws o e = of_3 op.TypePointer (λ a b c. refl) ws o e
made_operands opcode.TypeFunction ws o e = of_2 op.TypeFunction (λ a b. refl) ws o e
made_operands opcode.Constant ws o e = of_3 op.Constant (λ a b c. refl) ws o e
made_operands opcode.Function ws o e = of_4 op.Function (λ a b c d. refl) ws o e
made_operands opcode.FunctionEnd ws o e = of_0 op.FunctionEnd refl ws o e
made_operands opcode.Variable ws o e = of_variable ws o e
made_operands opcode.Load ws o e = of_3 op.Load (λ a b c. refl) ws o e
made_operands opcode.Store ws o e = of_2 op.Store (λ a b. refl) ws o e
made_operands opcode.AccessChain ws o e = of_chain ws o e
made_operands opcode.Decorate ws o e = of_decorate ws o e
made_operands opcode.MemberDecorate ws o e = of_member_decorate ws o e
made_operands opcode.CompositeExtract ws o e = of_4 op.CompositeExtract (λ a b c d. refl) ws o e
made_operands opcode.Select ws o e = of_5 op.Select (λ a b c d i. refl) ws o e
made_operands opcode.AtomicCompareExchange ws o e = of_8 op.AtomicCompareExchange (λ a b c d i j k l. refl) ws o e
made_operands opcode.LoopMerge ws o e = of_3 op.LoopMerge (λ a b c. refl) ws o e
made_operands opcode.SelectionMerge ws o e = of_2 op.SelectionMerge (λ a b. refl) ws o e
made_operands opcode.Label ws o e = of_1 op.Label (λ a. refl) ws o e
made_operands opcode.Branch ws o e = of_1 op.Branch (λ a. refl) ws o e
made_operands opcode.BranchConditional ws o e = of_3 op.BranchConditional (λ a b c. refl) ws o e
made_operands opcode.Return ws o e = of_0 op.Return refl ws o e
made_operands (opcode.Unary k) ws o e = of_3 (op.Unary k) (λ a b c. refl) ws o e
made_operands (opcode.Binary k) ws o e = of_4 (op.Binary k) (λ a b c d. refl) ws o e
made_operands (opcode.Atomic k) ws o e = of_6 (op.Atomic k) (λ a b c d f g. refl) ws o e

-- ## What stands first

made_parts : (m : Option Op) (rest : List ℕ) (o : Op) (behind : List ℕ) → front_of_made m rest ≡ Instruction o behind → (m ≡ Some o) × (rest ≡ behind)
made_parts None rest o behind e = cc
made_parts (Some x) rest o behind e = (cc, cc)

opcode_parts : (c : Option Opcode) (ws rest : List ℕ) (o : Op) (behind : List ℕ) → front_of_opcode c ws rest ≡ Instruction o behind → (operands_of o ≡ ws) × (rest ≡ behind)
opcode_parts None ws rest o behind e = cc
opcode_parts (Some c) ws rest o behind e =
    let p = made_parts (made_by c ws) rest o behind e in
    (made_operands c ws o p.0, p.1)

guarded : (b : Bool) (f : Front) (o : Op) (rest : List ℕ) → (if b then BadCount else f) ≡ Instruction o rest → f ≡ Instruction o rest
guarded true f o rest e = cc
guarded false f o rest e = e

-- the words of an instruction and those behind it are all the words
pub front_words : (w : ℕ) (ws : List ℕ) (o : Op) (rest : List ℕ) → front w ws ≡ Instruction o rest → word_count o + length rest ≡ suc (length ws)
unfolding front
front_words w ws o rest e =
    let n : ℕ = w / 65536 - 1 in
    let f = guarded ((w / 65536 == 0) || nat_lt (length ws + 1) (w / 65536)) (front_of_opcode (opcode_of (w % 65536)) (take n ws) (drop n ws)) o rest e in
    let p = opcode_parts (opcode_of (w % 65536)) (take n ws) (drop n ws) o rest f in
    let all : length (take n ws) + length (drop n ws) ≡ length ws = sym (length-append (take n ws) (drop n ws)) ∙ ap length (take-append-drop n ws) in
    let operands : length (operands_of o) ≡ length (take n ws) = ap length p.0 in
    let behind : length (drop n ws) ≡ length rest = ap length p.1 in
    omega arith

-- ## Enough steps

same_front : (f : Front) (j k : List ℕ → Reading) → ((o : Op) (rest : List ℕ) → f ≡ Instruction o rest → j rest ≡ k rest) → read_front f j ≡ read_front f k
same_front (Instruction o rest) j k h = ap (read_more o) (h o rest refl)
same_front BadCount j k h = refl
same_front BadOpcode j k h = refl

reading_same : (n m : ℕ) (ws : List ℕ) → length ws ≤ n → length ws ≤ m → reading n ws ≡ reading m ws
unfolding reading
reading_same n m [] a b = refl
reading_same zero m (w ∷ ws) a b = absurd (omega arith)
reading_same (suc n) zero (w ∷ ws) a b = absurd (omega arith)
reading_same (suc n) (suc m) (w ∷ ws) a b =
    same_front (front w ws) (reading n) (reading m)
    (λ o rest e. let all = front_words w ws o rest e in
    reading_same n m rest (omega arith) (omega arith))

pub front_read : (w : ℕ) (ws : List ℕ) (o : Op) (rest : List ℕ) → front w ws ≡ Instruction o rest → reading_of (w ∷ ws) ≡ read_more o (reading_of rest)
unfolding reading
front_read w ws o rest e =
    let all = front_words w ws o rest e in
    ap (λ f. read_front f (reading (length ws))) e
    ∙ ap (read_more o) (reading_same (length ws) (length rest) rest (omega arith) (omega arith))

pub count_read : (w : ℕ) (ws : List ℕ) → front w ws ≡ BadCount → reading_of (w ∷ ws) ≡ record { ops = []; stop = Some kind.Count }
unfolding reading
count_read w ws e = ap (λ f. read_front f (reading (length ws))) e

pub opcode_read : (w : ℕ) (ws : List ℕ) → front w ws ≡ BadOpcode → reading_of (w ∷ ws) ≡ record { ops = []; stop = Some kind.Opcode }
unfolding reading
opcode_read w ws e = ap (λ f. read_front f (reading (length ws))) e
