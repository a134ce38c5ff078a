-- The parts of a module, put together.
use Rattle.std.proofs.Common.{◌≡◌, ℕ, suc, ◌+◌, ◌-◌, ◌<◌, ◌≤◌, List, [], ◌∷◌, ◌++◌, length, drop, get_or, refl, sym, ap, ◌∙◌, arith}
use Rattle.shader_model.specs.declared.tree.Declared.{Declared}
use Rattle.shader_model.specs.Body.{Body}
use Rattle.shader_model.specs.Shader.{Program}
use Rattle.spirv_model.specs.declared.settings.TheConstants as setting
use Rattle.spirv_model.specs.Op.{Op}
use Rattle.spirv_model.specs.Op as op
use Rattle.spirv_model.specs.Words.{words_of}
use Rattle.spirv_emit.specs.declared.code.Code.{Code}
use Rattle.spirv_emit.specs.Layout as id
use Rattle.spirv_emit.specs.Layout.{Layout, first_code, first_number}
use Rattle.spirv_emit.specs.Lower.{variable_count}
use Rattle.spirv_emit.specs.Code.{body_ops, body_end}
use Rattle.spirv_emit.specs.Numbers.{layout, numbers_of}
use Rattle.spirv_emit.specs.Module.{preamble, constants, local, zero_variables, variables, first_label, last_label, body_start, module_ops, module_bound}
use Rattle.spirv_emit.specs.Emits.{written, Puts, Appends, function_code}
use Rattle.spirv_emit.proofs.Words.Appending.{puts_then, puts_and, then_puts, appends_then, appends_to}
use Rattle.spirv_emit.proofs.Words.ListedCode.{rest_is}

-- an instruction with a fresh id
pub fresh_made : {c0 c1 c2 : Code} (f : ℕ → Op) (r : ℕ) → r ≡ c0.next → c1.next ≡ c0.next + 1 → c1.words ≡ c0.words → Puts c1 c2 (f r ∷ []) → Appends c0 c2 (f c0.next ∷ []) (c0.next + 1)
fresh_made {c0 = c0} f r er en ew p = record {
  words_are = p.words_are ∙ ap (λ w. w ++ written (f r ∷ [])) ew ∙ ap (λ n. c0.words ++ written (f n ∷ [])) er;
  next_is = p.next_is ∙ en;
}

pub constants_front : (n m : ℕ) (vs : List ℕ) (i : ℕ) → i < length vs → m ≡ n + 1 → constants n (drop i vs) ≡ (op.Constant id.word_type n (get_or vs i 0) ∷ []) ++ constants m (drop (i + 1) vs)
constants_front n m vs i lt e = ap (constants n) (rest_is vs i 0 lt) ∙ ap (λ k. op.Constant id.word_type n (get_or vs i 0) ∷ constants k (drop (i + 1) vs)) (sym e)

pub variables_front : (at : Layout) (n m count i : ℕ) → i < count → m ≡ n + 1 → zero_variables at n (count - i) ≡ (local at n 0 ∷ []) ++ zero_variables at m (count - (i + 1))
variables_front at n m count i lt e = ap (zero_variables at n) (let z : count - i ≡ suc (count - (i + 1)) = omega arith in z) ∙ ap (λ k. local at n 0 ∷ zero_variables at k (count - (i + 1))) (sym e)

pub variables_done : (at : Layout) (n count i : ℕ) → count ≤ i → zero_variables at n (count - i) ≡ []
variables_done at n count i le = ap (zero_variables at n) (let z : count - i ≡ 0 = omega arith in z)

pub variables_made : {c0 c1 c2 : Code} (at : Layout) → c0.next ≡ at.first_variable → 0 < at.variables → Appends c0 c1 (local at c0.next 4096 ∷ []) (c0.next + 1) → Appends c1 c2 (zero_variables at c1.next (at.variables - 1)) (c1.next + (at.variables - 1)) → Appends c0 c2 (variables at) (first_code at)
variables_made {c0 = c0} {c1 = c1} at e some p q =
    let f : c1.next ≡ at.first_variable + 1 = p.next_is ∙ ap (λ n. n + 1) e in
    appends_to (appends_then p q) (ap (λ n. local at n 4096 ∷ zero_variables at c1.next (at.variables - 1)) e ∙ ap (λ n. local at at.first_variable 4096 ∷ zero_variables at n (at.variables - 1)) f) (omega (arith, f, some))

pub function_made : {c0 c1 c2 c3 c4 c5 c6 c7 : Code} (c3b : Code) (at : Layout) (p : Program) (ds : List Declared) (b : Body) (first last : ℕ) → Puts c0 c1 (op.Function id.void_type id.main setting.NO_CONTROL id.main_type ∷ []) → Puts c1 c2 (op.Label first ∷ []) → first ≡ first_label at → Appends c2 c3 (variables at) (first_code at) → c3b.words ≡ c3.words → c3b.next ≡ first + 2 → Appends c3b c4 (body_ops ds at b c3b.next last last last) (body_end ds b c3b.next) → ds ≡ p.declared → b ≡ p.body → last ≡ first + 1 → Puts c4 c5 (op.Label last ∷ []) → Puts c5 c6 (op.Return ∷ []) → Puts c6 c7 (op.FunctionEnd ∷ []) → Appends c0 c7 (function_code at p) (body_end p.declared p.body (body_start at))
function_made {c3 = c3} {c4 = c4} c3b at p ds b first last p1 p2 ef p3 ew en p4 ed eb el p5 p6 p7 =
    let start : c3b.next ≡ body_start at = en ∙ ap (λ n. n + 2) ef in
    let last' : last ≡ last_label at = el ∙ ap (λ n. n + 1) ef in
    let ops : body_ops ds at b c3b.next last last last ≡ body_ops p.declared at p.body (body_start at) (last_label at) (last_label at) (last_label at) =
    ap (λ z. body_ops z at b c3b.next last last last) ed ∙ ap (λ z. body_ops p.declared at z c3b.next last last last) eb ∙ ap (λ n. body_ops p.declared at p.body n last last last) start ∙ ap (λ k. body_ops p.declared at p.body (body_start at) k k k) last' in
    let end : body_end ds b c3b.next ≡ body_end p.declared p.body (body_start at) = ap (λ z. body_end z b c3b.next) ed ∙ ap (λ z. body_end p.declared z c3b.next) eb ∙ ap (body_end p.declared p.body) start in
    let q4 : Appends c3 c4 (body_ops p.declared at p.body (body_start at) (last_label at) (last_label at) (last_label at)) (body_end p.declared p.body (body_start at)) = record { words_are = p4.words_are ∙ ap (λ w. w ++ written (body_ops ds at b c3b.next last last last)) ew ∙ ap (λ z. c3.words ++ written z) ops; next_is = p4.next_is ∙ end } in
    appends_to (puts_and p1 (puts_and p2 (appends_then p3 (then_puts q4 (puts_then p5 (puts_then p6 p7))))))
    (ap (λ k. op.Function id.void_type id.main setting.NO_CONTROL id.main_type ∷ op.Label k ∷ (variables at ++ (body_ops p.declared at p.body (body_start at) (last_label at) (last_label at) (last_label at) ++ (op.Label last ∷ op.Return ∷ op.FunctionEnd ∷ [])))) ef
    ∙ ap (λ k. op.Function id.void_type id.main setting.NO_CONTROL id.main_type ∷ op.Label (first_label at) ∷ (variables at ++ (body_ops p.declared at p.body (body_start at) (last_label at) (last_label at) (last_label at) ++ (op.Label k ∷ op.Return ∷ op.FunctionEnd ∷ [])))) last')
    refl

-- the whole, where the code begins with no words
pub module_made : {c0 c1 c2 c3 : Code} (p : Program) (group numbers : List ℕ) (count : ℕ) → c0.words ≡ [] → c0.next ≡ first_number → group ≡ p.group → numbers ≡ numbers_of p → count ≡ variable_count p.temps → Puts c0 c1 (preamble group) → Appends c1 c2 (constants c1.next numbers) (c1.next + length numbers) → Appends c2 c3 (function_code (layout numbers count) p) (body_end p.declared p.body (body_start (layout numbers count))) → (c3.words ≡ words_of (module_ops p)) × (c3.next ≡ module_bound p)
unfolding written module_ops
module_made {c0 = c0} {c1 = c1} p group numbers count ew en eg ens ec p1 p2 p3 =
    let all = puts_and p1 (appends_then p2 p3) in
    let n1 : c1.next ≡ first_number = p1.next_is ∙ en in
    let ops : preamble group ++ (constants c1.next numbers ++ function_code (layout numbers count) p) ≡ module_ops p =
    ap (λ g. preamble g ++ (constants c1.next numbers ++ function_code (layout numbers count) p)) eg
    ∙ ap (λ n. preamble p.group ++ (constants n numbers ++ function_code (layout numbers count) p)) n1
    ∙ ap (λ v. preamble p.group ++ (constants first_number v ++ function_code (layout v count) p)) ens
    ∙ ap (λ k. preamble p.group ++ (constants first_number (numbers_of p) ++ function_code (layout (numbers_of p) k) p)) ec in (
      all.words_are ∙ ap (λ w. w ++ words_of (preamble group ++ (constants c1.next numbers ++ function_code (layout numbers count) p))) ew ∙ ap words_of ops,
      all.next_is ∙ ap (λ v. body_end p.declared p.body (body_start (layout v count))) ens ∙ ap (λ k. body_end p.declared p.body (body_start (layout (numbers_of p) k))) ec,
    )
