-- The ids and the words of a good shader's module are fewer than 2^32.
use Rattle.std.proofs.Common.{◌≡◌, ℕ, zero, suc, ◌+◌, ◌-◌, ◌*◌, ◌^◌, ◌<◌, ◌≤◌, List, [], ◌∷◌, ◌++◌, length, refl, arith, length-append}
use Rattle.std.proofs.lemmas.Bool.{leb-true}
use Rattle.shader_model.specs.declared.ids.Ids.{Ids}
use Rattle.shader_model.specs.Shader.{Program}
use Rattle.shader_model.specs.Good.{IsGood, size}
use Rattle.spirv_model.specs.Op.{Op}
use Rattle.spirv_model.specs.Op as op
use Rattle.spirv_model.specs.declared.settings.TheConstants as setting
use Rattle.spirv_model.specs.Table.{operands_of}
use Rattle.spirv_model.specs.Words.{words_of}
use Rattle.spirv_model.specs.FirstBad.{total_words}
use Rattle.spirv_emit.specs.Layout as id
use Rattle.spirv_emit.specs.Layout.{Layout, first_number}
use Rattle.spirv_emit.specs.Numbers.{most_turns, numbers_of, layout_of}
use Rattle.spirv_emit.specs.Code.{body_ops}
use Rattle.spirv_emit.specs.Module.{preamble, constants, local, zero_variables, first_label, last_label, body_start, module_ops, module_bound, module_of}
use Rattle.spirv_emit.proofs.Meaning.WholeModule.{Has, pool_of}
use Rattle.spirv_emit.proofs.Profile.GoodNames.{program_proper}
use Rattle.spirv_emit.proofs.Size.FewNumbers.{numbers_few}
use Rattle.spirv_emit.proofs.Size.FewIds.{body_ids_few}
use Rattle.spirv_emit.proofs.Size.FewWords.{words_sum, body_words}

abbrev no_ids : Ids
no_ids = record { group = []; thread = []; size = [] }

-- in numbers alone
ids_sum : (bound numbers temps nodes : ℕ) → bound ≤ 61 + numbers + (25 + 4 * temps) + 2 + 2000 * nodes → numbers ≤ 2089 + 16 * nodes → temps ≤ 4096 → nodes ≤ 65536 → bound < 2 ^ 32
ids_sum bound numbers temps nodes a b c d = omega arith

pub ids_fit : (p : Program) → IsGood p → module_bound p < 2 ^ 32
ids_fit p good =
    ids_sum (module_bound p) (length (numbers_of p)) p.temps (size p.body)
    (body_ids_few (layout_of p) (Has (numbers_of p)) (pool_of p) no_ids p.declared p.body (body_start (layout_of p)) (program_proper p good no_ids))
    (numbers_few p good) good.temps good.nodes

-- ## Words

pub words_length : (os : List Op) → length (words_of os) ≡ total_words os
words_length [] = refl
words_length (o ∷ os) = let h = words_length os in let e = length-append (operands_of o) (words_of os) in omega (arith, h, e)

constants_words : (vs : List ℕ) (r : ℕ) → total_words (constants r vs) ≤ 4 * length vs
constants_words [] r = omega arith
constants_words (v ∷ vs) r = let h = constants_words vs (r + 1) in omega (arith, h)

zeros_words : (at : Layout) (count r : ℕ) → total_words (zero_variables at r count) ≤ 5 * count
zeros_words at zero r = omega arith
zeros_words at (suc count) r = let h = zeros_words at count (r + 1) in omega (arith, h)

preamble_words : (g : List ℕ) → total_words (preamble g) ≤ 2000
preamble_words g = leb-true (total_words (preamble g)) 2000 refl

words_total : (all words numbers variables temps nodes : ℕ) → all ≤ 5 + words → words ≤ 2000 + (4 * numbers + (7 + (5 + (5 * variables + (12000 * nodes + 2 + 4))))) → variables ≤ 24 + 4 * temps → numbers ≤ 2089 + 16 * nodes → temps ≤ 4096 → nodes ≤ 65536 → all < 2 ^ 32
words_total all words numbers variables temps nodes a b c d e f = omega arith

module _ (p : Program) (good : IsGood p) where
  abbrev at : Layout
  at = layout_of p

  abbrev numbers : List Op
  numbers = constants first_number (numbers_of p)

  abbrev zeros : List Op
  zeros = zero_variables at (at.first_variable + 1) (at.variables - 1)

  abbrev code : List Op
  code = body_ops p.declared at p.body (body_start at) (last_label at) (last_label at) (last_label at)

  abbrev tail : List Op
  tail = op.Label (last_label at) ∷ op.Return ∷ op.FunctionEnd ∷ []

  abbrev front : List Op
  front = op.Function id.void_type id.main setting.NO_CONTROL id.main_type ∷ op.Label (first_label at) ∷ []

  ops_words : total_words (preamble p.group ++ (numbers ++ (front ++ ((local at at.first_variable most_turns ∷ []) ++ (zeros ++ (code ++ tail)))))) ≤ 2000 + (4 * length (numbers_of p) + (7 + (5 + (5 * (at.variables - 1) + (12000 * size p.body + 2 + 4)))))
  ops_words =
      let turn = local at at.first_variable most_turns ∷ [] in
      let n = 4 * length (numbers_of p) in
      let v = 5 * (at.variables - 1) in
      let c = 12000 * size p.body + 2 in
      words_sum 2000 (n + (7 + (5 + (v + (c + 4))))) (preamble p.group) (numbers ++ (front ++ (turn ++ (zeros ++ (code ++ tail))))) (preamble_words p.group)
      (words_sum n (7 + (5 + (v + (c + 4)))) numbers (front ++ (turn ++ (zeros ++ (code ++ tail)))) (constants_words (numbers_of p) first_number)
      (words_sum 7 (5 + (v + (c + 4))) front (turn ++ (zeros ++ (code ++ tail))) (omega arith)
      (words_sum 5 (v + (c + 4)) turn (zeros ++ (code ++ tail)) (omega arith)
      (words_sum v (c + 4) zeros (code ++ tail) (zeros_words at (at.variables - 1) (at.first_variable + 1))
      (words_sum c 4 code tail (body_words at (Has (numbers_of p)) (pool_of p) no_ids p.declared p.body (body_start at) (last_label at) (last_label at) (last_label at) (program_proper p good no_ids)) (omega arith))))))

pub words_fit : (p : Program) → IsGood p → length (module_of p) < 2 ^ 32
unfolding module_of module_ops
words_fit p good =
    let ops = module_ops p in
    words_total (length (module_of p)) (total_words ops) (length (numbers_of p)) ((layout_of p).variables - 1) p.temps (size p.body)
    (let e = words_length ops in omega (arith, e)) (ops_words p good) (omega arith) (numbers_few p good) good.temps good.nodes
