use Rattle.std.proofs.Common.{◌≡◌, ◌==◌, true, List, [], ◌∷◌, Some, length, ap, sym, ◌∙◌, eq-eqb}
use Rattle.std.proofs.lemmas.Bool.{eqb-true}
use Rattle.std.proofs.lemmas.List.{nil_from_length}
use Rattle.shader_model.specs.declared.tree.Node.{Node}
use Rattle.shader_model.specs.Shader.{Tree, program_of}
use Rattle.shader_tokens.proofs.Finishing.{left-open, finished, finished-good}
use Rattle.shader_tokens.proofs.decoding.finish.Goals as goal

pub returns-then-not-is_empty-clause-bad : goal.returns-then-not-is_empty-clause-bad
returns-then-not-is_empty-clause-bad c =
    let v = c.args.reader.levels.levels in
    let some : v.items ≡ [] → ⊥ = λ e. let n : v.len ≡ 0 = v.ok.0 ∙ ap length e in let t : (v.len == 0) ≡ true = eq-eqb v.len 0 n in cc (c.is_empty.ensures, c.if-not-is_empty.true) in
    left-open c.args.bytes.now c.args.reader c.requires.header c.requires.read some ∙ ap (λ z. Some z) (sym c.fault.ensures)

pub new-requires : goal.new-requires
new-requires c =
    let r = c.args.reader in
    let v = r.levels.levels in
    let none : v.len ≡ 0 = eqb-true v.len 0 (sym c.is_empty.ensures ∙ c.if-not-is_empty.false) in
    let whole = finished c.args.bytes.now r c.word.result c.word-2.result c.word-3.result c.unwrap_or-temps.result c.requires.header c.requires.read (nil_from_length v.items (sym v.ok.0 ∙ none)) c.word.ensures c.word-2.ensures c.word-3.ensures c.unwrap_or-temps.ensures in
    let here : List Node → Tree = λ ns. record { group = c.word.result ∷ c.word-2.result ∷ c.word-3.result ∷ []; temps = c.unwrap_or-temps.result; declared = r.declared.items; nodes = ns } in
    finished-good c.args.bytes.now (here c.from_vec.result) (whole ∙ ap (λ ns. Some (program_of (here ns))) (sym c.from_vec.ensures))

pub returns-clause-good : goal.returns-clause-good
returns-clause-good c =
    let r = c.args.reader in
    let v = r.levels.levels in
    let none : v.len ≡ 0 = eqb-true v.len 0 (sym c.is_empty.ensures ∙ c.if-not-is_empty.false) in
    let whole = finished c.args.bytes.now r c.word.result c.word-2.result c.word-3.result c.unwrap_or-temps.result c.requires.header c.requires.read (nil_from_length v.items (sym v.ok.0 ∙ none)) c.word.ensures c.word-2.ensures c.word-3.ensures c.unwrap_or-temps.ensures in
    let here : List Node → Tree = λ ns. record { group = c.word.result ∷ c.word-2.result ∷ c.word-3.result ∷ []; temps = c.unwrap_or-temps.result; declared = r.declared.items; nodes = ns } in
    whole ∙ ap (λ ns. Some (program_of (here ns))) (sym c.from_vec.ensures) ∙ ap (λ t. Some (program_of t)) (sym c.new.ensures)
