use Rattle.std.proofs.Common.{◌≡◌, ℕ, Bool, Option, true, false, None, Some, is_some, ap, sym, ◌∙◌}
use Rattle.std.specs.List.{cons_option}
use Rattle.shader_model.specs.Items.{opcode, declares}
use Rattle.shader_model.specs.Fields.{statement_of}
use Rattle.shader_model.specs.Nesting.{spelled}
use Rattle.shader_tokens.specs.Levels.{seen}
use Rattle.shader_model.specs.Faults.{first_broken, declaration_rules, instruction_rules, item_fault}
use Rattle.shader_tokens.specs.Decoding.{item_of, said}
use Rattle.shader_model.proofs.Declaring.{no_statement}
use Rattle.shader_tokens.proofs.Judging.{item-first, item-declares, item-instructs, first-whole, if-bad, on-ok}
use Rattle.shader_tokens.proofs.reader.Reader.item.Goals as goal

declared : (n m : ℕ) (o : Option ℕ) (b r : Bool) → n ≡ m → o ≡ declares n → b ≡ is_some o → b ≡ r → is_some (declares m) ≡ r
declared n m o b r en eo eb er = ap (λ z. is_some (declares z)) (sym en) ∙ ap is_some (sym eo) ∙ sym eb ∙ er

pub returns-in-Some-clause-bad : goal.returns-in-Some-clause-bad
returns-in-Some-clause-bad c = item-first (said c.args.self.now) (item_of c.args.item.now) c.in-Some.fault (sym c.first_word_fault.ensures ∙ c.in-Some.is)

pub instruction-requires-clause-whole : goal.instruction-requires-clause-whole
instruction-requires-clause-whole c = first-whole (said c.args.self.now) (item_of c.args.item.now) (sym c.first_word_fault.ensures ∙ c.in_default.is)

pub returns-then-is_some-clause-bad : goal.returns-then-is_some-clause-bad
returns-then-is_some-clause-bad c =
    let s = said c.args.self.now in
    let item = item_of c.args.item.now in
    if-bad c.declaration.result (λ f. first_broken (declaration_rules s item) ≡ Some f) (λ f. item_fault s item ≡ Some f)
    (λ f e. item-declares s item (Some f) (sym c.first_word_fault.ensures ∙ c.in_default.is) (declared c.opcode.result (opcode item) c.declares.result c.is_some.result true c.opcode.ensures c.declares.ensures c.is_some.ensures c.if-is_some.true) e) c.declaration.ensures.bad

pub returns-then-is_some-clause-spells : goal.returns-then-is_some-clause-spells
returns-then-is_some-clause-spells c =
    let item = item_of c.args.item.now in
    let none : statement_of item ≡ None = no_statement item (declared c.opcode.result (opcode item) c.declares.result c.is_some.result true c.opcode.ensures c.declares.ensures c.is_some.ensures c.if-is_some.true) in
    on-ok c.declaration.result _ _
    (λ (e : c.declaration.new.self.levels ≡ c.args.self.now.levels) later. ap (λ z. seen z (spelled later)) e ∙ ap (λ z. seen c.args.self.now.levels (spelled (cons_option z later))) (sym none)) c.declaration.ensures.levels

pub returns-else-is_some-clause-bad : goal.returns-else-is_some-clause-bad
returns-else-is_some-clause-bad c =
    let s = said c.args.self.now in
    let item = item_of c.args.item.now in
    if-bad c.instruction.result (λ f. first_broken (instruction_rules s item) ≡ Some f) (λ f. item_fault s item ≡ Some f)
    (λ f e. item-instructs s item (Some f) (sym c.first_word_fault.ensures ∙ c.in_default.is) (declared c.opcode.result (opcode item) c.declares.result c.is_some.result false c.opcode.ensures c.declares.ensures c.is_some.ensures c.if-is_some.false) e) c.instruction.ensures.bad
