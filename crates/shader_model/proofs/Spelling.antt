-- Words without a bad one spell a program.
use Rattle.std.proofs.Common.{◌≡◌, Bool, true, false, not, ◌&&◌, List, [], ◌∷◌, ◌++◌, drop, ℕ, zero, suc, ◌==◌, Option, Some, None, is_some, if◌then◌else◌, unwrap_or, refl, ap, ◌∙◌}
use Rattle.std.proofs.lemmas.Bool.{eqb-true}
use Rattle.std.specs.List.{cons_option}
use Rattle.shader_model.specs.declared.opcode.Row.{Row}
use Rattle.shader_model.specs.declared.fault.ShaderFault.{ShaderFault}
use Rattle.shader_model.specs.declared.fault.ShaderKind.TheVariants as kind
use Rattle.shader_model.specs.declared.statement.Statement.{Statement}
use Rattle.shader_model.specs.Nesting.{Block, opened, closed_all, nests}
use Rattle.shader_model.specs.Opcodes.{row_of}
use Rattle.shader_model.specs.Items.{Item, opcode, items_of, parts_of, declares, is_declaration}
use Rattle.shader_model.specs.Fields.{statement_from, statement_of, statements, declarations, temps_said}
use Rattle.shader_model.specs.Faults.{Said, Rule, rule, first_broken, or_else, is_empty, said_by, first_word_rules, declaration_rules, instruction_rules, parts_rules, placed, item_fault, items_fault, header_rules, first_bad}
use Rattle.shader_model.specs.Shader.{Program, program_with, sizes_of, spelled_by}
use Rattle.shader_model.proofs.Nested.{nested_tree}

-- where no rule is broken, the first one is not, and neither is a later one
kept_or : (b : Bool) (f : ShaderFault) (o : Option ShaderFault) → (if b then Some f else o) ≡ None → (b ≡ false) × (o ≡ None)
kept_or true f o h = cc
kept_or false f o h = (refl, h)

pub kept_later : (n : ℕ) (rs : List Rule) → first_broken rs ≡ None → first_broken (drop n rs) ≡ None
kept_later zero rs h = h
kept_later (suc n) [] h = h
kept_later (suc n) (r ∷ rs) h = kept_later n rs (kept_or r.broken (record { word = r.word; kind = r.kind }) (first_broken rs) h).1

pub kept_first : (r : Rule) (rs : List Rule) → first_broken (r ∷ rs) ≡ None → r.broken ≡ false
kept_first r rs h = (kept_or r.broken (record { word = r.word; kind = r.kind }) (first_broken rs) h).0

pub not_false : (b : Bool) → not b ≡ false → b ≡ true
not_false true h = refl
not_false false h = cc

pub neither : (a b : Option ShaderFault) → or_else a b ≡ None → (a ≡ None) × (b ≡ None)
neither None b h = (refl, h)
neither (Some f) b h = cc

-- two lists of rules, of which none is broken
pub kept_both : (rs qs : List Rule) → first_broken (rs ++ qs) ≡ None → (first_broken rs ≡ None) × (first_broken qs ≡ None)
kept_both [] qs h = (refl, h)
kept_both (r ∷ rs) qs h =
    let both = kept_both rs qs (kept_later 1 (r ∷ (rs ++ qs)) h) in
    (ap (λ (b : Bool). if b then Some (record { word = r.word; kind = r.kind }) else first_broken rs) (kept_first r (rs ++ qs) h) ∙ both.0, both.1)

-- the number of a declaration is that of no instruction
none_at : (n k v : ℕ) (o : Option ℕ) (b : Bool) → (n == k) ≡ b → row_of k ≡ None → (is_some o ≡ true → row_of n ≡ None) → is_some (if b then Some v else o) ≡ true → row_of n ≡ None
none_at n k v o true e none rest h = ap row_of (eqb-true n k e) ∙ none
none_at n k v o false e none rest h = rest h

pub declares_none : (n : ℕ) → is_some (declares n) ≡ true → row_of n ≡ None
unfolding row_of
declares_none n h =
    none_at n 1 3 (if n == 2 then Some 1 else if n == 3 then Some 1 else if n == 4 then Some 3 else if n == 5 then Some 3 else None) (n == 1) refl refl
    (none_at n 2 1 (if n == 3 then Some 1 else if n == 4 then Some 3 else if n == 5 then Some 3 else None) (n == 2) refl refl
    (none_at n 3 1 (if n == 4 then Some 3 else if n == 5 then Some 3 else None) (n == 3) refl refl
    (none_at n 4 3 (if n == 5 then Some 3 else None) (n == 4) refl refl
    (none_at n 5 3 None (n == 5) refl refl (λ e. cc))))) h

place_here : (said : Said) (item : Item) (b : Bool) → is_declaration item ≡ b → first_broken (if b then declaration_rules said item else instruction_rules said item) ≡ None
    → placed (statement_of item) said.blocks ≡ true
place_here said item true e h = ap (λ (r : Option Row). placed (statement_from item r (parts_of item)) said.blocks) (declares_none (opcode item) e)
place_here said item false e h =
    let here = rule (not (placed (statement_of item) said.blocks)) item.at kind.Nesting in
    not_false (placed (statement_of item) said.blocks) (kept_first here (parts_rules said (row_of (opcode item)) (parts_of item)) h)

-- an item without a fault has its place
pub item_placed : (said : Said) (item : Item) → item_fault said item ≡ None → placed (statement_of item) said.blocks ≡ true
item_placed said item h =
    let more : List Rule = if is_declaration item then declaration_rules said item else instruction_rules said item in
    place_here said item (is_declaration item) refl (kept_both (first_word_rules said item) more h).1

one_nests : (o : Option Statement) (earlier later : List Statement) → placed o (opened earlier) ≡ true → nests (cons_option o earlier) later ≡ true → nests earlier (cons_option o later) ≡ true
one_nests None earlier later p h = h
one_nests (Some s) earlier later p h = ap (λ z. z && nests (s ∷ earlier) later) p ∙ h

none_open : (bs : List Block) (f : ShaderFault) → (if is_empty bs then None else Some f) ≡ None → closed_all bs ≡ true
none_open [] f h = refl
none_open (b ∷ bs) f h = cc

pub items_nest : (earlier later : List Item) → items_fault earlier later ≡ None → nests (statements earlier) (statements later) ≡ true
items_nest earlier [] h = none_open (opened (statements earlier)) (record { word = 1; kind = kind.Nesting }) h
items_nest earlier (item ∷ later) h =
    let both = neither (item_fault (said_by earlier) item) (items_fault (item ∷ earlier) later) h in
    one_nests (statement_of item) (statements earlier) (statements later) (item_placed (said_by earlier) item both.0) (items_nest (item ∷ earlier) later both.1)

-- words without a bad one spell a program
pub good_words : (words : List ℕ) → first_bad words ≡ None → (p : Program) × (spelled_by words ≡ Some p)
good_words words h =
    let items = items_of words in
    let fine : items_fault [] items ≡ None = (neither (first_broken (header_rules words)) (items_fault [] items) h).1 in
    let tree = nested_tree (statements items) (items_nest [] items fine) in
    (record { group = sizes_of items; temps = unwrap_or (temps_said items) 0; declared = declarations items; body = tree.0 }, ap (program_with items) tree.1)
