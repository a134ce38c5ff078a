-- The program of bytes without a bad word is good.
use Rattle.base_lemmas.proofs.ByteWords.{words_length}
use Rattle.std.proofs.Common.{◌≡◌, ◌==◌, ◌≤◌, ◌-◌, ◌/◌, ◌%◌, ℕ, zero, suc, ◌+◌, Bool, true, false, not, ◌&&◌, ◌||◌, nat_lt, List, [], ◌∷◌, length, take, drop, Option, Some, None, is_some, if◌then◌else◌, unwrap_or, slice_index, refl, ap, sym, subst, ◌∙◌, arith, length-drop}
use Rattle.std.proofs.lemmas.Bool.{eqb-true, eq-eqb}
use Rattle.std.proofs.lemmas.Bool.Decides.{nat_tests}
use Rattle.std.specs.List.{cons_option}
use Rattle.shader_model.specs.declared.statement.Statement.{Statement}
use Rattle.shader_model.specs.declared.fault.ShaderFault.{ShaderFault}
use Rattle.shader_model.specs.declared.fault.ShaderKind.TheVariants as kind
use Rattle.shader_model.specs.Words.{count_in}
use Rattle.base_lemmas.specs.ByteWords.{words_of}
use Rattle.shader_model.specs.Body.{Body}
use Rattle.shader_model.specs.Nesting.{tree_of}
use Rattle.shader_model.specs.Items.{Item, opcode, items_from, items_of, declares, declares_fit, is_declaration, is_all_there, has_its_length}
use Rattle.shader_model.specs.Fields.{declarations, temps_said, statement_of, statements}
use Rattle.shader_model.specs.Faults.{Rule, rule, first_broken, Said, said_by, first_word_rules, declaration_rules, instruction_rules, is_group, item_fault, items_fault, header_rules, bytes_rules, first_bad, first_bad_of_bytes}
use Rattle.shader_model.specs.Shader.{Program, program_with, sizes_of, spelled_by, program_unless, shader_of}
use Rattle.shader_model.specs.Good.{IsGood}
use Rattle.shader_model.proofs.Spelling.{kept_first, kept_later, kept_both, not_false, neither, items_nest}
use Rattle.shader_model.proofs.Fitting.{tree_fits}
use Rattle.shader_model.proofs.Declaring.{own_rules, all_fit, temps_rule, all_declared}
use Rattle.shader_model.proofs.Depth.{tree_depth, tree_size}

-- there are at most as many items as words, and as many statements as items
items_length : (at k : ℕ) (ws : List ℕ) → length (items_from at k ws) ≤ length ws
items_length at k [] = omega arith
items_length at zero (w ∷ ws) = omega (arith, items_length (at + 1) (count_in w - 1) ws)
items_length at (suc k) (w ∷ ws) = omega (arith, items_length (at + 1) k ws)

some_length : (o : Option Statement) (ss : List Statement) → length (cons_option o ss) ≤ suc (length ss)
some_length None ss = omega arith
some_length (Some s) ss = omega arith

statements_length : (items : List Item) → length (statements items) ≤ length items
statements_length [] = omega arith
statements_length (item ∷ items) = omega (arith, some_length (statement_of item) (statements items), statements_length items)

-- ## The first item

first_rules : (said : Said) (item : Item) → item_fault said item ≡ None → first_broken (first_word_rules said item) ≡ None
first_rules said item h =
    let more : List Rule = if is_declaration item then declaration_rules said item else instruction_rules said item in
    (kept_both (first_word_rules said item) more h).0

by_number : (n : ℕ) → n ≡ 1 → is_some (declares n) ≡ true
by_number n e = ap (λ z. is_some (declares z)) e

and_last : (a b : Bool) → a && b ≡ true → b ≡ true
and_last true b h = h
and_last false b h = cc

length_three : (item : Item) → opcode item ≡ 1 → has_its_length item ≡ true → length item.more ≡ 3
length_three item e h =
    eqb-true (length item.more) 3 (sym (ap (λ n. declares_fit item (declares n)) e) ∙ and_last (is_all_there item) (declares_fit item (declares (opcode item))) h)

group_rule : (item : Item) (n : ℕ) (rest : List Rule) → n ≡ 1 → first_broken (if n == 1 then rule (not (is_group item.more)) (item.at + 1) kind.Group ∷ [] else rest) ≡ None → is_group item.more ≡ true
group_rule item n rest e h =
    let r = rule (not (is_group item.more)) (item.at + 1) kind.Group in
    not_false (is_group item.more) (kept_first r [] (sym (ap (λ (b : Bool). first_broken (if b then r ∷ [] else rest)) (eq-eqb n 1 e)) ∙ h))

-- the first item says the size of a group
pub opening : (item : Item) → item_fault (said_by []) item ≡ None → (opcode item ≡ 1) × (length item.more ≡ 3) × (is_group item.more ≡ true)
opening item h =
    let said = said_by [] in
    let rules = first_word_rules said item in
    let first = first_rules said item h in
    let one : opcode item ≡ 1 = eqb-true (opcode item) 1 (not_false (opcode item == 1) (kept_first (rule (not (opcode item == 1)) item.at kind.Group) (drop 2 rules) (kept_later 1 rules first))) in
    let fits : has_its_length item ≡ true = not_false (has_its_length item) (kept_first (rule (not (has_its_length item)) item.at kind.Length) (drop 1 rules) first) in
    (one, length_three item one fits, group_rule item (opcode item) _ one (own_rules said item h (by_number (opcode item) one)))

-- the temporaries that good items say
temps_case : (said : Said) (item : Item) (o : Option ℕ) (b : Bool) → (opcode item == 2) ≡ b → item_fault said item ≡ None → unwrap_or o 0 ≤ 4096 → unwrap_or (if b then Some (slice_index item.more 0) else o) 0 ≤ 4096
temps_case said item o true e h rest =
    let two : opcode item ≡ 2 = eqb-true (opcode item) 2 e in
    temps_rule (opcode item) (slice_index item.more 0) _ _ _ _ (ap (λ z. z == 1) two) e (own_rules said item h (ap (λ z. is_some (declares z)) two))
temps_case said item o false e h rest = rest

temps_small : (earlier later : List Item) → items_fault earlier later ≡ None → unwrap_or (temps_said later) 0 ≤ 4096
temps_small earlier [] h = omega arith
temps_small earlier (item ∷ later) h =
    let both = neither (item_fault (said_by earlier) item) (items_fault (item ∷ earlier) later) h in
    temps_case (said_by earlier) item (temps_said later) (opcode item == 2) refl both.0 (temps_small (item ∷ earlier) later both.1)

-- ## The program

or_last : (a b : Bool) → a || b ≡ false → b ≡ false
or_last true b h = cc
or_last false b h = h

three : (q m n : ℕ) → nat_lt n 8 ≡ false → m ≡ q → (nat_lt n 8 ≡ false → 2 ≤ q) → (m == 2) ≡ false → 3 ≤ m
three q m n h e two g = let t = two h in grind (arith, nat_tests)

eight : (n : ℕ) → nat_lt n 8 ≡ false → 8 ≤ n
eight n h = grind (arith, nat_tests)

long_enough : (n m : ℕ) (b : Bool) → b || nat_lt n 8 ≡ false → m ≡ n / 4 → (m == 2) ≡ false → 3 ≤ m
long_enough n m b h e g = three (n / 4) m n (or_last b (nat_lt n 8) h) e (λ k. omega (arith, eight n k)) g

at_most : (n w d i s : ℕ) → nat_lt 65536 n ≡ false → w ≡ n → d ≤ w → i ≤ d → s ≤ i → s ≤ 65536
at_most n w d i s h e hd hi hs = grind (arith, nat_tests)

-- the words of the first item
pub first_group : (words : List ℕ) → 3 ≤ length words → items_fault [] (items_of words) ≡ None → (is_group (sizes_of (items_of words)) ≡ true) × (length (sizes_of (items_of words)) ≡ 3)
first_group [] l h = absurd (omega arith)
first_group (a ∷ []) l h = absurd (omega arith)
first_group (a ∷ b ∷ []) l h = absurd (omega arith)
first_group (a ∷ b ∷ c ∷ rest) l h =
    let item : Item = record { at = 2; first = c; more = take (count_in c - 1) rest } in
    let o = opening item (neither (item_fault (said_by []) item) (items_fault (item ∷ []) (items_from 3 (count_in c - 1) rest)) h).0 in
    (o.2, o.1)

program_is : (items : List Item) (o : Option Body) (p : Program) → program_with items o ≡ Some p
    → (b : Body) × ((o ≡ Some b) × (record { group = sizes_of items; temps = unwrap_or (temps_said items) 0; declared = declarations items; body = b } ≡ p))
program_is items None p e = cc
program_is items (Some b) p e = (b, (refl, cc))

pub good_program : (bytes : List ℕ) (p : Program) → first_bad_of_bytes bytes ≡ None → spelled_by (words_of bytes) ≡ Some p → IsGood p
good_program bytes p h is =
    let words = words_of bytes in
    let items = items_of words in
    let outer = neither (first_broken (bytes_rules bytes)) (first_bad words) h in
    let inner = neither (first_broken (header_rules words)) (items_fault [] items) outer.1 in
    let short : nat_lt 65536 (length bytes / 4) ≡ false = kept_first (rule (nat_lt 65536 (length bytes / 4)) 0 kind.TooLong) (drop 1 (bytes_rules bytes)) outer.0 in
    let full = kept_first (rule (not (length bytes % 4 == 0) || nat_lt (length bytes) 8) 0 kind.Length) [] (kept_later 1 (bytes_rules bytes) outer.0) in
    let two = kept_first (rule (length words == 2) 2 kind.Group) [] (kept_later 2 (header_rules words) inner.0) in
    let some : 3 ≤ length words = long_enough (length bytes) (length words) (not (length bytes % 4 == 0)) full (words_length bytes) two in
    let group = first_group words some inner.1 in
    let found = program_is items (tree_of (statements items)) p is in
    let few : length (statements items) ≤ 65536 = at_most (length bytes / 4) (length words) (length (drop 2 words)) (length items) (length (statements items)) short (words_length bytes) (omega (arith, length-drop 2 words)) (items_length 2 0 (drop 2 words)) (statements_length items) in
    let good : IsGood (record { group = sizes_of items; temps = unwrap_or (temps_said items) 0; declared = declarations items; body = found.0 }) = record {
      group = group.0;
      sizes = group.1;
      temps = temps_small [] items inner.1;
      declared = all_declared [] items inner.1;
      fits = tree_fits (declarations items) (unwrap_or (temps_said items) 0) (statements items) found.0 found.1.0 (all_fit [] items inner.1);
      nesting = tree_depth (statements items) found.0 (items_nest [] items inner.1) found.1.0;
      nodes = omega (arith, tree_size (statements items) found.0 found.1.0, few);
    } in
    subst IsGood found.1.1 good

unless_some : (f : Option ShaderFault) (o : Option Program) (p : Program) → program_unless f o ≡ Some p → (f ≡ None) × (o ≡ Some p)
unless_some None o p h = (refl, h)
unless_some (Some f) o p h = cc

-- the program of a shader's bytes is good
pub good_shader : (bytes : List ℕ) (p : Program) → shader_of bytes ≡ Some p → IsGood p
good_shader bytes p h =
    let both = unless_some (first_bad_of_bytes bytes) (spelled_by (words_of bytes)) p h in
    good_program bytes p both.0 both.1

-- bytes with a bad word are no program
pub bad_shader : (bytes : List ℕ) (f : ShaderFault) → first_bad_of_bytes bytes ≡ Some f → shader_of bytes ≡ None
bad_shader bytes f h = ap (λ z. program_unless z (spelled_by (words_of bytes))) h
