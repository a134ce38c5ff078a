-- What items declare: an instruction declares nothing, and all declarations stand before the first instruction.
use Rattle.std.proofs.Common.{◌≡◌, ◌==◌, ◌+◌, ◌<◌, ◌≤◌, ℕ, Bool, true, false, not, ◌&&◌, ◌||◌, nat_lt, nat_le, List, [], ◌∷◌, ◌++◌, reverse, drop, Option, Some, None, is_some, if◌then◌else◌, unwrap_or, slice_index, refl, ap, sym, subst, ◌∙◌, append_assoc, arith}
use Rattle.std.proofs.lemmas.Bool.{eqb-true}
use Rattle.std.proofs.lemmas.Bool.Decides.{nat_tests}
use Rattle.std.proofs.lemmas.List.{reverse-append, append-nil}
use Rattle.std.specs.List.{cons_option, AllByRecursion}
use Rattle.dx_types.specs.declared.shape.Form.TheVariants.{Raw}
use Rattle.shader_model.specs.declared.tree.Declared.{Declared}
use Rattle.shader_model.specs.declared.opcode.Row.{Row}
use Rattle.shader_model.specs.declared.statement.Statement.{Statement}
use Rattle.shader_model.specs.declared.fault.ShaderKind.TheVariants as kind
use Rattle.shader_model.specs.Items.{Item, opcode, parts_by, declares, is_declaration}
use Rattle.shader_model.specs.Fields.{form_of, declared_of, declared_among, declarations, temps_said, statement_from, statement_of, statements}
use Rattle.shader_model.specs.Faults.{Rule, rule, first_broken, or_else, Said, said_by, temps_of, has_begun, first_word_rules, declaration_rules, instruction_rules, is_group, slots_of, takes_parameter, item_fault, items_fault}
use Rattle.shader_model.specs.Good.{StatementFits, DeclaredFits}
use Rattle.shader_model.proofs.Spelling.{kept_first, kept_later, kept_both, not_false, neither, declares_none}
use Rattle.shader_model.proofs.Statements.{statement_fits}
use Rattle.shader_model.proofs.Fitting.{AllFit}

-- a declaration is no statement
pub no_statement : (item : Item) → is_declaration item ≡ true → statement_of item ≡ None
no_statement item h = ap (λ (r : Option Row). statement_from item r (parts_by item r)) (declares_none (opcode item) h)

abbrev declared_by : ℕ → List ℕ → Option Declared
declared_by n more =
    if n == 3 then Some (record { opcode = 3; slot = slice_index more 0; form = Raw; parameter = 0 })
    else if n == 4 then Some (record { opcode = 4; slot = slice_index more 0; form = form_of (slice_index more 1); parameter = slice_index more 2 })
    else if n == 5 then Some (record { opcode = 5; slot = slice_index more 0; form = form_of (slice_index more 1); parameter = slice_index more 2 })
    else None

declares_by : (a b c d e : Bool) → is_some {T = ℕ} (if a then Some 3 else if b then Some 1 else if c then Some 1 else if d then Some 3 else if e then Some 3 else None) ≡ false → (b ≡ false) × (c ≡ false) × (d ≡ false) × (e ≡ false)
declares_by true b c d e h = cc
declares_by false true c d e h = cc
declares_by false false true d e h = cc
declares_by false false false true e h = cc
declares_by false false false false true h = cc
declares_by false false false false false h = (refl, refl, refl, refl)

undeclared_by : (n : ℕ) (more : List ℕ) → is_some (declares n) ≡ false → declared_by n more ≡ None
undeclared_by n more h =
    let none = declares_by (n == 1) (n == 2) (n == 3) (n == 4) (n == 5) h in
    let a : Option Declared = Some (record { opcode = 3; slot = slice_index more 0; form = Raw; parameter = 0 }) in
    let b : Option Declared = Some (record { opcode = 4; slot = slice_index more 0; form = form_of (slice_index more 1); parameter = slice_index more 2 }) in
    let c : Option Declared = Some (record { opcode = 5; slot = slice_index more 0; form = form_of (slice_index more 1); parameter = slice_index more 2 }) in
    ap (λ (z : Bool). if z then a else if n == 4 then b else if n == 5 then c else None) none.1
    ∙ ap (λ (z : Bool). if z then b else if n == 5 then c else None) none.2
    ∙ ap (λ (z : Bool). if z then c else None) none.3

-- an instruction declares no slot and no temporaries
pub undeclared : (item : Item) → is_declaration item ≡ false → declared_of item ≡ None
undeclared item h = undeclared_by (opcode item) item.more h

pub no_temps : (item : Item) → is_declaration item ≡ false → (opcode item == 2) ≡ false
no_temps item h = (declares_by (opcode item == 1) (opcode item == 2) (opcode item == 3) (opcode item == 4) (opcode item == 5) h).0

-- ## All items

and_true : (a b : Bool) → a && b ≡ false → b ≡ true → a ≡ false
and_true true b h e = cc
and_true false b h e = refl

-- the rules of the first word, that are not broken
first_rules : (said : Said) (item : Item) → item_fault said item ≡ None → first_broken (first_word_rules said item) ≡ None
first_rules said item h =
    let more : List Rule = if is_declaration item then declaration_rules said item else instruction_rules said item in
    (kept_both (first_word_rules said item) more h).0

-- no declaration stands behind an instruction
pub instructs : (said : Said) (item : Item) → item_fault said item ≡ None → said.begun ≡ true → is_declaration item ≡ false
instructs said item h begun =
    let rules = first_word_rules said item in
    and_true (is_declaration item) said.begun (kept_first (rule (is_declaration item && said.begun) item.at kind.Opcode) (drop 4 rules) (kept_later 3 rules (first_rules said item h))) begun

only_one : (o : Option ℕ) (b : Bool) → b && is_some o ≡ false → b ≡ true → o ≡ None
only_one None b h e = refl
only_one (Some n) true h e = cc
only_one (Some n) false h e = cc

or_none : (o : Option ℕ) → or_else o None ≡ o
or_none None = refl
or_none (Some n) = refl

-- the number of temporaries is said only once
pub temps_once : (said : Said) (item : Item) → item_fault said item ≡ None → (opcode item == 2) ≡ true → said.temps ≡ None
temps_once said item h two =
    let rules = first_word_rules said item in
    only_one said.temps (opcode item == 2) (kept_first (rule ((opcode item == 2) && is_some said.temps) item.at kind.Register) (drop 6 rules) (kept_later 5 rules (first_rules said item h))) two

-- what is declared by the earlier items and this one, and by the later ones
declared_step : (xs : List Declared) (o : Option Declared) (ys : List Declared) → reverse (cons_option o xs) ++ ys ≡ reverse xs ++ cons_option o ys
declared_step xs None ys = refl
declared_step xs (Some d) ys = ap (λ z. z ++ ys) (reverse-append (d ∷ []) xs) ∙ append_assoc (reverse xs) (d ∷ []) ys

temps_if : (b : Bool) (v : ℕ) (o r : Option ℕ) → (b ≡ true → o ≡ None) → or_else (if b then Some v else o) r ≡ or_else o (if b then Some v else r)
temps_if true v o r h = sym (ap (λ z. or_else z (Some v)) (h refl))
temps_if false v o r h = refl

pub declared_more : (earlier : List Item) (item : Item) (later : List Item) → reverse (declarations (item ∷ earlier)) ++ declarations later ≡ reverse (declarations earlier) ++ declarations (item ∷ later)
declared_more earlier item later = declared_step (declarations earlier) (declared_of item) (declarations later)

pub temps_more : (earlier : List Item) (item : Item) (later : List Item) → item_fault (said_by earlier) item ≡ None → or_else (temps_said (item ∷ earlier)) (temps_said later) ≡ or_else (temps_said earlier) (temps_said (item ∷ later))
temps_more earlier item later h = temps_if (opcode item == 2) (slice_index item.more 0) (temps_said earlier) (temps_said later) (temps_once (said_by earlier) item h)

-- nothing is declared behind an instruction
quiet : (earlier later : List Item) → items_fault earlier later ≡ None → has_begun earlier ≡ true → (declarations later ≡ []) × (temps_said later ≡ None)
quiet earlier [] h begun = (refl, refl)
quiet earlier (item ∷ later) h begun =
    let both = neither (item_fault (said_by earlier) item) (items_fault (item ∷ earlier) later) h in
    let none = instructs (said_by earlier) item both.0 begun in
    let rest = quiet (item ∷ earlier) later both.1 (ap (λ (b : Bool). not b || has_begun earlier) none) in
    (ap (λ z. cons_option z (declarations later)) (undeclared item none) ∙ rest.0, ap (λ (b : Bool). if b then Some (slice_index item.more 0) else temps_said later) (no_temps item none) ∙ rest.1)

cons_fit : (ds : List Declared) (n : ℕ) (o : Option Statement) (ss : List Statement) → ((s : Statement) → o ≡ Some s → StatementFits ds n s) → AllFit ds n ss → AllFit ds n (cons_option o ss)
cons_fit ds n None ss h rest = rest
cons_fit ds n (Some s) ss h rest = (h s refl, rest)

-- the statement of an item fits what all items declare
one_fits : (earlier : List Item) (item : Item) (later : List Item) (b : Bool) → is_declaration item ≡ b → item_fault (said_by earlier) item ≡ None → items_fault (item ∷ earlier) later ≡ None → (s : Statement) → statement_of item ≡ Some s
    → StatementFits (reverse (declarations earlier) ++ declarations (item ∷ later)) (unwrap_or (or_else (temps_said earlier) (temps_said (item ∷ later))) 0) s
one_fits earlier item later true e h more s is = let none : None ≡ Some s = sym (no_statement item e) ∙ is in cc
one_fits earlier item later false e h more s is =
    let rest = quiet (item ∷ earlier) later more (ap (λ (b : Bool). not b || has_begun earlier) e) in
    let ds : reverse (declarations earlier) ≡ reverse (declarations earlier) ++ declarations (item ∷ later) =
    sym (append-nil (reverse (declarations earlier))) ∙ ap (λ z. reverse (declarations earlier) ++ z) (sym (ap (λ z. cons_option z (declarations later)) (undeclared item e) ∙ rest.0)) in
    let none : temps_said (item ∷ later) ≡ None = ap (λ (b : Bool). if b then Some (slice_index item.more 0) else temps_said later) (no_temps item e) ∙ rest.1 in
    let n : temps_of (said_by earlier) ≡ unwrap_or (or_else (temps_said earlier) (temps_said (item ∷ later))) 0 = ap (λ z. unwrap_or z 0) (sym (or_none (temps_said earlier)) ∙ ap (or_else (temps_said earlier)) (sym none)) in
    let P : List Declared → Type 0 = λ z. StatementFits z (unwrap_or (or_else (temps_said earlier) (temps_said (item ∷ later))) 0) s in
    let Q : ℕ → Type 0 = λ z. StatementFits (reverse (declarations earlier)) z s in
    subst P ds (subst Q n (statement_fits (said_by earlier) item s e h is))

-- the statements of items without a fault fit what all items declare
pub all_fit : (earlier later : List Item) → items_fault earlier later ≡ None
    → AllFit (reverse (declarations earlier) ++ declarations later) (unwrap_or (or_else (temps_said earlier) (temps_said later)) 0) (statements later)
all_fit earlier [] h = tt
all_fit earlier (item ∷ later) h =
    let both = neither (item_fault (said_by earlier) item) (items_fault (item ∷ earlier) later) h in
    let ds = reverse (declarations earlier) ++ declarations (item ∷ later) in
    let n = unwrap_or (or_else (temps_said earlier) (temps_said (item ∷ later))) 0 in
    let P : List Declared → Type 0 = λ z. AllFit z n (statements later) in
    let Q : ℕ → Type 0 = λ z. AllFit (reverse (declarations (item ∷ earlier)) ++ declarations later) z (statements later) in
    let rest : AllFit ds n (statements later) = subst P (declared_more earlier item later) (subst Q (ap (λ z. unwrap_or z 0) (temps_more earlier item later both.0)) (all_fit (item ∷ earlier) later both.1)) in
    cons_fit ds n (statement_of item) (statements later) (one_fits earlier item later (is_declaration item) refl both.0 both.1) rest

-- the rules of a good item that is a declaration
pub own_rules : (said : Said) (item : Item) → item_fault said item ≡ None → is_declaration item ≡ true → first_broken (declaration_rules said item) ≡ None
own_rules said item h is =
    let more : List Rule = if is_declaration item then declaration_rules said item else instruction_rules said item in
    ap (λ (b : Bool). first_broken (if b then declaration_rules said item else instruction_rules said item)) (sym is) ∙ (kept_both (first_word_rules said item) more h).1

-- the rules of a declaration that says how many temporaries there are
small : (v : ℕ) → nat_lt 4096 v ≡ false → v ≤ 4096
small v h = grind (arith, nat_tests)

pub temps_rule : (n v : ℕ) (a b c : List Rule) (at : ℕ) → (n == 1) ≡ false → (n == 2) ≡ true
    → first_broken (if n == 1 then a else if n == 2 then rule (nat_lt 4096 v) at kind.Register ∷ [] else if n == 3 then b else c) ≡ None → v ≤ 4096
temps_rule n v a b c at one two h =
    small v (kept_first (rule (nat_lt 4096 v) at kind.Register) [] (sym (ap (λ (z : Bool). first_broken (if z then a else if n == 2 then rule (nat_lt 4096 v) at kind.Register ∷ [] else if n == 3 then b else c)) one
    ∙ ap (λ (z : Bool). first_broken (if z then rule (nat_lt 4096 v) at kind.Register ∷ [] else if n == 3 then b else c)) two) ∙ h))

-- ## The slots that items declare

some_is : {x y : Declared} → Some x ≡ Some y → x ≡ y
some_is e = cc

-- the rules of a declaration, by its opcode and its words
abbrev rules_by : (n : ℕ) (more : List ℕ) (at : ℕ) → (ℕ → Bool) → List Rule
rules_by n more at taken =
    let slot = slice_index more 0 in
    let form = slice_index more 1 in
    let slot_rule = rule (nat_le (slots_of n) slot || taken n) (at + 1) kind.Slot in
    if n == 1 then rule (not (is_group more)) (at + 1) kind.Group ∷ []
    else if n == 2 then rule (nat_lt 4096 slot) (at + 1) kind.Register ∷ []
    else if n == 3 then slot_rule ∷ []
    else slot_rule
    ∷ rule (nat_lt 2 form) (at + 2) kind.Slot
    ∷ rule (not (takes_parameter (form_of form) (slice_index more 2))) (at + 3) kind.Slot
    ∷ []

below_limit : (limit slot : ℕ) (taken : Bool) → nat_le limit slot || taken ≡ false → slot < limit
below_limit limit slot true h = grind (arith, nat_tests)
below_limit limit slot false h = grind (arith, nat_tests)

slot_below : (n slot at : ℕ) (taken : Bool) (rest : List Rule) → first_broken (rule (nat_le (slots_of n) slot || taken) at kind.Slot ∷ rest) ≡ None → slot < slots_of n
slot_below n slot at taken rest h = below_limit (slots_of n) slot taken (kept_first (rule (nat_le (slots_of n) slot || taken) at kind.Slot) rest h)

-- a slot with a form
formed_fits : (n : ℕ) (more : List ℕ) (at : ℕ) (taken : Bool)
    → first_broken (rule (nat_le (slots_of n) (slice_index more 0) || taken) (at + 1) kind.Slot ∷ rule (nat_lt 2 (slice_index more 1)) (at + 2) kind.Slot ∷ rule (not (takes_parameter (form_of (slice_index more 1)) (slice_index more 2))) (at + 3) kind.Slot ∷ []) ≡ None
    → DeclaredFits (record { opcode = n; slot = slice_index more 0; form = form_of (slice_index more 1); parameter = slice_index more 2 })
formed_fits n more at taken h =
    let form = rule (nat_lt 2 (slice_index more 1)) (at + 2) kind.Slot in
    let parameter = rule (not (takes_parameter (form_of (slice_index more 1)) (slice_index more 2))) (at + 3) kind.Slot in
    let all : List Rule = rule (nat_le (slots_of n) (slice_index more 0) || taken) (at + 1) kind.Slot ∷ form ∷ parameter ∷ [] in
    record {
      slot = slot_below n (slice_index more 0) (at + 1) taken (form ∷ parameter ∷ []) h;
      parameter = not_false (takes_parameter (form_of (slice_index more 1)) (slice_index more 2)) (kept_first parameter [] (kept_later 2 all h));
    }

declared_case : (n : ℕ) (more : List ℕ) (at : ℕ) (taken : ℕ → Bool) (d : Declared) (b3 b4 b5 : Bool) → (n == 3) ≡ b3 → (n == 4) ≡ b4 → (n == 5) ≡ b5
    → (is_some (declares n) ≡ true → first_broken (rules_by n more at taken) ≡ None) → declared_by n more ≡ Some d → DeclaredFits d
declared_case n more at taken d true b4 b5 e3 e4 e5 h is =
    let e : n ≡ 3 = eqb-true n 3 e3 in
    let rules : first_broken (rules_by 3 more at taken) ≡ None = subst (λ z. first_broken (rules_by z more at taken) ≡ None) e (h (ap (λ z. is_some (declares z)) e)) in
    let same : Some (record { opcode = 3; slot = slice_index more 0; form = Raw; parameter = 0 }) ≡ Some d = ap (λ z. declared_by z more) (sym e) ∙ is in
    let fits : DeclaredFits (record { opcode = 3; slot = slice_index more 0; form = Raw; parameter = 0 }) = record { slot = slot_below 3 (slice_index more 0) (at + 1) (taken 3) [] rules; parameter = refl } in
    subst DeclaredFits (some_is same) fits
declared_case n more at taken d false true b5 e3 e4 e5 h is =
    let e : n ≡ 4 = eqb-true n 4 e4 in
    let rules : first_broken (rules_by 4 more at taken) ≡ None = subst (λ z. first_broken (rules_by z more at taken) ≡ None) e (h (ap (λ z. is_some (declares z)) e)) in
    let same : declared_by 4 more ≡ Some d = ap (λ z. declared_by z more) (sym e) ∙ is in
    subst DeclaredFits (some_is same) (formed_fits 4 more at (taken 4) rules)
declared_case n more at taken d false false true e3 e4 e5 h is =
    let e : n ≡ 5 = eqb-true n 5 e5 in
    let rules : first_broken (rules_by 5 more at taken) ≡ None = subst (λ z. first_broken (rules_by z more at taken) ≡ None) e (h (ap (λ z. is_some (declares z)) e)) in
    let same : declared_by 5 more ≡ Some d = ap (λ z. declared_by z more) (sym e) ∙ is in
    subst DeclaredFits (some_is same) (formed_fits 5 more at (taken 5) rules)
declared_case n more at taken d false false false e3 e4 e5 h is =
    let none : None ≡ Some d =
    sym (ap (λ (z : Bool). if z then Some (record { opcode = 3; slot = slice_index more 0; form = Raw; parameter = 0 }) else if n == 4 then formed 4 else if n == 5 then formed 5 else None) e3
    ∙ ap (λ (z : Bool). if z then formed 4 else if n == 5 then formed 5 else None) e4
    ∙ ap (λ (z : Bool). if z then formed 5 else None) e5) ∙ is in
    cc
  where
    formed : ℕ → Option Declared
    formed k = Some (record { opcode = k; slot = slice_index more 0; form = form_of (slice_index more 1); parameter = slice_index more 2 })

cons_declared : (o : Option Declared) (ds : List Declared) → ((d : Declared) → o ≡ Some d → DeclaredFits d) → AllByRecursion DeclaredFits ds → AllByRecursion DeclaredFits (cons_option o ds)
cons_declared None ds h rest = rest
cons_declared (Some d) ds h rest = (h d refl, rest)

-- the slots that items without a fault declare fit
pub all_declared : (earlier later : List Item) → items_fault earlier later ≡ None → AllByRecursion DeclaredFits (declarations later)
all_declared earlier [] h = tt
all_declared earlier (item ∷ later) h =
    let said = said_by earlier in
    let both = neither (item_fault said item) (items_fault (item ∷ earlier) later) h in
    cons_declared (declared_of item) (declarations later)
    (λ d is. declared_case (opcode item) item.more item.at (λ n. is_some (declared_among n (slice_index item.more 0) said.declared)) d (opcode item == 3) (opcode item == 4) (opcode item == 5) refl refl refl (own_rules said item both.0) is)
    (all_declared (item ∷ earlier) later both.1)

-- ## What is declared of a slot

pub record Found (n k : ℕ) (d : Declared) : Type 0 where
  pub fits : DeclaredFits d
  pub opcode : d.opcode ≡ n
  pub slot : d.slot ≡ k

found_here : (n slot : ℕ) (a d : Declared) (x : Option Declared) (b c : Bool) → (a.opcode == n) ≡ b → (a.slot == slot) ≡ c → DeclaredFits a → (x ≡ Some d → Found n slot d)
    → (if b then (if c then Some a else x) else x) ≡ Some d → Found n slot d
found_here n slot a d x true true eb ec fits later is = subst (Found n slot) (some_is is) (record { fits = fits; opcode = eqb-true a.opcode n eb; slot = eqb-true a.slot slot ec })
found_here n slot a d x true false eb ec fits later is = later is
found_here n slot a d x false c eb ec fits later is = later is

-- the declaration of a slot by an opcode is of that slot and opcode, and fits
pub found_fits : (n slot : ℕ) (ds : List Declared) (d : Declared) → AllByRecursion DeclaredFits ds → declared_among n slot ds ≡ Some d → Found n slot d
found_fits n slot [] d all is = cc
found_fits n slot (a ∷ ds) d all is = found_here n slot a d (declared_among n slot ds) (a.opcode == n) (a.slot == slot) refl refl all.0 (found_fits n slot ds d all.1) is
