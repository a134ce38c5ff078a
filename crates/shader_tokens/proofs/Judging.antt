-- The rules of operands and of items, one after another.
use Rattle.std.proofs.Common.{◌≡◌, ◌<◌, ◌≤◌, ℕ, ◌+◌, Bool, true, false, List, [], ◌∷◌, ◌++◌, length, take, drop, get_or, Option, Some, None, Result, Ok, Err, OnOk, is_some, not, ◌||◌, ◌&&◌, ◌==◌, nat_le, if◌then◌else◌, refl, ap, sym, ◌∙◌, arith, length-drop}
use Rattle.std.proofs.lemmas.List.{drop_all}
use Rattle.std.proofs.lemmas.Bool.Decides.{nat_tests}
use Rattle.shader_model.specs.declared.tree.Declared.{Declared}
use Rattle.shader_model.specs.declared.opcode.Row.{Row}
use Rattle.shader_model.specs.declared.fault.ShaderFault.{ShaderFault}
use Rattle.shader_model.specs.declared.opcode.Kind.{Kind}
use Rattle.shader_model.specs.declared.opcode.Access.{Access}
use Rattle.shader_model.specs.declared.opcode.Kind.TheVariants.{Destination, Source, SlotWord}
use Rattle.shader_model.specs.declared.fault.ShaderKind.TheVariants as kind
use Rattle.shader_model.specs.Opcodes.{kinds, row_of}
use Rattle.shader_model.specs.Nesting.{Block}
use Rattle.shader_model.specs.Items.{Item, Part, opcode, more_of, parts_by, parts_of, declares, is_declaration, is_all_there, declares_fit, has_its_length}
use Rattle.shader_model.specs.Fields.{declared_of, statement_of}
use Rattle.shader_model.proofs.Spelling.{kept_first, not_false}
use Rattle.shader_model.proofs.Declaring.{no_statement, undeclared, no_temps}
use Rattle.shader_model.specs.Faults.{Rule, rule, first_broken, or_else, Said, operand_rules, parts_rules, placed, first_word_rules, declaration_rules, instruction_rules, item_fault, fault_at}
use Rattle.shader_tokens.specs.declared.end.ShaderEnd.{ShaderEnd}
use Rattle.shader_tokens.specs.declared.end.ShaderEnd.TheVariants as end_
use Rattle.shader_tokens.specs.Decoding.{IfFault, IfBad, walks, first_part, parts_at, rules_of, and_declared, and_blocks, and_said}
use Rattle.shader_tokens.proofs.Gathering.{kinds-cons, walk-next, parts-next, parts-some}
use Rattle.shader_tokens.proofs.Walking.{fits-row}

-- two lists of rules, one after the other
or-if : (b : Bool) (f : ShaderFault) (o r : Option ShaderFault) → (if b then Some f else or_else o r) ≡ or_else (if b then Some f else o) r
or-if true f o r = refl
or-if false f o r = refl

pub broken-both : (rs qs : List Rule) → first_broken (rs ++ qs) ≡ or_else (first_broken rs) (first_broken qs)
broken-both [] qs = refl
broken-both (r ∷ rs) qs =
    let f : ShaderFault = record { word = r.word; kind = r.kind } in
    ap (λ z. if r.broken then Some f else z) (broken-both rs qs) ∙ or-if r.broken f (first_broken rs) (first_broken qs)

-- the rules of an operand, by what its words say
pub kind-fault : (said : Said) (a : Access) (k j : Kind) (at w : ℕ) (more ws : List ℕ) (r : Option ShaderFault) → k ≡ j → w ≡ get_or ws 0 0 → more ≡ take (more_of j (get_or ws 0 0)) (drop 1 ws)
    → r ≡ first_broken (operand_rules j said a (record { kind = j; at = at; word = w; more = more })) → r ≡ first_broken (operand_rules k said a (first_part k at ws))
kind-fault said a k j at w more ws r ek ew em e =
    e ∙ ap (λ z. first_broken (operand_rules j said a (record { kind = j; at = at; word = z; more = more }))) ew
    ∙ ap (λ z. first_broken (operand_rules j said a (record { kind = j; at = at; word = get_or ws 0 0; more = z }))) em
    ∙ sym (ap (λ z. first_broken (operand_rules z said a (first_part z at ws))) ek)

-- what is left to judge: the words that are left are the operands that are left, and their first fault is that of all
pub record Left (said : Said) (a : Access) (at : ℕ) (ks : List Kind) (ws : List ℕ) (all : Option ShaderFault) : Type 0 where
  pub fits : walks ks ws ≡ true
  pub fault : first_broken (rules_of said a (parts_at at ks ws)) ≡ all
  pub near : at + length ws ≤ 65536

le-tested : (a b : ℕ) (r : Bool) → (if nat_le a b then r else false) ≡ true → a ≤ b
le-tested a b r h = grind (arith, nat_tests)

and-both : (a b : Bool) → a && b ≡ true → (a ≡ true) × (b ≡ true)
and-both true b h = (refl, h)
and-both false b h = cc

no-some : (o : Option ℕ) → is_some o ≡ false → o ≡ None
no-some None h = refl
no-some (Some n) h = cc

walk-fits : (k : Kind) (ks : List Kind) (w : ℕ) (ws : List ℕ) → walks (k ∷ ks) (w ∷ ws) ≡ true → more_of k w ≤ length ws
walk-fits k ks w ws h = le-tested (more_of k w) (length ws) (walks ks (drop (more_of k w) ws)) h

is-none : (o : Option ShaderFault) → is_some o ≡ false → o ≡ None
is-none None h = refl
is-none (Some f) h = cc

or-some : (o r : Option ShaderFault) → is_some o ≡ true → or_else o r ≡ o
or-some None r h = cc
or-some (Some f) r h = refl

none-parts : (said : Said) (a : Access) (at : ℕ) (ws : List ℕ) → first_broken (rules_of said a (parts_at at [] ws)) ≡ None
none-parts said a at [] = refl
none-parts said a at (w ∷ ws) = refl

room-left : (ks : List Kind) (ws : List ℕ) (k : Kind) → walks (k ∷ ks) ws ≡ true → 1 + more_of k (get_or ws 0 0) + length (drop (more_of k (get_or ws 0 0)) (drop 1 ws)) ≡ length ws
room-left ks [] k h = cc
room-left ks (w ∷ ws) k h = let fits : more_of k w ≤ length ws = walk-fits k ks w ws h in omega (arith, length-drop (more_of k w) ws, fits)

left-drop : (said : Said) (a : Access) (at : ℕ) (ks : List Kind) (i : ℕ) (d : Kind) (ws : List ℕ) (all : Option ShaderFault) → i < length ks → Left said a at (drop i ks) ws all
    → 1 + more_of (get_or ks i d) (get_or ws 0 0) + length (drop (more_of (get_or ks i d) (get_or ws 0 0)) (drop 1 ws)) ≡ length ws
left-drop said a at ks i d ws all h left = room-left (drop (i + 1) ks) ws (get_or ks i d) (sym (ap (λ z. walks z ws) (kinds-cons ks i d h)) ∙ left.fits)

-- the place of the operand behind this one
pub left-room : (said : Said) (a : Access) (at : ℕ) (ks : List Kind) (i : ℕ) (d : Kind) (ws : List ℕ) (w m : ℕ) (all : Option ShaderFault) → i < length ks → w ≡ get_or ws 0 0 → m ≡ more_of (get_or ks i d) w
    → Left said a at (drop i ks) ws all → at + 1 + m ≤ 65536
left-room said a at ks i d ws w m all h ew em left =
    let e : m ≡ more_of (get_or ks i d) (get_or ws 0 0) = em ∙ ap (more_of (get_or ks i d)) ew in
    let near = left.near in
    omega (arith, e, left-drop said a at ks i d ws all h left)

first-and-rest : (said : Said) (a : Access) (at : ℕ) (ks : List Kind) (i : ℕ) (d : Kind) (ws : List ℕ) (all : Option ShaderFault) → i < length ks → Left said a at (drop i ks) ws all
    → or_else (first_broken (operand_rules (get_or ks i d) said a (first_part (get_or ks i d) at ws)))
    (first_broken (rules_of said a (parts_at (at + 1 + more_of (get_or ks i d) (get_or ws 0 0)) (drop (i + 1) ks) (drop (more_of (get_or ks i d) (get_or ws 0 0)) (drop 1 ws))))) ≡ all
first-and-rest said a at ks i d ws all h left =
    let k = get_or ks i d in
    let more = parts_at (at + 1 + more_of k (get_or ws 0 0)) (drop (i + 1) ks) (drop (more_of k (get_or ws 0 0)) (drop 1 ws)) in
    sym (broken-both (operand_rules k said a (first_part k at ws)) (rules_of said a more))
    ∙ ap (λ z. first_broken (rules_of said a z)) (sym (parts-next at ks i d ws h left.fits)) ∙ left.fault

-- an operand without a fault is passed
pub left-next : (said : Said) (a : Access) (at : ℕ) (ks : List Kind) (i : ℕ) (d : Kind) (ws next rest : List ℕ) (w m : ℕ) (o all : Option ShaderFault) → i < length ks
    → o ≡ first_broken (operand_rules (get_or ks i d) said a (first_part (get_or ks i d) at ws)) → is_some o ≡ false → w ≡ get_or ws 0 0 → m ≡ more_of (get_or ks i d) w → next ≡ drop 1 ws → rest ≡ drop m next
    → Left said a at (drop i ks) ws all → Left said a (at + 1 + m) (drop (i + 1) ks) rest all
left-next said a at ks i d ws next rest w m o all h eo none ew em en er left =
    let k = get_or ks i d in
    let e : m ≡ more_of k (get_or ws 0 0) = em ∙ ap (more_of k) ew in
    let rests : rest ≡ drop (more_of k (get_or ws 0 0)) (drop 1 ws) = er ∙ ap (drop m) en ∙ ap (λ z. drop z (drop 1 ws)) e in
    let clean : first_broken (operand_rules k said a (first_part k at ws)) ≡ None = sym eo ∙ is-none o none in
    let near : at + length ws ≤ 65536 = left.near in
    record {
      fits = ap (walks (drop (i + 1) ks)) rests ∙ walk-next ks i d ws h left.fits;
      fault = ap (λ z. first_broken (rules_of said a (parts_at (at + 1 + m) (drop (i + 1) ks) z))) rests
          ∙ ap (λ z. first_broken (rules_of said a (parts_at (at + 1 + z) (drop (i + 1) ks) (drop (more_of k (get_or ws 0 0)) (drop 1 ws))))) e
          ∙ ap (λ z. or_else z (first_broken (rules_of said a (parts_at (at + 1 + more_of k (get_or ws 0 0)) (drop (i + 1) ks) (drop (more_of k (get_or ws 0 0)) (drop 1 ws)))))) (sym clean)
          ∙ first-and-rest said a at ks i d ws all h left;
      near = omega (arith, e, ap length rests, left-drop said a at ks i d ws all h left, near);
    }

-- the fault of an operand is that of all
pub left-found : (said : Said) (a : Access) (at : ℕ) (ks : List Kind) (i : ℕ) (d : Kind) (ws : List ℕ) (o all : Option ShaderFault) → i < length ks
    → o ≡ first_broken (operand_rules (get_or ks i d) said a (first_part (get_or ks i d) at ws)) → is_some o ≡ true → Left said a at (drop i ks) ws all → o ≡ all
left-found said a at ks i d ws o all h eo some left =
    let k = get_or ks i d in
    let more = first_broken (rules_of said a (parts_at (at + 1 + more_of k (get_or ws 0 0)) (drop (i + 1) ks) (drop (more_of k (get_or ws 0 0)) (drop 1 ws)))) in
    sym (or-some o more some) ∙ ap (λ z. or_else z more) eo ∙ first-and-rest said a at ks i d ws all h left

-- no operand is left
pub left-none : (said : Said) (a : Access) (at : ℕ) (ks : List Kind) (i : ℕ) (ws : List ℕ) (all : Option ShaderFault) → length ks ≤ i → Left said a at (drop i ks) ws all → None ≡ all
left-none said a at ks i ws all h left =
    let none : drop i ks ≡ [] = drop_all i ks h in
    sym (none-parts said a at ws) ∙ ap (λ z. first_broken (rules_of said a (parts_at at z ws))) (sym none) ∙ left.fault

-- ## What is said

said-is : (r s : Said) → r.declared ≡ s.declared → r.temps ≡ s.temps → r.any ≡ s.any → r.begun ≡ s.begun → r.blocks ≡ s.blocks → r ≡ s
said-is r s d t a b k =
    let one : r ≡ record r { declared = s.declared } = ap (λ z. record r { declared = z }) d in
    let two : record r { declared = s.declared } ≡ record r { declared = s.declared; temps = s.temps } = ap (λ z. record r { declared = s.declared; temps = z }) t in
    let three : record r { declared = s.declared; temps = s.temps } ≡ record r { declared = s.declared; temps = s.temps; any = s.any } = ap (λ z. record r { declared = s.declared; temps = s.temps; any = z }) a in
    let four : record r { declared = s.declared; temps = s.temps; any = s.any } ≡ record s { blocks = r.blocks } = ap (λ z. record s { begun = z; blocks = r.blocks }) b in
    one ∙ two ∙ three ∙ four ∙ ap (λ z. record s { blocks = z }) k

-- a declaration is said
pub declaration-said : (r old : Said) (item : Item) (d : Option Declared) (t : Option ℕ) → is_declaration item ≡ true → d ≡ declared_of item → r ≡ record old { declared = and_declared d old.declared }
    → t ≡ (if opcode item == 2 then Some (get_or item.more 0 0) else r.temps) → record r { temps = t; any = true } ≡ and_said item old
declaration-said r old item d t is ed er et =
    said-is (record r { temps = t; any = true }) (and_said item old)
    (ap (λ (z : Said). z.declared) er ∙ ap (λ z. and_declared z old.declared) ed)
    (et ∙ ap (λ (z : Said). if opcode item == 2 then Some (get_or item.more 0 0) else z.temps) er)
    refl
    (ap (λ (z : Said). z.begun) er ∙ ap (λ (b : Bool). not b || old.begun) (sym is))
    (ap (λ (z : Said). z.blocks) er ∙ ap (λ z. and_blocks z old.blocks) (sym (no_statement item is)))

-- an instruction is said
pub instruction-said : (r old : Said) (item : Item) → is_declaration item ≡ false → r ≡ record old { blocks = and_blocks (statement_of item) old.blocks } → record r { any = true; begun = true } ≡ and_said item old
instruction-said r old item is er =
    said-is (record r { any = true; begun = true }) (and_said item old)
    (ap (λ (z : Said). z.declared) er ∙ ap (λ z. and_declared z old.declared) (sym (undeclared item is)))
    (ap (λ (z : Said). z.temps) er ∙ ap (λ (b : Bool). if b then Some (get_or item.more 0 0) else old.temps) (sym (no_temps item is)))
    refl
    (ap (λ (b : Bool). not b || old.begun) (sym is))
    (ap (λ (z : Said). z.blocks) er)

-- ## Items

-- the place of operands' rules hangs on no block
kind-blocks : (s : Said) (bs : List Block) (a : Access) (k : Kind) (p : Part) → operand_rules k (record s { blocks = bs }) a p ≡ operand_rules k s a p
kind-blocks s bs a Destination p = refl
kind-blocks s bs a Source p = refl
kind-blocks s bs a SlotWord p = refl

rules-blocks : (s : Said) (bs : List Block) (a : Access) (ps : List Part) → rules_of (record s { blocks = bs }) a ps ≡ rules_of s a ps
rules-blocks s bs a [] = refl
rules-blocks s bs a (p ∷ ps) =
    ap (λ z. z ++ rules_of (record s { blocks = bs }) a ps) (kind-blocks s bs a p.kind p) ∙ ap (λ z. operand_rules p.kind s a p ++ z) (rules-blocks s bs a ps)

-- an instruction whose words are its operands
pub whole-fits : (item : Item) (r : Row) → has_its_length item ≡ true → is_declaration item ≡ false → row_of (opcode item) ≡ Some r → walks (kinds r.layout) item.more ≡ true
whole-fits item r h none is =
    let both = and-both (is_all_there item) (declares_fit item (declares (opcode item))) h in
    fits-row item r both.0 (no-some (declares (opcode item)) none) is ∙ h

-- an instruction in its place has the first fault of its operands
pub operands-fault : (s t : Said) (item : Item) (r : Row) (o : Option ShaderFault) → row_of (opcode item) ≡ Some r → walks (kinds r.layout) item.more ≡ true → placed (statement_of item) s.blocks ≡ true
    → t ≡ record s { blocks = and_blocks (statement_of item) s.blocks } → o ≡ first_broken (rules_of t r.access (parts_at (item.at + 1) (kinds r.layout) item.more)) → first_broken (instruction_rules s item) ≡ o
operands-fault s t item r o is fits place et eo =
    let ps = parts_at (item.at + 1) (kinds r.layout) item.more in
    let nesting = fault_at item.at kind.Nesting in
    ap (λ (b : Bool). if not b then Some nesting else first_broken (parts_rules s (row_of (opcode item)) (parts_of item))) place
    ∙ ap (λ (z : Option Row). first_broken (parts_rules s z (parts_by item z))) is
    ∙ ap (λ z. first_broken (parts_rules s (Some r) z)) (parts-some (item.at + 1) (kinds r.layout) item.more fits)
    ∙ ap first_broken (sym (rules-blocks s (and_blocks (statement_of item) s.blocks) r.access ps))
    ∙ ap (λ z. first_broken (rules_of z r.access ps)) (sym et) ∙ sym eo

pub misplaced-fault : (s : Said) (item : Item) (f : ShaderFault) → f ≡ fault_at item.at kind.Nesting → placed (statement_of item) s.blocks ≡ false → first_broken (instruction_rules s item) ≡ Some f
misplaced-fault s item f e place =
    ap (λ (b : Bool). if not b then Some (fault_at item.at kind.Nesting) else first_broken (parts_rules s (row_of (opcode item)) (parts_of item))) place ∙ ap (λ z. Some z) (sym e)

-- the first fault of an item is that of its first word, or else of its other rules
pub item-first : (s : Said) (item : Item) (f : ShaderFault) → first_broken (first_word_rules s item) ≡ Some f → item_fault s item ≡ Some f
item-first s item f e =
    let more : List Rule = if is_declaration item then declaration_rules s item else instruction_rules s item in
    broken-both (first_word_rules s item) more ∙ ap (λ z. or_else z (first_broken more)) e

pub item-declares : (s : Said) (item : Item) (o : Option ShaderFault) → first_broken (first_word_rules s item) ≡ None → is_declaration item ≡ true → first_broken (declaration_rules s item) ≡ o → item_fault s item ≡ o
item-declares s item o e is h =
    let more : List Rule = if is_declaration item then declaration_rules s item else instruction_rules s item in
    broken-both (first_word_rules s item) more ∙ ap (λ z. or_else z (first_broken more)) e
    ∙ ap (λ (b : Bool). first_broken (if b then declaration_rules s item else instruction_rules s item)) is ∙ h

pub item-instructs : (s : Said) (item : Item) (o : Option ShaderFault) → first_broken (first_word_rules s item) ≡ None → is_declaration item ≡ false → first_broken (instruction_rules s item) ≡ o → item_fault s item ≡ o
item-instructs s item o e is h =
    let more : List Rule = if is_declaration item then declaration_rules s item else instruction_rules s item in
    broken-both (first_word_rules s item) more ∙ ap (λ z. or_else z (first_broken more)) e
    ∙ ap (λ (b : Bool). first_broken (if b then declaration_rules s item else instruction_rules s item)) is ∙ h

pub first-whole : (s : Said) (item : Item) → first_broken (first_word_rules s item) ≡ None → has_its_length item ≡ true
first-whole s item h = not_false (has_its_length item) (kept_first (rule (not (has_its_length item)) item.at kind.Length) (drop 1 (first_word_rules s item)) h)

module _ {A : Type 0} where
  pub if-bad : (r : Result A ShaderEnd) (P Q : ShaderFault → Type 0) → ((f : ShaderFault) → P f → Q f) → IfBad r P → IfBad r Q
  if-bad (Ok x) P Q go h = tt
  if-bad (Err (end_.Bad f)) P Q go h = go f h
  if-bad (Err end_.NoMemory) P Q go h = tt

  pub on-ok : (r : Result A ShaderEnd) (P Q : Type 0) → (P → Q) → OnOk r P → OnOk r Q
  on-ok (Ok x) P Q go h = go h
  on-ok (Err e) P Q go h = tt

-- the same end of another answer
pub end-bad : (e : ShaderEnd) (P Q : ShaderFault → Type 0) → ((f : ShaderFault) → P f → Q f) → IfFault e P → IfFault e Q
end-bad (end_.Bad f) P Q go h = go f h
end-bad end_.NoMemory P Q go h = tt
