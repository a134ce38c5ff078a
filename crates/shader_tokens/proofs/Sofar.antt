-- What the decoder knows after some of the items.
use Rattle.std.proofs.Common.{◌≡◌, ◌==◌, ◌-◌, ℕ, zero, suc, ◌+◌, Bool, true, false, ◌&&◌, nat_lt, List, [], ◌∷◌, ◌++◌, reverse, length, take, drop, get_or, ◌<◌, length-take, length-drop, Option, Some, None, if◌then◌else◌, refl, ap, sym, ◌∙◌, arith}
use Rattle.std.proofs.lemmas.Bool.{eqb-true}
use Rattle.std.proofs.lemmas.List.{append-nil, reverse-append}
use Rattle.std.specs.List.{cons_option}
use Rattle.shader_model.specs.declared.tree.Declared.{Declared}
use Rattle.shader_model.specs.declared.statement.Statement.{Statement}
use Rattle.shader_model.specs.declared.fault.ShaderFault.{ShaderFault}
use Rattle.shader_model.specs.declared.fault.ShaderKind.TheVariants as kind
use Rattle.shader_model.specs.Words.{count_in}
use Rattle.shader_model.specs.Nesting.{opened, spelled}
use Rattle.shader_model.specs.Items.{Item, opcode, items_from, is_declaration, is_all_there, declares, declares_fit}
use Rattle.shader_model.specs.Fields.{declared_of, declarations, temps_said, statement_of, statements}
use Rattle.shader_model.specs.Faults.{Said, said_by, or_else, is_empty, fault_at, item_fault, items_fault, first_word_rules, declaration_rules, instruction_rules}
use Rattle.shader_model.proofs.Spelling.{kept_both}
use Rattle.shader_model.proofs.Declaring.{declared_more, temps_more}
use Rattle.shader_tokens.specs.declared.reader.Reader.{Reader}
use Rattle.shader_tokens.specs.Levels.{seen}
use Rattle.shader_tokens.specs.Decoding.{said, and_said, and_declared, and_blocks, Reads}
use Rattle.shader_tokens.proofs.Judging.{first-whole}

-- some items were taken, and these words are left, from a place on: there are some earlier items such that the reader knows what they say,
-- and what is left leads to the faults, the declarations and the statements of all items
pub record Sofar (all : List Item) (at : ℕ) (ws : List ℕ) (r : Reader) : Type 0 where
  pub earlier : List Item
  pub says : said r ≡ said_by earlier
  pub fault : items_fault [] all ≡ items_fault earlier (items_from at 0 ws)
  pub declared : reverse (declarations earlier) ++ declarations (items_from at 0 ws) ≡ declarations all
  pub temps : or_else (temps_said earlier) (temps_said (items_from at 0 ws)) ≡ temps_said all
  pub spells : seen r.levels (spelled (statements (items_from at 0 ws))) ≡ spelled (statements all)

-- ## The next item

items-skip : (at k : ℕ) (ws : List ℕ) → items_from at k ws ≡ items_from (at + k) 0 (drop k ws)
items-skip at zero ws = ap (λ n. items_from n 0 ws) (omega arith)
items-skip at (suc k) [] = refl
items-skip at (suc k) (w ∷ ws) = items-skip (at + 1) k ws ∙ ap (λ n. items_from n 0 (drop k ws)) (omega arith)

and-known : (o : Option Declared) (ds : List Declared) → reverse (cons_option o ds) ≡ and_declared o (reverse ds)
and-known None ds = refl
and-known (Some d) ds = reverse-append (d ∷ []) ds

and-opened : (o : Option Statement) (ss : List Statement) → opened (cons_option o ss) ≡ and_blocks o (opened ss)
and-opened None ss = refl
and-opened (Some s) ss = refl

-- what one more item says
pub said-more : (item : Item) (earlier : List Item) → and_said item (said_by earlier) ≡ said_by (item ∷ earlier)
said-more item earlier =
    let now = said_by (item ∷ earlier) in
    sym (ap (λ z. record now { declared = z }) (and-known (declared_of item) (declarations earlier)) ∙ ap (λ z. record now { declared = and_declared (declared_of item) (reverse (declarations earlier)); blocks = z }) (and-opened (statement_of item) (statements earlier)))

and-last : (a b : Bool) → a && b ≡ true → a ≡ true
and-last true b h = refl
and-last false b h = cc

and-second : (a b : Bool) → a && b ≡ true → b ≡ true
and-second true b h = h
and-second false b h = cc

-- a good item has as many words as it says
counted : (s : Said) (item : Item) → item_fault s item ≡ None → length item.more ≡ count_in item.first - 1
counted s item h =
    let more = if is_declaration item then declaration_rules s item else instruction_rules s item in
    let whole = first-whole s item (kept_both (first_word_rules s item) more h).0 in
    let there = and-last (is_all_there item) (declares_fit item (declares (opcode item))) whole in
    eqb-true (length item.more) (count_in item.first - 1) (and-second (nat_lt 0 (count_in item.first)) (length item.more == count_in item.first - 1) there)

or-none : (a b : Option ShaderFault) → a ≡ None → or_else a b ≡ b
or-none a b e = ap (λ z. or_else z b) e

first-here : (at w : ℕ) (ws next more : List ℕ) → ws ≡ w ∷ next → more ≡ take (count_in w - 1) next
    → items_from at 0 ws ≡ record { at = at; first = w; more = more } ∷ items_from (at + 1) (count_in w - 1) next
first-here at w ws next more ew em = ap (items_from at 0) ew ∙ ap (λ z. let item : Item = record { at = at; first = w; more = z } in item ∷ items_from (at + 1) (count_in w - 1) next) (sym em)

-- one more item is taken
pub one-more : (all : List Item) (at w : ℕ) (ws next more rest : List ℕ) (r t : Reader) (n : ℕ) → Sofar all at ws r → ws ≡ w ∷ next → more ≡ take (count_in w - 1) next → n ≡ length more → rest ≡ drop n next
    → item_fault (said r) (record { at = at; first = w; more = more }) ≡ None
    → said t ≡ and_said (record { at = at; first = w; more = more }) (said r)
    → ((later : List Statement) → seen t.levels (spelled later) ≡ seen r.levels (spelled (cons_option (statement_of (record { at = at; first = w; more = more })) later)))
    → Sofar all (at + 1 + n) rest t
one-more all at w ws next more rest r t n before ew em en er good says spells =
    let item : Item = record { at = at; first = w; more = more } in
    let count : n ≡ count_in w - 1 = en ∙ counted (said r) item good in
    let tail = items_from (at + 1 + n) 0 rest in
    let here : items_from at 0 ws ≡ item ∷ tail = first-here at w ws next more ew em ∙ ap (λ z. item ∷ z) (items-skip (at + 1) (count_in w - 1) next)
    ∙ ap (λ k. item ∷ items_from (at + 1 + k) 0 (drop k next)) (sym count) ∙ ap (λ z. item ∷ items_from (at + 1 + n) 0 z) (sym er) in
    let fine : item_fault (said_by before.earlier) item ≡ None = ap (λ z. item_fault z item) (sym before.says) ∙ good in
    record {
      earlier = item ∷ before.earlier;
      says = says ∙ ap (and_said item) before.says ∙ said-more item before.earlier;
      fault = before.fault ∙ ap (items_fault before.earlier) here ∙ or-none (item_fault (said_by before.earlier) item) (items_fault (item ∷ before.earlier) tail) fine;
      declared = declared_more before.earlier item tail ∙ ap (λ z. reverse (declarations before.earlier) ++ declarations z) (sym here) ∙ before.declared;
      temps = temps_more before.earlier item tail fine ∙ ap (λ z. or_else (temps_said before.earlier) (temps_said z)) (sym here) ∙ before.temps;
      spells = spells (statements tail) ∙ ap (λ z. seen r.levels (spelled (statements z))) (sym here) ∙ before.spells;
    }

-- the first fault of an item is that of all
pub bad-here : (all : List Item) (at w : ℕ) (ws next more : List ℕ) (r : Reader) (f : ShaderFault) → Sofar all at ws r → ws ≡ w ∷ next → more ≡ take (count_in w - 1) next
    → item_fault (said r) (record { at = at; first = w; more = more }) ≡ Some f → items_fault [] all ≡ Some f
bad-here all at w ws next more r f before ew em bad =
    let item : Item = record { at = at; first = w; more = more } in
    let tail = items_from (at + 1) (count_in w - 1) next in
    before.fault ∙ ap (items_fault before.earlier) (first-here at w ws next more ew em)
    ∙ ap (λ z. or_else z (items_fault (item ∷ before.earlier) tail)) (ap (λ z. item_fault z item) (sym before.says) ∙ bad)

none-else : (o : Option ℕ) → or_else o None ≡ o
none-else None = refl
none-else (Some n) = refl

-- all items were taken
pub all-read : (all : List Item) (at : ℕ) (ws : List ℕ) (r : Reader) → Sofar all at ws r → ws ≡ [] → Reads all r
all-read all at ws r before e =
    let none : items_from at 0 ws ≡ [] = ap (items_from at 0) e in
    record {
      declared = ap (λ (z : Said). z.declared) before.says ∙ sym (append-nil (reverse (declarations before.earlier))) ∙ ap (λ z. reverse (declarations before.earlier) ++ declarations z) (sym none) ∙ before.declared;
      temps = ap (λ (z : Said). z.temps) before.says ∙ sym (none-else (temps_said before.earlier)) ∙ ap (λ z. or_else (temps_said before.earlier) (temps_said z)) (sym none) ∙ before.temps;
      fault = before.fault ∙ ap (items_fault before.earlier) none ∙ ap (λ (z : Said). if is_empty z.blocks then None else Some (fault_at 1 kind.Nesting)) (sym before.says);
      spells = ap (λ z. seen r.levels (spelled (statements z))) (sym none) ∙ before.spells;
    }

-- before the first item
pub none-read : (ws : List ℕ) (r : Reader) → said r ≡ said_by [] → ((later : List Statement) → seen r.levels (spelled later) ≡ spelled later) → Sofar (items_from 2 0 ws) 2 ws r
none-read ws r says seen_ = record {
  earlier = [];
  says = says;
  fault = refl;
  declared = refl;
  temps = refl;
  spells = seen_ (statements (items_from 2 0 ws));
}

-- ## Words and their lengths

pub first-word : (ws : List ℕ) → 0 < length ws → ws ≡ get_or ws 0 0 ∷ drop 1 ws
first-word [] h = absurd (omega arith)
first-word (w ∷ ws) h = refl

-- a first word and those behind it
pub words-here : (ws next : List ℕ) (w : ℕ) → 0 < length ws → w ≡ get_or ws 0 0 → next ≡ drop 1 ws → ws ≡ w ∷ next
words-here ws next w h ew en = first-word ws h ∙ ap (λ z. z ∷ drop 1 ws) (sym ew) ∙ ap (λ z. w ∷ z) (sym en)

-- an item's further words, and those behind it
pub fewer : (ws next more rest : List ℕ) (w k n : ℕ) → ws ≡ w ∷ next → more ≡ take k next → n ≡ length more → rest ≡ drop n next → 1 + n + length rest ≡ length ws
fewer ws next more rest w k n ew em en er =
    omega (arith, ap length ew, ap length em, ap length er, en, length-take k next, length-drop n next)
