-- A statement of an item without a fault fits.
use Rattle.std.proofs.Common.{◌≡◌, ◌<◌, ℕ, zero, suc, ◌+◌, Bool, true, false, not, cond, zero-add, List, [], ◌∷◌, length, take, drop, map, nat_lt, nat_le, count_by, subst, Option, Some, None, is_some, option_map, if◌then◌else◌, slice_index_or, refl, ap, sym, ◌∙◌, arith}
use Rattle.std.proofs.lemmas.Bool.Decides.{nat_tests}
use Rattle.std.proofs.lemmas.List.Sums.{sum_by-cons}
use Rattle.std.specs.List.{flat_map, cons_option, filter_map}
use Rattle.shader_model.specs.declared.tree.Declared.{Declared}
use Rattle.shader_model.specs.declared.tree.Operand.{Operand}
use Rattle.shader_model.specs.declared.tree.Test.{Test}
use Rattle.shader_model.specs.declared.fault.ShaderKind.TheVariants as kind
use Rattle.shader_model.specs.declared.opcode.Kind.{Kind}
use Rattle.shader_model.specs.declared.opcode.Kind.TheVariants.{Destination, Source, SlotWord}
use Rattle.shader_model.specs.declared.opcode.Row.{Row}
use Rattle.shader_model.specs.declared.opcode.Access.{Access}
use Rattle.shader_model.specs.declared.opcode.Role.{Role}
use Rattle.shader_model.specs.declared.opcode.Role.TheVariants as role
use Rattle.shader_model.specs.declared.statement.Statement.{Statement}
use Rattle.shader_model.specs.Words.{extra_in}
use Rattle.shader_model.specs.Opcodes.{kinds, row_of}
use Rattle.shader_model.specs.Items.{Item, Part, opcode, more_of, parts_from, parts_by, parts_of, is_declaration}
use Rattle.shader_model.specs.Fields.{target_of, operand_of, slot_use_of, target_in, operand_in, slot_use_in, sources, nth, instr_of, test_of, branching, statement_by, statement_from, statement_of}
use Rattle.shader_model.specs.Faults.{Rule, rule, first_broken, first_word_rules, declaration_rules, instruction_rules, parts_rules, item_fault, Said, temps_of, operand_rules, takes_extra}
use Rattle.shader_model.specs.Good.{is_destination_kind, is_source_kind, is_slot_kind, HasOperands, TargetFits, OperandFits, SlotFits, MaybeFits, InstrFits, TestFits, StatementFits}
use Rattle.shader_model.proofs.Spelling.{kept_first, kept_later, kept_both, not_false}
use Rattle.shader_model.proofs.Operands.{target_fits, operand_fits, slot_fits}

module _ (ds : List Declared) (temps : ℕ) (a : Access) where
  -- an operand fits, by its kind
  abbrev pub KindFits : Kind → Part → Type 0
  KindFits Destination p = TargetFits ds temps (target_of p.word)
  KindFits Source p = OperandFits ds temps (operand_of p.word p.more)
  KindFits SlotWord p = SlotFits ds temps a (slot_use_of p.word)

  abbrev pub PartsFit : List Part → Type 0
  PartsFit [] = Unit {0}
  PartsFit (p ∷ ps) = KindFits p.kind p × PartsFit ps

kind_fits : (said : Said) (a : Access) (k : Kind) (p : Part) → first_broken (operand_rules k said a p) ≡ None → KindFits said.declared (temps_of said) a k p
kind_fits said a Destination p h = target_fits said a p h
kind_fits said a Source p h = operand_fits said a p h
kind_fits said a SlotWord p h = slot_fits said a p h

pub parts_fit : (said : Said) (a : Access) (ps : List Part) → first_broken (flat_map (λ p. operand_rules p.kind said a p) ps) ≡ None → PartsFit said.declared (temps_of said) a ps
parts_fit said a [] h = tt
parts_fit said a (p ∷ ps) h =
    let both = kept_both (operand_rules p.kind said a p) (flat_map (λ q. operand_rules q.kind said a q) ps) h in
    (kind_fits said a p.kind p both.0, parts_fit said a ps both.1)

-- ## Lists of operands

none_counts : (m : ℕ) → false ≡ nat_lt m 0
none_counts m = grind (arith, nat_tests)

first_counts : (n : ℕ) → true ≡ nat_lt 0 (1 + n)
first_counts n = grind (arith, nat_tests)

later_counts : (m n : ℕ) → nat_lt (suc m) (1 + n) ≡ nat_lt m n
later_counts m n = grind (arith, nat_tests)

module _ {A B : Type 0} (f : A → Option B) where
  module _ (P : B → Type 0) where
    abbrev EachFits : List A → Type 0
    EachFits [] = Unit {0}
    EachFits (x ∷ xs) = MaybeFits P (f x) × EachFits xs

    cons_fits : (o : Option B) (rest : List B) → MaybeFits P o → ((m : ℕ) → MaybeFits P (nth rest m)) → (m : ℕ) → MaybeFits P (nth (cons_option o rest) m)
    cons_fits None rest h hs m = hs m
    cons_fits (Some y) rest h hs zero = h
    cons_fits (Some y) rest h hs (suc m) = hs m

    nth_fits : (xs : List A) → EachFits xs → (m : ℕ) → MaybeFits P (nth (filter_map f xs) m)
    nth_fits [] h m = tt
    nth_fits (x ∷ xs) h m = cons_fits (f x) (filter_map f xs) h.0 (nth_fits xs h.1) m

  cons_counts : (o : Option B) (rest : List B) (n : ℕ) → ((m : ℕ) → is_some (nth rest m) ≡ nat_lt m n) → (m : ℕ) → is_some (nth (cons_option o rest) m) ≡ nat_lt m (cond (is_some o) 1 0 + n)
  cons_counts None rest n hs m = hs m ∙ ap (nat_lt m) (sym (zero-add n))
  cons_counts (Some y) rest n hs zero = first_counts n
  cons_counts (Some y) rest n hs (suc m) = hs m ∙ sym (later_counts m n)

  -- as many are found as there are of the kind
  nth_counts : (kind_of : A → Kind) (is_kind : Kind → Bool) → ((x : A) → is_some (f x) ≡ is_kind (kind_of x)) → (xs : List A) (m : ℕ) → is_some (nth (filter_map f xs) m) ≡ nat_lt m (count_by is_kind (map kind_of xs))
  nth_counts kind_of is_kind e [] m = none_counts m
  nth_counts kind_of is_kind e (x ∷ xs) m =
      cons_counts (f x) (filter_map f xs) (count_by is_kind (map kind_of xs)) (nth_counts kind_of is_kind e xs) m
      ∙ ap (λ (b : Bool). nat_lt m (cond b 1 0 + count_by is_kind (map kind_of xs))) (e x)
      ∙ ap (nat_lt m) (sym (sum_by-cons (λ k. cond (is_kind k) 1 0) (kind_of x) (map kind_of xs)))

-- ## Operands of an item

-- the kinds of an item's operands are those of its row
some_inside : (o : Option (List Part)) (f : List Part → List Part) (ps : List Part) → option_map f o ≡ Some ps → (qs : List Part) × ((o ≡ Some qs) × (f qs ≡ ps))
some_inside None f ps h = cc
some_inside (Some qs) f ps h = (qs, (refl, cc))

some_if : (b : Bool) (o : Option (List Part)) (ps : List Part) → (if b then o else None) ≡ Some ps → o ≡ Some ps
some_if true o ps h = h
some_if false o ps h = cc

pub kinds_of_parts : (at : ℕ) (ks : List Kind) (ws : List ℕ) (ps : List Part) → parts_from at ks ws ≡ Some ps → map (λ p. p.kind) ps ≡ ks
kinds_of_parts at [] [] ps h = let e : [] ≡ ps = cc in ap (map (λ (p : Part). p.kind)) (sym e)
kinds_of_parts at [] (w ∷ ws) ps h = cc
kinds_of_parts at (k ∷ ks) [] ps h = cc
kinds_of_parts at (k ∷ ks) (w ∷ ws) ps h =
    let here : Part = record { kind = k; at = at; word = w; more = take (more_of k w) ws } in
    let o = parts_from (at + 1 + more_of k w) ks (drop (more_of k w) ws) in
    let found = some_inside o (λ qs. here ∷ qs) ps (some_if (nat_le (more_of k w) (length ws)) (option_map (λ qs. here ∷ qs) o) ps h) in
    ap (map (λ (p : Part). p.kind)) (sym found.1.1) ∙ ap (λ z. k ∷ z) (kinds_of_parts (at + 1 + more_of k w) ks (drop (more_of k w) ws) found.0 found.1.0)

is_target : (k : Kind) (p : Part) → is_some (target_in k p) ≡ is_destination_kind k
is_target Destination p = refl
is_target Source p = refl
is_target SlotWord p = refl

is_operand : (k : Kind) (p : Part) → is_some (operand_in k p) ≡ is_source_kind k
is_operand Destination p = refl
is_operand Source p = refl
is_operand SlotWord p = refl

is_slot : (k : Kind) (p : Part) → is_some (slot_use_in k p) ≡ is_slot_kind k
is_slot Destination p = refl
is_slot Source p = refl
is_slot SlotWord p = refl

four_sources : (xs : List Operand) (n : ℕ) → ((m : ℕ) → is_some (nth xs m) ≡ nat_lt m n) → (k : ℕ) → k < 4
    → is_some (slice_index_or (nth xs 0 ∷ nth xs 1 ∷ nth xs 2 ∷ nth xs 3 ∷ []) k None) ≡ nat_lt k n
four_sources xs n h zero l = h 0
four_sources xs n h (suc zero) l = h 1
four_sources xs n h (suc (suc zero)) l = h 2
four_sources xs n h (suc (suc (suc zero))) l = h 3
four_sources xs n h (suc (suc (suc (suc k)))) l = absurd (omega arith)

-- an instruction has the operands that stand in its words
pub has_operands : (item : Item) (ps : List Part) → HasOperands (map (λ p. p.kind) ps) (instr_of item ps)
has_operands item ps = record {
  first = nth_counts (λ p. target_in p.kind p) (λ p. p.kind) is_destination_kind (λ p. is_target p.kind p) ps 0;
  second = nth_counts (λ p. target_in p.kind p) (λ p. p.kind) is_destination_kind (λ p. is_target p.kind p) ps 1;
  slot = nth_counts (λ p. slot_use_in p.kind p) (λ p. p.kind) is_slot_kind (λ p. is_slot p.kind p) ps 0;
  four = refl;
  sources = four_sources (sources ps) (count_by is_source_kind (map (λ p. p.kind) ps)) (nth_counts (λ p. operand_in p.kind p) (λ p. p.kind) is_source_kind (λ p. is_operand p.kind p) ps);
}

-- ## Statements

module _ (ds : List Declared) (n : ℕ) (a : Access) where
  target_there : (k : Kind) (p : Part) → KindFits ds n a k p → MaybeFits (TargetFits ds n) (target_in k p)
  target_there Destination p h = h
  target_there Source p h = tt
  target_there SlotWord p h = tt

  operand_there : (k : Kind) (p : Part) → KindFits ds n a k p → MaybeFits (OperandFits ds n) (operand_in k p)
  operand_there Destination p h = tt
  operand_there Source p h = h
  operand_there SlotWord p h = tt

  slot_there : (k : Kind) (p : Part) → KindFits ds n a k p → MaybeFits (SlotFits ds n a) (slot_use_in k p)
  slot_there Destination p h = tt
  slot_there Source p h = tt
  slot_there SlotWord p h = h

  module _ {B : Type 0} (f : Part → Option B) (P : B → Type 0) (there : (p : Part) → KindFits ds n a p.kind p → MaybeFits P (f p)) where
    each_there : (ps : List Part) → PartsFit ds n a ps → EachFits f P ps
    each_there [] h = tt
    each_there (p ∷ ps) h = (there p h.0, each_there ps h.1)

    all_there : (ps : List Part) → PartsFit ds n a ps → (m : ℕ) → MaybeFits P (nth (filter_map f ps) m)
    all_there ps h m = nth_fits f P ps (each_there ps h) m

  source_there : (ps : List Part) → PartsFit ds n a ps → (m : ℕ) → MaybeFits (OperandFits ds n) (nth (sources ps) m)
  source_there ps h m = all_there (λ p. operand_in p.kind p) (OperandFits ds n) (λ p. operand_there p.kind p) ps h m

four_fit : (ds : List Declared) (n : ℕ) (xs : List Operand) → ((m : ℕ) → MaybeFits (OperandFits ds n) (nth xs m)) → (k : ℕ)
    → MaybeFits (OperandFits ds n) (slice_index_or (nth xs 0 ∷ nth xs 1 ∷ nth xs 2 ∷ nth xs 3 ∷ []) k None)
four_fit ds n xs h zero = h 0
four_fit ds n xs h (suc zero) = h 1
four_fit ds n xs h (suc (suc zero)) = h 2
four_fit ds n xs h (suc (suc (suc zero))) = h 3
four_fit ds n xs h (suc (suc (suc (suc k)))) = tt

-- an instruction whose operands fit
pub instr_fits : (ds : List Declared) (n : ℕ) (item : Item) (r : Row) (ps : List Part) → row_of (opcode item) ≡ Some r → takes_extra (opcode item) (extra_in item.first) ≡ true
    → map (λ p. p.kind) ps ≡ kinds r.layout → PartsFit ds n r.access ps → InstrFits ds n (instr_of item ps)
instr_fits ds n item r ps is_row extra kinds fit = record {
  row = r;
  is_row = is_row;
  extra = extra;
  operands = subst (λ (ks : List Kind). HasOperands ks (instr_of item ps)) kinds (has_operands item ps);
  first = all_there ds n r.access (λ p. target_in p.kind p) (TargetFits ds n) (λ p. target_there ds n r.access p.kind p) ps fit 0;
  second = all_there ds n r.access (λ p. target_in p.kind p) (TargetFits ds n) (λ p. target_there ds n r.access p.kind p) ps fit 1;
  slot = all_there ds n r.access (λ p. slot_use_in p.kind p) (SlotFits ds n r.access) (λ p. slot_there ds n r.access p.kind p) ps fit 0;
  sources = four_fit ds n (sources ps) (source_there ds n r.access ps fit);
}

test_fits : (ds : List Declared) (n : ℕ) (b : Bool) (x : Option Operand) → MaybeFits (OperandFits ds n) x → MaybeFits (TestFits ds n) (option_map (λ o. record { value = o; nonzero = b }) x)
test_fits ds n b None h = tt
test_fits ds n b (Some o) h = h

branch_fits : (ds : List Declared) (n : ℕ) (t : Option Test) → MaybeFits (TestFits ds n) t → MaybeFits (StatementFits ds n) (branching t)
branch_fits ds n None h = tt
branch_fits ds n (Some t) h = h

-- what an item's role makes of its operands fits
pub named_fits : (ds : List Declared) (n : ℕ) (o : Role) (item : Item) (ps : List Part) → InstrFits ds n (instr_of item ps) → ((b : Bool) → MaybeFits (TestFits ds n) (test_of b ps))
    → MaybeFits (StatementFits ds n) (statement_by o item ps)
named_fits ds n role.Plain item ps i t = i
named_fits ds n (role.If b) item ps i t = branch_fits ds n (test_of b ps) (t b)
named_fits ds n role.Else item ps i t = tt
named_fits ds n role.Endif item ps i t = tt
named_fits ds n role.Loop item ps i t = tt
named_fits ds n role.Endloop item ps i t = tt
named_fits ds n (role.Break None) item ps i t = tt
named_fits ds n (role.Break (Some b)) item ps i t = t b
named_fits ds n (role.Continue None) item ps i t = tt
named_fits ds n (role.Continue (Some b)) item ps i t = t b
named_fits ds n (role.Return None) item ps i t = tt
named_fits ds n (role.Return (Some b)) item ps i t = t b

maybe_fits : (ds : List Declared) (n : ℕ) (s : Statement) (o : Option Statement) → o ≡ Some s → MaybeFits (StatementFits ds n) o → StatementFits ds n s
maybe_fits ds n s None e h = cc
maybe_fits ds n s (Some t) e h = let same : t ≡ s = cc in let P : Statement → Type 0 = StatementFits ds n in subst P same h

-- the statement of an item fits, where no rule of its operands and its extra is broken
from_row : (said : Said) (item : Item) (row : Option Row) (parts : Option (List Part)) (s : Statement) → row_of (opcode item) ≡ row → parts_by item row ≡ parts
    → statement_from item row parts ≡ Some s → takes_extra (opcode item) (extra_in item.first) ≡ true → first_broken (parts_rules said row parts) ≡ None
    → StatementFits said.declared (temps_of said) s
from_row said item None parts s er ep es extra h = cc
from_row said item (Some r) None s er ep es extra h = cc
from_row said item (Some r) (Some ps) s er ep es extra h =
    let ds = said.declared in
    let n = temps_of said in
    let fit = parts_fit said r.access ps h in
    let i = instr_fits ds n item r ps er extra (kinds_of_parts (item.at + 1) (kinds r.layout) item.more ps ep) fit in
    maybe_fits ds n s (statement_by r.role item ps) es (named_fits ds n r.role item ps i (λ b. test_fits ds n b (nth (sources ps) 0) (source_there ds n r.access ps fit 0)))

-- an instruction without a fault fits what the earlier items declare
pub statement_fits : (said : Said) (item : Item) (s : Statement) → is_declaration item ≡ false → item_fault said item ≡ None → statement_of item ≡ Some s
    → StatementFits said.declared (temps_of said) s
statement_fits said item s d h e =
    let rules = first_word_rules said item in
    let more : List Rule = if is_declaration item then declaration_rules said item else instruction_rules said item in
    let takes = takes_extra (opcode item) (extra_in item.first) in
    let both = kept_both rules more h in
    let extra : takes ≡ true = not_false takes (kept_first (rule (not takes) item.at kind.Operand) [] (kept_later 6 rules both.0)) in
    let mine : first_broken (instruction_rules said item) ≡ None =
    ap (λ (b : Bool). first_broken (if b then declaration_rules said item else instruction_rules said item)) (sym d) ∙ both.1 in
    from_row said item (row_of (opcode item)) (parts_of item) s refl refl e extra (kept_later 1 (instruction_rules said item) mine)
