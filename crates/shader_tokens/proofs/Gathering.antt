-- The operands of an instruction, gathered one by one, are those in its words.
use Rattle.std.proofs.Common.{◌≡◌, ◌<◌, ◌≤◌, ◌≢◌, ℕ, ◌+◌, Bool, true, false, nat_le, if◌then◌else◌, List, [], ◌∷◌, ◌++◌, length, take, drop, get_or, Option, Some, None, is_some, option_map, unwrap_or, refl, ap, sym, ◌∙◌, arith, add-one, append_assoc}
use Rattle.std.proofs.lemmas.List.{append-nil}
use Rattle.std.proofs.lemmas.Bool.Decides.{nat_tests}
use Rattle.std.proofs.Math.Seq.{drop-cons}
use Rattle.std.specs.List.{cons_option}
use Rattle.shader_model.specs.declared.opcode.Kind.{Kind}
use Rattle.shader_model.specs.declared.opcode.Kind.TheVariants.{Destination, Source, SlotWord}
use Rattle.shader_model.specs.declared.tree.Target.{Target}
use Rattle.shader_model.specs.declared.tree.Operand.{Operand}
use Rattle.shader_model.specs.declared.tree.SlotUse.{SlotUse}
use Rattle.shader_model.specs.declared.tree.Instr.{Instr}
use Rattle.shader_model.specs.declared.tree.Test.{Test}
use Rattle.shader_model.specs.declared.opcode.Role.{Role}
use Rattle.shader_model.specs.declared.opcode.Role.TheVariants as role
use Rattle.shader_model.specs.declared.opcode.Row.{Row}
use Rattle.shader_model.specs.declared.statement.Statement.{Statement}
use Rattle.shader_model.specs.declared.statement.Statement.TheVariants as word
use Rattle.shader_model.specs.Opcodes.{kinds, row_of}
use Rattle.shader_model.specs.Words.{extra_in}
use Rattle.shader_model.specs.Items.{Item, Part, opcode, more_of, parts_from, parts_by}
use Rattle.shader_model.specs.Fields.{target_of, operand_of, slot_use_of, target_in, operand_in, slot_use_in, targets, sources, slot_uses, nth, instr_of, statement_by, statement_from, statement_of}
use Rattle.shader_tokens.specs.declared.gather.Gathered.{Gathered}
use Rattle.shader_tokens.specs.Decoding.{walks, first_part, parts_at, nothing, and_target, and_source, and_slot, and_kind, gathered}
use Rattle.shader_tokens.proofs.Walking.{walks-some}

-- ## One operand more

-- words that are operands of a first kind and of others: the first operand, and the words behind it
if-true : {A : Type 0} (b : Bool) (x : A) (r : Bool) → (if b then r else false) ≡ true → (b ≡ true) × (r ≡ true)
if-true true x r h = (refl, h)
if-true false x r h = cc

walk-cons : (k : Kind) (ks : List Kind) (ws : List ℕ) → walks (k ∷ ks) ws ≡ true → walks ks (drop (more_of k (get_or ws 0 0)) (drop 1 ws)) ≡ true
walk-cons k ks [] h = cc
walk-cons k ks (w ∷ ws) h = (if-true (nat_le (more_of k w) (length ws)) w (walks ks (drop (more_of k w) ws)) h).1

is-known : (o : Option (List Part)) (b : Bool) (f : List Part → List Part) → b ≡ true → (r : Bool) → unwrap_or (if b then option_map f o else None) [] ≡ unwrap_or (option_map f o) []
is-known o b f e r = ap (λ (z : Bool). unwrap_or (if z then option_map f o else None) []) e

some-then : (o : Option (List Part)) (p : Part) → o ≢ None → unwrap_or (option_map (λ ps. p ∷ ps) o) [] ≡ p ∷ unwrap_or o []
some-then None p h = absurd (h refl)
some-then (Some ps) p h = refl

-- words that are operands of these kinds are some
parts-known : (at : ℕ) (ks : List Kind) (ws : List ℕ) → walks ks ws ≡ true → parts_from at ks ws ≢ None
parts-known at ks ws h e = let f : true ≡ false = sym h ∙ sym (walks-some at ks ws) ∙ ap is_some e in cc

parts-cons : (at : ℕ) (k : Kind) (ks : List Kind) (ws : List ℕ) → walks (k ∷ ks) ws ≡ true
    → parts_at at (k ∷ ks) ws ≡ first_part k at ws ∷ parts_at (at + 1 + more_of k (get_or ws 0 0)) ks (drop (more_of k (get_or ws 0 0)) (drop 1 ws))
parts-cons at k ks [] h = cc
parts-cons at k ks (w ∷ ws) h =
    let m = more_of k w in
    let p : Part = record { kind = k; at = at; word = w; more = take m ws } in
    let o = parts_from (at + 1 + m) ks (drop m ws) in
    let both = if-true (nat_le m (length ws)) w (walks ks (drop m ws)) h in
    is-known o (nat_le m (length ws)) (λ ps. p ∷ ps) both.0 true ∙ some-then o p (parts-known (at + 1 + m) ks (drop m ws) both.1)

pub kinds-cons : (ks : List Kind) (i : ℕ) (d : Kind) → i < length ks → drop i ks ≡ get_or ks i d ∷ drop (i + 1) ks
kinds-cons ks i d h = drop-cons ks i d h ∙ ap (λ z. get_or ks i d ∷ drop z ks) (sym (add-one i))

le-test : (a b : ℕ) → a ≤ b → nat_le a b ≡ true
le-test a b h = grind (arith, nat_tests)

walk-one : (k : Kind) (ks : List Kind) (ws : List ℕ) → 0 < length ws → more_of k (get_or ws 0 0) ≤ length (drop 1 ws) → walks (k ∷ ks) ws ≡ walks ks (drop (more_of k (get_or ws 0 0)) (drop 1 ws))
walk-one k ks [] h fits = absurd (omega arith)
walk-one k ks (w ∷ ws) h fits = let e : nat_le (more_of k w) (length ws) ≡ true = le-test (more_of k w) (length ws) fits in ap (λ (b : Bool). if b then walks ks (drop (more_of k w) ws) else false) e

-- the words behind the first operand, where they have room for it
pub walk-on : (ks : List Kind) (i : ℕ) (d : Kind) (ws : List ℕ) → i < length ks → 0 < length ws → more_of (get_or ks i d) (get_or ws 0 0) ≤ length (drop 1 ws)
    → walks (drop i ks) ws ≡ walks (drop (i + 1) ks) (drop (more_of (get_or ks i d) (get_or ws 0 0)) (drop 1 ws))
walk-on ks i d ws h some fits = ap (λ z. walks z ws) (kinds-cons ks i d h) ∙ walk-one (get_or ks i d) (drop (i + 1) ks) ws some fits

pub walk-next : (ks : List Kind) (i : ℕ) (d : Kind) (ws : List ℕ) → i < length ks → walks (drop i ks) ws ≡ true
    → walks (drop (i + 1) ks) (drop (more_of (get_or ks i d) (get_or ws 0 0)) (drop 1 ws)) ≡ true
walk-next ks i d ws h w = walk-cons (get_or ks i d) (drop (i + 1) ks) ws (sym (ap (λ z. walks z ws) (kinds-cons ks i d h)) ∙ w)

pub parts-next : (at : ℕ) (ks : List Kind) (i : ℕ) (d : Kind) (ws : List ℕ) → i < length ks → walks (drop i ks) ws ≡ true
    → parts_at at (drop i ks) ws ≡ first_part (get_or ks i d) at ws ∷ parts_at (at + 1 + more_of (get_or ks i d) (get_or ws 0 0)) (drop (i + 1) ks) (drop (more_of (get_or ks i d) (get_or ws 0 0)) (drop 1 ws))
parts-next at ks i d ws h w =
    ap (λ z. parts_at at z ws) (kinds-cons ks i d h) ∙ parts-cons at (get_or ks i d) (drop (i + 1) ks) ws (sym (ap (λ z. walks z ws) (kinds-cons ks i d h)) ∙ w)

pub fits-next : (ks : List Kind) (i : ℕ) (d : Kind) (first ws next rest : List ℕ) (w m : ℕ) → i < length ks → 0 < length ws → w ≡ get_or ws 0 0 → m ≡ more_of (get_or ks i d) w → next ≡ drop 1 ws → m ≤ length next → rest ≡ drop m next
    → walks ks first ≡ walks (drop i ks) ws → walks ks first ≡ walks (drop (i + 1) ks) rest
fits-next ks i d first ws next rest w m h some ew em en room er before =
    let e : m ≡ more_of (get_or ks i d) (get_or ws 0 0) = em ∙ ap (more_of (get_or ks i d)) ew in
    let rests : drop (more_of (get_or ks i d) (get_or ws 0 0)) (drop 1 ws) ≡ rest = sym (er ∙ ap (drop m) en ∙ ap (λ z. drop z (drop 1 ws)) e) in
    let fits : more_of (get_or ks i d) (get_or ws 0 0) ≤ length (drop 1 ws) = omega (arith, e, ap length en, room) in
    before ∙ walk-on ks i d ws h some fits ∙ ap (walks (drop (i + 1) ks)) rests

-- ## Where the operands stand does not matter

and-kind-at : (k : Kind) (a b w : ℕ) (more : List ℕ) (g : Gathered) → and_kind k (record { kind = k; at = a; word = w; more = more }) g ≡ and_kind k (record { kind = k; at = b; word = w; more = more }) g
and-kind-at Destination a b w more g = refl
and-kind-at Source a b w more g = refl
and-kind-at SlotWord a b w more g = refl

gathered-if : (x y : Bool) (p q : Part) (o r : Option (List Part)) (g : Gathered) → x ≡ y → and_kind p.kind p g ≡ and_kind q.kind q g → ((h : Gathered) → gathered h (unwrap_or o []) ≡ gathered h (unwrap_or r []))
    → (is_some o ≡ is_some r) → gathered g (unwrap_or (if x then option_map (λ ps. p ∷ ps) o else None) []) ≡ gathered g (unwrap_or (if y then option_map (λ ps. q ∷ ps) r else None) [])
gathered-if true true p q (Some ps) (Some qs) g e k rest s = ap (λ z. gathered z ps) k ∙ rest (and_kind q.kind q g)
gathered-if true true p q None None g e k rest s = refl
gathered-if true true p q (Some ps) None g e k rest s = cc
gathered-if true true p q None (Some qs) g e k rest s = cc
gathered-if false false p q o r g e k rest s = refl
gathered-if true false p q o r g e k rest s = cc
gathered-if false true p q o r g e k rest s = cc

pub gathered-at : (a b : ℕ) (ks : List Kind) (ws : List ℕ) (g : Gathered) → gathered g (parts_at a ks ws) ≡ gathered g (parts_at b ks ws)
gathered-at a b [] [] g = refl
gathered-at a b [] (w ∷ ws) g = refl
gathered-at a b (k ∷ ks) [] g = refl
gathered-at a b (k ∷ ks) (w ∷ ws) g =
    let m = more_of k w in
    gathered-if (nat_le m (length ws)) (nat_le m (length ws)) (record { kind = k; at = a; word = w; more = take m ws }) (record { kind = k; at = b; word = w; more = take m ws })
    (parts_from (a + 1 + m) ks (drop m ws)) (parts_from (b + 1 + m) ks (drop m ws)) g refl (and-kind-at k a b w (take m ws) g)
    (λ h. gathered-at (a + 1 + m) (b + 1 + m) ks (drop m ws) h) (walks-some (a + 1 + m) ks (drop m ws) ∙ sym (walks-some (b + 1 + m) ks (drop m ws)))

-- one more operand is gathered
pub gather-next : (ks : List Kind) (i : ℕ) (d : Kind) (ws : List ℕ) (g : Gathered) → i < length ks → walks (drop i ks) ws ≡ true
    → gathered (and_kind (get_or ks i d) (first_part (get_or ks i d) 0 ws) g) (parts_at 0 (drop (i + 1) ks) (drop (more_of (get_or ks i d) (get_or ws 0 0)) (drop 1 ws))) ≡ gathered g (parts_at 0 (drop i ks) ws)
gather-next ks i d ws g h w =
    let k = get_or ks i d in
    let m = more_of k (get_or ws 0 0) in
    gathered-at 0 (0 + 1 + m) (drop (i + 1) ks) (drop m (drop 1 ws)) (and_kind k (first_part k 0 ws) g)
    ∙ sym (ap (gathered g) (parts-next 0 ks i d ws h w))

pub gathers-next : (ks : List Kind) (i : ℕ) (d : Kind) (ws next rest : List ℕ) (m : ℕ) (g h all : Gathered) → i < length ks → m ≡ more_of (get_or ks i d) (get_or ws 0 0) → next ≡ drop 1 ws → rest ≡ drop m next
    → h ≡ and_kind (get_or ks i d) (first_part (get_or ks i d) 0 ws) g → (walks (drop i ks) ws ≡ true) × (gathered g (parts_at 0 (drop i ks) ws) ≡ all)
    → (walks (drop (i + 1) ks) rest ≡ true) × (gathered h (parts_at 0 (drop (i + 1) ks) rest) ≡ all)
gathers-next ks i d ws next rest m g h all lt em en er added before =
    let k = get_or ks i d in
    let rests : rest ≡ drop (more_of k (get_or ws 0 0)) (drop 1 ws) = er ∙ ap (drop m) en ∙ ap (λ z. drop z (drop 1 ws)) em in (
      ap (walks (drop (i + 1) ks)) rests ∙ walk-next ks i d ws lt before.0,
      ap (λ z. gathered z (parts_at 0 (drop (i + 1) ks) rest)) added ∙ ap (λ z. gathered (and_kind k (first_part k 0 ws) g) (parts_at 0 (drop (i + 1) ks) z)) rests
          ∙ gather-next ks i d ws g lt before.0 ∙ before.1,
    )

-- words that are operands of these kinds are those operands
known-some : (o : Option (List Part)) → (o ≡ None → ⊥) → o ≡ Some (unwrap_or o [])
known-some None h = absurd (h refl)
known-some (Some ps) h = refl

pub parts-some : (at : ℕ) (ks : List Kind) (ws : List ℕ) → walks ks ws ≡ true → parts_from at ks ws ≡ Some (parts_at at ks ws)
parts-some at ks ws h = known-some (parts_from at ks ws) (parts-known at ks ws h)

-- ## What is gathered

-- how many sources there is room for, at most four
room : List Operand → ℕ
room [] = 0
room (a ∷ []) = 1
room (a ∷ b ∷ []) = 2
room (a ∷ b ∷ c ∷ []) = 3
room (a ∷ b ∷ c ∷ d ∷ rest) = 4

-- the operands in these lists
listed : List Target → List SlotUse → List Operand → Gathered
listed ts us ss = record { first = nth ts 0; second = nth ts 1; slot = nth us 0; sources = nth ss 0 ∷ nth ss 1 ∷ nth ss 2 ∷ nth ss 3 ∷ []; count = room ss }

one : {A : Type 0} → Option A → List A
one o = cons_option o []

and-target : (t : Target) (ts : List Target) (us : List SlotUse) (ss : List Operand) → and_target t (listed ts us ss) ≡ listed (ts ++ t ∷ []) us ss
unfolding listed
and-target t [] us ss = refl
and-target t (a ∷ []) us ss = refl
and-target t (a ∷ b ∷ ts) us ss = refl

and-slot : (u : SlotUse) (ts : List Target) (us : List SlotUse) (ss : List Operand) → and_slot u (listed ts us ss) ≡ listed ts (us ++ u ∷ []) ss
unfolding listed
and-slot u ts [] ss = refl
and-slot u ts (a ∷ us) ss = refl

and-source : (o : Operand) (ts : List Target) (us : List SlotUse) (ss : List Operand) → and_source o (listed ts us ss) ≡ listed ts us (ss ++ o ∷ [])
unfolding listed room
and-source o ts us [] = refl
and-source o ts us (a ∷ []) = refl
and-source o ts us (a ∷ b ∷ []) = refl
and-source o ts us (a ∷ b ∷ c ∷ []) = refl
and-source o ts us (a ∷ b ∷ c ∷ d ∷ rest) = refl

and-kind : (k : Kind) (p : Part) (ts : List Target) (us : List SlotUse) (ss : List Operand)
    → and_kind k p (listed ts us ss) ≡ listed (ts ++ one (target_in k p)) (us ++ one (slot_use_in k p)) (ss ++ one (operand_in k p))
unfolding one
and-kind Destination p ts us ss = and-target (target_of p.word) ts us ss ∙ ap (λ z. listed (ts ++ target_of p.word ∷ []) z ss) (sym (append-nil us)) ∙ ap (listed (ts ++ target_of p.word ∷ []) (us ++ [])) (sym (append-nil ss))
and-kind Source p ts us ss = and-source (operand_of p.word p.more) ts us ss ∙ ap (λ z. listed ts z (ss ++ operand_of p.word p.more ∷ [])) (sym (append-nil us)) ∙ ap (λ z. listed z (us ++ []) (ss ++ operand_of p.word p.more ∷ [])) (sym (append-nil ts))
and-kind SlotWord p ts us ss = and-slot (slot_use_of p.word) ts us ss ∙ ap (λ z. listed z (us ++ slot_use_of p.word ∷ []) ss) (sym (append-nil ts)) ∙ ap (listed (ts ++ []) (us ++ slot_use_of p.word ∷ [])) (sym (append-nil ss))

one-then : {A : Type 0} (o : Option A) (xs : List A) → one o ++ xs ≡ cons_option o xs
unfolding one
one-then None xs = refl
one-then (Some x) xs = refl

more-then : {A : Type 0} (xs : List A) (o : Option A) (ys : List A) → (xs ++ one o) ++ ys ≡ xs ++ cons_option o ys
more-then xs o ys = append_assoc xs (one o) ys ∙ ap (λ z. xs ++ z) (one-then o ys)

all-listed : (ps : List Part) (ts : List Target) (us : List SlotUse) (ss : List Operand) → gathered (listed ts us ss) ps ≡ listed (ts ++ targets ps) (us ++ slot_uses ps) (ss ++ sources ps)
all-listed [] ts us ss =
    sym (ap (λ z. listed z (us ++ []) (ss ++ [])) (append-nil ts) ∙ ap (λ z. listed ts z (ss ++ [])) (append-nil us) ∙ ap (listed ts us) (append-nil ss))
all-listed (p ∷ ps) ts us ss =
    let t = target_in p.kind p in
    let u = slot_use_in p.kind p in
    let o = operand_in p.kind p in
    ap (λ z. gathered z ps) (and-kind p.kind p ts us ss) ∙ all-listed ps (ts ++ one t) (us ++ one u) (ss ++ one o)
    ∙ ap (λ z. listed z ((us ++ one u) ++ slot_uses ps) ((ss ++ one o) ++ sources ps)) (more-then ts t (targets ps))
    ∙ ap (λ z. listed (ts ++ targets (p ∷ ps)) z ((ss ++ one o) ++ sources ps)) (more-then us u (slot_uses ps))
    ∙ ap (listed (ts ++ targets (p ∷ ps)) (us ++ slot_uses (p ∷ ps))) (more-then ss o (sources ps))

gathered-are : (ps : List Part) → gathered nothing ps ≡ listed (targets ps) (slot_uses ps) (sources ps)
unfolding listed room
gathered-are ps = all-listed ps [] [] []

-- an instruction with what was gathered
pub instr-is : (item : Item) (g : Gathered) (ps : List Part) → g ≡ gathered nothing ps
    → record { opcode = opcode item; extra = extra_in item.first; first = g.first; second = g.second; slot = g.slot; sources = g.sources } ≡ instr_of item ps
unfolding listed
instr-is item g ps e =
    let here = λ (z : Gathered). let i : Instr = record { opcode = opcode item; extra = extra_in item.first; first = z.first; second = z.second; slot = z.slot; sources = z.sources } in i in
    ap here (e ∙ gathered-are ps)

-- the first source of what was gathered
pub source-is : (g : Gathered) (ps : List Part) → g ≡ gathered nothing ps → get_or g.sources 0 None ≡ nth (sources ps) 0
unfolding listed
source-is g ps e = ap (λ (z : Gathered). get_or z.sources 0 None) (e ∙ gathered-are ps)

some-test : (o : Option Operand) (v : Operand) (b : Bool) → o ≡ Some v → option_map (λ x. let t : Test = record { value = x; nonzero = b } in t) o ≡ Some (record { value = v; nonzero = b })
some-test o v b e = ap (option_map (λ x. let t : Test = record { value = x; nonzero = b } in t)) e

-- the statement of an if, with its source and without one
pub if-some : (r : Role) (b : Bool) (item : Item) (g : Gathered) (ps : List Part) (v : Operand) → r ≡ role.If b → g ≡ gathered nothing ps → get_or g.sources 0 None ≡ Some v
    → Some (word.If (record { value = v; nonzero = b })) ≡ statement_by r item ps
if-some r b item g ps v is e here =
    sym (ap (λ z. statement_by z item ps) is ∙ ap (λ z. option_map (λ x. word.If x) (option_map (λ x. let t : Test = record { value = x; nonzero = b } in t) z)) (sym (source-is g ps e) ∙ here))

pub if-none : (r : Role) (b : Bool) (item : Item) (g : Gathered) (ps : List Part) → r ≡ role.If b → g ≡ gathered nothing ps → get_or g.sources 0 None ≡ None
    → None ≡ statement_by r item ps
if-none r b item g ps is e here =
    sym (ap (λ z. statement_by z item ps) is ∙ ap (λ z. option_map (λ x. word.If x) (option_map (λ x. let t : Test = record { value = x; nonzero = b } in t) z)) (sym (source-is g ps e) ∙ here))

-- the statement of an item whose words are its operands
pub statement-is : (item : Item) (r : Row) (g : Gathered) (o : Option Statement) → row_of (opcode item) ≡ Some r → walks (kinds r.layout) item.more ≡ true → g ≡ gathered nothing (parts_at 0 (kinds r.layout) item.more)
    → ((ps : List Part) → g ≡ gathered nothing ps → o ≡ statement_by r.role item ps) → o ≡ statement_of item
statement-is item r g o is h e makes =
    let ks = kinds r.layout in
    let ps = parts_at (item.at + 1) ks item.more in
    makes ps (e ∙ gathered-at 0 (item.at + 1) ks item.more nothing)
    ∙ sym (ap (λ (z : Option Row). statement_from item z (parts_by item z)) is ∙ ap (statement_from item (Some r)) (parts-some (item.at + 1) ks item.more h))
