-- The shader of all items.
use Rattle.std.proofs.Common.{◌≡◌, ◌==◌, ◌≤◌, ◌/◌, ◌%◌, ◌<◌, ◌-◌, ℕ, zero, suc, Bool, true, false, not, ◌||◌, nat_lt, List, [], ◌∷◌, ◌++◌, map, reverse, length, take, get_or, Option, Some, None, if◌then◌else◌, unwrap_or, refl, ap, sym, ◌∙◌, arith}
use Rattle.std.proofs.lemmas.Bool.Decides.{nat_tests}
use Rattle.std.proofs.lemmas.Bool.{eq-eqb}
use Rattle.std.proofs.lemmas.List.{reverse-append}
use Rattle.shader_model.specs.declared.tree.Declared.{Declared}
use Rattle.shader_model.specs.declared.fault.ShaderFault.{ShaderFault}
use Rattle.shader_model.specs.declared.fault.ShaderKind.TheVariants as kind
use Rattle.shader_model.specs.Words.{count_in}
use Rattle.base_lemmas.specs.ByteWords.{words_of}
use Rattle.shader_model.specs.Body.{End, nodes_before, body_of}
use Rattle.shader_model.specs.Nesting.{Block, Whole, tree_of, whole}
use Rattle.shader_model.specs.Items.{items_of}
use Rattle.shader_model.specs.Fields.{declarations, temps_said, statements}
use Rattle.shader_model.specs.Faults.{first_broken, or_else, is_empty, fault_at, items_fault, bytes_rules, header_rules, first_bad_of_bytes}
use Rattle.shader_model.specs.Shader.{Program, Tree, program_of, program_with, program_unless, sizes_of, spelled_by, shader_of}
use Rattle.shader_model.specs.Good.{IsGood}
use Rattle.shader_model.proofs.Putting.{nodes_at_end}
use Rattle.shader_model.proofs.Goodness.{first_group, good_shader}
use Rattle.base_lemmas.proofs.ByteWords.{words_length}
use Rattle.shader_tokens.specs.declared.levels.Level.{Level}
use Rattle.shader_tokens.specs.declared.reader.Reader.{Reader}
use Rattle.shader_tokens.specs.Levels.{kind as block_kind, levels_around}
use Rattle.shader_tokens.specs.Decoding.{Reads, torn, header_fault_of}

or-some : (a b c : Option ShaderFault) (f : ShaderFault) → or_else a b ≡ Some f → or_else a (or_else b c) ≡ Some f
or-some None None c f h = cc
or-some None (Some g) c f h = h
or-some (Some g) b c f h = h

or-none : (a b c : Option ShaderFault) → or_else a b ≡ None → or_else a (or_else b c) ≡ c
or-none None None c h = refl
or-none None (Some g) c h = cc
or-none (Some g) b c h = cc

pub header-bad : (bytes : List ℕ) (f : ShaderFault) → header_fault_of bytes ≡ Some f → first_bad_of_bytes bytes ≡ Some f
unfolding header_fault_of
header-bad bytes f h = or-some (first_broken (bytes_rules bytes)) (first_broken (header_rules (words_of bytes))) (items_fault [] (items_of (words_of bytes))) f h

pub header-good : (bytes : List ℕ) → header_fault_of bytes ≡ None → first_bad_of_bytes bytes ≡ items_fault [] (items_of (words_of bytes))
unfolding header_fault_of
header-good bytes h = or-none (first_broken (bytes_rules bytes)) (first_broken (header_rules (words_of bytes))) (items_fault [] (items_of (words_of bytes))) h

-- ## The rules of the first two words, each by its test

abbrev tested : (a b c d e : Bool) → Option ShaderFault
tested a b c d e =
    or_else (if a then Some (fault_at 0 kind.TooLong) else if b then Some (fault_at 0 kind.Length) else None)
    (if c then Some (fault_at 0 kind.Length) else if d then Some (fault_at 1 kind.Length) else if e then Some (fault_at 2 kind.Group) else None)

short-if : (b d e : Bool) → tested false b true d e ≡ Some (fault_at 0 kind.Length)
short-if true d e = refl
short-if false d e = refl

longer : (q : ℕ) → 65536 < q → nat_lt 65536 q ≡ true
longer q h = grind (arith, nat_tests)

no-longer : (q : ℕ) → q ≤ 65536 → nat_lt 65536 q ≡ false
no-longer q h = grind (arith, nat_tests)

same-number : (a b : ℕ) → a ≡ b → not (a == b) ≡ false
same-number a b e = grind (arith, nat_tests)

other-number : (a b : ℕ) → (a ≡ b → ⊥) → not (a == b) ≡ true
other-number a b e = grind (arith, nat_tests)

not-equal : (a b : ℕ) → (a ≡ b → ⊥) → (a == b) ≡ false
not-equal a b e = grind (arith, nat_tests)

-- the tests of bytes
abbrev long : List ℕ → Bool
long bytes = nat_lt 65536 (length bytes / 4)

abbrev other : List ℕ → Bool
other ws = not (get_or ws 0 0 == 1)

abbrev uncounted : List ℕ → Bool
uncounted ws = not (get_or ws 1 0 == length ws)

pub header-long : (bytes : List ℕ) (n : ℕ) → n ≡ length (words_of bytes) → 65536 < n → Some (fault_at 0 kind.TooLong) ≡ header_fault_of bytes
unfolding header_fault_of
header-long bytes n en h =
    let ws = words_of bytes in
    let q : 65536 < length bytes / 4 = omega (arith, en, words_length bytes, h) in
    sym (ap (λ z. tested z (torn bytes) (other ws) (uncounted ws) (length ws == 2)) (longer (length bytes / 4) q))

few : (bytes : List ℕ) (n : ℕ) → n ≡ length (words_of bytes) → n ≤ 65536 → long bytes ≡ false
few bytes n en h = no-longer (length bytes / 4) (omega (arith, en, words_length bytes, h))

pub header-torn : (bytes : List ℕ) (n : ℕ) (b : Bool) → n ≡ length (words_of bytes) → n ≤ 65536 → b ≡ torn bytes → b ≡ true → Some (fault_at 0 kind.Length) ≡ header_fault_of bytes
unfolding header_fault_of
header-torn bytes n b en h eb t =
    let ws = words_of bytes in
    sym (ap (λ z. tested z (torn bytes) (other ws) (uncounted ws) (length ws == 2)) (few bytes n en h) ∙ ap (λ z. tested false z (other ws) (uncounted ws) (length ws == 2)) (sym eb ∙ t))

pub header-other : (bytes : List ℕ) (n w : ℕ) → n ≡ length (words_of bytes) → n ≤ 65536 → w ≡ get_or (words_of bytes) 0 0 → (w ≡ 1 → ⊥) → Some (fault_at 0 kind.Length) ≡ header_fault_of bytes
unfolding header_fault_of
header-other bytes n w en h ew other_ =
    let ws = words_of bytes in
    sym (ap (λ z. tested z (torn bytes) (other ws) (uncounted ws) (length ws == 2)) (few bytes n en h)
    ∙ ap (λ z. tested false (torn bytes) z (uncounted ws) (length ws == 2)) (other-number (get_or ws 0 0) 1 (λ e. other_ (ew ∙ e)))
    ∙ short-if (torn bytes) (uncounted ws) (length ws == 2))

good-two : (bytes : List ℕ) (n w : ℕ) (b : Bool) → n ≡ length (words_of bytes) → n ≤ 65536 → b ≡ torn bytes → b ≡ false → w ≡ get_or (words_of bytes) 0 0 → w ≡ 1
    → header_fault_of bytes ≡ tested false false false (uncounted (words_of bytes)) (length (words_of bytes) == 2)
unfolding header_fault_of
good-two bytes n w b en h m l ew one =
    let ws = words_of bytes in
    ap (λ z. tested z (torn bytes) (other ws) (uncounted ws) (length ws == 2)) (few bytes n en h)
    ∙ ap (λ z. tested false z (other ws) (uncounted ws) (length ws == 2)) (sym m ∙ l)
    ∙ ap (λ z. tested false false z (uncounted ws) (length ws == 2)) (same-number (get_or ws 0 0) 1 (sym ew ∙ one))

pub header-uncounted : (bytes : List ℕ) (n w v : ℕ) (b : Bool) → n ≡ length (words_of bytes) → n ≤ 65536 → b ≡ torn bytes → b ≡ false → w ≡ get_or (words_of bytes) 0 0 → w ≡ 1
    → v ≡ get_or (words_of bytes) 1 0 → (v ≡ n → ⊥) → Some (fault_at 1 kind.Length) ≡ header_fault_of bytes
header-uncounted bytes n w v b en h m l ew one ev other_ =
    let ws = words_of bytes in
    sym (good-two bytes n w b en h m l ew one ∙ ap (λ z. tested false false false z (length ws == 2)) (other-number (get_or ws 1 0) (length ws) (λ e. other_ (ev ∙ e ∙ sym en))))

pub header-two : (bytes : List ℕ) (n w v : ℕ) (b : Bool) → n ≡ length (words_of bytes) → n ≤ 65536 → b ≡ torn bytes → b ≡ false → w ≡ get_or (words_of bytes) 0 0 → w ≡ 1
    → v ≡ get_or (words_of bytes) 1 0 → v ≡ n → n ≡ 2 → Some (fault_at 2 kind.Group) ≡ header_fault_of bytes
header-two bytes n w v b en h m l ew one ev same two =
    let ws = words_of bytes in
    sym (good-two bytes n w b en h m l ew one ∙ ap (λ z. tested false false false z (length ws == 2)) (same-number (get_or ws 1 0) (length ws) (sym ev ∙ same ∙ en))
    ∙ ap (tested false false false false) (eq-eqb (length ws) 2 (sym en ∙ two)))

pub header-none : (bytes : List ℕ) (n w v : ℕ) (b : Bool) → n ≡ length (words_of bytes) → n ≤ 65536 → b ≡ torn bytes → b ≡ false → w ≡ get_or (words_of bytes) 0 0 → w ≡ 1
    → v ≡ get_or (words_of bytes) 1 0 → v ≡ n → (n ≡ 2 → ⊥) → None ≡ header_fault_of bytes
header-none bytes n w v b en h m l ew one ev same two =
    let ws = words_of bytes in
    sym (good-two bytes n w b en h m l ew one ∙ ap (λ z. tested false false false z (length ws == 2)) (same-number (get_or ws 1 0) (length ws) (sym ev ∙ same ∙ en))
    ∙ ap (tested false false false false) (not-equal (length ws) 2 (λ e. two (en ∙ e))))

-- where the first two words are good there are at most 65,536 words, and at least three
kept : (a b c d e : Bool) → tested a b c d e ≡ None → (a ≡ false) × (b ≡ false) × (e ≡ false)
kept true b c d e h = cc
kept false true c d e h = cc
kept false false true d e h = cc
kept false false false true e h = cc
kept false false false false true h = cc
kept false false false false false h = (refl, refl, refl)

not-longer : (q : ℕ) → nat_lt 65536 q ≡ false → q ≤ 65536
not-longer q h = grind (arith, nat_tests)

eight : (n : ℕ) → nat_lt n 8 ≡ false → 8 ≤ n
eight n h = grind (arith, nat_tests)

at-least : (m q : ℕ) → m ≡ q → 2 ≤ q → (m == 2) ≡ false → 3 ≤ m
at-least m q e h g = grind (arith, nat_tests)

three : (m n : ℕ) (b : Bool) → b || nat_lt n 8 ≡ false → m ≡ n / 4 → (m == 2) ≡ false → 3 ≤ m
three m n true h e g = cc
three m n false h e g = at-least m (n / 4) e (omega (arith, eight n h)) g

pub header-count : (bytes : List ℕ) → header_fault_of bytes ≡ None → (length (words_of bytes) ≤ 65536) × (3 ≤ length (words_of bytes))
unfolding header_fault_of
header-count bytes h =
    let ws = words_of bytes in
    let k = kept (long bytes) (torn bytes) (other ws) (uncounted ws) (length ws == 2) h in
    let q : length bytes / 4 ≤ 65536 = not-longer (length bytes / 4) k.0 in
    (omega (arith, words_length bytes, q), three (length ws) (length bytes) (not (length bytes % 4 == 0)) k.1 (words_length bytes) k.2)

-- ## The shader

take-three : (n : ℕ) (ws : List ℕ) → length (take n ws) ≡ 3 → take n ws ≡ get_or ws 0 0 ∷ get_or ws 1 0 ∷ get_or ws 2 0 ∷ []
take-three zero ws h = absurd (omega arith)
take-three (suc n) [] h = absurd (omega arith)
take-three (suc zero) (a ∷ ws) h = absurd (omega arith)
take-three (suc (suc n)) (a ∷ []) h = absurd (omega arith)
take-three (suc (suc zero)) (a ∷ b ∷ ws) h = absurd (omega arith)
take-three (suc (suc (suc n))) (a ∷ b ∷ []) h = absurd (omega arith)
take-three (suc (suc (suc zero))) (a ∷ b ∷ c ∷ ws) h = refl
take-three (suc (suc (suc (suc n)))) (a ∷ b ∷ c ∷ []) h = refl
take-three (suc (suc (suc (suc n)))) (a ∷ b ∷ c ∷ d ∷ ws) h = absurd (omega arith)

-- the group's size stands in words 3 to 5
sizes-at : (ws : List ℕ) → 3 ≤ length ws → length (sizes_of (items_of ws)) ≡ 3 → sizes_of (items_of ws) ≡ get_or ws 3 0 ∷ get_or ws 4 0 ∷ get_or ws 5 0 ∷ []
sizes-at [] l h = absurd (omega arith)
sizes-at (a ∷ []) l h = absurd (omega arith)
sizes-at (a ∷ b ∷ []) l h = absurd (omega arith)
sizes-at (a ∷ b ∷ c ∷ rest) l h = take-three (count_in c - 1) rest h

last-open : (bs : List Block) (b : Block) → is_empty (bs ++ b ∷ []) ≡ false
last-open [] b = refl
last-open (x ∷ xs) b = refl

some-open : (ls : List Level) → (ls ≡ [] → ⊥) → is_empty (reverse (map (λ (level : Level). block_kind level.block) ls)) ≡ false
some-open [] h = absurd (h refl)
some-open (l ∷ ls) h = ap is_empty (reverse-append (block_kind l.block ∷ []) (map (λ (level : Level). block_kind level.block) ls)) ∙ last-open (reverse (map (λ (level : Level). block_kind level.block) ls)) (block_kind l.block)

-- a block is left open
pub left-open : (bytes : List ℕ) (r : Reader) → header_fault_of bytes ≡ None → Reads (items_of (words_of bytes)) r → (r.levels.levels.items ≡ [] → ⊥) → first_bad_of_bytes bytes ≡ Some (fault_at 1 kind.Nesting)
left-open bytes r h read some =
    header-good bytes h ∙ read.fault ∙ ap (λ (b : Bool). if b then None else Some (fault_at 1 kind.Nesting)) (some-open r.levels.levels.items some)

-- no block is left open
pub finished : (bytes : List ℕ) (r : Reader) (x y z n : ℕ) → header_fault_of bytes ≡ None → Reads (items_of (words_of bytes)) r → r.levels.levels.items ≡ [] → x ≡ get_or (words_of bytes) 3 0 → y ≡ get_or (words_of bytes) 4 0 → z ≡ get_or (words_of bytes) 5 0 → n ≡ unwrap_or r.temps 0
    → shader_of bytes ≡ Some (program_of (record { group = x ∷ y ∷ z ∷ []; temps = n; declared = r.declared.items; nodes = r.levels.nodes.items }))
finished bytes r x y z n h read none ex ey ez en =
    let ws = words_of bytes in
    let items = items_of ws in
    let fine : items_fault [] items ≡ None = read.fault ∙ ap (λ (ls : List Level). if is_empty (reverse (map (λ (level : Level). block_kind level.block) ls)) then None else Some (fault_at 1 kind.Nesting)) none in
    let nothing_bad : first_bad_of_bytes bytes ≡ None = header-good bytes h ∙ fine in
    let count = header-count bytes h in
    let group : sizes_of items ≡ x ∷ y ∷ z ∷ [] = sizes-at ws count.1 (first_group ws count.1 fine).1 ∙ sym (ap (λ q. q ∷ y ∷ z ∷ []) ex ∙ ap (λ q. get_or ws 3 0 ∷ q ∷ z ∷ []) ey ∙ ap (λ q. get_or ws 3 0 ∷ get_or ws 4 0 ∷ q ∷ []) ez) in
    let temps : unwrap_or (temps_said items) 0 ≡ n = sym (en ∙ ap (λ q. unwrap_or q 0) read.temps) in
    let tree : tree_of (statements items) ≡ Some (body_of r.levels.nodes.items) =
    ap whole (sym read.spells) ∙ ap (λ (ls : List Level). whole (levels_around ls (Whole (nodes_before r.levels.nodes.items End)))) none ∙ ap (λ q. Some q) (nodes_at_end r.levels.nodes.items) in
    let make : List ℕ → ℕ → List Declared → Option Program = λ g t d. let p : Program = record { group = g; temps = t; declared = d; body = body_of r.levels.nodes.items } in Some p in
    ap (λ q. program_unless q (spelled_by ws)) nothing_bad ∙ ap (program_with items) tree
    ∙ ap (λ q. make q (unwrap_or (temps_said items) 0) (declarations items)) group ∙ ap (λ q. make (x ∷ y ∷ z ∷ []) q (declarations items)) temps ∙ ap (make (x ∷ y ∷ z ∷ []) n) (sym read.declared)

pub finished-good : (bytes : List ℕ) (t : Tree) → shader_of bytes ≡ Some (program_of t) → IsGood (program_of t)
finished-good bytes t h = good_shader bytes (program_of t) h
