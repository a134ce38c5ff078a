-- The words of an item as its operands.
use Rattle.std.proofs.Common.{◌≡◌, ◌<◌, ◌==◌, ◌-◌, ℕ, zero, suc, ◌+◌, Bool, true, false, not, ◌&&◌, ◌||◌, nat_le, nat_lt, if◌then◌else◌, List, [], ◌∷◌, length, take, drop, get_or, Option, Some, None, is_some, option_map, refl, ap, sym, ◌∙◌, ◌≤◌, add-one, eq-eqb, arith}
use Rattle.std.proofs.lemmas.Bool.{ne_eqb}
use Rattle.std.proofs.lemmas.Bool.Decides.{nat_tests}
use Rattle.std.proofs.lemmas.List.{drop_all}
use Rattle.std.proofs.Math.Seq.{drop-cons}
use Rattle.shader_model.specs.declared.opcode.Kind.{Kind}
use Rattle.shader_model.specs.declared.opcode.Row.{Row}
use Rattle.shader_model.specs.Opcodes.{kinds, rows, row_among, row_of}
use Rattle.shader_model.specs.Words.{count_in}
use Rattle.shader_model.specs.Items.{Item, Part, opcode, more_of, parts_from, parts_by, declares, is_all_there, declares_fit, has_its_length}
use Rattle.shader_tokens.specs.Decoding.{walks}

-- ## The table

row-first : (n i : ℕ) (rs : List Row) (d : Row) → i < length rs → row_among n (drop i rs) ≡ (if (get_or rs i d).number == n then Some (get_or rs i d) else row_among n (drop (i + 1) rs))
row-first n i rs d h = ap (row_among n) (drop-cons rs i d h ∙ ap (λ z. get_or rs i d ∷ drop z rs) (sym (add-one i)))

pub row-found : (n i : ℕ) (rs : List Row) (d : Row) → rs ≡ rows → row_among n rs ≡ row_among n (drop i rs) → i < length rs → (get_or rs i d).number ≡ n → Some (get_or rs i d) ≡ row_of n
unfolding row_of
row-found n i rs d e before h here =
    sym (ap (row_among n) (sym e) ∙ before ∙ row-first n i rs d h
    ∙ ap (λ (b : Bool). if b then Some (get_or rs i d) else row_among n (drop (i + 1) rs)) (eq-eqb (get_or rs i d).number n here))

pub row-passed : (n i : ℕ) (rs : List Row) (d : Row) → row_among n rs ≡ row_among n (drop i rs) → i < length rs → ((get_or rs i d).number ≡ n → ⊥) → row_among n rs ≡ row_among n (drop (i + 1) rs)
row-passed n i rs d before h here =
    before ∙ row-first n i rs d h
    ∙ ap (λ (b : Bool). if b then Some (get_or rs i d) else row_among n (drop (i + 1) rs)) (ne_eqb (get_or rs i d).number n here)

pub row-none : (n i : ℕ) (rs : List Row) → rs ≡ rows → row_among n rs ≡ row_among n (drop i rs) → length rs ≤ i → None ≡ row_of n
unfolding row_of
row-none n i rs e before h = sym (ap (row_among n) (sym e) ∙ before ∙ ap (row_among n) (drop_all i rs h))

-- ## Operands

some-mapped : (f : List Part → List Part) (o : Option (List Part)) → is_some (option_map f o) ≡ is_some o
some-mapped f None = refl
some-mapped f (Some ps) = refl

some-if : (b : Bool) (f : List Part → List Part) (o : Option (List Part)) (r : Bool) → is_some o ≡ r → is_some (if b then option_map f o else None) ≡ (if b then r else false)
some-if true f o r e = some-mapped f o ∙ e
some-if false f o r e = refl

pub walks-some : (at : ℕ) (ks : List Kind) (ws : List ℕ) → is_some (parts_from at ks ws) ≡ walks ks ws
walks-some at [] [] = refl
walks-some at [] (w ∷ ws) = refl
walks-some at (k ∷ ks) [] = refl
walks-some at (k ∷ ks) (w ∷ ws) =
    let m = more_of k w in
    let here : Part = record { kind = k; at = at; word = w; more = take m ws } in
    some-if (nat_le m (length ws)) (λ ps. here ∷ ps) (parts_from (at + 1 + m) ks (drop m ws)) (walks ks (drop m ws)) (walks-some (at + 1 + m) ks (drop m ws))

pub walks-none : (ks : List Kind) (i : ℕ) → i < length ks → walks (drop i ks) [] ≡ false
walks-none [] i h = absurd (omega arith)
walks-none (k ∷ ks) zero h = refl
walks-none (k ∷ ks) (suc i) h = walks-none ks i (omega arith)

counted : (n m : ℕ) → (n ≡ 0 → ⊥) → m ≡ n - 1 → nat_lt 0 n && (m == n - 1) ≡ true
counted n m some e = grind (arith, nat_tests)

-- an item that has as many words as it says is all there
pub all-there : (item : Item) → (count_in item.first ≡ 0 → ⊥) → length item.more ≡ count_in item.first - 1 → is_all_there item ≡ true
all-there item some e = counted (count_in item.first) (length item.more) some e

-- an instruction whose words are all there has its length where they are its operands
pub fits-row : (item : Item) (r : Row) → is_all_there item ≡ true → declares (opcode item) ≡ None → row_of (opcode item) ≡ Some r → walks (kinds r.layout) item.more ≡ has_its_length item
fits-row item r there none is =
    sym (ap (λ (b : Bool). b && declares_fit item (declares (opcode item))) there
    ∙ ap (declares_fit item) none
    ∙ ap (λ (o : Option Row). not (is_some o) || is_some (parts_by item o)) is
    ∙ walks-some (item.at + 1) (kinds r.layout) item.more)
