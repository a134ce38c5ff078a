-- Blocks whose bytes were exchanged.
use Rattle.std.proofs.Common.{◌≡◌, ℕ, ◌-◌, Bool, true, false, cond, ◌&&◌, List, [], ◌∷◌, length, map, Option, Some, None, inl, inr, refl, sym, ap, subst, ◌∙◌, arith}
use mathlib.Core.Path.{fun_ext}
use Rattle.std.specs.Map.{set_value}
use Rattle.std.specs.Ordering.{nat_cmp}
use Rattle.std.specs.BTreeMap.{is_at}
use Rattle.std.specs.List.{AllByRecursion}
use Rattle.std.specs.Option.{option_map}
use Rattle.std.proofs.lemmas.Bool.{cases_Bool, cases_eq, cond-true, cond-false, eq-eqb, ne_eqb}
use Rattle.std.proofs.lemmas.Bool.Decides.{nat_tests}
use Rattle.dx_types.specs.declared.range.Range.{Range}
use Rattle.buffer_blocks.specs.declared.block.Block.{Block}
use Rattle.buffer_blocks.specs.Block.{bytes_of, with_bytes}
use Rattle.vk_types.specs.Memory.{covers, number_at, put}
use Rattle.device_memory.specs.Held.{Held, block_of, byte_at, memory_of, outline, AreAlike, IsNumbered}
use Rattle.device_memory.specs.Writes.{is_within, IsPut, IsPutIn, exchanged}

-- the entry is under this number
abbrev pub under : ℕ → ℕ → Bool
under n = is_at (nat_cmp n)

pub under_same : (n : ℕ) → under n n ≡ true
under_same n = grind (arith, nat_tests)

pub under_other : (n q : ℕ) → (q ≡ n → ⊥) → under n q ≡ false
under_other n q apart = grind (arith, nat_tests)

pub under_is : (n q : ℕ) → under n q ≡ true → n ≡ q
under_is n q e = grind (arith, nat_tests)

-- ---- one entry

hit : (n : ℕ) (bs : List ℕ) (e : ℕ × Block) (es : Held) → under n e.0 ≡ true → exchanged n bs (e ∷ es) ≡ (e.0, with_bytes e.1 bs) ∷ es
hit n bs e es is = cond-true (under n e.0) ((e.0, with_bytes e.1 bs) ∷ es) (e ∷ exchanged n bs es) is

miss : (n : ℕ) (bs : List ℕ) (e : ℕ × Block) (es : Held) → under n e.0 ≡ false → exchanged n bs (e ∷ es) ≡ e ∷ exchanged n bs es
miss n bs e es is = cond-false (under n e.0) ((e.0, with_bytes e.1 bs) ∷ es) (e ∷ exchanged n bs es) is

found : (q : ℕ) (e : ℕ × Block) (es : Held) → under q e.0 ≡ true → block_of (e ∷ es) q ≡ Some e.1
found q e es is = cond-true (under q e.0) (Some e.1) (block_of es q) is

passed : (q : ℕ) (e : ℕ × Block) (es : Held) → under q e.0 ≡ false → block_of (e ∷ es) q ≡ block_of es q
passed q e es is = cond-false (under q e.0) (Some e.1) (block_of es q) is

some_is : {A : Type 0} (x y : A) → Some x ≡ Some y → x ≡ y
some_is x y e = cc e

none_is_some : {A : Type 0} (x : A) → None ≡ Some x → ⊥
none_is_some x e = absurd (cc e)

-- ---- what stands where

pub block_here : (n : ℕ) (bs : List ℕ) (es : Held) → block_of (exchanged n bs es) n ≡ option_map (λ b. with_bytes b bs) (block_of es n)
block_here n bs [] = refl
block_here n bs (e ∷ es) = elim (cases_Bool (under n e.0)) [
  | inl is ↦
      ap (λ (l : Held). block_of l n) (hit n bs e es is) ∙ found n (e.0, with_bytes e.1 bs) es is
      ∙ ap (option_map (λ (b : Block). with_bytes b bs)) (sym (found n e es is))
  | inr is ↦
      ap (λ (l : Held). block_of l n) (miss n bs e es is) ∙ passed n e (exchanged n bs es) is ∙ block_here n bs es
      ∙ ap (option_map (λ (b : Block). with_bytes b bs)) (sym (passed n e es is))
]

pub block_other : (n : ℕ) (bs : List ℕ) (q : ℕ) → (q ≡ n → ⊥) → (es : Held) → block_of (exchanged n bs es) q ≡ block_of es q
block_other n bs q apart [] = refl
block_other n bs q apart (e ∷ es) = elim (cases_Bool (under n e.0)) [
  | inl is ↦
      let away : under q e.0 ≡ false = under_other q e.0 (λ same. apart (sym same ∙ sym (under_is n e.0 is))) in
      ap (λ (l : Held). block_of l q) (hit n bs e es is) ∙ passed q (e.0, with_bytes e.1 bs) es away ∙ sym (passed q e es away)
  | inr is ↦
      ap (λ (l : Held). block_of l q) (miss n bs e es is)
      ∙ ap (cond (under q e.0) (Some e.1)) (block_other n bs q apart es)
]

-- ---- exchanges after one another

pub exchanged_twice : (n : ℕ) (x y : List ℕ) (es : Held) → exchanged n x (exchanged n y es) ≡ exchanged n x es
exchanged_twice n x y [] = refl
exchanged_twice n x y (e ∷ es) = elim (cases_Bool (under n e.0)) [
  | inl is ↦ ap (exchanged n x) (hit n y e es is) ∙ hit n x (e.0, with_bytes e.1 y) es is ∙ sym (hit n x e es is)
  | inr is ↦
      ap (exchanged n x) (miss n y e es is) ∙ miss n x e (exchanged n y es) is ∙ ap (λ (l : Held). e ∷ l) (exchanged_twice n x y es)
      ∙ sym (miss n x e es is)
]

pub exchanged_swap : (n m : ℕ) → (n ≡ m → ⊥) → (x y : List ℕ) (es : Held) → exchanged n x (exchanged m y es) ≡ exchanged m y (exchanged n x es)
exchanged_swap n m apart x y [] = refl
exchanged_swap n m apart x y (e ∷ es) = elim (cases_Bool (under n e.0)) [
  | inl is ↦
      let away : under m e.0 ≡ false = under_other m e.0 (λ same. apart (under_is n e.0 is ∙ same)) in
      ap (exchanged n x) (miss m y e es away) ∙ hit n x e (exchanged m y es) is
      ∙ sym (ap (exchanged m y) (hit n x e es is) ∙ miss m y (e.0, with_bytes e.1 x) es away)
  | inr is ↦ elim (cases_Bool (under m e.0)) [
    | inl at ↦
        ap (exchanged n x) (hit m y e es at) ∙ miss n x (e.0, with_bytes e.1 y) es is
        ∙ sym (ap (exchanged m y) (miss n x e es is) ∙ hit m y e (exchanged n x es) at)
    | inr at ↦
        ap (exchanged n x) (miss m y e es at) ∙ miss n x e (exchanged m y es) is
        ∙ ap (λ (l : Held). e ∷ l) (exchanged_swap n m apart x y es)
        ∙ sym (ap (exchanged m y) (miss n x e es is) ∙ miss m y e (exchanged n x es) at)
  ]
]

-- ---- as the map of the code writes

pub exchanged_none : (n : ℕ) (bs : List ℕ) (es : Held) → None ≡ block_of es n → es ≡ exchanged n bs es
exchanged_none n bs [] none = refl
exchanged_none n bs (e ∷ es) none = elim (cases_Bool (under n e.0)) [
  | inl is ↦ absurd (none_is_some e.1 (none ∙ found n e es is))
  | inr is ↦ ap (λ (l : Held). e ∷ l) (exchanged_none n bs es (none ∙ passed n e es is)) ∙ sym (miss n bs e es is)
]

pub exchanged_set : (n : ℕ) (bs : List ℕ) (old : Block) (es : Held) → Some old ≡ block_of es n → set_value (under n) es (with_bytes old bs) ≡ exchanged n bs es
exchanged_set n bs old [] some = absurd (none_is_some old (sym some))
exchanged_set n bs old (e ∷ es) some = elim (cases_Bool (under n e.0)) [
  | inl is ↦
      cond-true (under n e.0) ((e.0, with_bytes old bs) ∷ es) (e ∷ set_value (under n) es (with_bytes old bs)) is
      ∙ ap (λ (b : Block). (e.0, with_bytes b bs) ∷ es) (some_is old e.1 (some ∙ found n e es is))
      ∙ sym (hit n bs e es is)
  | inr is ↦
      cond-false (under n e.0) ((e.0, with_bytes old bs) ∷ es) (e ∷ set_value (under n) es (with_bytes old bs)) is
      ∙ ap (λ (l : Held). e ∷ l) (exchanged_set n bs old es (some ∙ passed n e es is))
      ∙ sym (miss n bs e es is)
]

-- ---- numbers and outlines

pub numbered_exchanged : (n : ℕ) (bs : List ℕ) (es : Held) → AllByRecursion IsNumbered es → AllByRecursion IsNumbered (exchanged n bs es)
numbered_exchanged n bs [] all = all
numbered_exchanged n bs (e ∷ es) all = elim (cases_Bool (under n e.0)) [
  | inl is ↦ subst (AllByRecursion IsNumbered) (sym (hit n bs e es is)) (all.0, all.1)
  | inr is ↦ subst (AllByRecursion IsNumbered) (sym (miss n bs e es is)) (all.0, numbered_exchanged n bs es all.1)
]

pub numbered_block : (n : ℕ) (b : Block) (es : Held) → AllByRecursion IsNumbered es → Some b ≡ block_of es n → b.number ≡ n
numbered_block n b [] all some = absurd (none_is_some b (sym some))
numbered_block n b (e ∷ es) all some = elim (cases_Bool (under n e.0)) [
  | inl is ↦ ap (λ (c : Block). c.number) (some_is b e.1 (some ∙ found n e es is)) ∙ sym all.0 ∙ sym (under_is n e.0 is)
  | inr is ↦ numbered_block n b es all.1 (some ∙ passed n e es is)
]

pub alike_exchanged : (n : ℕ) (bs : List ℕ) (old : Block) (es : Held) → Some old ≡ block_of es n → length bs ≡ length (bytes_of old) → AreAlike es (exchanged n bs es)
alike_exchanged n bs old [] some long = refl
alike_exchanged n bs old (e ∷ es) some long = elim (cases_Bool (under n e.0)) [
  | inl is ↦
      let same : length (bytes_of e.1) ≡ length bs = ap (λ (b : Block). length (bytes_of b)) (sym (some_is old e.1 (some ∙ found n e es is))) ∙ sym long in
      ap (λ (k : ℕ). record { key = e.0; number = e.1.number; retired = e.1.retired; size = k } ∷ map outline es) same
      ∙ ap (map outline) (sym (hit n bs e es is))
  | inr is ↦
      ap (λ l. outline e ∷ l) (alike_exchanged n bs old es (some ∙ passed n e es is) long)
      ∙ ap (map outline) (sym (miss n bs e es is))
]

-- ---- memory

same_block : (r : Range) (q at : ℕ) → r.block ≡ q → covers r q at ≡ is_within r.from r.to at
same_block r q at e = ap (λ (t : Bool). t && is_within r.from r.to at) (eq-eqb r.block q e)

other_block : (r : Range) (q at : ℕ) → (r.block ≡ q → ⊥) → covers r q at ≡ false
other_block r q at e = ap (λ (t : Bool). t && is_within r.from r.to at) (ne_eqb r.block q e)

-- bytes of which a piece was written stand in their block
pub put_exchanged : (es : Held) (r : Range) (piece : ℕ → ℕ) (old : Block) (bs : List ℕ) → Some old ≡ block_of es r.block → IsPut r.from r.to piece (bytes_of old) bs
    → memory_of (exchanged r.block bs es) ≡ put r piece (memory_of es)
put_exchanged es r piece old bs some is = fun_ext (λ q. fun_ext (λ at. by q at))
  where
    here : (at : ℕ) → byte_at (block_of (exchanged r.block bs es) r.block) at ≡ put r piece (memory_of es) r.block at
    here at =
        ap (λ (o : Option Block). byte_at o at) (block_here r.block bs es ∙ ap (option_map (λ (b : Block). with_bytes b bs)) (sym some))
        ∙ is.bytes at
        ∙ ap (λ (t : Bool). cond t (piece (at - r.from)) (number_at (bytes_of old) at)) (sym (same_block r r.block at refl))
        ∙ ap (λ (o : Option Block). cond (covers r r.block at) (piece (at - r.from)) (byte_at o at)) some

    by : (q at : ℕ) → byte_at (block_of (exchanged r.block bs es) q) at ≡ put r piece (memory_of es) q at
    by q at = elim (cases_eq q r.block) [
      | inl same ↦ subst (λ (k : ℕ). byte_at (block_of (exchanged r.block bs es) k) at ≡ put r piece (memory_of es) k at) (sym same) (here at)
      | inr apart ↦
          ap (λ (o : Option Block). byte_at o at) (block_other r.block bs q apart es)
          ∙ sym (cond-false (covers r q at) (piece (at - r.from)) (byte_at (block_of es q) at) (other_block r q at (λ e. apart (sym e))))
    ]

-- a piece that was written into a block in its place among the others
module _ (es fs : Held) (r : Range) (piece : ℕ → ℕ) (old new : Block) (some : Some old ≡ block_of es r.block) (is : IsPutIn r.from r.to piece old new) (set : fs ≡ set_value (under r.block) es new) where
  pub set_is : fs ≡ exchanged r.block (bytes_of new) es
  set_is = set ∙ ap (set_value (under r.block) es) is.rest ∙ exchanged_set r.block (bytes_of new) old es some

  pub put_memory : memory_of fs ≡ put r piece (memory_of es)
  put_memory = ap memory_of set_is ∙ put_exchanged es r piece old (bytes_of new) some is.bytes

  pub put_alike : AreAlike es fs
  put_alike = subst (AreAlike es) (sym set_is) (alike_exchanged r.block (bytes_of new) old es some is.bytes.size)

  pub put_numbered : AllByRecursion IsNumbered es → AllByRecursion IsNumbered fs
  put_numbered all = subst (AllByRecursion IsNumbered) (sym set_is) (numbered_exchanged r.block (bytes_of new) es all)
