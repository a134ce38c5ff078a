-- The laws of open blocks.
use Rattle.std.proofs.Common.{◌≡◌, Bool, true, false, ◌||◌, List, [], ◌∷◌, ◌++◌, map, reverse, length, get_or, take, ℕ, zero, suc, ◌<◌, refl, ap, ◌∙◌, arith}
use Rattle.std.proofs.lemmas.List.{reverse-append, map-append}
use Rattle.std.proofs.Math.Seq.{take-suc}
use Rattle.shader_model.specs.Nesting.{Block, InIf, InElse, InLoop, Spelled, is_loop, in_loop}
use Rattle.shader_tokens.specs.declared.levels.Open.{Open}
use Rattle.shader_tokens.specs.declared.levels.Open.TheVariants as open_
use Rattle.shader_tokens.specs.declared.levels.Level.{Level}
use Rattle.shader_tokens.specs.Levels.{kind, level_around, levels_around}

pub around_one_more : (ls : List Level) (l : Level) (s : Spelled) → levels_around (ls ++ l ∷ []) s ≡ levels_around ls (level_around l s)
around_one_more [] l s = refl
around_one_more (k ∷ ks) l s = ap (level_around k) (around_one_more ks l s)

pub loop_in_both : (a b : List Block) → in_loop (a ++ b) ≡ in_loop a || in_loop b
loop_in_both [] b = refl
loop_in_both (InIf ∷ bs) b = loop_in_both bs b
loop_in_both (InElse ∷ bs) b = loop_in_both bs b
loop_in_both (InLoop ∷ bs) b = refl

or_swapped : (a b : Bool) → a || b ≡ b || a
or_swapped true true = refl
or_swapped true false = refl
or_swapped false true = refl
or_swapped false false = refl

or_last : (a b : Bool) → b ≡ true → a || b ≡ true
or_last true b e = refl
or_last false b e = e

or_false : (a : Bool) → a || false ≡ a
or_false true = refl
or_false false = refl

pub loop_reversed : (bs : List Block) → in_loop (reverse bs) ≡ in_loop bs
loop_reversed [] = refl
loop_reversed (b ∷ bs) = ap in_loop (reverse-append (b ∷ []) bs) ∙ loop_in_both (reverse bs) (b ∷ []) ∙ or_swapped (in_loop (reverse bs)) (in_loop (b ∷ [])) ∙ ap (λ z. z || in_loop (reverse bs)) (or_false (is_loop b)) ∙ ap (λ z. is_loop b || z) (loop_reversed bs)

-- the kinds of levels, outermost first
abbrev pub kinds : List Level → List Block
kinds ls = map (λ level. kind level.block) ls

-- a loop at some place is found
pub loop_found : (ls : List Level) (i : ℕ) (d : Level) → i < length ls → is_loop (kind (get_or ls i d).block) ≡ true → in_loop (kinds ls) ≡ true
loop_found [] i d h e = absurd (omega arith)
loop_found (l ∷ ls) zero d h e = ap (λ z. z || in_loop (kinds ls)) e
loop_found (l ∷ ls) (suc i) d h e = or_last (is_loop (kind l.block)) (in_loop (kinds ls)) (loop_found ls i d (omega arith) e)

-- a level that is no loop is passed
pub loop_passed : (ls : List Level) (i : ℕ) (d : Level) → i < length ls → in_loop (kinds (take i ls)) ≡ false → is_loop (kind (get_or ls i d).block) ≡ false → in_loop (kinds (take (suc i) ls)) ≡ false
loop_passed ls i d h before here =
    ap (λ z. in_loop (kinds z)) (take-suc ls i d h) ∙ ap in_loop (map-append (λ (level : Level). kind level.block) (take i ls) (get_or ls i d ∷ []))
    ∙ loop_in_both (kinds (take i ls)) (kinds (get_or ls i d ∷ [])) ∙ ap (λ z. z || in_loop (kinds (get_or ls i d ∷ []))) before ∙ ap (λ z. z || false) here

pub no_loop : (b : Open) → (b ≡ open_.Loop → ⊥) → is_loop (kind b) ≡ false
no_loop (open_.If t) h = refl
no_loop (open_.Else t taken) h = refl
no_loop open_.Loop h = absurd (h refl)
