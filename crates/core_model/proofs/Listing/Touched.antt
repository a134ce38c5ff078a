-- A byte that one of two lists of touches touches.
use Rattle.std.proofs.Common.{◌≡◌, ℕ, Bool, true, false, ◌||◌, List, ◌++◌, refl, ap, ◌∙◌}
use Rattle.std.proofs.lemmas.List.Folds.{list_any-append}
use Rattle.vk_types.specs.declared.touch.Touch.{Touch}
use Rattle.vk_types.specs.Memory.{covers}
use Rattle.vk_types.specs.Hazards.{is_touched}

or_right : (a : Bool) → a || true ≡ true
or_right true = refl
or_right false = refl

pub touched_front : (ts us : List Touch) (b i : ℕ) → is_touched ts b i ≡ true → is_touched (ts ++ us) b i ≡ true
touched_front ts us b i h = list_any-append (λ t. covers t.range b i) ts us ∙ ap (λ v. v || is_touched us b i) h

pub touched_back : (ts us : List Touch) (b i : ℕ) → is_touched us b i ≡ true → is_touched (ts ++ us) b i ≡ true
touched_back ts us b i h = list_any-append (λ t. covers t.range b i) ts us ∙ ap (λ v. is_touched ts b i || v) h
    ∙ or_right (is_touched ts b i)
