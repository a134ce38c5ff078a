use Rattle.std.proofs.Common.{ℕ, List, [], ◌∷◌, map, refl, ap, ◌∙◌, arith}
use Rattle.vk_trace.specs.ListText.{hex_word}
use Rattle.vk_trace.specs.Reading.{AreFour}
use Rattle.vk_trace.proofs.Works.{none_all, four_behind}
use Rattle.vk_trace.proofs.work.four_words.Goals as goal

pub returns-in_err-memory_word : goal.returns-in_err-memory_word
returns-in_err-memory_word c =
    none_all AreFour (map hex_word) _ _ _ c.from_residual.ensures
    (λ ws more good e. let n = four_behind [] ws _ _ more tt good refl (omega arith) e in c.in_err-memory_word.ensures n.0 n.1 n.2 n.3)

pub returns-in_err-memory_word-2 : goal.returns-in_err-memory_word-2
returns-in_err-memory_word-2 c =
    none_all AreFour (map hex_word) _ _ _ c.from_residual-in_err-memory_word-2.ensures
    (λ ws more good e.
    let a = c.in_ok-memory_word.ensures in
    let n = four_behind (c.in_ok-memory_word.field-0 ∷ []) ws _ _ more (a.0, tt) good a.1 (omega arith) e in c.in_err-memory_word-2.ensures n.0 n.1 n.2 n.3)

pub returns-in_err-memory_word-3 : goal.returns-in_err-memory_word-3
returns-in_err-memory_word-3 c =
    none_all AreFour (map hex_word) _ _ _ c.from_residual-in_err-memory_word-3.ensures
    (λ ws more good e.
    let a = c.in_ok-memory_word.ensures in
    let b = c.in_ok-memory_word-2.ensures in
    let n =
    four_behind (c.in_ok-memory_word.field-0 ∷ c.in_ok-memory_word-2.field-0 ∷ []) ws _ _ more (a.0, (b.0, tt)) good (a.1 ∙ ap (λ (l : List (List ℕ)). hex_word c.in_ok-memory_word.field-0 ∷ l) b.1) (omega arith) e in
    c.in_err-memory_word-3.ensures n.0 n.1 n.2 n.3)

pub returns-in_err-memory_word-4 : goal.returns-in_err-memory_word-4
returns-in_err-memory_word-4 c =
    none_all AreFour (map hex_word) _ _ _ c.from_residual-in_err-memory_word-4.ensures
    (λ ws more good e.
    let a = c.in_ok-memory_word.ensures in
    let b = c.in_ok-memory_word-2.ensures in
    let d = c.in_ok-memory_word-3.ensures in
    let n =
    four_behind (c.in_ok-memory_word.field-0 ∷ c.in_ok-memory_word-2.field-0 ∷ c.in_ok-memory_word-3.field-0 ∷ []) ws _ _ more (a.0, (b.0, (d.0, tt))) good
    (a.1 ∙ ap (λ (l : List (List ℕ)). hex_word c.in_ok-memory_word.field-0 ∷ l) (b.1 ∙ ap (λ (l : List (List ℕ)). hex_word c.in_ok-memory_word-2.field-0 ∷ l) d.1)) (omega arith) e in
    c.in_err-memory_word-4.ensures n.0 n.1 n.2 n.3)
