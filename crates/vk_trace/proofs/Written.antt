-- The text of a listing, as it is written.
use Rattle.std.proofs.Common.{◌≡◌, ℕ, suc, ◌+◌, ◌<◌, ◌≤◌, List, [], ◌∷◌, ◌++◌, length, get_or, drop, refl, sym, ap, subst, ◌∙◌, append_assoc, arith, drop-cons}
use Rattle.std.specs.Prelude.{codes}
use Rattle.std.specs.Fmt.{decimal}
use Rattle.std.specs.List.{AllByRecursion}
use Rattle.std.proofs.lemmas.List.{append-nil, drop_all}
use Rattle.vk_types.specs.declared.access.Mask.{Mask}
use Rattle.vk_types.specs.declared.command.Command.{Command}
use Rattle.vk_types.specs.declared.op.Barrier.{Barrier}
use Rattle.vk_types.specs.declared.op.VkOp.TheVariants as op
use Rattle.vk_trace.specs.ListText.{call_words, cond_words, line, mask_word, part, rest_of, second_word, stage_parts, work_name, work_words}
use Rattle.vk_trace.specs.Writing.{marked_parts, next_mark}

-- ---- a list whose texts are written one after the other

module _ {A : Type 0} (one : A → List ℕ) (whole : List A → List ℕ) (none : whole [] ≡ []) (more : (x : A) (xs : List A) → whole (x ∷ xs) ≡ one x ++ whole xs) where
  pub written_more : (xs : List A) (i : ℕ) (d x : A) (text next all : List ℕ) → i < length xs → x ≡ get_or xs i d → text ++ whole (drop i xs) ≡ all → next ≡ text ++ one x → next ++ whole (drop (i + 1) xs) ≡ all
  written_more xs i d x text next all lt is e put =
      let next_is : i + 1 ≡ suc i = omega arith in
      let front : drop i xs ≡ x ∷ drop (i + 1) xs = drop-cons xs i d lt ∙ ap (λ (y : A). y ∷ drop (suc i) xs) (sym is) ∙ ap (λ (k : ℕ). x ∷ drop k xs) (sym next_is) in
      ap (λ (l : List ℕ). l ++ whole (drop (i + 1) xs)) put ∙ append_assoc text (one x) (whole (drop (i + 1) xs))
      ∙ ap (λ (l : List ℕ). text ++ l) (sym (more x (drop (i + 1) xs)) ∙ ap whole (sym front)) ∙ e

  pub written_all : (xs : List A) (i : ℕ) (text all : List ℕ) → length xs ≤ i → text ++ whole (drop i xs) ≡ all → text ≡ all
  written_all xs i text all le e = sym (append-nil text) ∙ ap (λ (l : List ℕ). text ++ l) (sym (ap whole (drop_all i xs le) ∙ none)) ∙ e

-- ---- words behind each other

pub rest_append : (c : ℕ) (xs ys : List (List ℕ)) → rest_of c (xs ++ ys) ≡ rest_of c xs ++ rest_of c ys
rest_append c [] ys = refl
rest_append c (x ∷ xs) ys = ap (λ (l : List ℕ). c ∷ (x ++ l)) (rest_append c xs ys) ∙ ap (λ (l : List ℕ). c ∷ l) (sym (append_assoc x (rest_of c xs) (rest_of c ys)))

-- ---- masks

marked_append : (mark : List ℕ) (xs ys : List (List ℕ)) → marked_parts mark (xs ++ ys) ≡ marked_parts mark xs ++ marked_parts (next_mark mark xs) ys
marked_append mark [] ys = refl
marked_append mark (x ∷ xs) ys =
    ap (λ (l : List ℕ). mark ++ (x ++ l)) (rest_append 44 xs ys ∙ ap (λ (l : List ℕ). rest_of 44 xs ++ l) (behind ys)) ∙ ap (λ (l : List ℕ). mark ++ l) (sym (append_assoc x (rest_of 44 xs) (marked_parts (44 ∷ []) ys)))
    ∙ sym (append_assoc mark (x ++ rest_of 44 xs) (marked_parts (44 ∷ []) ys))
  where
    behind : (ys : List (List ℕ)) → rest_of 44 ys ≡ marked_parts (44 ∷ []) ys
    behind [] = refl
    behind (y ∷ ys) = refl

-- one part more
marked_step : (mark next : List ℕ) (xs ys : List (List ℕ)) (old new : List ℕ) → new ≡ old ++ marked_parts mark xs → next ≡ next_mark mark xs → new ++ marked_parts next ys ≡ old ++ marked_parts mark (xs ++ ys)
marked_step mark next xs ys old new put is =
    ap (λ (l : List ℕ). l ++ marked_parts next ys) put ∙ append_assoc old (marked_parts mark xs) (marked_parts next ys)
    ∙ ap (λ (m : List ℕ). old ++ (marked_parts mark xs ++ marked_parts m ys)) is ∙ ap (λ (l : List ℕ). old ++ l) (sym (marked_append mark xs ys))

pub stages_written : (m : Mask) (old one two three new second third fourth : List ℕ) → one ≡ old ++ marked_parts (codes " ") (part (codes "indirect:") m.indirect) → second ≡ next_mark (codes " ") (part (codes "indirect:") m.indirect)
    → two ≡ one ++ marked_parts second (part (codes "compute:") m.compute) → third ≡ next_mark second (part (codes "compute:") m.compute)
    → three ≡ two ++ marked_parts third (part (codes "transfer:") m.transfer) → fourth ≡ next_mark third (part (codes "transfer:") m.transfer)
    → new ≡ three ++ marked_parts fourth (part (codes "host:") m.host) → new ≡ old ++ marked_parts (codes " ") (stage_parts m)
stages_written m old one two three new second third fourth a p b q c r d =
    let i : List (List ℕ) = part (codes "indirect:") m.indirect in
    let k : List (List ℕ) = part (codes "compute:") m.compute in
    let t : List (List ℕ) = part (codes "transfer:") m.transfer in
    let h : List (List ℕ) = part (codes "host:") m.host in
    d ∙ marked_step third fourth t h two three c r ∙ marked_step second third k (t ++ h) one two b q ∙ marked_step (codes " ") second i (k ++ (t ++ h)) old one a p

-- ---- lines

pub rest_step : (xs ys : List (List ℕ)) (old mid new : List ℕ) → mid ≡ old ++ rest_of 32 xs → new ≡ mid ++ rest_of 32 ys → new ≡ old ++ rest_of 32 (xs ++ ys)
rest_step xs ys old mid new p q =
    q ∙ ap (λ (l : List ℕ). l ++ rest_of 32 ys) p ∙ append_assoc old (rest_of 32 xs) (rest_of 32 ys) ∙ ap (λ (l : List ℕ). old ++ l) (sym (rest_append 32 xs ys))

five : (a b c d e f : List ℕ) → (((a ++ b) ++ c) ++ d) ++ (e ++ f) ≡ a ++ ((b ++ (c ++ (d ++ e))) ++ f)
five a b c d e f = simp append_assoc

pub command_written : (c : Command) (old head works conds new : List ℕ) → head ≡ old ++ (work_name c.work ++ 32 ∷ decimal c.number) → works ≡ head ++ rest_of 32 (work_words c.work) → conds ≡ works ++ rest_of 32 (cond_words c.cond)
    → new ≡ conds ++ (rest_of 32 (call_words c.call) ++ 10 ∷ []) → new ≡ old ++ line (op.Command c)
unfolding line
command_written c old head works conds new a b d e =
    let name : List ℕ = work_name c.work in
    let number : List ℕ = 32 ∷ decimal c.number in
    let w : List ℕ = rest_of 32 (work_words c.work) in
    let k : List ℕ = rest_of 32 (cond_words c.cond) in
    let l : List ℕ = rest_of 32 (call_words c.call) in
    let tail : rest_of 32 (work_words c.work ++ (cond_words c.cond ++ call_words c.call)) ≡ w ++ (k ++ l) =
    rest_append 32 (work_words c.work) (cond_words c.cond ++ call_words c.call) ∙ ap (λ (r : List ℕ). w ++ r) (rest_append 32 (cond_words c.cond) (call_words c.call)) in
    let flat : new ≡ (((old ++ (name ++ number)) ++ w) ++ k) ++ (l ++ 10 ∷ []) = e ∙ ap (λ (r : List ℕ). r ++ (l ++ 10 ∷ [])) (d ∙ ap (λ (r : List ℕ). r ++ k) (b ∙ ap (λ (r : List ℕ). r ++ w) a)) in
    flat ∙ five old (name ++ number) w k l (10 ∷ []) ∙ ap (λ (r : List ℕ). old ++ (r ++ 10 ∷ [])) (append_assoc name number (w ++ (k ++ l)) ∙ ap (λ (r : List ℕ). name ++ (number ++ r)) (sym tail))

pub barrier_written : (b : Barrier) (old word source dest new : List ℕ) → word ≡ old ++ codes "barrier" → source ≡ word ++ 32 ∷ mask_word b.source → dest ≡ source ++ 32 ∷ mask_word b.dest
    → new ≡ dest ++ (rest_of 32 (codes "cause" ∷ decimal b.first ∷ second_word b.second ∷ []) ++ 10 ∷ []) → new ≡ old ++ line (op.Barrier b)
unfolding line
barrier_written b old word source dest new p q r t =
    let m : List ℕ = 32 ∷ mask_word b.source in
    let n : List ℕ = 32 ∷ mask_word b.dest in
    let l : List ℕ = rest_of 32 (codes "cause" ∷ decimal b.first ∷ second_word b.second ∷ []) in
    t ∙ ap (λ (x : List ℕ). x ++ (l ++ 10 ∷ [])) (r ∙ ap (λ (x : List ℕ). x ++ n) (q ∙ ap (λ (x : List ℕ). x ++ m) p)) ∙ five old (codes "barrier") m n l (10 ∷ [])

pub all_at : {A : Type 0} (P : A → Type 0) (xs : List A) (i : ℕ) (d x : A) → AllByRecursion P (drop i xs) → i < length xs → x ≡ get_or xs i d → P x × AllByRecursion P (drop (i + 1) xs)
all_at {A = A} P xs i d x all lt is =
    let next_is : i + 1 ≡ suc i = omega arith in
    let front : drop i xs ≡ x ∷ drop (i + 1) xs = drop-cons xs i d lt ∙ ap (λ (y : A). y ∷ drop (suc i) xs) (sym is) ∙ ap (λ (k : ℕ). x ∷ drop k xs) (sym next_is) in
    subst (AllByRecursion P) front all
