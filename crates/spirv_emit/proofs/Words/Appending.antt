-- What is appended, piece by piece.
use Rattle.std.proofs.Common.{◌≡◌, ℕ, Result, Ok, Err, OnOk, List, [], ◌∷◌, ◌++◌, refl, sym, ap, ◌∙◌, append_assoc}
use Rattle.std.proofs.lemmas.List.{append-nil}
use Rattle.spirv_model.specs.Op.{Op}
use Rattle.spirv_model.specs.Words.{op_words, words_of}
use Rattle.spirv_emit.specs.declared.code.Code.{Code}
use Rattle.spirv_emit.specs.Emits.{written, Puts, Appends}

pub written_one : (o : Op) → written (o ∷ []) ≡ op_words o
unfolding written
written_one o = append-nil (op_words o)

pub written_none : written [] ≡ []
unfolding written
written_none = refl

pub written_append : (a b : List Op) → written (a ++ b) ≡ written a ++ written b
unfolding written
written_append [] b = refl
written_append (o ∷ a) b = ap (λ z. op_words o ++ z) (written_append a b) ∙ sym (append_assoc (op_words o) (words_of a) (words_of b))

-- one instruction
pub puts_one : (old new : Code) (o : Op) → new.words ≡ old.words ++ op_words o → new.next ≡ old.next → Puts old new (o ∷ [])
puts_one old new o e n = record { words_are = e ∙ ap (λ z. old.words ++ z) (sym (written_one o)); next_is = n }

pub makes_one : (old new : Code) (o : Op) (next : ℕ) → new.words ≡ old.words ++ op_words o → new.next ≡ next → Appends old new (o ∷ []) next
makes_one old new o next e n = record { words_are = e ∙ ap (λ z. old.words ++ z) (sym (written_one o)); next_is = n }

-- ## One stretch behind another

both : (w0 w1 w2 : List ℕ) (a b : List Op) → w1 ≡ w0 ++ written a → w2 ≡ w1 ++ written b → w2 ≡ w0 ++ written (a ++ b)
both w0 w1 w2 a b p q = q ∙ ap (λ x. x ++ written b) p ∙ append_assoc w0 (written a) (written b) ∙ ap (λ x. w0 ++ x) (sym (written_append a b))

pub puts_then : {c0 c1 c2 : Code} {a b : List Op} → Puts c0 c1 a → Puts c1 c2 b → Puts c0 c2 (a ++ b)
puts_then {c0 = c0} {c1 = c1} {c2 = c2} {a = a} {b = b} p q = record { words_are = both c0.words c1.words c2.words a b p.words_are q.words_are; next_is = q.next_is ∙ p.next_is }

pub then_puts : {c0 c1 c2 : Code} {a b : List Op} {n : ℕ} → Appends c0 c1 a n → Puts c1 c2 b → Appends c0 c2 (a ++ b) n
then_puts {c0 = c0} {c1 = c1} {c2 = c2} {a = a} {b = b} p q = record { words_are = both c0.words c1.words c2.words a b p.words_are q.words_are; next_is = q.next_is ∙ p.next_is }

pub puts_and : {c0 c1 c2 : Code} {a b : List Op} {n : ℕ} → Puts c0 c1 a → Appends c1 c2 b n → Appends c0 c2 (a ++ b) n
puts_and {c0 = c0} {c1 = c1} {c2 = c2} {a = a} {b = b} p q = record { words_are = both c0.words c1.words c2.words a b p.words_are q.words_are; next_is = q.next_is }

pub appends_then : {c0 c1 c2 : Code} {a b : List Op} {n m : ℕ} → Appends c0 c1 a n → Appends c1 c2 b m → Appends c0 c2 (a ++ b) m
appends_then {c0 = c0} {c1 = c1} {c2 = c2} {a = a} {b = b} p q = record { words_are = both c0.words c1.words c2.words a b p.words_are q.words_are; next_is = q.next_is }

-- the same, in other terms
pub appends_to : {c0 c1 : Code} {a b : List Op} {n m : ℕ} → Appends c0 c1 a n → a ≡ b → n ≡ m → Appends c0 c1 b m
appends_to {c0 = c0} h e f = record { words_are = h.words_are ∙ ap (λ x. c0.words ++ written x) e; next_is = h.next_is ∙ f }

pub puts_to : {c0 c1 : Code} {a b : List Op} → Puts c0 c1 a → a ≡ b → Puts c0 c1 b
puts_to {c0 = c0} h e = record { words_are = h.words_are ∙ ap (λ x. c0.words ++ written x) e; next_is = h.next_is }

pub puts_at : {c0 c1 : Code} {a : List Op} (n : ℕ) → Puts c0 c1 a → c0.next ≡ n → Appends c0 c1 a n
puts_at n h e = record { words_are = h.words_are; next_is = h.next_is ∙ e }

pub appends_none : (c : Code) → Appends c c [] c.next
appends_none c = record { words_are = sym (ap (λ x. c.words ++ x) written_none ∙ append-nil c.words); next_is = refl }

pub puts_ok : {A E : Type 0} (old new : Code) (o : Op) (r : Result A E) → OnOk r (new.words ≡ old.words ++ op_words o) → new.next ≡ old.next → OnOk r (Puts old new (o ∷ []))
puts_ok old new o (Ok x) e n = puts_one old new o e n
puts_ok old new o (Err x) e n = tt

pub makes_ok : {A E : Type 0} (old new : Code) (o : Op) (next : ℕ) (r : Result A E) → OnOk r (new.words ≡ old.words ++ op_words o) → OnOk r (new.next ≡ next) → OnOk r (Appends old new (o ∷ []) next)
makes_ok old new o next (Ok x) e n = makes_one old new o next e n
makes_ok old new o next (Err x) e n = tt

pub puts_none : (c : Code) → Puts c c []
puts_none c = record { words_are = sym (ap (λ x. c.words ++ x) written_none ∙ append-nil c.words); next_is = refl }
