-- One move of bytes after another.
use Rattle.std.proofs.Common.{◌≡◌, ℕ, ◌+◌, ◌-◌, ◌<◌, ◌≤◌, List, [], ◌++◌, length, take, drop, Option, Some, None, refl, sym, ap, ◌∙◌, append_assoc, arith}
use Rattle.std.specs.Prelude.{IfSome}
use Rattle.std.proofs.lemmas.List.{nil_from_length, append-nil, length-append, length-drop, take_all, take-append-drop, take-take, drop-drop}
use Rattle.std.proofs.Math.Seq.{take-add}
use Rattle.dx_io.specs.Told.{Gives, Appends}

pub gives_none : (a : Option (List ℕ)) → Gives a [] a
gives_none None = tt
gives_none (Some x) = refl

pub gives_then : (a b c : Option (List ℕ)) (x y : List ℕ) → Gives a x b → Gives b y c → Gives a (x ++ y) c
gives_then None None None x y p q = tt
gives_then None None (Some c) x y p q = absurd q
gives_then None (Some b) c x y p q = absurd p
gives_then (Some a) None c x y p q = absurd p
gives_then (Some a) (Some b) None x y p q = absurd q
gives_then (Some a) (Some b) (Some c) x y p q = p ∙ ap (λ (t : List ℕ). x ++ t) q ∙ sym (append_assoc x y c)

-- what was given is all, where nothing is left
pub gives_all : (a b : Option (List ℕ)) (x : List ℕ) → Gives a x b → IfSome b (λ l. l ≡ []) → IfSome a (λ l. x ≡ l)
gives_all None b x p e = tt
gives_all (Some a) None x p e = absurd p
gives_all (Some a) (Some b) x p e = sym (p ∙ ap (λ (t : List ℕ). x ++ t) e ∙ append-nil x)

-- nothing is left, where nothing was
pub gives_end : (a b : Option (List ℕ)) (x : List ℕ) → Gives a x b → IfSome a (λ l. l ≡ []) → IfSome b (λ l. l ≡ [])
gives_end None None x p e = tt
gives_end None (Some b) x p e = absurd p
gives_end (Some a) None x p e = tt
gives_end (Some a) (Some b) x p e = nil_from_length b (omega (arith, ap length (sym e ∙ p), length-append x b))

-- more than the limit were left, where more than the limit came
pub gives_more : (a b : Option (List ℕ)) (x : List ℕ) (limit : ℕ) → Gives a x b → limit < length x → IfSome a (λ l. limit < length l)
gives_more None b x limit p lt = tt
gives_more (Some a) None x limit p lt = absurd p
gives_more (Some a) (Some b) x limit p lt = omega (arith, ap length p, length-append x b)

pub appends_none : (a : Option (List ℕ)) → Appends a [] a
appends_none None = tt
appends_none (Some x) = sym (append-nil x)

pub appends_then : (a b c : Option (List ℕ)) (x y : List ℕ) → Appends a x b → Appends b y c → Appends a (x ++ y) c
appends_then None None None x y p q = tt
appends_then None None (Some c) x y p q = absurd q
appends_then None (Some b) c x y p q = absurd p
appends_then (Some a) None c x y p q = absurd p
appends_then (Some a) (Some b) None x y p q = absurd q
appends_then (Some a) (Some b) (Some c) x y p q = q ∙ ap (λ (t : List ℕ). t ++ y) p ∙ append_assoc a x y

pub appends_at : (a b : Option (List ℕ)) (x y : List ℕ) → x ≡ y → Appends a x b → Appends a y b
appends_at a b x y e p = rw (← e) p

-- the next n bytes of a text after the first i of them
pub appends_more : (a b c : Option (List ℕ)) (text : List ℕ) (i n : ℕ) → Appends a (take i text) b → Appends b (take n (drop i text)) c → Appends a (take (i + n) text) c
appends_more a b c text i n p q = rw (take-add i n text) (appends_then a b c _ _ p q)

pub appends_all : (a b : Option (List ℕ)) (text : List ℕ) (i : ℕ) → length text ≤ i → Appends a (take i text) b → Appends a text b
appends_all a b text i le p = appends_at a b _ _ (take_all i text le) p

-- what a slice from n on has
pub rest_of : (n : ℕ) (l : List ℕ) → take (length l - n) (drop n l) ≡ drop n l
rest_of n l = take_all (length l - n) (drop n l) (omega (arith, length-drop n l))

-- what a source in memory gives, of the bytes that it was asked for
pub front_moved : (all copied : List ℕ) (at n most : ℕ) → n ≤ most → take n copied ≡ take n (take most (drop at all)) → drop at all ≡ take n copied ++ drop (at + n) all
front_moved all copied at n most le same =
    sym (take-append-drop n (drop at all)) ∙ ap (λ (t : List ℕ). take n (drop at all) ++ t) (drop-drop n at all) ∙ ap (λ (t : List ℕ). t ++ drop (at + n) all) (sym (take-take n most (drop at all) le) ∙ sym same)

pub rest_moved : (all copied : List ℕ) (at n : ℕ) → take n copied ≡ take n (drop at all) → drop at all ≡ take n copied ++ drop (at + n) all
rest_moved all copied at n same =
    sym (take-append-drop n (drop at all)) ∙ ap (λ (t : List ℕ). take n (drop at all) ++ t) (drop-drop n at all) ∙ ap (λ (t : List ℕ). t ++ drop (at + n) all) (sym same)
