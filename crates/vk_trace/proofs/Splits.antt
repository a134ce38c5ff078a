-- The words of a text, and the text of some words.
use Rattle.std.proofs.Common.{◌≡◌, ℕ, Bool, true, false, cond, eqb, List, [], ◌∷◌, ◌++◌, refl, sym, ap, ◌∙◌}
use Rattle.std.proofs.lemmas.Bool.{eqb-true, eq-eqb}
use Rattle.vk_trace.specs.ListText.{join, rest_of}
use Rattle.text_words.proofs.Cutting.{no_stop}
use Rattle.vk_trace.specs.Reading.{onto, split, left_words}
use Rattle.text_words.specs.Words.{Lacks, StopsAt, Cut}

-- the words behind the first separator
pub left : ℕ → List ℕ → List (List ℕ)
left c [] = []
left c (x ∷ xs) = split c xs

differ : (x c : ℕ) (b : Bool) → eqb x c ≡ b → (x ≡ c → ⊥) → b ≡ false
differ x c true e ne = absurd (ne (eqb-true x c e))
differ x c false e ne = refl

front : (c : ℕ) (word rest : List ℕ) → Lacks c word → StopsAt c rest → split c (word ++ rest) ≡ word ∷ left c rest
unfolding split left
front c [] [] lacks stops = refl
front c [] (x ∷ xs) lacks stops = ap (λ (b : Bool). cond b ([] ∷ split c xs) (onto x (split c xs))) (eq-eqb x c stops)
front c (w ∷ word) rest lacks stops =
    ap (λ (b : Bool). cond b ([] ∷ split c (word ++ rest)) (onto w (split c (word ++ rest)))) (differ w c (eqb w c) refl lacks.0)
    ∙ ap (onto w) (front c word rest lacks.1 stops)

pub split_cut : (c : ℕ) (text word rest : List ℕ) → Cut c text word rest → split c text ≡ word ∷ left c rest
split_cut c text word rest cut = ap (split c) cut.spelled ∙ front c word rest cut.lacks cut.stops

-- ---- a text has a word at least

onto_some : (x : ℕ) (ws : List (List ℕ)) → onto x ws ≡ [] → ⊥
onto_some x [] e = cc
onto_some x (w ∷ ws) e = cc

step_some : (b : Bool) (x : ℕ) (ws : List (List ℕ)) → cond b ([] ∷ ws) (onto x ws) ≡ [] → ⊥
step_some true x ws e = cc
step_some false x ws e = onto_some x ws e

pub split_some : (c : ℕ) (text : List ℕ) → split c text ≡ [] → ⊥
unfolding split
split_some c [] e = cc
split_some c (x ∷ xs) e = step_some (eqb x c) x (split c xs) e

-- ---- the words of a text make up that text

rest_join : (c : ℕ) (ws : List (List ℕ)) → (ws ≡ [] → ⊥) → rest_of c ws ≡ c ∷ join c ws
rest_join c [] some = absurd (some refl)
rest_join c (w ∷ ws) some = refl

join_onto : (c x : ℕ) (ws : List (List ℕ)) → join c (onto x ws) ≡ x ∷ join c ws
join_onto c x [] = refl
join_onto c x (w ∷ ws) = refl

join_step : (c x : ℕ) (ws : List (List ℕ)) (b : Bool) → eqb x c ≡ b → (ws ≡ [] → ⊥) → join c (cond b ([] ∷ ws) (onto x ws)) ≡ x ∷ join c ws
join_step c x ws true e some = rest_join c ws some ∙ ap (λ (y : ℕ). y ∷ join c ws) (sym (eqb-true x c e))
join_step c x ws false e some = join_onto c x ws

pub join_split : (c : ℕ) (text : List ℕ) → join c (split c text) ≡ text
unfolding split
join_split c [] = refl
join_split c (x ∷ xs) = join_step c x (split c xs) (eqb x c) refl (split_some c xs) ∙ ap (λ (l : List ℕ). x ∷ l) (join_split c xs)

-- ---- words without separators are those of their text

unfoldable pub AllLack : ℕ → List (List ℕ) → Type 0
AllLack c [] = Unit {0}
AllLack c (w ∷ ws) = Lacks c w × AllLack c ws

stops_rest : (c : ℕ) (ws : List (List ℕ)) → StopsAt c (rest_of c ws)
stops_rest c [] = tt
stops_rest c (w ∷ ws) = refl

left_rest : (c : ℕ) (ws : List (List ℕ)) → AllLack c ws → left c (rest_of c ws) ≡ ws
unfolding left AllLack
left_rest c [] all = refl
left_rest c (w ∷ ws) all = front c w (rest_of c ws) all.0 (stops_rest c ws) ∙ ap (λ (l : List (List ℕ)). w ∷ l) (left_rest c ws all.1)

pub split_join : (c : ℕ) (w : List ℕ) (ws : List (List ℕ)) → AllLack c (w ∷ ws) → split c (join c (w ∷ ws)) ≡ w ∷ ws
unfolding AllLack
split_join c w ws all = front c w (rest_of c ws) all.0 (stops_rest c ws) ∙ ap (λ (l : List (List ℕ)). w ∷ l) (left_rest c ws all.1)

-- ---- a reader of words

pub next_words : (c : ℕ) (ended : Bool) (text word rest : List ℕ) → ended ≡ false → Cut c text word rest → left_words c ended text ≡ word ∷ left c rest
next_words c ended text word rest going cut = ap (λ (b : Bool). left_words c b text) going ∙ split_cut c text word rest cut

pub left_some : (c : ℕ) (rest more : List ℕ) → rest ≡ c ∷ more → left c rest ≡ split c more
unfolding left
left_some c rest more e = ap (left c) e

pub left_none : (c : ℕ) (rest : List ℕ) → rest ≡ [] → left c rest ≡ []
unfolding left
left_none c rest e = ap (left c) e

pub none_left_words : (c : ℕ) (ended : Bool) (text : List ℕ) → ended ≡ false → left_words c ended text ≡ [] → ⊥
none_left_words c ended text going e = split_some c text (sym (ap (λ (b : Bool). left_words c b text) going) ∙ e)

pub next_some : (c : ℕ) (ended : Bool) (text word rest more : List ℕ) (now next : List (List ℕ)) → ended ≡ false → now ≡ left_words c ended text → Cut c text word rest → rest ≡ c ∷ more
    → next ≡ left_words c ended more → now ≡ word ∷ next
next_some c ended text word rest more now next going is cut e then =
    let after : left c rest ≡ next = left_some c rest more e ∙ sym (then ∙ ap (λ (b : Bool). left_words c b more) going) in
    is ∙ next_words c ended text word rest going cut ∙ ap (λ (l : List (List ℕ)). word ∷ l) after

pub next_none : (c : ℕ) (ended : Bool) (text word rest : List ℕ) (now next : List (List ℕ)) → ended ≡ false → now ≡ left_words c ended text → Cut c text word rest → ((more : List ℕ) → rest ≡ c ∷ more → ⊥)
    → next ≡ [] → now ≡ word ∷ next
next_none c ended text word rest now next going is cut none then =
    let after : left c rest ≡ next = left_none c rest (no_stop c rest cut.stops none) ∙ sym then in
    is ∙ next_words c ended text word rest going cut ∙ ap (λ (l : List (List ℕ)). word ∷ l) after

pub split_words : (c : ℕ) (ws : List (List ℕ)) → (ws ≡ [] → ⊥) → AllLack c ws → split c (join c ws) ≡ ws
split_words c [] some all = absurd (some refl)
split_words c (w ∷ ws) some all = split_join c w ws all
