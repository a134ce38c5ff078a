-- The words of masks: how they are cut, and that no two masks have the same.
use Rattle.std.proofs.Common.{◌≡◌, ◌≢◌, ℕ, zero, suc, ◌<◌, ◌⊎◌, inl, inr, Bool, true, false, cond, eqb, ◌&&◌, List, [], ◌∷◌, ◌++◌, drop, Option, Some, None, refl, sym, ap, subst, ◌∙◌, append_assoc, arith}
use Rattle.std.specs.Prelude.{codes, MatchOption}
use Rattle.std.proofs.lemmas.Bool.{eqb-true}
use Rattle.std.proofs.lemmas.List.{append-nil}
use Rattle.vk_types.specs.declared.access.Access.{Access}
use Rattle.vk_types.specs.declared.access.Mask.{Mask}
use Rattle.vk_trace.specs.ListText.{IsAccess, IsMask, access_word, alike, alike_of, listed, listed_of, mask_word, part, parts, stage_parts, join}
use Rattle.vk_trace.specs.Reading.{BadPart, IsPart, HaveAccesses, split}
use Rattle.text_words.specs.Words.{IsRead}
use Rattle.vk_trace.proofs.Above.{above, above_append, above_cond, all_above, all_above_append, all_lack, and, both}
use Rattle.vk_trace.proofs.Splits.{split_words, join_split}

-- ---- accesses

below_four : (n : ℕ) → n < 4 → (n ≡ 0) ⊎ ((n ≡ 1) ⊎ ((n ≡ 2) ⊎ (n ≡ 3)))
below_four zero lt = inl refl
below_four (suc zero) lt = inr (inl refl)
below_four (suc (suc zero)) lt = inr (inr (inl refl))
below_four (suc (suc (suc n))) lt = inr (inr (inr (omega arith)))

word_of : ℕ → List ℕ
word_of n = access_word (record { 0 = n })

-- the number of an access, from its word
number_of : List ℕ → ℕ
number_of [] = 0
number_of (x ∷ []) = cond (eqb x 45) 0 (cond (eqb x 114) 1 2)
number_of (x ∷ y ∷ ys) = 3

number_back : (n : ℕ) → n < 4 → number_of (word_of n) ≡ n
unfolding number_of word_of
number_back n lt =
    elim (below_four n lt) [
      | inl e ↦ subst (λ (k : ℕ). number_of (word_of k) ≡ k) (sym e) refl
      | inr (inl e) ↦ subst (λ (k : ℕ). number_of (word_of k) ≡ k) (sym e) refl
      | inr (inr (inl e)) ↦ subst (λ (k : ℕ). number_of (word_of k) ≡ k) (sym e) refl
      | inr (inr (inr e)) ↦ subst (λ (k : ℕ). number_of (word_of k) ≡ k) (sym e) refl
    ]

pub same_access : (a b : Access) → a.0 < 4 → b.0 < 4 → access_word a ≡ access_word b → a ≡ b
unfolding word_of
same_access a b p q e =
    let same : a.0 ≡ b.0 = sym (number_back a.0 p) ∙ ap number_of e ∙ number_back b.0 q in
    λ i. record { 0 = same i }

above_access : (a : Access) → above 44 (access_word a) ≡ true
above_access a = above_cond 44 (eqb a.0 0) _ _ refl (above_cond 44 (eqb a.0 1) _ _ refl (above_cond 44 (eqb a.0 2) _ _ refl refl))

-- ---- parts

behind_front : (xs ys zs : List ℕ) → xs ++ ys ≡ xs ++ zs → ys ≡ zs
behind_front [] ys zs e = e
behind_front (x ∷ xs) ys zs e = behind_front xs ys zs (ap (drop 1) e)

-- the names behind their first letters
abbrev all_name : List ℕ
all_name = drop 1 (codes "all:")

abbrev indirect_name : List ℕ
indirect_name = drop 1 (codes "indirect:")

abbrev compute_name : List ℕ
compute_name = drop 1 (codes "compute:")

abbrev transfer_name : List ℕ
transfer_name = drop 1 (codes "transfer:")

abbrev host_name : List ℕ
host_name = drop 1 (codes "host:")

-- the first word, if there is one, doesn't begin with c
pub Skips : ℕ → List (List ℕ) → Type 0
Skips c [] = Unit {0}
Skips c ([] ∷ ws) = Unit {0}
Skips c ((x ∷ w) ∷ ws) = x ≡ c → ⊥

skips_part : (c d : ℕ) (name : List ℕ) (o : Option Access) (ws : List (List ℕ)) → (d ≡ c → ⊥) → Skips c ws → Skips c (part (d ∷ name) o ++ ws)
unfolding Skips
skips_part c d name None ws ne skips = skips
skips_part c d name (Some a) ws ne skips = ne

no_skip : (c : ℕ) (word : List ℕ) (ws more : List (List ℕ)) → Skips c ws → ws ≡ (c ∷ word) ∷ more → ⊥
unfolding Skips
no_skip c word ws more skips e = let here : Skips c ((c ∷ word) ∷ more) = subst (Skips c) e skips in here refl

-- a part that was read is the one that is spelled
pub part_is : (c : ℕ) (name : List ℕ) (old rest behind : List (List ℕ)) (x y : Option Access) → IsPart (c ∷ name) old rest x → IsAccess y → old ≡ part (c ∷ name) y ++ behind → Skips c behind
    → (x ≡ y) × (rest ≡ behind)
part_is c name old rest behind None None p q f skips = (refl, sym p.spelled ∙ f)
part_is c name old rest behind None (Some b) p q f skips = absurd (p.absent refl (access_word b) behind f)
part_is c name old rest behind (Some a) None p q f skips = absurd (no_skip c (name ++ access_word a) behind rest skips (sym f ∙ p.spelled))
part_is c name old rest behind (Some a) (Some b) p q f skips =
    let both : ((c ∷ name) ++ access_word a) ∷ rest ≡ ((c ∷ name) ++ access_word b) ∷ behind = sym p.spelled ∙ f in
    let word : name ++ access_word a ≡ name ++ access_word b = cc in
    let others : rest ≡ behind = cc in
    let same = same_access a b p.fits q (behind_front name _ _ word) in
    (ap (λ (z : Access). Some z) same, others)

-- a part that is bad is spelled by none
pub part_bad : (c : ℕ) (name : List ℕ) (old behind : List (List ℕ)) (y : Option Access) → BadPart (c ∷ name) old → IsAccess y → old ≡ part (c ∷ name) y ++ behind → Skips c behind → ⊥
part_bad c name old behind None bad q f skips = no_skip c (name ++ bad.rest) behind bad.more skips (sym f ∙ bad.is)
part_bad c name old behind (Some b) bad q f skips =
    let both : ((c ∷ name) ++ bad.rest) ∷ bad.more ≡ ((c ∷ name) ++ access_word b) ∷ behind = sym bad.is ∙ f in
    let word : name ++ bad.rest ≡ name ++ access_word b = cc in
    bad.none b q (behind_front name _ _ word)

Skips-nil : (c : ℕ) → Skips c []
unfolding Skips
Skips-nil c = tt

pub skips_host : (c : ℕ) (m : Mask) → (104 ≡ c → ⊥) → Skips c (part (codes "host:") m.host)
skips_host c m h = subst (Skips c) (append-nil (part (codes "host:") m.host)) (skips_part c 104 host_name m.host [] h (Skips-nil c))

pub skips_transfer : (c : ℕ) (m : Mask) → (116 ≡ c → ⊥) → (104 ≡ c → ⊥) → Skips c (part (codes "transfer:") m.transfer ++ part (codes "host:") m.host)
skips_transfer c m t h = skips_part c 116 transfer_name m.transfer _ t (skips_host c m h)

pub skips_compute : (c : ℕ) (m : Mask) → (99 ≡ c → ⊥) → (116 ≡ c → ⊥) → (104 ≡ c → ⊥) → Skips c (part (codes "compute:") m.compute ++ (part (codes "transfer:") m.transfer ++ part (codes "host:") m.host))
skips_compute c m n t h = skips_part c 99 compute_name m.compute _ n (skips_transfer c m t h)

pub skips_stages : (c : ℕ) (m : Mask) → (105 ≡ c → ⊥) → (99 ≡ c → ⊥) → (116 ≡ c → ⊥) → (104 ≡ c → ⊥) → Skips c (stage_parts m)
skips_stages c m i n t h = skips_part c 105 indirect_name m.indirect _ i (skips_compute c m n t h)

-- ---- the stages of a mask

mask_of : Option Access → Option Access → Option Access → Option Access → Mask
mask_of i c t h = record { indirect = i; compute = c; transfer = t; host = h }

last : (m : Mask) → part (codes "host:") m.host ≡ part (codes "host:") m.host ++ []
last m = sym (append-nil (part (codes "host:") m.host))

pub stages_read : (old second third fourth new : List (List ℕ)) (m : Mask) → IsPart (codes "indirect:") old second m.indirect → IsPart (codes "compute:") second third m.compute
    → IsPart (codes "transfer:") third fourth m.transfer → IsPart (codes "host:") fourth new m.host
    → HaveAccesses m × (old ≡ stage_parts m ++ new) × ((n : Mask) → HaveAccesses n → old ≡ stage_parts n → (m ≡ n) × (new ≡ []))
stages_read old second third fourth new m i c t h = (
  record { indirect = i.fits; compute = c.fits; transfer = t.fits; host = h.fits },
  spelled,
  λ n all e.
      let one = part_is 105 indirect_name old second _ m.indirect n.indirect i all.indirect e (skips_compute 105 n (λ f. absurd (omega arith)) (λ f. absurd (omega arith)) (λ f. absurd (omega arith))) in
      let two = part_is 99 compute_name second third _ m.compute n.compute c all.compute one.1 (skips_transfer 99 n (λ f. absurd (omega arith)) (λ f. absurd (omega arith))) in
      let three = part_is 116 transfer_name third fourth _ m.transfer n.transfer t all.transfer two.1 (skips_host 116 n (λ f. absurd (omega arith))) in
      let four = part_is 104 host_name fourth new [] m.host n.host h all.host (three.1 ∙ last n) (Skips-nil 104) in
      (λ j. record { indirect = one.0 j; compute = two.0 j; transfer = three.0 j; host = four.0 j }, four.1),
)
  where
    spelled : old ≡ stage_parts m ++ new
    spelled =
        i.spelled
        ∙ ap (λ (l : List (List ℕ)). part (codes "indirect:") m.indirect ++ l)
        (c.spelled
        ∙ ap (λ (l : List (List ℕ)). part (codes "compute:") m.compute ++ l)
        (t.spelled ∙ ap (λ (l : List (List ℕ)). part (codes "transfer:") m.transfer ++ l) h.spelled
        ∙ sym (append_assoc (part (codes "transfer:") m.transfer) (part (codes "host:") m.host) new))
        ∙ sym (append_assoc (part (codes "compute:") m.compute) (part (codes "transfer:") m.transfer ++ part (codes "host:") m.host) new))
        ∙ sym (append_assoc (part (codes "indirect:") m.indirect) (part (codes "compute:") m.compute ++ (part (codes "transfer:") m.transfer ++ part (codes "host:") m.host)) new)

-- ---- the parts of a mask

above_part : (name : List ℕ) (o : Option Access) → above 44 name ≡ true → all_above 44 (part name o) ≡ true
above_part name None p = refl
above_part name (Some a) p = and _ true (above_append 44 name (access_word a) p (above_access a)) refl

above_stages : (m : Mask) → all_above 44 (stage_parts m) ≡ true
above_stages m =
    let host : List (List ℕ) = part (codes "host:") m.host in
    let transfer : List (List ℕ) = part (codes "transfer:") m.transfer in
    let compute : List (List ℕ) = part (codes "compute:") m.compute in
    all_above_append 44 (part (codes "indirect:") m.indirect) (compute ++ (transfer ++ host)) (above_part (codes "indirect:") m.indirect refl)
    (all_above_append 44 compute (transfer ++ host) (above_part (codes "compute:") m.compute refl)
    (all_above_append 44 transfer host (above_part (codes "transfer:") m.transfer refl) (above_part (codes "host:") m.host refl)))

pub above_parts : (m : Mask) → all_above 44 (parts m) ≡ true
above_parts m = all_above_append 44 (part (codes "all:") (alike m)) (stage_parts (listed m)) (above_part (codes "all:") (alike m) refl) (above_stages (listed m))

some_part : (m : Mask) (o : Option Access) → stage_parts m ≢ [] → part (codes "all:") o ++ stage_parts (listed_of o m) ≡ [] → ⊥
some_part m None some e = some e
some_part m (Some a) some e = cc e

pub mask_parts : (m : Mask) (word : List ℕ) → IsMask m → word ≡ mask_word m → split 44 word ≡ parts m
mask_parts m word is e = ap (split 44) e ∙ split_words 44 (parts m) (some_part m (alike m) is.some) (all_lack 44 44 (parts m) (omega arith) (above_parts m))

have_listed : (o : Option Access) (m : Mask) → IsMask m → HaveAccesses (listed_of o m)
have_listed None m is = record { indirect = is.indirect; compute = is.compute; transfer = is.transfer; host = is.host }
have_listed (Some a) m is = record { indirect = tt; compute = tt; transfer = tt; host = tt }

is_alike : (i c t h : Option Access) → IsAccess i → IsAccess (alike_of i c t h)
is_alike (Some a) (Some b) (Some c) None p = is_cond (eqb a.0 b.0 && eqb b.0 c.0) a p
  where
    is_cond : (r : Bool) (a : Access) → a.0 < 4 → IsAccess (cond r (Some a) None)
    is_cond true a p = p
    is_cond false a p = tt
is_alike (Some a) (Some b) (Some c) (Some d) p = tt
is_alike (Some a) (Some b) None h p = tt
is_alike (Some a) None t h p = tt
is_alike None c t h p = tt

-- what `all:` was read as, and what is left for the stages
pub all_is : (m : Mask) (word : List ℕ) (old rest : List (List ℕ)) (x : Option Access) → old ≡ split 44 word → IsPart (codes "all:") old rest x → IsMask m → word ≡ mask_word m
    → (x ≡ alike m) × (rest ≡ stage_parts (listed m))
all_is m word old rest x is p good e =
    part_is 97 all_name old rest (stage_parts (listed m)) x (alike m) p (is_alike m.indirect m.compute m.transfer m.host good.indirect) (is ∙ mask_parts m word good e)
    (skips_stages 97 (listed m) (λ f. absurd (omega arith)) (λ f. absurd (omega arith)) (λ f. absurd (omega arith)) (λ f. absurd (omega arith)))

pub all_bad : (m : Mask) (word : List ℕ) (old : List (List ℕ)) → old ≡ split 44 word → BadPart (codes "all:") old → IsMask m → word ≡ mask_word m → ⊥
all_bad m word old is bad good e =
    part_bad 97 all_name old (stage_parts (listed m)) (alike m) bad (is_alike m.indirect m.compute m.transfer m.host good.indirect) (is ∙ mask_parts m word good e)
    (skips_stages 97 (listed m) (λ f. absurd (omega arith)) (λ f. absurd (omega arith)) (λ f. absurd (omega arith)) (λ f. absurd (omega arith)))

pub listed_accesses : (m : Mask) → IsMask m → HaveAccesses (listed m)
listed_accesses m is = have_listed (alike m) m is

-- the mask that was read, or none
pub mask_read : (word : List ℕ) (old rest last : List (List ℕ)) (x : Option Access) (s : Mask) (found : Option Mask) → old ≡ split 44 word → IsPart (codes "all:") old rest x
    → HaveAccesses s × (rest ≡ stage_parts s ++ last) × ((n : Mask) → HaveAccesses n → rest ≡ stage_parts n → (s ≡ n) × (last ≡ [])) → last ≡ []
    → MatchOption found ((m : Mask) → IsMask m → alike m ≡ x → listed m ≡ s → ⊥) (λ m. IsMask m × (alike m ≡ x) × (listed m ≡ s)) → IsRead IsMask mask_word word found
mask_read word old rest last x s None is p stages none whole = λ m good e.
    let all = all_is m word old rest x is p good e in
    whole m good (sym all.0) (sym (stages.2 (listed m) (listed_accesses m good) all.1).0)
mask_read word old rest last x s (Some m) is p stages none whole = (
  whole.0,
  sym (join_split 44 word) ∙ ap (join 44)
      (sym is ∙ p.spelled
      ∙ ap (λ (l : List (List ℕ)). part (codes "all:") x ++ l) (stages.1 ∙ ap (λ (l : List (List ℕ)). stage_parts s ++ l) none ∙ append-nil (stage_parts s))
      ∙ ap (λ (o : Option Access). part (codes "all:") o ++ stage_parts s) (sym whole.1) ∙ ap (λ (n : Mask). part (codes "all:") (alike m) ++ stage_parts n) (sym whole.2)),
)

-- ---- no two masks have one word

absent_part : (c : ℕ) (o : Option Access) (name rest : List ℕ) (ws more : List (List ℕ)) → o ≡ None → Skips c ws → part (c ∷ name) o ++ ws ≡ (c ∷ rest) ∷ more → ⊥
absent_part c None name rest ws more e skips f = no_skip c rest ws more skips f
absent_part c (Some a) name rest ws more e skips f = cc e

-- a part that is spelled is read
own_part : (c : ℕ) (name : List ℕ) (o : Option Access) (ws : List (List ℕ)) → IsAccess o → Skips c ws → IsPart (c ∷ name) (part (c ∷ name) o ++ ws) ws o
own_part c name o ws fits skips = record { fits = fits; spelled = refl; absent = λ none rest more f. absent_part c o name (name ++ rest) ws more none skips f }

same_stages : (m n : Mask) → HaveAccesses m → HaveAccesses n → stage_parts m ≡ stage_parts n → m ≡ n
same_stages m n p q e =
    let host : List (List ℕ) = part (codes "host:") m.host ++ [] in
    let transfer : List (List ℕ) = part (codes "transfer:") m.transfer ++ host in
    let compute : List (List ℕ) = part (codes "compute:") m.compute ++ transfer in
    let skips_h = λ (c : ℕ) (h : 104 ≡ c → ⊥). skips_part c 104 host_name m.host [] h (Skips-nil c) in
    let skips_t = λ (c : ℕ) (t : 116 ≡ c → ⊥) (h : 104 ≡ c → ⊥). skips_part c 116 transfer_name m.transfer host t (skips_h c h) in
    let skips_c = λ (c : ℕ) (n : 99 ≡ c → ⊥) (t : 116 ≡ c → ⊥) (h : 104 ≡ c → ⊥). skips_part c 99 compute_name m.compute transfer n (skips_t c t h) in
    let whole : part (codes "indirect:") m.indirect ++ compute ≡ stage_parts m =
    ap (λ (l : List (List ℕ)). part (codes "indirect:") m.indirect ++ (part (codes "compute:") m.compute ++ (part (codes "transfer:") m.transfer ++ l))) (append-nil (part (codes "host:") m.host)) in
    ((stages_read _ compute transfer host [] m
    (own_part 105 indirect_name m.indirect compute p.indirect (skips_c 105 (λ f. absurd (omega arith)) (λ f. absurd (omega arith)) (λ f. absurd (omega arith))))
    (own_part 99 compute_name m.compute transfer p.compute (skips_t 99 (λ f. absurd (omega arith)) (λ f. absurd (omega arith))))
    (own_part 116 transfer_name m.transfer host p.transfer (skips_h 116 (λ f. absurd (omega arith))))
    (own_part 104 host_name m.host [] p.host (Skips-nil 104))).2 n q (whole ∙ e)).0

-- the stages of the device, with this access
device_of : Access → Mask
device_of a = mask_of (Some a) (Some a) (Some a) None

same_number : (a b : Access) → eqb a.0 b.0 ≡ true → b ≡ a
same_number a b e = let same : b.0 ≡ a.0 = sym (eqb-true a.0 b.0 e) in λ i. record { 0 = same i }

alike_cond : (r : Bool) (a d : Access) → cond r (Some a) None ≡ Some d → (r ≡ true) × (a ≡ d)
alike_cond true a d e = (refl, cc e)
alike_cond false a d e = absurd (cc e)

alike_some : (i c t h : Option Access) (d : Access) → alike_of i c t h ≡ Some d → mask_of i c t h ≡ device_of d
unfolding device_of mask_of
alike_some (Some a) (Some b) (Some c) None d e =
    let r = alike_cond (eqb a.0 b.0 && eqb b.0 c.0) a d e in
    let parts = both (eqb a.0 b.0) (eqb b.0 c.0) r.0 in
    let first : a ≡ d = r.1 in
    let second : b ≡ d = same_number a b parts.0 ∙ first in
    let third : c ≡ d = same_number b c parts.1 ∙ second in
    λ j. record { indirect = Some (first j); compute = Some (second j); transfer = Some (third j); host = None }
alike_some (Some a) (Some b) (Some c) (Some h) d e = absurd (cc e)
alike_some (Some a) (Some b) None h d e = absurd (cc e)
alike_some (Some a) None t h d e = absurd (cc e)
alike_some None c t h d e = absurd (cc e)

same_of : (m n : Mask) (x y : Option Access) → alike m ≡ x → alike n ≡ y → x ≡ y → listed_of x m ≡ listed_of y n → m ≡ n
unfolding mask_of
same_of m n None None p q e l = l
same_of m n None (Some b) p q e l = absurd (cc e)
same_of m n (Some a) None p q e l = absurd (cc e)
same_of m n (Some a) (Some b) p q e l =
    let same : a ≡ b = cc e in
    let one : m ≡ device_of a = alike_some m.indirect m.compute m.transfer m.host a p in
    let two : n ≡ device_of b = alike_some n.indirect n.compute n.transfer n.host b q in
    one ∙ ap device_of same ∙ sym two

pub same_mask : (m n : Mask) → IsMask m → IsMask n → mask_word m ≡ mask_word n → m ≡ n
same_mask m n p q e =
    let of_m = mask_parts m (mask_word m) p refl in
    let skips = skips_stages 97 (listed m) (λ f. absurd (omega arith)) (λ f. absurd (omega arith)) (λ f. absurd (omega arith)) (λ f. absurd (omega arith)) in
    let fits = is_alike m.indirect m.compute m.transfer m.host p.indirect in
    let all = all_is n (mask_word m) (parts m) (stage_parts (listed m)) (alike m) (sym of_m) (own_part 97 all_name (alike m) _ fits skips) q e in
    same_of m n (alike m) (alike n) refl refl all.0 (same_stages (listed m) (listed n) (listed_accesses m p) (listed_accesses n q) all.1)
