-- Texts of listings, as they are read.
use Rattle.std.proofs.Common.{◌≡◌, ℕ, ◌+◌, ◌<◌, true, List, [], ◌∷◌, ◌++◌, length, drop, refl, sym, ap, subst, ◌∙◌, append_assoc, arith}
use Rattle.std.specs.List.{AllByRecursion}
use Rattle.std.proofs.lemmas.List.{length-append, append-nil}
use Rattle.vk_types.specs.declared.op.VkOp.{VkOp}
use Rattle.vk_trace.specs.ListText.{IsOp, IsFirstBad, join, rest_of, op_words, line, text_of}
use Rattle.vk_trace.specs.Reading.{NoLine, Reads, ReadsLine}
use Rattle.text_words.specs.Words.{Lacks, Cut}
use Rattle.vk_trace.proofs.Above.{above, all_above, both, lacks_above}
use Rattle.text_words.proofs.Cutting.{same_cut}
use Rattle.vk_trace.proofs.Ops.{above_op}

-- ---- no line feed stands in a line

Lacks-append : (c : ℕ) (xs ys : List ℕ) → Lacks c xs → Lacks c ys → Lacks c (xs ++ ys)
Lacks-append c [] ys p q = q
Lacks-append c (x ∷ xs) ys p q = (p.0, Lacks-append c xs ys p.1 q)

lacks_rest : (ws : List (List ℕ)) → all_above 43 ws ≡ true → Lacks 10 (rest_of 32 ws)
lacks_rest [] p = tt
lacks_rest (w ∷ ws) p =
    let q = both (above 43 w) (all_above 43 ws) p in
    ((λ e. absurd (omega arith)), Lacks-append 10 w (rest_of 32 ws) (lacks_above 43 10 w (omega arith) q.0) (lacks_rest ws q.1))

lacks_join : (ws : List (List ℕ)) → all_above 43 ws ≡ true → Lacks 10 (join 32 ws)
lacks_join [] p = tt
lacks_join (w ∷ ws) p =
    let q = both (above 43 w) (all_above 43 ws) p in
    Lacks-append 10 w (rest_of 32 ws) (lacks_above 43 10 w (omega arith) q.0) (lacks_rest ws q.1)

pub no_feed : (o : VkOp) → IsOp o → Lacks 10 (join 32 (op_words o))
no_feed o g = lacks_join (op_words o) (above_op o g)

pub line_then : (o : VkOp) (more : List ℕ) → line o ++ more ≡ join 32 (op_words o) ++ 10 ∷ more
unfolding line
line_then o more = append_assoc (join 32 (op_words o)) (10 ∷ []) more

pub line_cut : (o : VkOp) (rest bare after more : List ℕ) → IsOp o → Cut 10 rest bare (10 ∷ after) → rest ≡ line o ++ more → (bare ≡ join 32 (op_words o)) × (after ≡ more)
line_cut o rest bare after more g cut e =
    let same = same_cut 10 bare (join 32 (op_words o)) (10 ∷ after) (10 ∷ more) cut.lacks (no_feed o g) refl refl (sym cut.spelled ∙ e ∙ line_then o more) in
    (same.0, ap (drop 1) same.1)

-- ---- a text as it is read

all_push : (ops : List VkOp) (o : VkOp) → AllByRecursion IsOp ops → IsOp o → AllByRecursion IsOp (ops ++ o ∷ [])
all_push [] o all g = (g, tt)
all_push (p ∷ ops) o all g = (all.0, all_push ops o all.1 g)

text_push : (ops : List VkOp) (o : VkOp) (rest : List ℕ) → text_of (ops ++ o ∷ []) ++ rest ≡ text_of ops ++ (line o ++ rest)
text_push [] o rest = ap (λ (l : List ℕ). l ++ rest) (append-nil (line o))
text_push (p ∷ ops) o rest =
    append_assoc (line p) (text_of (ops ++ o ∷ [])) rest ∙ ap (λ (l : List ℕ). line p ++ l) (text_push ops o rest) ∙ sym (append_assoc (line p) (text_of ops) (line o ++ rest))

pub reads_more : (text rest bare after : List ℕ) (ops new : List VkOp) (o : VkOp) (n : ℕ) → Reads text rest ops n → Cut 10 rest bare (10 ∷ after) → ReadsLine bare o → new ≡ ops ++ o ∷ [] → Reads text after new (n + 1)
reads_more text rest bare after ops new o n r cut l is =
    subst (λ (all : List VkOp). Reads text after all (n + 1)) (sym is) (record {
      each = all_push ops o r.each l.good;
      spelled =
          r.spelled
          ∙ ap (λ (t : List ℕ). text_of ops ++ t) (cut.spelled ∙ ap (λ (t : List ℕ). t ++ 10 ∷ after) l.spelled ∙ sym (line_then o after))
          ∙ sym (text_push ops o after);
      counted = omega (arith, r.counted, length-append ops (o ∷ []));
    })

pub bad_line : (text rest : List ℕ) (ops : List VkOp) (n : ℕ) → Reads text rest ops n → 0 < length rest → ((o : VkOp) (more : List ℕ) → IsOp o → rest ≡ line o ++ more → ⊥) → IsFirstBad text n
bad_line text rest ops n r more none = record { ops = ops; rest = rest; spelled = r.spelled; each = r.each; more = more; no_line = none; number = r.counted }

-- nothing ends a line
pub bad_unended : (text rest : List ℕ) (ops : List VkOp) (n : ℕ) → Reads text rest ops n → 0 < length rest → ((bare more : List ℕ) → rest ≡ bare ++ 10 ∷ more → ⊥) → IsFirstBad text n
bad_unended text rest ops n r more none = bad_line text rest ops n r more (λ o behind g e. none (join 32 (op_words o)) behind (e ∙ line_then o behind))

-- a line is no operation's
pub bad_words : (text rest bare after : List ℕ) (ops : List VkOp) (n : ℕ) → Reads text rest ops n → 0 < length rest → Cut 10 rest bare (10 ∷ after) → NoLine bare → IsFirstBad text n
bad_words text rest bare after ops n r more cut none = bad_line text rest ops n r more (λ o behind g e. none o g (line_cut o rest bare after behind g cut e).0)
