-- Each call is answered once, so a run's map of pending calls has of each what its one answer says.
use Rattle.std.proofs.Common.{◌≡◌, ℕ, zero, suc, ◌≤◌, ◌==◌, Bool, true, false, cond, List, [], ◌∷◌, ◌++◌, Option}
use Rattle.std.proofs.Common.{Some, None, refl, sym, ap, ◌∙◌, subst, append-nil, arith}
use Rattle.std.specs.Prelude.{⊤}
use Rattle.std.specs.List.{AllByRecursion, flat_map}
use Rattle.std.specs.Ordering.{nat_cmp, eq_by_cmp}
use Rattle.std.proofs.lemmas.Bool.Decides.{nat_tests}
use Rattle.dx_types.specs.declared.reply.Reply.{Reply}
use Rattle.base_lemmas.proofs.Lists.{all_append}
use Rattle.call_log.specs.Call.{Issued}
use Rattle.base_lemmas.specs.IdMap.{get}
use Rattle.d3d_model.specs.ReplyText.{none_pending, reply_at}
use Rattle.base_lemmas.proofs.Maps.{get-empty, get-insert}
use Rattle.core_model.specs.CoreState.{Said, Bytes_said, Value_said, Still_said, Refused_said, End_said}
use Rattle.core_model.specs.Runs.{pending_in}
use Rattle.log_script.specs.RunText.{pending_map}
use Rattle.log_script.specs.Said.{said_call, replied, replying}

-- ---- the map answers as the replies do

keys_alike : (n call : ℕ) → eq_by_cmp nat_cmp n call ≡ (call == n)
keys_alike n call = grind (arith, nat_tests)

pub pending_gets : (rs : List Said) (n : ℕ) → get (pending_map rs) n ≡ pending_in rs n
pending_gets [] n = get-empty ℕ n
pending_gets (Bytes_said call bytes ∷ rs) n = pending_gets rs n
pending_gets (Value_said call value ∷ rs) n = pending_gets rs n
pending_gets (Still_said call used finished ∷ rs) n =
    get-insert (pending_map rs) call finished n
    ∙ ap (λ (o : Option ℕ). cond (eq_by_cmp nat_cmp n call) (Some finished) o) (pending_gets rs n)
    ∙ ap (λ (b : Bool). cond b (Some finished) (pending_in rs n)) (keys_alike n call)
pending_gets (Refused_said call ∷ rs) n = pending_gets rs n
pending_gets (End_said ∷ rs) n = pending_gets rs n

-- ---- no number stands twice

abbrev pub Apart : ℕ → ℕ → Type 0
Apart n m = n ≡ m → ⊥

abbrev pub Distinct : List ℕ → Type 0
Distinct [] = ⊤
Distinct (n ∷ ns) = AllByRecursion (Apart n) ns × Distinct ns

weaker : (P Q : ℕ → Type 0) → ((n : ℕ) → P n → Q n) → (ns : List ℕ) → AllByRecursion P ns → AllByRecursion Q ns
weaker P Q f [] h = tt
weaker P Q f (n ∷ ns) h = (f n h.0, weaker P Q f ns h.1)

distinct_then : (ns : List ℕ) (m : ℕ) → Distinct ns → AllByRecursion (λ n. Apart n m) ns → Distinct (ns ++ m ∷ [])
distinct_then [] m d a = (tt, tt)
distinct_then (n ∷ ns) m d a = (all_append (Apart n) ns (m ∷ []) d.0 (a.0, tt), distinct_then ns m d.1 a.1)

all_of_front : (P : ℕ → Type 0) (ns ms : List ℕ) → AllByRecursion P (ns ++ ms) → AllByRecursion P ns
all_of_front P [] ms h = tt
all_of_front P (n ∷ ns) ms h = (h.0, all_of_front P ns ms h.1)

pub distinct_front : (ns ms : List ℕ) → Distinct (ns ++ ms) → Distinct ns
distinct_front [] ms d = tt
distinct_front (n ∷ ns) ms d = (all_of_front (Apart n) ns ms d.0, distinct_front ns ms d.1)

replied_low : (n : ℕ) (o : Option Reply) → AllByRecursion (λ k. k ≤ n) (replied n o)
replied_low n None = tt
replied_low n (Some r) = (omega arith, tt)

replying_low : (log : List Issued) (n : ℕ) → AllByRecursion (λ k. k ≤ n) (replying log n)
unfolding replying
replying_low log zero = tt
replying_low log (suc n) =
    all_append (λ k. k ≤ suc n) (replying log n) (replied (suc n) (reply_at log none_pending (suc n)))
    (weaker (λ k. k ≤ n) (λ k. k ≤ suc n) (λ k h. omega (arith, h)) (replying log n) (replying_low log n))
    (replied_low (suc n) (reply_at log none_pending (suc n)))

replied_then : (ns : List ℕ) (n : ℕ) (o : Option Reply) → Distinct ns → AllByRecursion (λ k. k ≤ n) ns
    → Distinct (ns ++ replied (suc n) o)
replied_then ns n None d h = subst Distinct (sym (append-nil ns)) d
replied_then ns n (Some r) d h =
    distinct_then ns (suc n) d (weaker (λ k. k ≤ n) (λ k. Apart k (suc n)) (λ k low e. omega (arith, low, e)) ns h)

pub replying_once : (log : List Issued) (n : ℕ) → Distinct (replying log n)
unfolding replying
replying_once log zero = tt
replying_once log (suc n) = replied_then (replying log n) n (reply_at log none_pending (suc n))
    (replying_once log n) (replying_low log n)

-- ---- what each reply says of the map

apart_test : (call n : ℕ) → Apart n call → (call == n) ≡ false
apart_test call n apart = grind (arith, nat_tests)

same_test : (n : ℕ) → (n == n) ≡ true
same_test n = grind (arith, nat_tests)

-- a call of which nothing is said is not pending
absent : (n : ℕ) (rs : List Said) → AllByRecursion (Apart n) (flat_map said_call rs) → pending_in rs n ≡ None
absent n [] a = refl
absent n (Bytes_said call bytes ∷ rs) a = absent n rs a.1
absent n (Value_said call value ∷ rs) a = absent n rs a.1
absent n (Still_said call used finished ∷ rs) a = ap (λ (b : Bool). cond b (Some finished) (pending_in rs n))
    (apart_test call n a.0) ∙ absent n rs a.1
absent n (Refused_said call ∷ rs) a = absent n rs a.1
absent n (End_said ∷ rs) a = absent n rs a

-- only a call that was answered as pending has a number
abbrev pub IsNoted : (ℕ → Option ℕ) → Said → Type 0
IsNoted p (Bytes_said call bytes) = p call ≡ None
IsNoted p (Value_said call value) = p call ≡ None
IsNoted p (Still_said call used finished) = p call ≡ Some finished
IsNoted p (Refused_said call) = p call ≡ None
IsNoted p End_said = ⊤

others : (p : ℕ → Option ℕ) (call finished : ℕ) (rs : List Said) (ns : List ℕ) → AllByRecursion (Apart call) ns
    → AllByRecursion (λ n. p n ≡ cond (call == n) (Some finished) (pending_in rs n)) ns
    → AllByRecursion (λ n. p n ≡ pending_in rs n) ns
others p call finished rs [] a e = tt
others p call finished rs (n ∷ ns) a e = (
  e.0 ∙ ap (λ (b : Bool). cond b (Some finished) (pending_in rs n)) (apart_test call n (λ same. a.0 (sym same))),
  others p call finished rs ns a.1 e.1,
)

noted : (p : ℕ → Option ℕ) (rs : List Said) → Distinct (flat_map said_call rs)
    → AllByRecursion (λ n. p n ≡ pending_in rs n) (flat_map said_call rs) → AllByRecursion (IsNoted p) rs
noted p [] d e = tt
noted p (Bytes_said call bytes ∷ rs) d e = (e.0 ∙ absent call rs d.0, noted p rs d.1 e.1)
noted p (Value_said call value ∷ rs) d e = (e.0 ∙ absent call rs d.0, noted p rs d.1 e.1)
noted p (Still_said call used finished ∷ rs) d e = (
  e.0 ∙ ap (λ (b : Bool). cond b (Some finished) (pending_in rs call)) (same_test call),
  noted p rs d.1 (others p call finished rs (flat_map said_call rs) d.0 e.1),
)
noted p (Refused_said call ∷ rs) d e = (e.0 ∙ absent call rs d.0, noted p rs d.1 e.1)
noted p (End_said ∷ rs) d e = (tt, noted p rs d e)

every : (P : ℕ → Type 0) → ((n : ℕ) → P n) → (ns : List ℕ) → AllByRecursion P ns
every P f [] = tt
every P f (n ∷ ns) = (f n, every P f ns)

pub replies_noted : (rs : List Said) → Distinct (flat_map said_call rs)
    → AllByRecursion (IsNoted (get (pending_map rs))) rs
replies_noted rs d =
    noted (get (pending_map rs)) rs d (every (λ n. get (pending_map rs) n ≡ pending_in rs n) (pending_gets rs)
    (flat_map said_call rs))
