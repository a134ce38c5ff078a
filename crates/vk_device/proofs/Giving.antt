-- Blocks, marks and values are given back one after another.
use Rattle.std.proofs.Common.{◌≡◌, ℕ, zero, suc, ◌-◌, ◌<◌, ◌≤◌, Bool, true, false, cond, List, [], ◌∷◌, ◌++◌, map, take, drop, All, Option, Some, None, refl, sym, ap, subst, ◌∙◌, append_assoc, append-nil, arith}
use Rattle.std.specs.Prelude.{◌==◌, MatchOption}
use Rattle.std.specs.List.{cons_option, filter_map, list_any}
use Rattle.std.specs.Option.{option_to_list}
use mathlib.Core.Path.{fun_ext}
use Rattle.std.proofs.lemmas.Bool.{le-leb, lt-leb, not-true, false≢true}
use Rattle.buffer_blocks.specs.declared.block.Block.{Block}
use Rattle.lifetime.specs.declared.holds.Mark.{Mark}
use Rattle.query_pool.specs.Asked.{Asked, Answered}
use Rattle.query_pool.specs.declared.queries.Ended.{Ended}
use Rattle.vk_types.specs.declared.message.QueryValue.{QueryValue}
use Rattle.vk_types.specs.declared.op.VkOp.{VkOp}
use Rattle.device_memory.specs.Held.{Held, block_of}
use Rattle.command_queue.specs.declared.queue.Listed.{Listed}
use Rattle.command_queue.specs.Readiness.{is_left, ops_of}
use Rattle.vk_device.specs.declared.accepted.Accepted.{Accepted}
use Rattle.vk_device.specs.Accepting.{Blocks}
use Rattle.vk_device.specs.Completing.{can_complete_first, ended_after, ended_by, home, homes, released, still_marked, taken_out, value_in, without, without_all}

pub without_one : (old new : Held) (number : ℕ) → ((n : ℕ) → block_of new n ≡ cond (n == number) None (block_of old n)) → block_of new ≡ without number (block_of old)
without_one old new number h = fun_ext h

-- Operations --------------------------------------------------------------------------------------------------------------------------

-- the operations that are still to be taken come behind those that were
pub record OpsOn (first : List Listed) (count left : ℕ) (ops : List VkOp) (now : List Listed) : Type 0 where
  pub ops_are : ops ++ ops_of (take left now) ≡ ops_of (take count first)
  pub rest_is : drop left now ≡ drop count first

pub ops_begin : (first : List Listed) (count : ℕ) (ops : List VkOp) → ops ≡ [] → OpsOn first count count ops first
ops_begin first count ops e = record { ops_are = ap (λ l. l ++ ops_of (take count first)) e; rest_is = refl }

-- what `pop` gives
abbrev pub Pops : Option VkOp → List Listed → List Listed → Type 0
Pops o old new = MatchOption o ((old ≡ []) × (new ≡ [])) (λ op. (ran : Bool) × (old ≡ record { op = op; ran = ran } ∷ new))

abbrev no_steps : List Listed
no_steps = []

take_none : (n : ℕ) → ops_of (take n no_steps) ≡ []
take_none zero = refl
take_none (suc n) = refl

drop_none : (n : ℕ) → drop n no_steps ≡ []
drop_none zero = refl
drop_none (suc n) = refl

pub ops_more : (first : List Listed) (count left : ℕ) (ops after : List VkOp) (o : Option VkOp) (old new : List Listed) → 0 < left → Pops o old new
    → after ≡ ops ++ option_to_list o → OpsOn first count left ops old → OpsOn first count (left - 1) after new
ops_more first count zero ops after o old new lt pops is h = absurd (omega (arith, lt))
ops_more first count (suc left) ops after None old new lt pops is h =
    let e : suc left - 1 ≡ left = omega arith in
    record {
      ops_are =
          ap (λ l. l ++ ops_of (take (suc left - 1) new)) (is ∙ append-nil ops) ∙ ap (λ l. ops ++ ops_of (take (suc left - 1) l)) pops.1
          ∙ ap (λ l. ops ++ l) (take_none (suc left - 1) ∙ sym (take_none (suc left))) ∙ ap (λ l. ops ++ ops_of (take (suc left) l)) (sym pops.0) ∙ h.ops_are;
      rest_is = ap (drop (suc left - 1)) pops.1 ∙ drop_none (suc left - 1) ∙ sym (drop_none (suc left)) ∙ ap (drop (suc left)) (sym pops.0) ∙ h.rest_is;
    }
ops_more first count (suc left) ops after (Some o) old new lt pops is h =
    let e : suc left - 1 ≡ left = omega arith in
    record {
      ops_are =
          ap (λ l. l ++ ops_of (take (suc left - 1) new)) is ∙ append_assoc ops (o ∷ []) (ops_of (take (suc left - 1) new))
          ∙ ap (λ n. ops ++ (o ∷ ops_of (take n new))) e ∙ ap (λ l. ops ++ ops_of (take (suc left) l)) (sym pops.1) ∙ h.ops_are;
      rest_is = ap (λ n. drop n new) e ∙ ap (drop (suc left)) (sym pops.1) ∙ h.rest_is;
    }

pub ops_end : (first : List Listed) (count left : ℕ) (ops : List VkOp) (now : List Listed) → left ≡ 0 → OpsOn first count left ops now
    → (ops ≡ ops_of (take count first)) × (now ≡ drop count first)
ops_end first count left ops now e h =
    (sym (append-nil ops) ∙ ap (λ n. ops ++ ops_of (take n now)) (sym e) ∙ h.ops_are, ap (λ n. drop n now) (sym e) ∙ h.rest_is)

-- Blocks ------------------------------------------------------------------------------------------------------------------------------

pub record BlocksOn (first : Blocks) (all left : List ℕ) (blocks : List Block) (now : Blocks) : Type 0 where
  pub blocks_are : blocks ++ taken_out left now ≡ taken_out all first
  pub rest_is : without_all left now ≡ without_all all first

pub blocks_begin : (first : Blocks) (all left : List ℕ) (blocks : List Block) → left ≡ all → blocks ≡ [] → BlocksOn first all left blocks first
blocks_begin first all left blocks e f = record {
  blocks_are = ap (λ l. l ++ taken_out left first) f ∙ ap (λ l. taken_out l first) e;
  rest_is = ap (λ l. without_all l first) e;
}

pub blocks_more : (first : Blocks) (all left later : List ℕ) (n : ℕ) (blocks after : List Block) (o : Option Block) (old new : Held) → left ≡ n ∷ later
    → o ≡ block_of old n → block_of new ≡ without n (block_of old) → after ≡ blocks ++ option_to_list o
    → BlocksOn first all left blocks (block_of old) → BlocksOn first all later after (block_of new)
blocks_more first all left later n blocks after o old new is took next pushed h =
    record {
      blocks_are =
          ap (λ l. l ++ taken_out later (block_of new)) (pushed ∙ ap (λ x. blocks ++ option_to_list x) took)
          ∙ ap (λ f. (blocks ++ option_to_list (block_of old n)) ++ taken_out later f) next
          ∙ append_assoc blocks (option_to_list (block_of old n)) (taken_out later (without n (block_of old)))
          ∙ ap (λ l. blocks ++ taken_out l (block_of old)) (sym is) ∙ h.blocks_are;
      rest_is = ap (without_all later) next ∙ ap (λ l. without_all l (block_of old)) (sym is) ∙ h.rest_is;
    }

pub blocks_end : (first : Blocks) (all left : List ℕ) (blocks : List Block) (now : Blocks) → left ≡ [] → BlocksOn first all left blocks now
    → (blocks ≡ taken_out all first) × (now ≡ without_all all first)
blocks_end first all left blocks now e h =
    (sym (append-nil blocks) ∙ ap (λ l. blocks ++ taken_out l now) (sym e) ∙ h.blocks_are, ap (λ l. without_all l now) (sym e) ∙ h.rest_is)

-- Blocks that go home -------------------------------------------------------------------------------------------------------------------

pub record HomesOn (k : ℕ) (first : Blocks) (all now_marks : List Mark) (blocks : List Block) (now : Blocks) : Type 0 where
  pub homes_are : blocks ++ homes k (released k now_marks) now ≡ homes k (released k all) first
  pub rest_is : without_all (released k now_marks) now ≡ without_all (released k all) first
  pub marks_are : still_marked k now_marks ≡ still_marked k all

pub homes_begin : (k : ℕ) (first : Blocks) (all : List Mark) (blocks : List Block) → blocks ≡ [] → HomesOn k first all all blocks first
homes_begin k first all blocks e = record { homes_are = ap (λ l. l ++ homes k (released k all) first) e; rest_is = refl; marks_are = refl }

first_released : (k : ℕ) (m : Mark) (ms : List Mark) → m.chunk ≤ k → released k (m ∷ ms) ≡ m.block ∷ released k ms
first_released k m ms le = ap (λ b. cond b (m.block ∷ released k ms) []) (le-leb m.chunk k le)

first_still : (k : ℕ) (m : Mark) (ms : List Mark) → m.chunk ≤ k → still_marked k (m ∷ ms) ≡ still_marked k ms
first_still k m ms le = ap (λ b. cond b (still_marked k ms) (m ∷ ms)) (le-leb m.chunk k le)

pub homes_more : (k : ℕ) (first : Blocks) (all old_marks new_marks : List Mark) (blocks after : List Block) (chunk n : ℕ) (old new : Held)
    → chunk ≤ k → old_marks ≡ record { chunk = chunk; block = n } ∷ new_marks → after ≡ blocks ++ home k (block_of old n) → block_of new ≡ without n (block_of old)
    → HomesOn k first all old_marks blocks (block_of old) → HomesOn k first all new_marks after (block_of new)
homes_more k first all old_marks new_marks blocks after chunk n old new le is pushed next h =
    let m : Mark = record { chunk = chunk; block = n } in
    let out : released k old_marks ≡ n ∷ released k new_marks = ap (released k) is ∙ first_released k m new_marks le in
    record {
      homes_are =
          ap (λ l. l ++ homes k (released k new_marks) (block_of new)) pushed
          ∙ ap (λ f. (blocks ++ home k (block_of old n)) ++ homes k (released k new_marks) f) next
          ∙ append_assoc blocks (home k (block_of old n)) (homes k (released k new_marks) (without n (block_of old)))
          ∙ ap (λ l. blocks ++ homes k l (block_of old)) (sym out) ∙ h.homes_are;
      rest_is = ap (without_all (released k new_marks)) next ∙ ap (λ l. without_all l (block_of old)) (sym out) ∙ h.rest_is;
      marks_are = sym (first_still k m new_marks le) ∙ ap (still_marked k) (sym is) ∙ h.marks_are;
    }

none_released : (k : ℕ) (ms : List Mark) → All (λ (m : Mark). k < m.chunk) ms → released k ms ≡ []
none_released k [] above = refl
none_released k (m ∷ ms) above = ap (λ b. cond b (m.block ∷ released k ms) []) (lt-leb m.chunk k (above zero m (omega arith)))

all_still : (k : ℕ) (ms : List Mark) → All (λ (m : Mark). k < m.chunk) ms → still_marked k ms ≡ ms
all_still k [] above = refl
all_still k (m ∷ ms) above = ap (λ b. cond b (still_marked k ms) (m ∷ ms)) (lt-leb m.chunk k (above zero m (omega arith)))

pub homes_end : (k : ℕ) (first : Blocks) (all now_marks : List Mark) (blocks : List Block) (now : Blocks) → All (λ (m : Mark). k < m.chunk) now_marks
    → HomesOn k first all now_marks blocks now
    → (blocks ≡ homes k (released k all) first) × (now ≡ without_all (released k all) first) × (now_marks ≡ still_marked k all)
homes_end k first all now_marks blocks now above h =
    let none : released k now_marks ≡ [] = none_released k now_marks above in (
      sym (append-nil blocks) ∙ ap (λ l. blocks ++ homes k l now) (sym none) ∙ h.homes_are,
      ap (λ l. without_all l now) (sym none) ∙ h.rest_is,
      sym (all_still k now_marks above) ∙ h.marks_are,
    )

-- all marks but the first
pub marks_tail : (n : ℕ) (m : Mark) (ms old : List Mark) → old ≡ m ∷ ms → All (λ (m : Mark). m.chunk ≤ n) old → All (λ (m : Mark). m.chunk ≤ n) ms
marks_tail n m ms old is below i d lt =
    let all : All (λ (m : Mark). m.chunk ≤ n) (m ∷ ms) = subst (All (λ (m : Mark). m.chunk ≤ n)) is below in
    all (suc i) d (omega (arith, lt))

-- Values of queries ---------------------------------------------------------------------------------------------------------------------

pub record ValuesOn (upto : ℕ) (first now : Asked) (values : List QueryValue) : Type 0 where
  pub values_are : values ++ map (value_in first.counts) (ended_by upto now.ended) ≡ map (value_in first.counts) (ended_by upto first.ended)
  pub rest_is : ended_after upto now.ended ≡ ended_after upto first.ended
  pub begun : now.begun ≡ first.begun
  pub counts : now.counts ≡ first.counts

pub values_begin : (upto : ℕ) (first : Asked) (values : List QueryValue) → values ≡ [] → ValuesOn upto first first values
values_begin upto first values e = record {
  values_are = ap (λ l. l ++ map (value_in first.counts) (ended_by upto first.ended)) e;
  rest_is = refl;
  begun = refl;
  counts = refl;
}

first_ended : (upto : ℕ) (e : Ended) (es : List Ended) → e.call ≤ upto → ended_by upto (e ∷ es) ≡ e ∷ ended_by upto es
first_ended upto e es le = ap (λ b. cond b (e ∷ ended_by upto es) []) (le-leb e.call upto le)

first_after : (upto : ℕ) (e : Ended) (es : List Ended) → e.call ≤ upto → ended_after upto (e ∷ es) ≡ ended_after upto es
first_after upto e es le = ap (λ b. cond b (ended_after upto es) (e ∷ es)) (le-leb e.call upto le)

pub values_more : (upto : ℕ) (first old new : Asked) (values after : List QueryValue) (v : QueryValue) → Answered upto old v new → after ≡ values ++ v ∷ []
    → ValuesOn upto first old values → ValuesOn upto first new after
values_more upto first old new values after v a pushed h =
    let f : List Ended → List QueryValue = map (value_in first.counts) in
    let by : ended_by upto old.ended ≡ a.ended ∷ ended_by upto new.ended = ap (ended_by upto) a.first ∙ first_ended upto a.ended new.ended a.reached in
    let is : v ≡ value_in first.counts a.ended = a.value ∙ ap (λ cs. value_in cs a.ended) h.counts in
    record {
      values_are =
          ap (λ l. l ++ f (ended_by upto new.ended)) pushed ∙ append_assoc values (v ∷ []) (f (ended_by upto new.ended))
          ∙ ap (λ x. values ++ (x ∷ f (ended_by upto new.ended))) is ∙ ap (λ l. values ++ f l) (sym by) ∙ h.values_are;
      rest_is = sym (first_after upto a.ended new.ended a.reached) ∙ ap (ended_after upto) (sym a.first) ∙ h.rest_is;
      begun = a.begun ∙ h.begun;
      counts = a.counts ∙ h.counts;
    }

none_ended : (upto : ℕ) (es : List Ended) → All (λ (e : Ended). upto < e.call) es → ended_by upto es ≡ []
none_ended upto [] above = refl
none_ended upto (e ∷ es) above = ap (λ b. cond b (e ∷ ended_by upto es) []) (lt-leb e.call upto (above zero e (omega arith)))

all_after : (upto : ℕ) (es : List Ended) → All (λ (e : Ended). upto < e.call) es → ended_after upto es ≡ es
all_after upto [] above = refl
all_after upto (e ∷ es) above = ap (λ b. cond b (ended_after upto es) (e ∷ es)) (lt-leb e.call upto (above zero e (omega arith)))

same_asked : (a b : Asked) → a.begun ≡ b.begun → a.ended ≡ b.ended → a.counts ≡ b.counts → a ≡ b
same_asked a b e f g =
    ap (λ x. record { begun = x; ended = a.ended; counts = a.counts }) e ∙ ap (λ x. record { begun = b.begun; ended = x; counts = a.counts }) f
    ∙ ap (λ x. record { begun = b.begun; ended = b.ended; counts = x }) g

pub values_end : (upto : ℕ) (first now : Asked) (values : List QueryValue) → All (λ (e : Ended). upto < e.call) now.ended → ValuesOn upto first now values
    → (values ≡ map (value_in first.counts) (ended_by upto first.ended)) × (now ≡ record first { ended = ended_after upto first.ended })
values_end upto first now values above h = (
  sym (append-nil values) ∙ ap (λ l. values ++ map (value_in first.counts) l) (sym (none_ended upto now.ended above)) ∙ h.values_are,
  same_asked now (record first { ended = ended_after upto first.ended }) h.begun (sym (all_after upto now.ended above) ∙ h.rest_is) h.counts,
)

-- Copies ----------------------------------------------------------------------------------------------------------------------------------

cons_is : {B : Type 0} (o : Option B) (zs : List B) → option_to_list o ++ zs ≡ cons_option o zs
cons_is None zs = refl
cons_is (Some b) zs = refl

pub copies_more : {A B : Type 0} (f : A → Option B) (all left later : List A) (x : A) (ys after : List B) (o : Option B) → left ≡ x ∷ later → o ≡ f x
    → after ≡ ys ++ option_to_list o → ys ++ filter_map f left ≡ filter_map f all → after ++ filter_map f later ≡ filter_map f all
copies_more f all left later x ys after o is gave pushed h =
    ap (λ l. l ++ filter_map f later) (pushed ∙ ap (λ v. ys ++ option_to_list v) gave) ∙ append_assoc ys (option_to_list (f x)) (filter_map f later)
    ∙ ap (λ l. ys ++ l) (cons_is (f x) (filter_map f later)) ∙ ap (λ l. ys ++ filter_map f l) (sym is) ∙ h

-- The oldest batch --------------------------------------------------------------------------------------------------------------------------

pub first_ran : (bs : List Accepted) (steps : List Listed) (a : Accepted) (others : List Accepted) → bs ≡ a ∷ others → can_complete_first bs steps ≡ true
    → list_any is_left (take a.count steps) ≡ false
first_ran bs steps a others is can =
    not-true (list_any is_left (take a.count steps)) (subst (λ l. can_complete_first l steps ≡ true) is can)

pub some_batch : (bs : List Accepted) (steps : List Listed) → bs ≡ [] → can_complete_first bs steps ≡ true → ⊥
some_batch bs steps is can = false≢true (subst (λ l. can_complete_first l steps ≡ true) is can)
