-- What is left of steps, and batches one behind another.
use Rattle.std.proofs.Common.{◌≡◌, ℕ, zero, suc, ◌+◌, ◌<◌, ◌≤◌, Bool, true, false, not, ◌&&◌, nat_le, List, [], ◌∷◌, ◌++◌, length, map, take, drop, Some, refl, sym, ap, subst, ◌∙◌, append_assoc, append-nil, arith}
use Rattle.std.specs.Prelude.{slice_get}
use Rattle.std.specs.List.{list_any}
use Rattle.std.proofs.lemmas.Bool.{or_parts, cond-true, cond-false}
use Rattle.std.proofs.lemmas.Bool.Decides.{nat_tests}
use Rattle.vk_types.specs.declared.command.Command as c
use Rattle.vk_types.specs.declared.op.VkOp.{VkOp}
use Rattle.vk_types.specs.declared.op.VkOp.TheVariants as op
use Rattle.vk_types.specs.declared.message.Batch.{Batch}
use Rattle.lifetime.specs.declared.holds.Mark.{Mark}
use Rattle.command_queue.specs.declared.queue.Listed.{Listed}
use Rattle.command_queue.specs.Left.{left, left_op, marked, ran_one}
use Rattle.command_queue.specs.Readiness.{command_of, fresh, is_command, is_left, is_ready_op, ops_of, ready_places, step_command}
use Rattle.command_queue.proofs.Laws.{left-append}
use Rattle.command_queue.proofs.Ready.{ReadyAt, get_at, marked_at, ready_at}
use Rattle.vk_device.specs.declared.accepted.Accepted.{Accepted}
use Rattle.vk_device.specs.Accepting.{IsKept, marks_by}
use Rattle.vk_device.specs.Completing.{still_marked}
use Rattle.device_laws.specs.Standing.{AreKept, AreNumbered, marks_in, numbers, ops_in}

-- Steps ----------------------------------------------------------------------------------------------------------------------

pub ops-append : (xs ys : List Listed) → ops_of (xs ++ ys) ≡ ops_of xs ++ ops_of ys
ops-append [] ys = refl
ops-append (x ∷ xs) ys = ap (λ l. x.op ∷ l) (ops-append xs ys)

pub ops_fresh : (os : List VkOp) → ops_of (map fresh os) ≡ os
ops_fresh [] = refl
ops_fresh (o ∷ os) = ap (λ l. o ∷ l) (ops_fresh os)

pub fresh-append : (os ps : List VkOp) → map fresh (os ++ ps) ≡ map fresh os ++ map fresh ps
fresh-append [] ps = refl
fresh-append (o ∷ os) ps = ap (λ l. fresh o ∷ l) (fresh-append os ps)

pub numbers-append : (ds es : List c.Command) → numbers (ds ++ es) ≡ numbers ds ++ numbers es
numbers-append [] es = refl
numbers-append (d ∷ ds) es = ap (λ l. d.number ∷ l) (numbers-append ds es)

pub ops_marked : (place : ℕ) (xs : List Listed) → ops_of (marked place xs) ≡ ops_of xs
ops_marked place [] = refl
ops_marked zero (x ∷ xs) = refl
ops_marked (suc place) (x ∷ xs) = ap (λ l. x.op ∷ l) (ops_marked place xs)

pub ops_taken : (n : ℕ) (xs : List Listed) → ops_of (take n xs) ≡ take n (ops_of xs)
ops_taken zero xs = refl
ops_taken (suc n) [] = refl
ops_taken (suc n) (x ∷ xs) = ap (λ l. x.op ∷ l) (ops_taken n xs)

pub ops_dropped : (n : ℕ) (xs : List Listed) → ops_of (drop n xs) ≡ drop n (ops_of xs)
ops_dropped zero xs = refl
ops_dropped (suc n) [] = refl
ops_dropped (suc n) (x ∷ xs) = ops_dropped n xs

-- a ready command is left
left_ready : (front : List Listed) (o : VkOp) (ran : Bool) (d : c.Command) → command_of o ≡ Some d → is_ready_op front o ran ≡ true → left_op o ran ≡ d ∷ []
left_ready front (op.HostWrite r call) ran d e h = absurd (cc e)
left_ready front (op.Pipeline shader) ran d e h = absurd (cc e)
left_ready front (op.Barrier barrier) ran d e h = absurd (cc e)
left_ready front (op.Command command) true d e h = absurd (cc h)
left_ready front (op.Command command) false d e h = (let same : command ≡ d = cc e in ap (λ x. x ∷ []) same)
left_ready front (op.Submit k) ran d e h = absurd (cc e)
left_ready front (op.Fence k) ran d e h = absurd (cc e)
left_ready front (op.HostRead r call) ran d e h = absurd (cc e)

left_ran : (o : VkOp) → left_op o true ≡ []
left_ran (op.HostWrite r call) = refl
left_ran (op.Pipeline shader) = refl
left_ran (op.Barrier barrier) = refl
left_ran (op.Command command) = refl
left_ran (op.Submit k) = refl
left_ran (op.Fence k) = refl
left_ran (op.HostRead r call) = refl

-- what is left once a ready command was run is all else
pub record LeavesOne (steps : List Listed) (place : ℕ) (d : c.Command) : Type 0 where
  pub front : List c.Command
  pub back : List c.Command
  pub before : left steps ≡ front ++ d ∷ back
  pub after : left (marked place steps) ≡ front ++ back

pub leaves_one : (steps : List Listed) (j place : ℕ) (d : c.Command) → slice_get (ready_places steps) j ≡ Some place → step_command (slice_get steps place) ≡ Some d
    → LeavesOne steps place d
leaves_one steps j place d there is = by (ready_at steps j place there)
  where
    by : ReadyAt steps place → LeavesOne steps place d
    by at =
        let step_is : command_of at.step.op ≡ Some d =
        sym (ap step_command (ap (λ l. slice_get l place) at.split ∙ ap (λ n. slice_get (at.front ++ at.step ∷ at.back) n) at.place ∙ get_at at.front at.step at.back)) ∙ is in
        record {
          front = left at.front;
          back = left at.back;
          before = ap left at.split ∙ left-append at.front (at.step ∷ at.back)
              ∙ ap (λ l. left at.front ++ (l ++ left at.back)) (left_ready at.front at.step.op at.step.ran d step_is at.ready);
          after = ap (λ l. left (marked place l)) at.split ∙ ap (λ n. left (marked n (at.front ++ at.step ∷ at.back))) at.place
              ∙ ap left (marked_at at.front at.step at.back) ∙ left-append at.front (ran_one at.step ∷ at.back)
              ∙ ap (λ l. left at.front ++ (l ++ left at.back)) (left_ran at.step.op);
        }

left_none_op : (o : VkOp) (ran : Bool) → (is_command o && not ran) ≡ false → left_op o ran ≡ []
left_none_op (op.HostWrite r call) ran e = refl
left_none_op (op.Pipeline shader) ran e = refl
left_none_op (op.Barrier barrier) ran e = refl
left_none_op (op.Command command) true e = refl
left_none_op (op.Command command) false e = absurd (cc e)
left_none_op (op.Submit k) ran e = refl
left_none_op (op.Fence k) ran e = refl
left_none_op (op.HostRead r call) ran e = refl

pub left_none : (xs : List Listed) → list_any is_left xs ≡ false → left xs ≡ []
left_none [] e = refl
left_none (x ∷ xs) e =
    let p = or_parts (is_left x) (list_any is_left xs) e in
    ap (λ l. l ++ left xs) (left_none_op x.op x.ran p.0) ∙ left_none xs p.1

-- Batches --------------------------------------------------------------------------------------------------------------------

pub ops_push : (bs : List Batch) (b : Batch) → ops_in (bs ++ b ∷ []) ≡ ops_in bs ++ b.ops.items
ops_push [] b = append-nil b.ops.items
ops_push (x ∷ xs) b = ap (λ l. x.ops.items ++ l) (ops_push xs b) ∙ sym (append_assoc x.ops.items (ops_in xs) b.ops.items)

pub marks_push : (bs : List Batch) (b : Batch) → marks_in (bs ++ b ∷ []) ≡ marks_in bs ++ marks_by b.number b.marks.items
marks_push [] b = append-nil (marks_by b.number b.marks.items)
marks_push (x ∷ xs) b =
    ap (λ l. marks_by x.number x.marks.items ++ l) (marks_push xs b) ∙ sym (append_assoc (marks_by x.number x.marks.items) (marks_in xs) (marks_by b.number b.marks.items))

pub kept_push : (bs : List Batch) (kept : List Accepted) (b : Batch) (a : Accepted) → AreKept bs kept → IsKept b a → AreKept (bs ++ b ∷ []) (kept ++ a ∷ [])
kept_push [] kept b a e is = (a, [], ap (λ l. l ++ a ∷ []) e, is, refl)
kept_push (x ∷ xs) kept b a all is = (all.0, all.1 ++ a ∷ [], ap (λ l. l ++ a ∷ []) all.2, all.3, kept_push xs all.1 b a all.4 is)

pub numbered_push : (n : ℕ) (bs : List Batch) (b : Batch) → AreNumbered n bs → b.number ≡ n + length bs → AreNumbered n (bs ++ b ∷ [])
numbered_push n [] b all e = (omega (arith, e), tt)
numbered_push n (x ∷ xs) b all e = (all.0, numbered_push (suc n) xs b all.1 (omega (arith, e)))

pub numbered_dropped : (k n m : ℕ) (bs : List Batch) → m ≡ n + k → AreNumbered n bs → AreNumbered m (drop k bs)
numbered_dropped zero n m bs e all = (let same : n ≡ m = omega (arith, e) in subst (λ j. AreNumbered j bs) same all)
numbered_dropped (suc k) n m [] e all = tt
numbered_dropped (suc k) n m (x ∷ xs) e all = numbered_dropped k (suc n) m xs (omega (arith, e)) all.1

-- Marks ----------------------------------------------------------------------------------------------------------------------

-- those of a batch go
own_gone : (k : ℕ) (blocks : List ℕ) (more : List Mark) → still_marked k (marks_by k blocks ++ more) ≡ still_marked k more
own_gone k [] more = refl
own_gone k (b ∷ bs) more =
    let t : nat_le k k ≡ true = grind (arith, nat_tests) in
    cond-true (nat_le k k) (still_marked k (marks_by k bs ++ more)) (record { chunk = k; block = b } ∷ (marks_by k bs ++ more)) t ∙ own_gone k bs more

-- those of later batches stay
later_stay : (k n : ℕ) (bs : List Batch) → AreNumbered n bs → k < n → still_marked k (marks_in bs) ≡ marks_in bs
later_stay k n [] all lt = refl
later_stay k n (x ∷ xs) all lt = by x.marks.items (later_stay k (suc n) xs all.1 (omega (arith, lt)))
  where
    by : (blocks : List ℕ) → still_marked k (marks_in xs) ≡ marks_in xs → still_marked k (marks_by x.number blocks ++ marks_in xs) ≡ marks_by x.number blocks ++ marks_in xs
    by [] rest = rest
    by (b ∷ bs) rest =
        let same = all.0 in
        let past : n ≡ x.number = sym same in
        let t : nat_le x.number k ≡ false = grind (arith, nat_tests) in
        cond-false (nat_le x.number k) (still_marked k (marks_by x.number bs ++ marks_in xs)) (record { chunk = x.number; block = b } ∷ (marks_by x.number bs ++ marks_in xs)) t

pub marks_gone : (b : Batch) (bs : List Batch) (n : ℕ) → AreNumbered n (b ∷ bs) → still_marked b.number (marks_in (b ∷ bs)) ≡ marks_in bs
marks_gone b bs n all =
    let same = all.0 in
    own_gone b.number b.marks.items (marks_in bs) ∙ later_stay b.number (suc n) bs all.1 (omega (arith, same))

-- The first that are dropped -------------------------------------------------------------------------------------------------

pub head_same : {A : Type 0} (x y : A) (xs ys : List A) → x ∷ xs ≡ y ∷ ys → x ≡ y
head_same x y xs ys e = cc e

pub tail_same : {A : Type 0} (x y : A) (xs ys : List A) → x ∷ xs ≡ y ∷ ys → xs ≡ ys
tail_same x y xs ys e = cc e

pub not_empty : {A : Type 0} (y : A) (ys : List A) → [] ≡ y ∷ ys → ⊥
not_empty y ys e = cc e

pub drop_next : {A : Type 0} (n : ℕ) (xs : List A) (y : A) (ys : List A) → drop n xs ≡ y ∷ ys → drop (suc n) xs ≡ ys
drop_next zero [] y ys e = absurd (not_empty y ys e)
drop_next zero (x ∷ xs) y ys e = tail_same x y xs ys e
drop_next (suc n) [] y ys e = absurd (not_empty y ys e)
drop_next (suc n) (x ∷ xs) y ys e = drop_next n xs y ys e

pub drop_length : {A : Type 0} (n : ℕ) (xs : List A) (y : A) (ys : List A) → drop n xs ≡ y ∷ ys → n < length xs
drop_length zero [] y ys e = absurd (not_empty y ys e)
drop_length zero (x ∷ xs) y ys e = omega arith
drop_length (suc n) [] y ys e = absurd (not_empty y ys e)
drop_length (suc n) (x ∷ xs) y ys e = (let h = drop_length n xs y ys e in omega (arith, h))

pub drop_split : {A : Type 0} (n : ℕ) (xs : List A) (y : A) (ys : List A) → drop n xs ≡ y ∷ ys → xs ≡ take n xs ++ y ∷ ys
drop_split zero xs y ys e = e
drop_split (suc n) [] y ys e = absurd (not_empty y ys e)
drop_split (suc n) (x ∷ xs) y ys e = ap (λ l. x ∷ l) (drop_split n xs y ys e)

pub take_length : {A : Type 0} (n : ℕ) (xs : List A) → n ≤ length xs → length (take n xs) ≡ n
take_length zero xs le = refl
take_length (suc n) [] le = absurd (omega (arith, le))
take_length (suc n) (x ∷ xs) le = ap suc (take_length n xs (omega (arith, le)))

pub take_front : {A : Type 0} (xs ys : List A) → take (length xs) (xs ++ ys) ≡ xs
take_front [] ys = refl
take_front (x ∷ xs) ys = ap (λ l. x ∷ l) (take_front xs ys)

pub drop_front : {A : Type 0} (xs ys : List A) → drop (length xs) (xs ++ ys) ≡ ys
drop_front [] ys = refl
drop_front (x ∷ xs) ys = drop_front xs ys
