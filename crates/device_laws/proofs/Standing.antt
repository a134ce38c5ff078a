-- Each call of a device keeps what it stands for.
use Rattle.std.proofs.Common.{◌≡◌, ℕ, suc, List, [], ◌∷◌, ◌++◌, length, map, take, drop, Option, refl, sym, ap, subst, ◌∙◌, append_assoc, arith}
use Rattle.std.proofs.lemmas.List.{drop-append-le, length_push, take-append-drop}
use Rattle.base_lemmas.specs.Lists.{IsReordering}
use Rattle.core_model.proofs.Listing.Reordering.{reordering_append, reordering_moved, reordering_self}
use Rattle.core_model.specs.Batching.{batch_ops}
use Rattle.core_model.specs.Succession.{FollowsHead, Head, Log, batch_head, completion_head, made_by}
use Rattle.vk_types.specs.declared.message.Batch.{Batch}
use Rattle.vk_types.specs.declared.message.Completion.{Completion}
use Rattle.command_queue.specs.Left.{left}
use Rattle.command_queue.specs.Readiness.{fresh, ops_of}
use Rattle.command_queue.proofs.Laws.{left-append}
use Rattle.vk_device.specs.Accepting.{Accepts, IsKept, IsNext, marks_by}
use Rattle.vk_device.specs.Completing.{Completes, still_marked}
use Rattle.vk_device.specs.Running.{Runs}
use Rattle.vk_device.specs.State.{State, no_state}
use Rattle.device_laws.specs.Standing.{AllFollow, AreKept, AreNumbered, IsOf, MayFollow, Stands, commands_in, marks_in, numbers, ops_in}
use Rattle.device_laws.proofs.Lists.{drop_front, drop_length, drop_next, drop_split, fresh-append, head_same, kept_push, leaves_one, left_none, marks_gone, marks_push, not_empty, numbered_dropped, numbered_push, numbers-append, ops-append, ops_dropped, ops_fresh, ops_marked, ops_push, ops_taken, tail_same, take_front, take_length}

pub stands_first : Stands [] 0 no_state
stands_first = record {
  within = omega arith;
  numbered = tt;
  newest = refl;
  batches = refl;
  steps = refl;
  marks = refl;
  each_once = refl;
}

module _ (log : List ℕ) (batches : List Batch) (completed : ℕ) (b : Batch) (old new : State) (s : Stands batches completed old) (is : IsNext log b old) (a : Accepts log b old new) where
  dropped : drop completed (batches ++ b ∷ []) ≡ drop completed batches ++ b ∷ []
  dropped = drop-append-le completed batches (b ∷ []) s.within

  next : b.number ≡ suc (length batches)
  next = (let e = is.number in let n = s.newest in omega (arith, e, n))

  commands_more : numbers (commands_in (ops_in (batches ++ b ∷ []))) ≡ numbers (commands_in (ops_in batches)) ++ numbers (commands_in b.ops.items)
  commands_more =
      ap (λ os. numbers (commands_in os)) (ops_push batches b)
      ∙ ap (λ l. numbers (left l)) (fresh-append (ops_in batches) b.ops.items)
      ∙ ap numbers (left-append (map fresh (ops_in batches)) (map fresh b.ops.items))
      ∙ numbers-append (left (map fresh (ops_in batches))) (left (map fresh b.ops.items))

  left_more : new.order ++ numbers (left new.steps) ≡ (old.order ++ numbers (left old.steps)) ++ numbers (commands_in b.ops.items)
  left_more =
      ap (λ l. l ++ numbers (left new.steps)) a.order
      ∙ ap (λ l. old.order ++ numbers (left l)) a.steps
      ∙ ap (λ l. old.order ++ numbers l) (left-append old.steps (map fresh b.ops.items))
      ∙ ap (λ l. old.order ++ l) (numbers-append (left old.steps) (left (map fresh b.ops.items)))
      ∙ sym (append_assoc old.order (numbers (left old.steps)) (numbers (commands_in b.ops.items)))

  pub stands_accepted : Stands (batches ++ b ∷ []) completed new
  stands_accepted = record {
    within = (let len = length_push batches b in let le = s.within in omega (arith, len, le));
    numbered = numbered_push 1 batches b s.numbered (omega (arith, next));
    newest = a.newest ∙ next ∙ (let len = length_push batches b in omega (arith, len));
    batches = subst (λ l. AreKept l new.batches) (sym dropped) (subst (λ l. AreKept (drop completed batches ++ b ∷ []) l) (sym a.batches)
        (kept_push (drop completed batches) old.batches b a.kept s.batches a.is_kept));
    steps = ap ops_of a.steps ∙ ops-append old.steps (map fresh b.ops.items) ∙ ap (λ l. l ++ ops_of (map fresh b.ops.items)) s.steps
        ∙ ap (λ l. ops_in (drop completed batches) ++ l) (ops_fresh b.ops.items) ∙ sym (ops_push (drop completed batches) b) ∙ ap ops_in (sym dropped);
    marks = a.marks ∙ ap (λ l. l ++ marks_by b.number b.marks.items) s.marks ∙ sym (marks_push (drop completed batches) b) ∙ ap marks_in (sym dropped);
    each_once = subst (λ l. IsReordering l (new.order ++ numbers (left new.steps))) (sym commands_more)
        (subst (IsReordering (numbers (commands_in (ops_in batches)) ++ numbers (commands_in b.ops.items))) (sym left_more)
        (reordering_append (numbers (commands_in (ops_in batches))) (old.order ++ numbers (left old.steps)) (numbers (commands_in b.ops.items)) (numbers (commands_in b.ops.items))
        s.each_once (reordering_self (numbers (commands_in b.ops.items)))));
  }

module _ (batches : List Batch) (completed j : ℕ) (words : Option (List ℕ)) (old new : State) (s : Stands batches completed old) (r : Runs j words old new) where
  pub stands_run : Stands batches completed new
  stands_run =
      let one = leaves_one old.steps j r.is.place r.is.command r.is.is_place r.is.is_command in
      let was : numbers (left old.steps) ≡ numbers one.front ++ r.is.command.number ∷ numbers one.back =
      ap numbers one.before ∙ numbers-append one.front (r.is.command ∷ one.back) in
      let is : numbers (left new.steps) ≡ numbers one.front ++ numbers one.back =
      ap (λ l. numbers (left l)) r.steps ∙ ap numbers one.after ∙ numbers-append one.front one.back in
      record {
        within = s.within;
        numbered = s.numbered;
        newest = r.newest ∙ s.newest;
        batches = subst (λ l. AreKept (drop completed batches) l) (sym r.batches) s.batches;
        steps = ap ops_of r.steps ∙ ops_marked r.is.place old.steps ∙ s.steps;
        marks = r.marks ∙ s.marks;
        each_once =
            subst (λ l. IsReordering (numbers (commands_in (ops_in batches))) (l ++ numbers (left new.steps))) (sym r.order)
            (subst (λ l. IsReordering (numbers (commands_in (ops_in batches))) ((old.order ++ r.is.command.number ∷ []) ++ l)) (sym is)
            (reordering_moved (numbers (commands_in (ops_in batches))) old.order (numbers one.front) r.is.command.number (numbers one.back)
            (subst (λ l. IsReordering (numbers (commands_in (ops_in batches))) (old.order ++ l)) was s.each_once)));
      }

pub record Completed (batches : List Batch) (completed : ℕ) (done : Completion) (new : State) : Type 0 where
  pub of : IsOf batches completed done
  pub stands : Stands batches (suc completed) new

module _ (batches : List Batch) (completed : ℕ) (done : Completion) (old new : State) (s : Stands batches completed old) (c : Completes old done new) where
  -- the oldest batch that it holds
  by : (b : Batch) (rest : List Batch) → drop completed batches ≡ b ∷ rest → IsKept b c.batch → AreKept rest new.batches → Completed batches completed done new
  by b rest here kept others =
      let all : ops_of old.steps ≡ b.ops.items ++ ops_in rest = s.steps ∙ ap ops_in here in
      let split = drop_split completed batches b rest here in
      let next = drop_next completed batches b rest here in
      let lt = drop_length completed batches b rest here in
      let ran = left_none (take c.batch.count old.steps) c.all_ran in
      let same : left old.steps ≡ left new.steps =
      ap left (sym (take-append-drop c.batch.count old.steps)) ∙ left-append (take c.batch.count old.steps) (drop c.batch.count old.steps)
      ∙ ap (λ l. l ++ left (drop c.batch.count old.steps)) ran ∙ ap left (sym c.steps) in
      let numbered : AreNumbered (suc completed) (b ∷ rest) = subst (λ l. AreNumbered (suc completed) l) here (numbered_dropped completed 1 (suc completed) batches (omega arith) s.numbered) in
      let head : completion_head done ≡ batch_head b =
      ap (λ n. record { number = n; upto = done.upto; placed = done.placed.items }) (c.number ∙ kept.number)
      ∙ ap (λ n. record { number = b.number; upto = n; placed = done.placed.items }) (c.upto ∙ kept.upto)
      ∙ ap (λ l. record { number = b.number; upto = b.upto; placed = l }) (c.placed ∙ kept.placed) in
      record {
        of = record {
          front = take completed batches;
          batch = b;
          back = rest;
          split = split;
          place = take_length completed batches s.within;
          head = head;
          ops = c.ops ∙ ops_taken c.batch.count old.steps ∙ ap (λ n. take n (ops_of old.steps)) kept.count ∙ ap (λ l. take (length b.ops.items) l) all ∙ take_front b.ops.items (ops_in rest);
        };
        stands = record {
          within = omega (arith, lt);
          numbered = s.numbered;
          newest = c.newest ∙ s.newest;
          batches = subst (λ l. AreKept l new.batches) (sym next) others;
          steps = ap ops_of c.steps ∙ ops_dropped c.batch.count old.steps ∙ ap (λ n. drop n (ops_of old.steps)) kept.count ∙ ap (λ l. drop (length b.ops.items) l) all
              ∙ drop_front b.ops.items (ops_in rest) ∙ ap ops_in (sym next);
          marks = c.marks ∙ ap (λ n. still_marked n old.marks) kept.number ∙ ap (λ l. still_marked b.number l) (s.marks ∙ ap marks_in here)
              ∙ marks_gone b rest (suc completed) numbered ∙ ap marks_in (sym next);
          each_once = subst (λ l. IsReordering (numbers (commands_in (ops_in batches))) (l ++ numbers (left new.steps))) (sym c.order)
              (subst (λ l. IsReordering (numbers (commands_in (ops_in batches))) (old.order ++ numbers l)) same s.each_once);
        };
      }

  pub stands_completed : Completed batches completed done new
  stands_completed = oldest (drop completed batches) refl s.batches
    where
      oldest : (held : List Batch) → drop completed batches ≡ held → AreKept held old.batches → Completed batches completed done new
      oldest [] here kept = absurd (not_empty c.batch new.batches (sym kept ∙ c.batches))
      oldest (b ∷ rest) here kept =
          let same = sym kept.2 ∙ c.batches in
          let first = head_same kept.0 c.batch kept.1 new.batches same in
          let others = tail_same kept.0 c.batch kept.1 new.batches same in
          by b rest here (subst (λ a. IsKept b a) first kept.3) (subst (λ l. AreKept rest l) others kept.4)

pub may_follow : (log : Log) (batches : List Batch) (completed : ℕ) (done : Completion) → AllFollow log batches → (is : IsOf batches completed done) → MayFollow log is.front done
may_follow log batches completed done follow is =
    let by = follow is.front is.batch is.back is.split in
    record {
      head = subst (λ h. FollowsHead log (map batch_head is.front) h) (sym is.head) by.head;
      ops = is.ops ∙ by.does.ops ∙ ap (λ (h : Head). batch_ops (made_by log (map batch_head is.front) h) h.number) (sym is.head);
    }
