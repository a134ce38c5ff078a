use Rattle.std.proofs.Common.{◌≡◌, ℕ, ◌+◌, Bool, List, [], ◌∷◌, ◌++◌, sym, ap, ◌∙◌, arith, suc, subst, append-nil, if◌then◌else◌, true, false}
use Rattle.std.proofs.Math.Numerals.{add-one}
use Rattle.call_log.specs.Call.{Issued}
use Rattle.call_log.specs.Grammar.{calls_of}
use Rattle.deferred_ctx.specs.Lists.{CommandList, finishes, list_made, lists_made}
use Rattle.deferred_ctx.proofs.record.record_each.Goals as goal
use Rattle.deferred_ctx.proofs.record.record_each.Goals.{then-finishes+in_ok-record_list+in_ok-push, else-finishes}

-- one call more
one_more : (log : List Issued) (n : ℕ) (b : Bool) (before after : List CommandList) → b ≡ finishes log (suc n) → before ≡ lists_made log n
    → after ≡ before ++ (if b then list_made log (suc n) ∷ [] else []) → after ≡ lists_made log (suc n)
unfolding lists_made
one_more log n b before after is old e =
    e ∙ ap (λ (t : Bool). before ++ (if t then list_made log (suc n) ∷ [] else [])) is
    ∙ ap (λ (ls : List CommandList). ls ++ (if finishes log (suc n) then list_made log (suc n) ∷ [] else [])) old

next : (log : List Issued) (n : ℕ) (b : Bool) (before after : List CommandList) → b ≡ finishes log (n + 1) → before ≡ lists_made log n
    → after ≡ before ++ (if b then list_made log (n + 1) ∷ [] else []) → after ≡ lists_made log (n + 1)
next log n b before after =
    subst (λ (k : ℕ). b ≡ finishes log k → before ≡ lists_made log n → after ≡ before ++ (if b then list_made log k ∷ [] else []) → after ≡ lists_made log k)
    (sym (add-one n)) (one_more log n b before after)

pub calls-init : goal.calls-init
unfolding lists_made
calls-init c = c.new-lists.ensures.items

pub calls-preserved : goal.calls-preserved
calls-preserved c =
    let log = calls_of c.args.log.now.frames in
    let old = c.calls.lists.items in
    elim c.if-finishes.branch [
      | then-finishes+in_ok-record_list+in_ok-push w ↦
          next log c.calls.i true old c.if-finishes.lists.items (sym w.if-finishes.true ∙ c.finishes.ensures) c.calls.invariant
          (ap (λ ls. ls.items) w.lists-is ∙ w.in_ok-push.ensures.items ∙ ap (λ (l : CommandList). old ++ l ∷ []) w.in_ok-record_list.ensures)
      | else-finishes w ↦
          next log c.calls.i false old c.if-finishes.lists.items (sym w.if-finishes.false ∙ c.finishes.ensures) c.calls.invariant
          (ap (λ ls. ls.items) w.lists-is ∙ sym (append-nil old))
    ]
