-- Which block each id names, once a buffer takes a block, and once it is destroyed.
use Rattle.std.proofs.Common.{◌≡◌, ℕ, ◌==◌, Bool, true, false, cond, [], ◌∷◌, Option, Some, None}
use Rattle.std.proofs.Common.{refl, sym, ap, ◌∙◌, inl, inr, arith}
use Rattle.std.specs.Ordering.{nat_cmp, eq_by_cmp}
use Rattle.std.proofs.lemmas.Bool.{cases_eq}
use Rattle.std.proofs.lemmas.Bool.Decides.{nat_tests}
use Rattle.base_lemmas.specs.IdMap as ids
use Rattle.base_lemmas.proofs.Maps.{get-insert, get-remove, other_key}
use Rattle.core_model.specs.Renaming.{BlockMap}
use Rattle.core_model.specs.Script.{updated}
use Rattle.d3d_model.specs.Past as past
use Rattle.d3d_model.specs.Past.{Past, then_done}
use Rattle.log_script.specs.Makers.{maker}
use Rattle.item_work.specs.Placed.{IdBlocks, NamesBlocks}
use Rattle.item_make.specs.Making.{NeverMade, MakesAlone}

same : (n : ℕ) → (n == n) ≡ true
same n = grind (arith, nat_tests)

apart : (m n : ℕ) → (m ≡ n → ⊥) → (m == n) ≡ false
apart m n h = grind (arith, nat_tests)

key_same : (n : ℕ) → eq_by_cmp nat_cmp n n ≡ true
key_same n = grind (arith, nat_tests)

maker_made : (call id : ℕ) (before : Past) (other : ℕ)
    → maker (then_done call before (past.Makes id ∷ [])) other ≡ cond (id == other) call (maker before other)
unfolding maker then_done
maker_made call id before other = refl

-- another block at a place
pub set_named : (named new : IdBlocks) (before : Past) (of : BlockMap) (id : ℕ) (block : Option ℕ)
    → ((q : ℕ) → ids.get new q ≡ cond (eq_by_cmp nat_cmp q id) block (ids.get named q))
    → MakesAlone before id → NamesBlocks before named of → NamesBlocks before new (updated (maker before id) block of)
set_named named new before of id block is alone names other =
    elim (cases_eq other id) [
      | inl e ↦
          ap (ids.get new) e ∙ is id ∙ ap (λ (b : Bool). cond b block (ids.get named id)) (key_same id)
          ∙ sym (ap (λ (b : Bool). cond b block (of (maker before other))) (ap (λ (n : ℕ). maker before n == maker before id) e ∙ same (maker before id)))
      | inr distinct ↦
          is other ∙ ap (λ (b : Bool). cond b block (ids.get named other)) (other_key other id distinct) ∙ names other
          ∙ sym (ap (λ (b : Bool). cond b block (of (maker before other))) (apart (maker before other) (maker before id) (λ e. distinct (alone other e))))
    ]

pub taken_named : (named new : IdBlocks) (before : Past) (of : BlockMap) (id block : ℕ) → new ≡ ids.insert named id block
    → MakesAlone before id → NamesBlocks before named of → NamesBlocks before new (updated (maker before id) (Some block) of)
taken_named named new before of id block is alone names =
    set_named named new before of id (Some block) (λ q. ap (λ (m : IdBlocks). ids.get m q) is ∙ get-insert named id block q) alone names

pub gone_named : (named new : IdBlocks) (before : Past) (of : BlockMap) (id : ℕ) → new ≡ ids.remove named id
    → MakesAlone before id → NamesBlocks before named of → NamesBlocks before new (updated (maker before id) None of)
gone_named named new before of id is alone names =
    set_named named new before of id None (λ q. ap (λ (m : IdBlocks). ids.get m q) is ∙ get-remove named id q) alone names

-- a new buffer of an id
pub created_named : (named new : IdBlocks) (before : Past) (of : BlockMap) (call id block : ℕ) → new ≡ ids.insert named id block
    → NeverMade before call → NamesBlocks before named of
    → NamesBlocks (then_done call before (past.Makes id ∷ [])) new (updated call (Some block) of)
created_named named new before of call id block is never names other =
    let now = ap (λ (m : IdBlocks). ids.get m other) is ∙ get-insert named id block other in
    let by = maker_made call id before other in
    elim (cases_eq other id) [
      | inl e ↦
          let of_call : maker (then_done call before (past.Makes id ∷ [])) other ≡ call =
          by ∙ ap (λ (b : Bool). cond b call (maker before other)) (ap (λ (n : ℕ). id == n) e ∙ same id) in
          now ∙ ap (λ (b : Bool). cond b (Some block) (ids.get named other)) (ap (λ (n : ℕ). eq_by_cmp nat_cmp n id) e ∙ key_same id)
          ∙ sym (ap (λ (n : ℕ). cond (n == call) (Some block) (of n)) of_call ∙ ap (λ (b : Bool). cond b (Some block) (of call)) (same call))
      | inr distinct ↦
          let as_before : maker (then_done call before (past.Makes id ∷ [])) other ≡ maker before other =
          by ∙ ap (λ (b : Bool). cond b call (maker before other)) (apart id other (λ e. distinct (sym e))) in
          now ∙ ap (λ (b : Bool). cond b (Some block) (ids.get named other)) (other_key other id distinct) ∙ names other
          ∙ sym (ap (λ (n : ℕ). cond (n == call) (Some block) (of n)) as_before
          ∙ ap (λ (b : Bool). cond b (Some block) (of (maker before other))) (apart (maker before other) call (λ e. never other e)))
    ]
