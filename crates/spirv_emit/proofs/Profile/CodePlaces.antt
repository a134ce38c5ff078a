-- Where the code of a function stands, and what each stretch of it keeps.
use Rattle.std.proofs.Common.{◌≡◌, ℕ, ◌+◌, ◌<◌, ◌≤◌, Bool, true, false, List, [], ◌∷◌, ◌++◌, Some, None, refl, sym, ap, ◌∙◌, subst, arith}
use Rattle.std.specs.Prelude.{not}
use Rattle.spirv_model.specs.declared.settings.TheConstants as setting
use Rattle.spirv_model.specs.declared.merge.Merge.TheVariants.{NoMerge}
use Rattle.spirv_model.specs.Op.{Op}
use Rattle.spirv_model.specs.Op as op
use Rattle.spirv_model.specs.History.{result_of, maker, in_function, block_is_open, is_branched_to, after}
use Rattle.spirv_model.specs.Operands.{operands, truth}
use Rattle.spirv_model.specs.Sections.{in_order}
use Rattle.spirv_model.specs.Blocks.{pending, takes}
use Rattle.spirv_model.specs.FirstBad.{first_word_rule}
use Rattle.spirv_emit.proofs.Profile.InstructionsPass.{Fine, Passes, passes_append, after_append, maker_other, maker_none, result_fine, label_fine, back_fine, later_fine}
use Rattle.spirv_emit.proofs.Profile.StraightCode.{plain, straight, straight_plain, straight_inner, straight_takes, straight_open, straight_pending, plain_inside, plain_order, inner_block, first_fine}

-- the bound, the first id of the code, and what stands before the code
module _ (bound first : ℕ) (start : List Op) where
  -- behind a history: whether a block is open, and from which id on all are free
  pub record Standing (opened : Bool) (n : ℕ) (h : List Op) : Type 0 where
    pub inside : in_function h ≡ true
    pub block : block_is_open h ≡ opened
    pub calm : pending h ≡ NoMerge
    pub order : (o : Op) → plain o ≡ true → in_order h o ≡ true
    pub fresh : (x : ℕ) → n ≤ x → maker x h ≡ None
    pub agrees : (x : ℕ) → x < first → maker x h ≡ maker x start

  -- the code is taken, leads there, and makes no id below lo
  pub record Runs (lo : ℕ) (h : List Op) (opened : Bool) (n : ℕ) (code : List Op) : Type 0 where
    pub passes : Passes bound h code
    pub stands : Standing opened n (after code h)
    pub kept : (x : ℕ) → x < lo → maker x (after code h) ≡ maker x h

  pub standing_more : (opened : Bool) (n m : ℕ) (h : List Op) → n ≤ m → Standing opened n h → Standing opened m h
  standing_more opened n m h le s = record { inside = s.inside; block = s.block; calm = s.calm; order = s.order; fresh = λ x p. s.fresh x (omega arith); agrees = s.agrees }

  pub runs_none : (lo : ℕ) (h : List Op) (opened : Bool) (n : ℕ) → Standing opened n h → Runs lo h opened n []
  runs_none lo h opened n s = record { passes = tt; stands = s; kept = λ x p. refl }

  pub runs_then : (lo lo' : ℕ) (h : List Op) (o1 o2 : Bool) (n1 n2 : ℕ) (a b : List Op) → lo ≤ lo' → Runs lo h o1 n1 a → Runs lo' (after a h) o2 n2 b → Runs lo h o2 n2 (a ++ b)
  runs_then lo lo' h o1 o2 n1 n2 a b le ra rb =
      let e = sym (after_append a b h) in
      record {
        passes = passes_append bound h a b ra.passes rb.passes;
        stands = subst (λ g. Standing o2 n2 g) e rb.stands;
        kept = λ x p. ap (maker x) (after_append a b h) ∙ rb.kept x (omega arith) ∙ ra.kept x p;
      }

  pub runs_more : (lo lo' n m : ℕ) (h : List Op) (opened : Bool) (code : List Op) → lo' ≤ lo → n ≤ m → Runs lo h opened n code → Runs lo' h opened m code
  runs_more lo lo' n m h opened code p q r = record { passes = r.passes; stands = standing_more opened n m (after code h) q r.stands; kept = λ x k. r.kept x (omega arith) }

  next_order : (o : Op) (h : List Op) (n : ℕ) (opened : Bool) → plain o ≡ true → Standing opened n h → (o' : Op) → plain o' ≡ true → in_order (o ∷ h) o' ≡ true
  next_order o h n opened e s o' e' = plain_order h o o' e e' s.inside

  straight_first : (o : Op) (h : List Op) (n : ℕ) → straight o ≡ true → Standing true n h → first_word_rule h o ≡ None
  straight_first o h n e s =
      let p = straight_plain o e in
      first_fine h o (s.order o p) (inner_block h o p (straight_inner o e) s.block (ap (λ m. takes m o) s.calm ∙ straight_takes o e))

  -- an instruction that makes the next id
  pub runs_making : (o : Op) (n : ℕ) (h : List Op) → straight o ≡ true → result_of o ≡ Some n → first ≤ n → Fine (operands bound h o) → Standing true n h → Runs n h true (n + 1) (o ∷ [])
  runs_making o n h e r le f s =
      let p = straight_plain o e in
      record {
        passes = ((straight_first o h n e s, f), tt);
        stands = record {
          inside = plain_inside h o p s.inside;
          block = straight_open o h e ∙ s.block;
          calm = straight_pending o h e;
          order = next_order o h n true p s;
          fresh = λ x k. maker_other x n o h r (λ q. absurd (omega arith)) ∙ s.fresh x (omega arith);
          agrees = λ x k. maker_other x n o h r (λ q. absurd (omega arith)) ∙ s.agrees x k;
        };
        kept = λ x k. maker_other x n o h r (λ q. absurd (omega arith));
      }

  -- an instruction that makes none
  pub runs_plainly : (o : Op) (lo n : ℕ) (h : List Op) → straight o ≡ true → result_of o ≡ None → Fine (operands bound h o) → Standing true n h → Runs lo h true n (o ∷ [])
  runs_plainly o lo n h e r f s =
      let p = straight_plain o e in
      record {
        passes = ((straight_first o h n e s, f), tt);
        stands = record {
          inside = plain_inside h o p s.inside;
          block = straight_open o h e ∙ s.block;
          calm = straight_pending o h e;
          order = next_order o h n true p s;
          fresh = λ x k. maker_none x o h r ∙ s.fresh x k;
          agrees = λ x k. maker_none x o h r ∙ s.agrees x k;
        };
        kept = λ x k. maker_none x o h r;
      }

  -- a block's end
  pub runs_branch : (l lo n : ℕ) (h : List Op) → l < bound → maker l h ≡ None → Standing true n h → Runs lo h false n (op.Branch l ∷ [])
  runs_branch l lo n h lt e s =
      record {
        passes = ((first_fine h (op.Branch l) (s.order (op.Branch l) refl) (inner_block h (op.Branch l) refl refl s.block (ap (λ m. takes m (op.Branch l)) s.calm)), (label_fine bound h l lt e, tt)), tt);
        stands = record {
          inside = s.inside;
          block = refl;
          calm = refl;
          order = next_order (op.Branch l) h n true refl s;
          fresh = s.fresh;
          agrees = s.agrees;
        };
        kept = λ x k. refl;
      }

  -- back to a loop's front
  pub runs_back : (l lo n : ℕ) (h : List Op) → l < bound → maker l h ≡ Some (op.Label l) → is_branched_to l h ≡ true → Standing true n h → Runs lo h false n (op.Branch l ∷ [])
  runs_back l lo n h lt e b s =
      record {
        passes = ((first_fine h (op.Branch l) (s.order (op.Branch l) refl) (inner_block h (op.Branch l) refl refl s.block (ap (λ m. takes m (op.Branch l)) s.calm)), (back_fine bound h l lt e b, tt)), tt);
        stands = record {
          inside = s.inside;
          block = refl;
          calm = refl;
          order = next_order (op.Branch l) h n true refl s;
          fresh = s.fresh;
          agrees = s.agrees;
        };
        kept = λ x k. refl;
      }

  pub runs_return : (lo n : ℕ) (h : List Op) → Standing true n h → Runs lo h false n (op.Return ∷ [])
  runs_return lo n h s =
      record {
        passes = ((first_fine h op.Return (s.order op.Return refl) (inner_block h op.Return refl refl s.block (ap (λ m. takes m op.Return) s.calm)), tt), tt);
        stands = record {
          inside = s.inside;
          block = refl;
          calm = refl;
          order = next_order op.Return h n true refl s;
          fresh = s.fresh;
          agrees = s.agrees;
        };
        kept = λ x k. refl;
      }

  -- a block's label, where no block is open
  pub runs_label : (l n m : ℕ) (h : List Op) → l < bound → maker l h ≡ None → first ≤ l → l < m → n ≤ m → Standing false n h → Runs l h true m (op.Label l ∷ [])
  runs_label l n m h lt e le lm nm s =
      record {
        passes = ((first_fine h (op.Label l) (s.order (op.Label l) refl) (ap not s.block), (result_fine bound h l lt e, tt)), tt);
        stands = record {
          inside = s.inside;
          block = refl;
          calm = refl;
          order = next_order (op.Label l) h n false refl s;
          fresh = λ x k. maker_other x l (op.Label l) h refl (λ q. absurd (omega arith)) ∙ s.fresh x (omega arith);
          agrees = λ x k. maker_other x l (op.Label l) h refl (λ q. absurd (omega arith)) ∙ s.agrees x k;
        };
        kept = λ x k. maker_other x l (op.Label l) h refl (λ q. absurd (omega arith));
      }

  -- a choice of two labels that come later, before a third one behind it
  pub runs_choice : (m c a b lo n : ℕ) (h : List Op) → m < bound → a < bound → b < bound → maker m h ≡ None → maker a h ≡ None → maker b h ≡ None → truth bound h c ≡ None → Standing true n h → Runs lo h false n (op.SelectionMerge m setting.NO_CONTROL ∷ op.BranchConditional c a b ∷ [])
  runs_choice m c a b lo n h lm la lb em ea eb t s =
      let merge = op.SelectionMerge m setting.NO_CONTROL in
      let branch = op.BranchConditional c a b in
      let front = first_fine h merge (s.order merge refl) (inner_block h merge refl refl s.block (ap (λ k. takes k merge) s.calm)) in
      let leave = first_fine (merge ∷ h) branch (next_order merge h n true refl s branch refl) (inner_block (merge ∷ h) branch refl refl s.block refl) in
      record {
        passes = ((front, (later_fine bound h m lm em, (refl, tt))), ((leave, (t, (label_fine bound (merge ∷ h) a la ea, (label_fine bound (merge ∷ h) b lb eb, tt)))), tt));
        stands = record {
          inside = s.inside;
          block = refl;
          calm = refl;
          order = λ o' e'. plain_order (merge ∷ h) branch o' refl e' s.inside;
          fresh = s.fresh;
          agrees = s.agrees;
        };
        kept = λ x k. refl;
      }

  -- a loop's front: the labels behind it and of its next turn, and a branch to its body
  pub runs_front : (m c l lo n : ℕ) (h : List Op) → m < bound → c < bound → l < bound → maker m h ≡ None → maker c h ≡ None → maker l h ≡ None → Standing true n h → Runs lo h false n (op.LoopMerge m c setting.NO_CONTROL ∷ op.Branch l ∷ [])
  runs_front m c l lo n h lm lc ll em ec el s =
      let merge = op.LoopMerge m c setting.NO_CONTROL in
      let branch = op.Branch l in
      let front = first_fine h merge (s.order merge refl) (inner_block h merge refl refl s.block (ap (λ k. takes k merge) s.calm)) in
      let leave = first_fine (merge ∷ h) branch (next_order merge h n true refl s branch refl) (inner_block (merge ∷ h) branch refl refl s.block refl) in
      record {
        passes = ((front, (later_fine bound h m lm em, (later_fine bound h c lc ec, (refl, tt)))), ((leave, (label_fine bound (merge ∷ h) l ll el, tt)), tt));
        stands = record {
          inside = s.inside;
          block = refl;
          calm = refl;
          order = λ o' e'. plain_order (merge ∷ h) branch o' refl e' s.inside;
          fresh = s.fresh;
          agrees = s.agrees;
        };
        kept = λ x k. refl;
      }
