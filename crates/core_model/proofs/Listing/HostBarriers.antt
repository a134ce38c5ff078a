-- Behind a command that writes a staging block stands a barrier to the host, before the next act of the host.
use Rattle.std.proofs.Common.{◌≡◌, ℕ, Bool, true, false, cond, ◌||◌, List, [], ◌∷◌, ◌++◌, Option, Some, None, is_some}
use Rattle.std.proofs.Common.{refl, sym, ap, ◌∙◌}
use Rattle.std.specs.List.{list_any}
use Rattle.vk_types.specs.declared.command.Command.{Command}
use Rattle.vk_types.specs.declared.op.Barrier.{Barrier}
use Rattle.vk_types.specs.declared.op.VkOp.{VkOp}
use Rattle.dx_types.specs.declared.range.Range.{Range}
use Rattle.vk_types.specs.Hazards.{write_access}
use Rattle.vk_types.specs.Covered.{op_barrier}
use Rattle.vk_types.specs.BarrierCauses.{all_device, host_reads, lesser, least_conflict, caused, since_barrier}
use Rattle.vk_types.specs.BarrierCauses.{writes_block, least_writer, host_barrier, maybe_barrier, barriers_from}
use Rattle.vk_types.specs.RunListing.{IsWhole}
use Rattle.vk_types.specs.declared.op.VkOp.TheVariants as op

-- Barriers to the host ----------------------------------------------------------------------------------------------

module _ (staging : ℕ → Bool) (test : Barrier → Bool) (passes : (first : ℕ)
    → test (record { source = all_device write_access; dest = host_reads; first = first; second = None }) ≡ true)
  where
    pub or_right : (a b : Bool) → b ≡ true → (a || b) ≡ true
    or_right true b e = refl
    or_right false b e = e

    some_lesser : (a b : Option ℕ) → is_some a ≡ true → is_some (lesser a b) ≡ true
    some_lesser None b e = absurd (cc e)
    some_lesser (Some m) None e = refl
    some_lesser (Some m) (Some n) e = refl

    lesser_some : (a b : Option ℕ) → is_some b ≡ true → is_some (lesser a b) ≡ true
    lesser_some None b e = e
    lesser_some (Some m) None e = absurd (cc e)
    lesser_some (Some m) (Some n) e = refl

    writer_more : (cs : List Command) (D : Command) → is_some (least_writer staging cs) ≡ true
        → is_some (least_writer staging (cs ++ D ∷ [])) ≡ true
    writer_more [] D e = absurd (cc e)
    writer_more (x ∷ cs) D e = by_head (writes_block staging x) (writer_more cs D) e
      where
        by_head : (b : Bool) → (is_some (least_writer staging cs) ≡ true
            → is_some (least_writer staging (cs ++ D ∷ [])) ≡ true)
            → is_some (lesser (cond b (Some x.number) None) (least_writer staging cs)) ≡ true
            → is_some (lesser (cond b (Some x.number) None) (least_writer staging (cs ++ D ∷ []))) ≡ true
        by_head true k e = some_lesser (Some x.number) (least_writer staging (cs ++ D ∷ [])) refl
        by_head false k e = k e

    writer_last : (cs : List Command) (D : Command) → writes_block staging D ≡ true
        → is_some (least_writer staging (cs ++ D ∷ [])) ≡ true
    writer_last [] D e = ap (λ b. is_some (lesser (cond b (Some D.number) None) None)) e
    writer_last (x ∷ cs) D e = lesser_some (cond (writes_block staging x) (Some x.number) None)
        (least_writer staging (cs ++ D ∷ [])) (writer_last cs D e)

    -- a barrier that passes stands among these
    abbrev Shown : List VkOp → Type 0
    Shown mid = list_any (op_barrier test) mid ≡ true

    -- in a batch with a writer the barrier stands before the next act of the host
    abbrev ShownBefore : List VkOp → Type 0
    ShownBefore ops = IsWhole true ops → (mid : List VkOp) (r : Range) (call : ℕ) (rest : List VkOp)
        → ops ≡ mid ++ op.HostRead r call ∷ rest → Shown mid

    past : (o : VkOp) (ops : List VkOp) → ((r : Range) (call : ℕ) → o ≡ op.HostRead r call → ⊥)
        → (mid : List VkOp) (r : Range) (call : ℕ) (rest : List VkOp) → o ∷ ops ≡ mid ++ op.HostRead r call ∷ rest
        → ((mid : List VkOp) → ops ≡ mid ++ op.HostRead r call ∷ rest → Shown mid) → Shown mid
    past o ops n [] r call rest e k = absurd (n r call (cc e))
    past o ops n (m ∷ mid) r call rest e k = or_right (op_barrier test m) (list_any (op_barrier test) mid)
        (k mid (cc e))

    shown_command : (recent : List Command) (D : Command) (rest : List Command → List VkOp) (o : Option ℕ)
        → ((others : List Command) → ShownBefore (rest others))
        → ShownBefore (maybe_barrier (caused recent D o) ++ op.Command D ∷ rest
        (since_barrier recent D (caused recent D o)))
    shown_command recent D rest None rec w mid r call others e =
        past (op.Command D) (rest (recent ++ D ∷ [])) (λ r call x. cc x) mid r call others e
        (λ mid e. rec (recent ++ D ∷ []) w mid r call others e)
    shown_command recent D rest (Some first) rec w mid r call others e =
        past _ (op.Command D ∷ rest (D ∷ [])) (λ r call x. cc x) mid r call others e
        (λ mid e. past (op.Command D) (rest (D ∷ [])) (λ r call x. cc x) mid r call others e
        (λ mid e. rec (D ∷ []) w mid r call others e))

    shown_submit : (j : ℕ) (rest : List VkOp) (o : Option ℕ) → is_some o ≡ true
        → ShownBefore (host_barrier o ++ op.Submit j ∷ rest)
    shown_submit j rest None s w mid r call others e = absurd (cc s)
    shown_submit j rest (Some first) s w [] r call others e = absurd (cc e)
    shown_submit j rest (Some first) s w (m ∷ mid) r call others e =
        let is : op.Barrier (record {
          source = all_device write_access;
          dest = host_reads;
          first = first;
          second =
              None;
        }) ≡ m = cc e in
        ap (λ m. op_barrier test m || list_any (op_barrier test) mid) (sym is)
        ∙ ap (λ b. b || list_any (op_barrier test) mid) (passes first)

    shown : (bare : List VkOp) (recent batch : List Command) → is_some (least_writer staging batch) ≡ true
        → ShownBefore (barriers_from staging recent batch bare)
    shown [] recent batch s w [] r call rest e = absurd (cc e)
    shown [] recent batch s w (m ∷ mid) r call rest e = absurd (cc e)
    shown (op.HostWrite q n ∷ bare) recent batch s w mid r call rest e = let f = w.0 in absurd (cc f)
    shown (op.Pipeline shader ∷ bare) recent batch s w mid r call rest e =
        past (op.Pipeline shader) (barriers_from staging recent batch bare) (λ r call x. cc x) mid r call rest e
        (λ mid e. shown bare recent batch s w mid r call rest e)
    shown (op.Barrier barrier ∷ bare) recent batch s w mid r call rest e = shown bare recent batch s w mid r call rest e
    shown (op.Command D ∷ bare) recent batch s w mid r call rest e =
        shown_command recent D (λ others. barriers_from staging others (batch ++ D ∷ []) bare)
        (least_conflict recent D) (λ others. shown bare others (batch ++ D ∷ []) (writer_more batch D s)) w mid r
        call rest e
    shown (op.Submit j ∷ bare) recent batch s w mid r call rest e =
        shown_submit j (barriers_from staging recent [] bare) (least_writer staging batch) s w mid r call rest e
    shown (op.Fence j ∷ bare) recent batch s w mid r call rest e =
        past (op.Fence j) (barriers_from staging recent batch bare) (λ r call x. cc x) mid r call rest e
        (λ mid e. shown bare recent batch s w mid r call rest e)
    shown (op.HostRead q n ∷ bare) recent batch s w mid r call rest e = let f = w.0 in absurd (cc f)

    -- behind a command that writes a staging block
    abbrev ShownBehind : Bool → List VkOp → Type 0
    ShownBehind inside ops =
        IsWhole inside ops → (front : List VkOp) (C : Command) (mid : List VkOp) (r : Range) (call : ℕ)
        (rest : List VkOp)
        → ops ≡ front ++ op.Command C ∷ (mid ++ op.HostRead r call ∷ rest) → writes_block staging C ≡ true → Shown mid

    over : (o : VkOp) (ops : List VkOp) → ((C : Command) → o ≡ op.Command C → ⊥)
        → (front : List VkOp) (C : Command) (rest : List VkOp) (mid : List VkOp)
        → o ∷ ops ≡ front ++ op.Command C ∷ rest
        → ((front : List VkOp) → ops ≡ front ++ op.Command C ∷ rest → Shown mid) → Shown mid
    over o ops n [] C rest mid e k = absurd (n C (cc e))
    over o ops n (f ∷ front) C rest mid e k = k front (cc e)

    behind_here : (recent batch : List Command) (D : Command) (ops : List VkOp)
        → ((s : is_some (least_writer staging (batch ++ D ∷ [])) ≡ true) → ShownBefore ops) → ShownBehind true ops
        → IsWhole true ops
        → (front : List VkOp) (C : Command) (mid : List VkOp) (r : Range) (call : ℕ) (rest : List VkOp)
        → op.Command D ∷ ops ≡ front ++ op.Command C ∷ (mid ++ op.HostRead r call ∷ rest)
        → writes_block staging C ≡ true → Shown mid
    behind_here recent batch D ops now later w [] C mid r call rest e wr =
        let is : D ≡ C = cc e in now (writer_last batch D (ap (writes_block staging) is ∙ wr)) w mid r call rest (cc e)
    behind_here recent batch D ops now later w (f ∷ front) C mid r call rest e wr =
        later w front C mid r call rest (cc e) wr

    behind_command : (inside : Bool) (recent batch : List Command) (D : Command) (rest : List Command
        → List VkOp) (o : Option ℕ)
        → ((others : List Command) → is_some (least_writer staging (batch ++ D ∷ [])) ≡ true
        → ShownBefore (rest others)) → ((others : List Command) → ShownBehind true (rest others))
        → ShownBehind inside (maybe_barrier (caused recent D o)
        ++ op.Command D ∷ rest (since_barrier recent D (caused recent D o)))
    behind_command inside recent batch D rest None now later w front C mid r call others e wr =
        behind_here recent batch D (rest (recent ++ D ∷ [])) (now (recent ++ D ∷ [])) (later (recent ++ D ∷ [])) w
        front C mid r call others e wr
    behind_command inside recent batch D rest (Some first) now later w front C mid r call others e wr =
        over _ (op.Command D ∷ rest (D ∷ [])) (λ C x. cc x) front C (mid ++ op.HostRead r call ∷ others) mid e
        (λ front e. behind_here recent batch D (rest (D ∷ [])) (now (D ∷ [])) (later (D ∷ [])) w front C mid r call
        others e wr)

    behind_submit : (inside : Bool) (j : ℕ) (rest : List VkOp) (o : Option ℕ) → ShownBehind false rest
        → ShownBehind inside (host_barrier o ++ op.Submit j ∷ rest)
    behind_submit inside j rest None rec w front C mid r call others e wr =
        over (op.Submit j) rest (λ C x. cc x) front C (mid ++ op.HostRead r call ∷ others) mid e
        (λ front e. rec w front C mid r call others e wr)
    behind_submit inside j rest (Some first) rec w front C mid r call others e wr =
        over _ (op.Submit j ∷ rest) (λ C x. cc x) front C (mid ++ op.HostRead r call ∷ others) mid e
        (λ front e. over (op.Submit j) rest (λ C x. cc x) front C (mid ++ op.HostRead r call ∷ others) mid e
        (λ front e. rec w front C mid r call others e wr))

    pub behind : (bare : List VkOp) (inside : Bool) (recent batch : List Command)
        → ShownBehind inside (barriers_from staging recent batch bare)
    behind [] inside recent batch w [] C mid r call rest e wr = absurd (cc e)
    behind [] inside recent batch w (f ∷ front) C mid r call rest e wr = absurd (cc e)
    behind (op.HostWrite q n ∷ bare) inside recent batch w front C mid r call rest e wr =
        over (op.HostWrite q n) (barriers_from staging recent batch bare) (λ C x. cc x) front C
        (mid ++ op.HostRead r call ∷ rest) mid e (λ front e. behind bare inside recent batch w.1 front C mid r
        call rest e wr)
    behind (op.Pipeline shader ∷ bare) inside recent batch w front C mid r call rest e wr =
        over (op.Pipeline shader) (barriers_from staging recent batch bare) (λ C x. cc x) front C
        (mid ++ op.HostRead r call ∷ rest) mid e (λ front e. behind bare inside recent batch w front C mid r call
        rest e wr)
    behind (op.Barrier barrier ∷ bare) inside recent batch w front C mid r call rest e wr =
        behind bare inside recent batch w front C mid r call rest e wr
    behind (op.Command D ∷ bare) inside recent batch w front C mid r call rest e wr =
        behind_command inside recent batch D (λ others. barriers_from staging others (batch ++ D ∷ []) bare)
        (least_conflict recent D)
        (λ others s. shown bare others (batch ++ D ∷ []) s) (λ others. behind bare true others (batch ++ D ∷ [])) w
        front C mid r call rest e wr
    behind (op.Submit j ∷ bare) inside recent batch w front C mid r call rest e wr =
        behind_submit inside j (barriers_from staging recent [] bare) (least_writer staging batch)
        (behind bare false recent []) w front C mid r call rest e wr
    behind (op.Fence j ∷ bare) inside recent batch w front C mid r call rest e wr =
        over (op.Fence j) (barriers_from staging recent batch bare) (λ C x. cc x) front C
        (mid ++ op.HostRead r call ∷ rest) mid e (λ front e. behind bare inside recent batch w front C mid r call
        rest e wr)
    behind (op.HostRead q n ∷ bare) inside recent batch w front C mid r call rest e wr =
        over (op.HostRead q n) (barriers_from staging recent batch bare) (λ C x. cc x) front C
        (mid ++ op.HostRead r call ∷ rest) mid e (λ front e. behind bare inside recent batch w.1 front C mid r
        call rest e wr)
