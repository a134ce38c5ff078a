-- From a command of a run's listing on: the counts order what its masks and fences order.
use Rattle.std.proofs.Common.{◌≡◌, ℕ, suc, ◌+◌, ◌<◌, Bool, true, false, max, ◌&&◌, ◌||◌, nat_le, List, [], ◌∷◌, ◌++◌}
use Rattle.std.proofs.Common.{length, refl, sym, ap, ◌∙◌, subst, inl, inr, Option, Some, None, arith, append_assoc}
use Rattle.std.proofs.Common.{length-append}
use Rattle.std.specs.List.{list_any, AllByRecursion}
use Rattle.std.proofs.lemmas.Bool.{lt-leb, le-leb}
use Rattle.std.proofs.lemmas.Bool.Decides.{leb_tells}
use Rattle.std.proofs.lemmas.List.Folds.{list_any-append}
use Rattle.vk_types.specs.declared.command.Command.{Command}
use Rattle.vk_types.specs.declared.op.Barrier.{Barrier}
use Rattle.vk_types.specs.declared.op.VkOp.{VkOp}
use Rattle.vk_types.specs.Hazards.{read_write_access, write_access}
use Rattle.vk_types.specs.Effects.{Host_write, Host_read}
use Rattle.vk_types.specs.Listing.{first_submit}
use Rattle.vk_types.specs.Before.{op_finishes, op_orders, names_stages_of}
use Rattle.vk_types.specs.BarrierCauses.{source_mask, all_device, host_reads, least_conflict, caused, since_barrier}
use Rattle.vk_types.specs.BarrierCauses.{least_writer, host_barrier, maybe_barrier}
use Rattle.vk_types.specs.Entries.{Counts, Placed, counted, next, after_host, after_barrier, after_submit}
use Rattle.vk_types.specs.Entries.{after_fence, first_of, rest_of, entries_from}
use Rattle.vk_types.specs.RunListing.{IsNumbered, IsWhole}
use Rattle.core_model.specs.BatchOrder.{barriers_by}
use Rattle.vk_types.proofs.Order.{IsNamed, named_more, source_names, device_names}
use Rattle.vk_types.proofs.Bridge.{host_names_none, SameAfter, Passed, Submitted, At, pass_quiet, host_after}
use Rattle.vk_types.proofs.Bridge.{command_after}
use Rattle.vk_types.specs.declared.op.VkOp.TheVariants as op

-- One more operation ------------------------------------------------------------------------------------------------

last_false : (test : VkOp → Bool) (mid : List VkOp) (o : VkOp) → test o ≡ false
    → list_any test (mid ++ o ∷ []) ≡ list_any test mid
last_false test mid o h = list_any-append test mid (o ∷ []) ∙ ap (λ v. list_any test mid || (v || false)) h
    ∙ or_false (list_any test mid)
  where
    or_false : (x : Bool) → (x || false) ≡ x
    or_false true = refl
    or_false false = refl

last_true : (test : VkOp → Bool) (mid : List VkOp) (o : VkOp) → test o ≡ true → list_any test (mid ++ o ∷ []) ≡ true
last_true test mid o h = list_any-append test mid (o ∷ []) ∙ ap (λ v. list_any test mid || (v || false)) h
    ∙ or_true (list_any test mid)
  where
    or_true : (x : Bool) → (x || true) ≡ true
    or_true true = refl
    or_true false = refl

submit_last : (mid : List VkOp) (o : VkOp) → first_submit mid ≡ None
    → first_submit (mid ++ o ∷ []) ≡ first_submit (o ∷ [])
submit_last [] o h = refl
submit_last (op.HostWrite r call ∷ mid) o h = submit_last mid o h
submit_last (op.Pipeline shader ∷ mid) o h = submit_last mid o h
submit_last (op.Barrier barrier ∷ mid) o h = submit_last mid o h
submit_last (op.Command command ∷ mid) o h = submit_last mid o h
submit_last (op.Submit j ∷ mid) o h = absurd (cc h)
submit_last (op.Fence j ∷ mid) o h = submit_last mid o h
submit_last (op.HostRead r call ∷ mid) o h = submit_last mid o h

submit_first : (k : ℕ) (mid : List VkOp) (o : VkOp) → first_submit mid ≡ Some k → first_submit (mid ++ o ∷ []) ≡ Some k
submit_first k [] o h = absurd (cc h)
submit_first k (op.HostWrite r call ∷ mid) o h = submit_first k mid o h
submit_first k (op.Pipeline shader ∷ mid) o h = submit_first k mid o h
submit_first k (op.Barrier barrier ∷ mid) o h = submit_first k mid o h
submit_first k (op.Command command ∷ mid) o h = submit_first k mid o h
submit_first k (op.Submit j ∷ mid) o h = h
submit_first k (op.Fence j ∷ mid) o h = submit_first k mid o h
submit_first k (op.HostRead r call ∷ mid) o h = submit_first k mid o h

le_max : (k m n : ℕ) → (nat_le k m || (nat_le k n || false)) ≡ nat_le k (max m n)
le_max k m n =
    elim (leb_tells k m) [
      | inl t ↦ let l = t.1 in ap (λ v. v || (nat_le k n || false)) t.0 ∙ sym (le-leb k (max m n) (omega (arith, l)))
      | inr f ↦ ap (λ v. v || (nat_le k n || false)) f.0 ∙ elim (leb_tells k n) [
        | inl t ↦ let l = t.1 in ap (λ v. v || false) t.0 ∙ sym (le-leb k (max m n) (omega (arith, l)))
        | inr g ↦ let x = f.1 in let y = g.1 in ap (λ v. v || false) g.0
            ∙ sym (lt-leb k (max m n) (omega (arith, x, y)))
      ]
    ]

-- From a command on -------------------------------------------------------------------------------------------------

module _ (staging : ℕ → ℕ → Bool) (pre : List VkOp) (C : Command) (k e fx nx : ℕ) where
  abbrev AtC : Bool → List Command → List VkOp → Counts → Type 0
  AtC inside recent mid c = At pre C k e fx nx inside recent mid c

  more_place : (mid : List VkOp) (o : VkOp) (n : ℕ) → n ≡ suc (length pre + length mid)
      → suc n ≡ suc (length pre + length (mid ++ o ∷ []))
  more_place mid o n h = let l = length-append mid (o ∷ []) in omega (arith, h, l)

  passed_more : (recent : List Command) (mid : List VkOp) (o : VkOp) (c d : Counts)
      → ((D : Command) → op_orders C D o ≡ false) → d.epoch ≡ c.epoch
      → Passed pre C k e fx nx recent mid c → Passed pre C k e fx nx recent (mid ++ o ∷ []) d
  passed_more recent mid o c d q p (inl h) = inl (p ∙ h.0, (λ D. last_false (op_orders C D) mid o (q D) ∙ h.1 D), h.2)
  passed_more recent mid o c d q p (inr h) = inr (
    subst (λ n. e < n) (sym p) h.0,
    (λ D. last_false (op_orders C D) mid o (q D) ∙ h.1 D),
  )

  -- a fence
  pass_fence : (inside : Bool) (recent : List Command) (mid : List VkOp) (j : ℕ) (c : Counts) → j < c.chunk
      → AtC inside recent mid c → AtC inside recent (mid ++ op.Fence j ∷ []) (after_fence c j)
  pass_fence inside recent mid j c l a = record {
    place = more_place mid (op.Fence j) c.place a.place;
    passed = passed_more recent mid (op.Fence j) c (after_fence c j) (λ D. refl) refl a.passed;
    submitted = submitted a.submitted;
    fences = list_any-append (op_finishes k) mid (op.Fence j ∷ []) ∙ ap (λ v. v || (nat_le k j || false)) a.fences
        ∙ le_max k c.fence j;
    below = let b = a.below in omega (arith, b, l);
  }
    where
      submitted : Submitted pre C k e fx nx inside mid c → Submitted pre C k e fx nx inside (mid ++ op.Fence j ∷ [])
          (after_fence c j)
      submitted (inl h) = inl (h.0, h.1, submit_last mid (op.Fence j) h.2)
      submitted (inr h) = inr (h.0, submit_first k mid (op.Fence j) h.1)

  -- a submit
  pass_submit : (inside : Bool) (recent : List Command) (mid : List VkOp) (j : ℕ) (c : Counts) → j ≡ c.chunk
      → AtC inside recent mid c → AtC false recent (mid ++ op.Submit j ∷ []) (after_submit c j)
  pass_submit inside recent mid j c is a = record {
    place = more_place mid (op.Submit j) c.place a.place;
    passed = passed_more recent mid (op.Submit j) c (after_submit c j) (λ D. refl) refl a.passed;
    submitted = submitted a.submitted;
    fences = last_false (op_finishes k) mid (op.Submit j) refl ∙ a.fences;
    below = let b = a.below in omega (arith, b, is);
  }
    where
      submitted : Submitted pre C k e fx nx inside mid c → Submitted pre C k e fx nx false (mid ++ op.Submit j ∷ [])
          (after_submit c j)
      submitted (inl h) = let i = h.1 in inr (
        (let z : k < suc j = omega (arith, is, i) in z),
        submit_last mid (op.Submit j) h.2 ∙ ap Some (is ∙ i),
      )
      submitted (inr h) = let l = h.0 in inr (
        (let z : k < suc j = omega (arith, is, l) in z),
        submit_first k mid (op.Submit j) h.1,
      )

  abbrev cause : List Command → ℕ → Command → Barrier
  cause recent first D = record {
    source = source_mask recent;
    dest = all_device read_write_access;
    first =
        first;
    second = Some D.number;
  }

  -- a barrier before a command orders all that comes
  pass_barrier : (inside : Bool) (recent others : List Command) (mid : List VkOp) (first : ℕ) (D : Command)
      (c : Counts) → AtC inside recent mid c
      → AtC inside others (mid ++ op.Barrier (cause recent first D) ∷ []) (after_barrier c (cause recent first D))
  pass_barrier inside recent others mid first D c a = record {
    place = more_place mid (op.Barrier (cause recent first D)) c.place a.place;
    passed = passed a.passed;
    submitted = submitted a.submitted;
    fences = last_false (op_finishes k) mid (op.Barrier (cause recent first D)) refl ∙ a.fences;
    below = a.below;
  }
    where
      passed : Passed pre C k e fx nx recent mid c → Passed pre C k e fx nx others
          (mid ++ op.Barrier (cause recent first D) ∷ []) (after_barrier c (cause recent first D))
      passed (inl h) =
          let p = h.0 in
          inr (
            (let z : e < suc c.epoch = omega (arith, p) in z),
            λ X. last_true (op_orders C X) mid (op.Barrier (cause recent first D))
                (ap (λ v. v && names_stages_of (all_device read_write_access) X) (source_names C recent h.2)
                ∙ device_names X),
          )
      passed (inr h) =
          let p = h.0 in
          inr (
            (let z : e < suc c.epoch = omega (arith, p) in z),
            λ X. list_any-append (op_orders C X) mid (op.Barrier (cause recent first D) ∷ [])
                ∙ ap (λ v. v || list_any (op_orders C X) (op.Barrier (cause recent first D) ∷ [])) (h.1 X),
          )

      submitted : Submitted pre C k e fx nx inside mid c → Submitted pre C k e fx nx inside
          (mid ++ op.Barrier (cause recent first D) ∷ []) (after_barrier c (cause recent first D))
      submitted (inl h) = inl (h.0, h.1, submit_last mid (op.Barrier (cause recent first D)) h.2)
      submitted (inr h) = inr (h.0, submit_first k mid (op.Barrier (cause recent first D)) h.1)

  abbrev to_host : ℕ → Barrier
  to_host first = record { source = all_device write_access; dest = host_reads; first = first; second = None }

  -- a barrier to the host orders no commands
  pass_to_host : (inside : Bool) (recent : List Command) (mid : List VkOp) (first : ℕ) (c : Counts)
      → AtC inside recent mid c
      → AtC inside recent (mid ++ op.Barrier (to_host first) ∷ []) (after_barrier c (to_host first))
  pass_to_host inside recent mid first c a =
      pass_quiet pre C k e fx nx inside recent mid (op.Barrier (to_host first)) c (after_barrier c (to_host first))
      (λ D. ap (λ v. names_stages_of (all_device write_access) C && v) (host_names_none D)
      ∙ and_false (names_stages_of (all_device write_access) C))
      refl refl refl refl refl refl a
    where
      and_false : (x : Bool) → (x && false) ≡ false
      and_false true = refl
      and_false false = refl

  -- another command, after which a batch is begun
  pass_command : (inside : Bool) (recent : List Command) (mid : List VkOp) (D : Command) (c : Counts)
      → AtC inside recent mid c
      → (others : List Command) → (IsNamed C recent → IsNamed C others)
      → AtC true others (mid ++ op.Command D ∷ []) (next c)
  pass_command inside recent mid D c a others named =
      let b = pass_quiet pre C k e fx nx inside recent mid (op.Command D) c (next c) (λ X. refl) refl refl refl refl
      refl refl a in
      record {
        place = b.place;
        passed = passed b.passed;
        submitted = submitted b.submitted;
        fences =
            b.fences;
        below = b.below;
      }
    where
      passed : Passed pre C k e fx nx recent (mid ++ op.Command D ∷ []) (next c)
          → Passed pre C k e fx nx others (mid ++ op.Command D ∷ []) (next c)
      passed (inl h) = inl (h.0, h.1, named h.2)
      passed (inr h) = inr h

      submitted : Submitted pre C k e fx nx inside (mid ++ op.Command D ∷ []) (next c)
          → Submitted pre C k e fx nx true (mid ++ op.Command D ∷ []) (next c)
      submitted (inl h) = inl (refl, h.1, h.2)
      submitted (inr h) = inr h

  -- all acts of a list are ordered alike, where it stands behind the command and `mid`
  abbrev Walks : List Command → List VkOp → List VkOp → Type 0
  Walks recent mid ops =
      (inside : Bool) (c : Counts) (contents : List (List ℕ)) → AtC inside recent mid c → IsNumbered c.chunk ops
      → IsWhole inside ops
      → AllByRecursion (SameAfter pre C k e fx nx (mid ++ ops)) (entries_from c contents ops)

  -- one operation on
  moved : (mid : List VkOp) (o : VkOp) (ops : List VkOp) (es : List Placed)
      → AllByRecursion (SameAfter pre C k e fx nx ((mid ++ o ∷ []) ++ ops)) es
      → AllByRecursion (SameAfter pre C k e fx nx (mid ++ o ∷ ops)) es
  moved mid o ops es h = subst (λ l. AllByRecursion (SameAfter pre C k e fx nx l) es) (append_assoc mid (o ∷ []) ops) h

  -- a command comes next, with the barrier before it, if there is one
  walk_command : (recent batch : List Command) (D : Command) (rest : List Command → List VkOp) (o : Option ℕ)
      → ((others : List Command) (mid : List VkOp) → Walks others mid (rest others)) → (mid : List VkOp)
      → Walks recent mid (maybe_barrier (caused recent D o) ++ op.Command D ∷ rest
      (since_barrier recent D (caused recent D o)))
  walk_command recent batch D rest None rec mid inside c contents a n w = (
    command_after pre C k e fx nx inside recent mid D (rest (recent ++ D ∷ [])) c a,
    moved mid (op.Command D) (rest (recent ++ D ∷ [])) (entries_from (next c) contents (rest (recent ++ D ∷ [])))
        (rec (recent ++ D ∷ []) (mid ++ op.Command D ∷ []) true (next c) contents
        (pass_command inside recent mid D c a (recent ++ D ∷ []) (λ m. named_more C recent (D ∷ []) m)) n w),
  )
  walk_command recent batch D rest (Some first) rec mid inside c contents a n w =
      let b = op.Barrier (cause recent first D) in
      let d = after_barrier c (cause recent first D) in
      let at = pass_barrier inside recent (D ∷ []) mid first D c a in
      moved mid b (op.Command D ∷ rest (D ∷ [])) (entries_from d contents (op.Command D ∷ rest (D ∷ []))) (
        command_after pre C k e fx nx inside (D ∷ []) (mid ++ b ∷ []) D (rest (D ∷ [])) d at,
        moved (mid ++ b ∷ []) (op.Command D) (rest (D ∷ [])) (entries_from (next d) contents (rest (D ∷ [])))
            (rec (D ∷ []) ((mid ++ b ∷ []) ++ op.Command D ∷ []) true (next d) contents
            (pass_command inside (D ∷ []) (mid ++ b ∷ []) D d at (D ∷ []) (λ m. m)) n w),
      )

  -- a submit comes next, with the barrier to the host before it, if there is one
  walk_submit : (recent : List Command) (j : ℕ) (rest : List VkOp) (o : Option ℕ)
      → ((mid : List VkOp) → Walks recent mid rest) → (mid : List VkOp)
      → Walks recent mid (host_barrier o ++ op.Submit j ∷ rest)
  walk_submit recent j rest None rec mid inside c contents a n w =
      moved mid (op.Submit j) rest (entries_from (after_submit c j) contents rest)
      (rec (mid ++ op.Submit j ∷ []) false (after_submit c j) contents (pass_submit inside recent mid j c n.0 a)
      (subst (λ m. IsNumbered (suc m) rest) (sym n.0) n.1) w)
  walk_submit recent j rest (Some first) rec mid inside c contents a n w =
      let b = op.Barrier (to_host first) in
      let d = after_barrier c (to_host first) in
      let at = pass_to_host inside recent mid first c a in
      moved mid b (op.Submit j ∷ rest) (entries_from (after_submit d j) contents rest)
      (moved (mid ++ b ∷ []) (op.Submit j) rest (entries_from (after_submit d j) contents rest)
      (rec ((mid ++ b ∷ []) ++ op.Submit j ∷ []) false (after_submit d j) contents
      (pass_submit inside recent (mid ++ b ∷ []) j d n.0 at)
      (subst (λ m. IsNumbered (suc m) rest) (sym n.0) n.1) w))

  pub walk : (bare : List VkOp) (recent batch : List Command) (mid : List VkOp)
      → Walks recent mid (barriers_by staging recent batch bare)
  walk [] recent batch mid inside c contents a n w = tt
  walk (op.HostWrite r call ∷ bare) recent batch mid inside c contents a n w =
      let o = op.HostWrite r call in
      let ops = barriers_by staging recent batch bare in (
        host_after pre C k e fx nx inside recent mid o ops c (counted c (Host_write r (first_of contents))) a w.0
            refl refl refl refl refl,
        moved mid o ops (entries_from (after_host c) (rest_of contents) ops)
            (walk bare recent batch (mid ++ o ∷ []) inside (after_host c) (rest_of contents)
            (pass_quiet pre C k e fx nx inside recent mid o c (after_host c) (λ D. refl) refl refl refl refl refl
            refl a) n w.1),
      )
  walk (op.Pipeline shader ∷ bare) recent batch mid inside c contents a n w =
      let o = op.Pipeline shader in
      let ops = barriers_by staging recent batch bare in
      moved mid o ops (entries_from (next c) contents ops)
      (walk bare recent batch (mid ++ o ∷ []) inside (next c) contents
      (pass_quiet pre C k e fx nx inside recent mid o c (next c) (λ D. refl) refl refl refl refl refl refl a) n w)
  walk (op.Barrier barrier ∷ bare) recent batch mid inside c contents a n w =
      walk bare recent batch mid inside c contents a n w
  walk (op.Command D ∷ bare) recent batch mid inside c contents a n w =
      walk_command recent batch D (λ others. barriers_by staging others (batch ++ D ∷ []) bare)
      (least_conflict recent D)
      (λ others mid. walk bare others (batch ++ D ∷ []) mid) mid inside c contents a n w
  walk (op.Submit j ∷ bare) recent batch mid inside c contents a n w =
      walk_submit recent j (barriers_by staging recent [] bare) (least_writer (staging j) batch)
      (λ mid. walk bare recent [] mid) mid inside c contents a n w
  walk (op.Fence j ∷ bare) recent batch mid inside c contents a n w =
      let o = op.Fence j in
      let ops = barriers_by staging recent batch bare in
      moved mid o ops (entries_from (after_fence c j) contents ops)
      (walk bare recent batch (mid ++ o ∷ []) inside (after_fence c j) contents
      (pass_fence inside recent mid j c n.0 a) n.1 w)
  walk (op.HostRead r call ∷ bare) recent batch mid inside c contents a n w =
      let o = op.HostRead r call in
      let ops = barriers_by staging recent batch bare in (
        host_after pre C k e fx nx inside recent mid o ops c (counted c (Host_read r)) a w.0 refl refl refl refl refl,
        moved mid o ops (entries_from (after_host c) contents ops)
            (walk bare recent batch (mid ++ o ∷ []) inside (after_host c) contents
            (pass_quiet pre C k e fx nx inside recent mid o c (after_host c) (λ D. refl) refl refl refl refl refl
            refl a) n w.1),
      )
