-- On the listing of a run the counts of its acts order what masks and fences order.
use Rattle.std.proofs.Common.{◌≡◌, ℕ, suc, ◌+◌, ◌<◌, ◌≤◌, Bool, true, false, cond, nat_lt, nat_le, List, [], ◌∷◌}
use Rattle.std.proofs.Common.{◌++◌, length, refl, sym, ap, ◌∙◌, subst, inl, Option, Some, None, arith, append_assoc}
use Rattle.std.proofs.Common.{length-append}
use Rattle.std.specs.List.{AllByRecursion}
use Rattle.std.proofs.lemmas.Bool.{lt-ltb, lt-leb, le-ltb, le-leb}
use Rattle.vk_types.specs.declared.command.Command.{Command}
use Rattle.vk_types.specs.declared.op.Barrier.{Barrier}
use Rattle.vk_types.specs.declared.op.VkOp.{VkOp}
use Rattle.base_lemmas.specs.Lists.{Pairwise}
use Rattle.vk_types.specs.Hazards.{read_write_access, write_access}
use Rattle.vk_types.specs.Effects.{Host_write, Device, Host_read, is_host}
use Rattle.vk_types.specs.Listing.{first_submit}
use Rattle.vk_types.specs.Before.{before, side, On_host, On_device}
use Rattle.vk_types.specs.BarrierCauses.{source_mask, all_device, host_reads, least_conflict, caused, barrier_before}
use Rattle.vk_types.specs.BarrierCauses.{since_barrier, recent_after, least_writer, host_barrier, maybe_barrier}
use Rattle.vk_types.specs.BarrierCauses.{barriers_from}
use Rattle.vk_types.specs.Entries.{Counts, Placed, entry_before, counted, next, after_host, after_barrier}
use Rattle.vk_types.specs.Entries.{after_submit, after_fence, first_of, rest_of, entries_from, start_counts}
use Rattle.vk_types.specs.RunListing.{IsNumbered, IsWhole, IsRunListing, SameOrder}
use Rattle.base_lemmas.proofs.Lists.{all_map}
use Rattle.core_model.specs.BatchOrder.{barriers_by, IsBatchListing}
use Rattle.vk_types.proofs.Order.{ordered_by, ordered_pair, IsNamed, named_last}
use Rattle.vk_types.proofs.Bridge.{SameAfter}
use Rattle.core_model.proofs.Listing.FromCommand.{walk}
use Rattle.vk_types.specs.declared.op.VkOp.TheVariants as op

-- The whole listing -------------------------------------------------------------------------------------------------

-- two acts of a listing, the first listed earlier, are ordered alike
abbrev pub Alike : List VkOp → Placed → Placed → Type 0
Alike full x y = (before full x.place y.place ≡ entry_before x.entry y.entry) × (entry_before y.entry x.entry ≡ false)

-- From an act of the host on, which is ordered before all that comes
module _ (pre : List VkOp) (o : VkOp) (host : side o ≡ On_host) (x : Placed) (is : is_host x.entry.act ≡ true)
    (here : x.place ≡ length pre) (below : x.entry.fence < x.entry.chunk) where
  -- the counts behind `mid`
  pub record Behind (mid : List VkOp) (c : Counts) : Type 0 where
    pub place : c.place ≡ suc (length pre + length mid)
    pub number : x.entry.number < c.number
    pub chunk : x.entry.chunk ≤ c.chunk

  behind_more : (mid : List VkOp) (p : VkOp) (c d : Counts) → d.place ≡ suc c.place → c.number ≤ d.number
      → c.chunk ≤ d.chunk → Behind mid c → Behind (mid ++ p ∷ []) d
  behind_more mid p c d e f g b =
      let l = length-append mid (p ∷ []) in
      let h = b.place in
      let n = b.number in
      let k = b.chunk in
      record { place = omega (arith, e, l, h); number = omega (arith, n, f); chunk = omega (arith, k, g) }

  host_host : (mid : List VkOp) (p : VkOp) (rest : List VkOp) (c : Counts) → side p ≡ On_host → (y : Placed)
      → is_host y.entry.act ≡ true → y.place ≡ c.place → y.entry.number ≡ c.number
      → Behind mid c → Alike (pre ++ o ∷ (mid ++ p ∷ rest)) x y
  host_host mid p rest c s y h pl nu b =
      let full = pre ++ o ∷ (mid ++ p ∷ rest) in
      let n = b.number in (
        ap (λ a. before full a y.place) here ∙ ap (before full (length pre)) (pl ∙ b.place)
            ∙ ordered_pair pre mid o p rest
            ∙ ap (λ t. ordered_by (first_submit (mid ++ p ∷ rest)) mid t (side p)) host
            ∙ ap (ordered_by (first_submit (mid ++ p ∷ rest)) mid On_host) s
            ∙ sym (ap (λ t. cond t (cond (is_host y.entry.act) (nat_lt x.entry.number y.entry.number)
            (nat_le x.entry.chunk y.entry.chunk)) (cond (is_host y.entry.act)
            (nat_le x.entry.chunk y.entry.fence) (nat_lt x.entry.epoch y.entry.epoch))) is
            ∙ ap (λ t. cond t (nat_lt x.entry.number y.entry.number) (nat_le x.entry.chunk y.entry.chunk)) h
            ∙ lt-ltb x.entry.number y.entry.number (omega (arith, n, nu))),
        ap (λ t. cond t (cond (is_host x.entry.act) (nat_lt y.entry.number x.entry.number)
            (nat_le y.entry.chunk x.entry.chunk)) (cond (is_host x.entry.act) (nat_le y.entry.chunk x.entry.fence)
            (nat_lt y.entry.epoch x.entry.epoch))) h
            ∙ ap (λ t. cond t (nat_lt y.entry.number x.entry.number) (nat_le y.entry.chunk x.entry.chunk)) is
            ∙ le-ltb y.entry.number x.entry.number (omega (arith, n, nu)),
      )

  host_command : (mid : List VkOp) (D : Command) (rest : List VkOp) (c : Counts) → Behind mid c
      → Alike (pre ++ o ∷ (mid ++ op.Command D ∷ rest)) x (counted c (Device D))
  host_command mid D rest c b =
      let full = pre ++ o ∷ (mid ++ op.Command D ∷ rest) in
      let k = b.chunk in (
        ap (λ a. before full a c.place) here ∙ ap (before full (length pre)) b.place
            ∙ ordered_pair pre mid o (op.Command D) rest
            ∙ ap (λ t. ordered_by (first_submit (mid ++ op.Command D ∷ rest)) mid t (On_device D)) host
            ∙ sym (ap (λ t. cond t (nat_le x.entry.chunk c.chunk) (nat_lt x.entry.epoch c.epoch)) is
            ∙ le-leb x.entry.chunk c.chunk k),
        ap (λ t. cond t (nat_le c.chunk x.entry.fence) (nat_lt c.epoch x.entry.epoch)) is
            ∙ lt-leb c.chunk x.entry.fence (omega (arith, k, below)),
      )

  step_on : (mid : List VkOp) (p : VkOp) (ops : List VkOp) (es : List Placed)
      → AllByRecursion (Alike (pre ++ o ∷ ((mid ++ p ∷ []) ++ ops)) x) es
      → AllByRecursion (Alike (pre ++ o ∷ (mid ++ p ∷ ops)) x) es
  step_on mid p ops es h = subst (λ l. AllByRecursion (Alike (pre ++ o ∷ l) x) es) (append_assoc mid (p ∷ []) ops) h

  host_walk : (ops mid : List VkOp) (c : Counts) (contents : List (List ℕ)) → Behind mid c → IsNumbered c.chunk ops
      → AllByRecursion (Alike (pre ++ o ∷ (mid ++ ops)) x) (entries_from c contents ops)
  host_walk [] mid c contents b n = tt
  host_walk (op.HostWrite r call ∷ ops) mid c contents b n =
      let p = op.HostWrite r call in (
        host_host mid p ops c refl (counted c (Host_write r (first_of contents))) refl refl refl b,
        step_on mid p ops (entries_from (after_host c) (rest_of contents) ops)
            (host_walk ops (mid ++ p ∷ []) (after_host c) (rest_of contents)
            (behind_more mid p c (after_host c) refl (omega arith) (omega arith) b) n),
      )
  host_walk (op.Pipeline shader ∷ ops) mid c contents b n =
      let p = op.Pipeline shader in
      step_on mid p ops (entries_from (next c) contents ops)
      (host_walk ops (mid ++ p ∷ []) (next c) contents (behind_more mid p c (next c) refl (omega arith)
      (omega arith) b) n)
  host_walk (op.Barrier barrier ∷ ops) mid c contents b n =
      let p = op.Barrier barrier in
      step_on mid p ops (entries_from (after_barrier c barrier) contents ops)
      (host_walk ops (mid ++ p ∷ []) (after_barrier c barrier) contents
      (behind_more mid p c (after_barrier c barrier) refl (omega arith) (omega arith) b) n)
  host_walk (op.Command D ∷ ops) mid c contents b n =
      let p = op.Command D in (
        host_command mid D ops c b,
        step_on mid p ops (entries_from (next c) contents ops)
            (host_walk ops (mid ++ p ∷ []) (next c) contents
            (behind_more mid p c (next c) refl (omega arith) (omega arith) b) n),
      )
  host_walk (op.Submit j ∷ ops) mid c contents b n =
      let p = op.Submit j in
      let is = n.0 in
      step_on mid p ops (entries_from (after_submit c j) contents ops)
      (host_walk ops (mid ++ p ∷ []) (after_submit c j) contents
      (behind_more mid p c (after_submit c j) refl (omega arith) (omega (arith, is)) b)
      (subst (λ m. IsNumbered (suc m) ops) (sym n.0) n.1))
  host_walk (op.Fence j ∷ ops) mid c contents b n =
      let p = op.Fence j in
      step_on mid p ops (entries_from (after_fence c j) contents ops)
      (host_walk ops (mid ++ p ∷ []) (after_fence c j) contents
      (behind_more mid p c (after_fence c j) refl (omega arith) (omega arith) b) n.1)
  host_walk (op.HostRead r call ∷ ops) mid c contents b n =
      let p = op.HostRead r call in (
        host_host mid p ops c refl (counted c (Host_read r)) refl refl refl b,
        step_on mid p ops (entries_from (after_host c) contents ops)
            (host_walk ops (mid ++ p ∷ []) (after_host c) contents
            (behind_more mid p c (after_host c) refl (omega arith) (omega arith) b) n),
      )

module _ (staging : ℕ → ℕ → Bool) where
  -- all pairs of acts of a list are ordered alike, where it stands behind `pre`
  abbrev AllAlike : List VkOp → Type 0
  AllAlike ops =
      (inside : Bool) (pre : List VkOp) (c : Counts) (contents : List (List ℕ)) → c.place ≡ length pre
      → c.fence < c.chunk → IsNumbered c.chunk ops → IsWhole inside ops
      → Pairwise (Alike (pre ++ ops)) (entries_from c contents ops)

  shifted : (pre : List VkOp) (o : VkOp) (ops : List VkOp) (es : List Placed)
      → Pairwise (Alike ((pre ++ o ∷ []) ++ ops)) es → Pairwise (Alike (pre ++ o ∷ ops)) es
  shifted pre o ops es h = subst (λ l. Pairwise (Alike l) es) (append_assoc pre (o ∷ []) ops) h

  next_place : (pre : List VkOp) (o : VkOp) (n : ℕ) → n ≡ length pre → suc n ≡ length (pre ++ o ∷ [])
  next_place pre o n e = let l = length-append pre (o ∷ []) in omega (arith, e, l)

  -- from an act of the host
  from_host : (pre : List VkOp) (o : VkOp) (ops : List VkOp) (c : Counts) (contents : List (List ℕ)) (x : Placed)
      → side o ≡ On_host → is_host x.entry.act ≡ true
      → x.place ≡ c.place → x.entry.chunk ≡ c.chunk → x.entry.fence ≡ c.fence → x.entry.number ≡ c.number
      → c.place ≡ length pre → c.fence < c.chunk → IsNumbered c.chunk ops
      → AllByRecursion (Alike (pre ++ o ∷ ops) x) (entries_from (after_host c) contents ops)
  from_host pre o ops c contents x s h pl ch fe nu e l n =
      host_walk pre o s x h (pl ∙ e) (omega (arith, ch, fe, l)) ops [] (after_host c) contents
      (record {
        place = (let z : suc c.place ≡ suc (length pre + 0) = omega (arith, e) in z);
        number =
            omega (arith, nu);
        chunk = omega (arith, ch);
      }) n

  -- from a command
  from_command : (pre : List VkOp) (D : Command) (c : Counts) (contents : List (List ℕ)) (bare : List VkOp)
      (recent batch : List Command) → IsNamed D recent
      → c.place ≡ length pre → c.fence < c.chunk → IsNumbered c.chunk (barriers_by staging recent batch bare)
      → IsWhole true (barriers_by staging recent batch bare)
      → AllByRecursion (Alike (pre ++ op.Command D ∷ barriers_by staging recent batch bare) (counted c (Device D)))
      (entries_from (next c) contents (barriers_by staging recent batch bare))
  from_command pre D c contents bare recent batch named e l n w =
      let ops = barriers_by staging recent batch bare in
      let full = pre ++ op.Command D ∷ ops in
      let same : length pre ≡ c.place = sym e in
      all_map (SameAfter pre D c.chunk c.epoch c.fence c.number ops) (Alike full (counted c (Device D)))
      (λ y h. (ap (λ p. before full p y.place) e ∙ h.0, h.1))
      (entries_from (next c) contents ops)
      (walk staging pre D c.chunk c.epoch c.fence c.number bare recent batch [] true (next c) contents
      (record {
        place = (let z : suc c.place ≡ suc (length pre + 0) = omega (arith, e) in z);
        passed = inl (refl, (λ X. refl), named);
        submitted = inl (refl, refl, refl);
        fences = sym (lt-leb c.chunk c.fence l);
        below = l;
      }) n w)

  alike_command : (recent batch : List Command) (D : Command) (bare : List VkOp) (o : Option ℕ)
      → ((others : List Command) → AllAlike (barriers_by staging others (batch ++ D ∷ []) bare))
      → AllAlike (maybe_barrier (caused recent D o) ++ op.Command D ∷ barriers_by staging
      (since_barrier recent D (caused recent D o)) (batch ++ D ∷ []) bare)
  alike_command recent batch D bare None rec inside pre c contents e l n w =
      let ops = barriers_by staging (recent ++ D ∷ []) (batch ++ D ∷ []) bare in (
        from_command pre D c contents bare (recent ++ D ∷ []) (batch ++ D ∷ []) (named_last D recent) e l n w,
        shifted pre (op.Command D) ops (entries_from (next c) contents ops)
            (rec (recent ++ D ∷ []) true (pre ++ op.Command D ∷ []) (next c) contents
            (next_place pre (op.Command D) c.place e) l n w),
      )
  alike_command recent batch D bare (Some first) rec inside pre c contents e l n w =
      let b : Barrier = record {
        source = source_mask recent;
        dest = all_device read_write_access;
        first =
            first;
        second = Some D.number;
      } in
      let ops = barriers_by staging (D ∷ []) (batch ++ D ∷ []) bare in
      let d = after_barrier c b in
      let f = next_place pre (op.Barrier b) c.place e in
      shifted pre (op.Barrier b) (op.Command D ∷ ops) (entries_from d contents (op.Command D ∷ ops)) (
        from_command (pre ++ op.Barrier b ∷ []) D d contents bare (D ∷ []) (batch ++ D ∷ []) (named_last D []) f l n w,
        shifted (pre ++ op.Barrier b ∷ []) (op.Command D) ops (entries_from (next d) contents ops)
            (rec (D ∷ []) true ((pre ++ op.Barrier b ∷ []) ++ op.Command D ∷ []) (next d) contents
            (next_place (pre ++ op.Barrier b ∷ []) (op.Command D) d.place f) l n w),
      )

  alike_submit : (j : ℕ) (rest : List VkOp) (o : Option ℕ) → AllAlike rest
      → AllAlike (host_barrier o ++ op.Submit j ∷ rest)
  alike_submit j rest None rec inside pre c contents e l n w =
      let is = n.0 in
      shifted pre (op.Submit j) rest (entries_from (after_submit c j) contents rest)
      (rec false (pre ++ op.Submit j ∷ []) (after_submit c j) contents (next_place pre (op.Submit j) c.place e)
      (omega (arith, l, is)) (subst (λ m. IsNumbered (suc m) rest) (sym n.0) n.1) w)
  alike_submit j rest (Some first) rec inside pre c contents e l n w =
      let b : Barrier = record { source = all_device write_access; dest = host_reads; first = first; second = None } in
      let d = after_barrier c b in
      let f = next_place pre (op.Barrier b) c.place e in
      let is = n.0 in
      shifted pre (op.Barrier b) (op.Submit j ∷ rest) (entries_from (after_submit d j) contents rest)
      (shifted (pre ++ op.Barrier b ∷ []) (op.Submit j) rest (entries_from (after_submit d j) contents rest)
      (rec false ((pre ++ op.Barrier b ∷ []) ++ op.Submit j ∷ []) (after_submit d j) contents
      (next_place (pre ++ op.Barrier b ∷ []) (op.Submit j) d.place f) (omega (arith, l, is))
      (subst (λ m. IsNumbered (suc m) rest) (sym n.0) n.1) w))

  alike : (bare : List VkOp) (recent batch : List Command) → AllAlike (barriers_by staging recent batch bare)
  alike [] recent batch inside pre c contents e l n w = tt
  alike (op.HostWrite r call ∷ bare) recent batch inside pre c contents e l n w =
      let o = op.HostWrite r call in
      let ops = barriers_by staging recent batch bare in (
        from_host pre o ops c (rest_of contents) (counted c (Host_write r (first_of contents))) refl refl refl refl
            refl refl e l n,
        shifted pre o ops (entries_from (after_host c) (rest_of contents) ops)
            (alike bare recent batch inside (pre ++ o ∷ []) (after_host c) (rest_of contents)
            (next_place pre o c.place e) l n w.1),
      )
  alike (op.Pipeline shader ∷ bare) recent batch inside pre c contents e l n w =
      let o = op.Pipeline shader in
      let ops = barriers_by staging recent batch bare in
      shifted pre o ops (entries_from (next c) contents ops)
      (alike bare recent batch inside (pre ++ o ∷ []) (next c) contents (next_place pre o c.place e) l n w)
  alike (op.Barrier barrier ∷ bare) recent batch inside pre c contents e l n w =
      alike bare recent batch inside pre c contents e l n w
  alike (op.Command D ∷ bare) recent batch inside pre c contents e l n w =
      alike_command recent batch D bare (least_conflict recent D) (λ others. alike bare others (batch ++ D ∷ []))
      inside pre c contents e l n w
  alike (op.Submit j ∷ bare) recent batch inside pre c contents e l n w =
      alike_submit j (barriers_by staging recent [] bare) (least_writer (staging j) batch) (alike bare recent [])
      inside pre c contents e l n w
  alike (op.Fence j ∷ bare) recent batch inside pre c contents e l n w =
      let o = op.Fence j in
      let ops = barriers_by staging recent batch bare in
      let lt = n.0 in
      shifted pre o ops (entries_from (after_fence c j) contents ops)
      (alike bare recent batch inside (pre ++ o ∷ []) (after_fence c j) contents (next_place pre o c.place e)
      (omega (arith, l, lt)) n.1 w)
  alike (op.HostRead r call ∷ bare) recent batch inside pre c contents e l n w =
      let o = op.HostRead r call in
      let ops = barriers_by staging recent batch bare in (
        from_host pre o ops c contents (counted c (Host_read r)) refl refl refl refl refl refl e l n,
        shifted pre o ops (entries_from (after_host c) contents ops)
            (alike bare recent batch inside (pre ++ o ∷ []) (after_host c) contents (next_place pre o c.place e) l n
            w.1),
      )

  -- on a listing of batches the counts order what masks and fences order
  pub batches_in_order : (contents : List (List ℕ)) (ops : List VkOp) → IsBatchListing staging ops
      → SameOrder contents ops
  batches_in_order contents ops run =
      let e = run.barriers in
      subst (λ l. SameOrder contents l) (sym e)
      (alike ops [] [] false [] start_counts contents refl (let z : 0 < 1 = omega arith in z)
      (subst (IsNumbered 1) e run.numbers) (subst (IsWhole false) e run.whole))

-- the staging blocks of a run's listing stay the same from batch to batch
pub steady_barriers : (staging : ℕ → Bool) (ops : List VkOp) (recent batch : List Command)
    → barriers_from staging recent batch ops ≡ barriers_by (λ k. staging) recent batch ops
steady_barriers staging [] recent batch = refl
steady_barriers staging (op.HostWrite r call ∷ ops) recent batch =
    ap (λ l. op.HostWrite r call ∷ l) (steady_barriers staging ops recent batch)
steady_barriers staging (op.Pipeline shader ∷ ops) recent batch =
    ap (λ l. op.Pipeline shader ∷ l) (steady_barriers staging ops recent batch)
steady_barriers staging (op.Barrier barrier ∷ ops) recent batch = steady_barriers staging ops recent batch
steady_barriers staging (op.Command D ∷ ops) recent batch =
    ap (λ l. maybe_barrier (barrier_before recent D) ++ op.Command D ∷ l)
    (steady_barriers staging ops (recent_after recent D) (batch ++ D ∷ []))
steady_barriers staging (op.Submit k ∷ ops) recent batch =
    ap (λ l. host_barrier (least_writer staging batch) ++ op.Submit k ∷ l) (steady_barriers staging ops recent [])
steady_barriers staging (op.Fence k ∷ ops) recent batch =
    ap (λ l. op.Fence k ∷ l) (steady_barriers staging ops recent batch)
steady_barriers staging (op.HostRead r call ∷ ops) recent batch =
    ap (λ l. op.HostRead r call ∷ l) (steady_barriers staging ops recent batch)

-- on a run's listing the counts order what masks and fences order
pub same_order : (staging : ℕ → Bool) (contents : List (List ℕ)) (ops : List VkOp) → IsRunListing staging ops
    → SameOrder contents ops
same_order staging contents ops run =
    batches_in_order (λ k. staging) contents ops
    (record { barriers = run.barriers ∙ steady_barriers staging ops [] []; numbers = run.numbers; whole = run.whole })
