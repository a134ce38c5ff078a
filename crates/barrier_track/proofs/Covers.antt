-- A listing with the barriers that its hazards cause covers each hazard between commands.
use Rattle.std.proofs.Common.{◌≡◌, ℕ, zero, suc, ◌+◌, ◌-◌, ◌<◌, Bool, true, false, not, cond, ◌&&◌, ◌||◌, nat_lt, List, [], ◌∷◌, ◌++◌, take, drop, slice_get, Option, Some, None, is_some, refl, sym, ap, ◌∙◌, subst, inl, inr, arith}
use Rattle.std.specs.List.{list_any}
use Rattle.std.proofs.lemmas.Bool.{and_parts, both_ways, cases_Bool, ltb-true}
use Rattle.vk_types.specs.declared.access.Stage.{Stage}
use Rattle.vk_types.specs.declared.access.Stage.TheVariants as stage
use Rattle.vk_types.specs.declared.touch.Touch.{Touch}
use Rattle.vk_types.specs.declared.command.Command.{Command}
use Rattle.vk_types.specs.declared.op.Barrier.{Barrier}
use Rattle.vk_types.specs.declared.op.VkOp.{VkOp}
use Rattle.vk_types.specs.declared.op.VkOp.TheVariants as op
use Rattle.vk_types.specs.Hazards.{touches, has_stage, same_stage, has_write, conflict, lists_conflict, read_write_access, write_access, no_access, is_dispatch}
use Rattle.vk_types.specs.Listing.{touches_at, touches_if}
use Rattle.vk_types.specs.Before.{access_at, On_device, side_at, side_of, sides_ordered, before}
use Rattle.vk_types.specs.Covered.{writes_named, visible_at, visible_if, is_hazard, uncovered}
use Rattle.vk_types.specs.BarrierCauses.{writes_at, source_access, source_mask, all_device, lesser, least_conflict, caused, barrier_before, since_barrier, least_writer, host_barrier, maybe_barrier, barriers_from, HasBarrierCauses}
use Rattle.vk_types.proofs.Order.{IsNamed, named_last, named_more, source_names, no_host_stage}
use Rattle.vk_types.specs.Serving.{Serves, ServesOp}
use Rattle.vk_types.proofs.Serving.{HasServing, mid_orders, all_visible}
use Rattle.std.proofs.lemmas.List.Folds.{list_any-append}

-- The commands since the last barrier ----------------------------------------------------------------------------------

-- a command is among these: they work and write where it does, and one of them conflicts with what it conflicts with
pub record Known (c : Command) (cs : List Command) : Type 0 where
  pub named : IsNamed c cs
  pub writing : (s : Stage) → writes_at s c ≡ true → list_any (writes_at s) cs ≡ true
  pub seen : (d : Command) → conflict c d ≡ true → is_some (least_conflict cs d) ≡ true

or_true : (x : Bool) → (x || true) ≡ true
or_true true = refl
or_true false = refl

lesser_some : (a b : Option ℕ) → is_some b ≡ true → is_some (lesser a b) ≡ true
lesser_some None b e = e
lesser_some (Some m) None e = absurd (cc e)
lesser_some (Some m) (Some n) e = refl

some_lesser : (a b : Option ℕ) → is_some a ≡ true → is_some (lesser a b) ≡ true
some_lesser None b e = absurd (cc e)
some_lesser (Some m) None e = refl
some_lesser (Some m) (Some n) e = refl

seen_last : (xs : List Command) (c d : Command) → conflict c d ≡ true → is_some (least_conflict (xs ++ c ∷ []) d) ≡ true
seen_last [] c d h = ap (λ t. is_some (lesser (cond t (Some c.number) None) None)) h
seen_last (x ∷ xs) c d h = lesser_some (cond (conflict x d) (Some x.number) None) (least_conflict (xs ++ c ∷ []) d) (seen_last xs c d h)

seen_more : (xs : List Command) (c d : Command) → is_some (least_conflict xs d) ≡ true → is_some (least_conflict (xs ++ c ∷ []) d) ≡ true
seen_more [] c d h = absurd (cc h)
seen_more (x ∷ xs) c d h =
    elim (cases_Bool (conflict x d)) [
      | inl t ↦ some_lesser (cond (conflict x d) (Some x.number) None) (least_conflict (xs ++ c ∷ []) d) (ap (λ b. is_some (cond b (Some x.number) None)) t)
      | inr f ↦ lesser_some (cond (conflict x d) (Some x.number) None) (least_conflict (xs ++ c ∷ []) d)
          (seen_more xs c d (sym (ap (λ b. is_some (lesser (cond b (Some x.number) None) (least_conflict xs d))) f) ∙ h))
    ]

known_last : (xs : List Command) (c : Command) → Known c (xs ++ c ∷ [])
known_last xs c = record {
  named = named_last c xs;
  writing = λ s h. list_any-append (writes_at s) xs (c ∷ []) ∙ ap (λ v. list_any (writes_at s) xs || (v || false)) h ∙ or_true (list_any (writes_at s) xs);
  seen = λ d h. seen_last xs c d h;
}

known_more : (xs : List Command) (c d : Command) → Known c xs → Known c (xs ++ d ∷ [])
known_more xs c d k = record {
  named = named_more c xs (d ∷ []) k.named;
  writing = λ s h. list_any-append (writes_at s) xs (d ∷ []) ∙ ap (λ v. v || list_any (writes_at s) (d ∷ [])) (k.writing s h);
  seen = λ e h. seen_more xs d e (k.seen e h);
}

-- A barrier that covers a command ---------------------------------------------------------------------------------------

writes_has : (c : Command) (s : Stage) → writes_at s c ≡ true → has_stage c s ≡ true
writes_has c s h = ap (λ v. v || (is_dispatch c.work && same_stage stage.Compute s)) (some_at (touches c) h)
  where
    some_at : (ts : List Touch) → list_any (λ t. same_stage t.stage s && has_write t.access) ts ≡ true → list_any (λ t. same_stage t.stage s) ts ≡ true
    some_at [] e = absurd (cc e)
    some_at (t ∷ ts) e =
        elim (cases_Bool (same_stage t.stage s)) [
          | inl y ↦ ap (λ v. v || list_any (λ t. same_stage t.stage s) ts) y
          | inr n ↦ ap (λ v. v || list_any (λ t. same_stage t.stage s) ts) n ∙ some_at ts (sym (ap (λ v. (v && has_write t.access) || list_any (λ t. same_stage t.stage s && has_write t.access) ts) n) ∙ e)
        ]

shown_by : (c : Command) (cs : List Command) → Known c cs → (s : Stage) → writes_at s c ≡ true → writes_named (source_access cs s) ≡ true
shown_by c cs k s h =
    ap (λ v. writes_named (cond v (Some (cond (list_any (writes_at s) cs) write_access no_access)) None)) (k.named s (writes_has c s h))
    ∙ ap (λ v. has_write (cond v write_access no_access)) (k.writing s h)

good_source : (c : Command) (cs : List Command) → Known c cs → (s : Stage) → writes_at s c ≡ true → writes_named (access_at (source_mask cs) s) ≡ true
good_source c cs k stage.Indirect h = shown_by c cs k stage.Indirect h
good_source c cs k stage.Compute h = shown_by c cs k stage.Compute h
good_source c cs k stage.Transfer h = shown_by c cs k stage.Transfer h
good_source c cs k stage.Host h = absurd (both_ways (has_stage c stage.Host) (no_host_stage c) (writes_has c stage.Host h))

good_of : (c : Command) (recent : List Command) → Known c recent → (e : Command) (o : Option ℕ) (b : Barrier) → caused recent e o ≡ Some b → Serves c b
good_of c recent k e None b h = absurd (cc h)
good_of c recent k e (Some first) b h =
    let cause : Barrier = record { source = source_mask recent; dest = all_device read_write_access; first = first; second = Some e.number } in
    let same : cause ≡ b = cc h in
    subst (Serves c) same (record { source = source_names c recent k.named; shows = good_source c recent k; dest = refl })

-- The listing ------------------------------------------------------------------------------------------------------------

-- an operation that is not the command stands first, so it is passed over
skip : (c : Command) (o : VkOp) (rest pre : List VkOp) (p : VkOp) (post : List VkOp) → (o ≡ p → ⊥) → o ∷ rest ≡ pre ++ p ∷ post
    → ((front : List VkOp) → rest ≡ front ++ p ∷ post → HasServing c front) → HasServing c pre
skip c o rest [] p post n e k = absurd (n (cc e))
skip c o rest (q ∷ pre) p post n e k = inr (k pre (cc e))

none_conflict : (recent : List Command) (e : Command) → barrier_before recent e ≡ None → is_some (least_conflict recent e) ≡ false
none_conflict recent e h = go (least_conflict recent e) h
  where
    go : (o : Option ℕ) → caused recent e o ≡ None → is_some o ≡ false
    go None k = refl
    go (Some n) k = absurd (cc k)

good_before : (c : Command) (recent : List Command) → Known c recent → (e : Command) (b : Barrier) → barrier_before recent e ≡ Some b → Serves c b
good_before c recent k e b h = good_of c recent k e (least_conflict recent e) b h

module _ (c x d : Command) (recent : List Command) (post : List VkOp) (rest : List Command → List VkOp) where
  front_step : Known c recent → conflict c d ≡ true → ((xs : List Command) → Known c xs → (pre : List VkOp) → rest xs ≡ pre ++ op.Command d ∷ post → HasServing c pre)
      → (o : Option Barrier) → barrier_before recent x ≡ o → (pre : List VkOp) → maybe_barrier o ++ op.Command x ∷ rest (since_barrier recent x o) ≡ pre ++ op.Command d ∷ post → HasServing c pre
  front_step k h rec None is [] f = let same : x ≡ d = cc f in absurd (both_ways (is_some (least_conflict recent x)) (none_conflict recent x is) (k.seen x (ap (conflict c) same ∙ h)))
  front_step k h rec None is (p ∷ pre) f = inr (rec (recent ++ x ∷ []) (known_more recent c x k) pre (cc f))
  front_step k h rec (Some b) is [] f = absurd (cc f)
  front_step k h rec (Some b) is (p ∷ pre) f = let first : op.Barrier b ≡ p = cc f in inl (subst (ServesOp c) first (good_before c recent k x b is))

front_submit : (c : Command) (j : ℕ) (rest : List VkOp) (d : Command) (post : List VkOp) → ((front : List VkOp) → rest ≡ front ++ op.Command d ∷ post → HasServing c front)
    → (o : Option ℕ) (pre : List VkOp) → host_barrier o ++ op.Submit j ∷ rest ≡ pre ++ op.Command d ∷ post → HasServing c pre
front_submit c j rest d post rec None pre f = skip c (op.Submit j) rest pre (op.Command d) post (λ x. cc x) f rec
front_submit c j rest d post rec (Some n) [] f = absurd (cc f)
front_submit c j rest d post rec (Some n) (p ∷ pre) f = inr (skip c (op.Submit j) rest pre (op.Command d) post (λ x. cc x) (cc f) rec)

-- a barrier that covers a recent command stands before each later one that conflicts with it
front_good : (staging : ℕ → Bool) (c : Command) (bare : List VkOp) (recent batch : List Command) → Known c recent → (pre : List VkOp) (d : Command) (post : List VkOp)
    → barriers_from staging recent batch bare ≡ pre ++ op.Command d ∷ post → conflict c d ≡ true → HasServing c pre
front_good staging c [] recent batch k [] d post e h = absurd (cc e)
front_good staging c [] recent batch k (p ∷ pre) d post e h = absurd (cc e)
front_good staging c (op.HostWrite r call ∷ ops) recent batch k pre d post e h =
    skip c (op.HostWrite r call) (barriers_from staging recent batch ops) pre (op.Command d) post (λ x. cc x) e (λ front f. front_good staging c ops recent batch k front d post f h)
front_good staging c (op.Pipeline shader ∷ ops) recent batch k pre d post e h =
    skip c (op.Pipeline shader) (barriers_from staging recent batch ops) pre (op.Command d) post (λ x. cc x) e (λ front f. front_good staging c ops recent batch k front d post f h)
front_good staging c (op.Barrier barrier ∷ ops) recent batch k pre d post e h = front_good staging c ops recent batch k pre d post e h
front_good staging c (op.Command x ∷ ops) recent batch k pre d post e h =
    front_step c x d recent post (λ xs. barriers_from staging xs (batch ++ x ∷ []) ops) k h
    (λ xs k pre f. front_good staging c ops xs (batch ++ x ∷ []) k pre d post f h) (barrier_before recent x) refl pre e
front_good staging c (op.Submit j ∷ ops) recent batch k pre d post e h =
    front_submit c j (barriers_from staging recent [] ops) d post (λ front f. front_good staging c ops recent [] k front d post f h) (least_writer staging batch) pre e
front_good staging c (op.Fence j ∷ ops) recent batch k pre d post e h =
    skip c (op.Fence j) (barriers_from staging recent batch ops) pre (op.Command d) post (λ x. cc x) e (λ front f. front_good staging c ops recent batch k front d post f h)
front_good staging c (op.HostRead r call ∷ ops) recent batch k pre d post e h =
    skip c (op.HostRead r call) (barriers_from staging recent batch ops) pre (op.Command d) post (λ x. cc x) e (λ front f. front_good staging c ops recent batch k front d post f h)

-- between two commands of the listing that conflict stands a barrier that covers the first
pass : (c : Command) (mid : List VkOp) (o : VkOp) (rest pre : List VkOp) (p : VkOp) (post : List VkOp) → (o ≡ p → ⊥) → o ∷ rest ≡ pre ++ p ∷ post
    → ((front : List VkOp) → rest ≡ front ++ p ∷ post → HasServing c mid) → HasServing c mid
pass c mid o rest [] p post n e k = absurd (n (cc e))
pass c mid o rest (q ∷ pre) p post n e k = k pre (cc e)

module _ (c x d : Command) (recent : List Command) (mid post : List VkOp) (rest : List Command → List VkOp) where
  abbrev Begun : Type 0
  Begun = (xs : List Command) → Known x xs → op.Command x ≡ op.Command c → rest xs ≡ mid ++ op.Command d ∷ post → HasServing c mid

  pair_step : Begun → ((xs : List Command) (pre : List VkOp) → rest xs ≡ pre ++ op.Command c ∷ (mid ++ op.Command d ∷ post) → HasServing c mid)
      → (o : Option Barrier) (pre : List VkOp) → maybe_barrier o ++ op.Command x ∷ rest (since_barrier recent x o) ≡ pre ++ op.Command c ∷ (mid ++ op.Command d ∷ post) → HasServing c mid
  pair_step first rec None [] f = first (recent ++ x ∷ []) (known_last recent x) (cc f) (cc f)
  pair_step first rec None (p ∷ pre) f = rec (recent ++ x ∷ []) pre (cc f)
  pair_step first rec (Some b) [] f = absurd (cc f)
  pair_step first rec (Some b) (p ∷ []) f = first (x ∷ []) (known_last [] x) (cc f) (cc f)
  pair_step first rec (Some b) (p ∷ (q ∷ pre)) f = rec (x ∷ []) pre (cc f)

pair_submit : (c : Command) (mid : List VkOp) (j : ℕ) (rest tail : List VkOp) → ((front : List VkOp) → rest ≡ front ++ op.Command c ∷ tail → HasServing c mid)
    → (o : Option ℕ) (pre : List VkOp) → host_barrier o ++ op.Submit j ∷ rest ≡ pre ++ op.Command c ∷ tail → HasServing c mid
pair_submit c mid j rest tail rec None pre f = pass c mid (op.Submit j) rest pre (op.Command c) tail (λ x. cc x) f rec
pair_submit c mid j rest tail rec (Some n) [] f = absurd (cc f)
pair_submit c mid j rest tail rec (Some n) (p ∷ pre) f = pass c mid (op.Submit j) rest pre (op.Command c) tail (λ x. cc x) (cc f) rec

pair_good : (staging : ℕ → Bool) (bare : List VkOp) (recent batch : List Command) (pre : List VkOp) (c : Command) (mid : List VkOp) (d : Command) (post : List VkOp)
    → barriers_from staging recent batch bare ≡ pre ++ op.Command c ∷ (mid ++ op.Command d ∷ post) → conflict c d ≡ true → HasServing c mid
pair_good staging [] recent batch [] c mid d post e h = absurd (cc e)
pair_good staging [] recent batch (p ∷ pre) c mid d post e h = absurd (cc e)
pair_good staging (op.HostWrite r call ∷ ops) recent batch pre c mid d post e h =
    pass c mid (op.HostWrite r call) (barriers_from staging recent batch ops) pre (op.Command c) (mid ++ op.Command d ∷ post) (λ x. cc x) e (λ front f. pair_good staging ops recent batch front c mid d post f h)
pair_good staging (op.Pipeline shader ∷ ops) recent batch pre c mid d post e h =
    pass c mid (op.Pipeline shader) (barriers_from staging recent batch ops) pre (op.Command c) (mid ++ op.Command d ∷ post) (λ x. cc x) e (λ front f. pair_good staging ops recent batch front c mid d post f h)
pair_good staging (op.Barrier barrier ∷ ops) recent batch pre c mid d post e h = pair_good staging ops recent batch pre c mid d post e h
pair_good staging (op.Command x ∷ ops) recent batch pre c mid d post e h =
    pair_step c x d recent mid post (λ xs. barriers_from staging xs (batch ++ x ∷ []) ops)
    (λ xs k same f. let is : x ≡ c = cc same in subst (λ z. HasServing z mid) is (front_good staging x ops xs (batch ++ x ∷ []) k mid d post f (ap (λ z. conflict z d) is ∙ h)))
    (λ xs front f. pair_good staging ops xs (batch ++ x ∷ []) front c mid d post f h) (barrier_before recent x) pre e
pair_good staging (op.Submit j ∷ ops) recent batch pre c mid d post e h =
    pair_submit c mid j (barriers_from staging recent [] ops) (mid ++ op.Command d ∷ post) (λ front f. pair_good staging ops recent [] front c mid d post f h) (least_writer staging batch) pre e
pair_good staging (op.Fence j ∷ ops) recent batch pre c mid d post e h =
    pass c mid (op.Fence j) (barriers_from staging recent batch ops) pre (op.Command c) (mid ++ op.Command d ∷ post) (λ x. cc x) e (λ front f. pair_good staging ops recent batch front c mid d post f h)
pair_good staging (op.HostRead r call ∷ ops) recent batch pre c mid d post e h =
    pass c mid (op.HostRead r call) (barriers_from staging recent batch ops) pre (op.Command c) (mid ++ op.Command d ∷ post) (λ x. cc x) e (λ front f. pair_good staging ops recent batch front c mid d post f h)

-- Two commands of the listing ---------------------------------------------------------------------------------------------

split_there : (ops : List VkOp) (n : ℕ) (o : VkOp) → slice_get ops n ≡ Some o → ops ≡ take n ops ++ o ∷ drop (suc n) ops
split_there [] n o e = absurd (cc e)
split_there (p ∷ ops) zero o e = let is : p ≡ o = cc e in ap (λ q. q ∷ ops) is
split_there (p ∷ ops) (suc n) o e = ap (λ l. p ∷ l) (split_there ops n o e)

get_later : (ops : List VkOp) (n k m : ℕ) → n + k ≡ m → slice_get (drop n ops) k ≡ slice_get ops m
get_later ops zero k m e = let is : k ≡ m = omega (arith, e) in ap (slice_get ops) is
get_later [] (suc n) k m e = refl
get_later (p ∷ ops) (suc n) k zero e = absurd (omega (arith, e))
get_later (p ∷ ops) (suc n) k (suc m) e = get_later ops n k m (omega (arith, e))

covers_hazard : (staging : ℕ → Bool) (ops : List VkOp) → HasBarrierCauses staging ops → (x y : ℕ) (c d : Command) → slice_get ops x ≡ Some (op.Command c) → slice_get ops y ≡ Some (op.Command d)
    → is_hazard ops x y ≡ true → (before ops x y && visible_at ops x y) ≡ true
covers_hazard staging ops h x y c d ex ey hz =
    let parts = and_parts (nat_lt x y) (lists_conflict (touches_at ops x) (touches_at ops y)) hz in
    let lt : x < y = ltb-true x y parts.0 in
    let clash : conflict c d ≡ true =
    sym (ap (λ o. lists_conflict (touches_if o) (touches_at ops y)) ex ∙ ap (λ o. lists_conflict (touches c) (touches_if o)) ey) ∙ parts.1 in
    let rest = drop (suc x) ops in
    let k = y - suc x in
    let mid = take k rest in
    let place : suc x + k ≡ y = omega (arith, lt) in
    let later : slice_get rest k ≡ Some (op.Command d) = get_later ops (suc x) k y place ∙ ey in
    let whole : ops ≡ take x ops ++ op.Command c ∷ (mid ++ op.Command d ∷ drop (suc k) rest) =
    split_there ops x (op.Command c) ex ∙ ap (λ l. take x ops ++ op.Command c ∷ l) (split_there rest k (op.Command d) later) in
    let good : HasServing c mid = pair_good staging ops [] [] (take x ops) c mid d (drop (suc k) rest) (sym h ∙ whole) clash in
    let ordered : before ops x y ≡ true =
    ap (λ b. b && sides_ordered ops x y (side_at ops x) (side_at ops y)) parts.0
    ∙ ap (λ o. sides_ordered ops x y (side_of o) (side_at ops y)) ex
    ∙ ap (λ o. sides_ordered ops x y (On_device c) (side_of o)) ey
    ∙ mid_orders c d mid good in
    let seen : visible_at ops x y ≡ true =
    ap (λ o. visible_if mid o (slice_get ops y)) ex ∙ ap (visible_if mid (Some (op.Command c))) ey ∙ all_visible c d mid good in
    ap (λ b. b && visible_at ops x y) ordered ∙ seen

pub commands_covered : (staging : ℕ → Bool) (ops : List VkOp) → HasBarrierCauses staging ops → (x y : ℕ) (c d : Command) → slice_get ops x ≡ Some (op.Command c) → slice_get ops y ≡ Some (op.Command d)
    → uncovered ops x y ≡ false
commands_covered staging ops h x y c d ex ey =
    elim (cases_Bool (is_hazard ops x y)) [
      | inl t ↦ ap (λ b. b && not (before ops x y && visible_at ops x y)) t ∙ ap not (covers_hazard staging ops h x y c d ex ey t)
      | inr f ↦ ap (λ b. b && not (before ops x y && visible_at ops x y)) f
    ]
