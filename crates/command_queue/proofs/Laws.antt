-- Ready commands may be run first, and what is accepted comes behind what is left.
use Rattle.std.proofs.Common.{◌≡◌, ℕ, zero, suc, Bool, true, false, not, ◌&&◌, ◌||◌, List, [], ◌∷◌, ◌++◌, map, Some, refl, sym, ap, subst, ◌∙◌, inl, inr, append_assoc, append-nil}
use Rattle.std.specs.Prelude.{slice_get}
use Rattle.std.specs.List.{AllByRecursion, list_any}
use Rattle.std.proofs.lemmas.Bool.{cases_Bool, or_parts, and_parts, both_ways, not-true}
use Rattle.dx_types.specs.declared.range.Range.{Range}
use Rattle.vk_types.specs.declared.command.Command as c
use Rattle.vk_types.specs.declared.op.VkOp.{VkOp}
use Rattle.vk_types.specs.declared.op.VkOp.TheVariants as op
use Rattle.vk_types.specs.Before.{op_orders}
use Rattle.vk_types.specs.Memory.{Memory, number_at, put}
use Rattle.vk_types.specs.Effects.{Meaning, Device, Host_write, effect}
use Rattle.vk_types.specs.Hazards.{conflict, lists_conflict, touches, host_write_touch}
use Rattle.vk_types.proofs.Acts.{acts_exchange}
use Rattle.command_queue.specs.declared.queue.Listed.{Listed}
use Rattle.command_queue.specs.Readiness.{op_ordered, is_held_back, is_ready_op, command_of, step_command}
use Rattle.command_queue.specs.Left.{left_op, left, run_commands, put_all, Guarded, GuardsFrom, HazardsHold, LeftApart, ran_one, marked}
use Rattle.command_queue.proofs.Ready.{ReadyAt, get_at, marked_at}

pub left-append : (xs ys : List Listed) → left (xs ++ ys) ≡ left xs ++ left ys
left-append [] ys = refl
left-append (x ∷ xs) ys = ap (λ l. left_op x.op x.ran ++ l) (left-append xs ys) ∙ sym (append_assoc (left_op x.op x.ran) (left xs) (left ys))

run-append : (meaning : Meaning) (xs ys : List c.Command) (m : Memory) → run_commands meaning (xs ++ ys) m ≡ run_commands meaning ys (run_commands meaning xs m)
run-append meaning [] ys m = refl
run-append meaning (x ∷ xs) ys m = run-append meaning xs ys (effect meaning x m)

-- A ready command first -----------------------------------------------------------------------------------------------------

guard_at : (s : Listed) (between ts : List Listed) (t : Listed) (back : List Listed) → GuardsFrom s between (ts ++ t ∷ back) → Guarded s (between ++ ts) t
guard_at s between [] t back h = subst (λ l. Guarded s l t) (sym (append-nil between)) h.0
guard_at s between (x ∷ xs) t back h = subst (λ l. Guarded s l t) (append_assoc between (x ∷ []) xs) (guard_at s (between ++ x ∷ []) xs t back h.1)

-- a command that is left, and does not hold the other back, does not conflict with it
apart_op : (s : Listed) (o : VkOp) (ran : Bool) (between : List Listed) (t : Listed) (e : c.Command) → s.op ≡ o → s.ran ≡ ran → t.op ≡ op.Command e → t.ran ≡ false
    → Guarded s between t → (not ran && op_ordered o between e) ≡ false → AllByRecursion (λ d. conflict d e ≡ false) (left_op o ran)
apart_op s (op.HostWrite r call) ran between t e is was t_is t_left g free = tt
apart_op s (op.Pipeline shader) ran between t e is was t_is t_left g free = tt
apart_op s (op.Barrier barrier) ran between t e is was t_is t_left g free = tt
apart_op s (op.Command d) true between t e is was t_is t_left g free = tt
apart_op s (op.Command d) false between t e is was t_is t_left g free = (
  elim (cases_Bool (conflict d e)) [
    | inl k ↦ absurd (both_ways (list_any (λ (b : Listed). op_orders d e b.op) between) free (g d e is was t_is t_left k))
    | inr n ↦ n
  ],
  tt,
)
apart_op s (op.Submit k) ran between t e is was t_is t_left g free = tt
apart_op s (op.Fence k) ran between t e is was t_is t_left g free = tt
apart_op s (op.HostRead r call) ran between t e is was t_is t_left g free = tt

all_append : (P : c.Command → Type 0) (xs ys : List c.Command) → AllByRecursion P xs → AllByRecursion P ys → AllByRecursion P (xs ++ ys)
all_append P [] ys a b = b
all_append P (x ∷ xs) ys a b = (a.0, all_append P xs ys a.1 b)

front_apart : (front : List Listed) (s : Listed) (back : List Listed) (e : c.Command) → HazardsHold (front ++ s ∷ back) → s.op ≡ op.Command e → s.ran ≡ false
    → is_held_back front e ≡ false → AllByRecursion (λ d. conflict d e ≡ false) (left front)
front_apart [] s back e h is was free = tt
front_apart (f ∷ fs) s back e h is was free =
    let p = or_parts (not f.ran && op_ordered f.op fs e) (is_held_back fs e) free in
    all_append (λ d. conflict d e ≡ false) (left_op f.op f.ran) (left fs)
    (apart_op f f.op f.ran fs s e refl refl is was (guard_at f [] fs s back h.0) p.0)
    (front_apart fs s back e h.1 is was p.1)

-- it may be run before those that it does not conflict with
to_front : (meaning : Meaning) (ds : List c.Command) (e : c.Command) (back : List c.Command) → AllByRecursion (λ d. conflict d e ≡ false) ds → (m : Memory)
    → run_commands meaning (ds ++ back) (effect meaning e m) ≡ run_commands meaning (ds ++ e ∷ back) m
to_front meaning [] e back h m = refl
to_front meaning (d ∷ ds) e back h m =
    ap (run_commands meaning (ds ++ back)) (acts_exchange meaning (Device d) (Device e) h.0 m) ∙ to_front meaning ds e back h.1 (effect meaning d m)

some_is : {A : Type 0} (x y : A) → Some x ≡ Some y → x ≡ y
some_is x y e = cc e

-- a ready step is a command that was not run and that nothing holds back
ready_command : (front : List Listed) (o : VkOp) (ran : Bool) (d : c.Command) → command_of o ≡ Some d → is_ready_op front o ran ≡ true
    → (o ≡ op.Command d) × (ran ≡ false) × (is_held_back front d ≡ false)
ready_command front (op.HostWrite r call) ran d e h = absurd (cc h)
ready_command front (op.Pipeline shader) ran d e h = absurd (cc h)
ready_command front (op.Barrier barrier) ran d e h = absurd (cc h)
ready_command front (op.Command command) ran d e h =
    let p = and_parts (not ran) (not (is_held_back front command)) h in
    let same : command ≡ d = some_is command d e in
    (ap (λ x. op.Command x) same, not-true ran p.0, subst (λ x. is_held_back front x ≡ false) same (not-true (is_held_back front command) p.1))
ready_command front (op.Submit k) ran d e h = absurd (cc h)
ready_command front (op.Fence k) ran d e h = absurd (cc h)
ready_command front (op.HostRead r call) ran d e h = absurd (cc h)

left_one : (s : Listed) (d : c.Command) → s.op ≡ op.Command d → s.ran ≡ false → left_op s.op s.ran ≡ d ∷ []
left_one s d is was = ap (λ o. left_op o s.ran) is ∙ ap (λ r. left_op (op.Command d) r) was

left_none : (o : VkOp) → left_op o true ≡ []
left_none (op.HostWrite r call) = refl
left_none (op.Pipeline shader) = refl
left_none (op.Barrier barrier) = refl
left_none (op.Command command) = refl
left_none (op.Submit k) = refl
left_none (op.Fence k) = refl
left_none (op.HostRead r call) = refl

module _ (meaning : Meaning) (steps : List Listed) (holds : HazardsHold steps) (place : ℕ) (at : ReadyAt steps place) (d : c.Command)
    (is : step_command (slice_get steps place) ≡ Some d) (m : Memory) where
  step_is : command_of at.step.op ≡ Some d
  step_is =
      sym (ap step_command (ap (λ l. slice_get l place) at.split ∙ ap (λ n. slice_get (at.front ++ at.step ∷ at.back) n) at.place ∙ get_at at.front at.step at.back)) ∙ is

  facts : (at.step.op ≡ op.Command d) × (at.step.ran ≡ false) × (is_held_back at.front d ≡ false)
  facts = ready_command at.front at.step.op at.step.ran d step_is at.ready

  before : left steps ≡ left at.front ++ d ∷ left at.back
  before =
      ap left at.split ∙ left-append at.front (at.step ∷ at.back) ∙ ap (λ l. left at.front ++ (l ++ left at.back)) (left_one at.step d facts.0 facts.1)

  after : left (marked place steps) ≡ left at.front ++ left at.back
  after =
      ap (λ l. left (marked place l)) at.split ∙ ap (λ n. left (marked n (at.front ++ at.step ∷ at.back))) at.place ∙ ap left (marked_at at.front at.step at.back)
      ∙ left-append at.front (ran_one at.step ∷ at.back) ∙ ap (λ l. left at.front ++ (l ++ left at.back)) (left_none at.step.op)

  pub run_first : run_commands meaning (left (marked place steps)) (effect meaning d m) ≡ run_commands meaning (left steps) m
  run_first =
      ap (λ l. run_commands meaning l (effect meaning d m)) after
      ∙ to_front meaning (left at.front) d (left at.back) (front_apart at.front at.step at.back d (subst HazardsHold at.split holds) facts.0 facts.1 facts.2) m
      ∙ ap (λ l. run_commands meaning l m) (sym before)

-- What is left keeps its barriers ---------------------------------------------------------------------------------------------

-- only the operations between two commands matter, not whether they were run
any_ops : (p : VkOp → Bool) (xs : List Listed) → list_any (λ (s : Listed). p s.op) xs ≡ list_any p (map (λ (s : Listed). s.op) xs)
any_ops p [] = refl
any_ops p (x ∷ xs) = ap (λ v. p x.op || v) (any_ops p xs)

guarded_between : (s : Listed) (xs ys : List Listed) (t u : Listed) → map (λ (s : Listed). s.op) xs ≡ map (λ (s : Listed). s.op) ys → t.op ≡ u.op
    → (u.ran ≡ false → t.ran ≡ false) → Guarded s xs t → Guarded s ys u
guarded_between s xs ys t u same alike later g = λ d e is was t_is t_left k.
    any_ops (op_orders d e) ys ∙ ap (list_any (op_orders d e)) (sym same) ∙ sym (any_ops (op_orders d e) xs) ∙ g d e is was (alike ∙ t_is) (later t_left) k

push_ops : (xs ys : List Listed) (t u : Listed) → map (λ (s : Listed). s.op) xs ≡ map (λ (s : Listed). s.op) ys → t.op ≡ u.op
    → map (λ (s : Listed). s.op) (xs ++ t ∷ []) ≡ map (λ (s : Listed). s.op) (ys ++ u ∷ [])
push_ops xs ys t u same alike =
    map_push xs t ∙ ap (λ l. l ++ t.op ∷ []) same ∙ ap (λ o. map (λ (s : Listed). s.op) ys ++ o ∷ []) alike ∙ sym (map_push ys u)
  where
    map_push : (xs : List Listed) (y : Listed) → map (λ (s : Listed). s.op) (xs ++ y ∷ []) ≡ map (λ (s : Listed). s.op) xs ++ y.op ∷ []
    map_push [] y = refl
    map_push (x ∷ xs) y = ap (λ l. x.op ∷ l) (map_push xs y)

guards_same : (s : Listed) (xs ys ts : List Listed) → map (λ (s : Listed). s.op) xs ≡ map (λ (s : Listed). s.op) ys → GuardsFrom s xs ts → GuardsFrom s ys ts
guards_same s xs ys [] same g = tt
guards_same s xs ys (t ∷ ts) same g =
    (guarded_between s xs ys t t same refl (λ e. e) g.0, guards_same s (xs ++ t ∷ []) (ys ++ t ∷ []) ts (push_ops xs ys t t same refl) g.1)

guards_marked : (s : Listed) (xs ys : List Listed) (place : ℕ) (ts : List Listed) → map (λ (s : Listed). s.op) xs ≡ map (λ (s : Listed). s.op) ys
    → GuardsFrom s xs ts → GuardsFrom s ys (marked place ts)
guards_marked s xs ys place [] same g = tt
guards_marked s xs ys zero (t ∷ ts) same g = (
  guarded_between s xs ys t (ran_one t) same refl (λ e. absurd (cc e)) g.0,
  guards_same s (xs ++ t ∷ []) (ys ++ ran_one t ∷ []) ts (push_ops xs ys t (ran_one t) same refl) g.1,
)
guards_marked s xs ys (suc place) (t ∷ ts) same g =
    (guarded_between s xs ys t t same refl (λ e. e) g.0, guards_marked s (xs ++ t ∷ []) (ys ++ t ∷ []) place ts (push_ops xs ys t t same refl) g.1)

ran_guards : (s : Listed) (between ts : List Listed) → s.ran ≡ true → GuardsFrom s between ts
ran_guards s between [] ran = tt
ran_guards s between (t ∷ ts) ran = ((λ d e is was t_is t_left k. absurd (both_ways s.ran was ran)), ran_guards s (between ++ t ∷ []) ts ran)

pub hazards_marked : (steps : List Listed) (place : ℕ) → HazardsHold steps → HazardsHold (marked place steps)
hazards_marked [] place h = tt
hazards_marked (s ∷ ss) zero h = (ran_guards (ran_one s) [] ss refl, h.1)
hazards_marked (s ∷ ss) (suc place) h = (guards_marked s [] [] place ss refl h.0, hazards_marked ss place h.1)

-- Behind what is left ----------------------------------------------------------------------------------------------------------

write_first : (meaning : Meaning) (d : c.Command) (ws : List (Range × List ℕ))
    → AllByRecursion (λ w. lists_conflict (touches d) (host_write_touch w.0 ∷ []) ≡ false) ws
    → (m : Memory) → effect meaning d (put_all ws m) ≡ put_all ws (effect meaning d m)
write_first meaning d [] h m = refl
write_first meaning d (w ∷ ws) h m =
    write_first meaning d ws h.1 (put w.0 (number_at w.1) m) ∙ ap (put_all ws) (acts_exchange meaning (Device d) (Host_write w.0 w.1) h.0 m)

writes_first : (meaning : Meaning) (ds : List c.Command) (ws : List (Range × List ℕ)) → LeftApart ds ws
    → (m : Memory) → run_commands meaning ds (put_all ws m) ≡ put_all ws (run_commands meaning ds m)
writes_first meaning [] ws h m = refl
writes_first meaning (d ∷ ds) ws h m =
    ap (run_commands meaning ds) (write_first meaning d ws h.0 m) ∙ writes_first meaning ds ws h.1 (effect meaning d m)

pub come_behind : (meaning : Meaning) (steps others : List Listed) (ws : List (Range × List ℕ)) → LeftApart (left steps) ws
    → (m : Memory) → run_commands meaning (left (steps ++ others)) (put_all ws m)
    ≡ run_commands meaning (left others) (put_all ws (run_commands meaning (left steps) m))
come_behind meaning steps others ws h m =
    ap (λ l. run_commands meaning l (put_all ws m)) (left-append steps others) ∙ run-append meaning (left steps) (left others) (put_all ws m)
    ∙ ap (run_commands meaning (left others)) (writes_first meaning (left steps) ws h m)
