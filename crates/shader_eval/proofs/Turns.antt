-- What an invocation keeps, and the turns of a loop, one by one.
use Rattle.std.proofs.Common.{◌≡◌, ◌≤◌, ◌<◌, ℕ, zero, suc, Bool, true, false, List, length, Option, Some, None, if◌then◌else◌, refl, sym, ap, subst, ◌∙◌, arith}
use Rattle.std.specs.Prelude.{◌+◌, ◌*◌, slice_set}
use Rattle.std.proofs.lemmas.List.{length-set}
use Rattle.shader_model.specs.declared.tree.Declared.{Declared}
use Rattle.shader_model.specs.declared.tree.Instr.{Instr}
use Rattle.shader_model.specs.declared.tree.Target.{Target}
use Rattle.shader_model.specs.declared.ids.Ids.{Ids}
use Rattle.shader_model.specs.declared.opcode.Opcode.{Opcode}
use Rattle.shader_model.specs.declared.opcode.Opcode.TheVariants as op
use Rattle.shader_model.specs.declared.opcode.Row.{Row}
use Rattle.shader_model.specs.Words.{bit}
use Rattle.shader_model.specs.Opcodes.{row_of}
use Rattle.shader_model.specs.Body.{Body, End, Plain, If, Loop, Break, Continue, Return}
use Rattle.shader_model.specs.Invocation.{State, Flow, Falls, Breaks, Continues, Ends, with_component, with_target, with_view, View, view_of, load, store, change, done_by, done_with, done, holds, holds_maybe, then_do, next_turn, entered, looped, meaning, state_of}
use Rattle.shader_eval.specs.declared.action.Action.{Action}
use Rattle.shader_eval.specs.declared.action.Action.TheVariants as does
use Rattle.shader_eval.specs.Actions.{action_by, action_in, action_at}
use Rattle.shader_eval.specs.Acted.{acted, acted_maybe}

-- ## What an instruction does, by groups

acts_by : (o : Opcode) (ds : List Declared) (ids : Ids) (i : Instr) (s : State) → done_by o ds ids i s ≡ acted_maybe (action_by o) ds ids i s
acts_by op.Mov ds ids i s = refl
acts_by op.Movc ds ids i s = refl
acts_by op.Iadd ds ids i s = refl
acts_by op.Ineg ds ids i s = refl
acts_by op.Imad ds ids i s = refl
acts_by op.Imul ds ids i s = refl
acts_by op.Umul ds ids i s = refl
acts_by op.Udiv ds ids i s = refl
acts_by op.Imin ds ids i s = refl
acts_by op.Imax ds ids i s = refl
acts_by op.Umin ds ids i s = refl
acts_by op.Umax ds ids i s = refl
acts_by op.And ds ids i s = refl
acts_by op.Or ds ids i s = refl
acts_by op.Xor ds ids i s = refl
acts_by op.Not ds ids i s = refl
acts_by op.Ishl ds ids i s = refl
acts_by op.Ishr ds ids i s = refl
acts_by op.Ushr ds ids i s = refl
acts_by op.Ieq ds ids i s = refl
acts_by op.Ine ds ids i s = refl
acts_by op.Ige ds ids i s = refl
acts_by op.Ilt ds ids i s = refl
acts_by op.Uge ds ids i s = refl
acts_by op.Ult ds ids i s = refl
acts_by op.Ubfe ds ids i s = refl
acts_by op.Ibfe ds ids i s = refl
acts_by op.Bfi ds ids i s = refl
acts_by op.Bfrev ds ids i s = refl
acts_by op.Countbits ds ids i s = refl
acts_by op.LdRaw ds ids i s = refl
acts_by op.StoreRaw ds ids i s = refl
acts_by op.LdStructured ds ids i s = refl
acts_by op.StoreStructured ds ids i s = refl
acts_by op.LdTyped ds ids i s = refl
acts_by op.StoreTyped ds ids i s = refl
acts_by op.AtomicIadd ds ids i s = refl
acts_by op.AtomicAnd ds ids i s = refl
acts_by op.AtomicOr ds ids i s = refl
acts_by op.AtomicXor ds ids i s = refl
acts_by op.AtomicImin ds ids i s = refl
acts_by op.AtomicImax ds ids i s = refl
acts_by op.AtomicUmin ds ids i s = refl
acts_by op.AtomicUmax ds ids i s = refl
acts_by op.AtomicExch ds ids i s = refl
acts_by op.AtomicCmpExch ds ids i s = refl
acts_by op.IfNz ds ids i s = refl
acts_by op.IfZ ds ids i s = refl
acts_by op.Else ds ids i s = refl
acts_by op.Endif ds ids i s = refl
acts_by op.Loop ds ids i s = refl
acts_by op.Endloop ds ids i s = refl
acts_by op.Break ds ids i s = refl
acts_by op.BreakNz ds ids i s = refl
acts_by op.BreakZ ds ids i s = refl
acts_by op.Continue ds ids i s = refl
acts_by op.ContinueNz ds ids i s = refl
acts_by op.ContinueZ ds ids i s = refl
acts_by op.Ret ds ids i s = refl
acts_by op.RetNz ds ids i s = refl
acts_by op.RetZ ds ids i s = refl

acts_with : (r : Option Row) (ds : List Declared) (ids : Ids) (i : Instr) (s : State) → done_with r ds ids i s ≡ acted_maybe (action_in r) ds ids i s
acts_with None ds ids i s = refl
acts_with (Some r) ds ids i s = acts_by r.name ds ids i s

-- an instruction does what its opcode's action does
pub acts : (ds : List Declared) (ids : Ids) (i : Instr) (s : State) → done ds ids i s ≡ acted_maybe (action_at i.opcode) ds ids i s
acts ds ids i s = acts_with (row_of i.opcode) ds ids i s

-- ## What an invocation keeps

-- as many words of temporaries, and no more turns
pub record Keeps (s t : State) : Type 0 where
  pub temps : length t.temps ≡ length s.temps
  pub turns : t.turns ≤ s.turns

same : (s : State) → Keeps s s
same s = record { temps = refl; turns = omega arith }

then_keeps : (s t u : State) → Keeps s t → Keeps t u → Keeps s u
then_keeps s t u h k = record { temps = k.temps ∙ h.temps; turns = omega (arith, h.turns, k.turns) }

component_length : (b : Bool) (at v : ℕ) (temps : List ℕ) → length (if b then slice_set temps at v else temps) ≡ length temps
component_length true at v temps = length-set temps at v
component_length false at v temps = refl

target_length : (t : Option Target) (f : ℕ → ℕ) (temps : List ℕ) → length (with_target t f temps) ≡ length temps
target_length None f temps = refl
target_length (Some t) f temps =
    let one : (c : ℕ) (xs : List ℕ) → length (with_component t f c xs) ≡ length xs = λ c xs. component_length (bit c t.mask) (4 * t.index + c) (f c) xs in
    let x0 = with_component t f 0 temps in
    let x1 = with_component t f 1 x0 in
    let x2 = with_component t f 2 x1 in
    one 3 x2 ∙ one 2 x1 ∙ one 1 x0 ∙ one 0 temps

set_keeps : (t : Option Target) (f : ℕ → ℕ) (s : State) → Keeps s (record s { temps = with_target t f s.temps })
set_keeps t f s = record { temps = target_length t f s.temps; turns = omega arith }

both_keep : (t u : Option Target) (f g : ℕ → ℕ) (s : State) → Keeps s (record s { temps = with_target u g (with_target t f s.temps) })
both_keep t u f g s = record { temps = target_length u g (with_target t f s.temps) ∙ target_length t f s.temps; turns = omega arith }

written_keeps : (b : Bool) (n : ℕ) (words : List ℕ) (s : State) → Keeps s (if b then record s { slots = record (s.slots) { writes = slice_set s.slots.writes n words } } else s)
written_keeps true n words s = record { temps = refl; turns = omega arith }
written_keeps false n words s = same s

load_keeps : (v : Option View) (a o : ℕ) (i : Instr) (s : State) → Keeps s (load v a o i s)
load_keeps None a o i s = same s
load_keeps (Some v) a o i s = set_keeps i.first _ s

store_keeps : (v : Option View) (a o : ℕ) (value : ℕ → ℕ) (i : Instr) (s : State) → Keeps s (store v a o value i s)
store_keeps None a o value i s = same s
store_keeps (Some v) a o value i s = written_keeps v.name.writable v.name.slot _ s

change_keeps : (v : Option View) (a o : ℕ) (f : ℕ → ℕ) (i : Instr) (s : State) → Keeps s (change v a o f i s)
change_keeps None a o f i s = same s
change_keeps (Some v) a o f i s =
    then_keeps s (with_view v.name _ s) (change (Some v) a o f i s) (written_keeps v.name.writable v.name.slot _ s) (set_keeps i.first _ (with_view v.name _ s))

acted_keeps : (a : Action) (ds : List Declared) (ids : Ids) (i : Instr) (s : State) → Keeps s (acted a ds ids i s)
acted_keeps (does.One f) ds ids i s = set_keeps i.first _ s
acted_keeps (does.Two f) ds ids i s = set_keeps i.first _ s
acted_keeps (does.Three f) ds ids i s = set_keeps i.first _ s
acted_keeps does.Insert ds ids i s = set_keeps i.first _ s
acted_keeps (does.Pair f) ds ids i s = both_keep i.first i.second _ _ s
acted_keeps (does.Load f) ds ids i s = load_keeps (view_of ds i.slot) _ _ i s
acted_keeps (does.Store f) ds ids i s = store_keeps (view_of ds i.slot) _ _ _ i s
acted_keeps (does.Change f) ds ids i s = change_keeps (view_of ds i.slot) _ _ _ i s

maybe_keeps : (a : Option Action) (ds : List Declared) (ids : Ids) (i : Instr) (s : State) → Keeps s (acted_maybe a ds ids i s)
maybe_keeps None ds ids i s = same s
maybe_keeps (Some a) ds ids i s = acted_keeps a ds ids i s

done_keeps : (ds : List Declared) (ids : Ids) (i : Instr) (s : State) → Keeps s (done ds ids i s)
done_keeps ds ids i s = subst (Keeps s) (sym (acts ds ids i s)) (maybe_keeps (action_at i.opcode) ds ids i s)

flow_then : (s : State) (f : Flow) (go : State → Flow) → Keeps s (state_of f) → ((t : State) → Keeps t (state_of (go t))) → Keeps s (state_of (then_do f go))
flow_then s (Falls t) go h k = then_keeps s t (state_of (go t)) h (k t)
flow_then s (Breaks t) go h k = h
flow_then s (Continues t) go h k = h
flow_then s (Ends t) go h k = h

flow_next : (s : State) (f : Flow) (go : State → Flow) → Keeps s (state_of f) → ((t : State) → Keeps t (state_of (go t))) → Keeps s (state_of (next_turn f go))
flow_next s (Falls t) go h k = then_keeps s t (state_of (go t)) h (k t)
flow_next s (Breaks t) go h k = h
flow_next s (Continues t) go h k = then_keeps s t (state_of (go t)) h (k t)
flow_next s (Ends t) go h k = h

flow_if : (b : Bool) (s : State) (f g : Flow) → Keeps s (state_of f) → Keeps s (state_of g) → Keeps s (state_of (if b then f else g))
flow_if true s f g h k = h
flow_if false s f g h k = k

fewer : (s : State) (t : ℕ) → s.turns ≡ suc t → Keeps s (record s { turns = t })
fewer s t e = record { temps = refl; turns = omega arith }

flow_entered : (n : ℕ) (s : State) (go : State → Flow) → s.turns ≡ n → ((t : State) → Keeps t (state_of (go t))) → Keeps s (state_of (entered n s go))
flow_entered zero s go e k = same s
flow_entered (suc t) s go e k = then_keeps s (record s { turns = t }) (state_of (go (record s { turns = t }))) (fewer s t e) (k (record s { turns = t }))

flow_looped : (m : ℕ) (inner : State → Flow) (s : State) → ((t : State) → Keeps t (state_of (inner t))) → Keeps s (state_of (looped m inner s))
flow_looped zero inner s h = same s
flow_looped (suc m) inner s h =
    flow_entered s.turns s (λ t. next_turn (inner t) (looped m inner)) refl (λ t. flow_next t (inner t) (looped m inner) (h t) (λ u. flow_looped m inner u h))

pub keeps : (ds : List Declared) (ids : Ids) (b : Body) (s : State) → Keeps s (state_of (meaning ds ids b s))
keeps ds ids End s = same s
keeps ds ids (Plain i rest) s = then_keeps s (done ds ids i s) (state_of (meaning ds ids rest (done ds ids i s))) (done_keeps ds ids i s) (keeps ds ids rest (done ds ids i s))
keeps ds ids (If t x y rest) s =
    flow_then s (if holds ids t s then meaning ds ids x s else meaning ds ids y s) (meaning ds ids rest)
    (flow_if (holds ids t s) s (meaning ds ids x s) (meaning ds ids y s) (keeps ds ids x s) (keeps ds ids y s)) (λ u. keeps ds ids rest u)
keeps ds ids (Loop inner rest) s = flow_then s (looped s.turns (meaning ds ids inner) s) (meaning ds ids rest) (flow_looped s.turns (meaning ds ids inner) s (λ t. keeps ds ids inner t)) (λ u. keeps ds ids rest u)
keeps ds ids (Break t rest) s = flow_if (holds_maybe ids t s) s (Breaks s) (meaning ds ids rest s) (same s) (keeps ds ids rest s)
keeps ds ids (Continue t rest) s = flow_if (holds_maybe ids t s) s (Continues s) (meaning ds ids rest s) (same s) (keeps ds ids rest s)
keeps ds ids (Return t rest) s = flow_if (holds_maybe ids t s) s (Ends s) (meaning ds ids rest s) (same s) (keeps ds ids rest s)

-- ## The turns of a loop

entered_none : (t : ℕ) (s : State) (go : State → Flow) → t ≡ 0 → entered t s go ≡ Ends s
entered_none zero s go e = refl
entered_none (suc t) s go e = absurd (omega arith)

entered_same : (t : ℕ) (s : State) (go other : State → Flow) → ((u : State) → u.turns < t → go u ≡ other u) → entered t s go ≡ entered t s other
entered_same zero s go other h = refl
entered_same (suc t) s go other h = h (record s { turns = t }) (omega arith)

next_same : (t : ℕ) (flow : Flow) (a b : State → Flow) → (state_of flow).turns ≤ t → ((s : State) → s.turns ≤ t → a s ≡ b s) → next_turn flow a ≡ next_turn flow b
next_same t (Falls s) a b f h = h s f
next_same t (Continues s) a b f h = h s f
next_same t (Breaks s) a b f h = refl
next_same t (Ends s) a b f h = refl

module _ (ds : List Declared) (ids : Ids) where
  -- more turns than there are change nothing
  looped_same : (b : Body) (k j : ℕ) (s : State) → s.turns ≤ k → s.turns ≤ j → looped k (meaning ds ids b) s ≡ looped j (meaning ds ids b) s
  looped_same b zero zero s p q = refl
  looped_same b zero (suc j) s p q = sym (entered_none s.turns s _ (omega arith))
  looped_same b (suc k) zero s p q = entered_none s.turns s _ (omega arith)
  looped_same b (suc k) (suc j) s p q =
      entered_same s.turns s _ _ (λ u lt. next_same u.turns (meaning ds ids b u) (looped k (meaning ds ids b)) (looped j (meaning ds ids b)) (keeps ds ids b u).turns (λ v le. looped_same b k j v (omega arith) (omega arith)))

  -- one turn
  turn : (b : Body) (t : ℕ) (s : State) → s.turns ≡ suc t → looped s.turns (meaning ds ids b) s ≡ next_turn (meaning ds ids b (record s { turns = t })) (looped t (meaning ds ids b))
  turn b t s e = ap (λ k. looped k (meaning ds ids b) s) e ∙ ap (λ k. entered k s (λ u. next_turn (meaning ds ids b u) (looped t (meaning ds ids b)))) e

  pub fewer_left : (b : Body) (t : ℕ) (s u : State) (f : State → Flow) → meaning ds ids b (record s { turns = t }) ≡ f u → (state_of (f u) ≡ u) → u.turns ≤ t
  fewer_left b t s u f h e = subst (λ z. z.turns ≤ t) (ap state_of h ∙ e) (keeps ds ids b (record s { turns = t })).turns

  module _ (b : Body) (t : ℕ) (s u : State) (e : s.turns ≡ suc t) where
    pub turn_falls : meaning ds ids b (record s { turns = t }) ≡ Falls u → looped s.turns (meaning ds ids b) s ≡ looped u.turns (meaning ds ids b) u
    turn_falls h = turn b t s e ∙ ap (λ z. next_turn z (looped t (meaning ds ids b))) h ∙ looped_same b t u.turns u (fewer_left b t s u Falls h refl) (omega arith)

    pub turn_continues : meaning ds ids b (record s { turns = t }) ≡ Continues u → looped s.turns (meaning ds ids b) s ≡ looped u.turns (meaning ds ids b) u
    turn_continues h = turn b t s e ∙ ap (λ z. next_turn z (looped t (meaning ds ids b))) h ∙ looped_same b t u.turns u (fewer_left b t s u Continues h refl) (omega arith)

    pub turn_breaks : meaning ds ids b (record s { turns = t }) ≡ Breaks u → looped s.turns (meaning ds ids b) s ≡ Falls u
    turn_breaks h = turn b t s e ∙ ap (λ z. next_turn z (looped t (meaning ds ids b))) h

    pub turn_ends : meaning ds ids b (record s { turns = t }) ≡ Ends u → looped s.turns (meaning ds ids b) s ≡ Ends u
    turn_ends h = turn b t s e ∙ ap (λ z. next_turn z (looped t (meaning ds ids b))) h

  pub no_turn : (b : Body) (s : State) → s.turns ≡ 0 → looped s.turns (meaning ds ids b) s ≡ Ends s
  no_turn b s e = ap (λ k. looped k (meaning ds ids b) s) e

-- the state after an action is that after an instruction whose opcode has it
pub acts_as : (ds : List Declared) (ids : Ids) (i : Instr) (s t : State) (a b : Action) → Some a ≡ action_at i.opcode → a ≡ b → t ≡ acted b ds ids i s → t ≡ done ds ids i s
acts_as ds ids i s t a b e eb h = h ∙ ap (λ z. acted z ds ids i s) (sym eb) ∙ ap (λ z. acted_maybe z ds ids i s) e ∙ sym (acts ds ids i s)
