-- What each instruction keeps: the turns, and how many words each slot has.
use Rattle.std.proofs.Common.{◌≡◌, ℕ, zero, suc, ◌-◌, Bool, true, false, if◌then◌else◌, List, [], ◌∷◌, length, Option, Some, None, refl, ◌∙◌}
use Rattle.std.specs.Prelude.{nat_lt, slice_index_or, slice_set}
use Rattle.std.proofs.lemmas.List.{length-set}
use Rattle.shader_model.specs.declared.ids.Ids.{Ids}
use Rattle.shader_model.specs.declared.tree.Declared.{Declared}
use Rattle.shader_model.specs.declared.tree.SlotUse.{SlotUse}
use Rattle.shader_model.specs.declared.tree.Instr.{Instr}
use Rattle.shader_model.specs.declared.opcode.Row.{Row}
use Rattle.shader_model.specs.declared.opcode.Opcode.{Opcode}
use Rattle.shader_model.specs.declared.opcode.Opcode.TheVariants as op
use Rattle.shader_model.specs.Words.{bit}
use Rattle.shader_model.specs.Opcodes.{row_of}
use Rattle.shader_model.specs.Body.{Body, End, Plain, If, Loop, Break, Continue, Return}
use Rattle.shader_model.specs.Shader.{Program}
use Rattle.shader_model.specs.Invocation as model
use Rattle.shader_model.specs.Invocation.{Slots, State, Flow, Falls, Breaks, Continues, Ends, View, words_in, view_words, view_of, with_view, load, stored, store, change, done_by, done_with, done, holds, holds_maybe, then_do, next_turn, entered, looped, meaning, state_of, begun, invoked}
use Rattle.spirv_model.specs.Meaning.Bindings.{first_read, first_write, words_at}

-- ## The sizes of slots

-- each binding has as many words as before
abbrev pub SameSizes : Slots → Slots → Type 0
SameSizes z z' = (b : ℕ) → length (words_at z' b) ≡ length (words_at z b)

sizes_then : (x y z : Slots) → SameSizes x y → SameSizes y z → SameSizes x z
sizes_then x y z h k = λ b. k b ∙ h b

set_size : (ws : List (List ℕ)) (k j : ℕ) (new : List ℕ) → length new ≡ length (slice_index_or ws k []) → length (slice_index_or (slice_set ws k new) j []) ≡ length (slice_index_or ws j [])
set_size [] k j new e = refl
set_size (w ∷ ws) zero zero new e = e
set_size (w ∷ ws) zero (suc j) new e = refl
set_size (w ∷ ws) (suc k) zero new e = refl
set_size (w ∷ ws) (suc k) (suc j) new e = set_size ws k j new e

third_size : (a b c : Bool) (x y z z' w : List ℕ) → length z' ≡ length z → length (if a then x else (if b then y else (if c then z' else w))) ≡ length (if a then x else (if b then y else (if c then z else w)))
third_size true b c x y z z' w e = refl
third_size false true c x y z z' w e = refl
third_size false false true x y z z' w e = e
third_size false false false x y z z' w e = refl

with_sizes : (z : Slots) (k : ℕ) (new : List ℕ) → length new ≡ length (words_in z.writes k) → SameSizes z (record z { writes = slice_set z.writes k new })
with_sizes z k new e = λ b. third_size (nat_lt b first_read) (nat_lt b first_write) (nat_lt b 38) _ _ (words_in z.writes (b - first_write)) (words_in (slice_set z.writes k new) (b - first_write)) [] (set_size z.writes k (b - first_write) new e)

-- ## What instructions keep

pub record Kept (s s' : State) : Type 0 where
  pub turns : s'.turns ≡ s.turns
  pub sizes : SameSizes s.slots s'.slots

unmoved : (s : State) (ts : List ℕ) → Kept s (record s { temps = ts })
unmoved s ts = record { turns = refl; sizes = λ b. refl }

-- a view takes as many words as it had
view_kept : (u : SlotUse) (new : List ℕ → List ℕ) (s : State) → ((ws : List ℕ) → length (new ws) ≡ length ws) → Kept s (with_view u (new (view_words u s.slots)) s)
view_kept u new s same = by_kind u.writable
  where
    by_kind : (t : Bool) → Kept s (if t then record s { slots = record (s.slots) { writes = slice_set s.slots.writes u.slot (new (if t then words_in s.slots.writes u.slot else words_in s.slots.reads u.slot)) } } else s)
    by_kind true = record { turns = refl; sizes = with_sizes s.slots u.slot (new (words_in s.slots.writes u.slot)) (same (words_in s.slots.writes u.slot)) }
    by_kind false = record { turns = refl; sizes = λ b. refl }

word_size : (ws : List ℕ) (q : Option ℕ) (v : ℕ) → length (model.with_word ws q v) ≡ length ws
word_size ws None v = refl
word_size ws (Some k) v = length-set ws k v

if_size : (t : Bool) (xs ys : List ℕ) → length xs ≡ length ys → length (if t then xs else ys) ≡ length ys
if_size true xs ys e = e
if_size false xs ys e = refl

stored_size : (d : Declared) (m x y : ℕ) (word : ℕ → ℕ) (c : ℕ) (ws : List ℕ) → length (stored d m x y word c ws) ≡ length ws
stored_size d m x y word c ws = if_size (bit c m) _ ws (word_size ws (model.place d ws x y c) (word c))

load_keeps : (v : Option View) (x y : ℕ) (i : Instr) (s : State) → Kept s (load v x y i s)
load_keeps None x y i s = unmoved s s.temps
load_keeps (Some v) x y i s = unmoved s _

store_keeps : (v : Option View) (x y : ℕ) (word : ℕ → ℕ) (i : Instr) (s : State) → Kept s (store v x y word i s)
store_keeps None x y word i s = unmoved s s.temps
store_keeps (Some v) x y word i s =
    let put : ℕ → List ℕ → List ℕ = λ c ws. stored v.declared i.extra x y word c ws in
    let size : (c : ℕ) (ws : List ℕ) → length (put c ws) ≡ length ws = λ c ws. stored_size v.declared i.extra x y word c ws in
    view_kept v.name (λ ws. put 3 (put 2 (put 1 (put 0 ws)))) s (λ ws. size 3 (put 2 (put 1 (put 0 ws))) ∙ size 2 (put 1 (put 0 ws)) ∙ size 1 (put 0 ws) ∙ size 0 ws)

change_keeps : (v : Option View) (x y : ℕ) (new : ℕ → ℕ) (i : Instr) (s : State) → Kept s (change v x y new i s)
change_keeps None x y new i s = unmoved s s.temps
change_keeps (Some v) x y new i s =
    let put : List ℕ → List ℕ = λ ws. let q = model.place v.declared ws x y 0 in model.with_word ws q (new (model.word_at ws q)) in
    let k = view_kept v.name put s (λ ws. word_size ws (model.place v.declared ws x y 0) _) in
    record { turns = k.turns; sizes = k.sizes }

kept_by : (o : Opcode) (ds : List Declared) (ids : Ids) (i : Instr) (s : State) → Kept s (done_by o ds ids i s)
kept_by op.Mov ds ids i s = unmoved s _
kept_by op.Movc ds ids i s = unmoved s _
kept_by op.Iadd ds ids i s = unmoved s _
kept_by op.Ineg ds ids i s = unmoved s _
kept_by op.Imad ds ids i s = unmoved s _
kept_by op.Imul ds ids i s = unmoved s _
kept_by op.Umul ds ids i s = unmoved s _
kept_by op.Udiv ds ids i s = unmoved s _
kept_by op.Imin ds ids i s = unmoved s _
kept_by op.Imax ds ids i s = unmoved s _
kept_by op.Umin ds ids i s = unmoved s _
kept_by op.Umax ds ids i s = unmoved s _
kept_by op.And ds ids i s = unmoved s _
kept_by op.Or ds ids i s = unmoved s _
kept_by op.Xor ds ids i s = unmoved s _
kept_by op.Not ds ids i s = unmoved s _
kept_by op.Ishl ds ids i s = unmoved s _
kept_by op.Ishr ds ids i s = unmoved s _
kept_by op.Ushr ds ids i s = unmoved s _
kept_by op.Ieq ds ids i s = unmoved s _
kept_by op.Ine ds ids i s = unmoved s _
kept_by op.Ige ds ids i s = unmoved s _
kept_by op.Ilt ds ids i s = unmoved s _
kept_by op.Uge ds ids i s = unmoved s _
kept_by op.Ult ds ids i s = unmoved s _
kept_by op.Ubfe ds ids i s = unmoved s _
kept_by op.Ibfe ds ids i s = unmoved s _
kept_by op.Bfi ds ids i s = unmoved s _
kept_by op.Bfrev ds ids i s = unmoved s _
kept_by op.Countbits ds ids i s = unmoved s _
kept_by op.LdRaw ds ids i s = load_keeps (view_of ds i.slot) (model.source ids s i 0 0) 0 i s
kept_by op.StoreRaw ds ids i s = store_keeps (view_of ds i.slot) (model.source ids s i 0 0) 0 (model.source ids s i 1) i s
kept_by op.LdStructured ds ids i s = load_keeps (view_of ds i.slot) (model.source ids s i 0 0) (model.source ids s i 1 0) i s
kept_by op.StoreStructured ds ids i s = store_keeps (view_of ds i.slot) (model.source ids s i 0 0) (model.source ids s i 1 0) (model.source ids s i 2) i s
kept_by op.LdTyped ds ids i s = load_keeps (view_of ds i.slot) (model.source ids s i 0 0) 0 i s
kept_by op.StoreTyped ds ids i s = store_keeps (view_of ds i.slot) (model.source ids s i 0 0) 0 (model.source ids s i 1) i s
kept_by op.AtomicIadd ds ids i s = change_keeps (view_of ds i.slot) _ _ _ i s
kept_by op.AtomicAnd ds ids i s = change_keeps (view_of ds i.slot) _ _ _ i s
kept_by op.AtomicOr ds ids i s = change_keeps (view_of ds i.slot) _ _ _ i s
kept_by op.AtomicXor ds ids i s = change_keeps (view_of ds i.slot) _ _ _ i s
kept_by op.AtomicImin ds ids i s = change_keeps (view_of ds i.slot) _ _ _ i s
kept_by op.AtomicImax ds ids i s = change_keeps (view_of ds i.slot) _ _ _ i s
kept_by op.AtomicUmin ds ids i s = change_keeps (view_of ds i.slot) _ _ _ i s
kept_by op.AtomicUmax ds ids i s = change_keeps (view_of ds i.slot) _ _ _ i s
kept_by op.AtomicExch ds ids i s = change_keeps (view_of ds i.slot) _ _ _ i s
kept_by op.AtomicCmpExch ds ids i s = change_keeps (view_of ds i.slot) _ _ _ i s
kept_by op.IfNz ds ids i s = unmoved s _
kept_by op.IfZ ds ids i s = unmoved s _
kept_by op.Else ds ids i s = unmoved s _
kept_by op.Endif ds ids i s = unmoved s _
kept_by op.Loop ds ids i s = unmoved s _
kept_by op.Endloop ds ids i s = unmoved s _
kept_by op.Break ds ids i s = unmoved s _
kept_by op.BreakNz ds ids i s = unmoved s _
kept_by op.BreakZ ds ids i s = unmoved s _
kept_by op.Continue ds ids i s = unmoved s _
kept_by op.ContinueNz ds ids i s = unmoved s _
kept_by op.ContinueZ ds ids i s = unmoved s _
kept_by op.Ret ds ids i s = unmoved s _
kept_by op.RetNz ds ids i s = unmoved s _
kept_by op.RetZ ds ids i s = unmoved s _

kept_with : (r : Option Row) (ds : List Declared) (ids : Ids) (i : Instr) (s : State) → Kept s (done_with r ds ids i s)
kept_with None ds ids i s = unmoved s s.temps
kept_with (Some r) ds ids i s = kept_by r.name ds ids i s

-- an instruction keeps the turns and the sizes
pub instr_keeps : (ds : List Declared) (ids : Ids) (i : Instr) (s : State) → Kept s (done ds ids i s)
instr_keeps ds ids i s = kept_with (row_of i.opcode) ds ids i s

-- ## What blocks keep

abbrev FlowKeeps : Slots → Flow → Type 0
FlowKeeps z flow = SameSizes z (state_of flow).slots

flow_then : (z : Slots) (flow : Flow) (go : State → Flow) → FlowKeeps z flow → ((s : State) → FlowKeeps s.slots (go s)) → FlowKeeps z (then_do flow go)
flow_then z (Falls s) go h next = sizes_then z s.slots (state_of (go s)).slots h (next s)
flow_then z (Breaks s) go h next = h
flow_then z (Continues s) go h next = h
flow_then z (Ends s) go h next = h

flow_next : (z : Slots) (flow : Flow) (go : State → Flow) → FlowKeeps z flow → ((s : State) → FlowKeeps s.slots (go s)) → FlowKeeps z (next_turn flow go)
flow_next z (Falls s) go h next = sizes_then z s.slots (state_of (go s)).slots h (next s)
flow_next z (Breaks s) go h next = h
flow_next z (Continues s) go h next = sizes_then z s.slots (state_of (go s)).slots h (next s)
flow_next z (Ends s) go h next = h

flow_if : (t : Bool) (z : Slots) (x y : Flow) → FlowKeeps z x → FlowKeeps z y → FlowKeeps z (if t then x else y)
flow_if true z x y h k = h
flow_if false z x y h k = k

flow_entered : (t : ℕ) (s : State) (go : State → Flow) → ((s' : State) → FlowKeeps s'.slots (go s')) → FlowKeeps s.slots (entered t s go)
flow_entered zero s go next = λ b. refl
flow_entered (suc t) s go next = next (record s { turns = t })

flow_looped : (k : ℕ) (inner : State → Flow) (s : State) → ((s' : State) → FlowKeeps s'.slots (inner s')) → FlowKeeps s.slots (looped k inner s)
flow_looped zero inner s h = λ b. refl
flow_looped (suc k) inner s h = flow_entered s.turns s _ (λ s'. flow_next s'.slots (inner s') (looped k inner) (h s') (λ s2. flow_looped k inner s2 h))

body_keeps : (ds : List Declared) (ids : Ids) (b : Body) (s : State) → FlowKeeps s.slots (meaning ds ids b s)
body_keeps ds ids End s = λ b. refl
body_keeps ds ids (Plain i rest) s = sizes_then s.slots (done ds ids i s).slots _ (instr_keeps ds ids i s).sizes (body_keeps ds ids rest (done ds ids i s))
body_keeps ds ids (If t x y rest) s =
    let one = meaning ds ids x s in
    let other = meaning ds ids y s in
    flow_then s.slots (if holds ids t s then one else other) (meaning ds ids rest) (flow_if (holds ids t s) s.slots one other (body_keeps ds ids x s) (body_keeps ds ids y s)) (λ s'. body_keeps ds ids rest s')
body_keeps ds ids (Loop inner rest) s = flow_then s.slots (looped s.turns (meaning ds ids inner) s) (meaning ds ids rest) (flow_looped s.turns (meaning ds ids inner) s (λ s'. body_keeps ds ids inner s')) (λ s'. body_keeps ds ids rest s')
body_keeps ds ids (Break t rest) s = flow_if (holds_maybe ids t s) s.slots (Breaks s) (meaning ds ids rest s) (λ b. refl) (body_keeps ds ids rest s)
body_keeps ds ids (Continue t rest) s = flow_if (holds_maybe ids t s) s.slots (Continues s) (meaning ds ids rest s) (λ b. refl) (body_keeps ds ids rest s)
body_keeps ds ids (Return t rest) s = flow_if (holds_maybe ids t s) s.slots (Ends s) (meaning ds ids rest s) (λ b. refl) (body_keeps ds ids rest s)

-- an invocation leaves as many words in each slot as there were
pub invoked_keeps : (p : Program) (ids : Ids) (slots : Slots) → SameSizes slots (invoked p ids slots)
invoked_keeps p ids slots = body_keeps p.declared ids p.body (begun p slots)
