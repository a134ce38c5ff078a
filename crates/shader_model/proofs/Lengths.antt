-- An invocation and a dispatch keep the length of each slot.
use Rattle.std.proofs.Common.{◌≡◌, ℕ, zero, suc, Bool, true, false, List, [], ◌∷◌, length, Option, Some, None, if◌then◌else◌, min, max, bit_and, bit_or, bit_xor, refl, ◌∙◌}
use Rattle.std.specs.Prelude.{slice_set}
use Rattle.std.proofs.lemmas.List.{length-set}
use Rattle.std.proofs.Math.Seq.{map-set_same}
use Rattle.shader_model.specs.declared.tree.Declared.{Declared}
use Rattle.shader_model.specs.declared.tree.SlotUse.{SlotUse}
use Rattle.shader_model.specs.declared.tree.Instr.{Instr}
use Rattle.shader_model.specs.declared.ids.Ids.{Ids}
use Rattle.shader_model.specs.declared.opcode.Opcode.{Opcode}
use Rattle.shader_model.specs.declared.opcode.Opcode.TheVariants as op
use Rattle.shader_model.specs.declared.opcode.Row.{Row}
use Rattle.shader_model.specs.Words.{bit}
use Rattle.shader_model.specs.Opcodes.{row_of}
use Rattle.shader_model.specs.Body.{Body, End, Plain, If, Loop, Break, Continue, Return}
use Rattle.shader_model.specs.Shader.{Program}
use Rattle.shader_model.specs.Invocation.{Slots, State, Flow, Falls, Breaks, Continues, Ends, words_in, place, with_word, word_at, view_words, with_view, View, view_of, load, stored, store, change, source, exchanged, done_by, done_with, done, holds, holds_maybe, then_do, next_turn, entered, looped, meaning, state_of, begun, invoked}
use Rattle.shader_model.specs.Arithmetic.{added, signed_min, signed_max}
use Rattle.shader_model.specs.Dispatch.{run_all, invocations, is_allowed, dispatched}
use Rattle.shader_model.specs.Lengths.{KeepsLengths}

-- what a state's slots become, kept by a later state
abbrev Kept : State → State → Type 0
Kept s t = KeepsLengths s.slots t.slots

same : (a : Slots) → KeepsLengths a a
same a = record { constants = refl; reads = refl; writes = refl }

then_same : (a b c : Slots) → KeepsLengths a b → KeepsLengths b c → KeepsLengths a c
then_same a b c h k = record { constants = k.constants ∙ h.constants; reads = k.reads ∙ h.reads; writes = k.writes ∙ h.writes }

-- ## Views

with_word_length : (words : List ℕ) (at : Option ℕ) (v : ℕ) → length (with_word words at v) ≡ length words
with_word_length words None v = refl
with_word_length words (Some at) v = length-set words at v

stored_if : (b : Bool) (words : List ℕ) (at : Option ℕ) (v : ℕ) → length (if b then with_word words at v else words) ≡ length words
stored_if true words at v = with_word_length words at v
stored_if false words at v = refl

stored_length : (d : Declared) (extra a o : ℕ) (value : ℕ → ℕ) (c : ℕ) (words : List ℕ) → length (stored d extra a o value c words) ≡ length words
stored_length d extra a o value c words = stored_if (bit c extra) words (place d words a o c) (value c)

-- other words of one length, by whether the view can be written
flag_keeps : (b : Bool) (n : ℕ) (words : List ℕ) (s : State) → length words ≡ length (if b then words_in s.slots.writes n else words_in s.slots.reads n)
    → Kept s (if b then record s { slots = record (s.slots) { writes = slice_set s.slots.writes n words } } else s)
flag_keeps true n words s h = record { constants = refl; reads = refl; writes = map-set_same length s.slots.writes n words [] h }
flag_keeps false n words s h = same s.slots

view_keeps : (u : SlotUse) (words : List ℕ) (s : State) → length words ≡ length (view_words u s.slots) → Kept s (with_view u words s)
view_keeps u words s h = flag_keeps u.writable u.slot words s h

load_keeps : (v : Option View) (a o : ℕ) (i : Instr) (s : State) → Kept s (load v a o i s)
load_keeps None a o i s = same s.slots
load_keeps (Some v) a o i s = same s.slots

store_keeps : (v : Option View) (a o : ℕ) (value : ℕ → ℕ) (i : Instr) (s : State) → Kept s (store v a o value i s)
store_keeps None a o value i s = same s.slots
store_keeps (Some v) a o value i s =
    let put : ℕ → List ℕ → List ℕ = stored v.declared i.extra a o value in
    let w0 = view_words v.name s.slots in
    let one : (c : ℕ) (w : List ℕ) → length (put c w) ≡ length w = λ c w. stored_length v.declared i.extra a o value c w in
    view_keeps v.name (put 3 (put 2 (put 1 (put 0 w0)))) s (one 3 (put 2 (put 1 (put 0 w0))) ∙ one 2 (put 1 (put 0 w0)) ∙ one 1 (put 0 w0) ∙ one 0 w0)

change_keeps : (v : Option View) (a o : ℕ) (f : ℕ → ℕ) (i : Instr) (s : State) → Kept s (change v a o f i s)
change_keeps None a o f i s = same s.slots
change_keeps (Some v) a o f i s =
    let words = view_words v.name s.slots in
    let at = place v.declared words a o 0 in
    view_keeps v.name (with_word words at (f (word_at words at))) s (with_word_length words at (f (word_at words at)))

-- ## Instructions

done_by_keeps : (o : Opcode) (ds : List Declared) (ids : Ids) (i : Instr) (s : State) → Kept s (done_by o ds ids i s)
done_by_keeps op.Mov ds ids i s = same s.slots
done_by_keeps op.Movc ds ids i s = same s.slots
done_by_keeps op.Iadd ds ids i s = same s.slots
done_by_keeps op.Ineg ds ids i s = same s.slots
done_by_keeps op.Imad ds ids i s = same s.slots
done_by_keeps op.Imul ds ids i s = same s.slots
done_by_keeps op.Umul ds ids i s = same s.slots
done_by_keeps op.Udiv ds ids i s = same s.slots
done_by_keeps op.Imin ds ids i s = same s.slots
done_by_keeps op.Imax ds ids i s = same s.slots
done_by_keeps op.Umin ds ids i s = same s.slots
done_by_keeps op.Umax ds ids i s = same s.slots
done_by_keeps op.And ds ids i s = same s.slots
done_by_keeps op.Or ds ids i s = same s.slots
done_by_keeps op.Xor ds ids i s = same s.slots
done_by_keeps op.Not ds ids i s = same s.slots
done_by_keeps op.Ishl ds ids i s = same s.slots
done_by_keeps op.Ishr ds ids i s = same s.slots
done_by_keeps op.Ushr ds ids i s = same s.slots
done_by_keeps op.Ieq ds ids i s = same s.slots
done_by_keeps op.Ine ds ids i s = same s.slots
done_by_keeps op.Ige ds ids i s = same s.slots
done_by_keeps op.Ilt ds ids i s = same s.slots
done_by_keeps op.Uge ds ids i s = same s.slots
done_by_keeps op.Ult ds ids i s = same s.slots
done_by_keeps op.Ubfe ds ids i s = same s.slots
done_by_keeps op.Ibfe ds ids i s = same s.slots
done_by_keeps op.Bfi ds ids i s = same s.slots
done_by_keeps op.Bfrev ds ids i s = same s.slots
done_by_keeps op.Countbits ds ids i s = same s.slots
done_by_keeps op.LdRaw ds ids i s = load_keeps (view_of ds i.slot) (source ids s i 0 0) 0 i s
done_by_keeps op.StoreRaw ds ids i s = store_keeps (view_of ds i.slot) (source ids s i 0 0) 0 (source ids s i 1) i s
done_by_keeps op.LdStructured ds ids i s = load_keeps (view_of ds i.slot) (source ids s i 0 0) (source ids s i 1 0) i s
done_by_keeps op.StoreStructured ds ids i s = store_keeps (view_of ds i.slot) (source ids s i 0 0) (source ids s i 1 0) (source ids s i 2) i s
done_by_keeps op.LdTyped ds ids i s = load_keeps (view_of ds i.slot) (source ids s i 0 0) 0 i s
done_by_keeps op.StoreTyped ds ids i s = store_keeps (view_of ds i.slot) (source ids s i 0 0) 0 (source ids s i 1) i s
done_by_keeps op.AtomicIadd ds ids i s = change_keeps (view_of ds i.slot) (source ids s i 0 0) (source ids s i 1 0) (λ old. added old (source ids s i 2 0)) i s
done_by_keeps op.AtomicAnd ds ids i s = change_keeps (view_of ds i.slot) (source ids s i 0 0) (source ids s i 1 0) (λ old. bit_and old (source ids s i 2 0)) i s
done_by_keeps op.AtomicOr ds ids i s = change_keeps (view_of ds i.slot) (source ids s i 0 0) (source ids s i 1 0) (λ old. bit_or old (source ids s i 2 0)) i s
done_by_keeps op.AtomicXor ds ids i s = change_keeps (view_of ds i.slot) (source ids s i 0 0) (source ids s i 1 0) (λ old. bit_xor old (source ids s i 2 0)) i s
done_by_keeps op.AtomicImin ds ids i s = change_keeps (view_of ds i.slot) (source ids s i 0 0) (source ids s i 1 0) (λ old. signed_min old (source ids s i 2 0)) i s
done_by_keeps op.AtomicImax ds ids i s = change_keeps (view_of ds i.slot) (source ids s i 0 0) (source ids s i 1 0) (λ old. signed_max old (source ids s i 2 0)) i s
done_by_keeps op.AtomicUmin ds ids i s = change_keeps (view_of ds i.slot) (source ids s i 0 0) (source ids s i 1 0) (λ old. min old (source ids s i 2 0)) i s
done_by_keeps op.AtomicUmax ds ids i s = change_keeps (view_of ds i.slot) (source ids s i 0 0) (source ids s i 1 0) (λ old. max old (source ids s i 2 0)) i s
done_by_keeps op.AtomicExch ds ids i s = change_keeps (view_of ds i.slot) (source ids s i 0 0) (source ids s i 1 0) (λ old. source ids s i 2 0) i s
done_by_keeps op.AtomicCmpExch ds ids i s = change_keeps (view_of ds i.slot) (source ids s i 0 0) (source ids s i 1 0) (exchanged (source ids s i 2 0) (source ids s i 3 0)) i s
done_by_keeps op.IfNz ds ids i s = same s.slots
done_by_keeps op.IfZ ds ids i s = same s.slots
done_by_keeps op.Else ds ids i s = same s.slots
done_by_keeps op.Endif ds ids i s = same s.slots
done_by_keeps op.Loop ds ids i s = same s.slots
done_by_keeps op.Endloop ds ids i s = same s.slots
done_by_keeps op.Break ds ids i s = same s.slots
done_by_keeps op.BreakNz ds ids i s = same s.slots
done_by_keeps op.BreakZ ds ids i s = same s.slots
done_by_keeps op.Continue ds ids i s = same s.slots
done_by_keeps op.ContinueNz ds ids i s = same s.slots
done_by_keeps op.ContinueZ ds ids i s = same s.slots
done_by_keeps op.Ret ds ids i s = same s.slots
done_by_keeps op.RetNz ds ids i s = same s.slots
done_by_keeps op.RetZ ds ids i s = same s.slots

done_with_keeps : (r : Option Row) (ds : List Declared) (ids : Ids) (i : Instr) (s : State) → Kept s (done_with r ds ids i s)
done_with_keeps None ds ids i s = same s.slots
done_with_keeps (Some r) ds ids i s = done_by_keeps r.name ds ids i s

-- ## Blocks

then_keeps : (s : State) (f : Flow) (go : State → Flow) → ((t : State) → Kept t (state_of (go t))) → Kept s (state_of f) → Kept s (state_of (then_do f go))
then_keeps s (Falls t) go h k = then_same s.slots t.slots (state_of (go t)).slots k (h t)
then_keeps s (Breaks t) go h k = k
then_keeps s (Continues t) go h k = k
then_keeps s (Ends t) go h k = k

next_keeps : (s : State) (f : Flow) (again : State → Flow) → ((t : State) → Kept t (state_of (again t))) → Kept s (state_of f) → Kept s (state_of (next_turn f again))
next_keeps s (Falls t) again h k = then_same s.slots t.slots (state_of (again t)).slots k (h t)
next_keeps s (Breaks t) again h k = k
next_keeps s (Continues t) again h k = then_same s.slots t.slots (state_of (again t)).slots k (h t)
next_keeps s (Ends t) again h k = k

entered_keeps : (turns : ℕ) (s : State) (go : State → Flow) → ((t : ℕ) → Kept s (state_of (go (record s { turns = t })))) → Kept s (state_of (entered turns s go))
entered_keeps zero s go h = same s.slots
entered_keeps (suc t) s go h = h t

looped_keeps : (m : ℕ) (inner : State → Flow) → ((t : State) → Kept t (state_of (inner t))) → (s : State) → Kept s (state_of (looped m inner s))
looped_keeps zero inner h s = same s.slots
looped_keeps (suc m) inner h s =
    entered_keeps s.turns s (λ s2. next_turn (inner s2) (looped m inner))
    (λ t. next_keeps s (inner (record s { turns = t })) (looped m inner) (looped_keeps m inner h) (h (record s { turns = t })))

either_keeps : (b : Bool) (s : State) (f g : Flow) → Kept s (state_of f) → Kept s (state_of g) → Kept s (state_of (if b then f else g))
either_keeps true s f g h k = h
either_keeps false s f g h k = k

meaning_keeps : (ds : List Declared) (ids : Ids) (b : Body) (s : State) → Kept s (state_of (meaning ds ids b s))
meaning_keeps ds ids End s = same s.slots
meaning_keeps ds ids (Plain i rest) s =
    let t = done ds ids i s in
    then_same s.slots t.slots (state_of (meaning ds ids rest t)).slots (done_with_keeps (row_of i.opcode) ds ids i s) (meaning_keeps ds ids rest t)
meaning_keeps ds ids (If t taken other rest) s =
    let f = meaning ds ids taken s in
    let g = meaning ds ids other s in
    then_keeps s (if holds ids t s then f else g) (meaning ds ids rest) (meaning_keeps ds ids rest)
    (either_keeps (holds ids t s) s f g (meaning_keeps ds ids taken s) (meaning_keeps ds ids other s))
meaning_keeps ds ids (Loop inner rest) s =
    then_keeps s (looped s.turns (meaning ds ids inner) s) (meaning ds ids rest) (meaning_keeps ds ids rest)
    (looped_keeps s.turns (meaning ds ids inner) (meaning_keeps ds ids inner) s)
meaning_keeps ds ids (Break t rest) s = either_keeps (holds_maybe ids t s) s (Breaks s) (meaning ds ids rest s) (same s.slots) (meaning_keeps ds ids rest s)
meaning_keeps ds ids (Continue t rest) s = either_keeps (holds_maybe ids t s) s (Continues s) (meaning ds ids rest s) (same s.slots) (meaning_keeps ds ids rest s)
meaning_keeps ds ids (Return t rest) s = either_keeps (holds_maybe ids t s) s (Ends s) (meaning ds ids rest s) (same s.slots) (meaning_keeps ds ids rest s)

-- an invocation keeps the length of each slot
pub invoked_keeps : (p : Program) (ids : Ids) (slots : Slots) → KeepsLengths slots (invoked p ids slots)
invoked_keeps p ids slots = meaning_keeps p.declared ids p.body (begun p slots)

-- ## Dispatches

run_keeps : (p : Program) (all : List Ids) (slots : Slots) → KeepsLengths slots (run_all p all slots)
run_keeps p [] slots = same slots
run_keeps p (ids ∷ later) slots =
    let next = invoked p ids slots in
    then_same slots next (run_all p later next) (invoked_keeps p ids slots) (run_keeps p later next)

if_keeps : (b : Bool) (a c : Slots) → KeepsLengths a c → KeepsLengths a (if b then c else a)
if_keeps true a c h = h
if_keeps false a c h = same a

-- a dispatch keeps the length of each slot
pub dispatched_keeps : (p : Program) (groups : List ℕ) (slots : Slots) → KeepsLengths slots (dispatched p groups slots)
dispatched_keeps p groups slots =
    let all = invocations groups p.group in
    if_keeps (is_allowed groups p.group) slots (run_all p all slots) (run_keeps p all slots)
