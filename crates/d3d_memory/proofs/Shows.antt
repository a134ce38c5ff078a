-- What slots show, by words.
use Rattle.std.proofs.Common.{◌≡◌, ℕ, zero, suc, ◌+◌, ◌-◌, ◌*◌, ◌/◌, ◌^◌, ◌<◌, ◌≤◌, List, [], ◌∷◌, ◌++◌, length, get_or, Option, Some, None, take, drop, refl, sym, ap, ◌∙◌, arith}
use Rattle.std.specs.List.{find}
use Rattle.std.proofs.Math.ListN.{set, get_or-map}
use Rattle.std.proofs.lemmas.List.{length-take, take_all, drop_all, take_more, drop_more, set_at, append_assoc, append-nil, length-map}
use Rattle.dx_types.specs.declared.range.ResRange.{ResRange}
use Rattle.shader_model.specs.declared.tree.Declared.{Declared}
use Rattle.base_lemmas.specs.ByteWords as byte_words
use Rattle.d3d_model.specs.Binding.{Bindings}
use Rattle.d3d_model.specs.D3dState.{Objects, Memory}
use Rattle.d3d_model.specs.Memory.{words_shown, shown_from, is_declared, constant_shown, view_shown, constants_shown, srvs_shown, uavs_shown}
use Rattle.d3d_model.specs.Regions.{slice, words_from, words_of}
use Rattle.shader_slots.specs.Bound.{Around, Bound, with_constant, with_read, with_write, words_bound, around_bound}
use Rattle.shader_slots.specs.Part.{Part}
use Rattle.d3d_memory.specs.Shown.{words_one, part_one, around_one, constant_words, srv_words, uav_words, uav_around, with_constants, with_reads, with_writes}

first_word : (a b c d : ℕ) → a + 2 ^ 8 * b + 2 ^ 16 * c + 2 ^ 24 * d ≡ a + 256 * (b + 256 * (c + 256 * (d + 256 * 0)))
first_word a b c d = omega arith

-- the whole words of some bytes, and what is left of them
words_front : (n : ℕ) (bytes : List ℕ) → 4 * n ≤ length bytes → byte_words.words_of (take (4 * n) bytes) ≡ words_from n bytes
words_front zero bytes h = refl
words_front (suc n) (a ∷ b ∷ c ∷ d ∷ rest) h =
    let e : 4 * suc n ≡ suc (suc (suc (suc (4 * n)))) = omega arith in
    ap (λ (k : ℕ). byte_words.words_of (take k (a ∷ b ∷ c ∷ d ∷ rest))) e
    ∙ ap (λ (w : ℕ). w ∷ byte_words.words_of (take (4 * n) rest)) (first_word a b c d)
    ∙ ap (λ (ws : List ℕ). (a + 256 * (b + 256 * (c + 256 * (d + 256 * 0)))) ∷ ws) (words_front n rest (omega arith))
words_front (suc n) [] h = absurd (omega arith)
words_front (suc n) (a ∷ []) h = absurd (omega arith)
words_front (suc n) (a ∷ b ∷ []) h = absurd (omega arith)
words_front (suc n) (a ∷ b ∷ c ∷ []) h = absurd (omega arith)

pub whole_words : (part : List ℕ) (k : ℕ) → k ≡ length part / 4 * 4 → byte_words.words_of (take k part) ≡ words_of part
unfolding words_of
whole_words part k e = ap (λ (j : ℕ). byte_words.words_of (take j part)) (let f : k ≡ 4 * (length part / 4) = omega (arith, e) in f) ∙ words_front (length part / 4) part (omega arith)

-- a slice up to its length is one up to its end
pub to_end : (bytes : List ℕ) (from to len : ℕ) → len ≡ to - from → slice bytes from (from + len) ≡ slice bytes from to
to_end bytes from to len e = ap (λ (j : ℕ). take j (drop from bytes)) (let f : from + len - from ≡ to - from = omega (arith, e) in f)

-- ---- slots, one after another

-- the first so many are as in the one list, the others as in the other
abbrev pub upto : {X : Type 0} → ℕ → List X → List X → List X
upto i done rest = take i done ++ drop i rest

pub upto_set : {X : Type 0} (i : ℕ) (done rest : List X) (d : X) → i < length done → length rest ≡ length done → set (upto i done rest) i (get_or done i d) ≡ upto (i + 1) done rest
upto_set i done rest d h e =
    let has : length (take i done) ≡ i = omega (arith, length-take i done) in
    ap (λ l. set (take i done ++ l) i (get_or done i d)) (drop_more rest i d (omega arith))
    ∙ set_at (take i done) (get_or rest i d) (drop (i + 1) rest) (get_or done i d) i has
    ∙ sym (append_assoc (take i done) (get_or done i d ∷ []) (drop (i + 1) rest))
    ∙ ap (λ l. l ++ drop (i + 1) rest) (sym (take_more done i d h))

pub upto_all : {X : Type 0} (n : ℕ) (done rest : List X) → length done ≡ n → length rest ≡ n → upto n done rest ≡ done
upto_all n done rest e f = ap (λ l. l ++ drop n rest) (take_all n done (omega (arith, e))) ∙ ap (λ l. done ++ l) (drop_all n rest (omega (arith, f))) ∙ append-nil done

-- ---- what each slot shows

words_shown-cons : (m : Memory) (s : Option ResRange) (slots : List (Option ResRange)) → words_shown m (s ∷ slots) ≡ words_one m s ∷ words_shown m slots
words_shown-cons m None slots = refl
words_shown-cons m (Some r) slots = refl

pub length-words_shown : (m : Memory) (slots : List (Option ResRange)) → length (words_shown m slots) ≡ length slots
length-words_shown m [] = refl
length-words_shown m (s ∷ slots) = ap length (words_shown-cons m s slots) ∙ ap suc (length-words_shown m slots)

pub words_shown_at : (m : Memory) (slots : List (Option ResRange)) (i : ℕ) → i < length slots → get_or (words_shown m slots) i [] ≡ words_one m (get_or slots i None)
words_shown_at m [] i h = absurd (omega arith)
words_shown_at m (s ∷ slots) zero h = ap (λ (l : List (List ℕ)). get_or l 0 []) (words_shown-cons m s slots)
words_shown_at m (s ∷ slots) (suc i) h = ap (λ (l : List (List ℕ)). get_or l (suc i) []) (words_shown-cons m s slots) ∙ words_shown_at m slots i (omega arith)

module _ {X : Type 0} (show : Option Declared → X → Option ResRange) (ds : List Declared) (opcode : ℕ) where
  pub length-shown : (j : ℕ) (slots : List X) → length (shown_from show ds opcode j slots) ≡ length slots
  length-shown j [] = refl
  length-shown j (s ∷ slots) = ap suc (length-shown (suc j) slots)

  pub shown_at : (j : ℕ) (slots : List X) (i : ℕ) (d : X) → i < length slots → get_or (shown_from show ds opcode j slots) i None ≡ show (find (is_declared opcode (j + i)) ds) (get_or slots i d)
  shown_at j [] i d h = absurd (omega arith)
  shown_at j (s ∷ slots) zero d h = ap (λ (k : ℕ). show (find (is_declared opcode k) ds) s) (let e : j ≡ j + 0 = omega arith in e)
  shown_at j (s ∷ slots) (suc i) d h =
      shown_at (suc j) slots i d (omega arith)
      ∙ ap (λ (k : ℕ). show (find (is_declared opcode k) ds) (get_or slots i d)) (let e : suc j + i ≡ j + suc i = omega arith in e)

-- ---- slots that are bound one after another

-- the next slot, bound as it is shown
next_slot : {X : Type 0} (i : ℕ) (done rest now : List X) (d x : X) → i < length done → length rest ≡ length done → now ≡ upto i done rest → x ≡ get_or done i d → set now i x ≡ upto (i + 1) done rest
next_slot i done rest now d x h e is same =
    ap (λ l. set l i x) is ∙ ap (set (upto i done rest) i) same ∙ upto_set i done rest d h e

pub next_constant : (i : ℕ) (b now new : Bound) (words : List ℕ) (done : List (List ℕ)) → i < length done → length b.words.constants ≡ length done
    → now ≡ with_constants (upto i done b.words.constants) b → words ≡ get_or done i [] → new ≡ with_constant i words now → new ≡ with_constants (upto (i + 1) done b.words.constants) b
next_constant i b now new words done h e is same bound =
    bound
    ∙ ap (with_constant i words) is
    ∙ ap (λ l. with_constants l b) (next_slot i done b.words.constants (upto i done b.words.constants) [] words h e refl same)

pub next_read : (i : ℕ) (b now new : Bound) (words : List ℕ) (done : List (List ℕ)) → i < length done → length b.words.reads ≡ length done
    → now ≡ with_reads (upto i done b.words.reads) b → words ≡ get_or done i [] → new ≡ with_read i words now → new ≡ with_reads (upto (i + 1) done b.words.reads) b
next_read i b now new words done h e is same bound =
    bound
    ∙ ap (with_read i words) is
    ∙ ap (λ l. with_reads l b) (next_slot i done b.words.reads (upto i done b.words.reads) [] words h e refl same)

pub next_write : (i : ℕ) (b now new : Bound) (part : Option Part) (done : List (List ℕ)) (around : List (Option Around)) → i < length done → length b.words.writes ≡ length done
    → i < length around → length b.around ≡ length around → now ≡ with_writes (upto i done b.words.writes) (upto i around b.around) b
    → words_bound part ≡ get_or done i [] → around_bound part ≡ get_or around i None → new ≡ with_write i part now → new ≡ with_writes (upto (i + 1) done b.words.writes) (upto (i + 1) around b.around) b
next_write i b now new part done around h e k f is words stands bound =
    bound
    ∙ ap (with_write i part) is
    ∙ ap (λ l. with_writes l (set (upto i around b.around) i (around_bound part)) b) (next_slot i done b.words.writes (upto i done b.words.writes) [] (words_bound part) h e refl words)
    ∙ ap (λ l. with_writes (upto (i + 1) done b.words.writes) l b) (next_slot i around b.around (upto i around b.around) None (around_bound part) k f refl stands)

-- the part of a slot has the words that it shows, and nothing around them
pub part_words : (m : Memory) (s : Option ResRange) → words_bound (part_one m s) ≡ words_one m s
part_words m None = refl
part_words m (Some r) = refl

pub part_around : (m : Memory) (s : Option ResRange) → around_bound (part_one m s) ≡ around_one s
part_around m None = refl
part_around m (Some r) = refl

-- ---- the slots of each kind

module _ {X : Type 0} (show : Option Declared → X → Option ResRange) (ds : List Declared) (opcode : ℕ) (slots : List X) where
  shown_first : (i : ℕ) (d : X) → i < length slots → get_or (shown_from show ds opcode 0 slots) i None ≡ show (find (is_declared opcode i) ds) (get_or slots i d)
  shown_first i d h =
      shown_at show ds opcode 0 slots i d h ∙ ap (λ (k : ℕ). show (find (is_declared opcode k) ds) (get_or slots i d)) (let e : 0 + i ≡ i = omega arith in e)

  module _ (m : Memory) where
    length-words : length (words_shown m (shown_from show ds opcode 0 slots)) ≡ length slots
    length-words = length-words_shown m (shown_from show ds opcode 0 slots) ∙ length-shown show ds opcode 0 slots

    words_first : (i : ℕ) → i < length slots → get_or (words_shown m (shown_from show ds opcode 0 slots)) i [] ≡ words_one m (get_or (shown_from show ds opcode 0 slots) i None)
    words_first i h = words_shown_at m (shown_from show ds opcode 0 slots) i (omega (arith, h, length-shown show ds opcode 0 slots))

module _ (o : Objects) (b : Bindings) (ds : List Declared) where
  pub constant_first : (i : ℕ) → i < length b.constants → get_or (constants_shown o b ds) i None ≡ constant_shown o (find (is_declared 3 i) ds) (get_or b.constants i None)
  constant_first i h = shown_first (constant_shown o) ds 3 b.constants i None h

  module _ (m : Memory) where
    pub length-constants : length (constant_words o m b ds) ≡ length b.constants
    length-constants = length-words (constant_shown o) ds 3 b.constants m

    pub constants_at : (i : ℕ) → i < length b.constants → get_or (constant_words o m b ds) i [] ≡ words_one m (get_or (constants_shown o b ds) i None)
    constants_at i h = words_first (constant_shown o) ds 3 b.constants m i h

module _ (b : Bindings) (ds : List Declared) where
  pub srv_first : (i : ℕ) → i < length b.srvs → get_or (srvs_shown b ds) i None ≡ view_shown (find (is_declared 4 i) ds) (get_or b.srvs i None)
  srv_first i h = shown_first view_shown ds 4 b.srvs i None h

  pub uav_first : (i : ℕ) → i < length b.uavs → get_or (uavs_shown b ds) i None ≡ view_shown (find (is_declared 5 i) ds) (get_or b.uavs i None)
  uav_first i h = shown_first view_shown ds 5 b.uavs i None h

  pub length-uavs_shown : length (uavs_shown b ds) ≡ length b.uavs
  length-uavs_shown = length-shown view_shown ds 5 0 b.uavs

  pub length-around : length (uav_around b ds) ≡ length b.uavs
  length-around = length-map (uavs_shown b ds) around_one ∙ length-uavs_shown

  pub around_at : (i : ℕ) → get_or (uav_around b ds) i None ≡ around_one (get_or (uavs_shown b ds) i None)
  around_at i = get_or-map around_one (uavs_shown b ds) i None

  module _ (m : Memory) where
    pub length-srvs : length (srv_words m b ds) ≡ length b.srvs
    length-srvs = length-words view_shown ds 4 b.srvs m

    pub srvs_at : (i : ℕ) → i < length b.srvs → get_or (srv_words m b ds) i [] ≡ words_one m (get_or (srvs_shown b ds) i None)
    srvs_at i h = words_first view_shown ds 4 b.srvs m i h

    pub length-uavs : length (uav_words m b ds) ≡ length b.uavs
    length-uavs = length-words view_shown ds 5 b.uavs m

    pub uavs_at : (i : ℕ) → i < length b.uavs → get_or (uav_words m b ds) i [] ≡ words_one m (get_or (uavs_shown b ds) i None)
    uavs_at i h = words_first view_shown ds 5 b.uavs m i h
