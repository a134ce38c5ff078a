-- The words of a view under its binding, and the slots with other words of a view.
use Rattle.std.proofs.Common.{◌≡◌, ℕ, zero, suc, ◌+◌, ◌-◌, ◌<◌, ◌≤◌, Bool, true, false, if◌then◌else◌, List, [], ◌∷◌, length, refl, sym, ap, ◌∙◌, arith}
use Rattle.std.specs.Prelude.{nat_lt, ◌&&◌, slice_index_or, slice_set}
use Rattle.std.proofs.lemmas.Bool.{lt-ltb, le-ltb, le-leb}
use Rattle.std.proofs.lemmas.List.{length-set, set-set, set-get_or}
use Rattle.shader_model.specs.declared.tree.SlotUse.{SlotUse}
use Rattle.shader_model.specs.Invocation.{Slots, State, words_in, view_words}
use Rattle.spirv_model.specs.Meaning.Bindings.{first_read, first_write, words_at, is_writable, with_word}
use Rattle.spirv_emit.specs.Layout.{bindings}
use Rattle.spirv_emit.specs.Lower.{temporary, binding_of}
use Rattle.spirv_emit.specs.Frames.{Frame}
use Rattle.spirv_emit.proofs.Meaning.CodeStretches.{Shows}

-- ## The words of a view's binding

write_words : (z : Slots) (k : ℕ) → k < 8 → words_at z (first_write + k) ≡ words_in z.writes k
write_words z k lt =
    ap (λ t. if t then words_in z.constants (30 + k) else (if nat_lt (30 + k) 30 then words_in z.reads (30 + k - 14) else (if nat_lt (30 + k) 38 then words_in z.writes (30 + k - 30) else []))) (le-ltb (30 + k) 14 (omega arith))
    ∙ ap (λ t. if t then words_in z.reads (30 + k - 14) else (if nat_lt (30 + k) 38 then words_in z.writes (30 + k - 30) else [])) (le-ltb (30 + k) 30 (omega arith))
    ∙ ap (λ t. if t then words_in z.writes (30 + k - 30) else []) (lt-ltb (30 + k) 38 (omega arith))
    ∙ ap (words_in z.writes) (let e : 30 + k - 30 ≡ k = omega arith in e)

read_words : (z : Slots) (k : ℕ) → k < 16 → words_at z (first_read + k) ≡ words_in z.reads k
read_words z k lt =
    ap (λ t. if t then words_in z.constants (14 + k) else (if nat_lt (14 + k) 30 then words_in z.reads (14 + k - 14) else (if nat_lt (14 + k) 38 then words_in z.writes (14 + k - 30) else []))) (le-ltb (14 + k) 14 (omega arith))
    ∙ ap (λ t. if t then words_in z.reads (14 + k - 14) else (if nat_lt (14 + k) 38 then words_in z.writes (14 + k - 30) else [])) (lt-ltb (14 + k) 30 (omega arith))
    ∙ ap (words_in z.reads) (let e : 14 + k - 14 ≡ k = omega arith in e)

-- a view's slot is below the limit of its kind
abbrev pub SlotBelow : SlotUse → Type 0
SlotBelow u = u.slot < (if u.writable then 8 else 16)

view_at : (z : Slots) (k : ℕ) (t : Bool) → k < (if t then 8 else 16) → words_at z (if t then first_write + k else first_read + k) ≡ (if t then words_in z.writes k else words_in z.reads k)
view_at z k true lt = write_words z k lt
view_at z k false lt = read_words z k lt

pub view_here : (u : SlotUse) (z : Slots) → SlotBelow u → words_at z (binding_of u) ≡ view_words u z
view_here u z lt = view_at z u.slot u.writable lt

binding_at : (k : ℕ) (t : Bool) → k < (if t then 8 else 16) → (if t then first_write + k else first_read + k) < bindings
binding_at k true lt = omega arith
binding_at k false lt = omega arith

pub binding_below : (u : SlotUse) → SlotBelow u → binding_of u < bindings
binding_below u lt = binding_at u.slot u.writable lt

-- ## Lists of views with another view

in_set : (P : List ℕ → Type 0) (ws : List (List ℕ)) (k j : ℕ) (new : List ℕ) → P new → P (slice_index_or ws j []) → P (slice_index_or (slice_set ws k new) j [])
in_set P [] k j new p q = q
in_set P (w ∷ ws) zero zero new p q = p
in_set P (w ∷ ws) zero (suc j) new p q = q
in_set P (w ∷ ws) (suc k) zero new p q = q
in_set P (w ∷ ws) (suc k) (suc j) new p q = in_set P ws k j new p q

-- where a view has words, it can be replaced
there : (ws : List (List ℕ)) (k : ℕ) (old new : List ℕ) → 0 < length (slice_index_or (slice_set ws k old) k []) → slice_index_or (slice_set ws k new) k [] ≡ new
there [] k old new pos = absurd (omega arith)
there (w ∷ ws) zero old new pos = refl
there (w ∷ ws) (suc k) old new pos = there ws k old new pos

-- the slots with other words of an unordered access view
abbrev pub with_writes : ℕ → List ℕ → Slots → Slots
with_writes k ws z = record z { writes = slice_set z.writes k ws }

third : (P : List ℕ → Type 0) (a b c : Bool) (x y z z' w : List ℕ) → P (if a then x else (if b then y else (if c then z else w))) → (P z → P z') → P (if a then x else (if b then y else (if c then z' else w)))
third P true b c x y z z' w h step = h
third P false true c x y z z' w h step = h
third P false false true x y z z' w h step = step h
third P false false false x y z z' w h step = h

pub limited_with : (z : Slots) (k : ℕ) (new : List ℕ) → ((b : ℕ) → length (words_at z b) ≤ 4194304) → length new ≤ 4194304 → (b : ℕ) → length (words_at (with_writes k new z) b) ≤ 4194304
limited_with z k new h few b =
    third (λ (ws : List ℕ). length ws ≤ 4194304) (nat_lt b first_read) (nat_lt b first_write) (nat_lt b 38) _ _ (words_in z.writes (b - first_write)) (words_in (slice_set z.writes k new) (b - first_write)) [] (h b)
    (λ q. in_set (λ (ws : List ℕ). length ws ≤ 4194304) z.writes k (b - first_write) new few q)

-- ## Frames that have other words of a view

module _ (u : SlotUse) (writes : u.writable ≡ true) (lt : u.slot < 8) where
  binding_is : binding_of u ≡ first_write + u.slot
  binding_is = ap (λ t. if t then first_write + u.slot else first_read + u.slot) writes

  pub is_written : is_writable (binding_of u) ≡ true
  is_written =
      ap is_writable binding_is
      ∙ ap (λ t. t && nat_lt (30 + u.slot) 38) (le-leb 30 (30 + u.slot) (omega arith))
      ∙ lt-ltb (30 + u.slot) 38 (omega arith)

  back : binding_of u - first_write ≡ u.slot
  back = ap (λ b. b - first_write) binding_is ∙ (let e : 30 + u.slot - 30 ≡ u.slot = omega arith in e)

  words_are : (z : Slots) → words_at z (binding_of u) ≡ words_in z.writes u.slot
  words_are z = ap (words_at z) binding_is ∙ write_words z u.slot lt

  -- a frame g whose slots are z but for the words of the view, and whose variables are those of f
  pub record Viewed (z : Slots) (f g : Frame) (words : List ℕ) : Type 0 where
    pub slots : g.slots ≡ with_writes u.slot words z
    pub variables : g.variables ≡ f.variables
    pub here : words_at g.slots (binding_of u) ≡ words
    pub few : length words ≤ 4194304

  -- before any store
  pub own_viewed : (f : Frame) (z : Slots) → f.slots ≡ z → length (words_in z.writes u.slot) ≤ 4194304 → Viewed z f f (words_in z.writes u.slot)
  own_viewed f z same few = record {
    slots = same ∙ ap (λ (ws : List (List ℕ)). record z { writes = ws }) (sym (set-get_or z.writes u.slot []));
    variables = refl;
    here = ap (λ (y : Slots). words_at y (binding_of u)) same ∙ words_are z;
    few = few;
  }

  -- after the store of one more word
  pub word_viewed : (z : Slots) (f g : Frame) (words : List ℕ) (i v : ℕ) → i < length words → Viewed z f g words → Viewed z f (record g { slots = with_word (binding_of u) i v g.slots }) (slice_set words i v)
  word_viewed z f g words i v inside h =
      let new = slice_set words i v in
      let same : with_word (binding_of u) i v g.slots ≡ with_writes u.slot new z =
      ap (λ k. with_writes k (slice_set (words_at g.slots (binding_of u)) i v) g.slots) back
      ∙ ap (λ (ws : List ℕ). with_writes u.slot (slice_set ws i v) g.slots) h.here
      ∙ ap (λ (y : Slots). with_writes u.slot new y) h.slots
      ∙ ap (λ (ws : List (List ℕ)). record z { writes = ws }) (set-set z.writes u.slot words new) in
      let old : words_in (slice_set z.writes u.slot words) u.slot ≡ words = sym (words_are (with_writes u.slot words z)) ∙ ap (λ (y : Slots). words_at y (binding_of u)) (sym h.slots) ∙ h.here in
      let long = ap (λ (ws : List ℕ). length ws) old in
      let size = length-set words i v in
      let few = h.few in
      record {
        slots = same;
        variables = h.variables;
        here = ap (λ (y : Slots). words_at y (binding_of u)) same ∙ words_are (with_writes u.slot new z) ∙ there z.writes u.slot words new (omega (arith, long, inside));
        few = omega (arith, size, few);
      }

  -- such a frame shows the state that has these words in the view
  pub viewed_shows : (temps : ℕ) (f g : Frame) (s : State) (words : List ℕ) → Shows temps f s → Viewed s.slots f g words → Shows temps g (record s { slots = with_writes u.slot words s.slots })
  viewed_shows temps f g s words h k = record {
    slots = k.slots;
    turns_left = ap (λ (v : ℕ → ℕ). v 0) k.variables ∙ h.turns_left;
    few = h.few;
    long = h.long;
    limited = limited_with s.slots u.slot words h.limited k.few;
    words = λ r c lr lc. ap (λ (v : ℕ → ℕ). v (temporary r c)) k.variables ∙ h.words r c lr lc;
  }
