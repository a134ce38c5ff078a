-- A write to a live buffer, as Direct3D and as the core have it: what the memory shows of each buffer, it shows after.
use Rattle.std.proofs.Common.{◌≡◌, ℕ, ◌-◌, Bool, true, ◌&&◌, cond, ltb, leb, List, length, Option, Some, None, refl}
use Rattle.std.proofs.Common.{sym, ap, ◌∙◌, subst, inl, inr}
use Rattle.std.specs.Prelude.{unwrap_or}
use Rattle.std.specs.Option.{option_map}
use Rattle.std.proofs.lemmas.Bool.{cases_eq, ne_eqb}
use Rattle.dx_types.specs.declared.shape.Shape.{Shape}
use Rattle.vk_types.specs.Memory.{Memory as Bytes, range, put}
use Rattle.base_lemmas.specs.IdMap.{IdMap, get, insert}
use Rattle.d3d_model.specs.Regions as lists
use Rattle.d3d_model.specs.D3dState.{Objects, Memory, Query, bytes_of, bytes_if, count_of}
use Rattle.d3d_model.specs.Past.{Past}
use Rattle.d3d_model.specs.Memory.{write_if, write}
use Rattle.base_lemmas.proofs.Maps.{get_same, get_other}
use Rattle.d3d_model.proofs.Sized.{Sized}
use Rattle.core_model.specs.Script.{Script, InOrder}
use Rattle.log_script.specs.Makers.{maker}
use Rattle.log_script.specs.Showing.{Shows}

-- the memory shows the bytes of each live buffer at its maker
abbrev pub AllShown : Past → IdMap (List ℕ) → Bytes → Type 0
AllShown past bytes mem = (id : ℕ) (b : List ℕ) → get bytes id ≡ Some b → Shows mem (maker past id) b

-- two live buffers have two makers, and the script has their sizes
pub record Settled (script : Script) (past : Past) (o : Objects) : Type 0 where
  pub apart : (id other : ℕ) (s t : Shape) → get o.buffers id ≡ Some s → get o.buffers other ≡ Some t
      → maker past id ≡ maker past other → id ≡ other
  pub sizes : (id : ℕ) (s : Shape) → get o.buffers id ≡ Some s → script.size (maker past id) ≡ s.size

-- ---- live buffers and their bytes

-- the buffer has bytes, and so many
pub record Held (m : Memory) (id size : ℕ) : Type 0 where
  pub bytes : List ℕ
  pub found : get m.bytes id ≡ Some bytes
  pub long : length bytes ≡ size

pub held : (o : Objects) (m : Memory) → Sized o m → (id : ℕ) (s : Shape) → get o.buffers id ≡ Some s → Held m id s.size
held o m sized id s e = by_bytes (get m.bytes id) refl (sized id ∙ ap (option_map (λ (t : Shape). t.size)) e)
  where
    by_bytes : (p : Option (List ℕ)) → get m.bytes id ≡ p → option_map (λ (l : List ℕ). length l) p ≡ Some s.size
        → Held m id s.size
    by_bytes None f h = absurd cc
    by_bytes (Some b) f h = record { bytes = b; found = f; long = ap (λ (n : Option ℕ). unwrap_or n (length b)) h }

pub live_of : (o : Objects) (m : Memory) → Sized o m → (id : ℕ) (b : List ℕ) → get m.bytes id ≡ Some b → (s : Shape)
    × (get o.buffers id ≡ Some s)
live_of o m sized id b e = by_shape (get o.buffers id) refl (sym (sized id)
    ∙ ap (option_map (λ (l : List ℕ). length l)) e)
  where
    by_shape : (p : Option Shape) → get o.buffers id ≡ p → option_map (λ (s : Shape). s.size) p ≡ Some (length b)
        → (s : Shape) × (get o.buffers id ≡ Some s)
    by_shape None f h = absurd cc
    by_shape (Some s) f h = (s, f)

pub bytes_are : (m : Memory) (id : ℕ) (b : List ℕ) → get m.bytes id ≡ Some b → bytes_of m id ≡ b
bytes_are m id b e = ap bytes_if e

-- ---- other buffers

-- no byte of another buffer changes
abbrev pub Elsewhere : ℕ → Bytes → Bytes → Type 0
Elsewhere name mem mem' = (b i : ℕ) → (b ≡ name → ⊥) → mem' b i ≡ mem b i

pub put_elsewhere : (name from to : ℕ) (f : ℕ → ℕ) (mem : Bytes) → Elsewhere name mem (put (range name from to) f mem)
put_elsewhere name from to f mem b i apart =
    ap (λ (x : Bool). cond (x && (leb from i && ltb i to)) (f (i - from)) (mem b i))
    (ne_eqb name b (λ q. apart (sym q)))

-- other bytes at one id, which the memory shows
pub shown_insert : (past : Past) (bytes : IdMap (List ℕ)) (res : ℕ) (new : List ℕ) (mem mem' : Bytes)
    → ((id : ℕ) (b : List ℕ) → get bytes id ≡ Some b → maker past id ≡ maker past res → id ≡ res)
    → Shows mem' (maker past res) new → Elsewhere (maker past res) mem mem' → AllShown past bytes mem
    → AllShown past (insert bytes res new) mem'
shown_insert past bytes res new mem mem' own here there all id b e = elim (cases_eq id res) [
  | inl p ↦
      let same : new ≡ b = ap (λ (o : Option (List ℕ)). unwrap_or o new) (sym (get_same bytes res new)
      ∙ ap (λ (k : ℕ). get (insert bytes res new) k) (sym p) ∙ e) in
      subst (λ (l : List ℕ). Shows mem' (maker past id) l) same
      (subst (λ (k : ℕ). Shows mem' (maker past k) new) (sym p) here)
  | inr apart ↦
      let was : get bytes id ≡ Some b = sym (get_other bytes res new id apart) ∙ e in
      λ i l. there (maker past id) i (λ q. apart (own id b was q)) ∙ all id b was i l
]

-- ---- a write

module _ (script : Script) (past : Past) (o : Objects) (m : Memory) (settled : Settled script past o)
    (sized : Sized o m) where
  pub own_maker : (res : ℕ) (old : List ℕ) → get m.bytes res ≡ Some old → (id : ℕ) (b : List ℕ)
      → get m.bytes id ≡ Some b → maker past id ≡ maker past res → id ≡ res
  own_maker res old found id b e same =
      let s = live_of o m sized id b e in
      let t = live_of o m sized res old found in
      settled.apart id res s.0 t.0 s.1 t.1 same

  pub shown_write : (res from : ℕ) (piece old : List ℕ) (mem mem' : Bytes) → get m.bytes res ≡ Some old
      → Shows mem' (maker past res) (lists.put old from piece)
      → Elsewhere (maker past res) mem mem' → AllShown past m.bytes mem
      → AllShown past (write m res from piece).bytes mem'
  shown_write res from piece old mem mem' found here there all =
      subst (λ (p : Option (List ℕ)). AllShown past (write_if p m res from piece).bytes mem') (sym found)
      (shown_insert past m.bytes res (lists.put old from piece) mem mem' (own_maker res old found) here there all)

-- ---- counts

-- the invocations and the counts of queries are as before
pub record SameCounts (m m' : Memory) : Type 0 where
  pub ran : m'.ran ≡ m.ran
  pub begun : m'.begun_at ≡ m.begun_at
  pub counts : m'.counts ≡ m.counts

pub same_counts : (m : Memory) → SameCounts m m
same_counts m = record { ran = refl; begun = refl; counts = refl }

pub then_counts : (m m1 m2 : Memory) → SameCounts m m1 → SameCounts m1 m2 → SameCounts m m2
then_counts m m1 m2 h k = record { ran = k.ran ∙ h.ran; begun = k.begun ∙ h.begun; counts = k.counts ∙ h.counts }

pub write_counts : (m : Memory) (res from : ℕ) (piece : List ℕ) → SameCounts m (write m res from piece)
write_counts m res from piece = by_bytes (get m.bytes res)
  where
    by_bytes : (p : Option (List ℕ)) → SameCounts m (write_if p m res from piece)
    by_bytes None = same_counts m
    by_bytes (Some old) = record { ran = refl; begun = refl; counts = refl }

-- ---- states

-- the state in order shows the memory, where these queries are live
pub record Alike (past : Past) (queries : IdMap Query) (m : Memory) (w : InOrder) : Type 0 where
  pub shown : AllShown past m.bytes w.bytes
  pub ran : w.total ≡ m.ran
  pub begun : (id : ℕ) (q : Query) → get queries id ≡ Some q → q.sort ≡ 2 → q.begun ≡ true
      → get m.begun_at id ≡ Some (w.begun id)
  pub counted : (id : ℕ) (q : Query) → get queries id ≡ Some q → q.sort ≡ 2 → (n : ℕ) → q.ended ≡ Some n
      → count_of m id ≡ w.count id

-- other bytes, and more invocations
pub alike_with : (past : Past) (queries : IdMap Query) (m m' : Memory) (w : InOrder) (bytes : Bytes) (total : ℕ)
    → Alike past queries m w
    → AllShown past m'.bytes bytes → total ≡ m'.ran → m'.begun_at ≡ m.begun_at → m'.counts ≡ m.counts
    → Alike past queries m' (record w { bytes = bytes; total = total })
alike_with past queries m m' w bytes total h shown ran begun counts = record {
  shown = shown;
  ran = ran;
  begun = λ id q e sort is. ap (λ (c : IdMap ℕ). get c id) begun ∙ h.begun id q e sort is;
  counted = λ id q e sort n is. ap (λ (c : IdMap ℕ). unwrap_or (get c id) 0) counts ∙ h.counted id q e sort n is;
}

-- other bytes alone
pub alike_bytes : (past : Past) (queries : IdMap Query) (m m' : Memory) (w : InOrder) (bytes : Bytes) (total : ℕ)
    → Alike past queries m w → SameCounts m m'
    → AllShown past m'.bytes bytes → total ≡ w.total → Alike past queries m' (record w { bytes = bytes; total = total })
alike_bytes past queries m m' w bytes total h same shown e =
    alike_with past queries m m' w bytes total h shown (e ∙ h.ran ∙ sym same.ran) same.begun same.counts
