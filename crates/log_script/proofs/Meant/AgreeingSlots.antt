-- The slots of a dispatch: its command gives the shader the words that Direct3D does, and leaves in the memory what
-- is stored.
use Rattle.std.proofs.Common.{◌≡◌, ℕ, zero, suc, ◌+◌, ◌-◌, ◌*◌, ◌/◌, ◌%◌, ◌<◌, ◌≤◌, ◌==◌, Bool, false, cond, List, []}
use Rattle.std.proofs.Common.{◌∷◌, ◌++◌, length, map, drop, get_or, Option, Some, None, refl, sym, ap, ◌∙◌, arith}
use Rattle.std.specs.Prelude.{⊤, slice_index_or}
use Rattle.std.specs.List.{AllByRecursion}
use Rattle.std.proofs.lemmas.Bool.{eq-eqb, ne_eqb}
use Rattle.std.proofs.lemmas.List.{append-nil}
use Rattle.dx_types.specs.declared.range.Range.{Range}
use Rattle.dx_types.specs.declared.range.ResRange.{ResRange}
use Rattle.vk_types.specs.declared.command.SlotName.{SlotName}
use Rattle.vk_types.specs.declared.command.SlotName.TheVariants as slot
use Rattle.vk_types.specs.declared.command.SlotRange.{SlotRange}
use Rattle.base_lemmas.specs.Lists.{numbers_from}
use Rattle.vk_types.specs.Memory.{Memory as Bytes, put, byte_in, byte_in_words, number_at}
use Rattle.vk_types.specs.Effects.{words_in, is_constant, is_srv, is_uav, slot_words, slots_words, put_slot, put_slots}
use Rattle.d3d_model.specs.Regions.{put as put_list, slice, words_of, spelled}
use Rattle.d3d_model.specs.D3dState.{Objects, Memory, bytes_of}
use Rattle.d3d_model.specs.Past.{Past}
use Rattle.d3d_model.specs.Memory.{read, write, words_shown, stored}
use Rattle.d3d_model.proofs.Sized.{Sized, same_write}
use Rattle.core_model.specs.Script.{Script}
use Rattle.log_script.specs.Makers.{maker, of_maker}
use Rattle.log_script.specs.Showing.{Shows}
use Rattle.log_script.specs.Plays.{slots_from}
use Rattle.log_script.specs.LogScript.{all_slots}
use Rattle.log_script.specs.Fitting.{LivesAndFits}
use Rattle.log_script.proofs.Meant.ByteLists.{number_is, length-slice, length-words_from, length-spelled, spelled_at}
use Rattle.log_script.proofs.Meant.Showing.{shows_put, words_read}
use Rattle.log_script.proofs.Meant.AgreeingWrites.{AllShown, Settled, held, bytes_are, put_elsewhere, shown_write}
use Rattle.log_script.proofs.Meant.AgreeingWrites.{SameCounts, same_counts, then_counts, write_counts}

-- what a slot shows lies in a live buffer
abbrev pub ShownFits : Objects → Option ResRange → Type 0
ShownFits o None = ⊤
ShownFits o (Some r) = LivesAndFits o r

-- and is of whole words
abbrev pub ShownWhole : Option ResRange → Type 0
ShownWhole None = ⊤
ShownWhole (Some r) = (n : ℕ) × (r.to ≡ r.from + 4 * n)

same_numbers : (f g : ℕ → List ℕ) (first n : ℕ) → ((j : ℕ) → first ≤ j → f j ≡ g j)
    → map f (numbers_from first n) ≡ map g (numbers_from first n)
same_numbers f g first zero h = refl
same_numbers f g first (suc n) h =
    let head : f first ≡ g first = h first (omega arith) in
    let tail = same_numbers f g (suc first) n (λ j l. h j (omega (arith, l))) in
    λ i. head i ∷ tail i

-- ---- what the shader is given

module _ (past : Past) (o : Objects) (m : Memory) (mem : Bytes) (sized : Sized o m)
    (shown : AllShown past m.bytes mem) where
  range_words : (r : ResRange) → LivesAndFits o r → words_in mem (of_maker past r) ≡ words_of (read m r)
  range_words r f =
      let h = held o m sized r.res f.shape f.lives in
      words_read mem (maker past r.res) r.from r.to h.bytes (shown r.res h.bytes h.found)
      (omega (arith, f.has_byte)) (omega (arith, f.fits, h.long))
      ∙ ap (λ (l : List ℕ). words_of (slice l r.from r.to)) (sym (bytes_are m r.res h.bytes h.found))

  -- slots of another kind
  unnamed : (name : ℕ → SlotName) (test : SlotName → Bool) → ((k : ℕ) → test (name k) ≡ false)
      → (i : ℕ) (xs : List (Option ResRange)) (rest : List SlotRange)
      → slot_words mem test (slots_from past name i xs ++ rest) ≡ slot_words mem test rest
  unnamed name test other i [] rest = refl
  unnamed name test other i (None ∷ xs) rest = unnamed name test other (suc i) xs rest
  unnamed name test other i (Some r ∷ xs) rest =
      ap (λ (b : Bool). cond b (words_in mem (of_maker past r))
      (slot_words mem test (slots_from past name (suc i) xs ++ rest))) (other i)
      ∙ unnamed name test other (suc i) xs rest

  module _ (name : ℕ → SlotName) (is : ℕ → SlotName → Bool) (named : (j k : ℕ) → is j (name k) ≡ (j == k)) where
    -- slots behind this one
    behind : (j i : ℕ) → j < i → (xs : List (Option ResRange)) (rest : List SlotRange)
        → slot_words mem (is j) (slots_from past name i xs ++ rest) ≡ slot_words mem (is j) rest
    behind j i l [] rest = refl
    behind j i l (None ∷ xs) rest = behind j (suc i) (omega (arith, l)) xs rest
    behind j i l (Some r ∷ xs) rest =
        ap (λ (b : Bool). cond b (words_in mem (of_maker past r))
        (slot_words mem (is j) (slots_from past name (suc i) xs ++ rest)))
        (named j i ∙ ne_eqb j i (λ e. absurd (let no : ⊥ = omega (arith, e, l) in no)))
        ∙ behind j (suc i) (omega (arith, l)) xs rest

    named_words : (rest : List SlotRange) → ((j : ℕ) → slot_words mem (is j) rest ≡ [])
        → (i : ℕ) (xs : List (Option ResRange)) → AllByRecursion (ShownFits o) xs
        → map (λ j. slot_words mem (is j) (slots_from past name i xs ++ rest)) (numbers_from i (length xs))
        ≡ words_shown m xs
    named_words rest none i [] f = refl
    named_words rest none i (None ∷ xs) f =
        let head : slot_words mem (is i) (slots_from past name (suc i) xs ++ rest) ≡ [] =
        behind i (suc i) (omega arith) xs rest ∙ none i in
        let tail = named_words rest none (suc i) xs f.1 in
        λ p. head p ∷ tail p
    named_words rest none i (Some r ∷ xs) f =
        let later : List SlotRange = slots_from past name (suc i) xs ++ rest in
        let head : slot_words mem (is i) (record { slot = name i; range = of_maker past r } ∷ later)
        ≡ words_of (read m r) =
        ap (λ (b : Bool). cond b (words_in mem (of_maker past r)) (slot_words mem (is i) later)) (named i i
        ∙ eq-eqb i i refl) ∙ range_words r f.0 in
        let tail : map (λ j. slot_words mem (is j) (record { slot = name i; range = of_maker past r } ∷ later))
        (numbers_from (suc i) (length xs)) ≡ words_shown m xs =
        same_numbers (λ j. slot_words mem (is j) (record { slot = name i; range = of_maker past r } ∷ later))
        (λ j. slot_words mem (is j) later) (suc i) (length xs) (λ j l.
        ap (λ (b : Bool). cond b (words_in mem (of_maker past r)) (slot_words mem (is j) later)) (named j i
        ∙ ne_eqb j i (λ e. absurd (let no : ⊥ = omega (arith, e, l) in no))))
        ∙ named_words rest none (suc i) xs f.1 in
        λ p. head p ∷ tail p

  -- all slots of a dispatch
  pub slots_given : (cs ss us : List (Option ResRange)) → length cs ≡ 14 → length ss ≡ 16 → length us ≡ 8
      → AllByRecursion (ShownFits o) cs → AllByRecursion (ShownFits o) ss → AllByRecursion (ShownFits o) us
      → all_slots (slots_words mem (slots_from past slot.Constant 0 cs
      ++ (slots_from past slot.Srv 0 ss ++ slots_from past slot.Uav 0 us)))
      ≡ record { constants = words_shown m cs; reads = words_shown m ss; writes = words_shown m us }
  slots_given cs ss us few more least f g h =
      let views : List SlotRange = slots_from past slot.Srv 0 ss ++ slots_from past slot.Uav 0 us in
      let all : List SlotRange = slots_from past slot.Constant 0 cs ++ views in
      let last : slots_from past slot.Uav 0 us ≡ slots_from past slot.Uav 0 us ++ [] =
      sym (append-nil (slots_from past slot.Uav 0 us)) in
      let no_views : (j : ℕ) → slot_words mem (is_constant j) views ≡ [] = λ j.
      unnamed slot.Srv (is_constant j) (λ k. refl) 0 ss (slots_from past slot.Uav 0 us)
      ∙ ap (λ (l : List SlotRange). slot_words mem (is_constant j) l) last
      ∙ unnamed slot.Uav (is_constant j) (λ k. refl) 0 us [] in
      let no_uavs : (j : ℕ) → slot_words mem (is_srv j) (slots_from past slot.Uav 0 us) ≡ [] = λ j.
      ap (λ (l : List SlotRange). slot_words mem (is_srv j) l) last ∙ unnamed slot.Uav (is_srv j) (λ k. refl) 0 us [] in
      let c : map (λ j. slot_words mem (is_constant j) all) (numbers_from 0 14) ≡ words_shown m cs =
      ap (λ (n : ℕ). map (λ j. slot_words mem (is_constant j) all) (numbers_from 0 n)) (sym few)
      ∙ named_words slot.Constant is_constant (λ j k. refl) views no_views 0 cs f in
      let r : map (λ j. slot_words mem (is_srv j) all) (numbers_from 0 16) ≡ words_shown m ss =
      same_numbers (λ j. slot_words mem (is_srv j) all) (λ j. slot_words mem (is_srv j) views) 0 16
      (λ j l. unnamed slot.Constant (is_srv j) (λ k. refl) 0 cs views)
      ∙ ap (λ (n : ℕ). map (λ j. slot_words mem (is_srv j) views) (numbers_from 0 n)) (sym more)
      ∙ named_words slot.Srv is_srv (λ j k. refl) (slots_from past slot.Uav 0 us) no_uavs 0 ss g in
      let u : map (λ j. slot_words mem (is_uav j) all) (numbers_from 0 8) ≡ words_shown m us =
      same_numbers (λ j. slot_words mem (is_uav j) all) (λ j. slot_words mem (is_uav j)
      (slots_from past slot.Uav 0 us ++ [])) 0 8 (λ j l.
      unnamed slot.Constant (is_uav j) (λ k. refl) 0 cs views
      ∙ unnamed slot.Srv (is_uav j) (λ k. refl) 0 ss (slots_from past slot.Uav 0 us)
      ∙ ap (λ (q : List SlotRange). slot_words mem (is_uav j) q) last)
      ∙ ap (λ (n : ℕ). map (λ j. slot_words mem (is_uav j) (slots_from past slot.Uav 0 us ++ []))
      (numbers_from 0 n)) (sym least)
      ∙ named_words slot.Uav is_uav (λ j k. refl) [] (λ j. refl) 0 us h in
      λ p. record { constants = c p; reads = r p; writes = u p }

-- ---- what it leaves

-- slots that a dispatch doesn't write
put_others : (past : Past) (words : ℕ → List ℕ) (name : ℕ → SlotName)
    → ((k : ℕ) (r : Range) (mem : Bytes) → put_slot words (name k) r mem ≡ mem)
    → (i : ℕ) (xs : List (Option ResRange)) (rest : List SlotRange) (mem : Bytes)
    → put_slots words (slots_from past name i xs ++ rest) mem ≡ put_slots words rest mem
put_others past words name same i [] rest mem = refl
put_others past words name same i (None ∷ xs) rest mem = put_others past words name same (suc i) xs rest mem
put_others past words name same i (Some r ∷ xs) rest mem =
    ap (λ (b : Bytes). put_slots words (slots_from past name (suc i) xs ++ rest) b) (same i (of_maker past r) mem)
    ∙ put_others past words name same (suc i) xs rest mem

pub put_writes : (past : Past) (words : ℕ → List ℕ) (cs ss us : List (Option ResRange)) (mem : Bytes)
    → put_slots words (slots_from past slot.Constant 0 cs ++
    (slots_from past slot.Srv 0 ss ++ slots_from past slot.Uav 0 us)) mem
    ≡ put_slots words (slots_from past slot.Uav 0 us) mem
put_writes past words cs ss us mem =
    put_others past words slot.Constant (λ k r b. refl) 0 cs
    (slots_from past slot.Srv 0 ss ++ slots_from past slot.Uav 0 us) mem
    ∙ put_others past words slot.Srv (λ k r b. refl) 0 ss (slots_from past slot.Uav 0 us) mem

-- each slot's words are as many as its range holds
abbrev pub WordsFit : List (Option ResRange) → List (List ℕ) → Type 0
WordsFit [] ws = ⊤
WordsFit (s ∷ us) [] = ⊥
WordsFit (None ∷ us) (w ∷ ws) = WordsFit us ws
WordsFit (Some r ∷ us) (w ∷ ws) = (r.from + 4 * length w ≡ r.to) × WordsFit us ws

length-words : (bytes : List ℕ) → length (words_of bytes) ≡ length bytes / 4
unfolding words_of
length-words bytes = length-words_from (length bytes / 4) bytes

pub words_fit : (o : Objects) (m : Memory) → Sized o m → (us : List (Option ResRange)) (ws : List (List ℕ))
    → map length ws ≡ map length (words_shown m us)
    → AllByRecursion (ShownFits o) us → AllByRecursion ShownWhole us → WordsFit us ws
words_fit o m sized [] ws e f g = tt
words_fit o m sized (None ∷ us) [] e f g = absurd cc
words_fit o m sized (Some r ∷ us) [] e f g = absurd cc
words_fit o m sized (None ∷ us) (w ∷ ws) e f g = words_fit o m sized us ws (ap (λ (l : List ℕ). drop 1 l) e) f.1 g.1
words_fit o m sized (Some r ∷ us) (w ∷ ws) e f g =
    let h = held o m sized r.res f.0.shape f.0.lives in
    let are : length (bytes_of m r.res) ≡ f.0.shape.size = ap (λ (l : List ℕ). length l)
    (bytes_are m r.res h.bytes h.found) ∙ h.long in
    let long : length w ≡ length (read m r) / 4 = ap (λ (l : List ℕ). get_or l 0 0) e ∙ length-words (read m r) in
    let part : length (read m r) ≡ r.to - r.from = length-slice (bytes_of m r.res) r.from r.to
    (omega (arith, f.0.has_byte)) (omega (arith, f.0.fits, are)) in
    let whole : r.to ≡ r.from + 4 * g.0.0 = g.0.1 in
    (omega (arith, long, part, whole), words_fit o m sized us ws (ap (λ (l : List ℕ). drop 1 l) e) f.1 g.1)

pub stored_counts : (m : Memory) (us : List (Option ResRange)) (ws : List (List ℕ)) → SameCounts m (stored m us ws)
stored_counts m [] ws = same_counts m
stored_counts m (s ∷ us) [] = same_counts m
stored_counts m (None ∷ us) (w ∷ ws) = stored_counts m us ws
stored_counts m (Some r ∷ us) (w ∷ ws) =
    let m1 : Memory = write m r.res r.from (spelled w) in
    then_counts m m1 (stored m1 us ws) (write_counts m r.res r.from (spelled w)) (stored_counts m1 us ws)

pub stored_shown : (script : Script) (past : Past) (o : Objects) → Settled script past o
    → (words : ℕ → List ℕ) (i : ℕ) (us : List (Option ResRange)) (ws : List (List ℕ)) (m : Memory) (mem : Bytes)
    → Sized o m → AllShown past m.bytes mem → AllByRecursion (ShownFits o) us → WordsFit us ws
    → ((k : ℕ) → words (i + k) ≡ slice_index_or ws k [])
    → AllShown past (stored m us ws).bytes (put_slots words (slots_from past slot.Uav i us) mem)
stored_shown script past o settled words i [] ws m mem sized shown f g at = shown
stored_shown script past o settled words i (s ∷ us) [] m mem sized shown f g at = absurd g
stored_shown script past o settled words i (None ∷ us) (w ∷ ws) m mem sized shown f g at =
    stored_shown script past o settled words (suc i) us ws m mem sized shown f.1 g (λ k. ap words (omega arith)
    ∙ at (suc k))
stored_shown script past o settled words i (Some r ∷ us) (w ∷ ws) m mem sized shown f g at =
    let h = held o m sized r.res f.0.shape f.0.lives in
    let name : ℕ = maker past r.res in
    let first : words i ≡ w = ap words (omega arith) ∙ at 0 in
    let long = length-spelled w in
    let mem' : Bytes = put (of_maker past r) (byte_in_words (words i)) mem in
    let here : Shows mem' name (put_list h.bytes r.from (spelled w)) =
    shows_put mem name r.from r.to (byte_in_words (words i)) h.bytes (spelled w) (shown r.res h.bytes h.found)
    (omega (arith, long, g.0)) (omega (arith, f.0.fits, h.long)) (λ k l.
    ap (λ (x : List ℕ). byte_in (number_at x (k / 4)) (k % 4)) first
    ∙ ap (λ (x : ℕ). byte_in x (k % 4)) (number_is w (k / 4))
    ∙ sym (spelled_at w k (omega (arith, l, long)))) in
    stored_shown script past o settled words (suc i) us ws (write m r.res r.from (spelled w)) mem'
    (λ id. same_write m r.res r.from (spelled w) id ∙ sized id)
    (shown_write script past o m settled sized r.res r.from (spelled w) h.bytes mem mem' h.found here
    (put_elsewhere name r.from r.to (byte_in_words (words i)) mem) shown)
    f.1 g.1 (λ k. ap words (omega arith) ∙ at (suc k))
