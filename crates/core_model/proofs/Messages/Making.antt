-- What is made of the items' places is what the chunks have: their operations, host writes, staging ranges and query
-- marks.
use Rattle.std.proofs.Common.{◌≡◌, ℕ, zero, suc, ◌+◌, ◌-◌, ◌<◌, ◌≤◌, Bool, false, cond, ◌==◌, List, [], ◌∷◌, ◌++◌}
use Rattle.std.proofs.Common.{length, replicate, refl, sym, ap, ◌∙◌, subst, inl, inr, Some, None, arith, append_assoc}
use Rattle.std.proofs.Common.{append-nil}
use mathlib.Core.Path.{fun_ext}
use Rattle.std.specs.List.{AllByRecursion}
use Rattle.std.proofs.lemmas.Bool.{cases_Bool, eqb-true}
use Rattle.dx_types.specs.declared.range.Range.{Range}
use Rattle.vk_types.specs.declared.command.Command as c
use Rattle.vk_types.specs.Memory.{range}
use Rattle.vk_types.specs.Effects.{Meaning, Act, Host_write, Device}
use Rattle.vk_types.specs.Entries.{Entry}
use Rattle.base_lemmas.proofs.Lists.{all_append}
use Rattle.core_model.specs.Script.{Play, Create, Discard, No_overwrite, Stage, Command, Destroy, Create_shader}
use Rattle.core_model.specs.Script.{Mark_query, Set_state, Turn, Script, updated, padded}
use Rattle.core_model.specs.Renaming.{block_of}
use Rattle.core_model.specs.CoreState.{Core}
use Rattle.core_model.specs.Readings.{Reading}
use Rattle.core_model.specs.Adding.{new_entry, length_of, with_page, staged_range}
use Rattle.core_model.specs.AppActs.{act_commands, device_commands}
use Rattle.core_model.specs.Playing.{HasBlock, Plays}
use Rattle.core_model.specs.Batching.{Written, Made, make_play}
use Rattle.core_model.specs.Filling.{WritesZeros, Fills, AreFilled}
use Rattle.core_model.specs.Lawful.{PlaysRightly, IsLawful}
use Rattle.core_model.proofs.Steps.Padding.{padded_long}
use Rattle.core_model.proofs.Steps.Creating.{size_fits}
use Rattle.core_model.proofs.Messages.ItemResults.{Result, applied, more_writes}
use Rattle.core_model.proofs.Messages.ItemCases.{given_c, given_d, result_of}
use Rattle.core_model.proofs.Messages.Scenes.{Scene, scene}

-- Host writes and what fills them -----------------------------------------------------------------------------------

filled_zeros : (ws : List Written) (xs : List Entry) (x : Entry) → WritesZeros x.act → AreFilled ws xs
    → AreFilled ws (xs ++ x ∷ [])
filled_zeros ws [] x z h = inl (z, h)
filled_zeros ws (y ∷ xs) x z (inl h) = inl (h.0, filled_zeros ws xs x z h.1)
filled_zeros ws (y ∷ xs) x z (inr h) = inr (h.0, h.1, h.2, h.3, filled_zeros h.1 xs x z h.4)

filled_part : (ws : List Written) (w : Written) (xs : List Entry) (x : Entry) → Fills w x.act → AreFilled ws xs
    → AreFilled (ws ++ w ∷ []) (xs ++ x ∷ [])
filled_part ws w [] x f h = inr (w, [], ap (λ l. l ++ w ∷ []) h, f, refl)
filled_part ws w (y ∷ xs) x f (inl h) = inl (h.0, filled_part ws w xs x f h.1)
filled_part ws w (y ∷ xs) x f (inr h) = inr (
  h.0,
  h.1 ++ w ∷ [],
  ap (λ l. l ++ w ∷ []) h.2,
  h.3,
  filled_part h.1 w xs x f h.4,
)

more_zeros : (ws : List Written) (r : Range) (l : List ℕ) (core : Core) (xs : List Entry)
    → AllByRecursion (λ b. b ≡ 0) l → AreFilled ws xs → AreFilled ws (more_writes r l core xs)
more_zeros ws r [] core xs z h = h
more_zeros ws r (b ∷ bs) core xs z h = filled_zeros ws xs (new_entry core (Host_write r (b ∷ bs))) z h

more_filled : (ws : List Written) (w : Written) (r : Range) (l : List ℕ) (core : Core) (xs : List Entry)
    → 0 < length l → Fills w (Host_write r l) → AreFilled ws xs → AreFilled (ws ++ w ∷ []) (more_writes r l core xs)
more_filled ws w r [] core xs some f h = absurd (let z : ⊥ = omega (arith, some) in z)
more_filled ws w r (b ∷ bs) core xs some f h = filled_part ws w xs (new_entry core (Host_write r (b ∷ bs))) f h

zeros_alone : (n : ℕ) → AllByRecursion {X = ℕ} (λ b. b ≡ 0) (replicate n 0)
zeros_alone zero = tt
zeros_alone (suc n) = (refl, zeros_alone n)

nothing_padded : (from total : ℕ) → AllByRecursion {X = ℕ} (λ b. b ≡ 0) (padded from [] total)
nothing_padded from total = all_append {A = ℕ} (λ b. b ≡ 0) (replicate from 0) (replicate (total - (from + 0)) 0)
    (zeros_alone from) (zeros_alone (total - (from + 0)))

-- bytes as long as their range stand alone
no_padding : (bytes : List ℕ) (m n : ℕ) → m ≡ 0 → n ≡ length bytes → bytes ≡ padded m bytes n
no_padding bytes m n e f =
    let none : n - (0 + length bytes) ≡ 0 = omega (arith, f) in
    sym (ap (λ m. padded m bytes n) e ∙ ap (λ k. bytes ++ replicate k 0) none ∙ append-nil bytes)

-- What is made, and the scene ---------------------------------------------------------------------------------------

abbrev pub made_of : List Written → Scene → Made
made_of ws v = record {
  blocks = v.blocks;
  is_staging = v.is_staging;
  commands = v.commands;
  recent = v.recent;
  writes = ws;
  ops = v.open_chunk.ops;
  listed = device_commands v.open_chunk.commands;
  staging = v.open_chunk.staging;
  queries = v.open_chunk.queries;
}

-- the play makes what the item leaves
abbrev pub MakesPlay : Script → ℕ → Play → List Range → Core → Result → List Written → Type 0
MakesPlay script call play bound old x ws =
    (more : List Written)
    × (make_play script call play bound x.placed (made_of ws (scene old))
    ≡ made_of more (scene (applied x old))) × AreFilled more x.writes

commands_last : (xs : List Entry) (x : Entry) (d : c.Command) → x.act ≡ Device d
    → device_commands (xs ++ x ∷ []) ≡ device_commands xs ++ d ∷ []
commands_last [] x d e = last x.act e
  where
    last : (a : Act) → a ≡ Device d → device_commands (record x { act = a } ∷ []) ≡ d ∷ []
    last a e = subst (λ a. device_commands (record x { act = a } ∷ []) ≡ d ∷ []) (sym e) refl
commands_last (y ∷ xs) x d e = ap (λ l. act_commands y.act ++ l) (commands_last xs x d e)
    ∙ sym (append_assoc (act_commands y.act) (device_commands xs) (d ∷ []))

relisted : (m : Made) (listed : List c.Command) → listed ≡ m.listed → m ≡ record m { listed = listed }
relisted m listed e = λ i. record m { listed = sym e i }

restaged : (m : Made) (st : ℕ → Bool) → st ≡ m.is_staging → record m { is_staging = st } ≡ m
restaged m st e = λ i. record m { is_staging = e i }

unchanged : (st : ℕ → Bool) (block : ℕ) (b : Bool) → st block ≡ b → updated block b st ≡ st
unchanged st block b e = fun_ext (λ n. elim (cases_Bool (n == block)) [
  | inl t ↦ ap (λ c. cond c b (st n)) t ∙ sym e ∙ ap st (sym (eqb-true n block t))
  | inr f ↦ ap (λ c. cond c b (st n)) f
])

-- a dynamic buffer is no staging buffer
pub not_staging : (meaning : Meaning) (script : Script) → IsLawful meaning script → (buffer class : ℕ)
    → script.class buffer ≡ Some class → script.is_staging buffer ≡ false
not_staging meaning script lawful buffer class e =
    elim (cases_Bool (script.is_staging buffer)) [
      | inl t ↦ absurd (let z : Some class ≡ None = sym e
          ∙ lawful.staging buffer t in cc z)
      | inr f ↦ f
    ]

module _ (meaning : Meaning) (reading : Reading) (script : Script) (lawful : IsLawful meaning script)
    (front : List Turn) (call item : ℕ) where
  pub play_made : (play : Play) (bound : List Range) (old new : Core)
      (n : Plays reading script call item play bound old new) → PlaysRightly meaning script front call play
      → ((block buffer : ℕ) (mid : Core) → HasBlock reading script buffer block old mid → old.is_staging block ≡ false)
      → (ws : List Written) → AreFilled ws old.open_chunk.writes
      → MakesPlay script call play bound old (result_of reading script call item play bound old new n) ws
  play_made (Create buffer []) bound old new n right st ws h = (
    ws,
    refl,
    more_zeros ws (range n.0 0 (length_of script buffer)) (padded 0 [] (length_of script buffer))
        (given_c reading script call item buffer n.0 old n.1 n.2 []) old.open_chunk.writes
        (nothing_padded 0 (length_of script buffer)) h,
  )
  play_made (Create buffer (b ∷ bs)) bound old new n right st ws h =
      let L = length_of script buffer in
      let long : length (b ∷ bs) ≤ L = let x = right.1 in let y = size_fits script buffer (lawful.classes buffer) in
      omega (arith, x, y) in
      let w : Written = record { range = range n.0 0 (length (b ∷ bs)); bytes = b ∷ bs } in
      let is_long : length (padded 0 (b ∷ bs) L) ≡ L = padded_long 0 (b ∷ bs) L (omega (arith, long)) in
      let same : L ≡ L - 0 = omega arith in (
        ws ++ w ∷ [],
        refl,
        more_filled ws w (range n.0 0 L) (padded 0 (b ∷ bs) L)
            (given_c reading script call item buffer n.0 old n.1 n.2 (b ∷ bs)) old.open_chunk.writes
            (omega (arith, is_long, long)) (refl, (omega arith), long, ap (padded 0 (b ∷ bs)) same) h,
      )
  play_made (Discard buffer from []) bound old new n right st ws h = (
    ws,
    restaged (made_of ws
        (scene (applied (result_of reading script call item (Discard buffer from []) bound old new n) old)))
        (updated n.0 (script.is_staging buffer) old.is_staging)
        (unchanged old.is_staging n.0 (script.is_staging buffer) (st n.0 buffer n.1 n.2
        ∙ sym (not_staging meaning script lawful buffer right.1.0 right.1.1))),
    more_zeros ws (range n.0 0 (script.size buffer)) (padded from [] (script.size buffer))
        (given_d reading script call item buffer n.0 old n.1 n.2 from []) old.open_chunk.writes
        (nothing_padded from (script.size buffer)) h,
  )
  play_made (Discard buffer from (b ∷ bs)) bound old new n right st ws h =
      let L = script.size buffer in
      let long : from + length (b ∷ bs) ≤ L = right.0.1 in
      let w : Written = record { range = range n.0 from (from + length (b ∷ bs)); bytes = b ∷ bs } in
      let is_long : length (padded from (b ∷ bs) L) ≡ L = padded_long from (b ∷ bs) L long in
      let same : L ≡ L - 0 = omega arith in
      let start : from ≡ from - 0 = omega arith in (
        ws ++ w ∷ [],
        restaged (made_of (ws ++ w ∷ [])
            (scene (applied (result_of reading script call item (Discard buffer from (b ∷ bs)) bound old new n)
            old))) (updated n.0 (script.is_staging buffer) old.is_staging)
            (unchanged old.is_staging n.0 (script.is_staging buffer) (st n.0 buffer n.1 n.2
            ∙ sym (not_staging meaning script lawful buffer right.1.0 right.1.1))),
        more_filled ws w (range n.0 0 L) (padded from (b ∷ bs) L)
            (given_d reading script call item buffer n.0 old n.1 n.2 from (b ∷ bs)) old.open_chunk.writes
            (omega (arith, is_long, long))
            (refl, (omega arith), long, ap (λ n. padded n (b ∷ bs) L) start ∙ ap (padded (from - 0) (b ∷ bs)) same) h,
      )
  play_made (No_overwrite buffer from []) bound old new n right st ws h = (ws, refl, h)
  play_made (No_overwrite buffer from (b ∷ bs)) bound old new n right st ws h =
      let r = range (block_of old.blocks buffer) from (from + length (b ∷ bs)) in
      let w : Written = record { range = r; bytes = b ∷ bs } in (
        ws ++ w ∷ [],
        refl,
        more_filled ws w r (b ∷ bs) old old.open_chunk.writes (omega arith) (
          refl,
          (omega arith),
          (omega arith),
          no_padding (b ∷ bs) (from - from) (r.to - r.from) (omega arith)
              (omega arith),
        ) h,
      )
  play_made (Stage [] target skip) bound old new n right st ws h = (ws, refl, h)
  play_made (Stage (b ∷ bs) None skip) bound old new n right st ws h =
      let r = staged_range n.0 (length (b ∷ bs)) in
      let w : Written = record { range = r; bytes = b ∷ bs } in (
        ws ++ w ∷ [],
        refl,
        more_filled ws w r (b ∷ bs) (with_page n.0 n.1 old) old.open_chunk.writes (omega arith) (
          refl,
          (omega arith),
          (omega arith),
          no_padding (b ∷ bs) (r.from - r.from) (r.to - r.from) (omega arith)
              (omega arith),
        ) h,
      )
  play_made (Stage (b ∷ bs) (Some target) skip) bound old new n right st ws h =
      let r = staged_range n.0 (length (b ∷ bs)) in
      let w : Written = record { range = r; bytes = b ∷ bs } in
      let x = result_of reading script call item (Stage (b ∷ bs) (Some target) skip) bound old new n in (
        ws ++ w ∷ [],
        sym (relisted (made_of (ws ++ w ∷ []) (scene (applied x old))) _
            (sym (commands_last old.open_chunk.commands _ _ refl))),
        more_filled ws w r (b ∷ bs) (with_page n.0 n.1 old) old.open_chunk.writes (omega arith) (
          refl,
          (omega arith),
          (omega arith),
          no_padding (b ∷ bs) (r.from - r.from) (r.to - r.from) (omega arith)
              (omega arith),
        ) h,
      )
  play_made (Command w skip) bound old new n right st ws h =
      let x = result_of reading script call item (Command w skip) bound old new n in (
        ws,
        sym (relisted (made_of ws (scene (applied x old))) _
            (sym (commands_last old.open_chunk.commands _ _ refl))),
        h,
      )
  play_made (Destroy buffer) bound old new n right st ws h = (ws, refl, h)
  play_made Create_shader bound old new n right st ws h = (ws, refl, h)
  play_made (Mark_query query begins) bound old new n right st ws h = (ws, refl, h)
  play_made Set_state bound old new n right st ws h = (ws, refl, h)
