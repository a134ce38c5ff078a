-- The shaders that a chunk's dispatches run were created by items of that chunk or of chunks before it, so that they
-- are requested once it is a batch.
use Rattle.std.proofs.Common.{◌≡◌, ℕ, Bool, true, false, cond, ◌==◌, List, [], ◌∷◌, ◌++◌, refl, sym, ap, ◌∙◌, subst}
use Rattle.std.proofs.Common.{inl, inr, Some, None, append_assoc, append-nil}
use Rattle.std.specs.List.{AllByRecursion}
use Rattle.std.proofs.lemmas.Bool.{or_cases, eqb-true}
use Rattle.std.proofs.lemmas.List.Folds.{list_any-append}
use Rattle.dx_types.specs.declared.range.Range.{Range}
use Rattle.vk_types.specs.declared.command.Command as c
use Rattle.vk_types.specs.declared.command.Work.{Work}
use Rattle.vk_types.specs.declared.command.Work.TheVariants as work
use Rattle.vk_types.specs.Effects.{Meaning}
use Rattle.vk_types.specs.Entries.{Entry}
use Rattle.base_lemmas.proofs.Lists.{all_append, all_map}
use Rattle.core_model.specs.Script.{Play, Create, Discard, No_overwrite, Stage, Command, Destroy, Create_shader}
use Rattle.core_model.specs.Script.{Mark_query, Set_state, Turn, Item, Script}
use Rattle.core_model.specs.Chunking.{joined}
use Rattle.core_model.specs.CoreState.{Segment, Core}
use Rattle.core_model.specs.Readings.{Reading}
use Rattle.core_model.specs.Renaming.{BlockMap, work_on}
use Rattle.core_model.specs.Adding.{with_turn}
use Rattle.core_model.specs.AppActs.{device_commands}
use Rattle.core_model.specs.OtherParts.{created_by, created, shaders_of_work, needed, is_among, unmade}
use Rattle.core_model.specs.Playing.{Plays}
use Rattle.core_model.specs.Lawful.{play_shaders, IsLawful}
use Rattle.core_model.specs.Invariant.{turns_of, handed}
use Rattle.core_model.proofs.Steps.Binding.{or_left}
use Rattle.core_model.proofs.Listing.MoreListed.{commands_last}
use Rattle.core_model.proofs.Messages.ItemCases.{result_of}
use Rattle.core_model.proofs.Messages.Scenes.{Scene, SceneKinds}
use Rattle.core_model.proofs.Ends.Progress.{HasHead, shaders_of, shaders_append}

-- Lists of shaders --------------------------------------------------------------------------------------------------

pub created_append : (xs ys : List Turn) → created (xs ++ ys) ≡ created xs ++ created ys
created_append [] ys = refl
created_append (x ∷ xs) ys = ap (λ l. created_by x ++ l) (created_append xs ys)
    ∙ sym (append_assoc (created_by x) (created xs) (created ys))

pub among_front : (n : ℕ) (xs ys : List ℕ) → is_among n xs ≡ true → is_among n (xs ++ ys) ≡ true
among_front n xs ys h = list_any-append (λ m. m == n) xs ys ∙ or_left (is_among n xs) (is_among n ys) h

pub needed_append : (xs ys : List c.Command) → needed (xs ++ ys) ≡ needed xs ++ needed ys
needed_append [] ys = refl
needed_append (x ∷ xs) ys = ap (λ l. shaders_of_work x.work ++ l) (needed_append xs ys)
    ∙ sym (append_assoc (shaders_of_work x.work) (needed xs) (needed ys))

pub created_joined : (ss : List Segment) → created (joined (turns_of ss)) ≡ shaders_of ss
created_joined [] = refl
created_joined (s ∷ ss) = created_append s.turns (joined (turns_of ss))
    ∙ ap (λ l. created s.turns ++ l) (created_joined ss)

-- the turns of these chunks and of one behind them
abbrev pub joined_turns : List Segment → Segment → List Turn
joined_turns ss s = joined (turns_of ss) ++ s.turns

pub shaders_joined : (ss : List Segment) (s : Segment) (ts : List Segment)
    → shaders_of (ss ++ s ∷ ts) ≡ created (joined_turns ss s) ++ shaders_of ts
shaders_joined ss s ts =
    shaders_append ss (s ∷ ts) ∙ ap (λ l. l ++ (created s.turns ++ shaders_of ts)) (sym (created_joined ss))
    ∙ sym (append_assoc (created (joined (turns_of ss))) (created s.turns) (shaders_of ts))
    ∙ ap (λ l. l ++ shaders_of ts) (sym (created_append (joined (turns_of ss)) s.turns))

-- a shader that is requested and has no module
pub some_unmade : (n : ℕ) (modules xs : List ℕ) → is_among n xs ≡ true → is_among n modules ≡ false
    → HasHead (unmade modules xs)
some_unmade n modules [] h f = absurd (cc h)
some_unmade n modules (x ∷ xs) h f = by (is_among x modules) refl (λ k. some_unmade n modules xs k f)
  where
    by : (c : Bool) → is_among x modules ≡ c → (is_among n xs ≡ true → HasHead (unmade modules xs))
        → HasHead (cond c (unmade modules xs) (x ∷ unmade modules xs))
    by false e rec = (x, unmade modules xs, refl)
    by true e rec = elim (or_cases (x == n) (is_among n xs) h) [
      | inl t ↦ absurd (let z : true ≡ false = sym (ap (λ m. is_among m modules) (sym (eqb-true x n t)) ∙ e)
          ∙ f in cc z)
      | inr t ↦ rec t
    ]

-- Chunks ------------------------------------------------------------------------------------------------------------

abbrev pub Needs : List Turn → Segment → Type 0
Needs front s = AllByRecursion (λ n. is_among n (created (front ++ s.turns)) ≡ true)
    (needed (device_commands s.commands))

abbrev pub LineNeeds : List Turn → List Segment → Type 0
LineNeeds front [] = Unit {0}
LineNeeds front (s ∷ ss) = Needs front s × LineNeeds (front ++ s.turns) ss

line_last : (ss : List Segment) (s : Segment) (front : List Turn) → LineNeeds front ss
    → Needs (front ++ joined (turns_of ss)) s → LineNeeds front (ss ++ s ∷ [])
line_last [] s front h k = (subst (λ l. Needs l s) (append-nil front) k, tt)
line_last (u ∷ ss) s front h k = (
  h.0,
  line_last ss s (front ++ u.turns) h.1 (subst (λ l. Needs l s)
      (sym (append_assoc front u.turns (joined (turns_of ss)))) k),
)

pub line_at : (f : List Segment) (s : Segment) (b : List Segment) (front : List Turn) → LineNeeds front (f ++ s ∷ b)
    → Needs (front ++ joined (turns_of f)) s
line_at [] s b front h = subst (λ l. Needs l s) (sym (append-nil front)) h.0
line_at (u ∷ f) s b front h = subst (λ l. Needs l s) (append_assoc front u.turns (joined (turns_of f)))
    (line_at f s b (front ++ u.turns) h.1)

pub record AreNeeded (v : Scene) : Type 0 where
  pub handed : LineNeeds [] v.handed
  pub opened : Needs (joined (turns_of v.handed)) v.open_chunk

-- with a turn more what was created still was
one_more : (front ts : List Turn) (t : Turn) (ns : List ℕ) → AllByRecursion
    (λ n. is_among n (created (front ++ ts)) ≡ true) ns → AllByRecursion
    (λ n. is_among n (created (front ++ (ts ++ t ∷ []))) ≡ true) ns
one_more front ts t ns h =
    all_map (λ n. is_among n (created (front ++ ts)) ≡ true)
    (λ n. is_among n (created (front ++ (ts ++ t ∷ []))) ≡ true)
    (λ n k. subst (λ l. is_among n (created l) ≡ true) (append_assoc front ts (t ∷ []))
    (subst (λ l. is_among n l ≡ true) (sym (created_append (front ++ ts) (t ∷ [])))
    (among_front n (created (front ++ ts)) (created (t ∷ [])) k))) ns h

pub same_shaders : (blocks : BlockMap) (w : Work) → shaders_of_work (work_on blocks w) ≡ shaders_of_work w
same_shaders blocks (work.Copy source target) = refl
same_shaders blocks (work.Fill target word) = refl
same_shaders blocks (work.Clear target words unit) = refl
same_shaders blocks (work.Dispatch shader counts slots) = refl

module _ (meaning : Meaning) (reading : Reading) (script : Script) (old : Core) (t : Turn) (turns : List Turn)
    (front : List Turn) where
  abbrev taken : Core
  taken = with_turn t turns old

  abbrev All : List Entry → Type 0
  All xs = AllByRecursion (λ n. is_among n (created (front ++ (old.open_chunk.turns ++ t ∷ []))) ≡ true)
      (needed (device_commands xs))

  -- a command more
  more : (y : Entry) → All old.open_chunk.commands → All (y ∷ []) → All (old.open_chunk.commands ++ y ∷ [])
  more y h k =
      subst (AllByRecursion (λ n. is_among n (created (front ++ (old.open_chunk.turns ++ t ∷ []))) ≡ true))
      (sym (ap needed (commands_last old.open_chunk.commands y)
      ∙ needed_append (device_commands old.open_chunk.commands) (device_commands (y ∷ []))))
      (all_append (λ n. is_among n (created (front ++ (old.open_chunk.turns ++ t ∷ []))) ≡ true)
      (needed (device_commands old.open_chunk.commands)) (needed (device_commands (y ∷ []))) h k)

  item_needs : (call item : ℕ) (play : Play) (bound : List Range) (new : Core)
      (n : Plays reading script call item play bound taken new) → All old.open_chunk.commands
      → AllByRecursion (λ n. is_among n (created (front ++ (old.open_chunk.turns ++ t ∷ []))) ≡ true)
      (play_shaders play) → All (result_of reading script call item play bound taken new n).commands
  item_needs call item (Create buffer bytes) bound new n h k = h
  item_needs call item (Discard buffer from bytes) bound new n h k = h
  item_needs call item (No_overwrite buffer from bytes) bound new n h k = h
  item_needs call item (Stage [] target skip) bound new n h k = h
  item_needs call item (Stage (b ∷ bs) None skip) bound new n h k = h
  item_needs call item (Stage (b ∷ bs) (Some target) skip) bound new n h k = more _ h tt
  item_needs call item (Command w skip) bound new n h k =
      more _ h (subst (AllByRecursion (λ n. is_among n (created (front ++ (old.open_chunk.turns ++ t ∷ [])))
      ≡ true)) (sym (ap (λ l. l ++ []) (same_shaders old.blocks w) ∙ append-nil (shaders_of_work w))) k)
  item_needs call item (Destroy buffer) bound new n h k = h
  item_needs call item Create_shader bound new n h k = h
  item_needs call item (Mark_query query begins) bound new n h k = h
  item_needs call item Set_state bound new n h k = h

pub needed_kinds : (meaning : Meaning) (reading : Reading) (script : Script) → IsLawful meaning script
    → SceneKinds meaning reading script AreNeeded
needed_kinds meaning reading script lawful = record {
  started = record { handed = tt; opened = tt };
  hands = λ old due k h. record { handed = line_last (handed old) old.open_chunk [] h.handed h.opened; opened = tt };
  turns = λ v t plain h. record {
    handed = h.handed;
    opened =
        one_more (joined (turns_of v.handed)) v.open_chunk.turns t (needed (device_commands v.open_chunk.commands))
        h.opened;
  };
  reads = λ core call r h. record { handed = h.handed; opened = h.opened };
  items = λ old call item ends play bound turns new e due n k h.
      let t = Item call item ends play bound in
      let jt = joined (turns_of (handed old)) in
      let here : script.turns ≡ old.past ++ t ∷ turns = sym (ap (λ l. old.past ++ l) (sym e) ∙ k.good.sound.position) in
      let own = subst (λ l. AllByRecursion (λ n. is_among n (created l) ≡ true) (play_shaders play)) k.traced.past
      (lawful.shaders old.past call item ends play bound turns here) in
      record {
        handed = h.handed;
        opened = item_needs meaning reading script old t turns jt call item play bound new n
            (one_more jt old.open_chunk.turns t (needed (device_commands old.open_chunk.commands)) h.opened)
            (one_more jt old.open_chunk.turns t (play_shaders play) own);
      };
}
