-- The bytes that the host writes are those of the items so far, in order.
use Rattle.std.proofs.Common.{◌≡◌, ℕ, zero, suc, false, List, [], ◌∷◌, ◌++◌, refl, sym, ap, ◌∙◌, Some, None}
use Rattle.std.proofs.Common.{append_assoc, append-nil}
use Rattle.dx_types.specs.declared.range.Range.{Range}
use Rattle.vk_types.specs.Effects.{Meaning}
use Rattle.core_model.specs.Script.{Play, Create, Discard, No_overwrite, Stage, Command, Destroy, Create_shader}
use Rattle.core_model.specs.Script.{Mark_query, Set_state, Turn, Refused, Passed, Flushed, Asked, Item, Script}
use Rattle.core_model.specs.Chunking.{is_entry}
use Rattle.core_model.specs.CoreState.{Core}
use Rattle.core_model.specs.Readings.{Reading}
use Rattle.core_model.specs.Adding.{with_turn}
use Rattle.core_model.specs.Playing.{Plays}
use Rattle.core_model.specs.TakingPosts.{TakesPosts, with_post, with_fence}
use Rattle.core_model.specs.CoreStep.{Event, App, Cs, Pipe, Submit, Accept, Run, Complete, Finish, Come_home}
use Rattle.core_model.specs.CoreStep.{is_of_app, Step}
use Rattle.core_model.specs.HostBytes.{play_bytes, turn_bytes, bytes_of}
use Rattle.core_model.proofs.Messages.ItemResults.{written_bytes}
use Rattle.core_model.proofs.Messages.ItemCases.{result_of}
use Rattle.core_model.proofs.Messages.Scenes.{Kinds}

abbrev pub BytesInTurn : Script → Core → Type 0
BytesInTurn script core = core.contents ≡ bytes_of script core.past

bytes_append : (script : Script) (xs ys : List Turn) → bytes_of script (xs ++ ys)
    ≡ bytes_of script xs ++ bytes_of script ys
bytes_append script [] ys = refl
bytes_append script (x ∷ xs) ys = ap (λ l. turn_bytes script x ++ l) (bytes_append script xs ys)
    ∙ sym (append_assoc (turn_bytes script x) (bytes_of script xs) (bytes_of script ys))

bytes_last : (script : Script) (xs : List Turn) (t : Turn) → bytes_of script (xs ++ t ∷ [])
    ≡ bytes_of script xs ++ turn_bytes script t
bytes_last script xs t = bytes_append script xs (t ∷ []) ∙ ap (λ l. bytes_of script xs ++ l)
    (append-nil (turn_bytes script t))

no_bytes : (script : Script) (t : Turn) → is_entry t ≡ false → turn_bytes script t ≡ []
no_bytes script (Refused call) e = refl
no_bytes script (Passed call) e = refl
no_bytes script (Flushed call) e = refl
no_bytes script (Asked call ask used may_pend) e = refl
no_bytes script (Item call item ends play bound) e = absurd (cc e)

item_bytes : (reading : Reading) (script : Script) (call item : ℕ) (play : Play) (bound : List Range)
    (old new : Core) (n : Plays reading script call item play bound old new)
    → (result_of reading script call item play bound old new n).contents ≡ old.contents ++ play_bytes script play
item_bytes reading script call item (Create buffer bytes) bound old new n = written_bytes call _ _ _
item_bytes reading script call item (Discard buffer from bytes) bound old new n = written_bytes call _ _ _
item_bytes reading script call item (No_overwrite buffer from bytes) bound old new n = written_bytes call _ bytes old
item_bytes reading script call item (Stage [] target skip) bound old new n = sym (append-nil old.contents)
item_bytes reading script call item (Stage (b ∷ bs) None skip) bound old new n = refl
item_bytes reading script call item (Stage (b ∷ bs) (Some target) skip) bound old new n = refl
item_bytes reading script call item (Command w skip) bound old new n = sym (append-nil old.contents)
item_bytes reading script call item (Destroy buffer) bound old new n = sym (append-nil old.contents)
item_bytes reading script call item Create_shader bound old new n = sym (append-nil old.contents)
item_bytes reading script call item (Mark_query query begins) bound old new n = sym (append-nil old.contents)
item_bytes reading script call item Set_state bound old new n = sym (append-nil old.contents)

posts_bytes : (script : Script) (n : ℕ) (old mid : Core) → TakesPosts n old mid → BytesInTurn script old
    → BytesInTurn script mid
posts_bytes script zero old mid p h = ap (λ c. c.contents) p ∙ h ∙ ap (λ c. bytes_of script c.past) (sym p)
posts_bytes script (suc n) old mid p h = posts_bytes script n (with_post p.0 p.1 old) mid p.3 h

fence_bytes : (script : Script) (n : ℕ) (core : Core) → BytesInTurn script core → BytesInTurn script (with_fence n core)
fence_bytes script zero core h = h
fence_bytes script (suc n) core h = h

moved : (script : Script) (old new : Core) → new.contents ≡ old.contents → new.past ≡ old.past
    → BytesInTurn script old → BytesInTurn script new
moved script old new c p h = c ∙ h ∙ ap (bytes_of script) (sym p)

other_bytes : (meaning : Meaning) (reading : Reading) (script : Script) (old : Core) (e : Event) (new : Core)
    → is_of_app e ≡ false → Step meaning reading script old e new → BytesInTurn script old → BytesInTurn script new
other_bytes meaning reading script old (App n) new e p h = absurd (cc e)
other_bytes meaning reading script old Cs new e p h = moved script old new (ap (λ c. c.contents) p.4)
    (ap (λ c. c.past) p.4) h
other_bytes meaning reading script old (Pipe j) new e p h = moved script old new (ap (λ c. c.contents) p.2)
    (ap (λ c. c.past) p.2) h
other_bytes meaning reading script old Submit new e p h = moved script old new (ap (λ c. c.contents) p.5)
    (ap (λ c. c.past) p.5) h
other_bytes meaning reading script old Accept new e p h = moved script old new (ap (λ c. c.contents) p.4)
    (ap (λ c. c.past) p.4) h
other_bytes meaning reading script old (Run j) new e p h = moved script old new (ap (λ c. c.contents) p.10)
    (ap (λ c. c.past) p.10) h
other_bytes meaning reading script old Complete new e p h = moved script old new (ap (λ c. c.contents) p.5)
    (ap (λ c. c.past) p.5) h
other_bytes meaning reading script old Finish new e p h = moved script old new (ap (λ c. c.contents) p.4)
    (ap (λ c. c.past) p.4) h
other_bytes meaning reading script old (Come_home block place) new e p h =
    moved script old new (ap (λ c. c.contents) p.6) (ap (λ c. c.past) p.6) h

pub bytes_kinds : (meaning : Meaning) (reading : Reading) (script : Script)
    → Kinds meaning reading script (BytesInTurn script)
bytes_kinds meaning reading script = record {
  started = refl;
  others = λ old e new n p k h. other_bytes meaning reading script old e new n p h;
  posts = λ n old mid p k h. fence_bytes script n mid (posts_bytes script n old mid p h);
  hands = λ old due k h. h;
  turns = λ old t turns n e k h. h ∙ sym (append-nil (bytes_of script old.past))
      ∙ ap (λ l. bytes_of script old.past ++ l) (sym (no_bytes script t n)) ∙ sym (bytes_last script old.past t);
  reads = λ core call r h. h;
  says = λ core said h. h;
  ends = λ core h. h;
  items = λ old call item ends play bound turns new e due n k h.
      let t = Item call item ends play bound in
      item_bytes reading script call item play bound (with_turn t turns old) new n
      ∙ ap (λ l. l ++ play_bytes script play) h ∙ sym (bytes_last script old.past t);
}
