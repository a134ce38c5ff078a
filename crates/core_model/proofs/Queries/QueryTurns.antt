-- What a turn adds to commands and marks of queries, however its item is played.
use Rattle.std.proofs.Common.{ℕ, ◌+◌, Bool, List, [], ◌∷◌}
use Rattle.std.proofs.Common.{length, refl, sym, subst, inl, inr, Option, Some, None, arith, append-nil}
use Rattle.dx_types.specs.declared.range.Range.{Range}
use Rattle.vk_types.specs.declared.command.Work.TheVariants as work
use Rattle.vk_types.specs.Memory.{range}
use Rattle.core_model.specs.Script.{Play, Create, Discard, No_overwrite, Stage, Command, Destroy, Create_shader}
use Rattle.core_model.specs.Script.{Mark_query, Set_state, Ask, Bytes, Count, Constant, Turn, Refused, Passed}
use Rattle.core_model.specs.Script.{Flushed, Asked, Item, Script, padded}
use Rattle.core_model.specs.CoreState.{Core, open_number}
use Rattle.core_model.specs.Readings.{Reading}
use Rattle.core_model.specs.Renaming.{block_of, range_on, work_on, cond_on}
use Rattle.core_model.specs.Adding.{with_turn, fenced, gives_block, new_command}
use Rattle.core_model.specs.Adding.{staged_range, with_page, length_of, retired_by}
use Rattle.core_model.specs.Owners.{retired}
use Rattle.core_model.specs.AppActs.{answer, TakesTurn}
use Rattle.core_model.specs.Queries.{commands_by, turn_marks, command_numbers}
pub use Rattle.core_model.proofs.Queries.QueryParts.{Adds}
use Rattle.core_model.proofs.Queries.QueryParts.{then_same, same_rest, rest_adds, adds_as, turn_adds, same_write}
use Rattle.core_model.proofs.Queries.QueryParts.{same_fenced, same_read, same_block, command_adds}

-- The turns ---------------------------------------------------------------------------------------------------------

asked_adds : (script : Script) (call : ℕ) (ask : Ask) (used : Option ℕ) (old core : Core) (t : Turn)
    → Adds t 0 [] old core → Adds t 0 [] old (answer call ask used core)
asked_adds script call (Bytes source) used old core t a =
    rest_adds (answer call (Bytes source) used core) (then_same a
    (same_read call (range_on core.blocks source) used core))
asked_adds script call (Count query) used old core t a = rest_adds (answer call (Count query) used core) a
asked_adds script call (Constant value) used old core t a = rest_adds (answer call (Constant value) used core) a

plays_adds : (reading : Reading) (script : Script) (call item : ℕ) (ends : Bool) (play : Play) (bound : List Range)
    (turns : List Turn) (old new : Core)
    → TakesTurn reading script (Item call item ends play bound) turns old new
    → Adds (Item call item ends play bound) (commands_by (Item call item ends play bound))
    (turn_marks old.commands (Item call item ends play bound)) old new
plays_adds reading script call item ends (Create buffer bytes) bound turns old new p =
    let t = Item call item ends (Create buffer bytes) bound in
    let a = then_same (turn_adds t turns old) (same_block reading script buffer p.0 (with_turn t turns old) p.1 p.2) in
    let b = then_same a (same_fenced (retired_by (old.owner p.0)) p.1) in
    let g = then_same b (same_rest _ (gives_block buffer p.0 (fenced (retired_by (old.owner p.0)) p.1))) in
    adds_as p.3 (then_same g (same_write call (range p.0 0 (length_of script buffer))
    (padded 0 bytes (length_of script buffer)) _)) refl
plays_adds reading script call item ends (Discard buffer from bytes) bound turns old new p =
    let t = Item call item ends (Discard buffer from bytes) bound in
    let a = then_same (turn_adds t turns old) (same_block reading script buffer p.0 (with_turn t turns old) p.1 p.2) in
    let mid : Core = record p.1 { owner = retired (old.blocks buffer) (open_number old) p.1.owner } in
    let b = then_same (rest_adds mid a) (same_fenced (retired_by (old.owner p.0)) mid) in
    let g = then_same b (same_rest _ (gives_block buffer p.0 (fenced (retired_by (old.owner p.0)) mid))) in
    adds_as p.3 (then_same g (same_write call (range p.0 0 (script.size buffer))
    (padded from bytes (script.size buffer)) _)) refl
plays_adds reading script call item ends (No_overwrite buffer from bytes) bound turns old new p =
    let t = Item call item ends (No_overwrite buffer from bytes) bound in
    adds_as p (then_same (turn_adds t turns old)
    (same_write call (range (block_of old.blocks buffer) from (from + length bytes)) bytes
    (with_turn t turns old))) refl
plays_adds reading script call item ends (Stage [] target skip) bound turns old new p =
    adds_as p (turn_adds _ turns old) refl
plays_adds reading script call item ends (Stage (b ∷ bs) None skip) bound turns old new p =
    let t = Item call item ends (Stage (b ∷ bs) None skip) bound in
    let s = p.0 in
    let paged : Core = with_page s p.1 (with_turn t turns old) in
    adds_as p.3 (then_same (rest_adds paged (turn_adds t turns old))
    (same_write call (staged_range s (length (b ∷ bs))) (b ∷ bs) paged)) refl
plays_adds reading script call item ends (Stage (b ∷ bs) (Some target) skip) bound turns old new p =
    let t = Item call item ends (Stage (b ∷ bs) (Some target) skip) bound in
    let s = p.0 in
    let paged : Core = with_page s p.1 (with_turn t turns old) in
    let written = then_same (rest_adds paged (turn_adds t turns old))
    (same_write call (staged_range s (length (b ∷ bs))) (b ∷ bs) paged) in
    adds_as p.3 (command_adds
    (new_command old call (work.Copy (staged_range s (length (b ∷ bs))) (range_on old.blocks target))
    (cond_on old.blocks skip)) _ refl written) refl
plays_adds reading script call item ends (Command w skip) bound turns old new p =
    let t = Item call item ends (Command w skip) bound in
    adds_as p (command_adds (new_command old call (work_on old.blocks w) (cond_on old.blocks skip)) _ refl
    (turn_adds t turns old)) refl
plays_adds reading script call item ends (Destroy buffer) bound turns old new p =
    adds_as p (turn_adds _ turns old) refl
plays_adds reading script call item ends Create_shader bound turns old new p =
    adds_as p (turn_adds _ turns old) refl
plays_adds reading script call item ends (Mark_query query begins) bound turns old new p =
    let t = Item call item ends (Mark_query query begins) bound in
    subst (Adds t 0 (turn_marks old.commands t) old) (sym p)
    (record {
      past = refl;
      taken = refl;
      later = refl;
      messages = refl;
      values = refl;
      turns = refl;
      queries =
          refl;
      commands = omega arith;
      numbers = sym (append-nil (command_numbers old.open_chunk.commands));
      above =
          λ k l h. h;
    })
plays_adds reading script call item ends Set_state bound turns old new p =
    adds_as p (turn_adds _ turns old) refl

pub takes_adds : (reading : Reading) (script : Script) (t : Turn) (turns : List Turn) (old new : Core)
    → TakesTurn reading script t turns old new → Adds t (commands_by t) (turn_marks old.commands t) old new
takes_adds reading script (Refused call) turns old new p = adds_as p (turn_adds (Refused call) turns old) refl
takes_adds reading script (Passed call) turns old new p = subst (Adds (Passed call) 0 [] old) (sym p)
    (turn_adds (Passed call) turns old)
takes_adds reading script (Flushed call) turns old new p = subst (Adds (Flushed call) 0 [] old) (sym p)
    (turn_adds (Flushed call) turns old)
takes_adds reading script (Asked call ask used may_pend) turns old new (inl h) =
    let t = Asked call ask used may_pend in subst (Adds t 0 [] old) (sym h.1)
    (asked_adds script call ask used old (with_turn t turns old) t (turn_adds t turns old))
takes_adds reading script (Asked call ask used may_pend) turns old new (inr h) =
    let t = Asked call ask used may_pend in adds_as h.2 (turn_adds t turns old) refl
takes_adds reading script (Item call item ends play bound) turns old new p =
    plays_adds reading script call item ends play bound turns old new p
