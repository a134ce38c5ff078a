-- How many commands the items of messages make, with which numbers and shaders, and which marks of queries.
use Rattle.std.proofs.Common.{◌≡◌, ℕ, suc, ◌+◌, List, [], ◌∷◌, ◌++◌, map, refl, sym, ap, ◌∙◌, subst, Option, Some, None}
use Rattle.std.proofs.Common.{arith, append_assoc, append-nil}
use Rattle.dx_types.specs.declared.range.Range.{Range}
use Rattle.vk_types.specs.declared.command.Command as c
use Rattle.vk_types.specs.declared.command.Cond.{Cond}
use Rattle.vk_types.specs.declared.command.Work.{Work}
use Rattle.vk_types.specs.declared.command.Work.TheVariants as work
use Rattle.vk_types.specs.declared.message.Placed.{Placed}
use Rattle.vk_types.specs.declared.message.QueryMark.{QueryMark}
use Rattle.base_lemmas.specs.Lists.{numbers_from}
use Rattle.core_model.specs.Script.{Play, Create, Discard, No_overwrite, Stage, Command, Destroy, Create_shader}
use Rattle.core_model.specs.Script.{Mark_query, Set_state, Turn, Refused, Passed, Flushed, Asked, Item, Script}
use Rattle.core_model.specs.Renaming.{BlockMap, range_on, work_on, cond_on}
use Rattle.core_model.specs.OtherParts.{shaders_of_work, needed}
use Rattle.core_model.specs.Batching.{Made, make_command, give_block, make_write, make_staged, make_play, make_turns}
use Rattle.core_model.specs.Lawful.{play_shaders}
use Rattle.core_model.specs.Queries.{commands_by_play, commands_in, play_marks, marks_from}
use Rattle.core_model.specs.Succession.{PlacesPlay}
use Rattle.core_model.proofs.Steps.Uses.{map_append}
use Rattle.core_model.proofs.Ends.NeededShaders.{needed_append, same_shaders}
use Rattle.core_model.proofs.Messages.Placements.{GivesTo}
use Rattle.core_model.proofs.Queries.InOrderCounts.{numbers_more}

abbrev pub numbers : List c.Command → List ℕ
numbers ds = map (λ d. d.number) ds

-- the shaders that the commands of turns run
abbrev pub turn_shaders : Turn → List ℕ
turn_shaders (Refused call) = []
turn_shaders (Passed call) = []
turn_shaders (Flushed call) = []
turn_shaders (Asked call ask used may_pend) = []
turn_shaders (Item call item ends play bound) = play_shaders play

abbrev pub shaders_in : List Turn → List ℕ
shaders_in [] = []
shaders_in (t ∷ ts) = turn_shaders t ++ shaders_in ts

-- so many commands were made, these marks, and commands that run these shaders
pub record Adds (m n : Made) (count : ℕ) (marks : List QueryMark) (runs : List ℕ) : Type 0 where
  pub commands : n.commands ≡ m.commands + count
  pub queries : n.queries ≡ m.queries ++ marks
  pub numbered : numbers n.listed ≡ numbers m.listed ++ numbers_from (suc m.commands) count
  pub shaders : needed n.listed ≡ needed m.listed ++ runs

nothing_added : (m n : Made) → n.commands ≡ m.commands → n.queries ≡ m.queries → n.listed ≡ m.listed → Adds m n 0 [] []
nothing_added m n c q l = record {
  commands = omega (arith, c);
  queries = q ∙ sym (append-nil m.queries);
  numbered = ap numbers l ∙ sym (append-nil (numbers m.listed));
  shaders = ap needed l ∙ sym (append-nil (needed m.listed));
}

command_added : (call : ℕ) (w : Work) (skip : Option Cond) (m : Made)
    → Adds m (make_command call w skip m) 1 [] (shaders_of_work w)
command_added call w skip m =
    let d : c.Command = record { number = suc m.commands; call = call; work = w; cond = skip } in
    record {
      commands = omega arith;
      queries = sym (append-nil m.queries);
      numbered = map_append (λ d. d.number) m.listed (d ∷ []);
      shaders = needed_append m.listed (d ∷ []) ∙ ap (λ l. needed m.listed ++ l) (append-nil (shaders_of_work w));
    }

both : (m n o : Made) (j k : ℕ) (xs ys : List QueryMark) (ss ts : List ℕ) → Adds m n j xs ss → Adds n o k ys ts
    → Adds m o (j + k) (xs ++ ys) (ss ++ ts)
both m n o j k xs ys ss ts h g = record {
  commands = let a = h.commands in let b = g.commands in omega (arith, a, b);
  queries = g.queries ∙ ap (λ l. l ++ ys) h.queries ∙ append_assoc m.queries xs ys;
  numbered =
      g.numbered ∙ ap (λ l. l ++ numbers_from (suc n.commands) k) h.numbered
      ∙ append_assoc (numbers m.listed) (numbers_from (suc m.commands) j) (numbers_from (suc n.commands) k)
      ∙ ap (λ i. numbers m.listed ++ (numbers_from (suc m.commands) j ++ numbers_from i k))
      (let a = h.commands in let z : suc n.commands ≡ suc m.commands + j = omega (arith, a) in z)
      ∙ ap (λ l. numbers m.listed ++ l) (sym (numbers_more j (suc m.commands) k));
  shaders = g.shaders ∙ ap (λ l. l ++ ts) h.shaders ∙ append_assoc (needed m.listed) ss ts;
}

written : (r : Range) (bytes : List ℕ) (m n : Made) → Adds m n 0 [] [] → Adds m (make_write r bytes n) 0 [] []
written r [] m n h = h
written r (b ∷ bs) m n h = record {
  commands = h.commands;
  queries = h.queries;
  numbered = h.numbered;
  shaders = h.shaders;
}

given : (script : Script) (buffer : ℕ) (o : Option ℕ) (m : Made) → Adds m (give_block script buffer o m) 0 [] []
given script buffer None m = nothing_added m m refl refl refl
given script buffer (Some b) m = nothing_added m (give_block script buffer (Some b) m) refl refl refl

play_adds : (script : Script) (call : ℕ) (play : Play) (bound : List Range) (p : Placed) (m : Made)
    (old new : BlockMap) → PlacesPlay script play p old new
    → Adds m (make_play script call play bound p m) (commands_by_play play) (play_marks call m.commands play)
    (play_shaders play)
play_adds script call (Create buffer bytes) bound p m old new k =
    written _ bytes m (give_block script buffer p.block m) (given script buffer p.block m)
play_adds script call (Discard buffer from bytes) bound p m old new k =
    written _ bytes m (give_block script buffer p.block m) (given script buffer p.block m)
play_adds script call (No_overwrite buffer from bytes) bound p m old new k =
    written _ bytes m m (nothing_added m m refl refl refl)
play_adds script call (Stage [] target skip) bound p m old new k =
    subst (λ s. Adds m (make_staged script call [] target skip bound s m) 0 [] []) (sym k.2)
    (nothing_added m m refl refl refl)
play_adds script call (Stage (b ∷ bs) None skip) bound p m old new k =
    let s = k.2 in
    subst (λ o. Adds m (make_staged script call (b ∷ bs) None skip bound o m) 0 [] []) (sym s.1)
    (nothing_added m (make_staged script call (b ∷ bs) None skip bound (Some s.0) m) refl refl refl)
play_adds script call (Stage (b ∷ bs) (Some target) skip) bound p m old new k =
    let s = k.2 in
    let a = command_added call (work.Copy s.0 (range_on m.blocks target)) (cond_on m.blocks skip)
    (make_write s.0 (b ∷ bs) m) in
    subst (λ o. Adds m (make_staged script call (b ∷ bs) (Some target) skip bound o m) 1 [] []) (sym s.1) (record {
      commands = a.commands;
      queries = a.queries;
      numbered = a.numbered;
      shaders = a.shaders;
    })
play_adds script call (Command w skip) bound p m old new k =
    let a = command_added call (work_on m.blocks w) (cond_on m.blocks skip) m in
    record {
      commands = a.commands;
      queries = a.queries;
      numbered = a.numbered;
      shaders = a.shaders ∙ ap (λ l. needed m.listed ++ l) (same_shaders m.blocks w);
    }
play_adds script call (Destroy buffer) bound p m old new k =
    nothing_added m (make_play script call (Destroy buffer) bound p m) refl refl refl
play_adds script call Create_shader bound p m old new k = nothing_added m m refl refl refl
play_adds script call (Mark_query query begins) bound p m old new k =
    let a = nothing_added m m refl refl refl in
    record { commands = a.commands; queries = refl; numbered = a.numbered; shaders = a.shaders }
play_adds script call Set_state bound p m old new k =
    nothing_added m (make_play script call Set_state bound p m) refl refl refl

-- what turns add is the same behind a turn that makes nothing
behind : (m n : Made) (ts : List Turn) → Adds m n (commands_in ts) (marks_from m.commands ts) (shaders_in ts)
    → Adds m n (0 + commands_in ts) (marks_from (m.commands + 0) ts) (shaders_in ts)
behind m n ts h =
    let c : commands_in ts ≡ 0 + commands_in ts = omega arith in
    let k : m.commands ≡ m.commands + 0 = omega arith in
    subst (λ c. Adds m n c (marks_from (m.commands + 0) ts) (shaders_in ts)) c
    (subst (λ k. Adds m n (commands_in ts) (marks_from k ts) (shaders_in ts)) k h)

pub turns_add : (script : Script) (ts : List Turn) (ps : List Placed) (old new : BlockMap) (m : Made)
    → GivesTo script ts ps old new
    → Adds m (make_turns script ts ps m) (commands_in ts) (marks_from m.commands ts) (shaders_in ts)
turns_add script [] ps old new m g = nothing_added m m refl refl refl
turns_add script (Refused call ∷ ts) ps old new m g = behind m _ ts (turns_add script ts ps old new m g)
turns_add script (Passed call ∷ ts) ps old new m g = behind m _ ts (turns_add script ts ps old new m g)
turns_add script (Flushed call ∷ ts) ps old new m g = behind m _ ts (turns_add script ts ps old new m g)
turns_add script (Asked call ask used may_pend ∷ ts) ps old new m g =
    behind m _ ts (turns_add script ts ps old new m g)
turns_add script (Item call item ends play bound ∷ ts) ps old new m g =
    let t = Item call item ends play bound in
    let n = make_play script call play bound g.0 m in
    let o = make_turns script ts g.1 n in
    let k = commands_by_play play in
    let here = play_adds script call play bound g.0 m old g.3 g.4 in
    let rest = subst (λ i. Adds n o (commands_in ts) (marks_from i ts) (shaders_in ts)) here.commands
    (turns_add script ts g.1 g.3 new n g.7) in
    subst (λ l. Adds m (make_turns script (t ∷ ts) l m) (commands_in (t ∷ ts)) (marks_from m.commands (t ∷ ts))
    (shaders_in (t ∷ ts))) (sym g.2)
    (both m n o k (commands_in ts) (play_marks call m.commands play) (marks_from (m.commands + k) ts)
    (play_shaders play) (shaders_in ts) here rest)
