-- What a turn adds to queries, and the parts of an item that add nothing.
use Rattle.std.proofs.Common.{◌≡◌, ℕ, suc, ◌+◌, ◌<◌, ◌≤◌, Bool, true, false, cond, max, nat_le, List, [], ◌∷◌, ◌++◌}
use Rattle.std.proofs.Common.{map, refl, sym, ap, ◌∙◌, subst, Option, Some, None, arith, append-nil}
use Rattle.std.specs.List.{AllByRecursion}
use Rattle.dx_types.specs.declared.range.Range.{Range}
use Rattle.vk_types.specs.declared.message.QueryMark.{QueryMark}
use Rattle.vk_types.specs.declared.op.VkOp.TheVariants as op
use Rattle.base_lemmas.specs.Lists.{numbers_from}
use Rattle.vk_types.specs.Effects.{Act, Host_write, Device, Host_read}
use Rattle.vk_types.specs.Entries.{Entry}
use Rattle.vk_types.specs.declared.command.Command as c
use Rattle.vk_types.specs.declared.op.Barrier.{Barrier}
use Rattle.base_lemmas.proofs.Lists.{all_front, all_back, all_append}
use Rattle.core_model.specs.Script.{Turn}
use Rattle.core_model.specs.Script.{Script}
use Rattle.core_model.specs.CoreState.{entries, Core, later, taken_count}
use Rattle.core_model.specs.Readings.{Reading}
use Rattle.core_model.specs.Adding.{with_turn, with_write, fenced, with_command}
use Rattle.core_model.specs.Playing.{HasBlock}
use Rattle.core_model.specs.AppActs.{with_read, act_commands, device_commands}
use Rattle.core_model.specs.Queries.{act_is_above, command_numbers}
use Rattle.core_model.proofs.Steps.Giving.{has_parts}

abbrev pub OpenAbove : ℕ → Core → Type 0
OpenAbove k core = AllByRecursion (λ x. act_is_above k x.act) (entries core.open_chunk)

-- the turn was taken, with so many commands and these marks
pub record Adds (t : Turn) (n : ℕ) (ms : List QueryMark) (old new : Core) : Type 0 where
  pub past : new.past ≡ old.past ++ t ∷ []
  pub taken : new.taken ≡ old.taken
  pub later : later new ≡ later old
  pub messages : new.posts ++ new.completions ≡ old.posts ++ old.completions
  pub values : new.values ≡ old.values
  pub turns : new.open_chunk.turns ≡ old.open_chunk.turns ++ t ∷ []
  pub queries : new.open_chunk.queries ≡ old.open_chunk.queries ++ ms
  pub commands : new.commands ≡ old.commands + n
  pub numbers : command_numbers new.open_chunk.commands ≡ command_numbers old.open_chunk.commands
      ++ numbers_from (suc old.commands) n
  pub above : (k : ℕ) → k ≤ old.commands → OpenAbove k old → OpenAbove k new

-- what adds neither
pub record Same (old new : Core) : Type 0 where
  pub past : new.past ≡ old.past
  pub taken : new.taken ≡ old.taken
  pub later : later new ≡ later old
  pub messages : new.posts ++ new.completions ≡ old.posts ++ old.completions
  pub values : new.values ≡ old.values
  pub turns : new.open_chunk.turns ≡ old.open_chunk.turns
  pub queries : new.open_chunk.queries ≡ old.open_chunk.queries
  pub commands : new.commands ≡ old.commands
  pub listed : new.open_chunk.commands ≡ old.open_chunk.commands
  pub above : (k : ℕ) → OpenAbove k old → OpenAbove k new

pub then_same : {t : Turn} {n : ℕ} {ms : List QueryMark} {old mid new : Core} → Adds t n ms old mid → Same mid new
    → Adds t n ms old new
then_same a s = record {
  past = s.past ∙ a.past;
  taken = s.taken ∙ a.taken;
  later = s.later ∙ a.later;
  messages = s.messages ∙ a.messages;
  values = s.values ∙ a.values;
  turns = s.turns ∙ a.turns;
  queries = s.queries ∙ a.queries;
  commands = s.commands ∙ a.commands;
  numbers = ap command_numbers s.listed ∙ a.numbers;
  above = λ k l h. s.above k (a.above k l h);
}

-- the core with the parts of another that queries see
abbrev pub with_seen : Core → Core → Core
with_seen core new = record new {
  past = core.past;
  taken = core.taken;
  posts = core.posts;
  completions = core.completions;
  accepted = core.accepted;
  submissions = core.submissions;
  batches = core.batches;
  chunks = core.chunks;
  open_chunk = record new.open_chunk {
    turns = core.open_chunk.turns;
    reads = core.open_chunk.reads;
    writes = core.open_chunk.writes;
    commands = core.open_chunk.commands;
    queries = core.open_chunk.queries;
  };
  values = core.values;
  commands = core.commands;
}

-- other parts of the state do not matter
pub same_rest : (core new : Core) → Same core (with_seen core new)
same_rest core new = record {
  past = refl;
  taken = refl;
  later = refl;
  messages = refl;
  values = refl;
  turns = refl;
  queries = refl;
  commands = refl;
  listed = refl;
  above = λ k h. h;
}

pub rest_adds : {t : Turn} {n : ℕ} {ms : List QueryMark} {old core : Core} (new : Core) → Adds t n ms old core
    → Adds t n ms old (with_seen core new)
rest_adds {t} {n} {ms} {old} {core} new a = then_same a (same_rest core new)

-- so a turn adds the same where the core that it leaves has them
pub adds_as : {t : Turn} {n : ℕ} {ms : List QueryMark} {old core left new : Core} → new ≡ left → Adds t n ms old core
    → left ≡ with_seen core left → Adds t n ms old new
adds_as {t} {n} {ms} {old} {core} {left} {new} p a e =
    subst (Adds t n ms old) (sym (p ∙ e)) (rest_adds left a)

-- Parts of an item --------------------------------------------------------------------------------------------------

pub turn_adds : (t : Turn) (turns : List Turn) (old : Core) → Adds t 0 [] old (with_turn t turns old)
turn_adds t turns old = record {
  past = refl;
  taken = refl;
  later = refl;
  messages = refl;
  values = refl;
  turns = refl;
  queries = sym (append-nil old.open_chunk.queries);
  commands = omega arith;
  numbers = sym (append-nil (command_numbers old.open_chunk.commands));
  above = λ k l h. h;
}

pub same_write : (call : ℕ) (r : Range) (bytes : List ℕ) (core : Core) → Same core (with_write call r bytes core)
same_write call r [] core = same_rest core core
same_write call r (b ∷ bs) core = record {
  past = refl;
  taken = refl;
  later = refl;
  messages = refl;
  values = refl;
  turns = refl;
  queries = refl;
  commands = refl;
  listed = refl;
  above = λ k h.
      let c = core.open_chunk in
      let P : Entry → Type 0 = λ x. act_is_above k x.act in
      let behind = all_back P c.reads (c.writes ++ c.commands) h in
      all_append P c.reads ((c.writes ++ _ ∷ []) ++ c.commands) (all_front P c.reads (c.writes ++ c.commands) h)
      (all_append P (c.writes ++ _ ∷ []) c.commands (all_append P c.writes (_ ∷ [])
      (all_front P c.writes c.commands behind) (tt, tt)) (all_back P c.writes c.commands behind));
}

pub same_fenced : (k : ℕ) (core : Core) → Same core (fenced k core)
same_fenced k core = by (nat_le k (taken_count core))
  where
    by : (d : Bool)
        → Same core (cond d core (record core {
          listing = core.listing ++ op.Fence k ∷ [];
          fence =
              max core.fence k;
        }))
    by true = same_rest core core
    by false = same_rest core (record core { listing = core.listing ++ op.Fence k ∷ []; fence = max core.fence k })

pub same_read : (call : ℕ) (r : Range) (used : Option ℕ) (core : Core) → Same core (with_read call r used core)
same_read call r None core = same_rest core core
same_read call r (Some n) core = record {
  past = refl;
  taken = refl;
  later = refl;
  messages = refl;
  values = refl;
  turns = refl;
  queries = refl;
  commands = refl;
  listed = refl;
  above = λ k h.
      let c = core.open_chunk in
      let P : Entry → Type 0 = λ x. act_is_above k x.act in
      all_append P (c.reads ++ _ ∷ []) (c.writes ++ c.commands)
      (all_append P c.reads (_ ∷ []) (all_front P c.reads (c.writes ++ c.commands) h) (tt, tt))
      (all_back P c.reads (c.writes ++ c.commands) h);
}

pub same_block : (reading : Reading) (script : Script) (buffer block : ℕ) (core mid : Core)
    → HasBlock reading script buffer block core mid → Same core mid
same_block reading script buffer block core mid h =
    let p = has_parts reading script buffer block core mid h in
    subst (Same core) (sym p.2) (same_rest core (record core { board = p.0; pool = p.1 }))

-- the number of a command more
pub numbers_last : (xs : List Entry) (d : c.Command) (chunk epoch : ℕ)
    → command_numbers (xs ++ record { act = Device d; chunk = chunk; epoch = epoch; fence = 0; number = 0 } ∷ [])
    ≡ command_numbers xs ++ d.number ∷ []
numbers_last [] d chunk epoch = refl
numbers_last (x ∷ xs) d chunk epoch = by x.act (numbers_last xs d chunk epoch)
  where
    last : Entry
    last = record { act = Device d; chunk = chunk; epoch = epoch; fence = 0; number = 0 }

    by : (a : Act) → command_numbers (xs ++ last ∷ []) ≡ command_numbers xs ++ d.number ∷ []
        → map (λ d. d.number) (act_commands a ++ device_commands (xs ++ last ∷ []))
        ≡ map (λ d. d.number) (act_commands a ++ device_commands xs) ++ d.number ∷ []
    by (Host_write target bytes) h = h
    by (Device e) h = ap (λ l. e.number ∷ l) h
    by (Host_read source) h = h

pub command_adds : {t : Turn} {old mid : Core} (d : c.Command) (barrier : Option Barrier) → d.number ≡ suc mid.commands
    → Adds t 0 [] old mid → Adds t 1 [] old (with_command d barrier mid)
command_adds {t} {old} {mid} d barrier number a = record {
  past = a.past;
  taken = a.taken;
  later = a.later;
  messages = a.messages;
  values = a.values;
  turns = a.turns;
  queries = a.queries;
  commands = let n = a.commands in omega (arith, n);
  numbers =
      let n = a.commands in
      let next : d.number ≡ suc old.commands = omega (arith, n, number) in
      numbers_last mid.open_chunk.commands d _ _ ∙ ap (λ l. l ++ d.number ∷ []) (a.numbers
      ∙ append-nil (command_numbers old.open_chunk.commands))
      ∙ ap (λ n. command_numbers old.open_chunk.commands ++ n ∷ []) next;
  above = λ k l h.
      let c = mid.open_chunk in
      let P : Entry → Type 0 = λ x. act_is_above k x.act in
      let was = a.above k l h in
      let behind = all_back P c.reads (c.writes ++ c.commands) was in
      let n = a.commands in
      let here : k < d.number = omega (arith, n, l, number) in
      all_append P c.reads (c.writes ++ (c.commands ++ _ ∷ [])) (all_front P c.reads (c.writes ++ c.commands) was)
      (all_append P c.writes (c.commands ++ _ ∷ []) (all_front P c.writes c.commands behind)
      (all_append P c.commands (_ ∷ []) (all_back P c.writes c.commands behind) (here, tt)));
}
