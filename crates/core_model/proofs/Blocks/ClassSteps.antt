-- Each step keeps where the blocks of a class are.
use Rattle.std.proofs.Common.{◌≡◌, ℕ, zero, suc, Bool, true, false, cond, max, ◌==◌, nat_le, List, [], ◌∷◌, ◌++◌}
use Rattle.std.proofs.Common.{length, map, refl, sym, ap, ◌∙◌, subst, ◌⊎◌, inl, inr, Option, Some, None, arith}
use Rattle.std.proofs.Common.{length-append}
use Rattle.std.proofs.lemmas.Bool.{cases_Bool, eqb-true}
use Rattle.dx_types.specs.declared.range.Range.{Range}
use Rattle.vk_types.specs.declared.message.Placed.{Placed}
use Rattle.vk_types.specs.Effects.{Meaning}
use Rattle.core_model.specs.Script.{Turn, Script, updated}
use Rattle.core_model.specs.CoreState.{Running, of_messages, Message, Owner, Unmade, Home, Returning, Spare, Live}
use Rattle.core_model.specs.CoreState.{Retired, Paged, Dropped, has_class, Board, Core, start, somes, marks}
use Rattle.core_model.specs.CoreState.{taken_count, finished_count, open_number, Said}
use Rattle.core_model.specs.Readings.{Reading}
use Rattle.core_model.specs.Owners.{bind_owner, retire_owner, retired, finish_owner, return_owner}
use Rattle.core_model.specs.TakingPosts.{with_post, TakesPosts, with_fence}
use Rattle.core_model.specs.Adding.{with_reply, with_write, fenced}
use Rattle.core_model.specs.AppActs.{with_read, handed_over}
use Rattle.core_model.specs.OtherParts.{snaps_of, values_of}
use Rattle.core_model.specs.CoreStep.{Event, App, Cs, Pipe, Submit, Accept, Run, Complete, Finish, Come_home}
use Rattle.core_model.specs.CoreStep.{is_of_app, Step}
use Rattle.core_model.specs.Invariant.{IsLive}
use Rattle.core_model.specs.ClassBlocks.{Stand, Apart, At_home, On_way, Held, Gone, stand, ClassRight, ClassesRight}
use Rattle.vk_types.specs.declared.op.VkOp.TheVariants as op
use Rattle.core_model.proofs.Blocks.ClassMoves.{same_class, opened_class, finished_class, homed_class}

-- What an owner's change leaves of where a block is -----------------------------------------------------------------

pub stand_bound : (rs : List Range) (b : ℕ) (o : Owner) → stand (bind_owner rs b o) ≡ stand o
stand_bound rs b Unmade = refl
stand_bound rs b (Home k) = refl
stand_bound rs b (Returning k) = refl
stand_bound rs b Spare = refl
stand_bound rs b (Live buffer since bound) = refl
stand_bound rs b (Retired k since bound) = refl
stand_bound rs b (Paged k since bound) = refl
stand_bound rs b Dropped = refl

pub stand_returned : (n : ℕ) (o : Owner) → stand (return_owner n o) ≡ stand o
stand_returned n Unmade = refl
stand_returned n (Home k) = refl
stand_returned n (Returning k) = refl
stand_returned n Spare = refl
stand_returned n (Live buffer since bound) = refl
stand_returned n (Retired k since bound) = refl
stand_returned n (Paged k since bound) = by (k == n)
  where
    by : (c : Bool) → stand (cond c Spare (Paged k since bound)) ≡ Apart
    by true = refl
    by false = refl
stand_returned n Dropped = refl

pub stand_finished : (n b : ℕ) (o : Owner) → (stand (finish_owner n b o) ≡ stand o)
    ⊎ ((stand o ≡ Gone n) × (stand (finish_owner n b o) ≡ cond (has_class b) On_way Apart))
stand_finished n b Unmade = inl refl
stand_finished n b (Home k) = inl refl
stand_finished n b (Returning k) = inl refl
stand_finished n b Spare = inl refl
stand_finished n b (Live buffer since bound) = inl refl
stand_finished n b (Paged k since bound) = inl refl
stand_finished n b Dropped = inl refl
stand_finished n b (Retired k since bound) = elim (cases_Bool (k == n)) [
  | inr f ↦ inl (ap (λ c. stand (cond c (cond (has_class b) (Returning k) Dropped) (Retired k since bound))) f)
  | inl t ↦ inr (
    ap Gone (eqb-true k n t),
    ap (λ c. stand (cond c (cond (has_class b) (Returning k) Dropped) (Retired k since bound))) t
        ∙ by (has_class b),
  )
]
  where
    by : (c : Bool) → stand (cond c (Returning k) Dropped) ≡ cond c On_way Apart
    by true = refl
    by false = refl

pub stand_updated : (block : ℕ) (o : Owner) (own : ℕ → Owner) (b : ℕ)
    → stand (updated block o own b) ≡ updated block (stand o) (λ b. stand (own b)) b
stand_updated block o own b = by (b == block)
  where
    by : (c : Bool) → stand (cond c o (own b)) ≡ cond c (stand o) (stand (own b))
    by true = refl
    by false = refl

pub stand_retired : (n block buffer : ℕ) (own : ℕ → Owner) → stand (own block) ≡ Held buffer → (b : ℕ)
    → stand (retired (Some block) n own b) ≡ updated block (Gone n) (λ b. stand (own b)) b
stand_retired n block buffer own held b = elim (cases_Bool (b == block)) [
  | inl t ↦
      ap (λ c. stand (cond c (retire_owner n (own b)) (own b))) t
      ∙ by (own b) (ap (λ b. stand (own b)) (eqb-true b block t) ∙ held)
      ∙ sym (ap (λ c. cond c (Gone n) (stand (own b))) t)
  | inr f ↦ ap (λ c. stand (cond c (retire_owner n (own b)) (own b))) f
      ∙ sym (ap (λ c. cond c (Gone n) (stand (own b))) f)
]
  where
    by : (o : Owner) → stand o ≡ Held buffer → stand (retire_owner n o) ≡ Gone n
    by Unmade e = absurd (cc e)
    by (Home k) e = absurd (cc e)
    by (Returning k) e = absurd (cc e)
    by Spare e = absurd (cc e)
    by (Live r since bound) e = refl
    by (Retired k since bound) e = absurd (cc e)
    by (Paged k since bound) e = absurd (cc e)
    by Dropped e = absurd (cc e)

pub stand_live : (r : ℕ) (o : Owner) → IsLive r o → stand o ≡ Held r
stand_live r Unmade l = absurd l
stand_live r (Home k) l = absurd l
stand_live r (Returning k) l = absurd l
stand_live r Spare l = absurd l
stand_live r (Live buffer since bound) l = ap Held l
stand_live r (Retired k since bound) l = absurd l
stand_live r (Paged k since bound) l = absurd l
stand_live r Dropped l = absurd l

-- Parts of a state that matter --------------------------------------------------------------------------------------

pub record Alike (old new : Core) : Type 0 where
  pub board : new.board ≡ old.board
  pub owner : (b : ℕ) → stand (new.owner b) ≡ stand (old.owner b)
  pub blocks : new.blocks ≡ old.blocks
  pub number : open_number new ≡ open_number old
  pub marked : marks new.open_chunk ≡ marks old.open_chunk
  pub turns : new.open_chunk.turns ≡ old.open_chunk.turns

-- the parts that a state has, with where its blocks are
pub from_parts : (script : Script) (board : Board) (at : ℕ → Stand) (blocks : ℕ
    → Option ℕ) (number : ℕ) (marked : List ℕ) (turns : List Turn) (new : Core) → new.board ≡ board
    → ((b : ℕ) → stand (new.owner b) ≡ at b)
    → new.blocks ≡ blocks → open_number new ≡ number → marks new.open_chunk ≡ marked → new.open_chunk.turns ≡ turns
    → ClassRight script board at blocks number marked turns → ClassesRight script new
from_parts script board at blocks number marked turns new eb eo el en em et h =
    subst (λ t. ClassRight script new.board (λ b. stand (new.owner b)) new.blocks (open_number new)
    (marks new.open_chunk) t) (sym et)
    (subst (λ m. ClassRight script new.board (λ b. stand (new.owner b)) new.blocks (open_number new) m turns) (sym em)
    (subst (λ n. ClassRight script new.board (λ b. stand (new.owner b)) new.blocks n marked turns) (sym en)
    (subst (λ l. ClassRight script new.board (λ b. stand (new.owner b)) l number marked turns) (sym el)
    (subst (λ d. ClassRight script d (λ b. stand (new.owner b)) blocks number marked turns) (sym eb)
    (same_class script board at blocks number marked turns h (λ b. stand (new.owner b)) eo)))))

pub alike_classes : (script : Script) (old new : Core) → Alike old new → ClassesRight script old
    → ClassesRight script new
alike_classes script old new a h =
    from_parts script old.board (λ b. stand (old.owner b)) old.blocks (open_number old) (marks old.open_chunk)
    old.open_chunk.turns new a.board a.owner a.blocks a.number a.marked a.turns h

-- by what a state is
pub from_by : (script : Script) (board : Board) (at : ℕ → Stand) (blocks : ℕ
    → Option ℕ) (number : ℕ) (marked : List ℕ) (turns : List Turn) (new mid : Core) → new ≡ mid → mid.board ≡ board
    → ((b : ℕ) → stand (mid.owner b) ≡ at b) → mid.blocks ≡ blocks → open_number mid ≡ number
    → marks mid.open_chunk ≡ marked → mid.open_chunk.turns ≡ turns
    → ClassRight script board at blocks number marked turns
    → ClassesRight script new
from_by script board at blocks number marked turns new mid is eb eo el en em et h =
    subst (ClassesRight script) (sym is) (from_parts script board at blocks number marked turns mid eb eo el en em
    et h)

alike_by : (script : Script) (old new mid : Core) → new ≡ mid → Alike old mid → ClassesRight script old
    → ClassesRight script new
alike_by script old new mid is a h = subst (ClassesRight script) (sym is) (alike_classes script old mid a h)

then_alike : {a b c : Core} → Alike a b → Alike b c → Alike a c
then_alike x y = record {
  board = y.board ∙ x.board;
  owner = λ b. y.owner b ∙ x.owner b;
  blocks = y.blocks ∙ x.blocks;
  number = y.number ∙ x.number;
  marked = y.marked ∙ x.marked;
  turns = y.turns ∙ x.turns;
}

self_alike : (core : Core) → Alike core core
self_alike core = record { board = refl; owner = λ b. refl; blocks = refl; number = refl; marked = refl; turns = refl }

pub write_alike : (call : ℕ) (r : Range) (bytes : List ℕ) (core : Core) → Alike core (with_write call r bytes core)
write_alike call r [] core = self_alike core
write_alike call r (x ∷ xs) core = record {
  board = refl;
  owner = λ b. refl;
  blocks = refl;
  number = refl;
  marked =
      refl;
  turns = refl;
}

pub fenced_alike : (k : ℕ) (core : Core) → Alike core (fenced k core)
fenced_alike k core = by (nat_le k (taken_count core))
  where
    by : (c : Bool)
        → Alike core (cond c core (record core {
          listing = core.listing ++ op.Fence k ∷ [];
          fence =
              max core.fence k;
        }))
    by true = self_alike core
    by false = record { board = refl; owner = λ b. refl; blocks = refl; number = refl; marked = refl; turns = refl }

pub read_alike : (call : ℕ) (r : Range) (used : Option ℕ) (core : Core) → Alike core (with_read call r used core)
read_alike call r None core = self_alike core
read_alike call r (Some n) core = record {
  board = refl;
  owner = λ b. refl;
  blocks = refl;
  number = refl;
  marked =
      refl;
  turns = refl;
}

-- no mark, or one, behind others
pub marks_none : (ps : List Placed) (p : Placed) → p.mark ≡ None
    → somes (map (λ p. p.mark) (ps ++ p ∷ [])) ≡ somes (map (λ p. p.mark) ps)
marks_none [] p e = ap (λ o. somes (o ∷ [])) e
marks_none (x ∷ ps) p e = by x.mark (marks_none ps p e)
  where
    by : (o : Option ℕ) → somes (map (λ p. p.mark) (ps ++ p ∷ [])) ≡ somes (map (λ p. p.mark) ps)
        → somes (o ∷ map (λ p. p.mark) (ps ++ p ∷ [])) ≡ somes (o ∷ map (λ p. p.mark) ps)
    by None h = h
    by (Some n) h = ap (λ l. n ∷ l) h

pub marks_one : (ps : List Placed) (p : Placed) (b : ℕ) → p.mark ≡ Some b
    → somes (map (λ p. p.mark) (ps ++ p ∷ [])) ≡ somes (map (λ p. p.mark) ps) ++ b ∷ []
marks_one [] p b e = ap (λ o. somes (o ∷ [])) e
marks_one (x ∷ ps) p b e = by x.mark (marks_one ps p b e)
  where
    by : (o : Option ℕ) → somes (map (λ p. p.mark) (ps ++ p ∷ [])) ≡ somes (map (λ p. p.mark) ps) ++ b ∷ []
        → somes (o ∷ map (λ p. p.mark) (ps ++ p ∷ [])) ≡ somes (o ∷ map (λ p. p.mark) ps) ++ b ∷ []
    by None h = h
    by (Some n) h = ap (λ l. n ∷ l) h

-- The other steps ---------------------------------------------------------------------------------------------------

pub others_classes : (meaning : Meaning) (reading : Reading) (script : Script) (old : Core) (e : Event) (new : Core)
    → is_of_app e ≡ false → Step meaning reading script old e new → ClassesRight script old → ClassesRight script new
others_classes meaning reading script old (App posts) new h p c = absurd (cc h)
others_classes meaning reading script old Cs new h p c = alike_by script old new _ p.4 (record {
  board = refl;
  owner = λ b. refl;
  blocks = refl;
  number = (
      let a = length-append old.batches (p.0 ∷ []) in let l : length old.chunks ≡ suc (length p.1) =
      ap length p.2 in omega (arith, a, l));
  marked = refl;
  turns = refl;
}) c
others_classes meaning reading script old (Pipe j) new h p c =
    alike_by script old new _ p.2 (record {
      board = refl;
      owner = λ b. refl;
      blocks = refl;
      number = refl;
      marked =
          refl;
      turns = refl;
    }) c
others_classes meaning reading script old Submit new h p c = alike_by script old new _ p.5 (record {
  board = refl;
  owner = λ b. refl;
  blocks = refl;
  number = (
      let a = length-append old.submissions (p.0 ∷ []) in let l : length old.batches ≡ suc (length p.1) =
      ap length p.2 in omega (arith, a, l));
  marked = refl;
  turns = refl;
}) c
others_classes meaning reading script old Accept new h p c = alike_by script old new _ p.4 (record {
  board = refl;
  owner = λ b. refl;
  blocks = refl;
  number = (
      let r : Running = record { segment = p.0; rest = p.0.commands } in let a =
      length-append old.accepted (r ∷ []) in let l : length old.submissions ≡ suc (length p.1) =
      ap length p.2 in omega (arith, a, l));
  marked = refl;
  turns = refl;
}) c
others_classes meaning reading script old (Run j) new h p c = alike_by script old new _ p.10 (record {
  board = refl;
  owner = λ b. refl;
  blocks = refl;
  number = (
      let r : Running = record { segment = p.1.segment; rest = p.4 ++ p.6 } in let a =
      length-append p.0 (r ∷ p.2) in let d = length-append p.0 (p.1 ∷ p.2) in
      let l : length old.accepted ≡ length (p.0 ++ p.1 ∷ p.2) = ap length p.3 in omega (arith, a, d, l));
  marked = refl;
  turns = refl;
}) c
others_classes meaning reading script old Complete new h p c = alike_by script old new _ p.5 (record {
  board = refl;
  owner = λ b. refl;
  blocks = refl;
  number = (
      let m : Message = record {
        segment = p.0.segment;
        snaps = snaps_of p.0.segment p.1 old.memory;
        values =
            values_of old.counts (old.taken ++ (of_messages old.posts ++ of_messages old.completions)) p.0.segment;
      }
      in let a = length-append old.completions (m ∷ []) in let l : length old.accepted ≡ suc (length p.1) =
      ap length p.2 in omega (arith, a, l));
  marked = refl;
  turns = refl;
}) c
others_classes meaning reading script old Finish new h p c =
    let n = suc (finished_count old) in
    let number : open_number new ≡ open_number old = ap open_number p.4
    ∙ (let a = length-append old.posts (p.0 ∷ []) in let l : length old.completions ≡ suc (length p.1) =
    ap length p.2 in omega (arith, a, l)) in
    from_parts script old.board (λ b. stand (finish_owner n b (old.owner b))) old.blocks (open_number old)
    (marks old.open_chunk) old.open_chunk.turns new (ap (λ c. c.board) p.4) (λ b. ap (λ c. stand (c.owner b)) p.4)
    (ap (λ c. c.blocks) p.4) number (ap (λ c. marks c.open_chunk) p.4) (ap (λ c. c.open_chunk.turns) p.4)
    (finished_class script old.board (λ b. stand (old.owner b)) old.blocks (open_number old) (marks old.open_chunk)
    old.open_chunk.turns c (λ b. stand (finish_owner n b (old.owner b))) n
    (λ b. stand_finished n b (old.owner b)))
others_classes meaning reading script old (Come_home block place) new h p c =
    let class = p.0 in
    from_parts script _ (updated block At_home (λ b. stand (old.owner b))) old.blocks (open_number old)
    (marks old.open_chunk) old.open_chunk.turns new (ap (λ c. c.board) p.6)
    (λ b. ap (λ c. stand (c.owner b)) p.6 ∙ stand_updated block (Home p.1) old.owner b)
    (ap (λ c. c.blocks) p.6) (ap open_number p.6) (ap (λ c. marks c.open_chunk) p.6) (ap (λ c. c.open_chunk.turns) p.6)
    (homed_class script old.board (λ b. stand (old.owner b)) old.blocks (open_number old) (marks old.open_chunk)
    old.open_chunk.turns c block place class (p.3, p.4) (ap stand p.2) p.5)

-- posts
taken_alike : (n : ℕ) (old mid : Core) → TakesPosts n old mid → Alike old mid
taken_alike zero old mid h = subst (Alike old) (sym h) (self_alike old)
taken_alike (suc n) old mid h =
    let m = h.0 in
    let ms = h.1 in
    let first : Alike old (with_post m ms old) = record {
      board = refl;
      owner = λ b. stand_returned (suc (taken_count old)) (old.owner b);
      blocks = refl;
      number = (let a = length-append old.taken (m.segment ∷ []) in let l : length old.posts ≡ suc (length ms) =
          ap length h.2 in omega (arith, a, l));
      marked = refl;
      turns = refl;
    } in
    then_alike first (taken_alike n (with_post m ms old) mid h.3)

fence_alike : (n : ℕ) (core : Core) → Alike core (with_fence n core)
fence_alike zero core = self_alike core
fence_alike (suc n) core = record {
  board = refl;
  owner = λ b. refl;
  blocks = refl;
  number = refl;
  marked =
      refl;
  turns = refl;
}

pub posts_classes : (script : Script) (n : ℕ) (old mid : Core) → TakesPosts n old mid → ClassesRight script old
    → ClassesRight script (with_fence n mid)
posts_classes script n old mid h c = alike_classes script old (with_fence n mid)
    (then_alike (taken_alike n old mid h) (fence_alike n mid)) c

-- a hand-over
pub hand_over_classes : (script : Script) (old : Core) → ClassesRight script old → ClassesRight script (handed_over old)
hand_over_classes script old c =
    let a = length-append old.chunks (old.open_chunk ∷ []) in
    from_parts script old.board (λ b. stand (old.owner b)) old.blocks (suc (open_number old)) [] []
    (handed_over old) refl (λ b. refl) refl (omega (arith, a)) refl refl
    (opened_class script old.board (λ b. stand (old.owner b)) old.blocks (open_number old) (marks old.open_chunk)
    old.open_chunk.turns c)

pub end_classes : (script : Script) (old : Core) (said : Said) → ClassesRight script old
    → ClassesRight script (with_reply said (record old { ended = true }))
end_classes script old said c = alike_classes script old (with_reply said (record old { ended = true }))
    (record { board = refl; owner = λ b. refl; blocks = refl; number = refl; marked = refl; turns = refl }) c

pub start_classes : (script : Script) → ClassesRight script (start script)
start_classes script = record {
  made = λ class i l m k z. let x : ⊥ = omega (arith, m) in x;
  home = λ class b l o z. absurd (cc z);
  held = λ b r z. absurd (cc z);
  gone = λ b k z. absurd (cc z);
  retired = λ b z. absurd (cc z);
  few = omega arith;
}
