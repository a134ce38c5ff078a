-- Each turn that App takes keeps where the blocks of a class are.
use Rattle.std.proofs.Common.{◌≡◌, ℕ, ◌+◌, ◌<◌, Bool, true, false, cond, ◌==◌, List, [], ◌∷◌, ◌++◌, length, map, refl}
use Rattle.std.proofs.Common.{sym, ap, ◌∙◌, subst, inl, inr, Option, Some, None, is_some, slice_get, arith}
use Rattle.std.specs.List.{AllByRecursion}
use Rattle.std.proofs.lemmas.Bool.{both_ways, cases_Bool, eqb-true, ltb-true}
use Rattle.dx_types.specs.declared.range.Range.{Range}
use Rattle.vk_types.specs.declared.command.Cond.{Cond}
use Rattle.vk_types.specs.Memory.{range}
use Rattle.vk_types.specs.Effects.{Meaning}
use Rattle.base_lemmas.proofs.Lists.{all_back}
use Rattle.core_model.specs.Script.{Play, Create, Discard, No_overwrite, Stage, Command, Destroy, Create_shader}
use Rattle.core_model.specs.Script.{Mark_query, Set_state, Ask, Bytes, Count, Constant, Turn, Refused, Passed}
use Rattle.core_model.specs.Script.{Flushed, Asked, Item, Script, padded, updated, at_start, in_order}
use Rattle.core_model.specs.Chunking.{marks_of}
use Rattle.core_model.specs.CoreState.{Owner, Unmade, Spare, Live, has_class, Board, Pool, Core, marks, open_number}
use Rattle.core_model.specs.Readings.{Reading}
use Rattle.core_model.specs.Renaming.{block_of, range_on}
use Rattle.core_model.specs.Owners.{nothing_bound, bind_owner, retired}
use Rattle.core_model.specs.Placing.{PageChoice, Staged, Stages, On_newest, On_spare, On_new, BlockChoice, Takes}
use Rattle.core_model.specs.Placing.{From_home, New_made}
use Rattle.core_model.specs.Adding.{with_turn, with_write, fenced, gives_block, placed_at, page_owner, staged_range}
use Rattle.core_model.specs.Adding.{length_of, retired_by}
use Rattle.core_model.specs.Playing.{HasBlock, Own, Of_class}
use Rattle.core_model.specs.AppActs.{answer, TakesTurn}
use Rattle.core_model.specs.Lawful.{ClassFits, PlaysRightly, IsLawful}
use Rattle.core_model.specs.Kept.{PlacesRight, Kept}
use Rattle.core_model.specs.ClassBlocks.{Stand, Held, Gone, stand, IsInClass, IsFor, ClassRight, ClassesRight}
use Rattle.core_model.proofs.Steps.Giving.{has_parts}
use Rattle.core_model.proofs.Blocks.ClassMoves.{turned_class, taken_class, retired_class, none_held, takes_made}
use Rattle.core_model.proofs.Blocks.ClassMoves.{takes_home}
use Rattle.core_model.proofs.Blocks.ClassSteps.{stand_bound, stand_updated, stand_retired, stand_live, from_parts}
use Rattle.core_model.proofs.Blocks.ClassSteps.{from_by, write_alike, fenced_alike, read_alike, marks_none, marks_one}

-- A turn that changes no block --------------------------------------------------------------------------------------

quiet_classes : (script : Script) (old new : Core) (t : Turn) → new.board ≡ old.board
    → ((b : ℕ) → stand (new.owner b) ≡ stand (old.owner b)) → new.blocks ≡ old.blocks
    → open_number new ≡ open_number old
    → marks new.open_chunk ≡ marks old.open_chunk → new.open_chunk.turns ≡ old.open_chunk.turns ++ t ∷ []
    → ClassesRight script old → ClassesRight script new
quiet_classes script old new t board owner blocks number marked turns h =
    from_parts script old.board (λ b. stand (old.owner b)) old.blocks (open_number old) (marks old.open_chunk)
    (old.open_chunk.turns ++ t ∷ []) new board owner blocks number marked turns
    (turned_class script old.board (λ b. stand (old.owner b)) old.blocks (open_number old) (marks old.open_chunk)
    old.open_chunk.turns h t)

quiet_by : (script : Script) (old new : Core) (t : Turn) (mid : Core) → new ≡ mid → mid.board ≡ old.board
    → ((b : ℕ) → stand (mid.owner b) ≡ stand (old.owner b)) → mid.blocks ≡ old.blocks
    → open_number mid ≡ open_number old → marks mid.open_chunk ≡ marks old.open_chunk
    → mid.open_chunk.turns ≡ old.open_chunk.turns ++ t ∷ [] → ClassesRight script old → ClassesRight script new
quiet_by script old new t mid is board owner blocks number marked turns h =
    subst (ClassesRight script) (sym is) (quiet_classes script old mid t board owner blocks number marked turns h)

asked_classes : (script : Script) (call : ℕ) (ask : Ask) (used : Option ℕ) (may_pend : Bool) (turns : List Turn)
    (old : Core) → ClassesRight script old
    → ClassesRight script (answer call ask used (with_turn (Asked call ask used may_pend) turns old))
asked_classes script call (Bytes source) used may_pend turns old h =
    let t = Asked call (Bytes source) used may_pend in
    let a = read_alike call (range_on old.blocks source) used (with_turn t turns old) in
    quiet_classes script old (answer call (Bytes source) used (with_turn t turns old)) t a.board a.owner a.blocks
    a.number a.marked a.turns h
asked_classes script call (Count query) used may_pend turns old h =
    let t = Asked call (Count query) used may_pend in quiet_classes script old
    (answer call (Count query) used (with_turn t turns old)) t refl (λ b. refl) refl refl refl refl h
asked_classes script call (Constant value) used may_pend turns old h =
    let t = Asked call (Constant value) used may_pend in quiet_classes script old
    (answer call (Constant value) used (with_turn t turns old)) t refl (λ b. refl) refl refl refl refl h

-- a page is of no class before and after
page_stands : (choice : PageChoice) (len : ℕ) (s : Staged) (before after : Pool) → Stages choice len s before after
    → (owner : ℕ → Owner) (n fence : ℕ) → AllByRecursion (λ p. owner p.block ≡ Spare) before.spare
    → owner before.next ≡ Unmade → stand (page_owner n fence s.added (owner s.block)) ≡ stand (owner s.block)
page_stands choice len s before after (On_newest _ _ top is fits) owner n fence spare fresh = refl
page_stands choice len s before after (On_spare _ _ front p back size is long none) owner n fence spare fresh =
    let was : AllByRecursion (λ p. owner p.block ≡ Spare) (p ∷ back) =
    all_back (λ p. owner p.block ≡ Spare) front (p ∷ back)
    (subst (AllByRecursion (λ p. owner p.block ≡ Spare)) is spare) in
    sym (ap stand was.0)
page_stands choice len s before after (On_new _ _ none) owner n fence spare fresh = sym (ap stand fresh)

updated_stays : (block : ℕ) (x : Stand) (f : ℕ → Stand) → x ≡ f block → (b : ℕ) → updated block x f b ≡ f b
updated_stays block x f e b = elim (cases_Bool (b == block)) [
  | inl t ↦ ap (λ c. cond c x (f b)) t ∙ e ∙ ap f (sym (eqb-true b block t))
  | inr n ↦ ap (λ c. cond c x (f b)) n
]

updated_same : (block : ℕ) (x : Stand) (f g : ℕ → Stand) → ((b : ℕ) → f b ≡ g b) → (b : ℕ)
    → updated block x f b ≡ updated block x g b
updated_same block x f g e b = by (b == block)
  where
    by : (c : Bool) → cond c x (f b) ≡ cond c x (g b)
    by true = refl
    by false = e b

-- A block is taken --------------------------------------------------------------------------------------------------

had_class : (reading : Reading) (script : Script) (buffer block : ℕ) (core mid : Core)
    → HasBlock reading script buffer block core mid → ((r : ℕ) → ClassFits script r (script.class r))
    → PlacesRight core.board core.pool core.owner core.fence
    → (at : ℕ → Stand) (blocks : ℕ → Option ℕ) (number : ℕ) (marked : List ℕ) (turns : List Turn)
    → ((b : ℕ) → at b ≡ Held buffer → ⊥)
    → ClassRight script core.board at blocks number marked turns
    → ClassRight script mid.board (updated block (Held buffer) at) (updated buffer (Some block) blocks) number
    marked turns
had_class reading script buffer block core mid (Own _ _ _ _ is) classes places at blocks number marked turns none h =
    taken_class script core.board at blocks number marked turns h buffer core.pool.next core.board
    (subst (λ o. IsFor o core.pool.next) (sym is) places.next) none (λ class i l m k. inr k)
    (λ class b place l o n e. (place, e))
had_class reading script buffer block core mid (Of_class _ _ _ class _ _ board is t) classes places at blocks number
    marked turns none h =
    let less : class < 8 = (let z : ClassFits script buffer (Some class) =
    subst (ClassFits script buffer) is (classes buffer) in z).0 in
    taken_class script core.board at blocks number marked turns h buffer block board
    (subst (λ o. IsFor o block) (sym is) (less, in_class t.0 class block core.board board t.1 refl less)) none
    (λ c i l m k. takes_made t.0 class block core.board board t.1 c i k)
    (λ c b place l o n e. takes_home t.0 class block core.board board t.1 c b place n e)
  where
    in_class : (choice : BlockChoice) (class block : ℕ) (before after : Board)
        → Takes choice class block before after → before ≡ core.board → class < 8 → IsInClass class block
    in_class choice class block before after (From_home _ _ place _ e) same less = let x =
        places.home class place block (ap (λ d. slice_get (d.places class) place) (sym same) ∙ e) in (x.0, x.1)
    in_class choice class block before after (New_made _ _ more) same less = ((omega arith), (omega (arith, more)))

module _ (meaning : Meaning) (reading : Reading) (script : Script) (lawful : IsLawful meaning script) (old : Core)
    (k : Kept meaning reading script old) (h : ClassesRight script old) (call item : ℕ) (ends : Bool)
    (bound : List Range) (turns : List Turn) (new : Core) where
  abbrev at : ℕ → Stand
  at b = stand (old.owner b)

  at_item : (play : Play) → old.future ≡ Item call item ends play bound ∷ turns
      → script.turns ≡ old.past ++ Item call item ends play bound ∷ turns
  at_item play e = sym (ap (λ l. old.past ++ l) (sym e) ∙ k.good.sound.position)

  create_classes : (buffer : ℕ) (bytes : List ℕ) → old.future
      ≡ Item call item ends (Create buffer bytes) bound ∷ turns
      → TakesTurn reading script (Item call item ends (Create buffer bytes) bound) turns old new
      → ClassesRight script new
  create_classes buffer bytes e p =
      let t = Item call item ends (Create buffer bytes) bound in
      let block = p.0 in
      let mid = p.1 in
      let parts = has_parts reading script buffer block (with_turn t turns old) mid p.2 in
      let L = length_of script buffer in
      let n = retired_by (old.owner block) in
      let given = gives_block buffer block (fenced n mid) in
      let f = fenced_alike n mid in
      let w = write_alike call (range block 0 L) (padded 0 bytes L) given in
      let rightly : PlaysRightly meaning script old.past call (Create buffer bytes) =
      lawful.plays old.past call item ends (Create buffer bytes) bound turns (at_item (Create buffer bytes) e) in
      let none : (b : ℕ) → at b ≡ Held buffer → ⊥ =
      λ b z. both_ways ((in_order meaning script old.past at_start).live buffer) rightly.2
      (k.good.stands.is_live buffer b (h.held b buffer z).0) in
      from_by script mid.board (updated block (Held buffer) at) (updated buffer (Some block) old.blocks)
      (open_number old) (marks old.open_chunk) (old.open_chunk.turns ++ t ∷ []) new _ p.3
      (w.board ∙ f.board)
      (λ b. w.owner b ∙ stand_updated block (Live buffer (fenced n mid).fence nothing_bound) (fenced n mid).owner b
      ∙ updated_same block (Held buffer) (λ b. stand ((fenced n mid).owner b)) at (λ b. f.owner b
      ∙ ap (λ c. stand (c.owner b)) parts.2) b)
      (w.blocks ∙ ap (updated buffer (Some block)) (f.blocks ∙ ap (λ c. c.blocks) parts.2))
      (w.number ∙ f.number ∙ ap open_number parts.2)
      (marks_none (with_write call (range block 0 L) (padded 0 bytes L) given).open_chunk.placed
      (placed_at call item (Some block) None None) refl ∙ w.marked ∙ f.marked
      ∙ ap (λ c. marks c.open_chunk) parts.2)
      (w.turns ∙ f.turns ∙ ap (λ c. c.open_chunk.turns) parts.2)
      (had_class reading script buffer block (with_turn t turns old) mid p.2 lawful.classes k.beside.places at
      old.blocks (open_number old) (marks old.open_chunk) (old.open_chunk.turns ++ t ∷ []) none
      (turned_class script old.board at old.blocks (open_number old) (marks old.open_chunk) old.open_chunk.turns h t))

  -- of a live buffer: its block
  held_block : (buffer : ℕ) → (in_order meaning script old.past at_start).live buffer ≡ true → (b : ℕ)
      × (old.blocks buffer ≡ Some b) × (at b ≡ Held buffer)
  held_block buffer live = let b = k.good.stands.has_block buffer live in
      (b.0, b.1, stand_live buffer (old.owner b.0) (k.good.live buffer b.0 b.1))

  discard_classes : (buffer from : ℕ) (bytes : List ℕ) → old.future
      ≡ Item call item ends (Discard buffer from bytes) bound ∷ turns
      → TakesTurn reading script (Item call item ends (Discard buffer from bytes) bound) turns old new
      → ClassesRight script new
  discard_classes buffer from bytes e p =
      let t = Item call item ends (Discard buffer from bytes) bound in
      let block = p.0 in
      let mid = p.1 in
      let parts = has_parts reading script buffer block (with_turn t turns old) mid p.2 in
      let size = script.size buffer in
      let n = retired_by (old.owner block) in
      let left : Core = record mid { owner = retired (old.blocks buffer) (open_number old) mid.owner } in
      let given = gives_block buffer block (fenced n left) in
      let f = fenced_alike n left in
      let w = write_alike call (range block 0 size) (padded from bytes size) given in
      let rightly : PlaysRightly meaning script old.past call (Discard buffer from bytes) =
      lawful.plays old.past call item ends (Discard buffer from bytes) bound turns
      (at_item (Discard buffer from bytes) e) in
      let b0 = held_block buffer rightly.0.0 in
      let gone : ℕ → Stand = updated b0.0 (Gone (open_number old)) at in
      let one : has_class b0.0 ≡ true → marks_of script t ≡ 1 = λ c. refl in
      let others : (r b : ℕ) → (r ≡ buffer → ⊥) → old.blocks r ≡ Some b → old.blocks r ≡ Some b = λ r b x y. y in
      let retires = retired_class script old.board at old.blocks (open_number old) (marks old.open_chunk)
      old.open_chunk.turns h buffer b0.0 t old.blocks b0.2 one others in
      let none = none_held script old.board at old.blocks (open_number old) (marks old.open_chunk)
      old.open_chunk.turns h buffer b0.0 t old.blocks b0.2 one others in
      from_by script mid.board (updated block (Held buffer) gone) (updated buffer (Some block) old.blocks)
      (open_number old) (marks old.open_chunk ++ b0.0 ∷ []) (old.open_chunk.turns ++ t ∷ []) new _ p.3
      (w.board ∙ f.board)
      (λ b. w.owner b ∙ stand_updated block (Live buffer (fenced n left).fence nothing_bound) (fenced n left).owner b
      ∙ updated_same block (Held buffer) (λ b. stand ((fenced n left).owner b)) gone
      (λ b. f.owner b ∙ ap (λ c. stand (retired (old.blocks buffer) (open_number old) c.owner b)) parts.2
      ∙ ap (λ o. stand (retired o (open_number old) old.owner b)) b0.1
      ∙ stand_retired (open_number old) b0.0 buffer old.owner b0.2 b) b)
      (w.blocks ∙ ap (updated buffer (Some block)) (f.blocks ∙ ap (λ c. c.blocks) parts.2))
      (w.number ∙ f.number ∙ ap open_number parts.2)
      (marks_one (with_write call (range block 0 size) (padded from bytes size) given).open_chunk.placed
      (placed_at call item (Some block) (old.blocks buffer) None) b0.0 b0.1
      ∙ ap (λ l. l ++ b0.0 ∷ []) (w.marked ∙ f.marked ∙ ap (λ c. marks c.open_chunk) parts.2))
      (w.turns ∙ f.turns ∙ ap (λ c. c.open_chunk.turns) parts.2)
      (had_class reading script buffer block (with_turn t turns old) mid p.2 lawful.classes k.beside.places gone
      old.blocks (open_number old) (marks old.open_chunk ++ b0.0 ∷ []) (old.open_chunk.turns ++ t ∷ []) none
      retires)

  destroy_classes : (buffer : ℕ) → old.future ≡ Item call item ends (Destroy buffer) bound ∷ turns
      → TakesTurn reading script (Item call item ends (Destroy buffer) bound) turns old new → ClassesRight script new
  destroy_classes buffer e p =
      let t = Item call item ends (Destroy buffer) bound in
      let rightly : PlaysRightly meaning script old.past call (Destroy buffer) =
      lawful.plays old.past call item ends (Destroy buffer) bound turns (at_item (Destroy buffer) e) in
      let b0 = held_block buffer rightly in
      from_by script old.board (updated b0.0 (Gone (open_number old)) at) (updated buffer None old.blocks)
      (open_number old) (marks old.open_chunk ++ b0.0 ∷ []) (old.open_chunk.turns ++ t ∷ []) new _ p refl
      (λ b. ap (λ o. stand (retired o (open_number old) old.owner b)) b0.1
      ∙ stand_retired (open_number old) b0.0 buffer old.owner b0.2 b)
      refl refl (marks_one old.open_chunk.placed (placed_at call item None (old.blocks buffer) None) b0.0 b0.1) refl
      (retired_class script old.board at old.blocks (open_number old) (marks old.open_chunk) old.open_chunk.turns h
      buffer b0.0 t (updated buffer None old.blocks) b0.2
      (λ c. one (script.class buffer) b0.0 c (h.held b0.0 buffer b0.2).1)
      (λ r b n z. let d : (r == buffer) ≡ false = elim (cases_Bool (r == buffer))
      [ inl y ↦ absurd (n (eqb-true r buffer y)) | inr g ↦ g ] in ap (λ c. cond c None (old.blocks r)) d ∙ z))
    where
      one : (o : Option ℕ) (b : ℕ) → has_class b ≡ true → IsFor o b → (let n : ℕ = cond (is_some o) 1 0 in n ≡ 1)
      one None b c l = let z = ltb-true b 512 c in absurd (let x : ⊥ = omega (arith, l, z) in x)
      one (Some class) b c l = refl

  -- bytes are staged to a page
  page_owner_stands : (s : Staged) (pool : Pool) (len : ℕ) (choice : PageChoice) → Stages choice len s old.pool pool
      → (b : ℕ)
      → stand (bind_owner (staged_range s len ∷ map (range_on old.blocks) bound) b
      (updated s.block (page_owner (open_number old) old.fence s.added (old.owner s.block)) old.owner b))
      ≡ stand (old.owner b)
  page_owner_stands s pool len choice p b =
      let page = page_owner (open_number old) old.fence s.added (old.owner s.block) in
      stand_bound (staged_range s len ∷ map (range_on old.blocks) bound) b (updated s.block page old.owner b)
      ∙ stand_updated s.block page old.owner b
      ∙ updated_stays s.block (stand page) at
      (page_stands choice len s old.pool pool p old.owner (open_number old) old.fence k.beside.places.spare
      (k.beside.places.fresh old.pool.next (omega arith))) b

  stage_classes : (bytes : List ℕ) (target : Option Range) (skip : Option Cond)
      → TakesTurn reading script (Item call item ends (Stage bytes target skip) bound) turns old new
      → ClassesRight script new
  stage_classes [] target skip p =
      let t = Item call item ends (Stage [] target skip) bound in
      quiet_by script old new t _ p refl (λ b. refl) refl refl
      (marks_none old.open_chunk.placed (placed_at call item None None None) refl) refl h
  stage_classes (x ∷ xs) None skip p =
      let t = Item call item ends (Stage (x ∷ xs) None skip) bound in
      quiet_by script old new t _ p.3 refl (page_owner_stands p.0 p.1 (length (x ∷ xs)) p.2.0 p.2.1) refl refl
      (marks_none old.open_chunk.placed (placed_at call item None None (Some (staged_range p.0 (length (x ∷ xs)))))
      refl) refl h
  stage_classes (x ∷ xs) (Some target) skip p =
      let t = Item call item ends (Stage (x ∷ xs) (Some target) skip) bound in
      quiet_by script old new t _ p.3 refl (page_owner_stands p.0 p.1 (length (x ∷ xs)) p.2.0 p.2.1) refl refl
      (marks_none old.open_chunk.placed (placed_at call item None None (Some (staged_range p.0 (length (x ∷ xs)))))
      refl) refl h

  item_classes : (play : Play) → old.future ≡ Item call item ends play bound ∷ turns
      → TakesTurn reading script (Item call item ends play bound) turns old new → ClassesRight script new
  item_classes (Create buffer bytes) e p = create_classes buffer bytes e p
  item_classes (Discard buffer from bytes) e p = discard_classes buffer from bytes e p
  item_classes (No_overwrite buffer from bytes) e p =
      let t = Item call item ends (No_overwrite buffer from bytes) bound in
      let r = range (block_of old.blocks buffer) from (from + length bytes) in
      let w = write_alike call r bytes (with_turn t turns old) in
      quiet_by script old new t _ p w.board w.owner w.blocks w.number
      (marks_none (with_write call r bytes (with_turn t turns old)).open_chunk.placed
      (placed_at call item None None None) refl ∙ w.marked) w.turns h
  item_classes (Stage bytes target skip) e p = stage_classes bytes target skip p
  item_classes (Command w skip) e p =
      let t = Item call item ends (Command w skip) bound in
      quiet_by script old new t _ p refl (λ b. stand_bound (map (range_on old.blocks) bound) b (old.owner b)) refl
      refl (marks_none old.open_chunk.placed (placed_at call item None None None) refl) refl h
  item_classes (Destroy buffer) e p = destroy_classes buffer e p
  item_classes Create_shader e p =
      let t = Item call item ends Create_shader bound in
      quiet_by script old new t _ p refl (λ b. refl) refl refl
      (marks_none old.open_chunk.placed (placed_at call item None None None) refl) refl h
  item_classes (Mark_query query begins) e p =
      let t = Item call item ends (Mark_query query begins) bound in
      quiet_by script old new t _ p refl (λ b. refl) refl refl
      (marks_none old.open_chunk.placed (placed_at call item None None None) refl) refl h
  item_classes Set_state e p =
      let t = Item call item ends Set_state bound in
      quiet_by script old new t _ p refl (λ b. stand_bound (map (range_on old.blocks) bound) b (old.owner b)) refl
      refl (marks_none old.open_chunk.placed (placed_at call item None None None) refl) refl h

-- each turn
pub turn_classes : (meaning : Meaning) (reading : Reading) (script : Script) → IsLawful meaning script
    → (old : Core) (t : Turn) (turns : List Turn) (new : Core) → old.future ≡ t ∷ turns
    → TakesTurn reading script t turns old new → Kept meaning reading script old → ClassesRight script old
    → ClassesRight script new
turn_classes meaning reading script lawful old (Refused call) turns new e p k h =
    quiet_by script old new (Refused call) _ p refl (λ b. refl) refl refl refl refl h
turn_classes meaning reading script lawful old (Passed call) turns new e p k h =
    quiet_by script old new (Passed call) _ p refl (λ b. refl) refl refl refl refl h
turn_classes meaning reading script lawful old (Flushed call) turns new e p k h =
    quiet_by script old new (Flushed call) _ p refl (λ b. refl) refl refl refl refl h
turn_classes meaning reading script lawful old (Asked call ask used may_pend) turns new e (inl p) k h =
    subst (ClassesRight script) (sym p.1) (asked_classes script call ask used may_pend turns old h)
turn_classes meaning reading script lawful old (Asked call ask used may_pend) turns new e (inr p) k h =
    quiet_by script old new (Asked call ask used may_pend) _ p.2 refl (λ b. refl) refl refl refl refl h
turn_classes meaning reading script lawful old (Item call item ends play bound) turns new e p k h =
    item_classes meaning reading script lawful old k h call item ends bound turns new play e p
