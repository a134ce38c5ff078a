-- The places of items: one for each item of the chunks, which together give each buffer its block.
use Rattle.std.proofs.Common.{◌≡◌, ℕ, ◌+◌, ◌*◌, ◌<◌, ◌≤◌, true, false, nat_lt, List, [], ◌∷◌, ◌++◌, refl, sym, subst}
use Rattle.std.proofs.Common.{inl, inr, Some, None, arith, append-nil}
use Rattle.std.proofs.lemmas.Bool.{cases_Bool, ltb-true, lt-ltb}
use Rattle.vk_types.specs.Effects.{Meaning}
use Rattle.dx_types.specs.declared.range.Range.{Range}
use Rattle.core_model.specs.Script.{Play, Create, Discard, No_overwrite, Stage, Command, Destroy, Create_shader}
use Rattle.core_model.specs.Script.{Mark_query, Set_state, Turn, Refused, Passed, Flushed, Asked, Item, Script}
use Rattle.core_model.specs.Chunking.{is_entry}
use Rattle.core_model.specs.Renaming.{BlockMap}
use Rattle.core_model.specs.CoreState.{Owner, has_class, Board, Pool, Core}
use Rattle.core_model.specs.Readings.{Reading}
use Rattle.core_model.specs.Placing.{Takes, From_home, New_made}
use Rattle.core_model.specs.Playing.{HasBlock, Own, Of_class, Plays}
use Rattle.core_model.specs.Lawful.{ClassFits, IsLawful}
use Rattle.core_model.specs.Kept.{PlacesRight}
use Rattle.core_model.specs.Succession.{IsOfClass, PlacesPlay}
use Rattle.core_model.proofs.Messages.Placements.{GivesTo, gives_append, GivesLine, line_append}
use Rattle.core_model.proofs.Messages.ItemCases.{result_of, result_call}
use Rattle.core_model.proofs.Messages.Scenes.{Scene, SceneKinds}

-- A block of its buffer's class -------------------------------------------------------------------------------------

below_classes : (class b : ℕ) → class < 8 → b < class * 64 + 64 → has_class b ≡ true
below_classes class b l h = lt-ltb b 512 (omega (arith, l, h))

not_below : (b n : ℕ) → n ≤ b → nat_lt b n ≡ false
not_below b n l =
    elim (cases_Bool (nat_lt b n)) [
      | inl t ↦ absurd (let z = ltb-true b n t in let w : ⊥ = omega (arith, z, l) in w)
      | inr f ↦ f
    ]

taken_class : (script : Script) (buffer class block : ℕ) (choice : _) (board after : Board) (pool : Pool) (owner : ℕ
    → Owner) (fence : ℕ) → PlacesRight board pool owner fence → Takes choice class block board after → class < 8
    → IsOfClass (Some class) block
taken_class script buffer class block choice board after pool owner fence p (From_home _ _ place _ e) l = let x =
    p.home class place block e in (x.0, x.1, below_classes class block l x.1)
taken_class script buffer class block choice board after pool owner fence p (New_made _ _ more) l =
    (omega arith, omega (arith, more), below_classes class (class * 64 + board.made class) l (omega (arith, more)))

pub of_class : (reading : Reading) (script : Script) (buffer block : ℕ) (old mid : Core)
    → HasBlock reading script buffer block old mid → ClassFits script buffer (script.class buffer)
    → PlacesRight old.board old.pool old.owner old.fence → IsOfClass (script.class buffer) block
of_class reading script buffer block old mid (Own _ _ _ _ e) fits p =
    subst (λ c. IsOfClass c old.pool.next) (sym e) (not_below old.pool.next 512 p.next)
of_class reading script buffer block old mid (Of_class _ _ _ class _ _ board e t) fits p =
    let l = subst (ClassFits script buffer) e fits in
    subst (λ c. IsOfClass c block) (sym e) (taken_class script buffer class block t.0 old.board board old.pool
    old.owner old.fence p t.1 l.0)

-- Each item's place -------------------------------------------------------------------------------------------------

pub places_play : (reading : Reading) (script : Script) (call item : ℕ) (play : Play) (bound : List Range)
    (old new : Core) (n : Plays reading script call item play bound old new)
    → ((buffer : ℕ) → ClassFits script buffer (script.class buffer))
    → PlacesRight old.board old.pool old.owner old.fence
    → (let x = result_of reading script call item play bound old new n in
    PlacesPlay script play x.placed old.blocks x.blocks)
places_play reading script call item (Create buffer bytes) bound old new n fits p =
    (n.0, refl, refl, refl, of_class reading script buffer n.0 old n.1 n.2 (fits buffer) p, refl)
places_play reading script call item (Discard buffer from bytes) bound old new n fits p =
    (n.0, refl, refl, refl, of_class reading script buffer n.0 old n.1 n.2 (fits buffer) p, refl)
places_play reading script call item (No_overwrite buffer from bytes) bound old new n fits p =
    ((refl, refl, refl), refl)
places_play reading script call item (Stage [] target skip) bound old new n fits p = (refl, refl, refl, refl)
places_play reading script call item (Stage (b ∷ bs) None skip) bound old new n fits p =
    (refl, refl, (_, refl, refl), refl)
places_play reading script call item (Stage (b ∷ bs) (Some target) skip) bound old new n fits p =
    (refl, refl, (_, refl, refl), refl)
places_play reading script call item (Command w skip) bound old new n fits p = ((refl, refl, refl), refl)
places_play reading script call item (Destroy buffer) bound old new n fits p = (refl, refl, refl, refl)
places_play reading script call item Create_shader bound old new n fits p = ((refl, refl, refl), refl)
places_play reading script call item (Mark_query query begins) bound old new n fits p = ((refl, refl, refl), refl)
places_play reading script call item Set_state bound old new n fits p = ((refl, refl, refl), refl)

-- All places --------------------------------------------------------------------------------------------------------

abbrev pub no_blocks : BlockMap
no_blocks = λ r. None

-- the chunks that were handed over give blocks, and the open one goes on
abbrev pub Gives : Script → Scene → Type 0
Gives script v = (mid : BlockMap) × GivesLine script no_blocks v.handed mid
    × GivesTo script v.open_chunk.turns v.open_chunk.placed mid v.blocks

bare_gives : (script : Script) (t : Turn) (old : BlockMap) → is_entry t ≡ false → GivesTo script (t ∷ []) [] old old
bare_gives script (Refused call) old h = (refl, refl)
bare_gives script (Passed call) old h = (refl, refl)
bare_gives script (Flushed call) old h = (refl, refl)
bare_gives script (Asked call ask used may_pend) old h = (refl, refl)
bare_gives script (Item call item ends play bound) old h = absurd (cc h)

pub gives_kinds : (meaning : Meaning) (reading : Reading) (script : Script) → IsLawful meaning script
    → SceneKinds meaning reading script (Gives script)
gives_kinds meaning reading script lawful = record {
  started = (no_blocks, refl, (refl, refl));
  hands = λ old due k g. (
    old.blocks,
    line_append script no_blocks g.0 old.blocks _ (old.open_chunk ∷ []) g.1
        (old.blocks, g.2, refl),
    (refl, refl),
  );
  turns = λ v t h g. (
    g.0,
    g.1,
    subst (λ ps. GivesTo script (v.open_chunk.turns ++ t ∷ []) ps g.0 v.blocks) (append-nil v.open_chunk.placed)
        (gives_append script v.open_chunk.turns (t ∷ []) v.open_chunk.placed [] g.0 v.blocks v.blocks g.2
        (bare_gives script t v.blocks h)),
  );
  reads = λ core call r g. g;
  items = λ old call item ends play bound turns new e due n k g.
      let x = result_of reading script call item play bound _ new n in
      let c = result_call reading script call item play bound _ new n in (
        g.0,
        g.1,
        gives_append script old.open_chunk.turns (Item call item ends play bound ∷ []) old.open_chunk.placed
            (x.placed ∷ []) g.0 old.blocks x.blocks g.2 (
              x.placed,
              [],
              refl,
              x.blocks,
              places_play reading script call item play bound _ new n lawful.classes
                  k.beside.places,
              c.0,
              c.1,
              (refl, refl),
            ),
      );
}
