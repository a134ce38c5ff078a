-- What a play makes, by what the stream and the parts are after it.
use Rattle.std.proofs.Common.{◌≡◌, ℕ, ◌+◌, Bool, true, false, cond, List, [], ◌∷◌, length, Option, Some, None}
use Rattle.std.proofs.Common.{refl, sym, ap, subst, zero-add}
use Rattle.dx_types.specs.declared.range.Range.{Range}
use Rattle.dx_types.specs.declared.range.Span.{Span}
use Rattle.vk_types.specs.declared.command.Work.{Work}
use Rattle.vk_types.specs.declared.command.Work.TheVariants as work
use Rattle.vk_types.specs.declared.command.Cond.{Cond}
use Rattle.vk_types.specs.declared.message.Placed.{Placed}
use Rattle.vk_types.specs.Memory.{range}
use Rattle.core_model.specs.Adding.{without_block}
use Rattle.core_model.specs.Batching.{Made, make_write, make_command, give_block, make_staged, block_range, make_play}
use Rattle.core_model.specs.Renaming.{range_on, work_on, cond_on}
use Rattle.core_model.specs.Script.{Script, Play, Create, Discard, Stage, Command, Destroy, Set_state, No_overwrite}
use Rattle.core_model.specs.Succession.{IsStagedRange}
use Rattle.d3d_model.specs.Binding.{Predicate}
use Rattle.d3d_model.specs.D3dState.{Objects, buffer_of}
use Rattle.d3d_model.specs.Resource.{size_of}
use Rattle.d3d_model.specs.Past.{Past}
use Rattle.log_script.specs.Makers.{maker, of_maker}
use Rattle.log_script.specs.Plays.{condition, skips, predicated, staged, whole}
use Rattle.batch_make.specs.declared.stream.Stream.{Stream}
use Rattle.batch_make.specs.declared.parts.Parts.{Parts}
use Rattle.batch_make.specs.Making.{Continues, Has}
use Rattle.item_make.specs.Making.{Makes}

-- all bytes of a buffer
pub whole_is : (past : Past) (o : Objects) (res : ℕ)
    → of_maker past (record { res = res; from = 0; to = size_of (buffer_of o res) }) ≡ whole past o res
whole_is past o res = ap (λ (n : ℕ). range (maker past res) 0 n) (sym (zero-add (size_of (buffer_of o res))))

-- a write does not touch what runs on
pub writes_go_on : (r : Range) (bytes : List ℕ) (m : Made) (s : Stream) → Continues m s → Continues (make_write r bytes m) s
writes_go_on r [] m s h = h
writes_go_on r (b ∷ bs) m s h = h

module _ (part : Span → List ℕ) (script : Script) (call : ℕ) (p : Placed) (s : Stream) (q : Parts) where
  abbrev Plays : Made → Play → Type 0
  Plays m play = Makes part (make_play script call play [] p m) s q

  pub plays_as : (m : Made) (x y : Play) → x ≡ y → Plays m x → Plays m y
  plays_as m x y e h = subst (Plays m) e h

  pub if_play : (m : Made) (b : Bool) (x y : Play) → b ≡ true → Plays m x → Plays m (cond b x y)
  if_play m b x y e h = subst (λ (t : Bool). Plays m (cond t x y)) (sym e) h

  pub else_play : (m : Made) (b : Bool) (x y : Play) → b ≡ false → Plays m y → Plays m (cond b x y)
  else_play m b x y e h = subst (λ (t : Bool). Plays m (cond t x y)) (sym e) h

  -- a command
  pub commanded : (m : Made) (w done : Work) (skip by : Option Cond) → Makes part (make_command call done by m) s q
      → done ≡ work_on m.blocks w → by ≡ cond_on m.blocks skip → Plays m (Command w skip)
  commanded m w done skip by h is cause =
      let moved : Makes part (make_command call (work_on m.blocks w) by m) s q =
      subst (λ (x : Work). Makes part (make_command call x by m) s q) is h in
      subst (λ (x : Option Cond). Makes part (make_command call (work_on m.blocks w) x m) s q) cause moved

  pub skipped_command : (past : Past) (predicate : Predicate) (m : Made) (w : Work) → skips predicate ≡ true → Makes part m s q
      → Plays m (predicated past predicate w)
  skipped_command past predicate m w e h =
      if_play m (skips predicate) Set_state (Command w (condition past predicate)) e h

  pub made_command : (past : Past) (predicate : Predicate) (m : Made) (w done : Work) (by : Option Cond)
      → Makes part (make_command call done by m) s q → done ≡ work_on m.blocks w
      → by ≡ cond_on m.blocks (condition past predicate) → skips predicate ≡ false → Plays m (predicated past predicate w)
  made_command past predicate m w done by h is cause e =
      else_play m (skips predicate) Set_state (Command w (condition past predicate)) e
      (commanded m w done (condition past predicate) by h is cause)

  -- bytes that are staged
  no_place : (m : Made) (bytes : List ℕ) (target : Option Range) (skip : Option Cond) → p.staged ≡ None → Makes part m s q
      → Plays m (Stage bytes target skip)
  no_place m bytes target skip e h =
      subst (λ (o : Option Range). Makes part (make_staged script call bytes target skip [] o m) s q) (sym e) h

  pub none_staged : (past : Past) (predicate : Predicate) (m : Made) (bytes : List ℕ) (target : Range) → p.staged ≡ None
      → Makes part m s q → Plays m (staged past predicate bytes target)
  none_staged past predicate m [] target e h = h
  none_staged past predicate m (b ∷ bs) target e h = either (skips predicate)
    where
      either : (t : Bool) → Plays m (cond t (Stage (b ∷ bs) None None) (Stage (b ∷ bs) (Some target) (condition past predicate)))
      either true = no_place m (b ∷ bs) None None e h
      either false = no_place m (b ∷ bs) (Some target) (condition past predicate) e h

  pub skipped_stage : (past : Past) (predicate : Predicate) (m : Made) (bytes : List ℕ) (source target : Range)
      → p.staged ≡ Some source → IsStagedRange bytes (Some source) → skips predicate ≡ true
      → Makes part (make_write source bytes m) s q → Plays m (staged past predicate bytes target)
  skipped_stage past predicate m [] source target at is e h = absurd cc
  skipped_stage past predicate m (b ∷ bs) source target at is e h =
      if_play m (skips predicate) (Stage (b ∷ bs) None None) (Stage (b ∷ bs) (Some target) (condition past predicate)) e
      (subst (λ (o : Option Range). Makes part (make_staged script call (b ∷ bs) None None [] o m) s q) (sym at) h)

  pub copied_stage : (past : Past) (predicate : Predicate) (m : Made) (bytes : List ℕ) (source target to : Range) (by : Option Cond)
      → p.staged ≡ Some source → IsStagedRange bytes (Some source) → skips predicate ≡ false
      → to ≡ range_on m.blocks target → by ≡ cond_on m.blocks (condition past predicate)
      → Makes part (make_command call (work.Copy source to) by (make_write source bytes m)) s q
      → Plays m (staged past predicate bytes target)
  copied_stage past predicate m [] source target to by at is e moved cause h = absurd cc
  copied_stage past predicate m (b ∷ bs) source target to by at is e moved cause h =
      let written = make_write source (b ∷ bs) m in
      let one : Makes part (make_command call (work.Copy source (range_on m.blocks target)) by written) s q =
      subst (λ (r : Range). Makes part (make_command call (work.Copy source r) by written) s q) moved h in
      let two : Makes part (make_command call (work.Copy source (range_on m.blocks target)) (cond_on m.blocks (condition past predicate)) written) s q =
      subst (λ (x : Option Cond). Makes part (make_command call (work.Copy source (range_on m.blocks target)) x written) s q) cause one in
      else_play m (skips predicate) (Stage (b ∷ bs) None None) (Stage (b ∷ bs) (Some target) (condition past predicate)) e
      (subst (λ (o : Option Range). Makes part (make_staged script call (b ∷ bs) (Some target) (condition past predicate) [] o m) s q) (sym at) two)

  -- blocks that are taken
  taken : (m : Made) (buffer block from len : ℕ) (bytes : List ℕ) → p.block ≡ Some block → length bytes ≡ len
      → Continues (give_block script buffer (Some block) m) s
      → Has part (make_write (range block from (from + len)) bytes (give_block script buffer (Some block) m)) q
      → Makes part (make_write (block_range p.block from (from + length bytes)) bytes (give_block script buffer p.block m)) s q
  taken m buffer block from len bytes at long goes has =
      let given = give_block script buffer (Some block) m in
      let here : Makes part (make_write (range block from (from + len)) bytes given) s q =
      (writes_go_on (range block from (from + len)) bytes given s goes, has) in
      let fits : Makes part (make_write (range block from (from + length bytes)) bytes given) s q =
      subst (λ (n : ℕ). Makes part (make_write (range block from (from + n)) bytes given) s q) (sym long) here in
      subst (λ (o : Option ℕ). Makes part (make_write (block_range o from (from + length bytes)) bytes (give_block script buffer o m)) s q) (sym at) fits

  pub discarded : (m : Made) (buffer block from len : ℕ) (bytes : List ℕ) → p.block ≡ Some block → length bytes ≡ len
      → Continues (give_block script buffer (Some block) m) s
      → Has part (make_write (range block from (from + len)) bytes (give_block script buffer (Some block) m)) q
      → Plays m (Discard buffer from bytes)
  discarded m buffer block from len bytes at long goes has = taken m buffer block from len bytes at long goes has

  pub created : (m : Made) (buffer block len : ℕ) (bytes : List ℕ) → p.block ≡ Some block → length bytes ≡ len
      → Continues (give_block script buffer (Some block) m) s
      → Has part (make_write (range block 0 len) bytes (give_block script buffer (Some block) m)) q
      → Plays m (Create buffer bytes)
  created m buffer block len bytes at long goes has =
      let given = give_block script buffer (Some block) m in
      let here : Makes part (make_write (range block 0 len) bytes given) s q =
      (writes_go_on (range block 0 len) bytes given s goes, has) in
      let fits : Makes part (make_write (range block 0 (length bytes)) bytes given) s q =
      subst (λ (n : ℕ). Makes part (make_write (range block 0 n) bytes given) s q) (sym long) here in
      subst (λ (o : Option ℕ). Makes part (make_write (block_range o 0 (length bytes)) bytes (give_block script buffer o m)) s q) (sym at) fits

  pub overwritten : (past : Past) (id from len : ℕ) (m : Made) (bytes : List ℕ) (r : Range) → length bytes ≡ len
      → r ≡ range_on m.blocks (of_maker past (record { res = id; from = from; to = from + len }))
      → Continues m s → Has part (make_write r bytes m) q → Plays m (No_overwrite (maker past id) from bytes)
  overwritten past id from len m bytes r long is goes has =
      let here : Has part (make_write (range_on m.blocks (range (maker past id) from (from + len))) bytes m) q =
      subst (λ (x : Range). Has part (make_write x bytes m) q) is has in
      let fits : Has part (make_write (range_on m.blocks (range (maker past id) from (from + length bytes))) bytes m) q =
      subst (λ (n : ℕ). Has part (make_write (range_on m.blocks (range (maker past id) from (from + n))) bytes m) q) (sym long) here in
      (writes_go_on (range_on m.blocks (range (maker past id) from (from + length bytes))) bytes m s goes, fits)

  -- a buffer is destroyed
  pub destroyed : (buffer block : ℕ) (m : Made) → m.blocks buffer ≡ Some block → Continues m s
      → Has part (record m { staging = without_block (Some block) m.staging }) q → Plays m (Destroy buffer)
  destroyed buffer block m at goes has =
      (goes, subst (λ (o : Option ℕ). Has part (record m { staging = without_block o m.staging }) q) (sym at) has)

  without_none : (rs : List Range) → rs ≡ without_block None rs
  without_none [] = refl
  without_none (r ∷ rs) = ap (λ (l : List Range). r ∷ l) (without_none rs)

  pub destroyed_none : (buffer : ℕ) (m : Made) → m.blocks buffer ≡ None → Makes part m s q → Plays m (Destroy buffer)
  destroyed_none buffer m at h =
      let has : Has part (record m { staging = without_block None m.staging }) q =
      subst (λ (l : List Range). Has part (record m { staging = l }) q) (without_none m.staging) h.1 in
      (h.0, subst (λ (o : Option ℕ). Has part (record m { staging = without_block o m.staging }) q) (sym at) has)
