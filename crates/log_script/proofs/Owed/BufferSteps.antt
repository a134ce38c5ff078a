-- What each call does to the live buffers, to their makers, and by its turns: nothing, or it creates or destroys one.
use Rattle.std.proofs.Common.{◌≡◌, ℕ, suc, Bool, true, false, List, [], ◌∷◌, length, Option, Some, None, refl, sym}
use Rattle.std.proofs.Common.{ap, ◌∙◌, inl, inr, ◌⊎◌, append-nil}
use Rattle.std.specs.Prelude.{◌==◌, is_some, slice_get, if◌then◌else◌}
use Rattle.std.specs.List.{list_any, AllByRecursion}
use Rattle.std.proofs.lemmas.Bool.{not-false}
use Rattle.dx_types.specs.declared.refusal.Refusal.{Refusal}
use Rattle.dx_types.specs.declared.refusal.Refusal.TheVariants.{BadUsage}
use Rattle.dx_types.specs.declared.shape.Shape.{Shape}
use Rattle.call_log.specs.Call as calls
use Rattle.call_log.specs.Call.{Call, Issued}
use Rattle.base_lemmas.specs.IdMap.{get, insert, remove}
use Rattle.d3d_model.specs.Check.{Check}
use Rattle.d3d_model.specs.Resource.{Buffers, usage_from}
use Rattle.d3d_model.specs.Binding as binding
use Rattle.d3d_model.specs.Binding.{Bindings}
use Rattle.d3d_model.specs.D3dState.{Objects, Numbered, bindings_of, calls_of_list}
use Rattle.d3d_model.specs.Past.{Past, Deed, then_done, makes}
use Rattle.d3d_model.specs.Stream.{deeds, deeds_of_list, makings}
use Rattle.d3d_model.specs.Verdict.{place_of, unused_buffer, unused_view, unused_shader, unused_query, known_list}
use Rattle.d3d_model.specs.Verdict.{verdict}
use Rattle.d3d_model.specs.Effect.{played, recorded_on, list_start}
use Rattle.d3d_model.specs.InOrder.{State, accepted, unless_refused, verdict_in, after_call, after_calls, call_at}
use Rattle.d3d_model.proofs.Checked.{Passed}
use Rattle.d3d_model.proofs.Named.{none_of}
use Rattle.d3d_model.proofs.Listed.{left_of, own_checks}
use Rattle.d3d_model.proofs.Limits.{buffer_goes}
use Rattle.d3d_model.proofs.Pasts.{list_makes_none}
use Rattle.d3d_model.proofs.Sized.{same_buffers_all}
use Rattle.core_model.specs.Script.{Play, Create, Discard, No_overwrite, Stage, Command, Destroy, Create_shader}
use Rattle.core_model.specs.Script.{Mark_query, Set_state, Turn, Refused, Passed as Went, Flushed, Asked, Item}
use Rattle.log_script.specs.Makers.{maker, bytes_from}
use Rattle.log_script.specs.Plays.{staged, maps, play_of}
use Rattle.log_script.specs.Turns.{item_of, list_items, turns_by_place, turns_unless, turns_in, turns_of}
use Rattle.log_script.specs.LogScript.{shape_by, shape_unless, shape_in, shape_made}
use Rattle.log_script.proofs.Owed.QuietPlays.{is_quiet, staged_quiet, play_quiet}

-- ---- turns that leave which buffers live

abbrev pub keeps_live : Play → Bool
keeps_live (Create buffer bytes) = false
keeps_live (Discard buffer from bytes) = true
keeps_live (No_overwrite buffer from bytes) = true
keeps_live (Stage bytes target skip) = true
keeps_live (Command w skip) = true
keeps_live (Destroy buffer) = false
keeps_live Create_shader = true
keeps_live (Mark_query query begins) = true
keeps_live Set_state = true

abbrev pub turn_keeps : Turn → Bool
turn_keeps (Refused call) = true
turn_keeps (Went call) = true
turn_keeps (Flushed call) = true
turn_keeps (Asked call ask used may_pend) = true
turn_keeps (Item call item ends play bound) = keeps_live play

abbrev pub KeepLive : List Turn → Type 0
KeepLive ts = AllByRecursion (λ t. turn_keeps t ≡ true) ts

quiet_keeps : (play : Play) → is_quiet play ≡ true → keeps_live play ≡ true
quiet_keeps (Create buffer bytes) e = absurd cc
quiet_keeps (Discard buffer from bytes) e = refl
quiet_keeps (No_overwrite buffer from bytes) e = refl
quiet_keeps (Stage bytes target skip) e = refl
quiet_keeps (Command w skip) e = refl
quiet_keeps (Destroy buffer) e = absurd cc
quiet_keeps Create_shader e = refl
quiet_keeps (Mark_query query begins) e = refl
quiet_keeps Set_state e = refl

maps_keeps : (past : Past) (res mode offset : ℕ) (bytes : List ℕ) → keeps_live (maps past res mode offset bytes) ≡ true
maps_keeps past res mode offset bytes =
    let stages : Play = staged past binding.Never bytes (bytes_from past res offset (length bytes)) in
    elim (mode == 0) as
    (λ b. keeps_live (if b then Discard (maker past res) offset bytes else if mode == 1 then No_overwrite
    (maker past res) offset bytes else stages) ≡ true) [
      | true ↦ refl
      | false ↦ elim (mode == 1) as
          (λ b. keeps_live (if b then No_overwrite (maker past res) offset bytes else stages) ≡ true) [
            | true ↦ refl
            | false ↦ quiet_keeps stages
                (staged_quiet past binding.Never bytes (bytes_from past res offset (length bytes)))
          ]
    ]

play_keeps : (past : Past) (o : Objects) (b : Bindings) (c : Call) → keeps_live (play_of past o b c) ≡ true
play_keeps past o b (calls.MapWrite res mode offset bytes) = maps_keeps past res mode offset bytes
play_keeps past o b c = quiet_keeps (play_of past o b c) (play_quiet past o b c refl)

list_keeps : (n : ℕ) (past : Past) (o : Objects) (cs : List Numbered) → KeepLive (list_items n past o cs)
list_keeps n past o [] = (refl, tt)
list_keeps n past o (c ∷ cs) = (play_keeps past o (bindings_of o 0) c.call, list_keeps n past (played n o c.call) cs)

-- ---- makers after more deeds

-- deeds that make no buffer leave each maker
pub maker_then : (n : ℕ) (past : Past) (ds : List Deed) (res : ℕ) → list_any (makes res) ds ≡ false
    → maker (then_done n past ds) res ≡ maker past res
unfolding maker then_done
maker_then n past [] res e = refl
maker_then n past (d ∷ ds) res e =
    maker_then n (record { call = n; deed = d } ∷ past) ds res (none_of (makes res d) (list_any (makes res) ds) e)
    ∙ ap (λ b. if b then n else maker past res) (left_of (makes res d) (list_any (makes res) ds) e)

maker_created : (n : ℕ) (past : Past) (id size usage bind misc stride : ℕ) (bytes : List ℕ) (res : ℕ)
    → maker (then_done n past (makings (calls.Buffer id size usage bind misc stride bytes))) res
    ≡ (if id == res then n else maker past res)
unfolding maker then_done
maker_created n past id size usage bind misc stride bytes res = refl

call_makes_none : (res : ℕ) (o : Objects) (b : Bindings) (c : Call) → list_any (makes res) (deeds o b c) ≡ false
call_makes_none res o b c = sym (ap (list_any (makes res)) (append-nil (deeds o b c)))
    ∙ list_makes_none res o b (record { number = 0; call = c } ∷ [])

-- ---- what a call does

-- the id of the buffer that a call creates
abbrev pub id_by : Call → ℕ
id_by (calls.Buffer id size usage bind misc stride bytes) = id
id_by _ = 0

abbrev pub id_in : Option Issued → ℕ
id_in None = 0
id_in (Some i) = id_by i.call

abbrev pub id_made : List Issued → ℕ → ℕ
id_made log n = id_in (call_at log n)

-- the live buffers and their makers are as before
pub record Stays (b : Buffers) (past : Past) (b' : Buffers) (past' : Past) (ts : List Turn) : Type 0 where
  pub buffers : b' ≡ b
  pub makers : (res : ℕ) → maker past' res ≡ maker past res
  pub keeps : KeepLive ts

-- call n creates a buffer of an id that was free
pub record Creates (n : ℕ) (made : Option Shape) (own : ℕ) (b : Buffers) (past : Past) (b' : Buffers) (past' : Past)
    (ts : List Turn) : Type 0 where
  pub id : ℕ
  pub shape : Shape
  pub bytes : List ℕ
  pub free : get b id ≡ None
  pub buffers : b' ≡ insert b id shape
  pub makers : (res : ℕ) → maker past' res ≡ (if id == res then n else maker past res)
  pub turns : ts ≡ Item n n true (Create n bytes) [] ∷ []
  pub made_here : made ≡ Some shape
  pub own_here : own ≡ id

-- call n destroys a live buffer
pub record Destroys (n : ℕ) (b : Buffers) (past : Past) (b' : Buffers) (past' : Past) (ts : List Turn) : Type 0 where
  pub id : ℕ
  pub lives : is_some (get b id) ≡ true
  pub buffers : b' ≡ remove b id
  pub makers : (res : ℕ) → maker past' res ≡ maker past res
  pub turns : ts ≡ Item n n true (Destroy (maker past id)) [] ∷ []

abbrev pub Step : ℕ → Option Shape → ℕ → Buffers → Past → Buffers → Past → List Turn → Type 0
Step n made own b past b' past' ts = Stays b past b' past' ts
    ⊎ (Creates n made own b past b' past' ts ⊎ Destroys n b past b' past' ts)

-- ---- by the kinds of calls

-- a call of which the buffers know nothing, with one turn
quiet : (n : ℕ) (b : Buffers) (past : Past) (t : Turn) → turn_keeps t ≡ true
    → Stays b past b (then_done n past []) (t ∷ [])
quiet n b past t e = record { buffers = refl; makers = λ res. maker_then n past [] res refl; keeps = (e, tt) }

each : (n : ℕ) (s : State) (x : ℕ) (c : Call)
    → Stays s.objects.buffers s.past (if x == 0 then played n s.objects c else recorded_on n s.objects x c).buffers
    (then_done n s.past (if x == 0 then deeds s.objects (bindings_of s.objects 0) c else []))
    (if x == 0 then item_of n n true s.past s.objects c ∷ [] else Went n ∷ [])
each n s x c =
    let b : Bindings = bindings_of s.objects 0 in
    elim (x == 0) as
    (λ t. Stays s.objects.buffers s.past (if t then played n s.objects c else recorded_on n s.objects x c).buffers
    (then_done n s.past (if t then deeds s.objects (bindings_of s.objects 0) c else []))
    (if t then item_of n n true s.past s.objects c ∷ [] else Went n ∷ [])) [
      | true ↦ record {
        buffers = refl;
        makers = λ res. maker_then n s.past (deeds s.objects b c) res (call_makes_none res s.objects b c);
        keeps = (play_keeps s.past s.objects b c, tt);
      }
      | false ↦ quiet n s.objects.buffers s.past (Went n) refl
    ]

destroy : (t1 t2 t3 t4 : Bool) (n : ℕ) (made : Option Shape) (own : ℕ) (o : Objects) (past : Past) (id : ℕ)
    (last : List Check)
    → Passed (if t1 then unused_buffer o id else if t2 then unused_view o id else if t3 then unused_shader o id else
    if t4 then unused_query o id else last)
    → Step n made own o.buffers past
    (if t1 then record o { buffers = remove o.buffers id } else if t2 then record o { views = remove o.views id }
    else if t3 then record o { shaders = remove o.shaders id } else if t4 then record o {
      queries =
          remove o.queries id;
    } else record o { lists = remove o.lists id }).buffers
    (then_done n past []) (Item n n true (if t1 then Destroy (maker past id) else Set_state) [] ∷ [])
destroy true t2 t3 t4 n made own o past id last p =
    inr (inr (record {
      id = id;
      lives = not-false (is_some (get o.buffers id)) p.0;
      buffers = refl;
      makers =
          λ res. maker_then n past [] res refl;
      turns = refl;
    }))
destroy false true t3 t4 n made own o past id last p = inl (quiet n o.buffers past (Item n n true Set_state []) refl)
destroy false false true t4 n made own o past id last p = inl (quiet n o.buffers past (Item n n true Set_state []) refl)
destroy false false false true n made own o past id last p =
    inl (quiet n o.buffers past (Item n n true Set_state []) refl)
destroy false false false false n made own o past id last p =
    inl (quiet n o.buffers past (Item n n true Set_state []) refl)

step_accepted : (n : ℕ) (s : State) (x : ℕ) (c : Call) → verdict s.objects s.past (record { context = x; call = c })
    ≡ None
    → Step n (shape_by c) (id_by c) s.objects.buffers s.past (accepted n s x c).objects.buffers
    (accepted n s x c).past (turns_by_place (place_of c) n s x c)
step_accepted n s x (calls.Buffer id size usage bind misc stride bytes) e = inr (inl (record {
  id = id;
  shape = record { size = size; usage = usage_from usage; bind = bind; misc = misc; stride = stride };
  bytes = bytes;
  free = (buffer_goes s.objects s.past x id size usage bind misc stride bytes e).free;
  buffers = refl;
  makers = λ res. maker_created n s.past id size usage bind misc stride bytes res;
  turns = refl;
  made_here = refl;
  own_here = refl;
}))
step_accepted n s x (calls.Destroy class id) e =
    destroy (class == 1) (class == 2) (class == 3) (class == 4) n None 0 s.objects s.past id
    (if class == 5 then known_list s.objects id else (true, BadUsage) ∷ [])
    (own_checks s.objects s.past x (calls.Destroy class id) e)
step_accepted n s x (calls.View view res kind form components first count) e =
    inl (quiet n s.objects.buffers s.past (Item n n true Set_state []) refl)
step_accepted n s x (calls.CreateShader id words) e =
    inl (quiet n s.objects.buffers s.past (Item n n true Create_shader []) refl)
step_accepted n s x (calls.Query id sort) e = inl (quiet n s.objects.buffers s.past (Item n n true Set_state []) refl)
step_accepted n s x (calls.MapRead res flag offset len) e = inl
    (record { buffers = refl; makers = λ q. maker_then n s.past [] q refl; keeps = (refl, tt) })
step_accepted n s x (calls.GetData query flag) e =
    inl (record { buffers = refl; makers = λ q. maker_then n s.past [] q refl; keeps = (refl, tt) })
step_accepted n s x calls.Flush e = inl (quiet n s.objects.buffers s.past (Flushed n) refl)
step_accepted n s x (calls.ExecuteList list flag) e =
    let cs : List Numbered = calls_of_list s.objects list in
    inl (record {
      buffers = same_buffers_all n (list_start s.objects) cs;
      makers = λ res. maker_then n s.past (deeds_of_list s.objects cs) res
          (list_makes_none res s.objects binding.default_bindings cs);
      keeps = list_keeps n s.past (list_start s.objects) cs;
    })
step_accepted n s x (calls.FinishList list) e = inl (quiet n s.objects.buffers s.past (Went n) refl)
step_accepted n s x c e = inl (each n s x c)

-- what call n does, after the calls before it
pub step_at : (log : List Issued) (n : ℕ)
    → Step (suc n) (shape_made log (suc n)) (id_made log (suc n)) (after_calls log n).objects.buffers
    (after_calls log n).past
    (after_calls log (suc n)).objects.buffers (after_calls log (suc n)).past (turns_of log (suc n))
unfolding after_calls
step_at log n = one (suc n) (after_calls log n) (slice_get log n)
  where
    unless : (n : ℕ) (s : State) (i : Issued) (v : Option Refusal) → verdict_in s i ≡ v
        → Step n (shape_unless i.call v) (id_by i.call) s.objects.buffers s.past
        (unless_refused n s i v).objects.buffers (unless_refused n s i v).past (turns_unless n s i v)
    unless n s i (Some why) e = inl (record { buffers = refl; makers = λ res. refl; keeps = (refl, tt) })
    unless n s i None e = step_accepted n s i.context i.call e

    one : (n : ℕ) (s : State) (o : Option Issued)
        → Step n (shape_in s o) (id_in o) s.objects.buffers s.past (after_call n s o).objects.buffers
        (after_call n s o).past (turns_in n s o)
    one n s None = inl (record { buffers = refl; makers = λ res. refl; keeps = tt })
    one n s (Some i) = unless n s i (verdict_in s i) refl
