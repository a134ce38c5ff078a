-- An accepted call changes no buffer and no view that an open or a live list names, and so nothing that a list binds.
use Rattle.std.proofs.Common.{◌≡◌, ℕ, Bool, true, false, not, ◌||◌, cond, List, [], ◌∷◌, Some, None, refl, ap, ◌∙◌, subst}
use Rattle.std.specs.Prelude.{◌==◌, if◌then◌else◌}
use Rattle.std.proofs.lemmas.Bool.{eqb-true}
use Rattle.dx_types.specs.declared.refusal.Refusal.TheVariants.{BadUsage}
use Rattle.call_log.specs.Call as calls
use Rattle.call_log.specs.Call.{Call}
use Rattle.base_lemmas.specs.IdMap.{IdMap, get, remove}
use Rattle.d3d_model.specs.Check.{Check, is_id}
use Rattle.d3d_model.specs.Binding.{holds_buffer, holds_view}
use Rattle.d3d_model.specs.D3dState.{Objects, Numbered, context_of, calls_of_list}
use Rattle.d3d_model.specs.Past.{Past}
use Rattle.d3d_model.specs.Stream.{list_names, is_listed, deeds_of_list}
use Rattle.d3d_model.specs.Verdict.{is_live_buffer, is_live_view, call_checks, unused_buffer, unused_view, unused_shader, unused_query, known_list, is_set, has_view, verdict}
use Rattle.d3d_model.specs.Effect.{played, played_all, list_start, recorded_on, objects_after}
use Rattle.base_lemmas.proofs.Maps.{get-remove, get_other, other_key}
use Rattle.d3d_model.proofs.Checked.{Passed}
use Rattle.d3d_model.proofs.Sized.{same_buffers_all}
use Rattle.d3d_model.proofs.Named.{none_of}
use Rattle.d3d_model.proofs.Listed.{ListLive, ListsLive, Member, opened_member, listed_member, apart_from, left_of, own_checks}
use Rattle.d3d_model.proofs.Frozen.{Agrees, same_list}

abbrev pub ListAgrees : Objects → Objects → List Numbered → Type 0
ListAgrees o o' cs = Agrees o o' (λ class id. list_names class id cs)

no_id : (k : ℕ) (live : Bool) → not (is_id k) ≡ false → live ≡ false → (k == 0) || live ≡ true → ⊥
no_id k true a b e = cc
no_id k false a b e = zero_is_none k (k == 0) refl (right_none (k == 0) e) a
  where
    right_none : (b : Bool) → b || false ≡ true → b ≡ true
    right_none true e = refl
    right_none false e = e

    zero_is_none : (k : ℕ) (b : Bool) → (k == 0) ≡ b → b ≡ true → not (is_id k) ≡ false → ⊥
    zero_is_none k b e t a =
        let z : k ≡ 0 = eqb-true k 0 (e ∙ t) in
        let bad : not (is_id 0) ≡ false = subst (λ (j : ℕ). not (is_id j) ≡ false) z a in
        cc

-- an id that is made anew is not one that was live
fresh : (live : ℕ → Bool) (k id : ℕ) → not (is_id k) ≡ false → live k ≡ false → (id == 0) || live id ≡ true → id ≡ k → ⊥
fresh live k id a b e same = no_id k (live k) a b (subst (λ (j : ℕ). (j == 0) || live j ≡ true) same e)

same_removed : {X : Type 0} (m : IdMap X) (k q : ℕ) → (q ≡ k → ⊥) → get (remove m k) q ≡ get m q
same_removed m k q apart = get-remove m k q ∙ ap (λ b. cond b None (get m q)) (other_key q k apart)

destroyed_if : (t1 t2 t3 t4 : Bool) (o : Objects) (i : ℕ) (last : List Check)
    → Passed (if t1 then unused_buffer o i else if t2 then unused_view o i else if t3 then unused_shader o i else if t4 then unused_query o i else last)
    → (cs : List Numbered) → Member o cs
    → ListAgrees o (if t1 then record o { buffers = remove o.buffers i } else if t2 then record o { views = remove o.views i } else if t3 then record o { shaders = remove o.shaders i } else if t4 then record o { queries = remove o.queries i } else record o { lists = remove o.lists i }) cs
destroyed_if true t2 t3 t4 o i last p cs none =
    let unlisted : is_listed o 1 i ≡ false = none_of (is_set o (λ b. holds_buffer b i)) (is_listed o 1 i) (left_of (is_set o (λ b. holds_buffer b i) || is_listed o 1 i) (has_view o i) p.1.0) in
    record { buffers = λ id named. same_removed o.buffers i id (apart_from cs 1 i 1 id (none 1 i unlisted) named refl); views = λ id named. refl }
destroyed_if false true t3 t4 o i last p cs none =
    let unlisted : is_listed o 2 i ≡ false = none_of (is_set o (λ b. holds_view b i)) (is_listed o 2 i) p.1.0 in
    record { buffers = λ id named. refl; views = λ id named. same_removed o.views i id (apart_from cs 2 i 2 id (none 2 i unlisted) named refl) }
destroyed_if false false true t4 o i last p cs none = record { buffers = λ id named. refl; views = λ id named. refl }
destroyed_if false false false true o i last p cs none = record { buffers = λ id named. refl; views = λ id named. refl }
destroyed_if false false false false o i last p cs none = record { buffers = λ id named. refl; views = λ id named. refl }

pub same_views_all : (n : ℕ) (o : Objects) (cs : List Numbered) → (played_all n o cs).views ≡ o.views
same_views_all n o [] = refl
same_views_all n o (c ∷ cs) = same_views_all n (played n o c.call) cs

agrees_same : (o o' : Objects) (cs : List Numbered) → o'.buffers ≡ o.buffers → o'.views ≡ o.views → ListAgrees o o' cs
agrees_same o o' cs e f = record { buffers = λ id named. ap (λ m. get m id) e; views = λ id named. ap (λ m. get m id) f }

agrees_each : (n : ℕ) (o : Objects) (x : ℕ) (c : Call) (cs : List Numbered) → ListAgrees o (if x == 0 then played n o c else recorded_on n o x c) cs
agrees_each n o x c cs = elim (x == 0) as (λ b. ListAgrees o (if b then played n o c else recorded_on n o x c) cs) [
  | true ↦ agrees_same o (played n o c) cs refl refl
  | false ↦ agrees_same o (recorded_on n o x c) cs refl refl
]

pub agrees_after : (n : ℕ) (o : Objects) (past : Past) (x : ℕ) (c : Call) → Passed (call_checks o past x c) → (cs : List Numbered) → ListLive o cs → Member o cs → ListAgrees o (objects_after n o x c) cs
agrees_after n o past x (calls.Buffer k size usage bind misc stride bytes) p cs live none =
    record { buffers = λ id named. get_other o.buffers k _ id (fresh (is_live_buffer o) k id p.0 p.1.0 (live 1 id named)); views = λ id named. refl }
agrees_after n o past x (calls.View k res kind form components first count) p cs live none =
    record { buffers = λ id named. refl; views = λ id named. get_other o.views k _ id (fresh (is_live_view o) k id p.0 p.1.1.0 (live 2 id named)) }
agrees_after n o past x (calls.CreateShader id words) p cs live none = agrees_same o (objects_after n o x (calls.CreateShader id words)) cs refl refl
agrees_after n o past x (calls.Query id sort) p cs live none = agrees_same o (objects_after n o x (calls.Query id sort)) cs refl refl
agrees_after n o past x (calls.Destroy class id) p cs live none =
    destroyed_if (class == 1) (class == 2) (class == 3) (class == 4) o id (if class == 5 then known_list o id else (true, BadUsage) ∷ []) p cs none
agrees_after n o past x (calls.MapRead res flag offset len) p cs live none = agrees_same o o cs refl refl
agrees_after n o past x (calls.GetData query flag) p cs live none = agrees_same o o cs refl refl
agrees_after n o past x calls.Flush p cs live none = agrees_same o o cs refl refl
agrees_after n o past x (calls.ExecuteList list flag) p cs live none =
    agrees_same o (objects_after n o x (calls.ExecuteList list flag)) cs (same_buffers_all n (list_start o) (calls_of_list o list)) (same_views_all n (list_start o) (calls_of_list o list))
agrees_after n o past x (calls.FinishList list) p cs live none = agrees_same o (objects_after n o x (calls.FinishList list)) cs refl refl
agrees_after n o past x c p cs live none = agrees_each n o x c cs

-- what the calls of an open list bind is not changed by an accepted call
pub opened_frozen : (n : ℕ) (o : Objects) (past : Past) (x : ℕ) (c : Call) → verdict o past (record { context = x; call = c }) ≡ None → ListsLive o
    → (y : ℕ) → deeds_of_list (objects_after n o x c) (context_of o y).recorded ≡ deeds_of_list o (context_of o y).recorded
opened_frozen n o past x c e h y =
    same_list o (objects_after n o x c) (context_of o y).recorded (agrees_after n o past x c (own_checks o past x c e) (context_of o y).recorded (h.opened y) (opened_member o y))

-- and what those of a live list bind
pub listed_frozen : (n : ℕ) (o : Objects) (past : Past) (x : ℕ) (c : Call) → verdict o past (record { context = x; call = c }) ≡ None → ListsLive o
    → (l : ℕ) (cs : List Numbered) → get o.lists l ≡ Some cs → deeds_of_list (objects_after n o x c) cs ≡ deeds_of_list o cs
listed_frozen n o past x c e h l cs is =
    same_list o (objects_after n o x c) cs (agrees_after n o past x c (own_checks o past x c e) cs (h.listed l cs is) (listed_member o l cs is))
