-- What is kept from call to call, after each sort of call.
use Rattle.std.proofs.Common.{◌≡◌, replicate, ℕ, zero, suc, ◌+◌, ◌-◌, ◌<◌, Bool, true, false, cond, List, [], ◌∷◌, ◌++◌, length, map, take, drop, Option, Some, None, refl, sym, ap, subst, inl, inr, ◌∙◌, arith, append-nil}
use Rattle.std.specs.Prelude.{IsSome, is_some, not, slice_index_or, slice_set}
use Rattle.std.specs.List.{All, filter_map}
use Rattle.std.specs.Ordering.{nat_cmp, eq_by_cmp}
use Rattle.std.proofs.lemmas.Bool.{cases_eq}
use Rattle.std.proofs.lemmas.List.Elements.{All-append}
use Rattle.std.proofs.lemmas.Bool.Decides.{nat_tests}
use Rattle.std.proofs.lemmas.List.{length-append, length-map}
use Rattle.dx_types.specs.declared.range.ResRange.{ResRange}
use Rattle.call_log.specs.Call as calls
use Rattle.call_log.specs.Call.{Call}
use Rattle.base_lemmas.specs.IdMap.{IdMap, empty, get, insert}
use Rattle.base_lemmas.proofs.Maps.{get-empty, get_other, get_same, other_key}
use Rattle.d3d_model.specs.Binding.{Bindings, default_bindings}
use Rattle.d3d_model.specs.D3dState.{Context, Numbered, Objects, bindings_of, calls_if, calls_of_list, context_of, default_context, no_objects}
use Rattle.d3d_model.specs.Effect.{deeds_by, executed, finished, list_start, objects_after, recorded_on}
use Rattle.d3d_model.specs.Past.{Deed, Past, then_done}
use Rattle.d3d_model.specs.Resource.{Buffers}
use Rattle.d3d_model.specs.Stream.{binds, deeds_of_list, set_by}
use Rattle.d3d_model.specs.Uses.{range_bound}
use Rattle.d3d_model.proofs.Listed.{own_checks}
use Rattle.d3d_model.proofs.Sized.{same_buffers_all}
use Rattle.d3d_model.proofs.Unchanged.{ListAgrees}
use Rattle.d3d_checks.specs.Accepted.{Accepted, Tells}
use Rattle.d3d_uses.specs.Summary.{Records, Summarises, Uses}
use Rattle.d3d_effects.specs.Listed.{KeepsList, bindings_after, bound_by_list, cut_at, ends_from, parts_from, parts_of_list}
use Rattle.d3d_effects.specs.declared.listed.ListUses.{ListUses}
use Rattle.d3d_effects.proofs.Parts.{kept_parts}
use Rattle.d3d_plan.specs.Keeping.{Grows, HoldsList, IsReached, Keeps, KeepsCall, is_of_list, piece_of}
use Rattle.d3d_plan.specs.Planned.{numbers}
use Rattle.d3d_plan.specs.Shown.{Holds, between, parts_at}
use Rattle.d3d_plan.specs.declared.kept.Kept.{Kept}
use Rattle.d3d_plan.specs.declared.tables.Piece.{Piece}
use Rattle.d3d_plan.specs.declared.tables.Tables.{Tables}
use Rattle.d3d_plan.proofs.Frozen.{are_set, list_stays, live_agrees, open_agrees, piece_stays}
use Rattle.d3d_plan.proofs.Moves.{listed_here, lists_executed, no_deeds_there, no_parts, none_listed, recorded_executed, recorded_here, recorded_there}
use Rattle.d3d_plan.proofs.Pieces.{between_own, between_same, grows_not, holds_more, holds_none}

-- ---- parts of what is kept

abbrev Opened : Objects → List ListUses → Type 0
Opened o ls = (x : ℕ) (d : ListUses) → x < 17 → KeepsList o (context_of o x).recorded (slice_index_or ls x d)

abbrev Listed : Objects → Tables → List (ℕ × Piece) → Type 0
Listed o t lists = (l : ℕ) (cs : List Numbered) → get o.lists l ≡ Some cs → HoldsList o cs t (piece_of lists l)

-- the open lists are those that there were
opened_stays : (o o' : Objects) (ls : List ListUses) → ((y : ℕ) → (context_of o' y).recorded ≡ (context_of o y).recorded) → ((y : ℕ) → ListAgrees o o' (context_of o y).recorded) → Opened o ls → Opened o' ls
opened_stays o o' ls same agrees h = λ x d below.
    subst (λ (cs : List Numbered). KeepsList o' cs (slice_index_or ls x d)) (sym (same x)) (list_stays o o' (context_of o x).recorded (slice_index_or ls x d) (agrees x) (h x d below))

holds_list_more : (o o' : Objects) (cs : List Numbered) (t more : Tables) (p : Option Piece) → ListAgrees o o' cs → Grows t more → HoldsList o cs t p → HoldsList o' cs more p
holds_list_more o o' cs t more None agrees g h = h
holds_list_more o o' cs t more (Some p) agrees g h = holds_more t more p _ _ _ g (piece_stays o o' cs t p agrees h)

-- no list is live that wasn't
listed_stays : (o o' : Objects) (t more : Tables) (lists : List (ℕ × Piece)) → ((l : ℕ) (cs : List Numbered) → get o'.lists l ≡ Some cs → get o.lists l ≡ Some cs)
    → ((l : ℕ) (cs : List Numbered) → get o.lists l ≡ Some cs → ListAgrees o o' cs) → Grows t more → Listed o t lists → Listed o' more lists
listed_stays o o' t more lists before agrees g h = λ l cs is.
    holds_list_more o o' cs t more (piece_of lists l) (agrees l cs (before l cs is)) g (h l cs (before l cs is))

-- ---- a call of the immediate context that is about no list

pub keeps_bound : (n : ℕ) (o : Objects) (c : Call) (old new : Kept) (p : Piece) (bound : List ResRange) → IsReached o → Accepted o 0 c → is_of_list c ≡ false
    → ((past : Past) → Tells past o old.uses → Tells (then_done n past (deeds_by o 0 c)) (objects_after n o 0 c) new.uses)
    → new.opened ≡ old.opened → new.lists.entries ≡ old.lists.entries → bound ≡ filter_map range_bound (deeds_by o 0 c)
    → new.tables.ranges.items ≡ old.tables.ranges.items ++ bound → new.tables.calls ≡ old.tables.calls → new.tables.ends ≡ old.tables.ends
    → p ≡ record { start = length old.tables.ranges.items; end = length new.tables.ranges.items; first = 0; last = 0 }
    → KeepsCall n o 0 c old new p
unfolding cut_at
keeps_bound n o c old new p bound r a e tells eo el own er ec ee is =
    let grows : Grows old.tables new.tables = record {
      ranges = (bound, er);
      calls = ([], ap (λ v. v.items) ec ∙ sym (append-nil old.tables.calls.items));
      ends = ([], ap (λ v. v.items) ee ∙ sym (append-nil old.tables.ends.items));
    } in
    record {
      keeps = λ past k. record {
        tells = tells past k.tells;
        many = ap (λ v. length v.items) eo ∙ k.many;
        opened = subst (λ v. Opened (objects_after n o 0 c) v.items) (sym eo)
            (opened_stays o (objects_after n o 0 c) old.opened.items (recorded_here n o c e) (open_agrees n o 0 c r a) k.opened);
        listed = subst (λ m. Listed (objects_after n o 0 c) new.tables m) (sym el)
            (listed_stays o (objects_after n o 0 c) old.tables new.tables old.lists.entries (listed_here n o c e) (live_agrees n o 0 c r a) grows k.listed);
        paired = ap (λ v. length v.items) ec ∙ k.paired ∙ sym (ap (λ v. length v.items) ee);
      };
      grows = grows;
      holds = λ past k. rw is (record {
        within = record { ordered = omega (arith, ap (λ (l : List ResRange). length l) er, length-append old.tables.ranges.items bound); ends = omega arith; listed = omega arith; calls = omega arith; marks = omega arith };
        bound = between_own old.tables.ranges.items bound new.tables.ranges.items _ _ er refl refl ∙ own;
        calls = ap numbers (sym (none_listed o 0 c e));
        parts = sym (no_parts o 0 c e);
      });
    }

-- ---- a call that is recorded

-- one context is changed, and what is kept of its open list
both_set : (P : Context → ListUses → Type 0) (cs : List Context) (ls : List ListUses) (x y : ℕ) (v dc : Context) (l d : ListUses) → x < length cs → x < length ls
    → P v l → (P (slice_index_or cs y dc) (slice_index_or ls y d)) → P (slice_index_or (slice_set cs x v) y dc) (slice_index_or (slice_set ls x l) y d)
both_set P [] ls x y v dc l d hc hl p h = absurd (omega arith)
both_set P (c ∷ cs) [] x y v dc l d hc hl p h = absurd (omega arith)
both_set P (c ∷ cs) (k ∷ ls) zero zero v dc l d hc hl p h = p
both_set P (c ∷ cs) (k ∷ ls) zero (suc y) v dc l d hc hl p h = h
both_set P (c ∷ cs) (k ∷ ls) (suc x) zero v dc l d hc hl p h = h
both_set P (c ∷ cs) (k ∷ ls) (suc x) (suc y) v dc l d hc hl p h = both_set P cs ls x y v dc l d (omega (arith, hc)) (omega (arith, hl)) p h

opened_set : (o o' : Objects) (x : ℕ) (v : Context) (ls : List ListUses) (l : ListUses) → o'.contexts ≡ slice_set o.contexts x v → length o.contexts ≡ 17 → length ls ≡ 17 → x < 17
    → ((y : ℕ) → ListAgrees o o' (context_of o y).recorded) → KeepsList o' v.recorded l → Opened o ls → Opened o' (slice_set ls x l)
opened_set o o' x v ls l e wide many below agrees own h = λ y d under.
    subst (λ (cs : List Context). KeepsList o' (slice_index_or cs y default_context).recorded (slice_index_or (slice_set ls x l) y d)) (sym e)
    (both_set (λ c k. KeepsList o' c.recorded k) o.contexts ls x y v default_context l d (omega (arith, below, wide)) (omega (arith, below, many)) own
    (list_stays o o' (context_of o y).recorded (slice_index_or ls y d) (agrees y) (h y d under)))

pub keeps_recorded : (n : ℕ) (o : Objects) (x : ℕ) (c : Call) (old new : Kept) (p : Piece) (l : ListUses) → IsReached o → Accepted o x c → (x ≡ 0 → ⊥) → is_of_list c ≡ false
    → length o.contexts ≡ 17 → x < 17
    → ((d : ListUses) (cs : List Numbered) → KeepsList o cs (slice_index_or old.opened.items x d) → bindings_of o x ≡ bindings_after o default_bindings cs → KeepsList o (cs ++ record { number = n; call = c } ∷ []) l)
    → new.opened.items ≡ slice_set old.opened.items x l → new.uses ≡ old.uses → new.lists.entries ≡ old.lists.entries → new.tables ≡ old.tables
    → p ≡ record { start = 0; end = 0; first = 0; last = 0 }
    → KeepsCall n o x c old new p
unfolding then_done
keeps_recorded n o x c old new p l r a apart e wide below more eo eu el et is =
    let o' = recorded_on n o x c in
    let after = recorded_there n o x c a apart e in
    let none = no_deeds_there o x c a apart e in
    let agrees : (y : ℕ) → ListAgrees o o' (context_of o y).recorded = λ y. subst (λ (k : Objects). ListAgrees o k (context_of o y).recorded) after (open_agrees n o x c r a y) in
    let live : (i : ℕ) (cs : List Numbered) → get o.lists i ≡ Some cs → ListAgrees o o' cs = λ i cs at. subst (λ (k : Objects). ListAgrees o k cs) after (live_agrees n o x c r a i cs at) in
    let own : Context = record { bindings = set_by o (bindings_of o x) c; recorded = (context_of o x).recorded ++ record { number = n; call = c } ∷ [] } in
    let same : ListAgrees o o' own.recorded = record { buffers = λ id named. refl; views = λ id named. refl } in
    record {
      keeps = λ past k.
          subst (λ (after : Objects). Keeps after (then_done n past (deeds_by o x c)) new) (sym after)
          (subst (λ (ds : List Deed). Keeps o' (then_done n past ds) new) (sym none)
          (record {
            tells = subst (λ (u : Uses). Tells past o' u) (sym eu) k.tells;
            many = ap (λ (ls : List ListUses). length ls) eo ∙ length-set_list old.opened.items x l ∙ k.many;
            opened = subst (λ (ls : List ListUses). Opened o' ls) (sym eo)
                (opened_set o o' x own old.opened.items l refl wide k.many below agrees
                (list_stays o o' own.recorded l same (more l (context_of o x).recorded (k.opened x l below) (are_set o r x apart))) k.opened);
            listed = subst (λ (m : List (ℕ × Piece)). Listed o' new.tables m) (sym el)
                (subst (λ (t : Tables). Listed o' t old.lists.entries) (sym et) (listed_stays o o' old.tables old.tables old.lists.entries (λ i cs at. at) live (grows_not old.tables) k.listed));
            paired = subst (λ (t : Tables). length t.calls.items ≡ length t.ends.items) (sym et) k.paired;
          }));
      grows = subst (λ (t : Tables). Grows old.tables t) (sym et) (grows_not old.tables);
      holds = λ past k.
          rw (none, none_listed o x c e, no_parts o x c e) (holds_none new.tables p is);
    }
  where
    length-set_list : (ls : List ListUses) (i : ℕ) (v : ListUses) → length (slice_set ls i v) ≡ length ls
    length-set_list [] i v = refl
    length-set_list (k ∷ ls) zero v = refl
    length-set_list (k ∷ ls) (suc i) v = ap suc (length-set_list ls i v)

-- ---- a list that is finished

same_key : (q : ℕ) → eq_by_cmp nat_cmp q q ≡ true
same_key q = grind (arith, nat_tests)

none_within : (start : ℕ) (ends : List ℕ) → cut_at start [] ends ≡ map (λ _. []) ends
unfolding cut_at
none_within start [] = refl
none_within start (e ∷ ends) = nothing (e - start) start (cut_at e [] ends) ∙ ap (λ (ps : List (List ResRange)). [] ∷ ps) (none_within e ends)
  where
    nothing : (k s : ℕ) (rest : List (List ResRange)) → take {A = ResRange} k (drop s []) ∷ rest ≡ [] ∷ rest
    nothing zero zero rest = refl
    nothing zero (suc s) rest = refl
    nothing (suc k) zero rest = refl
    nothing (suc k) (suc s) rest = refl

none_each : (n : ℕ) (o : Objects) (b : Bindings) (cs : List Numbered) → map {B = List ResRange} (λ _. []) (ends_from n (parts_from o b cs)) ≡ map (λ _. []) cs
unfolding ends_from parts_from
none_each n o b [] = refl
none_each n o b (c ∷ cs) = ap (λ (ps : List (List ResRange)). [] ∷ ps) (none_each (n + length (binds o b c.call)) o (set_by o b c.call) cs)

as_many : (n : ℕ) (o : Objects) (b : Bindings) (cs : List Numbered) → length (ends_from n (parts_from o b cs)) ≡ length cs
unfolding ends_from parts_from
as_many n o b [] = refl
as_many n o b (c ∷ cs) = ap suc (as_many (n + length (binds o b c.call)) o (set_by o b c.call) cs)

keeps_no_call : (o : Objects) (l : ListUses) → ((k : Objects) → KeepsList k [] l) → KeepsList o default_context.recorded l
keeps_no_call o l h = h o

some_back : {X : Type 0} (x y : X) → Some x ≡ Some y → x ≡ y
some_back x y e = cc

one_value : {X : Type 0} (m : IdMap X) (k l : ℕ) (v w : X) → l ≡ k → get (insert m k v) l ≡ Some w → v ≡ w
one_value m k l v w same e = some_back v w (sym (get_same m k v) ∙ ap (get (insert m k v)) (sym same) ∙ e)

-- the piece of a list that is appended to the tables
pub appended : (o : Objects) (cs : List Numbered) (t more : Tables) (l : ListUses) (p : Piece) → KeepsList o cs l → length t.calls.items ≡ length t.ends.items
    → more.ranges.items ≡ t.ranges.items ++ l.ranges.items → more.calls.items ≡ t.calls.items ++ l.calls.items → more.ends.items ≡ t.ends.items ++ l.ends.items
    → p ≡ record { start = length t.ranges.items; end = length more.ranges.items; first = length t.calls.items; last = length more.calls.items }
    → Holds more p (bound_by_list o cs) (numbers cs) (parts_of_list o cs) × (length more.calls.items ≡ length more.ends.items)
    × Holds more (record p { end = p.start }) [] (numbers cs) (map (λ _. []) cs)
appended o cs t more l p k paired er ec ee is =
    let named : length l.calls.items ≡ length cs = ap (λ (ns : List ℕ). length ns) k.numbers ∙ length-map cs (λ (c : Numbered). c.number) in
    let marked : length l.ends.items ≡ length cs = ap (λ (ns : List ℕ). length ns) k.ends ∙ as_many 0 o default_bindings cs in
    let both : length more.calls.items ≡ length more.ends.items =
    omega (arith, paired, named, marked, ap (λ (ns : List ℕ). length ns) ec, ap (λ (ns : List ℕ). length ns) ee, length-append t.calls.items l.calls.items, length-append t.ends.items l.ends.items) in
    let bound : between more.ranges.items (length t.ranges.items) (length more.ranges.items) ≡ l.ranges.items = between_own t.ranges.items l.ranges.items more.ranges.items _ _ er refl refl in
    let calls : between more.calls.items (length t.calls.items) (length more.calls.items) ≡ l.calls.items = between_own t.calls.items l.calls.items more.calls.items _ _ ec refl refl in
    let ends : between more.ends.items (length t.calls.items) (length more.calls.items) ≡ l.ends.items = between_own t.ends.items l.ends.items more.ends.items _ _ ee paired both in
    let whole = kept_parts o cs l k in
    rw is (
      record {
        within = record {
          ordered = omega (arith, ap (λ (rs : List ResRange). length rs) er, length-append t.ranges.items l.ranges.items);
          ends = omega arith;
          listed = omega (arith, ap (λ (ns : List ℕ). length ns) ec, length-append t.calls.items l.calls.items);
          calls = omega arith;
          marks = omega (arith, both);
        };
        bound = bound ∙ k.bound;
        calls = calls ∙ k.numbers;
        parts = ap (λ (rs : List ResRange). cut_at 0 rs (between more.ends.items (length t.calls.items) (length more.calls.items))) bound ∙ ap (cut_at 0 l.ranges.items) ends ∙ whole;
      },
      both,
      record {
        within = record {
          ordered = omega arith;
          ends = omega (arith, ap (λ (rs : List ResRange). length rs) er, length-append t.ranges.items l.ranges.items);
          listed = omega (arith, ap (λ (ns : List ℕ). length ns) ec, length-append t.calls.items l.calls.items);
          calls = omega arith;
          marks = omega (arith, both);
        };
        bound = between_same more.ranges.items (length t.ranges.items);
        calls = calls ∙ k.numbers;
        parts =
            ap (λ (rs : List ResRange). cut_at 0 rs (between more.ends.items (length t.calls.items) (length more.calls.items))) (between_same more.ranges.items (length t.ranges.items))
            ∙ ap (cut_at 0 []) (ends ∙ k.ends) ∙ none_within 0 (ends_from 0 (parts_of_list o cs)) ∙ none_each 0 o default_bindings cs;
      },
    )

pub keeps_finished : (n : ℕ) (o : Objects) (x list : ℕ) (old new : Kept) (own none : ListUses) (p : Piece) → IsReached o → length o.contexts ≡ 17 → Accepted o x (calls.FinishList list) → x < 17
    → own ≡ slice_index_or old.opened.items x own → ((k : Objects) → KeepsList k [] none)
    → new.opened.items ≡ slice_set old.opened.items x none → new.uses ≡ old.uses
    → new.tables.ranges.items ≡ old.tables.ranges.items ++ own.ranges.items → new.tables.calls.items ≡ old.tables.calls.items ++ own.calls.items → new.tables.ends.items ≡ old.tables.ends.items ++ own.ends.items
    → p ≡ record { start = length old.tables.ranges.items; end = length new.tables.ranges.items; first = length old.tables.calls.items; last = length new.tables.calls.items }
    → ((l : ℕ) → piece_of new.lists.entries l ≡ cond (eq_by_cmp nat_cmp list l) (Some p) (piece_of old.lists.entries l))
    → KeepsCall n o x (calls.FinishList list) old new (record p { end = p.start })
unfolding then_done
keeps_finished n o x list old new own none p r wide a below is empty eo eu er ec ee piece lists =
    let c = calls.FinishList list in
    let o' = finished o x list in
    let cs = (context_of o x).recorded in
    let agrees = open_agrees n o x c r a in
    let live = live_agrees n o x c r a in
    let grows : Grows old.tables new.tables = record { ranges = (own.ranges.items, er); calls = (own.calls.items, ec); ends = (own.ends.items, ee) } in
    let kept : (past : Past) → Keeps o past old → KeepsList o cs own = λ past k. subst (λ (l : ListUses). KeepsList o cs l) (sym is) (k.opened x own below) in
    let made = λ (past : Past) (k : Keeps o past old). appended o cs old.tables new.tables own p (kept past k) k.paired er ec ee piece in
    record {
      keeps = λ past k. record {
        tells = subst (λ (u : Uses). Tells past o' u) (sym eu) k.tells;
        many = ap (λ (ls : List ListUses). length ls) eo ∙ set_many old.opened.items x none ∙ k.many;
        opened = subst (λ (ls : List ListUses). Opened o' ls) (sym eo) (opened_set o o' x default_context old.opened.items none refl wide k.many below agrees (empty o') k.opened);
        listed = λ l ds at. elim (cases_eq list l) [
          | inl same ↦
              subst (λ (q : Option Piece). HoldsList o' ds new.tables q) (sym (lists l ∙ ap (λ (b : Bool). cond b (Some p) (piece_of old.lists.entries l)) (ap (λ (q : ℕ). eq_by_cmp nat_cmp q l) same ∙ same_key l)))
              (subst (λ (ks : List Numbered). HoldsList o' ks new.tables (Some p)) (one_value o.lists list l cs ds (sym same) at)
              (piece_stays o o' cs new.tables p (agrees x) (made past k).0))
          | inr apart ↦
              let before : get o.lists l ≡ Some ds = sym (get_other o.lists list cs l (λ e. apart (sym e))) ∙ at in
              subst (λ (q : Option Piece). HoldsList o' ds new.tables q) (sym (lists l ∙ ap (λ (b : Bool). cond b (Some p) (piece_of old.lists.entries l)) (other_key list l apart)))
              (holds_list_more o o' ds old.tables new.tables (piece_of old.lists.entries l) (live l ds before) grows (k.listed l ds before))
        ];
        paired = (made past k).1;
      };
      grows = grows;
      holds = λ past k. (made past k).2;
    }
  where
    set_many : (ls : List ListUses) (i : ℕ) (v : ListUses) → length (slice_set ls i v) ≡ length ls
    set_many [] i v = refl
    set_many (k ∷ ls) zero v = refl
    set_many (k ∷ ls) (suc i) v = ap suc (set_many ls i v)

-- ---- a list that is executed

tells_more : (n : ℕ) (past : Past) (o o' : Objects) (old new : Uses) (ds : List Deed) → o'.buffers ≡ o.buffers → Records old n ds new → Tells past o old → Tells (then_done n past ds) o' new
tells_more n past o o' old new ds same records tells = λ res live. records past res (tells res (subst (λ (b : Buffers). IsSome (get b res)) same live))

-- the piece of a live list
pub holds_live : (o : Objects) (past : Past) (k : Kept) (list : ℕ) (cs : List Numbered) (p : Piece) → Keeps o past k → get o.lists list ≡ Some cs → piece_of k.lists.entries list ≡ Some p
    → Holds k.tables p (bound_by_list o (calls_of_list o list)) (numbers (calls_of_list o list)) (parts_of_list o (calls_of_list o list))
holds_live o past k list cs p keeps live at =
    subst (λ (ds : List Numbered). Holds k.tables p (bound_by_list o ds) (numbers ds) (parts_of_list o ds)) (sym (ap calls_if live))
    (subst (λ (q : Option Piece). HoldsList o cs k.tables q) at (keeps.listed list cs live))

pub none_held : (o : Objects) (past : Past) (k : Kept) (list : ℕ) (cs : List Numbered) → Keeps o past k → get o.lists list ≡ Some cs → piece_of k.lists.entries list ≡ None → ⊥
none_held o past k list cs keeps live at = subst (λ (q : Option Piece). HoldsList o cs k.tables q) at (keeps.listed list cs live)

some_of : {X : Type 0} (o : Option X) → not (is_some o) ≡ false → (x : X) × (o ≡ Some x)
some_of None e = absurd cc
some_of (Some x) e = (x, refl)

-- a list that is executed is live
pub is_live : (o : Objects) (x list flag : ℕ) → Accepted o x (calls.ExecuteList list flag) → (cs : List Numbered) × (get o.lists list ≡ Some cs)
is_live o x list flag a = some_of (get o.lists list) (own_checks o a.past x (calls.ExecuteList list flag) a.passes).0

pub keeps_executed : (n : ℕ) (o : Objects) (list flag : ℕ) (old new : Kept) (p : Piece) → IsReached o → Accepted o 0 (calls.ExecuteList list flag)
    → (parts_at old.tables p ≡ parts_of_list o (calls_of_list o list) → Records old.uses n (deeds_of_list o (calls_of_list o list)) new.uses)
    → new.opened ≡ old.opened → new.lists.entries ≡ old.lists.entries → new.tables ≡ old.tables → piece_of old.lists.entries list ≡ Some p
    → KeepsCall n o 0 (calls.ExecuteList list flag) old new p
keeps_executed n o list flag old new p r a records eo el et at =
    let c = calls.ExecuteList list flag in
    let o' = executed n o list flag in
    let live = is_live o 0 list flag a in
    record {
      keeps = λ past k.
          let h = holds_live o past old list live.0 p k live.1 at in
          record {
            tells = tells_more n past o o' old.uses new.uses (deeds_of_list o (calls_of_list o list)) (same_buffers_all n (list_start o) (calls_of_list o list)) (records h.parts) k.tells;
            many = ap (λ v. length v.items) eo ∙ k.many;
            opened = subst (λ v. Opened o' v.items) (sym eo) (opened_stays o o' old.opened.items (recorded_executed n o list flag) (open_agrees n o 0 c r a) k.opened);
            listed = subst (λ (m : List (ℕ × Piece)). Listed o' new.tables m) (sym el)
                (subst (λ (t : Tables). Listed o' t old.lists.entries) (sym et)
                (listed_stays o o' old.tables old.tables old.lists.entries (λ l cs is. ap (λ (m : IdMap (List Numbered)). get m l) (sym (lists_executed n o list flag)) ∙ is) (live_agrees n o 0 c r a) (grows_not old.tables) k.listed));
            paired = subst (λ (t : Tables). length t.calls.items ≡ length t.ends.items) (sym et) k.paired;
          };
      grows = subst (λ (t : Tables). Grows old.tables t) (sym et) (grows_not old.tables);
      holds = λ past k.
          subst (λ (t : Tables). Holds t p (bound_by_list o (calls_of_list o list)) (numbers (calls_of_list o list)) (parts_of_list o (calls_of_list o list))) (sym et)
          (holds_live o past old list live.0 p k live.1 at);
    }

-- ---- before the first call

none_recorded : (n x : ℕ) → (slice_index_or (replicate n default_context) x default_context).recorded ≡ []
none_recorded zero x = refl
none_recorded (suc n) zero = refl
none_recorded (suc n) (suc x) = none_recorded n x

no_list : (o : Option (List Numbered)) (cs : List Numbered) → o ≡ None → o ≡ Some cs → ⊥
no_list o cs e f = cc

pub keeps_nothing : (k : Kept) → ((res : ℕ) → Summarises [] k.uses res) → length k.opened.items ≡ 17 → All (λ (d : ListUses). (o : Objects) → KeepsList o [] d) k.opened.items
    → k.tables.calls.items ≡ [] → k.tables.ends.items ≡ [] → Keeps no_objects [] k
keeps_nothing k uses many opened calls ends = record {
  tells = λ res live. uses res;
  many = many;
  opened = λ x d below.
      subst (λ (cs : List Numbered). KeepsList no_objects cs (slice_index_or k.opened.items x d)) (sym (none_recorded 17 x)) (opened x d (omega (arith, below, many)) no_objects);
  listed = λ l cs at. absurd (no_list (get (empty {X = List Numbered}) l) cs (get-empty (List Numbered) l) at);
  paired = ap (λ (ns : List ℕ). length ns) calls ∙ sym (ap (λ (ns : List ℕ). length ns) ends);
}

-- one more open list of which nothing is kept
pub one_opened : (ls : List ListUses) (d : ListUses) → ((o : Objects) → KeepsList o [] d) → All (λ (k : ListUses). (o : Objects) → KeepsList o [] k) ls
    → All (λ (k : ListUses). (o : Objects) → KeepsList o [] k) (ls ++ d ∷ [])
one_opened ls d h all = All-append (λ (k : ListUses). (o : Objects) → KeepsList o [] k) ls (d ∷ []) all (single d h)
  where
    single : (d : ListUses) → ((o : Objects) → KeepsList o [] d) → All (λ (k : ListUses). (o : Objects) → KeepsList o [] k) (d ∷ [])
    single d h zero e below = h
    single d h (suc k) e below = absurd (omega (arith, below))

pub none_opened : All (λ (k : ListUses). (o : Objects) → KeepsList o [] k) []
none_opened = λ k d below. absurd (omega (arith, below))

-- an open list that there is, with any default
pub any_default : (ls : List ListUses) (i : ℕ) (d e : ListUses) → i < length ls → slice_index_or ls i d ≡ slice_index_or ls i e
any_default [] i d e below = absurd (omega (arith, below))
any_default (l ∷ ls) zero d e below = refl
any_default (l ∷ ls) (suc i) d e below = any_default ls i d e (omega (arith, below))
