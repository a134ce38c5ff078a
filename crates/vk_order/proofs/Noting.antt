-- What an index knows stays true as operations are noted.
use Rattle.std.proofs.Common.{◌≡◌, ℕ, ◌+◌, ◌<◌, ◌≤◌, Bool, List, length, Some, slice_get, slice_index, refl, sym, ap, subst, ◌∙◌, ◌⊎◌, inl, inr, get_or, arith}
use Rattle.std.proofs.lemmas.Bool.{cases_lt}
use Rattle.std.proofs.lemmas.Option.{slice_get_within, slice_get-get_or}
use Rattle.vk_types.specs.declared.touch.Touch.{Touch}
use Rattle.vk_types.specs.declared.command.Command.{Command}
use Rattle.vk_types.specs.declared.op.Barrier.{Barrier}
use Rattle.vk_types.specs.declared.op.VkOp.{VkOp}
use Rattle.vk_types.specs.declared.op.VkOp.TheVariants as op
use Rattle.vk_order.specs.declared.classes.Second.{Second}
use Rattle.vk_order.specs.declared.classes.Stages.{Stages}
use Rattle.vk_order.specs.declared.layers.Layer.{Layer}
use Rattle.vk_order.specs.declared.index.Index.{Index}
use Rattle.vk_order.specs.declared.tree.Reach.{Reach}
use Rattle.vk_order.specs.declared.tree.MaxTree.{MaxTree}
use Rattle.vk_order.specs.Classes.{covers, shows_host, stages_of}
use Rattle.vk_order.specs.Cuts.{IsReach}
use Rattle.vk_order.specs.Layers.{IsLast, AreLasts, HasPassed, WasPassed}
use Rattle.vk_order.specs.Index.{IsSound, IsNotedOver, HasTouch, AreNoted, IsStillThere, HasNoLasts, WasThere, IndexGrew, IndexPassed, IsNoted, IndexHolds}
use Rattle.vk_order.specs.Tree.{MarksGrew}
use Rattle.vk_order.proofs.Trees.{tree_grew, tree_same, tree_more}

-- Touches that are noted stay so -----------------------------------------------------------------------------------------

noted_grew : (old new : MaxTree) (reach : Reach) (number : ℕ) → MarksGrew old new → IsNotedOver old reach number → IsNotedOver new reach number
noted_grew old new reach number g h i from to within = let w = g.width in tree_grew old new i number g (h i from to (omega (arith, within, w)))

pub touch_kept : (old new : Index) (s : Stages) (t : Touch) (past finish : ℕ) → new.cuts ≡ old.cuts
    → ((n : ℕ) (l : Layer) → slice_get old.layers.items n ≡ Some l → IsStillThere new.layers.items n l) → new.hosted ≡ old.hosted → MarksGrew old.touched new.touched → MarksGrew old.written new.written
    → HasTouch old s t past finish → HasTouch new s t past finish
touch_kept old new s t past finish cuts layers hosted touched written h =
    let k = layers h.number h.layer h.there in
    record {
      number = h.number;
      layer = k.layer;
      there = k.there;
      first = k.first ∙ h.first;
      reach = h.reach;
      reaches = subst (λ cs. IsReach cs.items t.range h.reach) (sym cuts) h.reaches;
      marked = noted_grew h.layer.marks k.layer.marks h.reach past k.grew h.marked;
      touched = λ on. noted_grew old.touched new.touched h.reach finish touched (h.touched (sym hosted ∙ on));
      written = λ on w. noted_grew old.written new.written h.reach finish written (h.written (sym hosted ∙ on) w);
    }

pub touch_grew : (old new : Index) (s : Stages) (t : Touch) (past finish : ℕ) → IndexGrew old new → HasTouch old s t past finish → HasTouch new s t past finish
touch_grew old new s t past finish g h = touch_kept old new s t past finish g.cuts g.layers g.hosted g.touched g.written h

-- the layers that passed are still there
pub passed_there : (old new : Index) (b : Barrier) (past : ℕ) → IndexPassed old new b past → (n : ℕ) (l : Layer) → slice_get old.layers.items n ≡ Some l → IsStillThere new.layers.items n l
passed_there old new b past p n l e =
    let within : n < length new.layers.items = let w = slice_get_within old.layers.items n l e in let k = p.len in omega (arith, w, k) in
    let m = get_or new.layers.items n l in
    let there = slice_get-get_or new.layers.items n l within in
    let was = p.layers n m there in
    let same : was.before ≡ l = let h : Some was.before ≡ Some l = sym was.was ∙ e in cc h in
    let first : m.first ≡ l.first = was.passed.first ∙ ap (λ (k : Layer). k.first) same in
    let marks : m.marks ≡ l.marks = was.passed.marks ∙ ap (λ (k : Layer). k.marks) same in
    record { layer = m; there = there; first = first; grew = subst (λ (t : MaxTree). MarksGrew l.marks t) (sym marks) (tree_same l.marks) }

pub touch_passed : (old new : Index) (b : Barrier) (passing : ℕ) (s : Stages) (t : Touch) (past finish : ℕ) → IndexPassed old new b passing → HasTouch old s t past finish → HasTouch new s t past finish
touch_passed old new b passing s t past finish p h =
    touch_kept old new s t past finish p.cuts (passed_there old new b passing p) p.hosted
    (subst (λ (u : MaxTree). MarksGrew old.touched u) (sym p.touched) (tree_same old.touched)) (subst (λ (u : MaxTree). MarksGrew old.written u) (sym p.written) (tree_same old.written)) h

-- An index that grew twice -------------------------------------------------------------------------------------------------

pub index_same : (index : Index) → IndexGrew index index
index_same index = record {
  cuts = refl;
  seconds = refl;
  layers = λ n l e. record { layer = l; there = e; first = refl; grew = tree_same l.marks };
  lasts = λ n l e. inr (record { layer = l; there = e; first = refl; lasts = refl; host = refl });
  hosted = refl;
  touched = tree_same index.touched;
  written = tree_same index.written;
}

pub index_more : (a b c : Index) → IndexGrew a b → IndexGrew b c → IndexGrew a c
index_more a b c g h = record {
  cuts = h.cuts ∙ g.cuts;
  seconds = h.seconds ∙ g.seconds;
  layers = λ n l e.
      let k = g.layers n l e in
      let m = h.layers n k.layer k.there in
      record { layer = m.layer; there = m.there; first = m.first ∙ k.first; grew = tree_more l.marks k.layer.marks m.layer.marks k.grew m.grew };
  lasts = λ n l e. back n l (h.lasts n l e);
  hosted = h.hosted ∙ g.hosted;
  touched = tree_more a.touched b.touched c.touched g.touched h.touched;
  written = tree_more a.written b.written c.written g.written h.written;
}
  where
    back : (n : ℕ) (l : Layer) → HasNoLasts l ⊎ WasThere b.layers.items n l → HasNoLasts l ⊎ WasThere a.layers.items n l
    back n l (inl none) = inl none
    back n l (inr was) = further (g.lasts n was.layer was.there)
      where
        further : HasNoLasts was.layer ⊎ WasThere a.layers.items n was.layer → HasNoLasts l ⊎ WasThere a.layers.items n l
        further (inl none) = inl (λ k. ap (λ v. slice_index v.items k) was.lasts ∙ none.0 k, was.host ∙ none.1)
        further (inr w) = inr (record { layer = w.layer; there = w.there; first = was.first ∙ w.first; lasts = was.lasts ∙ w.lasts; host = was.host ∙ w.host })

-- the touches before one, and that one
pub touches_more : (old new : Index) (s : Stages) (ts : List Touch) (i past finish : ℕ) (u : Touch) → slice_get ts i ≡ Some u → IndexGrew old new → HasTouch new s u past finish
    → ((j : ℕ) (t : Touch) → j < i → slice_get ts j ≡ Some t → HasTouch old s t past finish) → (j : ℕ) (t : Touch) → j < i + 1 → slice_get ts j ≡ Some t → HasTouch new s t past finish
touches_more old new s ts i past finish u there g noted h j t l e =
    elim (cases_lt j i) [
      | inl less ↦ touch_grew old new s t past finish g (h j t less e)
      | inr ge ↦
          let same : j ≡ i = omega (arith, l, ge) in
          let k : Some u ≡ Some t = sym there ∙ (ap (slice_get ts) (sym same) ∙ e) in
          let is : u ≡ t = cc k in
          subst (λ (v : Touch). HasTouch new s v past finish) is noted
    ]

-- where there is none at a place
pub touches_end : (index : Index) (s : Stages) (ts : List Touch) (i past finish : ℕ) → ((t : Touch) → slice_get ts i ≡ Some t → ⊥)
    → ((j : ℕ) (t : Touch) → j < i → slice_get ts j ≡ Some t → HasTouch index s t past finish) → (j : ℕ) (t : Touch) → j < i + 1 → slice_get ts j ≡ Some t → HasTouch index s t past finish
touches_end index s ts i past finish none h j t l e =
    elim (cases_lt j i) [
      | inl less ↦ h j t less e
      | inr ge ↦ let same : j ≡ i = omega (arith, l, ge) in absurd (none t (ap (slice_get ts) (sym same) ∙ e))
    ]

-- The latest barriers ------------------------------------------------------------------------------------------------------

last_more : (test : Barrier → Bool) (ops : List VkOp) (y z past : ℕ) → y ≤ z → IsLast test ops y past → IsLast test ops z past
last_more test ops y z past le h = let b = h.below in record { below = omega (arith, b, le); barrier = h.barrier }

no_last : (test : Barrier → Bool) (ops : List VkOp) (y past : ℕ) → past ≡ 0 → IsLast test ops y past
no_last test ops y past e = record { below = omega (arith, e); barrier = inl e }

last_passed : (test : Barrier → Bool) (ops : List VkOp) (y old new : ℕ) (b : Barrier) → slice_get ops y ≡ Some (op.Barrier b) → HasPassed test b (y + 1) old new → IsLast test ops y old → IsLast test ops (y + 1) new
last_passed test ops y old new b there (inl same) h = subst (λ (n : ℕ). IsLast test ops (y + 1) n) (sym same) (last_more test ops y (y + 1) old (omega arith) h)
last_passed test ops y old new b there (inr p) h =
    let e = p.0 in
    record { below = omega (arith, e); barrier = inr (record { place = y; barrier = b; past_is = e; there = there; passes = p.1 }) }

lasts_more : (ops : List VkOp) (seconds : List Second) (y z : ℕ) (l : Layer) → y ≤ z → AreLasts ops seconds y l → AreLasts ops seconds z l
lasts_more ops seconds y z l le h = record {
  lasts = λ k s e. last_more (covers l.first s) ops y z (slice_index l.lasts.items k) le (h.lasts k s e);
  host = last_more (shows_host l.first) ops y z l.to_host le h.host;
}

lasts_grew : (ops : List VkOp) (seconds : List Second) (y : ℕ) (layers : List Layer) (n : ℕ) (l : Layer)
    → ((n : ℕ) (m : Layer) → slice_get layers n ≡ Some m → AreLasts ops seconds y m) → HasNoLasts l ⊎ WasThere layers n l → AreLasts ops seconds y l
lasts_grew ops seconds y layers n l h (inl none) = record {
  lasts = λ k s e. no_last (covers l.first s) ops y (slice_index l.lasts.items k) (none.0 k);
  host = no_last (shows_host l.first) ops y l.to_host none.1;
}
lasts_grew ops seconds y layers n l h (inr was) =
    let b = h n was.layer was.there in
    record {
      lasts = λ k s e.
          subst (λ f. IsLast (covers f s) ops y (slice_index l.lasts.items k)) (sym was.first)
          (subst (λ (p : ℕ). IsLast (covers was.layer.first s) ops y p) (sym (ap (λ v. slice_index v.items k) was.lasts)) (b.lasts k s e));
      host = subst (λ f. IsLast (shows_host f) ops y l.to_host) (sym was.first) (subst (λ (p : ℕ). IsLast (shows_host was.layer.first) ops y p) (sym was.host) b.host);
    }

lasts_passed : (ops : List VkOp) (seconds : List Second) (y : ℕ) (layers : List Layer) (n : ℕ) (l : Layer) (b : Barrier) → slice_get ops y ≡ Some (op.Barrier b)
    → ((n : ℕ) (m : Layer) → slice_get layers n ≡ Some m → AreLasts ops seconds y m) → WasPassed seconds b (y + 1) layers n l → AreLasts ops seconds (y + 1) l
lasts_passed ops seconds y layers n l b there h was =
    let o = h n was.before was.was in
    let p = was.passed in
    record {
      lasts = λ k s e.
          subst (λ f. IsLast (covers f s) ops (y + 1) (slice_index l.lasts.items k)) (sym p.first)
          (last_passed (covers was.before.first s) ops y (slice_index was.before.lasts.items k) (slice_index l.lasts.items k) b there (p.lasts k s e) (o.lasts k s e));
      host = subst (λ f. IsLast (shows_host f) ops (y + 1) l.to_host) (sym p.first)
          (last_passed (shows_host was.before.first) ops y was.before.to_host l.to_host b there p.host o.host);
    }

-- One operation more ---------------------------------------------------------------------------------------------------------

-- it is no command
same_next : (ops : List VkOp) (places : List ℕ) (y : ℕ) (index : Index) (o : VkOp) → slice_get ops y ≡ Some o → ((c : Command) → o ≡ op.Command c → ⊥)
    → IndexHolds ops places y index → IndexHolds ops places (y + 1) index
same_next ops places y index o there none h = record {
  sound = h.sound;
  lasts = λ n l e. lasts_more ops index.seconds.items y (y + 1) l (omega arith) (h.lasts n l e);
  noted = λ x c lt e. elim (cases_lt x y) [
    | inl less ↦ h.noted x c less e
    | inr ge ↦
        let same : x ≡ y = omega (arith, lt, ge) in
        let k : Some (op.Command c) ≡ Some o = sym e ∙ (ap (slice_get ops) same ∙ there) in
        let is : o ≡ op.Command c = cc k in
        absurd (none c is)
  ];
}

command_next : (ops : List VkOp) (places : List ℕ) (y : ℕ) (old new : Index) (d : Command) → slice_get ops y ≡ Some (op.Command d) → IsSound new
    → IndexGrew old new → AreNoted new d (y + 1) (slice_index places y) → IndexHolds ops places y old → IndexHolds ops places (y + 1) new
command_next ops places y old new d there sound g noted h = record {
  sound = sound;
  lasts = λ n l e. subst (λ s. AreLasts ops s.items (y + 1) l) (sym g.seconds)
      (lasts_more ops old.seconds.items y (y + 1) l (omega arith) (lasts_grew ops old.seconds.items y old.layers.items n l h.lasts (g.lasts n l e)));
  noted = λ x c lt e. at x c e (cases_lt x y) lt;
}
  where
    at : (x : ℕ) (c : Command) → slice_get ops x ≡ Some (op.Command c) → (x < y) ⊎ (y ≤ x) → x < y + 1 → AreNoted new c (x + 1) (slice_index places x)
    at x c e (inl less) lt = λ j t k. touch_grew old new (stages_of c) t (x + 1) (slice_index places x) g (h.noted x c less e j t k)
    at x c e (inr ge) lt =
        let same : y ≡ x = omega (arith, lt, ge) in
        let k : Some (op.Command d) ≡ Some (op.Command c) = sym there ∙ (ap (slice_get ops) same ∙ e) in
        let is : d ≡ c = cc k in
        subst (λ (n : ℕ). AreNoted new c (n + 1) (slice_index places n)) same (subst (λ (f : Command). AreNoted new f (y + 1) (slice_index places y)) is noted)

barrier_next : (ops : List VkOp) (places : List ℕ) (y : ℕ) (old new : Index) (b : Barrier) → slice_get ops y ≡ Some (op.Barrier b) → IsSound new
    → IndexPassed old new b (y + 1) → IndexHolds ops places y old → IndexHolds ops places (y + 1) new
barrier_next ops places y old new b there sound p h = record {
  sound = sound;
  lasts = λ n l e. subst (λ s. AreLasts ops s.items (y + 1) l) (sym p.seconds) (lasts_passed ops old.seconds.items y old.layers.items n l b there h.lasts (p.layers n l e));
  noted = λ x c lt e. elim (cases_lt x y) [
    | inl less ↦ λ j t k. touch_passed old new b (y + 1) (stages_of c) t (x + 1) (slice_index places x) p (h.noted x c less e j t k)
    | inr ge ↦
        let same : x ≡ y = omega (arith, lt, ge) in
        let k : Some (op.Command c) ≡ Some (op.Barrier b) = sym e ∙ (ap (slice_get ops) same ∙ there) in
        absurd (cc k)
  ];
}

pub holds_next : (ops : List VkOp) (places : List ℕ) (y : ℕ) (old new : Index) (o : VkOp) → slice_get ops y ≡ Some o → IsSound new
    → IsNoted old new o (y + 1) (slice_index places y) → IndexHolds ops places y old → IndexHolds ops places (y + 1) new
holds_next ops places y old new (op.HostWrite r call) there sound n h = subst (λ (i : Index). IndexHolds ops places (y + 1) i) (sym n) (same_next ops places y old (op.HostWrite r call) there (λ c e. absurd (cc e)) h)
holds_next ops places y old new (op.Pipeline shader) there sound n h = subst (λ (i : Index). IndexHolds ops places (y + 1) i) (sym n) (same_next ops places y old (op.Pipeline shader) there (λ c e. absurd (cc e)) h)
holds_next ops places y old new (op.Barrier b) there sound n h = barrier_next ops places y old new b there sound n h
holds_next ops places y old new (op.Command c) there sound n h = command_next ops places y old new c there sound n.0 n.1 h
holds_next ops places y old new (op.Submit k) there sound n h = subst (λ (i : Index). IndexHolds ops places (y + 1) i) (sym n) (same_next ops places y old (op.Submit k) there (λ c e. absurd (cc e)) h)
holds_next ops places y old new (op.Fence k) there sound n h = subst (λ (i : Index). IndexHolds ops places (y + 1) i) (sym n) (same_next ops places y old (op.Fence k) there (λ c e. absurd (cc e)) h)
holds_next ops places y old new (op.HostRead r call) there sound n h = subst (λ (i : Index). IndexHolds ops places (y + 1) i) (sym n) (same_next ops places y old (op.HostRead r call) there (λ c e. absurd (cc e)) h)

pub holds_first : (ops : List VkOp) (places : List ℕ) (index : Index) → IsSound index → length index.layers.items ≡ 0 → IndexHolds ops places 0 index
holds_first ops places index sound none = record {
  sound = sound;
  lasts = λ n l e. let w = slice_get_within index.layers.items n l e in absurd (omega (arith, w, none));
  noted = λ x c lt e. absurd (omega (arith, lt));
}
