-- What commands do, by the words of their lines.
use Rattle.std.proofs.Common.{◌≡◌, ℕ, ◌+◌, ◌*◌, ◌%◌, ◌<◌, ◌≤◌, ◌⊎◌, List, [], ◌∷◌, ◌++◌, length, map, drop, get_or, Option, Some, None, refl, sym, ap, subst, ◌∙◌, append_assoc, arith}
use Rattle.std.specs.Prelude.{codes, MatchOption}
use Rattle.std.specs.Fmt.{decimal}
use Rattle.std.specs.List.{AllByRecursion}
use Rattle.std.proofs.lemmas.List.{append-nil}
use Rattle.dx_types.specs.declared.range.Range.{Range}
use Rattle.vk_types.specs.declared.command.SlotName.{SlotName}
use Rattle.vk_types.specs.declared.command.SlotName.TheVariants as slot
use Rattle.vk_types.specs.declared.command.SlotRange.{SlotRange}
use Rattle.vk_types.specs.declared.command.Groups.{Groups}
use Rattle.vk_types.specs.declared.command.Groups.TheVariants as groups
use Rattle.vk_types.specs.declared.command.Work.{Work}
use Rattle.vk_types.specs.declared.command.Work.TheVariants as work
use Rattle.vk_trace.specs.ListText.{IsSmall, FitsRange, IsSlot, AreSlots, FitSlots, IsWork, FitsWork, size, slot_rank, slot_number, slot_word, slot_words, range_word, hex_word, shader_word, groups_words, work_name, work_words}
use Rattle.vk_trace.specs.Reading.{IsReadRange, AreElements, AreFour, MayStand, IsGroups, IsSlots, NoSlot, NoSlots, IsNext, NoWork, TakesWork, TakesAll, next_rank}
use Rattle.text_words.proofs.Digits.{first_digit}
use Rattle.vk_trace.proofs.Spelled.{same_number, small_wide, same_range, same_hex}

-- ---- nothing was found

pub no_work : (name : List ℕ) (old new : List (List ℕ)) (found : Option Work) → found ≡ None → NoWork name old → TakesWork name old new found
no_work name old new (Some w) e none = absurd (cc e)
no_work name old new None e none = none

module _ {A : Type 0} (Good : A → Type 0) (spell : A → List (List ℕ)) where
  pub none_all : (old new : List (List ℕ)) (found : Option A) → found ≡ None → ((v : A) (more : List (List ℕ)) → Good v → old ≡ spell v ++ more → ⊥) → TakesAll Good spell old new found
  none_all old new (Some v) e none = absurd (cc e)
  none_all old new None e none = none

-- words that are the same have the same first
pub heads : (v w : List ℕ) (vs ws : List (List ℕ)) → v ∷ vs ≡ w ∷ ws → v ≡ w
heads v w vs ws e = cc

-- ---- copies, fills, clears

pub record CopyParts (w : Work) (old more : List (List ℕ)) : Type 0 where
  pub source : Range
  pub target : Range
  pub from : IsReadRange source
  pub to : IsReadRange target
  pub same : size source ≡ size target
  pub is : w ≡ work.Copy source target
  pub spelled : old ≡ codes "r" ∷ range_word source ∷ codes "w" ∷ range_word target ∷ more

pub copy_of : (w : Work) (old more : List (List ℕ)) → IsWork w → FitsWork w → work_name w ≡ codes "copy" → old ≡ work_words w ++ more → CopyParts w old more
copy_of (work.Copy s t) old more l f n e = record { source = s; target = t; from = record { listed = l.0; fits = f.0 }; to = record { listed = l.1; fits = f.1 }; same = l.2; is = refl; spelled = e }
copy_of (work.Fill t v) old more l f n e = absurd (omega (arith, ap (λ (x : List ℕ). get_or x 0 0) n))
copy_of (work.Clear t ws unit) old more l f n e = absurd (cc n)
copy_of (work.Dispatch shader counts slots) old more l f n e = absurd (cc n)

pub record FillParts (w : Work) (old more : List (List ℕ)) : Type 0 where
  pub target : Range
  pub word : ℕ
  pub to : IsReadRange target
  pub words : size target % 4 ≡ 0
  pub small : IsSmall word
  pub is : w ≡ work.Fill target word
  pub spelled : old ≡ hex_word word ∷ codes "w" ∷ range_word target ∷ more

pub fill_of : (w : Work) (old more : List (List ℕ)) → IsWork w → FitsWork w → work_name w ≡ codes "fill" → old ≡ work_words w ++ more → FillParts w old more
fill_of (work.Copy s t) old more l f n e = absurd (omega (arith, ap (λ (x : List ℕ). get_or x 0 0) n))
fill_of (work.Fill t v) old more l f n e = record { target = t; word = v; to = record { listed = l.0; fits = f.0 }; words = l.1; small = f.1; is = refl; spelled = e }
fill_of (work.Clear t ws unit) old more l f n e = absurd (cc n)
fill_of (work.Dispatch shader counts slots) old more l f n e = absurd (cc n)

pub record ClearParts (w : Work) (old more : List (List ℕ)) : Type 0 where
  pub target : Range
  pub memory : List ℕ
  pub unit : ℕ
  pub to : IsReadRange target
  pub four : AreFour memory
  pub elements : (unit ≡ 2) ⊎ (unit ≡ 4)
  pub whole : size target % (4 * unit) ≡ 0
  pub small : IsSmall unit
  pub is : w ≡ work.Clear target memory unit
  pub spelled : old ≡ map hex_word memory ++ (decimal unit ∷ codes "w" ∷ range_word target ∷ more)

pub clear_of : (w : Work) (old more : List (List ℕ)) → IsWork w → FitsWork w → work_name w ≡ codes "clear" → old ≡ work_words w ++ more → ClearParts w old more
clear_of (work.Copy s t) old more l f n e = absurd (cc n)
clear_of (work.Fill t v) old more l f n e = absurd (cc n)
clear_of (work.Clear t ws unit) old more l f n e = record {
  target = t;
  memory = ws;
  unit = unit;
  to = record { listed = l.0; fits = f.0 };
  four = record { four = f.1; small = f.2 };
  elements = l.1;
  whole = l.2;
  small = f.3;
  is = refl;
  spelled = e ∙ append_assoc (map hex_word ws) (decimal unit ∷ codes "w" ∷ range_word t ∷ []) more;
}
clear_of (work.Dispatch shader counts slots) old more l f n e = absurd (cc n)

-- words of memory are read in one way
pub same_memory : (xs ys : List ℕ) (a b : List (List ℕ)) → length xs ≡ length ys → AllByRecursion IsSmall xs → AllByRecursion IsSmall ys → map hex_word xs ++ a ≡ map hex_word ys ++ b → (xs ≡ ys) × (a ≡ b)
same_memory [] [] a b len p q e = (refl, e)
same_memory [] (y ∷ ys) a b len p q e = absurd (omega arith)
same_memory (x ∷ xs) [] a b len p q e = absurd (omega arith)
same_memory (x ∷ xs) (y ∷ ys) a b len p q e =
    let word : hex_word x ≡ hex_word y = heads (hex_word x) (hex_word y) _ _ e in
    let rest : map hex_word xs ++ a ≡ map hex_word ys ++ b = ap (drop 1) e in
    let one = same_hex x y p.0 q.0 word in
    let others = same_memory xs ys a b (omega arith) p.1 q.1 rest in
    (λ i. one i ∷ others.0 i, others.1)

-- ---- slots

letter : SlotName → ℕ
letter (slot.Constant i) = 99
letter (slot.Srv i) = 115
letter (slot.Uav i) = 117

slot_spelled : (s : SlotName) → slot_word s ≡ letter s ∷ decimal (slot_number s)
unfolding letter
slot_spelled (slot.Constant i) = refl
slot_spelled (slot.Srv i) = refl
slot_spelled (slot.Uav i) = refl

same_slot_of : (s t : SlotName) → letter s ≡ letter t → slot_number s ≡ slot_number t → s ≡ t
unfolding letter
same_slot_of (slot.Constant i) (slot.Constant j) l n = ap (λ (k : ℕ). slot.Constant k) n
same_slot_of (slot.Srv i) (slot.Srv j) l n = ap (λ (k : ℕ). slot.Srv k) n
same_slot_of (slot.Uav i) (slot.Uav j) l n = ap (λ (k : ℕ). slot.Uav k) n
same_slot_of (slot.Constant i) (slot.Srv j) l n = absurd (omega (arith, l))
same_slot_of (slot.Constant i) (slot.Uav j) l n = absurd (omega (arith, l))
same_slot_of (slot.Srv i) (slot.Constant j) l n = absurd (omega (arith, l))
same_slot_of (slot.Srv i) (slot.Uav j) l n = absurd (omega (arith, l))
same_slot_of (slot.Uav i) (slot.Constant j) l n = absurd (omega (arith, l))
same_slot_of (slot.Uav i) (slot.Srv j) l n = absurd (omega (arith, l))

pub same_slot : (s t : SlotName) → slot_number s < 256 → slot_number t < 256 → slot_word s ≡ slot_word t → s ≡ t
same_slot s t p q e =
    let both : letter s ∷ decimal (slot_number s) ≡ letter t ∷ decimal (slot_number t) = sym (slot_spelled s) ∙ e ∙ slot_spelled t in
    let first : letter s ≡ letter t = cc in
    let number : slot_number s ≡ slot_number t = same_number (slot_number s) (slot_number t) (omega arith) (omega arith) (ap (drop 1) both) in
    same_slot_of s t first number

-- a word that begins with no digit behind its first letter is no slot's
pub no_slot_word : (s : SlotName) (x y : ℕ) (word : List ℕ) → slot_number s < 256 → 57 < y → x ∷ y ∷ word ≡ slot_word s → ⊥
no_slot_word s x y word lt high e =
    let d = first_digit (slot_number s) y word (omega arith) (sym (ap (drop 1) (e ∙ slot_spelled s))) in
    absurd (omega (arith, d.1))

-- the words of slots that were read, in front of those that are spelled
pub record Behind (least : ℕ) (got ss : List SlotRange) (rest more : List (List ℕ)) : Type 0 where
  pub others : List SlotRange
  pub whole : ss ≡ got ++ others
  pub good : IsSlots (next_rank least got) others
  pub spelled : rest ≡ slot_words others ++ more

pub slots_behind : (least : ℕ) (got ss : List SlotRange) (rest more : List (List ℕ)) → IsSlots least got → IsSlots least ss → NoSlot more → slot_words got ++ rest ≡ slot_words ss ++ more → Behind least got ss rest more
slots_behind least [] ss rest more p q none e = record { others = ss; whole = refl; good = q; spelled = e }
slots_behind least (g ∷ got) [] rest more p q none e = absurd (none g.slot (range_word g.range ∷ (slot_words got ++ rest)) p.fits.0 (sym e))
slots_behind least (g ∷ got) (s ∷ ss) rest more p q none e =
    let name = same_slot g.slot s.slot p.fits.0 q.fits.0 (heads (slot_word g.slot) (slot_word s.slot) _ _ e) in
    let range = same_range g.range s.range p.fits.1 q.fits.1 (heads (range_word g.range) (range_word s.range) _ _ (ap (drop 1) e)) in
    let first : g ≡ s = λ i. record { slot = name i; range = range i } in
    let good_rest : IsSlots (slot_rank g.slot + 1) ss = record { listed = subst (λ (n : SlotName). AreSlots (slot_rank n + 1) ss) (sym name) q.listed.2; fits = q.fits.2 } in
    let step = slots_behind (slot_rank g.slot + 1) got ss rest more (record { listed = p.listed.2; fits = p.fits.2 }) good_rest none (ap (drop 2) e) in
    let back = sym first in
    record { others = step.others; whole = λ i. back i ∷ step.whole i; good = step.good; spelled = step.spelled }

-- slots are read in one way
pub same_slots : (xs ys : List SlotRange) (a b : List (List ℕ)) → IsSlots 0 xs → IsSlots 0 ys → NoSlot a → NoSlot b → slot_words xs ++ a ≡ slot_words ys ++ b → (xs ≡ ys) × (a ≡ b)
same_slots xs ys a b p q none_a none_b e = finish (slots_behind 0 xs ys a b p q none_b e)
  where
    ended : (o : List SlotRange) → IsSlots (next_rank 0 xs) o → a ≡ slot_words o ++ b → o ≡ []
    ended [] good f = refl
    ended (o ∷ os) good f = absurd (none_a o.slot (range_word o.range ∷ (slot_words os ++ b)) good.fits.0 f)

    finish : Behind 0 xs ys a b → (xs ≡ ys) × (a ≡ b)
    finish r =
        let none = ended r.others r.good r.spelled in (
          sym (r.whole ∙ ap (λ (l : List SlotRange). xs ++ l) none ∙ append-nil xs),
          r.spelled ∙ ap (λ (l : List SlotRange). slot_words l ++ b) none,
        )

-- the first of the slots that are spelled, where a slot stands in front
pub record FirstSlot (least : ℕ) (name : SlotName) (rest : List (List ℕ)) : Type 0 where
  pub first : SlotRange
  pub behind : List (List ℕ)
  pub same : name ≡ first.slot
  pub high : least ≤ slot_rank first.slot
  pub listed : IsSlot first
  pub range : IsReadRange first.range
  pub spelled : rest ≡ range_word first.range ∷ behind

pub first_slot : (least : ℕ) (name : SlotName) (old rest more : List (List ℕ)) (ss : List SlotRange) → slot_number name < 256 → old ≡ slot_word name ∷ rest → IsSlots least ss → NoSlot more → old ≡ slot_words ss ++ more
    → FirstSlot least name rest
first_slot least name old rest more [] lt is good none e = absurd (none name rest lt (sym e ∙ is))
first_slot least name old rest more (s ∷ ss) lt is good none e = record {
  first = s;
  behind = slot_words ss ++ more;
  same = same_slot name s.slot lt good.fits.0 (heads _ _ _ _ (sym is ∙ e));
  high = good.listed.0;
  listed = good.listed.1;
  range = record { listed = good.listed.1.range; fits = good.fits.1 };
  spelled = ap (drop 1) (sym is ∙ e);
}

-- one slot more
pub record SoFar (old rest : List (List ℕ)) (got : List SlotRange) (least : ℕ) : Type 0 where
  pub good : IsSlots 0 got
  pub spelled : old ≡ slot_words got ++ rest
  pub least_is : least ≡ next_rank 0 got

slots_push : (got : List SlotRange) (s : SlotRange) (rest : List (List ℕ)) → slot_words (got ++ s ∷ []) ++ rest ≡ slot_words got ++ (slot_word s.slot ∷ range_word s.range ∷ rest)
slots_push [] s rest = refl
slots_push (g ∷ got) s rest = ap (λ (l : List (List ℕ)). slot_word g.slot ∷ range_word g.range ∷ l) (slots_push got s rest)

rank_push : (least : ℕ) (got : List SlotRange) (s : SlotRange) → next_rank least (got ++ s ∷ []) ≡ slot_rank s.slot + 1
rank_push least [] s = refl
rank_push least (g ∷ got) s = rank_push (slot_rank g.slot + 1) got s

listed_push : (least : ℕ) (got : List SlotRange) (s : SlotRange) → AreSlots least got → next_rank least got ≤ slot_rank s.slot → IsSlot s → AreSlots least (got ++ s ∷ [])
listed_push least [] s all le is = (le, is, tt)
listed_push least (g ∷ got) s all le is = (all.0, all.1, listed_push (slot_rank g.slot + 1) got s all.2 le is)

fits_push : (got : List SlotRange) (s : SlotRange) → FitSlots got → slot_number s.slot < 256 → FitsRange s.range → FitSlots (got ++ s ∷ [])
fits_push [] s all lt fits = (lt, fits, tt)
fits_push (g ∷ got) s all lt fits = (all.0, all.1, fits_push got s all.2 lt fits)

pub so_far_more : (old rest next : List (List ℕ)) (got : List SlotRange) (least : ℕ) (s : SlotRange) → SoFar old rest got least → IsNext least rest next (Some s) → SoFar old next (got ++ s ∷ []) (slot_rank s.slot + 1)
so_far_more old rest next got least s so step =
    let le = step.0.listed.0 in
    let is = so.least_is in
    record {
      good = record { listed = listed_push 0 got s so.good.listed (omega arith) step.0.listed.1; fits = fits_push got s so.good.fits step.0.fits.0 step.0.fits.1 };
      spelled = so.spelled ∙ ap (λ (l : List (List ℕ)). slot_words got ++ l) step.1 ∙ sym (slots_push got s next);
      least_is = sym (rank_push 0 got s);
    }

pub so_far_bad : (old rest : List (List ℕ)) (got : List SlotRange) (least : ℕ) → SoFar old rest got least → NoSlots least rest → NoSlots 0 old
so_far_bad old rest got least so bad ss more good none e =
    let b = slots_behind 0 got ss rest more so.good good none (sym so.spelled ∙ e) in
    bad b.others more (subst (λ (k : ℕ). IsSlots k b.others) (sym so.least_is) b.good) none b.spelled

-- ---- groups

no_at : (n : ℕ) (a b : List (List ℕ)) → IsSmall n → decimal n ∷ a ≡ codes "at" ∷ b → ⊥
no_at n a b lt e = let d = first_digit n 97 (116 ∷ []) (small_wide n lt) (heads (decimal n) (codes "at") a b e) in absurd (omega (arith, d.1))

pub record At (rest more : List (List ℕ)) : Type 0 where
  pub at : Range
  pub good : IsReadRange at
  pub long : size at ≡ 12
  pub spelled : rest ≡ range_word at ∷ more

pub groups_at : (g : Groups) (old rest more : List (List ℕ)) → IsGroups g → old ≡ codes "at" ∷ rest → old ≡ groups_words g ++ more → At rest more
groups_at (groups.Direct x y z) old rest more good is e = absurd (no_at x (decimal y ∷ decimal z ∷ more) rest good.fits.0 (sym e ∙ is))
groups_at (groups.Indirect at) old rest more good is e = record { at = at; good = record { listed = good.listed.0; fits = good.fits }; long = good.listed.1; spelled = ap (drop 1) (sym is ∙ e) }

pub record Counts (old more : List (List ℕ)) : Type 0 where
  pub x : ℕ
  pub y : ℕ
  pub z : ℕ
  pub small_x : IsSmall x
  pub small_y : IsSmall y
  pub small_z : IsSmall z
  pub spelled : old ≡ decimal x ∷ decimal y ∷ decimal z ∷ more

pub groups_counts : (g : Groups) (old more : List (List ℕ)) → IsGroups g → ((m : List (List ℕ)) → old ≡ codes "at" ∷ m → ⊥) → old ≡ groups_words g ++ more → Counts old more
groups_counts (groups.Direct x y z) old more good none e = record { x = x; y = y; z = z; small_x = good.fits.0; small_y = good.fits.1; small_z = good.fits.2; spelled = e }
groups_counts (groups.Indirect at) old more good none e = absurd (none (range_word at ∷ more) e)

pub same_small : (m n : ℕ) (a b : List (List ℕ)) → IsSmall m → IsSmall n → decimal m ∷ a ≡ decimal n ∷ b → m ≡ n
same_small m n a b p q e = same_number m n (small_wide m p) (small_wide n q) (heads _ _ a b e)

pub same_groups : (g h : Groups) (a b : List (List ℕ)) → IsGroups g → IsGroups h → groups_words g ++ a ≡ groups_words h ++ b → (g ≡ h) × (a ≡ b)
same_groups (groups.Direct x y z) (groups.Direct u v w) a b p q e =
    let one = same_small x u (decimal y ∷ decimal z ∷ a) (decimal v ∷ decimal w ∷ b) p.fits.0 q.fits.0 e in
    let two = same_small y v (decimal z ∷ a) (decimal w ∷ b) p.fits.1 q.fits.1 (ap (drop 1) e) in
    let three = same_small z w a b p.fits.2 q.fits.2 (ap (drop 2) e) in
    (λ i. groups.Direct (one i) (two i) (three i), ap (drop 3) e)
same_groups (groups.Direct x y z) (groups.Indirect at) a b p q e = absurd (no_at x (decimal y ∷ decimal z ∷ a) (range_word at ∷ b) p.fits.0 e)
same_groups (groups.Indirect at) (groups.Direct x y z) a b p q e = absurd (no_at x (decimal y ∷ decimal z ∷ b) (range_word at ∷ a) q.fits.0 (sym e))
same_groups (groups.Indirect at) (groups.Indirect to) a b p q e =
    let one = same_range at to p.fits q.fits (heads (range_word at) (range_word to) a b (ap (drop 1) e)) in
    (ap (λ (r : Range). groups.Indirect r) one, ap (drop 2) e)

-- ---- dispatches

pub record DispatchParts (w : Work) (old more : List (List ℕ)) : Type 0 where
  pub shader : ℕ
  pub counts : Groups
  pub slots : List SlotRange
  pub small : IsSmall shader
  pub groups_good : IsGroups counts
  pub slots_good : IsSlots 0 slots
  pub is : w ≡ work.Dispatch shader counts slots
  pub spelled : old ≡ shader_word shader ∷ (groups_words counts ++ (slot_words slots ++ more))

pub dispatch_of : (w : Work) (old more : List (List ℕ)) → IsWork w → FitsWork w → work_name w ≡ codes "dispatch" → old ≡ work_words w ++ more → DispatchParts w old more
dispatch_of (work.Copy s t) old more l f n e = absurd (cc n)
dispatch_of (work.Fill t v) old more l f n e = absurd (cc n)
dispatch_of (work.Clear t ws unit) old more l f n e = absurd (cc n)
dispatch_of (work.Dispatch shader counts slots) old more l f n e = record {
  shader = shader;
  counts = counts;
  slots = slots;
  small = f.0;
  groups_good = record { listed = l.0; fits = f.1 };
  slots_good = record { listed = l.1; fits = f.2 };
  is = refl;
  spelled = e ∙ ap (λ (l : List (List ℕ)). shader_word shader ∷ l) (append_assoc (groups_words counts) (slot_words slots) more);
}

-- ---- work is read in one way

same_second : (v w x y : List ℕ) (vs ws : List (List ℕ)) → v ∷ x ∷ vs ≡ w ∷ y ∷ ws → x ≡ y
same_second v w x y vs ws e = heads x y vs ws (ap (drop 1) e)

pub same_work : (v w : Work) (x y : List (List ℕ)) → IsWork v → FitsWork v → IsWork w → FitsWork w → work_name w ≡ work_name v → (work_name v ≡ codes "dispatch" → NoSlot x) → NoSlot y → work_words v ++ x ≡ work_words w ++ y
    → (v ≡ w) × (x ≡ y)
same_work (work.Copy s t) w x y l f k g n ended none e =
    let p = copy_of w _ y k g n e in
    let one = same_range s p.source f.0 p.from.fits (same_second _ _ _ _ _ _ p.spelled) in
    let two = same_range t p.target f.1 p.to.fits (same_second _ _ _ _ _ _ (ap (drop 2) p.spelled)) in
    ((λ i. work.Copy (one i) (two i)) ∙ sym p.is, ap (drop 4) p.spelled)
same_work (work.Fill t v) w x y l f k g n ended none e =
    let p = fill_of w _ y k g n e in
    let one = same_hex v p.word f.1 p.small (heads _ _ _ _ p.spelled) in
    let two = same_range t p.target f.0 p.to.fits (same_second _ _ _ _ _ _ (ap (drop 1) p.spelled)) in
    ((λ i. work.Fill (two i) (one i)) ∙ sym p.is, ap (drop 3) p.spelled)
same_work (work.Clear t ws unit) w x y l f k g n ended none e =
    let p = clear_of w _ y k g n (sym (append_assoc (map hex_word ws) (decimal unit ∷ codes "w" ∷ range_word t ∷ []) x) ∙ e) in
    let one = same_memory ws p.memory _ _ (f.1 ∙ sym p.four.four) f.2 p.four.small p.spelled in
    let two = same_small unit p.unit _ _ f.3 p.small one.1 in
    let three = same_range t p.target f.0 p.to.fits (same_second _ _ _ _ _ _ (ap (drop 1) one.1)) in
    ((λ i. work.Clear (three i) (one.0 i) (two i)) ∙ sym p.is, ap (drop 3) one.1)
same_work (work.Dispatch shader counts slots) w x y l f k g n ended none e =
    let p = dispatch_of w _ y k g n e in
    let own : (shader_word shader ∷ (groups_words counts ++ slot_words slots)) ++ x ≡ shader_word shader ∷ (groups_words counts ++ (slot_words slots ++ x)) = ap (λ (l : List (List ℕ)). shader_word shader ∷ l) (append_assoc (groups_words counts) (slot_words slots) x) in
    let both : shader_word shader ∷ (groups_words counts ++ (slot_words slots ++ x)) ≡ shader_word p.shader ∷ (groups_words p.counts ++ (slot_words p.slots ++ y)) = sym own ∙ p.spelled in
    let one : shader ≡ p.shader = same_number shader p.shader (small_wide shader f.0) (small_wide p.shader p.small) (ap (drop 1) (heads _ _ _ _ both)) in
    let two = same_groups counts p.counts _ _ (record { listed = l.0; fits = f.1 }) p.groups_good (ap (drop 1) both) in
    let three = same_slots slots p.slots x y (record { listed = l.1; fits = f.2 }) p.slots_good (ended refl) none two.1 in
    ((λ i. work.Dispatch (one i) (two.0 i) (three.0 i)) ∙ sym p.is, three.1)

-- ---- words of memory, as they are read

-- the words behind the ones that were read
pub four_behind : (got ws : List ℕ) (old rest more : List (List ℕ)) → AllByRecursion IsSmall got → AreFour ws → old ≡ map hex_word got ++ rest → length got < 4 → old ≡ map hex_word ws ++ more
    → (w : ℕ) × (behind : List (List ℕ)) × IsSmall w × (rest ≡ hex_word w ∷ behind)
four_behind got ws old rest more p q is lt e = memory_behind got ws rest more p q.small (omega (arith, q.four)) (sym is ∙ e)
  where
    memory_behind : (got ws : List ℕ) (rest more : List (List ℕ)) → AllByRecursion IsSmall got → AllByRecursion IsSmall ws → length got < length ws → map hex_word got ++ rest ≡ map hex_word ws ++ more
        → (w : ℕ) × (behind : List (List ℕ)) × IsSmall w × (rest ≡ hex_word w ∷ behind)
    memory_behind got [] rest more p q lt e = absurd (omega arith)
    memory_behind [] (w ∷ ws) rest more p q lt e = (w, map hex_word ws ++ more, q.0, e)
    memory_behind (g ∷ got) (w ∷ ws) rest more p q lt e = memory_behind got ws rest more p.1 q.1 (omega arith) (ap (drop 1) e)

-- what stands behind a clear's words of memory
pub clear_behind : (w : Work) (old rest more : List (List ℕ)) (memory : List ℕ) → AreFour memory → old ≡ map hex_word memory ++ rest → (p : ClearParts w old more) → rest ≡ decimal p.unit ∷ codes "w" ∷ range_word p.target ∷ more
clear_behind w old rest more memory four is p = (same_memory memory p.memory _ _ (four.four ∙ sym p.four.four) four.small p.four.small (sym is ∙ p.spelled)).1

-- a clear that is spelled keeps its rules
pub clear_rules : (w : Work) (old first second third last more : List (List ℕ)) (memory : List ℕ) (unit : ℕ) (target : Range) → AreFour memory → old ≡ map hex_word memory ++ first → IsSmall unit → first ≡ decimal unit ∷ second
    → second ≡ codes "w" ∷ third → IsReadRange target → third ≡ range_word target ∷ last → ClearParts w old more → AreElements target unit
clear_rules w old first second third last more memory unit target four is small one two good three p =
    let behind = clear_behind w old first more memory four is p in
    let same : unit ≡ p.unit = same_small unit p.unit _ _ small p.small (sym one ∙ behind) in
    let range : target ≡ p.target = same_range target p.target good.fits p.to.fits (heads _ _ _ _ (sym three ∙ ap (drop 1) (sym two ∙ ap (drop 1) (sym one ∙ behind)))) in
    let rules : AreElements p.target p.unit = record { unit_is = p.elements; whole = p.whole } in
    subst (λ (n : ℕ). AreElements target n) (sym same) (subst (λ (r : Range). AreElements r p.unit) (sym range) rules)

-- ---- the next slot, as it is read

-- the next word is the one that was seen
pub next_is : {B : Type 0} (now : B → List ℕ) (next : Option B) (word : List ℕ) (old more new : List (List ℕ)) → MatchOption next (old ≡ []) (λ w. old ≡ now w ∷ new) → old ≡ word ∷ more → old ≡ word ∷ new
next_is now (Some w) word old more new next is =
    let tails : more ≡ new = ap (drop 1) (sym is ∙ next) in
    is ∙ ap (λ (l : List (List ℕ)). word ∷ l) tails
next_is now None word old more new next is = absurd (cc (sym is ∙ next))

pub none_next : (least : ℕ) (old new : List (List ℕ)) (found : Option (Option SlotRange)) → found ≡ None → NoSlots least old → MatchOption found (NoSlots least old) (IsNext least old new)
none_next least old new (Some s) e none = absurd (cc e)
none_next least old new None e none = none

pub slot_may_stand : (least : ℕ) (old rest last more : List (List ℕ)) (found : SlotRange) (ss : List SlotRange) → slot_number found.slot < 256 → old ≡ slot_word found.slot ∷ rest → IsReadRange found.range → rest ≡ range_word found.range ∷ last
    → IsSlots least ss → NoSlot more → old ≡ slot_words ss ++ more → MayStand least found
slot_may_stand least old rest last more found ss lt is good range slots none e =
    let p = first_slot least found.slot old rest more ss lt is slots none e in
    let same : found.range ≡ p.first.range = same_range found.range p.first.range good.fits p.range.fits (heads _ _ _ _ (sym range ∙ p.spelled)) in
    record {
      high = subst (λ (n : SlotName). least ≤ slot_rank n) (sym p.same) p.high;
      words = ap (λ (r : Range). size r % 4) same ∙ p.listed.words;
    }

pub next_read : (least : ℕ) (old rest last : List (List ℕ)) (found : SlotRange) → slot_number found.slot < 256 → old ≡ slot_word found.slot ∷ rest → IsReadRange found.range → rest ≡ range_word found.range ∷ last → MayStand least found
    → IsNext least old last (Some found)
next_read least old rest last found lt is good range may = (
  record { listed = (may.high, record { range = good.listed; words = may.words }, tt); fits = (lt, good.fits, tt) },
  is ∙ ap (λ (l : List (List ℕ)). slot_word found.slot ∷ l) range,
)

pub so_far_pushed : (old next : List (List ℕ)) (got new : List SlotRange) (s : SlotRange) (n : ℕ) → SoFar old next (got ++ s ∷ []) (slot_rank s.slot + 1) → new ≡ got ++ s ∷ [] → n ≡ slot_rank s.slot → SoFar old next new (n + 1)
so_far_pushed old next got new s n so items rank = subst (λ (k : ℕ). SoFar old next new (k + 1)) (sym rank) (subst (λ (l : List SlotRange). SoFar old next l (slot_rank s.slot + 1)) (sym items) so)
