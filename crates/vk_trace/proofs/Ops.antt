-- The words of operations: where they are cut, and which operations have them.
use Rattle.std.proofs.Common.{◌≡◌, ℕ, ◌+◌, ◌*◌, ◌/◌, ◌%◌, ◌<◌, ◌≤◌, Bool, true, false, eqb, ltb, ◌||◌, List, [], ◌∷◌, ◌++◌, length, map, drop, get_or, Option, Some, None, refl, sym, ap, subst, ◌∙◌, arith}
use Rattle.std.specs.Prelude.{codes, MatchOption}
use Rattle.std.specs.Fmt.{decimal}
use Rattle.std.specs.List.{slice_index}
use Rattle.std.specs.Int.{w32, to_be_bytes}
use Rattle.std.proofs.lemmas.Bool.{lt-ltb, eqb-false}
use Rattle.hex.specs.Hex.{encode_lower, encode_with, lower_digits}
use Rattle.dx_types.specs.declared.range.Range.{Range}
use Rattle.vk_types.specs.declared.command.SlotName.TheVariants as slot
use Rattle.vk_types.specs.declared.command.SlotName.{SlotName}
use Rattle.vk_types.specs.declared.command.SlotRange.{SlotRange}
use Rattle.vk_types.specs.declared.command.Groups.{Groups}
use Rattle.vk_types.specs.declared.command.Groups.TheVariants as groups
use Rattle.vk_types.specs.declared.command.Work.{Work}
use Rattle.vk_types.specs.declared.command.Work.TheVariants as work
use Rattle.vk_types.specs.declared.command.Cond.{Cond}
use Rattle.vk_types.specs.declared.command.Command.{Command}
use Rattle.vk_types.specs.declared.op.VkOp.{VkOp}
use Rattle.vk_types.specs.declared.op.VkOp.TheVariants as op
use Rattle.vk_types.specs.declared.access.Mask.{Mask}
use Rattle.vk_trace.specs.declared.kind.WorkKind.{WorkKind}
use Rattle.vk_trace.specs.declared.kind.WorkKind.TheVariants as kinds
use Rattle.vk_trace.specs.declared.kind.LineKind.{LineKind}
use Rattle.vk_trace.specs.declared.kind.LineKind.TheVariants as lines
use Rattle.vk_trace.specs.ListText.{IsSmall, IsWide, FitsRange, FitsSecond, FitSlots, FitGroups, FitsWork, FitsCond, IsOp, block_word, shader_word, range_word, hex_word, mask_word, parts, slot_word, slot_words, slot_number, groups_words, work_name, work_words, cond_words, call_words, host_words, second_word, op_words, join, rest_of}
use Rattle.vk_trace.specs.Reading.{Ends, IsHost, IsOpOf, NoSlot, ReadsCommand, ReadsLine, NoLine, fields, first_word, line_kind_name, work_kind_name, pair_words, split}
use Rattle.vk_trace.proofs.Above.{above, above_append, all_above, all_above_append, all_lack, and, both, above_less}
use Rattle.text_words.proofs.Digits.{AreDigits, AreDigits-decimal}
use Rattle.text_words.proofs.Hex.{above_all}
use Rattle.text_words.specs.Words.{AreBytes}
use Rattle.vk_trace.proofs.Masks.{above_parts}
use Rattle.vk_trace.proofs.Spelled.{small_wide, be_bytes}
use Rattle.vk_trace.proofs.Splits.{split_words, join_split}
use Rattle.vk_trace.proofs.Works.{no_slot_word, heads}

-- ---- nothing was found

module _ {A : Type 0} (Good : A → Type 0) (spell : A → List (List ℕ)) where
  pub none_ends : (old : List (List ℕ)) (found : Option A) → found ≡ None → ((v : A) → Good v → old ≡ spell v → ⊥) → Ends Good spell old found
  none_ends old (Some v) e none = absurd (cc e)
  none_ends old None e none = none

pub none_match : {A : Type 0} (P : Type 0) (Q : A → Type 0) (found : Option A) → found ≡ None → P → MatchOption found P Q
none_match P Q (Some v) e p = absurd (cc e)
none_match P Q None e p = p

-- ---- every byte of a word is above the separators of words and lines

above_digits : (ds : List ℕ) → AreDigits ds → above 43 ds ≡ true
unfolding AreDigits
above_digits [] d = refl
above_digits (x ∷ xs) d = let low = d.0 in and (ltb 43 x) (above 43 xs) (lt-ltb 43 x (omega arith)) (above_digits xs d.2)

pub above_decimal : (n : ℕ) → IsWide n → above 43 (decimal n) ≡ true
above_decimal n lt = above_digits (decimal n) (AreDigits-decimal n lt)

above_small : (n : ℕ) → IsSmall n → above 43 (decimal n) ≡ true
above_small n lt = above_decimal n (small_wide n lt)

above_range : (r : Range) → FitsRange r → above 43 (range_word r) ≡ true
above_range r f =
    above_append 43 (block_word r.block) (58 ∷ (decimal r.from ++ 45 ∷ decimal r.to)) (above_small r.block f.block)
    (above_append 43 (decimal r.from) (45 ∷ decimal r.to) (above_decimal r.from f.from) (above_decimal r.to f.to))

above_bytes : (bytes : List ℕ) → AreBytes bytes → above 43 (encode_lower bytes) ≡ true
unfolding encode_with
above_bytes [] fit = refl
above_bytes (b ∷ bs) fit =
    let byte : b < 256 = fit.0 in
    let high : 46 ≤ slice_index lower_digits (b / 16) = above_all (b / 16) (omega arith) in
    let low : 46 ≤ slice_index lower_digits (b % 16) = above_all (b % 16) (omega arith) in
    let first : 43 < slice_index lower_digits (b / 16) = omega arith in
    let second : 43 < slice_index lower_digits (b % 16) = omega arith in
    and _ _ (lt-ltb 43 _ first) (and _ _ (lt-ltb 43 _ second) (above_bytes bs fit.1))

above_hex : (n : ℕ) → above 43 (hex_word n) ≡ true
above_hex n = above_bytes (to_be_bytes w32 n) (be_bytes n)

above_rest : (ws : List (List ℕ)) → all_above 44 ws ≡ true → above 43 (rest_of 44 ws) ≡ true
above_rest [] p = refl
above_rest (w ∷ ws) p = let q = both (above 44 w) (all_above 44 ws) p in above_append 43 w (rest_of 44 ws) (above_less 44 43 w (omega arith) q.0) (above_rest ws q.1)

above_join : (ws : List (List ℕ)) → all_above 44 ws ≡ true → above 43 (join 44 ws) ≡ true
above_join [] p = refl
above_join (w ∷ ws) p = let q = both (above 44 w) (all_above 44 ws) p in above_append 43 w (rest_of 44 ws) (above_less 44 43 w (omega arith) q.0) (above_rest ws q.1)

above_mask : (m : Mask) → above 43 (mask_word m) ≡ true
above_mask m = above_join (parts m) (above_parts m)

above_slot : (s : SlotName) → slot_number s < 256 → above 43 (slot_word s) ≡ true
above_slot (slot.Constant i) lt = above_decimal i (omega arith)
above_slot (slot.Srv i) lt = above_decimal i (omega arith)
above_slot (slot.Uav i) lt = above_decimal i (omega arith)

above_slots : (ss : List SlotRange) → FitSlots ss → all_above 43 (slot_words ss) ≡ true
above_slots [] f = refl
above_slots (s ∷ ss) f = and (above 43 (slot_word s.slot)) _ (above_slot s.slot f.0) (and (above 43 (range_word s.range)) _ (above_range s.range f.1) (above_slots ss f.2))

above_groups : (g : Groups) → FitGroups g → all_above 43 (groups_words g) ≡ true
above_groups (groups.Direct x y z) f = and (above 43 (decimal x)) _ (above_small x f.0) (and (above 43 (decimal y)) _ (above_small y f.1) (and (above 43 (decimal z)) true (above_small z f.2) refl))
above_groups (groups.Indirect at) f = and (above 43 (range_word at)) true (above_range at f) refl

above_memory : (ws : List ℕ) → all_above 43 (map hex_word ws) ≡ true
above_memory [] = refl
above_memory (w ∷ ws) = and (above 43 (hex_word w)) _ (above_hex w) (above_memory ws)

above_work : (w : Work) → FitsWork w → all_above 43 (work_words w) ≡ true
above_work (work.Copy s t) f = and (above 43 (range_word s)) _ (above_range s f.0) (and (above 43 (range_word t)) true (above_range t f.1) refl)
above_work (work.Fill t v) f = and (above 43 (hex_word v)) _ (above_hex v) (and (above 43 (range_word t)) true (above_range t f.0) refl)
above_work (work.Clear t ws unit) f =
    all_above_append 43 (map hex_word ws) (decimal unit ∷ codes "w" ∷ range_word t ∷ []) (above_memory ws) (and (above 43 (decimal unit)) _ (above_small unit f.3) (and (above 43 (range_word t)) true (above_range t f.0) refl))
above_work (work.Dispatch shader counts slots) f =
    and (above 43 (shader_word shader)) _ (above_small shader f.0) (all_above_append 43 (groups_words counts) (slot_words slots) (above_groups counts f.1) (above_slots slots f.2))

above_name : (w : Work) → above 43 (work_name w) ≡ true
above_name (work.Copy s t) = refl
above_name (work.Fill t v) = refl
above_name (work.Clear t ws unit) = refl
above_name (work.Dispatch shader counts slots) = refl

above_cond_words : (c : Option Cond) → FitsCond c → all_above 43 (cond_words c) ≡ true
above_cond_words None f = refl
above_cond_words (Some c) f = and (above 43 (range_word c.at)) _ (above_range c.at f.0) (and (above 43 (decimal c.value)) true (above_small c.value f.1) refl)

above_call : (n : ℕ) → IsSmall n → all_above 43 (call_words n) ≡ true
above_call n lt = and (above 43 (decimal n)) true (above_small n lt) refl

above_host : (r : Range) (n : ℕ) → FitsRange r → IsSmall n → all_above 43 (host_words r n) ≡ true
above_host r n f lt =
    and (above 43 (block_word r.block)) _ (above_small r.block f.block) (and (above 43 (decimal r.from)) _ (above_decimal r.from f.from) (and (above 43 (decimal r.to)) _ (above_decimal r.to f.to) (above_call n lt)))

above_second : (s : Option ℕ) → FitsSecond s → above 43 (second_word s) ≡ true
above_second None f = refl
above_second (Some n) f = above_decimal n f

pub above_op : (o : VkOp) → IsOp o → all_above 43 (op_words o) ≡ true
above_op (op.HostWrite r n) g = above_host r n g.fits.0 g.fits.1
above_op (op.Pipeline n) g = and (above 43 (decimal n)) true (above_small n g.fits) refl
above_op (op.Barrier b) g =
    and (above 43 (mask_word b.source)) _ (above_mask b.source)
    (and (above 43 (mask_word b.dest)) _ (above_mask b.dest)
    (and (above 43 (decimal b.first)) _ (above_decimal b.first g.fits.0) (and (above 43 (second_word b.second)) true (above_second b.second g.fits.1) refl)))
above_op (op.Command c) g =
    and (above 43 (work_name c.work)) _ (above_name c.work)
    (and (above 43 (decimal c.number)) _ (above_decimal c.number g.fits.number)
    (all_above_append 43 (work_words c.work) (cond_words c.cond ++ call_words c.call) (above_work c.work g.fits.work)
    (all_above_append 43 (cond_words c.cond) (call_words c.call) (above_cond_words c.cond g.fits.cond) (above_call c.call g.fits.call))))
above_op (op.Submit k) g = and (above 43 (decimal k)) true (above_decimal k g.fits) refl
above_op (op.Fence k) g = and (above 43 (decimal k)) true (above_decimal k g.fits) refl
above_op (op.HostRead r n) g = above_host r n g.fits.0 g.fits.1

pub op_parts : (o : VkOp) → op_words o ≡ first_word o ∷ fields o
op_parts (op.HostWrite r n) = refl
op_parts (op.Pipeline n) = refl
op_parts (op.Barrier b) = refl
op_parts (op.Command c) = refl
op_parts (op.Submit k) = refl
op_parts (op.Fence k) = refl
op_parts (op.HostRead r n) = refl

some_words : (o : VkOp) → op_words o ≡ [] → ⊥
some_words o e = none (first_word o) (fields o) (sym (op_parts o) ∙ e)
  where
    none : (w : List ℕ) (ws : List (List ℕ)) → w ∷ ws ≡ [] → ⊥
    none w ws e = cc e

-- the words of an operation's line
pub op_split : (o : VkOp) (text : List ℕ) → IsOp o → text ≡ join 32 (op_words o) → split 32 text ≡ first_word o ∷ fields o
op_split o text g e = ap (split 32) e ∙ split_words 32 (op_words o) (some_words o) (all_lack 43 32 (op_words o) (omega arith) (above_op o g)) ∙ op_parts o

-- what ends a command's line begins with no slot
pub tail_no_slot : (c : Option Cond) (n : ℕ) → NoSlot (cond_words c ++ call_words n)
tail_no_slot None n s more lt e = no_slot_word s 99 97 (108 ∷ 108 ∷ []) lt (omega arith) (heads (codes "call") (slot_word s) (decimal n ∷ []) more e)
tail_no_slot (Some c) n s more lt e = no_slot_word s 105 102 [] lt (omega arith) (heads (codes "if") (slot_word s) (range_word c.at ∷ decimal c.value ∷ call_words n) more e)

-- ---- which operations have a first word

mark : List ℕ → ℕ
mark w = 256 * length w + get_or w 0 0

is_work : List ℕ → Bool
is_work w = eqb (mark w) 1123 || (eqb (mark w) 1126 || (eqb (mark w) 1379 || eqb (mark w) 2148))

work_is : (k : WorkKind) → is_work (work_kind_name k) ≡ true
unfolding is_work mark
work_is kinds.Copy = refl
work_is kinds.Fill = refl
work_is kinds.Clear = refl
work_is kinds.Dispatch = refl

no_work_name : (w : List ℕ) (k : WorkKind) → is_work w ≡ false → w ≡ work_kind_name k → ⊥
no_work_name w k isn e = let yes = work_is k in let same = ap is_work e in cc

pub command_of : (o : VkOp) (k : WorkKind) → first_word o ≡ work_kind_name k → (c : Command) × (o ≡ op.Command c)
unfolding is_work mark
command_of (op.HostWrite r n) k e = absurd (no_work_name (codes "host-write") k refl e)
command_of (op.Pipeline n) k e = absurd (no_work_name (codes "pipeline") k refl e)
command_of (op.Barrier b) k e = absurd (no_work_name (codes "barrier") k refl e)
command_of (op.Command c) k e = (c, refl)
command_of (op.Submit n) k e = absurd (no_work_name (codes "submit") k refl e)
command_of (op.Fence n) k e = absurd (no_work_name (codes "fence") k refl e)
command_of (op.HostRead r n) k e = absurd (no_work_name (codes "host-read") k refl e)

kind_of : Work → WorkKind
kind_of (work.Copy s t) = kinds.Copy
kind_of (work.Fill t v) = kinds.Fill
kind_of (work.Clear t ws unit) = kinds.Clear
kind_of (work.Dispatch shader counts slots) = kinds.Dispatch

kind_named : (w : Work) → work_name w ≡ work_kind_name (kind_of w)
unfolding kind_of
kind_named (work.Copy s t) = refl
kind_named (work.Fill t v) = refl
kind_named (work.Clear t ws unit) = refl
kind_named (work.Dispatch shader counts slots) = refl

-- the first word of an operation has a kind
pub first_kind : (o : VkOp) → ((k : WorkKind) → first_word o ≡ work_kind_name k → ⊥) → ((k : LineKind) → first_word o ≡ line_kind_name k → ⊥) → ⊥
first_kind (op.HostWrite r n) p q = q lines.HostWrite refl
first_kind (op.Pipeline n) p q = q lines.Pipeline refl
first_kind (op.Barrier b) p q = q lines.Barrier refl
first_kind (op.Command c) p q = p (kind_of c.work) (kind_named c.work)
first_kind (op.Submit k) p q = q lines.Submit refl
first_kind (op.Fence k) p q = q lines.Fence refl
first_kind (op.HostRead r n) p q = q lines.HostRead refl

-- names by their marks
marks : (v w : List ℕ) (m n : ℕ) → v ≡ w → mark v ≡ m → mark w ≡ n → eqb m n ≡ false → ⊥
marks v w m n e p q isn = eqb-false m n isn (sym p ∙ ap mark e ∙ q)

work_mark : (w : Work) (v : List ℕ) → is_work v ≡ false → work_name w ≡ v → ⊥
work_mark w v isn e = no_work_name v (kind_of w) isn (sym e ∙ kind_named w)

-- a host write that is spelled
pub host_write_of : (o : VkOp) (old : List (List ℕ)) → IsOpOf lines.HostWrite o → old ≡ fields o → (h : Range × ℕ) × IsHost h × (old ≡ pair_words h)
unfolding is_work mark
host_write_of (op.HostWrite r n) old g e = ((r, n), record { range = record { listed = g.good.listed; fits = g.good.fits.0 }; call = g.good.fits.1 }, e)
host_write_of (op.Pipeline n) old g e = absurd (marks (codes "pipeline") (codes "host-write") 2160 2664 g.named refl refl refl)
host_write_of (op.Barrier b) old g e = absurd (marks (codes "barrier") (codes "host-write") 1890 2664 g.named refl refl refl)
host_write_of (op.Command c) old g e = absurd (work_mark c.work (codes "host-write") refl g.named)
host_write_of (op.Submit k) old g e = absurd (marks (codes "submit") (codes "host-write") 1651 2664 g.named refl refl refl)
host_write_of (op.Fence k) old g e = absurd (marks (codes "fence") (codes "host-write") 1382 2664 g.named refl refl refl)
host_write_of (op.HostRead r n) old g e = absurd (marks (codes "host-read") (codes "host-write") 2408 2664 g.named refl refl refl)

-- a host read that is spelled
pub host_read_of : (o : VkOp) (old : List (List ℕ)) → IsOpOf lines.HostRead o → old ≡ fields o → (h : Range × ℕ) × IsHost h × (old ≡ pair_words h)
unfolding is_work mark
host_read_of (op.HostWrite r n) old g e = absurd (marks (codes "host-write") (codes "host-read") 2664 2408 g.named refl refl refl)
host_read_of (op.Pipeline n) old g e = absurd (marks (codes "pipeline") (codes "host-read") 2160 2408 g.named refl refl refl)
host_read_of (op.Barrier b) old g e = absurd (marks (codes "barrier") (codes "host-read") 1890 2408 g.named refl refl refl)
host_read_of (op.Command c) old g e = absurd (work_mark c.work (codes "host-read") refl g.named)
host_read_of (op.Submit k) old g e = absurd (marks (codes "submit") (codes "host-read") 1651 2408 g.named refl refl refl)
host_read_of (op.Fence k) old g e = absurd (marks (codes "fence") (codes "host-read") 1382 2408 g.named refl refl refl)
host_read_of (op.HostRead r n) old g e = ((r, n), record { range = record { listed = g.good.listed; fits = g.good.fits.0 }; call = g.good.fits.1 }, e)

-- ---- lines

-- the first word and the others of a line that was read
pub line_words : (o : VkOp) (text name : List ℕ) (all rest : List (List ℕ)) → IsOp o → text ≡ join 32 (op_words o) → all ≡ split 32 text → all ≡ name ∷ rest → (first_word o ≡ name) × (fields o ≡ rest)
line_words o text name all rest g e is cut =
    let both_ways : first_word o ∷ fields o ≡ name ∷ rest = sym (op_split o text g e) ∙ sym is ∙ cut in
    (heads _ _ _ _ both_ways, ap (drop 1) both_ways)

pub line_read : (o : VkOp) (text name : List ℕ) (all rest : List (List ℕ)) → all ≡ split 32 text → all ≡ name ∷ rest → first_word o ≡ name → rest ≡ fields o → text ≡ join 32 (op_words o)
line_read o text name all rest is cut first others =
    sym (join_split 32 text) ∙ ap (join 32) (sym is ∙ cut ∙ ap (λ (w : List ℕ). w ∷ rest) (sym first) ∙ ap (λ (ws : List (List ℕ)). first_word o ∷ ws) others ∙ sym (op_parts o))

-- a command's line that was read
pub command_line : (c : Command) (k : WorkKind) (text name : List ℕ) (all rest : List (List ℕ)) → all ≡ split 32 text → all ≡ name ∷ rest → name ≡ work_kind_name k → ReadsCommand (work_kind_name k) rest c → ReadsLine text (op.Command c)
command_line c k text name all rest is cut named r = record {
  good = record { listed = (r.work, r.cond); fits = r.fits };
  spelled = line_read (op.Command c) text name all rest is cut (r.named ∙ sym named) r.spelled;
}

-- no command's line
pub no_command_line : (k : WorkKind) (text name : List ℕ) (all rest : List (List ℕ)) → all ≡ split 32 text → all ≡ name ∷ rest → name ≡ work_kind_name k
    → ((c : Command) → ReadsCommand (work_kind_name k) rest c → ⊥) → NoLine text
no_command_line k text name all rest is cut named none o g e =
    let p = line_words o text name all rest g e is cut in
    let c = command_of o k (p.0 ∙ named) in
    at_command o c.0 c.1 g p.0 p.1
  where
    at_command : (o : VkOp) (c : Command) → o ≡ op.Command c → IsOp o → first_word o ≡ name → fields o ≡ rest → ⊥
    at_command o c e g first others =
        let good : IsOp (op.Command c) = subst IsOp e g in
        none c (record {
          work = good.listed.0;
          cond = good.listed.1;
          fits = good.fits;
          named = sym (ap first_word e) ∙ first ∙ named;
          spelled = sym others ∙ ap fields e;
        })

pub no_line : (text name : List ℕ) (all rest : List (List ℕ)) → all ≡ split 32 text → all ≡ name ∷ rest → ((k : WorkKind) → name ≡ work_kind_name k → ⊥) → ((k : LineKind) → name ≡ line_kind_name k → ⊥) → NoLine text
no_line text name all rest is cut p q o g e =
    let w = line_words o text name all rest g e is cut in
    first_kind o (λ k f. p k (sym w.0 ∙ f)) (λ k f. q k (sym w.0 ∙ f))
