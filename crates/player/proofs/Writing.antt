-- What is written while a log is played.
use Rattle.std.proofs.Common.{◌≡◌, ℕ, zero, suc, ◌<◌, List, [], ◌∷◌, ◌++◌, length, take, drop, get_or, Option, refl, sym, ap, subst, ◌∙◌, append_assoc, arith}
use Rattle.std.proofs.lemmas.List.{append-nil, take_at, take-append-drop}
use Rattle.std.proofs.lemmas.List.Concat.{flat_map-append}
use Rattle.dx_types.specs.declared.reply.Reply.{Reply}
use Rattle.dx_types.specs.Line.{line}
use Rattle.dx_io.specs.Told.{Appends, AppendsFront}
use Rattle.dx_io.proofs.ToldLemmas.{appends_none, appends_then, appends_at}
use Rattle.call_log.specs.Call.{Issued}
use Rattle.d3d_model.specs.ReplyText.{replies, reply_at, lines, text, none_pending}
use Rattle.d3d_model.proofs.Replies.{replies_upto-none}
use Rattle.player.specs.declared.status.Status.{Status}
use Rattle.player.specs.declared.run.Unsaid as unsaid
use Rattle.player.specs.declared.run.Unsaid.TheVariants as unsaids
use Rattle.player.specs.Outcome.{Tells, status_for}
use Rattle.core_machine.specs.Machine.{Progress, start, given, IsFront}

-- what the machine said so far
abbrev pub output_of : Progress → List ℕ
output_of p = lines (given p)

lines-append : (a b : List Reply) → lines (a ++ b) ≡ lines a ++ lines b
lines-append a b = flat_map-append line a b

output_start : (log : List Issued) → output_of (start log) ≡ []
output_start log = ap lines (append-nil _ ∙ replies_upto-none (reply_at log none_pending))

pub begun : (log : List Issued) (p : Progress) (a : Option (List ℕ)) → p ≡ start log → Appends a (output_of p) a
begun log p a e = appends_at a a [] (output_of p) (sym (ap output_of e ∙ output_start log)) (appends_none a)

output_more : (old new : Progress) (r : Reply) → given new ≡ given old ++ r ∷ [] → output_of new ≡ output_of old ++ line r
output_more old new r more = ap lines more ∙ lines-append (given old) (r ∷ []) ∙ ap (λ (l : List ℕ). output_of old ++ l) (append-nil (line r))

-- what was written, and the line of the next step
pub written_more : (a b c : Option (List ℕ)) (old new : Progress) (r : Reply) → Appends a (output_of old) b → Appends b (line r) c → given new ≡ given old ++ r ∷ [] → Appends a (output_of new) c
written_more a b c old new r p q more = appends_at a c (output_of old ++ line r) (output_of new) (sym (output_more old new r more)) (appends_then a b c (output_of old) (line r) p q)

pub written_none : (a b : Option (List ℕ)) (old new : Progress) → Appends a (output_of old) b → given new ≡ given old ++ [] → Appends a (output_of new) b
written_none a b old new p more = appends_at a b (output_of old) (output_of new) (sym (ap lines (more ∙ append-nil (given old)))) p

front_taken : (whole x rest : List ℕ) → whole ≡ x ++ rest → take (length x) whole ≡ x
front_taken whole x rest e = ap (λ (t : List ℕ). take (length x) t) e ∙ take_at x rest (length x) refl

-- a front of the text was written
written_front : (a b : Option (List ℕ)) (whole x rest : List ℕ) → whole ≡ x ++ rest → Appends a x b → AppendsFront a whole b
written_front a b whole x rest e p = (length x, appends_at a b x (take (length x) whole) (sym (front_taken whole x rest e)) p)

front_text : (p : Progress) (f : IsFront p) → text p.log none_pending ≡ output_of p ++ lines f.rest
front_text p f = ap lines f.is ∙ lines-append (given p) f.rest

pub so_far : (a b : Option (List ℕ)) (p : Progress) (log : List Issued) → p.log ≡ log → IsFront p → Appends a (output_of p) b → AppendsFront a (text log none_pending) b
so_far a b p log same f held =
    subst (λ (l : List Issued). AppendsFront a (text l none_pending) b) same (written_front a b (text p.log none_pending) (output_of p) (lines f.rest) (front_text p f) held)

pub all_said : (a b : Option (List ℕ)) (p : Progress) (log : List Issued) → p.log ≡ log → given p ≡ replies p.log none_pending → Appends a (output_of p) b → Appends a (text log none_pending) b
all_said a b p log same whole held = appends_at a b (output_of p) (text log none_pending) (ap lines whole ∙ ap (λ (l : List Issued). text l none_pending) same) held

-- and a front of the next line
pub half_line : (a b c : Option (List ℕ)) (old new : Progress) (log : List Issued) (r : Reply) → new.log ≡ log → IsFront new → given new ≡ given old ++ r ∷ []
    → Appends a (output_of old) b → AppendsFront b (line r) c → AppendsFront a (text log none_pending) c
half_line a b c old new log r same f more held half =
    let n = half.0 in
    let x : List ℕ = output_of old ++ take n (line r) in
    let rest : List ℕ = drop n (line r) ++ lines f.rest in
    let split : text new.log none_pending ≡ x ++ rest =
    front_text new f ∙ ap (λ (t : List ℕ). t ++ lines f.rest) (output_more old new r more ∙ ap (λ (t : List ℕ). output_of old ++ t) (sym (take-append-drop n (line r))) ∙ sym (append_assoc (output_of old) (take n (line r)) (drop n (line r))))
    ∙ append_assoc x (drop n (line r)) (lines f.rest) in
    subst (λ (l : List Issued). AppendsFront a (text l none_pending) c) same (written_front a c (text new.log none_pending) x rest split (appends_then a b c (output_of old) (take n (line r)) held half.1))

lines_at : (rs : List Reply) (i : ℕ) (d r : Reply) → i < length rs → r ≡ get_or rs i d → lines rs ≡ lines (take i rs) ++ (line r ++ lines (drop (suc i) rs))
lines_at [] i d r below there = absurd (omega arith)
lines_at (x ∷ rs) zero d r below there = ap (λ (y : Reply). line y ++ lines rs) (sym there)
lines_at (x ∷ rs) (suc i) d r below there = ap (λ (l : List ℕ). line x ++ l) (lines_at rs i d r (omega arith) there) ∙ sym (append_assoc (line x) (lines (take i rs)) (line r ++ lines (drop (suc i) rs)))

split_line : (rs : List Reply) (i : ℕ) (d r : Reply) (n : ℕ) → i < length rs → r ≡ get_or rs i d
    → lines rs ≡ (lines (take i rs) ++ take n (line r)) ++ (drop n (line r) ++ lines (drop (suc i) rs))
split_line rs i d r n below there =
    lines_at rs i d r below there
    ∙ ap (λ (l : List ℕ). lines (take i rs) ++ (l ++ lines (drop (suc i) rs))) (sym (take-append-drop n (line r)))
    ∙ ap (λ (l : List ℕ). lines (take i rs) ++ l) (append_assoc (take n (line r)) (drop n (line r)) (lines (drop (suc i) rs)))
    ∙ sym (append_assoc (lines (take i rs)) (take n (line r)) (drop n (line r) ++ lines (drop (suc i) rs)))

-- so many replies were said, and a front of the next one's line
pub said_front : (a b c : Option (List ℕ)) (rs : List Reply) (i : ℕ) (d r : Reply) → i < length rs → r ≡ get_or rs i d → Appends a (lines (take i rs)) b → AppendsFront b (line r) c → AppendsFront a (lines rs) c
said_front a b c rs i d r below there held half =
    let n = half.0 in
    let x : List ℕ = lines (take i rs) ++ take n (line r) in
    let rest : List ℕ = drop n (line r) ++ lines (drop (suc i) rs) in
    written_front a c (lines rs) x rest (split_line rs i d r n below there) (appends_then a b c (lines (take i rs)) (take n (line r)) held half.1)

pub unsaid_tells : (end : unsaid.Unsaid) (s : Status) (bytes : List ℕ) (a c : Option (List ℕ)) → s ≡ status_for end → AppendsFront a bytes c → Tells bytes a s c
unsaid_tells end s bytes a c e front = subst (λ (t : Status). Tells bytes a t c) (sym e) (at_end end bytes a c front)
  where
    at_end : (end : unsaid.Unsaid) (bytes : List ℕ) (a c : Option (List ℕ)) → AppendsFront a bytes c → Tells bytes a (status_for end) c
    at_end unsaids.Fault bytes a c front = front
    at_end unsaids.NoMemory bytes a c front = front
