use Rattle.std.proofs.Common.{◌≡◌, ℕ, List, length, map, true, sym, ap, ◌∙◌, arith}
use Rattle.spirv_model.specs.Op.{Op}
use Rattle.spirv_model.specs.View.{shown}
use Rattle.spirv_model.specs.History.{after}
use Rattle.spirv_model.specs.FirstBad.{Reading, total_words, ends_function, late_fault, body_fault}
use Rattle.spirv_words.specs.declared.known.Known.{Known}
use Rattle.spirv_words.specs.Known.{history}
use Rattle.spirv_words.specs.Reading.{reading_of, IsRead}
use Rattle.spirv_words.proofs.Walking.{same_after, late_rest}
use Rattle.spirv_words.proofs.reading.check_body.Goals as goal

-- the instructions that are known are those of the words
all_known : (known : Known) (bound count : ℕ) (r : Reading) → IsRead bound count r known → map shown known.ops.items ≡ r.ops
unfolding history
all_known known bound count r read = same_after (map shown known.ops.items) r.ops read.instructions

late_known : (known : Known) (bound count : ℕ) (r : Reading) → IsRead bound count r known → ends_function (history known) ≡ true → body_fault bound r ≡ late_fault (history known) 5 (map shown known.ops.items)
late_known known bound count r read e =
    late_rest bound r read.passes read.to_the_end (ap ends_function (sym read.instructions) ∙ e)
    ∙ ap (λ (h : List Op). late_fault h 5 r.ops) (sym read.instructions)
    ∙ ap (late_fault (history known) 5) (sym (all_known known bound count r read))

pub late_fault-requires : goal.late_fault-requires
late_fault-requires c =
    let r : Reading = reading_of c.args.body.now in
    let words : total_words (map shown c.in-Ok.known.ops.items) ≡ length c.args.body.now = ap total_words (all_known c.in-Ok.known c.args.bound (length c.args.body.now) r c.in-Ok.ensures.read) ∙ c.in-Ok.ensures.read.words in
    omega arith

pub returns-in-Some-clause-bad : goal.returns-in-Some-clause-bad
returns-in-Some-clause-bad c =
    let ended : c.has_ended.result ≡ true = grind arith in
    late_known c.in-Ok.known c.args.bound (length c.args.body.now) (reading_of c.args.body.now) c.in-Ok.ensures.read (sym c.has_ended.ensures ∙ ended) ∙ sym c.in-Some.ensures

pub returns-clause-good : goal.returns-clause-good
returns-clause-good c =
    let ended : c.has_ended.result ≡ true = grind arith in
    late_known c.in-Ok.known c.args.bound (length c.args.body.now) (reading_of c.args.body.now) c.in-Ok.ensures.read (sym c.has_ended.ensures ∙ ended) ∙ sym c.in-None.ensures
