-- The parts of a record's line.
use Rattle.std.proofs.Common.{inl, ◌≡◌, ℕ, ◌+◌, ◌*◌, ◌^◌, ◌<◌, Option, Some, List, [], ◌∷◌, ◌++◌, drop, refl, sym, ap, ◌∙◌, arith}
use Rattle.std.specs.List.{flat_map}
use Rattle.std.specs.Fmt.{decimal}
use Rattle.call_log.specs.Grammar.{Frame, spell}
use Rattle.call_log.specs.declared.kinds.Layout.{Layout}
use Rattle.call_log.specs.declared.kinds.Layout.TheVariants.{Words, Counted, Tokens, Free}
use Rattle.call_log.specs.Kinds.{Kind, kind_numbered}
use Rattle.log_text.specs.LogText.{number_field, words_of, fields, bare_line, name_and_fields, IsRecord}
use Rattle.log_text.specs.Reading.{HasLayout, ReadsBody, ReadsLine}
use Rattle.text_words.specs.Words.{StopsAt, Cut}
use Rattle.text_words.proofs.Cutting.{same_cut}
use Rattle.text_words.proofs.Digits.{Lacks-decimal}
use Rattle.log_text.proofs.Numbers.{stops_numbers}
use Rattle.log_text.proofs.Bodies.{stops_field}
use Rattle.call_log.proofs.KindTable.{kind_small}
use Rattle.log_text.proofs.CallKinds.{kind_of_fit, fit_of_kind}
use Rattle.log_text.proofs.Names.{name_no_blank, same_name}

-- a record's form, and its line's parts
pub record Parts (f : Frame) : Type 0 where
  pub kind_is : Kind
  pub is : kind_numbered f.kind ≡ Some kind_is
  pub shaped : HasLayout kind_is.layout f.body
  pub spelled : bare_line f ≡ decimal f.context ++ (32 ∷ (kind_is.name ++ fields kind_is.layout f.body))

pub parts_of : (f : Frame) → IsRecord f → Parts f
parts_of f r =
    let known = kind_of_fit f.kind f.body r.frame.whole in
    record {
      kind_is = known.0;
      is = known.1;
      shaped = record { fits = known.2; bytes = r.bytes; small = r.frame.body_fits };
      spelled = ap (λ (o : Option Kind). decimal f.context ++ name_and_fields o f.body) known.1;
    }

stops_flat : (ws : List ℕ) → StopsAt 32 (flat_map number_field ws)
stops_flat [] = tt
stops_flat (w ∷ ws) = refl

pub stops_fields : (layout : Layout) (body : List ℕ) → StopsAt 32 (fields layout body)
unfolding fields
stops_fields (Words n) body = stops_flat (words_of n body)
stops_fields (Counted n) body = stops_numbers (words_of n body) _ (stops_field (drop (4 * n + 4) body))
stops_fields Tokens body = stops_numbers (words_of 1 body) _ (stops_field (drop 4 body))
stops_fields Free body = stops_field body

-- what stands behind the first word of a record's line
pub behind_context : (f : Frame) (p : Parts f) (context : ℕ) (text rest : List ℕ) → IsRecord f → context < 2 ^ 16 → StopsAt 32 rest → text ≡ decimal context ++ rest → text ≡ bare_line f
    → rest ≡ 32 ∷ (p.kind_is.name ++ fields p.kind_is.layout f.body)
behind_context f p context text rest r lt stops is e =
    let fits = r.frame.context_fits in
    (same_cut 32 (decimal context) (decimal f.context) rest (32 ∷ (p.kind_is.name ++ fields p.kind_is.layout f.body)) (Lacks-decimal 32 context (inl (omega arith)) (omega arith)) (Lacks-decimal 32 f.context (inl (omega arith)) (omega arith)) stops refl (sym is ∙ e ∙ p.spelled)).1

-- the second word, and the fields
pub name_word : (f : Frame) (p : Parts f) (text name rest : List ℕ) → Cut 32 text name rest → text ≡ p.kind_is.name ++ fields p.kind_is.layout f.body
    → (name ≡ p.kind_is.name) × (rest ≡ fields p.kind_is.layout f.body)
name_word f p text name rest cut e =
    same_cut 32 name p.kind_is.name rest (fields p.kind_is.layout f.body) cut.lacks (name_no_blank f.kind p.kind_is p.is) cut.stops (stops_fields p.kind_is.layout f.body) (sym cut.spelled ∙ e)

pub some_same : (f g : Kind) (o : Option Kind) → o ≡ Some f → o ≡ Some g → f ≡ g
some_same f g o p q = let e : Some f ≡ Some g = sym p ∙ q in cc

-- a record's fields are those of the kind that has its name
pub layout_word : (f : Frame) (p : Parts f) (k : Kind) → kind_numbered k.number ≡ Some k → k.name ≡ p.kind_is.name → p.kind_is.layout ≡ k.layout
layout_word f p k is e =
    let same : k.number ≡ f.kind = same_name k.number f.kind k p.kind_is is p.is e in
    ap (λ (j : Kind). j.layout) (some_same p.kind_is k (kind_numbered f.kind) p.is (ap kind_numbered (sym same) ∙ is))

-- the record of a line that was read
pub record_read : (k : Kind) (context : ℕ) (body text rest more name field old new : List ℕ) → context < 2 ^ 16
    → text ≡ decimal context ++ rest → rest ≡ 32 ∷ more → Cut 32 more name field → kind_numbered k.number ≡ Some k → k.name ≡ name → ReadsBody k.layout field body
    → new ≡ old ++ spell (record { kind = k.number; context = context; body = body }) → ReadsLine text old new
record_read k context body text rest more name field old new lt first blank second known named b put = record {
  frame = record { kind = k.number; context = context; body = body };
  is_record = record {
    frame = record {
      kind_fits = let small : k.number < 80 = kind_small k.number k known in omega arith;
      context_fits = lt;
      body_fits = b.shaped.small;
      whole = fit_of_kind k.number body k known b.shaped.fits;
    };
    bytes = b.shaped.bytes;
  };
  spelled =
      first
      ∙ ap (λ (l : List ℕ). decimal context ++ l) (blank ∙ ap (λ (l : List ℕ). 32 ∷ l) (second.spelled ∙ ap (λ (l : List ℕ). l ++ field) (sym named) ∙ ap (λ (l : List ℕ). k.name ++ l) b.spelled))
      ∙ ap (λ (o : Option Kind). decimal context ++ name_and_fields o body) (sym known);
  put = put;
}
