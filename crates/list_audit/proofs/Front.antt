-- A text, as it is read.
use Rattle.std.proofs.Common.{◌≡◌, ℕ, ◌+◌, ◌<◌, List, [], ◌∷◌, ◌++◌, length, Option, None, Some, refl, sym, ap, subst, ◌∙◌, arith}
use Rattle.std.proofs.lemmas.List.{append-nil}
use Rattle.vk_types.specs.declared.op.VkOp.{VkOp}
use Rattle.text_words.specs.Words.{Cut}
use Rattle.vk_trace.specs.ListText.{join, op_words, text_of}
use Rattle.vk_trace.specs.OrderLine.{IsOrderOf, NoOrder, order_line, order_words}
use Rattle.vk_trace.specs.Reading.{NoLine, ReadsLine}
use Rattle.vk_trace.proofs.Texts.{line_then, line_cut}
use Rattle.vk_trace.proofs.Spelling.{line_front}
use Rattle.list_audit.specs.AuditText.{numbers, Rise, IsListing, IsFirstBad, IsAuditText, order_text}
use Rattle.list_audit.specs.Numbers.{least_of, least_after}
use Rattle.list_audit.specs.Reading.{IsFront, IsLast, IsBadLast}
use Rattle.list_audit.proofs.Rising.{numbers-append, least_after-append, listing_more, listing_last, listing_rises, listing_none}
use Rattle.list_audit.proofs.Lines.{not_both, order_then, order_cut, order_read, line_read, text_push}

-- so far a listing was read, with this last number
pub record SoFar (text rest : List ℕ) (ops : List VkOp) (last : Option ℕ) : Type 0 where
  pub spelled : text ≡ text_of ops ++ rest
  pub listing : IsListing ops
  pub least : least_of last ≡ least_after 0 (numbers ops)

pub so_far_none : (text rest : List ℕ) (ops : List VkOp) (last : Option ℕ) → rest ≡ text → ops ≡ [] → last ≡ None → SoFar text rest ops last
so_far_none text rest ops last r o l = rw (r, o, l) record { spelled = refl; listing = listing_none; least = refl }

pub so_far_more : (text rest bare after : List ℕ) (ops new : List VkOp) (o : VkOp) (last next : Option ℕ) → SoFar text rest ops last → Cut 10 rest bare (10 ∷ after) → ReadsLine bare o
    → Rise (least_of last) (numbers (o ∷ [])) → least_of next ≡ least_after (least_of last) (numbers (o ∷ [])) → new ≡ ops ++ o ∷ [] → SoFar text after new next
so_far_more text rest bare after ops new o last next s cut l rise is pushed =
    subst (λ (all : List VkOp). SoFar text after all next) (sym pushed) (record {
      spelled = s.spelled ∙ ap (λ (t : List ℕ). text_of ops ++ t) (line_read o rest bare after cut l) ∙ sym (text_push ops o after);
      listing = listing_more ops o s.listing l.good (subst (λ (n : ℕ). Rise n (numbers (o ∷ []))) s.least rise);
      least =
          is
          ∙ ap (λ (n : ℕ). least_after n (numbers (o ∷ []))) s.least
          ∙ sym (least_after-append 0 (numbers ops) (numbers (o ∷ [])))
          ∙ ap (least_after 0) (sym (numbers-append ops (o ∷ [])));
    })

-- nothing ends a line
pub front_unended : (text rest : List ℕ) (ops : List VkOp) (last : Option ℕ) → SoFar text rest ops last → ((bare more : List ℕ) → rest ≡ bare ++ 10 ∷ more → ⊥) → IsFront text ops rest
front_unended text rest ops last s none = record {
  spelled = s.spelled;
  listing = s.listing;
  ended = λ o behind g e. none (join 32 (op_words o)) behind (e ∙ line_then o behind);
}

-- a line is no operation's
pub front_words : (text rest bare after : List ℕ) (ops : List VkOp) (last : Option ℕ) → SoFar text rest ops last → Cut 10 rest bare (10 ∷ after) → NoLine bare → IsFront text ops rest
front_words text rest bare after ops last s cut none = record {
  spelled = s.spelled;
  listing = s.listing;
  ended = λ o behind g e. none o g (line_cut o rest bare after behind g cut e).0;
}

-- a number doesn't rise
pub bad_number : (text rest bare after : List ℕ) (ops : List VkOp) (o : VkOp) (last : Option ℕ) → SoFar text rest ops last → Cut 10 rest bare (10 ∷ after) → ReadsLine bare o
    → (Rise (least_of last) (numbers (o ∷ [])) → ⊥) → IsFirstBad text (length ops + 1)
bad_number text rest bare after ops o last s cut l falls =
    let here = line_read o rest bare after cut l in
    record {
      ops = ops;
      order = None;
      rest = rest;
      spelled = s.spelled;
      listing = s.listing;
      order_good = tt;
      more = some_bytes rest bare after cut.spelled;
      no_operation = λ n p behind good e.
          let same = line_front o p after behind l.good (listing_last ops p good) (sym here ∙ e) in
          let rises = listing_rises ops p good in
          falls (subst (λ (k : ℕ). Rise k (numbers (o ∷ []))) (sym s.least) (subst (λ (q : VkOp). Rise (least_after 0 (numbers ops)) (numbers (q ∷ []))) (sym same.0) rises));
      no_order = λ n places behind good e. not_both places o behind after (sym e ∙ here);
      number = omega arith;
    }
  where
    some_bytes : (rest bare after : List ℕ) → rest ≡ bare ++ 10 ∷ after → 0 < length rest
    some_bytes rest [] after e = omega (arith, ap length e)
    some_bytes rest (x ∷ bare) after e = omega (arith, ap length e)

-- ---- the last line

pub last_none : (rest : List ℕ) → rest ≡ [] → IsLast rest None
last_none rest e = record { spelled = e; good = tt }

pub last_order : (rest bare after places : List ℕ) → Cut 10 rest bare (10 ∷ after) → IsOrderOf bare places → after ≡ [] → IsLast rest (Some places)
last_order rest bare after places cut of none = record {
  spelled = order_read places rest bare after cut of ∙ ap (λ (l : List ℕ). order_line places ++ l) none ∙ append-nil (order_line places);
  good = of.good;
}

pub bad_unended : (rest : List ℕ) (from : ℕ) → 0 < length rest → ((bare more : List ℕ) → rest ≡ bare ++ 10 ∷ more → ⊥) → IsBadLast rest from from
bad_unended rest from some none = record {
  order = None;
  behind = rest;
  spelled = refl;
  good = tt;
  more = some;
  no_order = λ n places later g e. none (join 32 (order_words places)) later (e ∙ order_then places later);
  number = omega arith;
}

pub bad_words : (rest bare after : List ℕ) (from : ℕ) → 0 < length rest → Cut 10 rest bare (10 ∷ after) → NoOrder bare → IsBadLast rest from from
bad_words rest bare after from some cut none = record {
  order = None;
  behind = rest;
  spelled = refl;
  good = tt;
  more = some;
  no_order = λ n places later g e. none places g (order_cut places rest bare after later g cut e).0;
  number = omega arith;
}

pub bad_behind : (rest bare after places : List ℕ) (from : ℕ) → Cut 10 rest bare (10 ∷ after) → IsOrderOf bare places → 0 < length after → IsBadLast rest from (from + 1)
bad_behind rest bare after places from cut of some = record {
  order = Some places;
  behind = after;
  spelled = order_read places rest bare after cut of;
  good = of.good;
  more = some;
  no_order = λ n. absurd (cc n);
  number = omega arith;
}

-- ---- the whole text

pub text_read : (text rest : List ℕ) (ops : List VkOp) (order : Option (List ℕ)) → IsFront text ops rest → IsLast rest order → IsAuditText text ops order
text_read text rest ops order f l = record {
  spelled = f.spelled ∙ ap (λ (t : List ℕ). text_of ops ++ t) l.spelled;
  listing = f.listing;
  order_good = l.good;
}

pub text_bad : (text rest : List ℕ) (ops : List VkOp) (n : ℕ) → IsFront text ops rest → IsBadLast rest (length ops + 1) n → IsFirstBad text n
text_bad text rest ops n f b = record {
  ops = ops;
  order = b.order;
  rest = b.behind;
  spelled = f.spelled ∙ ap (λ (t : List ℕ). text_of ops ++ t) b.spelled;
  listing = f.listing;
  order_good = b.good;
  more = b.more;
  no_operation = λ none o behind g e.
      f.ended o behind (listing_last ops o g) (b.spelled ∙ ap (λ (order : Option (List ℕ)). order_text order ++ b.behind) none ∙ e);
  no_order = b.no_order;
  number = omega (arith, b.number);
}
