-- The replies of the first calls are a front of all replies.
use Rattle.std.proofs.Common.{◌≡◌, ℕ, zero, suc, ◌+◌, ◌≤◌, List, [], ◌∷◌, ◌++◌, length, Option, refl, sym, ap, ◌∙◌, append_assoc, arith, inl, inr}
use Rattle.std.specs.Option.{option_to_list}
use Rattle.std.proofs.Math.Numerals.{add-one}
use Rattle.std.proofs.lemmas.Bool.{cases_eq}
use Rattle.std.proofs.lemmas.List.{append-nil}
use Rattle.dx_types.specs.declared.reply.Reply.{Reply}
use Rattle.dx_types.specs.declared.reply.Reply.TheVariants.{Finished}
use Rattle.call_log.specs.Call.{Issued}
use Rattle.d3d_model.specs.ReplyText.{Pending, replies, replies_upto, reply_at}

-- one list of replies is a front of another
pub record Fronts (front whole : List Reply) : Type 0 where
  pub rest : List Reply
  pub is : whole ≡ front ++ rest

pub replies_upto-next : (at : ℕ → Option Reply) (n : ℕ) → replies_upto at (n + 1) ≡ replies_upto at n ++ option_to_list (at (n + 1))
unfolding replies_upto
replies_upto-next at n = ap (λ (k : ℕ). replies_upto at k) (add-one n) ∙ ap (λ (k : ℕ). replies_upto at n ++ option_to_list (at k)) (sym (add-one n))

pub replies_upto-none : (at : ℕ → Option Reply) → replies_upto at 0 ≡ []
unfolding replies_upto
replies_upto-none at = refl

upto_front : (at : ℕ → Option Reply) (m n : ℕ) → n ≤ m → Fronts (replies_upto at n) (replies_upto at m)
unfolding replies_upto
upto_front at zero zero le = record { rest = []; is = refl }
upto_front at zero (suc n) le = absurd (omega arith)
upto_front at (suc m) n le = elim (cases_eq n (suc m)) [
  | inl e ↦ record { rest = []; is = ap (λ (k : ℕ). replies_upto at k) (sym e) ∙ sym (append-nil (replies_upto at n)) }
  | inr apart ↦
      let before = upto_front at m n (omega arith) in
      record { rest = before.rest ++ option_to_list (at (suc m)); is = ap (λ (l : List Reply). l ++ option_to_list (at (suc m))) before.is ∙ append_assoc (replies_upto at n) before.rest (option_to_list (at (suc m))) }
]

pub replies_front : (log : List Issued) (pending : Pending) (n : ℕ) → n ≤ length log → Fronts (replies_upto (reply_at log pending) n) (replies log pending)
replies_front log pending n le =
    let f = upto_front (reply_at log pending) (length log) n le in
    let last : List Reply = Finished (length log) ∷ [] in
    record { rest = f.rest ++ last; is = ap (λ (l : List Reply). l ++ last) f.is ∙ append_assoc (replies_upto (reply_at log pending) n) f.rest last }
