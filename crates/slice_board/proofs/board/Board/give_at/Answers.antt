use Rattle.std.proofs.Common.{◌∙◌, sym, ap, arith, None, refl}
use Rattle.slice_board.proofs.Moves.{tries_give, fills}
use Rattle.slice_board.proofs.Turns.{first_of_two, second_of_two, slot_there, gave}
use Rattle.slice_board.proofs.board.Board.give_at.Goals as goal

pub compare_exchange-found-requires : goal.compare_exchange-found-requires
compare_exchange-found-requires c = (ap (λ x. x.board) c.seat.view_is ∙ (c.requires.board ∙ sym c.self.view_is), omega (arith, c.self.invariant.0, c.requires.place), tries_give _ _ _ _ c.requires.place c.seat.invariant.1)

pub invariant_of-seat : goal.invariant_of-seat
invariant_of-seat c = let h = second_of_two _ 0 _ _ (c.compare_exchange-found.ensures.2 c.args.place refl) c.if-found-ne-VACANT.true in
    (h.0.slot ∙ c.seat.invariant.0, ap (λ u. u.held) h.0.hand ∙ c.seat.invariant.1, rw (ap (λ u. u.read) h.0.hand) c.seat.invariant.2)

pub returns-then-found-ne-VACANT-clause-given : goal.returns-then-found-ne-VACANT-clause-given
returns-then-found-ne-VACANT-clause-given c = let h = second_of_two _ 0 _ _ (c.compare_exchange-found.ensures.2 c.args.place refl) c.if-found-ne-VACANT.true in
    (refl, rw (← (ap (λ x. x.hand) c.seat.view_is)) record { found = c.compare_exchange-found.result; word = c.if-found-ne-VACANT.true; hand = h.0.hand; pool = h.1 })

pub exchange-requires : goal.exchange-requires
exchange-requires c = let h = first_of_two _ 0 _ _ (c.compare_exchange-found.ensures.2 c.args.place refl) c.if-found-ne-VACANT.false in
    (c.compare_exchange-found.ensures.0 ∙ (ap (λ x. x.board) c.seat.view_is ∙ (c.requires.board ∙ sym c.self.view_is)), (None, slot_there _ _ _ _ h.slot))

pub swap-requires : goal.swap-requires
swap-requires c = let h = first_of_two _ 0 _ _ (c.compare_exchange-found.ensures.2 c.args.place refl) c.if-found-ne-VACANT.false in let e = c.exchange.ensures.3 in (
  c.exchange.ensures.0 ∙ (c.compare_exchange-found.ensures.0 ∙ (ap (λ x. x.board) c.seat.view_is ∙ (c.requires.board ∙ sym c.self.view_is))),
  omega (arith, c.self.invariant.0, c.requires.place),
  fills _ _ _ _ _ c.args.block c.requires.place (ap (λ m. m.0.held) e ∙ ap (λ u. u.held) h.hand) (slot_there _ _ _ _ (ap (λ m. m.1) e)) refl
      (rw (ap (λ m. m.0.read) e ∙ ap (λ u. u.read) h.hand ∙ ap (λ x. x.hand.read) c.seat.view_is) c.requires.retired) c.requires.len,
)

pub invariant_of-seat-2 : goal.invariant_of-seat-2
invariant_of-seat-2 c = let h = first_of_two _ 0 _ _ (c.compare_exchange-found.ensures.2 c.args.place refl) c.if-found-ne-VACANT.false in
    let all = gave _ _ _ _ _ _ _ _ (ap (λ x. x.hand) c.seat.view_is) c.seat.invariant.0 h c.exchange.ensures.3 (c.swap.ensures.2 c.args.place c.args.block refl (slot_there _ _ _ _ (ap (λ m. m.1) c.exchange.ensures.3))) in
    (all.0, all.1, rw (ap (λ u. u.read) all.2.hand ∙ sym (ap (λ x. x.hand.read) c.seat.view_is)) c.seat.invariant.2)

pub returns-clause-given : goal.returns-clause-given
returns-clause-given c = let h = first_of_two _ 0 _ _ (c.compare_exchange-found.ensures.2 c.args.place refl) c.if-found-ne-VACANT.false in
    (gave _ _ _ _ _ _ _ _ (ap (λ x. x.hand) c.seat.view_is) c.seat.invariant.0 h c.exchange.ensures.3 (c.swap.ensures.2 c.args.place c.args.block refl (slot_there _ _ _ _ (ap (λ m. m.1) c.exchange.ensures.3)))).2
