use Rattle.std.proofs.Common.{◌∙◌, sym, ap, arith, Some, refl}
use Rattle.slice_board.proofs.Moves.{tries_take, empties, reads}
use Rattle.slice_board.proofs.Turns.{first_of_two, second_of_two, slot_there, took, found_low}
use Rattle.slice_board.proofs.board.Board.take_at.Goals as goal

pub fetch_and-found-requires : goal.fetch_and-found-requires
fetch_and-found-requires c = (ap (λ x. x.board) c.seat.view_is ∙ (c.requires.board ∙ sym c.self.view_is), omega (arith, c.self.invariant.0, c.requires.place), tries_take _ _ _ _ c.requires.place c.seat.invariant.1)

pub invariant_of-seat : goal.invariant_of-seat
invariant_of-seat c = let h = second_of_two _ 3 _ _ (c.fetch_and-found.ensures.2 c.args.place refl) c.if-found-ne3.true in
    (h.0.slot ∙ c.seat.invariant.0, ap (λ u. u.held) h.0.hand ∙ c.seat.invariant.1, rw (ap (λ u. u.read) h.0.hand) c.seat.invariant.2)

pub returns-then-found-ne3-clause-taken : goal.returns-then-found-ne3-clause-taken
returns-then-found-ne3-clause-taken c = let h = second_of_two _ 3 _ _ (c.fetch_and-found.ensures.2 c.args.place refl) c.if-found-ne3.true in
    rw (← (ap (λ x. x.hand) c.seat.view_is)) record { found = c.fetch_and-found.result; word = c.if-found-ne3.true; hand = h.0.hand; pool = h.1 }

pub exchange-block-requires : goal.exchange-block-requires
exchange-block-requires c = let h = first_of_two _ 3 _ _ (c.fetch_and-found.ensures.2 c.args.place refl) c.if-found-ne3.false in
    (c.fetch_and-found.ensures.0 ∙ (ap (λ x. x.board) c.seat.view_is ∙ (c.requires.board ∙ sym c.self.view_is)), (Some h.block, slot_there _ _ _ _ h.slot))

pub swap-requires : goal.swap-requires
swap-requires c = let h = first_of_two _ 3 _ _ (c.fetch_and-found.ensures.2 c.args.place refl) c.if-found-ne3.false in let e = c.exchange-block.ensures.3 in (
  c.exchange-block.ensures.0 ∙ (c.fetch_and-found.ensures.0 ∙ (ap (λ x. x.board) c.seat.view_is ∙ (c.requires.board ∙ sym c.self.view_is))),
  omega (arith, c.self.invariant.0, c.requires.place),
  empties _ _ _ 0 _ c.requires.place (ap (λ m. m.0.held) e ∙ ap (λ u. u.held) h.hand) (slot_there _ _ _ _ (ap (λ m. m.1) e)),
)

pub load-requires : goal.load-requires
load-requires c = (c.swap.ensures.0 ∙ (c.exchange-block.ensures.0 ∙ (c.fetch_and-found.ensures.0 ∙ (ap (λ x. x.board) c.seat.view_is ∙ (c.requires.board ∙ sym c.self.view_is)))), omega (arith, c.self.invariant.0), reads _ _ _)

pub invariant_of-seat-2 : goal.invariant_of-seat-2
invariant_of-seat-2 c = let h = first_of_two _ 3 _ _ (c.fetch_and-found.ensures.2 c.args.place refl) c.if-found-ne3.false in
    let all = took _ _ _ _ _ _ _ _ _ _ (ap (λ x. x.hand) c.seat.view_is) c.seat.invariant.0 h c.exchange-block.ensures.2 c.exchange-block.ensures.3 (c.swap.ensures.2 c.args.place refl) c.load.ensures.2 in
    (all.0, all.1, found_low _ _ _ c.load.ensures.2.1 c.load.ensures.2.2)

pub returns-clause-taken : goal.returns-clause-taken
returns-clause-taken c = let h = first_of_two _ 3 _ _ (c.fetch_and-found.ensures.2 c.args.place refl) c.if-found-ne3.false in
    (took _ _ _ _ _ _ _ _ _ _ (ap (λ x. x.hand) c.seat.view_is) c.seat.invariant.0 h c.exchange-block.ensures.2 c.exchange-block.ensures.3 (c.swap.ensures.2 c.args.place refl) c.load.ensures.2).2
