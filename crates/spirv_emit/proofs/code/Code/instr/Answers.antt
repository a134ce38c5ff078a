use Rattle.std.proofs.Common.{◌++◌, ap, sym, subst, ◌∙◌, arith}
use Rattle.spirv_emit.specs.Emits.{layout_of, PiecesAreSmall}
use Rattle.spirv_emit.specs.Code.{pieces_end}
use Rattle.spirv_emit.specs.Lower.{instr_pieces}
use Rattle.spirv_emit.proofs.Words.LeavesAndLoops.{pieces_of}
use Rattle.spirv_emit.proofs.code.Code.instr.Goals as goal

pub returns : goal.returns
returns c = pieces_of (layout_of c.args.plan.now) _ (instr_pieces c.args.declared.now c.args.instr.now) (c.as_slice.ensures.value ∙ c.in_ok-add_instr.ensures ∙ ap (λ z. z ++ instr_pieces c.args.declared.now c.args.instr.now) c.new-pieces.ensures.items) c.in_ok-pieces.ensures

pub pieces-requires : goal.pieces-requires
pieces-requires c =
    let e = c.as_slice.ensures.value ∙ c.in_ok-add_instr.ensures ∙ ap (λ z. z ++ instr_pieces c.args.declared.now c.args.instr.now) c.new-pieces.ensures.items in
    record {
      small = subst PiecesAreSmall (sym e) c.requires.0;
      room = let k = ap (pieces_end c.args.self.now.next) e in omega (arith, k, c.requires.1);
    }
