-- The table of the instructions: their numbers, names and operands, how they reach a view, and what they
-- are among the blocks.
use Rattle.std.specs.Prelude.{ℕ, ◌==◌, true, false, if◌then◌else◌, List, [], ◌∷◌, Option, Some, None}
use Rattle.dx_types.specs.declared.shape.Form.TheVariants.{Raw, Structured, Typed}
use Rattle.shader_model.specs.declared.opcode.Opcode.{Opcode}
use Rattle.shader_model.specs.declared.opcode.Opcode.TheVariants as op
use Rattle.shader_model.specs.declared.opcode.Kind.{Kind}
use Rattle.shader_model.specs.declared.opcode.Kind.TheVariants.{Destination, Source, SlotWord}
use Rattle.shader_model.specs.declared.opcode.Layout.{Layout}
use Rattle.shader_model.specs.declared.opcode.Layout.TheVariants as takes
use Rattle.shader_model.specs.declared.opcode.Access.{Access}
use Rattle.shader_model.specs.declared.opcode.Access.TheVariants.{Loads, Stores, Changes, ReachesNone}
use Rattle.shader_model.specs.declared.opcode.Role.{Role}
use Rattle.shader_model.specs.declared.opcode.Role.TheVariants as role
use Rattle.shader_model.specs.declared.opcode.Row.{Row}

-- the operands of an instruction, in order
abbrev pub kinds : Layout → List Kind
kinds takes.Ds = Destination ∷ Source ∷ []
kinds takes.Dss = Destination ∷ Source ∷ Source ∷ []
kinds takes.Dsss = Destination ∷ Source ∷ Source ∷ Source ∷ []
kinds takes.Dssss = Destination ∷ Source ∷ Source ∷ Source ∷ Source ∷ []
kinds takes.Ddss = Destination ∷ Destination ∷ Source ∷ Source ∷ []
kinds takes.Dst = Destination ∷ Source ∷ SlotWord ∷ []
kinds takes.Dsst = Destination ∷ Source ∷ Source ∷ SlotWord ∷ []
kinds takes.Tss = SlotWord ∷ Source ∷ Source ∷ []
kinds takes.Tsss = SlotWord ∷ Source ∷ Source ∷ Source ∷ []
kinds takes.Dtsss = Destination ∷ SlotWord ∷ Source ∷ Source ∷ Source ∷ []
kinds takes.Dtssss = Destination ∷ SlotWord ∷ Source ∷ Source ∷ Source ∷ Source ∷ []
kinds takes.S = Source ∷ []
kinds takes.Nothing = []

-- a row of an instruction that computes, of one that reaches a view, and of one that shapes the blocks
abbrev pub computes : ℕ → Opcode → Layout → Row
computes n o l = record { number = n; name = o; layout = l; access = ReachesNone; role = role.Plain }

abbrev pub reaches : ℕ → Opcode → Layout → Access → Row
reaches n o l a = record { number = n; name = o; layout = l; access = a; role = role.Plain }

abbrev pub shapes : ℕ → Opcode → Layout → Role → Row
shapes n o l r = record { number = n; name = o; layout = l; access = ReachesNone; role = r }

-- the table, by rising opcode
abbrev pub rows : List Row
rows =
    computes 16 op.Mov takes.Ds
    ∷ computes 17 op.Movc takes.Dsss
    ∷ computes 18 op.Iadd takes.Dss
    ∷ computes 19 op.Ineg takes.Ds
    ∷ computes 20 op.Imad takes.Dsss
    ∷ computes 21 op.Imul takes.Ddss
    ∷ computes 22 op.Umul takes.Ddss
    ∷ computes 23 op.Udiv takes.Ddss
    ∷ computes 24 op.Imin takes.Dss
    ∷ computes 25 op.Imax takes.Dss
    ∷ computes 26 op.Umin takes.Dss
    ∷ computes 27 op.Umax takes.Dss
    ∷ computes 28 op.And takes.Dss
    ∷ computes 29 op.Or takes.Dss
    ∷ computes 30 op.Xor takes.Dss
    ∷ computes 31 op.Not takes.Ds
    ∷ computes 32 op.Ishl takes.Dss
    ∷ computes 33 op.Ishr takes.Dss
    ∷ computes 34 op.Ushr takes.Dss
    ∷ computes 35 op.Ieq takes.Dss
    ∷ computes 36 op.Ine takes.Dss
    ∷ computes 37 op.Ige takes.Dss
    ∷ computes 38 op.Ilt takes.Dss
    ∷ computes 39 op.Uge takes.Dss
    ∷ computes 40 op.Ult takes.Dss
    ∷ computes 41 op.Ubfe takes.Dsss
    ∷ computes 42 op.Ibfe takes.Dsss
    ∷ computes 43 op.Bfi takes.Dssss
    ∷ computes 44 op.Bfrev takes.Ds
    ∷ computes 45 op.Countbits takes.Ds
    ∷ reaches 48 op.LdRaw takes.Dst (Loads Raw)
    ∷ reaches 49 op.StoreRaw takes.Tss (Stores Raw)
    ∷ reaches 50 op.LdStructured takes.Dsst (Loads Structured)
    ∷ reaches 51 op.StoreStructured takes.Tsss (Stores Structured)
    ∷ reaches 52 op.LdTyped takes.Dst (Loads Typed)
    ∷ reaches 53 op.StoreTyped takes.Tss (Stores Typed)
    ∷ reaches 56 op.AtomicIadd takes.Dtsss Changes
    ∷ reaches 57 op.AtomicAnd takes.Dtsss Changes
    ∷ reaches 58 op.AtomicOr takes.Dtsss Changes
    ∷ reaches 59 op.AtomicXor takes.Dtsss Changes
    ∷ reaches 60 op.AtomicImin takes.Dtsss Changes
    ∷ reaches 61 op.AtomicImax takes.Dtsss Changes
    ∷ reaches 62 op.AtomicUmin takes.Dtsss Changes
    ∷ reaches 63 op.AtomicUmax takes.Dtsss Changes
    ∷ reaches 64 op.AtomicExch takes.Dtsss Changes
    ∷ reaches 65 op.AtomicCmpExch takes.Dtssss Changes
    ∷ shapes 80 op.IfNz takes.S (role.If true)
    ∷ shapes 81 op.IfZ takes.S (role.If false)
    ∷ shapes 82 op.Else takes.Nothing role.Else
    ∷ shapes 83 op.Endif takes.Nothing role.Endif
    ∷ shapes 84 op.Loop takes.Nothing role.Loop
    ∷ shapes 85 op.Endloop takes.Nothing role.Endloop
    ∷ shapes 86 op.Break takes.Nothing (role.Break None)
    ∷ shapes 87 op.BreakNz takes.S (role.Break (Some true))
    ∷ shapes 88 op.BreakZ takes.S (role.Break (Some false))
    ∷ shapes 89 op.Continue takes.Nothing (role.Continue None)
    ∷ shapes 90 op.ContinueNz takes.S (role.Continue (Some true))
    ∷ shapes 91 op.ContinueZ takes.S (role.Continue (Some false))
    ∷ shapes 92 op.Ret takes.Nothing (role.Return None)
    ∷ shapes 93 op.RetNz takes.S (role.Return (Some true))
    ∷ shapes 94 op.RetZ takes.S (role.Return (Some false))
    ∷ []

-- the row of an opcode among these
abbrev pub row_among : ℕ → List Row → Option Row
row_among n [] = None
row_among n (r ∷ rs) = if r.number == n then Some r else row_among n rs

-- the row of an opcode, None where no instruction has it
unfoldable pub row_of : ℕ → Option Row
row_of n = row_among n rows
