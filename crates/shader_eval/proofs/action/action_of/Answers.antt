use Rattle.std.proofs.Common.{sym, ap, arith}
use Rattle.shader_model.specs.Opcodes.{row_of}
use Rattle.shader_eval.specs.Actions.{action_at}
use Rattle.shader_eval.proofs.Acting.{none_at}
use Rattle.shader_eval.proofs.action.action_of.Goals as goal

pub returns-in-16 : goal.returns-in-16
unfolding row_of
returns-in-16 c = sym (ap action_at c.in-16.is)

pub returns-in-17 : goal.returns-in-17
unfolding row_of
returns-in-17 c = sym (ap action_at c.in-17.is)

pub returns-in-18 : goal.returns-in-18
unfolding row_of
returns-in-18 c = sym (ap action_at c.in-18.is)

pub returns-in-19 : goal.returns-in-19
unfolding row_of
returns-in-19 c = sym (ap action_at c.in-19.is)

pub returns-in-20 : goal.returns-in-20
unfolding row_of
returns-in-20 c = sym (ap action_at c.in-20.is)

pub returns-in-21 : goal.returns-in-21
unfolding row_of
returns-in-21 c = sym (ap action_at c.in-21.is)

pub returns-in-22 : goal.returns-in-22
unfolding row_of
returns-in-22 c = sym (ap action_at c.in-22.is)

pub returns-in-23 : goal.returns-in-23
unfolding row_of
returns-in-23 c = sym (ap action_at c.in-23.is)

pub returns-in-24 : goal.returns-in-24
unfolding row_of
returns-in-24 c = sym (ap action_at c.in-24.is)

pub returns-in-25 : goal.returns-in-25
unfolding row_of
returns-in-25 c = sym (ap action_at c.in-25.is)

pub returns-in-26 : goal.returns-in-26
unfolding row_of
returns-in-26 c = sym (ap action_at c.in-26.is)

pub returns-in-27 : goal.returns-in-27
unfolding row_of
returns-in-27 c = sym (ap action_at c.in-27.is)

pub returns-in-28 : goal.returns-in-28
unfolding row_of
returns-in-28 c = sym (ap action_at c.in-28.is)

pub returns-in-29 : goal.returns-in-29
unfolding row_of
returns-in-29 c = sym (ap action_at c.in-29.is)

pub returns-in-30 : goal.returns-in-30
unfolding row_of
returns-in-30 c = sym (ap action_at c.in-30.is)

pub returns-in-31 : goal.returns-in-31
unfolding row_of
returns-in-31 c = sym (ap action_at c.in-31.is)

pub returns-in-32 : goal.returns-in-32
unfolding row_of
returns-in-32 c = sym (ap action_at c.in-32.is)

pub returns-in-33 : goal.returns-in-33
unfolding row_of
returns-in-33 c = sym (ap action_at c.in-33.is)

pub returns-in-34 : goal.returns-in-34
unfolding row_of
returns-in-34 c = sym (ap action_at c.in-34.is)

pub returns-in-35 : goal.returns-in-35
unfolding row_of
returns-in-35 c = sym (ap action_at c.in-35.is)

pub returns-in-36 : goal.returns-in-36
unfolding row_of
returns-in-36 c = sym (ap action_at c.in-36.is)

pub returns-in-37 : goal.returns-in-37
unfolding row_of
returns-in-37 c = sym (ap action_at c.in-37.is)

pub returns-in-38 : goal.returns-in-38
unfolding row_of
returns-in-38 c = sym (ap action_at c.in-38.is)

pub returns-in-39 : goal.returns-in-39
unfolding row_of
returns-in-39 c = sym (ap action_at c.in-39.is)

pub returns-in-40 : goal.returns-in-40
unfolding row_of
returns-in-40 c = sym (ap action_at c.in-40.is)

pub returns-in-41 : goal.returns-in-41
unfolding row_of
returns-in-41 c = sym (ap action_at c.in-41.is)

pub returns-in-42 : goal.returns-in-42
unfolding row_of
returns-in-42 c = sym (ap action_at c.in-42.is)

pub returns-in-43 : goal.returns-in-43
unfolding row_of
returns-in-43 c = sym (ap action_at c.in-43.is)

pub returns-in-44 : goal.returns-in-44
unfolding row_of
returns-in-44 c = sym (ap action_at c.in-44.is)

pub returns-in-45 : goal.returns-in-45
unfolding row_of
returns-in-45 c = sym (ap action_at c.in-45.is)

pub returns-in-48 : goal.returns-in-48
unfolding row_of
returns-in-48 c = sym (ap action_at c.in-48.is)

pub returns-in-49 : goal.returns-in-49
unfolding row_of
returns-in-49 c = sym (ap action_at c.in-49.is)

pub returns-in-50 : goal.returns-in-50
unfolding row_of
returns-in-50 c = sym (ap action_at c.in-50.is)

pub returns-in-51 : goal.returns-in-51
unfolding row_of
returns-in-51 c = sym (ap action_at c.in-51.is)

pub returns-in-52 : goal.returns-in-52
unfolding row_of
returns-in-52 c = sym (ap action_at c.in-52.is)

pub returns-in-53 : goal.returns-in-53
unfolding row_of
returns-in-53 c = sym (ap action_at c.in-53.is)

pub returns-in-56 : goal.returns-in-56
unfolding row_of
returns-in-56 c = sym (ap action_at c.in-56.is)

pub returns-in-57 : goal.returns-in-57
unfolding row_of
returns-in-57 c = sym (ap action_at c.in-57.is)

pub returns-in-58 : goal.returns-in-58
unfolding row_of
returns-in-58 c = sym (ap action_at c.in-58.is)

pub returns-in-59 : goal.returns-in-59
unfolding row_of
returns-in-59 c = sym (ap action_at c.in-59.is)

pub returns-in-60 : goal.returns-in-60
unfolding row_of
returns-in-60 c = sym (ap action_at c.in-60.is)

pub returns-in-61 : goal.returns-in-61
unfolding row_of
returns-in-61 c = sym (ap action_at c.in-61.is)

pub returns-in-62 : goal.returns-in-62
unfolding row_of
returns-in-62 c = sym (ap action_at c.in-62.is)

pub returns-in-63 : goal.returns-in-63
unfolding row_of
returns-in-63 c = sym (ap action_at c.in-63.is)

pub returns-in-64 : goal.returns-in-64
unfolding row_of
returns-in-64 c = sym (ap action_at c.in-64.is)

pub returns-in-65 : goal.returns-in-65
unfolding row_of
returns-in-65 c = sym (ap action_at c.in-65.is)

pub returns-in_default : goal.returns-in_default
returns-in_default c = sym (none_at c.args.opcode (λ p q. omega arith) (λ p q. omega arith) (λ p q. omega arith))
