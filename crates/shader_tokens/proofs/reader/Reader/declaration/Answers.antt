use Rattle.shader_tokens.specs.Decoding.{item_of, said}
use Rattle.shader_tokens.proofs.Judging.{declaration-said}
use Rattle.shader_tokens.proofs.reader.Reader.declaration.Goals as goal

pub returns-clause-says : goal.returns-clause-says
returns-clause-says c =
    declaration-said (said c.declare.new.self) (said c.args.self.now) (item_of c.args.item.now) c.declared_of.result c.temps_said-self.result c.requires.declares c.declared_of.ensures c.in_ok-declare.ensures.says c.temps_said-self.ensures
