use Rattle.std.proofs.Common.{◌≡◌, ◌*◌, ◌≤◌}
use Rattle.std.specs.Prelude.{sum}
use Rattle.d3d_model.specs.Regions.{words_from}
use Rattle.player.proofs.generate.sum_of_words.Given as goal

abbrev pub invariant-words : goal.invariant-words
invariant-words l = record {
  sum_is : l.sum ≡ sum (words_from l.i l.bytes);
  small : l.sum ≤ 4294967295 * l.i;
}
