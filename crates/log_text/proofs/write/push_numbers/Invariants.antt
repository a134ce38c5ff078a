use Rattle.std.proofs.Common.{◌≡◌, ◌≤◌, ◌-◌, ◌*◌, ◌++◌, length}
use Rattle.std.specs.String.{string_bytes}
use Rattle.log_text.specs.LogText.{number_fields}
use Rattle.log_text.proofs.write.push_numbers.Given as goal

abbrev pub invariant-numbers : goal.invariant-numbers
invariant-numbers l =
    (string_bytes l.text ++ number_fields (l.n - l.i) l.rest ≡ string_bytes l.fn.text ++ number_fields l.n l.fn.body) × (4 * (l.n - l.i) ≤ length l.rest)
