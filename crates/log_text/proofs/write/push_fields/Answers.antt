use Rattle.std.proofs.Common.{◌*◌, ◌+◌}
use Rattle.log_text.specs.LogText.{fields}
use Rattle.log_text.proofs.Written.{bytes_written}
use Rattle.log_text.proofs.Results.{on_ok}
use Rattle.log_text.proofs.write.push_fields.Goals as goal

pub returns-in-Words : goal.returns-in-Words
unfolding fields
returns-in-Words c = rw c.in-Words.is c.push_numbers.ensures

pub returns-in_ok-push_numbers-in-Counted : goal.returns-in_ok-push_numbers-in-Counted
unfolding fields
returns-in_ok-push_numbers-in-Counted c =
    rw c.in-Counted.is (
    on_ok c.push_bytes.result _ _ (bytes_written c.in-Counted.n (4 * c.in-Counted.n + 4) _ _ _ c.args.body.now _ c.in_ok-push_numbers-in-Counted.ensures c.tail.ensures) c.push_bytes.ensures
    )

pub returns-in_ok-push_numbers-in-Tokens : goal.returns-in_ok-push_numbers-in-Tokens
unfolding fields
returns-in_ok-push_numbers-in-Tokens c =
    rw c.in-Tokens.is (
    on_ok c.push_bytes-in-Tokens.result _ _ (bytes_written 1 4 _ _ _ c.args.body.now _ c.in_ok-push_numbers-in-Tokens.ensures c.tail-in-Tokens.ensures) c.push_bytes-in-Tokens.ensures
    )

pub returns-in-Free : goal.returns-in-Free
unfolding fields
returns-in-Free c = rw c.in-Free.is c.push_bytes-in-Free.ensures
