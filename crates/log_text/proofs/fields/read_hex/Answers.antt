use Rattle.std.proofs.Common.{◌≡◌, ℕ, List, true, drop, replicate, vec_len, ◌+◌, ◌/◌, ◌-◌, length, sym, ap, ◌∙◌, arith}
use Rattle.std.proofs.lemmas.List.{length-replicate}
use Rattle.text_words.specs.Words.{lower}
use Rattle.log_text.proofs.ByteFields.{put_decoded}
use Rattle.text_words.proofs.Hex.{encode_sized, decode_back, lower_encode}
use Rattle.log_text.proofs.fields.read_hex.Goals as goal

pub returns-then-not-is_lower-clause-bad : goal.returns-then-not-is_lower-clause-bad
returns-then-not-is_lower-clause-bad c =
    λ bytes fit is.
    let low = lower_encode bytes fit in
    let e = ap lower is in
    cc

pub returns-then-decode_from-clause-found : goal.returns-then-decode_from-clause-found
returns-then-decode_from-clause-found c =
    let old : List ℕ = c.args.log.now.items in
    let from : ℕ = c.len-from.result in
    let room : List ℕ = replicate (from + length c.args.word.now / 2 - vec_len c.args.log.now) 0 in
    let len = length-replicate {A = ℕ} (from + length c.args.word.now / 2 - vec_len c.args.log.now) 0 in
    let d = c.decode_from.ensures.decoded c.if-decode_from.true in
    let low : lower c.args.word.now ≡ true = sym c.is_lower.ensures ∙ c.if-not-is_lower.false in
    let back = encode_sized _ _ _ d low in (
      drop from c.decode_from.new.bytes,
      back.1,
      sym back.0,
      put_decoded old room c.resize.new.self.items c.as_mut_slice.result.now c.decode_from.new.bytes from (length c.args.word.now / 2) c.resize.new.self.len
          (omega arith) c.in_ok-resize.ensures.items (omega arith) c.decode_from.ensures.kept c.as_mut_slice.ensures.value (omega arith) (omega (arith, c.in_ok-resize.ensures.len)),
    )

pub returns-else-decode_from-clause-bad : goal.returns-else-decode_from-clause-bad
returns-else-decode_from-clause-bad c =
    λ bytes fit is.
    let o = c.decode_from.ensures.other bytes (decode_back c.args.word.now bytes _ fit is (omega (arith, c.in_ok-resize.ensures.len))) in
    cc
