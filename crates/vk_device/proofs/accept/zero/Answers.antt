use Rattle.std.proofs.Common.{◌≡◌, ℕ, List, length, replicate, ap, ◌∙◌, arith}
use Rattle.std.specs.Prelude.{vec_len}
use Rattle.buffer_blocks.specs.declared.block.Block.{Block}
use Rattle.buffer_blocks.specs.Block.{bytes_of, with_bytes}
use Rattle.vk_device.proofs.accept.zero.Goals as goal

pub returns : goal.returns
returns c =
    let long : vec_len c.take_bytes-bytes.result ≡ length (bytes_of c.args.block.now) =
    omega (arith, c.take_bytes-bytes.result.ok.0, ap (λ (l : List ℕ). length l) c.take_bytes-bytes.ensures.bytes) in
    c.put_bytes.ensures
    ∙ ap (λ (bs : List ℕ). with_bytes c.take_bytes-bytes.new.self bs) (c.fill.ensures.items (λ y h. h) ∙ ap (λ (n : ℕ). replicate n 0) long)
    ∙ ap (λ (b : Block). with_bytes b (replicate (length (bytes_of c.args.block.now)) 0)) c.take_bytes-bytes.ensures.rest
