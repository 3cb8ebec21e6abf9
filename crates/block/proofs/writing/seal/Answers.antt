-- The first check word, and the second behind it.
use Rattle.std.proofs.Common.{ℕ, ap, ◌∙◌, arith}
use Rattle.std.proofs.lemmas.List.Edits.{sets}
use Rattle.block.specs.Block.{check_sum, weighted_sum}
use Rattle.coding.specs.Numbers.{bytes_of}
use Rattle.coding.proofs.Bytes.{bytes_length}
use Rattle.coding.proofs.Parts.{behind}
use Rattle.block.proofs.writing.seal.Goals as goal

pub returns : goal.returns
returns c =
    let b = c.args.block.now in
    let first = c.put_number.new.buffer in
    let words = c.of-words.ensures in
    behind b first _ (bytes_of 2 (check_sum b)) (bytes_of 2 (weighted_sum b)) 508 510 (omega (arith, bytes_length 2 (check_sum b)))
    (c.put_number.ensures ∙ ap (λ (w : ℕ). sets b 508 (bytes_of 2 w)) (c.into.ensures ∙ words.sum))
    (c.put_number-2.ensures ∙ ap (λ (w : ℕ). sets first 510 (bytes_of 2 w)) (c.into-2.ensures ∙ words.weighted))
