-- Each part is put down behind those before it, and the check words behind them all.
use Rattle.std.proofs.Common.{◌+◌, ◌-◌, ◌*◌, ◌++◌, length, length-append, replicate, arith}
use Rattle.coding.specs.Numbers.{bytes_of}
use Rattle.coding.specs.Samples.{bytes_of_samples}
use Rattle.block.specs.Written.{contents_of}
use Rattle.coding.proofs.Bytes.{samples_bytes_length}
use Rattle.coding.proofs.Parts.{behind}
use Rattle.block.proofs.Made.{head_length, filled}
use Rattle.block.proofs.writing.fill.Goals as goal

pub returns : goal.returns
unfolding contents_of
returns c =
    let a = c.args in
    let b = a.block.now in
    let xs = a.samples.now in
    let head = bytes_of 1 1 ++ bytes_of 1 a.code ++ bytes_of 2 (length xs) ++ bytes_of 8 a.before in
    let samples = bytes_of_samples xs in
    let start = head_length a.code (length xs) a.before in
    filled a.code a.before xs b c.put_zeros.new.buffer _ c.told-block c.requires
    (behind b _ _ (head ++ samples) (replicate (508 - (12 + 2 * length xs)) 0) 0 (12 + 2 * length xs)
    (omega (arith, length-append head samples, start, samples_bytes_length xs))
    (behind b _ _ head samples 0 12 (omega (arith, start)) c.head.ensures c.put_samples.ensures)
    c.put_zeros.ensures)
    c.seal.ensures
