-- Each field is put down behind those before it.
use Rattle.std.proofs.Common.{◌++◌, ℕ, length-append, ap, ◌∙◌, arith}
use Rattle.std.proofs.lemmas.List.Edits.{sets}
use Rattle.coding.specs.Numbers.{bytes_of}
use Rattle.coding.proofs.Bytes.{bytes_length}
use Rattle.coding.proofs.Parts.{behind}
use Rattle.block.proofs.writing.head.Goals as goal

pub returns : goal.returns
returns c =
    let a = c.args in
    let kind = bytes_of 1 1 in
    let code = bytes_of 1 a.code in
    let count = bytes_of 2 a.count in
    behind a.buffer.now _ _ (kind ++ code ++ count) (bytes_of 8 a.before) 0 4
    (omega (arith, length-append (kind ++ code) count, length-append kind code, bytes_length 1 1, bytes_length 1 a.code, bytes_length 2 a.count))
    (behind a.buffer.now _ _ (kind ++ code) count 0 2
    (omega (arith, length-append kind code, bytes_length 1 1, bytes_length 1 a.code))
    (behind a.buffer.now _ _ kind code 0 1 (omega (arith, bytes_length 1 1)) c.put_number.ensures (c.put_number-2.ensures ∙ ap (λ (x : ℕ). sets c.put_number.new.buffer 1 (bytes_of 1 x)) c.into.ensures))
    c.put_number-3.ensures)
    c.put_number-4.ensures
