use Rattle.std.proofs.Common.{Some, drop, ap, sym, ◌∙◌, arith}
use Rattle.port_io.proofs.Pieces.{read_front}
use Rattle.port_io.specs.Memory.{SourceState}
use Rattle.port_io.proofs.memory.MemSourceSource.read.Goals as goal

pub returns-clause-taken : goal.returns-clause-taken
returns-clause-taken c =
    let front = rw c.deref-2.ensures.value at c.copy_from_slice.ensures.after in
    let is = read_front c.self.inside.at c.min-n.result c.self.inside.bytes.items _ (drop c.min-n.result c.args.buf.now) (omega (arith, c.min-n.ensures, c.self.inside.bytes.ok)) front in
    ap Some (sym (ap (λ (s : SourceState). s.left) c.self.view_is) ∙ is)
