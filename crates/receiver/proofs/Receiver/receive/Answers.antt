-- `receiver::Receiver::receive` meets its contract by what the call on a lent hold answers. Assumes nothing.
use Rattle.std.proofs.lemmas.Result.{err_from_is_err_and}
use Rattle.receiver.specs.Receivers.{given}
use Rattle.receiver.proofs.Serves.{refused_by-value}
use Rattle.receiver.proofs.Receiver.receive.Goals as goal

pub returns-in_err-served-clause-value : goal.returns-in_err-served-clause-value
returns-in_err-served-clause-value c =
    let p = err_from_is_err_and c.from_residual.result c.from_residual.ensures.1 in
    refused_by-value 1024 (given c.args.self) c.args.piece.now c.args.out.now c.receive_lent.ensures.value c.in_err-served.was p.1 p.2
