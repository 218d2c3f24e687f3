-- What each answer of the comparison tells of the entries. Assumes nothing.
use Rattle.devices.proofs.Rising.{seeking}
use Rattle.devices.proofs.entries.Entries.position.Goals as goal

pub returns-in-Equal-clause-entry : goal.returns-in-Equal-clause-entry
returns-in-Equal-clause-entry c = search seeking

pub returns-in-Greater-clause-unlisted : goal.returns-in-Greater-clause-unlisted
returns-in-Greater-clause-unlisted c = search seeking

pub loop-k-preserved : goal.loop-k-preserved
loop-k-preserved c = search seeking

pub returns-clause-unlisted : goal.returns-clause-unlisted
returns-clause-unlisted c = search seeking
