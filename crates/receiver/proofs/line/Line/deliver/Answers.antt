-- `receiver::line::Line::deliver` meets its contract: a packet is put to the front in its two parts. Assumes nothing.
use Prim.Native.Nat.{◌≤◌}
use native.Mathlib.Omega.{arith}
use borrow.Author.Rules.{rules}
use mathlib.Core.Path.{ap}
use lib.ListN.{length, drop, length-drop}
use Rattle.receiver.specs.Lines.{bytes}
use Rattle.receiver.proofs.Settles.{delivers, packet-at}
use Rattle.receiver.proofs.line.Line.deliver.Goals as goal

pub head-packet-requires : goal.head-packet-requires
head-packet-requires g c =
    let xs = bytes c.args.self.now in
    let there = packet-at _ _ _ (length xs) c.in-Packet.is c.requires.there in
    let h : c.in-Packet.length ≤ length (bytes c.behind.result) = omega (arith, there, ap length c.behind.ensures, length-drop c.args.found.now.at xs) in
    search (rules, h)

pub returns-in-Packet : goal.returns-in-Packet
returns-in-Packet g c =
    delivers _ _ (drop c.args.found.now.at (bytes c.args.self.now)) _ _ c.head-packet.result.front.now c.head-packet.result.back.now _ _ c.in-Packet.is
    c.requires.fits c.behind.ensures c.head-packet.ensures _ (omega arith) c.put.ensures c.put-in-Packet.ensures
