-- What an event is worth: the bytes that it accounts for besides its count, as its first byte or as its packet. Assumes nothing.
use Prim.Native.Nat.{ℕ, ◌+◌, ◌≤◌}
use native.Mathlib.Omega.{arith}
use mathlib.Core.List.{List, ◌++◌}
use mathlib.Core.Path.{◌≡◌, refl}
use lib.ListN.{length, take, length-take}
use lib.Seq.{take-append-le, take_at, length-take-le}
use Rattle.reading.specs.Events.{Event}
use Rattle.reading.specs.Events.Event.{More, Noise, Length, End, Sum, Packet, Refused}
use Rattle.reading.specs.Values.{told, start_byte, packet_of}

unfoldable pub worth : Event → ℕ
worth More = 0
worth Noise = 0
worth Length = 1
worth End = 1
worth Sum = 1
worth (Packet n) = n
worth (Refused n) = 0

-- its first byte and its packet
pub worth-is : (e : Event) (xs : List ℕ) → worth e ≤ length xs → start_byte e + length (packet_of e xs) ≡ worth e
unfolding worth start_byte packet_of told
worth-is More xs h = refl
worth-is Noise xs h = refl
worth-is Length xs h = refl
worth-is End xs h = refl
worth-is Sum xs h = refl
worth-is (Packet n) xs h = omega (arith, length-take-le n xs h)
worth-is (Refused n) xs h = refl

-- a packet has no more bytes than its event is worth
pub packet-small : (e : Event) (xs : List ℕ) → length (packet_of e xs) ≤ worth e
unfolding worth packet_of told
packet-small More xs = omega arith
packet-small Noise xs = omega arith
packet-small Length xs = omega arith
packet-small End xs = omega arith
packet-small Sum xs = omega arith
packet-small (Packet n) xs = omega (arith, length-take n xs)
packet-small (Refused n) xs = omega arith

-- a packet is there whole, whatever follows
pub packet-kept : (e : Event) (xs ys : List ℕ) → worth e ≤ length xs → packet_of e (xs ++ ys) ≡ packet_of e xs
unfolding worth packet_of told
packet-kept More xs ys h = refl
packet-kept Noise xs ys h = refl
packet-kept Length xs ys h = refl
packet-kept End xs ys h = refl
packet-kept Sum xs ys h = refl
packet-kept (Packet n) xs ys h = take-append-le n xs ys h
packet-kept (Refused n) xs ys h = refl

-- and the buffer that it was copied to has it at the front
pub packet-copied : (e : Event) (xs ys : List ℕ) → worth e ≤ length xs → packet_of e (packet_of e xs ++ ys) ≡ packet_of e xs
unfolding worth packet_of told
packet-copied More xs ys h = refl
packet-copied Noise xs ys h = refl
packet-copied Length xs ys h = refl
packet-copied End xs ys h = refl
packet-copied Sum xs ys h = refl
packet-copied (Packet n) xs ys h = take_at (take n xs) ys n (length-take-le n xs h)
packet-copied (Refused n) xs ys h = refl
