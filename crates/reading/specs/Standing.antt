-- Document 01, "Reading a stream": what stands at a position p. The list is the stream from p on, and M the largest unit.
-- Assumes nothing.
use Rattle.std.specs.Prelude.{ℕ, cond, List, leb, eqb, length, get_or}
use Rattle.frame.specs.Frame.{packet_length, unit_length, ended, summed}
use Rattle.reading.specs.Events.Event.{Length, End, Sum, Packet}
use Rattle.reading.specs.Events.{Standing}
use Rattle.reading.specs.Events.Standing.{Wait, Skip, Hit}

-- "too few bytes to decide: ask for more"
unfoldable pub when_there : ℕ → List ℕ → Standing → Standing
when_there n xs v = cond (leb n (length xs)) v Wait

-- "last two not 35, 35 gives END; else a wrong sum gives SUM; p moves one byte. Otherwise the event is PACKET and p moves 30+L"
unfoldable pub judged_frame : ℕ → List ℕ → Standing
judged_frame l xs =
    cond (ended l xs)
    (cond (summed l xs) (Hit (Packet (packet_length l)) (packet_length l) (packet_length l)) (Hit Sum (packet_length l) 1))
    (Hit End (packet_length l) 1)

-- "64, 64 and 26 bytes are there: L over 1,024 gives LENGTH, and p moves one byte", then "30+L bytes are there: .."
unfoldable pub started : ℕ → List ℕ → Standing
started M xs =
    when_there 26 xs
    (cond (leb (unit_length xs) M) (when_there (packet_length (unit_length xs)) xs (judged_frame (unit_length xs) xs)) (Hit Length 26 1))

-- "the byte is not 64, or the next byte is there and not 64: skip one byte"
unfoldable pub stands : ℕ → List ℕ → Standing
stands M xs =
    when_there 1 xs (cond (eqb (get_or xs 0 0) 64)
    (when_there 2 xs (cond (eqb (get_or xs 1 0) 64) (started M xs) (Skip 2)))
    (Skip 1))
