-- A packet's bytes, from its header's fields and its unit (document 01, "Packet").
-- Assumes nothing.
use Rattle.std.specs.Prelude.{ℕ, ◌%◌, List, [], ◌∷◌, ◌++◌, length, drop}
use Rattle.label.specs.Times.{label_bytes}
use Rattle.octets.specs.Numbers.{bytes_of}
use Rattle.octets.specs.Sums.{total}
use Rattle.packet.specs.declared.Header.{Header}

-- the 27 bytes before the unit: 64 and 64, serial, "main version, always 1", user version, label, source, destination, L, command
unfoldable pub head_bytes : Header → ℕ → List ℕ
head_bytes h l =
    64 ∷ 64 ∷ (bytes_of 2 h.serial ++ (1 ∷ h.version ∷ (label_bytes h.label ++ (h.source ++ (h.destination ++ (bytes_of 2 l ++ (h.command ∷ [])))))))

-- byte 28+L: "sum of bytes 3 to 27+L, modulo 256"; bytes 29+L and 30+L: "35, 35"
abbrev pub tail_bytes : List ℕ → List ℕ
tail_bytes sealed = total sealed % 256 ∷ 35 ∷ 35 ∷ []

-- a packet, from its header's fields and its unit
unfoldable pub packet_bytes : Header → List ℕ → List ℕ
packet_bytes h u = head_bytes h (length u) ++ (u ++ tail_bytes (drop 2 (head_bytes h (length u)) ++ u))
