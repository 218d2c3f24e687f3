-- Document 01's packet B, and the readings of a packet, by computation. Assumes nothing.
use Prim.Native.Nat.{ℕ}
use mathlib.Core.Path.{◌≡◌, refl}
use mathlib.Core.List.{List, [], ◌∷◌, ◌++◌, map}
use lib.ListN.{set, replicate}
use Rattle.frame.specs.Frame.{unit_length, ended, summed}
use Rattle.kinds.specs.Table.{table, rows_of, rows, find_row}
use Rattle.label.specs.Times.{judged, in_ranges}
use Rattle.octets.specs.Numbers.{low_first}
use Rattle.octets.specs.Parts.{part}
use Rattle.octets.proofs.Examples.{A}
use Rattle.octets.specs.Searches.{first_fit}
use Rattle.octets.specs.Sums.{total}
use Rattle.unit.specs.Objects.{text_size, end_of, walk, timely}
use Rattle.unit.specs.Units.{judged_unit, judged_under}
use Rattle.verdict.specs.declared.Verdict.{Verdict}
use Rattle.verdict.specs.Orders.{in_order, refusal, good}
use Rattle.verdict.specs.Refusals.{CUT, START, LENGTH, END, SUM, VERSION, COMMAND, TIME, UNIT, TYPE}
use Rattle.packet.specs.Frames.{judged_content, judged_packet}

-- "B: serial 6, version, label and addresses as A, command 2, unit `15 01 01 00 1E 08 0F 06 18`: sum `D0`, 39 bytes, good."
abbrev pub B : List ℕ
B =
    0x40 ∷ 0x40 ∷ 0x06 ∷ 0x00 ∷ 0x01 ∷ 0x00 ∷ 0x00 ∷ 0x1E ∷ 0x08 ∷ 0x0F ∷ 0x06 ∷ 0x18 ∷ 0x01 ∷ 0x00 ∷ 0x00
    ∷ 0x00 ∷ 0x00 ∷ 0x00 ∷ 0x00 ∷ 0x00 ∷ 0x00 ∷ 0x00 ∷ 0x00 ∷ 0x00 ∷ 0x09 ∷ 0x00 ∷ 0x02
    ∷ 0x15 ∷ 0x01 ∷ 0x01 ∷ 0x00 ∷ 0x1E ∷ 0x08 ∷ 0x0F ∷ 0x06 ∷ 0x18 ∷ 0xD0 ∷ 0x23 ∷ 0x23 ∷ []

-- A with a byte changed and its sum mended by the same amount
abbrev mended : ℕ → ℕ → ℕ → List ℕ
mended at byte sum = set (set A at byte) 27 sum

abbrev pub packets : List (List ℕ × Verdict)
packets =
    -- 29 bytes: CUT before START; 30 bytes with L 2,000: LENGTH; A and one byte more: CUT; `41 40` with L 2,000: START
    (replicate 29 0, refusal CUT 0)
    ∷ (set (set A 24 0xD0) 25 0x07, refusal LENGTH 0)
    ∷ (A ++ (0 ∷ []), refusal CUT 0)
    ∷ (set (set (set A 24 0xD0) 25 0x07) 0 0x41, refusal START 0)
    ∷ (set A 28 0x22, refusal END 0)
    -- SUM before VERSION, VERSION before COMMAND, COMMAND before TIME, TIME before UNIT
    ∷ (set A 4 2, refusal SUM 0)
    ∷ (mended 4 2 0x5E, refusal VERSION 0)
    ∷ (mended 26 7 0x61, refusal COMMAND 0)
    ∷ (mended 26 0 0x5A, refusal COMMAND 0)
    ∷ (mended 26 2 0x5C, refusal UNIT 0)
    ∷ (set (set B 26 4) 36 0xD2, refusal TYPE 0)
    -- under 3 the same bytes are no unit
    ∷ (set (set B 26 3) 36 0xD1, good)
    -- TIME of object 0 is place 1
    ∷ (set (set B 33 0) 36 0xC1, refusal TIME 1)
    ∷ []

pub examples : map (λ (e : List ℕ × Verdict). judged_packet rows e.0) packets ≡ map (λ (e : List ℕ × Verdict). e.1) packets
unfolding judged_packet judged_content unit_length ended summed judged_under judged_unit in_order rows_of table find_row text_size end_of walk timely judged in_ranges first_fit low_first part total
examples = refl
