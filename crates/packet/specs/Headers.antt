-- A packet's header by value, read and written (document 01, "Packet"; document 02, Q-1).
-- Assumes nothing.
use Rattle.std.specs.Prelude.{ℕ, cond, List, [], get_or, take, drop, replicate}
use Rattle.frame.specs.Frame.{unit_length}
use Rattle.kinds.specs.declared.Row.{Row}
use Rattle.label.specs.Times.{label_of, judged, shown_as, SHOWN_NOTHING}
use Rattle.octets.specs.Numbers.{low_first}
use Rattle.octets.specs.Parts.{one_by_one}
use Rattle.verdict.specs.declared.Verdict.{Verdict}
use Rattle.verdict.specs.Orders.{is_good}
use Rattle.packet.specs.declared.Header.{Header}
use Rattle.packet.specs.declared.Opened.{Opened}
use Rattle.packet.specs.Frames.{judged_packet}

-- bytes 3-4 serial, 6 user version, 7-12 time label, 13-18 and 19-24 source and destination, 27 command
abbrev pub header_of : List ℕ → Header
header_of p =
    record {
      serial = low_first (take 2 (drop 2 p));
      version = get_or p 5 0;
      label = label_of (drop 6 p);
      source = one_by_one p 12 6;
      destination = one_by_one p 18 6;
      command = get_or p 26 0;
    }

-- "zero or nothing for all else"
abbrev pub no_header : Header
no_header =
    record { serial = 0; version = 0; label = label_of []; source = replicate 6 0; destination = replicate 6 0; command = 0 }

-- "All who call it pass the difference on": the reading shows what the header's label is judged to be, and nothing on a refusal
abbrev pub showing : Verdict → Header → ℕ → Opened
showing v h l = record { verdict = v; header = h; shown = shown_as (judged h.label); length = l }

-- what is read of a packet of which the judge says v
abbrev pub read_as : List ℕ → Verdict → Opened
read_as p v = cond (is_good v) (showing v (header_of p) (unit_length p)) (record { verdict = v; header = no_header; shown = SHOWN_NOTHING; length = 0 })

unfoldable pub opened_packet : List Row → List ℕ → Opened
opened_packet rs p = read_as p (judged_packet rs p)
