-- Words put one behind the other are the line. Assumes nothing.
use Prim.Native.Nat.{ℕ}
use mathlib.Core.List.{List, [], ◌∷◌, ◌++◌, append_assoc}
use mathlib.Core.Path.{◌≡◌, refl, ap, ◌∙◌}
use lib.ListN.{take, drop}
use Rattle.kinds.specs.Table.{rows}
use Rattle.naming.specs.Names.{letters}
use Rattle.packet.specs.declared.Header.{Header}
use Rattle.packet.specs.Frames.{judged_packet}
use Rattle.packet.specs.Headers.{header_of}
use Rattle.reading.specs.declared.Event.{Event}
use Rattle.reading.specs.declared.Event.TheVariants.{More, Noise, Length, End, Sum, Packet}
use Rattle.reading.specs.Events.{event_of}
use Rattle.reading.specs.Values.{PACKET, told}
use Rattle.verdict.specs.declared.Verdict.{Verdict}
use Rattle.lines.specs.Decimal.{decimal}
use Rattle.lines.specs.Events.{line, packet_words, short_line, packet_line, event_line}

abbrev word : List ℕ → List ℕ
word w = w ++ (32 ∷ [])

-- a packet's line, of the header and the verdict that were told
pub packet_made : {q kind name : List ℕ} {serial command : ℕ} {h : Header} {v : Verdict} (p : List ℕ) (s n : ℕ)
    → q ≡ word (decimal s) ++ word kind ++ (word (decimal n) ++ word (decimal serial) ++ word (decimal command) ++ (name ++ (10 ∷ [])))
    → kind ≡ letters PACKET → name ≡ letters v.number → serial ≡ h.serial → command ≡ h.command → h ≡ header_of p → v ≡ judged_packet rows p
    → q ≡ packet_line s n p
unfolding packet_line line
packet_made {h = h} {v = v} p s n whole kinded named serial-is command-is header judged =
    whole
    ∙ simp (kinded, named, serial-is, command-is, append_assoc) (
    ap (λ (x : Header). line (decimal s ∷ letters PACKET ∷ packet_words n x.serial x.command v.number)) header
    ∙ ap (λ (x : Verdict). line (decimal s ∷ letters PACKET ∷ packet_words n (header_of p).serial (header_of p).command x.number)) judged
    )

-- the line of an event
pub no_line : (s : ℕ) (out : List ℕ) → event_line s (event_of More) out ≡ []
unfolding event_line
no_line s out = refl

pub packet_found : (s n : ℕ) (out p : List ℕ) → p ≡ take n (drop 0 out) → packet_line s n p ≡ event_line s (event_of (Packet n)) out
unfolding event_line
packet_found s n out p e = ap (packet_line s n) e

pub short_made : {q name : List ℕ} {e : Event} (s : ℕ) (out : List ℕ) → (e ≡ More → ⊥) → ((n : ℕ) → e ≡ Packet n → ⊥) → name ≡ letters (told (event_of e)).number
    → q ≡ word (decimal s) ++ (name ++ (10 ∷ [])) → q ≡ event_line s (event_of e) out
unfolding event_line told short_line line
short_made {e = More} s out a b f g = absurd (a refl)
short_made {e = Noise} s out a b f g = g ∙ simp (f, append_assoc)
short_made {e = Length} s out a b f g = g ∙ simp (f, append_assoc)
short_made {e = End} s out a b f g = g ∙ simp (f, append_assoc)
short_made {e = Sum} s out a b f g = g ∙ simp (f, append_assoc)
short_made {e = Packet n} s out a b f g = absurd (b n refl)
