-- Demand 2 of the tender: packets and objects, written and read again. Assumes nothing.
use Prim.Native.Nat.{ℕ, suc, ◌+◌, ◌*◌, ◌≤◌, ◌<◌}
use native.Mathlib.Omega.{arith}
use mathlib.Core.Bool.{true}
use mathlib.Core.List.{List, ◌∷◌}
use mathlib.Core.Logic.{◌↔◌}
use mathlib.Core.Option.{some}
use mathlib.Core.Path.{◌≡◌, sym, ap, subst, ◌∙◌}
use denote.Laws.{Is}
use lib.ListN.{length, get_or, take, drop}
use mir.Val.{Val}
use Rattle.std.specs.Prelude.{Some, None}
use Rattle.fields.specs.declared.Fields.{Fields}
use Rattle.fields.specs.Layouts.{object_bytes, kept as members_of}
use Rattle.fields.specs.contracts.Fields.{the_row as fields-row}
use Rattle.fields.proofs.Rounds.{Ranged}
use Rattle.kinds.specs.declared.Row.{Row}
use Rattle.kinds.specs.Table.{NONE, table, rows, find_row, entry_of, description_size}
use Rattle.label.specs.Times.{judged, shown_as}
use Rattle.objects.specs.Writing.{is_timely, write_verdict, written_unit}
use Rattle.objects.specs.Texts.{text_unit, text_verdict, written_text}
use Rattle.objects.specs.Series.{Write, written_all, AllTaken, Each, last_of, read_at}
use Rattle.objects.proofs.Placed.{Written-ok, write-good}
use Rattle.objects.proofs.Promises.{written-stays-good, text-good}
use Rattle.objects.proofs.Reread as reread
use Rattle.objects.proofs.Reread.{written-reads, written-described}
use Rattle.objects.proofs.Series.{ok-good, bytes_at, written-long, written-before, written_behind, written-there, others-kept}
use Rattle.objects.proofs.Series.{Ok, laid-ok, each_map, each_last, all-taken, all-good, all_read, all-described}
use Rattle.objects.proofs.Again as again
use Rattle.objects.proofs.Again.{again-taken, unit-again}
use Rattle.objects.proofs.Given.{fields-ranged}
use Rattle.octets.specs.Numbers.{Octets}
use Rattle.octets.specs.Parts.{part}
use Rattle.output.specs.Packets.{packet_bytes}
use Rattle.output.specs.Writing.{packet_verdict, written_packet}
use Rattle.output.specs.Objects.{object_verdict, written_object, output_text_verdict, written_output_text}
use Rattle.output.proofs.Within as within
use Rattle.output.proofs.Promises.{again-good, again-there, again-beyond, opened-is, sent-there, sent-good, sent-opened, sent-unit, sent-beyond, good-when}
use Rattle.output.proofs.Sent.{Fitting}
use Rattle.output.proofs.Given.{header-fits}
use Rattle.packet.specs.declared.Header.{Header}
use Rattle.packet.specs.declared.Opened.{Opened}
use Rattle.packet.specs.Frames.{unit_of, judged_packet}
use Rattle.packet.specs.Headers.{opened_packet}
use Rattle.packet.specs.contracts.Header.{the_row}
use Rattle.typed.specs.declared.Typed.{Typed}
use Rattle.typed.specs.Typing.{showing, typed_object, description_place}
use Rattle.unit.specs.Objects.{type_of, count_of, object_at}
use Rattle.unit.specs.Units.{row_of, judged_unit}
use Rattle.verdict.specs.Orders.{good, is_good, part_in}

-- DEMAND 2: "An accepted packet, written again from its fields, has the same bytes; a packet we write reads back as the same fields."
-- o is what the reader answers of the packet p; the output is any that has room and in which the packet's unit stands from byte 28
abbrev pub WrittenAgain : List ℕ → List ℕ → Opened → Type 0
WrittenAgain p out o =
    (is_good (packet_verdict rows out o.header o.length) ≡ true)
    × (take (30 + o.length) (written_packet rows out o.header o.length) ≡ p)
    × (drop (30 + o.length) (written_packet rows out o.header o.length) ≡ drop (30 + o.length) out)

pub packet-again : (p out : List ℕ) (o : Opened) → Octets p → o ≡ opened_packet rows p → is_good o.verdict ≡ true
    → 30 + o.length ≤ length out → part out 27 (27 + o.length) ≡ unit_of p → WrittenAgain p out o
packet-again p out o bytes read accepted =
    let told = opened-is rows p (ap (λ (x : Opened). is_good x.verdict) (sym read) ∙ accepted) in
    subst
    (λ (x : Opened). 30 + x.length ≤ length out → part out 27 (27 + x.length) ≡ unit_of p → WrittenAgain p out x)
    (sym (read ∙ told.1))
    (λ room stands. (
      again-good rows p bytes told.0 out room stands,
      again-there rows p bytes told.0 out room stands,
      again-beyond rows p bytes told.0 out room stands,
    ))

-- what is written is accepted, and reads back as the same fields, length and unit, with what the label is judged to be; what stands beyond it stays
abbrev pub ReadsBack : List ℕ → Header → ℕ → Type 0
ReadsBack out h l =
    (is_good (judged_packet rows (take (30 + l) (written_packet rows out h l))) ≡ true)
    × ((opened_packet rows (take (30 + l) (written_packet rows out h l))).header ≡ h)
    × ((opened_packet rows (take (30 + l) (written_packet rows out h l))).shown ≡ shown_as (judged h.label))
    × ((opened_packet rows (take (30 + l) (written_packet rows out h l))).length ≡ l)
    × (unit_of (take (30 + l) (written_packet rows out h l)) ≡ part out 27 (27 + l))
    × (drop (30 + l) (written_packet rows out h l) ≡ drop (30 + l) out)

pub packet-read-back : (out : List ℕ) (h : Header) (l : ℕ) → Fitting h → is_good (packet_verdict rows out h l) ≡ true → ReadsBack out h l
packet-read-back out h l fit g =
    let there = sent-there rows out h l fit g in (
      ap (λ (q : List ℕ). is_good (judged_packet rows q)) there ∙ sent-good rows out h l fit g,
      ap (λ (q : List ℕ). (opened_packet rows q).header) there ∙ ap (λ (o : Opened). o.header) (sent-opened rows out h l fit g),
      ap (λ (q : List ℕ). (opened_packet rows q).shown) there ∙ ap (λ (o : Opened). o.shown) (sent-opened rows out h l fit g),
      ap (λ (q : List ℕ). (opened_packet rows q).length) there ∙ ap (λ (o : Opened). o.length) (sent-opened rows out h l fit g),
      ap unit_of there ∙ sent-unit rows out h l fit g,
      sent-beyond rows out h l fit g,
    )

-- the writer takes a header and a unit exactly when L is in range, there is room, and the judge takes the packet that is made of them
pub packet-good-when : (out : List ℕ) (h : Header) (l : ℕ) → Fitting h
    → (is_good (packet_verdict rows out h l) ≡ true)
    ↔ ((l ≤ 1024) × (30 + l ≤ length out) × (is_good (judged_packet rows (packet_bytes h (part out 27 (27 + l)))) ≡ true))
packet-good-when out h l fit = good-when rows out h l fit

-- `Fitting` asks for a serial of two bytes and addresses of six: every header that a caller can hand over is so, whatever machine values stand for it
pub header-fitting : (h : Header) (vs : List Val) → Is the_row h vs → Fitting h
header-fitting = header-fits

-- DEMAND 2: "Packets and information objects are read and written as GB/T 26875.3-2011 lays them down, with the choices in document 01."
-- The object writer takes what it is given exactly when the unit has its shape, the number is below n, the fields are of the unit's type and that is not 26, the description has
-- the type's length, and the new label may stand
pub object-good-when : (u : List ℕ) (k : ℕ) (f : Fields) (d : List ℕ) → (is_good (write_verdict rows u k f d) ≡ true) ↔ Written-ok u k f d
object-good-when u k f d = (write-good u k f d, ok-good u k f d)

-- Document 01: it "changes that object's bytes only"; they are those of the fields and the description, the other objects stay byte for byte
pub object-alone : (u : List ℕ) (k : ℕ) (f : Fields) (d : List ℕ) → is_good (write_verdict rows u k f d) ≡ true
    → (length (written_unit table u k f d) ≡ length u)
    × ((i : ℕ) → i < object_at (row_of rows u) u k → get_or (written_unit table u k f d) i 0 ≡ get_or u i 0)
    × ((i : ℕ) → object_at (row_of rows u) u (suc k) ≤ i → get_or (written_unit table u k f d) i 0 ≡ get_or u i 0)
    × (bytes_at (written_unit table u k f d) k ≡ object_bytes (entry_of table (type_of u)) f d)
    × ((j : ℕ) → j < count_of u → (j ≡ k → ⊥) → bytes_at (written_unit table u k f d) j ≡ bytes_at u j)
object-alone u k f d g =
    (written-long u k f d g, written-before u k f d g, written_behind u k f d g, written-there u k f d g, others-kept u k f d g)

-- what was written is read back, fields and description, wherever the unit is good after the write
pub object-read-back : (u : List ℕ) (k : ℕ) (f : Fields) (d : List ℕ) → is_good (write_verdict rows u k f d) ≡ true
    → is_good (judged_unit rows None (written_unit table u k f d)) ≡ true → Ranged f
    → ◌≡◌ {A = Typed} (typed_object table (written_unit table u k f d) k) (showing (entry_of table (type_of u)) good (members_of (entry_of table (type_of u)) f))
    × (part_in (written_unit table u k f d) (description_place rows (written_unit table u k f d) k) ≡ d)
object-read-back u k f d w g ranged = (written-reads u k f d w g ranged, written-described u k f d w g)

-- a good unit stays good
pub object-stays-good : (u : List ℕ) (k : ℕ) (f : Fields) (d : List ℕ) → is_good (write_verdict rows u k f d) ≡ true
    → is_good (judged_unit rows None u) ≡ true → is_good (judged_unit rows None (written_unit table u k f d)) ≡ true
object-stays-good = written-stays-good

-- what may be written into a unit of n objects of type t, which has row r
abbrev pub Fitted : ℕ → ℕ → Row → Write → Type 0
Fitted t n r w =
    (w.number < n) × (w.fields.kind ≡ t) × (length w.description ≡ description_size r) × (is_timely r w.fields ≡ true) × Ranged w.fields

-- n objects written one by one, in any order and some perhaps again, into a unit in which type and n stand before any bytes of the right number: none is refused, the unit is then
-- good, and object k reads back as w k, which is its last write
pub objects-read-back : (t n : ℕ) (body : List ℕ) (r : Row) (ws : List Write) (w : ℕ → Write)
    → find_row rows t ≡ Some r → r.text ≡ NONE → 1 ≤ n → n ≤ r.most → length body ≡ r.size * n
    → Each (Fitted t n r) ws → ((k : ℕ) → k < n → last_of k ws ≡ some (w k))
    → AllTaken table (t ∷ n ∷ body) ws
    × (is_good (judged_unit rows None (written_all table (t ∷ n ∷ body) ws)) ≡ true)
    × ((k : ℕ) → k < n
    → ◌≡◌ {A = Typed} (typed_object table (written_all table (t ∷ n ∷ body) ws) k) (showing (entry_of table t) good (members_of (entry_of table t) (w k).fields))
    × (part_in (written_all table (t ∷ n ∷ body) ws) (description_place rows (written_all table (t ∷ n ∷ body) ws) k) ≡ (w k).description))
objects-read-back t n body r ws w found plain one few long fitted all =
    let u : List ℕ = t ∷ n ∷ body in
    let ok = each_map (Fitted t n r) (Ok u) (λ x h. laid-ok t n body r found plain one few long x h.0 h.1 h.2 h.3) ws fitted in (
      all-taken ws u ok,
      all-good u ws w ok one all,
      λ k h. (
        all_read u ws w ok one all k h (each_last (Fitted t n r) ws fitted k (w k) (all k h)).4,
        all-described u ws w ok one all k h,
      ),
    )

-- `Ranged` asks for a part address of four bytes and a signed value of two: all fields that a caller can hand over are so, whatever machine values stand for them
pub fields-in-range : (f : Fields) (vs : List Val) → Is fields-row f vs → Ranged f
fields-in-range = fields-ranged

-- "Type 26 is written whole, from a text of 0 to 255 bytes": exactly such a text for which there is room is taken; its unit is then good and reads back as the text
pub text-good-when : (out t : List ℕ) → (is_good (text_verdict out t) ≡ true) ↔ ((length t ≤ 255) × (3 + length t ≤ length out))
text-good-when = reread.text-good-when

pub text-read-back : (out t : List ℕ) → is_good (text_verdict out t) ≡ true
    → (is_good (judged_unit rows None (take (3 + length t) (written_text out t))) ≡ true)
    × (part_in (take (3 + length t) (written_text out t)) (description_place rows (take (3 + length t) (written_text out t)) 0) ≡ t)
    × (drop (3 + length t) (written_text out t) ≡ drop (3 + length t) out)
text-read-back out t g =
    let there = reread.text-there out t g in (
      ap (λ (u : List ℕ). is_good (judged_unit rows None u)) there ∙ text-good t,
      ap (λ (u : List ℕ). part_in u (description_place rows u 0)) there ∙ reread.text-read t,
      reread.text-beyond out t g,
    )

-- "Objects are written into the part of the output that begins at byte 28": the writers do there what they do to a unit, and nothing else changes
pub object-in-output : (out : List ℕ) (l k : ℕ) (f : Fields) (d : List ℕ)
    → ((is_good (object_verdict rows out l k f d) ≡ true)
    ↔ ((l ≤ 1024) × (27 + l ≤ length out) × (is_good (write_verdict rows (part out 27 (27 + l)) k f d) ≡ true)))
    × (is_good (object_verdict rows out l k f d) ≡ true
    → (part (written_object table out l k f d) 27 (27 + l) ≡ written_unit table (part out 27 (27 + l)) k f d)
    × (take 27 (written_object table out l k f d) ≡ take 27 out)
    × (drop (27 + l) (written_object table out l k f d) ≡ drop (27 + l) out))
object-in-output out l k f d =
    (within.object-good-when out l k f d, λ g. (within.unit-written out l k f d g, within.head-kept out l k f d g, within.rest-kept out l k f d g))

pub text-in-output : (out t : List ℕ)
    → ((is_good (output_text_verdict out t) ≡ true) ↔ ((length t ≤ 255) × (30 + length t ≤ length out)))
    × (is_good (output_text_verdict out t) ≡ true
    → (take (3 + length t) (drop 27 (written_output_text out t)) ≡ text_unit t)
    × (take 27 (written_output_text out t) ≡ take 27 out)
    × (drop (30 + length t) (written_output_text out t) ≡ drop (30 + length t) out))
text-in-output out t = (within.text-good-when out t, λ g. (within.text-written out t g, within.text-head-kept out t g, within.text-rest-kept out t g))

-- and read, then written: what the reader gives of the objects of an accepted unit, written in any order into any unit of its type, number and length, gives its bytes again
pub objects-again : (u body : List ℕ) (ws : List Write) → Octets u → is_good (judged_unit rows None u) ≡ true → (row_of rows u).text ≡ NONE
    → 2 + length body ≡ length u
    → Each (λ w. (w.number < count_of u) × (w ≡ read_at table u w.number)) ws → ((k : ℕ) → k < count_of u → last_of k ws ≡ some (read_at table u k))
    → AllTaken table (type_of u ∷ count_of u ∷ body) ws × (written_all table (type_of u ∷ count_of u ∷ body) ws ≡ u)
objects-again u body ws bytes g plain long reads all = (again-taken u bytes g plain body long ws reads all, unit-again u bytes g plain body long ws reads all)

pub text-again : (u out : List ℕ) → Octets u → is_good (judged_unit rows None u) ≡ true → type_of u ≡ 26 → length u ≤ length out
    → (is_good (text_verdict out (part_in u (description_place rows u 0))) ≡ true)
    × (take (length u) (written_text out (part_in u (description_place rows u 0))) ≡ u)
text-again u out bytes g type room =
    let t : List ℕ = part_in u (description_place rows u 0) in
    let same : text_unit t ≡ u = again.text-again u g type in
    let short : length t ≡ get_or u 2 0 = ap (λ (x : List ℕ). get_or x 2 0) same in
    let long : length u ≡ 3 + length t = omega (arith, ap length same) in
    let taken = (reread.text-good-when out t).1 (omega (arith, short, bytes 2), omega (arith, long, room)) in
    (taken, ap (λ (n : ℕ). take n (written_text out t)) long ∙ reread.text-there out t taken ∙ same)
