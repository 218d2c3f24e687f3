-- One section of a device table (document 01, "Device table"): a 2-byte count, then that many entries, each of which begins with its key.
-- z is the section's limit, entry size and key length, t the table's bytes, from the place where the section begins.
-- Assumes nothing.
use Rattle.std.specs.Prelude.{ℕ, zero, suc, ◌+◌, ◌*◌, Bool, true, cond, List, [], ◌∷◌, ◌++◌, leb, ltb, length, take, drop}
use Rattle.octets.specs.Numbers.{low_first}
use Rattle.octets.specs.Parts.{part}
use Rattle.octets.specs.Searches.{first_fit}
use Rattle.verdict.specs.declared.Verdict.{Verdict}
use Rattle.verdict.specs.Orders.{Test, ◌or_else◌, refusal, good}
use Rattle.verdict.specs.Refusals.{CUT, MANY, ORDER}
use Rattle.devices.specs.declared.Section.{Section}
use Rattle.devices.specs.Keys.{below, same}

-- the same section under another limit
abbrev pub limited : Section → ℕ → Section
limited z n = record { limit = n; entry = z.entry; key = z.key }

-- "each after its 2-byte count"
unfoldable pub count_at : List ℕ → ℕ → ℕ
count_at t from = low_first (take 2 (drop from t))

-- where entry k begins, counted from 0
unfoldable pub entry_at : Section → ℕ → ℕ → ℕ
entry_at z from k = from + 2 + k * z.entry

-- where the section ends: behind its last entry
abbrev pub end_of : Section → List ℕ → ℕ → ℕ
end_of z t from = entry_at z from (count_at t from)

-- the first n bytes of entry k
unfoldable pub first_bytes : Section → List ℕ → ℕ → ℕ → ℕ → List ℕ
first_bytes z t from k n = part t (entry_at z from k) (entry_at z from k + n)

-- "systems by 2 bytes, parts by their first 7"
abbrev pub key_at : Section → List ℕ → ℕ → ℕ → List ℕ
key_at z t from k = first_bytes z t from k z.key

-- "Entries rise strictly": whether entry k stands above the one before, as the first one does
unfoldable pub rises : Section → List ℕ → ℕ → ℕ → Bool
rises z t from zero = true
rises z t from (suc k) = below (key_at z t from k) (key_at z t from (suc k))

-- the entry that has a key, the count where there is none
unfoldable pub entry_of : Section → List ℕ → ℕ → List ℕ → ℕ
entry_of z t from x = first_fit (λ k. same (key_at z t from k) x) 0 (count_at t from)

-- "a part's system is not listed", "no entry has the seven bytes": whether any entry has a key
abbrev pub is_listed : Section → List ℕ → ℕ → List ℕ → Bool
is_listed z t from x = ltb (entry_of z t from x) (count_at t from)

-- "CUT of the count"
abbrev pub count_test : List ℕ → ℕ → Test
count_test t from = leb (from + 2) (length t) or_else CUT

-- MANY, "table count over its limit": what a limit alone says of a number of entries
abbrev pub by_limit : ℕ → ℕ → Verdict
by_limit limit n = cond (leb n limit) good (refusal MANY 0)

-- "per section CUT of the count, MANY, CUT"
abbrev pub section_tests : Section → List ℕ → ℕ → List Test
section_tests z t from =
    count_test t from
    ∷ (leb (count_at t from) z.limit or_else MANY)
    ∷ (leb (end_of z t from) (length t) or_else CUT)
    ∷ []

-- a test of an entry, and the refusal with that entry's place
abbrev pub at_place : Bool → ℕ → ℕ → Test
at_place b n place = record { holds = b; refused = refusal n place }

-- "entries one by one with ORDER", at the entry's number from 0
abbrev pub rising_tests : Section → List ℕ → ℕ → ℕ → List Test
rising_tests z t from k = at_place (rises z t from k) ORDER k ∷ []

-- "then entries one by one": the tests of n entries from entry k on
unfoldable pub each_entry : (ℕ → List Test) → ℕ → ℕ → List Test
each_entry f k zero = []
each_entry f k (suc n) = f k ++ each_entry f (suc k) n
