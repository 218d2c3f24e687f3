-- "Replies from one, and beginnings for it, alter no place, serial or answer of the other; a tick serves both" (document 02, Q-11): what is a centre's,
-- what calls answer to it, and sequences from which the other's calls are left out. Assumes nothing.
use Rattle.std.specs.Prelude.{ℕ, zero, suc, Bool, true, not, cond, List, [], ◌∷◌, eqb, get_or}
use Rattle.kinds.specs.Table.{rows}
use Rattle.octets.specs.Searches.{same}
use Rattle.place.specs.declared.Place.{Place}
use Rattle.places.specs.declared.Report.{Report}
use Rattle.places.specs.Rows.{place_at, low_of, nothing}
use Rattle.verdict.specs.declared.Verdict.{Verdict}
use Rattle.exchange.specs.declared.Centre.{Centre}
use Rattle.exchange.specs.declared.Exchanges.{Exchanges}
use Rattle.exchange.specs.Begins.{begun_output}
use Rattle.exchange.specs.Calls.{begun_by, Call, begin, reply, tick}
use Rattle.exchange.specs.Table.{centre_at, answered, ticking}

-- n values from a number on
unfoldable pub listed : {A : Type 0} → (ℕ → A) → ℕ → ℕ → List A
listed f i zero = []
listed f i (suc n) = f i ∷ listed f (suc i) n

-- what is said of a centre's eight places
abbrev pub eight_of : {A : Type 0} → ℕ → (ℕ → A) → List A
eight_of c f = listed f (low_of c) 8

-- a centre's own in a table: its places, its address and its next serial
pub record Own : Type 0 where
  pub places : List Place
  pub centre : Centre

abbrev pub own_of : ℕ → Exchanges → Own
own_of c x = record { places = eight_of c (place_at x.places); centre = centre_at x c }

-- what a call answers to a centre: all but the table, with the output of a beginning; of a tick what it tells of the centre's places
pub data Answer : Type 0 where
  to_begin : Verdict → ℕ → ℕ → ℕ → List ℕ → Answer
  to_reply : Verdict → ℕ → ℕ → Answer
  to_tick : Verdict → List Report → Answer

unfoldable pub answer_to : ℕ → Exchanges → Call → Answer
answer_to c x (begin a) =
    let b = begun_by x a in
    to_begin b.verdict b.place b.length b.serial (begun_output rows x a.centre a.out a.draft a.size)
answer_to c x (reply a s w) = let y = answered x a s w in to_reply y.verdict y.place y.outcome
answer_to c x tick = let y = ticking x in to_tick y.verdict (eight_of c (λ k. get_or y.reports k nothing))

-- the answers of a sequence of calls, by that of each and the table that it gives back
unfoldable pub answers_by : {C : Type 0} → (Exchanges → C → Answer) → (Exchanges → C → Exchanges) → Exchanges → List C → List Answer
answers_by answer next x [] = []
answers_by answer next x (c ∷ cs) = answer x c ∷ answers_by answer next (next x c) cs

-- the table after it
unfoldable pub run_by : {C : Type 0} → (Exchanges → C → Exchanges) → Exchanges → List C → Exchanges
run_by next x [] = x
run_by next x (c ∷ cs) = run_by next (next x c) cs

-- whether a call is not of centre d, which has an address: a beginning is of the centre that it names, a reply of the one from whose address it comes
unfoldable pub spared : ℕ → List ℕ → Call → Bool
spared d l (begin a) = not (eqb a.centre d)
spared d l (reply a s w) = not (same l a)
spared d l tick = true

-- what stands in a list beside the calls that are spared: the calls themselves, or their answers
unfoldable pub spare : {C A : Type 0} → (C → Bool) → List C → List A → List A
spare f [] rs = []
spare f (c ∷ cs) [] = []
spare f (c ∷ cs) (r ∷ rs) = cond (f c) (r ∷ spare f cs rs) (spare f cs rs)
