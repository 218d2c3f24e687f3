-- What the call that takes a packet promises: where the packet is a reply the table's own call under the packet's source address and serial, and else the table as it
-- came. Assumes nothing.
use Prim.Native.Nat.{ℕ}
use mathlib.Core.Bool.{Bool, true, false, not, ◌&&◌, ◌||◌, cond, true≢false, false≢true}
use mathlib.Core.List.{List, [], ◌∷◌}
use mathlib.Core.Path.{◌≡◌, refl, sym, ap, ◌∙◌}
use lib.Dec.{eqb}
use Rattle.exchange.specs.declared.Exchanges.{Exchanges}
use Rattle.exchange.specs.Calls.{Call, reply, after, run}
use Rattle.exchange.specs.Table.{untold, answered}
use Rattle.exchange.proofs.Changes.{reply-refused}
use Rattle.frame.specs.Frame.{frame_tests}
use Rattle.kinds.specs.declared.Row.{Row}
use Rattle.packet.specs.Frames.{command_of, unit_of, header_tests, judged_content, judged_packet}
use Rattle.packet.specs.Headers.{header_of}
use Rattle.place.specs.declared.Reply.TheVariants.{Confirm, Answer, Deny, BadAnswer}
use Rattle.unit.specs.Units.{judged_under}
use Rattle.unit.proofs.Under.{under-good}
use Rattle.verdict.specs.declared.Verdict.{Verdict}
use Rattle.verdict.specs.Orders.{Test, in_order, good, is_good, refusing}
use Rattle.verdict.proofs.Order.{all-passed, good-held, held-good, goes_on}
use Rattle.taking.specs.Roles.{Role, Other, Is}
use Rattle.taking.specs.Takes.{role_in, role_of, taken_as, taken}

-- whether a packet was refused at VERSION or later: its frame is good, and what stands in it is not
abbrev pub late_refused : List Row → List ℕ → Bool
late_refused rs p = is_good (in_order (frame_tests 1024 p) good) && not (is_good (judged_content rs p))

-- the commands of the replies
abbrev pub is_reply : ℕ → Bool
is_reply c = eqb c 3 || eqb c 5 || eqb c 6

-- a good verdict is that of what comes after the tests
passes : (ts : List Test) (rest : Verdict) → refusing ts ≡ true → is_good (in_order ts rest) ≡ true → (in_order ts rest ≡ rest) × (is_good rest ≡ true)
passes ts rest n g = let h = good-held ts rest n g in (all-passed ts rest h.0, h.1)

-- and a packet judged good has no other verdict than the good one
judged-good : (rs : List Row) (p : List ℕ) → is_good (judged_packet rs p) ≡ true → judged_packet rs p ≡ good
unfolding judged_packet judged_content
judged-good rs p g =
    let a = passes (frame_tests 1024 p) (judged_content rs p) refl g in
    let b = passes (header_tests p) (judged_under rs (command_of p) (unit_of p)) refl a.1 in
    a.0 ∙ b.0 ∙ under-good rs (command_of p) (unit_of p) b.1

module _ (rs : List Row) (x : Exchanges) (p : List ℕ) where
  as-role : (r : Role) → role_of rs p ≡ r → taken rs x p ≡ taken_as r x (header_of p).source (header_of p).serial (judged_packet rs p)
  unfolding taken
  as-role r e = ap (λ (w : Role). taken_as w x (header_of p).source (header_of p).serial (judged_packet rs p)) e

  -- a packet judged good
  module _ (g : is_good (judged_packet rs p) ≡ true) where
    parts : (is_good (in_order (frame_tests 1024 p) good) ≡ true) × (is_good (judged_content rs p) ≡ true)
    unfolding judged_packet
    parts = let h = good-held (frame_tests 1024 p) (judged_content rs p) refl g in (held-good (frame_tests 1024 p) h.0, h.1)

    role : role_of rs p ≡ role_in true (command_of p)
    unfolding role_of
    role = simp (parts.0, parts.1)

    pub taken-confirm : command_of p ≡ 3 → taken rs x p ≡ answered x (header_of p).source (header_of p).serial Confirm
    unfolding role_in taken_as
    taken-confirm e = as-role (Is Confirm) (role ∙ ap (role_in true) e)

    pub taken-answer : command_of p ≡ 5 → taken rs x p ≡ answered x (header_of p).source (header_of p).serial Answer
    unfolding role_in taken_as
    taken-answer e = as-role (Is Answer) (role ∙ ap (role_in true) e)

    pub taken-deny : command_of p ≡ 6 → taken rs x p ≡ answered x (header_of p).source (header_of p).serial Deny
    unfolding role_in taken_as
    taken-deny e = as-role (Is Deny) (role ∙ ap (role_in true) e)

    -- no reply: nothing is told, and the table is as it came
    pub taken-other : is_reply (command_of p) ≡ false → taken rs x p ≡ untold x good
    unfolding role_in taken_as
    taken-other e =
        as-role Other (role ∙ none (eqb (command_of p) 3) (eqb (command_of p) 5) (eqb (command_of p) 6) refl refl refl e) ∙ ap (untold x) (judged-good rs p g)
      where
        none : (a b c : Bool) → eqb (command_of p) 3 ≡ a → eqb (command_of p) 5 ≡ b → eqb (command_of p) 6 ≡ c → a || b || c ≡ false → role_in true (command_of p) ≡ Other
        none true b c i j k n = absurd (true≢false n)
        none false true c i j k n = absurd (true≢false n)
        none false false true i j k n = absurd (true≢false n)
        none false false false i j k n = simp (i, j, k)

  -- a refused answer, where its frame is good, is a bad answer under the serial that stands in it
  pub taken-bad-answer : late_refused rs p ≡ true → command_of p ≡ 5 → taken rs x p ≡ answered x (header_of p).source (header_of p).serial BadAnswer
  unfolding role_of role_in taken_as
  taken-bad-answer late e = as-role (Is BadAnswer) (by_tests (is_good (in_order (frame_tests 1024 p) good)) (is_good (judged_content rs p)) late)
    where
      by_tests : (f c : Bool) → f && not c ≡ true → cond f (role_in c (command_of p)) Other ≡ Is BadAnswer
      by_tests true true l = absurd (false≢true l)
      by_tests true false l = ap (role_in false) e
      by_tests false c l = absurd (false≢true l)

  -- any other refused packet comes back as its refusal, and the table as it came
  pub taken_refused : is_good (judged_packet rs p) ≡ false → late_refused rs p && eqb (command_of p) 5 ≡ false → taken rs x p ≡ untold x (judged_packet rs p)
  unfolding role_of role_in taken_as judged_packet
  taken_refused n e = as-role Other (by_tests (is_good (in_order (frame_tests 1024 p) good)) refl (is_good (judged_content rs p)) refl (eqb (command_of p) 5) refl e)
    where
      by_tests : (f : Bool) → is_good (in_order (frame_tests 1024 p) good) ≡ f → (c : Bool) → is_good (judged_content rs p) ≡ c → (b : Bool) → eqb (command_of p) 5 ≡ b
          → f && not c && b ≡ false → cond f (role_in c (command_of p)) Other ≡ Other
      by_tests false i c j b k l = refl
      by_tests true i false j true k l = absurd (true≢false l)
      by_tests true i false j false k l = simp k
      by_tests true i true j b k l = absurd (true≢false (sym j ∙ bad i))
        where
          bad : is_good (in_order (frame_tests 1024 p) good) ≡ true → is_good (judged_content rs p) ≡ false
          bad i = ap is_good (sym (goes_on (frame_tests 1024 p) (judged_content rs p) refl i)) ∙ n

  -- whatever is refused leaves the table as it came, with nothing told
  pub taken-kept : is_good (taken rs x p).verdict ≡ false → taken rs x p ≡ untold x (taken rs x p).verdict
  unfolding taken taken_as
  taken-kept e = by-role (role_of rs p) e
    where
      by-role : (r : Role) → is_good (taken_as r x (header_of p).source (header_of p).serial (judged_packet rs p)).verdict ≡ false
          → taken_as r x (header_of p).source (header_of p).serial (judged_packet rs p) ≡ untold x (taken_as r x (header_of p).source (header_of p).serial (judged_packet rs p)).verdict
      by-role (Is w) e = reply-refused x (header_of p).source (header_of p).serial w e
      by-role Other e = refl

-- the table is that after calls of its own, one or none, so that what holds over those holds here
abbrev pub calls_as : Role → List ℕ → ℕ → List Call
calls_as (Is w) a s = reply a s w ∷ []
calls_as Other a s = []

pub taken-run : (rs : List Row) (x : Exchanges) (p : List ℕ) → (taken rs x p).state ≡ run x (calls_as (role_of rs p) (header_of p).source (header_of p).serial)
unfolding taken taken_as run after
taken-run rs x p = by-role (role_of rs p)
  where
    by-role : (r : Role) → (taken_as r x (header_of p).source (header_of p).serial (judged_packet rs p)).state ≡ run x (calls_as r (header_of p).source (header_of p).serial)
    by-role (Is w) = refl
    by-role Other = refl
