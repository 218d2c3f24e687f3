-- The walk along the systems beside the parts: since the parts rise, their systems do not fall, so no system that was passed is wanted
-- again. Assumes nothing.
use Prim.Native.Nat.{ℕ, zero, suc, ◌+◌, ◌≤◌, ◌<◌}
use native.Mathlib.Numerals.{add-one}
use native.Mathlib.Omega.{arith}
use mathlib.Core.Bool.{true, false}
use mathlib.Core.List.{List, [], ◌∷◌}
use mathlib.Core.Path.{◌≡◌, refl, sym, ap, subst, ◌∙◌}
use lib.ListN.{length, take, drop}
use lib.Seq.{take-take}
use Rattle.verdict.specs.Orders.{Test}
use Rattle.verdict.specs.Refusals.{ORDER, ORPHAN}
use Rattle.devices.specs.declared.Section.{Section}
use Rattle.devices.specs.declared.table.Table.{Table}
use Rattle.devices.specs.Keys.{below}
use Rattle.devices.specs.Sections.{count_at, entry_at, first_bytes, key_at, rises, is_listed, at_place, each_entry}
use Rattle.devices.specs.Tables.{of_systems, of_parts, part_tests, parts_from, parts_tests}
use Rattle.devices.proofs.Keys.{below_up, below-take}
use Rattle.devices.proofs.Standing.{entry-order, entry_inside, bytes-are}

-- fewer of an entry's first bytes are the first of them
bytes_take : (z : Section) (t : List ℕ) (from k m n : ℕ) → n ≤ m → entry_at z from k + m ≤ length t → take n (first_bytes z t from k m) ≡ first_bytes z t from k n
bytes_take z t from k m n few fits =
    ap (take n) (bytes-are z t from k m fits) ∙ take-take n m (drop (entry_at z from k) t) few ∙ sym (bytes-are z t from k n (omega arith))

-- so where an entry rises, the first bytes of its key do not fall
head-rises : (z : Section) (t : List ℕ) (from k n : ℕ) → n ≤ z.key → entry_at z from (suc k) + z.key ≤ length t → rises z t from (suc k) ≡ true
    → below (first_bytes z t from (suc k) n) (first_bytes z t from k n) ≡ false
unfolding rises
head-rises z t from k n few fits up =
    let low : entry_at z from k + z.key ≤ length t = omega (arith, entry-order z from k (suc k) (omega arith)) in
    ap (λ (u : List ℕ). below u (first_bytes z t from k n)) (sym (bytes_take z t from (suc k) z.key n few fits))
    ∙ ap (below (take n (key_at z t from (suc k)))) (sym (bytes_take z t from k z.key n few low))
    ∙ below-take n (key_at z t from k) (key_at z t from (suc k)) up

-- the key of system j, and that of part k's system
abbrev listed : Table → ℕ → List ℕ
listed w j = key_at w.systems.section w.systems.table.now w.systems.from j

abbrev owner : Table → ℕ → List ℕ
owner w k = first_bytes w.parts.section w.parts.table.now w.parts.from k w.systems.section.key

abbrev pub Rises : Table → ℕ → Type 0
Rises w k = rises w.parts.section w.parts.table.now w.parts.from k ≡ true

-- every system before system `at` stands below a key
abbrev pub Under : Table → ℕ → List ℕ → Type 0
Under w at x = (j : ℕ) → j < at → below (listed w j) x ≡ true

-- and below that of the part before part k, of which there is none at first
pub Behind : Table → ℕ → ℕ → Type 0
Behind w at zero = at ≡ 0
Behind w at (suc k) = Under w at (owner w k)

pub behind-first : (w : Table) → Behind w 0 0
unfolding Behind
behind-first w = refl

pub behind-next : (w : Table) (at k : ℕ) (x : List ℕ) → x ≡ owner w k → Under w at x → Behind w at (k + 1)
unfolding Behind
behind-next w at k x e h = subst (Behind w at) (sym (add-one k)) (subst (Under w at) e h)

-- so below part k's too, where that rises
pub behind-here : (w : Table) (at k : ℕ) (x : List ℕ) → k < w.parts.count → x ≡ owner w k → Rises w k → Behind w at k → Under w at x
unfolding Behind
behind-here w at zero x l e up h j i = absurd (omega arith)
behind-here w at (suc k) x l e up h j i =
    let p = w.parts in
    let few : w.systems.section.key ≤ p.section.key = omega (arith, ap (λ (z : Section). z.key) w.systems_section, ap (λ (z : Section). z.key) w.parts_section) in
    let fits : entry_at p.section p.from (suc k) + p.section.key ≤ length p.table.now
    = omega (arith, entry_inside p.section p.from (suc k) p.count (length p.table.now) l p.whole, p.keyed) in
    subst (λ (y : List ℕ). below (listed w j) y ≡ true) (sym e)
    (below_up (listed w j) (owner w k) (owner w (suc k)) (h j i) (head-rises p.section p.table.now p.from k w.systems.section.key few fits up))

-- the tests of part k, as the code has what they are made of
abbrev pub tests : Table → ℕ → List Test
tests w k =
    at_place (rises w.parts.section w.parts.table.now w.parts.from k) ORDER (w.systems.count + k)
    ∷ at_place (is_listed w.systems.section w.systems.table.now w.systems.from (owner w k)) ORPHAN (w.systems.count + k)
    ∷ []

pub tests-are : (w : Table) → each_entry (tests w) 0 w.parts.count ≡ parts_tests of_systems of_parts w.systems.table.now
tests-are w = λ i. each_entry (λ k. each k i) 0 (many i)
  where
    many : w.parts.count ≡ count_at w.systems.table.now (parts_from of_systems w.systems.table.now)
    many = w.parts.counted ∙ simp (w.one_table, w.parts_follow)

    each : (k : ℕ) → tests w k ≡ part_tests of_systems of_parts w.systems.table.now (parts_from of_systems w.systems.table.now) k
    each k = simp (w.systems.counted, w.one_table, w.parts_section, w.systems_section, w.parts_follow, w.systems_from)
