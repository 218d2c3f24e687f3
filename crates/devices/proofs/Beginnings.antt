-- A table s and the same with more bytes u behind it: what stands inside s is read alike in both. So a good table with more bytes is TAIL,
-- and a proper beginning of a good table is CUT. Assumes nothing.
use Prim.Native.Nat.{ℕ, zero, suc, ◌+◌, ◌≤◌, ◌<◌}
use native.Mathlib.Omega.{arith}
use mathlib.Core.Bool.{Bool, true, false, cond}
use mathlib.Core.List.{List, [], ◌++◌}
use mathlib.Core.Path.{◌≡◌, refl, sym, ap, subst, ◌∙◌}
use borrow.Author.Tests.{le-leb, lt-leb, leb-true, leb-false}
use lib.Dec.{leb, ltb}
use lib.ListN.{length, take, drop, length-append, length-drop}
use lib.Seq.{take-append-le, drop-append-le}
use Rattle.octets.specs.Numbers.{low_first}
use Rattle.octets.specs.Searches.{first_fit}
use Rattle.verdict.specs.Orders.{in_order, refusal, good, is_good}
use Rattle.verdict.specs.Refusals.{CUT, TAIL}
use Rattle.verdict.proofs.Order.{failed, joined-stays}
use Rattle.devices.specs.declared.Section.{Section}
use Rattle.devices.specs.Keys.{below, same}
use Rattle.devices.specs.Sections.{count_at, entry_at, end_of, first_bytes, key_at, rises, entry_of, is_listed, section_tests}
use Rattle.devices.specs.Tables.{parts_from, system_of, tail_test, judged}
use Rattle.devices.proofs.Standing.{entry_next, entry_inside, bytes-are}
use Rattle.devices.proofs.Good.{Whole, Sound, behind_systems, systems-pass, all-but-tail}

-- a search goes by what its test says in the run
first_alike : (f g : ℕ → Bool) (i n : ℕ) → ((k : ℕ) → i ≤ k → k < i + n → f k ≡ g k) → first_fit f i n ≡ first_fit g i n
unfolding first_fit
first_alike f g i zero h = refl
first_alike f g i (suc n) h =
    ap (λ (b : Bool). cond b i (first_fit f (suc i) n)) (h i (omega arith) (omega arith))
    ∙ ap (cond (g i) i) (first_alike f g (suc i) n (λ k l m. h k (omega arith) (omega arith)))

end-behind : (z : Section) (t : List ℕ) (from : ℕ) → from + 2 ≤ end_of z t from
unfolding entry_at
end-behind z t from = omega arith

module _ (s u : List ℕ) where
  count-alike : (from : ℕ) → from + 2 ≤ length s → count_at (s ++ u) from ≡ count_at s from
  unfolding count_at
  count-alike from h =
      ap (λ (l : List ℕ). low_first (take 2 l)) (drop-append-le from s u (omega arith))
      ∙ ap low_first (take-append-le 2 (drop from s) u (omega (arith, length-drop from s)))

  bytes-alike : (z : Section) (from k n : ℕ) → entry_at z from k + n ≤ length s → first_bytes z (s ++ u) from k n ≡ first_bytes z s from k n
  bytes-alike z from k n h =
      let at = entry_at z from k in
      bytes-are z (s ++ u) from k n (omega (arith, length-append s u))
      ∙ ap (take n) (drop-append-le at s u (omega arith))
      ∙ take-append-le n (drop at s) u (omega (arith, length-drop at s))
      ∙ sym (bytes-are z s from k n h)

  module _ (z : Section) (from : ℕ) (keyed : z.key ≤ z.entry) where
    rises-alike : (k : ℕ) → entry_at z from k + z.entry ≤ length s → rises z (s ++ u) from k ≡ rises z s from k
    unfolding rises
    rises-alike zero h = refl
    rises-alike (suc k) h =
        ap (λ (x : List ℕ). below x (key_at z (s ++ u) from (suc k))) (bytes-alike z from k z.key (omega (arith, entry_next z from k)))
        ∙ ap (below (key_at z s from k)) (bytes-alike z from (suc k) z.key (omega arith))

    -- of a section that ends inside s
    module _ (fits : end_of z s from ≤ length s) where
      counted : from + 2 ≤ length s
      counted = omega (arith, end-behind z s from)

      pub end-alike : end_of z (s ++ u) from ≡ end_of z s from
      end-alike = ap (entry_at z from) (count-alike from counted)

      pub whole-longer : Whole z s from → Whole z (s ++ u) from
      whole-longer w = record {
        counts = omega (arith, length-append s u);
        few = omega (arith, w.few, count-alike from counted);
        fits = omega (arith, end-alike, length-append s u);
        rise = λ k h.
            let l : k < count_at s from = omega (arith, count-alike from counted) in
            rises-alike k (entry_inside z from k (count_at s from) (length s) l fits) ∙ w.rise k l;
      }

      pub whole-shorter : Whole z (s ++ u) from → Whole z s from
      whole-shorter w = record {
        counts = counted;
        few = omega (arith, w.few, count-alike from counted);
        fits = fits;
        rise = λ k h.
            sym (rises-alike k (entry_inside z from k (count_at s from) (length s) h fits)) ∙ w.rise k (omega (arith, count-alike from counted));
      }

      pub listed-alike : (x : List ℕ) → is_listed z (s ++ u) from x ≡ is_listed z s from x
      unfolding entry_of
      listed-alike x =
          let n = count_at s from in
          ap (λ (m : ℕ). ltb (first_fit (λ k. same (key_at z (s ++ u) from k) x) 0 m) m) (count-alike from counted)
          ∙ ap (λ (m : ℕ). ltb m n)
          (first_alike (λ k. same (key_at z (s ++ u) from k) x) (λ k. same (key_at z s from k) x) 0 n
          (λ k l h. ap (λ (y : List ℕ). same y x) (bytes-alike z from k z.key (omega (arith, entry_inside z from k n (length s) (omega arith) fits)))))

    -- a section that does not end inside s is cut there
    section-cut : Whole z (s ++ u) from → length s < end_of z (s ++ u) from → in_order (section_tests z s from) good ≡ refusal CUT 0
    unfolding in_order
    section-cut w h = by-test (leb (from + 2) (length s)) refl
      where
        by-test : (b : Bool) → leb (from + 2) (length s) ≡ b → in_order (section_tests z s from) good ≡ refusal CUT 0
        by-test false e = simp e
        by-test true e =
            let c : count_at (s ++ u) from ≡ count_at s from = count-alike from (leb-true (from + 2) (length s) e) in
            let m : leb (count_at s from) z.limit ≡ true = le-leb (count_at s from) z.limit (omega (arith, w.few)) in
            let f : leb (end_of z s from) (length s) ≡ false = lt-leb (end_of z s from) (length s) (omega (arith, ap (entry_at z from) c)) in
            simp (e, m, f)

module _ (a b : Section) (keyed-a : a.key ≤ a.entry) (keyed-b : b.key ≤ b.entry) (owned_in : a.key ≤ b.entry) (s u : List ℕ) (more : 1 ≤ length u) where
  longer : length (s ++ u) ≡ length s + length u
  longer = length-append s u

  -- a good table with more bytes
  pub longer-tail : Sound a b s → judged a b (s ++ u) ≡ refusal TAIL 0
  longer-tail g =
      let p = parts_from a s in
      let e : parts_from a (s ++ u) ≡ p = end-alike s u a 0 keyed-a g.systems.fits in
      let same_end : end_of b (s ++ u) (parts_from a (s ++ u)) ≡ end_of b s p = ap (end_of b (s ++ u)) e ∙ end-alike s u b p keyed-b g.parts.fits in
      let parts : Whole b (s ++ u) (parts_from a (s ++ u)) = subst (Whole b (s ++ u)) (sym e) (whole-longer s u b p keyed-b g.parts.fits g.parts) in
      all-but-tail a b (s ++ u) (whole-longer s u a 0 keyed-a g.systems.fits g.systems) parts
      (subst (λ (q : ℕ). (k : ℕ) → k < count_at (s ++ u) q → is_listed a (s ++ u) 0 (system_of a b (s ++ u) q k) ≡ true) (sym e) owned)
      ∙ failed (tail_test a b (s ++ u)) [] good (lt-leb (length (s ++ u)) (end_of b (s ++ u) (parts_from a (s ++ u))) (omega (arith, same_end, g.ends, longer)))
    where
      owned : (k : ℕ) → k < count_at (s ++ u) (parts_from a s) → is_listed a (s ++ u) 0 (system_of a b (s ++ u) (parts_from a s) k) ≡ true
      owned k h =
          let p = parts_from a s in
          let l : k < count_at s p = omega (arith, count-alike s u p g.parts.counts) in
          let inside : entry_at b p k + a.key ≤ length s = omega (arith, entry_inside b p k (count_at s p) (length s) l g.parts.fits) in
          listed-alike s u a 0 keyed-a g.systems.fits (system_of a b (s ++ u) p k)
          ∙ ap (is_listed a s 0) (bytes-alike s u b p k a.key inside)
          ∙ g.owned k l

  -- a proper beginning of a good table
  pub beginning-cut : Sound a b (s ++ u) → judged a b s ≡ refusal CUT 0
  unfolding judged behind_systems
  beginning-cut g = by-test (leb (end_of a (s ++ u) 0) (length s)) refl
    where
      by-test : (v : Bool) → leb (end_of a (s ++ u) 0) (length s) ≡ v → judged a b s ≡ refusal CUT 0
      by-test false e =
          let c : in_order (section_tests a s 0) good ≡ refusal CUT 0 = section-cut s u a 0 keyed-a g.systems (leb-false (end_of a (s ++ u) 0) (length s) e) in
          joined-stays (section_tests a s 0) _ good (ap is_good c) ∙ c
      by-test true e =
          let counts : 0 + 2 ≤ length s = omega (arith, leb-true (end_of a (s ++ u) 0) (length s) e, end-behind a (s ++ u) 0) in
          let p : parts_from a (s ++ u) ≡ parts_from a s = ap (entry_at a 0) (count-alike s u 0 counts) in
          let fits : end_of a s 0 ≤ length s = omega (arith, leb-true (end_of a (s ++ u) 0) (length s) e, p) in
          let parts : Whole b (s ++ u) (parts_from a s) = subst (Whole b (s ++ u)) p g.parts in
          let over : length s < end_of b (s ++ u) (parts_from a s) = omega (arith, ap (end_of b (s ++ u)) p, g.ends, longer) in
          let c : in_order (section_tests b s (parts_from a s)) good ≡ refusal CUT 0 = section-cut s u b (parts_from a s) keyed-b parts over in
          systems-pass a b s (whole-shorter s u a 0 keyed-a fits g.systems)
          ∙ joined-stays (section_tests b s (parts_from a s)) _ good (ap is_good c) ∙ c
