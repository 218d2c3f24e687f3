-- How a label's rule that lets six zeros in changes an order's verdict (document 02, Q-1: "TIME narrows; the order stays"): the laws over any order, then each
-- order that looks at labels. Assumes nothing.
use Prim.Native.Nat.{ℕ, suc, ◌+◌, ◌<◌}
use native.Mathlib.Omega.{arith}
use mathlib.Core.Bool.{Bool, true, false, not, false≢true, ◌||◌, ◌&&◌, and-eq-true_iff, cond}
use mathlib.Core.List.{List, [], ◌∷◌, ◌++◌}
use mathlib.Core.Logic.{inl, inr}
use mathlib.Core.Path.{◌≡◌, refl, sym, ap, subst, ◌∙◌}
use borrow.Author.Tests.{eqb-false, ne_eqb, leb-true, leb-false, le-leb, not-true, not-false}
use lib.Dec.{eqb, leb}
use lib.ListN.{length, get_or, drop}
use Rattle.std.specs.Prelude.{Some, None}
use Rattle.exchange.specs.declared.Draft.{Draft}
use Rattle.exchange.specs.declared.Exchanges.{Exchanges}
use Rattle.exchange.specs.Begins.{headed, opening_tests}
use Rattle.exchange.specs.Table.{begin_tests, found}
use Rattle.fields.specs.declared.Fields.{Fields}
use Rattle.frame.specs.Frame.{frame_tests}
use Rattle.kinds.specs.declared.Row.{Row}
use Rattle.kinds.specs.Table.{NONE, description_size}
use Rattle.label.specs.declared.Label.{Label}
use Rattle.label.specs.Times.{label_of, is_no_time, judged, judged_in13, allowed}
use Rattle.label.proofs.Judging.{stands-now, no-time-judged}
use Rattle.octets.specs.Parts.{part}
use Rattle.octets.specs.Searches.{first_fit}
use Rattle.octets.proofs.Flags.{by-test}
use Rattle.octets.proofs.Searches.{first_fits, first-none, first-is, first_absent}
use Rattle.output.specs.Writing.{room_tests}
use Rattle.packet.specs.declared.Header.{Header}
use Rattle.packet.specs.Frames.{command_of, unit_of}
use Rattle.unit.specs.Objects.{type_of, count_of}
use Rattle.unit.specs.Places.{number_test}
use Rattle.unit.specs.Units.{Carrier, row_of, one_size, one_size_test, shape_by, is_kept, empty_tests, is_command}
use Rattle.verdict.specs.declared.Verdict.{Verdict}
use Rattle.verdict.specs.Orders.{Test, ◌or_else◌, in_order, refusal, good}
use Rattle.verdict.specs.Refusals.{CUT, START, LENGTH, END, SUM, VERSION, COMMAND, TIME, UNIT, TYPE, COUNT, KIND, TEXT}
use Rattle.demands.specs.Rules.{Rule, in13, in14, label_at, timely_by, time_test_by, unit_by, under_by, head_test, content_by, packet_by, writer_by, begun_by, new_timely_by, object_by}
use Rattle.demands.specs.Release13.{ObjectWithoutTime, WithoutTime, NewWithoutTime, Narrowed}

-- what an order makes of two verdicts
module _ (P : ℕ → Type 0) (before now : Verdict) (d : Narrowed P before now) where
  pub over : (ts : List Test) → Narrowed P (in_order ts before) (in_order ts now)
  unfolding in_order
  over [] = d
  over (t ∷ ts) = go t.holds (over ts)
    where
      go : (b : Bool) → Narrowed P (in_order ts before) (in_order ts now) → Narrowed P (cond b (in_order ts before) t.refused) (cond b (in_order ts now) t.refused)
      go true n = n
      go false n = inl refl

  -- a test of a label that let z in beside what it let in before
  label-test : (i : ℕ) (old new z : Bool) → new ≡ (old || z) → (z ≡ true → P i) → (now ≡ refusal TIME i → ⊥)
      → Narrowed P (cond old before (refusal TIME i)) (cond new now (refusal TIME i))
  label-test i true new z e p not_so = subst (λ (b : Bool). Narrowed P before (cond b now (refusal TIME i))) (sym e) d
  label-test i false new true e p not_so =
      subst (λ (b : Bool). Narrowed P (refusal TIME i) (cond b now (refusal TIME i))) (sym e) (inr (record { place = i; told = refl; there = p refl; gone = not_so }))
  label-test i false new false e p not_so = subst (λ (b : Bool). Narrowed P (refusal TIME i) (cond b now (refusal TIME i))) (sym e) (inl refl)

-- of fewer places, of more
more : (P Q : ℕ → Type 0) (before now : Verdict) → ((i : ℕ) → P i → Q i) → Narrowed P before now → Narrowed Q before now
more P Q before now f (inl e) = inl e
more P Q before now f (inr n) = inr (record { place = n.place; told = n.told; there = f n.place n.there; gone = n.gone })

-- none of these tests refuses with TIME at place i
abbrev Apart : ℕ → List Test → Type 0
Apart i [] = Unit
Apart i (t ∷ ts) = (t.refused ≡ refusal TIME i → ⊥) × Apart i ts

apart : (i : ℕ) (ts : List Test) (v : Verdict) → Apart i ts → (v ≡ refusal TIME i → ⊥) → in_order ts v ≡ refusal TIME i → ⊥
unfolding in_order
apart i [] v a not_so e = not_so e
apart i (t ∷ ts) v a not_so e = go t.holds e (apart i ts v a.1 not_so)
  where
    go : (b : Bool) → cond b (in_order ts v) t.refused ≡ refusal TIME i → (in_order ts v ≡ refusal TIME i → ⊥) → ⊥
    go true h ih = ih h
    go false h ih = a.0 h

-- another number is not TIME
other : (n i : ℕ) → eqb n TIME ≡ false → refusal n 0 ≡ refusal TIME i → ⊥
other n i differs e = eqb-false n TIME differs (ap (λ (v : Verdict). v.number) e)

-- nor does one of a unit's shape
others : (rs : List Row) (by : Carrier) (u : List ℕ) (i : ℕ) → Apart i (shape_by one_size_test rs by u)
others rs by u i = (other UNIT i refl, (other TYPE i refl, (other COUNT i refl, (other one_size.number i refl, tt))))

module _ (r : Row) (u : List ℕ) where
  unlabelled : (j : Rule) (k : ℕ) → eqb r.label NONE ≡ true → timely_by j r u k ≡ true
  unfolding timely_by
  unlabelled j k e = simp e

  with-label : (j : Rule) (k : ℕ) → eqb r.label NONE ≡ false → timely_by j r u k ≡ allowed (j (label_at r u k))
  unfolding timely_by
  with-label j k e = simp e

  -- a label that could stand still may
  still-timely : (k : ℕ) → timely_by judged_in13 r u k ≡ true → timely_by judged r u k ≡ true
  still-timely k t =
      by-test (eqb r.label NONE) (unlabelled judged k)
      (λ e. with-label judged k e ∙ stands-now (label_at r u k) ∙ ap (λ (b : Bool). b || is_no_time (label_at r u k)) (sym (with-label judged_in13 k e) ∙ t))

  -- and one that may now and could not is six zeros
  newly-timely : (k : ℕ) → timely_by judged_in13 r u k ≡ false → timely_by judged r u k ≡ true
      → (r.label ≡ NONE → ⊥) × (is_no_time (label_at r u k) ≡ true)
  newly-timely k f t =
      by-test (eqb r.label NONE) (λ e. absurd (false≢true (sym f ∙ unlabelled judged_in13 k e)))
      (λ e. (
        eqb-false r.label NONE e,
        ap (λ (b : Bool). b || is_no_time (label_at r u k)) (sym (sym (with-label judged_in13 k e) ∙ f)) ∙ sym (stands-now (label_at r u k)) ∙ sym (with-label judged k e) ∙ t,
      ))

-- the labels of a unit's objects
module _ (rs : List Row) (u : List ℕ) where
  abbrev n : ℕ
  n = count_of u

  bad : Rule → ℕ → Bool
  bad j k = not (timely_by j (row_of rs u) u k)

  -- the first bad object, before and now
  f : ℕ
  f = first_fit (bad judged_in13) 0 n

  g : ℕ
  g = first_fit (bad judged) 0 n

  abbrev at : ℕ → Verdict
  at m = cond (leb n m) good (refusal TIME (suc m))

  -- none before the first of release 1.3 is bad now
  none_before : (k : ℕ) → k < f → bad judged k ≡ false
  unfolding bad f
  none_before k h = ap not (still-timely (row_of rs u) u k (not-false _ (first-none (bad judged_in13) 0 n k (omega arith) h)))

  times-narrowed : Narrowed (ObjectWithoutTime rs u) (at f) (at g)
  unfolding bad f g
  times-narrowed = by-test (leb n f) all-good (λ e. some-bad (leb-false n f e) e)
    where
      all-good : leb n f ≡ true → Narrowed (ObjectWithoutTime rs u) (at f) (at g)
      all-good e =
          let past = first_absent (bad judged) 0 n (λ k low high. none_before k (omega (arith, leb-true n f e))) in
          inl (ap (λ (b : Bool). cond b good (refusal TIME (suc f))) e ∙ ap (λ (b : Bool). cond b good (refusal TIME (suc g))) (sym (le-leb n g (omega (arith, past)))))

      some-bad : f < n → leb n f ≡ false → Narrowed (ObjectWithoutTime rs u) (at f) (at g)
      some-bad low e =
          let bad-then = not-true (timely_by judged_in13 (row_of rs u) u f) (first_fits (bad judged_in13) 0 n (omega (arith, low))) in
          by-test (timely_by judged (row_of rs u) u f)
          (λ t.
          let now-so = newly-timely (row_of rs u) u f bad-then t in
          inr (record {
            place = suc f;
            told = ap (λ (b : Bool). cond b good (refusal TIME (suc f))) e;
            there = record { number = f; place = refl; below = low; labelled = now-so.0; no_time = now-so.1 };
            gone = λ h. gone h t;
          }))
          (λ t. inl (ap at (sym (first-is (bad judged) 0 n f (omega arith) (omega (arith, low)) (ap not t) (λ k lo hi. none_before k hi)))))
        where
          gone : at g ≡ refusal TIME (suc f) → timely_by judged (row_of rs u) u f ≡ true → ⊥
          gone h t =
              by-test (leb n g)
              (λ q. other 0 (suc f) refl (sym (ap (λ (b : Bool). cond b good (refusal TIME (suc g))) q) ∙ h))
              (λ q.
              let here : refusal TIME (suc g) ≡ refusal TIME (suc f) = sym (ap (λ (b : Bool). cond b good (refusal TIME (suc g))) q) ∙ h in
              let same : g ≡ f = omega (arith, ap (λ (v : Verdict). v.place) here) in
              let bad-now = first_fits (bad judged) 0 n (omega (arith, leb-false n g q)) in
              false≢true (sym (not-true (timely_by judged (row_of rs u) u g) bad-now) ∙ ap (timely_by judged (row_of rs u) u) same ∙ t))

module _ (rs : List Row) where
  pub unit-narrowed : (by : Carrier) (u : List ℕ) → Narrowed (ObjectWithoutTime rs u) (unit_by in13 rs by u) (unit_by in14 rs by u)
  unfolding in_order f g bad
  unit-narrowed by u = over (ObjectWithoutTime rs u) (at rs u (f rs u)) (at rs u (g rs u)) (times-narrowed rs u) (shape_by one_size_test rs by u)

  pub under-narrowed : (c : ℕ) (u : List ℕ) → Narrowed (ObjectWithoutTime rs u) (under_by in13 rs c u) (under_by in14 rs c u)
  under-narrowed c u = over (ObjectWithoutTime rs u) _ _ (go (is_kept c)) ((is_command c or_else COMMAND) ∷ [])
    where
      go : (b : Bool) → Narrowed (ObjectWithoutTime rs u) (cond b (in_order (empty_tests u) good) (unit_by in13 rs (Some c) u)) (cond b (in_order (empty_tests u) good) (unit_by in14 rs (Some c) u))
      go true = inl refl
      go false = unit-narrowed (Some c) u

  -- what a unit under a command is not refused for where the unit by itself is not
  under_by_lem : (c : ℕ) (u : List ℕ) (i : ℕ) → (unit_by in14 rs (Some c) u ≡ refusal TIME i → ⊥) → under_by in14 rs c u ≡ refusal TIME i → ⊥
  under_by_lem c u i not_so = apart i ((is_command c or_else COMMAND) ∷ []) _ (other COMMAND i refl, tt) (go (is_kept c))
    where
      go : (b : Bool) → cond b (in_order (empty_tests u) good) (unit_by in14 rs (Some c) u) ≡ refusal TIME i → ⊥
      go true = apart i (empty_tests u) good (other UNIT i refl, tt) (other 0 i refl)
      go false = not_so

  -- its TIME is never at place 0
  under-apart : (c : ℕ) (u : List ℕ) → under_by in14 rs c u ≡ refusal TIME 0 → ⊥
  unfolding in_order
  under-apart c u =
      under_by_lem c u 0
      (apart 0 (shape_by one_size_test rs (Some c) u) _ (others rs (Some c) u 0)
      (apart 0 (time_test_by judged (row_of rs u) u ∷ []) good (λ e. omega (arith, ap (λ (v : Verdict). v.place) e), tt) (other 0 0 refl)))

  -- the header's label, then the unit under its command
  headed-narrowed : (l : Label) (c : ℕ) (u : List ℕ)
      → Narrowed (WithoutTime l rs u) (in_order (head_test judged_in13 l) (under_by in13 rs c u)) (in_order (head_test judged l) (under_by in14 rs c u))
  unfolding in_order
  headed-narrowed l c u =
      label-test (WithoutTime l rs u) (under_by in13 rs c u) (under_by in14 rs c u)
      (more (ObjectWithoutTime rs u) (WithoutTime l rs u) _ _ (λ i o. inr o) (under-narrowed c u))
      0 (allowed (judged_in13 l)) (allowed (judged l)) (is_no_time l) (stands-now l) (λ z. inl (refl, z)) (under-apart c u)

  pub content-narrowed : (p : List ℕ) → Narrowed (WithoutTime (label_of (drop 6 p)) rs (unit_of p)) (content_by in13 rs p) (content_by in14 rs p)
  unfolding in_order
  content-narrowed p =
      over (WithoutTime (label_of (drop 6 p)) rs (unit_of p)) _ _ (headed-narrowed (label_of (drop 6 p)) (command_of p) (unit_of p))
      ((eqb (get_or p 4 0) 1 or_else VERSION) ∷ (is_command (command_of p) or_else COMMAND) ∷ [])

  pub writer-narrowed : (out : List ℕ) (h : Header) (l : ℕ)
      → Narrowed (WithoutTime h.label rs (part out 27 (27 + l))) (writer_by in13 rs out h l) (writer_by in14 rs out h l)
  unfolding in_order
  writer-narrowed out h l =
      let P = WithoutTime h.label rs (part out 27 (27 + l)) in
      over P _ _ (over P _ _ (headed-narrowed h.label h.command (part out 27 (27 + l))) ((is_command h.command or_else COMMAND) ∷ [])) (room_tests out l 30)

  pub begin-narrowed : (x : Exchanges) (c : ℕ) (out : List ℕ) (d : Draft) (l : ℕ)
      → Narrowed (WithoutTime d.label rs (part out 27 (27 + l))) (begun_by in13 rs x c out d l) (begun_by in14 rs x c out d l)
  begin-narrowed x c out d l =
      let P = WithoutTime d.label rs (part out 27 (27 + l)) in
      over P _ _ (over P _ _ (writer-narrowed out (headed x c d (found x c).serial) l) (opening_tests out d l)) (begin_tests x c)

  pub object-narrowed : (u : List ℕ) (k : ℕ) (x : Fields) (d : List ℕ) → Narrowed (NewWithoutTime rs u k x) (object_by in13 rs u k x d) (object_by in14 rs u k x d)
  unfolding in_order new_timely_by
  object-narrowed u k x d =
      over (NewWithoutTime rs u k x) _ _
      (label-test (NewWithoutTime rs u k x) good good (inl refl) (suc k) (new_timely_by judged_in13 (row_of rs u) x) (new_timely_by judged (row_of rs u) x)
      (not (eqb (row_of rs u).label NONE) && is_no_time x.label) (go (eqb (row_of rs u).label NONE)) so (other 0 (suc k) refl))
      ((shape_by one_size_test rs None u ++ (number_test u k ∷ []))
      ++ ((eqb x.kind (type_of u) && eqb (row_of rs u).text NONE or_else KIND) ∷ (eqb (length d) (description_size (row_of rs u)) or_else TEXT) ∷ []))
    where
      go : (b : Bool) → cond b true (allowed (judged x.label)) ≡ (cond b true (allowed (judged_in13 x.label)) || (not b && is_no_time x.label))
      go true = refl
      go false = stands-now x.label

      so : not (eqb (row_of rs u).label NONE) && is_no_time x.label ≡ true → NewWithoutTime rs u k x (suc k)
      so e =
          let both = (and-eq-true_iff (not (eqb (row_of rs u).label NONE)) (is_no_time x.label)).0 e in
          (refl, eqb-false (row_of rs u).label NONE (not-true _ both.0), both.1)

-- TIME is told of no label of six zeros, in the header or in an object
module _ (rs : List Row) where
  pub unit-spares : (by : Carrier) (u : List ℕ) (i : ℕ) → ObjectWithoutTime rs u i → unit_by in14 rs by u ≡ refusal TIME i → ⊥
  unfolding in_order g bad
  unit-spares by u i o = apart i (shape_by one_size_test rs by u) (at rs u (g rs u)) (others rs by u i) spared
    where
      timely-now : timely_by judged (row_of rs u) u o.number ≡ true
      timely-now =
          with-label (row_of rs u) u judged o.number (ne_eqb (row_of rs u).label NONE o.labelled)
          ∙ ap allowed (no-time-judged (label_at (row_of rs u) u o.number) o.no_time)

      spared : at rs u (g rs u) ≡ refusal TIME i → ⊥
      spared h =
          by-test (leb (count_of u) (g rs u))
          (λ q. other 0 i refl (sym (ap (λ (b : Bool). cond b good (refusal TIME (suc (g rs u)))) q) ∙ h))
          (λ q.
          let here : refusal TIME (suc (g rs u)) ≡ refusal TIME i = sym (ap (λ (b : Bool). cond b good (refusal TIME (suc (g rs u)))) q) ∙ h in
          let same : g rs u ≡ o.number = omega (arith, ap (λ (v : Verdict). v.place) here, o.place) in
          let bad-now = first_fits (bad rs u judged) 0 (count_of u) (omega (arith, leb-false (count_of u) (g rs u) q)) in
          false≢true (sym (not-true (timely_by judged (row_of rs u) u (g rs u)) bad-now) ∙ ap (timely_by judged (row_of rs u) u) same ∙ timely-now))

  headed-spares : (l : Label) (c : ℕ) (u : List ℕ) (i : ℕ) → WithoutTime l rs u i → in_order (head_test judged l) (under_by in14 rs c u) ≡ refusal TIME i → ⊥
  unfolding in_order
  headed-spares l c u i (inl z) h =
      let stands = ap allowed (no-time-judged l z.1) in
      under-apart rs c u (sym (ap (λ (b : Bool). cond b (under_by in14 rs c u) (refusal TIME 0)) stands) ∙ h ∙ ap (refusal TIME) z.0)
  headed-spares l c u i (inr o) h =
      by-test (allowed (judged l))
      (λ t. under_by_lem rs c u i (unit-spares (Some c) u i o) (sym (ap (λ (b : Bool). cond b (under_by in14 rs c u) (refusal TIME 0)) t) ∙ h))
      (λ t.
      let first : refusal TIME 0 ≡ refusal TIME i = sym (ap (λ (b : Bool). cond b (under_by in14 rs c u) (refusal TIME 0)) t) ∙ h in
      absurd (omega (arith, ap (λ (v : Verdict). v.place) first, o.place)))

  pub packet-spares : (p : List ℕ) (i : ℕ) → WithoutTime (label_of (drop 6 p)) rs (unit_of p) i → packet_by in14 rs p ≡ refusal TIME i → ⊥
  unfolding in_order
  packet-spares p i w =
      apart i (frame_tests 1024 p) (content_by in14 rs p)
      (other CUT i refl, (other START i refl, (other LENGTH i refl, (other CUT i refl, (other END i refl, (other SUM i refl, tt))))))
      (apart i ((eqb (get_or p 4 0) 1 or_else VERSION) ∷ (is_command (command_of p) or_else COMMAND) ∷ []) _
      (other VERSION i refl, (other COMMAND i refl, tt))
      (headed-spares (label_of (drop 6 p)) (command_of p) (unit_of p) i w))
