-- The laws of parts and of bytes put into a row: what stands inside, what stands outside, and lengths.
-- Assumes nothing.
use Prim.Native.Nat.{ℕ, zero, suc, ◌+◌, ◌-◌, ◌≤◌, ◌<◌}
use native.Mathlib.Omega.{arith}
use mathlib.Core.Bool.{Bool, true, false}
use mathlib.Core.Path.{◌≡◌, refl, sym, ap, ◌∙◌}
use mathlib.Core.List.{List, [], ◌∷◌, ◌++◌, append_assoc, append-nil}
use borrow.Author.Tests.{le-leb, lt-leb, leb-true, leb-false, ltb-true, ltb-false}
use lib.Dec.{leb, ltb}
use lib.ListN.{length, get_or, set, take, drop, replicate, get_or-eq_default, length-append, length-take, length-drop, take-append-drop, drop_of_length-le}
use native.Mathlib.Nat.{le_of_eq}
use native.Mathlib.Numerals.{add-one}
use lib.Seq.{sets, sets-eq, paste, paste-suc, drop-drop, take_all, take-length, take_at, drop_at, take-append_seam, drop-cons, get_or-take, get_or-drop, length-take-le}
use Rattle.octets.specs.Parts.{part, put_at, one_by_one}
use Rattle.octets.proofs.Rows.{no-elements}

-- a part that is there
module _ (s : List ℕ) (from to : ℕ) (up : from ≤ to) (fits : to ≤ length s) where
  pub part-is : part s from to ≡ take (to - from) (drop from s)
  unfolding part
  part-is = simp (le-leb from to up, le-leb to (length s) fits)

  pub length_part : length (part s from to) ≡ to - from
  length_part = simp (part-is, length-take, length-drop) (omega arith)

  pub part_at : (k : ℕ) → k < to - from → get_or (part s from to) k 0 ≡ get_or s (from + k) 0
  part_at k h = simp part-is (get_or-take (to - from) (drop from s) k 0 h ∙ get_or-drop from s k 0)

-- bytes that fit
module _ (o : List ℕ) (at : ℕ) (bytes : List ℕ) (fits : at + length bytes ≤ length o) where
  pub put_is : put_at o at bytes ≡ take at o ++ bytes ++ drop (at + length bytes) o
  unfolding put_at
  put_is = simp (le-leb (at + length bytes) (length o) fits)

  front : length (take at o) ≡ at
  front = length-take-le at o (omega arith)

  head : length (take at o ++ bytes) ≡ at + length bytes
  head = length-append (take at o) bytes ∙ ap (λ (n : ℕ). n + length bytes) front

  put-long : length (put_at o at bytes) ≡ length o
  put-long = simp put_is (omega (arith, length-append (take at o ++ bytes) (drop (at + length bytes) o), head, length-drop (at + length bytes) o))

  pub put-before : take at (put_at o at bytes) ≡ take at o
  put-before = simp (put_is, append_assoc) (take_at (take at o) (bytes ++ drop (at + length bytes) o) at front)

  pub put-after : drop (at + length bytes) (put_at o at bytes) ≡ drop (at + length bytes) o
  put-after = simp put_is (drop_at (take at o ++ bytes) (drop (at + length bytes) o) (at + length bytes) head)

  pub put-part : part (put_at o at bytes) at (at + length bytes) ≡ bytes
  put-part =
      let few : at + length bytes - at ≡ length bytes = omega arith in
      let fits' : at + length bytes ≤ length (put_at o at bytes) = omega (arith, put-long) in
      part-is (put_at o at bytes) at (at + length bytes) (omega arith) fits'
      ∙ simp (few, put_is, append_assoc)
      (ap (take (length bytes)) (drop_at (take at o) (bytes ++ drop (at + length bytes) o) at front)
      ∙ take-append_seam bytes (drop (at + length bytes) o))

-- bytes that do not fit change nothing
pub put-none : (o : List ℕ) (at : ℕ) (bytes : List ℕ) → length o < at + length bytes → put_at o at bytes ≡ o
unfolding put_at
put-none o at bytes h = simp (lt-leb (at + length bytes) (length o) h)

pub length-put : (o : List ℕ) (at : ℕ) (bytes : List ℕ) → length (put_at o at bytes) ≡ length o
length-put o at bytes = by-test (leb (at + length bytes) (length o)) refl
  where
    by-test : (t : Bool) → leb (at + length bytes) (length o) ≡ t → length (put_at o at bytes) ≡ length o
    by-test true e = put-long o at bytes (leb-true (at + length bytes) (length o) e)
    by-test false e = ap length (put-none o at bytes (leb-false (at + length bytes) (length o) e))

-- bytes read one by one are the part that they stand in
pub one_by_one_lem : (s : List ℕ) (i n : ℕ) → i + n ≤ length s → one_by_one s i n ≡ take n (drop i s)
one_by_one_lem s i zero h = refl
one_by_one_lem s i (suc n) h =
    rw (drop-cons s i 0 (omega arith))
    (ap (λ (t : List ℕ). get_or s i 0 ∷ t) (one_by_one_lem s (suc i) n (omega arith)))

-- behind the end each of them is 0
one-behind : (s : List ℕ) (i n : ℕ) → length s ≤ i → replicate n 0 ≡ one_by_one s i n
one-behind s i zero h = refl
one-behind s i (suc n) h = λ k. sym (get_or-eq_default s 0 h) k ∷ one-behind s (suc i) n (omega arith) k

-- n bytes read at once where all are there, and the last of a row with zeros behind them
pub all_there : (s : List ℕ) (at n : ℕ) (rest : List ℕ) → rest ≡ drop at s → n ≤ length rest → take n rest ≡ one_by_one s at n
all_there s at zero rest e h = refl
all_there s at (suc n) rest e h = ap (take (suc n)) e ∙ sym (one_by_one_lem s at (suc n) (omega (arith, ap length e, length-drop at s)))

padded : (s : List ℕ) (at n : ℕ) → length (drop at s) ≤ n → drop at s ++ drop (length (drop at s)) (replicate n 0) ≡ one_by_one s at n
padded s at zero h = simp (no-elements (drop at s) (omega arith))
padded s at (suc n) h = by-place (ltb at (length s)) refl (padded s (suc at) n)
  where
    by-place : (t : Bool) → ltb at (length s) ≡ t
        → (length (drop (suc at) s) ≤ n → drop (suc at) s ++ drop (length (drop (suc at) s)) (replicate n 0) ≡ one_by_one s (suc at) n)
        → drop at s ++ drop (length (drop at s)) (replicate (suc n) 0) ≡ one_by_one s at (suc n)
    by-place true e ih =
        let here : at < length s = ltb-true at (length s) e in
        rw (drop-cons s at 0 here)
        (ap (λ (t : List ℕ). get_or s at 0 ∷ t) (ih (omega (arith, length-drop at s, length-drop (suc at) s))))
    by-place false e ih =
        let past : length s ≤ at = ltb-false at (length s) e in
        rw (drop_of_length-le s past) (one-behind s at (suc n) past)

pub some_there : (s : List ℕ) (at n : ℕ) (rest : List ℕ) → rest ≡ drop at s → length rest < n → rest ++ drop (length rest) (replicate n 0) ≡ one_by_one s at n
some_there s at n rest e h =
    let few : length (drop at s) ≤ n = omega (arith, ap length e) in
    ap (λ (r : List ℕ). r ++ drop (length r) (replicate n 0)) e ∙ padded s at n few

-- what `&s[at..]` lends is all from that place on
pub rest-is : (s : List ℕ) (at : ℕ) → take (length s - at) (drop at s) ≡ drop at s
rest-is s at = take_all (length s - at) (drop at s) (le_of_eq (length-drop at s))

-- a row is a part of it, and what follows
pub chunk : (s : List ℕ) (at n : ℕ) (c rest : List ℕ) → c ≡ take n (drop at s) → rest ≡ drop (at + n) s → c ++ rest ≡ drop at s
chunk s at n c rest e f = rw (e, f) (ap (λ (d : List ℕ). take n (drop at s) ++ d) (sym (drop-drop n at s)) ∙ take-append-drop n (drop at s))

-- bytes put one after another are put at once
pub put-put : (o : List ℕ) (at : ℕ) (x y : List ℕ) → at + length x + length y ≤ length o → put_at (put_at o at x) (at + length x) y ≡ put_at o at (x ++ y)
put-put o at x y fits =
    let o' : List ℕ = put_at o at x in
    let mid : ℕ = at + length x in
    let both : length (x ++ y) ≡ length x + length y = length-append x y in
    let first : at + length x ≤ length o = omega arith in
    let front : take mid o' ≡ take at o ++ x =
    ap (take mid) (put_is o at x first) ∙ take_at (take at o ++ x) (drop mid o) mid (length-append (take at o) x ∙ ap (λ (n : ℕ). n + length x) (length-take-le at o (omega arith))) in
    let back : drop (mid + length y) o' ≡ drop (mid + length y) o =
    sym (drop-drop (length y) mid o') ∙ ap (drop (length y)) (put-after o at x first) ∙ drop-drop (length y) mid o in
    let ends : at + length (x ++ y) ≡ mid + length y = omega arith in
    put_is o' mid y (omega (arith, length-put o at x))
    ∙ ap (λ (l : List ℕ). l ++ y ++ drop (mid + length y) o') front
    ∙ ap (λ (l : List ℕ). take at o ++ x ++ y ++ l) back
    ∙ ap (λ (l : List ℕ). l ++ drop (mid + length y) o) (append_assoc (take at o) x y)
    ∙ ap (λ (n : ℕ). take at o ++ (x ++ y) ++ drop n o) (sym ends)
    ∙ sym (put_is o at (x ++ y) (omega arith))

-- a byte outside of what is put is as it was
module _ (o : List ℕ) (at : ℕ) (bytes : List ℕ) (fits : at + length bytes ≤ length o) (i : ℕ) where
  pub put_low : i < at → get_or (put_at o at bytes) i 0 ≡ get_or o i 0
  put_low h = sym (get_or-take at (put_at o at bytes) i 0 h) ∙ ap (λ (l : List ℕ). get_or l i 0) (put-before o at bytes fits) ∙ get_or-take at o i 0 h

  pub put-high : at + length bytes ≤ i → get_or (put_at o at bytes) i 0 ≡ get_or o i 0
  put-high h =
      let there : at + length bytes + (i - (at + length bytes)) ≡ i = omega arith in
      let j : ℕ = i - (at + length bytes) in
      ap (λ (n : ℕ). get_or (put_at o at bytes) n 0) (sym there)
      ∙ sym (get_or-drop (at + length bytes) (put_at o at bytes) j 0)
      ∙ ap (λ (l : List ℕ). get_or l j 0) (put-after o at bytes fits)
      ∙ get_or-drop (at + length bytes) o j 0
      ∙ ap (λ (n : ℕ). get_or o n 0) there

-- from its place on stand the bytes that were put, then the rest
pub put-from : (o : List ℕ) (at : ℕ) (bytes : List ℕ) → at + length bytes ≤ length o → drop at (put_at o at bytes) ≡ bytes ++ drop (at + length bytes) o
put-from o at bytes fits =
    ap (drop at) (put_is o at bytes fits ∙ append_assoc (take at o) bytes (drop (at + length bytes) o))
    ∙ drop_at (take at o) (bytes ++ drop (at + length bytes) o) at (length-take-le at o (omega arith))

-- bytes put where they stand change nothing
pub put_same : (o : List ℕ) (at : ℕ) (x : List ℕ) → at + length x ≤ length o → x ≡ take (length x) (drop at o) → put_at o at x ≡ o
put_same o at x fits e =
    put_is o at x fits
    ∙ ap (λ (y : List ℕ). take at o ++ y ++ drop (at + length x) o) e
    ∙ ap (λ (y : List ℕ). take at o ++ take (length x) (drop at o) ++ y) (sym (drop-drop (length x) at o))
    ∙ append_assoc (take at o) (take (length x) (drop at o)) (drop (length x) (drop at o))
    ∙ ap (λ (y : List ℕ). take at o ++ y) (take-append-drop (length x) (drop at o))
    ∙ take-append-drop at o

-- single stores from a place on are bytes put there
pub stores-put : (o : List ℕ) (at : ℕ) (bytes : List ℕ) → at + length bytes ≤ length o → sets o at bytes ≡ put_at o at bytes
stores-put o at bytes fits = sets-eq bytes o at fits ∙ sym (put_is o at bytes fits)

-- bytes as long as the row are put over all of it
pub put_whole : (o bytes : List ℕ) → length bytes ≡ length o → put_at o 0 bytes ≡ bytes
put_whole o bytes e =
    let past : length o ≤ 0 + length bytes = omega arith in
    let none : drop (0 + length bytes) o ≡ [] = drop_of_length-le o past in
    put_is o 0 bytes (omega arith) ∙ ap (λ (l : List ℕ). bytes ++ l) none ∙ append-nil bytes

-- a copy byte by byte: one byte more, and all of them
pub copy-on : (o : List ℕ) (at : ℕ) (bytes : List ℕ) (i : ℕ) → at + i < length o → i < length bytes
    → set (paste o at bytes i) (at + i) (get_or bytes i 0) ≡ paste o at bytes (i + 1)
copy-on o at bytes i fits h = paste-suc o at bytes i 0 fits h ∙ ap (paste o at bytes) (sym (add-one i))

pub copy-whole : (o : List ℕ) (at : ℕ) (bytes : List ℕ) (i : ℕ) → i ≡ length bytes → at + length bytes ≤ length o → paste o at bytes i ≡ put_at o at bytes
copy-whole o at bytes i e fits =
    ap (paste o at bytes) e ∙ ap (λ (t : List ℕ). take at o ++ t ++ drop (at + length bytes) o) (take-length bytes) ∙ sym (put_is o at bytes fits)
