-- What stands at a position: a decision survives more bytes (Stable), falls on none earlier than the byte that decides (Early), and
-- its bounds. Each along the definition, one law for each of its two forms of choice. Assumes nothing.
use Prim.Native.Nat.{ℕ, ◌≤◌, ◌<◌}
use native.Mathlib.Omega.{arith}
use mathlib.Core.Bool.{Bool, true, false, cond, false≢true}
use mathlib.Core.List.{List, [], ◌++◌}
use mathlib.Core.Path.{◌≡◌, refl, sym, ap, subst, ◌∙◌}
use borrow.Author.Tests.{le-leb, lt-leb, leb-true, leb-false}
use lib.Dec.{leb, eqb}
use lib.ListN.{length, get_or, take, drop, length-append, length-take, get_or-append, take-append-drop}
use Rattle.frame.specs.Frame.{packet_length, room, unit_length, ended, summed}
use Rattle.frame.proofs.Framed.{unit_kept, ended-kept, summed_kept}
use Rattle.reading.specs.Events.Event.{Length}
use Rattle.reading.specs.Events.{Standing}
use Rattle.reading.specs.Events.Standing.{Wait, Skip, Hit}
use Rattle.reading.specs.Values.{asks}
use Rattle.reading.proofs.Worths.{worth}
use Rattle.reading.specs.Standing.{when_there, judged_frame, started, stands}

-- a decision
abbrev pub decided : Standing → Bool
decided Wait = false
decided (Skip k) = true
decided (Hit e k p) = true

-- the bytes that it looked at
abbrev pub looked : Standing → ℕ
looked Wait = 0
looked (Skip k) = k
looked (Hit e k p) = k

-- so many bytes are there
pub there : (n : ℕ) (xs : List ℕ) (v : Standing) → n ≤ length xs → when_there n xs v ≡ v
unfolding when_there
there n xs v h = simp (le-leb n (length xs) h)

-- they are not
pub not_there : (n : ℕ) (xs : List ℕ) (v : Standing) → length xs < n → when_there n xs v ≡ Wait
unfolding when_there
not_there n xs v h = simp (lt-leb n (length xs) h)

pub nothing-waits : (M : ℕ) → stands M [] ≡ Wait
unfolding stands
nothing-waits M = not_there 1 [] _ (omega arith)

there-kept : (n : ℕ) (xs ys : List ℕ) (v w : Standing) → (n ≤ length xs → decided v ≡ true → w ≡ v)
    → decided (when_there n xs v) ≡ true → when_there n (xs ++ ys) w ≡ when_there n xs v
there-kept n xs ys v w k d = by-test (leb n (length xs)) refl
  where
    by-test : (t : Bool) → leb n (length xs) ≡ t → when_there n (xs ++ ys) w ≡ when_there n xs v
    by-test true e =
        let h : n ≤ length xs = leb-true n (length xs) e in
        there n (xs ++ ys) w (omega (arith, length-append xs ys))
        ∙ k h (ap decided (sym (there n xs v h)) ∙ d)
        ∙ sym (there n xs v h)
    by-test false e = absurd (false≢true (ap decided (sym (not_there n xs v (leb-false n (length xs) e))) ∙ d))

choice-kept : (t u : Bool) (a b v w : Standing) → u ≡ t → (decided a ≡ true → v ≡ a) → (decided b ≡ true → w ≡ b)
    → decided (cond t a b) ≡ true → cond u v w ≡ cond t a b
choice-kept true u a b v w e f g d = simp e (f d)
choice-kept false u a b v w e f g d = simp e (g d)

same : (v : Standing) → decided v ≡ true → v ≡ v
same v d = refl

-- what the tests read survives more bytes
module _ (xs ys : List ℕ) where
  byte-kept : (i n : ℕ) → i < length xs → eqb (get_or (xs ++ ys) i 0) n ≡ eqb (get_or xs i 0) n
  byte-kept i n h = ap (λ (b : ℕ). eqb b n) (get_or-append xs ys 0 i h)

  frame-kept : (l : ℕ) → packet_length l ≤ length xs → judged_frame l (xs ++ ys) ≡ judged_frame l xs
  unfolding judged_frame
  frame-kept l h = simp (ended-kept xs ys l h, summed_kept xs ys l h)

  started-kept : (M : ℕ) → decided (started M xs) ≡ true → started M (xs ++ ys) ≡ started M xs
  unfolding started
  started-kept M =
      there-kept 26 xs ys _ _
      (λ h. choice-kept (leb (unit_length xs) M) _ _ _ _ _ (ap (λ (l : ℕ). leb l M) (unit_kept xs ys h))
      (λ d.
      ap (λ (l : ℕ). when_there (packet_length l) (xs ++ ys) (judged_frame l (xs ++ ys))) (unit_kept xs ys h)
      ∙ there-kept (packet_length (unit_length xs)) xs ys _ _ (λ k _. frame-kept (unit_length xs) k) d)
      (same (Hit Length 26 1)))

  -- Stable: a decision survives more bytes
  pub stable : (M : ℕ) → decided (stands M xs) ≡ true → stands M (xs ++ ys) ≡ stands M xs
  unfolding stands
  stable M =
      there-kept 1 xs ys _ _
      (λ h. choice-kept (eqb (get_or xs 0 0) 64) _ _ _ _ _ (byte-kept 0 64 (omega arith))
      (there-kept 2 xs ys _ _
      (λ k. choice-kept (eqb (get_or xs 1 0) 64) _ _ _ _ _ (byte-kept 1 64 (omega arith))
      (started-kept M) (same (Skip 2))))
      (same (Skip 1)))

pub stays : (M : ℕ) (xs ys : List ℕ) (v : Standing) → stands M xs ≡ v → decided v ≡ true → stands M (xs ++ ys) ≡ v
stays M xs ys v e d = stable xs ys M (ap decided e ∙ d) ∙ e

-- the bounds of what stands at the head of a list: too few bytes are fewer than the room, and a decision has looked at what is there,
-- at no more than the room, and passes at least one byte and none that it did not look at
abbrev pub Bounds : ℕ → List ℕ → Standing → Type 0
Bounds M xs Wait = length xs < room M
Bounds M xs (Skip k) = (1 ≤ k) × (k ≤ 2) × (k ≤ length xs)
Bounds M xs (Hit e k p) = (p ≡ worth e) × (1 ≤ p) × (p ≤ k) × (k ≤ length xs) × (k ≤ room M) × (asks e ≡ false)

-- what holds of each thing that may stand there holds of what does, along the definition
pub there-any : (P : Standing → Type 0) (n : ℕ) (xs : List ℕ) (v : Standing) → (length xs < n → P Wait) → (n ≤ length xs → P v)
    → P (when_there n xs v)
there-any P n xs v w h = by-test (leb n (length xs)) refl
  where
    by-test : (t : Bool) → leb n (length xs) ≡ t → P (when_there n xs v)
    by-test true e = let k : n ≤ length xs = leb-true n (length xs) e in subst P (sym (there n xs v k)) (h k)
    by-test false e = let k : length xs < n = leb-false n (length xs) e in subst P (sym (not_there n xs v k)) (w k)

pub choice-any : (P : Standing → Type 0) (t : Bool) (a b : Standing) → (t ≡ true → P a) → (t ≡ false → P b) → P (cond t a b)
choice-any P true a b f g = f refl
choice-any P false a b f g = g refl

frame-bounds : (M l : ℕ) (xs : List ℕ) → l ≤ M → packet_length l ≤ length xs → Bounds M xs (judged_frame l xs)
unfolding judged_frame worth asks room
frame-bounds M l xs h k =
    choice-any (Bounds M xs) (ended l xs) _ _
    (λ _. choice-any (Bounds M xs) (summed l xs) _ _
    (λ _. (refl, omega arith, omega arith, k, omega arith, refl))
    (λ _. (refl, omega arith, omega arith, k, omega arith, refl)))
    (λ _. (refl, omega arith, omega arith, k, omega arith, refl))

pub bounds : (M : ℕ) (xs : List ℕ) → Bounds M xs (stands M xs)
unfolding stands started room worth asks
bounds M xs =
    there-any (Bounds M xs) 1 xs _ (λ w. omega arith)
    (λ one. choice-any (Bounds M xs) (eqb (get_or xs 0 0) 64) _ _
    (λ _. there-any (Bounds M xs) 2 xs _ (λ w. omega arith)
    (λ two. choice-any (Bounds M xs) (eqb (get_or xs 1 0) 64) _ _
    (λ _. there-any (Bounds M xs) 26 xs _ (λ w. omega arith)
    (λ head. choice-any (Bounds M xs) (leb (unit_length xs) M) _ _
    (λ e.
    let l : unit_length xs ≤ M = leb-true (unit_length xs) M e in
    there-any (Bounds M xs) (packet_length (unit_length xs)) xs _ (λ w. omega arith) (frame-bounds M (unit_length xs) xs l))
    (λ _. (refl, omega arith, omega arith, head, omega arith, refl))))
    (λ _. (omega arith, omega arith, two))))
    (λ _. (omega arith, omega arith, one)))

-- a decision looked at no more than is there
pub looked-there : (M : ℕ) (xs : List ℕ) → looked (stands M xs) ≤ length xs
looked-there M xs = by-case (stands M xs) (bounds M xs)
  where
    by-case : (v : Standing) → Bounds M xs v → looked v ≤ length xs
    by-case Wait b = omega arith
    by-case (Skip k) b = b.2
    by-case (Hit e k p) b = b.3

-- Early: on fewer bytes than the decision looked at the reading waits
pub early : (M n : ℕ) (xs : List ℕ) → n < looked (stands M xs) → stands M (take n xs) ≡ Wait
early M n xs h = by-case (stands M (take n xs)) refl
  where
    same-looked : decided (stands M (take n xs)) ≡ true → ⊥
    same-looked d =
        let kept : stands M xs ≡ stands M (take n xs) = ap (stands M) (sym (take-append-drop n xs)) ∙ stable (take n xs) (drop n xs) M d in
        let fewer : looked (stands M (take n xs)) ≤ n = omega (arith, looked-there M (take n xs), length-take n xs) in
        omega (arith, ap looked kept)

    by-case : (v : Standing) → stands M (take n xs) ≡ v → stands M (take n xs) ≡ Wait
    by-case Wait e = e
    by-case (Skip k) e = absurd (same-looked (ap decided e))
    by-case (Hit a k p) e = absurd (same-looked (ap decided e))
