-- A header is read from the first 27 bytes alone, and zeros behind the end read as what is missing. Assumes nothing.
use Prim.Native.Nat.{ℕ, zero, suc, ◌+◌, ◌≤◌, ◌<◌}
use native.Mathlib.Omega.{arith}
use mathlib.Core.List.{List, [], ◌∷◌, ◌++◌}
use mathlib.Core.Path.{◌≡◌, refl, sym, ap, ◌∙◌}
use lib.Dec.{lit<}
use lib.ListN.{length, get_or, take, drop, replicate}
use lib.Seq.{get_or-take, get_or-drop}
use Rattle.label.specs.Times.{label_of}
use Rattle.label.proofs.Laws.{label_same}
use Rattle.octets.specs.Numbers.{low_first}
use Rattle.octets.specs.Parts.{one_by_one}
use Rattle.octets.proofs.Numbers.{low-two}
use Rattle.packet.specs.declared.Header.{Header}
use Rattle.packet.specs.Headers.{header_of}

header-same : (p q : List ℕ) → ((i : ℕ) → i < 27 → get_or p i 0 ≡ get_or q i 0) → header_of p ≡ header_of q
header-same p q h =
    λ i.
    record {
      serial = serial i;
      version = h 5 (lit< tt) i;
      label = label i;
      source = six 12 (omega arith) i;
      destination = six 18 (omega arith) i;
      command = h 26 (lit< tt) i;
    }
  where
    serial : low_first (take 2 (drop 2 p)) ≡ low_first (take 2 (drop 2 q))
    serial = omega (arith, low-two p 2, low-two q 2, h 2 (lit< tt), h 3 (lit< tt))

    label : label_of (drop 6 p) ≡ label_of (drop 6 q)
    label = label_same (drop 6 p) (drop 6 q) (λ i l. get_or-drop 6 p i 0 ∙ h (6 + i) (omega arith) ∙ sym (get_or-drop 6 q i 0))

    six : (at : ℕ) → at ≤ 18 → one_by_one p at 6 ≡ one_by_one q at 6
    six at l =
        λ i.
        h at (omega arith) i
        ∷ h (suc at) (omega arith) i
        ∷ h (suc (suc at)) (omega arith) i
        ∷ h (suc (suc (suc at))) (omega arith) i
        ∷ h (suc (suc (suc (suc at)))) (omega arith) i
        ∷ h (suc (suc (suc (suc (suc at))))) (omega arith) i
        ∷ []

-- the header h was read from the first 27 bytes x
pub header-front : (p x : List ℕ) (h : Header) → x ≡ take 27 p → h ≡ header_of x → h ≡ header_of p
header-front p x h e q = q ∙ ap header_of e ∙ header-same (take 27 p) p (λ i l. get_or-take 27 p i 0 l)

zeros : (n i : ℕ) → get_or {A = ℕ} (replicate n 0) i 0 ≡ 0
zeros zero zero = refl
zeros zero (suc i) = refl
zeros (suc n) zero = refl
zeros (suc n) (suc i) = zeros n i

behind : (p z : List ℕ) (i : ℕ) → ((k : ℕ) → get_or z k 0 ≡ 0) → get_or (p ++ z) i 0 ≡ get_or p i 0
behind [] z zero h = h 0
behind [] z (suc i) h = h (suc i)
behind (b ∷ p) z zero h = refl
behind (b ∷ p) z (suc i) h = behind p z i h

-- a short packet p was put into the front of 27 zeros, and the header h read from there
pub header-short : (p x : List ℕ) (h : Header) → x ≡ p → h ≡ header_of (x ++ drop (length p) (replicate 27 0)) → h ≡ header_of p
header-short p x h b e =
    let zs : List ℕ = drop (length p) (replicate 27 0) in
    e
    ∙ ap (λ (y : List ℕ). header_of (y ++ zs)) b
    ∙ header-same (p ++ zs) p (λ i m. behind p zs i (λ k. get_or-drop (length p) (replicate 27 0) k 0 ∙ zeros 27 (length p + k)))
