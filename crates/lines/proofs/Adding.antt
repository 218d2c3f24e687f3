-- Bytes added to a line one after another are added at once. Assumes nothing.
use Prim.Native.Nat.{ℕ}
use mathlib.Core.List.{List, ◌++◌, append_assoc}
use mathlib.Core.Path.{◌≡◌, ap, ◌∙◌}

pub added_then : (o p q x y : List ℕ) → p ≡ o ++ x → q ≡ p ++ y → q ≡ o ++ (x ++ y)
added_then o p q x y e f = f ∙ ap (λ (l : List ℕ). l ++ y) e ∙ append_assoc o x y

pub joined : (x y z : List ℕ) → (x ++ y) ++ z ≡ x ++ (y ++ z)
joined x y z = append_assoc x y z
