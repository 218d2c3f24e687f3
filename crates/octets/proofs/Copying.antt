-- A loop that copies a row into another from a place on: the bytes before turn i are in their places and the rest is as it was.
-- Assumes nothing.
use Prim.Native.Nat.{ℕ, ◌+◌, ◌-◌, ◌≤◌, ◌<◌}
use native.Mathlib.Omega.{arith}
use mathlib.Core.Path.{◌≡◌, refl, sym, ap, ◌∙◌}
use mathlib.Core.List.{List}
use lib.ListN.{length, get_or, set, length-set}
use lib.Seq.{paste, paste-zero}
use Rattle.octets.specs.Parts.{put_at}
use Rattle.octets.proofs.Parts.{put-none, copy-on, copy-whole}

pub record Copied (o : List ℕ) (at : ℕ) (bytes now : List ℕ) (i : ℕ) : Type 0 where
  pub few : i ≤ length bytes
  pub room : at + length bytes ≤ length o
  pub long : length now ≡ length o
  pub so : now ≡ paste o at bytes i

module _ (o : List ℕ) (at : ℕ) (bytes : List ℕ) where
  pub none-copied : at + length bytes ≤ length o → Copied o at bytes o 0
  none-copied h = record { few = omega arith; room = h; long = refl; so = paste-zero o at bytes }

  module _ (now : List ℕ) (i : ℕ) (c : Copied o at bytes now i) where
    pub one-copied : i < length bytes → Copied o at bytes (set now (at + i) (get_or bytes i 0)) (i + 1)
    one-copied h =
        record {
          few = omega arith;
          room = c.room;
          long = length-set now (at + i) (get_or bytes i 0) ∙ c.long;
          so =
              ap (λ (l : List ℕ). set l (at + i) (get_or bytes i 0)) c.so
              ∙ copy-on o at bytes i (omega (arith, c.room)) h;
        }

    pub all-copied : length bytes ≤ i → now ≡ put_at o at bytes
    all-copied h = let all : i ≡ length bytes = omega (arith, c.few) in c.so ∙ copy-whole o at bytes i all c.room

  -- behind the end, or with too little room there, nothing is
  pub behind : length o < at → o ≡ put_at o at bytes
  behind h = sym (put-none o at bytes (omega arith))

  pub too_long : at ≤ length o → length o - at < length bytes → o ≡ put_at o at bytes
  too_long h l = sym (put-none o at bytes (omega arith))

  pub with-room : at ≤ length o → length bytes ≤ length o - at → Copied o at bytes o 0
  with-room h l = none-copied (omega arith)

pub ruleset copying = (with-room, one-copied, all-copied, behind, too_long)
