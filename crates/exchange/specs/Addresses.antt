-- When two addresses are equal: where their bytes are the same. Assumes nothing.
use Rattle.std.specs.Prelude.{◌≡◌, Bool, true}
use mathlib.Core.Path.{ap, ◌∙◌}
use Rattle.std.specs.Cmp.{IsPartialEquivalence, IsEquivalence, partial_equiv_from_equiv}
use Rattle.octets.specs.Searches.{same}
use Rattle.octets.proofs.Alike.{same-is, same_self}
use Rattle.octets.proofs.Flags.{both-or-none}
use Rattle.exchange.specs.declared.Address.{Address}

abbrev pub same_address : Address → Address → Bool
same_address a b = same a.bytes b.bytes

back : (a b : Address) → same_address a b ≡ true → same_address b a ≡ true
back a b e = ap (same b.bytes) (same-is a.bytes b.bytes e) ∙ same_self b.bytes

-- an equivalence, as the bytes' own
pub equal : IsEquivalence same_address
equal =
    record {
      refl = λ a. same_self a.bytes;
      symm = λ a b. both-or-none (same_address a b) (same_address b a) (back a b) (back b a);
      congr = λ a b c e. ap (λ l. same l c.bytes) (same-is a.bytes b.bytes e);
    }

pub partly_equal : IsPartialEquivalence same_address
partly_equal = partial_equiv_from_equiv equal
