-- The number of this release, as the file RELEASE has it. Assumes nothing.
use Rattle.std.specs.Prelude.{ℕ, List}
use Rattle.naming.specs.Names.{ascii}

abbrev pub release : List ℕ
release = ascii "1.8"
