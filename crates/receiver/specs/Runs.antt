-- Words that the receiver's own steps speak in: what is found some way ahead, and what is found where nothing is skipped but the byte
-- that makes NOISE. Assumes nothing.
use Rattle.std.specs.Prelude.{ℕ, ◌+◌, Bool, ◌&&◌, List, eqb, ltb}
use Rattle.reading.specs.Events.{Standing, Step}
use Rattle.reading.specs.Events.Standing.{Wait, Skip, Hit}
use Rattle.reading.specs.Finding.{more, noise, hit}
use Rattle.rows.specs.Runs.{starts_other}

-- the last of the held bytes is skipped by what follows it, before the count is full
unfoldable pub crossing : ℕ → List ℕ → ℕ → Bool
crossing left b count = eqb left 1 && ltb count 65534 && starts_other b

-- what is found so many bytes further on
unfoldable pub ahead : ℕ → Step → Step
ahead n f =
    record {
      event = f.event;
      carried = f.carried;
      at = n + f.at;
      looked = n + f.looked;
      next = n + f.next;
      count = f.count;
    }

-- what is found where a skip, if there is one, fills the count
unfoldable pub settled : Standing → ℕ → ℕ → Step
settled Wait s n = more s n
settled (Skip k) s n = noise k
settled (Hit e k p) s n = hit e s k p
