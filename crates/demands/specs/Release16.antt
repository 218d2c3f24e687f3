-- How release 1.6 added up (document 02, Q-5: "A sum that drops at every byte hides it"). Assumes nothing.
use Rattle.std.specs.Prelude.{ℕ, ◌+◌, ◌%◌, List, [], ◌∷◌}

-- each byte added to what was kept of those before, and what is above eight bits dropped at once
unfoldable pub kept_from : ℕ → List ℕ → ℕ
kept_from kept [] = kept
kept_from kept (b ∷ bs) = kept_from ((kept + b) % 256) bs

unfoldable pub kept_in16 : List ℕ → ℕ
kept_in16 s = kept_from 0 s
