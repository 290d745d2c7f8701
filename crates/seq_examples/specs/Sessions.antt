-- What a registry has after a session is ended, or all that lasted no longer.
use Rattle.std.specs.Prelude.{◌≡◌, ◌<◌, ℕ, List, None}
use Rattle.std.specs.List.{All}
use Rattle.std.specs.Str.{bytes_eq}
use Rattle.papaya_seq.specs.Pairs.{found_by}
use Rattle.seq_examples.specs.declared.session_registry.Session.{Session}

-- no session has this token
abbrev pub IsGone : List ℕ → List (List ℕ × Session) → Type 0
IsGone token pairs = found_by (bytes_eq token) pairs ≡ None

-- each of these sessions lasts past the moment
abbrev pub AllLast : ℕ → List (List ℕ × Session) → Type 0
AllLast now pairs = All (λ x. now < x.1.until) pairs
