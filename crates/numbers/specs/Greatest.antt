-- What a closure computes.
use Rattle.std.specs.Prelude.{◌≡◌, ℕ, ◌<◌}

-- Each call below n gives what f is there, where `gives i x` says that the call at i may give x.
abbrev pub Computes : (ℕ → ℕ → Type 0) → ℕ → (ℕ → ℕ) → Type 0
Computes gives n f = (i x : ℕ) → i < n → gives i x → x ≡ f i
