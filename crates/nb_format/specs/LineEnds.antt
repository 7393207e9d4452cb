-- Where the line end of a said line stands.
use Rattle.std.specs.Prelude.{◌≡◌, ◌≢◌, ℕ, List, [], ◌∷◌, ◌++◌, All}

-- A text is one line: it has one line end, which is its last byte.
abbrev pub IsOneLine : List ℕ → Type 0
IsOneLine text = (front : List ℕ) × (text ≡ front ++ 10 ∷ []) × All (λ byte. byte ≢ 10) front
