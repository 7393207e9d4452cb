-- Which ticks a run has told of as done.
use Rattle.std.specs.Prelude.{◌≡◌, ◌≢◌, ℕ, ◌^◌, ◌<◌, ◌≤◌, ◌⊎◌, List, [], ◌∷◌, ◌++◌, length, get_or, All}
use Rattle.nb_format.specs.Lines.{tick_line}

-- the bytes are none, or end with a line feed
abbrev pub EndsLine : List ℕ → Type 0
EndsLine bytes = (bytes ≡ []) ⊎ ((before : List ℕ) × (bytes ≡ before ++ 10 ∷ []))

-- Among what was said stands the whole line of tick k.
pub record Acknowledges (said : List ℕ) (k : ℕ) : Type 0 where
  pub time : ℕ
  pub gone : ℕ
  pub before : List ℕ
  pub behind : List ℕ
  pub begins : EndsLine before
  pub tick : k < 2 ^ 64
  pub time_fits : time < 2 ^ 64
  pub gone_fits : gone < 2 ^ 64
  pub there : said ≡ before ++ (tick_line k time gone ++ behind)

-- no tick beyond this one was acknowledged
abbrev pub IsAcknowledgedUpTo : ℕ → List ℕ → Type 0
IsAcknowledgedUpTo k said = (j : ℕ) → Acknowledges said j → j ≤ k

-- a byte that stands in no line of a tick
pub record IsForeignByte (byte : ℕ) : Type 0 where
  pub nowhere : (k time gone : ℕ) → k < 2 ^ 64 → time < 2 ^ 64 → gone < 2 ^ 64 → All (λ b. b ≢ byte) (tick_line k time gone)

-- The line of a text whose line feed stands here has such a byte: between the two stands no other line feed.
pub record HasForeignByte (text : List ℕ) (end : ℕ) : Type 0 where
  pub place : ℕ
  pub before : place < end
  pub foreign : IsForeignByte (get_or text place 0)
  pub within : (i : ℕ) → place ≤ i → i < end → get_or text i 0 ≢ 10

-- Each line of a text, from the start or behind a line feed up to the next one, has a byte that stands in no line of a tick.
-- The bytes behind the last line feed may be any.
pub record IsOtherText (text : List ℕ) : Type 0 where
  pub each : (end : ℕ) → end < length text → get_or text end 0 ≡ 10 → HasForeignByte text end
