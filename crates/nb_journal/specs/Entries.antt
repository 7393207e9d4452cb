-- The entries of a journal, and which may come next.
use Rattle.std.specs.Prelude.{◌≡◌, ◌≢◌, ⊤, ℕ, ◌+◌, ◌-◌, ◌^◌, ◌<◌, ◌≤◌, nat_lt, if◌then◌else◌, List, [], ◌∷◌}
use Rattle.std.specs.Int.{abs_diff}
use Rattle.nb_model.specs.Limits.{most_ticks}
use Rattle.nb_journal.specs.declared.entry.Entry.{Entry}
use Rattle.nb_journal.specs.declared.entry.Entry.TheVariants.{Leg, Tick}

-- What the entries so far come to: the ticks done, the time, the target of the last leg, or the time at the start where
-- there is no leg, and how many bodies are out.
pub record Progress : Type 0 where
  pub ticks : ℕ
  pub time : ℕ
  pub target : ℕ
  pub gone : ℕ

-- the time after a tick
abbrev pub toward : ℕ → ℕ → ℕ
toward time target = if nat_lt time target then time + 1 else time - 1

abbrev pub progress_after : Entry → Progress → Progress
progress_after (Leg target) s = record s { target = target }
progress_after (Tick number gone) s =
    record { ticks = number; time = toward s.time s.target; target = s.target; gone = gone }

abbrev pub after_all : List Entry → Progress → Progress
after_all [] s = s
after_all (entry ∷ entries) s = after_all entries (progress_after entry s)

-- A leg begins where the one before it ended, and leads to another time. A run has no more ticks than `most_ticks`.
pub record IsNextLeg (s : Progress) (target : ℕ) : Type 0 where
  pub fits : target < 2 ^ 64
  pub ended : s.time ≡ s.target
  pub apart : target ≢ s.time
  pub limit : s.ticks + abs_diff s.time target ≤ most_ticks

-- A tick of the last leg. No body comes back.
pub record IsNextTick (count : ℕ) (s : Progress) (number gone : ℕ) : Type 0 where
  pub leg : s.time ≢ s.target
  pub next : number ≡ s.ticks + 1
  pub no_fewer : s.gone ≤ gone
  pub no_more : gone ≤ count

-- The entry is a lawful next one, for so many bodies.
abbrev pub IsNextEntry : ℕ → Progress → Entry → Type 0
IsNextEntry count s (Leg target) = IsNextLeg s target
IsNextEntry count s (Tick number gone) = IsNextTick count s number gone

-- each entry is a lawful next one after those before it
abbrev pub AreLawful : ℕ → Progress → List Entry → Type 0
AreLawful count s [] = ⊤
AreLawful count s (entry ∷ entries) = IsNextEntry count s entry × AreLawful count (progress_after entry s) entries
