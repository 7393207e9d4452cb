-- The command `make`: the parameters and the bodies that it makes of a seed, and how many.
use Rattle.std.specs.Prelude.{◌≡◌, ◌≢◌, ◌⊎◌, ⊤, ℕ, zero, suc, ℤ, pos, ◌+◌, ◌-◌, ◌*◌, ◌/◌, ◌%◌, ◌^◌, ◌-ℤ◌, max, false, List, [], ◌∷◌, ◌++◌}
use Rattle.rand_xoshiro.specs.SplitMix64.{mix_u64}
use Rattle.nb_host.specs.declared.host.Channel.TheVariants as channels
use Rattle.nb_host.specs.Crashes.{AgreesOutside}
use Rattle.nb_host.specs.Image.{Image}
use Rattle.nb_model.specs.declared.body.Body.{Body}
use Rattle.nb_model.specs.declared.edge.Edge.TheVariants.{Open}
use Rattle.nb_model.specs.declared.params.Params.{Params}
use Rattle.nb_format.specs.Lines.{made_line}
use Rattle.nb_format.specs.ParamsText.{text_without_edge}
use Rattle.nb_format.specs.Snapshot.{IsSnapshot, IsUnfinished}
use Rattle.nb_engine.specs.declared.refusal.Refusal.{Refusal}
use Rattle.nb_engine.specs.declared.refusal.Refusal.TheVariants as refusal
use Rattle.nb_engine.specs.Files.{params_file, init_file}
use Rattle.nb_engine.specs.Start.{Start}
use Rattle.nb_engine.specs.Steps.{SaidPrefixOf}

-- ---- what is made

-- the state of the generator, SplitMix64 (Steele, Lea and Flood 2014), behind so many words; at first it is the seed
abbrev pub generator_state : ℕ → ℕ → ℕ
generator_state seed zero = seed
generator_state seed (suc n) = (mix_u64 (generator_state seed n)).1

-- the word of this number, of 64 bits, counted from 0
abbrev pub word_at : ℕ → ℕ → ℕ
word_at seed n = (mix_u64 (generator_state seed n)).0

-- A body takes so many words.
abbrev pub words_a_body : ℕ
words_a_body = 7

-- the word of this number, from 0 to 6, of those of a body
abbrev pub word_of : ℕ → ℕ → ℕ → ℕ
word_of seed index word = word_at seed (words_a_body * index + word)

-- A coordinate lies within 2 ^ 25 box units of the middle of the box.
abbrev pub coordinate_of : ℕ → ℕ
coordinate_of word = 2 ^ 39 - 2 ^ 25 + word / 2 ^ 38

-- A velocity is from -2048 to 2047 on each axis, in box units a tick.
abbrev pub velocity_of : ℕ → ℤ
velocity_of word = pos (word / 2 ^ 52) -ℤ pos 2048

-- the body of this number, counted from 0
abbrev pub body_at : ℕ → ℕ → Body
body_at seed index = record {
  id = index + 1;
  mass = 1 + word_of seed index 0 % 1000;
  out = false;
  at = record {
    x = coordinate_of (word_of seed index 1);
    y = coordinate_of (word_of seed index 2);
    z = coordinate_of (word_of seed index 3);
  };
  v = record {
    x = velocity_of (word_of seed index 4);
    y = velocity_of (word_of seed index 5);
    z = velocity_of (word_of seed index 6);
  };
}

-- so many bodies
abbrev pub made_bodies : ℕ → ℕ → List Body
made_bodies seed zero = []
made_bodies seed (suc n) = made_bodies seed n ++ body_at seed n ∷ []

-- Their parameters: the constant of gravity is the greatest for which so many bodies are never too heavy, and the opening
-- angle is a half.
abbrev pub made_params : ℕ → Params
made_params count = record {
  grav = (2 ^ 60 - 1) / (1000 * max count 1);
  theta_num = 1;
  theta_den = 2;
  soft = 65536;
  leaf = 8;
  every = 10;
  edge = Open;
}

-- what a run of them begins with, at time 0
abbrev pub made_start : ℕ → ℕ → Start
made_start seed count = record { params = made_params count; bodies = made_bodies seed count; time = 0 }

-- The two files are those that are made: the six lines of the parameters, in order, and the snapshot of the bodies.
pub record HasMade (seed count : ℕ) (files : ℕ → List ℕ) : Type 0 where
  pub params : files params_file ≡ text_without_edge (made_params count)
  pub init : IsSnapshot (files init_file) (made_bodies seed count) 0

-- ---- when it can be done

-- `make` can be done: neither file is there, or they are empty.
pub record IsMakeReady (files : ℕ → List ℕ) : Type 0 where
  pub params : files params_file ≡ []
  pub init : files init_file ≡ []

-- Why it can't be: one of them holds something.
pub record IsMakeRefused (files : ℕ → List ℕ) (why : Refusal) : Type 0 where
  pub some : (files params_file ≢ []) ⊎ (files init_file ≢ [])
  pub named : why ≡ refusal.InitThere

-- a refusal that `make` gives, whatever the host tells
abbrev pub IsOfMake : Refusal → Type 0
IsOfMake refusal.InitThere = ⊤
IsOfMake refusal.Device = ⊤
IsOfMake refusal.NoMemory = ⊤
IsOfMake _ = ⊥

-- ---- what it does

-- The two files were made, and nothing else changed.
pub record IsMadeFrom (seed count : ℕ) (old new : Image) : Type 0 where
  pub can : IsMakeReady old.file
  pub made : HasMade seed count new.file
  pub others : AgreesOutside (params_file ∷ init_file ∷ []) old new

-- The snapshot is begun only behind the parameters, all of them.
abbrev pub ParamsComeFirst : ℕ → (ℕ → List ℕ) → Type 0
ParamsComeFirst count files = (files init_file ≡ []) ⊎ (files params_file ≡ text_without_edge (made_params count))

-- The two files may be in part, and nothing else changed. The snapshot is unfinished, or both are whole.
pub record IsPartlyMade (seed count : ℕ) (old new : Image) : Type 0 where
  pub can : IsMakeReady old.file
  pub first : ParamsComeFirst count new.file
  pub whole : IsUnfinished (new.file init_file) ⊎ HasMade seed count new.file
  pub others : AgreesOutside (params_file ∷ init_file ∷ []) old new

-- The same, whatever was said on Err.
pub record IsMaking (seed count : ℕ) (old new : Image) : Type 0 where
  pub can : IsMakeReady old.file
  pub first : ParamsComeFirst count new.file
  pub whole : IsUnfinished (new.file init_file) ⊎ HasMade seed count new.file
  pub others : (number : ℕ) → number ≢ params_file → number ≢ init_file → new.file number ≡ old.file number
  pub out : new.said channels.Out ≡ old.said channels.Out

-- What `make` may have changed at some moment, done or not: nothing, or the two files, where it can be done.
abbrev pub MakeLeads : ℕ → ℕ → Image → Image → Type 0
MakeLeads seed count old new = (new ≡ old) ⊎ IsPartlyMade seed count old new

-- How often it syncs, where it is done: behind the parameters, and twice each for the snapshot's begin and end.
abbrev pub make_syncs : ℕ
make_syncs = 5

-- ---- the command, with its line

-- `make` is done: the two files were made, its line was said, and nothing else changed.
pub record IsMakeDone (seed count : ℕ) (old new : Image) : Type 0 where
  pub can : IsMakeReady old.file
  pub made : HasMade seed count new.file
  pub others : (number : ℕ) → number ≢ params_file → number ≢ init_file → new.file number ≡ old.file number
  pub out : new.said channels.Out ≡ old.said channels.Out ++ made_line count
  pub err : new.said channels.Err ≡ old.said channels.Err

-- What the command may have changed at some moment, done or not: the two files, and a front of its line on Out, of which
-- nothing is said before both are whole.
pub record IsMakePartlyDone (seed count : ℕ) (old new : Image) : Type 0 where
  pub can : IsMakeReady old.file
  pub first : ParamsComeFirst count new.file
  pub whole : IsUnfinished (new.file init_file) ⊎ HasMade seed count new.file
  pub others : (number : ℕ) → number ≢ params_file → number ≢ init_file → new.file number ≡ old.file number
  pub out : SaidPrefixOf (made_line count) (old.said channels.Out) (new.said channels.Out)
  pub said_last : (new.said channels.Out ≡ old.said channels.Out) ⊎ HasMade seed count new.file
