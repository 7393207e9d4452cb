-- The words that the generator gives, by its state.
use Rattle.std.proofs.Common.{◌≡◌, ℕ, ℤ, ◌+◌, false, refl, ap, sym, ◌∙◌, add-one}
use Rattle.nb_model.specs.declared.body.Body.{Body}
use Rattle.rand_core.specs.Stream.{Stream, next_u64}
use Rattle.rand_core.specs.Steps.{stream_of}
use Rattle.rand_xoshiro.specs.SplitMix64.{mix_u64, splitmix_steps}
use Rattle.nb_cli.specs.Make.{generator_state}

-- a word of the stream is one of the state, and so is what is left
next_u64_of : (state : ℕ) → next_u64 (stream_of splitmix_steps state) ≡ ((mix_u64 state).0, stream_of splitmix_steps (mix_u64 state).1)
unfolding next_u64 stream_of
next_u64_of state = refl

-- what a call gave at this state
pub word_given : {word : ℕ} {now before : Stream} (state : ℕ) → (word, now) ≡ next_u64 before → before ≡ stream_of splitmix_steps state
    → word ≡ (mix_u64 state).0
word_given state given at = ap (λ (p : ℕ × Stream). p.0) (given ∙ ap next_u64 at ∙ next_u64_of state)

-- and what it left
pub stream_left : {word : ℕ} {now before : Stream} (state : ℕ) → (word, now) ≡ next_u64 before → before ≡ stream_of splitmix_steps state
    → now ≡ stream_of splitmix_steps (mix_u64 state).1
stream_left state given at = ap (λ (p : ℕ × Stream). p.1) (given ∙ ap next_u64 at ∙ next_u64_of state)

-- the state behind one word more
state_next : (seed i j : ℕ) → j ≡ i + 1 → (mix_u64 (generator_state seed i)).1 ≡ generator_state seed j
state_next seed i j is = sym (ap (generator_state seed) (is ∙ add-one i))

-- the stream behind one word more
pub at_next : {stream : Stream} (seed i j : ℕ) → j ≡ i + 1 → stream ≡ stream_of splitmix_steps (mix_u64 (generator_state seed i)).1
    → stream ≡ stream_of splitmix_steps (generator_state seed j)
at_next seed i j is at = at ∙ ap (stream_of splitmix_steps) (state_next seed i j is)

-- Two bodies that aren't out are one where their numbers are.
pub same_body : {id id' mass mass' x x' y y' z z' : ℕ} {a a' b b' c c' : ℤ} → id ≡ id' → mass ≡ mass' → x ≡ x' → y ≡ y' → z ≡ z'
    → a ≡ a' → b ≡ b' → c ≡ c'
    → ◌≡◌ {A = Body} (record { id = id; mass = mass; out = false; at = record { x = x; y = y; z = z }; v = record { x = a; y = b; z = c } })
    (record { id = id'; mass = mass'; out = false; at = record { x = x'; y = y'; z = z' }; v = record { x = a'; y = b'; z = c' } })
same_body i m x y z a b c = cc
