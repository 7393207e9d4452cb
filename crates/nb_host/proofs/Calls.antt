-- What the trait says of a call of a host in memory, from what the call did.
use Rattle.std.proofs.Common.{◌≡◌, ◌≢◌, ℕ, ◌≤◌, List, OnOk, OnErr, true, false, Result, Ok, Err, is_ok, refl, sym, ap, subst, ◌∙◌, arith, rules}
use Rattle.std.proofs.lemmas.Grind.{common_steps}
use Rattle.nb_host.specs.Counts.{next_count}
use Rattle.nb_host.specs.Faults.{CountsRefusedSay}
use Rattle.nb_host.specs.Image.{Image, SaysPart}
use Rattle.nb_host.specs.declared.host.HostError.{HostError}
use Rattle.nb_host.specs.declared.host.Channel.{Channel}

-- an image that stays is a say of none of the bytes
pub says_nothing : (channel : Channel) (bytes : List ℕ) (old new : Image) → new ≡ old
    → SaysPart channel bytes old new
says_nothing channel bytes old new same =
    subst (λ (image : Image). SaysPart channel bytes old image) (sym same) (
      0,
      omega arith,
      record { said = grind (arith, common_steps); others = λ other spared. refl; files = refl },
    )

pub counts_no_refusal : {T : Type 0} (channel : Channel) (before now : Channel → ℕ)
    (result : Result T HostError) → is_ok result ≡ true → now ≡ before
    → CountsRefusedSay channel before now result
counts_no_refusal channel before now (Ok x) ok same = record {
  no_less = omega (arith, ap (λ (counts : Channel → ℕ). counts channel) same);
  rose = λ err. absurd (search rules);
  spared = λ _. ap (λ (counts : Channel → ℕ). counts channel) same;
  others = λ other spared. ap (λ (counts : Channel → ℕ). counts other) same;
}
counts_no_refusal channel before now (Err error) ok same = (cc)

pub counts_refusal : {T : Type 0} (channel : Channel) (before middle now : Channel → ℕ)
    (result : Result T HostError) → is_ok result ≡ false → middle ≡ before
    → middle channel ≤ now channel → now channel ≡ next_count (middle channel)
    → ((other : Channel) → other ≢ channel → now other ≡ middle other)
    → CountsRefusedSay channel before now result
counts_refusal channel before middle now (Ok x) refused same no_less count others = (cc)
counts_refusal channel before middle now (Err error) refused same no_less count others =
    let here : middle channel ≡ before channel = ap (λ (counts : Channel → ℕ). counts channel) same in
    record {
      no_less = omega arith;
      rose = λ err. omega arith;
      spared = λ ok. absurd (search rules);
      others = λ other spared. others other spared ∙ ap (λ (counts : Channel → ℕ). counts other) same;
    }

pub counts_refusal_once : {T : Type 0} (channel : Channel) (before middle now : Channel → ℕ)
    (result : Result T HostError) → middle ≡ before → now channel ≡ next_count (middle channel)
    → OnErr result (now channel ≡ next_count (before channel))
counts_refusal_once channel before middle now (Ok x) same count = tt
counts_refusal_once channel before middle now (Err error) same count =
    count ∙ ap (λ (counts : Channel → ℕ). next_count (counts channel)) same

-- what holds, holds of each answer
pub on_ok_always : {T E P : Type 0} (result : Result T E) → P → OnOk result P
on_ok_always (Ok x) holds = holds
on_ok_always (Err error) holds = tt
