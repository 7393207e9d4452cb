use Rattle.std.proofs.Common.{rules, ◌≡◌, ◌∙◌, ap, ℕ, ◌+◌, ◌<◌, List, [], ◌∷◌, ◌++◌, map, length, get_or, sym, Option, Some, None, subst}
use Rattle.std.proofs.lemmas.List.{get_or-map, length-map}
use Rattle.std.specs.Borrow.{Bor}
use Rattle.std.specs.Option.{option_map_or}
use Rattle.nb_format.specs.Digits.{number_of}
use Rattle.nb_cli.specs.Splitting.{numbers_in}
use Rattle.nb_cli.proofs.Values.{AreRead, read_more, not_read}
use Rattle.nb_cli.proofs.words.numbers.Goals as goal

pub returns-in_default-number_of-clause-refused : goal.returns-in_default-number_of-clause-refused
returns-in_default-number_of-clause-refused c =
    let given : c.args.words ≡ Some c.in-Some.words = search rules in
    let i = c.loop-word.word-index in
    let within : i < length c.in-Some.words.now = search rules in
    let among : i < length (map {A = Bor (List ℕ)} (λ v. v.now) c.in-Some.words.now) = rw length-map within in
    let here : get_or (map {A = Bor (List ℕ)} (λ v. v.now) c.in-Some.words.now) i [] ≡ c.as_bytes.result.now =
    get_or-map (λ (v : Bor (List ℕ)). v.now) c.in-Some.words.now i (record { ref_ptr = (0, 0); now = [] }) [] within ∙ sym c.as_bytes.ensures.value in
    let none : number_of c.as_bytes.result.now ≡ None = search rules in
    λ _. ap (λ (o : Option (Bor (List (Bor (List ℕ))))). numbers_in (option_map_or (λ w. map (λ v. v.now) w.now) o [])) given
    ∙ not_read (map (λ v. v.now) c.in-Some.words.now) i c.loop-word.numbers.items c.as_bytes.result.now c.loop-word.invariant among
    here none

pub loop-word-preserved : goal.loop-word-preserved
loop-word-preserved c =
    let i = c.loop-word.word-index in
    let within : i < length c.in-Some.words.now = search rules in
    let among : i < length (map {A = Bor (List ℕ)} (λ v. v.now) c.in-Some.words.now) = rw length-map within in
    let here : get_or (map {A = Bor (List ℕ)} (λ v. v.now) c.in-Some.words.now) i [] ≡ c.as_bytes.result.now =
    get_or-map (λ (v : Bor (List ℕ)). v.now) c.in-Some.words.now i (record { ref_ptr = (0, 0); now = [] }) [] within ∙ sym c.as_bytes.ensures.value in
    let some : number_of c.as_bytes.result.now ≡ Some c.in-Some-number_of.number = search rules in
    let pushed : c.loop-word.numbers.items ++ c.in-Some-number_of.number ∷ [] ≡ c.push.new.self.items = search rules in
    subst (λ (ns : List ℕ). AreRead (map (λ v. v.now) c.in-Some.words.now) (i + 1) ns) pushed
    (read_more (map (λ v. v.now) c.in-Some.words.now) i c.loop-word.numbers.items c.as_bytes.result.now c.in-Some-number_of.number c.loop-word.invariant among
    here some)
