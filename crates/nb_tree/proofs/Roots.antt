-- The root cell, which has all bodies of a front.
use Rattle.std.proofs.Common.{◌≡◌, Bool, true, false, not, ℕ, ◌≤◌, List, [], ◌∷◌, ◌++◌, length, Some, None, inl, inr, refl, sym, ap, ◌∙◌, arith}
use Rattle.std.specs.Prelude.{◌≢◌, Option, is_some, slice_get}
use Rattle.std.proofs.lemmas.Bool.{cases_lt}
use Rattle.nb_model.specs.declared.body.At.{At}
use Rattle.nb_model.specs.declared.body.Body.{Body}
use Rattle.nb_model.specs.declared.params.Params.{Params}
use Rattle.nb_key.specs.Morton.{key_at}
use Rattle.nb_key.proofs.Paths.{key_is}
use Rattle.nb_record.specs.Cells.{first_body, in_cell}
use Rattle.nb_record.proofs.Callers.{in_root, range_within}
use Rattle.nb_tree.specs.Passes.{LiesIn, IsAt, body_ahead, put_below, kid, tree_cell}
use Rattle.nb_tree.specs.declared.reader.Ahead.{Ahead}
use Rattle.nb_tree.specs.declared.reader.Reader.{Reader}
use Rattle.nb_tree.proofs.Octants.{AreSorted, IsNext, next_holds, some_length}
use Rattle.nb_tree.proofs.Reading.{kid_none, kid_some, put_few}

root_key : (p : At) → key_at 0 p ≡ 1
root_key p = let is = key_is 0 p (omega arith) in let least = is.least in let below = is.below in omega arith

pub is_some_other : (ahead : Option Ahead) {none : Bool} → is_some ahead ≡ not none → none ≡ false → ahead ≢ None
is_some_other ahead some other is =
    let here : is_some ahead ≡ true = some ∙ ap not other in
    let there : is_some ahead ≡ false = ap is_some is in
    absurd (let both : false ≡ true = sym there ∙ here in cc)

some_of : (ahead : Option Ahead) → ahead ≢ None → (n : Ahead) × (ahead ≡ Some n)
some_of None other = absurd (other refl)
some_of (Some n) other = (n, refl)

pub lies_in_root : (r : Reader) → r.ahead ≢ None → LiesIn 0 1 r
lies_in_root r some = let next = some_of r.ahead some in record { next = next.0; there = next.1; lies = root_key next.0.body.at }

pub root_all : (front : List Body) → in_cell 0 1 front ≡ front
root_all front = in_root front

pub empty_front : (front : List Body) (r : Reader) → IsAt front r → r.ahead ≡ None → r.taken ≡ 0 → front ≡ []
empty_front [] r at none first = refl
empty_front (b ∷ bs) r at none first =
    let nothing : None ≡ slice_get (b ∷ bs) 0 = ap body_ahead (sym none) ∙ at ∙ ap (slice_get (b ∷ bs)) first in
    absurd (cc)

pub empty_put : (params : Params) (front : List Body) → front ≡ [] → put_below params front 21 1 ++ kid params front 0 1 ≡ []
empty_put params front empty =
    let none : length (in_cell 0 1 front) ≡ 0 = ap length (in_root front ∙ empty) in
    ap (λ l. l ++ kid params front 0 1) (put_few params front 21 1 (omega arith)) ∙ kid_none params front 0 1 none

pub root_first : (front : List Body) → AreSorted front → first_body front (in_cell 0 1 front) ≡ 0
root_first front are = elim (cases_lt 0 (length front)) [
  | inl some ↦
      let long : length (in_cell 0 1 front) ≡ length front = ap length (in_root front) in
      let within = range_within 0 1 front (record { deepest = omega arith; least = omega arith; below = omega arith }) are.inside
      (some_length (in_cell 0 1 front) (omega arith)) in
      omega arith
  | inr none ↦ empty_first front none
] where
  empty_first : (bs : List Body) → length bs ≤ 0 → first_body bs (in_cell 0 1 bs) ≡ 0
  empty_first [] few = refl
  empty_first (b ∷ bs) few = absurd (omega arith)

pub root_kid : (params : Params) (front : List Body) → AreSorted front → (taken : ℕ) → IsNext 0 1 front taken
    → kid params front 0 1 ≡ tree_cell params front 0 1 ∷ []
root_kid params front are taken next = kid_some params front 0 1 (next_holds 0 1 taken front next)
