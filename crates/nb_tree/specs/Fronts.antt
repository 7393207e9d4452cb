-- What a file of bodies gives a tree: its first bodies, as far as they are in Morton order and in the box.
use Rattle.std.specs.Prelude.{◌≡◌, ℕ, ◌-◌, ◌<◌, ◌≤◌, true, false, List, length, All}
use Rattle.nb_model.specs.declared.body.Body.{Body}
use Rattle.nb_record.specs.Records.{body_of}
use Rattle.nb_record.specs.Order.{by_key, precedes, record_of}
use Rattle.nb_order.specs.Files.{HasBody}
use Rattle.nb_order.specs.Indexes.{HasFirst}

-- Body j stands in the file, and the one before it, if there is one, precedes it in Morton order.
pub record IsInOrder (file : List ℕ) (j : ℕ) : Type 0 where
  pub has : HasBody file j
  pub after : 0 < j → precedes by_key (body_of (record_of file (j - 1))) (body_of (record_of file j)) ≡ true

-- These are the unescaped bodies of a file of `count` bodies: its first ones, each in order and in the box. They are all,
-- or the next one isn't in order or has left the box.
pub record IsFront (file : List ℕ) (count : ℕ) (bodies : List Body) : Type 0 where
  pub first : HasFirst file bodies
  pub order : (j : ℕ) → j < length bodies → IsInOrder file j
  pub inside : All (λ b. b.out ≡ false) bodies
  pub most : length bodies ≤ count
  pub ends : length bodies < count → IsInOrder file (length bodies) → (body_of (record_of file (length bodies))).out ≡ true
