-- Which of two holds, where it can be told.
use Rattle.std.proofs.Common.{◌≡◌, ℕ, ◌+◌, ◌^◌, ◌<◌, ◌≤◌, ◌⊎◌, inl, inr, List, [], ◌∷◌, arith, refl}
use Rattle.std.specs.Int.{abs_diff}
use Rattle.std.proofs.lemmas.Bool.{cases_eq, cases_lt}
use Rattle.nb_model.specs.declared.edge.Edge.{Edge}
use Rattle.nb_model.specs.declared.edge.Edge.TheVariants.{Open, Wrap}
use Rattle.nb_model.specs.declared.params.Params.{Params}
use Rattle.nb_model.specs.Valid.{AreInRange}
use Rattle.nb_journal.specs.declared.entry.Entry.{Entry}
use Rattle.nb_journal.specs.declared.entry.Entry.TheVariants.{Leg, Tick}
use Rattle.nb_journal.specs.declared.form.Heading.{Heading}
use Rattle.nb_journal.specs.Counters.{log_under}
use Rattle.nb_journal.specs.Entries.{Progress, IsNextEntry}
use Rattle.nb_journal.specs.Form.{IsLawful}

abbrev pub Decided : Type 0 → Type 0
Decided P = P ⊎ (P → ⊥)

pub both : {P Q : Type 0} → Decided P → Decided Q → Decided (P × Q)
both (inr none) second = inr (λ two. none two.0)
both (inl one) (inl two) = inl (one, two)
both (inl one) (inr none) = inr (λ two. none two.1)

pub one_of : {P Q : Type 0} → Decided P → Decided Q → Decided (P ⊎ Q)
one_of (inl one) second = inl (inl one)
one_of (inr none) (inl two) = inl (inr two)
one_of (inr none) (inr never) = inr (λ either. elim either [ inl one ↦ none one | inr two ↦ never two ])

pub no : {P : Type 0} → Decided P → Decided (P → ⊥)
no (inl one) = inr (λ none. none one)
no (inr none) = inl none

pub alike : {P Q : Type 0} → (P → Q) → (Q → P) → Decided P → Decided Q
alike there back (inl one) = inl (there one)
alike there back (inr none) = inr (λ one. none (back one))

pub less : (a b : ℕ) → Decided (a < b)
less a b = elim (cases_lt a b) [ inl below ↦ inl below | inr past ↦ inr (λ below. absurd (omega arith)) ]

pub at_most : (a b : ℕ) → Decided (a ≤ b)
at_most a b = elim (cases_lt b a) [ inl past ↦ inr (λ within. absurd (omega arith)) | inr within ↦ inl within ]

pub equal : (a b : ℕ) → Decided (a ≡ b)
equal a b = cases_eq a b

pub equal_lists : (a b : List ℕ) → Decided (a ≡ b)
equal_lists [] [] = inl refl
equal_lists [] (y ∷ b) = inr (λ same. cc)
equal_lists (x ∷ a) [] = inr (λ same. cc)
equal_lists (x ∷ a) (y ∷ b) =
    alike (λ (same : (x ≡ y) × (a ≡ b)). let one = same.0 in let rest = same.1 in cc)
    (λ (same : x ∷ a ≡ y ∷ b). let one : x ≡ y = cc in let rest : a ≡ b = cc in (one, rest))
    (both (equal x y) (equal_lists a b))

is_open : (edge : Edge) → Decided (edge ≡ Open)
is_open Open = inl refl
is_open Wrap = inr (λ same. cc)

pub in_range : (params : Params) → Decided (AreInRange params)
in_range params =
    alike (λ parts. record {
      grav = parts.0;
      theta_num = parts.1.0;
      some_theta_den = parts.1.1.0;
      theta_den = parts.1.1.1.0;
      some_soft = parts.1.1.1.1.0;
      soft = parts.1.1.1.1.1.0;
      some_leaf = parts.1.1.1.1.1.1.0;
      leaf = parts.1.1.1.1.1.1.1.0;
      some_every = parts.1.1.1.1.1.1.1.1.0;
      every = parts.1.1.1.1.1.1.1.1.1;
    })
    (λ range. (
      range.grav,
      (
        range.theta_num,
        (
          range.some_theta_den,
          (
            range.theta_den,
            (
              range.some_soft,
              (
                range.soft,
                (
                  range.some_leaf,
                  (
                    range.leaf,
                    (
                      range.some_every,
                      range.every,
                    ),
                  ),
                ),
              ),
            ),
          ),
        ),
      ),
    )
    )
    (both (less params.grav (2 ^ 60))
    (both (at_most params.theta_num 32768)
    (both (at_most 1 params.theta_den)
    (both (at_most params.theta_den 32768)
    (both (at_most 1 params.soft)
    (both (less params.soft (2 ^ 40))
    (both (at_most 1 params.leaf)
    (both (at_most params.leaf 32)
    (both (at_most 1 params.every)
    (at_most params.every (2 ^ 40)))))))))))

-- a log without entries
pub lawful_heading : (heading : Heading) → Decided (IsLawful (log_under heading))
lawful_heading heading =
    alike (λ parts. record {
      version = parts.0;
      params = parts.1.0;
      count = parts.1.1.0;
      time = parts.1.1.1.0;
      gone = parts.1.1.1.1;
      entries = tt;
    })
    (λ lawful. (lawful.version, (lawful.params, (lawful.count, (lawful.time, lawful.gone)))))
    (both (one_of (both (equal heading.version 1) (is_open heading.params.edge)) (equal heading.version 2))
    (both (in_range heading.params)
    (both (at_most heading.count (2 ^ 24))
    (both (less heading.time (2 ^ 64)) (at_most heading.gone heading.count)))))

pub next_one : (count : ℕ) (s : Progress) (entry : Entry) → Decided (IsNextEntry count s entry)
next_one count s (Leg target) =
    alike (λ parts. record { fits = parts.0; ended = parts.1.0; apart = parts.1.1.0; limit = parts.1.1.1 })
    (λ next. (next.fits, (next.ended, (next.apart, next.limit))))
    (both (less target (2 ^ 64))
    (both (equal s.time s.target)
    (both (no (equal target s.time)) (at_most (s.ticks + abs_diff s.time target) (2 ^ 40)))))
next_one count s (Tick number gone) =
    alike (λ parts. record { leg = parts.0; next = parts.1.0; no_fewer = parts.1.1.0; no_more = parts.1.1.1 })
    (λ next. (next.leg, (next.next, (next.no_fewer, next.no_more))))
    (both (no (equal s.time s.target))
    (both (equal number (s.ticks + 1)) (both (at_most s.gone gone) (at_most gone count))))
